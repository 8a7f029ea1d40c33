use Rattle.std.proofs.lemmas.Result.{err_from_is_err_and}
use Rattle.std.proofs.Common.{◌∙◌, sym, subst, take, drop, slice_index_or, arith}
use Rattle.std.proofs.lemmas.List.{take_more, take-append-drop}
use Rattle.lone_crew.specs.Turns.{Looked}
use Rattle.lone_crew.proofs.Making.{makes_goes, makes_more}
use Rattle.lone_crew.proofs.strict.make_steps.Goals as goal

pub returns-in_err-follow_entry-clause-refused : goal.returns-in_err-follow_entry-clause-refused
returns-in_err-follow_entry-clause-refused g c =
    let same = c.in_err-follow_entry.ensures.same in
    let k = c.loop-number.number in
    let steps = c.args.steps.now in
    let p = err_from_is_err_and c.from_residual.result c.from_residual.ensures.1 in
    rw (p.1, p.2, same.0, same.1) (record { passed = take k steps; left = drop k steps; split = sym (take-append-drop k steps); goes = makes_goes g.M.Machine.step _ _ _ _ _ c.loop-number.invariant.made })

pub loop-number-preserved : goal.loop-number-preserved
loop-number-preserved g c =
    let steps = c.args.steps.now in
    let n = c.loop-number.number in
    let looked = subst (Looked g.M.Machine.step c.loop-number.machine c.loop-number.history.items (slice_index_or steps n 0) c.follow_entry.new.machine c.follow_entry.new.history.items) c.if-not-branch.false c.in_ok-follow_entry.ensures.looked in
    record {
      made = rw (take_more steps n 0 (omega arith)) (makes_more g.M.Machine.step _ _ _ _ _ _ _ _ c.loop-number.invariant.made looked);
      kept = c.in_ok-follow_entry.ensures.kept ∙ c.loop-number.invariant.kept;
      capacity = omega arith;
    }
