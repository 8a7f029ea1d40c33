use Rattle.std.proofs.lemmas.Result.{err_from_is_err_and}
use Rattle.std.proofs.Common.{◌∙◌, sym, take, drop, arith}
use Rattle.std.proofs.lemmas.List.{take_more, take-append-drop}
use Rattle.progress_board.proofs.Rotation.{goes_more}
use Rattle.lone_crew.proofs.Making.{looked_goes}
use Rattle.lone_crew.proofs.lone.follow.Goals as goal

pub returns-in_err-follow_entry-clause-stopped : goal.returns-in_err-follow_entry-clause-stopped
returns-in_err-follow_entry-clause-stopped g c =
    let same = c.in_err-follow_entry.ensures.same in
    let k = c.loop-entry.entry-index in
    let schedule = c.args.schedule.now in
    let p = err_from_is_err_and c.from_residual.result c.from_residual.ensures.1 in
    rw (p.1, same.0, same.1) (record { passed = take k schedule; left = drop k schedule; split = sym (take-append-drop k schedule); goes = c.loop-entry.invariant.goes })

pub loop-entry-preserved : goal.loop-entry-preserved
loop-entry-preserved g c = record {
  goes =
      let looked = looked_goes g.M.Machine.step _ _ _ _ _ _ c.in_ok-follow_entry.ensures.looked in
      let further = goes_more g.M.Machine.step _ _ _ _ _ _ _ _ c.loop-entry.invariant.goes looked in
      rw (take_more c.args.schedule.now c.loop-entry.entry-index 0 (omega arith)) further;
  kept = c.in_ok-follow_entry.ensures.kept ∙ c.loop-entry.invariant.kept;
  capacity = omega arith;
}
