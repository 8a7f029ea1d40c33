use Rattle.std.proofs.lemmas.Result.{err_from_is_err_and}
use Rattle.std.proofs.Common.{◌≡◌, ℕ, ◌+◌, suc, ◌∙◌, arith, subst}
use Rattle.progress_board.specs.Rotation.{up_to, GoesOn}
use Rattle.progress_board.proofs.Rotation.{up_to_front, goes_more}
use Rattle.lone_crew.proofs.Making.{looked_goes}
use Rattle.lone_crew.proofs.lone.round.Goals as goal

pub returns-in_err-look-clause-stopped : goal.returns-in_err-look-clause-stopped
returns-in_err-look-clause-stopped g c =
    let same = c.in_err-look.ensures.same in
    let (rest, split) = up_to_front c.loop-actor.actor c.args.actors (omega arith) in
    let p = err_from_is_err_and c.from_residual.result c.from_residual.ensures.1 in
    rw (p.1, same.0, same.1) (record { passed = up_to c.loop-actor.actor; left = rest; split = split; goes = c.loop-actor.invariant.goes })

pub loop-actor-preserved : goal.loop-actor-preserved
loop-actor-preserved g c = record {
  goes =
      let next : suc c.loop-actor.actor ≡ c.loop-actor.actor + 1 = omega arith in
      let looked = looked_goes g.M.Machine.step _ _ _ _ _ _ c.in_ok-look.ensures.looked in
      let further = goes_more g.M.Machine.step _ _ _ _ _ _ _ _ c.loop-actor.invariant.goes looked in
      subst (λ (n : ℕ). GoesOn g.M.Machine.step c.args.machine.now c.args.history.now.items (up_to n) c.look.new.machine c.look.new.history.items) next further;
  kept = c.in_ok-look.ensures.kept ∙ c.loop-actor.invariant.kept;
  capacity = omega arith;
}
