use Rattle.std.proofs.Common.{arith}
use Rattle.std.proofs.lemmas.Grind.{common_steps}
use Rattle.cross_crew.proofs.Steps.{led_more}
use Rattle.cross_crew.proofs.board.Board.give.Goals as goal

pub invariant_of-self-in-Ok : goal.invariant_of-self-in-Ok
invariant_of-self-in-Ok g c = record {
  folded = led_more g.M.Machine.step g.B.Origin.first _ _ _ _ _ (grind (arith, common_steps)) c.args.self.now.folded c.in-Ok.ensures.made.1;
}
