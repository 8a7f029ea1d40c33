use Rattle.std.proofs.Common.{arith}
use Rattle.std.proofs.lemmas.Grind.{common_steps}
use Rattle.nest_gen.proofs.Left.{drawn_on, state_on}
use Rattle.nest_gen.proofs.draws.Draws.take.Goals as goal

pub loop-turn-preserved : goal.loop-turn-preserved
loop-turn-preserved c = record {
  draws = drawn_on c.loop-turn.list.items c.push.new.self.items _ c.args.modulus _ _ c.next.result _ _ c.loop-turn-test.true (grind (arith, common_steps)) c.next.ensures.state c.next.ensures.draw c.loop-turn.invariant.draws;
  state = state_on _ _ _ _ _ c.loop-turn-test.true c.next.ensures.state c.loop-turn.invariant.state;
}
