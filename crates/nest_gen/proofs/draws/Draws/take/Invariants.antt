use Rattle.std.proofs.Common.{◌≡◌, ◌-◌, ◌++◌, ◌%◌, pos, map}
use Rattle.nest_gen.specs.Draws.{draws_from, state_behind}
use Rattle.nest_gen.proofs.draws.Draws.take.Given as goal

-- what is drawn and the draws that are left are all draws
abbrev pub invariant-loop-turn : goal.invariant-loop-turn
invariant-loop-turn l = record {
  draws : l.list.items ++ map (λ draw. pos (draw % l.modulus)) (draws_from l.self.state (l.count - l._turn)) ≡ map (λ draw. pos (draw % l.modulus)) (draws_from l.fn.self.state l.count);
  state : state_behind l.self.state (l.count - l._turn) ≡ state_behind l.fn.self.state l.count;
}
