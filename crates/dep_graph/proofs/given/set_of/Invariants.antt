use Rattle.std.proofs.Common.{◌≡◌, ◌||◌, ℕ, drop}
use Rattle.nest_syntax.specs.Among.{is_among}
use Rattle.dep_graph.proofs.given.set_of.Given as goal

abbrev pub invariant-loop-name : goal.invariant-loop-name
invariant-loop-name l = (other : ℕ) → (is_among l.found.keys other || is_among (drop l.name-index l.names) other) ≡ is_among l.names other
