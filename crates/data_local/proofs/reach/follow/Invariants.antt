use Rattle.std.proofs.Common.{◌≡◌, ℕ, ◌||◌, take}
use Rattle.nest_syntax.specs.Among.{is_among}
use Rattle.data_local.specs.Reached.{is_edge, IsGrown}
use Rattle.data_local.proofs.reach.follow.Given as goal

abbrev pub invariant-loop-index : goal.invariant-loop-index
invariant-loop-index l = record {
  grown : IsGrown l.fn.found.keys l.found.keys;
  more : (to : ℕ) → is_among l.found.keys to ≡ (is_among l.fn.found.keys to || is_edge (take l.index l.edges) l.fn.node to);
}
