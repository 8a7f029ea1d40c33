use Rattle.std.proofs.Common.{List, sym, subst, rules}
use Rattle.std.specs.List.Sorted.{IsNonDecreasingBy}
use Rattle.std.proofs.lemmas.List.Sorted.{IsNonDecreasingBy-from_sort_by_key, IsPermutation-sym}
use Rattle.data_local.specs.declared.reach.Edge.{Edge}
use Rattle.data_local.proofs.Edges.{reached_by_same}
use Rattle.data_local.proofs.reach.reached.Goals as goal

pub search-requires : goal.search-requires
search-requires c =
    subst (λ (edges : List Edge). IsNonDecreasingBy (λ (e : Edge). e.from) edges) (sym c.deref.ensures.value)
    (IsNonDecreasingBy-from_sort_by_key (λ (e : Edge). e.from) _ c.sort_unstable_by_key.ensures.sorted (λ a r q k. search rules))

pub returns : goal.returns
returns c =
    let moved = c.sort_unstable_by_key.ensures.permutation in
    λ node.
    let found = rw c.deref.ensures.value at (c.in_ok-search.ensures node) in
    (λ here. reached_by_same _ _ _ (IsPermutation-sym _ _ moved) node (found.0 here), λ r. found.1 (reached_by_same _ _ _ moved node r))
