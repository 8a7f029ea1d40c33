use Rattle.std.proofs.Common.{◌≡◌, ◌<◌, ◌≤◌, length, get_or, sym, arith, rules}
use Rattle.std.proofs.lemmas.Option.{get_or_from_slice_get}
use Rattle.data_local.proofs.Edges.{search_begins, search_goes_on, all_found}
use Rattle.data_local.proofs.reach.search.Goals as goal

pub loop-next-init : goal.loop-next-init
loop-next-init c = record { searched = search_begins _ _ _ c.in_ok-found.ensures; within = omega arith }

pub loop-next-preserved : goal.loop-next-preserved
loop-next-preserved c =
    let there : c.loop-next.next < length c.loop-next.found.keys = search rules in
    let node : get_or c.loop-next.found.keys c.loop-next.next 0 ≡ c.in-Some.node.now = get_or_from_slice_get c.loop-next.found.keys c.loop-next.next c.in-Some.node.now 0 (sym c.in-Some.ensures.key) in
    record {
      searched = search_goes_on _ _ _ _ _ _ there node c.in_ok-follow.ensures.grown c.in_ok-follow.ensures.more c.loop-next.invariant.searched;
      within = omega (arith, c.in_ok-follow.ensures.grown.longer);
    }

pub returns-in_default : goal.returns-in_default
returns-in_default c =
    let over : length c.loop-next.found.keys ≤ c.loop-next.next = search rules in
    λ node. (c.loop-next.invariant.searched.sound node, λ r. all_found _ _ _ _ over c.loop-next.invariant.searched node r)
