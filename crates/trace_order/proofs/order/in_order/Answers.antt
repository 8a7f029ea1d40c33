use Rattle.std.proofs.Common.{sym, ◌∙◌, arith}
use Rattle.std.proofs.lemmas.Option.{slice_get-get_or}
use Rattle.trace_order.proofs.Swapping.{first_swap, order_goes_on}
use Rattle.trace_order.proofs.order.in_order.Goals as goal

pub returns-in-Some : goal.returns-in-Some
returns-in-Some c =
    let xs = c.args.accesses.now in
    first_swap xs _ _ _ (slice_get-get_or xs c.loop-second.second _ (omega arith)) c.loop-second.invariant (sym c.in-Some.ensures)

pub loop-second-preserved : goal.loop-second-preserved
loop-second-preserved c =
    let xs = c.args.accesses.now in
    order_goes_on xs _ _ (slice_get-get_or xs c.loop-second.second _ (omega arith)) c.loop-second.invariant (sym c.first_swapped.ensures ∙ c.in_default.is)
