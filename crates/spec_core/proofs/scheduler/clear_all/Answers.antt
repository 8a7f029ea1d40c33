use Rattle.std.proofs.Common.{◌++◌, map, take, drop, get_or, slice_set, ap, ◌∙◌, arith, length-set}
use Rattle.spec_core.specs.Hands.{cleared}
use Rattle.spec_core.proofs.Clearing.{set_next}
use Rattle.spec_core.proofs.scheduler.clear_all.Goals as goal

pub seats-preserved : goal.seats-preserved
seats-preserved g c =
    let old = c.args.seats.now.items in
    let w = c.seats.worker in
    let x = c.index_mut.result.now in
    let parts = map cleared (take w old) ++ drop w old in (
      ap (λ l. slice_set l w c.clear.new.self) c.seats.invariant.0 ∙ ap (slice_set parts w) c.clear.ensures ∙ set_next cleared old w x (omega (arith, c.seats-test.true, c.seats.invariant.1)) (c.index_mut.ensures.value ∙ ap (λ l. get_or l w x) c.seats.invariant.0),
      length-set c.seats.seats.items w c.clear.new.self ∙ c.seats.invariant.1,
    )
