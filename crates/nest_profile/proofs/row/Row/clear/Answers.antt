use Rattle.std.proofs.Common.{◌++◌, map, take, drop, get_or, slice_set, ap, ◌∙◌, arith, length-set}
use Rattle.spec_core.proofs.Clearing.{set_next}
use Rattle.nest_profile.proofs.row.Row.clear.Goals as goal

pub workers-preserved : goal.workers-preserved
workers-preserved g c =
    let old = c.args.self.now.signs.items in
    let w = c.workers.worker in
    let x = c.index_mut.result.now in
    let f = λ (sign : g.row.G.Denot). g.G.Signature.nothing (g.G.Signature.sizes_of sign) in
    let parts = map f (take w old) ++ drop w old in (
      ap (λ l. slice_set l w c.clear.new.self) c.workers.invariant.0 ∙ ap (slice_set parts w) c.clear.ensures.is ∙ set_next f old w x (omega (arith, c.workers-test.true, c.workers.invariant.1)) (c.index_mut.ensures.value ∙ ap (λ l. get_or l w x) c.workers.invariant.0),
      length-set c.workers.self.signs.items w c.clear.new.self ∙ c.workers.invariant.1,
    )
