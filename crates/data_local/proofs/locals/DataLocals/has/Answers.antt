use Rattle.std.proofs.Common.{◌∙◌}
use Rattle.data_local.proofs.Listed.{search_tells}
use Rattle.data_local.proofs.locals.DataLocals.has.Goals as goal

pub returns : goal.returns
returns c =
    c.is_ok.ensures.value
    ∙ search_tells c.args.self.now c.args.name c.binary_search.result (rw c.self.view_is at c.self.invariant) (rw (c.as_slice.ensures.value ∙ c.self.view_is) at c.binary_search.ensures.position)
