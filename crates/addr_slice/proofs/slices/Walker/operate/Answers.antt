use Rattle.std.proofs.Common.{sym, ◌∙◌}
use Rattle.addr_slice.proofs.Walking.{operation_traps, operation_goes}
use Rattle.addr_slice.proofs.slices.Walker.operate.Goals as goal

pub returns-then-traps : goal.returns-then-traps
returns-then-traps c = λ claims. operation_traps _ _ _ claims _ (sym c.traps.ensures ∙ c.if-traps.true)

pub returns : goal.returns
returns c = λ claims. operation_goes _ _ claims _ _ (sym c.traps.ensures ∙ c.if-traps.false) c.pass.ensures
