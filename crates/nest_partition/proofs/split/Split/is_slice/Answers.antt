use Rattle.std.proofs.Common.{not, true, ◌↔◌, IsTrue, [], slice_index_or, refl, sym, ◌∙◌, subst}
use Rattle.std.specs.List.{list_any}
use Rattle.nest_syntax.specs.Arrays.{arrays_of}
use Rattle.nest_syntax.specs.Shape.{bodies_of}
use Rattle.nest_syntax.specs.Among.{is_among}
use Rattle.data_local.specs.Names.{scalars_in}
use Rattle.data_local.specs.Bodies.{body_numbered}
use Rattle.nest_partition.specs.Split.{IsSlice}
use Rattle.nest_partition.proofs.Slices.{slice_told}
use Rattle.nest_partition.proofs.split.Split.is_slice.Goals as goal

pub returns-then-not-drains-clause-slice : goal.returns-then-not-drains-clause-slice
returns-then-not-drains-clause-slice c = λ program split.
    slice_told program c.args.self.now split c.args.body c.args.expr.now _ _ (sym c.if-not-drains.true ∙ c.drains.ensures program split) c.names_local.ensures

pub returns-else-not-drains-clause-slice : goal.returns-else-not-drains-clause-slice
returns-else-not-drains-clause-slice c = λ program split.
    subst (λ b. IsTrue (not b) ↔ IsSlice (arrays_of program.decls) (body_numbered (bodies_of program) c.args.body) c.args.expr.now) (sym c.if-not-drains.false)
    (slice_told program c.args.self.now split c.args.body c.args.expr.now true (list_any (is_among (slice_index_or c.args.self.now.locals c.args.body [])) (scalars_in c.args.expr.now)) (sym c.if-not-drains.false ∙ c.drains.ensures program split) refl)
