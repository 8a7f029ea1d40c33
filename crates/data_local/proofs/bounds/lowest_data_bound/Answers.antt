use Rattle.std.proofs.Common.{◌≡◌, Option, None, List, [], map, take, sym, ap, ◌∙◌, subst}
use Rattle.std.proofs.lemmas.List.{take_all}
use Rattle.nest_syntax.specs.declared.names.Line.{Line}
use Rattle.nest_syntax.specs.declared.tree.Stmt.{Stmt}
use Rattle.nest_syntax.specs.Shape.{bodies_of}
use Rattle.nest_syntax.specs.Arrays.{Array, arrays_of}
use Rattle.data_local.specs.Written.{TellsWritten}
use Rattle.data_local.specs.Bounds.{HasDataBound}
use Rattle.nest_syntax.specs.Lowest.{Lowers}
use Rattle.data_local.proofs.Lowests.{Among, lowers_none, lowers_more}
use Rattle.nest_syntax.proofs.Lowers.{lowest_of}
use Rattle.data_local.proofs.bounds.lowest_data_bound.Goals as goal

pub loop-body-init : goal.loop-body-init
loop-body-init c = subst (λ (f : Option Line). Lowers (Among (arrays_of c.args.program.now.decls) []) None f) (sym c.new-found.ensures) (lowers_none (arrays_of c.args.program.now.decls))

pub loop-body-preserved : goal.loop-body-preserved
loop-body-preserved c =
    let arrays : List Array = arrays_of c.args.program.now.decls in
    let tells : TellsWritten arrays c.in_ok-written.written = (rw c.as_slice.ensures at c.in_ok-written.ensures) in
    lowers_more arrays _ _ c.loop-body-test.true c.body-item.result c.body-item.is _ _ c.loop-body.invariant (c.in_ok-note_data_bounds.ensures arrays tells)

pub returns : goal.returns
returns c =
    let all : map (λ x. x.now) (take c.loop-body.body-index c.deref-body-items.result.now) ≡ bodies_of c.args.program.now =
    ap (map (λ x. x.now)) (take_all _ _ c.loop-body-test.false ∙ c.deref-body-items.ensures.value) ∙ c.in_ok-bodies.ensures in
    lowest_of (HasDataBound c.args.program.now) c.line.result
    (subst (λ (f : Option Line). Lowers (HasDataBound c.args.program.now) None f) (sym c.line.ensures)
    (subst (λ (ls : List (List Stmt)). Lowers (Among (arrays_of c.args.program.now.decls) ls) None c.loop-body.found) all c.loop-body.invariant))
