use Rattle.std.proofs.Common.{ap, ◌∙◌}
use Rattle.nest_check.proofs.NamedParts.{on_ok}
use Rattle.dep_graph.specs.Accesses.{reads}
use Rattle.dep_graph.proofs.Gathers.{reads-number, reads-scalar, reads-word, reads-unary, reads-binary, reads-choice, adds_none, adds_one, adds_two, adds_three}
use Rattle.dep_graph.proofs.accesses.Invocation.+add_reads.Goals as goal

pub returns-in-Number : goal.returns-in-Number
returns-in-Number t c = adds_none _ _ (ap (reads c.args.self.now.checked.now c.args.self.now.nest.now c.args.line c.args.around) c.in-Number.is ∙ reads-number c.args.self.now.checked.now c.args.self.now.nest.now c.args.line c.args.around _)

pub returns-in-Scalar : goal.returns-in-Scalar
returns-in-Scalar t c = adds_none _ _ (ap (reads c.args.self.now.checked.now c.args.self.now.nest.now c.args.line c.args.around) c.in-Scalar.is ∙ reads-scalar c.args.self.now.checked.now c.args.self.now.nest.now c.args.line c.args.around _)

pub returns-in_ok-add_reads-in-Word : goal.returns-in_ok-add_reads-in-Word
returns-in_ok-add_reads-in-Word t c =
    on_ok c.add_access.result (λ last. adds_two _ _ _ _ _ _ (ap (reads c.args.self.now.checked.now c.args.self.now.nest.now c.args.line c.args.around) c.in-Word.is ∙ reads-word c.args.self.now.checked.now c.args.self.now.nest.now c.args.line c.args.around c.in-Word.array c.in-Word.place)
    (rw c.get.ensures at c.in_ok-add_reads-in-Word.ensures) (rw c.get-in-Word.ensures at last))
    c.add_access.ensures

pub returns-in-Unary : goal.returns-in-Unary
returns-in-Unary t c =
    on_ok c.add_reads-in-Unary.result (λ last. adds_one _ _ _ _ (ap (reads c.args.self.now.checked.now c.args.self.now.nest.now c.args.line c.args.around) c.in-Unary.is ∙ reads-unary c.args.self.now.checked.now c.args.self.now.nest.now c.args.line c.args.around c.in-Unary.field-0 c.in-Unary.part)
    (rw c.get-in-Unary.ensures at last))
    c.add_reads-in-Unary.ensures

pub returns-in_ok-add_reads-in-Binary : goal.returns-in_ok-add_reads-in-Binary
returns-in_ok-add_reads-in-Binary t c =
    on_ok c.add_reads-in-Binary-2.result (λ last. adds_two _ _ _ _ _ _ (ap (reads c.args.self.now.checked.now c.args.self.now.nest.now c.args.line c.args.around) c.in-Binary.is ∙ reads-binary c.args.self.now.checked.now c.args.self.now.nest.now c.args.line c.args.around c.in-Binary.field-0 c.in-Binary.left c.in-Binary.right)
    (rw c.get-in-Binary.ensures at c.in_ok-add_reads-in-Binary.ensures) (rw c.get-in-Binary-2.ensures at last))
    c.add_reads-in-Binary-2.ensures

pub returns-in_ok-add_reads-in-Choice-2 : goal.returns-in_ok-add_reads-in-Choice-2
returns-in_ok-add_reads-in-Choice-2 t c =
    on_ok c.add_reads-in-Choice-3.result (λ last. adds_three _ _ _ _ _ _ _ _ (ap (reads c.args.self.now.checked.now c.args.self.now.nest.now c.args.line c.args.around) c.in-Choice.is ∙ reads-choice c.args.self.now.checked.now c.args.self.now.nest.now c.args.line c.args.around c.in-Choice.test c.in-Choice.first c.in-Choice.second)
    (rw c.get-in-Choice.ensures at c.in_ok-add_reads-in-Choice.ensures) (rw c.get-in-Choice-2.ensures at c.in_ok-add_reads-in-Choice-2.ensures) (rw c.get-in-Choice-3.ensures at last))
    c.add_reads-in-Choice-3.ensures
