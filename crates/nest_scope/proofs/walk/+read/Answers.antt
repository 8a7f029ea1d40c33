use Rattle.nest_scope.proofs.Nodes.{binary_noted, choice_noted}
use Rattle.nest_scope.proofs.walk.+read.Goals as goal

pub returns-in-Binary : goal.returns-in-Binary
returns-in-Binary t c =
    binary_noted c.args.line c.args.level c.args.scope.now c.in-Binary.field-0 c.in-Binary.left c.in-Binary.right c.args.expr.now c.args.found.now c.read-in-Binary.new.found c.read-in-Binary-2.new.found c.in-Binary.is
    (rw c.get-in-Binary.ensures at c.read-in-Binary.ensures) (rw c.get-in-Binary-2.ensures at c.read-in-Binary-2.ensures)

pub returns-in-Choice : goal.returns-in-Choice
returns-in-Choice t c =
    choice_noted c.args.line c.args.level c.args.scope.now c.in-Choice.test c.in-Choice.first c.in-Choice.second c.args.expr.now c.args.found.now c.read-in-Choice.new.found c.read-in-Choice-2.new.found
    c.read-in-Choice-3.new.found c.in-Choice.is
    (rw c.get-in-Choice.ensures at c.read-in-Choice.ensures) (rw c.get-in-Choice-2.ensures at c.read-in-Choice-2.ensures) (rw c.get-in-Choice-3.ensures at c.read-in-Choice-3.ensures)
