use Rattle.std.proofs.Common.{[], ap, ◌∙◌}
use Rattle.nest_check.specs.Through.{through}
use Rattle.nest_check.specs.Entries.{statements_of}
use Rattle.task_code.specs.Bodies.{told, with_variable, with_entry}
use Rattle.task_code.proofs.Whole.{layout_is}
use Rattle.task_code.proofs.locals.locals_of.Goals as goal

pub returns : goal.returns
returns c =
    c.in_ok-note_block.ensures ∙ ap (λ names. through with_entry names (statements_of c.args.body.now.stmts.now)) c.in_ok-note_variable.ensures
    ∙ ap (λ names. through with_entry (with_variable (told c.args.body.now).header names) (statements_of c.args.body.now.stmts.now)) c.new-names.ensures.items ∙ layout_is (told c.args.body.now)
