use Rattle.std.proofs.Common.{ap, ◌∙◌}
use Rattle.nest_syntax.specs.Course.{opening_scalars}
use Rattle.sched_cursor.proofs.Cursors.{starts_with}
use Rattle.sched_cursor.proofs.cursor.Cursor.start.Goals as goal

pub returns : goal.returns
returns c =
    starts_with c.args.checked.now _ _ _ _ _ _ _ _ _ _ c.program-program.ensures.named c.program-program.ensures.keeps c.data_locals.ensures.as_many c.program-program.ensures.few_bodies c.in_ok-entry.ensures
    c.new.ensures.items (c.as_slice.ensures ∙ ap (λ p. p.regions) c.program-program.ensures.same) (rw c.as_slice-2.ensures.value at c.in_ok-drains.ensures) c.scalar_names-names.ensures
    (c.in_ok-scalars.ensures ∙ ap opening_scalars c.program-program.ensures.same) c.before_entry.ensures
