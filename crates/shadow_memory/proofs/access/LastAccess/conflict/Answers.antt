use Rattle.std.proofs.Common.{sym, ap, ◌∙◌}
use Rattle.shadow_memory.specs.Notes.{later}
use Rattle.shadow_memory.specs.declared.access.LastAccess.{LastAccess}
use Rattle.shadow_memory.proofs.Conflicts.{conflict-of_write}
use Rattle.shadow_memory.proofs.access.LastAccess.conflict.Goals as goal

pub returns-then-has : goal.returns-then-has
returns-then-has c = λ notes worker last.
    c.later.ensures ∙ ap (λ w. later w c.number.result) c.number-write.ensures ∙ ap (later c.args.self.write) c.number.ensures
    ∙ ap (λ (l : LastAccess). later l.write l.read) last
    ∙ conflict-of_write c.args.claims.now c.args.word worker notes (sym c.has.ensures ∙ c.if-has.true)
