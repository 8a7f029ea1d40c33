use Rattle.std.proofs.Common.{◌≡◌, ap, ◌∙◌}
use Rattle.domore_machine.specs.Waits.{Wait}
use Rattle.domore_core.specs.Tallies.{Tallied, with_wait}
use Rattle.domore_core.proofs.Tallying.{note_kept, note_is}
use Rattle.domore_core.proofs.tally.Tally.note.Goals as goal

pub invariant_of-self : goal.invariant_of-self
invariant_of-self c =
    let w : Wait = record { worker = c.wait.inside.worker; number = c.wait.inside.number } in
    let a = c.list_at.ensures in
    let b = c.count_if.ensures in
    rw (a, b) (note_kept c.self.inside.report c.self.inside.first c.args.number w c.self.invariant)

pub returns : goal.returns
returns c =
    let w : Wait = record { worker = c.wait.inside.worker; number = c.wait.inside.number } in
    let a = c.list_at.ensures in
    let b = c.count_if.ensures in
    let same : w ≡ c.args.wait = c.wait.view_is in
    rw (a, b) (note_is c.self.inside.report c.self.inside.first c.args.number w c.self.invariant
    ∙ ap (λ (t : Tallied). let u : Tallied = record t { facts = with_wait c.args.number t.facts w } in u) c.self.view_is
    ∙ ap (λ (v : Wait). let u : Tallied = record c.args.self.now { facts = with_wait c.args.number c.args.self.now.facts v } in u) same)
