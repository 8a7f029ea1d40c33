use Rattle.std.proofs.Common.{ℕ, ap, ◌∙◌}
use Rattle.addr_slice.specs.Claims.{Claimed}
use Rattle.shadow_memory.specs.Notes.{need}
use Rattle.domore_core.specs.Tables.{notes_below}
use Rattle.domore_core.proofs.Waits.{waits-are, noted-next}
use Rattle.domore_core.proofs.handing.wait_and_note.Goals as goal

pub returns-clause-waits : goal.returns-clause-waits
returns-clause-waits c = λ each noted is.
    let notes = notes_below each c.args.workers c.args.number in
    waits-are each c.args.workers c.args.number _ c.requires.some c.requires.few (λ other.
    c.need-waits.ensures notes noted other
    ∙ ap (λ (claims : Claimed). need notes claims c.worker_of-worker.result other) is
    ∙ ap (λ (worker : ℕ). need notes (each c.args.number) worker other) c.worker_of-worker.ensures.number)

pub returns-clause-noted : goal.returns-clause-noted
returns-clause-noted c = λ each noted is. noted-next each c.args.workers c.args.number _ c.worker_of-worker.result _ is c.worker_of-worker.ensures.number (c.note.ensures.noted (notes_below each c.args.workers c.args.number) noted)
