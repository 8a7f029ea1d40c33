use Rattle.std.proofs.Common.{ap}
use Rattle.word_store.specs.Memory.{Memory}
use Rattle.domore_core.proofs.Behind.{behind_told}
use Rattle.domore_core.proofs.handing.pass_iteration.Goals as goal

pub returns-clause-event : goal.returns-clause-event
returns-clause-event c =
    (behind_told c.args.plan.now.job.program _ c.args.plan.now.job.opening.words _ c.args.cursor.now _ _ c.checked.ensures.same (ap (λ (m : Memory). m.words) c.words.ensures.same) c.requires.iterates c.advance.ensures.moved).event

pub returns-clause-next : goal.returns-clause-next
returns-clause-next c =
    (behind_told c.args.plan.now.job.program _ c.args.plan.now.job.opening.words _ c.args.cursor.now _ _ c.checked.ensures.same (ap (λ (m : Memory). m.words) c.words.ensures.same) c.requires.iterates c.advance.ensures.moved).next
