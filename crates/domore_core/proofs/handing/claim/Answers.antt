use Rattle.std.proofs.Common.{ap}
use Rattle.word_store.specs.Memory.{Memory}
use Rattle.settle_law.proofs.Turns.{inside_turns_tell}
use Rattle.domore_core.proofs.Claiming.{claims_found}
use Rattle.domore_core.proofs.handing.claim.Goals as goal

pub returns-clause-claims : goal.returns-clause-claims
returns-clause-claims c =
    let job = c.args.plan.now.job in
    claims_found inside_turns_tell job.program job.opening.words c.args.cursor.now c.requires.cursor c.requires.iterates c.args.scalars.now c.requires.names
    _ _ c.args.iteration.now _ _ c.checked.ensures.same (ap (λ (m : Memory). m.words) c.words.ensures.same) c.requires.handed c.put_scalars.ensures.given c.claims.ensures.claims
