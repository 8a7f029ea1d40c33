use Rattle.settle_law.proofs.Cursors.{at_event}
use Rattle.settle_law.proofs.events_tell.Goals as goal

pub returns : goal.returns
returns g c = λ nest what event passed next cursor behind. at_event nest what event passed next cursor behind
