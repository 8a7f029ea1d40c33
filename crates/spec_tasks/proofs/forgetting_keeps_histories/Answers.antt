use Rattle.spec_tasks.proofs.Dropping.{histories_same}
use Rattle.spec_tasks.proofs.forgetting_keeps_histories.Goals as goal

pub returns : goal.returns
returns g c = λ m f stop stops history cursor words. histories_same m f stop stops history cursor words
