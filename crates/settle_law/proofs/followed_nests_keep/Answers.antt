use Rattle.settle_law.proofs.Cursors.{followed_keeps}
use Rattle.settle_law.proofs.followed_nests_keep.Goals as goal

pub returns : goal.returns
returns g c = λ sys nest what entry event cursor begins follows. followed_keeps sys nest what entry event cursor begins follows
