use Rattle.std.proofs.Common.{arith}
use Rattle.nest_profile.proofs.Meeting.{met_behind, never_met}
use Rattle.nest_profile.proofs.nearest.meets_other.Goals as goal

pub loop-worker-preserved : goal.loop-worker-preserved
loop-worker-preserved g c = λ m. met_behind g.G.Signature.sizes_of g.G.Signature.holds _ _ c.loop-worker.worker _ c.if-meets_at.ensures m (c.loop-worker.invariant m)

pub returns : goal.returns
returns g c = λ m. never_met g.G.Signature.sizes_of g.G.Signature.holds _ _ c.loop-worker.worker _ (omega (arith, c.loop-worker-test.false, c.len-worker-end.ensures)) m (c.loop-worker.invariant m)
