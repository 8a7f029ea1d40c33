use Rattle.std.proofs.Common.{◌<◌, length, arith}
use Rattle.nest_profile.proofs.Meeting.{row_behind, row_never, stands_at}
use Rattle.nest_profile.proofs.nearest.meet.Goals as goal

pub loop-worker-preserved : goal.loop-worker-preserved
loop-worker-preserved g c = λ m.
    let early = c.args.early.now.signs.items in
    let low : c.loop-worker.worker < length early = omega (arith, c.loop-worker-test.true, c.len-worker-end.ensures) in
    row_behind g.G.Signature.sizes_of g.G.Signature.holds early _ c.loop-worker.worker c.index.result.now (stands_at early c.loop-worker.worker c.index.result.now low c.index.ensures) c.if-meets_other.ensures m (c.loop-worker.invariant m)

pub returns : goal.returns
returns g c = λ m. row_never g.G.Signature.sizes_of g.G.Signature.holds _ _ c.loop-worker.worker (omega (arith, c.loop-worker-test.false, c.len-worker-end.ensures)) m (c.loop-worker.invariant m)
