use Rattle.nest_profile.proofs.Meeting.{met_at, stands_at}
use Rattle.nest_profile.proofs.nearest.meets_at.Goals as goal

pub returns-then-worker-own : goal.returns-then-worker-own
returns-then-worker-own g c = met_at g.G.Signature.sizes_of g.G.Signature.holds c.overlap.result c.args.sign.now c.index.result.now c.args.own c.args.worker c.args.others.now.signs.items (stands_at _ _ _ c.requires.there c.index.ensures) c.if-worker-own.true c.overlap.ensures
