use Rattle.spec_core.specs.Signatures.{signs}
use Rattle.nest_profile.proofs.Crossing.{Crosses}
use Rattle.nest_profile.proofs.course.Course.cross.Given as goal

abbrev pub invariant-loop-worker : goal.invariant-loop-worker
invariant-loop-worker g l = Crosses (signs g.G.Signature.EXACT g.G.Signature.holds g.G.Signature.nothing g.G.Signature.with_note) g.G.Signature.sizes_of l.job l.plan.options l.fn.self.cursor l.index l.worker l.row l.self
