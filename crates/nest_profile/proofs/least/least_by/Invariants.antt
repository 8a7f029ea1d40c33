use Rattle.std.proofs.Common.{length}
use Rattle.sched_cursor.specs.Cursor.{Cursor}
use Rattle.sched_cursor.specs.Laws.{IsCursorOf, restarted}
use Rattle.spec_core.specs.Signatures.{signs}
use Rattle.nest_profile.specs.Walked.{StandsAt, comes}
use Rattle.nest_profile.proofs.least.least_by.Given as goal

abbrev pub invariant-events : goal.invariant-events
invariant-events g l = (cursor : Cursor) × IsCursorOf l.job.program cursor × StandsAt (signs g.G.Signature.EXACT g.G.Signature.holds g.G.Signature.nothing g.G.Signature.with_note) l.job l.plan.options (restarted l.job.program cursor) g.G.Signature.sizes_of l.walk

abbrev pub decreases-events : goal.decreases-events
decreases-events g l = length (comes (signs g.G.Signature.EXACT g.G.Signature.holds g.G.Signature.nothing g.G.Signature.with_note) l.job l.plan.options l.walk.course.cursor)
