use Rattle.sched_cursor.specs.Laws.{restarted}
use Rattle.spec_core.specs.Signatures.{signs}
use Rattle.nest_profile.specs.Walked.{sizes_in}
use Rattle.nest_profile.proofs.Standing.{looked_first, stands_opened}
use Rattle.nest_profile.proofs.walk.Walk.open.Goals as goal

pub returns : goal.returns
returns g c =
    let s = signs g.G.Signature.EXACT g.G.Signature.holds g.G.Signature.nothing g.G.Signature.with_note in
    let job = c.args.job.now in
    let options = c.args.plan.now.options in
    let course = c.in_ok-open.field-0 in
    let rows = c.in_ok-open_rows.field-0.items in
    record {
      looked = _;
      gathered = _;
      course = c.in_ok-open.ensures.course;
      stands = stands_opened s job options course.cursor c.in_ok-open.ensures.course.cursor_is c.in_ok-open.ensures.cursor;
      has_looked = looked_first s job options (restarted job.program course.cursor) g.G.Signature.sizes_of (g.met.G.Signature.keeps_sizes.0 (sizes_in job)) rows c.in_ok-open_rows.ensures.many c.in_ok-open_rows.ensures.blank;
    }
