use Rattle.std.proofs.Common.{◌<◌, arith}
use Rattle.spec_setup.specs.Signs.{kind_of}
use Rattle.spec_core.specs.Signatures.{signs}
use Rattle.spec_core.specs.Theorems.{claims_due, words_due}
use Rattle.nest_profile.specs.Iterations.{left_at}
use Rattle.nest_profile.specs.Walked.{sizes_in}
use Rattle.nest_profile.proofs.Turned.{iterates_turned, counted_turned, turned_on}
use Rattle.nest_profile.proofs.Iterating.{is_next, noted_on}
use Rattle.nest_profile.proofs.course.Course.note_task.Goals as goal

pub iterate-requires-clause-iterates : goal.iterate-requires-clause-iterates
iterate-requires-clause-iterates g c = iterates_turned c.args.self.now.cursor _ c.loop.counter c.loop.invariant.cursor (omega (arith, c.loop-test.true, c.requires.left))

pub iterate-requires-clause-next : goal.iterate-requires-clause-next
iterate-requires-clause-next g c = is_next c.args.job.now c.args.self.now.cursor _ c.args.count c.loop.counter c.loop.invariant.cursor c.loop-test.true (omega (arith, c.loop-test.true, c.requires.left)) c.requires.next

pub loop-preserved : goal.loop-preserved
loop-preserved g c =
    let job = c.args.job.now in
    let start = c.args.self.now.cursor in
    let left : c.loop.counter < left_at start.at = omega (arith, c.loop-test.true, c.requires.left) in
    record {
      cursor = turned_on start c.loop.self.cursor c.iterate.new.self.cursor c.loop.counter c.loop.invariant.cursor c.iterate.ensures.cursor;
      course = c.iterate.ensures.course;
      scalars = c.iterate.ensures.scalars;
      sizes = c.iterate.ensures.sizes;
      sign = noted_on (kind_of (sizes_in job) (signs g.G.Signature.EXACT g.G.Signature.holds g.G.Signature.nothing g.G.Signature.with_note)) (claims_due job) (words_due job) start.next c.loop.counter c.loop.self.cursor.next c.loop.sign c.iterate.new.sign
          (counted_turned start c.loop.self.cursor c.loop.counter c.loop.invariant.cursor left) c.loop.invariant.sign c.iterate.ensures.sign;
    }
