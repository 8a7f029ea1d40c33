use Rattle.std.proofs.Common.{◌≡◌}
use Rattle.spec_machine.specs.Segments.{with_iterations}
use Rattle.spec_setup.specs.Signs.{kind_of}
use Rattle.spec_core.specs.Signatures.{signs}
use Rattle.spec_core.specs.Theorems.{claims_due, words_due}
use Rattle.nest_profile.specs.Iterations.{turned, AreTakenOver, IsCourse}
use Rattle.nest_profile.specs.Walked.{sizes_in}
use Rattle.nest_profile.proofs.course.Course.note_task.Given as goal

abbrev pub invariant-loop : goal.invariant-loop
invariant-loop g l = record {
  cursor : l.self.cursor ≡ turned l.counter l.fn.self.cursor;
  course : IsCourse l.job l.self;
  scalars : AreTakenOver l.job.program l.self.cursor l.self.scalars;
  sizes : g.G.Signature.sizes_of l.sign ≡ sizes_in l.job;
  sign : l.sign ≡ with_iterations (kind_of (sizes_in l.job) (signs g.G.Signature.EXACT g.G.Signature.holds g.G.Signature.nothing g.G.Signature.with_note)) (claims_due l.job) (words_due l.job) l.fn.self.cursor.next l.counter;
}
