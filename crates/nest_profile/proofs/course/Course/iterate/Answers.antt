use Rattle.std.proofs.Common.{◌≡◌, length, ap, ◌∙◌, subst}
use Rattle.nest_syntax.specs.declared.tree.Program.{Program}
use Rattle.nest_syntax.specs.Arrays.{arrays_of}
use Rattle.addr_slice.specs.Claims.{words_of}
use Rattle.sched_cursor.specs.Cursor.{Cursor}
use Rattle.sched_cursor.specs.Events.{after_event, as_answer, placed}
use Rattle.sched_cursor.specs.Laws.{IsCursorOf}
use Rattle.spec_core.proofs.Opened.{few}
use Rattle.nest_profile.specs.declared.course.Course.{Course}
use Rattle.nest_profile.proofs.Courses.{few_lengths, course_behind}
use Rattle.nest_profile.proofs.Turned.{passes}
use Rattle.nest_profile.proofs.course.Course.iterate.Goals as goal

pub note_claims-requires-clause-few : goal.note_claims-requires-clause-few
note_claims-requires-clause-few g c = few c.args.job.now _ _ c.checked.ensures.runs c.checked.ensures.same c.lengths.ensures

pub note_claims-requires-clause-many : goal.note_claims-requires-clause-many
note_claims-requires-clause-many g c = few_lengths c.args.job.now c.checked.result.now c.lengths.result.now c.checked.ensures.runs c.checked.ensures.same c.lengths.ensures

pub returns-clause-course : goal.returns-clause-course
returns-clause-course g c =
    let job = c.args.job.now in
    let old = c.args.self.now in
    let ran = c.run.new.self in
    let later = c.advance.new.self in
    let here = ap (λ (x : Course). x.cursor) c.run.ensures.kept in
    let moved = subst (λ (k : Cursor). as_answer c.advance.result later ≡ placed k.next (after_event (arrays_of c.checked-2.result.now.decls) k c.words.result.now.words)) here c.advance.ensures.moved in
    course_behind job old ran later c.requires.course c.requires.iterates
    (subst (λ (p : Program). IsCursorOf p later) c.checked-2.ensures.same c.advance.ensures.of)
    (passes _ old.cursor later _ c.advance.result c.requires.iterates moved)
    c.run.ensures.layout c.run.ensures.reached
    (ap (λ (x : Course). words_of x.claims) c.run.ensures.kept ∙ c.claim.ensures.room)
    (c.run.ensures.given.as_many ∙ ap (λ (k : Cursor). length k.scalars) here)
