use Rattle.std.proofs.Common.{◌≡◌, refl, subst}
use Rattle.nest_syntax.specs.declared.tree.Program.{Program}
use Rattle.nest_syntax.specs.Arrays.{arrays_of}
use Rattle.word_store.specs.Memory.{Memory}
use Rattle.sched_cursor.specs.declared.event.Event.TheVariants as event
use Rattle.sched_cursor.specs.Events.{after_event, as_answer, placed}
use Rattle.sched_cursor.specs.Laws.{IsCursorOf}
use Rattle.nest_profile.proofs.Courses.{gone, stuck, next_kept, course_moved}
use Rattle.nest_profile.proofs.course.Course.scalar.Goals as goal

pub returns-clause-goes : goal.returns-clause-goes
returns-clause-goes c = λ goes.
    let old = c.args.self.now in
    let job = c.args.job.now in
    let later = c.advance.new.self in
    let moved = subst (λ (p : Program). as_answer c.advance.result later ≡ placed old.cursor.next (after_event (arrays_of p.decls) old.cursor job.opening.words)) c.checked.ensures.same
    (subst (λ (w : Memory). as_answer c.advance.result later ≡ placed old.cursor.next (after_event (arrays_of c.checked.result.now.decls) old.cursor w.words)) c.words.ensures.same c.advance.ensures.moved) in
    let after = gone old.cursor.next later c.advance.result _ c.is_none.result moved c.is_none.ensures goes in
    let own = subst (λ (p : Program). IsCursorOf p later) c.checked.ensures.same c.advance.ensures.of in
    (later, after, refl, course_moved job old later c.requires.course own (next_kept (arrays_of job.program.decls) job.opening.words old.cursor later event.Scalar c.requires.kind refl after))

pub returns-clause-traps : goal.returns-clause-traps
returns-clause-traps c = λ stays.
    let old = c.args.self.now in
    let job = c.args.job.now in
    let later = c.advance.new.self in
    let moved = subst (λ (p : Program). as_answer c.advance.result later ≡ placed old.cursor.next (after_event (arrays_of p.decls) old.cursor job.opening.words)) c.checked.ensures.same
    (subst (λ (w : Memory). as_answer c.advance.result later ≡ placed old.cursor.next (after_event (arrays_of c.checked.result.now.decls) old.cursor w.words)) c.words.ensures.same c.advance.ensures.moved) in
    stuck old.cursor.next later c.advance.result _ c.is_none.result moved c.is_none.ensures stays
