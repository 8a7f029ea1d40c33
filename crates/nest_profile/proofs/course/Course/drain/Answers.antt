use Rattle.std.proofs.Common.{◌≡◌, refl, subst}
use Rattle.nest_syntax.specs.declared.tree.Program.{Program}
use Rattle.nest_syntax.specs.Arrays.{arrays_of}
use Rattle.sched_cursor.specs.declared.event.Event.TheVariants as event
use Rattle.sched_cursor.specs.Events.{after_event, as_answer, placed}
use Rattle.sched_cursor.specs.Laws.{IsCursorOf}
use Rattle.nest_profile.proofs.Courses.{gone, stuck, next_kept, course_moved}
use Rattle.nest_profile.proofs.course.Course.drain.Goals as goal

pub returns-then-self-clause-goes : goal.returns-then-self-clause-goes
returns-then-self-clause-goes c = λ goes.
    let old = c.args.self.now in
    let job = c.args.job.now in
    let later = c.advance.new.self in
    let moved = subst (λ (p : Program). as_answer c.advance.result later ≡ placed old.cursor.next (after_event (arrays_of p.decls) old.cursor old.words.words)) c.checked.ensures.same c.advance.ensures.moved in
    let after = gone old.cursor.next later c.advance.result _ c.is_none.result moved c.is_none.ensures goes in
    let own = subst (λ (p : Program). IsCursorOf p later) c.checked.ensures.same c.advance.ensures.of in
    (later, c.if-self.true, after, refl, course_moved job old later c.requires.course own (next_kept (arrays_of job.program.decls) old.words.words old.cursor later event.Drain c.requires.kind refl after))

pub returns-then-self-clause-traps : goal.returns-then-self-clause-traps
returns-then-self-clause-traps c = λ stays gets.
    let old = c.args.self.now in
    let later = c.advance.new.self in
    let moved = subst (λ (p : Program). as_answer c.advance.result later ≡ placed old.cursor.next (after_event (arrays_of p.decls) old.cursor old.words.words)) c.checked.ensures.same c.advance.ensures.moved in
    stuck old.cursor.next later c.advance.result _ c.is_none.result moved c.is_none.ensures stays
