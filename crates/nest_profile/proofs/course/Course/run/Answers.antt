use Rattle.std.proofs.Common.{◌≡◌, ap, sym, ◌∙◌, subst, Some, None, if◌then◌else◌}
use Rattle.nest_syntax.specs.declared.tree.Program.{Program}
use Rattle.nest_syntax.specs.Arrays.{arrays_of, sizes_of}
use Rattle.nest_syntax.specs.Shape.{bodies_of}
use Rattle.nest_syntax.specs.Outcome.{body_at, completed}
use Rattle.nest_syntax.specs.Reads.{on_words}
use Rattle.nest_syntax.specs.Turn.{Turn, turn_of}
use Rattle.nest_mean.specs.TurnRun.{ended}
use Rattle.sched_cursor.specs.Events.{handed_at}
use Rattle.sched_cursor.specs.Handed.{what_of}
use Rattle.nest_profile.proofs.Courses.{turn_is, reached_on, completed_is}
use Rattle.nest_profile.proofs.course.Course.run.Goals as goal

pub returns-then-self-clause-reached : goal.returns-then-self-clause-reached
returns-then-self-clause-reached c =
    let old = c.args.self.now in
    let job = c.args.job.now in
    let here = old.cursor in
    let gets = c.requires.course.reached_is ∙ ap (λ t. if t then Some old.words.words else None) c.if-self.true in
    let ran = subst (λ (p : Program). on_words (sizes_of (arrays_of p.decls)) (turn_of (arrays_of p.decls) (body_at (bodies_of p) c.args.body) old.scalars) old.words.words ≡ ended c.run_turn.result c.run_turn.new.words.words) c.checked.ensures.same c.run_turn.ensures.turn in
    let same = ap (λ b. turn_of (arrays_of job.program.decls) (body_at (bodies_of job.program) b) old.scalars) c.requires.body ∙ turn_is job.program here old.scalars c.requires.course.cursor_is c.requires.iterates c.requires.given in
    reached_on job here.next (what_of job.program (handed_at here here.at)) (Some old.words.words) c.requires.next gets
    ∙ ap (λ (t : Turn). completed (on_words (sizes_of (arrays_of job.program.decls)) t old.words.words)) (sym same)
    ∙ ap completed ran
    ∙ completed_is c.run_turn.result c.run_turn.new.words.words c.is_ok-self.result c.is_ok-self.ensures.value
