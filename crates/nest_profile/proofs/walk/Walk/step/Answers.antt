use Rattle.std.proofs.Common.{◌≡◌, ◌<◌, true, Ok, Err, length, [], ◌++◌, sym, subst, arith}
use Rattle.nest_syntax.specs.Arrays.{arrays_of}
use Rattle.settle_law.specs.Courses.{Trap}
use Rattle.sched_cursor.specs.Cursor.{Cursor}
use Rattle.sched_cursor.specs.Events.{after_event}
use Rattle.spec_machine.specs.Segments.{cut_off}
use Rattle.spec_core.specs.Signatures.{signs}
use Rattle.spec_core.specs.Engine.{nest_in}
use Rattle.nest_profile.specs.declared.course.Course.{Course}
use Rattle.nest_profile.specs.Iterations.{IsCourse}
use Rattle.nest_profile.specs.Walked.{Stands, comes}
use Rattle.nest_profile.proofs.Standing.{gets_words, drain_stops, opened, ends_whole, ends_cut}
use Rattle.nest_profile.proofs.Walking.{scalar_goes, scalar_ends, drain_goes, drain_ends, end_ends}
use Rattle.nest_profile.proofs.walk.Walk.step.Goals as goal

pub returns-in-Scalar-clause-goes : goal.returns-in-Scalar-clause-goes
returns-in-Scalar-clause-goes g c = λ is start w.
    let s = signs g.G.Signature.EXACT g.G.Signature.holds g.G.Signature.nothing g.G.Signature.with_note in
    let job = c.args.job.now in
    let options = c.args.plan.now.options in
    let here = c.args.self.now.course.cursor in
    let gone = c.scalar.ensures.goes is in
    let goes = scalar_goes s job options start here w.looked w.gathered w.stands gone.0 (sym (c.in-Scalar.ensures.kind job.program w.course.cursor_is)) gone.1 in
    record {
      looked = w.looked;
      gathered = w.gathered;
      course = gone.3;
      stands = subst (λ (k : Cursor). Stands s job options start k w.looked w.gathered) (sym gone.2) goes.stands;
      has_looked = w.has_looked;
    }

pub returns-in-Scalar-clause-falls : goal.returns-in-Scalar-clause-falls
returns-in-Scalar-clause-falls g c = λ is.
    let s = signs g.G.Signature.EXACT g.G.Signature.holds g.G.Signature.nothing g.G.Signature.with_note in
    let job = c.args.job.now in
    let options = c.args.plan.now.options in
    let here = c.args.self.now.course.cursor in
    let start = c.requires.stands.0 in
    let w = c.requires.stands.1 in
    let gone = c.scalar.ensures.goes is in
    subst (λ (k : Cursor). length (comes s job options k) < length (comes s job options here)) (sym gone.2)
    (scalar_goes s job options start here w.looked w.gathered w.stands gone.0 (sym (c.in-Scalar.ensures.kind job.program w.course.cursor_is)) gone.1).less

pub returns-in-Scalar-clause-ends : goal.returns-in-Scalar-clause-ends
returns-in-Scalar-clause-ends g c = λ is start w.
    let s = signs g.G.Signature.EXACT g.G.Signature.holds g.G.Signature.nothing g.G.Signature.with_note in
    let job = c.args.job.now in
    let options = c.args.plan.now.options in
    let here = c.args.self.now.course.cursor in
    let stuck = c.scalar.ensures.traps is in
    record {
      looked = w.looked;
      gathered = w.gathered;
      reaches = opened (nest_in job) w.gathered here.next w.stands.opens;
      has_looked = w.has_looked;
      whole = ends_whole s job options start (w.looked ++ cut_off w.gathered) (scalar_ends s job options start here w.looked w.gathered w.stands stuck.0 (sym (c.in-Scalar.ensures.kind job.program w.course.cursor_is)) stuck.1);
    }

pub returns-in-Drain-clause-goes : goal.returns-in-Drain-clause-goes
returns-in-Drain-clause-goes g c = λ is start w.
    let s = signs g.G.Signature.EXACT g.G.Signature.holds g.G.Signature.nothing g.G.Signature.with_note in
    let job = c.args.job.now in
    let options = c.args.plan.now.options in
    let old = c.args.self.now.course in
    let new = c.drain.new.self in
    let gone = subst (λ (k : Course). (rest : Cursor) × (k.is_reached ≡ true) × (after_event (arrays_of job.program.decls) k.cursor k.words.words ≡ Ok rest) × (new.cursor ≡ rest) × IsCourse job new) c.cut.ensures.course (c.drain.ensures.goes is) in
    let goes = drain_goes s job options start old.cursor w.looked w.gathered w.stands (sym (c.in-Drain.ensures.kind job.program w.course.cursor_is)) old.words.words gone.0 (gets_words job old w.course gone.1) gone.2 in
    record {
      looked = w.looked ++ cut_off w.gathered;
      gathered = [];
      course = gone.4;
      stands = subst (λ (k : Cursor). Stands s job options start k (w.looked ++ cut_off w.gathered) []) (sym gone.3) goes.stands;
      has_looked = c.cut.ensures.looked job options start w.looked w.gathered (opened (nest_in job) w.gathered old.cursor.next w.stands.opens) w.has_looked;
    }

pub returns-in-Drain-clause-falls : goal.returns-in-Drain-clause-falls
returns-in-Drain-clause-falls g c = λ is.
    let s = signs g.G.Signature.EXACT g.G.Signature.holds g.G.Signature.nothing g.G.Signature.with_note in
    let job = c.args.job.now in
    let options = c.args.plan.now.options in
    let old = c.args.self.now.course in
    let new = c.drain.new.self in
    let start = c.requires.stands.0 in
    let w = c.requires.stands.1 in
    let gone = subst (λ (k : Course). (rest : Cursor) × (k.is_reached ≡ true) × (after_event (arrays_of job.program.decls) k.cursor k.words.words ≡ Ok rest) × (new.cursor ≡ rest) × IsCourse job new) c.cut.ensures.course (c.drain.ensures.goes is) in
    subst (λ (k : Cursor). length (comes s job options k) < length (comes s job options old.cursor)) (sym gone.3)
    (drain_goes s job options start old.cursor w.looked w.gathered w.stands (sym (c.in-Drain.ensures.kind job.program w.course.cursor_is)) old.words.words gone.0 (gets_words job old w.course gone.1) gone.2).less

pub returns-in-Drain-clause-ends : goal.returns-in-Drain-clause-ends
returns-in-Drain-clause-ends g c = λ is start w.
    let s = signs g.G.Signature.EXACT g.G.Signature.holds g.G.Signature.nothing g.G.Signature.with_note in
    let job = c.args.job.now in
    let options = c.args.plan.now.options in
    let old = c.args.self.now.course in
    let stuck = subst (λ (k : Course). k.is_reached ≡ true → (trap : Trap) × (after_event (arrays_of job.program.decls) k.cursor k.words.words ≡ Err trap)) c.cut.ensures.course (c.drain.ensures.traps is) in
    let ended = drain_ends s job options start old.cursor w.looked w.gathered w.stands (sym (c.in-Drain.ensures.kind job.program w.course.cursor_is)) (drain_stops job old w.course stuck) in
    record {
      looked = w.looked ++ cut_off w.gathered;
      gathered = [];
      reaches = λ some. absurd (omega (arith, some));
      has_looked = c.cut.ensures.looked job options start w.looked w.gathered (opened (nest_in job) w.gathered old.cursor.next w.stands.opens) w.has_looked;
      whole = λ p. ends_cut s job options start (w.looked ++ cut_off w.gathered) p (ends_whole s job options start (w.looked ++ cut_off w.gathered) ended p);
    }

pub returns-in-End-clause-ends : goal.returns-in-End-clause-ends
returns-in-End-clause-ends g c = λ is start w.
    let s = signs g.G.Signature.EXACT g.G.Signature.holds g.G.Signature.nothing g.G.Signature.with_note in
    let job = c.args.job.now in
    let options = c.args.plan.now.options in
    let here = c.args.self.now.course.cursor in
    record {
      looked = w.looked;
      gathered = w.gathered;
      reaches = opened (nest_in job) w.gathered here.next w.stands.opens;
      has_looked = w.has_looked;
      whole = ends_whole s job options start (w.looked ++ cut_off w.gathered) (end_ends s job options start here w.looked w.gathered w.stands (sym (c.in-End.ensures.kind job.program w.course.cursor_is)));
    }
