use Rattle.std.proofs.Common.{◌≡◌, length, [], ◌++◌, sym, ap, ◌∙◌, subst, arith}
use Rattle.spec_machine.specs.Segments.{cut_off}
use Rattle.spec_core.specs.Signatures.{signs}
use Rattle.spec_core.specs.Engine.{nest_in}
use Rattle.nest_profile.specs.declared.course.Course.{Course}
use Rattle.nest_profile.specs.Iterations.{IsCourse}
use Rattle.nest_profile.specs.Walked.{Stands}
use Rattle.nest_profile.proofs.Standing.{gets, gets_not, opened, ends_cut}
use Rattle.nest_profile.proofs.Walking.{full_goes, full_ends}
use Rattle.nest_profile.proofs.walk.Walk.make_room.Goals as goal

pub returns-clause-goes : goal.returns-clause-goes
returns-clause-goes g c = λ is job start w.
    let s = signs g.G.Signature.EXACT g.G.Signature.holds g.G.Signature.nothing g.G.Signature.with_note in
    let options = c.args.plan.now.options in
    let old = c.args.self.now in
    let here = c.cut.ensures.course in
    let full : length w.gathered ≡ options.segment = omega (arith, c.if-self-from.false, c.from.ensures, w.has_looked.counts, w.has_looked.few) in
    let gets_there = gets job old.course w.course (sym (ap (λ (k : Course). k.is_reached) here) ∙ is) in
    let has = c.cut.ensures.looked job options start w.looked w.gathered (opened (nest_in job) w.gathered old.course.cursor.next w.stands.opens) w.has_looked in (
      record {
        looked = w.looked ++ cut_off w.gathered;
        gathered = [];
        course = subst (IsCourse job) (sym here) w.course;
        stands = subst (λ (k : Course). Stands s job options start k.cursor (w.looked ++ cut_off w.gathered) []) (sym here) (full_goes s job options start old.course.cursor w.looked w.gathered w.stands full c.requires.some gets_there);
        has_looked = has;
      },
      omega (arith, has.counts, c.requires.some),
    )

pub returns-clause-ends : goal.returns-clause-ends
returns-clause-ends g c = λ is job start w.
    let s = signs g.G.Signature.EXACT g.G.Signature.holds g.G.Signature.nothing g.G.Signature.with_note in
    let options = c.args.plan.now.options in
    let old = c.args.self.now in
    let full : length w.gathered ≡ options.segment = omega (arith, c.if-self-from.false, c.from.ensures, w.has_looked.counts, w.has_looked.few) in
    let none = gets_not job old.course w.course (sym (ap (λ (k : Course). k.is_reached) c.cut.ensures.course) ∙ is) in
    record {
      looked = w.looked ++ cut_off w.gathered;
      gathered = [];
      reaches = λ some. absurd (omega (arith, some));
      has_looked = c.cut.ensures.looked job options start w.looked w.gathered (opened (nest_in job) w.gathered old.course.cursor.next w.stands.opens) w.has_looked;
      whole = λ p. ends_cut s job options start (w.looked ++ cut_off w.gathered) p (full_ends s job options start old.course.cursor w.looked w.gathered w.stands full c.requires.some none p);
    }
