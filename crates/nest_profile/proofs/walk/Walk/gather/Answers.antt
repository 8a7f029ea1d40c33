use Rattle.std.proofs.Common.{◌<◌, length, [], ◌∷◌, ◌++◌, sym, subst, arith}
use Rattle.sched_cursor.specs.Cursor.{Cursor}
use Rattle.spec_core.specs.Signatures.{signs}
use Rattle.nest_profile.specs.Walked.{Stands, comes, entered_at}
use Rattle.nest_profile.proofs.Meeting.{stands_at}
use Rattle.nest_profile.proofs.Standing.{next_ones, goes_behind, row_inside, wide_there, even_there, blank_there, one_more}
use Rattle.nest_profile.proofs.walk.Walk.gather.Goals as goal

pub cross-requires : goal.cross-requires
cross-requires g c =
    let s = signs g.G.Signature.EXACT g.G.Signature.holds g.G.Signature.nothing g.G.Signature.with_note in
    let sizes_of = g.G.Signature.sizes_of in
    let job = c.args.job.now in
    let options = c.args.plan.now.options in
    let old = c.args.self.now in
    let start = c.requires.stands.0 in
    let w = c.requires.stands.1 in
    let row = c.index_mut.result.now in
    let low = row_inside s job options start sizes_of old.rows.items old.count old.best w.looked w.gathered w.has_looked c.requires.room in
    let there = stands_at old.rows.items old.count row low c.index_mut.ensures.value in
    record {
      plan = c.requires.plan;
      course = w.course;
      inside = c.requires.inside;
      fresh = w.stands.good.fresh;
      next = next_ones s job options start old.course.cursor w.looked w.gathered w.stands c.requires.inside;
      wide = wide_there s job options start sizes_of old.rows.items old.count old.best w.looked w.gathered w.has_looked c.requires.room row there;
      even = even_there s job options start sizes_of old.rows.items old.count old.best w.looked w.gathered w.has_looked c.requires.room row there;
      blank = blank_there s job options start sizes_of old.rows.items old.count old.best w.looked w.gathered w.has_looked c.requires.room row there;
    }

pub returns-clause-goes : goal.returns-clause-goes
returns-clause-goes g c = λ start w.
    let s = signs g.G.Signature.EXACT g.G.Signature.holds g.G.Signature.nothing g.G.Signature.with_note in
    let job = c.args.job.now in
    let options = c.args.plan.now.options in
    let old = c.args.self.now in
    let x = entered_at old.course.cursor old.course.cursor.at in
    let room : length w.gathered < options.segment = omega (arith, c.requires.room, w.has_looked.counts) in
    let crossed = c.cross.ensures in
    let goes = goes_behind s job options start old.course.cursor w.looked w.gathered w.stands c.requires.inside room in
    record {
      looked = w.looked;
      gathered = w.gathered ++ x ∷ [];
      course = crossed.course;
      stands = subst (λ (k : Cursor). Stands s job options start k w.looked (w.gathered ++ x ∷ [])) (sym crossed.cursor) goes.stands;
      has_looked = one_more s job options start g.G.Signature.sizes_of old.rows.items old.count old.best w.looked w.gathered w.has_looked c.requires.room c.cross.new.row x crossed.wide crossed.even crossed.hulls;
    }

pub returns-clause-falls : goal.returns-clause-falls
returns-clause-falls g c =
    let s = signs g.G.Signature.EXACT g.G.Signature.holds g.G.Signature.nothing g.G.Signature.with_note in
    let job = c.args.job.now in
    let options = c.args.plan.now.options in
    let here = c.args.self.now.course.cursor in
    let w = c.requires.stands.1 in
    let room : length w.gathered < options.segment = omega (arith, c.requires.room, w.has_looked.counts) in
    subst (λ (k : Cursor). length (comes s job options k) < length (comes s job options here)) (sym c.cross.ensures.cursor)
    (goes_behind s job options c.requires.stands.0 here w.looked w.gathered w.stands c.requires.inside room).less
