use Rattle.std.proofs.Common.{◌≡◌, ap, ◌∙◌, subst, slice_set, arith}
use Rattle.nest_syntax.specs.declared.tree.Program.{Program}
use Rattle.sched_cursor.specs.Laws.{IsCursorOf}
use Rattle.spec_core.specs.Signatures.{signs}
use Rattle.nest_profile.proofs.Turned.{entered}
use Rattle.nest_profile.proofs.Crossing.{Crosses, block_count, left_enough, next_ones, crosses_next, inside_last, behind_last, course_last}
use Rattle.nest_profile.proofs.course.Course.cross.Goals as goal

pub note_task-requires-clause-left : goal.note_task-requires-clause-left
note_task-requires-clause-left g c =
    let s = signs g.G.Signature.EXACT g.G.Signature.holds g.G.Signature.nothing g.G.Signature.with_note in
    let start = c.args.self.now.cursor in
    let options = c.args.plan.now.options in
    let e = entered start.at c.requires.inside in
    let epoch = c.epoch_of-epoch in
    let counts = c.saturating_sub.ensures ∙ block_count epoch.result c.args.index c.loop-worker.worker options.workers _ _ c.requires.plan.some_worker epoch.ensures.trips (epoch.ensures.all c.args.job.now c.requires.plan) c.block_of-from.result c.block_of-from.ensures in
    left_enough s g.G.Signature.sizes_of c.args.job.now options start c.args.index c.requires.plan.some_worker e.0 e.1 c.requires.fresh c.loop-worker.worker c.loop-worker-test.true c.loop-worker.row c.loop-worker.self c.loop-worker.invariant c.saturating_sub.result counts

pub note_task-requires-clause-next : goal.note_task-requires-clause-next
note_task-requires-clause-next g c =
    let s = signs g.G.Signature.EXACT g.G.Signature.holds g.G.Signature.nothing g.G.Signature.with_note in
    let start = c.args.self.now.cursor in
    let options = c.args.plan.now.options in
    let e = entered start.at c.requires.inside in
    let epoch = c.epoch_of-epoch in
    let counts = c.saturating_sub.ensures ∙ block_count epoch.result c.args.index c.loop-worker.worker options.workers _ _ c.requires.plan.some_worker epoch.ensures.trips (epoch.ensures.all c.args.job.now c.requires.plan) c.block_of-from.result c.block_of-from.ensures in
    next_ones s g.G.Signature.sizes_of c.args.job.now options start c.args.index c.requires.plan.some_worker e.0 e.1 c.requires.fresh c.loop-worker.worker c.loop-worker-test.true c.loop-worker.row c.loop-worker.self c.loop-worker.invariant c.saturating_sub.result counts c.requires.next

pub loop-worker-preserved : goal.loop-worker-preserved
loop-worker-preserved g c =
    let s = signs g.G.Signature.EXACT g.G.Signature.holds g.G.Signature.nothing g.G.Signature.with_note in
    let start = c.args.self.now.cursor in
    let options = c.args.plan.now.options in
    let e = entered start.at c.requires.inside in
    let epoch = c.epoch_of-epoch in
    let counts = c.saturating_sub.ensures ∙ block_count epoch.result c.args.index c.loop-worker.worker options.workers _ _ c.requires.plan.some_worker epoch.ensures.trips (epoch.ensures.all c.args.job.now c.requires.plan) c.block_of-from.result c.block_of-from.ensures in
    let noted = c.note_task.ensures in
    crosses_next s g.G.Signature.sizes_of c.args.job.now options start c.args.index c.requires.plan.some_worker e.0 e.1 c.requires.fresh c.loop-worker.worker c.loop-worker-test.true c.loop-worker.row c.loop-worker.self c.loop-worker.invariant c.saturating_sub.result counts
    c.note_task.new.sign c.note_task.new.self _ (ap (λ k. slice_set c.loop-worker.row.signs.items k c.note_task.new.sign) c.from.ensures) noted.sign noted.sizes noted.cursor noted.course noted.scalars

pub pass_all-requires-clause-inside : goal.pass_all-requires-clause-inside
pass_all-requires-clause-inside g c =
    let s = signs g.G.Signature.EXACT g.G.Signature.holds g.G.Signature.nothing g.G.Signature.with_note in
    let job = c.args.job.now in
    let start = c.args.self.now.cursor in
    let options = c.args.plan.now.options in
    let e = entered start.at c.requires.inside in
    let all = subst (λ n. Crosses s g.G.Signature.sizes_of job options start c.args.index n c.loop-worker.row c.loop-worker.self) (let same : c.loop-worker.worker ≡ options.workers = omega (arith, c.loop-worker-test.false, c.loop-worker.auto.worker-end) in same) c.loop-worker.invariant in
    inside_last s g.G.Signature.sizes_of job options start c.args.index c.requires.plan.some_worker e.0 e.1 c.requires.fresh c.loop-worker.row c.loop-worker.self all

pub returns-clause-cursor : goal.returns-clause-cursor
returns-clause-cursor g c =
    let s = signs g.G.Signature.EXACT g.G.Signature.holds g.G.Signature.nothing g.G.Signature.with_note in
    let job = c.args.job.now in
    let start = c.args.self.now.cursor in
    let options = c.args.plan.now.options in
    let e = entered start.at c.requires.inside in
    let all = subst (λ n. Crosses s g.G.Signature.sizes_of job options start c.args.index n c.loop-worker.row c.loop-worker.self) (let same : c.loop-worker.worker ≡ options.workers = omega (arith, c.loop-worker-test.false, c.loop-worker.auto.worker-end) in same) c.loop-worker.invariant in
    c.pass_all.ensures.passed ∙ behind_last s g.G.Signature.sizes_of job options start c.args.index c.requires.plan.some_worker e.0 e.1 c.requires.fresh c.loop-worker.row c.loop-worker.self all

pub returns-clause-course : goal.returns-clause-course
returns-clause-course g c =
    let s = signs g.G.Signature.EXACT g.G.Signature.holds g.G.Signature.nothing g.G.Signature.with_note in
    let job = c.args.job.now in
    let start = c.args.self.now.cursor in
    let options = c.args.plan.now.options in
    let e = entered start.at c.requires.inside in
    let all = subst (λ n. Crosses s g.G.Signature.sizes_of job options start c.args.index n c.loop-worker.row c.loop-worker.self) (let same : c.loop-worker.worker ≡ options.workers = omega (arith, c.loop-worker-test.false, c.loop-worker.auto.worker-end) in same) c.loop-worker.invariant in
    course_last s g.G.Signature.sizes_of job options start c.args.index c.requires.plan.some_worker e.0 e.1 c.requires.fresh c.loop-worker.row c.loop-worker.self all c.pass_all.new.self (subst (λ (p : Program). IsCursorOf p c.pass_all.new.self) c.checked-2.ensures.same c.pass_all.ensures.of) c.pass_all.ensures.passed
