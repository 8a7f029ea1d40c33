use Rattle.std.proofs.Common.{ℕ, Option, refl, sym, subst, arith}
use Rattle.sched_cursor.specs.Laws.{restarted}
use Rattle.progress_board.specs.declared.options.Options.{Options}
use Rattle.spec_core.specs.Signatures.{signs}
use Rattle.nest_profile.specs.Least.{IsLeastBy}
use Rattle.nest_profile.specs.Walked.{sizes_in}
use Rattle.nest_profile.proofs.Blaming.{least_blamed}
use Rattle.nest_profile.proofs.least.least_by.Goals as goal

pub events-preserved : goal.events-preserved
events-preserved g c =
    let i = c.events.invariant in
    (i.0, i.1, c.events-test.ensures.goes refl (restarted c.args.job.now.program i.0) i.2)

pub cut-requires-clause-even : goal.cut-requires-clause-even
cut-requires-clause-even g c =
    let i = c.events.invariant in
    (sizes_in c.args.job.now, (c.events-test.ensures.ends refl (restarted c.args.job.now.program i.0) i.2).has_looked.table.even)

pub cut-requires-clause-inside : goal.cut-requires-clause-inside
cut-requires-clause-inside g c =
    let i = c.events.invariant in
    let has = (c.events-test.ensures.ends refl (restarted c.args.job.now.program i.0) i.2).has_looked in
    omega (arith, has.counts, has.few, has.table.rows_for_each)

pub returns : goal.returns
returns g c =
    let s = signs g.G.Signature.EXACT g.G.Signature.holds g.G.Signature.nothing g.G.Signature.with_note in
    let job = c.args.job.now in
    let i = c.events.invariant in
    let start = restarted job.program i.0 in
    let options = c.in_ok-plan.plan.options in
    let e = c.events-test.ensures.ends refl start i.2 in
    let has = c.cut.ensures.looked job options start e.looked e.gathered e.reaches e.has_looked in
    subst (λ (o : Options). IsLeastBy s job o c.least.result) c.in_ok-plan.ensures.options
    (subst (λ (b : Option ℕ). IsLeastBy s job options b) (sym c.least.ensures) (least_blamed s job options i.0 i.1 _ c.cut.new.self.best e.whole has.least))
