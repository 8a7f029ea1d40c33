use Rattle.std.proofs.Common.{◌≡◌, ◌+◌, length, sym, ap, ◌∙◌, subst, arith, length-append, rules, SFits, w64}
use mir.Val.{to_z, of_z}
use Rattle.std.proofs.lemmas.Int.{to_z-of_z}
use Rattle.nest_syntax.proofs.Inductions.{each_both}
use Rattle.nest_syntax.specs.Among.{Each}
use Rattle.nest_syntax.specs.declared.tree.Program.{Program}
use Rattle.sched_cursor.specs.Cursor.{Cursor}
use Rattle.sched_cursor.specs.Laws.{IsCursorOf}
use Rattle.spec_core.specs.Tallies.{Tallied}
use Rattle.spec_core.specs.Tables.{IsFresh, IsEpochBy}
use Rattle.spec_core.proofs.Entering.{fresh_behind, epoch_by}
use Rattle.spec_core.proofs.desk.Desk.open.Goals as goal

pub returns-clause-desk : goal.returns-clause-desk
returns-clause-desk c =
    let plan = c.args.plan.now in
    let old = c.args.self.now in
    let desk = c.requires.desk in
    let here = c.here-here.result in
    let low : SFits w64 here.low = search rules in
    let told = c.here-here.ensures.few plan.job.program desk.cursor_is in
    let cursor_is = subst (λ (p : Program). IsCursorOf p c.pass_all.new.self) c.checked.ensures.same c.pass_all.ensures.of in
    let epoch = epoch_by plan old.cursor c.pass_all.new.self here c.index.result.now c.env.result c.requires.plan cursor_is c.requires.inside desk.fresh c.here-here.ensures.there c.pass_all.ensures.passed
    (omega (arith, told.2, c.requires.plan.bodies)) told.1 c.here-here.ensures.reach c.index.ensures in
    let added : length c.push.new.self ≡ length old.epochs + 1 = ap length c.push.ensures ∙ length-append old.epochs _ in
    record {
      cursor_is = cursor_is;
      fresh = subst (λ (d : Cursor). IsFresh d.at) (sym c.pass_all.ensures.passed) (fresh_behind old.cursor old.cursor.at c.requires.inside);
      options = ap (λ (t : Tallied). t.options) c.open_epoch.ensures ∙ desk.options;
      epochs = subst (Each (IsEpochBy plan)) (sym c.push.ensures) (each_both (IsEpochBy plan) old.epochs _ desk.epochs (
        subst (λ n. IsEpochBy plan (record { body = here.body; first = n; low = to_z w64 (of_z w64 here.low); step = here.step; trips = here.trips; all = c.index.result.now; env = c.env.result })) (sym c.next.ensures.same)
            (subst (λ l. IsEpochBy plan (record { body = here.body; first = old.cursor.next; low = l; step = here.step; trips = here.trips; all = c.index.result.now; env = c.env.result })) (sym (to_z-of_z w64 here.low low)) epoch),
        tt,
      ));
      few = omega (arith, added, c.requires.room);
    }
