use Rattle.std.proofs.Common.{◌≡◌, Some, [], ◌∷◌, ◌++◌, map, length, sym, ap, ◌∙◌, subst}
use Rattle.spec_checker.specs.Order.{Pair as Names}
use Rattle.spec_checker.specs.Due.{IsReached}
use Rattle.spec_machine.specs.Facts.{Pair, checked}
use Rattle.spec_core.specs.Signatures.{signs}
use Rattle.spec_core.specs.Hands.{Bench}
use Rattle.spec_core.specs.Passed.{pair_in, passed_in}
use Rattle.spec_core.specs.Tallies.{Tallied}
use Rattle.spec_core.specs.Engine.{Stand}
use Rattle.spec_core.specs.Tables.{state_of}
use Rattle.spec_core.proofs.Checking.{pair, late_begun, early_begun, unpassed_is, late_reached, passed_more}
use Rattle.spec_core.proofs.table.Table.check.Goals as goal

pub overlap-requires-clause-early : goal.overlap-requires-clause-early
overlap-requires-clause-early g c = (pair (signs g.G.Signature.EXACT g.G.Signature.holds g.G.Signature.nothing g.G.Signature.with_note) _ c.args.plan.now c.args.self.now c.requires.sound c.requires.goes _ (sym c.in-Some.ensures)).early_own

pub overlap-requires-clause-late : goal.overlap-requires-clause-late
overlap-requires-clause-late g c = (pair (signs g.G.Signature.EXACT g.G.Signature.holds g.G.Signature.nothing g.G.Signature.with_note) _ c.args.plan.now c.args.self.now c.requires.sound c.requires.goes _ (sym c.in-Some.ensures)).late_own

pub overlap-requires-clause-begun : goal.overlap-requires-clause-begun
overlap-requires-clause-begun g c = early_begun (signs g.G.Signature.EXACT g.G.Signature.holds g.G.Signature.nothing g.G.Signature.with_note) _ c.args.plan.now c.args.self.now c.requires.sound c.requires.goes _ (sym c.in-Some.ensures)

pub overlap-requires-clause-begun_too : goal.overlap-requires-clause-begun_too
overlap-requires-clause-begun_too g c = late_begun (signs g.G.Signature.EXACT g.G.Signature.holds g.G.Signature.nothing g.G.Signature.with_note) _ c.args.plan.now c.args.self.now c.requires.sound c.requires.goes _ (sym c.in-Some.ensures)

pub pass-requires : goal.pass-requires
pass-requires g c = unpassed_is (signs g.G.Signature.EXACT g.G.Signature.holds g.G.Signature.nothing g.G.Signature.with_note) _ c.args.plan.now c.args.self.now c.requires.sound c.requires.goes _ (sym c.in-Some.ensures)

pub returns-in-None-clause-passes : goal.returns-in-None-clause-passes
returns-in-None-clause-passes g c = λ p is apart.
    let s = signs g.G.Signature.EXACT g.G.Signature.holds g.G.Signature.nothing g.G.Signature.with_note in
    let old = c.args.self.now in
    let found = sym c.in-Some.ensures in
    let same : pair_in (c.in-Some.early, c.in-Some.late) ≡ p = (let both : Some (pair_in (c.in-Some.early, c.in-Some.late)) ≡ Some p = sym found ∙ is in cc) in
    (λ i. let t : Stand g.row.G.Denot = record (state_of old) { passed = passed_in (length old.seats.items) (length old.desk.epochs) old.seen.items (c.pass.ensures i); facts = (c.check.ensures i).facts } in t)
    ∙ (λ i. let t : Stand g.row.G.Denot = record (state_of old) { passed = passed_more s _ c.args.plan.now old c.requires.sound c.requires.goes (pair_in (c.in-Some.early, c.in-Some.late)) found i; facts = checked old.desk.tally.facts } in t)
    ∙ ap (λ (q : Pair). let t : Stand g.row.G.Denot = record (state_of old) { passed = (state_of old).passed ++ q ∷ []; facts = checked old.desk.tally.facts } in t) same

pub returns-in-None-clause-sound : goal.returns-in-None-clause-sound
returns-in-None-clause-sound g c =
    let s = signs g.G.Signature.EXACT g.G.Signature.holds g.G.Signature.nothing g.G.Signature.with_note in
    let sound = c.requires.sound in
    record {
      seats = sound.seats;
      benches = sound.benches;
      seen = sound.seen;
      sizes = sound.sizes;
      mark = sound.mark;
      desk = record { cursor_is = sound.desk.cursor_is; fresh = sound.desk.fresh; options = ap (λ (t : Tallied). t.options) c.check.ensures ∙ sound.desk.options; epochs = sound.desk.epochs; few = sound.desk.few };
      near = sound.near;
      reached = λ names last.
          let same : (c.in-Some.early, c.in-Some.late) ≡ names = (let both : Some (c.in-Some.early, c.in-Some.late) ≡ Some names = sym c.pass.ensures ∙ last in cc) in
          subst (λ (q : Names). IsReached (map (λ (b : Bench g.row.G.Denot). b.done) c.args.self.now.seats.items) (length c.args.self.now.seats.items) q.1) same
          (late_reached s _ c.args.plan.now c.args.self.now c.requires.sound c.requires.goes (pair_in (c.in-Some.early, c.in-Some.late)) (sym c.in-Some.ensures));
    }
