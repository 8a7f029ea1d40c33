use Rattle.std.proofs.Common.{◌≡◌, true, None, sym, ap, ◌∙◌, subst}
use Rattle.nest_syntax.specs.declared.tree.Program.{Program}
use Rattle.nest_syntax.specs.Arrays.{arrays_of}
use Rattle.nest_syntax.specs.Course.{Purpose}
use Rattle.sched_cursor.specs.Events.{after_event, as_answer, placed}
use Rattle.sched_cursor.specs.Laws.{IsCursorOf}
use Rattle.spec_machine.specs.Facts.{computed}
use Rattle.spec_core.specs.declared.desk.Desk.{Desk}
use Rattle.spec_core.specs.Tallies.{Tallied}
use Rattle.spec_core.proofs.Behind.{went, has_gone}
use Rattle.spec_core.proofs.desk.Desk.pass.Goals as goal

pub returns-then-is_inside-clause-goes : goal.returns-then-is_inside-clause-goes
returns-then-is_inside-clause-goes c = λ rest is.
    let old = c.args.self.now in
    let moved = subst (λ (p : Program). as_answer None c.advance.new.self ≡ placed old.cursor.next (after_event (arrays_of p.decls) old.cursor c.args.words.now.words)) c.checked.ensures.same c.in-None.ensures.moved in
    let gone = has_gone (arrays_of c.args.plan.now.job.program.decls) c.args.words.now.words old.cursor c.advance.new.self rest true c.requires.outside moved is (sym c.if-is_inside.true ∙ c.is_inside.ensures) in
    λ i. let d : Desk = record old { cursor = gone.same i; tally = (c.enter.ensures ∙ ap (λ (q : Purpose). let t : Tallied = record old.tally { facts = computed q old.tally.facts } in t) (sym gone.purpose_is)) i } in d

pub returns-then-is_inside-clause-desk : goal.returns-then-is_inside-clause-desk
returns-then-is_inside-clause-desk c =
    let old = c.args.self.now in
    let moved = subst (λ (p : Program). as_answer None c.advance.new.self ≡ placed old.cursor.next (after_event (arrays_of p.decls) old.cursor c.args.words.now.words)) c.checked.ensures.same c.in-None.ensures.moved in
    let gone = has_gone (arrays_of c.args.plan.now.job.program.decls) c.args.words.now.words old.cursor c.advance.new.self c.advance.new.self true c.requires.outside moved (went old.cursor.next c.advance.new.self _ moved) (sym c.if-is_inside.true ∙ c.is_inside.ensures) in
    record {
      cursor_is = subst (λ (p : Program). IsCursorOf p c.advance.new.self) c.checked.ensures.same c.in-None.ensures.of;
      fresh = gone.fresh;
      options = ap (λ (t : Tallied). t.options) c.enter.ensures ∙ c.requires.desk.options;
      epochs = c.requires.desk.epochs;
      few = c.requires.desk.few;
    }
