use Rattle.std.proofs.Common.{◌≡◌, List, ℤ, sym, ap, ◌∙◌}
use Rattle.word_store.specs.Memory.{Memory}
use Rattle.nest_syntax.specs.Arrays.{arrays_of}
use Rattle.sched_cursor.specs.Events.{after_event, trap_in, cursor_or}
use Rattle.spec_machine.specs.Invocations.{Scalar}
use Rattle.spec_core.specs.Signatures.{signs}
use Rattle.spec_core.specs.Tables.{setup_by}
use Rattle.spec_core.proofs.Scheduling.{computes, passed_by}
use Rattle.spec_core.proofs.table.Table.scalar.Goals as goal

pub returns-clause-state : goal.returns-clause-state
returns-clause-state g c = λ purpose trap rest is.
    let plan = c.args.plan.now in
    let old = c.args.self.now in
    let arrays = arrays_of plan.job.program.decls in
    let told = computes arrays plan.job.opening.words old.desk.cursor (Scalar purpose trap rest) is in
    let words : c.words.result.now.words ≡ plan.job.opening.words = ap (λ (m : Memory). m.words) c.words.ensures.same in
    passed_by (setup_by (signs g.G.Signature.EXACT g.G.Signature.holds g.G.Signature.nothing g.G.Signature.with_note) plan) old c.pass.new.self arrays c.words.result.now.words purpose trap rest c.requires.outside c.pass.ensures.goes c.pass.ensures.traps
    told.0 (told.1 ∙ ap (λ (w : List ℤ). trap_in (after_event arrays old.desk.cursor w)) (sym words)) (told.2 ∙ ap (λ (w : List ℤ). cursor_or old.desk.cursor (after_event arrays old.desk.cursor w)) (sym words))
