use Rattle.std.proofs.Common.{ap, ◌∙◌}
use Rattle.nest_syntax.specs.Arrays.{arrays_of}
use Rattle.spec_machine.specs.Invocations.{Drain}
use Rattle.spec_machine.specs.Machine.{scalar_after}
use Rattle.spec_core.specs.declared.desk.Desk.{Desk}
use Rattle.spec_core.specs.declared.table.Table.{Table}
use Rattle.spec_core.specs.Signatures.{signs}
use Rattle.spec_core.specs.Tallies.{Tallied}
use Rattle.spec_core.specs.Engine.{Stand}
use Rattle.spec_core.specs.Tables.{state_of, setup_by}
use Rattle.spec_core.proofs.Scheduling.{computes, passed_by}
use Rattle.spec_core.proofs.table.Table.drain.Goals as goal

pub returns-clause-state : goal.returns-clause-state
returns-clause-state g c = λ purpose traps rests is.
    let plan = c.args.plan.now in
    let old = c.args.self.now in
    let arrays = arrays_of plan.job.program.decls in
    let m = setup_by (signs g.G.Signature.EXACT g.G.Signature.holds g.G.Signature.nothing g.G.Signature.with_note) plan in
    let told = computes arrays plan.job.opening.words old.desk.cursor (Drain purpose traps rests) is in
    let drained : Table g.row.G.Denot = record old { desk = (let d : Desk = record old.desk { tally = c.drain.new.self } in d) } in
    passed_by m drained c.pass.new.self arrays old.words.words purpose (traps old.words.words) (rests old.words.words) c.requires.outside c.pass.ensures.goes c.pass.ensures.traps
    told.0 (told.1 old.words.words).0 (told.1 old.words.words).1
    ∙ ap (λ (t : Tallied). let s : Stand g.row.G.Denot = record (state_of old) { facts = t.facts } in scalar_after m s purpose (traps old.words.words) (rests old.words.words)) c.drain.ensures
