use Rattle.std.proofs.Common.{refl}
use Rattle.nest_runtime.proofs.Driven.{ran_told, crew_agrees}
use Rattle.nest_runtime.proofs.runs.drive_crew.Goals as goal

pub returns : goal.returns
returns g c =
    let m = g.M.Machine in
    ran_told m.step m.is_finished m.ending_of m.words_of m.facts_of c.told.result c.args.machine c.lone_run.new.machine _ c.lone_run.new.history.items refl
    (crew_agrees m.step c.args.machine c.in_ok-machine.machine c.lone_run.new.machine c.in_ok-machine.history.items c.lone_run.new.history.items c.in_ok-machine.ensures c.in_ok-lone_run.ensures.agrees)
    c.in_ok-lone_run.ensures.finished c.told.ensures.outcome c.told.ensures.facts c.told.ensures.history
