use Rattle.nest_runtime.proofs.Driven.{ran_told}
use Rattle.nest_runtime.proofs.runs.drive_alone.Goals as goal

pub returns-clause-run : goal.returns-clause-run
returns-clause-run g c =
    let m = g.M.Machine in
    ran_told m.step m.is_finished m.ending_of m.words_of m.facts_of c.told.result c.args.machine c.lone_run.new.machine c.new-history.result.items c.lone_run.new.history.items c.new-history.ensures.items
    c.in_ok-lone_run.ensures.agrees c.in_ok-lone_run.ensures.finished c.told.ensures.outcome c.told.ensures.facts c.told.ensures.history
