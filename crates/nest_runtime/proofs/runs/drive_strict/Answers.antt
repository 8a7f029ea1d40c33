use Rattle.nest_runtime.proofs.Driven.{run_told}
use Rattle.nest_runtime.proofs.runs.drive_strict.Goals as goal

pub returns-clause-run : goal.returns-clause-run
returns-clause-run g c =
    let m = g.M.Machine in
    let ran = c.in_ok-told.field-0 in
    run_told m.step m.is_finished m.ending_of m.words_of m.facts_of c.args.machine c.strict_run.new.machine c.new-history.result.items c.strict_run.new.history.items ran.history.items ran.outcome ran.facts c.new-history.ensures.items
    c.in_ok-strict_run.ensures.agrees c.in_ok-strict_run.ensures.finished c.in_ok-told.ensures.outcome c.in_ok-told.ensures.facts c.in_ok-told.ensures.history
