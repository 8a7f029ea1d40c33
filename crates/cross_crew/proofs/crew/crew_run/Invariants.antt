use Rattle.std.specs.Prelude.{Some}
use Rattle.cross_crew.proofs.crew.crew_run.Given as goal

-- the machine that was handed in
abbrev pub ghosts-run_from : goal.ghosts-run_from
ghosts-run_from g a = record { first = Some a.machine }
