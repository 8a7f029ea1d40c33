use Rattle.std.proofs.Common.{◌≡◌, ◌++◌, codes, drop}
use Rattle.nest_report.specs.Steps.{steps_from}
use Rattle.nest_report.proofs.steps.print_steps.Given as goal

-- what is written and the steps that are left are all
abbrev pub invariant-loop-index : goal.invariant-loop-index
invariant-loop-index l = l.text.items ++ steps_from l.index (drop l.index l.history) ≡ codes "steps" ++ steps_from 0 l.history
