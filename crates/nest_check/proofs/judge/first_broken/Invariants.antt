use Rattle.std.proofs.Common.{◌≡◌, drop}
use Rattle.nest_check.specs.Noted.{first_broken}
use Rattle.nest_check.proofs.judge.first_broken.Given as goal

abbrev pub invariant-loop-rule : goal.invariant-loop-rule
invariant-loop-rule l = first_broken (drop l.rule-index l.rules) ≡ first_broken l.rules
