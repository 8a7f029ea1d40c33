use Rattle.nest_mean.proofs.Scan.{IsToldBehind}
use Rattle.nest_mean.proofs.events.is_written.Given as goal

abbrev pub invariant-loop-decl : goal.invariant-loop-decl
invariant-loop-decl l = IsToldBehind l.decls l.name l.decl-index
