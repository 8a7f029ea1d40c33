use Rattle.std.proofs.Common.{◌≡◌, ◌++◌, drop}
use Rattle.std.specs.List.{flat_map}
use Rattle.nest_report.specs.Report.{rollback_line}
use Rattle.nest_report.proofs.report.add_rollbacks.Given as goal

-- what is written and the rollbacks that are left are all lines
abbrev pub invariant-lines : goal.invariant-lines
invariant-lines l = l.text.items ++ flat_map (rollback_line l.checked) (drop l.rollback-index l.rollbacks) ≡ l.fn.text.items ++ flat_map (rollback_line l.checked) l.rollbacks
