use Rattle.std.proofs.Common.{◌≡◌, ◌++◌, drop}
use Rattle.std.specs.List.{flat_map}
use Rattle.nest_report.specs.Report.{wait_line}
use Rattle.nest_report.proofs.report.add_waits.Given as goal

-- what is written and the waits that are left are all lines
abbrev pub invariant-loop-wait : goal.invariant-loop-wait
invariant-loop-wait l = l.text.items ++ flat_map wait_line (drop l.wait-index l.waits) ≡ l.fn.text.items ++ flat_map wait_line l.waits
