use Rattle.std.proofs.Common.{◌≡◌, ◌≤◌, None, slice_index_or, length}
use Rattle.domore_machine.specs.Waits.{waits_with}
use Rattle.domore_core.proofs.wait.listed_waits.Given as goal

abbrev pub invariant-workers : goal.invariant-workers
invariant-workers l = record {
  waits : l.waits.items ≡ waits_with (λ u. slice_index_or l.by_worker u None) 8 l.worker;
  few : length l.waits.items ≤ l.worker;
}
