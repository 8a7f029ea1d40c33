use Rattle.std.proofs.Common.{◌≡◌, ◌≤◌, take, vec_capacity}
use Rattle.lone_crew.specs.Turns.{Makes}
use Rattle.lone_crew.proofs.strict.make_steps.Given as goal

abbrev pub invariant-loop-number : goal.invariant-loop-number
invariant-loop-number g l = record {
  made : Makes g.M.Machine.step l.fn.machine l.fn.history.items (take l.number l.steps) l.machine l.history.items;
  kept : g.M.Machine.options_of l.machine ≡ g.M.Machine.options_of l.fn.machine;
  capacity : vec_capacity l.fn.history ≤ vec_capacity l.history;
}
