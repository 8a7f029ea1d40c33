use Rattle.std.proofs.Common.{◌≡◌, ℕ, ◌+◌, ◌≤◌, vec_capacity}
use Rattle.progress_board.specs.Rotation.{rounds, GoesOn}
use Rattle.lone_crew.proofs.lone.rotate.Given as goal

abbrev pub invariant-rounds : goal.invariant-rounds
invariant-rounds g l = record {
  count : ℕ;
  goes : GoesOn g.M.Machine.step l.fn.machine l.fn.history.items (rounds l.actors count) l.machine l.history.items;
  few : count + g.M.Machine.measure l.machine ≤ g.M.Machine.measure l.fn.machine;
  kept : g.M.Machine.options_of l.machine ≡ g.M.Machine.options_of l.fn.machine;
  capacity : vec_capacity l.fn.history ≤ vec_capacity l.history;
}

abbrev pub decreases-rounds : goal.decreases-rounds
decreases-rounds g l = g.M.Machine.measure l.machine
