use Rattle.std.proofs.Common.{◌≡◌, ◌≤◌, take, vec_capacity}
use Rattle.progress_board.specs.Rotation.{GoesOn}
use Rattle.lone_crew.proofs.lone.follow.Given as goal

abbrev pub invariant-loop-entry : goal.invariant-loop-entry
invariant-loop-entry g l = record {
  goes : GoesOn g.M.Machine.step l.fn.machine l.fn.history.items (take l.entry-index l.schedule) l.machine l.history.items;
  kept : g.M.Machine.options_of l.machine ≡ g.M.Machine.options_of l.fn.machine;
  capacity : vec_capacity l.fn.history ≤ vec_capacity l.history;
}
