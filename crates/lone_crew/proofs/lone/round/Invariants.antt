use Rattle.std.proofs.Common.{◌≡◌, ◌≤◌, vec_capacity}
use Rattle.progress_board.specs.Rotation.{up_to, GoesOn}
use Rattle.lone_crew.proofs.lone.round.Given as goal

abbrev pub invariant-loop-actor : goal.invariant-loop-actor
invariant-loop-actor g l = record {
  goes : GoesOn g.M.Machine.step l.fn.machine l.fn.history.items (up_to l.actor) l.machine l.history.items;
  kept : g.M.Machine.options_of l.machine ≡ g.M.Machine.options_of l.fn.machine;
  capacity : vec_capacity l.fn.history ≤ vec_capacity l.history;
}
