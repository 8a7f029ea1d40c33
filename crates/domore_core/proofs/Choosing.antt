-- The move of a worker by its stage, and the scheduler's by the kind of its event.
use Rattle.std.proofs.Common.{◌≡◌, ℕ, ◌%◌, ℤ, Bool, true, false, if◌then◌else◌, nat_lt, Option, Some, None, List, [], ◌∷◌, length, refl, sym, ap, ◌∙◌, subst}
use Rattle.std.specs.Option.{option_map}
use Rattle.std.specs.List.{list_all}
use Rattle.nest_syntax.specs.Arrays.{Array}
use Rattle.settle_law.specs.Tasks.{Stop, Loads, Stores, Goes, Finishes, Traps}
use Rattle.sched_cursor.specs.declared.event.Event.{Event}
use Rattle.sched_cursor.specs.declared.event.Event.TheVariants as event
use Rattle.sched_cursor.specs.declared.event.Iteration.{Iteration}
use Rattle.sched_cursor.specs.Cursor.{Cursor}
use Rattle.sched_cursor.specs.Events.{kind_of, event_of, event_at, purpose_at, after_at, handed_at, trap_in, cursor_or}
use Rattle.task_frame.specs.declared.piece.Piece.{Piece}
use Rattle.domore_machine.specs.Machine.{Setup, Hand, Idle, Holding, Ended, Ticket, DoDrain, DoDispatch, DoTake, DoPass, DoDropHeld, DoDropQueued, DoEnd, is_above, done_at, seat_at, all_finished, stop_move, worker_move, event_move}
use Rattle.domore_core.specs.declared.moves.Move.{Move as Told}
use Rattle.domore_core.specs.declared.moves.Move.TheVariants.{Turn, Hop}
use Rattle.domore_core.specs.declared.moves.Turn.TheVariants as turn
use Rattle.domore_core.specs.Moves.{told}
use Rattle.domore_core.specs.Stages.{stage_in, stage_move}
use Rattle.domore_core.specs.Engine.{Stand}

map-if : {A B : Type 0} (f : A → B) (b : Bool) (x y : Option A) → option_map f (if b then x else y) ≡ (if b then option_map f x else option_map f y)
map-if f true x y = refl
map-if f false x y = refl

module _ (m : Setup Iteration Cursor Piece) (s : Stand) where
  hops : (k : ℕ) (stop : Stop Piece) → told (stop_move m k stop) ≡ Hop
  hops k (Loads w next) = refl
  hops k (Stores w value next) = refl
  hops k (Goes next) = refl
  hops k Finishes = refl
  hops k (Traps cause line) = refl

  pub move-by_stage : (hand : Hand Piece) (queue : List (Ticket Iteration)) → option_map told (worker_move m s hand queue) ≡ stage_move s (stage_in hand queue)
  move-by_stage Idle [] = map-if told s.halted (Some DoEnd) None
  move-by_stage Idle (ticket ∷ queue) = map-if told (is_above s.trap ticket.number) (Some (DoDropQueued ticket queue)) (Some (DoTake ticket queue))
  move-by_stage (Holding k [] piece) queue =
      map-if told (is_above s.trap k) (Some (DoDropHeld k)) (Some (stop_move m k (m.system.stop piece)))
      ∙ ap (λ (t : Told). if is_above s.trap k then Some (Turn turn.DropHeld) else Some t) (hops k (m.system.stop piece))
  move-by_stage (Holding k (w ∷ left) piece) queue =
      map-if told (is_above s.trap k) (Some (DoDropHeld k)) (if nat_lt w.number (done_at s.seats w.worker) then Some (DoPass k w left piece) else None)
      ∙ ap (λ (o : Option Told). if is_above s.trap k then Some (Turn turn.DropHeld) else o) (map-if told (nat_lt w.number (done_at s.seats w.worker)) (Some (DoPass k w left piece)) None)
  move-by_stage Ended queue = refl

  -- the scheduler's move by the kind of the event
  abbrev pub kind_move : Event → Option Told
  kind_move event.Scalar = Some (Turn turn.Scalar)
  kind_move event.Drain = if all_finished m.width s.seats s.next then Some (Turn turn.Drain) else None
  kind_move event.Iterate = if nat_lt (length (seat_at s.seats (s.next % m.width)).queue) m.room then Some (Turn turn.Dispatch) else None
  kind_move event.Close = Some (Turn turn.Scalar)
  kind_move event.End = Some (Turn turn.Halt)

  module _ (arrays : List Array) (opening : List ℤ) (c : Cursor) where
    by_kind : (kind : Event) → option_map told (event_move m s (event_of kind (purpose_at c c.at) (λ words. after_at arrays c words c.at) (handed_at c c.at) opening c)) ≡ kind_move kind
    by_kind event.Scalar = refl
    by_kind event.Drain = map-if told (all_finished m.width s.seats s.next) (Some (DoDrain (purpose_at c c.at) (trap_in (after_at arrays c s.words c.at)) (cursor_or c (after_at arrays c s.words c.at)))) None
    by_kind event.Iterate = map-if told (nat_lt (length (seat_at s.seats (s.next % m.width)).queue) m.room) (Some (DoDispatch (handed_at c c.at) (cursor_or c (after_at arrays c opening c.at)))) None
    by_kind event.Close = refl
    by_kind event.End = refl

    pub event_told : (kind : Event) → kind ≡ kind_of arrays c → option_map told (event_move m s (event_at arrays opening c)) ≡ kind_move kind
    event_told kind is = subst (λ (k : Event). option_map told (event_move m s (event_of k (purpose_at c c.at) (λ words. after_at arrays c words c.at) (handed_at c c.at) opening c)) ≡ kind_move kind) is (by_kind kind)
