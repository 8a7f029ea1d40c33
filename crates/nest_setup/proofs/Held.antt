-- Along each history what is held is a piece of the code, and what is queued is of a body of the program.
use Rattle.std.proofs.Common.{◌≡◌, ℕ, ◌%◌, ◌^◌, ◌<◌, ◌≤◌, ℤ, Some, None, List, ◌++◌, length, slice_set, refl, sym, ap, ◌∙◌, subst, arith, ⊎_elim}
use Rattle.std.proofs.lemmas.Bool.{cases_lt, cases_eq}
use Rattle.std.proofs.lemmas.List.{get_or_past, get_or-replicate, length-set, length-replicate}
use Rattle.nest_syntax.specs.declared.tree.Program.{Program}
use Rattle.nest_syntax.specs.Arrays.{arrays_of, sizes_of, word_at}
use Rattle.nest_syntax.specs.Shape.{bodies_of}
use Rattle.addr_slice.specs.Claims.{Claimed}
use Rattle.settle_law.specs.Tasks.{Stop, Loads, Stores, Goes, Finishes, Traps}
use Rattle.settle_law.specs.Courses.{iteration_at, nest_of}
use Rattle.task_hop.specs.declared.frame.Frame.{Frame}
use Rattle.task_hop.specs.declared.frame.Register.TheVariants as register
use Rattle.task_hop.specs.declared.stop.Stop.{Stop as Stopped}
use Rattle.task_hop.specs.declared.stop.Stop.TheVariants as stop
use Rattle.task_hop.specs.Registers.{with_register}
use Rattle.task_code.specs.Code.{Code, entry_at, slot_at}
use Rattle.task_code.specs.Unfolded.{opening_frame}
use Rattle.task_frame.specs.declared.piece.Piece.{Piece}
use Rattle.task_frame.specs.Pieces.{piece_at, reached}
use Rattle.task_frame.specs.Stops.{IsInside, StopsInside}
use Rattle.sched_cursor.specs.declared.event.Iteration.{Iteration}
use Rattle.sched_cursor.specs.Cursor.{Cursor}
use Rattle.sched_cursor.specs.Handed.{what_of}
use Rattle.sched_cursor.specs.Laws.{restarted}
use Rattle.sched_cursor.proofs.Cursors.{cursors_stay}
use Rattle.sched_cursor.proofs.Inside.{bodies_inside}
use Rattle.domore_machine.specs.Machine.{Setup, State, Seat, Hand, Idle, Holding, Ended, Ticket, Move, DoScalar, DoClose, DoDrain, DoDispatch, DoHalt, DoTake, DoPass, DoRead, DoWrite, DoGo, DoFinish, DoTrap, DoDropHeld, DoDropQueued, DoEnd, opening_seat, seat_at, seat_after, seat_with, ticket_of, opening, state_after}
use Rattle.domore_machine.specs.Theorems.{Leads}
use Rattle.domore_machine.specs.Invariant.{Rises, held_number, queued_numbers}
use Rattle.domore_machine.proofs.Guards.{Guard}
use Rattle.domore_machine.proofs.Seats.{each_map, seat_same, seat_other}
use Rattle.nest_setup.specs.Pieces.{stop_told, stop_of, in_places}
use Rattle.nest_setup.specs.Setups.{setup_of}
use Rattle.nest_setup.specs.Ahead.{HandGoesOn, SeatGoesOn, SeatsGoOn}
use Rattle.nest_setup.proofs.Right.{entries_of_bodies}
use Rattle.nest_setup.proofs.Costs.{setups_keep, body_costs_bound}
use Rattle.nest_setup.proofs.Along.{along}
use Rattle.nest_setup.proofs.Courses.{cursors_keep_up}

module _ (sizes : List ℕ) (code : Code) where
  -- a piece of the code, at some address
  abbrev pub IsOfCode : Piece → Type 0
  IsOfCode piece = (at : ℕ) × (frame : Frame) × (piece_at code at frame ≡ piece)

  abbrev BehindIsOfCode : Stop Piece → Type 0
  BehindIsOfCode (Loads w next) = (value : ℤ) → IsOfCode (next value)
  BehindIsOfCode (Stores w value next) = IsOfCode next
  BehindIsOfCode (Goes next) = IsOfCode next
  BehindIsOfCode Finishes = Unit {0}
  BehindIsOfCode (Traps cause line) = Unit {0}

  told_of_code : (frame : Frame) (at : Stopped) → BehindIsOfCode (stop_told sizes code frame at)
  told_of_code frame (stop.Load array place into next) = λ value. (next, with_register frame (register.Temporary into) value, refl)
  told_of_code frame (stop.Store array place value next) = (next, frame, refl)
  told_of_code frame (stop.Go next) = (next, frame, refl)
  told_of_code frame stop.Finish = tt
  told_of_code frame (stop.Trap cause line) = tt

  behind_of_code : (piece : Piece) (at : Stop Piece) → stop_of sizes code piece ≡ at → BehindIsOfCode at
  behind_of_code piece at is = subst BehindIsOfCode is (told_of_code (reached piece).frame (reached piece).stop)

  abbrev pub HeldIsOfCode : Hand Piece → Type 0
  HeldIsOfCode Idle = Unit {0}
  HeldIsOfCode (Holding k left piece) = IsOfCode piece
  HeldIsOfCode Ended = Unit {0}

module _ (program : Program) (words : List ℤ) (code : Code) (claims : ℕ × List ℤ → Claimed) (width room : ℕ) where
  abbrev m : Setup Iteration Cursor Piece
  m = setup_of program words code claims width room

  abbrev sizes : List ℕ
  sizes = sizes_of (arrays_of program.decls)

  abbrev OfCode : Hand Piece → Type 0
  OfCode = HeldIsOfCode (sizes_of (arrays_of program.decls)) code

  abbrev AllOfCode : List (Seat Iteration Piece) → Type 0
  AllOfCode seats = (u : ℕ) → OfCode (seat_at seats u).hand

  -- one seat is replaced, or none where its number is no worker's
  replaced : (seats : List (Seat Iteration Piece)) (u : ℕ) (x : Seat Iteration Piece) → OfCode x.hand → AllOfCode seats → AllOfCode (slice_set seats u x)
  replaced seats u x new all v = ⊎_elim
      (λ same. ⊎_elim
      (λ inside. subst (λ (y : Seat Iteration Piece). OfCode y.hand) (sym (ap (seat_at (slice_set seats u x)) same ∙ seat_same seats u x inside)) new)
      (λ outside. let past : length (slice_set seats u x) ≤ v = omega (arith, length-set seats u x, same, outside) in subst (λ (y : Seat Iteration Piece). OfCode y.hand) (sym (get_or_past (slice_set seats u x) v _ past)) tt)
      (cases_lt u (length seats)))
      (λ other. subst (λ (y : Seat Iteration Piece). OfCode y.hand) (sym (seat_other seats u v x other)) (all v))
      (cases_eq v u)

  row : (s : State Iteration Cursor Piece) (u : ℕ) (move : Move Iteration Cursor Piece) → Guard m s u move → AllOfCode s.seats → AllOfCode (state_after m s u move).seats
  row s u (DoScalar purpose None rest) g all = all
  row s u (DoScalar purpose (Some trap) rest) g all = all
  row s u (DoClose rest) g all = all
  row s u (DoDrain purpose None rest) g all = all
  row s u (DoDrain purpose (Some trap) rest) g all = all
  row s u (DoDispatch b rest) g all = replaced s.seats (s.next % width) (seat_with (seat_at s.seats (s.next % width)) (ticket_of m s b)) (all (s.next % width)) all
  row s u DoHalt g all = all
  row s u (DoTake ticket queue) g all =
      let i = ticket.body in
      replaced s.seats u (seat_after m s.words (seat_at s.seats u) (DoTake ticket queue)) (entry_at code i.body, opening_frame (slot_at code i.body) i.value (in_places i.env), refl) all
  row s u (DoPass k w left piece) g all =
      replaced s.seats u (seat_after m s.words (seat_at s.seats u) (DoPass k w left piece)) (subst OfCode g.0.hand (all u)) all
  row s u (DoRead k w next) (piece, h, is) all =
      replaced s.seats u (seat_after m s.words (seat_at s.seats u) (DoRead k w next)) (behind_of_code sizes code piece (Loads w next) is (word_at s.words w)) all
  row s u (DoWrite k w value next) (piece, h, is) all =
      replaced s.seats u (seat_after m s.words (seat_at s.seats u) (DoWrite k w value next)) (behind_of_code sizes code piece (Stores w value next) is) all
  row s u (DoGo k next) (piece, h, is) all =
      replaced s.seats u (seat_after m s.words (seat_at s.seats u) (DoGo k next)) (behind_of_code sizes code piece (Goes next) is) all
  row s u (DoFinish k) g all = replaced s.seats u (seat_after m s.words (seat_at s.seats u) (DoFinish k)) tt all
  row s u (DoTrap k cause line) g all = replaced s.seats u (seat_after m s.words (seat_at s.seats u) (DoTrap k cause line)) tt all
  row s u (DoDropHeld k) g all = replaced s.seats u (seat_after m s.words (seat_at s.seats u) (DoDropHeld k)) tt all
  row s u (DoDropQueued ticket queue) g all = replaced s.seats u (seat_after m s.words (seat_at s.seats u) (DoDropQueued ticket queue)) (all u) all
  row s u DoEnd g all = replaced s.seats u (seat_after m s.words (seat_at s.seats u) DoEnd) tt all

  opened : (start : Cursor) → AllOfCode (opening m start words).seats
  opened start u = ⊎_elim
      (λ own. subst (λ (y : Seat Iteration Piece). OfCode y.hand) (sym (get_or-replicate width u opening_seat _ own)) tt)
      (λ past. subst (λ (y : Seat Iteration Piece). OfCode y.hand) (sym (get_or_past (opening m start words).seats u _ (omega (arith, past, length-replicate width (opening_seat {B = Iteration} {P = Piece}))))) tt)
      (cases_lt u width)

  pub all_of_code : (start : Cursor) (history : List ℕ) (s : State Iteration Cursor Piece) → Leads m (nest_of program words) start history s → AllOfCode s.seats
  all_of_code start history s leads = along m (λ t. AllOfCode t.seats) row history (opening m start words) s (opened start) leads

  -- what is held goes on
  goes_on : (seat : Seat Iteration Piece) (done next : ℕ) (u : ℕ) → StopsInside sizes code → Rises width u done next (held_number seat.hand ++ queued_numbers seat.queue) → next ≤ 2 ^ 60 → OfCode seat.hand → HandGoesOn sizes seat.hand
  goes_on seat done next u inside rises few of_code = by seat.hand rises of_code
    where
      by : (hand : Hand Piece) → Rises width u done next (held_number hand ++ queued_numbers seat.queue) → OfCode hand → HandGoesOn sizes hand
      by Idle rises of_code = tt
      by (Holding k left piece) rises of_code =
          (subst (λ (p : Piece). IsInside sizes (reached p).stop) of_code.2 (inside of_code.0 of_code.1), (let below : k < next = rises.2 in omega (arith, below, few)))
      by Ended rises of_code = tt

pub seats_go_on : SeatsGoOn
seats_go_on program words code claims cursor width room prepared inside history s leads u =
    let keeps = setups_keep program words code claims cursor width room prepared _ (body_costs_bound program words) in
    let tickets = keeps.tickets history s leads in
    let up = cursors_keep_up program words code claims cursor width room prepared.cursor_is history s leads in
    let passed : s.cursor.next ≤ 2 ^ 60 = cursors_stay.passed program s.cursor up.0 in
    let same : s.cursor.next ≡ s.next = up.1 in
    let few : s.next ≤ 2 ^ 60 = omega (arith, passed, same) in
    let many : length code.entries ≡ length (bodies_of program) = entries_of_bodies.many program code prepared.code_is in
    ⊎_elim
    (λ own. record {
      hand = goes_on program words code claims width room (seat_at s.seats u) (seat_at s.seats u).done s.next u inside (tickets.seats u own).rises few (all_of_code program words code claims width room (restarted program cursor) history s leads u);
      queue = each_map (λ (t : Ticket Iteration). iteration_at (nest_of program words) t.number ≡ Some (what_of program t.body)) (λ (t : Ticket Iteration). t.body.body < length code.entries) (seat_at s.seats u).queue
          (λ t is. subst (λ n. t.body.body < n) (sym many) (bodies_inside program words cursor prepared.cursor_is t.number t.body.body (what_of program t.body).1 is)) (keeps.queued history s leads u own);
    })
    (λ past. subst (SeatGoesOn (sizes_of (arrays_of program.decls)) code) (sym (get_or_past s.seats u _ (let outside : length s.seats ≤ u = omega (arith, past, tickets.width) in outside))) (record { hand = tt; queue = tt }))
    (cases_lt u width)
