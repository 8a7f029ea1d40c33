-- The measure falls at each step, so histories are bounded.
use Rattle.std.proofs.Common.{◌≡◌, ℕ, zero, suc, ◌+◌, ◌%◌, ◌<◌, ◌≤◌, ℤ, Bool, true, false, Option, Some, None, List, [], ◌∷◌, ◌++◌, length, replicate, slice_set, refl, sym, ap, ◌∙◌, subst, arith}
use Rattle.std.proofs.lemmas.Nat.{mod_below}
use Rattle.std.proofs.lemmas.List.Sums.{sum_by-set, sum_by_push, sum_by-cons}
use Rattle.std.specs.List.{sum_by}
use Rattle.std.specs.Option.{option_map_or, option_and_then}
use Rattle.nest_syntax.specs.declared.place.Place.{Place}
use Rattle.nest_syntax.specs.Arrays.{word_at}
use Rattle.nest_syntax.specs.Outcome.{place_of_trap}
use Rattle.settle_law.specs.Traces.{Access}
use Rattle.settle_law.specs.Tasks.{Loads}
use Rattle.settle_law.specs.Courses.{Nest, Trap, Event, Scalar, Drain, Iterate, Close, events, family_of}
use Rattle.settle_law.proofs.Tasks.{left_read, left_told, left_write, left_go}
use Rattle.settle_law.proofs.Cursors.{begins}
use Rattle.domore_machine.specs.Waits.{Wait}
use Rattle.domore_machine.specs.Machine.{Setup, State, Seat, Hand, Idle, Holding, Ticket, Move, DoScalar, DoClose, DoDrain, DoDispatch, DoHalt, DoTake, DoPass, DoRead, DoWrite, DoGo, DoFinish, DoTrap, DoDropHeld, DoDropQueued, DoEnd, opening_seat, seat_at, seat_after, trap_after, worker_after, state_after, scalar_after, seat_with, ticket_of, opening, step, waits}
use Rattle.settle_law.specs.Runs.{run}
use Rattle.domore_machine.specs.Runs.{made_by, trace_from}
use Rattle.domore_machine.specs.Theorems.{IsSetupFor}
use Rattle.domore_machine.specs.Measure.{behind_trap, iteration_weight, ticket_weight, hand_weight, seat_weight, event_weight, ahead, going_weight, scheduler_weight, measure, Costs, bound, sum_below, StepsFall, HistoriesAreBounded, OpeningIsWithinBound}
use Rattle.domore_machine.specs.Invariant.{Invariant}
use Rattle.domore_machine.proofs.Guards.{Guard, Holds, IsIdle, IsFree, IsStep, step_is}
use Rattle.domore_machine.proofs.Tickets.{inside}
use Rattle.domore_machine.proofs.Parts.{left_at}
use Rattle.domore_machine.proofs.Textual.{all_finished_at, words_are}
use Rattle.domore_machine.proofs.Ahead.{ahead_is, bounded}
use Rattle.domore_machine.proofs.Runs.{invariant_step, invariant_opening, invariant_holds}

module _ {B C P : Type 0} (m : Setup B C P) (nest : Nest) (what : B → ℕ × List ℤ) (start : C) (setup : IsSetupFor m nest what start) (s : State B C P) (trace : List Access) (i : Invariant m nest what s trace) where
  abbrev pub seat : ℕ → Seat B P
  seat u = seat_at s.seats u

  abbrev pub seats_weight : List (Seat B P) → ℕ
  seats_weight seats = sum_by (seat_weight m nest) seats

  -- the weight of a seat whose hand and queue are known
  weight_is : (u : ℕ) (hand : Hand P) (queue : List (Ticket B)) → (seat u).hand ≡ hand → (seat u).queue ≡ queue → seat_weight m nest (seat u) ≡ hand_weight m nest hand + sum_by (ticket_weight m nest) queue
  weight_is u hand queue h q = ap (λ x. hand_weight m nest x + sum_by (ticket_weight m nest) (seat u).queue) h ∙ ap (λ x. hand_weight m nest hand + sum_by (ticket_weight m nest) x) q

  seat_falls : (u : ℕ) (x : Seat B P) → u < m.width → seat_weight m nest x < seat_weight m nest (seat u) → seats_weight (slice_set s.seats u x) < seats_weight s.seats
  seat_falls u x own lt = let e : seats_weight (slice_set s.seats u x) + seat_weight m nest (seat u) ≡ seats_weight s.seats + seat_weight m nest x = sum_by-set (seat_weight m nest) s.seats u x _ (inside m s i.tickets u own) in omega arith

  -- a worker's row takes weight from its seat, and none comes to the scheduler
  worker_falls : (u : ℕ) (move : Move B C P) → u < m.width → seat_weight m nest (seat_after m s.words (seat u) move) < seat_weight m nest (seat u) → scheduler_weight m nest s.halted s.cursor s.next (trap_after m s.trap move) ≤ scheduler_weight m nest s.halted s.cursor s.next s.trap → measure m nest (worker_after m s u move) < measure m nest s
  worker_falls u move own lt le = let l : seats_weight (slice_set s.seats u (seat_after m s.words (seat u) move)) < seats_weight s.seats = seat_falls u (seat_after m s.words (seat u) move) own lt in omega arith

  trap_weighs_less : (halted : Bool) (trap : Option Place) (t : Place) → scheduler_weight m nest halted s.cursor s.next (Some t) ≤ scheduler_weight m nest halted s.cursor s.next trap
  trap_weighs_less true trap t = omega arith
  trap_weighs_less false None t = omega arith
  trap_weighs_less false (Some old) t = omega arith

  -- a stop has less fuel behind it
  read_fuel : (u k w : ℕ) (next : ℤ → P) (piece : P) (told : Option ℤ) → Holds m s u k [] piece → m.system.stop piece ≡ Loads w next → m.system.fixed w ≡ told → m.system.fuel (next (word_at s.words w)) < m.system.fuel piece
  read_fuel u k w next piece None h stop is = (left_read m.system (family_of m.system.fixed nest k) _ piece w next k (word_at s.words w) (left_at m nest what s trace i.tickets i.words.fixed_words i.parts u k [] piece h.own h.hand) stop is).1
  read_fuel u k w next piece (Some value) h stop is = subst (λ x. m.system.fuel (next x) < m.system.fuel piece) (sym (i.words.fixed_words w value is)) (left_told m.system (family_of m.system.fixed nest k) _ piece w next value (left_at m nest what s trace i.tickets i.words.fixed_words i.parts u k [] piece h.own h.hand) stop is).1

  -- a held iteration goes on with less weight
  held_falls : (u k : ℕ) (left : List Wait) (piece : P) (move : Move B C P) → u < m.width → (seat u).hand ≡ Holding k left piece → (seat_after m s.words (seat u) move).queue ≡ (seat u).queue → hand_weight m nest (seat_after m s.words (seat u) move).hand < 2 + length left + m.system.fuel piece → scheduler_weight m nest s.halted s.cursor s.next (trap_after m s.trap move) ≤ scheduler_weight m nest s.halted s.cursor s.next s.trap → measure m nest (worker_after m s u move) < measure m nest s
  held_falls u k left piece move own h queue lt le = worker_falls u move own (let w : seat_weight m nest (seat u) ≡ 2 + length left + m.system.fuel piece + sum_by (ticket_weight m nest) (seat u).queue = weight_is u (Holding k left piece) (seat u).queue h refl in let q : sum_by (ticket_weight m nest) (seat_after m s.words (seat u) move).queue ≡ sum_by (ticket_weight m nest) (seat u).queue = ap (sum_by (ticket_weight m nest)) queue in omega arith) le

  idle_falls : (u : ℕ) (queue : List (Ticket B)) (move : Move B C P) → IsIdle m s u queue → trap_after m s.trap move ≡ s.trap → seat_weight m nest (seat_after m s.words (seat u) move) < 1 + sum_by (ticket_weight m nest) queue → measure m nest (worker_after m s u move) < measure m nest s
  idle_falls u queue move idle trap lt = worker_falls u move idle.own (let w : seat_weight m nest (seat u) ≡ 1 + sum_by (ticket_weight m nest) queue = weight_is u Idle queue idle.hand idle.queued in omega arith) (subst (λ t. scheduler_weight m nest s.halted s.cursor s.next t ≤ scheduler_weight m nest s.halted s.cursor s.next s.trap) (sym trap) (omega arith))

  -- the scheduler
  abbrev pub most : ℕ
  most = length (events nest)

  going_is : (event : Event B C) (u : ℕ) → IsFree m s u → m.event s.cursor ≡ event → scheduler_weight m nest s.halted s.cursor s.next s.trap ≡ suc (event_weight m nest (ahead m nest most) s.next event)
  going_is event u free is = ap (λ b. scheduler_weight m nest b s.cursor s.next s.trap) free.going
      ∙ ap (λ t. going_weight m nest s.cursor s.next t) free.untrapped
      ∙ ap suc (ahead_is m nest what (i.course.going free.untrapped).passed s.next s.cursor (i.course.going free.untrapped).behind ∙ ap (event_weight m nest (ahead m nest most) s.next) is)

  still_going : (halted : Bool) (trap : Option Place) (cursor : C) (next : ℕ) → halted ≡ false → trap ≡ None → scheduler_weight m nest halted cursor next trap ≡ suc (ahead m nest most cursor next)
  still_going halted trap cursor next on none = ap (λ b. scheduler_weight m nest b cursor next trap) on ∙ ap (going_weight m nest cursor next) none

  -- an event that is no iteration
  onward_falls : (u : ℕ) (t : State B C P) (purpose : _) (trap : Option Trap) (rest : C) → IsFree m s u → t.seats ≡ s.seats → t.next ≡ s.next → t.halted ≡ s.halted → t.trap ≡ s.trap → scheduler_weight m nest s.halted s.cursor s.next s.trap ≡ suc (suc (behind_trap trap (ahead m nest most rest s.next))) → measure m nest (scalar_after m t purpose trap rest) < measure m nest s
  onward_falls u t purpose None rest free seats next halted trap is =
      let a : seats_weight t.seats ≡ seats_weight s.seats = ap seats_weight seats in
      let b : scheduler_weight m nest t.halted rest t.next t.trap ≡ suc (ahead m nest most rest s.next) = still_going t.halted t.trap rest t.next (halted ∙ free.going) (trap ∙ free.untrapped) ∙ ap (λ n. suc (ahead m nest most rest n)) next in
      omega arith
  onward_falls u t purpose (Some x) rest free seats next halted trap is =
      let a : seats_weight t.seats ≡ seats_weight s.seats = ap seats_weight seats in
      let b : scheduler_weight m nest t.halted t.cursor t.next (Some (place_of_trap x.cause x.line t.next true)) ≡ 1 = ap (λ h. scheduler_weight m nest h t.cursor t.next (Some (place_of_trap x.cause x.line t.next true))) (halted ∙ free.going) in
      omega arith

  dispatch_falls : (u : ℕ) (b : B) (rest : C) → IsFree m s u → m.event s.cursor ≡ Iterate b rest → measure m nest (state_after m s u (DoDispatch b rest)) < measure m nest s
  dispatch_falls u b rest free is =
      let v : ℕ = s.next % m.width in
      let before : scheduler_weight m nest s.halted s.cursor s.next s.trap ≡ suc (suc (iteration_weight m nest b (waits m s.next) + ahead m nest most rest (suc s.next))) = going_is (Iterate b rest) u free is in
      let after : scheduler_weight m nest s.halted rest (suc s.next) s.trap ≡ suc (ahead m nest most rest (suc s.next)) = still_going s.halted s.trap rest (suc s.next) free.going free.untrapped in
      let put : sum_by (ticket_weight m nest) ((seat (s.next % m.width)).queue ++ ticket_of m s b ∷ []) ≡ sum_by (ticket_weight m nest) (seat (s.next % m.width)).queue + iteration_weight m nest b (waits m s.next) = sum_by_push (ticket_weight m nest) (seat (s.next % m.width)).queue (ticket_of m s b) in
      let set : seats_weight (slice_set s.seats (s.next % m.width) (seat_with (seat (s.next % m.width)) (ticket_of m s b))) + seat_weight m nest (seat (s.next % m.width)) ≡ seats_weight s.seats + seat_weight m nest (seat_with (seat (s.next % m.width)) (ticket_of m s b)) = sum_by-set (seat_weight m nest) s.seats (s.next % m.width) (seat_with (seat (s.next % m.width)) (ticket_of m s b)) _ (inside m s i.tickets (s.next % m.width) (mod_below s.next m.width setup.some_worker)) in
      omega arith

  halt_falls : s.halted ≡ false → measure m nest (state_after m s m.width DoHalt) < measure m nest s
  halt_falls on = let a : scheduler_weight m nest s.halted s.cursor s.next s.trap ≡ going_weight m nest s.cursor s.next s.trap = ap (λ b. scheduler_weight m nest b s.cursor s.next s.trap) on in let b : 1 ≤ going_weight m nest s.cursor s.next s.trap = some s.trap in omega arith
    where
      some : (trap : Option Place) → 1 ≤ going_weight m nest s.cursor s.next trap
      some None = omega arith
      some (Some t) = omega arith

  -- each row falls
  falls_row : (u : ℕ) (move : Move B C P) → Guard m s u move → measure m nest (state_after m s u move) < measure m nest s
  falls_row u (DoScalar purpose trap rest) (free, is) = onward_falls u s purpose trap rest free refl refl refl refl (going_is (Scalar purpose trap rest) u free is)
  falls_row u (DoClose rest) (free, is) = let a : scheduler_weight m nest s.halted s.cursor s.next s.trap ≡ suc (suc (ahead m nest most rest s.next)) = going_is (Close rest) u free is in let b : scheduler_weight m nest s.halted rest s.next s.trap ≡ suc (ahead m nest most rest s.next) = still_going s.halted s.trap rest s.next free.going free.untrapped in omega arith
  falls_row u (DoDrain purpose trap rest) (traps, rests, free, is, trap_is, rest_is, all) = onward_falls u (record s { facts = _ }) purpose trap rest free refl refl refl refl
      (going_is (Drain purpose traps rests) u free is
      ∙ ap (λ o. suc (option_map_or (λ words. suc (behind_trap (traps words) (ahead m nest most (rests words) s.next))) o 0)) (words_are m nest what start setup s trace i.guarded i.words i.parts i.course.known (λ k lt. all_finished_at m.width s.next k s.seats all lt))
      ∙ ap (λ t. suc (suc (behind_trap t (ahead m nest most (rests s.words) s.next)))) trap_is
      ∙ ap (λ c. suc (suc (behind_trap trap (ahead m nest most c s.next)))) rest_is)
  falls_row u (DoDispatch b rest) (free, is, room) = dispatch_falls u b rest free is
  falls_row u DoHalt (actor, on, at_end) = halt_falls on
  falls_row u (DoTake ticket queue) (idle, below) = idle_falls u (ticket ∷ queue) (DoTake ticket queue) idle refl (let c : sum_by (ticket_weight m nest) (ticket ∷ queue) ≡ 2 + length ticket.waits + m.system.fuel (m.entry ticket.body) + sum_by (ticket_weight m nest) queue = sum_by-cons (ticket_weight m nest) ticket queue in omega arith)
  falls_row u (DoPass k w left piece) (h, over) = held_falls u k (w ∷ left) piece (DoPass k w left piece) h.own h.hand refl (omega arith) (omega arith)
  falls_row u (DoRead k w next) (piece, h, stop) = held_falls u k [] piece (DoRead k w next) h.own h.hand refl (let f : m.system.fuel (next (word_at s.words w)) < m.system.fuel piece = read_fuel u k w next piece (m.system.fixed w) h stop refl in omega arith) (omega arith)
  falls_row u (DoWrite k w value next) (piece, h, stop) = held_falls u k [] piece (DoWrite k w value next) h.own h.hand refl (let f : m.system.fuel next < m.system.fuel piece = (left_write m.system (family_of m.system.fixed nest k) _ piece w value next k (left_at m nest what s trace i.tickets i.words.fixed_words i.parts u k [] piece h.own h.hand) stop).2 in omega arith) (omega arith)
  falls_row u (DoGo k next) (piece, h, stop) = held_falls u k [] piece (DoGo k next) h.own h.hand refl (let f : m.system.fuel next < m.system.fuel piece = (left_go m.system (family_of m.system.fixed nest k) _ piece next (left_at m nest what s trace i.tickets i.words.fixed_words i.parts u k [] piece h.own h.hand) stop).1 in omega arith) (omega arith)
  falls_row u (DoFinish k) (piece, h, stop) = held_falls u k [] piece (DoFinish k) h.own h.hand refl (omega arith) (omega arith)
  falls_row u (DoTrap k cause line) (piece, h, stop) = held_falls u k [] piece (DoTrap k cause line) h.own h.hand refl (omega arith) (trap_weighs_less s.halted s.trap _)
  falls_row u (DoDropHeld k) (left, piece, own, h, above) = held_falls u k left piece (DoDropHeld k) own h refl (omega arith) (omega arith)
  falls_row u (DoDropQueued ticket queue) (idle, above) = idle_falls u (ticket ∷ queue) (DoDropQueued ticket queue) idle refl (let c : sum_by (ticket_weight m nest) (ticket ∷ queue) ≡ 2 + length ticket.waits + m.system.fuel (m.entry ticket.body) + sum_by (ticket_weight m nest) queue = sum_by-cons (ticket_weight m nest) ticket queue in let h : hand_weight m nest (seat u).hand ≡ 1 = ap (hand_weight m nest) idle.hand in omega arith)
  falls_row u DoEnd (idle, over) = idle_falls u [] DoEnd idle refl (let q : sum_by (ticket_weight m nest) (seat u).queue ≡ 0 = ap (sum_by (ticket_weight m nest)) idle.queued in omega arith)

  pub falls_step : (u : ℕ) (t : State B C P) → step m s u ≡ Some t → measure m nest t < measure m nest s
  falls_step u t e = go (step_is m s u t e)
    where
      go : IsStep m s u t → measure m nest t < measure m nest s
      go is = subst (λ x. measure m nest x < measure m nest s) (sym is.behind) (falls_row u is.move is.guard)

module _ {B C P : Type 0} (m : Setup B C P) (nest : Nest) (what : B → ℕ × List ℤ) (start : C) (setup : IsSetupFor m nest what start) where
  run_falls : (history : List ℕ) (s t : State B C P) (trace : List Access) → Invariant m nest what s trace → run (step m) s history ≡ Some t → length history + measure m nest t ≤ measure m nest s
  run_falls [] s t trace i e = let is : s ≡ t = cc in subst (λ x. 0 + measure m nest x ≤ measure m nest s) is (omega arith)
  run_falls (u ∷ history) s t trace i e = go (step m s u) refl e (λ x is. run_falls history x t (trace ++ made_by m s u) (invariant_step m nest what start setup s x trace u is i))
    where
      go : (o : Option (State B C P)) → step m s u ≡ o → option_and_then (λ x. run (step m) x history) o ≡ Some t → ((x : State B C P) → step m s u ≡ Some x → run (step m) x history ≡ Some t → length history + measure m nest t ≤ measure m nest x) → suc (length history) + measure m nest t ≤ measure m nest s
      go None is e more = cc
      go (Some x) is e more = let l : length history + measure m nest t ≤ measure m nest x = more x is e in let f : measure m nest x < measure m nest s = falls_step m nest what start setup s trace i u x is in omega arith

  seats_weigh : (n : ℕ) → sum_by (seat_weight m nest) (replicate n opening_seat) ≡ n
  seats_weigh zero = refl
  seats_weigh (suc n) = let one : sum_by (seat_weight m nest) (opening_seat ∷ replicate n opening_seat) ≡ 1 + sum_by (seat_weight m nest) (replicate n opening_seat) = sum_by-cons (seat_weight m nest) opening_seat (replicate n opening_seat) in let more : sum_by (seat_weight m nest) (replicate n opening_seat) ≡ n = seats_weigh n in omega arith

  within_bound : (cost : ℕ → ℕ) → Costs m nest (length (events nest)) cost start 0 → measure m nest (opening m start nest.opening) ≤ bound nest m.width cost
  within_bound cost costs =
      let l : ahead m nest (length (events nest)) start 0 + 0 + 0 ≤ length (events nest) + sum_below _ (λ k. cost k + m.width + 1) = bounded m nest what cost (length (events nest)) [] 0 start (begins B C nest what m.event start setup.follows) costs in
      let w : sum_by (seat_weight m nest) (replicate m.width opening_seat) ≡ m.width = seats_weigh m.width in
      omega arith

pub falls : (B C P : Type 0) → StepsFall B C P
falls B C P m nest what start setup history s t actor leads e = falls_step m nest what start setup s (trace_from m (opening m start nest.opening) history) (invariant_holds m nest what start setup history s leads) actor t e

pub is_bounded : (B C P : Type 0) → HistoriesAreBounded B C P
is_bounded B C P m nest what start setup history s leads = let l : length history + measure m nest s ≤ measure m nest (opening m start nest.opening) = run_falls m nest what start setup history (opening m start nest.opening) s [] (invariant_opening m nest what start setup) leads in omega arith

pub opening_within : (B C P : Type 0) → OpeningIsWithinBound B C P
opening_within B C P m nest what start cost setup costs = within_bound m nest what start setup cost costs
