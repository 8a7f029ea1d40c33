-- Seats that are free: without a kept trap they are where all that was handed out is finished.
use Rattle.std.proofs.Common.{◌≡◌, ℕ, zero, suc, ◌%◌, ◌<◌, ◌≤◌, true, false, ◌&&◌, List, [], ◌∷◌, ◌++◌, length, None, nat_lt, refl, sym, ap, ◌∙◌, subst, ⊎_elim, arith}
use Rattle.std.proofs.lemmas.Bool.{lt-ltb, and_parts, and_from, and_cases, cases_Bool, false_from_ne_true, true≢false}
use Rattle.std.proofs.lemmas.Nat.{mod_below}
use Rattle.std.specs.List.{list_all}
use Rattle.domore_machine.specs.Machine.{Setup, State, Seat, Hand, Idle, Holding, Ended, Ticket, seat_at, done_at, all_finished}
use Rattle.domore_machine.specs.Invariant.{queued_numbers, held_number, numbers, holds_none, has_no_ticket, is_free, IsCutBy, Fate, IsDone, IsPending, IsCut, Rises, AllTickets, FinishedWhereFree}
use Rattle.domore_machine.proofs.Tickets.{inside, numbers_are}
use Rattle.domore_machine.proofs.Textual.{all_finished_at}

-- a free seat has no number
free_numbers : {B P : Type 0} (hand : Hand P) (queue : List (Ticket B)) → (holds_none hand && has_no_ticket queue) ≡ true → (held_number hand ++ queued_numbers queue) ≡ []
free_numbers Idle [] free = refl
free_numbers Idle (t ∷ queue) free = absurd (true≢false (sym free))
free_numbers (Holding k left piece) queue free = absurd (true≢false (sym free))
free_numbers Ended [] free = refl
free_numbers Ended (t ∷ queue) free = absurd (true≢false (sym free))

free_at : {B P : Type 0} (seats : List (Seat B P)) (u : ℕ) → list_all is_free seats ≡ true → u < length seats → is_free (seat_at seats u) ≡ true
free_at [] u all lt = absurd (omega arith)
free_at (x ∷ seats) zero all lt = (and_parts _ _ all).0
free_at (x ∷ seats) (suc u) all lt = free_at seats u (and_parts _ _ all).1 (omega arith)

busy_at : {B P : Type 0} (seats : List (Seat B P)) → list_all is_free seats ≡ false → (u : ℕ) × (u < length seats) × (is_free (seat_at seats u) ≡ false)
busy_at [] all = absurd (true≢false all)
busy_at (x ∷ seats) all = ⊎_elim
    (λ no. (0, omega arith, no))
    (λ others. let u = busy_at seats others in let l : u.0 < length seats = u.1 in (suc u.0, omega arith, u.2))
    (and_cases (is_free x) (list_all is_free seats) all)

all_from : {B P : Type 0} (width n : ℕ) (seats : List (Seat B P)) → ((k : ℕ) → k < n → k < done_at seats (k % width)) → all_finished width seats n ≡ true
all_from width zero seats done = refl
all_from width (suc n) seats done = and_from (nat_lt n (done_at seats (n % width))) (all_finished width seats n) (lt-ltb _ _ (done n (omega arith))) (all_from width n seats (λ k lt. done k (omega arith)))

module _ {B C P : Type 0} (m : Setup B C P) (s : State B C P) (some : 0 < m.width) (i : AllTickets m s) (none : s.trap ≡ None) where
  all_free : list_all is_free s.seats ≡ true → all_finished m.width s.seats s.next ≡ true
  all_free free = all_from m.width s.next s.seats (λ k lt. let own : k % m.width < m.width = mod_below k m.width some in
      go k (subst (λ ns. Fate (done_at s.seats (k % m.width)) ns s.trap k) (free_numbers (seat_at s.seats (k % m.width)).hand (seat_at s.seats (k % m.width)).queue (free_at s.seats (k % m.width) free (inside m s i (k % m.width) own))) ((i.seats (k % m.width) own).fate k lt refl)))
    where
      go : (k : ℕ) → Fate (done_at s.seats (k % m.width)) [] s.trap k → k < done_at s.seats (k % m.width)
      go k (IsDone l) = l
      go k (IsPending among) = elim among [ ]
      go k (IsCut cut) = absurd (subst (λ t. IsCutBy t k) none cut)

  -- a first number isn't done
  pending : (u n : ℕ) (ns : List ℕ) → u < m.width → numbers (seat_at s.seats u) ≡ n ∷ ns → all_finished m.width s.seats s.next ≡ true → ⊥
  pending u n ns own is all = let r = subst (λ x. Rises m.width u (done_at s.seats u) s.next x) is (i.seats u own).rises in
      let ge : done_at s.seats u ≤ n = r.0 in
      let lt : n < done_at s.seats (n % m.width) = all_finished_at m.width s.next n s.seats all r.2 in
      let same : done_at s.seats (n % m.width) ≡ done_at s.seats u = ap (done_at s.seats) r.1 in
      omega arith

  busy : (u : ℕ) (hand : Hand P) (queue : List (Ticket B)) → u < m.width → (seat_at s.seats u).hand ≡ hand → (seat_at s.seats u).queue ≡ queue → (holds_none hand && has_no_ticket queue) ≡ false → all_finished m.width s.seats s.next ≡ true → ⊥
  busy u Idle [] own h q free all = true≢false free
  busy u Idle (t ∷ queue) own h q free all = pending u t.number (queued_numbers queue) own (numbers_are m s i u Idle (t ∷ queue) h q) all
  busy u (Holding k left piece) queue own h q free all = pending u k (queued_numbers queue) own (numbers_are m s i u (Holding k left piece) queue h q) all
  busy u Ended [] own h q free all = true≢false free
  busy u Ended (t ∷ queue) own h q free all = pending u t.number (queued_numbers queue) own (numbers_are m s i u Ended (t ∷ queue) h q) all

  is_where_free : all_finished m.width s.seats s.next ≡ list_all is_free s.seats
  is_where_free = ⊎_elim
      (λ free. all_free free ∙ sym free)
      (λ some_busy. let u = busy_at s.seats some_busy in let l : u.0 < length s.seats = u.1 in false_from_ne_true (all_finished m.width s.seats s.next) (busy u.0 (seat_at s.seats u.0).hand (seat_at s.seats u.0).queue (omega (arith, i.width)) refl refl u.2) ∙ sym some_busy)
      (cases_Bool (list_all is_free s.seats))

pub where_free : (B C P : Type 0) → FinishedWhereFree B C P
where_free B C P m s some tickets none = is_where_free m s some tickets none
