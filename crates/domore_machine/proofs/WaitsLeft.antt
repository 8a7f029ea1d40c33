-- The waits that are left: each row keeps that they cover what isn't done, so who makes an access has every lower
-- iteration finished whose claims clash with its own.
use Rattle.std.proofs.Common.{◌≡◌, ℕ, ◌%◌, ◌<◌, ◌≤◌, ◌⊎◌, Bool, true, Some, None, List, [], ◌∷◌, slice_set, refl, sym, ◌∙◌, subst, inl, inr, ⊎_elim, arith}
use Rattle.std.proofs.lemmas.Bool.{cases_eq}
use Rattle.std.proofs.lemmas.Nat.{mod_below}
use Rattle.domore_machine.specs.Waits.{Wait}
use Rattle.domore_machine.specs.Machine.{Setup, State, Seat, Hand, Idle, Holding, Ended, Ticket, Move, DoScalar, DoClose, DoDrain, DoDispatch, DoHalt, DoTake, DoPass, DoRead, DoWrite, DoGo, DoFinish, DoTrap, DoDropHeld, DoDropQueued, DoEnd, seat_at, done_at, seat_after, worker_after, state_after, seat_with, ticket_of, waits}
use Rattle.domore_machine.specs.Invariant.{Each, queued_numbers, Fate, IsDone, IsPending, IsCut, AllTickets, Covers, Cleared, IsWaitOf, HandWaits, SeatWaits, AllWaits}
use Rattle.domore_machine.proofs.Guards.{Guard, Holds}
use Rattle.domore_machine.proofs.Seats.{each_set, each_push, done_grows}
use Rattle.domore_machine.proofs.Tickets.{inside, held, in_rises, not_cut}
use Rattle.domore_machine.proofs.Need.{waits_are, waits_cover}

module _ {B P : Type 0} (width : ℕ) (clashes : ℕ → ℕ → Bool) (seats : List (Seat B P)) where
  -- a passed wait is done
  pass_first : (k : ℕ) (w : Wait) (left : List Wait) → w.number < done_at seats w.worker → Cleared width clashes seats k (w ∷ left) → Cleared width clashes seats k left
  pass_first k w left over c = λ j lt clash other. go j (c j lt clash other)
    where
      go : (j : ℕ) → (j < done_at seats (j % width)) ⊎ Covers width (w ∷ left) j → (j < done_at seats (j % width)) ⊎ Covers width left j
      go j (inl is) = inl is
      go j (inr (inl (own, le))) = inl (subst (λ u. j < done_at seats u) own (omega arith))
      go j (inr (inr later)) = inr later

  cleared_grows : (grown : List (Seat B P)) (k : ℕ) (left : List Wait) → ((v : ℕ) → done_at seats v ≤ done_at grown v) → Cleared width clashes seats k left → Cleared width clashes grown k left
  cleared_grows grown k left grows c = λ j lt clash other. go j (c j lt clash other)
    where
      go : (j : ℕ) → (j < done_at seats (j % width)) ⊎ Covers width left j → (j < done_at grown (j % width)) ⊎ Covers width left j
      go j (inl is) = let g : done_at seats (j % width) ≤ done_at grown (j % width) = grows (j % width) in inl (omega arith)
      go j (inr later) = inr later

  hand_grows : (grown : List (Seat B P)) (hand : Hand P) → ((v : ℕ) → done_at seats v ≤ done_at grown v) → HandWaits width clashes seats hand → HandWaits width clashes grown hand
  hand_grows grown Idle grows h = tt
  hand_grows grown (Holding k left piece) grows h = (cleared_grows grown k left grows h.0, h.1)
  hand_grows grown Ended grows h = tt

module _ {B C P : Type 0} (m : Setup B C P) (s : State B C P) (tickets : AllTickets m s) (i : AllWaits m s) where
  abbrev pub seat : ℕ → Seat B P
  seat u = seat_at s.seats u

  pub hand_at : (u : ℕ) (hand : Hand P) → u < m.width → (seat u).hand ≡ hand → HandWaits m.width m.clashes s.seats hand
  hand_at u hand own h = subst (HandWaits m.width m.clashes s.seats) h (i u own).hand

  queue_at : (u : ℕ) (queue : List (Ticket B)) → u < m.width → (seat u).queue ≡ queue → Each (λ (t : Ticket B). t.waits ≡ waits m t.number) queue
  queue_at u queue own q = subst (Each (λ (t : Ticket B). t.waits ≡ waits m t.number)) q (i u own).queue

  -- Whoever holds an iteration with no wait left, not above the trap, has every lower one finished that clashes.
  pub clear_at : (u k : ℕ) (piece : P) → Holds m s u k [] piece → (j : ℕ) → j < k → m.clashes j k ≡ true → j < done_at s.seats (j % m.width)
  clear_at u k piece h j lt clash = ⊎_elim own other (cases_eq (j % m.width) (k % m.width))
    where
      mine : (k % m.width ≡ u) × (k < s.next)
      mine = let r = (held m s tickets u k [] piece h.own h.hand).rises in (r.1, r.2)

      go : j % m.width ≡ u → Fate (done_at s.seats u) (k ∷ queued_numbers (seat u).queue) s.trap j → j < done_at s.seats (j % m.width)
      go same (IsDone is) = subst (λ x. j < done_at s.seats x) (sym same) is
      go same (IsPending among) = let r = in_rises m.width u k s.next j (k ∷ queued_numbers (seat u).queue) (let t = (held m s tickets u k [] piece h.own h.hand).rises in (omega arith, t.1, t.2, t.3)) among in let l : k ≤ j = r.0 in absurd (omega arith)
      go same (IsCut cut) = absurd (not_cut s.trap j k h.below lt cut)

      own : j % m.width ≡ k % m.width → j < done_at s.seats (j % m.width)
      own same = let l : k < s.next = mine.1 in go (same ∙ mine.0) ((held m s tickets u k [] piece h.own h.hand).fate j (omega arith) (same ∙ mine.0))

      other : (j % m.width ≡ k % m.width → ⊥) → j < done_at s.seats (j % m.width)
      other differs = ⊎_elim (λ is. is) (λ none. elim none [ ]) ((hand_at u (Holding k [] piece) h.own h.hand).0 j lt clash differs)

  -- what a row does to one seat that doesn't lose what it has done
  set_row : (u : ℕ) (x : Seat B P) → u < m.width → done_at s.seats u ≤ x.done → ((grown : List (Seat B P)) → ((v : ℕ) → done_at s.seats v ≤ done_at grown v) → SeatWaits m grown x) → (v : ℕ) → v < m.width → SeatWaits m (slice_set s.seats u x) (seat_at (slice_set s.seats u x) v)
  set_row u x own more new v lt = each_set (λ w y. w < m.width → SeatWaits m (slice_set s.seats u x) y) s.seats u x (inside m s tickets u own)
      (λ l. new (slice_set s.seats u x) grows)
      (λ w other l. record { hand = hand_grows m.width m.clashes s.seats (slice_set s.seats u x) (seat w).hand grows (i w l).hand; queue = (i w l).queue })
      v lt
    where
      grows : (w : ℕ) → done_at s.seats w ≤ done_at (slice_set s.seats u x) w
      grows = done_grows s.seats u x (inside m s tickets u own) more

  -- a hand that holds no iteration
  idle_row : (u : ℕ) (move : Move B C P) → u < m.width → done_at s.seats u ≤ (seat_after m s.words (seat u) move).done → ((seats : List (Seat B P)) → HandWaits m.width m.clashes seats (seat_after m s.words (seat u) move).hand) → Each (λ (t : Ticket B). t.waits ≡ waits m t.number) (seat_after m s.words (seat u) move).queue → AllWaits m (worker_after m s u move)
  idle_row u move own more hand queue = set_row u (seat_after m s.words (seat u) move) own more (λ grown grows. record { hand = hand grown; queue = queue })

  -- a hand that holds one
  holding_row : (u k : ℕ) (left : List Wait) (piece : P) (move : Move B C P) → u < m.width → done_at s.seats u ≤ (seat_after m s.words (seat u) move).done → (seat_after m s.words (seat u) move).hand ≡ Holding k left piece → HandWaits m.width m.clashes s.seats (Holding k left piece) → Each (λ (t : Ticket B). t.waits ≡ waits m t.number) (seat_after m s.words (seat u) move).queue → AllWaits m (worker_after m s u move)
  holding_row u k left piece move own more is hand queue = set_row u (seat_after m s.words (seat u) move) own more (λ grown grows. record { hand = subst (HandWaits m.width m.clashes grown) (sym is) (hand_grows m.width m.clashes s.seats grown (Holding k left piece) grows hand); queue = queue })

  taken : (u : ℕ) (ticket : Ticket B) (queue : List (Ticket B)) (piece : P) → 0 < m.width → ticket.waits ≡ waits m ticket.number → HandWaits m.width m.clashes s.seats (Holding ticket.number ticket.waits piece)
  taken u ticket queue piece some is = (
    λ j lt clash other. inr (subst (λ w. Covers m.width w j) (sym is) (waits_cover m.clashes m.width ticket.number j some lt clash other)),
    subst (Each (IsWaitOf m.width ticket.number)) (sym is) (waits_are m.clashes m.width ticket.number),
  )

  -- each row keeps the waits
  pub waits_row : (u : ℕ) (move : Move B C P) → 0 < m.width → Guard m s u move → AllWaits m (state_after m s u move)
  waits_row u (DoScalar purpose None rest) some g = i
  waits_row u (DoScalar purpose (Some trap) rest) some g = i
  waits_row u (DoClose rest) some g = i
  waits_row u (DoDrain purpose None rest) some g = i
  waits_row u (DoDrain purpose (Some trap) rest) some g = i
  waits_row u (DoDispatch b rest) some g = let v : ℕ = s.next % m.width in set_row (s.next % m.width) (seat_with (seat (s.next % m.width)) (ticket_of m s b)) (mod_below s.next m.width some) (omega arith) (λ grown grows. record {
    hand = hand_grows m.width m.clashes s.seats grown (seat (s.next % m.width)).hand grows (i (s.next % m.width) (mod_below s.next m.width some)).hand;
    queue = each_push (λ (t : Ticket B). t.waits ≡ waits m t.number) (seat (s.next % m.width)).queue (ticket_of m s b) (i (s.next % m.width) (mod_below s.next m.width some)).queue refl;
  })
  waits_row u DoHalt some g = i
  waits_row u (DoTake ticket queue) some (idle, below) = let q = queue_at u (ticket ∷ queue) idle.own idle.queued in holding_row u ticket.number ticket.waits (m.entry ticket.body) (DoTake ticket queue) idle.own (omega arith) refl (taken u ticket queue (m.entry ticket.body) some q.0) q.1
  waits_row u (DoPass k w left piece) some (h, over) = let old = hand_at u (Holding k (w ∷ left) piece) h.own h.hand in holding_row u k left piece (DoPass k w left piece) h.own (omega arith) refl (pass_first m.width m.clashes s.seats k w left over old.0, old.1.1) (i u h.own).queue
  waits_row u (DoRead k w next) some (piece, h, stop) = holding_row u k [] _ (DoRead k w next) h.own (omega arith) refl (hand_at u (Holding k [] piece) h.own h.hand) (i u h.own).queue
  waits_row u (DoWrite k w value next) some (piece, h, stop) = holding_row u k [] next (DoWrite k w value next) h.own (omega arith) refl (hand_at u (Holding k [] piece) h.own h.hand) (i u h.own).queue
  waits_row u (DoGo k next) some (piece, h, stop) = holding_row u k [] next (DoGo k next) h.own (omega arith) refl (hand_at u (Holding k [] piece) h.own h.hand) (i u h.own).queue
  waits_row u (DoFinish k) some (piece, h, stop) = idle_row u (DoFinish k) h.own (let l : done_at s.seats u ≤ k = (held m s tickets u k [] piece h.own h.hand).rises.0 in omega arith) (λ seats. tt) (i u h.own).queue
  waits_row u (DoTrap k cause line) some (piece, h, stop) = idle_row u (DoTrap k cause line) h.own (omega arith) (λ seats. tt) (i u h.own).queue
  waits_row u (DoDropHeld k) some (left, piece, own, h, above) = idle_row u (DoDropHeld k) own (omega arith) (λ seats. tt) (i u own).queue
  waits_row u (DoDropQueued ticket queue) some (idle, above) = idle_row u (DoDropQueued ticket queue) idle.own (omega arith) (λ seats. subst (HandWaits m.width m.clashes seats) (sym idle.hand) tt) (queue_at u (ticket ∷ queue) idle.own idle.queued).1
  waits_row u DoEnd some (idle, over) = idle_row u DoEnd idle.own (omega arith) (λ seats. tt) (i u idle.own).queue
