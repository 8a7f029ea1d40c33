-- The numbers of a seat, and what became of the iterations that were handed out: each row keeps this.
use Rattle.std.proofs.Common.{◌≡◌, ℕ, suc, ◌%◌, ◌<◌, ◌≤◌, ◌⊎◌, Bool, true, false, if◌then◌else◌, Option, Some, None, List, [], ◌∷◌, ◌++◌, length, nat_lt, refl, sym, ap, ◌∙◌, subst, inl, inr, ⊎_elim, arith, length-set}
use Rattle.std.proofs.lemmas.Bool.{ltb-true, ltb-false, cases_lt}
use Rattle.std.proofs.lemmas.List.{append_assoc}
use Rattle.std.proofs.lemmas.Nat.{mod_below}
use Rattle.nest_syntax.specs.declared.place.Place.{Place}
use Rattle.nest_syntax.specs.Outcome.{place_of_trap}
use Rattle.domore_machine.specs.Waits.{Wait}
use Rattle.domore_machine.specs.Machine.{Setup, State, Seat, Hand, Idle, Holding, Ticket, Move, DoScalar, DoClose, DoDrain, DoDispatch, DoHalt, DoTake, DoPass, DoRead, DoWrite, DoGo, DoFinish, DoTrap, DoDropHeld, DoDropQueued, DoEnd, seat_at, done_at, is_above, least_trap, seat_after, trap_after, worker_after, state_after, scalar_after, seat_with, ticket_of}
use Rattle.settle_law.specs.Courses.{Trap}
use Rattle.domore_machine.specs.Invariant.{held_number, queued_numbers, numbers, In, Rises, IsCutBy, Fate, IsDone, IsPending, IsCut, Tickets, IsBelow, AllTickets}
use Rattle.domore_machine.proofs.Guards.{Guard}
use Rattle.domore_machine.proofs.Seats.{each_set}

-- lists of numbers that rise
pub rises_from : (width u low lower next : ℕ) (ns : List ℕ) → lower ≤ low → Rises width u low next ns → Rises width u lower next ns
rises_from width u low lower next [] le r = tt
rises_from width u low lower next (n ∷ ns) le r = let l : low ≤ n = r.0 in (omega arith, r.1, r.2, r.3)

rises_more : (width u low next : ℕ) (ns : List ℕ) → Rises width u low next ns → Rises width u low (suc next) ns
rises_more width u low next [] r = tt
rises_more width u low next (n ∷ ns) r = let l : n < next = r.2 in (r.0, r.1, omega arith, rises_more width u (suc n) next ns r.3)

rises_push : (width u low next : ℕ) (ns : List ℕ) → low ≤ next → next % width ≡ u → Rises width u low next ns → Rises width u low (suc next) (ns ++ next ∷ [])
rises_push width u low next [] le own r = (le, own, omega arith, tt)
rises_push width u low next (n ∷ ns) le own r = let l : n < next = r.2 in (r.0, r.1, omega arith, rises_push width u (suc n) next ns (omega arith) own r.3)

-- each number among them is at least the lowest
pub in_rises : (width u low next k : ℕ) (ns : List ℕ) → Rises width u low next ns → In k ns → (low ≤ k) × (k % width ≡ u) × (k < next)
in_rises width u low next k [] r i = elim i [ ]
in_rises width u low next k (n ∷ ns) r (inl same) = (subst (λ x. low ≤ x) same r.0, subst (λ x. x % width ≡ u) same r.1, subst (λ x. x < next) same r.2)
in_rises width u low next k (n ∷ ns) r (inr later) = let l : low ≤ n = r.0 in let d = in_rises width u (suc n) next k ns r.3 later in let e : suc n ≤ k = d.0 in (omega arith, d.1, d.2)

in_push : (k : ℕ) (ns : List ℕ) (n : ℕ) → In k ns → In k (ns ++ n ∷ [])
in_push k (x ∷ ns) n (inl same) = inl same
in_push k (x ∷ ns) n (inr later) = inr (in_push k ns n later)
in_push k [] n i = elim i [ ]

in_last : (ns : List ℕ) (n : ℕ) → In n (ns ++ n ∷ [])
in_last [] n = inl refl
in_last (x ∷ ns) n = inr (in_last ns n)

pub queued_push : {B : Type 0} (queue : List (Ticket B)) (ticket : Ticket B) → queued_numbers (queue ++ ticket ∷ []) ≡ queued_numbers queue ++ ticket.number ∷ []
queued_push [] ticket = refl
queued_push (t ∷ queue) ticket = ap (λ ns. t.number ∷ ns) (queued_push queue ticket)

-- traps
pub above_cut : (trap : Option Place) (k : ℕ) → is_above trap k ≡ true → IsCutBy trap k
above_cut None k above = cc
above_cut (Some t) k above = let l : t.number < k = ltb-true t.number k above in omega arith

pub not_cut : (trap : Option Place) (j k : ℕ) → is_above trap k ≡ false → j < k → IsCutBy trap j → ⊥
not_cut None j k below lower cut = cut
not_cut (Some t) j k below lower cut = let l : k ≤ t.number = ltb-false t.number k below in let c : t.number ≤ j = cut in omega arith

pub least_is : (old new : Place) → ((least_trap (Some old) new ≡ new) × (new.number < old.number)) ⊎ ((least_trap (Some old) new ≡ old) × (old.number ≤ new.number))
least_is old new = go (nat_lt new.number old.number) refl
  where
    go : (t : Bool) → nat_lt new.number old.number ≡ t → (((if t then new else old) ≡ new) × (new.number < old.number)) ⊎ (((if t then new else old) ≡ old) × (old.number ≤ new.number))
    go true e = inl (refl, ltb-true _ _ e)
    go false e = inr (refl, ltb-false _ _ e)

pub least_cuts : (trap : Option Place) (new : Place) → (least_trap trap new).number ≤ new.number
least_cuts None new = omega arith
least_cuts (Some old) new = ⊎_elim
    (λ is. let e : (least_trap (Some old) new).number ≡ new.number = ap (λ (p : Place). p.number) is.0 in omega arith)
    (λ is. let e : (least_trap (Some old) new).number ≡ old.number = ap (λ (p : Place). p.number) is.0 in let l : old.number ≤ new.number = is.1 in omega arith)
    (least_is old new)

pub least_keeps : (trap : Option Place) (new : Place) (k : ℕ) → IsCutBy trap k → (least_trap trap new).number ≤ k
least_keeps None new k cut = elim cut [ ]
least_keeps (Some old) new k cut = let c : old.number ≤ k = cut in ⊎_elim
    (λ is. let e : (least_trap (Some old) new).number ≡ new.number = ap (λ (p : Place). p.number) is.0 in let l : new.number < old.number = is.1 in omega arith)
    (λ is. let e : (least_trap (Some old) new).number ≡ old.number = ap (λ (p : Place). p.number) is.0 in omega arith)
    (least_is old new)

least_below : (trap : Option Place) (new : Place) (next : ℕ) → IsBelow trap next → new.number ≤ next → IsBelow (Some (least_trap trap new)) next
least_below trap new next below le = let l : (least_trap trap new).number ≤ new.number = least_cuts trap new in omega arith

-- one seat
module _ (width next : ℕ) (trap after : Option Place) (u done : ℕ) where
  fate_kept : (ns : List ℕ) (k : ℕ) → ((j : ℕ) → IsCutBy trap j → IsCutBy after j) → Fate done ns trap k → Fate done ns after k
  fate_kept ns k keeps (IsDone l) = IsDone l
  fate_kept ns k keeps (IsPending i) = IsPending i
  fate_kept ns k keeps (IsCut c) = IsCut (keeps k c)

  pub tickets_kept : (ns : List ℕ) → ((j : ℕ) → IsCutBy trap j → IsCutBy after j) → Tickets width next trap u done ns → Tickets width next after u done ns
  tickets_kept ns keeps t = record { rises = t.rises; fate = λ k lt own. fate_kept ns k keeps (t.fate k lt own); bounded = t.bounded }

  -- the first number is cut off
  pub cut_first : (n : ℕ) (ns : List ℕ) → ((j : ℕ) → IsCutBy trap j → IsCutBy after j) → IsCutBy after n → Tickets width next trap u done (n ∷ ns) → Tickets width next after u done ns
  cut_first n ns keeps cut t = record {
    rises = let l : done ≤ n = t.rises.0 in rises_from width u (suc n) done next ns (omega arith) t.rises.3;
    fate = λ k lt own. go k (t.fate k lt own);
    bounded = t.bounded;
  }
    where
      go : (k : ℕ) → Fate done (n ∷ ns) trap k → Fate done ns after k
      go k (IsDone l) = IsDone l
      go k (IsPending (inl same)) = IsCut (subst (IsCutBy after) same cut)
      go k (IsPending (inr later)) = IsPending later
      go k (IsCut c) = IsCut (keeps k c)

  -- the first number is finished
  pub finish_first : (n : ℕ) (ns : List ℕ) → Tickets width next trap u done (n ∷ ns) → Tickets width next trap u (suc n) ns
  finish_first n ns t = record {
    rises = t.rises.3;
    fate = λ k lt own. go k (t.fate k lt own);
    bounded = let l : n < next = t.rises.2 in omega arith;
  }
    where
      go : (k : ℕ) → Fate done (n ∷ ns) trap k → Fate (suc n) ns trap k
      go k (IsDone l) = let d : done ≤ n = t.rises.0 in IsDone (omega arith)
      go k (IsPending (inl same)) = IsDone (omega arith)
      go k (IsPending (inr later)) = IsPending later
      go k (IsCut c) = IsCut c

  -- a ticket is put, here or at another worker
  pub put_own : (ns : List ℕ) → next % width ≡ u → Tickets width next trap u done ns → Tickets width (suc next) trap u done (ns ++ next ∷ [])
  put_own ns own t = record {
    rises = rises_push width u done next ns t.bounded own t.rises;
    fate = λ k lt mine. ⊎_elim (λ l. go k (t.fate k l mine)) (λ ge. let same : next ≡ k = omega arith in IsPending (subst (λ x. In x (ns ++ next ∷ [])) same (in_last ns next))) (cases_lt k next);
    bounded = let l : done ≤ next = t.bounded in omega arith;
  }
    where
      go : (k : ℕ) → Fate done ns trap k → Fate done (ns ++ next ∷ []) trap k
      go k (IsDone l) = IsDone l
      go k (IsPending i) = IsPending (in_push k ns next i)
      go k (IsCut c) = IsCut c

  pub put_other : (ns : List ℕ) → (next % width ≡ u → ⊥) → Tickets width next trap u done ns → Tickets width (suc next) trap u done ns
  put_other ns other t = record {
    rises = rises_more width u done next ns t.rises;
    fate = λ k lt mine. ⊎_elim (λ l. t.fate k l mine) (λ ge. let same : k ≡ next = omega arith in absurd (other (subst (λ x. x % width ≡ u) same mine))) (cases_lt k next);
    bounded = let l : done ≤ next = t.bounded in omega arith;
  }

module _ {B C P : Type 0} (m : Setup B C P) (s : State B C P) (i : AllTickets m s) where
  abbrev pub seat : ℕ → Seat B P
  seat u = seat_at s.seats u

  pub inside : (u : ℕ) → u < m.width → u < length s.seats
  inside u own = omega (arith, i.width)

  -- the numbers of a seat whose hand and queue are known
  pub numbers_are : (u : ℕ) (hand : Hand P) (queue : List (Ticket B)) → (seat u).hand ≡ hand → (seat u).queue ≡ queue → numbers (seat u) ≡ held_number hand ++ queued_numbers queue
  numbers_are u hand queue h q = ap (λ x. held_number x ++ queued_numbers (seat u).queue) h ∙ ap (λ x. held_number hand ++ queued_numbers x) q

  -- the tickets of a seat in these numbers
  pub tickets_at : (u : ℕ) (hand : Hand P) (queue : List (Ticket B)) → u < m.width → (seat u).hand ≡ hand → (seat u).queue ≡ queue → Tickets m.width s.next s.trap u (seat u).done (held_number hand ++ queued_numbers queue)
  tickets_at u hand queue own h q = subst (Tickets m.width s.next s.trap u (seat u).done) (numbers_are u hand queue h q) (i.seats u own)

  -- what a row does to one seat and to the trap
  worker_row : (u : ℕ) (move : Move B C P) → u < m.width → ((j : ℕ) → IsCutBy s.trap j → IsCutBy (trap_after m s.trap move) j) → IsBelow (trap_after m s.trap move) s.next → Tickets m.width s.next (trap_after m s.trap move) u (seat_after m s.words (seat u) move).done (numbers (seat_after m s.words (seat u) move)) → AllTickets m (worker_after m s u move)
  worker_row u move own keeps below new = record {
    width = length-set s.seats u _ ∙ i.width;
    seats = λ v lt. each_set (λ w x. w < m.width → Tickets m.width s.next (trap_after m s.trap move) w x.done (numbers x)) s.seats u (seat_after m s.words (seat u) move) (inside u own) (λ lt. new) (λ w other lt. tickets_kept m.width s.next s.trap (trap_after m s.trap move) w (done_at s.seats w) (numbers (seat w)) keeps (i.seats w lt)) v lt;
    trap = below;
  }

  quiet_row : (u : ℕ) (move : Move B C P) → u < m.width → trap_after m s.trap move ≡ s.trap → Tickets m.width s.next s.trap u (seat_after m s.words (seat u) move).done (numbers (seat_after m s.words (seat u) move)) → AllTickets m (worker_after m s u move)
  quiet_row u move own same new = worker_row u move own (λ j c. subst (λ t. IsCutBy t j) (sym same) c) (subst (λ t. IsBelow t s.next) (sym same) i.trap) (subst (λ t. Tickets m.width s.next t u (seat_after m s.words (seat u) move).done (numbers (seat_after m s.words (seat u) move))) (sym same) new)

  scalar_row : (purpose : _) (trap : Option Trap) (rest : C) → AllTickets m s → s.trap ≡ None → AllTickets m (scalar_after m s purpose trap rest)
  scalar_row purpose None rest all none = record { width = i.width; seats = i.seats; trap = i.trap }
  scalar_row purpose (Some trap) rest all none = record {
    width = i.width;
    seats = λ u own. tickets_kept m.width s.next s.trap _ u (seat u).done (numbers (seat u)) (λ j c. absurd (subst (λ t. IsCutBy t j) none c)) (i.seats u own);
    trap = omega arith;
  }

  pub held : (u k : ℕ) (left : List Wait) (piece : P) → u < m.width → (seat u).hand ≡ Holding k left piece → Tickets m.width s.next s.trap u (seat u).done (k ∷ queued_numbers (seat u).queue)
  held u k left piece own h = tickets_at u (Holding k left piece) (seat u).queue own h refl

  dispatch_row : (b : B) (rest : C) → 0 < m.width → AllTickets m (state_after m s m.width (DoDispatch b rest))
  dispatch_row b rest some = record {
    width = length-set s.seats _ _ ∙ i.width;
    seats = λ v lt. each_set (λ w x. w < m.width → Tickets m.width (suc s.next) s.trap w x.done (numbers x)) s.seats (s.next % m.width) (seat_with (seat (s.next % m.width)) (ticket_of m s b)) (inside (s.next % m.width) (mod_below s.next m.width some)) own (λ w other lt. put_other m.width s.next s.trap s.trap w (done_at s.seats w) (numbers (seat w)) (λ same. other (sym same)) (i.seats w lt)) v lt;
    trap = more s.trap i.trap;
  }
    where
      more : (trap : Option Place) → IsBelow trap s.next → IsBelow trap (suc s.next)
      more None below = tt
      more (Some t) below = let l : t.number ≤ s.next = below in omega arith

      own : (s.next % m.width) < m.width → Tickets m.width (suc s.next) s.trap (s.next % m.width) (done_at s.seats (s.next % m.width)) (numbers (seat_with (seat (s.next % m.width)) (ticket_of m s b)))
      own lt = subst (Tickets m.width (suc s.next) s.trap (s.next % m.width) (done_at s.seats (s.next % m.width)))
          (append_assoc (held_number (seat (s.next % m.width)).hand) (queued_numbers (seat (s.next % m.width)).queue) (s.next ∷ []) ∙ ap (λ x. held_number (seat (s.next % m.width)).hand ++ x) (sym (queued_push (seat (s.next % m.width)).queue (ticket_of m s b))))
          (put_own m.width s.next s.trap s.trap (s.next % m.width) (done_at s.seats (s.next % m.width)) (numbers (seat (s.next % m.width))) refl (i.seats (s.next % m.width) lt))

  -- each row keeps the tickets
  pub tickets_row : (u : ℕ) (move : Move B C P) → 0 < m.width → Guard m s u move → AllTickets m (state_after m s u move)
  tickets_row u (DoScalar purpose trap rest) some g = scalar_row purpose trap rest i g.0.untrapped
  tickets_row u (DoClose rest) some g = record { width = i.width; seats = i.seats; trap = i.trap }
  tickets_row u (DoDrain purpose trap rest) some (traps, rests, free, event, is, is_rest, all) = drained trap free.untrapped
    where
      drained : (trap : Option Trap) → s.trap ≡ None → AllTickets m (state_after m s u (DoDrain purpose trap rest))
      drained None none = record { width = i.width; seats = i.seats; trap = i.trap }
      drained (Some t) none = record {
        width = i.width;
        seats = λ v own. tickets_kept m.width s.next s.trap _ v (seat v).done (numbers (seat v)) (λ j c. absurd (subst (λ x. IsCutBy x j) none c)) (i.seats v own);
        trap = omega arith;
      }
  tickets_row u (DoDispatch b rest) some g = let d = dispatch_row b rest some in record { width = d.width; seats = d.seats; trap = d.trap }
  tickets_row u DoHalt some g = record { width = i.width; seats = i.seats; trap = i.trap }
  tickets_row u (DoTake ticket queue) some (idle, below) = quiet_row u (DoTake ticket queue) idle.own refl (tickets_at u Idle (ticket ∷ queue) idle.own idle.hand idle.queued)
  tickets_row u (DoPass k w left piece) some (h, over) = quiet_row u (DoPass k w left piece) h.own refl (held u k (w ∷ left) piece h.own h.hand)
  tickets_row u (DoRead k w next) some (piece, h, stop) = quiet_row u (DoRead k w next) h.own refl (held u k [] piece h.own h.hand)
  tickets_row u (DoWrite k w value next) some (piece, h, stop) = quiet_row u (DoWrite k w value next) h.own refl (held u k [] piece h.own h.hand)
  tickets_row u (DoGo k next) some (piece, h, stop) = quiet_row u (DoGo k next) h.own refl (held u k [] piece h.own h.hand)
  tickets_row u (DoFinish k) some (piece, h, stop) = quiet_row u (DoFinish k) h.own refl (finish_first m.width s.next s.trap s.trap u (seat u).done k (queued_numbers (seat u).queue) (held u k [] piece h.own h.hand))
  tickets_row u (DoTrap k cause line) some (piece, h, stop) =
      let old : Tickets m.width s.next s.trap u (seat u).done (k ∷ queued_numbers (seat u).queue) = held u k [] piece h.own h.hand in
      let lt : k < s.next = old.rises.2 in
      worker_row u (DoTrap k cause line) h.own (λ j c. least_keeps s.trap (place_of_trap cause line k false) j c) (least_below s.trap (place_of_trap cause line k false) s.next i.trap (omega arith))
      (cut_first m.width s.next s.trap (trap_after m s.trap (DoTrap k cause line)) u (seat u).done k (queued_numbers (seat u).queue) (λ j c. least_keeps s.trap (place_of_trap cause line k false) j c) (least_cuts s.trap (place_of_trap cause line k false)) old)
  tickets_row u (DoDropHeld k) some (left, piece, own, h, above) = quiet_row u (DoDropHeld k) own refl (cut_first m.width s.next s.trap s.trap u (seat u).done k (queued_numbers (seat u).queue) (λ j c. c) (above_cut s.trap k above) (held u k left piece own h))
  tickets_row u (DoDropQueued ticket queue) some (idle, above) = quiet_row u (DoDropQueued ticket queue) idle.own refl
      (subst (λ h. Tickets m.width s.next s.trap u (seat u).done (held_number h ++ queued_numbers queue)) (sym idle.hand)
      (cut_first m.width s.next s.trap s.trap u (seat u).done ticket.number (queued_numbers queue) (λ j c. c) (above_cut s.trap ticket.number above) (tickets_at u Idle (ticket ∷ queue) idle.own idle.hand idle.queued)))
  tickets_row u DoEnd some (idle, over) = quiet_row u DoEnd idle.own refl (tickets_at u Idle (seat u).queue idle.own idle.hand refl)
