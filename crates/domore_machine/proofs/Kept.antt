-- The trace: who has an access in it has all lower clashing iterations finished, so it replays and is in order, and leads
-- to the present words. Each row keeps this.
use Rattle.std.proofs.Common.{◌≡◌, ℕ, ◌%◌, ◌<◌, ◌≤◌, ℤ, true, false, Option, Some, None, List, [], ◌∷◌, ◌++◌, refl, sym, ap, ◌∙◌, subst, inl, inr, ⊎_elim, arith, append-nil}
use Rattle.std.proofs.lemmas.Bool.{cases_lt, cases_Bool}
use Rattle.std.proofs.lemmas.Nat.{mod_below}
use Rattle.std.specs.Option.{option_map_or}
use Rattle.nest_syntax.specs.Arrays.{word_at}
use Rattle.settle_law.specs.Trees.{Tree}
use Rattle.settle_law.specs.Cuts.{plain}
use Rattle.settle_law.specs.Traces.{Access, Read, Write, iteration, Each, apply, Conflict, part, Apart}
use Rattle.settle_law.specs.Tasks.{Loads, Stores, Left}
use Rattle.settle_law.specs.Courses.{Nest, family_of}
use Rattle.settle_law.proofs.Members.{Has, each_at, each_of, each_push, has_part}
use Rattle.settle_law.proofs.Commuting.{conflict_comm}
use Rattle.settle_law.proofs.Push.{settle_push, replays_push, in_order_push}
use Rattle.settle_law.proofs.Turns.{holds_write}
use Rattle.settle_law.proofs.Tasks.{left_read, left_write}
use Rattle.domore_machine.specs.Machine.{Setup, State, Seat, Move, DoScalar, DoClose, DoDrain, DoDispatch, DoHalt, DoTake, DoPass, DoRead, DoWrite, DoGo, DoFinish, DoTrap, DoDropHeld, DoDropQueued, DoEnd, seat_at, done_at, state_after, seat_with, ticket_of, accesses_of}
use Rattle.domore_machine.specs.Invariant.{AllTickets, AllWaits, Guarded, AllParts, WordsKept}
use Rattle.domore_machine.proofs.Guards.{Guard, Holds}
use Rattle.domore_machine.proofs.Seats.{done_grows}
use Rattle.domore_machine.proofs.Tickets.{inside, held}
use Rattle.domore_machine.proofs.WaitsLeft.{clear_at}
use Rattle.domore_machine.proofs.Parts.{left_at}

-- the last of a list that is one longer
has_last : (trace : List Access) (b : Access) → Has b (trace ++ b ∷ [])
has_last [] b = inl refl
has_last (a ∷ trace) b = inr (has_last trace b)

module _ {B C P : Type 0} (m : Setup B C P) (nest : Nest) (what : B → ℕ × List ℤ) (s : State B C P) (trace : List Access) (tickets : AllTickets m s) (waiting : AllWaits m s) (guards : Guarded m s trace) (words : WordsKept m.system.fixed nest.opening trace s.words) (parts : AllParts m nest what s trace) where
  abbrev pub family : ℕ → Tree
  family = family_of m.system.fixed nest

  abbrev pub seat : ℕ → Seat B P
  seat u = seat_at s.seats u

  -- no row takes back what is done
  done_row : (u : ℕ) (move : Move B C P) → 0 < m.width → Guard m s u move → (v : ℕ) → done_at s.seats v ≤ done_at (state_after m s u move).seats v
  done_row u (DoScalar purpose None rest) some g v = omega arith
  done_row u (DoScalar purpose (Some trap) rest) some g v = omega arith
  done_row u (DoClose rest) some g v = omega arith
  done_row u (DoDrain purpose None rest) some g v = omega arith
  done_row u (DoDrain purpose (Some trap) rest) some g v = omega arith
  done_row u (DoDispatch b rest) some g v = done_grows s.seats (s.next % m.width) (seat_with (seat (s.next % m.width)) (ticket_of m s b)) (inside m s tickets (s.next % m.width) (mod_below s.next m.width some)) (omega arith) v
  done_row u DoHalt some g v = omega arith
  done_row u (DoTake ticket queue) some (idle, below) v = done_grows s.seats u _ (inside m s tickets u idle.own) (omega arith) v
  done_row u (DoPass k w left piece) some (h, over) v = done_grows s.seats u _ (inside m s tickets u h.own) (omega arith) v
  done_row u (DoRead k w next) some (piece, h, stop) v = done_grows s.seats u _ (inside m s tickets u h.own) (omega arith) v
  done_row u (DoWrite k w value next) some (piece, h, stop) v = done_grows s.seats u _ (inside m s tickets u h.own) (omega arith) v
  done_row u (DoGo k next) some (piece, h, stop) v = done_grows s.seats u _ (inside m s tickets u h.own) (omega arith) v
  done_row u (DoFinish k) some (piece, h, stop) v = done_grows s.seats u _ (inside m s tickets u h.own) (let l : (seat u).done ≤ k = (held m s tickets u k [] piece h.own h.hand).rises.0 in omega arith) v
  done_row u (DoTrap k cause line) some (piece, h, stop) v = done_grows s.seats u _ (inside m s tickets u h.own) (omega arith) v
  done_row u (DoDropHeld k) some (left, piece, own, h, above) v = done_grows s.seats u _ (inside m s tickets u own) (omega arith) v
  done_row u (DoDropQueued ticket queue) some (idle, above) v = done_grows s.seats u _ (inside m s tickets u idle.own) (omega arith) v
  done_row u DoEnd some (idle, over) v = done_grows s.seats u _ (inside m s tickets u idle.own) (omega arith) v

  -- all lower clashing iterations are done in another state too
  abbrev pub IsClear : State B C P → Access → Type 0
  IsClear t a = (j : ℕ) → j < iteration a → m.clashes j (iteration a) ≡ true → j < done_at t.seats (j % m.width)

  guarded_grows : (t : State B C P) → ((v : ℕ) → done_at s.seats v ≤ done_at t.seats v) → Guarded m t trace
  guarded_grows t grows = each_of (IsClear t) trace (λ a has j lt clash. let l : j < done_at s.seats (j % m.width) = each_at (IsClear s) trace a guards has j lt clash in let g : done_at s.seats (j % m.width) ≤ done_at t.seats (j % m.width) = grows (j % m.width) in omega arith)

  access_guarded : (t : State B C P) (u k : ℕ) (piece : P) (a : Access) → Holds m s u k [] piece → iteration a ≡ k → ((v : ℕ) → done_at s.seats v ≤ done_at t.seats v) → Guarded m t (trace ++ a ∷ [])
  access_guarded t u k piece a h own grows = each_push (IsClear t) trace a (guarded_grows t grows) (λ j lt clash. let c : j < done_at s.seats (j % m.width) = clear_at m s tickets waiting u k piece h j (omega arith) (subst (λ x. m.clashes j x ≡ true) own clash) in let g : done_at s.seats (j % m.width) ≤ done_at t.seats (j % m.width) = grows (j % m.width) in omega arith)

  quiet_guarded : (t : State B C P) → ((v : ℕ) → done_at s.seats v ≤ done_at t.seats v) → Guarded m t (trace ++ [])
  quiet_guarded t grows = subst (Guarded m t) (sym (append-nil trace)) (guarded_grows t grows)

  read_guarded : (t : State B C P) (u k w : ℕ) (piece : P) (told : Option ℤ) (value : ℤ) → Holds m s u k [] piece → ((v : ℕ) → done_at s.seats v ≤ done_at t.seats v) → Guarded m t (trace ++ option_map_or (λ x. []) told (Read k w value ∷ []))
  read_guarded t u k w piece None value h grows = access_guarded t u k piece (Read k w value) h refl grows
  read_guarded t u k w piece (Some x) value h grows = quiet_guarded t grows

  quiet_move : (u : ℕ) (move : Move B C P) → 0 < m.width → Guard m s u move → accesses_of m s.words move ≡ [] → Guarded m (state_after m s u move) (trace ++ accesses_of m s.words move)
  quiet_move u move some g none = subst (λ made. Guarded m (state_after m s u move) (trace ++ made)) (sym none) (quiet_guarded (state_after m s u move) (done_row u move some g))

  -- each row keeps who is guarded
  pub guarded_row : (u : ℕ) (move : Move B C P) → 0 < m.width → Guard m s u move → Guarded m (state_after m s u move) (trace ++ accesses_of m s.words move)
  guarded_row u (DoScalar purpose trap rest) some g = quiet_move u (DoScalar purpose trap rest) some g refl
  guarded_row u (DoClose rest) some g = quiet_move u (DoClose rest) some g refl
  guarded_row u (DoDrain purpose trap rest) some g = quiet_move u (DoDrain purpose trap rest) some g refl
  guarded_row u (DoDispatch b rest) some g = quiet_move u (DoDispatch b rest) some g refl
  guarded_row u DoHalt some g = quiet_move u DoHalt some g refl
  guarded_row u (DoTake ticket queue) some g = quiet_move u (DoTake ticket queue) some g refl
  guarded_row u (DoPass k w left piece) some g = quiet_move u (DoPass k w left piece) some g refl
  guarded_row u (DoRead k w next) some (piece, h, stop) = read_guarded (state_after m s u (DoRead k w next)) u k w piece (m.system.fixed w) (word_at s.words w) h (done_row u (DoRead k w next) some (piece, h, stop))
  guarded_row u (DoWrite k w value next) some (piece, h, stop) = access_guarded (state_after m s u (DoWrite k w value next)) u k piece (Write k w value) h refl (done_row u (DoWrite k w value next) some (piece, h, stop))
  guarded_row u (DoGo k next) some g = quiet_move u (DoGo k next) some g refl
  guarded_row u (DoFinish k) some g = quiet_move u (DoFinish k) some g refl
  guarded_row u (DoTrap k cause line) some g = quiet_move u (DoTrap k cause line) some g refl
  guarded_row u (DoDropHeld k) some g = quiet_move u (DoDropHeld k) some g refl
  guarded_row u (DoDropQueued ticket queue) some g = quiet_move u (DoDropQueued ticket queue) some g refl
  guarded_row u DoEnd some g = quiet_move u DoEnd some g refl

  module _ (apart : (j k : ℕ) → j < k → m.clashes j k ≡ false → Apart (family j) (family k)) where
    -- nothing of a higher iteration in the trace conflicts with a new access of the held one
    leads : (u k : ℕ) (piece next : P) (a : Access) → Holds m s u k [] piece → iteration a ≡ k → Left m.system (family k) (part k trace ++ a ∷ []) next → Each (λ b. Conflict b a → iteration b ≤ iteration a) trace
    leads u k piece next a h own new = each_of (λ b. Conflict b a → iteration b ≤ iteration a) trace (λ b has conflict. ⊎_elim
        (λ higher. absurd (⊎_elim (clashes b has (omega arith)) (parted b has conflict (omega arith)) (cases_Bool (m.clashes k (iteration b)))))
        (λ le. le)
        (cases_lt (iteration a) (iteration b)))
      where
        clashes : (b : Access) → Has b trace → k < iteration b → m.clashes k (iteration b) ≡ true → ⊥
        clashes b has lt clash = let t = (held m s tickets u k [] piece h.own h.hand).rises in
            let l : k < done_at s.seats (k % m.width) = each_at (IsClear s) trace b guards has k lt clash in
            let d : done_at s.seats u ≤ k = t.0 in
            let e : done_at s.seats (k % m.width) ≡ done_at s.seats u = ap (done_at s.seats) t.1 in
            omega arith

        parted : (b : Access) → Has b trace → Conflict b a → k < iteration b → m.clashes k (iteration b) ≡ false → ⊥
        parted b has conflict lt free = each_at (λ y. Conflict a y → ⊥) (part (iteration b) trace) b
            (each_at (λ x. Each (λ y. Conflict x y → ⊥) (part (iteration b) trace)) (part k trace ++ a ∷ []) a
            (apart k (iteration b) lt free (part k trace ++ a ∷ []) (part (iteration b) trace) (plain m.system.fixed new.left, new.makes) (parts.fits (iteration b)))
            (has_last (part k trace) a))
            (has_part (iteration b) b trace has refl)
            (conflict_comm b a conflict)

    read_words : (u k w : ℕ) (piece : P) (next : ℤ → P) (told : Option ℤ) → Holds m s u k [] piece → m.system.stop piece ≡ Loads w next → m.system.fixed w ≡ told → WordsKept m.system.fixed nest.opening (trace ++ option_map_or (λ x. []) told (Read k w (word_at s.words w) ∷ [])) s.words
    read_words u k w piece next None h stop is = record {
      replays = replays_push nest.opening trace (Read k w (word_at s.words w)) words.replays (ap (λ x. word_at x w) words.settles);
      in_order = in_order_push trace (Read k w (word_at s.words w)) words.in_order (leads u k piece (next (word_at s.words w)) (Read k w (word_at s.words w)) h refl (left_read m.system (family k) (part k trace) piece w next k (word_at s.words w) (left_at m nest what s trace tickets words.fixed_words parts u k [] piece h.own h.hand) stop is).0);
      settles = settle_push nest.opening trace (Read k w (word_at s.words w)) ∙ words.settles;
      fixed_words = words.fixed_words;
    }
    read_words u k w piece next (Some value) h stop is = subst (λ x. WordsKept m.system.fixed nest.opening x s.words) (sym (append-nil trace)) words

    write_words : (u k w : ℕ) (value : ℤ) (piece next : P) → Holds m s u k [] piece → m.system.stop piece ≡ Stores w value next → WordsKept m.system.fixed nest.opening (trace ++ Write k w value ∷ []) (apply s.words (Write k w value))
    write_words u k w value piece next h stop = let l = left_write m.system (family k) (part k trace) piece w value next k (left_at m nest what s trace tickets words.fixed_words parts u k [] piece h.own h.hand) stop in record {
      replays = replays_push nest.opening trace (Write k w value) words.replays tt;
      in_order = in_order_push trace (Write k w value) words.in_order (leads u k piece next (Write k w value) h refl l.1);
      settles = settle_push nest.opening trace (Write k w value) ∙ ap (λ x. apply x (Write k w value)) words.settles;
      fixed_words = holds_write m.system.fixed s.words w value l.0 words.fixed_words;
    }

    quiet_words : WordsKept m.system.fixed nest.opening (trace ++ []) s.words
    quiet_words = subst (λ x. WordsKept m.system.fixed nest.opening x s.words) (sym (append-nil trace)) words

    -- each row keeps the words
    pub words_row : (u : ℕ) (move : Move B C P) → Guard m s u move → WordsKept m.system.fixed nest.opening (trace ++ accesses_of m s.words move) (state_after m s u move).words
    words_row u (DoScalar purpose None rest) g = quiet_words
    words_row u (DoScalar purpose (Some trap) rest) g = quiet_words
    words_row u (DoClose rest) g = quiet_words
    words_row u (DoDrain purpose None rest) g = quiet_words
    words_row u (DoDrain purpose (Some trap) rest) g = quiet_words
    words_row u (DoDispatch b rest) g = quiet_words
    words_row u DoHalt g = quiet_words
    words_row u (DoTake ticket queue) g = quiet_words
    words_row u (DoPass k w left piece) g = quiet_words
    words_row u (DoRead k w next) (piece, h, stop) = read_words u k w piece next (m.system.fixed w) h stop refl
    words_row u (DoWrite k w value next) (piece, h, stop) = write_words u k w value piece next h stop
    words_row u (DoGo k next) g = quiet_words
    words_row u (DoFinish k) g = quiet_words
    words_row u (DoTrap k cause line) g = quiet_words
    words_row u (DoDropHeld k) g = quiet_words
    words_row u (DoDropQueued ticket queue) g = quiet_words
    words_row u DoEnd g = quiet_words
