-- The rows of a worker keep the invariant.
use Rattle.std.proofs.Common.{◌≡◌, ℕ, suc, ◌+◌, ◌<◌, ◌≤◌, ◌⊎◌, ℤ, Bool, true, false, Option, Some, None, IsSome, List, [], ◌∷◌, ◌++◌, length, slice_set, slice_index_or, nat_le, refl, sym, ap, ◌∙◌, subst, inl, inr, ⊎_elim, arith, append-nil, length-set}
use Rattle.std.proofs.lemmas.Bool.{cases_eq, cases_lt, true≢false}
use Rattle.std.specs.Option.{option_map_or}
use Rattle.nest_syntax.specs.declared.names.Line.{Line}
use Rattle.nest_syntax.specs.declared.operators.Cause.{Cause}
use Rattle.nest_syntax.specs.declared.place.Place.{Place}
use Rattle.nest_syntax.specs.Arrays.{word_at, with_word}
use Rattle.nest_syntax.specs.Outcome.{place_of_trap}
use Rattle.settle_law.specs.Cuts.{HoldsFixed}
use Rattle.settle_law.specs.Trees.{Tree}
use Rattle.settle_law.specs.Traces.{Access, Read, Write, iteration, Sees, apply, part}
use Rattle.settle_law.specs.Tasks.{Left, Loads, Stores, Finishes, Traps}
use Rattle.settle_law.specs.Claims.{Claims}
use Rattle.settle_law.specs.Courses.{Nest, family_of, outcome}
use Rattle.settle_law.proofs.Commuting.{other_word}
use Rattle.settle_law.proofs.Tasks.{left_read, left_told, left_write, left_trapped}
use Rattle.spec_machine.specs.Facts.{Task, Pair, Abort, Fails, Overlaps, Facts}
use Rattle.spec_machine.specs.Machine.{Setup, State, Seat, Hand, Idle, Empty, Running, Stopped, DoBegin, DoWrite, DoNext, DoFinish, DoFail, DoTrap, DoLetGo, DoStop, seat_at, done_at, is_unordered, from, to, piece_at, sign_at, overlap_of, first_hand, noted_in, seat_after, state_after}
use Rattle.spec_machine.specs.Table.{IsWorking, IsAt, IsLeft}
use Rattle.spec_machine.specs.Runs.{ending_of}
use Rattle.spec_machine.specs.Theorems.{IsSetupFor, Tells}
use Rattle.spec_machine.specs.Invariant.{Plan, plan, IsOf, AbortOk, Done, HandOk, Sound, Invariant}
use Rattle.spec_machine.proofs.Plans.{in_block}
use Rattle.spec_machine.proofs.Seats.{each_seat}
use Rattle.spec_machine.proofs.Sounds.{sound_access}
use Rattle.spec_machine.proofs.Crew.{hand_is, row_go, row_next, row_finish, row_empty, row_stop, row_trap, row_begin}
use Rattle.spec_machine.proofs.Segmenting.{Present, present}
use Rattle.spec_machine.proofs.Causes.{trap_caused}

-- a write of a word that isn't told keeps the told ones
pub holds_write : (fixed : ℕ → Option ℤ) (words : List ℤ) (w : ℕ) (value : ℤ) → fixed w ≡ None → HoldsFixed fixed words → HoldsFixed fixed (with_word words w value)
holds_write fixed words w value free holds u told is = ⊎_elim
    (λ same. absurd (let no : None ≡ Some told = sym free ∙ ap fixed (sym same) ∙ is in cc))
    (λ other. other_word words w u value (λ same. other (sym same)) ∙ holds u told is)
    (cases_eq u w)

pub none_some : {A : Type 0} {o : Option A} {x : A} → o ≡ None → o ≡ Some x → ⊥
none_some {x = x} none is = let no : None ≡ Some x = sym none ∙ is in cc

-- a row without an access
pub quiet : (Q : List Access → Type 0) (trace : List Access) → Q trace → Q (trace ++ [])
quiet Q trace kept = subst Q (sym (append-nil trace)) kept

module _ {B C P G : Type 0} (m : Setup B C P G) (nest : Nest) (what : B × ℕ → ℕ × List ℤ) (start : C) (noted : G → Claims) (setup : IsSetupFor m nest what start noted) (s : State B C P G) (trace : List Access) (i : Invariant m nest what start noted s trace) where
  abbrev pub Kept : State B C P G → List Access → Type 0
  Kept t made = Invariant m nest what start noted t made

  abbrev pub S : Plan
  S = plan m i.first s.next s.epochs

  abbrev pub family : ℕ → Tree
  family = family_of m.system.fixed nest

  abbrev pub seat : ℕ → Seat P G
  seat u = seat_at s.seats u

  -- A row that leaves the open epochs, the scheduler, the marked words and the commits, as most rows do: what it tells of the
  -- state behind it. All else of the invariant is as it was.
  pub record Told (t : State B C P G) (made : List Access) : Type 0 where
    pub width : length t.seats ≡ m.width
    pub either : (t.abort ≡ None) ⊎ (t.trap ≡ None)
    pub strict : IsSome t.trap → t.distance ≡ 0
    pub sound : t.abort ≡ None → Sound m nest noted S t.mark t.words t.seats t.distance t.passed t.trap made
    pub aborted : (cause : Abort) → t.abort ≡ Some cause → AbortOk m nest what start t cause
    pub over : t.concluded ≡ true → ending_of t ≡ outcome nest

  pub others_kept : (words : List ℤ) (seats : List (Seat P G)) (passed : List Pair) (abort : Option Abort) (trap : Option Place) (concluded : Bool) (facts : Facts) (made : List Access) → s.facts.segments ≡ facts.segments
      → Told (record s { words = words; seats = seats; passed = passed; abort = abort; trap = trap; concluded = concluded; facts = facts }) made
      → Kept (record s { words = words; seats = seats; passed = passed; abort = abort; trap = trap; concluded = concluded; facts = facts }) made
  others_kept words seats passed abort trap concluded facts made commits told = record {
    first = i.first;
    width = told.width;
    marked = i.marked;
    chain = i.chain;
    known = i.known;
    course = i.course;
    early = i.early;
    segments = record { committed = i.segments.committed; are = i.segments.are; counts = i.segments.counts ∙ commits; whole = i.segments.whole };
    room = i.room;
    filled = i.filled;
    either = told.either;
    strict = told.strict;
    within = i.within;
    sound = told.sound;
    aborted = told.aborted;
    over = told.over;
  }

  -- a worker's row, with no abort
  worker_kept : (u : ℕ) (y : Seat P G) (words : List ℤ) (trap : Option Place) (made : List Access) → s.concluded ≡ false → s.abort ≡ None → (IsSome trap → s.distance ≡ 0) → Sound m nest noted S s.mark words (slice_set s.seats u y) s.distance s.passed trap made → Kept (record s { words = words; seats = slice_set s.seats u y; trap = trap }) made
  worker_kept u y words trap made going calm strict sound = others_kept words (slice_set s.seats u y) s.passed s.abort trap s.concluded s.facts made refl (record {
    width = length-set s.seats u y ∙ i.width;
    either = inl calm;
    strict = strict;
    sound = λ c. sound;
    aborted = λ cause is. absurd (none_some calm is);
    over = λ over. absurd (true≢false (sym over ∙ going));
  })

  -- an iteration at which a worker stands
  pub left_at : (u k : ℕ) (piece : P) → s.abort ≡ None → u < m.width → (seat u).hand ≡ Running k piece → Left m.system (family k) (part k trace) piece
  left_at u k piece calm own h = (hand_is m nest what start noted setup i.first s.next s.epochs i.chain s.mark s.words s.seats s.distance s.passed s.trap trace i.width (i.sound calm) u own (Running k piece) h).2.left

  -- a row with an access
  access_row : (u k : ℕ) (piece after : P) (a : Access) → IsWorking m s u (Running k piece) → iteration a ≡ k → Left m.system (family k) (part k trace ++ a ∷ []) after → Sees s.words a → HoldsFixed m.system.fixed (apply s.words a) → Kept (record s { words = apply s.words a; seats = slice_set s.seats u (record (seat_at s.seats u) { hand = Running k after; signs = noted_in m (a ∷ []) (seat_at s.seats u).done (seat_at s.seats u).signs }) }) (trace ++ a ∷ [])
  access_row u k piece after a working of_k new sees fixed = worker_kept u (record (seat_at s.seats u) { hand = Running k after; signs = noted_in m (a ∷ []) (seat_at s.seats u).done (seat_at s.seats u).signs }) (apply s.words a) s.trap (trace ++ a ∷ []) working.going working.calm i.strict
      (sound_access m nest what start noted setup i.first s.next s.epochs i.chain s.mark s.words s.seats s.distance s.passed s.trap trace i.width (i.sound working.calm) u k piece after a working.own working.holds of_k new sees fixed)

  pub go_row : (u k : ℕ) (piece after : P) → IsWorking m s u (Running k piece) → Left m.system (family k) (part k trace) after → Kept (record s { seats = slice_set s.seats u (record (seat_at s.seats u) { hand = Running k after }) }) trace
  go_row u k piece after working new = worker_kept u (record (seat_at s.seats u) { hand = Running k after }) s.words s.trap trace working.going working.calm i.strict
      (row_go m nest what start noted setup i.first s.next s.epochs i.chain s.mark s.words s.seats s.distance s.passed s.trap trace i.width (i.sound working.calm) u working.own k piece after working.holds new)

  -- a read, of a written array or of a `const` one
  pub read_row : (u k w : ℕ) (next : ℤ → P) (piece : P) (told : Option ℤ) → IsWorking m s u (Running k piece) → m.system.stop piece ≡ Loads w next → m.system.fixed w ≡ told → Kept (record s { seats = slice_set s.seats u (record (seat_at s.seats u) { hand = Running k (next (word_at s.words w)); signs = noted_in m (option_map_or (λ value. []) told (Read k w (word_at s.words w) ∷ [])) (seat_at s.seats u).done (seat_at s.seats u).signs }) }) (trace ++ option_map_or (λ value. []) told (Read k w (word_at s.words w) ∷ []))
  read_row u k w next piece None working stop is = access_row u k piece (next (word_at s.words w)) (Read k w (word_at s.words w)) working refl (left_read m.system (family k) (part k trace) piece w next k (word_at s.words w) (left_at u k piece working.calm working.own working.holds) stop is).0 refl (i.sound working.calm).fixed_words
  read_row u k w next piece (Some value) working stop is = quiet (Kept _) trace (go_row u k piece (next (word_at s.words w)) working (subst (λ x. Left m.system (family k) (part k trace) (next x)) (sym ((i.sound working.calm).fixed_words w value is)) (left_told m.system (family k) (part k trace) piece w next value (left_at u k piece working.calm working.own working.holds) stop is).0))

  pub write_row : (u k w : ℕ) (value : ℤ) (next piece : P) → IsWorking m s u (Running k piece) → m.system.stop piece ≡ Stores w value next → Kept (state_after m s u (DoWrite k w value next)) (trace ++ Write k w value ∷ [])
  write_row u k w value next piece working stop = let l = left_write m.system (family k) (part k trace) piece w value next k (left_at u k piece working.calm working.own working.holds) stop in access_row u k piece next (Write k w value) working refl l.1 tt (holds_write m.system.fixed s.words w value l.0 (i.sound working.calm).fixed_words)

  -- a worker's row that sets the hand, and perhaps counts a task
  hand_row : (u : ℕ) (hand : Hand P) (done : ℕ) → s.concluded ≡ false → s.abort ≡ None → Sound m nest noted S s.mark s.words (slice_set s.seats u (record (seat_at s.seats u) { hand = hand; done = done })) s.distance s.passed s.trap trace → Kept (record s { seats = slice_set s.seats u (record (seat_at s.seats u) { hand = hand; done = done }) }) trace
  hand_row u hand done going calm sound = worker_kept u (record (seat_at s.seats u) { hand = hand; done = done }) s.words s.trap trace going calm i.strict sound

  pub next_row : (u j k : ℕ) (piece : P) → IsAt m s u j Finishes → k ≡ suc j → k < to m s.epochs (seat u).done u → piece ≡ piece_at m s.epochs (seat u).done k → Kept (state_after m s u (DoNext k piece)) trace
  next_row u j k piece at is high begins = subst (λ q. Kept (state_after m s u (DoNext k q)) trace) (sym begins) (subst (λ n. Kept (state_after m s u (DoNext n (piece_at m s.epochs (seat u).done n))) trace) (sym is)
      (hand_row u (Running (suc j) (piece_at m s.epochs (seat u).done (suc j))) (seat u).done at.working.going at.working.calm
      (row_next m nest what start noted setup i.first s.next s.epochs i.chain s.mark s.words s.seats s.distance s.passed s.trap trace i.width (i.sound at.working.calm) u at.working.own j at.piece at.working.holds at.stops (subst (λ n. n < to m s.epochs (seat u).done u) is high))))

  pub finish_row : (u : ℕ) → (IsWorking m s u Empty × (s.trap ≡ None)) ⊎ ((k : ℕ) × IsAt m s u k Finishes × (to m s.epochs (seat u).done u ≤ suc k)) → Kept (state_after m s u DoFinish) trace
  finish_row u (inl (working, none)) = hand_row u Idle (suc (seat u).done) working.going working.calm (row_empty m nest what start noted setup i.first s.next s.epochs i.chain s.mark s.words s.seats s.distance s.passed s.trap trace i.width (i.sound working.calm) u working.own working.holds)
  finish_row u (inr (k, at, last)) = hand_row u Idle (suc (seat u).done) at.working.going at.working.calm (row_finish m nest what start noted setup i.first s.next s.epochs i.chain s.mark s.words s.seats s.distance s.passed s.trap trace i.width (i.sound at.working.calm) u at.working.own k at.piece at.working.holds at.stops last)

  pub trap_row : (u k : ℕ) (cause : Cause) (line : Line) → IsAt m s u k (Traps cause line) → s.distance ≡ 0 → Kept (state_after m s u (DoTrap k cause line)) trace
  trap_row u k cause line at near = worker_kept u (record (seat_at s.seats u) { hand = Stopped }) s.words (Some (place_of_trap cause line k false)) trace at.working.going at.working.calm (λ some. near)
      (row_trap m nest what start noted setup i.first s.next s.epochs i.chain s.mark s.words s.seats s.distance s.passed s.trap trace i.width (i.sound at.working.calm) u at.working.own k at.piece cause line at.working.holds at.stops at.below near)

  pub begin_row : (u : ℕ) (hand : Hand P) → IsWorking m s u Idle → (seat u).done < length s.epochs → ((v : ℕ) → v < m.width → (seat u).done ≤ done_at s.seats v + s.distance) → hand ≡ first_hand m s.epochs (seat u).done u → Kept (state_after m s u (DoBegin hand)) trace
  begin_row u hand working lt near is = subst (λ h. Kept (state_after m s u (DoBegin h)) trace) (sym is)
      (worker_kept u (seat_after m s (seat_at s.seats u) (DoBegin (first_hand m s.epochs (seat u).done u))) s.words s.trap trace working.going working.calm i.strict
      (row_begin m nest what start noted setup i.first s.next s.epochs i.chain s.mark s.words s.seats s.distance s.passed s.trap trace i.width (i.sound working.calm) u working.own working.holds lt near))

  pub stop_row : (u : ℕ) (hand : Hand P) (t : Place) → IsWorking m s u hand → (hand ≡ Stopped → ⊥) → s.trap ≡ Some t → ((j : ℕ) → IsLeft m s hand (seat u).done u j → t.number ≤ j) → Kept (state_after m s u DoStop) trace
  stop_row u hand t working moves is none = hand_row u Stopped (seat u).done working.going working.calm
      (row_stop m nest what start noted setup i.first s.next s.epochs i.chain s.mark s.words s.seats s.distance s.passed s.trap trace i.width sound u working.own hand t working.holds moves is (λ j of lt. by_hand hand (hand_is m nest what start noted setup i.first s.next s.epochs i.chain s.mark s.words s.seats s.distance s.passed s.trap trace i.width sound u working.own hand working.holds) none moves j of lt))
    where
      sound : Sound m nest noted S s.mark s.words s.seats s.distance s.passed s.trap trace
      sound = i.sound working.calm

      block : (j : ℕ) → IsOf S (seat u).done u j → ((seat u).done < length s.epochs) × (from m s.epochs (seat u).done u ≤ j) × (j < to m s.epochs (seat u).done u)
      block j of = let b = in_block m nest what start noted setup i.first s.next s.epochs i.chain j of.0 in subst (λ e. (e < length s.epochs) × (from m s.epochs e u ≤ j) × (j < to m s.epochs e u)) of.1 (subst (λ v. (S.epoch j < length s.epochs) × (from m s.epochs (S.epoch j) v ≤ j) × (j < to m s.epochs (S.epoch j) v)) of.2 (b.epoch, b.low, b.high))

      by_hand : (hand : Hand P) → HandOk m nest noted S trace s.trap u (seat u).done (length (seat u).seen) hand → ((j : ℕ) → IsLeft m s hand (seat u).done u j → t.number ≤ j) → (hand ≡ Stopped → ⊥) → (j : ℕ) → IsOf S (seat u).done u j → j < t.number → Done m nest noted S trace j
      by_hand Idle ok none moves j of lt = absurd (let l : t.number ≤ j = none j (block j of) in omega arith)
      by_hand Empty ok none moves j of lt = absurd (ok.2 j of)
      by_hand (Running k piece) ok none moves j of lt = ⊎_elim
          (λ l. ok.2.before j of l)
          (λ ge. absurd (let l : t.number ≤ j = none j (ge, (block j of).2) in omega arith))
          (cases_lt j k)
      by_hand Stopped ok none moves j of lt = absurd (moves refl)

  -- an iteration traps at a distance above 0: the segment is given up
  pub fail_row : (u k : ℕ) (cause : Cause) (line : Line) → IsAt m s u k (Traps cause line) → 0 < s.distance → Kept (state_after m s u DoFail) trace
  fail_row u k cause line at far = others_kept _ _ _ _ _ _ _ _ refl (record {
    width = length-set s.seats u (record (seat_at s.seats u) { hand = Idle }) ∙ i.width;
    either = inr (untrapped s.trap refl);
    strict = i.strict;
    sound = λ calm. absurd (let no : Some (Fails this) ≡ None = calm in cc);
    aborted = λ why is. subst (AbortOk m nest what start (state_after m s u DoFail)) (let e : Some (Fails this) ≡ Some why = is in some_is e) (record {
      given = let l : (seat u).done < length s.epochs = ok.1 in omega arith;
      tells = far;
      caused = λ claims size held. trap_caused m nest what start noted setup i.first s.next s.epochs i.chain i.known s.mark s.words i.marked s.seats s.distance s.passed s.trap trace i.width (i.sound at.working.calm) claims size held now.more s.facts.segments now.segment i.within k cause line ok.2.of_task.0 (left_trapped m.system (family k) (part k trace) at.piece cause line ok.2.left at.stops);
    });
    over = λ over. absurd (true≢false (sym over ∙ at.working.going));
  })
    where
      this : Task
      this = record { epoch = done_at s.seats u; worker = u }

      some_is : {x y : Abort} → Some x ≡ Some y → x ≡ y
      some_is e = cc

      ok : HandOk m nest noted S trace s.trap u (seat u).done (length (seat u).seen) (Running k at.piece)
      ok = hand_is m nest what start noted setup i.first s.next s.epochs i.chain s.mark s.words s.seats s.distance s.passed s.trap trace i.width (i.sound at.working.calm) u at.working.own (Running k at.piece) at.working.holds

      now : Present m nest what start s i.first
      now = present m nest what start s i.first (let l : (seat u).done < length s.epochs = ok.1 in omega arith) i.chain (subst IsSome (sym i.marked) refl) i.segments

      untrapped : (trap : Option Place) → s.trap ≡ trap → s.trap ≡ None
      untrapped None is = is
      untrapped (Some t) is = absurd (let z : s.distance ≡ 0 = i.strict (subst IsSome (sym is) refl) in omega arith)

  -- a running worker lets go
  pub let_go_row : (u : ℕ) → u < m.width → s.concluded ≡ false → IsSome s.abort → Kept (state_after m s u DoLetGo) trace
  let_go_row u own going some = others_kept _ _ _ _ _ _ _ _ refl (record {
    width = length-set s.seats u rests ∙ i.width;
    either = i.either;
    strict = i.strict;
    sound = λ calm. absurd (true≢false (sym (subst IsSome calm some)));
    aborted = λ cause is. let old = i.aborted cause is in record { given = old.given; tells = tells cause old.tells; caused = old.caused };
    over = λ over. absurd (true≢false (sym over ∙ going));
  })
    where
      rests : Seat P G
      rests = record (seat_at s.seats u) { hand = Idle }

      after : List (Seat P G)
      after = slice_set s.seats u (record (seat_at s.seats u) { hand = Idle })

      same : (v : ℕ) → ((seat_at after v).seen ≡ (seat v).seen) × ((seat_at after v).signs ≡ (seat v).signs)
      same v = each_seat (λ w x. (x.seen ≡ (seat w).seen) × (x.signs ≡ (seat w).signs)) s.seats u rests (omega (arith, i.width)) (refl, refl) (λ w other. (refl, refl)) v

      unordered_same : (p : Pair) → is_unordered after p ≡ is_unordered s.seats p
      unordered_same p = ap (λ l. nat_le (slice_index_or (slice_index_or l p.late.epoch []) p.early.worker 0) p.early.epoch) (same p.late.worker).0

      overlap_same : (p : Pair) → overlap_of m after p ≡ overlap_of m s.seats p
      overlap_same p = ap (λ l. m.kind.overlap (slice_index_or l p.early.epoch m.kind.blank) (sign_at m after p.late)) (same p.early.worker).1 ∙ ap (λ l. m.kind.overlap (sign_at m s.seats p.early) (slice_index_or l p.late.epoch m.kind.blank)) (same p.late.worker).1

      tells : (cause : Abort) → Tells m s cause → Tells m (state_after m s u DoLetGo) cause
      tells (Fails t) far = far
      tells (Overlaps p array) (among, unordered, overlaps) = (among, unordered_same p ∙ unordered, overlap_same p ∙ overlaps)
