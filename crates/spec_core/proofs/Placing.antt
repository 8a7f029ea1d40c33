-- A row of a worker leaves the state behind its move, and a sound table.
use Rattle.std.proofs.Common.{◌≡◌, ℕ, zero, suc, ◌<◌, ◌≤◌, true, false, nat_lt, if◌then◌else◌, Option, Some, List, [], ◌∷◌, map, length, slice_set, slice_index, get_or, refl, sym, ap, ◌∙◌, subst, arith, length-set}
use Rattle.std.proofs.lemmas.List.{get_or_read_under}
use Rattle.std.specs.Option.{option_map}
use Rattle.std.specs.Vec.{with_item}
use Rattle.nest_syntax.specs.Among.{Each}
use Rattle.nest_syntax.specs.declared.place.Place.{Place}
use Rattle.nest_syntax.specs.declared.names.Line.{Line}
use Rattle.nest_syntax.specs.declared.operators.Cause.{Cause}
use Rattle.nest_syntax.specs.Outcome.{place_of_trap}
use Rattle.progress_board.specs.declared.facts.RollCause.TheVariants as causes
use Rattle.spec_machine.specs.Facts.{Fails}
use Rattle.spec_core.specs.Engine.{Stand}
use Rattle.word_store.specs.Memory.{Memory}
use Rattle.progress_board.specs.declared.facts.RollCause.{RollCause}
use Rattle.task_frame.specs.declared.piece.Piece.{Piece}
use Rattle.sched_cursor.specs.Cursor.{Cursor}
use Rattle.spec_machine.specs.Machine.{Setup, Seat, Hand, Idle, Running, Stopped, DoNext, DoFinish, DoFail, DoTrap, seat_at, to, piece_at, worker_after, failing_move, end_move}
use Rattle.spec_setup.specs.Setups.{Invoked}
use Rattle.spec_core.specs.declared.plan.Plan.{Plan}
use Rattle.spec_core.specs.declared.table.Table.{Table}
use Rattle.spec_core.specs.Hands.{Bench, bench_at, idle_bench, seat_in, seats_of}
use Rattle.spec_core.specs.Reports.{abort_in}
use Rattle.spec_core.specs.Tables.{state_of, IsPlan, IsBenchBy, IsSound}
use Rattle.spec_core.specs.Passed.{passed_in}
use Rattle.spec_core.proofs.Seating.{seats_put, seats_there}

pub each_put : {A : Type 0} (P : A → Type 0) (xs : List A) (i : ℕ) (x : A) → Each P xs → P x → Each P (slice_set xs i x)
each_put P [] i x each here = tt
each_put P (y ∷ xs) zero x each here = (here, each.1)
each_put P (y ∷ xs) (suc i) x each here = (each.0, each_put P xs i x each.1 here)

pub each_of : {A : Type 0} (P : A → Type 0) (xs : List A) (i : ℕ) (d : A) → i < length xs → Each P xs → P (get_or xs i d)
each_of P [] i d lt each = absurd (omega arith)
each_of P (x ∷ xs) zero d lt each = each.0
each_of P (x ∷ xs) (suc i) d lt each = each_of P xs i d (omega arith) each.1

pub each_part : {A : Type 0} (P Q : A → Type 0) → ((x : A) → P x → Q x) → (xs : List A) → Each P xs → Each Q xs
each_part P Q part [] each = tt
each_part P Q part (x ∷ xs) each = (part x each.0, each_part P Q part xs each.1)

-- a worker that has finished more leaves no one with less
pub more_done : {G : Type 0} (xs : List (Bench G)) (u v n : ℕ) (b : Bench G) → (bench_at xs u).done ≤ b.done → n < slice_index (map (λ (x : Bench G). x.done) xs) v → n < slice_index (map (λ (x : Bench G). x.done) (slice_set xs u b)) v
more_done [] u v n b more less = less
more_done (x ∷ xs) zero zero n b more less = omega arith
more_done (x ∷ xs) zero (suc v) n b more less = less
more_done (x ∷ xs) (suc u) zero n b more less = less
more_done (x ∷ xs) (suc u) (suc v) n b more less = more_done xs u v n b more less

pub done_there : {G : Type 0} (xs : List (Bench G)) (u : ℕ) → u < length xs → slice_index (map (λ (x : Bench G). x.done) xs) u ≡ (bench_at xs u).done
done_there [] u lt = absurd (omega arith)
done_there (x ∷ xs) zero lt = refl
done_there (x ∷ xs) (suc u) lt = done_there xs u (omega arith)

module _ {G : Type 0} (sizes_in : G → List ℕ) (plan : Plan) (old : Table G) (u : ℕ) (was : Bench G) (sound : IsSound sizes_in plan old) (own : u < plan.options.workers) (at : was ≡ get_or old.seats.items u was) where
  pub inside : u < length old.seats.items
  inside = subst (λ n. u < n) (sym sound.seats) own

  pub was_is : was ≡ bench_at old.seats.items u
  was_is = get_or_read_under old.seats.items u (length old.seats.items) was idle_bench at inside refl

  pub kept_by : IsBenchBy sizes_in plan was
  kept_by = subst (IsBenchBy sizes_in plan) (sym was_is) (each_of (IsBenchBy sizes_in plan) old.seats.items u idle_bench inside sound.benches)

  -- the table with another worker, other words, abort and trap
  abbrev pub changed : Bench G → Memory → Option RollCause → Option Place → Table G
  changed b words abort trap = record old { seats = with_item old.seats u b; words = words; abort = abort; trap = trap }

  many : (b : Bench G) → length (slice_set old.seats.items u b) ≡ length old.seats.items
  many b = length-set old.seats.items u b

  -- what is changed of a worker is changed of its seat
  pub row_by : (b : Bench G) (words : Memory) (abort : Option RollCause) (trap : Option Place) (change : Bench G → Bench G) → b ≡ change was → (does : Seat Piece G → Seat Piece G)
      → seat_in (length old.seats.items) old.seen.items u (change (bench_at old.seats.items u)) ≡ does (seat_in (length old.seats.items) old.seen.items u (bench_at old.seats.items u))
      → state_of (changed b words abort trap) ≡ record (state_of old) { words = words.words; seats = slice_set (state_of old).seats u (does (seat_at (state_of old).seats u)); abort = option_map abort_in abort; trap = trap }
  row_by b words abort trap change is does same =
      λ i. record (state_of (changed b words abort trap)) { seats = seats i; passed = passed_in (many b i) (length old.desk.epochs) old.seen.items old.checker }
    where
      seats : seats_of old.seen.items (slice_set old.seats.items u b) ≡ slice_set (seats_of old.seen.items old.seats.items) u (does (seat_at (seats_of old.seen.items old.seats.items) u))
      seats = seats_put old.seen.items old.seats.items u b
          ∙ ap (λ (x : Bench G). slice_set (seats_of old.seen.items old.seats.items) u (seat_in (length old.seats.items) old.seen.items u x)) (is ∙ ap change was_is)
          ∙ ap (slice_set (seats_of old.seen.items old.seats.items) u) (same ∙ ap does (sym (seats_there old.seen.items old.seats.items u inside)))

  pub sound_by : (b : Bench G) (words : Memory) (abort : Option RollCause) (trap : Option Place) → words.sizes ≡ old.words.sizes → IsBenchBy sizes_in plan b → was.done ≤ b.done → IsSound sizes_in plan (changed b words abort trap)
  sound_by b words abort trap same is more = record {
    seats = many b ∙ sound.seats;
    benches = each_put (IsBenchBy sizes_in plan) old.seats.items u b sound.benches is;
    seen = sound.seen;
    sizes = same ∙ sound.sizes;
    mark = sound.mark;
    desk = sound.desk;
    near = sound.near;
    reached = λ names last. λ before mine first. more_done old.seats.items u before.worker before.epoch b (subst (λ (x : Bench G). x.done ≤ b.done) was_is more) (sound.reached names last before (subst (λ n. before.worker < n) (many b) mine) first);
  }

  -- where only what it holds is another
  pub sound_held : (b : Bench G) (words : Memory) (abort : Option RollCause) (trap : Option Place) → words.sizes ≡ old.words.sizes → (hand : Hand Piece) → b ≡ record was { hand = hand } → IsSound sizes_in plan (changed b words abort trap)
  sound_held b words abort trap same hand is =
      sound_by b words abort trap same
      (subst (IsBenchBy sizes_in plan) (sym is) (record { places = kept_by.places; sizes = kept_by.sizes; begun = kept_by.begun; done = kept_by.done }))
      (subst (λ (x : Bench G). was.done ≤ x.done) (sym is) (let all : was.done ≤ was.done = omega arith in all))

  -- the hand of the seat
  pub held_there : {k : ℕ} {p : Piece} → (bench_at old.seats.items u).hand ≡ Running k p → was.hand ≡ Running k p
  held_there held = ap (λ (x : Bench G). x.hand) was_is ∙ held

  -- where its task is finished
  pub few_done : IsPlan plan → (bench_at old.seats.items u).done < (bench_at old.seats.items u).begun → was.done < 64
  few_done ready less =
      let short : was.done < was.begun = subst (λ (x : Bench G). x.done < x.begun) (sym was_is) less in
      omega (arith, short, kept_by.begun, ready.few_epochs)

  pub sound_finished : (b : Bench G) → (bench_at old.seats.items u).done < (bench_at old.seats.items u).begun → b ≡ record was { hand = Idle; done = suc was.done } → IsSound sizes_in plan (changed b old.words old.abort old.trap)
  sound_finished b less is =
      let short : was.done < was.begun = subst (λ (x : Bench G). x.done < x.begun) (sym was_is) less in
      sound_by b old.words old.abort old.trap refl
      (subst (IsBenchBy sizes_in plan) (sym is) (record { places = kept_by.places; sizes = kept_by.sizes; begun = kept_by.begun; done = omega (arith, short) }))
      (subst (λ (x : Bench G). was.done ≤ x.done) (sym is) (let all : was.done ≤ suc was.done = omega arith in all))

  -- a trap at a distance, and one at none
  pub fails_by : (m : Setup Invoked Cursor Piece G) (b : Bench G) (epoch k : ℕ) (cause : Cause) (line : Line) → 0 < old.distance → b ≡ record was { hand = Idle } → epoch ≡ was.done
      → state_of (changed b old.words (Some (causes.Trap (record { epoch = epoch; worker = u }))) old.trap) ≡ worker_after m (state_of old) u (failing_move m old.distance k cause line)
  fails_by m b epoch k cause line far is done =
      row_by b old.words (Some (causes.Trap (record { epoch = epoch; worker = u }))) old.trap (λ (x : Bench G). let y : Bench G = record x { hand = Idle } in y) is
      (λ (x : Seat Piece G). let y : Seat Piece G = record x { hand = Idle } in y) refl
      ∙ ap (λ n. let t : Stand G = record (state_of old) { seats = slice_set (state_of old).seats u (record (seat_at (state_of old).seats u) { hand = Idle }); abort = Some (Fails (record { epoch = n; worker = u })) } in t)
      (done ∙ ap (λ (x : Bench G). x.done) was_is ∙ sym (ap (λ (x : Seat Piece G). x.done) (seats_there old.seen.items old.seats.items u inside)))
      ∙ by old.distance far
    where
      by : (d : ℕ) → 0 < d → worker_after m (state_of old) u DoFail ≡ worker_after m (state_of old) u (failing_move m d k cause line)
      by zero far = absurd (omega arith)
      by (suc d) far = refl

  pub traps_by : (m : Setup Invoked Cursor Piece G) (b : Bench G) (number k : ℕ) (cause : Cause) (line : Line) → old.distance ≤ 0 → b ≡ record was { hand = Stopped } → number ≡ k
      → state_of (changed b old.words old.abort (Some (record { cause = cause; line = line; number = number; by_scheduler = false }))) ≡ worker_after m (state_of old) u (failing_move m old.distance k cause line)
  traps_by m b number k cause line near is same =
      row_by b old.words old.abort (Some (record { cause = cause; line = line; number = number; by_scheduler = false })) (λ (x : Bench G). let y : Bench G = record x { hand = Stopped } in y) is
      (λ (x : Seat Piece G). let y : Seat Piece G = record x { hand = Stopped } in y) refl
      ∙ ap (λ n. let t : Stand G = record (state_of old) { seats = slice_set (state_of old).seats u (record (seat_at (state_of old).seats u) { hand = Stopped }); trap = Some (place_of_trap cause line n false) } in t) same
      ∙ by old.distance near
    where
      by : (d : ℕ) → d ≤ 0 → worker_after m (state_of old) u (DoTrap k cause line) ≡ worker_after m (state_of old) u (failing_move m d k cause line)
      by zero near = refl
      by (suc d) near = absurd (omega arith)

  -- an iteration is over: another one follows, or the task is finished
  pub next_by : (m : Setup Invoked Cursor Piece G) (b : Bench G) (e k : ℕ) → nat_lt (suc k) (to m (state_of old).epochs e u) ≡ true → b ≡ record was { hand = Running (suc k) (piece_at m (state_of old).epochs e (suc k)) }
      → state_of (changed b old.words old.abort old.trap) ≡ worker_after m (state_of old) u (end_move m (state_of old) e u k)
  next_by m b e k more is =
      row_by b old.words old.abort old.trap (λ (x : Bench G). let y : Bench G = record x { hand = Running (suc k) (piece_at m (state_of old).epochs e (suc k)) } in y) is
      (λ (x : Seat Piece G). let y : Seat Piece G = record x { hand = Running (suc k) (piece_at m (state_of old).epochs e (suc k)) } in y) refl
      ∙ ap (λ t. worker_after m (state_of old) u (if t then DoNext (suc k) (piece_at m (state_of old).epochs e (suc k)) else DoFinish)) (sym more)

  pub end_by : (m : Setup Invoked Cursor Piece G) (b : Bench G) (e k : ℕ) → nat_lt (suc k) (to m (state_of old).epochs e u) ≡ false → b ≡ record was { hand = Idle; done = suc was.done }
      → state_of (changed b old.words old.abort old.trap) ≡ worker_after m (state_of old) u (end_move m (state_of old) e u k)
  end_by m b e k none is =
      row_by b old.words old.abort old.trap (λ (x : Bench G). let y : Bench G = record x { hand = Idle; done = suc x.done } in y) is
      (λ (x : Seat Piece G). let y : Seat Piece G = record x { hand = Idle; done = suc x.done } in y) refl
      ∙ ap (λ t. worker_after m (state_of old) u (if t then DoNext (suc k) (piece_at m (state_of old).epochs e (suc k)) else DoFinish)) (sym none)
