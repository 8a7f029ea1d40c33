-- In each state with the invariant that isn't concluded some actor has a step.
use Rattle.std.proofs.Common.{◌≡◌, ℕ, zero, suc, ◌+◌, ◌<◌, ◌≤◌, ℤ, Bool, true, false, if◌then◌else◌, ◌==◌, Option, Some, None, IsSome, List, length, refl, sym, ap, ◌∙◌, subst, ⊎_elim, arith}
use Rattle.std.proofs.lemmas.Bool.{ltb-true, eqb-true, eqb-false, and_parts, and_cases, not-false, true≢false, cases_lt, cases_eq}
use Rattle.std.specs.Option.{option_map}
use Rattle.std.specs.List.{list_all, list_any}
use Rattle.nest_syntax.specs.declared.place.Place.{Place}
use Rattle.settle_law.specs.Traces.{Access}
use Rattle.settle_law.specs.Claims.{Claims}
use Rattle.settle_law.specs.Courses.{Nest}
use Rattle.spec_machine.specs.Facts.{Pair, Abort}
use Rattle.spec_machine.specs.Machine.{Setup, State, Seat, Hand, Idle, Empty, Running, Stopped, Move, DoCommit, DoRestore, DoConclude, DoLetGo, DoStop, fresh_seat, seat_at, done_at, is_running, is_stopped, is_open, pairs, first_open, finished_up_to, due_if, due, from, to, overlap_of, early_move, is_ready, sealed_move, trap_move, scheduler_move, begin_move, has_below, idle_move, empty_move, running_move, compared_move, checker_move, move_of, state_after}
use Rattle.spec_machine.specs.Table.{IsGoing, IsWorking, FirstIsBelow}
use Rattle.spec_machine.specs.Theorems.{IsSetupFor, CanGoOn, UnfinishedGoOn, MovesAreRows}
use Rattle.spec_machine.specs.Invariant.{plan, IsOf, BelowTrap, Invariant}
use Rattle.spec_machine.proofs.Lists.{all_at, not_all, some_of, found_not, find_some, pairs_in}
use Rattle.spec_machine.proofs.Plans.{epochs_rise, of_block}
use Rattle.spec_machine.proofs.Crew.{hand_is}
use Rattle.spec_machine.proofs.Due.{up_from}
use Rattle.spec_machine.proofs.Able.{able, hand_moves, begins_is, scheduler_is, trap_is, unsealed_is, checker_is}
use Rattle.spec_machine.proofs.Runs.{holds, row_enabled}

-- a number below n with the least value
pub least : (f : ℕ → ℕ) (n : ℕ) → 0 < n → (v : ℕ) × (v < n) × ((w : ℕ) → w < n → f v ≤ f w)
least f zero some = absurd (omega arith)
least f (suc zero) some = (0, omega arith, λ w lt. let e : 0 ≡ w = omega arith in subst (λ x. f 0 ≤ f x) e (omega arith))
least f (suc (suc n)) some = go (least f (suc n) (omega arith))
  where
    go : (v : ℕ) × (v < suc n) × ((w : ℕ) → w < suc n → f v ≤ f w) → (v : ℕ) × (v < suc (suc n)) × ((w : ℕ) → w < suc (suc n) → f v ≤ f w)
    go (v, lt, all) = ⊎_elim
        (λ (lower : f (suc n) < f v). (suc n, omega arith, λ w l. ⊎_elim (λ (same : w ≡ suc n). subst (λ x. f (suc n) ≤ f x) (sym same) (omega arith)) (λ other. let a : f v ≤ f w = all w (omega arith) in omega arith) (cases_eq w (suc n))))
        (λ (ge : f v ≤ f (suc n)). (v, omega arith, λ w l. ⊎_elim (λ (same : w ≡ suc n). subst (λ x. f v ≤ f x) (sym same) ge) (λ other. all w (omega arith)) (cases_eq w (suc n))))
        (cases_lt (f (suc n)) (f v))

module _ {B C P G : Type 0} (m : Setup B C P G) (nest : Nest) (what : B × ℕ → ℕ × List ℤ) (start : C) (noted : G → Claims) (setup : IsSetupFor m nest what start noted) (s : State B C P G) (trace : List Access) (i : Invariant m nest what start noted s trace) (unfinished : s.concluded ≡ false) where
  abbrev pub seat : ℕ → Seat P G
  seat u = seat_at s.seats u

  abbrev pub done : ℕ → ℕ
  done u = done_at s.seats u

  goes : (u : ℕ) → u < m.width + 2 → (o : Option (Move B C P)) → move_of m s u ≡ o → IsSome o → CanGoOn m s
  goes u present None is none = absurd (true≢false (sym none))
  goes u present (Some move) is held = record { actor = u; present = present; enabled = subst IsSome (sym (ap (option_map (state_after m s u)) is)) refl }

  going : s.abort ≡ None → IsGoing m s m.width
  going calm = record { actor = refl; going = unfinished; calm = calm }

  working : (u : ℕ) (hand : Hand P) → u < m.width → s.abort ≡ None → (seat u).hand ≡ hand → IsWorking m s u hand
  working u hand own calm h = record { own = own; going = unfinished; calm = calm; holds = h }

  within : (u : ℕ) → u < length s.seats → u < m.width
  within u lt = omega (arith, i.width)

  -- an abort is kept
  aborted : (cause : Abort) → s.abort ≡ Some cause → CanGoOn m s
  aborted cause is = go (list_any (λ (x : Seat P G). is_running x.hand) s.seats) refl
    where
      go : (t : Bool) → list_any (λ (x : Seat P G). is_running x.hand) s.seats ≡ t → CanGoOn m s
      go false rest = goes m.width (omega arith) (Some (DoRestore cause)) (scheduler_is m nest what start noted setup s trace i m.width refl unfinished ∙ ap (scheduler_move m s) is ∙ ap (λ t. if t then None else Some (DoRestore cause)) rest) refl
      go true runs = let u = some_of (λ (x : Seat P G). is_running x.hand) fresh_seat s.seats runs in let own : u.0 < m.width = within u.0 u.1 in goes u.0 (omega arith) (Some DoLetGo) (able m nest what start noted setup s trace i u.0 DoLetGo (own, unfinished, subst IsSome (sym is) refl, u.2)) refl

  -- a trap is kept, and a worker isn't stopped
  trapped_hand : (t : Place) → s.trap ≡ Some t → s.abort ≡ None → (u : ℕ) → u < m.width → (hand : Hand P) → (seat u).hand ≡ hand → is_stopped hand ≡ false → CanGoOn m s
  trapped_hand t is calm u own Stopped h moves = absurd (true≢false moves)
  trapped_hand t is calm u own Empty h moves = goes u (omega arith) (Some (empty_move m s.trap)) (hand_moves m nest what start noted setup s trace i u Empty (working u Empty own calm h)) refl
  trapped_hand t is calm u own (Running k piece) h moves = goes u (omega arith) (Some (running_move m s s.trap (done u) u k piece)) (hand_moves m nest what start noted setup s trace i u (Running k piece) (working u (Running k piece) own calm h)) refl
  trapped_hand t is calm u own Idle h moves = go (has_below m s.epochs (done u) u t.number) refl
    where
      go : (b : Bool) → has_below m s.epochs (done u) u t.number ≡ b → CanGoOn m s
      go false none = goes u (omega arith) (Some DoStop) (hand_moves m nest what start noted setup s trace i u Idle (working u Idle own calm h) ∙ ap (λ o. idle_move m s o (done u) u) is ∙ ap (λ b. if b then begin_move m s (done u) u else Some DoStop) none) refl
      go true held =
          let a = and_parts _ _ held in
          let b = and_parts _ _ a.1 in
          let lt : done u < length s.epochs = ltb-true _ _ a.0 in
          let high : from m s.epochs (done u) u < to m s.epochs (done u) u = ltb-true _ _ b.0 in
          let below : from m s.epochs (done u) u < t.number = ltb-true _ _ b.1 in
          let of : IsOf (plan m i.first s.next s.epochs) (done u) u (from m s.epochs (done u) u) = of_block m nest what start noted setup i.first s.next s.epochs i.chain (done u) u (from m s.epochs (done u) u) lt own (omega arith) high in
          goes u (omega arith) (Some _) (begins_is m nest what start noted setup s trace i u (working u Idle own calm h) lt (λ v lv.
          let e : (plan m i.first s.next s.epochs).epoch (from m s.epochs (done u) u) ≤ (plan m i.first s.next s.epochs).epoch t.number = epochs_rise m nest what s.epochs (from m s.epochs (done u) u) t.number (omega arith) in
          let f : (plan m i.first s.next s.epochs).epoch (from m s.epochs (done u) u) ≡ done u = of.1 in
          let r : (plan m i.first s.next s.epochs).epoch t.number ≤ done v = ((i.sound calm).trapped t is).reached v lv in
          omega arith) (subst (λ o. FirstIsBelow m s o (done u) u) (sym is) (high, below))) refl

  trapped : (t : Place) → s.trap ≡ Some t → s.abort ≡ None → CanGoOn m s
  trapped t is calm = go (list_all (λ (x : Seat P G). is_stopped x.hand) s.seats) refl
    where
      go : (b : Bool) → list_all (λ (x : Seat P G). is_stopped x.hand) s.seats ≡ b → CanGoOn m s
      go true all = goes m.width (omega arith) (Some DoConclude) (trap_is m nest what start noted setup s trace i m.width (going calm) ∙ ap (trap_move m s) is ∙ ap (λ b. if b then Some DoConclude else None) all) refl
      go false some = let u = not_all (λ (x : Seat P G). is_stopped x.hand) fresh_seat s.seats some in trapped_hand t is calm u.0 (within u.0 u.1) (seat u.0).hand refl u.2

  -- a sealed segment: the worker that is furthest behind goes on
  behind_hand : s.abort ≡ None → s.trap ≡ None → (u : ℕ) → u < m.width → done u < length s.epochs → ((v : ℕ) → v < m.width → done u ≤ done v) → (hand : Hand P) → (seat u).hand ≡ hand → CanGoOn m s
  behind_hand calm none u own lt first Empty h = goes u (omega arith) (Some (empty_move m s.trap)) (hand_moves m nest what start noted setup s trace i u Empty (working u Empty own calm h)) refl
  behind_hand calm none u own lt first (Running k piece) h = goes u (omega arith) (Some (running_move m s s.trap (done u) u k piece)) (hand_moves m nest what start noted setup s trace i u (Running k piece) (working u (Running k piece) own calm h)) refl
  behind_hand calm none u own lt first Idle h = goes u (omega arith) (Some _) (begins_is m nest what start noted setup s trace i u (working u Idle own calm h) lt (λ v lv. let l : done u ≤ done v = first v lv in omega arith) (subst (λ o. FirstIsBelow m s o (done u) u) (sym none) tt)) refl
  behind_hand calm none u own lt first Stopped h = absurd (subst (λ o. BelowTrap m nest noted (plan m i.first s.next s.epochs) trace o u) none (hand_is m nest what start noted setup i.first s.next s.epochs i.chain s.mark s.words s.seats s.distance s.passed s.trap trace i.width (i.sound calm) u own Stopped h).1)

  -- all tasks are finished, and a pair is open: it is due
  open_pair : s.abort ≡ None → s.trap ≡ None → ((v : ℕ) → v < m.width → done v ≡ length s.epochs) → list_any (is_open s.seats s.passed) (pairs m.width (length s.epochs)) ≡ true → CanGoOn m s
  open_pair calm none all some = go (first_open m.width s) refl
    where
      compared : (p : Pair) (o : Option ℕ) → IsSome (Some (compared_move m p o))
      compared p o = refl

      go : (o : Option Pair) → first_open m.width s ≡ o → CanGoOn m s
      go None is = absurd (found_not (is_open s.seats s.passed) (pairs m.width (length s.epochs)) some is)
      go (Some p) is =
          let q = pairs_in m.width (length s.epochs) p (find_some (is_open s.seats s.passed) (pairs m.width (length s.epochs)) p is).0 in
          let late : p.late.epoch < length s.epochs = q.late in
          let finished : finished_up_to s.seats p.late ≡ true = up_from p.late 0 s.seats (λ v lt. let d : done v ≡ length s.epochs = all v (within v lt) in (omega arith, λ le. omega arith)) in
          let at : due m.width s ≡ Some p = ap (due_if s.seats) is ∙ ap (λ t. if t then Some p else None) finished in
          goes (suc m.width) (omega arith) (Some (compared_move m p (overlap_of m s.seats p))) (checker_is m nest what start noted setup s trace i (suc m.width) refl unfinished ∙ ap (λ a. checker_move m s a s.trap) calm ∙ ap (checker_move m s None) none ∙ ap (option_map (λ p. compared_move m p (overlap_of m s.seats p))) at) refl

  sealed : s.abort ≡ None → s.trap ≡ None → s.sealed ≡ true → CanGoOn m s
  sealed calm none is = go (is_ready m s) refl
    where
      not_done : (u : ℕ) × (u < length s.seats) × (((seat u).done == length s.epochs) ≡ false) → CanGoOn m s
      not_done (u, lt, other) =
          let own : u < m.width = within u lt in
          let b : done u ≤ length s.epochs = ((i.sound calm).crew u own).bounded in
          let behind : done u < length s.epochs = ⊎_elim (λ l. l) (λ (ge : length s.epochs ≤ done u). absurd (eqb-false (done u) (length s.epochs) other (let e : done u ≡ length s.epochs = omega arith in e))) (cases_lt (done u) (length s.epochs)) in
          let v = least (λ w. done w) m.width setup.some_worker in
          let l : done v.0 ≤ done u = v.2 u own in
          behind_hand calm none v.0 v.1 (omega arith) v.2 (seat v.0).hand refl

      by_done : (t : Bool) → list_all (λ (x : Seat P G). x.done == length s.epochs) s.seats ≡ t → is_ready m s ≡ false → CanGoOn m s
      by_done false some no_commit = not_done (not_all (λ (x : Seat P G). x.done == length s.epochs) fresh_seat s.seats some)
      by_done true all no_commit = open_pair calm none (λ v lt. eqb-true _ _ (all_at (λ (x : Seat P G). x.done == length s.epochs) fresh_seat s.seats v all (omega (arith, i.width)))) (not-false _ (⊎_elim (λ e. absurd (true≢false (sym all ∙ e))) (λ e. e) (and_cases _ _ no_commit)))

      go : (t : Bool) → is_ready m s ≡ t → CanGoOn m s
      go true ready = goes m.width (omega arith) (Some DoCommit) (trap_is m nest what start noted setup s trace i m.width (going calm) ∙ ap (trap_move m s) none ∙ ap (sealed_move m s) is ∙ ap (λ t. if t then Some DoCommit else None) ready) refl
      go false waits = by_done (list_all (λ (x : Seat P G). x.done == length s.epochs) s.seats) refl waits

  pub goes_on : CanGoOn m s
  goes_on = by_abort s.abort refl
    where
      by_sealed : s.abort ≡ None → s.trap ≡ None → (t : Bool) → s.sealed ≡ t → CanGoOn m s
      by_sealed calm none true is = sealed calm none is
      by_sealed calm none false is = goes m.width (omega arith) (Some (early_move m s s.early)) (unsealed_is m nest what start noted setup s trace i m.width (going calm) none is) refl

      by_trap : s.abort ≡ None → (trap : Option Place) → s.trap ≡ trap → CanGoOn m s
      by_trap calm (Some t) is = trapped t is calm
      by_trap calm None is = by_sealed calm is s.sealed refl

      by_abort : (abort : Option Abort) → s.abort ≡ abort → CanGoOn m s
      by_abort (Some cause) is = aborted cause is
      by_abort None is = by_trap is s.trap refl

pub unfinished_goes : (B C P G : Type 0) → UnfinishedGoOn B C P G
unfinished_goes B C P G m nest what start noted setup history s leads unfinished = goes_on m nest what start noted setup s _ (holds m nest what start noted setup history s leads) unfinished

pub moves_are_rows : (B C P G : Type 0) → MovesAreRows B C P G
moves_are_rows B C P G m nest what start noted setup history s actor move leads = let i = holds m nest what start noted setup history s leads in ((λ is. row_enabled m nest what start noted setup s _ i actor move is), (λ guard. able m nest what start noted setup s _ i actor move guard))
