-- Lemmas on a measure that falls at each step.
use Rattle.std.proofs.Common.{◌≡◌, ℕ, zero, suc, ◌+◌, ◌<◌, ◌≤◌, Bool, true, false, Option, None, Some, List, [], ◌∷◌, ◌++◌, length, length-append, refl, sym, ap, ◌∙◌, arith, ◌⊎◌, inl, inr, ⊎_elim}
use Rattle.std.specs.Prelude.{IsSome}
use Rattle.std.proofs.lemmas.Bool.{false≢true, cases_Bool}
use Rattle.std.specs.Option.{option_map_or, option_and_then}
use Rattle.progress_board.specs.Actors.{SomeEnabled}
use Rattle.settle_law.specs.Runs.{run, IsComplete}
use Rattle.progress_board.specs.Runs.{Agrees}
use Rattle.progress_board.specs.Rotation.{taken, after, up_to, rounds, rotation, GoesOn}
use Rattle.progress_board.proofs.Runs.{run_keeps}
use Rattle.progress_board.proofs.Rotation.{run-taken, after-append, after_nothing}

-- a number is among those of a list
abbrev pub In : ℕ → List ℕ → Type 0
In a [] = ⊥
In a (b ∷ bs) = (a ≡ b) ⊎ In a bs

pub in_append_left : (a : ℕ) (first second : List ℕ) → In a first → In a (first ++ second)
in_append_left a [] second among = elim among [ ]
in_append_left a (b ∷ first) second (inl e) = inl e
in_append_left a (b ∷ first) second (inr there) = inr (in_append_left a first second there)

pub in_last : (a b : ℕ) (first : List ℕ) → a ≡ b → In a (first ++ b ∷ [])
in_last a b [] e = inl e
in_last a b (c ∷ first) e = inr (in_last a b first e)

-- the numbers below n are among the first n
pub in_up_to : (n a : ℕ) → a < n → In a (up_to n)
in_up_to zero a below = absurd (omega arith)
in_up_to (suc n) a below =
    ⊎_elim (λ (lower : a < n). in_append_left a (up_to n) (n ∷ []) (in_up_to n a lower)) (λ (e : a ≡ n). in_last a n (up_to n) e) (last n a below)
  where
    last : (n a : ℕ) → a < suc n → (a < n) ⊎ (a ≡ n)
    last n a below = grind arith

-- what is none isn't some
none-some : {A : Type 0} (o : Option A) → o ≡ None → IsSome o → ⊥
none-some None e is = false≢true is
none-some (Some x) e is = cc

module _ {S : Type 0} (step : S → ℕ → Option S) (P : S → Type 0) (kept : (s t : S) (a : ℕ) → P s → step s a ≡ Some t → P t)
    (measure : S → ℕ) (falls : (s t : S) (a : ℕ) → P s → step s a ≡ Some t → measure t + 1 ≤ measure s) where
  -- a history is no longer than the measure falls
  pub run_le : (s t : S) (history : List ℕ) → P s → run step s history ≡ Some t → length history + measure t ≤ measure s
  run_le s t [] p ran = let same : s ≡ t = cc in let equal : measure s ≡ measure t = ap measure same in omega arith
  run_le s t (a ∷ history) p ran =
      elim (step s a) as (λ o. step s a ≡ o → option_and_then (λ u. run step u history) o ≡ Some t → length (a ∷ history) + measure t ≤ measure s) [
        | None ↦ λ e r. absurd (cc)
        | Some u ↦ λ e r. omega (arith, run_le u t history (kept s u a p e) r, falls s u a p e)
      ] refl ran

  -- neither are looks
  pub taken_le : (s : S) (looks : List ℕ) → P s → length (taken step s looks) + measure (after step s looks) ≤ measure s
  taken_le s looks p = run_le s (after step s looks) (taken step s looks) p (run-taken step s looks)

  -- where one of the actors that are looked at has a step, the measure falls
  pub looks_fall : (s : S) (looks : List ℕ) (a : ℕ) → P s → In a looks → IsSome (step s a) → measure (after step s looks) + 1 ≤ measure s
  looks_fall s [] a p among enabled = elim among [ ]
  looks_fall s (b ∷ looks) a p among enabled =
      elim (step s b) as (λ o. step s b ≡ o → measure (option_map_or (λ t. after step t looks) o (after step s looks)) + 1 ≤ measure s) [
        | None ↦ λ e. ⊎_elim
            (λ (same : a ≡ b). absurd (none-some (step s a) (ap (λ (x : ℕ). step s x) same ∙ e) enabled))
            (λ (there : In a looks). looks_fall s looks a p there enabled)
            among
        | Some t ↦ λ e. omega (arith, falls s t b p e, taken_le t looks (kept s t b p e))
      ] refl

  -- a round of an unfinished machine makes it fall
  pub round_falls : (s : S) (n : ℕ) → P s → SomeEnabled step s n → measure (after step s (up_to n)) + 1 ≤ measure s
  round_falls s n p some = looks_fall s (up_to n) some.actor p (in_up_to n some.actor some.below) some.enabled

  -- the measure and the history behind looks
  pub goes_le : (s t : S) (history looks longer : List ℕ) → P s → GoesOn step s history looks t longer → length longer + measure t ≤ length history + measure s
  goes_le s t history looks longer p goes =
      let made : length longer ≡ length history + length (taken step s looks) = ap length goes.appended ∙ length-append history (taken step s looks) in
      let there : measure t ≡ measure (after step s looks) = ap measure goes.state in
      omega (arith, taken_le s looks p)

  -- the same behind any steps that agree
  pub agrees_le : (s t : S) (history longer : List ℕ) → P s → Agrees step s history t longer → length longer + measure t ≤ length history + measure s
  agrees_le s t history longer p one =
      let made : length longer ≡ length history + length one.made = ap length one.appended ∙ length-append history one.made in
      omega (arith, run_le s t one.made p one.ran)

  -- looks don't make it grow
  pub goes_falls : (s t : S) (history looks longer : List ℕ) → P s → GoesOn step s history looks t longer → measure t ≤ measure s
  goes_falls s t history looks longer p goes =
      let there : measure t ≡ measure (after step s looks) = ap measure goes.state in
      omega (arith, taken_le s looks p)

  -- a round of an unfinished machine makes it fall
  pub round_goes_falls : (s t : S) (n : ℕ) (history longer : List ℕ) → P s → SomeEnabled step s n → GoesOn step s history (up_to n) t longer → measure t + 1 ≤ measure s
  round_goes_falls s t n history longer p some goes =
      let there : measure t ≡ measure (after step s (up_to n)) = ap measure goes.state in
      omega (arith, round_falls s n p some)

  -- where some actor has a step, the measure isn't 0
  pub some_left : (s : S) (n : ℕ) → P s → SomeEnabled step s n → 0 < measure s
  some_left s n p some = let fell : measure (after step s (up_to n)) + 1 ≤ measure s = round_falls s n p some in omega arith

  -- Where a machine that isn't finished has a step, and one that is has none, the rotation is a complete history.
  module _ (n : ℕ) (is_finished : S → Bool) (progress : (s : S) → P s → is_finished s ≡ false → SomeEnabled step s n) (stopped : (s : S) → P s → is_finished s ≡ true → (a : ℕ) → step s a ≡ None) where
    after_kept : (s : S) (looks : List ℕ) → P s → P (after step s looks)
    after_kept s looks p = run_keeps step P kept s (after step s looks) (taken step s looks) p (run-taken step s looks)

    -- so many rounds finish the machine, or make the measure as much smaller
    rounds_fall : (s : S) (k : ℕ) → P s → (is_finished (after step s (rounds n k)) ≡ true) ⊎ (measure (after step s (rounds n k)) + k ≤ measure s)
    rounds_fall s zero p = inr (omega arith)
    rounds_fall s (suc k) p =
        let t = after step s (rounds n k) in
        let here = after_kept s (rounds n k) p in
        let next = after-append step s (rounds n k) (up_to n) in
        ⊎_elim
        (λ (over : is_finished t ≡ true). inl (ap is_finished (next ∙ after_nothing step t (stopped t here over) (up_to n)) ∙ over))
        (λ (on : is_finished t ≡ false). ⊎_elim
        (λ (over : is_finished t ≡ true). absurd (false≢true (sym on ∙ over)))
        (λ (less : measure t + k ≤ measure s).
        let same : measure (after step s (rounds n (suc k))) ≡ measure (after step t (up_to n)) = ap measure next in
        inr (omega (arith, round_falls t n here (progress t here on), less, same)))
        (rounds_fall s k p))
        (cases_Bool (is_finished t))

    -- as many rounds as the measure finish it
    rounds_finish : (s : S) (k : ℕ) → P s → measure s ≤ k → is_finished (after step s (rounds n k)) ≡ true
    rounds_finish s k p enough = ⊎_elim
        (λ (over : is_finished (after step s (rounds n k)) ≡ true). over)
        (λ (less : measure (after step s (rounds n k)) + k ≤ measure s). ⊎_elim
        (λ (over : is_finished (after step s (rounds n k)) ≡ true). over)
        (λ (on : is_finished (after step s (rounds n k)) ≡ false). let here = after_kept s (rounds n k) p in absurd (omega (arith, some_left (after step s (rounds n k)) n here (progress (after step s (rounds n k)) here on), less)))
        (cases_Bool (is_finished (after step s (rounds n k)))))
        (rounds_fall s k p)

    pub rotation_is_complete : (s : S) (schedule : List ℕ) → P s → IsComplete step is_finished s (rotation step measure s n schedule)
    rotation_is_complete s schedule p = record {
      last = after step s (schedule ++ rounds n (measure s));
      ran = run-taken step s (schedule ++ rounds n (measure s));
      finished = ap is_finished (after-append step s schedule (rounds n (measure s))) ∙ rounds_finish (after step s schedule) (measure s) (after_kept s schedule p) (omega (arith, taken_le s schedule p));
    }
