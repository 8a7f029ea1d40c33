-- Lemmas on looks at one actor after another, and on rounds of them.
use Rattle.std.proofs.Common.{◌≡◌, ℕ, zero, suc, ◌+◌, ◌-◌, ◌<◌, ◌≤◌, Option, None, Some, List, [], ◌∷◌, ◌++◌, refl, ap, ◌∙◌, sym, subst, arith, ⊎_elim}
use Rattle.std.proofs.lemmas.List.{append-nil, append_assoc}
use Rattle.std.proofs.lemmas.Bool.{cases_lt}
use Rattle.std.specs.Option.{option_map_or}
use Rattle.settle_law.specs.Runs.{run}
use Rattle.progress_board.specs.Runs.{Agrees}
use Rattle.progress_board.specs.Rotation.{taken, after, up_to, rounds, rotation, GoesOn, StopsIn}

-- the first numbers of more numbers
pub up_to_front : (a n : ℕ) → a ≤ n → (rest : List ℕ) × (up_to n ≡ up_to a ++ rest)
up_to_front a zero low = let none : a ≡ zero = omega arith in ([], rw none refl)
up_to_front a (suc n) low = ⊎_elim
    (λ (below : a < suc n). let (rest, split) = up_to_front a n (omega arith) in (rest ++ n ∷ [], ap (λ (l : List ℕ). l ++ n ∷ []) split ∙ append_assoc (up_to a) rest (n ∷ [])))
    (λ (last : suc n ≤ a). let same : a ≡ suc n = omega arith in ([], rw same (sym (append-nil (up_to (suc n))))))
    (cases_lt a (suc n))

-- the first rounds of more rounds
rounds_front : (n k m : ℕ) → k ≤ m → (rest : List ℕ) × (rounds n m ≡ rounds n k ++ rest)
rounds_front n k zero low = let none : k ≡ zero = omega arith in ([], rw none refl)
rounds_front n k (suc m) low = ⊎_elim
    (λ (below : k < suc m). let (rest, split) = rounds_front n k m (omega arith) in (rest ++ up_to n, ap (λ (l : List ℕ). l ++ up_to n) split ∙ append_assoc (rounds n k) rest (up_to n)))
    (λ (last : suc m ≤ k). let same : k ≡ suc m = omega arith in ([], rw same (sym (append-nil (rounds n (suc m))))))
    (cases_lt k (suc m))

module _ {S : Type 0} (step : S → ℕ → Option S) where
  -- the steps that are made are a legal history, to the state that they leave
  pub run-taken : (s : S) (looks : List ℕ) → run step s (taken step s looks) ≡ Some (after step s looks)
  run-taken s [] = refl
  run-taken s (a ∷ looks) =
      elim (step s a) as (λ o. step s a ≡ o → run step s (option_map_or (λ t. a ∷ taken step t looks) o (taken step s looks)) ≡ Some (option_map_or (λ t. after step t looks) o (after step s looks)))
      [ None ↦ λ e. run-taken s looks | Some t ↦ λ e. rw e (run-taken t looks) ] refl

  pub taken-append : (s : S) (first second : List ℕ) → taken step s (first ++ second) ≡ taken step s first ++ taken step (after step s first) second
  taken-append s [] second = refl
  taken-append s (a ∷ first) second =
      elim (step s a) as (λ o. option_map_or (λ t. a ∷ taken step t (first ++ second)) o (taken step s (first ++ second)) ≡ option_map_or (λ t. a ∷ taken step t first) o (taken step s first) ++ taken step (option_map_or (λ t. after step t first) o (after step s first)) second)
      [ None ↦ taken-append s first second | Some t ↦ ap (λ (l : List ℕ). a ∷ l) (taken-append t first second) ]

  pub after-append : (s : S) (first second : List ℕ) → after step s (first ++ second) ≡ after step (after step s first) second
  after-append s [] second = refl
  after-append s (a ∷ first) second =
      elim (step s a) as (λ o. option_map_or (λ t. after step t (first ++ second)) o (after step s (first ++ second)) ≡ after step (option_map_or (λ t. after step t first) o (after step s first)) second)
      [ None ↦ after-append s first second | Some t ↦ after-append t first second ]

  -- no look at all
  pub goes_nowhere : (s : S) (history : List ℕ) → GoesOn step s history [] s history
  goes_nowhere s history = record { appended = sym (append-nil history); state = refl }

  -- a look at an actor that makes its step
  pub goes_one : (s t : S) (a : ℕ) (history : List ℕ) → step s a ≡ Some t → GoesOn step s history (a ∷ []) t (history ++ a ∷ [])
  goes_one s t a history e = record { appended = rw e refl; state = rw e refl }

  -- a look at an actor that has no enabled row
  pub goes_past : (s : S) (a : ℕ) (history : List ℕ) → step s a ≡ None → GoesOn step s history (a ∷ []) s history
  goes_past s a history e = record { appended = rw e (sym (append-nil history)); state = rw e refl }

  -- looks behind looks
  pub goes_more : (s t u : S) (history longer longest first second : List ℕ) → GoesOn step s history first t longer → GoesOn step t longer second u longest → GoesOn step s history (first ++ second) u longest
  goes_more s t u history longer longest first second one other = record {
    appended =
        let front : longest ≡ (history ++ taken step s first) ++ taken step t second = other.appended ∙ ap (λ (l : List ℕ). l ++ taken step t second) one.appended in
        let back : taken step t second ≡ taken step (after step s first) second = ap (λ (v : S). taken step v second) one.state in
        front ∙ append_assoc history (taken step s first) (taken step t second) ∙ ap (λ (l : List ℕ). history ++ (taken step s first ++ l)) back ∙ ap (λ (l : List ℕ). history ++ l) (sym (taken-append s first second));
    state = other.state ∙ ap (λ (v : S). after step v second) one.state ∙ sym (after-append s first second);
  }

  -- one round more behind the schedule
  pub goes_round : (s t u : S) (n k : ℕ) (history longer longest schedule : List ℕ) → GoesOn step s history (schedule ++ rounds n k) t longer → GoesOn step t longer (up_to n) u longest
      → GoesOn step s history (schedule ++ rounds n (suc k)) u longest
  goes_round s t u n k history longer longest schedule one other =
      subst (λ (looks : List ℕ). GoesOn step s history looks u longest) (append_assoc schedule (rounds n k) (up_to n))
      (goes_more s t u history longer longest (schedule ++ rounds n k) (up_to n) one other)

  -- what goes on, agrees
  pub agrees : (s t : S) (history looks longer : List ℕ) → GoesOn step s history looks t longer → Agrees step s history t longer
  agrees s t history looks longer goes = record {
    made = taken step s looks;
    appended = goes.appended;
    ran = run-taken s looks ∙ ap (λ (v : S). Some v) (sym goes.state);
  }

  -- where no actor has a step, looks make none and leave the state
  pub taken_nothing : (s : S) → ((a : ℕ) → step s a ≡ None) → (looks : List ℕ) → taken step s looks ≡ []
  taken_nothing s stopped [] = refl
  taken_nothing s stopped (a ∷ looks) = rw (stopped a) (taken_nothing s stopped looks)

  pub after_nothing : (s : S) → ((a : ℕ) → step s a ≡ None) → (looks : List ℕ) → after step s looks ≡ s
  after_nothing s stopped [] = refl
  after_nothing s stopped (a ∷ looks) = rw (stopped a) (after_nothing s stopped looks)

  -- rounds behind the last step change nothing
  pub after_rounds : (s : S) (n few more : ℕ) → ((a : ℕ) → step (after step s (rounds n few)) a ≡ None)
      → after step s (rounds n (few + more)) ≡ after step s (rounds n few)
  after_rounds s n few zero stopped = let same : few + zero ≡ few = omega arith in ap (λ (k : ℕ). after step s (rounds n k)) same
  after_rounds s n few (suc more) stopped =
      let next : few + suc more ≡ suc (few + more) = omega arith in
      ap (λ (k : ℕ). after step s (rounds n k)) next ∙ after-append s (rounds n (few + more)) (up_to n) ∙ ap (λ (v : S). after step v (up_to n)) (after_rounds s n few more stopped)
      ∙ after_nothing (after step s (rounds n few)) stopped (up_to n)

  -- and add no step
  pub taken_rounds : (s : S) (n few more : ℕ) → ((a : ℕ) → step (after step s (rounds n few)) a ≡ None)
      → taken step s (rounds n (few + more)) ≡ taken step s (rounds n few)
  taken_rounds s n few zero stopped = let same : few + zero ≡ few = omega arith in ap (λ (k : ℕ). taken step s (rounds n k)) same
  taken_rounds s n few (suc more) stopped =
      let next : few + suc more ≡ suc (few + more) = omega arith in
      let none : taken step (after step s (rounds n (few + more))) (up_to n) ≡ [] =
      ap (λ (v : S). taken step v (up_to n)) (after_rounds s n few more stopped) ∙ taken_nothing (after step s (rounds n few)) stopped (up_to n) in
      ap (λ (k : ℕ). taken step s (rounds n k)) next ∙ taken-append s (rounds n (few + more)) (up_to n) ∙ ap (λ (l : List ℕ). taken step s (rounds n (few + more)) ++ l) none
      ∙ append-nil (taken step s (rounds n (few + more))) ∙ taken_rounds s n few more stopped

  -- a driver that stops where nothing is enabled has made the rotation, if it went at most as many rounds as the measure
  pub is_rotation : (measure : S → ℕ) (s t : S) (n k : ℕ) (history schedule longer : List ℕ)
      → GoesOn step s history (schedule ++ rounds n k) t longer → k ≤ measure s → ((a : ℕ) → step t a ≡ None)
      → longer ≡ history ++ rotation step measure s n schedule
  is_rotation measure s t n k history schedule longer goes few stopped =
      let there : t ≡ after step (after step s schedule) (rounds n k) = goes.state ∙ after-append s schedule (rounds n k) in
      let stopped_there : (a : ℕ) → step (after step (after step s schedule) (rounds n k)) a ≡ None = λ a. ap (λ (v : S). step v a) (sym there) ∙ stopped a in
      let enough : measure s ≡ k + (measure s - k) = omega arith in
      let same : taken step (after step s schedule) (rounds n k) ≡ taken step (after step s schedule) (rounds n (measure s)) =
      sym (ap (λ (j : ℕ). taken step (after step s schedule) (rounds n j)) enough ∙ taken_rounds (after step s schedule) n k (measure s - k) stopped_there) in
      goes.appended
      ∙ ap (λ (l : List ℕ). history ++ l) (taken-append s schedule (rounds n k) ∙ ap (λ (l : List ℕ). taken step s schedule ++ l) same ∙ sym (taken-append s schedule (rounds n (measure s))))

  -- a driver that stopped agrees
  pub stops_agrees : (s t : S) (history looks longer : List ℕ) → StopsIn step s history looks t longer → Agrees step s history t longer
  stops_agrees s t history looks longer stops = agrees s t history stops.passed longer stops.goes

  -- one that stopped within some looks stopped within more
  pub stops_more : (s t : S) (history looks more longer : List ℕ) → StopsIn step s history looks t longer → StopsIn step s history (looks ++ more) t longer
  stops_more s t history looks more longer stops = record {
    passed = stops.passed;
    left = stops.left ++ more;
    split = ap (λ (l : List ℕ). l ++ more) stops.split ∙ append_assoc stops.passed stops.left more;
    goes = stops.goes;
  }

  -- one that stopped behind other looks
  pub stops_behind : (s t u : S) (history longer longest first looks : List ℕ) → GoesOn step s history first t longer → StopsIn step t longer looks u longest
      → StopsIn step s history (first ++ looks) u longest
  stops_behind s t u history longer longest first looks goes stops = record {
    passed = first ++ stops.passed;
    left = stops.left;
    split = ap (λ (l : List ℕ). first ++ l) stops.split ∙ sym (append_assoc first stops.passed stops.left);
    goes = goes_more s t u history longer longest first stops.passed goes stops.goes;
  }

  -- one that stopped within a round, behind a schedule and rounds
  pub stops_in_round : (s t u : S) (n k m : ℕ) (history longer longest schedule : List ℕ) → GoesOn step s history (schedule ++ rounds n k) t longer → StopsIn step t longer (up_to n) u longest
      → k < m → StopsIn step s history (schedule ++ rounds n m) u longest
  stops_in_round s t u n k m history longer longest schedule goes stops below =
      let (more, split) = rounds_front n (suc k) m (omega arith) in
      let there = stops_more s u history ((schedule ++ rounds n k) ++ up_to n) more longest (stops_behind s t u history longer longest (schedule ++ rounds n k) (up_to n) goes stops) in
      let same : ((schedule ++ rounds n k) ++ up_to n) ++ more ≡ schedule ++ rounds n m =
      ap (λ (l : List ℕ). l ++ more) (append_assoc schedule (rounds n k) (up_to n)) ∙ append_assoc schedule (rounds n (suc k)) more ∙ ap (λ (l : List ℕ). schedule ++ l) (sym split) in
      subst (λ (l : List ℕ). StopsIn step s history l u longest) same there

  -- one that stopped within rounds, behind a schedule
  pub stops_in_rounds : (s t u : S) (n k m : ℕ) (history longer longest schedule : List ℕ) → GoesOn step s history schedule t longer → StopsIn step t longer (rounds n k) u longest
      → k ≤ m → StopsIn step s history (schedule ++ rounds n m) u longest
  stops_in_rounds s t u n k m history longer longest schedule goes stops few =
      let (more, split) = rounds_front n k m few in
      let there = stops_more s u history (schedule ++ rounds n k) more longest (stops_behind s t u history longer longest schedule (rounds n k) goes stops) in
      subst (λ (l : List ℕ). StopsIn step s history l u longest) (append_assoc schedule (rounds n k) more ∙ ap (λ (l : List ℕ). schedule ++ l) (sym split)) there
