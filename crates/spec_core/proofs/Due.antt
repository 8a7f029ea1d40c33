-- What is passed and what is open, by the pair that was passed last.
use Rattle.std.proofs.Common.{◌≡◌, ◌↔◌, ◌⊎◌, ℕ, zero, suc, ◌+◌, ◌*◌, ◌<◌, ◌≤◌, Bool, IsTrue, true, false, ◌&&◌, ◌||◌, not, ◌==◌, if◌then◌else◌, nat_le, nat_lt, MatchOption, Option, Some, None, List, [], map, take, length, slice_index, slice_index_or, get_or, refl, sym, ap, ◌∙◌, subst, inl, inr, ⊎_elim, arith}
use Rattle.std.proofs.lemmas.Bool.{and_from, and_parts, or_parts, or_cases, eq-eqb, eqb-true, ne_eqb, lt-ltb, le-ltb, ltb-true, ltb-false, cases_Bool, cases_order, true≢false, not-true}
use Rattle.std.proofs.lemmas.List.{get_or-take}
use Rattle.std.specs.Option.{option_map}
use Rattle.std.proofs.lemmas.Map.Views.{any-filter_same}
use Rattle.std.specs.List.{find, filter, list_any}
use Rattle.nest_syntax.specs.declared.names.TaskName.{TaskName}
use Rattle.task_frame.specs.declared.piece.Piece.{Piece}
use Rattle.epoch_plan.specs.Tasks.{is_unordered as is_unordered_names}
use Rattle.epoch_plan.specs.declared.tasks.Seen.{Seen}
use Rattle.spec_checker.specs.Order.{Pair as Names, is_before, is_pair_before, is_passed as is_behind}
use Rattle.spec_checker.specs.Due.{seen_by as seen_names, is_open as is_open_names, AreOf, IsReached, IsDue, NoneIsOpen, AllPassed}
use Rattle.spec_machine.specs.Facts.{Task, Pair, same_task, same_pair}
use Rattle.spec_machine.specs.Machine.{Seat, done_at, is_passed, is_open, pairs, finished_up_to, due_if}
use Rattle.spec_machine.specs.Table.{In}
use Rattle.spec_machine.proofs.Lists.{IsPair, in_pairs, pairs_in, none_in, none_each, find_some}
use Rattle.spec_machine.proofs.Due.{IsUpTo, up_to, up_from}
use Rattle.spec_core.specs.Hands.{Bench, bench_at, seats_of}
use Rattle.spec_core.specs.Passed.{names_of, pair_in, unordered_in, passed_in}
use Rattle.spec_core.specs.Reports.{task_in}
use Rattle.spec_core.proofs.Seating.{many, seats_there}
use Rattle.spec_core.proofs.Placing.{done_there}
use Rattle.spec_core.proofs.Ordered.{Before, in_order, find_first}
use Rattle.spec_core.proofs.Passing.{unordered_there}

-- the same task, the same pair
task_is : (t v : Task) → same_task t v ≡ true → t ≡ v
task_is t v same = let parts = and_parts _ _ same in λ i. record { epoch = eqb-true t.epoch v.epoch parts.0 i; worker = eqb-true t.worker v.worker parts.1 i }

pub pair_is : (p q : Pair) → same_pair p q ≡ true → p ≡ q
pair_is p q same = let parts = and_parts _ _ same in λ i. record { early = task_is p.early q.early parts.0 i; late = task_is p.late q.late parts.1 i }

itself : (p : Pair) → same_pair p p ≡ true
itself p =
    and_from _ _ (and_from _ _ (eq-eqb p.early.epoch p.early.epoch refl) (eq-eqb p.early.worker p.early.worker refl)) (and_from _ _ (eq-eqb p.late.epoch p.late.epoch refl) (eq-eqb p.late.worker p.late.worker refl))

among_any : (p : Pair) (xs : List Pair) → In p xs → list_any (same_pair p) xs ≡ true
among_any p xs among = ⊎_elim (λ holds. holds) (λ fails. absurd (true≢false (sym (itself p) ∙ none_in (same_pair p) xs p fails among))) (cases_Bool (list_any (same_pair p) xs))

-- a pair of the list is in its filter where it passes the test
pub in_filter : (test : Pair → Bool) (p : Pair) (xs : List Pair) → In p xs → list_any (same_pair p) (filter test xs) ≡ test p
in_filter test p xs among =
    any-filter_same (same_pair p) test (test p) (λ q same. ap test (sym (pair_is p q same))) xs ∙ ap (λ t. test p && t) (among_any p xs among) ∙ and_true (test p)
  where
    and_true : (t : Bool) → (t && true) ≡ t
    and_true true = refl
    and_true false = refl

module _ {G : Type 0} (seen : List Seen) (benches : List (Bench G)) (n : ℕ) (last : Option Names) where
  abbrev width : ℕ
  width = length benches

  abbrev passed : List Pair
  passed = passed_in width n seen last

  -- where the late task of a pair has begun, the pair is open as it is kept
  pub open_is : (p : Pair) → IsPair width n p → p.late.epoch < (bench_at benches p.late.worker).begun → is_open (seats_of seen benches) passed p ≡ (unordered_in width seen p && not (is_behind last (names_of p)))
  open_is p pair begun =
      ap (λ t. t && not (is_passed passed p)) (unordered_there seen benches p pair.late_own begun)
      ∙ ap (λ t. unordered_in width seen p && not t) (in_filter (λ q. unordered_in width seen q && is_behind last (names_of q)) p (pairs width n) (in_pairs width n p pair))
      ∙ by (unordered_in width seen p) (is_behind last (names_of p))
    where
      by : (t b : Bool) → (t && not (t && b)) ≡ (t && not b)
      by true b = refl
      by false b = refl

three : (a b c d : Bool) → ((a && b && c) && d) ≡ true → (a ≡ true) × (b ≡ true) × (c ≡ true) × (d ≡ true)
three true true true true is = (refl, refl, refl, refl)
three true true true false is = absurd (true≢false (sym is))
three true true false d is = absurd (true≢false (sym is))
three true false c d is = absurd (true≢false (sym is))
three false b c d is = absurd (true≢false (sym is))

or_false : (a b : Bool) → a ≡ false → b ≡ false → (a || b) ≡ false
or_false a b fails none = ap (λ t. t || b) fails ∙ none

and_first : (a b : Bool) → a ≡ false → (a && b) ≡ false
and_first a b fails = ap (λ t. t && b) fails

and_false : (a b : Bool) → b ≡ false → (a && b) ≡ false
and_false true b fails = fails
and_false false b fails = refl

not_open : (t : Bool) → (true && not t) ≡ false → t ≡ true
not_open true is = refl
not_open false is = absurd (true≢false is)

-- a task isn't before itself
pub not_itself : (t : TaskName) → is_before t t ≡ false
not_itself t = or_false _ _ (le-ltb t.epoch t.epoch (omega arith)) (and_false (t.epoch == t.epoch) _ (le-ltb t.worker t.worker (omega arith)))

-- of a pair before another one the late task is no later
pub late_before : (p q : Names) → is_pair_before p q ≡ true → is_before q.1 p.1 ≡ false
late_before p q is = by (or_cases (is_before p.1 q.1) ((p.1.epoch == q.1.epoch && p.1.worker == q.1.worker) && is_before p.0 q.0) is)
  where
    by : (is_before p.1 q.1 ≡ true) ⊎ (((p.1.epoch == q.1.epoch && p.1.worker == q.1.worker) && is_before p.0 q.0) ≡ true) → is_before q.1 p.1 ≡ false
    by (inl first) = two (or_cases (nat_lt p.1.epoch q.1.epoch) (p.1.epoch == q.1.epoch && nat_lt p.1.worker q.1.worker) first)
      where
        two : (nat_lt p.1.epoch q.1.epoch ≡ true) ⊎ ((p.1.epoch == q.1.epoch && nat_lt p.1.worker q.1.worker) ≡ true) → is_before q.1 p.1 ≡ false
        two (inl less) = let l : p.1.epoch < q.1.epoch = ltb-true _ _ less in or_false _ _ (le-ltb q.1.epoch p.1.epoch (omega arith)) (and_first (q.1.epoch == p.1.epoch) _ (ne_eqb q.1.epoch p.1.epoch (λ same. omega (arith, same))))
        two (inr both) =
            let parts = and_parts _ _ both in
            let same : p.1.epoch ≡ q.1.epoch = eqb-true _ _ parts.0 in
            let l : p.1.worker < q.1.worker = ltb-true _ _ parts.1 in
            or_false _ _ (le-ltb q.1.epoch p.1.epoch (omega (arith, same))) (and_false (q.1.epoch == p.1.epoch) _ (le-ltb q.1.worker p.1.worker (omega arith)))
    by (inr second) =
        let parts = and_parts _ _ (and_parts _ _ second).0 in
        let e : p.1.epoch ≡ q.1.epoch = eqb-true _ _ parts.0 in
        let w : p.1.worker ≡ q.1.worker = eqb-true _ _ parts.1 in
        or_false _ _ (le-ltb q.1.epoch p.1.epoch (omega (arith, e))) (and_false (q.1.epoch == p.1.epoch) _ (le-ltb q.1.worker p.1.worker (omega (arith, w))))

-- so it is reached where the other one is
pub reached_before : (f : List ℕ) (workers : ℕ) (t q : TaskName) → is_before q t ≡ false → IsReached f workers q → IsReached f workers t
reached_before f workers t q behind reached before own first = reached before own (later (cases_Bool (is_before q before)))
  where
    later : (is_before q before ≡ true) ⊎ (is_before q before ≡ false) → is_before q before ≡ false
    later (inr fails) = fails
    later (inl holds) =
        let b = or_parts (nat_lt q.epoch t.epoch) (q.epoch == t.epoch && nat_lt q.worker t.worker) behind in
        let c = or_parts (nat_lt t.epoch before.epoch) (t.epoch == before.epoch && nat_lt t.worker before.worker) first in
        let low : t.epoch ≤ q.epoch = ltb-false _ _ b.0 in
        let less : before.epoch ≤ t.epoch = ltb-false _ _ c.0 in
        absurd (two low less b.1 c.1 (or_cases (nat_lt q.epoch before.epoch) (q.epoch == before.epoch && nat_lt q.worker before.worker) holds))
      where
        two : t.epoch ≤ q.epoch → before.epoch ≤ t.epoch → (q.epoch == t.epoch && nat_lt q.worker t.worker) ≡ false → (t.epoch == before.epoch && nat_lt t.worker before.worker) ≡ false
            → (nat_lt q.epoch before.epoch ≡ true) ⊎ ((q.epoch == before.epoch && nat_lt q.worker before.worker) ≡ true) → ⊥
        two low less mine other (inl past) = let l : q.epoch < before.epoch = ltb-true _ _ past in omega arith
        two low less mine other (inr both) =
            let parts = and_parts _ _ both in
            let same : q.epoch ≡ before.epoch = eqb-true _ _ parts.0 in
            let l : q.worker < before.worker = ltb-true _ _ parts.1 in
            let a : t.worker ≤ q.worker = ltb-false _ _ (sym (ap (λ c. c && nat_lt q.worker t.worker) (eq-eqb q.epoch t.epoch (omega (arith, same, low, less)))) ∙ mine) in
            let c : before.worker ≤ t.worker = ltb-false _ _ (sym (ap (λ c. c && nat_lt t.worker before.worker) (eq-eqb t.epoch before.epoch (omega (arith, same, low, less)))) ∙ other) in
            omega arith

-- What the checker is told of the workers: f has how many tasks each has finished.
module _ {G : Type 0} (seen : List Seen) (benches : List (Bench G)) (n : ℕ) (last : Option Names) (f : List ℕ)
    (counts : take (length benches) f ≡ map (λ (b : Bench G). b.done) benches)
    (begun : (u : ℕ) → u < length benches → (bench_at benches u).done ≤ (bench_at benches u).begun)
    (few : (u : ℕ) → u < length benches → (bench_at benches u).done ≤ n) where
  abbrev workers : ℕ
  workers = length benches

  abbrev seats : List (Seat Piece G)
  seats = seats_of seen benches

  abbrev behind : List Pair
  behind = passed_in workers n seen last

  abbrev is_machine_open : Pair → Bool
  is_machine_open = is_open seats behind

  pub count_is : (u : ℕ) → u < workers → slice_index f u ≡ (bench_at benches u).done
  count_is u own = sym (get_or-take workers f u 0 own) ∙ ap (λ l. get_or l u 0) counts ∙ done_there benches u own

  done_is : (u : ℕ) → u < workers → done_at seats u ≡ (bench_at benches u).done
  done_is u own = ap (λ (x : Seat Piece G). x.done) (seats_there seen benches u own)

  -- what is unordered and what is open, as the checker has it
  pub unordered_names : (p : Pair) → IsPair workers n p → is_unordered_names (seen_names seen workers (names_of p).1) (names_of p).0 (names_of p).1 ≡ unordered_in workers seen p
  unordered_names p pair =
      λ i. lt-ltb p.early.epoch p.late.epoch pair.rises i && not (ne_eqb p.early.worker p.late.worker pair.differ i) && nat_le (sym (get_or-take workers (slice_index_or seen (p.late.epoch * workers + p.late.worker) (record { 0 = [] })).0 p.early.worker 0 pair.early_own) i) p.early.epoch

  pub open_names : (p : Pair) → IsPair workers n p → is_open_names last seen workers (names_of p) ≡ (unordered_in workers seen p && not (is_behind last (names_of p)))
  open_names p pair = ap (λ t. t && not (is_behind last (names_of p))) (unordered_names p pair)

  -- a pair that is open for the checker, whose late task is of these epochs, is one of the machine's
  pub pair_of_names : (names : Names) → AreOf workers names → names.1.epoch < n → is_unordered_names (seen_names seen workers names.1) names.0 names.1 ≡ true → IsPair workers n (pair_in names)
  pair_of_names names own late is =
      let parts = three _ _ _ true (ap (λ b. b && true) is) in
      record {
        rises = ltb-true names.0.epoch names.1.epoch parts.0;
        late = late;
        early_own = own.0;
        late_own = own.1;
        differ = λ same. true≢false (sym (eq-eqb names.0.worker names.1.worker same) ∙ not-true (names.0.worker == names.1.worker) parts.1);
      }

  -- tasks that are finished with all before them
  pub reached_up : (t : TaskName) → IsReached f workers t → finished_up_to seats (task_in t) ≡ true
  reached_up t reached = up_from (task_in t) 0 seats (λ v lt. let own : v < workers = subst (λ k. v < k) (many workers seen 0 benches) lt in let z : 0 + v ≡ v = omega arith in subst (λ k. IsUpTo (task_in t) k (done_at seats v)) (sym z) (up v own))
    where
      up : (v : ℕ) → v < workers → IsUpTo (task_in t) v (done_at seats v)
      up v own = (
        at_least t.epoch refl,
        (λ le. let less : t.epoch < slice_index f v = reached (record { epoch = t.epoch; worker = v }) own (or_false _ _ (le-ltb t.epoch t.epoch (omega arith)) (and_false (t.epoch == t.epoch) _ (le-ltb t.worker v le))) in omega (arith, less, count_is v own, done_is v own)),
      )
        where
          at_least : (e : ℕ) → t.epoch ≡ e → t.epoch ≤ done_at seats v
          at_least zero is = omega (arith, is)
          at_least (suc e) is =
              let less : e < slice_index f v = reached (record { epoch = e; worker = v }) own (or_false _ _ (le-ltb t.epoch e (omega (arith, is))) (and_first (t.epoch == e) _ (ne_eqb t.epoch e (λ same. omega (arith, is, same))))) in
              omega (arith, is, less, count_is v own, done_is v own)

  pub up_reached : (t : TaskName) → finished_up_to seats (task_in t) ≡ true → IsReached f workers t
  up_reached t finished before own first =
      let lt : before.worker < length seats = subst (λ k. before.worker < k) (sym (many workers seen 0 benches)) own in
      let both = up_to (task_in t) 0 seats before.worker finished lt in
      let z : 0 + before.worker ≡ before.worker = omega arith in
      let up : IsUpTo (task_in t) before.worker (done_at seats before.worker) = subst (λ k. IsUpTo (task_in t) k (done_at seats before.worker)) z both in
      let parts = or_parts (nat_lt t.epoch before.epoch) _ first in
      let low : before.epoch ≤ t.epoch = ltb-false t.epoch before.epoch parts.0 in
      let less : before.epoch < done_at seats before.worker = by up low (cases_order before.epoch t.epoch) parts.1 in
      omega (arith, less, count_is before.worker own, done_is before.worker own)
    where
      by : IsUpTo (task_in t) before.worker (done_at seats before.worker) → before.epoch ≤ t.epoch → (before.epoch ≡ t.epoch) ⊎ ((before.epoch < t.epoch) ⊎ (t.epoch < before.epoch)) → (t.epoch == before.epoch && nat_lt t.worker before.worker) ≡ false → before.epoch < done_at seats before.worker
      by up low (inl same) fails =
          let behind_it : nat_lt t.worker before.worker ≡ false = sym (ap (λ b. b && nat_lt t.worker before.worker) (eq-eqb t.epoch before.epoch (sym same))) ∙ fails in
          let less : t.epoch < done_at seats before.worker = up.1 (ltb-false t.worker before.worker behind_it) in
          omega (arith, same, less)
      by up low (inr (inl less)) fails = omega (arith, less, up.0)
      by up low (inr (inr past)) fails = absurd (omega arith)

  -- where a late task is reached, both have the same open pairs
  pub late_begun : (p : Pair) → IsPair workers n p → IsReached f workers (names_of p).1 → p.late.epoch < (bench_at benches p.late.worker).begun
  late_begun p pair reached =
      let less : p.late.epoch < slice_index f p.late.worker = reached (names_of p).1 pair.late_own (not_itself (names_of p).1) in
      omega (arith, less, count_is p.late.worker pair.late_own, begun p.late.worker pair.late_own)

  pub open_same : (p : Pair) → IsPair workers n p → IsReached f workers (names_of p).1 → is_machine_open p ≡ is_open_names last seen workers (names_of p)
  open_same p pair reached = open_is seen benches n last p pair (late_begun p pair reached) ∙ sym (open_names p pair)

  -- the pair due
  pub due_is : (result : Option Names) → MatchOption result (NoneIsOpen last f workers seen) (λ names. IsDue last f workers seen names) → option_map pair_in result ≡ due_if seats (find is_machine_open (pairs workers n))
  due_is None none = sym (go (find is_machine_open (pairs workers n)) refl)
    where
      go : (o : Option Pair) → find is_machine_open (pairs workers n) ≡ o → due_if seats o ≡ None
      go None is = refl
      go (Some p) is = by (finished_up_to seats p.late) refl
        where
          found : In p (pairs workers n) × (is_machine_open p ≡ true)
          found = find_some is_machine_open (pairs workers n) p is

          there : IsPair workers n p
          there = pairs_in workers n p found.0

          by : (t : Bool) → finished_up_to seats p.late ≡ t → due_if seats (Some p) ≡ None
          by true finished =
              let reached = up_reached (names_of p).1 finished in
              absurd (true≢false (sym found.1 ∙ open_same p there reached ∙ none (names_of p) (there.early_own, there.late_own) reached))
          by false unfinished = ap (λ t. if t then Some p else None) unfinished
  due_is (Some names) due = sym (ap (due_if seats) first ∙ ap (λ t. if t then Some (pair_in names) else None) (reached_up names.1 due.reached))
    where
      late : names.1.epoch < n
      late =
          let less : names.1.epoch < slice_index f names.1.worker = due.reached names.1 due.tasks.1 (not_itself names.1) in
          omega (arith, less, count_is names.1.worker due.tasks.1, few names.1.worker due.tasks.1)

      there : IsPair workers n (pair_in names)
      there = pair_of_names names due.tasks late (and_parts _ _ due.unpassed).0

      before : (y : Pair) → In y (pairs workers n) → Before y (pair_in names) → is_machine_open y ≡ false
      before y among earlier =
          let pair = pairs_in workers n y among in
          open_same y pair (reached_before f workers (names_of y).1 names.1 (late_before (names_of y) names earlier) due.reached) ∙ due.first (names_of y) (pair.early_own, pair.late_own) earlier

      first : find is_machine_open (pairs workers n) ≡ Some (pair_in names)
      first = find_first Before is_machine_open (pairs workers n) (pair_in names) (in_order workers n) (in_pairs workers n (pair_in names) there)
          (open_same (pair_in names) there due.reached ∙ due.unpassed) before

  -- whether all pairs are passed, where all tasks of these epochs are finished
  pub all_is : (result : Bool) → IsTrue result ↔ AllPassed last n workers seen → ((u : ℕ) → u < workers → (bench_at benches u).done ≡ n) → result ≡ not (list_any is_machine_open (pairs workers n))
  all_is result told finished = by result (list_any is_machine_open (pairs workers n)) refl told
    where
      open_here : (p : Pair) → IsPair workers n p → is_machine_open p ≡ (unordered_in workers seen p && not (is_behind last (names_of p)))
      open_here p pair = open_is seen benches n last p pair (let all = finished p.late.worker pair.late_own in omega (arith, all, pair.late, begun p.late.worker pair.late_own))

      none : AllPassed last n workers seen → list_any is_machine_open (pairs workers n) ≡ false
      none all = none_each is_machine_open (pairs workers n) (λ p among. let pair = pairs_in workers n p among in open_here p pair ∙ passed p pair (unordered_in workers seen p) refl)
        where
          passed : (p : Pair) (pair : IsPair workers n p) (t : Bool) → unordered_in workers seen p ≡ t → (unordered_in workers seen p && not (is_behind last (names_of p))) ≡ false
          passed p pair true is =
              let un = unordered_names p pair ∙ is in
              ap (λ t. unordered_in workers seen p && not t) (all (names_of p) (pair.early_own, pair.late_own) pair.late un) ∙ ap (λ t. t && false) is
          passed p pair false is = ap (λ t. t && not (is_behind last (names_of p))) is

      all_passed : list_any is_machine_open (pairs workers n) ≡ false → AllPassed last n workers seen
      all_passed shuts = λ names own late un.
          let pair = pair_of_names names own late un in
          let shut : (unordered_in workers seen (pair_in names) && not (is_behind last names)) ≡ false = sym (open_here (pair_in names) pair) ∙ none_in is_machine_open (pairs workers n) (pair_in names) shuts (in_pairs workers n (pair_in names) pair) in
          not_open (is_behind last names) (sym (ap (λ t. t && not (is_behind last names)) (sym (unordered_names (pair_in names) pair) ∙ un)) ∙ shut)

      by : (r any : Bool) → list_any is_machine_open (pairs workers n) ≡ any → IsTrue r ↔ AllPassed last n workers seen → r ≡ not any
      by true true is told = absurd (true≢false (sym is ∙ none (told.0 refl)))
      by true false is told = refl
      by false true is told = refl
      by false false is told = absurd (true≢false (sym (told.1 (all_passed is))))
