-- The facts of a list of events, by what they count.
use Rattle.std.proofs.Common.{◌≡◌, ℕ, zero, suc, ◌+◌, ◌≤◌, min, Bool, List, [], ◌∷◌, ◌++◌, map, take, length, refl, sym, ap, ◌∙◌, arith, append-nil, append_assoc, length-append}
use Rattle.std.proofs.lemmas.List.{length-map}
use Rattle.std.proofs.lemmas.List.Sums.{sum_by-append}
use Rattle.std.specs.List.{count_by}
use Rattle.nest_syntax.specs.Course.{Ordinary, Header}
use Rattle.nest_syntax.specs.Outcome.{Event, Computes, Drains, Iterates, Closes, Ends, iterations_among}
use Rattle.domore_machine.specs.Waits.{Wait}
use Rattle.domore_machine.specs.Facts.{WaitLine, Facts, no_facts, computed, most_drains, drained, wait_line, iterated, facts_from, is_header, is_drain, wait_lines_from, FactsCount}

abbrev pub is_crossing : WaitLine → Bool
is_crossing l = l.crossing

-- to keep the first n before others come makes no difference
take_again : {A : Type 0} (n : ℕ) (xs ys : List A) → take n (take n xs ++ ys) ≡ take n (xs ++ ys)
take_again zero xs ys = refl
take_again (suc n) [] ys = refl
take_again (suc n) (x ∷ xs) ys = ap (λ l. x ∷ l) (take_again n xs ys)

count_append : (xs ys : List WaitLine) → count_by is_crossing (xs ++ ys) ≡ count_by is_crossing xs + count_by is_crossing ys
count_append xs ys = sum_by-append _ xs ys

module _ (waits : ℕ → List Wait) where
  -- what is counted from iteration k and some facts on, behind `prior` waits
  pub record AddsUp (k : ℕ) (facts : Facts) (prior : List WaitLine) (passed : List Event) : Type 0 where
    pub invocations : (facts_from waits k facts passed).invocations ≡ facts.invocations + count_by is_header passed
    pub iterations : (facts_from waits k facts passed).iterations ≡ facts.iterations + length (iterations_among passed)
    pub drains : facts.drains ≤ most_drains → (facts_from waits k facts passed).drains ≡ min (facts.drains + count_by is_drain passed) most_drains
    pub waits_too : (facts_from waits k facts passed).waits ≡ facts.waits + length (wait_lines_from waits k facts.first passed)
    pub crossing : (facts_from waits k facts passed).crossing ≡ facts.crossing + count_by is_crossing (wait_lines_from waits k facts.first passed)
    pub first_waits : (facts_from waits k facts passed).first_waits ≡ take 64 (prior ++ wait_lines_from waits k facts.first passed)

  headers : (event : Event) (passed : List Event) (n : ℕ) → count_by is_header (event ∷ []) ≡ n → count_by is_header (event ∷ passed) ≡ n + count_by is_header passed
  headers event passed n one = sum_by-append _ (event ∷ []) passed ∙ ap (λ x. x + count_by is_header passed) one

  drain_count : (event : Event) (passed : List Event) (n : ℕ) → count_by is_drain (event ∷ []) ≡ n → count_by is_drain (event ∷ passed) ≡ n + count_by is_drain passed
  drain_count event passed n one = sum_by-append _ (event ∷ []) passed ∙ ap (λ x. x + count_by is_drain passed) one

  adds_up : (k : ℕ) (facts : Facts) (prior : List WaitLine) (passed : List Event) → facts.first_waits ≡ take 64 prior → AddsUp k facts prior passed
  adds_up k facts prior [] same = record { invocations = omega arith; iterations = omega arith; drains = λ few. omega (arith, few); waits_too = omega arith; crossing = omega arith; first_waits = same ∙ ap (take 64) (sym (append-nil prior)) }
  adds_up k facts prior (Computes Ordinary scalars ∷ passed) same = let more = adds_up k facts prior passed same in
      let h : count_by is_header (Computes Ordinary scalars ∷ passed) ≡ 0 + count_by is_header passed = headers (Computes Ordinary scalars) passed 0 refl in
      let d : count_by is_drain (Computes Ordinary scalars ∷ passed) ≡ 0 + count_by is_drain passed = drain_count (Computes Ordinary scalars) passed 0 refl in
      record { invocations = omega (arith, more.invocations); iterations = more.iterations; drains = λ few. omega (arith, more.drains few); waits_too = more.waits_too; crossing = more.crossing; first_waits = more.first_waits }
  adds_up k facts prior (Computes Header scalars ∷ passed) same = let more = adds_up k (computed k Header facts) prior passed same in
      let h : count_by is_header (Computes Header scalars ∷ passed) ≡ 1 + count_by is_header passed = headers (Computes Header scalars) passed 1 refl in
      let d : count_by is_drain (Computes Header scalars ∷ passed) ≡ 0 + count_by is_drain passed = drain_count (Computes Header scalars) passed 0 refl in
      record { invocations = omega (arith, more.invocations); iterations = more.iterations; drains = λ few. omega (arith, more.drains few); waits_too = more.waits_too; crossing = more.crossing; first_waits = more.first_waits }
  adds_up k facts prior (Drains Ordinary scalars ∷ passed) same = let more = adds_up k (drained facts) prior passed same in
      let h : count_by is_header (Drains Ordinary scalars ∷ passed) ≡ 0 + count_by is_header passed = headers (Drains Ordinary scalars) passed 0 refl in
      let d : count_by is_drain (Drains Ordinary scalars ∷ passed) ≡ 1 + count_by is_drain passed = drain_count (Drains Ordinary scalars) passed 1 refl in
      record { invocations = omega (arith, more.invocations); iterations = more.iterations; drains = λ few. let less : min (suc facts.drains) most_drains ≤ most_drains = omega arith in omega (arith, more.drains less, d); waits_too = more.waits_too; crossing = more.crossing; first_waits = more.first_waits }
  adds_up k facts prior (Drains Header scalars ∷ passed) same = let more = adds_up k (computed k Header (drained facts)) prior passed same in
      let h : count_by is_header (Drains Header scalars ∷ passed) ≡ 1 + count_by is_header passed = headers (Drains Header scalars) passed 1 refl in
      let d : count_by is_drain (Drains Header scalars ∷ passed) ≡ 1 + count_by is_drain passed = drain_count (Drains Header scalars) passed 1 refl in
      record { invocations = omega (arith, more.invocations); iterations = more.iterations; drains = λ few. let less : min (suc facts.drains) most_drains ≤ most_drains = omega arith in omega (arith, more.drains less, d); waits_too = more.waits_too; crossing = more.crossing; first_waits = more.first_waits }
  adds_up k facts prior (Iterates body scalars ∷ passed) same =
      let new : List WaitLine = map (wait_line k facts.first) (waits k) in
      let others : List WaitLine = wait_lines_from waits (suc k) facts.first passed in
      let more : AddsUp (suc k) (iterated k (waits k) facts) (prior ++ new) passed = adds_up (suc k) (iterated k (waits k) facts) (prior ++ new) passed (ap (λ l. take 64 (l ++ new)) same ∙ take_again 64 prior new) in
      let h : count_by is_header (Iterates body scalars ∷ passed) ≡ 0 + count_by is_header passed = headers (Iterates body scalars) passed 0 refl in
      let d : count_by is_drain (Iterates body scalars ∷ passed) ≡ 0 + count_by is_drain passed = drain_count (Iterates body scalars) passed 0 refl in
      let l : length (new ++ others) ≡ length (waits k) + length others = length-append new others ∙ ap (λ x. x + length others) (length-map (waits k) (wait_line k facts.first)) in
      let c : count_by is_crossing (new ++ others) ≡ count_by is_crossing new + count_by is_crossing others = count_append new others in
      record { invocations = omega (arith, more.invocations); iterations = omega (arith, more.iterations); drains = λ few. omega (arith, more.drains few); waits_too = omega (arith, more.waits_too, l); crossing = omega (arith, more.crossing, c); first_waits = more.first_waits ∙ ap (take 64) (append_assoc prior new others) }
  adds_up k facts prior (Closes scalars ∷ passed) same = let more = adds_up k facts prior passed same in
      let h : count_by is_header (Closes scalars ∷ passed) ≡ 0 + count_by is_header passed = headers (Closes scalars) passed 0 refl in
      let d : count_by is_drain (Closes scalars ∷ passed) ≡ 0 + count_by is_drain passed = drain_count (Closes scalars) passed 0 refl in
      record { invocations = omega (arith, more.invocations); iterations = more.iterations; drains = λ few. omega (arith, more.drains few); waits_too = more.waits_too; crossing = more.crossing; first_waits = more.first_waits }
  adds_up k facts prior (Ends ∷ passed) same = let more = adds_up k facts prior passed same in
      let h : count_by is_header (Ends ∷ passed) ≡ 0 + count_by is_header passed = headers Ends passed 0 refl in
      let d : count_by is_drain (Ends ∷ passed) ≡ 0 + count_by is_drain passed = drain_count Ends passed 0 refl in
      record { invocations = omega (arith, more.invocations); iterations = more.iterations; drains = λ few. omega (arith, more.drains few); waits_too = more.waits_too; crossing = more.crossing; first_waits = more.first_waits }

pub facts_count : FactsCount
facts_count waits passed = let all = adds_up waits 0 no_facts [] passed refl in record {
  invocations = omega (arith, all.invocations);
  iterations = omega (arith, all.iterations);
  drains = omega (arith, all.drains (omega arith));
  waits = omega (arith, all.waits_too);
  crossing = omega (arith, all.crossing);
  first_waits = all.first_waits;
}
