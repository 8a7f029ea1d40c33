-- The lists of a tally.
use Rattle.std.proofs.Common.{◌≡◌, ℕ, zero, suc, ◌+◌, ◌≤◌, if◌then◌else◌, nat_lt, Option, Some, List, [], ◌∷◌, ◌++◌, length, map, take, set, refl, sym, ap, ◌∙◌, subst, arith, append_assoc, append-nil}
use Rattle.std.specs.List.{count_by}
use Rattle.std.proofs.lemmas.List.Sums.{sum_by-cons}
use Rattle.progress_board.specs.declared.options.Options.{Options}
use Rattle.std.proofs.lemmas.List.{take_all}
use Rattle.progress_board.specs.declared.facts.Facts.{Facts as Report}
use Rattle.progress_board.specs.declared.facts.Wait.{Wait as Place}
use Rattle.progress_board.proofs.Places.{counted_more, placed_more, listed_places}
use Rattle.domore_machine.specs.Waits.{Wait}
use Rattle.domore_machine.specs.Facts.{Facts, WaitLine, wait_line, iterated}
use Rattle.domore_core.specs.Reports.{wait_of, places_of, report_of}
use Rattle.domore_core.specs.Tallies.{Tallied, listed_in, tallied, IsTallied, with_wait, with_waits}

module _ (report : Report) (first number : ℕ) (w : Wait) (kept : IsTallied report (tallied report first)) where
  abbrev xs : List WaitLine
  xs = listed_in report.first_waits

  abbrev one : WaitLine
  one = wait_line number first w

  abbrev pub after : Report
  after = record report { waits = report.waits + 1; crossing = report.crossing + (if nat_lt w.number first then 1 else 0); first_waits = set report.first_waits report.waits (Some (wait_of one)) }

  places-after : after.first_waits ≡ places_of (take 64 (xs ++ one ∷ []))
  places-after = ap (λ (ps : List (Option Place)). set ps report.waits (Some (wait_of one))) (ap (λ (r : Report). r.first_waits) kept.is) ∙ placed_more wait_of xs report.waits one kept.count

  listed-after : listed_in after.first_waits ≡ take 64 (xs ++ one ∷ [])
  listed-after = ap listed_in places-after ∙ listed_places wait_of listed_in refl (λ ps. refl) (λ l ps. refl) (take 64 (xs ++ one ∷ []))

  pub note_kept : IsTallied after (tallied after first)
  note_kept = record {
    is = ap (λ (r : Report). let s : Report = record r { waits = report.waits + 1; crossing = report.crossing + (if nat_lt w.number first then 1 else 0); first_waits = after.first_waits } in s) kept.is
        ∙ ap (λ (ps : List (Option Place)). let s : Report = record (report_of report.options (tallied report first).facts) { waits = report.waits + 1; crossing = report.crossing + (if nat_lt w.number first then 1 else 0); first_waits = ps } in s) (places-after ∙ ap places_of (sym listed-after));
    count = ap length listed-after ∙ counted_more xs report.waits one kept.count;
  }

  pub note_is : tallied after first ≡ record (tallied report first) { facts = with_wait number (tallied report first).facts w }
  note_is =
      let more : report.waits + 1 ≡ suc report.waits = omega arith in
      ap (λ (n : ℕ). let t : Tallied = record (tallied after first) { facts = record (tallied after first).facts { waits = n } } in t) more
      ∙ ap (λ (l : List WaitLine). let t : Tallied = record (tallied after first) { facts = record (tallied after first).facts { waits = suc report.waits; first_waits = l } } in t) listed-after

take-first : {A : Type 0} (n : ℕ) (xs ys : List A) → take n (take n xs ++ ys) ≡ take n (xs ++ ys)
take-first zero front back = refl
take-first (suc n) [] back = refl
take-first (suc n) (x ∷ front) back = ap (λ zs. x ∷ zs) (take-first n front back)

abbrev pub handed : Facts → Facts
handed facts = record facts { iterations = suc facts.iterations }

more_waits : (number : ℕ) (facts : Facts) (w : Wait) (waits : List Wait) → iterated number waits (with_wait number facts w) ≡ iterated number (w ∷ waits) facts
more_waits number facts w waits =
    let l = wait_line number facts.first w in
    let ls = map (wait_line number facts.first) waits in
    let counts : suc facts.waits + length waits ≡ facts.waits + suc (length waits) = omega arith in
    let crosses : facts.crossing + (if nat_lt w.number facts.first then 1 else 0) + count_by (λ (x : WaitLine). x.crossing) ls ≡ facts.crossing + count_by (λ (x : WaitLine). x.crossing) (l ∷ ls) =
    omega (arith, sum_by-cons (λ (x : WaitLine). if x.crossing then 1 else 0) l ls) in
    let lists : take 64 (take 64 (facts.first_waits ++ l ∷ []) ++ ls) ≡ take 64 (facts.first_waits ++ l ∷ ls) = take-first 64 (facts.first_waits ++ l ∷ []) ls ∙ ap (take 64) (append_assoc facts.first_waits (l ∷ []) ls) in
    ap (λ (n : ℕ). let f : Facts = record (iterated number waits (with_wait number facts w)) { waits = n } in f) counts
    ∙ ap (λ (n : ℕ). let f : Facts = record (iterated number waits (with_wait number facts w)) { waits = facts.waits + suc (length waits); crossing = n } in f) crosses
    ∙ ap (λ (k : List WaitLine). let f : Facts = record (iterated number (w ∷ waits) facts) { first_waits = k } in f) lists

with_waits-is : (number : ℕ) (waits : List Wait) (facts : Facts) → length (with_waits number facts waits).first_waits ≤ 64 → handed (with_waits number facts waits) ≡ iterated number waits facts
with_waits-is number [] facts few =
    let counts : facts.waits ≡ facts.waits + 0 = omega arith in
    let crosses : facts.crossing ≡ facts.crossing + 0 = omega arith in
    let lists : facts.first_waits ≡ take 64 (facts.first_waits ++ []) = sym (ap (take 64) (append-nil facts.first_waits) ∙ take_all 64 facts.first_waits few) in
    ap (λ (n : ℕ). let f : Facts = record (handed facts) { waits = n } in f) counts
    ∙ ap (λ (n : ℕ). let f : Facts = record (handed facts) { waits = facts.waits + 0; crossing = n } in f) crosses
    ∙ ap (λ (k : List WaitLine). let f : Facts = record (handed facts) { waits = facts.waits + 0; crossing = facts.crossing + 0; first_waits = k } in f) lists
with_waits-is number (w ∷ waits) facts few = with_waits-is number waits (with_wait number facts w) few ∙ more_waits number facts w waits

-- all waits are listed, and the iteration is counted
pub handed_out : (report : Report) (first number : ℕ) (old : Tallied) (waits left : List Wait) → IsTallied report (tallied report first) → left ≡ [] → (tallied report first).options ≡ old.options → with_waits number (tallied report first).facts left ≡ with_waits number old.facts waits
    → (let t : Tallied = record { options = (tallied report first).options; facts = handed (tallied report first).facts } in t) ≡ record old { facts = iterated number waits old.facts }
handed_out report first number old waits left kept none options same =
    let done : (tallied report first).facts ≡ with_waits number old.facts waits = ap (with_waits number (tallied report first).facts) (sym none) ∙ same in
    let few : length (tallied report first).facts.first_waits ≤ 64 = omega (arith, kept.count) in
    let fits : length (with_waits number old.facts waits).first_waits ≤ 64 = subst (λ (f : Facts). length f.first_waits ≤ 64) done few in
    ap (λ (o : Options). let t : Tallied = record { options = o; facts = handed (tallied report first).facts } in t) options
    ∙ ap (λ (f : Facts). let t : Tallied = record { options = old.options; facts = handed f } in t) done
    ∙ ap (λ (f : Facts). let t : Tallied = record { options = old.options; facts = f } in t) (with_waits-is number waits old.facts fits)
