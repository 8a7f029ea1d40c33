-- What the lowest line tells of the lines that break a rule.
use Rattle.std.proofs.Common.{◌≡◌, ◌<◌, ◌≤◌, Bool, true, false, ◌⊎◌, inl, inr, if◌then◌else◌, Option, Some, None, List, [], ◌∷◌, nat_lt, refl, sym, ◌∙◌, subst, arith}
use Rattle.std.proofs.lemmas.Bool.{ltb-true, ltb-false}
use Rattle.nest_syntax.specs.declared.names.Line.{Line}
use Rattle.nest_syntax.specs.Among.{IsOne}
use Rattle.nest_syntax.specs.Lowest.{IsLowest, IsLowestOf, lower, lower_of, lowest, IsAtMost, Lowers}

-- the lower of two lines is at most each, and one of them
lower_new : (found : Option Line) (line : Line) → IsAtMost (lower found line) line
lower_new None line = omega arith
lower_new (Some lowest) line = by_test (nat_lt line.0 lowest.0) refl
  where
    by_test : (b : Bool) → nat_lt line.0 lowest.0 ≡ b → IsAtMost (Some (if b then line else lowest)) line
    by_test true e = omega arith
    by_test false e = ltb-false line.0 lowest.0 e

lower_old : (lowest line : Line) → IsAtMost (lower (Some lowest) line) lowest
lower_old lowest line = by_test (nat_lt line.0 lowest.0) refl
  where
    by_test : (b : Bool) → nat_lt line.0 lowest.0 ≡ b → IsAtMost (Some (if b then line else lowest)) lowest
    by_test true e = let less : line.0 < lowest.0 = ltb-true line.0 lowest.0 e in omega arith
    by_test false e = omega arith

lower_from : (found : Option Line) (line some : Line) → lower found line ≡ Some some → (found ≡ Some some) ⊎ (some ≡ line)
lower_from None line some e = inr (sym (let same : line ≡ some = cc in same))
lower_from (Some lowest) line some e = by_test (nat_lt line.0 lowest.0) e
  where
    by_test : (b : Bool) → Some (if b then line else lowest) ≡ Some some → (Some lowest ≡ Some some) ⊎ (some ≡ line)
    by_test true h = inr (let same : some ≡ line = cc in same)
    by_test false h = inl h

at_most_lower : (found : Option Line) (one line : Line) → IsAtMost found line → IsAtMost (lower found one) line
at_most_lower None one line h = absurd h
at_most_lower (Some lowest) one line h = by_test (nat_lt one.0 lowest.0) refl
  where
    by_test : (b : Bool) → nat_lt one.0 lowest.0 ≡ b → IsAtMost (Some (if b then one else lowest)) line
    by_test true e = let less : one.0 < lowest.0 = ltb-true one.0 lowest.0 e in omega arith
    by_test false e = h

at_most_lowest : (found : Option Line) (lines : List Line) (line : Line) → IsAtMost found line → IsAtMost (lower_of found lines) line
at_most_lowest found [] line h = h
at_most_lowest found (one ∷ lines) line h = at_most_lowest (lower found one) lines line (at_most_lower found one line h)

lowest_reached : (found : Option Line) (lines : List Line) (line : Line) → IsOne lines line → IsAtMost (lower_of found lines) line
lowest_reached found [] line h = absurd h
lowest_reached found (one ∷ lines) line (inl same) = subst (λ l. IsAtMost (lower_of (lower found one) lines) l) (sym same) (at_most_lowest (lower found one) lines one (lower_new found one))
lowest_reached found (one ∷ lines) line (inr later) = lowest_reached (lower found one) lines line later

lowest_from : (found : Option Line) (lines : List Line) (some : Line) → lower_of found lines ≡ Some some → (found ≡ Some some) ⊎ IsOne lines some
lowest_from found [] some e = inl e
lowest_from found (one ∷ lines) some e = elim (lowest_from (lower found one) lines some e) [
  | inl here ↦ elim (lower_from found one some here) [ inl was ↦ inl was | inr same ↦ inr (inl same) ]
  | inr later ↦ inr (inr later)
]

at_most_some : (found : Option Line) (line : Line) → found ≡ Some line → IsAtMost found line
at_most_some found line e = subst (λ f. IsAtMost f line) (sym e) (let same : line.0 ≤ line.0 = omega arith in same)

pub lowers_by : (Breaks : Line → Type 0) (lines : List Line) (old new : Option Line) → ((line : Line) → Breaks line → IsOne lines line) → ((line : Line) → IsOne lines line → Breaks line)
    → new ≡ lower_of old lines → Lowers Breaks old new
lowers_by Breaks lines old new into back is = record {
  reached = λ line h. subst (λ f. IsAtMost f line) (sym is) (lowest_reached old lines line (into line h));
  kept = λ line e. subst (λ f. IsAtMost f line) (sym is) (at_most_lowest old lines line (at_most_some old line e));
  from = λ line e. elim (lowest_from old lines line (sym is ∙ e)) [ inl was ↦ inl was | inr one ↦ inr (back line one) ];
}

pub lowest_of : (Breaks : Line → Type 0) (found : Option Line) → Lowers Breaks None found → IsLowest Breaks found
lowest_of Breaks None lowers = λ line h. lowers.reached line h
lowest_of Breaks (Some lowest) lowers = (elim (lowers.from lowest refl) [ inl none ↦ absurd cc | inr breaks ↦ breaks ], λ line h. lowers.reached line h)

-- the lowest line of a list is the lowest of those that break a rule
pub lowest_is : (lines : List Line) (found : Option Line) → found ≡ lowest lines → IsLowestOf lines found
lowest_is lines found is = lowest_of (IsOne lines) found (lowers_by (IsOne lines) lines None found (λ line one. one) (λ line one. one) is)

-- of the lines that break a rule one is the lowest
pub one_lowest : (Breaks : Line → Type 0) (found other : Option Line) → IsLowest Breaks found → IsLowest Breaks other → found ≡ other
one_lowest Breaks None None is is' = refl
one_lowest Breaks None (Some line) is is' = absurd (is line is'.0)
one_lowest Breaks (Some line) None is is' = absurd (is' line is.0)
one_lowest Breaks (Some line) (Some other) is is' =
    let same : line.0 ≡ other.0 = omega (arith, is.1 other is'.0, is'.1 line is.0) in
    λ i. Some (record { 0 = same i })
