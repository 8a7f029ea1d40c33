-- A program breaks one lowest rule at one line, or it keeps all rules.
use Rattle.std.proofs.Common.{◌≡◌, ℕ, ◌<◌, ◌≤◌, true, false, leb, ◌⊎◌, inl, inr, Option, Some, None, List, [], ◌∷◌, refl, subst, arith}
use Rattle.std.proofs.lemmas.Bool.Decides.{leb_tells}
use Rattle.nest_syntax.specs.declared.names.Line.{Line}
use Rattle.nest_syntax.specs.declared.tree.Program.{Program}
use Rattle.nest_syntax.specs.Among.{IsOne}
use Rattle.nest_syntax.specs.Lowest.{IsLowest}
use Rattle.nest_syntax.proofs.Lowers.{one_lowest}
use Rattle.nest_check.specs.Kept.{KeepsRules}
use Rattle.nest_check.specs.Broken.{BreaksRule, IsBroken, rules_on}
use Rattle.nest_check.proofs.Judged.{AreLowest, broken_is}

-- what is broken is one rule with one line, or nothing
pub one_broken : (program : Program) (found other : Option (ℕ × Line)) → IsBroken program found → IsBroken program other → found ≡ other
one_broken program None None is is' = refl
one_broken program None (Some (rule, line)) is is' = absurd (is rule line is'.0.0)
one_broken program (Some (rule, line)) None is is' = absurd (is' rule line is.0.0)
one_broken program (Some (rule, line)) (Some (rule', line')) is is' = by (leb_tells rule rule') (leb_tells rule' rule)
  where
    by : ((leb rule rule' ≡ true) × (rule ≤ rule')) ⊎ ((leb rule rule' ≡ false) × (rule' < rule)) → ((leb rule' rule ≡ true) × (rule' ≤ rule)) ⊎ ((leb rule' rule ≡ false) × (rule < rule')) → (let one : Option (ℕ × Line) = Some (rule, line) in let another : Option (ℕ × Line) = Some (rule', line') in one ≡ another)
    by (inr less) other = absurd (is.1 rule' line' less.1 is'.0.0)
    by (inl most) (inr less) = absurd (is'.1 rule line less.1 is.0.0)
    by (inl most) (inl least) =
        let same : rule ≡ rule' = omega (arith, most.1, least.1) in
        let lowest : Some line ≡ Some line' = one_lowest (BreaksRule program rule') (Some line) (Some line') (subst (λ r. IsLowest (BreaksRule program r) (Some line)) same is.0) is'.0 in
        cc

unbroken : {lines : List Line} → lines ≡ [] → (line : Line) → IsOne lines line → ⊥
unbroken {lines} none line one = let P : List Line → Type 0 = λ ls. IsOne ls line in subst P none one

pub none_broken : (program : Program) → KeepsRules program → IsBroken program None
none_broken program kept =
    let none : Option Line = None in
    let lines : List (Option Line) = none ∷ none ∷ none ∷ none ∷ none ∷ none ∷ none ∷ none ∷ none ∷ none ∷ none ∷ none ∷ none ∷ none ∷ [] in
    let are : AreLowest (rules_on program) lines = (
      unbroken kept.few,
      (
        unbroken kept.declared_once,
        (
          unbroken kept.known,
          (
            unbroken kept.lengths,
            (
              unbroken kept.constant,
              (
                unbroken kept.steps,
                (
                  unbroken kept.levels,
                  (unbroken kept.variables, (unbroken kept.scheduled, (unbroken kept.bounds, (kept.inner, (unbroken kept.items, (unbroken kept.bodies, (unbroken kept.depths, tt))))))),
                ),
              ),
            ),
          ),
        ),
      ),
    ) in
    broken_is program lines are

pub never_both : (program : Program) (rule : ℕ) (line : Line) → IsBroken program (Some (rule, line)) → KeepsRules program → ⊥
never_both program rule line broken kept = none_broken program kept rule line broken.0.0
