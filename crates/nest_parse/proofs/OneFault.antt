-- A list of tokens has one fault.
use Rattle.std.proofs.Common.{◌≡◌, ℕ, zero, suc, ◌+◌, ◌≤◌, ◌<◌, nat_lt, Bool, true, false, List, [], ◌∷◌, ◌++◌, take, drop, refl, sym, ◌∙◌, ap, subst, arith, append_assoc}
use Rattle.std.proofs.lemmas.Bool.{ltb-true, ltb-false}
use Rattle.nest_lex.specs.declared.token.Token.{Token}
use Rattle.nest_parse.specs.Grammar.{AreProgram, BeginProgram, IsFaultAt}

-- what stands in front is a part of what more stands in front
fewer : (n m : ℕ) (ts : List Token) → n ≤ m → take n ts ++ drop n (take m ts) ≡ take m ts
fewer zero m ts less = refl
fewer (suc n) zero ts less = absurd (omega arith)
fewer (suc n) (suc m) [] less = refl
fewer (suc n) (suc m) (t ∷ ts) less = ap (λ xs. t ∷ xs) (fewer n m ts (omega arith))

pub shorter : (n m : ℕ) (ts : List Token) → n ≤ m → BeginProgram (take m ts) → BeginProgram (take n ts)
shorter n m ts less begun = record {
  rest = drop n (take m ts) ++ begun.rest;
  decls = begun.decls;
  regions = begun.regions;
  are = subst (λ xs. AreProgram xs begun.decls begun.regions) (ap (λ xs. xs ++ begun.rest) (sym (fewer n m ts less)) ∙ append_assoc (take n ts) (drop n (take m ts)) begun.rest) begun.are;
}

not_before : (ts : List Token) (a b : ℕ) → IsFaultAt ts a → IsFaultAt ts b → a < b → ⊥
not_before ts a b first second less = first.there (omega (arith, second.within)) (shorter (a + 1) b ts (omega arith) second.before)

pub one_fault : (ts : List Token) (a b : ℕ) → IsFaultAt ts a → IsFaultAt ts b → a ≡ b
one_fault ts a b first second = compare (nat_lt a b) (nat_lt b a) refl refl
  where
    compare : (less more : Bool) → nat_lt a b ≡ less → nat_lt b a ≡ more → a ≡ b
    compare true more is is' = absurd (not_before ts a b first second (ltb-true a b is))
    compare false true is is' = absurd (not_before ts b a second first (ltb-true b a is'))
    compare false false is is' = omega (arith, ltb-false a b is, ltb-false b a is')
