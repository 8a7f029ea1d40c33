-- Claims that hold two trees and don't clash: no accesses of theirs conflict.
use Rattle.std.proofs.Common.{◌≡◌, ℕ, ℤ, true, List, [], ◌∷◌, subst, inl, inr}
use Rattle.std.proofs.lemmas.Bool.{or_left, or_right}
use Rattle.settle_law.specs.Trees.{Tree, Finished, Trapped, Load, Store}
use Rattle.settle_law.specs.Traces.{Apart, Access, Read, Write, Each, Conflict, Makes}
use Rattle.settle_law.specs.Claims.{Claims, Within, Covers, Clash, ClaimsPartIterations}
use Rattle.settle_law.proofs.Members.{each_at, each_of}

pub covered : (claims : Claims) (tree : Tree) (made : List Access) (rest : Tree) → Within claims tree → Makes tree made rest → Each (Covers claims) made
covered claims tree [] rest within m = tt
covered claims Finished (a ∷ made) rest within m = elim m [ ]
covered claims (Trapped cause line) (a ∷ made) rest within m = elim m [ ]
covered claims (Load w go) (Read k u value ∷ made) rest within m = (subst (λ x. claims.read x ≡ true) m.0 within.0, covered claims (go value) made rest (within.1 value) m.1)
covered claims (Load w go) (Write k u value ∷ made) rest within m = elim m [ ]
covered claims (Store w new tree) (Read k u value ∷ made) rest within m = elim m [ ]
covered claims (Store w new tree) (Write k u value ∷ made) rest within m = (subst (λ x. claims.written x ≡ true) m.0 within.0, covered claims tree made rest within.1 m.2)

clash : (claims others : Claims) (a b : Access) → Covers claims a → Covers others b → Conflict a b → Clash claims others
clash claims others (Read j w value) (Read k u other) mine theirs c = elim c [ ]
clash claims others (Read j w value) (Write k u other) mine theirs c = (u, inr (or_left (claims.read u) (claims.written u) (subst (λ x. claims.read x ≡ true) c mine), theirs))
clash claims others (Write j w value) (Read k u other) mine theirs c = (u, inl (subst (λ x. claims.written x ≡ true) c mine, or_left (others.read u) (others.written u) theirs))
clash claims others (Write j w value) (Write k u other) mine theirs c = (u, inl (subst (λ x. claims.written x ≡ true) c mine, or_right (others.read u) (others.written u) theirs))

pub apart-from_claims : ClaimsPartIterations
apart-from_claims claims others tree other within within_too free made made_too (rest, makes) (rest_too, makes_too) = each_of (λ a. Each (λ b. Conflict a b → ⊥) made_too) made (λ a has_a. each_of (λ b. Conflict a b → ⊥) made_too (λ b has_b c.
    free (clash claims others a b (each_at (Covers claims) made a (covered claims tree made rest within makes) has_a) (each_at (Covers others) made_too b (covered others other made_too rest_too within_too makes_too) has_b) c)))

-- The same for any property of accesses in place of claims: it holds of each access, on any path.
abbrev pub OnPaths : (Access → Type 0) → Tree → Type 0
OnPaths Q Finished = Unit {0}
OnPaths Q (Trapped cause line) = Unit {0}
OnPaths Q (Load w go) = ((k : ℕ) (value : ℤ) → Q (Read k w value)) × ((value : ℤ) → OnPaths Q (go value))
OnPaths Q (Store w value rest) = ((k : ℕ) → Q (Write k w value)) × OnPaths Q rest

pub on_paths : (Q : Access → Type 0) (tree : Tree) (made : List Access) (rest : Tree) → OnPaths Q tree → Makes tree made rest → Each Q made
on_paths Q tree [] rest all m = tt
on_paths Q Finished (a ∷ made) rest all m = elim m [ ]
on_paths Q (Trapped cause line) (a ∷ made) rest all m = elim m [ ]
on_paths Q (Load w go) (Read k u value ∷ made) rest all m = (subst (λ x. Q (Read k x value)) m.0 (all.0 k value), on_paths Q (go value) made rest (all.1 value) m.1)
on_paths Q (Load w go) (Write k u value ∷ made) rest all m = elim m [ ]
on_paths Q (Store w new tree) (Read k u value ∷ made) rest all m = elim m [ ]
on_paths Q (Store w new tree) (Write k u value ∷ made) rest all m = (subst (λ x. Q (Write k x value)) m.0 (subst (λ x. Q (Write k w x)) m.1 (all.0 k)), on_paths Q tree made rest all.1 m.2)

pub apart-from_paths : (Q R : Access → Type 0) (tree other : Tree) → OnPaths Q tree → OnPaths R other → ((a b : Access) → Q a → R b → Conflict a b → ⊥) → Apart tree other
apart-from_paths Q R tree other all all_too free made made_too (rest, makes) (rest_too, makes_too) = each_of (λ a. Each (λ b. Conflict a b → ⊥) made_too) made (λ a has_a. each_of (λ b. Conflict a b → ⊥) made_too (λ b has_b c.
    free a b (each_at Q made a (on_paths Q tree made rest all makes) has_a) (each_at R made_too b (on_paths R other made_too rest_too all_too makes_too) has_b) c))
