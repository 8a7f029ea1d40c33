-- The words of all arrays of a program that keeps the rules are few, and so are its scheduler scalars.
use Rattle.std.proofs.Common.{◌≡◌, ℕ, suc, ◌+◌, ◌<◌, ◌≤◌, ◌==◌, Bool, true, false, if◌then◌else◌, nat_lt, Option, Some, None, List, [], ◌∷◌, length, sum, refl, ap, ◌∙◌, arith}
use Rattle.std.specs.Prelude.{IfSome}
use Rattle.std.specs.Option.{option_map}
use Rattle.std.specs.List.{fold}
use Rattle.std.proofs.lemmas.Bool.{ltb-false}
use Rattle.nest_syntax.specs.declared.tree.Decl.{Decl}
use Rattle.nest_syntax.specs.declared.tree.Decl.TheVariants as decl
use Rattle.nest_syntax.specs.declared.tree.Program.{Program}
use Rattle.nest_syntax.specs.Arrays.{arrays_of, sizes_of}
use Rattle.nest_check.specs.Declarations.{first_of_each, names_of, index_of_name}
use Rattle.nest_check.specs.Entries.{scheduler_scalars}
use Rattle.nest_check.specs.Tables.{scalar_of}
use Rattle.nest_check.specs.Rules.{most_words, sum_passes, lengths_outside}
use Rattle.nest_check.specs.Kept.{KeepsRules}
use Rattle.nest_check.proofs.Judged.{nil_right, few_scalar_names}

fold_from : (n m : ℕ) (xs : List ℕ) → fold (λ a b. a + b) (n + m) xs ≡ n + fold (λ a b. a + b) m xs
fold_from n m [] = refl
fold_from n m (x ∷ xs) = ap (λ k. fold (λ a b. a + b) k xs) (moved n m x) ∙ fold_from n (m + x) xs
  where
    moved : (n m x : ℕ) → (n + m) + x ≡ n + (m + x)
    moved n m x = omega arith

sum_one_more : (x : ℕ) (xs : List ℕ) → sum (x ∷ xs) ≡ x + sum xs
sum_one_more x xs = ap (λ k. fold (λ a b. a + b) k xs) (swapped x) ∙ fold_from x 0 xs
  where
    swapped : (x : ℕ) → 0 + x ≡ x + 0
    swapped x = omega arith

pub sum_within : (s : ℕ) (decls : List Decl) → s ≤ most_words → sum_passes s decls ≡ [] → s + sum (sizes_of (arrays_of decls)) ≤ most_words
sum_within s [] within e = omega (arith, within)
sum_within s (decl.Scalar line name value ∷ decls) within e = sum_within s decls within e
sum_within s (decl.Array line name size fixed ∷ decls) within e = by (nat_lt most_words (s + size)) refl e (λ w r. sum_within (s + size) decls w r)
  where
    by : (over : Bool) → nat_lt most_words (s + size) ≡ over → (if over then line ∷ [] else sum_passes (s + size) decls) ≡ []
        → (s + size ≤ most_words → sum_passes (s + size) decls ≡ [] → (s + size) + sum (sizes_of (arrays_of decls)) ≤ most_words) → s + sum (size ∷ sizes_of (arrays_of decls)) ≤ most_words
    by true is e' rest = absurd (cc)
    by false is e' rest = let all : (s + size) + sum (sizes_of (arrays_of decls)) ≤ most_words = rest (ltb-false most_words (s + size) is) e' in let one = sum_one_more size (sizes_of (arrays_of decls)) in omega (arith, all, one)

pub few_words : (program : Program) → KeepsRules program → sum (sizes_of (arrays_of program.decls)) ≤ 1048576
few_words program kept = let all = sum_within 0 program.decls (omega arith) (nil_right (lengths_outside program.decls) _ kept.lengths) in omega (arith, all)

-- an index is below a bound on the number of names
index_below : (most : ℕ) (names : List ℕ) (name : ℕ) → length names ≤ most → IfSome (index_of_name names name) (λ place. place < most)
index_below most [] name few = tt
index_below most (first ∷ names) name few = by (first == name) (index_of_name names name) (index_below (length names) names name (omega arith))
  where
    by : (here : Bool) (behind : Option ℕ) → IfSome behind (λ place. place < length names) → IfSome (if here then Some 0 else option_map suc behind) (λ place. place < most)
    by true behind below = omega arith
    by false None below = tt
    by false (Some place) below = omega (arith, below)

pub scalar_below : (program : Program) (name : ℕ) → KeepsRules program → IfSome (scalar_of program name) (λ scalar. scalar < 32)
scalar_below program name kept = index_below 32 (names_of (first_of_each (scheduler_scalars program))) name (few_scalar_names program kept)
