-- The lowest lines over the declarations that are left.
use Rattle.std.proofs.Common.{◌≡◌, ◌≢◌, ℕ, zero, suc, ◌+◌, ◌-◌, ◌<◌, ◌≤◌, Bool, Option, None, List, [], ◌∷◌, ◌++◌, map, length, take, drop, get_or, refl, sym, ap, ◌∙◌, arith, add-one, drop-cons}
use Rattle.std.proofs.lemmas.List.{drop_all, drop-map}
use Rattle.nest_syntax.specs.declared.names.Line.{Line}
use Rattle.nest_syntax.specs.declared.tree.Decl.{Decl}
use Rattle.nest_syntax.specs.declared.tree.Decl.TheVariants as decl
use Rattle.nest_syntax.specs.Lowest.{lower, lower_of, lines_where}
use Rattle.nest_syntax.proofs.LowerLists.{lower_of-append, lower_of-where}
use Rattle.nest_check.specs.declared.parts.Breaches.{Breaches}
use Rattle.nest_check.specs.Through.{through}
use Rattle.nest_check.specs.Parts.{Part}
use Rattle.nest_check.specs.Noted.{noted}
use Rattle.nest_check.specs.Rules.{part_line, has_wrong_step, is_deep_loop, is_deep, first_behind, array_lines}

-- what is left, where the declaration at a place is known
pub array_left : {B : Type 0} (f : List Decl → B) (decls : List Decl) (i : ℕ) (none : Decl) (line : Line) (name size : ℕ) (fixed : Bool) → i < length decls → get_or decls i none ≡ decl.Array line name size fixed → f (drop i decls) ≡ f (decl.Array line name size fixed ∷ drop (i + 1) decls)
array_left f decls i none line name size fixed there is = ap f (drop-cons decls i none there ∙ ap (λ d. d ∷ drop (suc i) decls) is ∙ ap (λ k. decl.Array line name size fixed ∷ drop k decls) (sym (add-one i)))

pub scalar_left : {B : Type 0} (f : List Decl → B) (decls : List Decl) (i : ℕ) (none : Decl) (line : Line) (name : ℕ) (value : _) → i < length decls → get_or decls i none ≡ decl.Scalar line name value → f (drop i decls) ≡ f (decl.Scalar line name value ∷ drop (i + 1) decls)
scalar_left f decls i none line name value there is = ap f (drop-cons decls i none there ∙ ap (λ d. d ∷ drop (suc i) decls) is ∙ ap (λ k. decl.Scalar line name value ∷ drop k decls) (sym (add-one i)))

pub none_behind : (many : ℕ) → first_behind many [] ≡ []
none_behind zero = refl
none_behind (suc many) = refl

-- an array that isn't the one looked for
pub array_passes : (found whole : Option Line) (decls : List Decl) (i : ℕ) (none : Decl) (line : Line) (name size : ℕ) (fixed : Bool) (left left' : ℕ) → i < length decls → get_or decls i none ≡ decl.Array line name size fixed → left ≢ 0 → left' ≡ left - 1
    → lower_of found (first_behind left (array_lines (drop i decls))) ≡ whole → lower_of found (first_behind left' (array_lines (drop (i + 1) decls))) ≡ whole
array_passes found whole decls i none line name size fixed zero left' there is some less before = absurd (some refl)
array_passes found whole decls i none line name size fixed (suc n) left' there is some less before =
    let e : left' ≡ n = omega (arith, less) in
    ap (λ k. lower_of found (first_behind k (array_lines (drop (i + 1) decls)))) e ∙ sym (array_left (λ ds. lower_of found (first_behind (suc n) (array_lines ds))) decls i none line name size fixed there is) ∙ before

pub scalar_passes : (found whole : Option Line) (decls : List Decl) (i : ℕ) (none : Decl) (line : Line) (name : ℕ) (value : _) (left left' : ℕ) → i < length decls → get_or decls i none ≡ decl.Scalar line name value → left' ≡ left
    → lower_of found (first_behind left (array_lines (drop i decls))) ≡ whole → lower_of found (first_behind left' (array_lines (drop (i + 1) decls))) ≡ whole
scalar_passes found whole decls i none line name value left left' there is same before =
    ap (λ k. lower_of found (first_behind k (array_lines (drop (i + 1) decls)))) same ∙ sym (scalar_left (λ ds. lower_of found (first_behind left (array_lines ds))) decls i none line name value there is) ∙ before

-- the item behind so many others
pub noted_at : {A : Type 0} (line : A → Line) (found found' : Option Line) (xs : List A) (many : ℕ) (none : A) → many < length xs → found' ≡ lower found (line (get_or xs many none)) → found' ≡ lower_of found (first_behind many (map line xs))
noted_at line found found' xs many none there after =
    after
    ∙ ap (λ ys. lower_of found (take 1 (map line ys))) (sym (drop-cons xs many none there))
    ∙ ap (λ lines. lower_of found (take 1 lines)) (sym (drop-map line many xs))

pub none_noted : {A : Type 0} (line : A → Line) (found : Option Line) (xs : List A) (many : ℕ) → length xs ≤ many → found ≡ lower_of found (first_behind many (map line xs))
none_noted line found xs many over = ap (λ ys. lower_of found (take 1 (map line ys))) (sym (drop_all many xs over)) ∙ ap (λ lines. lower_of found (take 1 lines)) (sym (drop-map line many xs))

pub lowest_of_two : (result first second third : Option Line) (xs ys : List Line) → first ≡ None → second ≡ lower_of first xs → third ≡ lower_of second ys → result ≡ third → result ≡ lower_of None (xs ++ ys)
lowest_of_two result first second third xs ys begins one two ends = ends ∙ two ∙ ap (λ f. lower_of f ys) (one ∙ ap (λ f. lower_of f xs) begins) ∙ sym (lower_of-append None xs ys)

-- what the walk over loops and expressions notes
pub steps_noted : (found : Breaches) (parts : List Part) → (through noted found parts).steps ≡ lower_of found.steps (lines_where part_line has_wrong_step parts)
steps_noted found [] = refl
steps_noted found (part ∷ parts) = steps_noted (noted found part) parts ∙ lower_of-where part_line has_wrong_step found.steps part parts

pub levels_noted : (found : Breaches) (parts : List Part) → (through noted found parts).levels ≡ lower_of found.levels (lines_where part_line is_deep_loop parts)
levels_noted found [] = refl
levels_noted found (part ∷ parts) = levels_noted (noted found part) parts ∙ lower_of-where part_line is_deep_loop found.levels part parts

pub depths_noted : (found : Breaches) (parts : List Part) → (through noted found parts).depths ≡ lower_of found.depths (lines_where part_line is_deep parts)
depths_noted found [] = refl
depths_noted found (part ∷ parts) = depths_noted (noted found part) parts ∙ lower_of-where part_line is_deep found.depths part parts

-- the walk begins with nothing noted
pub steps_lowest : (found begun : Breaches) (parts : List Part) → found ≡ through noted begun parts → begun.steps ≡ None → found.steps ≡ lower_of None (lines_where part_line has_wrong_step parts)
steps_lowest found begun parts walked none = ap (λ (b : Breaches). b.steps) walked ∙ steps_noted begun parts ∙ ap (λ f. lower_of f (lines_where part_line has_wrong_step parts)) none

pub levels_lowest : (found begun : Breaches) (parts : List Part) → found ≡ through noted begun parts → begun.levels ≡ None → found.levels ≡ lower_of None (lines_where part_line is_deep_loop parts)
levels_lowest found begun parts walked none = ap (λ (b : Breaches). b.levels) walked ∙ levels_noted begun parts ∙ ap (λ f. lower_of f (lines_where part_line is_deep_loop parts)) none

pub depths_lowest : (found begun : Breaches) (parts : List Part) → found ≡ through noted begun parts → begun.depths ≡ None → found.depths ≡ lower_of None (lines_where part_line is_deep parts)
depths_lowest found begun parts walked none = ap (λ (b : Breaches). b.depths) walked ∙ depths_noted begun parts ∙ ap (λ f. lower_of f (lines_where part_line is_deep parts)) none
