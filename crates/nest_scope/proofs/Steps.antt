-- Walks over lists: what is noted at one item, and what is left behind it.
use Rattle.std.proofs.Common.{◌≡◌, ℕ, suc, ◌+◌, ◌<◌, ◌≤◌, List, ◌∷◌, map, length, drop, get_or, sym, ap, ◌∙◌, drop-cons, add-one}
use Rattle.std.proofs.lemmas.List.{drop_all}
use Rattle.nest_syntax.specs.declared.tree.Decl.{Decl}
use Rattle.nest_scope.specs.declared.occurrences.Level.{Level}
use Rattle.nest_scope.specs.declared.occurrences.Level.TheVariants as level
use Rattle.nest_scope.specs.declared.breaches.ScopeBreaches.{ScopeBreaches}
use Rattle.nest_scope.specs.Occurrences.{Scope, Walk, Listing, block, in_same_scope, in_decl, behind_decls}
use Rattle.nest_scope.specs.Noted.{all_noted}
use Rattle.nest_scope.proofs.Lowest.{noted_in_turn}

item_first : {A : Type 0} (xs : List A) (i : ℕ) → i < length xs → (here : A) → here ≡ get_or xs i here → drop i xs ≡ here ∷ drop (i + 1) xs
item_first xs i there here is = drop-cons xs i here there ∙ ap (λ x. x ∷ drop (suc i) xs) (sym is) ∙ ap (λ k. here ∷ drop k xs) (sym (add-one i))

-- one more statement of a block
pub block_more : {A : Type 0} (f : A → Walk) (xs : List A) (i : ℕ) → i < length xs → (here : A) → here ≡ get_or xs i here → (level : Level) (scope scope' : Scope) (found found' whole : ScopeBreaches)
    → all_noted found (block (map f (drop i xs)) level scope) ≡ whole → found' ≡ all_noted found (f here level scope).occurrences → scope' ≡ (f here level scope).behind
    → all_noted found' (block (map f (drop (i + 1) xs)) level scope') ≡ whole
block_more f xs i there here is level scope scope' found found' whole left more behind =
    ap (λ s. all_noted found' (block (map f (drop (i + 1) xs)) level s)) behind
    ∙ ap (λ seen. all_noted seen (block (map f (drop (i + 1) xs)) level (f here level scope).behind)) more
    ∙ sym (noted_in_turn found (f here level scope).occurrences (block (map f (drop (i + 1) xs)) level (f here level scope).behind))
    ∙ ap (λ rest. all_noted found (block (map f rest) level scope)) (sym (item_first xs i there here is))
    ∙ left

pub block_end : {A : Type 0} (f : A → Walk) (xs : List A) (i : ℕ) → length xs ≤ i → (level : Level) (scope : Scope) (found whole : ScopeBreaches)
    → all_noted found (block (map f (drop i xs)) level scope) ≡ whole → found ≡ whole
block_end f xs i over level scope found whole left = ap (λ rest. all_noted found (block (map f rest) level scope)) (sym (drop_all i xs over)) ∙ left

-- one more arm or region
pub side_more : {A : Type 0} (f : A → Listing) (xs : List A) (i : ℕ) → i < length xs → (here : A) → here ≡ get_or xs i here → (level : Level) (scope scope' : Scope) (found found' whole : ScopeBreaches)
    → all_noted found (in_same_scope (map f (drop i xs)) level scope) ≡ whole → found' ≡ all_noted found (f here level scope) → scope' ≡ scope
    → all_noted found' (in_same_scope (map f (drop (i + 1) xs)) level scope') ≡ whole
side_more f xs i there here is level scope scope' found found' whole left more same =
    ap (λ s. all_noted found' (in_same_scope (map f (drop (i + 1) xs)) level s)) same
    ∙ ap (λ seen. all_noted seen (in_same_scope (map f (drop (i + 1) xs)) level scope)) more
    ∙ sym (noted_in_turn found (f here level scope) (in_same_scope (map f (drop (i + 1) xs)) level scope))
    ∙ ap (λ rest. all_noted found (in_same_scope (map f rest) level scope)) (sym (item_first xs i there here is))
    ∙ left

pub side_end : {A : Type 0} (f : A → Listing) (xs : List A) (i : ℕ) → length xs ≤ i → (level : Level) (scope : Scope) (found whole : ScopeBreaches)
    → all_noted found (in_same_scope (map f (drop i xs)) level scope) ≡ whole → found ≡ whole
side_end f xs i over level scope found whole left = ap (λ rest. all_noted found (in_same_scope (map f rest) level scope)) (sym (drop_all i xs over)) ∙ left

-- the scope behind one more declaration
pub behind_more : (decls : List Decl) (i : ℕ) → i < length decls → (here : Decl) → here ≡ get_or decls i here → (scope scope' whole : Scope)
    → behind_decls (drop i decls) scope ≡ whole → scope' ≡ (in_decl here level.Outside scope).behind → behind_decls (drop (i + 1) decls) scope' ≡ whole
behind_more decls i there here is scope scope' whole left behind =
    ap (behind_decls (drop (i + 1) decls)) behind ∙ ap (λ rest. behind_decls rest scope) (sym (item_first decls i there here is)) ∙ left

pub behind_end : (decls : List Decl) (i : ℕ) → length decls ≤ i → (scope whole : Scope) → behind_decls (drop i decls) scope ≡ whole → scope ≡ whole
behind_end decls i over scope whole left = ap (λ rest. behind_decls rest scope) (sym (drop_all i decls over)) ∙ left
