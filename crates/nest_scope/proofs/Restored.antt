-- Bindings that are put back give the scope that was there before they were shadowed.
use Rattle.std.proofs.Common.{◌≡◌, ℕ, zero, suc, List, [], ◌∷◌, ◌++◌, refl, sym, ap, ◌∙◌}
use Rattle.nest_scope.specs.declared.occurrences.Binding.{Binding}
use Rattle.nest_scope.specs.Occurrences.{Scope, bound, with_bound}
use Rattle.nest_scope.specs.Restored.{restored}

-- the binding that is shadowed last is put back first
pub restored_last : (shadowed : List (ℕ × Binding)) (name : ℕ) (old : Binding) (scope : Scope) → restored (shadowed ++ (name, old) ∷ []) scope ≡ restored shadowed (with_bound scope name old)
restored_last [] name old scope = refl
restored_last (first ∷ shadowed) name old scope = ap (λ s. with_bound s first.0 first.1) (restored_last shadowed name old scope)

-- a name that is bound anew and gets its old binding back
bound_back : (scope : Scope) (name : ℕ) (to : Binding) → with_bound (with_bound scope name to) name (bound scope name) ≡ scope
bound_back [] name to = refl
bound_back (b ∷ scope) zero to = refl
bound_back (b ∷ scope) (suc name) to = ap (λ s. b ∷ s) (bound_back scope name to)

pub declared_shadows : (shadowed shadowed' : List (ℕ × Binding)) (scope scope' : Scope) (name : ℕ) (to old : Binding) → shadowed' ≡ shadowed ++ (name, old) ∷ [] → scope' ≡ with_bound scope name to → old ≡ bound scope name
    → restored shadowed' scope' ≡ restored shadowed scope
declared_shadows shadowed shadowed' scope scope' name to old more anew was =
    ap (λ c. restored c scope') more
    ∙ restored_last shadowed name old scope'
    ∙ ap (λ s. restored shadowed (with_bound s name old)) anew
    ∙ ap (λ o. restored shadowed (with_bound (with_bound scope name to) name o)) was
    ∙ ap (restored shadowed) (bound_back scope name to)

-- one more binding is put back
pub restores_last : (shadowed rest : List (ℕ × Binding)) (name : ℕ) (old : Binding) (scope scope' whole : Scope) → shadowed ≡ rest ++ (name, old) ∷ [] → scope' ≡ with_bound scope name old → restored shadowed scope ≡ whole
    → restored rest scope' ≡ whole
restores_last shadowed rest name old scope scope' whole last back so_far = ap (restored rest) back ∙ sym (restored_last rest name old scope) ∙ sym (ap (λ c. restored c scope) last) ∙ so_far
