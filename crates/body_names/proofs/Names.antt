-- Names among lists, scopes with a name bound anew, and occurrences that break a rule.
use Rattle.std.proofs.Common.{◌≡◌, ◌≢◌, ℕ, ◌<◌, ◌≤◌, ◌==◌, ◌||◌, Bool, true, false, ◌⊎◌, inl, inr, List, [], ◌∷◌, ◌++◌, length, refl, sym, ap, ◌∙◌, ⊎_elim}
use Rattle.std.specs.List.{list_any}
use Rattle.std.proofs.lemmas.List.{get_or-set_same, get_or-set_other, set_past}
use Rattle.std.proofs.lemmas.List.Folds.{list_any-append}
use Rattle.std.proofs.lemmas.Bool.{cases_lt}
use Rattle.std.proofs.lemmas.Bool.Decides.{eqb_tells}
use Rattle.nest_syntax.specs.Among.{is_among}
use Rattle.nest_scope.specs.declared.occurrences.Binding.{Binding}
use Rattle.nest_scope.specs.declared.occurrences.Binding.TheVariants as binding
use Rattle.nest_scope.specs.declared.occurrences.Action.TheVariants as action
use Rattle.nest_scope.specs.Occurrences.{Scope, bound, with_bound}
use Rattle.nest_scope.specs.Rules.{is_redeclared}

pub left_false : (a b : Bool) → (a || b) ≡ false → a ≡ false
left_false false b e = refl
left_false true b e = e

pub right_false : (a b : Bool) → (a || b) ≡ false → b ≡ false
right_false false b e = e
right_false true b e = absurd (cc)

-- of two lists together
module _ {A : Type 0} (p : A → Bool) (xs ys : List A) (none : list_any p (xs ++ ys) ≡ false) where
  pub none_left : list_any p xs ≡ false
  none_left = left_false (list_any p xs) (list_any p ys) (sym (list_any-append p xs ys) ∙ none)

  pub none_right : list_any p ys ≡ false
  none_right = right_false (list_any p xs) (list_any p ys) (sym (list_any-append p xs ys) ∙ none)

pub out_left : (xs ys : List ℕ) (name : ℕ) → is_among (xs ++ ys) name ≡ false → is_among xs name ≡ false
out_left xs ys name out = none_left (λ other. name == other) xs ys out

pub out_right : (xs ys : List ℕ) (name : ℕ) → is_among (xs ++ ys) name ≡ false → is_among ys name ≡ false
out_right xs ys name out = none_right (λ other. name == other) xs ys out

pub in_either : {Q : Type 0} (xs ys : List ℕ) (name : ℕ) → is_among (xs ++ ys) name ≡ true → (is_among xs name ≡ true → Q) → (is_among ys name ≡ true → Q) → Q
in_either {Q} xs ys name among first second = by_first (is_among xs name) refl (sym (list_any-append (λ other. name == other) xs ys) ∙ among)
  where
    by_first : (b : Bool) → is_among xs name ≡ b → (b || is_among ys name) ≡ true → Q
    by_first true is e = first is
    by_first false is e = second e

pub in_none : {Q : Type 0} (name : ℕ) → is_among [] name ≡ true → Q
in_none name among = absurd (let no : false ≡ true = among in cc)

-- a name among one name, or not
pub in_one : (name one : ℕ) → is_among (one ∷ []) name ≡ true → name ≡ one
in_one name one among = by_test (eqb_tells name one)
  where
    by_test : (((name == one) ≡ true) × (name ≡ one)) ⊎ (((name == one) ≡ false) × (name ≢ one)) → name ≡ one
    by_test (inl e) = e.1
    by_test (inr e) = absurd (let no : false ≡ true = sym (ap (λ b. b || false) e.0) ∙ among in cc)

pub out_one : (name one : ℕ) → is_among (one ∷ []) name ≡ false → name ≢ one
out_one name one out = by_test (eqb_tells name one)
  where
    by_test : (((name == one) ≡ true) × (name ≡ one)) ⊎ (((name == one) ≡ false) × (name ≢ one)) → name ≢ one
    by_test (inl e) = absurd (let no : true ≡ false = sym (ap (λ b. b || false) e.0) ∙ out in cc)
    by_test (inr e) = e.1

-- a scope with another name bound anew
pub bound_other : (scope : Scope) (one name : ℕ) (to : Binding) → name ≢ one → bound (with_bound scope one to) name ≡ bound scope name
bound_other scope one name to apart = get_or-set_other scope one name to binding.Unbound apart

-- a name that is bound anew, where the scope has it, and the others
pub bound_with : (scope : Scope) (one name : ℕ) (to : Binding) → ((name ≡ one) × (bound (with_bound scope one to) name ≡ to)) ⊎ (bound (with_bound scope one to) name ≡ bound scope name)
bound_with scope one name to = ⊎_elim
    (λ (same : ((name == one) ≡ true) × (name ≡ one)). ⊎_elim
    (λ (there : one < length scope). inl (same.1, ap (bound (with_bound scope one to)) same.1 ∙ get_or-set_same scope one to binding.Unbound there))
    (λ (over : length scope ≤ one). inr (ap (λ s. bound s name) (set_past scope one to over)))
    (cases_lt one (length scope)))
    (λ (apart : ((name == one) ≡ false) × (name ≢ one)). inr (bound_other scope one name to apart.1))
    (eqb_tells name one)

-- what is unbound behind a declaration was so before it
pub unbound_before : (scope : Scope) (one name : ℕ) (to : Binding) → to ≢ binding.Unbound → bound (with_bound scope one to) name ≡ binding.Unbound → bound scope name ≡ binding.Unbound
unbound_before scope one name to some is = ⊎_elim
    (λ (here : (name ≡ one) × (bound (with_bound scope one to) name ≡ to)). absurd (some (sym here.1 ∙ is)))
    (λ (other : bound (with_bound scope one to) name ≡ bound scope name). sym other ∙ is)
    (bound_with scope one name to)

-- a declaration that breaks no rule is of a name that was unbound
pub declared_once : (to : Binding) → is_redeclared action.Declared to ≡ false → to ≡ binding.Unbound
declared_once binding.Unbound e = refl
declared_once binding.Array e = absurd (cc)
declared_once binding.ConstArray e = absurd (cc)
declared_once binding.SchedulerScalar e = absurd (cc)
declared_once binding.RegionVariable e = absurd (cc)
declared_once binding.Local e = absurd (cc)
declared_once binding.LoopVariable e = absurd (cc)
