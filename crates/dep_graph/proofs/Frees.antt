-- Accesses that are known to be free, one after another.
use Rattle.std.proofs.Common.{◌≡◌, ◌≢◌, ℕ, ◌+◌, ◌<◌, ◌==◌, Bool, true, false, if◌then◌else◌, ◌⊎◌, inl, inr, Option, Some, None, List, [], ◌∷◌, ◌++◌, length, take, get_or, slice_set, slice_index_or, refl, sym, ap, ◌∙◌, subst}
use Rattle.std.proofs.lemmas.Bool.Decides.{eqb_tells}
use Rattle.std.proofs.lemmas.List.{take_more, get_or_default, get_or-set_other}
use Rattle.nest_syntax.specs.Among.{Each}
use Rattle.nest_syntax.proofs.Inductions.{each_both}
use Rattle.dep_graph.specs.declared.accesses.Access.{Access}
use Rattle.dep_graph.specs.declared.seen.Known.{Known}
use Rattle.dep_graph.specs.Kinds.{may_depend, first_where}
use Rattle.dep_graph.specs.Seen.{IsKnown, IsFree, AreFree}

each_map : {A : Type 0} (P Q : A → Type 0) (xs : List A) → ((x : A) → P x → Q x) → Each P xs → Each Q xs
each_map P Q [] f each = tt
each_map P Q (x ∷ xs) f each = (f x each.0, each_map P Q xs f each.1)

none_where : (step : ℕ) (q : Access) (xs : List Access) → Each (λ p. may_depend step q p ≡ false) xs → first_where (may_depend step q) xs ≡ None
none_where step q [] each = refl
none_where step q (x ∷ xs) each = ap (λ b. if b then Some x else first_where (may_depend step q) xs) each.0 ∙ none_where step q xs each.1

module _ (array step : ℕ) (accesses : List Access) (k : ℕ) (there : k < length accesses) (access : Access) (is : access ≡ get_or accesses k access) (known : Known) where
  -- what is known of one access more
  pub known_more : (known' : Known) → IsKnown array known' access → ((other : Access) → IsKnown array known other → IsKnown array known' other) → Each (IsKnown array known) (take k accesses) → Each (IsKnown array known') (take (k + 1) accesses)
  known_more known' here kept before =
      subst (Each (IsKnown array known')) (sym (take_more accesses k access there ∙ ap (λ x. take k accesses ++ x ∷ []) (sym is)))
      (each_both (IsKnown array known') (take k accesses) (access ∷ []) (each_map (IsKnown array known) (IsKnown array known') (take k accesses) kept before) (here, tt))

  pub free_here : Each (IsKnown array known) (take (k + 1) accesses) → ((other : Access) → IsKnown array known other → may_depend step access other ≡ false) → IsFree step accesses k
  free_here all frees q same =
      let one : q ≡ access = same ∙ get_or_default accesses k q access there ∙ sym is in
      subst (λ a. first_where (may_depend step a) (take (k + 1) accesses) ≡ None) (sym one) (none_where step access (take (k + 1) accesses) (each_map (IsKnown array known) (λ p. may_depend step access p ≡ false) (take (k + 1) accesses) frees all))

pub free_more : (step : ℕ) (accesses : List Access) (free : List Bool) (k : ℕ) (b : Bool) → (b ≡ true → IsFree step accesses k) → AreFree step accesses free → AreFree step accesses (if b then slice_set free k true else free)
free_more step accesses free k false new all = all
free_more step accesses free k true new all = λ j told. by j told (eqb_tells j k)
  where
    by : (j : ℕ) → slice_index_or (slice_set free k true) j false ≡ true → (((j == k) ≡ true) × (j ≡ k)) ⊎ (((j == k) ≡ false) × (j ≢ k)) → IsFree step accesses j
    by j told (inl same) = subst (IsFree step accesses) (sym same.1) (new refl)
    by j told (inr apart) = all j (sym (get_or-set_other free k j true false apart.1) ∙ told)
