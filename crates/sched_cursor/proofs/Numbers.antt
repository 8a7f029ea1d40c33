-- A table of names by their numbers, one name after the other.
use Rattle.std.proofs.Common.{◌≡◌, ℕ, zero, suc, ◌+◌, ◌<◌, ◌≤◌, ◌==◌, Bool, true, false, if◌then◌else◌, Option, Some, None, List, [], ◌∷◌, length, replicate, set, get_or, refl, sym, ap, ◌∙◌, subst, arith, ⊎_elim}
use Rattle.std.specs.Option.{option_map}
use Rattle.std.proofs.lemmas.Bool.{eqb-true, cases_eq, cases_lt}
use Rattle.std.proofs.lemmas.List.{get_or-set_same, get_or-set_other, length-set, length-replicate}
use Rattle.nest_syntax.specs.declared.tree.Program.{Program}
use Rattle.nest_check.specs.Declarations.{index_of_name, names_of, first_of_each}
use Rattle.nest_check.specs.Entries.{scheduler_scalars}
use Rattle.nest_check.specs.Tables.{scalar_of}
use Rattle.sched_cursor.specs.Handed.{NumbersNames}

-- two names don't have one number
index_there : (names : List ℕ) (name n : ℕ) → index_of_name names name ≡ Some n → get_or names n name ≡ name
index_there [] name n is = absurd cc
index_there (first ∷ names) name n is = by (λ m there. index_there names name m there) (first == name) refl is
  where
    later : ((m : ℕ) → index_of_name names name ≡ Some m → get_or names m name ≡ name) → (o : Option ℕ) → index_of_name names name ≡ o → option_map suc o ≡ Some n → get_or (first ∷ names) n name ≡ name
    later again None none e = absurd cc
    later again (Some m) there e = let at : suc m ≡ n = cc in subst (λ k. get_or (first ∷ names) k name ≡ name) at (again m there)

    by : ((m : ℕ) → index_of_name names name ≡ Some m → get_or names m name ≡ name) → (b : Bool) → (first == name) ≡ b → (if b then Some 0 else option_map suc (index_of_name names name)) ≡ Some n → get_or (first ∷ names) n name ≡ name
    by again true same e = let at : 0 ≡ n = cc in subst (λ k. get_or (first ∷ names) k name ≡ name) at (eqb-true first name same)
    by again false other e = later again (index_of_name names name) refl e

index_inside : (names : List ℕ) (name n : ℕ) → index_of_name names name ≡ Some n → n < length names
index_inside [] name n is = absurd cc
index_inside (first ∷ names) name n is = by (λ m there. index_inside names name m there) (first == name) is
  where
    later : ((m : ℕ) → index_of_name names name ≡ Some m → m < length names) → (o : Option ℕ) → index_of_name names name ≡ o → option_map suc o ≡ Some n → n < suc (length names)
    later again None none e = absurd cc
    later again (Some m) there e = let at : suc m ≡ n = cc in let inside = again m there in omega (arith, at, inside)

    by : ((m : ℕ) → index_of_name names name ≡ Some m → m < length names) → (b : Bool) → (if b then Some 0 else option_map suc (index_of_name names name)) ≡ Some n → n < suc (length names)
    by again true e = let at : 0 ≡ n = cc in omega (arith, at)
    by again false e = later again (index_of_name names name) refl e

one_name : (program : Program) (a b n : ℕ) → scalar_of program a ≡ Some n → scalar_of program b ≡ Some n → a ≡ b
one_name program a b n first second =
    let names : List ℕ = names_of (first_of_each (scheduler_scalars program)) in
    sym (index_there names a n first) ∙ within_any names n a b (index_inside names a n first) ∙ index_there names b n second
  where
    within_any : (xs : List ℕ) (n c d : ℕ) → n < length xs → get_or xs n c ≡ get_or xs n d
    within_any [] n c d inside = absurd (omega (arith, inside))
    within_any (x ∷ xs) zero c d inside = refl
    within_any (x ∷ xs) (suc n) c d inside = within_any xs n c d (omega (arith, inside))

-- the names below one have their places, and no others
pub record Numbers (program : Program) (k : ℕ) (names : List (Option ℕ)) : Type 0 where
  pub many : length names ≡ 32
  pub tells : (number name : ℕ) → name < k → (scalar_of program name ≡ Some number) → get_or names number None ≡ Some name
  pub back : (number name : ℕ) → get_or names number None ≡ Some name → (scalar_of program name ≡ Some number) × (name < k)

abbrev nobody : Option ℕ
nobody = None

pub none_numbered : (program : Program) → Numbers program 0 (replicate 32 None)
none_numbered program = record {
  many = length-replicate 32 nobody;
  tells = λ number name inside is. absurd (omega (arith, inside));
  back = λ number name is. absurd (let clash = sym (none_at 32 number) ∙ is in cc);
}
  where
    none_at : (n number : ℕ) → get_or (replicate n nobody) number None ≡ None
    none_at zero number = refl
    none_at (suc n) zero = refl
    none_at (suc n) (suc number) = none_at n number

pub not_numbered : (program : Program) (k : ℕ) (names : List (Option ℕ)) → scalar_of program k ≡ None → Numbers program k names → Numbers program (k + 1) names
not_numbered program k names none numbers = record {
  many = numbers.many;
  tells = λ number name inside is. ⊎_elim
      (λ (same : name ≡ k). absurd (let clash = sym none ∙ ap (scalar_of program) (sym same) ∙ is in cc))
      (λ (other : name ≡ k → ⊥). numbers.tells number name (below name k inside other) is)
      (cases_eq name k);
  back = λ number name is. let old = numbers.back number name is in (old.0, omega (arith, old.1));
}
  where
    below : (name k : ℕ) → name < k + 1 → (name ≡ k → ⊥) → name < k
    below name k inside other = ⊎_elim
        (λ (less : name < k). less)
        (λ (not : k ≤ name). let same : name ≡ k = omega (arith, inside, not) in absurd (other same))
        (cases_lt name k)

pub numbered_next : (program : Program) (k m : ℕ) (names : List (Option ℕ)) → scalar_of program k ≡ Some m → m < 32 → Numbers program k names → Numbers program (k + 1) (set names m (Some k))
numbered_next program k m names is_m small numbers = record {
  many = length-set names m (Some k) ∙ numbers.many;
  tells = λ number name inside is. ⊎_elim
      (λ (same : name ≡ k). let number_is : m ≡ number = some_of m number (sym is_m ∙ ap (scalar_of program) (sym same) ∙ is) in
      subst (λ x. get_or (set names m (Some k)) x None ≡ Some name) number_is (here ∙ ap Some (sym same)))
      (λ (other : name ≡ k → ⊥). get_or-set_other names m number (Some k) None (λ e. other (one_name program name k m (is ∙ ap Some e) is_m)) ∙ numbers.tells number name (below name inside other) is)
      (cases_eq name k);
  back = λ number name is. ⊎_elim
      (λ (same : number ≡ m). let there : k ≡ name = some_of k name (sym here ∙ ap (λ x. get_or (set names m (Some k)) x None) (sym same) ∙ is) in
      (ap (scalar_of program) (sym there) ∙ is_m ∙ ap Some (sym same), omega (arith, there)))
      (λ (other : number ≡ m → ⊥). let old = numbers.back number name (sym (get_or-set_other names m number (Some k) None other) ∙ is) in (old.0, omega (arith, old.1)))
      (cases_eq number m);
}
  where
    some_of : (a b : ℕ) → Some a ≡ Some b → a ≡ b
    some_of a b e = cc

    here : get_or (set names m (Some k)) m None ≡ Some k
    here = get_or-set_same names m (Some k) None (omega (arith, small, numbers.many))

    below : (name : ℕ) → name < k + 1 → (name ≡ k → ⊥) → name < k
    below name inside other = ⊎_elim
        (λ (less : name < k). less)
        (λ (not : k ≤ name). let same : name ≡ k = omega (arith, inside, not) in absurd (other same))
        (cases_lt name k)

pub all_numbered : (program : Program) (k : ℕ) (names : List (Option ℕ)) → length program.names ≤ k → Numbers program k names → NumbersNames program names
all_numbered program k names all numbers = record {
  many = numbers.many;
  tells = λ number name inside. (λ is. numbers.tells number name (omega (arith, all, inside)) is, λ is. (numbers.back number name is).0);
}
