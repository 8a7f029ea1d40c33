-- Lists: what tests of all elements say, what is in a list, and the pairs of n epochs.
use Rattle.std.proofs.Common.{◌≡◌, ℕ, zero, suc, ◌<◌, ◌⊎◌, Bool, true, false, ◌||◌, if◌then◌else◌, ◌==◌, Some, None, List, [], ◌∷◌, ◌++◌, length, get_or, refl, sym, ◌∙◌, subst, inl, inr, ⊎_elim, arith}
use Rattle.std.proofs.lemmas.Bool.{and_parts, and_from, and_cases, or_parts, or_from, or_cases, cases_eq, eqb-false, ne_eqb, true≢false}
use Rattle.std.specs.List.{find, flat_map, list_all, list_any}
use Rattle.spec_machine.specs.Facts.{Pair}
use Rattle.spec_machine.specs.Machine.{below, pair_of, pairs_with, pairs_late, pairs}
use Rattle.spec_machine.specs.Table.{In}

module _ {A : Type 0} (test : A → Bool) (d : A) where
  pub all_at : (xs : List A) (u : ℕ) → list_all test xs ≡ true → u < length xs → test (get_or xs u d) ≡ true
  all_at [] u all lt = absurd (omega arith)
  all_at (x ∷ xs) zero all lt = (and_parts _ _ all).0
  all_at (x ∷ xs) (suc u) all lt = all_at xs u (and_parts _ _ all).1 (omega arith)

  pub all_of : (xs : List A) → ((u : ℕ) → u < length xs → test (get_or xs u d) ≡ true) → list_all test xs ≡ true
  all_of [] each = refl
  all_of (x ∷ xs) each = and_from _ _ (each 0 (omega arith)) (all_of xs (λ u lt. each (suc u) (omega arith)))

  pub not_all : (xs : List A) → list_all test xs ≡ false → (u : ℕ) × (u < length xs) × (test (get_or xs u d) ≡ false)
  not_all [] fails = absurd (true≢false fails)
  not_all (x ∷ xs) fails = ⊎_elim (λ e. (0, omega arith, e)) (λ e. let r = not_all xs e in let l : r.0 < length xs = r.1 in (suc r.0, omega arith, r.2)) (and_cases (test x) (list_all test xs) fails)

  pub any_at : (xs : List A) (u : ℕ) → list_any test xs ≡ false → u < length xs → test (get_or xs u d) ≡ false
  any_at [] u fails lt = absurd (omega arith)
  any_at (x ∷ xs) zero fails lt = (or_parts _ _ fails).0
  any_at (x ∷ xs) (suc u) fails lt = any_at xs u (or_parts _ _ fails).1 (omega arith)

  pub none_of : (xs : List A) → ((u : ℕ) → u < length xs → test (get_or xs u d) ≡ false) → list_any test xs ≡ false
  none_of [] each = refl
  none_of (x ∷ xs) each = or_from _ _ (each 0 (omega arith)) (none_of xs (λ u lt. each (suc u) (omega arith)))

  pub some_of : (xs : List A) → list_any test xs ≡ true → (u : ℕ) × (u < length xs) × (test (get_or xs u d) ≡ true)
  some_of [] holds = absurd (true≢false (sym holds))
  some_of (x ∷ xs) holds = ⊎_elim (λ e. (0, omega arith, e)) (λ e. let r = some_of xs e in let l : r.0 < length xs = r.1 in (suc r.0, omega arith, r.2)) (or_cases (test x) (list_any test xs) holds)

module _ {A : Type 0} (test : A → Bool) where
  pub none_in : (xs : List A) (x : A) → list_any test xs ≡ false → In x xs → test x ≡ false
  none_in [] x fails among = elim among [ ]
  none_in (y ∷ xs) x fails (inl same) = subst (λ z. test z ≡ false) same (or_parts _ _ fails).0
  none_in (y ∷ xs) x fails (inr more) = none_in xs x (or_parts _ _ fails).1 more

  pub none_each : (xs : List A) → ((x : A) → In x xs → test x ≡ false) → list_any test xs ≡ false
  none_each [] each = refl
  none_each (y ∷ xs) each = or_from _ _ (each y (inl refl)) (none_each xs (λ x among. each x (inr among)))

  pub find_none : (xs : List A) → find test xs ≡ None → list_any test xs ≡ false
  find_none [] e = refl
  find_none (y ∷ xs) e = go (test y) refl e (find_none xs)
    where
      go : (t : Bool) → test y ≡ t → (if t then Some y else find test xs) ≡ None → (find test xs ≡ None → list_any test xs ≡ false) → (test y || list_any test xs) ≡ false
      go true is f more = cc
      go false is f more = or_from _ _ is (more f)

  pub find_some : (xs : List A) (x : A) → find test xs ≡ Some x → In x xs × (test x ≡ true)
  find_some [] x e = cc
  find_some (y ∷ xs) x e = go (test y) refl e (find_some xs x)
    where
      go : (t : Bool) → test y ≡ t → (if t then Some y else find test xs) ≡ Some x → (find test xs ≡ Some x → In x xs × (test x ≡ true)) → In x (y ∷ xs) × (test x ≡ true)
      go true is f more = let same : y ≡ x = cc in (inl same, subst (λ z. test z ≡ true) same is)
      go false is f more = let r = more f in (inr r.0, r.1)

  pub found_not : (xs : List A) → list_any test xs ≡ true → find test xs ≡ None → ⊥
  found_not xs holds e = true≢false (sym holds ∙ find_none xs e)

module _ {A : Type 0} where
  pub in_left : (x : A) (xs ys : List A) → In x xs → In x (xs ++ ys)
  in_left x [] ys among = elim among [ ]
  in_left x (y ∷ xs) ys (inl same) = inl same
  in_left x (y ∷ xs) ys (inr more) = inr (in_left x xs ys more)

  pub in_right : (x : A) (xs ys : List A) → In x ys → In x (xs ++ ys)
  in_right x [] ys among = among
  in_right x (y ∷ xs) ys among = inr (in_right x xs ys among)

  pub in_either : (x : A) (xs ys : List A) → In x (xs ++ ys) → In x xs ⊎ In x ys
  in_either x [] ys among = inr among
  in_either x (y ∷ xs) ys (inl same) = inl (inl same)
  in_either x (y ∷ xs) ys (inr more) = ⊎_elim (λ l. inl (inr l)) (λ r. inr r) (in_either x xs ys more)

pub in_flat : {A D : Type 0} (f : A → List D) (xs : List A) (x : A) (y : D) → In x xs → In y (f x) → In y (flat_map f xs)
in_flat f [] x y among inside = elim among [ ]
in_flat f (z ∷ xs) x y (inl same) inside = in_left y (f z) (flat_map f xs) (subst (λ w. In y (f w)) (sym same) inside)
in_flat f (z ∷ xs) x y (inr more) inside = in_right y (f z) (flat_map f xs) (in_flat f xs x y more inside)

pub flat_in : {A D : Type 0} (f : A → List D) (xs : List A) (y : D) → In y (flat_map f xs) → (x : A) × In x xs × In y (f x)
flat_in f [] y among = elim among [ ]
flat_in f (z ∷ xs) y among = ⊎_elim (λ l. (z, inl refl, l)) (λ r. let more = flat_in f xs y r in (more.0, inr more.1, more.2)) (in_either y (f z) (flat_map f xs) among)

pub in_below : (n k : ℕ) → k < n → In k (below n)
in_below zero k lt = absurd (omega arith)
in_below (suc n) k lt = ⊎_elim
    (λ same. in_right k (below n) (n ∷ []) (inl (sym same)))
    (λ other. in_left k (below n) (n ∷ []) (in_below n k (omega arith)))
    (cases_eq k n)

pub below_in : (n k : ℕ) → In k (below n) → k < n
below_in zero k among = elim among [ ]
below_in (suc n) k among = ⊎_elim (λ l. let r : k < n = below_in n k l in omega arith) last (in_either k (below n) (n ∷ []) among)
  where
    last : (n ≡ k) ⊎ ⊥ → k < suc n
    last (inl same) = omega arith
    last (inr fails) = absurd fails

-- the pairs of n epochs
pub record IsPair (width n : ℕ) (p : Pair) : Type 0 where
  pub rises : p.early.epoch < p.late.epoch
  pub late : p.late.epoch < n
  pub early_own : p.early.worker < width
  pub late_own : p.late.worker < width
  pub differ : p.early.worker ≡ p.late.worker → ⊥

pub in_pairs : (width n : ℕ) (p : Pair) → IsPair width n p → In p (pairs width n)
in_pairs width n p is = in_flat (pairs_late width) (below n) p.late.epoch p (in_below n p.late.epoch is.late)
    (in_flat (λ w. flat_map (λ e. pairs_with width p.late.epoch w e) (below p.late.epoch)) (below width) p.late.worker p (in_below width p.late.worker is.late_own)
    (in_flat (λ e. pairs_with width p.late.epoch p.late.worker e) (below p.late.epoch) p.early.epoch p (in_below p.late.epoch p.early.epoch is.rises)
    (in_flat (λ u. if u == p.late.worker then [] else pair_of p.late.epoch p.late.worker p.early.epoch u ∷ []) (below width) p.early.worker p (in_below width p.early.worker is.early_own)
    (subst (λ t. In p (if t then [] else pair_of p.late.epoch p.late.worker p.early.epoch p.early.worker ∷ [])) (sym (ne_eqb p.early.worker p.late.worker is.differ)) (inl refl)))))

pub pairs_in : (width n : ℕ) (p : Pair) → In p (pairs width n) → IsPair width n p
pairs_in width n p among = late (flat_in (pairs_late width) (below n) p among)
  where
    early : (f w e u : ℕ) → f < n → w < width → e < f → u < width → (t : Bool) → (u == w) ≡ t → In p (if t then [] else pair_of f w e u ∷ []) → IsPair width n p
    early f w e u lf lw le lu true same inside = elim inside [ ]
    early f w e u lf lw le lu false other (inl is) = subst (IsPair width n) is (record { rises = le; late = lf; early_own = lu; late_own = lw; differ = eqb-false u w other })
    early f w e u lf lw le lu false other (inr fails) = elim fails [ ]

    by_worker : (f w e : ℕ) → f < n → w < width → e < f → (u : ℕ) × In u (below width) × In p (if u == w then [] else pair_of f w e u ∷ []) → IsPair width n p
    by_worker f w e lf lw le (u, mine, inside) = early f w e u lf lw le (below_in width u mine) (u == w) refl inside

    by_epoch : (f w : ℕ) → f < n → w < width → (e : ℕ) × In e (below f) × In p (pairs_with width f w e) → IsPair width n p
    by_epoch f w lf lw (e, mine, inside) = by_worker f w e lf lw (below_in f e mine) (flat_in (λ u. if u == w then [] else pair_of f w e u ∷ []) (below width) p inside)

    by_late : (f : ℕ) → f < n → (w : ℕ) × In w (below width) × In p (flat_map (λ e. pairs_with width f w e) (below f)) → IsPair width n p
    by_late f lf (w, mine, inside) = by_epoch f w lf (below_in width w mine) (flat_in (λ e. pairs_with width f w e) (below f) p inside)

    late : (f : ℕ) × In f (below n) × In p (pairs_late width f) → IsPair width n p
    late (f, mine, inside) = by_late f (below_in n f mine) (flat_in (λ w. flat_map (λ e. pairs_with width f w e) (below f)) (below width) p inside)
