-- The pairs of n epochs stand in their order.
use Rattle.std.proofs.Common.{◌≡◌, ℕ, zero, suc, ◌<◌, Bool, true, false, ◌==◌, if◌then◌else◌, Some, List, [], ◌∷◌, ◌++◌, refl, sym, ap, ◌∙◌, subst, inl, inr, ⊎_elim, arith, append-nil}
use Rattle.std.proofs.lemmas.Bool.{and_from, or_left, or_right, lt-ltb, eq-eqb}
use Rattle.std.proofs.lemmas.Grind.{flat_map-append}
use Rattle.std.specs.List.{find, filter, flat_map}
use Rattle.spec_checker.specs.Order.{is_pair_before}
use Rattle.spec_machine.specs.Facts.{Pair}
use Rattle.spec_machine.specs.Machine.{below, pair_of, pairs_with, pairs_late, pairs}
use Rattle.spec_machine.specs.Table.{In}
use Rattle.spec_machine.proofs.Lists.{in_either, flat_in, below_in}
use Rattle.spec_core.specs.Passed.{names_of}

-- each one stands before all behind it
abbrev pub Sorted : {A : Type 0} → (A → A → Type 0) → List A → Type 0
Sorted R [] = Unit {0}
Sorted {A} R (x ∷ xs) = ((y : A) → In y xs → R x y) × Sorted R xs

module _ {A : Type 0} (R : A → A → Type 0) where
  sorted_append : (xs ys : List A) → Sorted R xs → Sorted R ys → ((x y : A) → In x xs → In y ys → R x y) → Sorted R (xs ++ ys)
  sorted_append [] ys s t across = t
  sorted_append (x ∷ xs) ys s t across = (λ y among. ⊎_elim (λ l. s.0 y l) (λ r. across x y (inl refl) r) (in_either y xs ys among), sorted_append xs ys s.1 t (λ z y mine other. across z y (inr mine) other))

  sorted_flat : (f : ℕ → List A) (n : ℕ) → ((k : ℕ) → k < n → Sorted R (f k)) → ((k l : ℕ) (x y : A) → k < l → l < n → In x (f k) → In y (f l) → R x y) → Sorted R (flat_map f (below n))
  sorted_flat f zero each across = tt
  sorted_flat f (suc n) each across =
      let last : f n ++ [] ≡ f n = append-nil (f n) in
      let s = sorted_append (flat_map f (below n)) (f n) (sorted_flat f n (λ k lt. each k (omega arith)) (λ k l x y kl lt. across k l x y kl (omega arith))) (each n (omega arith))
      (λ x y mine other. let from = flat_in f (below n) x mine in across from.0 n x y (below_in n from.0 from.1) (omega arith) from.2 other) in
      subst (Sorted R) (sym (flat_map-append f (below n) (n ∷ []) ∙ ap (λ l. flat_map f (below n) ++ l) last)) s

-- a pair stands before another
abbrev pub Before : Pair → Pair → Type 0
Before p q = is_pair_before (names_of p) (names_of q) ≡ true

by_early_worker : (f w e : ℕ) (n : ℕ) → Sorted Before (flat_map (λ u. if u == w then [] else pair_of f w e u ∷ []) (below n))
by_early_worker f w e n = sorted_flat Before (λ u. if u == w then [] else pair_of f w e u ∷ []) n (λ u lt. alone u (u == w)) (λ u v x y lt below mine other. across u v x y lt (u == w) (v == w) mine other)
  where
    alone : (u : ℕ) (t : Bool) → Sorted Before (if t then [] else pair_of f w e u ∷ [])
    alone u true = tt
    alone u false = (λ y among. elim among [ ], tt)

    ordered : (u v : ℕ) → u < v → Before (pair_of f w e u) (pair_of f w e v)
    ordered u v lt = or_right _ _ (and_from _ _ (and_from _ _ (eq-eqb f f refl) (eq-eqb w w refl)) (or_right _ _ (and_from _ _ (eq-eqb e e refl) (lt-ltb u v lt))))

    across : (u v : ℕ) (x y : Pair) → u < v → (s t : Bool) → In x (if s then [] else pair_of f w e u ∷ []) → In y (if t then [] else pair_of f w e v ∷ []) → Before x y
    across u v x y lt true t mine other = elim mine [ ]
    across u v x y lt false true mine other = elim other [ ]
    across u v x y lt false false (inl a) (inl b) = subst (λ z. Before z y) a (subst (λ z. Before (pair_of f w e u) z) b (ordered u v lt))
    across u v x y lt false false (inl a) (inr none) = elim none [ ]
    across u v x y lt false false (inr none) other = elim none [ ]

-- a pair with its late task and its early epoch
pub record IsWith (f w e : ℕ) (p : Pair) : Type 0 where
  pub epoch : p.late.epoch ≡ f
  pub worker : p.late.worker ≡ w
  pub early : p.early.epoch ≡ e

is_with : (f w e width : ℕ) (p : Pair) → In p (pairs_with width f w e) → IsWith f w e p
is_with f w e width p among = by (flat_in (λ u. if u == w then [] else pair_of f w e u ∷ []) (below width) p among)
  where
    one : (u : ℕ) (t : Bool) → In p (if t then [] else pair_of f w e u ∷ []) → IsWith f w e p
    one u true mine = elim mine [ ]
    one u false (inl is) = subst (IsWith f w e) is (record { epoch = refl; worker = refl; early = refl })
    one u false (inr none) = elim none [ ]

    by : (u : ℕ) × In u (below width) × In p (if u == w then [] else pair_of f w e u ∷ []) → IsWith f w e p
    by (u, at, mine) = one u (u == w) mine

by_early : (width f w : ℕ) (n : ℕ) → Sorted Before (flat_map (λ e. pairs_with width f w e) (below n))
by_early width f w n = sorted_flat Before (λ e. pairs_with width f w e) n (λ e lt. by_early_worker f w e width)
    (λ d e x y lt inside mine other.
    let a = is_with f w d width x mine in let b = is_with f w e width y other in
    or_right _ _ (and_from _ _ (and_from _ _ (eq-eqb _ _ (a.epoch ∙ sym b.epoch)) (eq-eqb _ _ (a.worker ∙ sym b.worker))) (or_left _ _ (lt-ltb x.early.epoch y.early.epoch (let l : x.early.epoch ≡ d = a.early in let r : y.early.epoch ≡ e = b.early in omega arith)))))

is_late : (width f w n : ℕ) (p : Pair) → In p (flat_map (λ e. pairs_with width f w e) (below n)) → (p.late.epoch ≡ f) × (p.late.worker ≡ w)
is_late width f w n p among = let from = flat_in (λ e. pairs_with width f w e) (below n) p among in let is = is_with f w from.0 width p from.2 in (is.epoch, is.worker)

by_late_worker : (width f : ℕ) (n : ℕ) → Sorted Before (flat_map (λ w. flat_map (λ e. pairs_with width f w e) (below f)) (below n))
by_late_worker width f n = sorted_flat Before (λ w. flat_map (λ e. pairs_with width f w e) (below f)) n (λ w lt. by_early width f w f)
    (λ v w x y lt inside mine other.
    let a = is_late width f v f x mine in let b = is_late width f w f y other in
    or_left _ _ (or_right _ _ (and_from _ _ (eq-eqb _ _ (a.0 ∙ sym b.0)) (lt-ltb x.late.worker y.late.worker (let l : x.late.worker ≡ v = a.1 in let r : y.late.worker ≡ w = b.1 in omega arith)))))

pub is_of_epoch : (width f : ℕ) (p : Pair) → In p (pairs_late width f) → p.late.epoch ≡ f
is_of_epoch width f p among = let from = flat_in (λ w. flat_map (λ e. pairs_with width f w e) (below f)) (below width) p among in (is_late width f from.0 f p from.2).0

pub in_order : (width n : ℕ) → Sorted Before (pairs width n)
in_order width n = sorted_flat Before (pairs_late width) n (λ f lt. by_late_worker width f width)
    (λ f g x y lt inside mine other. or_left _ _ (or_left _ _ (lt-ltb x.late.epoch y.late.epoch (let l : x.late.epoch ≡ f = is_of_epoch width f x mine in let r : y.late.epoch ≡ g = is_of_epoch width g y other in omega arith))))

-- the first of a sorted list that passes a test
pub find_first : {A : Type 0} (R : A → A → Type 0) (test : A → Bool) (xs : List A) (x : A) → Sorted R xs → In x xs → test x ≡ true → ((y : A) → In y xs → R y x → test y ≡ false) → find test xs ≡ Some x
find_first R test [] x s among passes others = elim among [ ]
find_first R test (y ∷ xs) x s (inl same) passes others = ap (λ t. if t then Some y else find test xs) (subst (λ z. test z ≡ true) (sym same) passes) ∙ ap Some same
find_first R test (y ∷ xs) x s (inr more) passes others =
    ap (λ t. if t then Some y else find test xs) (others y (inl refl) (s.0 x more)) ∙ find_first R test xs x s.1 more passes (λ z mine before. others z (inr mine) before)

-- filters of tests that agree on the list
pub filter_same : {A : Type 0} (test other : A → Bool) (xs : List A) → ((x : A) → In x xs → test x ≡ other x) → filter test xs ≡ filter other xs
filter_same test other [] same = refl
filter_same test other (x ∷ xs) same =
    ap (λ t. if t then x ∷ filter test xs else filter test xs) (same x (inl refl)) ∙ ap (λ l. if other x then x ∷ l else l) (filter_same test other xs (λ y among. same y (inr among)))

pub filter_none : {A : Type 0} (test : A → Bool) (xs : List A) → ((x : A) → In x xs → test x ≡ false) → filter test xs ≡ []
filter_none test [] none = refl
filter_none test (x ∷ xs) none = ap (λ t. if t then x ∷ filter test xs else filter test xs) (none x (inl refl)) ∙ filter_none test xs (λ y among. none y (inr among))

-- one more passes: it, and of the others as many as before, all of which stand before it
pub filter_one_more : {A : Type 0} (R : A → A → Type 0) (test wider : A → Bool) (xs : List A) (x : A) → Sorted R xs → In x xs → test x ≡ false → wider x ≡ true
    → ((y : A) → In y xs → R y x → test y ≡ wider y) → ((y : A) → In y xs → R x y → (test y ≡ false) × (wider y ≡ false)) → filter wider xs ≡ filter test xs ++ x ∷ []
filter_one_more R test wider [] x s among fails passes lower upper = elim among [ ]
filter_one_more R test wider (y ∷ xs) x s (inl same) fails passes lower upper =
    let here : wider y ≡ true = subst (λ z. wider z ≡ true) (sym same) passes in
    let was : test y ≡ false = subst (λ z. test z ≡ false) (sym same) fails in
    let rest : filter wider xs ≡ [] = filter_none wider xs (λ z mine. (upper z (inr mine) (subst (λ v. R v z) same (s.0 z mine))).1) in
    let gone : filter test xs ≡ [] = filter_none test xs (λ z mine. (upper z (inr mine) (subst (λ v. R v z) same (s.0 z mine))).0) in
    ap (λ t. if t then y ∷ filter wider xs else filter wider xs) here ∙ ap (λ l. y ∷ l) rest ∙ ap (λ z. z ∷ []) same
    ∙ sym (ap (λ t. (if t then y ∷ filter test xs else filter test xs) ++ x ∷ []) was ∙ ap (λ l. l ++ x ∷ []) gone)
filter_one_more R test wider (y ∷ xs) x s (inr more) fails passes lower upper =
    let rest = filter_one_more R test wider xs x s.1 more fails passes (λ z mine before. lower z (inr mine) before) (λ z mine behind. upper z (inr mine) behind) in
    let same : test y ≡ wider y = lower y (inl refl) (s.0 x more) in
    ap (λ l. if wider y then y ∷ l else l) rest ∙ split (wider y) ∙ ap (λ t. (if t then y ∷ filter test xs else filter test xs) ++ x ∷ []) (sym same)
  where
    split : (t : Bool) → (if t then y ∷ (filter test xs ++ x ∷ []) else (filter test xs ++ x ∷ [])) ≡ (if t then y ∷ filter test xs else filter test xs) ++ x ∷ []
    split true = refl
    split false = refl
