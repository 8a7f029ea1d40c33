-- How many pairs of tasks n epochs have.
use Rattle.std.proofs.Common.{◌≡◌, ℕ, zero, suc, ◌+◌, ◌-◌, ◌*◌, ◌<◌, ◌≤◌, if◌then◌else◌, ◌==◌, List, [], ◌∷◌, ◌++◌, length, refl, sym, ap, ◌∙◌, ⊎_elim, arith, length-append, append-nil}
use Rattle.std.proofs.lemmas.Bool.{cases_lt, cases_eq, eq-eqb, ne_eqb}
use Rattle.std.proofs.lemmas.Grind.{flat_map-append}
use Rattle.std.proofs.Math.Nat.{mul_comm, mul_assoc, mul-add}
use Rattle.std.specs.List.{flat_map}
use Rattle.spec_machine.specs.Facts.{Pair}
use Rattle.spec_machine.specs.Machine.{below, pair_of, pairs_with, pairs_late, pairs}
use Rattle.spec_machine.specs.Measure.{PairsAreCounted}

push_length : {A : Type 0} (f : ℕ → List A) (n : ℕ) → length (flat_map f (below (suc n))) ≡ length (flat_map f (below n)) + length (f n)
push_length f n = ap length (flat_map-append f (below n) (n ∷ [])) ∙ length-append (flat_map f (below n)) (f n ++ []) ∙ ap (λ l. length (flat_map f (below n)) + length l) (append-nil (f n))

-- where each number gives as many
each_length : {A : Type 0} (f : ℕ → List A) (c n : ℕ) → ((k : ℕ) → k < n → length (f k) ≡ c) → length (flat_map f (below n)) ≡ n * c
each_length f c zero each = let z : 0 ≡ 0 * c = omega arith in z
each_length f c (suc n) each =
    let more : length (flat_map f (below n)) ≡ n * c = each_length f c n (λ k lt. each k (omega arith)) in
    let here : length (f n) ≡ c = each n (omega arith) in
    let push : length (flat_map f (below (suc n))) ≡ length (flat_map f (below n)) + length (f n) = push_length f n in
    let x : suc n * c ≡ c + n * c = omega arith in
    let r : length (flat_map f (below (suc n))) ≡ suc n * c = omega arith in
    r

module _ (f w e : ℕ) where
  abbrev pub other : ℕ → List Pair
  other u = if u == w then [] else pair_of f w e u ∷ []

  -- the workers but one
  others_before : (n : ℕ) → n ≤ w → length (flat_map other (below n)) ≡ n
  others_before zero le = refl
  others_before (suc n) le =
      let more : length (flat_map other (below n)) ≡ n = others_before n (omega arith) in
      let here : length (other n) ≡ 1 = ap (λ t. length (if t then [] else pair_of f w e n ∷ [])) (ne_eqb n w (λ same. omega arith)) in
      let push : length (flat_map other (below (suc n))) ≡ length (flat_map other (below n)) + length (other n) = push_length other n in
      let r : length (flat_map other (below (suc n))) ≡ suc n = omega arith in
      r

  others_behind : (n : ℕ) → w < n → length (flat_map other (below n)) ≡ n - 1
  others_behind zero lt = absurd (omega arith)
  others_behind (suc n) lt =
      let push : length (flat_map other (below (suc n))) ≡ length (flat_map other (below n)) + length (other n) = push_length other n in
      ⊎_elim
      (λ same.
      let before : length (flat_map other (below n)) ≡ n = others_before n (omega (arith, same)) in
      let here : length (other n) ≡ 0 = ap (λ t. length (if t then [] else pair_of f w e n ∷ [])) (eq-eqb n w same) in
      let r : length (flat_map other (below (suc n))) ≡ suc n - 1 = omega arith in
      r)
      (λ differs.
      let more : length (flat_map other (below n)) ≡ n - 1 = others_behind n (above n lt differs) in
      let here : length (other n) ≡ 1 = ap (λ t. length (if t then [] else pair_of f w e n ∷ [])) (ne_eqb n w differs) in
      let l : w < n = above n lt differs in
      let r : length (flat_map other (below (suc n))) ≡ suc n - 1 = omega arith in
      r)
      (cases_eq n w)
    where
      above : (n : ℕ) → w < suc n → (n ≡ w → ⊥) → w < n
      above n lt differs = ⊎_elim (λ l. l) (λ (ge : n ≤ w). absurd (differs (let e : n ≡ w = omega arith in e))) (cases_lt w n)

late_length : (width f : ℕ) → length (pairs_late width f) ≡ width * (f * (width - 1))
late_length width f = each_length (λ w. flat_map (λ e. pairs_with width f w e) (below f)) (f * (width - 1)) width (λ w lt. each_length (λ e. pairs_with width f w e) (width - 1) f (λ e l. others_behind f w e width lt))

pub counted : PairsAreCounted
counted width zero = let x : 0 * (0 - 1) ≡ 0 = omega arith in let y : width * (width - 1) * (0 * (0 - 1)) ≡ width * (width - 1) * 0 = ap (λ k. width * (width - 1) * k) x in let z : 2 * 0 ≡ width * (width - 1) * (0 * (0 - 1)) = omega arith in z
counted width (suc n) =
    let all : ℕ = width * (width - 1) in
    let push : length (pairs width (suc n)) ≡ length (pairs width n) + length (pairs_late width n) = push_length (pairs_late width) n in
    let late : length (pairs_late width n) ≡ width * (n * (width - 1)) = late_length width n in
    let turned : width * (n * (width - 1)) ≡ width * (width - 1) * n = ap (λ k. width * k) (mul_comm n (width - 1)) ∙ sym (mul_assoc width (width - 1) n) in
    let more : 2 * length (pairs width n) ≡ width * (width - 1) * (n * (n - 1)) = counted width n in
    let two : width * (width - 1) * (n + n) ≡ width * (width - 1) * n + width * (width - 1) * n = mul-add (width * (width - 1)) n n in
    let both : width * (width - 1) * (n * (n - 1) + (n + n)) ≡ width * (width - 1) * (n * (n - 1)) + width * (width - 1) * (n + n) = mul-add (width * (width - 1)) (n * (n - 1)) (n + n) in
    let square : suc n * (suc n - 1) ≡ n * (n - 1) + (n + n) = squares n in
    let last : width * (width - 1) * (suc n * (suc n - 1)) ≡ width * (width - 1) * (n * (n - 1) + (n + n)) = ap (λ k. width * (width - 1) * k) square in
    let r : 2 * length (pairs width (suc n)) ≡ width * (width - 1) * (suc n * (suc n - 1)) = omega arith in
    r
  where
    squares : (n : ℕ) → suc n * (suc n - 1) ≡ n * (n - 1) + (n + n)
    squares zero = refl
    squares (suc k) =
        let a : suc (suc k) - 1 ≡ suc k = omega arith in
        let b : suc k - 1 ≡ k = omega arith in
        let c : suc (suc k) * (suc (suc k) - 1) ≡ suc (suc k) * suc k = ap (λ x. suc (suc k) * x) a in
        let d : suc k * (suc k - 1) ≡ suc k * k = ap (λ x. suc k * x) b in
        let e : suc (suc k) * suc k ≡ suc k + (suc k + k * suc k) = omega arith in
        let g : suc k * k ≡ k + k * k = omega arith in
        let h : k * suc k ≡ k + k * k = mul_comm k (suc k) ∙ g in
        let r : suc (suc k) * (suc (suc k) - 1) ≡ suc k * (suc k - 1) + (suc k + suc k) = omega arith in
        r
