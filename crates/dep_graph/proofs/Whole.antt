-- Whole numbers: products over sums, numbers that differ by a multiple of 2^64, and sizes.
use Rattle.std.proofs.Common.{◌≡◌, ℕ, zero, suc, ◌+◌, ◌-◌, ◌*◌, ◌%◌, ◌^◌, ◌<◌, ◌≤◌, ℤ, pos, negsuc, ◌+ℤ◌, ◌-ℤ◌, ◌*ℤ◌, neg_ℤ, unsigned_abs, Bool, true, false, refl, sym, ap, ◌∙◌, arith}
use Rattle.std.proofs.lemmas.Int.{ints}
use Rattle.std.proofs.Math.IntN.{suc_ℤ, pred_ℤ, suc_ℤ-*ℤ, pred_ℤ-*ℤ, zero-*ℤ, *ℤ_comm}
use Rattle.std.specs.Int.{w64, int_wrap}
use Rattle.std.proofs.lemmas.Int.{int_wrap-add_left, int_wrap-add_right, int_wrap-mul_left, int_wrap-mul_right, int_wrap_fits, SFits-int_wrap}
use Rattle.nest_syntax.specs.Words.{wrap}

-- one more and one less
suc_is : (x : ℤ) → suc_ℤ x ≡ x +ℤ pos 1
suc_is (pos n) = omega (arith, ints)
suc_is (negsuc zero) = omega (arith, ints)
suc_is (negsuc (suc n)) = omega (arith, ints)

pred_is : (x : ℤ) → pred_ℤ x ≡ x -ℤ pos 1
pred_is (pos zero) = omega (arith, ints)
pred_is (pos (suc n)) = omega (arith, ints)
pred_is (negsuc n) = omega (arith, ints)

-- a product over a sum
spread_zero : (y k : ℤ) → (pos zero +ℤ y) *ℤ k ≡ pos zero *ℤ k +ℤ y *ℤ k
spread_zero y k = let here : pos zero +ℤ y ≡ y = omega (arith, ints) in ap (λ x. x *ℤ k) here ∙ omega (arith, ints, zero-*ℤ k)

spread_suc : (x y k : ℤ) → (x +ℤ y) *ℤ k ≡ x *ℤ k +ℤ y *ℤ k → (suc_ℤ x +ℤ y) *ℤ k ≡ suc_ℤ x *ℤ k +ℤ y *ℤ k
spread_suc x y k before = let here : suc_ℤ x +ℤ y ≡ suc_ℤ (x +ℤ y) = omega (arith, ints, suc_is x, suc_is (x +ℤ y)) in
    ap (λ n. n *ℤ k) here ∙ suc_ℤ-*ℤ (x +ℤ y) k ∙ ap (λ n. n +ℤ k) before ∙ omega (arith, ints, suc_ℤ-*ℤ x k)

spread_pred : (x y k : ℤ) → (x +ℤ y) *ℤ k ≡ x *ℤ k +ℤ y *ℤ k → (pred_ℤ x +ℤ y) *ℤ k ≡ pred_ℤ x *ℤ k +ℤ y *ℤ k
spread_pred x y k before = let here : pred_ℤ x +ℤ y ≡ pred_ℤ (x +ℤ y) = omega (arith, ints, pred_is x, pred_is (x +ℤ y)) in
    ap (λ n. n *ℤ k) here ∙ pred_ℤ-*ℤ (x +ℤ y) k ∙ ap (λ n. n -ℤ k) before ∙ omega (arith, ints, pred_ℤ-*ℤ x k)

pub spread : (x y k : ℤ) → (x +ℤ y) *ℤ k ≡ x *ℤ k +ℤ y *ℤ k
spread (pos zero) y k = spread_zero y k
spread (pos (suc n)) y k = spread_suc (pos n) y k (spread (pos n) y k)
spread (negsuc zero) y k = spread_pred (pos zero) y k (spread_zero y k)
spread (negsuc (suc n)) y k = spread_pred (negsuc n) y k (spread (negsuc n) y k)

pub spread_right : (k x y : ℤ) → k *ℤ (x +ℤ y) ≡ k *ℤ x +ℤ k *ℤ y
spread_right k x y = *ℤ_comm k (x +ℤ y) ∙ spread x y k ∙ ap (λ n. n +ℤ y *ℤ k) (*ℤ_comm x k) ∙ ap (λ n. k *ℤ x +ℤ n) (*ℤ_comm y k)

grouped_suc : (x k n : ℤ) → (x *ℤ k) *ℤ n ≡ x *ℤ (k *ℤ n) → (suc_ℤ x *ℤ k) *ℤ n ≡ suc_ℤ x *ℤ (k *ℤ n)
grouped_suc x k n before = ap (λ m. m *ℤ n) (suc_ℤ-*ℤ x k) ∙ spread (x *ℤ k) k n ∙ ap (λ m. m +ℤ k *ℤ n) before ∙ sym (suc_ℤ-*ℤ x (k *ℤ n))

grouped_zero : (k n : ℤ) → (pos zero *ℤ k) *ℤ n ≡ pos zero *ℤ (k *ℤ n)
grouped_zero k n = ap (λ m. m *ℤ n) (zero-*ℤ k) ∙ zero-*ℤ n ∙ sym (zero-*ℤ (k *ℤ n))

minus_spread : (x y k : ℤ) → (x -ℤ y) *ℤ k ≡ x *ℤ k -ℤ y *ℤ k
minus_spread x y k = let there : (x -ℤ y) +ℤ y ≡ x = omega (arith, ints) in let all : ((x -ℤ y) +ℤ y) *ℤ k ≡ (x -ℤ y) *ℤ k +ℤ y *ℤ k = spread (x -ℤ y) y k in
    let same : x *ℤ k ≡ (x -ℤ y) *ℤ k +ℤ y *ℤ k = sym (ap (λ m. m *ℤ k) there) ∙ all in omega (arith, ints)

grouped_pred : (x k n : ℤ) → (x *ℤ k) *ℤ n ≡ x *ℤ (k *ℤ n) → (pred_ℤ x *ℤ k) *ℤ n ≡ pred_ℤ x *ℤ (k *ℤ n)
grouped_pred x k n before = ap (λ m. m *ℤ n) (pred_ℤ-*ℤ x k) ∙ minus_spread (x *ℤ k) k n ∙ ap (λ m. m -ℤ k *ℤ n) before ∙ sym (pred_ℤ-*ℤ x (k *ℤ n))

pub grouped : (x k n : ℤ) → (x *ℤ k) *ℤ n ≡ x *ℤ (k *ℤ n)
grouped (pos zero) k n = grouped_zero k n
grouped (pos (suc m)) k n = grouped_suc (pos m) k n (grouped (pos m) k n)
grouped (negsuc zero) k n = grouped_pred (pos zero) k n (grouped_zero k n)
grouped (negsuc (suc m)) k n = grouped_pred (negsuc m) k n (grouped (negsuc m) k n)

-- two numbers that differ by a multiple of 2^64
abbrev pub Same : ℤ → ℤ → Type 0
Same a b = wrap a ≡ wrap b

pub same_plus : (a a' b b' : ℤ) → Same a a' → Same b b' → Same (a +ℤ b) (a' +ℤ b')
same_plus a a' b b' first second =
    sym (int_wrap-add_left w64 a b) ∙ ap (λ n. wrap (n +ℤ b)) first ∙ int_wrap-add_left w64 a' b
    ∙ sym (int_wrap-add_right w64 a' b) ∙ ap (λ n. wrap (a' +ℤ n)) second ∙ int_wrap-add_right w64 a' b'

pub same_times : (a a' b b' : ℤ) → Same a a' → Same b b' → Same (a *ℤ b) (a' *ℤ b')
same_times a a' b b' first second =
    sym (int_wrap-mul_left w64 a b) ∙ ap (λ n. wrap (n *ℤ b)) first ∙ int_wrap-mul_left w64 a' b
    ∙ sym (int_wrap-mul_right w64 a' b) ∙ ap (λ n. wrap (a' *ℤ n)) second ∙ int_wrap-mul_right w64 a' b'

pub same_wrap : (a : ℤ) → Same (wrap a) a
same_wrap a = int_wrap_fits w64 (wrap a) (SFits-int_wrap w64 a)
