-- What the machine leaves of a quotient and of a shifted word is the word that `wrap` means.
use Rattle.std.proofs.Common.{◌≡◌, ℕ, zero, suc, ◌-◌, ◌*◌, ◌/◌, ◌%◌, ◌^◌, ◌<◌, ◌≤◌, ℤ, pos, negsuc, ◌+ℤ◌, ◌-ℤ◌, ◌*ℤ◌, neg_ℤ, false, refl, sym, ap, ◌∙◌, arith, w64, to_z, of_z, FitsSigned, int_div, int_rem, unsigned_abs, lit<}
use Rattle.std.proofs.Math.Nat.{mod-eq_of_lt, mod-lt, div-le_self}
use Rattle.std.proofs.Math.IntN.{*ℤ_comm}
use Rattle.std.proofs.Math.Pow.{pow-lt}
use Rattle.std.proofs.lemmas.Int.{ints, quot-rem, to_z-of_z, wrapping_mul-bits, int_wrap-mul_right}
use Rattle.std.specs.Int.{int_wrap, int_shl}
use Rattle.nest_syntax.specs.Words.{is_zero, shift_count}

-- a number below 2^64 is read as the bits of the word that it wraps to
pub int_wrap-pos : (n : ℕ) → n < 2 ^ 64 → int_wrap w64 (pos n) ≡ to_z w64 n
unfolding int_wrap
int_wrap-pos n h = ap (to_z w64) (mod-eq_of_lt h)

-- a whole number not further from 0 than 2^63, as what the machine keeps of it
pub int_wrap-bits : (z : ℤ) → unsigned_abs z ≤ 2 ^ 63 → to_z w64 (of_z w64 z) ≡ int_wrap w64 z
unfolding int_wrap
int_wrap-bits (pos n) h = ap (to_z w64) (let b : n < 2 ^ 64 = omega arith in sym (mod-eq_of_lt b))
int_wrap-bits (negsuc n) h =
    let b : n < 2 ^ 64 = omega arith in
    let e : n % 2 ^ 64 ≡ n = mod-eq_of_lt b in
    ap (to_z w64) (let g : 2 ^ 64 - suc n ≡ 2 ^ 64 - 1 - n % 2 ^ 64 = omega arith in g)

-- the distance from 0 does not see a sign
unsigned_abs-neg : (n : ℕ) → unsigned_abs (neg_ℤ (pos n)) ≡ n
unsigned_abs-neg zero = refl
unsigned_abs-neg (suc n) = refl

-- a quotient is no further from 0 than what is divided
pub int_div-within : (a b : ℤ) → unsigned_abs (int_div a b) ≤ unsigned_abs a
int_div-within (pos a) (pos b) = div-le_self a b
int_div-within (pos a) (negsuc b) = omega (arith, unsigned_abs-neg (a / suc b), div-le_self a (suc b))
int_div-within (negsuc a) (pos b) = omega (arith, unsigned_abs-neg (suc a / b), div-le_self (suc a) b)
int_div-within (negsuc a) (negsuc b) = div-le_self (suc a) (suc b)

-- a word is no further from 0 than 2^63
pub unsigned_abs-word : (a : ℤ) → FitsSigned w64 a → unsigned_abs a ≤ 2 ^ 63
unsigned_abs-word (pos a) f = omega (arith, f.sfits)
unsigned_abs-word (negsuc a) f = omega (arith, f.sfits)

-- what the machine keeps of the quotient of two words
pub int_wrap-int_div : (a b : ℤ) → FitsSigned w64 a → to_z w64 (of_z w64 (int_div a b)) ≡ int_wrap w64 (int_div a b)
int_wrap-int_div a b f = int_wrap-bits (int_div a b) (omega (arith, int_div-within a b, unsigned_abs-word a f))

-- the bits of a word are a number below 2^64
of_z-below : (a : ℤ) → FitsSigned w64 a → of_z w64 a < 2 ^ 64
of_z-below (pos a) f = omega (arith, f.sfits)
of_z-below (negsuc a) f = omega (arith, f.sfits)

-- the bits of a word times a number below 2^64, of which the lowest 64 are kept
pub int_wrap-times : (a : ℤ) (n : ℕ) → FitsSigned w64 a → n < 2 ^ 64 → to_z w64 ((of_z w64 a * n) % 2 ^ 64) ≡ int_wrap w64 (a *ℤ pos n)
int_wrap-times a n f h =
    wrapping_mul-bits w64 (of_z w64 a) n (of_z-below a f) h
    ∙ ap (λ z. int_wrap w64 (z *ℤ to_z w64 n)) (to_z-of_z w64 a f)
    ∙ ap (λ z. int_wrap w64 (a *ℤ z)) (sym (int_wrap-pos n h))
    ∙ int_wrap-mul_right w64 a (pos n)

-- a shift goes by less than 64
pub shift_count-lt : (b : ℤ) → shift_count b < 64
shift_count-lt (pos b) = mod-lt b (lit< tt)
shift_count-lt (negsuc b) = omega arith

-- what the machine keeps of a shifted word
pub int_wrap-int_shl : (a b : ℤ) → FitsSigned w64 a → int_shl w64 a (shift_count b % 64) ≡ int_wrap w64 (a *ℤ pos (2 ^ shift_count b))
int_wrap-int_shl a b f =
    ap (int_shl w64 a) (mod-eq_of_lt (shift_count-lt b)) ∙ int_wrap-times a (2 ^ shift_count b) f (pow-lt (shift_count-lt b))

taken_away : (a x r : ℤ) → x +ℤ r ≡ a → a -ℤ x ≡ r
taken_away a x r e = omega (arith, ints)

-- what a quotient leaves is the machine's remainder
pub left-int_div : (a b : ℤ) → a -ℤ b *ℤ int_div a b ≡ int_rem a b
left-int_div a b = ap (λ x. a -ℤ x) (*ℤ_comm b (int_div a b)) ∙ taken_away a (int_div a b *ℤ b) (int_rem a b) (quot-rem a b)

-- bits that aren't 0 are a word that isn't 0
pub is_zero-bits : (b : ℤ) → (of_z w64 b ≡ 0 → ⊥) → FitsSigned w64 b → is_zero b ≡ false
is_zero-bits (pos zero) h f = absurd (h refl)
is_zero-bits (pos (suc b)) h f = grind arith
is_zero-bits (negsuc b) h f = refl
