-- A number or none, as one number: one more, and 0 for none.
use Rattle.std.specs.Prelude.{◌≡◌, ℕ, zero, suc, Option, Some, None, refl}

abbrev pub number_below : ℕ → Option ℕ
number_below zero = None
number_below (suc n) = Some n

abbrev pub one_above : Option ℕ → ℕ
one_above None = 0
one_above (Some n) = suc n

pub one_above-number_below : (n : ℕ) → one_above (number_below n) ≡ n
one_above-number_below zero = refl
one_above-number_below (suc n) = refl
