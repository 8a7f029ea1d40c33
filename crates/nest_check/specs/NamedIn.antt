-- No caller of `check` needs this. How the names of a bound are kept, and what its two lists tell.
use Rattle.std.specs.Prelude.{◌≡◌, ℕ, List}
use Rattle.nest_syntax.specs.Among.{is_among}

-- lists of names, without a subscript and with one
pub record Named : Type 0 where
  pub scalars : List ℕ
  pub arrays : List ℕ

-- that two pairs of lists have the same names
pub record HasSameNames (named : Named) (scalars arrays : List ℕ) : Type 0 where
  pub of_scalars : (name : ℕ) → is_among named.scalars name ≡ is_among scalars name
  pub of_arrays : (name : ℕ) → is_among named.arrays name ≡ is_among arrays name
