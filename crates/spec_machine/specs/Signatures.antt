-- Signatures of accesses, of any kind: what a kind of signature must keep.
use Rattle.std.specs.Prelude.{◌≡◌, ℕ, ◌⊎◌, Bool, true, false, ◌||◌, ◌==◌, Option, IsSome}
use Rattle.settle_law.specs.Traces.{Access, Read, Write}
use Rattle.settle_law.specs.Claims.{Claims, claimed}

-- A signature to begin with, one that notes a read or a written word besides, and the first array in which two overlap.
pub record Kind (G : Type 0) : Type 0 where
  pub blank : G
  pub with_read : ℕ → G → G
  pub with_written : ℕ → G → G
  pub overlap : G → G → Option ℕ

abbrev pub note : {G : Type 0} → Kind G → Access → G → G
note kind (Read k w value) sign = kind.with_read w sign
note kind (Write k w value) sign = kind.with_written w sign

-- the first set of words holds the second
pub record Holds (claims others : Claims) : Type 0 where
  pub read : (w : ℕ) → others.read w ≡ true → claims.read w ≡ true
  pub written : (w : ℕ) → others.written w ≡ true → claims.written w ≡ true

-- two sets of words clash at a word where both have it and one of them has it as written
abbrev pub ClashAt : Claims → Claims → ℕ → Type 0
ClashAt claims others w = (claims.written w ≡ true) × (claimed others w ≡ true) ⊎ (claimed claims w ≡ true) × (others.written w ≡ true)

-- The meaning of a signature is what it noted, as two sets of words. Where two signatures noted a common word, one of those
-- that are touched at all, and one of them noted it as written, they overlap; and where two overlap, so do any two that
-- noted at least the same.
pub record IsKind {G : Type 0} (kind : Kind G) (noted : G → Claims) (touched : ℕ → Bool) : Type 0 where
  pub blank_reads : (w : ℕ) → (noted kind.blank).read w ≡ false
  pub blank_writes : (w : ℕ) → (noted kind.blank).written w ≡ false
  pub read_reads : (w u : ℕ) (sign : G) → (noted (kind.with_read w sign)).read u ≡ ((w == u) || (noted sign).read u)
  pub read_writes : (w u : ℕ) (sign : G) → (noted (kind.with_read w sign)).written u ≡ (noted sign).written u
  pub written_reads : (w u : ℕ) (sign : G) → (noted (kind.with_written w sign)).read u ≡ (noted sign).read u
  pub written_writes : (w u : ℕ) (sign : G) → (noted (kind.with_written w sign)).written u ≡ ((w == u) || (noted sign).written u)
  pub clashing : (sign other : G) (w : ℕ) → touched w ≡ true → ClashAt (noted sign) (noted other) w → IsSome (kind.overlap sign other)
  pub more : (sign other wider wider_other : G) → Holds (noted wider) (noted sign) → Holds (noted wider_other) (noted other) → IsSome (kind.overlap sign other) → IsSome (kind.overlap wider wider_other)
