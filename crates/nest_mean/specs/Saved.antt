-- No caller of `run_plain` needs this. Scalars that are put aside and put back.
use Rattle.std.specs.Prelude.{◌≡◌, ℕ, ◌<◌, ℤ, true, List, [], ◌∷◌, length}
use Rattle.nest_syntax.specs.Value.{scalar_at, with_scalar}
use Rattle.nest_syntax.specs.Among.{is_among}

-- the scalars of a run, and those that were put aside
pub record SavedScalars : Type 0 where
  pub present : List ℤ
  pub aside : List ℤ

-- the second scalars with those of these names taken over from the first
abbrev pub taken_over : List ℕ → List ℤ → List ℤ → List ℤ
taken_over [] source target = target
taken_over (name ∷ names) source target = taken_over names source (with_scalar target name (scalar_at source name))

-- the scalars of these names stand in the saved ones too
pub record AreSaved (names : List ℕ) (scalars saved : List ℤ) : Type 0 where
  pub many : length saved ≡ length scalars
  pub each : (name : ℕ) → name < length saved → is_among names name ≡ true → scalar_at saved name ≡ scalar_at scalars name
