-- How far a search over lines has come.
use Rattle.std.proofs.Common.{ℕ, ◌≤◌, List, length}
use Rattle.nest_lex.specs.Parts.{NoneBetween}
use Rattle.nest_lex.specs.Markers.{BeginsLine, NoMarker}
use Rattle.nest_lex.specs.declared.input.Marker.TheVariants.{Steps}

pub record Searched (text : List ℕ) (from start : ℕ) : Type 0 where
  pub after : from ≤ start
  pub within : start ≤ length text
  pub begins : BeginsLine text start
  pub none : NoMarker text from start

pub record SearchedSteps (text : List ℕ) (from start : ℕ) : Type 0 where
  pub after : from ≤ start
  pub within : start ≤ length text
  pub begins : BeginsLine text start
  pub none : NoneBetween text Steps from start
