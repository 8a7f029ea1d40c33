-- What is told of the text of a nest is told of its input.
use Rattle.std.proofs.Common.{◌≡◌, ℕ, Result, Ok, Err, List, subst}
use Rattle.nest_syntax.specs.declared.tree.Program.{Program}
use Rattle.nest_lex.specs.declared.input.Parts.{Parts}
use Rattle.nest_lex.specs.Parts.{IsParts}
use Rattle.nest_input.specs.declared.refused.Refusal.{Refusal}
use Rattle.nest_input.specs.declared.refused.InputRefused.{InputRefused}
use Rattle.nest_input.specs.declared.refused.InputRefused.TheVariants as refused
use Rattle.nest_input.specs.Input.{IsNest, SaysNest, Tells, nest_in}

module _ (input text : List ℕ) (parts : Parts) (divided : IsParts input parts) (is : text ≡ nest_in input parts) where
  says : (said : Result Program Refusal) → IsNest text said → SaysNest input said
  says said nest = record { parts = parts; divided = divided; nest = subst (λ t. IsNest t said) is nest }

  pub told : (r : Result Program InputRefused) → Tells (IsNest text) r → Tells (SaysNest input) r
  told (Ok program) nest = says (Ok program) nest
  told (Err (refused.Refused why)) nest = says (Err why) nest
  told (Err refused.NoMemory) nest = tt
