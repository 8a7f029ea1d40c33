-- Standard input, as its callers see it.
use Rattle.std.specs.Prelude.{ℕ, Bool, List, Option}

pub record InputState : Type 0 where
  -- the bytes to come, where the runtime tells them
  pub left : Option (List ℕ)
  -- how many calls failed
  pub faults : ℕ
  -- whether the end was answered
  pub ended : Bool
