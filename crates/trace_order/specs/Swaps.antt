-- Accesses that are out of order.
use Rattle.std.specs.Prelude.{◌≡◌, ℕ, ◌<◌, ℤ, Bool, true, false, ◌&&◌, ◌||◌, ◌==◌, nat_lt, List, take, slice_get, Some}
use Rattle.settle_law.specs.Traces.{Access as Made, Read, Write, iteration, Conflict, Each, InOrder}
use Rattle.trace_order.specs.declared.access.Access.{Access}

-- an access by its parts, as traces have it
abbrev pub made : Bool → ℕ → ℕ → ℤ → Made
made true task word value = Write task word value
made false task word value = Read task word value

abbrev pub traced : Access → Made
traced a = made a.write a.task a.word a.value

-- Two accesses, the first before the second, are swapped where they conflict and the first is of the later task.
abbrev pub Swapped : Made → Made → Type 0
Swapped first second = Conflict first second × (iteration second < iteration first)

-- The first swapped pair of a trace is at these two places: what stands before the second is in order, and nothing before
-- the first is swapped with the second.
pub record IsFirstSwap (trace : List Made) (i j : ℕ) : Type 0 where
  pub first : Made
  pub second : Made
  pub at_first : slice_get trace i ≡ Some first
  pub at_second : slice_get trace j ≡ Some second
  pub before : i < j
  pub swapped : Swapped first second
  pub in_order : InOrder (take j trace)
  pub none_before : Each (λ a. Swapped a second → ⊥) (take i trace)

-- whether an access is swapped with a later one
abbrev pub swapped_with : Access → Access → Bool
swapped_with later a = (a.word == later.word) && ((a.write || later.write) && nat_lt later.task a.task)
