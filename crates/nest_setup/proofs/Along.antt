-- What holds of the opening and is kept by each row holds along each history.
use Rattle.std.proofs.Common.{◌≡◌, ℕ, Option, Some, None, List, [], ◌∷◌, refl, subst}
use Rattle.std.specs.Option.{option_and_then}
use Rattle.settle_law.specs.Runs.{run}
use Rattle.domore_machine.specs.Machine.{Setup, State, Move, step, state_after}
use Rattle.domore_machine.proofs.Guards.{Guard, IsStep, step_is}

module _ {B C P : Type 0} (m : Setup B C P) (Q : State B C P → Type 0) (row : (s : State B C P) (u : ℕ) (move : Move B C P) → Guard m s u move → Q s → Q (state_after m s u move)) where
  stepped : (s t : State B C P) (u : ℕ) → step m s u ≡ Some t → Q s → Q t
  stepped s t u e holds = go (step_is m s u t e)
    where
      go : IsStep m s u t → Q t
      go is = subst Q (let same : state_after m s u is.move ≡ t = cc in same) (row s u is.move is.guard holds)

  pub along : (history : List ℕ) (s t : State B C P) → Q s → run (step m) s history ≡ Some t → Q t
  along [] s t holds e = let same : s ≡ t = cc in subst Q same holds
  along (u ∷ history) s t holds e = go (step m s u) refl e (λ x is. along history x t (stepped s x u is holds))
    where
      go : (o : Option (State B C P)) → step m s u ≡ o → option_and_then (λ x. run (step m) x history) o ≡ Some t → ((x : State B C P) → step m s u ≡ Some x → run (step m) x history ≡ Some t → Q t) → Q t
      go None is e more = absurd (let none : None ≡ Some t = e in cc)
      go (Some x) is e more = more x is e
