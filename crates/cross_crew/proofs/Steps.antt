-- What a history leads to, one step on.
use Rattle.std.proofs.Common.{◌≡◌, ℕ, Option, None, Some, List, [], ◌∷◌, ◌++◌, refl}
use Rattle.progress_board.proofs.Runs.{run_more}
use Rattle.cross_crew.specs.Boards.{led}

pub led_more : {S : Type 0} (step : S → ℕ → Option S) (first : Option S) (s t : S) (history longer : List ℕ) (actor : ℕ)
    → longer ≡ history ++ actor ∷ [] → led step first history ≡ Some s → step s actor ≡ Some t → led step first longer ≡ Some t
led_more step None s t history longer actor appended there e = absurd (cc)
led_more step (Some u) s t history longer actor appended there e = rw appended (run_more step u s history (actor ∷ []) (Some t) there (rw e refl))
