use Rattle.std.proofs.Common.{◌≡◌, ℕ, Bool, true, false, if◌then◌else◌, Some, None, refl, sym, ap, ◌∙◌}
use Rattle.progress_board.specs.declared.actors.Row.TheVariants.{Hop, Finish}
use Rattle.task_hop.specs.declared.stop.Stop.{Stop}
use Rattle.task_hop.specs.declared.stop.Stop.TheVariants as stop
use Rattle.spec_core.specs.Engine.{row_at}
use Rattle.spec_core.proofs.table.Table.row_at.Goals as goal

some_more : (t : Bool) (k n : ℕ) → Some n ≡ (if t then Some k else None) → t ≡ true
some_more true k n is = refl
some_more false k n is = absurd (let no : Some n ≡ None = is in cc)

no_more : (t : Bool) (k : ℕ) → None ≡ (if t then Some k else None) → t ≡ false
no_more true k is = absurd (let no : None ≡ Some k = is in cc)
no_more false k is = refl

hops_on : (s : Stop) (t : Bool) → s ≡ stop.Finish → t ≡ true → Hop ≡ row_at s t
hops_on s t at more = sym (ap (λ x. row_at x t) at ∙ ap (row_at stop.Finish) more)

finishes : (s : Stop) (t : Bool) → s ≡ stop.Finish → t ≡ false → Finish ≡ row_at s t
finishes s t at none = sym (ap (λ x. row_at x t) at ∙ ap (row_at stop.Finish) none)

pub returns-in-Some : goal.returns-in-Some
returns-in-Some g c = λ k p held. hops_on _ _ c.in-Finish.is (some_more _ _ _ (sym c.in-Some.is ∙ c.number_behind.ensures k p held))

pub returns-in-None : goal.returns-in-None
returns-in-None g c = λ k p held. finishes _ _ c.in-Finish.is (no_more _ _ (sym c.in-None.is ∙ c.number_behind.ensures k p held))
