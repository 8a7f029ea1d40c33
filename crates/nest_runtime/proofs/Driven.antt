-- What a driver leaves is a run from the state that it began in.
use Rattle.std.proofs.Common.{◌≡◌, ℕ, Bool, true, Option, Some, Result, Ok, Err, IfOk, List, [], ◌++◌, refl, sym, subst, ap, ◌∙◌}
use Rattle.nest_syntax.specs.declared.names.NoMemory.{NoMemory}
use Rattle.settle_law.specs.Runs.{run, IsComplete}
use Rattle.nest_mean.specs.declared.outcomes.Outcome.{Outcome}
use Rattle.word_store.specs.Memory.{Memory}
use Rattle.progress_board.specs.declared.facts.Ending.{Ending}
use Rattle.progress_board.specs.declared.facts.Facts.{Facts}
use Rattle.progress_board.specs.Runs.{Agrees}
use Rattle.progress_board.proofs.Runs.{agrees_more}
use Rattle.nest_runtime.specs.declared.ran.Ran.{Ran}
use Rattle.nest_runtime.specs.Ran.{outcome_told, IsRun}

module _ {S : Type 0} (step : S → ℕ → Option S) (is_finished : S → Bool) (ending_of : S → Ending) (words_of : S → Memory) (facts_of : S → Facts) where
  abbrev RunFrom : S → Outcome → Facts → List ℕ → Type 0
  RunFrom s o f h = IsRun step is_finished ending_of words_of facts_of s o f h

  -- from an empty history
  pub run_told : (s t : S) (none longer h : List ℕ) (o : Outcome) (f : Facts) → none ≡ [] → Agrees step s none t longer → is_finished t ≡ true
      → o ≡ outcome_told (ending_of t) (words_of t) → f ≡ facts_of t → h ≡ longer → RunFrom s o f h
  run_told s t none longer h o f empty agrees finished o_is f_is h_is =
      let made_is : longer ≡ agrees.made = agrees.appended ∙ ap (λ (n : List ℕ). n ++ agrees.made) empty in
      record {
        complete = record { last = t; ran = subst (λ (x : List ℕ). run step s x ≡ Some t) (sym (h_is ∙ made_is)) agrees.ran; finished = finished };
        outcome_is = o_is;
        facts_are = f_is;
      }

  -- the same of what may be wanting for memory
  pub ran_told : (r : Result Ran NoMemory) (s t : S) (none longer : List ℕ) → none ≡ [] → Agrees step s none t longer → is_finished t ≡ true
      → IfOk r (λ ran. ran.outcome ≡ outcome_told (ending_of t) (words_of t)) → IfOk r (λ ran. ran.facts ≡ facts_of t) → IfOk r (λ ran. ran.history.items ≡ longer)
      → IfOk r (λ ran. RunFrom s ran.outcome ran.facts ran.history.items)
  ran_told (Err e) s t none longer empty agrees finished o_is f_is h_is = tt
  ran_told (Ok ran) s t none longer empty agrees finished o_is f_is h_is = run_told s t none longer ran.history.items ran.outcome ran.facts empty agrees finished o_is f_is h_is

-- behind the steps of a crew
pub crew_agrees : {S : Type 0} (step : S → ℕ → Option S) (s t u : S) (history longer : List ℕ) → run step s history ≡ Some t → Agrees step t history u longer → Agrees step s [] u longer
crew_agrees step s t u history longer ran agrees = agrees_more step s t u [] history longer (record { made = history; appended = refl; ran = ran }) agrees
