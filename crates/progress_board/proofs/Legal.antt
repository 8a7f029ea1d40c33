-- Lemmas on legal states: the opening one, one step more, and where nothing more is enabled.
use Rattle.std.proofs.Common.{◌≡◌, ℕ, ◌<◌, ◌≤◌, false, Option, None, Some, List, [], ◌∷◌, refl, ap, ◌∙◌, sym, subst, ⊎_elim}
use Rattle.std.specs.Prelude.{is_some}
use Rattle.std.proofs.lemmas.Bool.{cases_lt, false≢true}
use Rattle.nest_mean.specs.Nest.{Nest, CanRun}
use Rattle.progress_board.specs.declared.options.Options.{Options}
use Rattle.progress_board.specs.declared.actors.Ask.{Ask}
use Rattle.progress_board.specs.declared.actors.Ask.TheVariants.{Ended}
use Rattle.progress_board.specs.Options.{IsInRange}
use Rattle.progress_board.specs.Actors.{is_ready, AllEnded}
use Rattle.settle_law.specs.Runs.{run}
use Rattle.progress_board.specs.Runs.{IsLegal}
use Rattle.progress_board.proofs.Runs.{reached_step, run_keeps}

module _ {S : Type 0} (job_of : S → Nest) (options_of : S → Options) (opens : Nest → Options → S → Type 0) (step : S → ℕ → Option S)
    (keeps_job : (s t : S) (a : ℕ) → step s a ≡ Some t → job_of t ≡ job_of s) (keeps_options : (s t : S) (a : ℕ) → step s a ≡ Some t → options_of t ≡ options_of s) where
  -- one step more
  pub legal_step : (s t : S) (a : ℕ) → IsLegal job_of options_of opens step s → step s a ≡ Some t → IsLegal job_of options_of opens step t
  legal_step s t a legal e = record {
    runs = subst CanRun (sym (keeps_job s t a e)) legal.runs;
    allowed = subst IsInRange (sym (keeps_options s t a e)) legal.allowed;
    first = legal.first;
    opened = rw (keeps_job s t a e, keeps_options s t a e) legal.opened;
    reached = reached_step step legal.first s t a legal.reached e;
  }

  -- a whole run more
  pub legal_run : (s t : S) (history : List ℕ) → IsLegal job_of options_of opens step s → run step s history ≡ Some t → IsLegal job_of options_of opens step t
  legal_run s t history legal ran = run_keeps step (IsLegal job_of options_of opens step) legal_step s t history legal ran

  -- a run keeps the options
  pub options_run : (s t : S) (history : List ℕ) → run step s history ≡ Some t → options_of t ≡ options_of s
  options_run s t history ran = run_keeps step (λ (v : S). options_of v ≡ options_of s) (λ u v a same e. keeps_options u v a e ∙ same) s t history refl ran

-- an opening state is legal
pub legal_opening : {S : Type 0} (job_of : S → Nest) (options_of : S → Options) (opens : Nest → Options → S → Type 0) (step : S → ℕ → Option S) (job : Nest) (options : Options) (s : S)
    → opens job options s → job_of s ≡ job → options_of s ≡ options → CanRun job → IsInRange options → IsLegal job_of options_of opens step s
legal_opening job_of options_of opens step job options s opened same_job same_options runs allowed = record {
  runs = subst CanRun (sym same_job) runs;
  allowed = subst IsInRange (sym same_options) allowed;
  first = s;
  opened = rw (same_job, same_options) opened;
  reached = record { history = []; ran = refl };
}

-- what isn't some is none
none_from : {S : Type 0} (o : Option S) → false ≡ is_some o → o ≡ None
none_from None e = refl
none_from (Some x) e = absurd (false≢true e)

-- what has ended its part has no step
ended_stops : {S : Type 0} (step : S → ℕ → Option S) (asked : S → ℕ → Ask) (s : S) (a : ℕ) → is_ready (asked s a) ≡ is_some (step s a) → asked s a ≡ Ended → step s a ≡ None
ended_stops step asked s a readies ended = none_from (step s a) (ap is_ready (sym ended) ∙ readies)

-- a finished machine has no step
pub stops : {S : Type 0} (step : S → ℕ → Option S) (asked : S → ℕ → Ask) (s : S) (n : ℕ)
    → ((a : ℕ) → is_ready (asked s a) ≡ is_some (step s a)) → ((a : ℕ) → n ≤ a → step s a ≡ None) → AllEnded asked s n → (a : ℕ) → step s a ≡ None
stops step asked s n readies above ended a =
    ⊎_elim (λ (below : a < n). ended_stops step asked s a (readies a) (ended a below)) (λ (past : n ≤ a). above a past) (cases_lt a n)

-- where nothing is enabled, the empty history alone is legal
pub no_more : {S : Type 0} (step : S → ℕ → Option S) (s t : S) (more : List ℕ) → ((a : ℕ) → step s a ≡ None) → run step s more ≡ Some t → more ≡ []
no_more step s t [] stopped ran = refl
no_more step s t (a ∷ more) stopped ran = absurd (go (rw (stopped a) at ran))
  where
    go : None ≡ Some t → ⊥
    go e = cc
