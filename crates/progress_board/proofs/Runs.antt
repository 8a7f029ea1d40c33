-- Lemmas on runs: one behind another, and what each step of a run keeps.
use Rattle.std.proofs.Common.{◌≡◌, ℕ, Option, None, Some, List, [], ◌∷◌, ◌++◌, refl, ap, ◌∙◌, sym, subst}
use Rattle.std.proofs.lemmas.List.{append-nil, append_assoc}
use Rattle.std.specs.Option.{option_and_then}
use Rattle.settle_law.specs.Runs.{run}
use Rattle.progress_board.specs.Runs.{IsReached, Agrees}

module _ {S : Type 0} (step : S → ℕ → Option S) where
  -- a run of two histories is a run of the second behind one of the first
  pub run-append : (s : S) (first second : List ℕ) → run step s (first ++ second) ≡ option_and_then (λ t. run step t second) (run step s first)
  run-append s [] second = refl
  run-append s (a ∷ first) second =
      elim (step s a) as (λ o. option_and_then (λ t. run step t (first ++ second)) o ≡ option_and_then (λ t. run step t second) (option_and_then (λ t. run step t first) o))
      [ None ↦ refl | Some t ↦ run-append t first second ]

  -- where the first history leads to a state, the second goes on from there
  pub run_more : (s t : S) (first second : List ℕ) (r : Option S) → run step s first ≡ Some t → run step t second ≡ r → run step s (first ++ second) ≡ r
  run_more s t first second r there on = rw (run-append s first second, there) on

  -- the other way round: where the first leads to a state, what the whole leads to is what the second leads to
  pub run_behind : (s t : S) (first second : List ℕ) (r : Option S) → run step s first ≡ Some t → run step s (first ++ second) ≡ r → run step t second ≡ r
  run_behind s t first second r there whole =
      let both : run step s (first ++ second) ≡ run step t second = rw (run-append s first second, there) refl in
      sym both ∙ whole

  -- what each step keeps, a run keeps
  pub run_keeps : (P : S → Type 0) → ((s t : S) (a : ℕ) → P s → step s a ≡ Some t → P t)
      → (s t : S) (history : List ℕ) → P s → run step s history ≡ Some t → P t
  run_keeps P kept s t [] p ran = let same : s ≡ t = cc in subst P same p
  run_keeps P kept s t (a ∷ history) p ran =
      elim (step s a) as (λ o. step s a ≡ o → option_and_then (λ u. run step u history) o ≡ Some t → P t)
      [ None ↦ λ e r. absurd (cc) | Some u ↦ λ e r. run_keeps P kept u t history (kept s u a p e) r ] refl ran

  -- one step more
  pub reached_step : (from s t : S) (a : ℕ) → IsReached step from s → step s a ≡ Some t → IsReached step from t
  reached_step from s t a reached e = record {
    history = reached.history ++ a ∷ [];
    ran = run_more from s reached.history (a ∷ []) (Some t) reached.ran (rw e refl);
  }

  -- a run that goes on from a reached state
  pub reached_run : (from s t : S) (history : List ℕ) → IsReached step from s → run step s history ≡ Some t → IsReached step from t
  reached_run from s t history reached ran = record {
    history = reached.history ++ history;
    ran = run_more from s reached.history history (Some t) reached.ran ran;
  }

  -- where nothing was made, machine and history agree
  pub agrees_same : (s : S) (history : List ℕ) → Agrees step s history s history
  agrees_same s history = record { made = []; appended = sym (append-nil history); ran = refl }

  -- two drivers, one behind the other
  pub agrees_more : (s t u : S) (history longer longest : List ℕ) → Agrees step s history t longer → Agrees step t longer u longest → Agrees step s history u longest
  agrees_more s t u history longer longest one other = record {
    made = one.made ++ other.made;
    appended = other.appended ∙ ap (λ (l : List ℕ). l ++ other.made) one.appended ∙ append_assoc history one.made other.made;
    ran = run_more s t one.made other.made (Some u) one.ran other.ran;
  }

  -- one step, appended
  pub agrees_one : (s t : S) (a : ℕ) (history : List ℕ) → step s a ≡ Some t → Agrees step s history t (history ++ a ∷ [])
  agrees_one s t a history e = record { made = a ∷ []; appended = refl; ran = rw e refl }
