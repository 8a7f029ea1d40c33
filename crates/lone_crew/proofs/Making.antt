-- Lemmas on looks, on steps that are made as they are given, and on the rotation behind either.
use Rattle.std.proofs.Common.{◌≡◌, ℕ, ◌≤◌, Bool, true, false, Option, None, Some, List, [], ◌∷◌, ◌++◌, take, refl, ap, ◌∙◌, sym, subst, arith}
use Rattle.std.proofs.lemmas.List.{append-nil, append_assoc}
use Rattle.std.specs.Option.{option_and_then, option_map_or}
use Rattle.settle_law.specs.Runs.{run}
use Rattle.progress_board.specs.Runs.{Agrees}
use Rattle.progress_board.specs.Rotation.{taken, after, rounds, rotation, GoesOn}
use Rattle.progress_board.proofs.Runs.{run_more}
use Rattle.progress_board.proofs.Rotation.{goes_one, goes_past, goes_more, agrees, stops_agrees, stops_more, is_rotation}
use Rattle.lone_crew.specs.Turns.{Looked, Makes, Rotates}
use Rattle.lone_crew.specs.Refusals.{IsRefused}
use Rattle.lone_crew.specs.declared.refused.StepRefused.{StepRefused}
use Rattle.lone_crew.specs.declared.refused.StepRefused.TheVariants.{Step, NoMemory}

module _ {S : Type 0} (step : S → ℕ → Option S) where
  -- a look goes on
  pub looked_goes : (s t : S) (a : ℕ) (history longer : List ℕ) (made : Bool) → Looked step s history a t longer made → GoesOn step s history (a ∷ []) t longer
  looked_goes s t a history longer true looked = subst (λ (l : List ℕ). GoesOn step s history (a ∷ []) t l) (sym looked.1) (goes_one step s t a history looked.0)
  looked_goes s t a history longer false (none, same, appended) = rw (same, appended) (goes_past step s a history none)

  -- no step at all
  pub makes_none : (s : S) (history : List ℕ) → Makes step s history [] s history
  makes_none s history = record { appended = sym (append-nil history); ran = refl }

  -- one step more
  pub makes_more : (s t u : S) (a : ℕ) (history longer longest first : List ℕ) → Makes step s history first t longer → Looked step t longer a u longest true → Makes step s history (first ++ a ∷ []) u longest
  makes_more s t u a history longer longest first one looked = record {
    appended = looked.1 ∙ ap (λ (l : List ℕ). l ++ a ∷ []) one.appended ∙ append_assoc history first (a ∷ []);
    ran = run_more step s t first (a ∷ []) (Some u) one.ran (rw looked.0 refl);
  }

  -- steps that are all enabled are all taken
  pub taken_all : (s t : S) (steps : List ℕ) → run step s steps ≡ Some t → (taken step s steps ≡ steps) × (t ≡ after step s steps)
  taken_all s t [] ran = let same : s ≡ t = cc in (refl, sym same)
  taken_all s t (a ∷ steps) ran =
      elim (step s a) as (λ o. option_and_then (λ u. run step u steps) o ≡ Some t → (option_map_or (λ u. a ∷ taken step u steps) o (taken step s steps) ≡ a ∷ steps) × (t ≡ option_map_or (λ u. after step u steps) o (after step s steps))) [
        | None ↦ λ r. absurd (cc)
        | Some u ↦ λ r. let both = taken_all u t steps r in (ap (λ (l : List ℕ). a ∷ l) both.0, both.1)
      ] ran

  pub makes_goes : (s t : S) (history steps longer : List ℕ) → Makes step s history steps t longer → GoesOn step s history steps t longer
  makes_goes s t history steps longer made =
      let both = taken_all s t steps made.ran in
      record { appended = made.appended ∙ ap (λ (l : List ℕ). history ++ l) (sym both.0); state = both.1 }

  -- a rotation behind a schedule is the rotation with that schedule
  pub rotates_behind : (measure : S → ℕ) (s t u : S) (n : ℕ) (history schedule longer longest : List ℕ)
      → GoesOn step s history schedule t longer → Rotates step measure n t longer u longest → measure t ≤ measure s
      → longest ≡ history ++ rotation step measure s n schedule
  rotates_behind measure s t u n history schedule longer longest goes rotates less =
      is_rotation step measure s u n rotates.count history schedule longest
      (goes_more step s t u history longer longest schedule (rounds n rotates.count) goes rotates.goes) (omega (arith, rotates.few)) rotates.stopped

  -- and agrees with it
  pub rotates_agrees : (measure : S → ℕ) (s t u : S) (n : ℕ) (history schedule longer longest : List ℕ)
      → GoesOn step s history schedule t longer → Rotates step measure n t longer u longest → Agrees step s history u longest
  rotates_agrees measure s t u n history schedule longer longest goes rotates =
      agrees step s u history (schedule ++ rounds n rotates.count) longest (goes_more step s t u history longer longest schedule (rounds n rotates.count) goes rotates.goes)

  -- a refusal agrees, and holds within more looks
  pub refused_agrees : (s t : S) (history steps looks longer : List ℕ) (why : StepRefused) → IsRefused step s history steps looks t longer why → Agrees step s history t longer
  refused_agrees s t history steps looks longer (Step n) r = record { made = take n steps; appended = r.made.appended; ran = r.made.ran }
  refused_agrees s t history steps looks longer NoMemory r = stops_agrees step s t history looks longer r

  pub refused_more : (s t : S) (history steps looks more longer : List ℕ) (why : StepRefused) → IsRefused step s history steps looks t longer why → IsRefused step s history steps (looks ++ more) t longer why
  refused_more s t history steps looks more longer (Step n) r = r
  refused_more s t history steps looks more longer NoMemory r = stops_more step s t history looks more longer r
