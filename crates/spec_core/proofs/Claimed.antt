-- The claims of a job's iterations hold their turns, and are of its words.
use Rattle.std.proofs.Common.{◌≡◌, ℕ, ◌≤◌, ◌<◌, ℤ, Bool, true, false, Option, None, Some, List, map, slice_index_or, sum, sym, subst, ◌∙◌, ⊎_elim}
use Rattle.std.specs.List.{range_with_len}
use Rattle.std.specs.Option.{option_map_or}
use Rattle.std.proofs.lemmas.Bool.{true≢false, or_cases, cases_lt}
use Rattle.std.proofs.lemmas.List.{get_or_past}
use Rattle.std.proofs.lemmas.List.FromFn.{length-map-range_with_len}
use Rattle.nest_syntax.specs.Arrays.{arrays_of, sizes_of}
use Rattle.nest_syntax.specs.Shape.{bodies_of}
use Rattle.nest_syntax.specs.Outcome.{turn_in}
use Rattle.nest_mean.specs.Nest.{Nest, CanRun, IsWellFormed}
use Rattle.settle_law.specs.Cuts.{plain}
use Rattle.settle_law.specs.Trees.{Finished}
use Rattle.settle_law.specs.Claims.{Within, claimed}
use Rattle.settle_law.specs.Reading.{fixed_in}
use Rattle.settle_law.specs.Courses.{iteration_at, cut_at}
use Rattle.settle_law.proofs.Turns.{within_turns}
use Rattle.claim_walk.specs.Walk.{is_claimed}
use Rattle.addr_slice.specs.Claims.{Claimed, by_word, no_claims}
use Rattle.addr_slice.specs.Slice.{claims_of, steps_met}
use Rattle.addr_slice.proofs.Slicing.{claims_hold_turns}
use Rattle.spec_machine.specs.Theorems.{AreHeld}
use Rattle.spec_setup.specs.Signs.{Signs}
use Rattle.spec_core.specs.Engine.{Engine, setup_in, nest_in}
use Rattle.spec_core.specs.Theorems.{claims_due, words_due}

flagged_below : (test : ℕ → Bool) (n w : ℕ) → slice_index_or (map test (range_with_len 0 n)) w false ≡ true → w < n
flagged_below test n w is = ⊎_elim
    (λ there. there)
    (λ past. absurd (true≢false (sym is ∙ get_or_past (map test (range_with_len 0 n)) w false (subst (λ m. m ≤ w) (sym (length-map-range_with_len test 0 n)) past))))
    (cases_lt w n)

module _ (job : Nest) (runs : CanRun job) where
  abbrev sizes : List ℕ
  sizes = sizes_of (arrays_of job.program.decls)

  abbrev fixed : ℕ → Option ℤ
  fixed = fixed_in (arrays_of job.program.decls) job.opening.words

  abbrev claims : ℕ × List ℤ → Claimed
  claims = claims_of job.program job.opening.words

  abbrev HoldsTree : Option (ℕ × List ℤ) → Type 0
  HoldsTree o = Within (by_word (option_map_or claims o (no_claims 0))) (option_map_or (λ (i : ℕ × List ℤ). plain fixed (cut_at (nest_in job) i)) o Finished)

  holds_tree : (o : Option (ℕ × List ℤ)) → HoldsTree o
  unfolding IsWellFormed
  holds_tree None = tt
  holds_tree (Some i) = (within_turns sizes fixed (by_word (claims i)) (turn_in (arrays_of job.program.decls) (bodies_of job.program) i.0 i.1)).0 (claims_hold_turns job.program runs.formed.0 runs.formed.1 job.opening.words i.0 i.1)

  of_words : (o : Option (ℕ × List ℤ)) (w : ℕ) → claimed (by_word (option_map_or claims o (no_claims 0))) w ≡ true → w < sum sizes
  of_words None w is = absurd (true≢false (sym is))
  of_words (Some i) w is = ⊎_elim
      (flagged_below (is_claimed sizes (steps_met job.program job.opening.words i) false) (sum sizes) w)
      (flagged_below (is_claimed sizes (steps_met job.program job.opening.words i) true) (sum sizes) w)
      (or_cases _ _ is)

pub are_held : {S : Type 0} (signs : Signs S) (first : Engine S) → CanRun first.job → AreHeld (setup_in signs first) (nest_in first.job) (claims_due first.job) (words_due first.job)
are_held signs first runs = record {
  held = λ k. holds_tree first.job runs (iteration_at (nest_in first.job) k);
  inside = λ k. of_words first.job runs (iteration_at (nest_in first.job) k);
}
