use Rattle.std.proofs.Common.{◌≡◌, ◌+◌, ◌≤◌, ◌++◌, List, ℕ, length, not, is_some}
use Rattle.std.specs.List.{filter_map, position_from}
use Rattle.step_words.specs.Steps.{actor_of, first_stranger, words_in}
use Rattle.step_words.proofs.read.read_steps.Given as goal

-- the steps and the actors of the words that are left are those of all words; the first stranger is among what is left
abbrev pub invariant-words : goal.invariant-words
invariant-words l = record {
  actors : l.steps.items ++ filter_map (actor_of l.workers) (words_in l.rest) ≡ filter_map (actor_of l.workers) (words_in l.bytes);
  strangers : position_from (λ (word : List ℕ). not (is_some (actor_of l.workers word))) l.number (words_in l.rest) ≡ first_stranger l.workers (words_in l.bytes);
  few : l.number + length l.rest ≤ length l.bytes;
}

abbrev pub decreases-words : goal.decreases-words
decreases-words l = length l.rest
