use Rattle.std.proofs.Common.{◌≡◌, ◌≤◌, ℕ, ◌<◌, true, slice_index}
use Rattle.nest_lex.specs.Bytes.{is_word_byte}
use Rattle.nest_lex.proofs.scan.word_end.Given as goal

abbrev pub invariant-loop-at : goal.invariant-loop-at
invariant-loop-at l = (k : ℕ) → l.from ≤ k → k < l.at → is_word_byte (slice_index l.bytes k) ≡ true
