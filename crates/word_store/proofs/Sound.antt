-- A memory stays sound where a word is written. For the crates above.
use Rattle.std.proofs.Common.{ℕ, ℤ, Option, Some, None, FitsSigned, w64, ◌∙◌}
use Rattle.std.specs.Option.{option_map_or}
use Rattle.nest_syntax.specs.Arrays.{with_word}
use Rattle.nest_syntax.proofs.Places.{length-with_word, words-with_word}
use Rattle.word_store.specs.Memory.{Memory, IsSound, number_at, stored}

IsSound-with_word : (memory : Memory) (number : Option ℕ) (value : ℤ) → IsSound memory → FitsSigned w64 value
    → IsSound (option_map_or (λ n. record memory { words = with_word memory.words n value }) number memory)
IsSound-with_word memory None value sound fits = sound
IsSound-with_word memory (Some n) value sound fits = record {
  as_many = length-with_word memory.words n value ∙ sound.as_many;
  few = sound.few;
  each = λ m. words-with_word memory.words n m value sound.each fits;
}

-- a memory stays sound where a word is written
pub IsSound-stored : (memory : Memory) (array : ℕ) (at value : ℤ) → IsSound memory → FitsSigned w64 value → IsSound (stored memory array at value)
IsSound-stored memory array at value sound fits = IsSound-with_word memory (number_at memory.sizes array at) value sound fits
