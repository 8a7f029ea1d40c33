-- What a parse of words finds. No public contract needs it.
use Rattle.std.specs.Prelude.{◌≡◌, false, List, Some, is_some, codes, if◌then◌else◌}
use Rattle.std.specs.Str.{bytes_eq}
use Rattle.clap.specs.Words.{first_value, found_of, one_text}
use Rattle.clap.specs.declared.parser.matches.ArgMatches.{ArgMatches}
use Rattle.word_texts.specs.Spelling.{Text, Pair, Give, text_of}

-- the texts of the pairs that the words give; the flag reads `true` or `false`
pub record Finds (words : List Text) (m : ArgMatches) : Type 0 where
  pub given : List Pair
  pub give : Give words given
  pub texts : (name : Text) → bytes_eq (codes "record") name ≡ false → first_value (found_of m) name ≡ text_of name given
  pub flag : one_text (found_of m) (codes "record") ≡ Some (if is_some (text_of (codes "record") given) then codes "true" else codes "false")
