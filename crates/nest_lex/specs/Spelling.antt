-- How the bytes of a token are written.
use Rattle.std.specs.Prelude.{◌≡◌, ℕ, ◌+◌, ◌-◌, ◌*◌, ◌≤◌, Bool, true, ◌==◌, ◌&&◌, not, nat_le, if◌then◌else◌, Option, Some, None, List, length, slice_index, codes, fold}
use Rattle.std.specs.List.{list_all}
use Rattle.nest_lex.specs.Bytes.{is_letter, is_digit, is_word_byte}
use Rattle.nest_lex.specs.declared.token.Keyword.{Keyword}
use Rattle.nest_lex.specs.declared.token.Keyword.TheVariants as keyword
use Rattle.nest_lex.specs.declared.token.Mark.{Mark}
use Rattle.nest_lex.specs.declared.token.Mark.TheVariants as mark
use Rattle.nest_lex.specs.declared.piece.Piece.{Piece}
use Rattle.nest_lex.specs.declared.piece.Piece.TheVariants as piece

-- how a keyword is written
abbrev pub keyword_text : Keyword → List ℕ
keyword_text keyword.Auto = codes "auto"
keyword_text keyword.Break = codes "break"
keyword_text keyword.Case = codes "case"
keyword_text keyword.Char = codes "char"
keyword_text keyword.Const = codes "const"
keyword_text keyword.Continue = codes "continue"
keyword_text keyword.Default = codes "default"
keyword_text keyword.Do = codes "do"
keyword_text keyword.Double = codes "double"
keyword_text keyword.Else = codes "else"
keyword_text keyword.Enum = codes "enum"
keyword_text keyword.Extern = codes "extern"
keyword_text keyword.Float = codes "float"
keyword_text keyword.For = codes "for"
keyword_text keyword.Goto = codes "goto"
keyword_text keyword.If = codes "if"
keyword_text keyword.Inline = codes "inline"
keyword_text keyword.Int = codes "int"
keyword_text keyword.Long = codes "long"
keyword_text keyword.Register = codes "register"
keyword_text keyword.Restrict = codes "restrict"
keyword_text keyword.Return = codes "return"
keyword_text keyword.Short = codes "short"
keyword_text keyword.Signed = codes "signed"
keyword_text keyword.Sizeof = codes "sizeof"
keyword_text keyword.Static = codes "static"
keyword_text keyword.Struct = codes "struct"
keyword_text keyword.Switch = codes "switch"
keyword_text keyword.Typedef = codes "typedef"
keyword_text keyword.Union = codes "union"
keyword_text keyword.Unsigned = codes "unsigned"
keyword_text keyword.Void = codes "void"
keyword_text keyword.Volatile = codes "volatile"
keyword_text keyword.While = codes "while"
keyword_text keyword.Bool = codes "_Bool"
keyword_text keyword.Complex = codes "_Complex"
keyword_text keyword.Imaginary = codes "_Imaginary"

-- how a mark is written
abbrev pub mark_text : Mark → List ℕ
mark_text mark.OpenRound = codes "("
mark_text mark.CloseRound = codes ")"
mark_text mark.OpenSquare = codes "["
mark_text mark.CloseSquare = codes "]"
mark_text mark.OpenCurly = codes "{"
mark_text mark.CloseCurly = codes "}"
mark_text mark.Semicolon = codes ";"
mark_text mark.Question = codes "?"
mark_text mark.Colon = codes ":"
mark_text mark.Assign = codes "="
mark_text mark.PlusAssign = codes "+="
mark_text mark.MinusAssign = codes "-="
mark_text mark.TimesAssign = codes "*="
mark_text mark.DivideAssign = codes "/="
mark_text mark.RemainderAssign = codes "%="
mark_text mark.ShiftLeftAssign = codes "<<="
mark_text mark.ShiftRightAssign = codes ">>="
mark_text mark.AndAssign = codes "&="
mark_text mark.XorAssign = codes "^="
mark_text mark.OrAssign = codes "|="
mark_text mark.OrOr = codes "||"
mark_text mark.AndAnd = codes "&&"
mark_text mark.Or = codes "|"
mark_text mark.Xor = codes "^"
mark_text mark.And = codes "&"
mark_text mark.Equal = codes "=="
mark_text mark.NotEqual = codes "!="
mark_text mark.Less = codes "<"
mark_text mark.LessEqual = codes "<="
mark_text mark.More = codes ">"
mark_text mark.MoreEqual = codes ">="
mark_text mark.ShiftLeft = codes "<<"
mark_text mark.ShiftRight = codes ">>"
mark_text mark.Plus = codes "+"
mark_text mark.Minus = codes "-"
mark_text mark.Times = codes "*"
mark_text mark.Divide = codes "/"
mark_text mark.Remainder = codes "%"
mark_text mark.Not = codes "!"
mark_text mark.Flip = codes "~"
mark_text mark.Increment = codes "++"
mark_text mark.Decrement = codes "--"

-- a letter and what a name goes on with, and no keyword
pub record IsName (bytes : List ℕ) : Type 0 where
  pub begins : is_letter (slice_index bytes 0) ≡ true
  pub goes_on : list_all is_word_byte bytes ≡ true
  pub no_keyword : (k : Keyword) → keyword_text k ≡ bytes → ⊥

-- what decimal digits say
abbrev pub decimal : List ℕ → ℕ
decimal bytes = fold (λ value digit. 10 * value + (digit - 48)) 0 bytes

-- at least one digit, and nothing else
abbrev pub are_digits : List ℕ → Bool
are_digits bytes = not (length bytes == 0) && list_all is_digit bytes

-- what digits say, where it is at most so much. There may be zeros in front.
abbrev pub number_within : ℕ → List ℕ → Option ℕ
number_within most bytes = if are_digits bytes && nat_le (decimal bytes) most then Some (decimal bytes) else None

-- digits that say n, at most 2^63 - 1. The first is 0 only where it is the only one.
pub record IsNumber (bytes : List ℕ) (n : ℕ) : Type 0 where
  pub some : 1 ≤ length bytes
  pub digits : list_all is_digit bytes ≡ true
  pub lone_zero : slice_index bytes 0 ≡ 48 → length bytes ≡ 1
  pub says : decimal bytes ≡ n
  pub small : n ≤ 9223372036854775807

-- these bytes spell that piece
abbrev pub Spells : Piece → List ℕ → Type 0
Spells piece.Name bytes = IsName bytes
Spells (piece.Number n) bytes = IsNumber bytes n
Spells (piece.Keyword k) bytes = keyword_text k ≡ bytes
Spells (piece.Mark m) bytes = mark_text m ≡ bytes
