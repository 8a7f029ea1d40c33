-- Facts of each keyword and each mark.
use Rattle.std.proofs.Common.{◌≡◌, ℕ, ◌-◌, ◌≤◌, Bool, true, false, List, length, take, refl, arith, slice_index}
use Rattle.std.specs.List.{list_all}
use Rattle.nest_lex.specs.Bytes.{is_word_byte, is_digit, is_blank}
use Rattle.nest_lex.specs.Scans.{is_newer}
use Rattle.nest_lex.specs.Spelling.{keyword_text, mark_text}
use Rattle.nest_lex.specs.declared.token.Keyword.{Keyword}
use Rattle.nest_lex.specs.declared.token.Keyword.TheVariants as keyword
use Rattle.nest_lex.specs.declared.token.Mark.{Mark}
use Rattle.nest_lex.specs.declared.token.Mark.TheVariants as mark

-- a keyword is a word
pub keyword_words : (k : Keyword) → list_all is_word_byte (keyword_text k) ≡ true
keyword_words keyword.Auto = refl
keyword_words keyword.Break = refl
keyword_words keyword.Case = refl
keyword_words keyword.Char = refl
keyword_words keyword.Const = refl
keyword_words keyword.Continue = refl
keyword_words keyword.Default = refl
keyword_words keyword.Do = refl
keyword_words keyword.Double = refl
keyword_words keyword.Else = refl
keyword_words keyword.Enum = refl
keyword_words keyword.Extern = refl
keyword_words keyword.Float = refl
keyword_words keyword.For = refl
keyword_words keyword.Goto = refl
keyword_words keyword.If = refl
keyword_words keyword.Inline = refl
keyword_words keyword.Int = refl
keyword_words keyword.Long = refl
keyword_words keyword.Register = refl
keyword_words keyword.Restrict = refl
keyword_words keyword.Return = refl
keyword_words keyword.Short = refl
keyword_words keyword.Signed = refl
keyword_words keyword.Sizeof = refl
keyword_words keyword.Static = refl
keyword_words keyword.Struct = refl
keyword_words keyword.Switch = refl
keyword_words keyword.Typedef = refl
keyword_words keyword.Union = refl
keyword_words keyword.Unsigned = refl
keyword_words keyword.Void = refl
keyword_words keyword.Volatile = refl
keyword_words keyword.While = refl
keyword_words keyword.Bool = refl
keyword_words keyword.Complex = refl
keyword_words keyword.Imaginary = refl

-- that begins with no digit
pub keyword_begins : (k : Keyword) → is_digit (slice_index (keyword_text k) 0) ≡ false
keyword_begins keyword.Auto = refl
keyword_begins keyword.Break = refl
keyword_begins keyword.Case = refl
keyword_begins keyword.Char = refl
keyword_begins keyword.Const = refl
keyword_begins keyword.Continue = refl
keyword_begins keyword.Default = refl
keyword_begins keyword.Do = refl
keyword_begins keyword.Double = refl
keyword_begins keyword.Else = refl
keyword_begins keyword.Enum = refl
keyword_begins keyword.Extern = refl
keyword_begins keyword.Float = refl
keyword_begins keyword.For = refl
keyword_begins keyword.Goto = refl
keyword_begins keyword.If = refl
keyword_begins keyword.Inline = refl
keyword_begins keyword.Int = refl
keyword_begins keyword.Long = refl
keyword_begins keyword.Register = refl
keyword_begins keyword.Restrict = refl
keyword_begins keyword.Return = refl
keyword_begins keyword.Short = refl
keyword_begins keyword.Signed = refl
keyword_begins keyword.Sizeof = refl
keyword_begins keyword.Static = refl
keyword_begins keyword.Struct = refl
keyword_begins keyword.Switch = refl
keyword_begins keyword.Typedef = refl
keyword_begins keyword.Union = refl
keyword_begins keyword.Unsigned = refl
keyword_begins keyword.Void = refl
keyword_begins keyword.Volatile = refl
keyword_begins keyword.While = refl
keyword_begins keyword.Bool = refl
keyword_begins keyword.Complex = refl
keyword_begins keyword.Imaginary = refl

pub keyword_some : (k : Keyword) → 1 ≤ length (keyword_text k)
keyword_some keyword.Auto = omega arith
keyword_some keyword.Break = omega arith
keyword_some keyword.Case = omega arith
keyword_some keyword.Char = omega arith
keyword_some keyword.Const = omega arith
keyword_some keyword.Continue = omega arith
keyword_some keyword.Default = omega arith
keyword_some keyword.Do = omega arith
keyword_some keyword.Double = omega arith
keyword_some keyword.Else = omega arith
keyword_some keyword.Enum = omega arith
keyword_some keyword.Extern = omega arith
keyword_some keyword.Float = omega arith
keyword_some keyword.For = omega arith
keyword_some keyword.Goto = omega arith
keyword_some keyword.If = omega arith
keyword_some keyword.Inline = omega arith
keyword_some keyword.Int = omega arith
keyword_some keyword.Long = omega arith
keyword_some keyword.Register = omega arith
keyword_some keyword.Restrict = omega arith
keyword_some keyword.Return = omega arith
keyword_some keyword.Short = omega arith
keyword_some keyword.Signed = omega arith
keyword_some keyword.Sizeof = omega arith
keyword_some keyword.Static = omega arith
keyword_some keyword.Struct = omega arith
keyword_some keyword.Switch = omega arith
keyword_some keyword.Typedef = omega arith
keyword_some keyword.Union = omega arith
keyword_some keyword.Unsigned = omega arith
keyword_some keyword.Void = omega arith
keyword_some keyword.Volatile = omega arith
keyword_some keyword.While = omega arith
keyword_some keyword.Bool = omega arith
keyword_some keyword.Complex = omega arith
keyword_some keyword.Imaginary = omega arith

-- a mark begins with no word byte
pub mark_begins : (m : Mark) → is_word_byte (slice_index (mark_text m) 0) ≡ false
mark_begins mark.OpenRound = refl
mark_begins mark.CloseRound = refl
mark_begins mark.OpenSquare = refl
mark_begins mark.CloseSquare = refl
mark_begins mark.OpenCurly = refl
mark_begins mark.CloseCurly = refl
mark_begins mark.Semicolon = refl
mark_begins mark.Question = refl
mark_begins mark.Colon = refl
mark_begins mark.Assign = refl
mark_begins mark.PlusAssign = refl
mark_begins mark.MinusAssign = refl
mark_begins mark.TimesAssign = refl
mark_begins mark.DivideAssign = refl
mark_begins mark.RemainderAssign = refl
mark_begins mark.ShiftLeftAssign = refl
mark_begins mark.ShiftRightAssign = refl
mark_begins mark.AndAssign = refl
mark_begins mark.XorAssign = refl
mark_begins mark.OrAssign = refl
mark_begins mark.OrOr = refl
mark_begins mark.AndAnd = refl
mark_begins mark.Or = refl
mark_begins mark.Xor = refl
mark_begins mark.And = refl
mark_begins mark.Equal = refl
mark_begins mark.NotEqual = refl
mark_begins mark.Less = refl
mark_begins mark.LessEqual = refl
mark_begins mark.More = refl
mark_begins mark.MoreEqual = refl
mark_begins mark.ShiftLeft = refl
mark_begins mark.ShiftRight = refl
mark_begins mark.Plus = refl
mark_begins mark.Minus = refl
mark_begins mark.Times = refl
mark_begins mark.Divide = refl
mark_begins mark.Remainder = refl
mark_begins mark.Not = refl
mark_begins mark.Flip = refl
mark_begins mark.Increment = refl
mark_begins mark.Decrement = refl

pub mark_no_blank : (m : Mark) → is_blank (slice_index (mark_text m) 0) ≡ false
mark_no_blank mark.OpenRound = refl
mark_no_blank mark.CloseRound = refl
mark_no_blank mark.OpenSquare = refl
mark_no_blank mark.CloseSquare = refl
mark_no_blank mark.OpenCurly = refl
mark_no_blank mark.CloseCurly = refl
mark_no_blank mark.Semicolon = refl
mark_no_blank mark.Question = refl
mark_no_blank mark.Colon = refl
mark_no_blank mark.Assign = refl
mark_no_blank mark.PlusAssign = refl
mark_no_blank mark.MinusAssign = refl
mark_no_blank mark.TimesAssign = refl
mark_no_blank mark.DivideAssign = refl
mark_no_blank mark.RemainderAssign = refl
mark_no_blank mark.ShiftLeftAssign = refl
mark_no_blank mark.ShiftRightAssign = refl
mark_no_blank mark.AndAssign = refl
mark_no_blank mark.XorAssign = refl
mark_no_blank mark.OrAssign = refl
mark_no_blank mark.OrOr = refl
mark_no_blank mark.AndAnd = refl
mark_no_blank mark.Or = refl
mark_no_blank mark.Xor = refl
mark_no_blank mark.And = refl
mark_no_blank mark.Equal = refl
mark_no_blank mark.NotEqual = refl
mark_no_blank mark.Less = refl
mark_no_blank mark.LessEqual = refl
mark_no_blank mark.More = refl
mark_no_blank mark.MoreEqual = refl
mark_no_blank mark.ShiftLeft = refl
mark_no_blank mark.ShiftRight = refl
mark_no_blank mark.Plus = refl
mark_no_blank mark.Minus = refl
mark_no_blank mark.Times = refl
mark_no_blank mark.Divide = refl
mark_no_blank mark.Remainder = refl
mark_no_blank mark.Not = refl
mark_no_blank mark.Flip = refl
mark_no_blank mark.Increment = refl
mark_no_blank mark.Decrement = refl

pub mark_some : (m : Mark) → 1 ≤ length (mark_text m)
mark_some mark.OpenRound = omega arith
mark_some mark.CloseRound = omega arith
mark_some mark.OpenSquare = omega arith
mark_some mark.CloseSquare = omega arith
mark_some mark.OpenCurly = omega arith
mark_some mark.CloseCurly = omega arith
mark_some mark.Semicolon = omega arith
mark_some mark.Question = omega arith
mark_some mark.Colon = omega arith
mark_some mark.Assign = omega arith
mark_some mark.PlusAssign = omega arith
mark_some mark.MinusAssign = omega arith
mark_some mark.TimesAssign = omega arith
mark_some mark.DivideAssign = omega arith
mark_some mark.RemainderAssign = omega arith
mark_some mark.ShiftLeftAssign = omega arith
mark_some mark.ShiftRightAssign = omega arith
mark_some mark.AndAssign = omega arith
mark_some mark.XorAssign = omega arith
mark_some mark.OrAssign = omega arith
mark_some mark.OrOr = omega arith
mark_some mark.AndAnd = omega arith
mark_some mark.Or = omega arith
mark_some mark.Xor = omega arith
mark_some mark.And = omega arith
mark_some mark.Equal = omega arith
mark_some mark.NotEqual = omega arith
mark_some mark.Less = omega arith
mark_some mark.LessEqual = omega arith
mark_some mark.More = omega arith
mark_some mark.MoreEqual = omega arith
mark_some mark.ShiftLeft = omega arith
mark_some mark.ShiftRight = omega arith
mark_some mark.Plus = omega arith
mark_some mark.Minus = omega arith
mark_some mark.Times = omega arith
mark_some mark.Divide = omega arith
mark_some mark.Remainder = omega arith
mark_some mark.Not = omega arith
mark_some mark.Flip = omega arith
mark_some mark.Increment = omega arith
mark_some mark.Decrement = omega arith

-- the mark without its last byte
pub front_of : Mark → Mark
front_of mark.OpenRound = mark.OpenRound
front_of mark.CloseRound = mark.CloseRound
front_of mark.OpenSquare = mark.OpenSquare
front_of mark.CloseSquare = mark.CloseSquare
front_of mark.OpenCurly = mark.OpenCurly
front_of mark.CloseCurly = mark.CloseCurly
front_of mark.Semicolon = mark.Semicolon
front_of mark.Question = mark.Question
front_of mark.Colon = mark.Colon
front_of mark.Assign = mark.Assign
front_of mark.PlusAssign = mark.Plus
front_of mark.MinusAssign = mark.Minus
front_of mark.TimesAssign = mark.Times
front_of mark.DivideAssign = mark.Divide
front_of mark.RemainderAssign = mark.Remainder
front_of mark.ShiftLeftAssign = mark.ShiftLeft
front_of mark.ShiftRightAssign = mark.ShiftRight
front_of mark.AndAssign = mark.And
front_of mark.XorAssign = mark.Xor
front_of mark.OrAssign = mark.Or
front_of mark.OrOr = mark.Or
front_of mark.AndAnd = mark.And
front_of mark.Or = mark.Or
front_of mark.Xor = mark.Xor
front_of mark.And = mark.And
front_of mark.Equal = mark.Assign
front_of mark.NotEqual = mark.Not
front_of mark.Less = mark.Less
front_of mark.LessEqual = mark.Less
front_of mark.More = mark.More
front_of mark.MoreEqual = mark.More
front_of mark.ShiftLeft = mark.Less
front_of mark.ShiftRight = mark.More
front_of mark.Plus = mark.Plus
front_of mark.Minus = mark.Minus
front_of mark.Times = mark.Times
front_of mark.Divide = mark.Divide
front_of mark.Remainder = mark.Remainder
front_of mark.Not = mark.Not
front_of mark.Flip = mark.Flip
front_of mark.Increment = mark.Plus
front_of mark.Decrement = mark.Minus

pub front_text : (m : Mark) → 2 ≤ length (mark_text m) → mark_text (front_of m) ≡ take (length (mark_text m) - 1) (mark_text m)
unfolding front_of
front_text mark.OpenRound two = absurd (omega arith)
front_text mark.CloseRound two = absurd (omega arith)
front_text mark.OpenSquare two = absurd (omega arith)
front_text mark.CloseSquare two = absurd (omega arith)
front_text mark.OpenCurly two = absurd (omega arith)
front_text mark.CloseCurly two = absurd (omega arith)
front_text mark.Semicolon two = absurd (omega arith)
front_text mark.Question two = absurd (omega arith)
front_text mark.Colon two = absurd (omega arith)
front_text mark.Assign two = absurd (omega arith)
front_text mark.PlusAssign two = refl
front_text mark.MinusAssign two = refl
front_text mark.TimesAssign two = refl
front_text mark.DivideAssign two = refl
front_text mark.RemainderAssign two = refl
front_text mark.ShiftLeftAssign two = refl
front_text mark.ShiftRightAssign two = refl
front_text mark.AndAssign two = refl
front_text mark.XorAssign two = refl
front_text mark.OrAssign two = refl
front_text mark.OrOr two = refl
front_text mark.AndAnd two = refl
front_text mark.Or two = absurd (omega arith)
front_text mark.Xor two = absurd (omega arith)
front_text mark.And two = absurd (omega arith)
front_text mark.Equal two = refl
front_text mark.NotEqual two = refl
front_text mark.Less two = absurd (omega arith)
front_text mark.LessEqual two = refl
front_text mark.More two = absurd (omega arith)
front_text mark.MoreEqual two = refl
front_text mark.ShiftLeft two = refl
front_text mark.ShiftRight two = refl
front_text mark.Plus two = absurd (omega arith)
front_text mark.Minus two = absurd (omega arith)
front_text mark.Times two = absurd (omega arith)
front_text mark.Divide two = absurd (omega arith)
front_text mark.Remainder two = absurd (omega arith)
front_text mark.Not two = absurd (omega arith)
front_text mark.Flip two = absurd (omega arith)
front_text mark.Increment two = refl
front_text mark.Decrement two = refl

-- a word that is no older and no newer keyword is none
pub no_keyword : (word : List ℕ) → ((k : Keyword) → is_newer k ≡ false → keyword_text k ≡ word → ⊥) → ((k : Keyword) → is_newer k ≡ true → keyword_text k ≡ word → ⊥)
    → (k : Keyword) → keyword_text k ≡ word → ⊥
no_keyword word older newer k same = by (is_newer k) refl
  where
    by : (b : Bool) → is_newer k ≡ b → ⊥
    by true e = newer k e same
    by false e = older k e same
