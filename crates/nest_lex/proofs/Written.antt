-- No two keywords, and no two marks, are written alike.
use Rattle.std.proofs.Common.{◌≡◌, ℕ, List, [], ◌∷◌, Option, Some, refl, sym, ap, ◌∙◌}
use Rattle.std.specs.List.{find}
use Rattle.std.specs.Str.{bytes_eq}
use Rattle.nest_lex.specs.Spelling.{keyword_text, mark_text}
use Rattle.nest_lex.specs.declared.token.Keyword.{Keyword}
use Rattle.nest_lex.specs.declared.token.Keyword.TheVariants as keyword
use Rattle.nest_lex.specs.declared.token.Mark.{Mark}
use Rattle.nest_lex.specs.declared.token.Mark.TheVariants as mark

all_keywords : List Keyword
all_keywords = keyword.Auto ∷ keyword.Break ∷ keyword.Case ∷ keyword.Char ∷ keyword.Const ∷ keyword.Continue ∷ keyword.Default ∷ keyword.Do ∷ keyword.Double ∷ keyword.Else ∷ keyword.Enum ∷ keyword.Extern ∷ keyword.Float ∷ keyword.For ∷ keyword.Goto ∷ keyword.If ∷ keyword.Inline ∷ keyword.Int ∷ keyword.Long ∷ keyword.Register ∷ keyword.Restrict ∷ keyword.Return ∷ keyword.Short ∷ keyword.Signed ∷ keyword.Sizeof ∷ keyword.Static ∷ keyword.Struct ∷ keyword.Switch ∷ keyword.Typedef ∷ keyword.Union ∷ keyword.Unsigned ∷ keyword.Void ∷ keyword.Volatile ∷ keyword.While ∷ keyword.Bool ∷ keyword.Complex ∷ keyword.Imaginary ∷ []

all_marks : List Mark
all_marks = mark.OpenRound ∷ mark.CloseRound ∷ mark.OpenSquare ∷ mark.CloseSquare ∷ mark.OpenCurly ∷ mark.CloseCurly ∷ mark.Semicolon ∷ mark.Question ∷ mark.Colon ∷ mark.Assign ∷ mark.PlusAssign ∷ mark.MinusAssign ∷ mark.TimesAssign ∷ mark.DivideAssign ∷ mark.RemainderAssign ∷ mark.ShiftLeftAssign ∷ mark.ShiftRightAssign ∷ mark.AndAssign ∷ mark.XorAssign ∷ mark.OrAssign ∷ mark.OrOr ∷ mark.AndAnd ∷ mark.Or ∷ mark.Xor ∷ mark.And ∷ mark.Equal ∷ mark.NotEqual ∷ mark.Less ∷ mark.LessEqual ∷ mark.More ∷ mark.MoreEqual ∷ mark.ShiftLeft ∷ mark.ShiftRight ∷ mark.Plus ∷ mark.Minus ∷ mark.Times ∷ mark.Divide ∷ mark.Remainder ∷ mark.Not ∷ mark.Flip ∷ mark.Increment ∷ mark.Decrement ∷ []

-- the keyword that is written so
keyword_written : List ℕ → Option Keyword
keyword_written bytes = find (λ k. bytes_eq (keyword_text k) bytes) all_keywords

mark_written : List ℕ → Option Mark
mark_written bytes = find (λ m. bytes_eq (mark_text m) bytes) all_marks

written_keyword : (k : Keyword) → keyword_written (keyword_text k) ≡ Some k
unfolding keyword_written all_keywords
written_keyword keyword.Auto = refl
written_keyword keyword.Break = refl
written_keyword keyword.Case = refl
written_keyword keyword.Char = refl
written_keyword keyword.Const = refl
written_keyword keyword.Continue = refl
written_keyword keyword.Default = refl
written_keyword keyword.Do = refl
written_keyword keyword.Double = refl
written_keyword keyword.Else = refl
written_keyword keyword.Enum = refl
written_keyword keyword.Extern = refl
written_keyword keyword.Float = refl
written_keyword keyword.For = refl
written_keyword keyword.Goto = refl
written_keyword keyword.If = refl
written_keyword keyword.Inline = refl
written_keyword keyword.Int = refl
written_keyword keyword.Long = refl
written_keyword keyword.Register = refl
written_keyword keyword.Restrict = refl
written_keyword keyword.Return = refl
written_keyword keyword.Short = refl
written_keyword keyword.Signed = refl
written_keyword keyword.Sizeof = refl
written_keyword keyword.Static = refl
written_keyword keyword.Struct = refl
written_keyword keyword.Switch = refl
written_keyword keyword.Typedef = refl
written_keyword keyword.Union = refl
written_keyword keyword.Unsigned = refl
written_keyword keyword.Void = refl
written_keyword keyword.Volatile = refl
written_keyword keyword.While = refl
written_keyword keyword.Bool = refl
written_keyword keyword.Complex = refl
written_keyword keyword.Imaginary = refl

written_mark : (m : Mark) → mark_written (mark_text m) ≡ Some m
unfolding mark_written all_marks
written_mark mark.OpenRound = refl
written_mark mark.CloseRound = refl
written_mark mark.OpenSquare = refl
written_mark mark.CloseSquare = refl
written_mark mark.OpenCurly = refl
written_mark mark.CloseCurly = refl
written_mark mark.Semicolon = refl
written_mark mark.Question = refl
written_mark mark.Colon = refl
written_mark mark.Assign = refl
written_mark mark.PlusAssign = refl
written_mark mark.MinusAssign = refl
written_mark mark.TimesAssign = refl
written_mark mark.DivideAssign = refl
written_mark mark.RemainderAssign = refl
written_mark mark.ShiftLeftAssign = refl
written_mark mark.ShiftRightAssign = refl
written_mark mark.AndAssign = refl
written_mark mark.XorAssign = refl
written_mark mark.OrAssign = refl
written_mark mark.OrOr = refl
written_mark mark.AndAnd = refl
written_mark mark.Or = refl
written_mark mark.Xor = refl
written_mark mark.And = refl
written_mark mark.Equal = refl
written_mark mark.NotEqual = refl
written_mark mark.Less = refl
written_mark mark.LessEqual = refl
written_mark mark.More = refl
written_mark mark.MoreEqual = refl
written_mark mark.ShiftLeft = refl
written_mark mark.ShiftRight = refl
written_mark mark.Plus = refl
written_mark mark.Minus = refl
written_mark mark.Times = refl
written_mark mark.Divide = refl
written_mark mark.Remainder = refl
written_mark mark.Not = refl
written_mark mark.Flip = refl
written_mark mark.Increment = refl
written_mark mark.Decrement = refl

pub one_keyword : (k l : Keyword) → keyword_text k ≡ keyword_text l → k ≡ l
one_keyword k l same = let e = sym (written_keyword k) ∙ ap keyword_written same ∙ written_keyword l in cc

pub one_mark : (m n : Mark) → mark_text m ≡ mark_text n → m ≡ n
one_mark m n same = let e = sym (written_mark m) ∙ ap mark_written same ∙ written_mark n in cc
