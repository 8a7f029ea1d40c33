-- The operators, each with its mark.
use Rattle.std.proofs.Common.{◌≡◌, ℕ, ◌<◌, Bool, true, false, Some, List, [], ◌∷◌, ◌++◌, refl, arith}
use Rattle.nest_syntax.specs.declared.operators.Un.{Un}
use Rattle.nest_syntax.specs.declared.operators.Un.TheVariants as un
use Rattle.nest_syntax.specs.declared.operators.Bin.{Bin}
use Rattle.nest_syntax.specs.declared.operators.Bin.TheVariants as bin
use Rattle.nest_syntax.specs.declared.operators.Op.{Op}
use Rattle.nest_syntax.specs.declared.operators.Op.TheVariants as op
use Rattle.nest_lex.specs.Spelling.{mark_text}
use Rattle.nest_lex.specs.declared.token.Mark.{Mark}
use Rattle.nest_lex.specs.declared.token.Mark.TheVariants as mark
use Rattle.nest_lex.specs.declared.token.Kind.TheVariants as kind
use Rattle.nest_parse.specs.Grammar.{binary, unary, assignment, comparison}
use Rattle.nest_print.specs.Canonical.{unary_text, binary_text, assignment_text, comparison_text, is_tight}
use Rattle.nest_print.proofs.Takes.{opens}

-- a binary operator has spaces round its mark, and its level
pub record Binary (o : Bin) : Type 0 where
  pub sign : Mark
  pub depth : ℕ
  pub shown : binary_text o ≡ 32 ∷ (mark_text sign ++ 32 ∷ [])
  pub found : binary (kind.Mark sign) ≡ Some (depth, o)
  pub plain : (rest : List ℕ) → opens (mark_text sign ++ 32 ∷ rest) ≡ false
  pub deep : depth < 10
  pub tight : is_tight o ≡ true → depth < 3

pub binary_of : (o : Bin) → Binary o
binary_of bin.Add = record { sign = mark.Plus; depth = 1; shown = refl; found = refl; plain = λ rest. refl; deep = omega arith; tight = λ tight. omega arith }
binary_of bin.Sub = record { sign = mark.Minus; depth = 1; shown = refl; found = refl; plain = λ rest. refl; deep = omega arith; tight = λ tight. omega arith }
binary_of bin.Mul = record { sign = mark.Times; depth = 0; shown = refl; found = refl; plain = λ rest. refl; deep = omega arith; tight = λ tight. omega arith }
binary_of bin.Div = record { sign = mark.Divide; depth = 0; shown = refl; found = refl; plain = λ rest. refl; deep = omega arith; tight = λ tight. omega arith }
binary_of bin.Rem = record { sign = mark.Remainder; depth = 0; shown = refl; found = refl; plain = λ rest. refl; deep = omega arith; tight = λ tight. omega arith }
binary_of bin.Shl = record { sign = mark.ShiftLeft; depth = 2; shown = refl; found = refl; plain = λ rest. refl; deep = omega arith; tight = λ tight. omega arith }
binary_of bin.Shr = record { sign = mark.ShiftRight; depth = 2; shown = refl; found = refl; plain = λ rest. refl; deep = omega arith; tight = λ tight. omega arith }
binary_of bin.And = record { sign = mark.And; depth = 5; shown = refl; found = refl; plain = λ rest. refl; deep = omega arith; tight = λ tight. cc }
binary_of bin.Xor = record { sign = mark.Xor; depth = 6; shown = refl; found = refl; plain = λ rest. refl; deep = omega arith; tight = λ tight. cc }
binary_of bin.Or = record { sign = mark.Or; depth = 7; shown = refl; found = refl; plain = λ rest. refl; deep = omega arith; tight = λ tight. cc }
binary_of bin.Less = record { sign = mark.Less; depth = 3; shown = refl; found = refl; plain = λ rest. refl; deep = omega arith; tight = λ tight. cc }
binary_of bin.LessEq = record { sign = mark.LessEqual; depth = 3; shown = refl; found = refl; plain = λ rest. refl; deep = omega arith; tight = λ tight. cc }
binary_of bin.More = record { sign = mark.More; depth = 3; shown = refl; found = refl; plain = λ rest. refl; deep = omega arith; tight = λ tight. cc }
binary_of bin.MoreEq = record { sign = mark.MoreEqual; depth = 3; shown = refl; found = refl; plain = λ rest. refl; deep = omega arith; tight = λ tight. cc }
binary_of bin.Equal = record { sign = mark.Equal; depth = 4; shown = refl; found = refl; plain = λ rest. refl; deep = omega arith; tight = λ tight. cc }
binary_of bin.NotEqual = record { sign = mark.NotEqual; depth = 4; shown = refl; found = refl; plain = λ rest. refl; deep = omega arith; tight = λ tight. cc }
binary_of bin.Both = record { sign = mark.AndAnd; depth = 8; shown = refl; found = refl; plain = λ rest. refl; deep = omega arith; tight = λ tight. cc }
binary_of bin.Either = record { sign = mark.OrOr; depth = 9; shown = refl; found = refl; plain = λ rest. refl; deep = omega arith; tight = λ tight. cc }

-- an assignment too has spaces round its mark
pub record Assignment (o : Op) : Type 0 where
  pub sign : Mark
  pub shown : assignment_text o ≡ 32 ∷ (mark_text sign ++ 32 ∷ [])
  pub found : assignment (kind.Mark sign) ≡ Some o
  pub plain : (rest : List ℕ) → opens (mark_text sign ++ 32 ∷ rest) ≡ false

pub assignment_of : (o : Op) → Assignment o
assignment_of op.Set = record { sign = mark.Assign; shown = refl; found = refl; plain = λ rest. refl }
assignment_of op.Add = record { sign = mark.PlusAssign; shown = refl; found = refl; plain = λ rest. refl }
assignment_of op.Sub = record { sign = mark.MinusAssign; shown = refl; found = refl; plain = λ rest. refl }
assignment_of op.Mul = record { sign = mark.TimesAssign; shown = refl; found = refl; plain = λ rest. refl }
assignment_of op.Div = record { sign = mark.DivideAssign; shown = refl; found = refl; plain = λ rest. refl }
assignment_of op.Rem = record { sign = mark.RemainderAssign; shown = refl; found = refl; plain = λ rest. refl }
assignment_of op.Shl = record { sign = mark.ShiftLeftAssign; shown = refl; found = refl; plain = λ rest. refl }
assignment_of op.Shr = record { sign = mark.ShiftRightAssign; shown = refl; found = refl; plain = λ rest. refl }
assignment_of op.And = record { sign = mark.AndAssign; shown = refl; found = refl; plain = λ rest. refl }
assignment_of op.Xor = record { sign = mark.XorAssign; shown = refl; found = refl; plain = λ rest. refl }
assignment_of op.Or = record { sign = mark.OrAssign; shown = refl; found = refl; plain = λ rest. refl }

-- a unary operator stands directly before its operand
pub record Unary (o : Un) : Type 0 where
  pub sign : Mark
  pub shown : unary_text o ≡ mark_text sign
  pub found : unary (kind.Mark sign) ≡ Some o
  pub plain : (b : ℕ) (rest : List ℕ) → opens (mark_text sign ++ b ∷ rest) ≡ false

pub unary_of : (o : Un) → Unary o
unary_of un.Neg = record { sign = mark.Minus; shown = refl; found = refl; plain = λ b rest. refl }
unary_of un.Not = record { sign = mark.Not; shown = refl; found = refl; plain = λ b rest. refl }
unary_of un.Flip = record { sign = mark.Flip; shown = refl; found = refl; plain = λ b rest. refl }

-- the comparison of a loop too has spaces round its mark
pub record Compared (through : Bool) : Type 0 where
  pub sign : Mark
  pub shown : comparison_text through ≡ 32 ∷ (mark_text sign ++ 32 ∷ [])
  pub found : comparison (kind.Mark sign) ≡ Some through
  pub plain : (rest : List ℕ) → opens (mark_text sign ++ 32 ∷ rest) ≡ false

pub compared_of : (through : Bool) → Compared through
compared_of true = record { sign = mark.LessEqual; shown = refl; found = refl; plain = λ rest. refl }
compared_of false = record { sign = mark.Less; shown = refl; found = refl; plain = λ rest. refl }
