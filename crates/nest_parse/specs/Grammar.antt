-- The grammar of a nest.
use Rattle.std.specs.Prelude.{◌≡◌, ℕ, zero, suc, ◌+◌, ◌<◌, ◌≤◌, ℤ, pos, neg_ℤ, Bool, true, false, Option, Some, None, List, [], ◌∷◌, ◌++◌, length, take}
use Rattle.nest_syntax.specs.declared.names.Line.{Line}
use Rattle.nest_syntax.specs.declared.operators.Un.{Un}
use Rattle.nest_syntax.specs.declared.operators.Un.TheVariants as un
use Rattle.nest_syntax.specs.declared.operators.Bin.{Bin}
use Rattle.nest_syntax.specs.declared.operators.Bin.TheVariants as bin
use Rattle.nest_syntax.specs.declared.operators.Op.{Op}
use Rattle.nest_syntax.specs.declared.operators.Op.TheVariants as op
use Rattle.nest_syntax.specs.declared.tree.Expr.{Expr}
use Rattle.nest_syntax.specs.declared.tree.Expr.TheVariants as expr
use Rattle.nest_syntax.specs.declared.tree.Arm.{Arm}
use Rattle.nest_syntax.specs.declared.tree.Stmt.{Stmt}
use Rattle.nest_syntax.specs.declared.tree.Stmt.TheVariants as stmt
use Rattle.nest_syntax.specs.declared.tree.Loop.{Loop}
use Rattle.nest_syntax.specs.declared.tree.Decl.{Decl}
use Rattle.nest_syntax.specs.declared.tree.Decl.TheVariants as decl
use Rattle.nest_syntax.specs.declared.tree.Program.{Program}
use Rattle.nest_lex.specs.declared.token.Spot.{Spot}
use Rattle.nest_lex.specs.declared.token.Keyword.{Keyword}
use Rattle.nest_lex.specs.declared.token.Keyword.TheVariants as word
use Rattle.nest_lex.specs.declared.token.Mark.{Mark}
use Rattle.nest_lex.specs.declared.token.Mark.TheVariants as mark
use Rattle.nest_lex.specs.declared.token.Kind.{Kind}
use Rattle.nest_lex.specs.declared.token.Kind.TheVariants as kind
use Rattle.nest_lex.specs.declared.token.Token.{Token}
use Rattle.nest_lex.specs.declared.token.Tokens.{Tokens}
use Rattle.nest_parse.specs.declared.refused.ParseRefused.{ParseRefused}
use Rattle.nest_parse.specs.declared.refused.ParseRefused.TheVariants.{Syntax, NoMemory}

-- Each relation below takes tokens, what they begin with, and the tokens that follow it.

-- a token of each kind, at its place
abbrev pub token : Kind → Spot → Token
token kind spot = record { kind = kind; spot = spot }

abbrev pub sign : Mark → Spot → Token
sign m spot = token (kind.Mark m) spot

abbrev pub keyword : Keyword → Spot → Token
keyword k spot = token (kind.Keyword k) spot

abbrev pub named : ℕ → Spot → Token
named n spot = token (kind.Name n) spot

abbrev pub numeral : ℕ → Spot → Token
numeral n spot = token (kind.Number n) spot

-- the line of a place
abbrev pub line : Spot → Line
line spot = record { 0 = spot.line }

-- the greatest number of the language
abbrev pub greatest : ℕ
greatest = 9223372036854775807

-- The binary operators with their levels, from the tightest, 0, to the loosest.
abbrev pub binary : Kind → Option (ℕ × Bin)
binary (kind.Mark mark.Times) = Some (0, bin.Mul)
binary (kind.Mark mark.Divide) = Some (0, bin.Div)
binary (kind.Mark mark.Remainder) = Some (0, bin.Rem)
binary (kind.Mark mark.Plus) = Some (1, bin.Add)
binary (kind.Mark mark.Minus) = Some (1, bin.Sub)
binary (kind.Mark mark.ShiftLeft) = Some (2, bin.Shl)
binary (kind.Mark mark.ShiftRight) = Some (2, bin.Shr)
binary (kind.Mark mark.Less) = Some (3, bin.Less)
binary (kind.Mark mark.LessEqual) = Some (3, bin.LessEq)
binary (kind.Mark mark.More) = Some (3, bin.More)
binary (kind.Mark mark.MoreEqual) = Some (3, bin.MoreEq)
binary (kind.Mark mark.Equal) = Some (4, bin.Equal)
binary (kind.Mark mark.NotEqual) = Some (4, bin.NotEqual)
binary (kind.Mark mark.And) = Some (5, bin.And)
binary (kind.Mark mark.Xor) = Some (6, bin.Xor)
binary (kind.Mark mark.Or) = Some (7, bin.Or)
binary (kind.Mark mark.AndAnd) = Some (8, bin.Both)
binary (kind.Mark mark.OrOr) = Some (9, bin.Either)
binary _ = None

-- Below the first are the levels of the operators up to the shifts, below the second those of all operators.
abbrev pub shift : ℕ
shift = 3

abbrev pub loosest : ℕ
loosest = 10

abbrev pub unary : Kind → Option Un
unary (kind.Mark mark.Minus) = Some un.Neg
unary (kind.Mark mark.Not) = Some un.Not
unary (kind.Mark mark.Flip) = Some un.Flip
unary _ = None

abbrev pub assignment : Kind → Option Op
assignment (kind.Mark mark.Assign) = Some op.Set
assignment (kind.Mark mark.PlusAssign) = Some op.Add
assignment (kind.Mark mark.MinusAssign) = Some op.Sub
assignment (kind.Mark mark.TimesAssign) = Some op.Mul
assignment (kind.Mark mark.DivideAssign) = Some op.Div
assignment (kind.Mark mark.RemainderAssign) = Some op.Rem
assignment (kind.Mark mark.ShiftLeftAssign) = Some op.Shl
assignment (kind.Mark mark.ShiftRightAssign) = Some op.Shr
assignment (kind.Mark mark.AndAssign) = Some op.And
assignment (kind.Mark mark.XorAssign) = Some op.Xor
assignment (kind.Mark mark.OrAssign) = Some op.Or
assignment _ = None

-- whether a loop goes through its high bound, by the mark in its test
abbrev pub comparison : Kind → Option Bool
comparison (kind.Mark mark.Less) = Some false
comparison (kind.Mark mark.LessEqual) = Some true
comparison _ = None

mutual
  -- A number, a name, a name with a subscript, an expression in parentheses, or one of these behind unary operators.
  pub data IsFactor : List Token → Expr → List Token → Type 0 where
    a_number : {n : ℕ} {s : Spot} {r : List Token} → n ≤ greatest → IsFactor (numeral n s ∷ r) (expr.Number (pos n)) r
    a_name : {n : ℕ} {s : Spot} {r : List Token} → IsFactor (named n s ∷ r) (expr.Scalar n) r
    a_word : {n : ℕ} {s s' s'' : Spot} {ts r : List Token} {e : Expr}
        → IsExpr ts e (sign mark.CloseSquare s'' ∷ r) → IsFactor (named n s ∷ sign mark.OpenSquare s' ∷ ts) (expr.Word n e) r
    in_parentheses : {s s' : Spot} {ts r : List Token} {e : Expr}
        → IsExpr ts e (sign mark.CloseRound s' ∷ r) → IsFactor (sign mark.OpenRound s ∷ ts) e r
    signed : {k : Kind} {s : Spot} {o : Un} {ts r : List Token} {e : Expr}
        → unary k ≡ Some o → IsFactor ts e r → IsFactor (token k s ∷ ts) (expr.Unary o e) r

  -- Factors, joined by operators of the levels below the given one.
  pub data IsLevel : ℕ → List Token → Expr → List Token → Type 0 where
    tightest : {ts r : List Token} {e : Expr} → IsFactor ts e r → IsLevel zero ts e r
    level : {d : ℕ} {ts m r : List Token} {a e : Expr} → IsLevel d ts a m → IsTail d a m e r → IsLevel (suc d) ts e r

  -- What follows a left operand: nothing, or an operator of this level and a right operand. Both together are the
  -- left operand of what follows them: operators group to the left.
  pub data IsTail : ℕ → Expr → List Token → Expr → List Token → Type 0 where
    ended : {d : ℕ} {a : Expr} {r : List Token} → IsTail d a r a r
    goes_on : {d : ℕ} {k : Kind} {s : Spot} {o : Bin} {a b e : Expr} {ts m r : List Token}
        → binary k ≡ Some (d, o) → IsLevel d ts b m → IsTail d (expr.Binary o a b) m e r → IsTail d a (token k s ∷ ts) e r

  -- An expression: the operators of all levels, and behind a `?` any expression, a `:` and again one.
  pub data IsExpr : List Token → Expr → List Token → Type 0 where
    plain : {ts r : List Token} {e : Expr} → IsLevel loosest ts e r → IsExpr ts e r
    choice : {s s' : Spot} {ts m n r : List Token} {c a b : Expr}
        → IsLevel loosest ts c (sign mark.Question s ∷ m) → IsExpr m a (sign mark.Colon s' ∷ n) → IsExpr n b r → IsExpr ts (expr.Choice c a b) r

-- The step of a loop whose variable has this name: `i++`, `++i` or `i += 2`.
pub data IsStep : ℕ → List Token → ℕ → List Token → Type 0 where
  behind : {n : ℕ} {s s' : Spot} {r : List Token} → IsStep n (named n s ∷ sign mark.Increment s' ∷ r) 1 r
  before : {n : ℕ} {s s' : Spot} {r : List Token} → IsStep n (sign mark.Increment s ∷ named n s' ∷ r) 1 r
  by : {n c : ℕ} {s s' s'' : Spot} {r : List Token} → c ≤ greatest → IsStep n (named n s ∷ sign mark.PlusAssign s' ∷ numeral c s'' ∷ r) c r

mutual
  pub data IsStatement : List Token → Stmt → List Token → Type 0 where
    declares : {n : ℕ} {s s' s'' s''' : Spot} {ts r : List Token} {e : Expr}
        → IsExpr ts e (sign mark.Semicolon s''' ∷ r)
        → IsStatement (keyword word.Long s ∷ named n s' ∷ sign mark.Assign s'' ∷ ts) (stmt.Declare (line s) n e) r
    assigns : {n : ℕ} {k : Kind} {o : Op} {s s' s'' : Spot} {ts r : List Token} {e : Expr}
        → assignment k ≡ Some o → IsExpr ts e (sign mark.Semicolon s'' ∷ r)
        → IsStatement (named n s ∷ token k s' ∷ ts) (stmt.Assign (line s) n o e) r
    writes : {n : ℕ} {k : Kind} {o : Op} {s s0 s1 s2 s3 : Spot} {ts us r : List Token} {place e : Expr}
        → IsExpr ts place (sign mark.CloseSquare s1 ∷ token k s2 ∷ us) → assignment k ≡ Some o → IsExpr us e (sign mark.Semicolon s3 ∷ r)
        → IsStatement (named n s ∷ sign mark.OpenSquare s0 ∷ ts) (stmt.Write (line s) n place o e) r
    chooses : {s : Spot} {ts m r : List Token} {first : Arm} {arms : List Arm} {other : List Stmt}
        → IsArm s ts first m → IsElses m arms other r → IsStatement (keyword word.If s ∷ ts) (stmt.If (first ∷ arms) other) r
    turns : {ts r : List Token} {l : Loop} → IsLoop ts l r → IsStatement ts (stmt.Loop l) r

  -- What follows the `if` of an arm, which stands at the given place.
  pub data IsArm : Spot → List Token → Arm → List Token → Type 0 where
    an_arm : {s s1 s2 s3 s4 : Spot} {ts us r : List Token} {e : Expr} {body : List Stmt}
        → IsExpr ts e (sign mark.CloseRound s2 ∷ sign mark.OpenCurly s3 ∷ us) → IsStatements us body (sign mark.CloseCurly s4 ∷ r)
        → IsArm s (sign mark.OpenRound s1 ∷ ts) (record { line = line s; test = e; body = body }) r

  -- Further arms, and the last block.
  pub data IsElses : List Token → List Arm → List Stmt → List Token → Type 0 where
    no_else : {r : List Token} → IsElses r [] [] r
    else_if : {s s' : Spot} {ts m r : List Token} {next : Arm} {arms : List Arm} {other : List Stmt}
        → IsArm s' ts next m → IsElses m arms other r → IsElses (keyword word.Else s ∷ keyword word.If s' ∷ ts) (next ∷ arms) other r
    last_else : {s s' s'' : Spot} {ts r : List Token} {other : List Stmt}
        → IsStatements ts other (sign mark.CloseCurly s'' ∷ r) → IsElses (keyword word.Else s ∷ sign mark.OpenCurly s' ∷ ts) [] other r

  -- A loop. The three names of its header are one name.
  pub data IsLoop : List Token → Loop → List Token → Type 0 where
    a_loop : {n step : ℕ} {k : Kind} {through : Bool} {s s1 s2 s3 s4 s5 s6 s7 s8 s9 s10 s11 : Spot} {ts us vs ws r : List Token} {low high : Expr} {body : List Stmt}
        → IsExpr ts low (sign mark.Semicolon s5 ∷ named n s6 ∷ token k s7 ∷ us) → comparison k ≡ Some through
        → IsLevel shift us high (sign mark.Semicolon s8 ∷ vs) → IsStep n vs step (sign mark.CloseRound s9 ∷ sign mark.OpenCurly s10 ∷ ws)
        → IsStatements ws body (sign mark.CloseCurly s11 ∷ r)
        → IsLoop (keyword word.For s ∷ sign mark.OpenRound s1 ∷ keyword word.Long s2 ∷ named n s3 ∷ sign mark.Assign s4 ∷ ts)
        (record { line = line s; name = n; low = low; high = high; through = through; step = step; body = body }) r

  pub data IsStatements : List Token → List Stmt → List Token → Type 0 where
    no_statement : {r : List Token} → IsStatements r [] r
    statement : {ts m r : List Token} {x : Stmt} {xs : List Stmt} → IsStatement ts x m → IsStatements m xs r → IsStatements ts (x ∷ xs) r

-- The number in a declaration, with its sign.
pub data IsSigned : List Token → ℤ → List Token → Type 0 where
  positive : {n : ℕ} {s : Spot} {r : List Token} → n ≤ greatest → IsSigned (numeral n s ∷ r) (pos n) r
  negative : {n : ℕ} {s s' : Spot} {r : List Token} → n ≤ greatest → IsSigned (sign mark.Minus s ∷ numeral n s' ∷ r) (neg_ℤ (pos n)) r

pub data IsDecl : List Token → Decl → List Token → Type 0 where
  an_array : {n c : ℕ} {s s1 s2 s3 s4 s5 : Spot} {r : List Token}
      → c ≤ greatest → IsDecl (keyword word.Long s ∷ named n s1 ∷ sign mark.OpenSquare s2 ∷ numeral c s3 ∷ sign mark.CloseSquare s4 ∷ sign mark.Semicolon s5 ∷ r)
      (decl.Array (line s) n c false) r
  a_fixed_array : {n c : ℕ} {s s0 s1 s2 s3 s4 s5 : Spot} {r : List Token}
      → c ≤ greatest → IsDecl (keyword word.Const s ∷ keyword word.Long s0 ∷ named n s1 ∷ sign mark.OpenSquare s2 ∷ numeral c s3 ∷ sign mark.CloseSquare s4 ∷ sign mark.Semicolon s5 ∷ r)
      (decl.Array (line s) n c true) r
  a_scalar : {n : ℕ} {z : ℤ} {s s1 s2 s3 : Spot} {ts r : List Token}
      → IsSigned ts z (sign mark.Semicolon s3 ∷ r)
      → IsDecl (keyword word.Long s ∷ named n s1 ∷ sign mark.Assign s2 ∷ ts) (decl.Scalar (line s) n z) r

pub data AreDecls : List Token → List Decl → List Token → Type 0 where
  no_decl : {r : List Token} → AreDecls r [] r
  declaration : {ts m r : List Token} {x : Decl} {xs : List Decl} → IsDecl ts x m → AreDecls m xs r → AreDecls ts (x ∷ xs) r

pub data AreLoops : List Token → List Loop → List Token → Type 0 where
  no_loop : {r : List Token} → AreLoops r [] r
  a_region : {ts m r : List Token} {x : Loop} {xs : List Loop} → IsLoop ts x m → AreLoops m xs r → AreLoops ts (x ∷ xs) r

-- The tokens, all of them: declarations, and then loops.
pub record AreProgram (tokens : List Token) (decls : List Decl) (regions : List Loop) : Type 0 where
  pub middle : List Token
  pub declared : AreDecls tokens decls middle
  pub looped : AreLoops middle regions []

-- The tokens are the program's, which has their names.
pub record Derives (tokens : Tokens) (program : Program) : Type 0 where
  pub names : program.names ≡ tokens.names
  pub spelled : AreProgram tokens.list program.decls program.regions

-- These tokens begin a program's tokens: further tokens, or none, complete them.
pub record BeginProgram (tokens : List Token) : Type 0 where
  pub rest : List Token
  pub decls : List Decl
  pub regions : List Loop
  pub are : AreProgram (tokens ++ rest) decls regions

-- The first token that can't follow those before it in any program, by its number from 0: those before it begin a
-- program's tokens, and with it they don't. Where all tokens only begin a program's, their number, which names the end.
pub record IsFaultAt (tokens : List Token) (at : ℕ) : Type 0 where
  pub within : at ≤ length tokens
  pub before : BeginProgram (take at tokens)
  pub there : at < length tokens → BeginProgram (take (at + 1) tokens) → ⊥
  pub whole : (decls : List Decl) (regions : List Loop) → AreProgram tokens decls regions → ⊥

-- a refusal tells the fault, or that there was no memory
abbrev pub IsFault : List Token → ParseRefused → Type 0
IsFault tokens (Syntax at) = IsFaultAt tokens at
IsFault tokens NoMemory = Unit {0}
