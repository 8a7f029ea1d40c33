-- What may come next: a list of what is expected, and where tokens don't go on with it. No caller of `parse` needs this.
use Rattle.std.specs.Prelude.{◌≡◌, ◌≤◌, ⊤, Result, IfOk, IfErr, IfSome, IfNone, MatchOption, ℤ, ℕ, zero, suc, Bool, true, false, ◌&&◌, ◌==◌, nat_le, if◌then◌else◌, Option, Some, None, is_some, List, [], ◌∷◌}
use Rattle.nest_syntax.specs.declared.operators.Un.{Un}
use Rattle.nest_syntax.specs.declared.operators.Bin.{Bin}
use Rattle.nest_syntax.specs.declared.operators.Op.{Op}
use Rattle.nest_syntax.specs.declared.names.Line.{Line}
use Rattle.nest_syntax.specs.declared.tree.Expr.{Expr}
use Rattle.nest_syntax.specs.declared.tree.Arm.{Arm}
use Rattle.nest_syntax.specs.declared.tree.Stmt.{Stmt}
use Rattle.nest_syntax.specs.declared.tree.Loop.{Loop}
use Rattle.nest_syntax.specs.declared.tree.Decl.{Decl}
use Rattle.nest_syntax.specs.declared.tree.Decl.TheVariants as decl
use Rattle.nest_lex.specs.declared.token.Spot.{Spot}
use Rattle.nest_lex.specs.declared.token.Keyword.{Keyword}
use Rattle.nest_lex.specs.declared.token.Keyword.TheVariants as word
use Rattle.nest_lex.specs.declared.token.Mark.{Mark}
use Rattle.nest_lex.specs.declared.token.Mark.TheVariants as mark
use Rattle.nest_lex.specs.declared.token.Kind.{Kind}
use Rattle.nest_lex.specs.declared.token.Kind.TheVariants as kind
use Rattle.nest_lex.specs.declared.token.Token.{Token}
use Rattle.nest_lex.specs.contracts.token.Mark.{the_type as mark_type}
use Rattle.nest_lex.specs.contracts.token.Keyword.{the_type as keyword_type}
use denote.Enum.Bare.{sameb}
use Rattle.nest_parse.specs.Grammar.{greatest, binary, unary, assignment, comparison, token, sign, keyword, named, numeral, line, IsFactor, IsLevel, IsExpr, IsStatements, IsArm, IsLoop, IsSigned, IsDecl, AreProgram}
use Rattle.nest_parse.specs.declared.refused.Stop.{Stop}
use Rattle.nest_parse.specs.declared.refused.Stop.TheVariants.{Fault}

pub data Expected : Type 0 where
  This : Mark → Expected
  Word : Keyword → Expected
  ThisName : ℕ → Expected
  AnyName : Expected
  AnyNumber : Expected
  Factor : Expected
  Subscript : Expected
  Tail : ℕ → Expected
  Choice : Expected
  Compare : Expected
  Assigns : Expected
  Statements : Expected
  Elses : Expected
  BehindElse : Expected
  LoopName : Expected
  Step : ℕ → Expected
  StepTail : Expected
  Decls : Expected
  DeclTail : Expected
  Signed : Expected
  Loops : Expected

-- an expression of a level, any expression, a block, and a loop, before what is expected behind it
abbrev pub level_then : ℕ → List Expected → List Expected
level_then zero k = Factor ∷ k
level_then (suc d) k = level_then d (Tail d ∷ k)

abbrev pub value_then : List Expected → List Expected
value_then k = level_then 10 (Choice ∷ k)

abbrev pub block_then : List Expected → List Expected
block_then k = This mark.OpenCurly ∷ Statements ∷ This mark.CloseCurly ∷ k

abbrev pub loop_then : List Expected → List Expected
loop_then k = Word word.For ∷ This mark.OpenRound ∷ Word word.Long ∷ LoopName ∷ k

abbrev pub arm_then : List Expected → List Expected
arm_then k = This mark.OpenRound ∷ value_then (This mark.CloseRound ∷ block_then k)

abbrev pub header_then : ℕ → List Expected → List Expected
header_then n k =
    This mark.Assign ∷ value_then (This mark.Semicolon ∷ ThisName n ∷ Compare ∷ level_then 3 (This mark.Semicolon ∷ Step n ∷ This mark.CloseRound ∷ block_then k))

abbrev pub only_if : Bool → List Expected → Option (List Expected)
only_if true k = Some k
only_if false k = None

abbrev pub with_operand : Option Un → List Expected → Option (List Expected)
with_operand None k = None
with_operand (Some o) k = Some (Factor ∷ k)

abbrev pub with_right : Option (ℕ × Bin) → ℕ → List Expected → Option (List Expected)
with_right None d k = None
with_right (Some found) d k = only_if (found.0 == d) (level_then d (Tail d ∷ k))

-- What is expected behind a token that an item begins or goes on with.
abbrev pub takes : Expected → Kind → List Expected → Option (List Expected)
takes (This m) (kind.Mark t) k = only_if (sameb mark_type m t) k
takes (Word w) (kind.Keyword t) k = only_if (sameb keyword_type w t) k
takes (ThisName n) (kind.Name t) k = only_if (t == n) k
takes AnyName (kind.Name t) k = Some k
takes AnyNumber (kind.Number t) k = only_if (nat_le t greatest) k
takes Factor (kind.Number t) k = only_if (nat_le t greatest) k
takes Factor (kind.Name t) k = Some (Subscript ∷ k)
takes Factor (kind.Mark mark.OpenRound) k = Some (value_then (This mark.CloseRound ∷ k))
takes Factor t k = with_operand (unary t) k
takes Subscript (kind.Mark mark.OpenSquare) k = Some (value_then (This mark.CloseSquare ∷ k))
takes (Tail d) t k = with_right (binary t) d k
takes Choice (kind.Mark mark.Question) k = Some (value_then (This mark.Colon ∷ value_then k))
takes Compare t k = only_if (is_some (comparison t)) k
takes Assigns t k = only_if (is_some (assignment t)) k
takes Statements (kind.Keyword word.Long) k = Some (AnyName ∷ This mark.Assign ∷ value_then (This mark.Semicolon ∷ Statements ∷ k))
takes Statements (kind.Name t) k = Some (Subscript ∷ Assigns ∷ value_then (This mark.Semicolon ∷ Statements ∷ k))
takes Statements (kind.Keyword word.If) k = Some (arm_then (Elses ∷ Statements ∷ k))
takes Statements (kind.Keyword word.For) k = Some (This mark.OpenRound ∷ Word word.Long ∷ LoopName ∷ Statements ∷ k)
takes Elses (kind.Keyword word.Else) k = Some (BehindElse ∷ k)
takes BehindElse (kind.Keyword word.If) k = Some (arm_then (Elses ∷ k))
takes BehindElse (kind.Mark mark.OpenCurly) k = Some (Statements ∷ This mark.CloseCurly ∷ k)
takes LoopName (kind.Name t) k = Some (header_then t k)
takes (Step n) (kind.Mark mark.Increment) k = Some (ThisName n ∷ k)
takes (Step n) (kind.Name t) k = only_if (t == n) (StepTail ∷ k)
takes StepTail (kind.Mark mark.Increment) k = Some k
takes StepTail (kind.Mark mark.PlusAssign) k = Some (AnyNumber ∷ k)
takes Decls (kind.Keyword word.Long) k = Some (AnyName ∷ DeclTail ∷ Decls ∷ k)
takes Decls (kind.Keyword word.Const) k =
    Some (Word word.Long ∷ AnyName ∷ This mark.OpenSquare ∷ AnyNumber ∷ This mark.CloseSquare ∷ This mark.Semicolon ∷ Decls ∷ k)
takes DeclTail (kind.Mark mark.OpenSquare) k = Some (AnyNumber ∷ This mark.CloseSquare ∷ This mark.Semicolon ∷ k)
takes DeclTail (kind.Mark mark.Assign) k = Some (Signed ∷ This mark.Semicolon ∷ k)
takes Signed (kind.Number t) k = only_if (nat_le t greatest) k
takes Signed (kind.Mark mark.Minus) k = Some (AnyNumber ∷ k)
takes Loops (kind.Keyword word.For) k = Some (This mark.OpenRound ∷ Word word.Long ∷ LoopName ∷ Loops ∷ k)
takes _ _ k = None

-- what may be left out
abbrev pub skips : Expected → Bool
skips Subscript = true
skips (Tail d) = true
skips Choice = true
skips Statements = true
skips Elses = true
skips Decls = true
skips Loops = true
skips _ = false

abbrev pub or_skip : Option (List Expected) → Bool → Option (List Expected) → Option (List Expected)
or_skip (Some s) b other = Some s
or_skip None true other = other
or_skip None false other = None

abbrev pub step : Kind → List Expected → Option (List Expected)
step t [] = None
step t (x ∷ k) = or_skip (takes x t k) (skips x) (step t k)

abbrev pub may_end : List Expected → Bool
may_end [] = true
may_end (x ∷ k) = skips x && may_end k

-- The tokens at whose head nothing goes on, if there are any: none of them are left where more are expected.
abbrev pub stuck : List Expected → List Token → Option (List Token)
stuck s [] = if may_end s then None else Some []
stuck s (t ∷ ts) = elim (step t.kind s) [ None ↦ Some (t ∷ ts) | Some s' ↦ stuck s' ts ]

abbrev pub start : List Expected
start = Decls ∷ Loops ∷ []

-- the kind of the next token
abbrev pub next_kind : List Token → Option Kind
next_kind [] = None
next_kind (next ∷ tokens) = Some next.kind

-- the line of the next token, 0 at the end
abbrev pub line_of : List Token → Line
line_of [] = record { 0 = 0 }
line_of (next ∷ tokens) = line next.spot

-- What a function of the parser reads: a thing from `old` up to `new`, and what is expected at `old` is expected behind
-- it; or else nothing goes on at `new`, whatever is expected behind the thing, or there was no memory.
pub record Reads {X : Type 0} (Is : List Token → X → List Token → Type 0) (on : List Expected → List Expected) (old new : List Token) (result : Result X Stop) : Type 0 where
  pub is : IfOk result (λ x. Is old x new)
  pub goes : IfOk result (λ _. (k : List Expected) → stuck (on k) old ≡ stuck k new)
  pub sticks : IfErr result (λ e. e ≡ Fault → (k : List Expected) → stuck (on k) old ≡ Some new)

-- one token, whose place is left open
abbrev pub IsSign : Mark → List Token → ⊤ → List Token → Type 0
IsSign m ts _ r = (s : Spot) × (ts ≡ sign m s ∷ r)

abbrev pub IsWord : Keyword → List Token → ⊤ → List Token → Type 0
IsWord w ts _ r = (s : Spot) × (ts ≡ keyword w s ∷ r)

abbrev pub IsTheName : ℕ → List Token → ⊤ → List Token → Type 0
IsTheName n ts _ r = (s : Spot) × (ts ≡ named n s ∷ r)

abbrev pub IsName : List Token → ℕ → List Token → Type 0
IsName ts n r = (s : Spot) × (ts ≡ named n s ∷ r)

abbrev pub IsNumber : List Token → ℕ → List Token → Type 0
IsNumber ts n r = (n ≤ greatest) × (s : Spot) × (ts ≡ numeral n s ∷ r)

abbrev pub IsAssignment : List Token → Op → List Token → Type 0
IsAssignment ts o r = (t : Kind) × (s : Spot) × (assignment t ≡ Some o) × (ts ≡ token t s ∷ r)

abbrev pub IsComparison : List Token → Bool → List Token → Type 0
IsComparison ts b r = (t : Kind) × (s : Spot) × (comparison t ≡ Some b) × (ts ≡ token t s ∷ r)

-- an expression with the sign that ends it
abbrev pub IsExprThen : Mark → List Token → Expr → List Token → Type 0
IsExprThen m ts e r = (s : Spot) × IsExpr ts e (sign m s ∷ r)

abbrev pub IsUnary : List Token → Un → List Token → Type 0
IsUnary ts o r = (t : Kind) × (s : Spot) × (unary t ≡ Some o) × (ts ≡ token t s ∷ r)

abbrev pub is_name : Kind → Bool
is_name (kind.Name n) = true
is_name _ = false

abbrev pub is_mark : Mark → Kind → Bool
is_mark m (kind.Mark t) = sameb mark_type m t
is_mark m _ = false

abbrev pub is_keyword : Keyword → Kind → Bool
is_keyword w (kind.Keyword t) = sameb keyword_type w t
is_keyword w _ = false

-- no such token comes next, and none is passed
pub record TakesNone (is_such : Kind → Bool) (old new : List Token) : Type 0 where
  pub stays : new ≡ old
  pub other : (t : Token) (r : List Token) → old ≡ t ∷ r → is_such t.kind ≡ false

-- what a name and the tokens behind it are
abbrev pub IsBehindName : ℕ → List Token → Expr → List Token → Type 0
IsBehindName n ts e r = (s : Spot) → IsFactor (named n s ∷ ts) e r

-- An operator of this level is passed, or there is none.
pub record TakesOperator (d : ℕ) (old new : List Token) (result : Option Bin) : Type 0 where
  pub some : IfSome result (λ o. (t : Kind) × (s : Spot) × (binary t ≡ Some (d, o)) × (old ≡ token t s ∷ new))
  pub none : IfNone result ((new ≡ old) × ((k : List Expected) → stuck (Tail d ∷ k) old ≡ stuck k old))

-- `= EXPR ;`
abbrev pub IsInitial : List Token → Expr → List Token → Type 0
IsInitial ts e r = (s : Spot) × (us : List Token) × (s' : Spot) × (ts ≡ sign mark.Assign s ∷ us) × IsExpr us e (sign mark.Semicolon s' ∷ r)

abbrev pub initial_then : List Expected → List Expected
initial_then k = This mark.Assign ∷ value_then (This mark.Semicolon ∷ k)

-- the mark of an assignment, an expression and a `;`
pub record IsAssigned (ts : List Token) (found : Op × Expr) (r : List Token) : Type 0 where
  pub kind_of : Kind
  pub spot : Spot
  pub us : List Token
  pub last : Spot
  pub op : assignment kind_of ≡ Some found.0
  pub at : ts ≡ token kind_of spot ∷ us
  pub value : IsExpr us found.1 (sign mark.Semicolon last ∷ r)

abbrev pub assigned_then : List Expected → List Expected
assigned_then k = Assigns ∷ value_then (This mark.Semicolon ∷ k)

-- a block in brackets
pub record IsBlock (ts : List Token) (body : List Stmt) (r : List Token) : Type 0 where
  pub first : Spot
  pub us : List Token
  pub last : Spot
  pub at : ts ≡ sign mark.OpenCurly first ∷ us
  pub body_is : IsStatements us body (sign mark.CloseCurly last ∷ r)

-- a thing whose first token was passed, which is on the given line
abbrev pub IsBehind : {X : Type 0} → (Spot → Token) → (List Token → X → List Token → Type 0) → Line → List Token → X → List Token → Type 0
IsBehind first Is on ts x r = (s : Spot) → on ≡ line s → Is (first s ∷ ts) x r

abbrev pub IsArmAt : Line → List Token → Arm → List Token → Type 0
IsArmAt on ts x r = (s : Spot) → on ≡ line s → IsArm s ts x r

-- the test of a loop, with its `;`
pub record IsTest (n : ℕ) (ts : List Token) (found : Bool × Expr) (r : List Token) : Type 0 where
  pub kind_of : Kind
  pub name_spot : Spot
  pub spot : Spot
  pub us : List Token
  pub last : Spot
  pub compares : comparison kind_of ≡ Some found.0
  pub at : ts ≡ named n name_spot ∷ token kind_of spot ∷ us
  pub high : IsLevel 3 us found.1 (sign mark.Semicolon last ∷ r)

abbrev pub test_then : ℕ → List Expected → List Expected
test_then n k = ThisName n ∷ Compare ∷ level_then 3 (This mark.Semicolon ∷ k)

-- what follows the name of a loop's variable in its header
abbrev pub IsBehindVariable : Line → ℕ → List Token → Loop → List Token → Type 0
IsBehindVariable on n ts x r = (s s1 s2 s3 : Spot) → on ≡ line s → IsLoop (keyword word.For s ∷ sign mark.OpenRound s1 ∷ keyword word.Long s2 ∷ named n s3 ∷ ts) x r

-- `LENGTH ] ;`
pub record IsLength (ts : List Token) (n : ℕ) (r : List Token) : Type 0 where
  pub spot : Spot
  pub middle : Spot
  pub last : Spot
  pub small : n ≤ greatest
  pub at : ts ≡ numeral n spot ∷ sign mark.CloseSquare middle ∷ sign mark.Semicolon last ∷ r

abbrev pub length_then : List Expected → List Expected
length_then k = AnyNumber ∷ This mark.CloseSquare ∷ This mark.Semicolon ∷ k

-- what follows the name in a declaration
abbrev pub IsBehindDeclared : Line → ℕ → List Token → Decl → List Token → Type 0
IsBehindDeclared on n ts x r = (s s1 : Spot) → on ≡ line s → IsDecl (keyword word.Long s ∷ named n s1 ∷ ts) x r

-- the next of many things, if there is one more
pub record ReadsNext {X : Type 0} (Is : List Token → X → List Token → Type 0) (x : Expected) (old new : List Token) (result : Result (Option X) Stop) : Type 0 where
  pub is : IfOk result (λ found. IfSome found (λ v. Is old v new))
  pub goes : IfOk result (λ found. MatchOption found ((new ≡ old) × ((k : List Expected) → stuck (x ∷ k) old ≡ stuck k old)) (λ _. (k : List Expected) → stuck (x ∷ k) old ≡ stuck (x ∷ k) new))
  pub sticks : IfErr result (λ e. e ≡ Fault → (k : List Expected) → stuck (x ∷ k) old ≡ Some new)

-- the whole of a nest
pub record ReadsProgram (old new : List Token) (result : Result (List Decl × List Loop) Stop) : Type 0 where
  pub is : IfOk result (λ p. AreProgram old p.0 p.1)
  pub sticks : IfErr result (λ e. e ≡ Fault → stuck start old ≡ Some new)

-- the name of a loop's variable, which is expected again in the loop's header
pub record ReadsVariable (old new : List Token) (result : Result ℕ Stop) : Type 0 where
  pub is : IfOk result (λ n. IsName old n new)
  pub goes : IfOk result (λ n. (k : List Expected) → stuck (LoopName ∷ k) old ≡ stuck (header_then n k) new)
  pub sticks : IfErr result (λ e. e ≡ Fault → (k : List Expected) → stuck (LoopName ∷ k) old ≡ Some new)

-- a scalar's value, behind the `=` of its declaration
abbrev pub IsScalar : Line → ℕ → List Token → Decl → List Token → Type 0
IsScalar on n ts x r = (z : ℤ) × IsSigned ts z r × (x ≡ decl.Scalar on n z)
