-- Expressions of a grammar's program: their names are names, their numbers are in range.
use Rattle.std.proofs.Common.{ℕ, ◌≤◌, pos, List}
use Rattle.std.specs.List.{AllByRecursion}
use Rattle.nest_syntax.specs.declared.operators.Un.{Un}
use Rattle.nest_syntax.specs.declared.operators.Bin.{Bin}
use Rattle.nest_syntax.specs.declared.tree.Expr.{Expr}
use Rattle.nest_syntax.specs.declared.tree.Expr.TheVariants as expr
use Rattle.nest_lex.specs.Spelling.{IsName}
use Rattle.nest_lex.specs.declared.token.Kind.{Kind}
use Rattle.nest_lex.specs.declared.token.Kind.TheVariants as kind
use Rattle.nest_lex.specs.declared.token.Token.{Token}
use Rattle.nest_parse.specs.Grammar.{greatest, IsFactor, a_number, a_name, a_word, in_parentheses, signed, IsLevel, tightest, level, IsTail, ended, goes_on, IsExpr, plain, choice}
use Rattle.nest_print.specs.Canonical.{name_text}

pub data Printable (names : List (List ℕ)) : Expr → Type 0 where
  number : {n : ℕ} → n ≤ greatest → Printable names (expr.Number (pos n))
  scalar : {n : ℕ} → IsName (name_text names n) → Printable names (expr.Scalar n)
  word : {n : ℕ} {e : Expr} → IsName (name_text names n) → Printable names e → Printable names (expr.Word n e)
  unary : {o : Un} {e : Expr} → Printable names e → Printable names (expr.Unary o e)
  binary : {o : Bin} {a b : Expr} → Printable names a → Printable names b → Printable names (expr.Binary o a b)
  chosen : {c a b : Expr} → Printable names c → Printable names a → Printable names b → Printable names (expr.Choice c a b)

-- the name of a token is a name
abbrev pub IsNamed : List (List ℕ) → Kind → Type 0
IsNamed names (kind.Name n) = IsName (name_text names n)
IsNamed names _ = Unit {0}

abbrev pub AllNames : List (List ℕ) → List Token → Type 0
AllNames names tokens = AllByRecursion (λ (t : Token). IsNamed names t.kind) tokens

abbrev Good : List (List ℕ) → Expr → List Token → Type 0
Good names e r = Printable names e × AllNames names r

mutual
  factor_printable : (names : List (List ℕ)) {ts r : List Token} {e : Expr} → IsFactor ts e r → AllNames names ts → Good names e r
  factor_printable names (a_number x) h = (number x, h.1)
  factor_printable names a_name h = (scalar h.0, h.1)
  factor_printable names (a_word x) h = let v = value_printable names x h.1.1 in (word h.0 v.0, v.1.1)
  factor_printable names (in_parentheses x) h = let v = value_printable names x h.1 in (v.0, v.1.1)
  factor_printable names (signed u x) h = let v = factor_printable names x h.1 in (unary v.0, v.1)

  pub level_printable : (names : List (List ℕ)) {d : ℕ} {ts r : List Token} {e : Expr} → IsLevel d ts e r → AllNames names ts → Good names e r
  level_printable names (tightest x) h = factor_printable names x h
  level_printable names (level x t) h = let v = level_printable names x h in tail_printable names t v.0 v.1

  tail_printable : (names : List (List ℕ)) {d : ℕ} {a e : Expr} {ts r : List Token} → IsTail d a ts e r → Printable names a → AllNames names ts → Good names e r
  tail_printable names ended l h = (l, h)
  tail_printable names (goes_on o x t) l h = let v = level_printable names x h.1 in tail_printable names t (binary l v.0) v.1

  pub value_printable : (names : List (List ℕ)) {ts r : List Token} {e : Expr} → IsExpr ts e r → AllNames names ts → Good names e r
  value_printable names (plain x) h = level_printable names x h
  value_printable names (choice x y z) h =
      let u = level_printable names x h in
      let v = value_printable names y u.1.1 in
      let w = value_printable names z v.1.1 in
      (chosen u.0 v.0 w.0, w.1)
