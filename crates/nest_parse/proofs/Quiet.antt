-- What may follow an expression or a list of statements, so that it can't go on.
use Rattle.std.proofs.Common.{◌≡◌, ℕ, suc, ◌≤◌, Bool, true, false, Option, Some, None, List, [], ◌∷◌, refl, ap, lt-ltb, arith, nat_lt}
use Rattle.std.specs.Prelude.{not}
use Rattle.std.proofs.lemmas.Bool.Decides.{nat_tests}
use Rattle.nest_syntax.specs.declared.operators.Bin.{Bin}
use Rattle.nest_syntax.specs.declared.tree.Expr.{Expr}
use Rattle.nest_syntax.specs.declared.tree.Stmt.{Stmt}
use Rattle.nest_lex.specs.declared.token.Spot.{Spot}
use Rattle.nest_lex.specs.declared.token.Keyword.TheVariants as word
use Rattle.nest_lex.specs.declared.token.Mark.TheVariants as mark
use Rattle.nest_lex.specs.declared.token.Kind.{Kind}
use Rattle.nest_lex.specs.declared.token.Kind.TheVariants as kind
use Rattle.nest_lex.specs.declared.token.Token.{Token}
use Rattle.nest_parse.specs.Grammar.{token, binary, IsTail, ended, goes_on, IsStatement, declares, assigns, writes, chooses, turns, a_loop, IsStatements, no_statement, statement}

abbrev above : Option (ℕ × Bin) → ℕ
above (Some found) = suc found.0
above None = 12

-- how far an expression has to reach to go on with this token: `[` goes on with a name, an operator with its level
-- and all above, `?` with any test
abbrev pub strength : Kind → ℕ
strength (kind.Mark mark.OpenSquare) = 0
strength (kind.Mark mark.Question) = 11
strength k = above (binary k)

-- an expression of this level, and of those below, doesn't go on here
abbrev pub quiet : ℕ → List Token → Bool
quiet d [] = true
quiet d (t ∷ ts) = nat_lt d (strength t.kind)

pub strength_of : (k : Kind) {d : ℕ} {o : Bin} → binary k ≡ Some (d, o) → strength k ≡ suc d
strength_of (kind.Mark mark.OpenSquare) e = cc
strength_of (kind.Mark mark.Question) e = cc
strength_of k {d} {o} e = ap above e

pub quiet-less : (d : ℕ) (ts : List Token) → quiet (suc d) ts ≡ true → quiet d ts ≡ true
quiet-less d [] q = refl
quiet-less d (t ∷ ts) q = grind (arith, nat_tests)

pub quiet-at_most : (d e : ℕ) (ts : List Token) → d ≤ e → quiet e ts ≡ true → quiet d ts ≡ true
quiet-at_most d e [] h q = refl
quiet-at_most d e (t ∷ ts) h q = grind (arith, nat_tests)

pub quiet-operator : (k : Kind) (s : Spot) (ts : List Token) {d : ℕ} {o : Bin} → binary k ≡ Some (d, o) → quiet d (token k s ∷ ts) ≡ true
quiet-operator k s ts {d} e = rw (strength_of k e) (lt-ltb d (suc d) (omega arith))

pub quiet-tail : {d : ℕ} {a e : Expr} {ts r : List Token} → IsTail d a ts e r → quiet (suc d) r ≡ true → quiet d ts ≡ true
quiet-tail {d} {r = r} ended q = quiet-less d r q
quiet-tail (goes_on {k = k} {s = s} {ts = ts} e x t) q = quiet-operator k s ts e

pub not_quiet : (k : Kind) (s : Spot) (ts : List Token) {d : ℕ} {o : Bin} → binary k ≡ Some (d, o) → quiet (suc d) (token k s ∷ ts) ≡ true → ⊥
not_quiet k s ts {d} e q = let h : nat_lt (suc d) (suc d) ≡ true = rw (strength_of k e) at q in grind (arith, nat_tests)

-- no `else` stands here
abbrev pub is_else : Kind → Bool
is_else (kind.Keyword word.Else) = true
is_else _ = false

abbrev pub settled : List Token → Bool
settled [] = true
settled (t ∷ ts) = not (is_else t.kind)

pub settled-statement : {ts r : List Token} {x : Stmt} → IsStatement ts x r → settled ts ≡ true
settled-statement (declares x) = refl
settled-statement (assigns o x) = refl
settled-statement (writes x o y) = refl
settled-statement (chooses a b) = refl
settled-statement (turns (a_loop a c b s x)) = refl

pub settled-statements : {ts r : List Token} {xs : List Stmt} → IsStatements ts xs r → settled r ≡ true → settled ts ≡ true
settled-statements no_statement q = q
settled-statements (statement x xs) q = settled-statement x
