-- The machine goes through whatever the grammar derives.
use Rattle.std.proofs.Common.{◌≡◌, ℕ, suc, ◌≤◌, Bool, true, false, Some, None, List, [], ◌∷◌, refl, ◌∙◌, ap, le-leb, arith, eqb, eq-eqb, nat_lt}
use Rattle.std.specs.Prelude.{nat_le}
use Rattle.std.proofs.lemmas.Bool.Decides.{nat_tests}
use Rattle.nest_syntax.specs.declared.operators.Un.{Un}
use Rattle.nest_syntax.specs.declared.operators.Bin.{Bin}
use Rattle.nest_syntax.specs.declared.operators.Op.{Op}
use Rattle.nest_syntax.specs.declared.tree.Expr.{Expr}
use Rattle.nest_syntax.specs.declared.tree.Arm.{Arm}
use Rattle.nest_syntax.specs.declared.tree.Stmt.{Stmt}
use Rattle.nest_syntax.specs.declared.tree.Loop.{Loop}
use Rattle.nest_syntax.specs.declared.tree.Decl.{Decl}
use Rattle.nest_lex.specs.declared.token.Spot.{Spot}
use Rattle.nest_lex.specs.declared.token.Keyword.TheVariants as word
use Rattle.nest_lex.specs.declared.token.Mark.TheVariants as mark
use Rattle.nest_lex.specs.declared.token.Kind.{Kind}
use Rattle.nest_lex.specs.declared.token.Kind.TheVariants as kind
use Rattle.nest_lex.specs.declared.token.Token.{Token}
use Rattle.std.specs.Prelude.{ℤ}
use Rattle.nest_parse.specs.Grammar.{token, sign, named, numeral, greatest, binary, unary, assignment, comparison, IsFactor, a_number, a_name, a_word, in_parentheses, signed, IsLevel, tightest, level, IsTail, ended, goes_on, IsExpr, plain, choice, IsStep, behind, before, by, IsStatement, declares, assigns, writes, chooses, turns, IsArm, an_arm, IsElses, no_else, else_if, last_else, IsLoop, a_loop, IsStatements, no_statement, statement, IsSigned, positive, negative, IsDecl, an_array, a_fixed_array, a_scalar, AreDecls, no_decl, declaration, AreLoops, no_loop, a_region, AreProgram}
use Rattle.nest_parse.specs.Expected.{Expected, This, ThisName, AnyNumber, Factor, Subscript, Tail, Choice, Compare, Assigns, Statements, Elses, Step, StepTail, Decls, Signed, Loops, level_then, value_then, block_then, loop_then, arm_then, only_if, with_operand, with_right, takes, skips, stuck, start}
use Rattle.nest_parse.proofs.Quiet.{strength, strength_of, quiet, quiet-less, quiet-tail, settled, settled-statements}

-- an item that may be left out is left out
pub skipped : (x : Expected) (k : List Expected) (r : List Token) → skips x ≡ true → ((t : Token) (ts : List Token) → r ≡ t ∷ ts → takes x t.kind k ≡ None)
    → stuck (x ∷ k) r ≡ stuck k r
skipped x k [] s none = rw (s, stuck) refl
skipped x k (t ∷ ts) s none = rw (none t ts refl, s, stuck) refl

pub head_is : {t u : Token} {ts us : List Token} → ◌≡◌ {A = List Token} (t ∷ ts) (u ∷ us) → t ≡ u
head_is e = cc

pub no_subscript : (k : List Expected) (r : List Token) → quiet 0 r ≡ true → stuck (Subscript ∷ k) r ≡ stuck k r
no_subscript k [] q = refl
no_subscript k (t ∷ ts) q = skipped Subscript k (t ∷ ts) refl (λ u us e. rw (← head_is e) (none t.kind q)) where
  none : (t : Kind) → nat_lt 0 (strength t) ≡ true → takes Subscript t k ≡ None
  none (kind.Mark mark.OpenSquare) q = cc
  none _ q = refl

not_right : (d : ℕ) (k : List Expected) (t : Kind) → nat_lt (suc d) (strength t) ≡ true → takes (Tail d) t k ≡ None
not_right d k t q = elim (binary t) as (λ found. binary t ≡ found → with_right found d k ≡ None) [
  | None ↦ λ e. refl
  | Some found ↦ λ e. other found (strength_of t e)
] refl where
  other : (found : ℕ × Bin) → strength t ≡ suc found.0 → only_if (eqb found.0 d) (level_then d (Tail d ∷ k)) ≡ None
  other found e = let ne : eqb found.0 d ≡ false = grind (arith, nat_tests) in rw ne refl

pub no_tail : (d : ℕ) (k : List Expected) (r : List Token) → quiet (suc d) r ≡ true → stuck (Tail d ∷ k) r ≡ stuck k r
no_tail d k [] q = refl
no_tail d k (t ∷ ts) q = skipped (Tail d) k (t ∷ ts) refl (λ u us e. rw (← head_is e) (not_right d k t.kind q))

pub no_choice : (k : List Expected) (r : List Token) → quiet 11 r ≡ true → stuck (Choice ∷ k) r ≡ stuck k r
no_choice k [] q = refl
no_choice k (t ∷ ts) q = skipped Choice k (t ∷ ts) refl (λ u us e. rw (← head_is e) (none t.kind q)) where
  none : (t : Kind) → nat_lt 11 (strength t) ≡ true → takes Choice t k ≡ None
  none (kind.Mark mark.Question) q = cc
  none _ q = refl

-- a token that is taken
pub taken : (x : Expected) (t : Kind) (k : List Expected) {s : List Expected} (s' : Spot) (ts : List Token) → takes x t k ≡ Some s → stuck (x ∷ k) (token t s' ∷ ts) ≡ stuck s ts
taken x t k s' ts e = rw (e, stuck) refl

takes_number : (n : ℕ) (x : List Expected) → n ≤ greatest → only_if (nat_le n greatest) x ≡ Some x
takes_number n x h = rw (le-leb n greatest h) refl

pub takes_unary : (t : Kind) (k : List Expected) {o : Un} → unary t ≡ Some o → takes Factor t k ≡ Some (Factor ∷ k)
takes_unary (kind.Number n) k e = cc
takes_unary (kind.Name n) k e = cc
takes_unary (kind.Mark mark.OpenRound) k e = cc
takes_unary t k e = ap (λ u. with_operand u k) e

pub takes_binary : (t : Kind) (k : List Expected) {d : ℕ} {o : Bin} → binary t ≡ Some (d, o) → takes (Tail d) t k ≡ Some (level_then d (Tail d ∷ k))
takes_binary t k {d} e = rw (e, eq-eqb d d refl) refl

mutual
  pub whole_factor : {ts r : List Token} {e : Expr} → IsFactor ts e r → quiet 0 r ≡ true → (k : List Expected) → stuck (Factor ∷ k) ts ≡ stuck k r
  whole_factor (a_number {n = n} {s = s} {r = r} h) q k = taken Factor (kind.Number n) k s r (takes_number n k h)
  whole_factor (a_name {r = r}) q k = no_subscript k r q
  whole_factor (a_word x) q k = whole_value x refl (This mark.CloseSquare ∷ k)
  whole_factor (in_parentheses x) q k = whole_value x refl (This mark.CloseRound ∷ k)
  whole_factor (signed {k = t} {s = s} {ts = ts} o x) q k = taken Factor t k s ts (takes_unary t k o) ∙ whole_factor x q k

  pub whole_level : {d : ℕ} {ts r : List Token} {e : Expr} → IsLevel d ts e r → quiet d r ≡ true → (k : List Expected) → stuck (level_then d k) ts ≡ stuck k r
  whole_level (tightest x) q k = whole_factor x q k
  whole_level (level {d = d} x y) q k = whole_level x (quiet-tail y q) (Tail d ∷ k) ∙ whole_tail y q k

  pub whole_tail : {d : ℕ} {a e : Expr} {ts r : List Token} → IsTail d a ts e r → quiet (suc d) r ≡ true → (k : List Expected) → stuck (Tail d ∷ k) ts ≡ stuck k r
  whole_tail {d} {r = r} ended q k = no_tail d k r q
  whole_tail (goes_on {d = d} {k = t} {s = s} {ts = ts} o x y) q k =
      taken (Tail d) t k s ts (takes_binary t k o) ∙ (whole_level x (quiet-tail y q) (Tail d ∷ k) ∙ whole_tail y q k)

  pub whole_value : {ts r : List Token} {e : Expr} → IsExpr ts e r → quiet 11 r ≡ true → (k : List Expected) → stuck (value_then k) ts ≡ stuck k r
  whole_value (plain {r = r} x) q k = whole_level x (quiet-less 10 r q) (Choice ∷ k) ∙ no_choice k r q
  whole_value (choice x y z) q k = whole_level x refl (Choice ∷ k) ∙ (whole_value y refl (This mark.Colon ∷ value_then k) ∙ whole_value z q k)

takes_assignment : (t : Kind) {o : Op} (k : List Expected) → assignment t ≡ Some o → takes Assigns t k ≡ Some k
takes_assignment t k e = rw e refl

takes_comparison : (t : Kind) {b : Bool} (k : List Expected) → comparison t ≡ Some b → takes Compare t k ≡ Some k
takes_comparison t k e = rw e refl

-- an assignment's mark begins no subscript
past_subscript : (t : Kind) {o : Op} (s : Spot) (k : List Expected) (ts : List Token) → assignment t ≡ Some o → stuck (Subscript ∷ Assigns ∷ k) (token t s ∷ ts) ≡ stuck k ts
past_subscript t s k ts e =
    no_subscript (Assigns ∷ k) (token t s ∷ ts) (quiet_there t e) ∙ taken Assigns t k s ts (takes_assignment t k e) where
      quiet_there : (t : Kind) {o : Op} → assignment t ≡ Some o → nat_lt 0 (strength t) ≡ true
      quiet_there (kind.Mark mark.OpenSquare) e = cc
      quiet_there _ e = refl

this_name : (n : ℕ) (k : List Expected) (s : Spot) (ts : List Token) → stuck (ThisName n ∷ k) (named n s ∷ ts) ≡ stuck k ts
this_name n k s ts = taken (ThisName n) (kind.Name n) k s ts (rw (eq-eqb n n refl) refl)

a_small_number : (n : ℕ) (k : List Expected) (s : Spot) (ts : List Token) → n ≤ greatest → stuck (AnyNumber ∷ k) (numeral n s ∷ ts) ≡ stuck k ts
a_small_number n k s ts h = taken AnyNumber (kind.Number n) k s ts (takes_number n k h)

step_name : (n : ℕ) (k : List Expected) (s : Spot) (ts : List Token) → stuck (Step n ∷ k) (named n s ∷ ts) ≡ stuck (StepTail ∷ k) ts
step_name n k s ts = taken (Step n) (kind.Name n) k s ts (rw (eq-eqb n n refl) refl)

whole_step : {n c : ℕ} {ts r : List Token} → IsStep n ts c r → (k : List Expected) → stuck (Step n ∷ k) ts ≡ stuck k r
whole_step (behind {n = n} {s = s} {s' = s'} {r = r}) k = step_name n k s (sign mark.Increment s' ∷ r)
whole_step (before {n = n} {s' = s'} {r = r}) k = this_name n k s' r
whole_step (by {n = n} {c = c} {s = s} {s' = s'} {s'' = s''} {r = r} h) k = step_name n k s (sign mark.PlusAssign s' ∷ numeral c s'' ∷ r) ∙ a_small_number c k s'' r h

no_more_arms : (k : List Expected) (r : List Token) → settled r ≡ true → stuck (Elses ∷ k) r ≡ stuck k r
no_more_arms k [] q = refl
no_more_arms k (t ∷ ts) q = skipped Elses k (t ∷ ts) refl (λ u us e. rw (← head_is e) (none t.kind q)) where
  none : (t : Kind) → settled (token t (record { line = 0; column = 0 }) ∷ []) ≡ true → takes Elses t k ≡ None
  none (kind.Keyword word.Else) q = cc
  none _ q = refl

a_comparison : (t : Kind) {b : Bool} (k : List Expected) (s : Spot) (ts : List Token) → comparison t ≡ Some b → stuck (Compare ∷ k) (token t s ∷ ts) ≡ stuck k ts
a_comparison t k s ts e = taken Compare t k s ts (takes_comparison t k e)

an_assignment : (t : Kind) {o : Op} (k : List Expected) (s : Spot) (ts : List Token) → assignment t ≡ Some o → stuck (Assigns ∷ k) (token t s ∷ ts) ≡ stuck k ts
an_assignment t k s ts e = taken Assigns t k s ts (takes_assignment t k e)

mutual
  pub whole_statement : {ts r : List Token} {x : Stmt} → IsStatement ts x r → settled r ≡ true → (k : List Expected) → stuck (Statements ∷ k) ts ≡ stuck (Statements ∷ k) r
  whole_statement (declares x) q k = whole_value x refl (This mark.Semicolon ∷ Statements ∷ k)
  whole_statement (assigns {k = t} {s' = s'} {ts = ts} o x) q k =
      past_subscript t s' (value_then (This mark.Semicolon ∷ Statements ∷ k)) ts o ∙ whole_value x refl (This mark.Semicolon ∷ Statements ∷ k)
  whole_statement (writes {k = t} {s2 = s2} {us = us} x o y) q k =
      whole_value x refl (This mark.CloseSquare ∷ Assigns ∷ value_then (This mark.Semicolon ∷ Statements ∷ k))
      ∙ (an_assignment t (value_then (This mark.Semicolon ∷ Statements ∷ k)) s2 us o ∙ whole_value y refl (This mark.Semicolon ∷ Statements ∷ k))
  whole_statement (chooses a b) q k = whole_arm a (Elses ∷ Statements ∷ k) ∙ whole_elses b q (Statements ∷ k)
  whole_statement (turns x) q k = opens_loop x k ∙ whole_loop x (Statements ∷ k)

  pub whole_arm : {s : Spot} {ts r : List Token} {x : Arm} → IsArm s ts x r → (k : List Expected) → stuck (arm_then k) ts ≡ stuck k r
  whole_arm (an_arm x xs) k = whole_value x refl (This mark.CloseRound ∷ block_then k) ∙ whole_statements xs refl (This mark.CloseCurly ∷ k)

  pub whole_elses : {ts r : List Token} {arms : List Arm} {other : List Stmt} → IsElses ts arms other r → settled r ≡ true → (k : List Expected)
      → stuck (Elses ∷ k) ts ≡ stuck k r
  whole_elses (no_else {r = r}) q k = no_more_arms k r q
  whole_elses (else_if a b) q k = whole_arm a (Elses ∷ k) ∙ whole_elses b q k
  whole_elses (last_else xs) q k = whole_statements xs refl (This mark.CloseCurly ∷ k)

  pub whole_loop : {ts r : List Token} {x : Loop} → IsLoop ts x r → (k : List Expected) → stuck (loop_then k) ts ≡ stuck k r
  whole_loop (a_loop {n = n} {k = t} {s6 = s6} {s7 = s7} {us = us} low c high st xs) k =
      let block = This mark.CloseRound ∷ block_then k in
      let up = level_then 3 (This mark.Semicolon ∷ Step n ∷ block) in
      whole_value low refl (This mark.Semicolon ∷ ThisName n ∷ Compare ∷ up)
      ∙ (this_name n (Compare ∷ up) s6 (token t s7 ∷ us)
      ∙ (a_comparison t up s7 us c
      ∙ (whole_level high refl (This mark.Semicolon ∷ Step n ∷ block)
      ∙ (whole_step st block ∙ whole_statements xs refl (This mark.CloseCurly ∷ k)))))

  opens_loop : {ts r : List Token} {x : Loop} → IsLoop ts x r → (k : List Expected) → stuck (Statements ∷ k) ts ≡ stuck (loop_then (Statements ∷ k)) ts
  opens_loop (a_loop low c high st xs) k = refl

  pub whole_statements : {ts r : List Token} {xs : List Stmt} → IsStatements ts xs r → settled r ≡ true → (k : List Expected) → stuck (Statements ∷ k) ts ≡ stuck (Statements ∷ k) r
  whole_statements no_statement q k = refl
  whole_statements (statement x xs) q k = whole_statement x (settled-statements xs q) k ∙ whole_statements xs q k

whole_signed : {z : ℤ} {ts r : List Token} → IsSigned ts z r → (k : List Expected) → stuck (Signed ∷ k) ts ≡ stuck k r
whole_signed (positive {n = n} {s = s} {r = r} h) k = taken Signed (kind.Number n) k s r (takes_number n k h)
whole_signed (negative {n = n} {s' = s'} {r = r} h) k = a_small_number n k s' r h

whole_decl : {ts r : List Token} {x : Decl} → IsDecl ts x r → (k : List Expected) → stuck (Decls ∷ k) ts ≡ stuck (Decls ∷ k) r
whole_decl (an_array {c = c} {s3 = s3} {s4 = s4} {s5 = s5} {r = r} h) k =
    a_small_number c (This mark.CloseSquare ∷ This mark.Semicolon ∷ Decls ∷ k) s3 (sign mark.CloseSquare s4 ∷ sign mark.Semicolon s5 ∷ r) h
whole_decl (a_fixed_array {c = c} {s3 = s3} {s4 = s4} {s5 = s5} {r = r} h) k =
    a_small_number c (This mark.CloseSquare ∷ This mark.Semicolon ∷ Decls ∷ k) s3 (sign mark.CloseSquare s4 ∷ sign mark.Semicolon s5 ∷ r) h
whole_decl (a_scalar x) k = whole_signed x (This mark.Semicolon ∷ Decls ∷ k)

whole_decls : {ts r : List Token} {xs : List Decl} → AreDecls ts xs r → (k : List Expected) → stuck (Decls ∷ k) ts ≡ stuck (Decls ∷ k) r
whole_decls no_decl k = refl
whole_decls (declaration x xs) k = whole_decl x k ∙ whole_decls xs k

opens_region : {ts r : List Token} {x : Loop} → IsLoop ts x r → (k : List Expected) → stuck (Loops ∷ k) ts ≡ stuck (loop_then (Loops ∷ k)) ts
opens_region (a_loop low c high st xs) k = refl

whole_loops : {ts r : List Token} {xs : List Loop} → AreLoops ts xs r → (k : List Expected) → stuck (Loops ∷ k) ts ≡ stuck (Loops ∷ k) r
whole_loops no_loop k = refl
whole_loops (a_region x xs) k = opens_region x k ∙ (whole_loop x (Loops ∷ k) ∙ whole_loops xs k)

-- behind the declarations loops follow, or nothing
opens_loops : {ts : List Token} {xs : List Loop} → AreLoops ts xs [] → stuck (Decls ∷ Loops ∷ []) ts ≡ stuck (Loops ∷ []) ts
opens_loops no_loop = refl
opens_loops (a_region (a_loop low c high st body) xs) = refl

pub complete : {ts : List Token} {decls : List Decl} {regions : List Loop} → AreProgram ts decls regions → stuck start ts ≡ None
complete p = whole_decls p.declared (Loops ∷ []) ∙ (opens_loops p.looped ∙ whole_loops p.looped [])
