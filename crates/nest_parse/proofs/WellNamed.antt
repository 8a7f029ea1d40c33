-- Where each name number among the tokens is below a count, so is each in the program that they derive.
use Rattle.std.proofs.Common.{◌≡◌, ℕ, pos, ℤ, Bool, true, false, nat_lt, lt-ltb, List, ◌∷◌, length, map, refl, sym, ◌∙◌, subst, rules}
use Rattle.std.specs.Prelude.{◌&&◌}
use Rattle.std.specs.List.{list_all, AllByRecursion}
use Rattle.std.proofs.lemmas.List.Elements.{recursion_from_All}
use Rattle.nest_syntax.specs.declared.names.Line.{Line}
use Rattle.nest_syntax.specs.declared.operators.Un.{Un}
use Rattle.nest_syntax.specs.declared.operators.Bin.{Bin}
use Rattle.nest_syntax.specs.declared.operators.Op.{Op}
use Rattle.nest_syntax.specs.declared.tree.Expr.{Expr}
use Rattle.nest_syntax.specs.declared.tree.Expr.TheVariants as expr
use Rattle.nest_syntax.specs.declared.tree.Expr.TheFolds.{the_lemmas}
use Rattle.nest_syntax.specs.declared.tree.Arm.{Arm}
use Rattle.nest_syntax.specs.declared.tree.Stmt.{Stmt}
use Rattle.nest_syntax.specs.declared.tree.Stmt.TheVariants as stmt
use Rattle.nest_syntax.specs.declared.tree.Stmt.TheFolds.{fold-Stmt, fold-Arm, the_lemmas as the_stmt_lemmas}
use Rattle.nest_syntax.specs.declared.tree.Loop.{Loop}
use Rattle.nest_syntax.specs.declared.tree.Decl.{Decl}
use Rattle.nest_syntax.specs.declared.tree.Program.{Program}
use Rattle.nest_syntax.specs.Named.{expr_named, stmt_named, arm_named, header_named, loop_named, decl_named, IsWellNamed}
use Rattle.nest_lex.specs.declared.token.Token.{Token}
use Rattle.nest_lex.specs.declared.token.Tokens.{Tokens}
use Rattle.nest_lex.specs.Text.{IsKindWithin, AreWellNamed}
use Rattle.nest_parse.specs.Grammar.{IsFactor, a_number, a_name, a_word, in_parentheses, signed, IsLevel, tightest, level, IsTail, ended, goes_on, IsExpr, plain, choice, IsStep, behind, before, by, IsStatement, declares, assigns, writes, chooses, turns, IsArm, an_arm, IsElses, no_else, else_if, last_else, IsLoop, a_loop, IsStatements, no_statement, statement, IsSigned, positive, negative, IsDecl, an_array, a_fixed_array, a_scalar, AreDecls, no_decl, declaration, AreLoops, no_loop, a_region, Derives}

and_both : (a b : Bool) → a ≡ true → b ≡ true → a && b ≡ true
and_both true b g h = h
and_both false b g h = cc

-- each name number among the tokens is below the count
abbrev AllNamed : ℕ → List Token → Type 0
AllNamed count tokens = AllByRecursion (λ (t : Token). IsKindWithin count t.kind) tokens

named_number : (count : ℕ) (n : ℤ) → expr_named count (expr.Number n) ≡ true
named_number count n = search (rules, the_lemmas)

named_scalar : (count n : ℕ) → expr_named count (expr.Scalar n) ≡ nat_lt n count
named_scalar count n = search (rules, the_lemmas)

named_word : (count n : ℕ) (e : Expr) → expr_named count (expr.Word n e) ≡ nat_lt n count && expr_named count e
named_word count n e = search (rules, the_lemmas)

named_binary : (count : ℕ) (o : Bin) (a b : Expr) → expr_named count (expr.Binary o a b) ≡ expr_named count a && expr_named count b
named_binary count o a b = search (rules, the_lemmas)

named_unary : (count : ℕ) (o : Un) (e : Expr) → expr_named count (expr.Unary o e) ≡ expr_named count e
named_unary count o e = search (rules, the_lemmas)

named_choice : (count : ℕ) (c a b : Expr) → expr_named count (expr.Choice c a b) ≡ expr_named count c && (expr_named count a && expr_named count b)
named_choice count c a b = search (rules, the_lemmas)

abbrev statement_named : ℕ → Stmt → Bool
statement_named count = fold-Stmt Bool Bool Bool (stmt_named count) (arm_named count) (header_named count)

abbrev one_arm_named : ℕ → Arm → Bool
one_arm_named count = fold-Arm Bool Bool Bool (stmt_named count) (arm_named count) (header_named count)

abbrev all_named : ℕ → List Stmt → Bool
all_named count xs = list_all (λ b. b) (map (statement_named count) xs)

abbrev arms_named : ℕ → List Arm → Bool
arms_named count xs = list_all (λ b. b) (map (one_arm_named count) xs)

named_declare : (count : ℕ) (on : Line) (n : ℕ) (e : Expr) → statement_named count (stmt.Declare on n e) ≡ nat_lt n count && expr_named count e
named_declare count on n e = search (rules, the_stmt_lemmas)

named_assign : (count : ℕ) (on : Line) (n : ℕ) (o : Op) (e : Expr) → statement_named count (stmt.Assign on n o e) ≡ nat_lt n count && expr_named count e
named_assign count on n o e = search (rules, the_stmt_lemmas)

named_write : (count : ℕ) (on : Line) (n : ℕ) (p : Expr) (o : Op) (e : Expr) → statement_named count (stmt.Write on n p o e) ≡ nat_lt n count && (expr_named count p && expr_named count e)
named_write count on n p o e = search (rules, the_stmt_lemmas)

named_if : (count : ℕ) (arms : List Arm) (other : List Stmt) → statement_named count (stmt.If arms other) ≡ arms_named count arms && all_named count other
named_if count arms other = search (rules, the_stmt_lemmas)

named_inner : (count : ℕ) (l : Loop) → statement_named count (stmt.Loop l) ≡ loop_named count l
named_inner count l = search (rules, the_stmt_lemmas)

named_arm : (count : ℕ) (on : Line) (e : Expr) (body : List Stmt) → one_arm_named count (record { line = on; test = e; body = body }) ≡ expr_named count e && all_named count body
named_arm count on e body = search (rules, the_stmt_lemmas)

named_loop : (count : ℕ) (on : Line) (n : ℕ) (low high : Expr) (through : Bool) (step : ℕ) (body : List Stmt)
    → loop_named count (record { line = on; name = n; low = low; high = high; through = through; step = step; body = body })
    ≡ nat_lt n count && (expr_named count low && (expr_named count high && all_named count body))
named_loop count on n low high through step body = search (rules, the_stmt_lemmas)

abbrev Named : ℕ → Bool → List Token → Type 0
Named count b r = (b ≡ true) × AllNamed count r

mutual
  factor_named : (count : ℕ) {ts r : List Token} {e : Expr} → IsFactor ts e r → AllNamed count ts → Named count (expr_named count e) r
  factor_named count (a_number {n = n} x) h = (named_number count (pos n), h.1)
  factor_named count (a_name {n = n}) h = (named_scalar count n ∙ lt-ltb n count h.0, h.1)
  factor_named count (a_word {n = n} {e = e} x) h = let v = value_named count x h.1.1 in (named_word count n e ∙ and_both _ _ (lt-ltb n count h.0) v.0, v.1.1)
  factor_named count (in_parentheses x) h = let v = value_named count x h.1 in (v.0, v.1.1)
  factor_named count (signed {o = o} {e = e} u x) h = let v = factor_named count x h.1 in (named_unary count o e ∙ v.0, v.1)

  level_named : (count : ℕ) {d : ℕ} {ts r : List Token} {e : Expr} → IsLevel d ts e r → AllNamed count ts → Named count (expr_named count e) r
  level_named count (tightest x) h = factor_named count x h
  level_named count (level x t) h = let v = level_named count x h in tail_named count t v.0 v.1

  tail_named : (count : ℕ) {d : ℕ} {a e : Expr} {ts r : List Token} → IsTail d a ts e r → expr_named count a ≡ true → AllNamed count ts → Named count (expr_named count e) r
  tail_named count ended l h = (l, h)
  tail_named count (goes_on {o = op} {a = a} {b = b} o x t) l h =
      let v = level_named count x h.1 in tail_named count t (named_binary count op a b ∙ and_both _ _ l v.0) v.1

  value_named : (count : ℕ) {ts r : List Token} {e : Expr} → IsExpr ts e r → AllNamed count ts → Named count (expr_named count e) r
  value_named count (plain x) h = level_named count x h
  value_named count (choice {c = c} {a = a} {b = b} x y z) h =
      let u = level_named count x h in
      let v = value_named count y u.1.1 in
      let w = value_named count z v.1.1 in
      (named_choice count c a b ∙ and_both _ _ u.0 (and_both _ _ v.0 w.0), w.1)

step_named : (count : ℕ) {n c : ℕ} {ts r : List Token} → IsStep n ts c r → AllNamed count ts → AllNamed count r
step_named count behind h = h.1.1
step_named count before h = h.1.1
step_named count (by x) h = h.1.1.1

mutual
  a_statement_named : (count : ℕ) {ts r : List Token} {x : Stmt} → IsStatement ts x r → AllNamed count ts → Named count (statement_named count x) r
  a_statement_named count (declares {n = n} {e = e} x) h = let v = value_named count x h.1.1.1 in (named_declare count _ n e ∙ and_both _ _ (lt-ltb n count h.1.0) v.0, v.1.1)
  a_statement_named count (assigns {n = n} {o = op} {e = e} o x) h = let v = value_named count x h.1.1 in (named_assign count _ n op e ∙ and_both _ _ (lt-ltb n count h.0) v.0, v.1.1)
  a_statement_named count (writes {n = n} {o = op} {place = p} {e = e} x o y) h =
      let u = value_named count x h.1.1 in
      let v = value_named count y u.1.1.1 in
      (named_write count _ n p op e ∙ and_both _ _ (lt-ltb n count h.0) (and_both _ _ u.0 v.0), v.1.1)
  a_statement_named count (chooses {first = first} {arms = arms} {other = other} a b) h =
      let f = an_arm_named count a h.1 in
      let g = elses_named count b f.1 in
      (named_if count (first ∷ arms) other ∙ and_both _ _ (and_both _ _ f.0 g.0) g.1, g.2)
  a_statement_named count (turns {l = l} x) h = let v = a_loop_named count x h in (named_inner count l ∙ v.0, v.1)

  an_arm_named : (count : ℕ) {s : _} {ts r : List Token} {x : Arm} → IsArm s ts x r → AllNamed count ts → Named count (one_arm_named count x) r
  an_arm_named count (an_arm {e = e} {body = body} x xs) h =
      let v = value_named count x h.1 in
      let w = statements_named count xs v.1.1.1 in
      (named_arm count _ e body ∙ and_both _ _ v.0 w.0, w.1.1)

  elses_named : (count : ℕ) {ts r : List Token} {arms : List Arm} {other : List Stmt} → IsElses ts arms other r → AllNamed count ts
      → (arms_named count arms ≡ true) × (all_named count other ≡ true) × AllNamed count r
  elses_named count no_else h = (refl, refl, h)
  elses_named count (else_if a b) h = let f = an_arm_named count a h.1.1 in let g = elses_named count b f.1 in (and_both _ _ f.0 g.0, g.1, g.2)
  elses_named count (last_else xs) h = let v = statements_named count xs h.1.1 in (refl, v.0, v.1.1)

  a_loop_named : (count : ℕ) {ts r : List Token} {x : Loop} → IsLoop ts x r → AllNamed count ts → Named count (loop_named count x) r
  a_loop_named count (a_loop {n = n} {low = low} {high = high} {body = body} x c y s xs) h =
      let u = value_named count x h.1.1.1.1.1 in
      let v = level_named count y u.1.1.1.1 in
      let w = step_named count s v.1.1 in
      let b = statements_named count xs w.1.1 in
      (named_loop count _ n low high _ _ body ∙ and_both _ _ (lt-ltb n count h.1.1.1.0) (and_both _ _ u.0 (and_both _ _ v.0 b.0)), b.1.1)

  statements_named : (count : ℕ) {ts r : List Token} {xs : List Stmt} → IsStatements ts xs r → AllNamed count ts → Named count (all_named count xs) r
  statements_named count no_statement h = (refl, h)
  statements_named count (statement x xs) h = let v = a_statement_named count x h in let w = statements_named count xs v.1 in (and_both _ _ v.0 w.0, w.1)

signed_named : (count : ℕ) {z : ℤ} {ts r : List Token} → IsSigned ts z r → AllNamed count ts → AllNamed count r
signed_named count (positive x) h = h.1
signed_named count (negative x) h = h.1.1

a_decl_named : (count : ℕ) {ts r : List Token} {x : Decl} → IsDecl ts x r → AllNamed count ts → Named count (decl_named count x) r
a_decl_named count (an_array {n = n} x) h = (lt-ltb n count h.1.0, h.1.1.1.1.1.1)
a_decl_named count (a_fixed_array {n = n} x) h = (lt-ltb n count h.1.1.0, h.1.1.1.1.1.1.1)
a_decl_named count (a_scalar {n = n} x) h = let r = signed_named count x h.1.1.1 in (lt-ltb n count h.1.0, r.1)

decls_named : (count : ℕ) {ts r : List Token} {xs : List Decl} → AreDecls ts xs r → AllNamed count ts → Named count (list_all (decl_named count) xs) r
decls_named count no_decl h = (refl, h)
decls_named count (declaration x xs) h = let v = a_decl_named count x h in let w = decls_named count xs v.1 in (and_both _ _ v.0 w.0, w.1)

loops_named : (count : ℕ) {ts r : List Token} {xs : List Loop} → AreLoops ts xs r → AllNamed count ts → Named count (list_all (loop_named count) xs) r
loops_named count no_loop h = (refl, h)
loops_named count (a_region x xs) h = let v = a_loop_named count x h in let w = loops_named count xs v.1 in (and_both _ _ v.0 w.0, w.1)

pub derived_named : {tokens : Tokens} {p : Program} → AreWellNamed tokens → Derives tokens p → IsWellNamed p
derived_named {tokens} {p} named d =
    let count = length tokens.names in
    let f = decls_named count d.spelled.declared (recursion_from_All _ tokens.list named.kinds) in
    let g = loops_named count d.spelled.looped f.1 in
    let made : IsWellNamed (record { names = tokens.names; decls = p.decls; regions = p.regions }) = record { names = record { few = named.few; differ = named.differ }; decls = f.0; regions = g.0 } in
    subst (λ ns. IsWellNamed (record { names = ns; decls = p.decls; regions = p.regions })) (sym d.names) made
