-- The names in a tree and in tokens, as often as they stand there, in textual order.
use Rattle.std.proofs.Common.{◌≡◌, ℕ, ℤ, pos, Bool, Some, List, [], ◌∷◌, ◌++◌, map, refl, sym, ap, ◌∙◌, append_assoc, rules}
use Rattle.std.specs.List.{flat_map}
use Rattle.std.proofs.lemmas.List.{append-nil}
use Rattle.nest_syntax.specs.declared.names.Line.{Line}
use Rattle.nest_syntax.specs.declared.operators.Un.{Un}
use Rattle.nest_syntax.specs.declared.operators.Bin.{Bin}
use Rattle.nest_syntax.specs.declared.operators.Op.{Op}
use Rattle.nest_syntax.specs.declared.tree.Expr.{Expr, fold-Expr}
use Rattle.nest_syntax.specs.declared.tree.Expr.TheVariants as expr
use Rattle.nest_syntax.specs.declared.tree.Expr.TheOpen.{Expr-F}
use Rattle.nest_syntax.specs.declared.tree.Expr.TheFolds.{the_lemmas}
use Rattle.nest_syntax.specs.declared.tree.Arm.{Arm}
use Rattle.nest_syntax.specs.declared.tree.Stmt.{Stmt}
use Rattle.nest_syntax.specs.declared.tree.Stmt.TheVariants as stmt
use Rattle.nest_syntax.specs.declared.tree.Stmt.TheOpen.{Stmt-F, Arm-F, Loop-F}
use Rattle.nest_syntax.specs.declared.tree.Stmt.TheFolds.{fold-Stmt, fold-Arm, fold-Loop, the_lemmas as the_stmt_lemmas}
use Rattle.nest_syntax.specs.declared.tree.Loop.{Loop}
use Rattle.nest_syntax.specs.declared.tree.Decl.{Decl}
use Rattle.nest_syntax.specs.declared.tree.Decl.TheVariants as decl
use Rattle.nest_lex.specs.declared.token.Kind.{Kind}
use Rattle.nest_lex.specs.declared.token.Kind.TheVariants as kind
use Rattle.nest_lex.specs.declared.token.Spot.{Spot}
use Rattle.nest_lex.specs.declared.token.Token.{Token}
use Rattle.nest_parse.specs.Grammar.{binary, unary, assignment, comparison, IsFactor, a_number, a_name, a_word, in_parentheses, signed, IsLevel, tightest, level, IsTail, ended, goes_on, IsExpr, plain, choice, IsStep, behind, before, by, IsStatement, declares, assigns, writes, chooses, turns, IsArm, an_arm, IsElses, no_else, else_if, last_else, IsLoop, a_loop, IsStatements, no_statement, statement, IsSigned, positive, negative, IsDecl, an_array, a_fixed_array, a_scalar, AreDecls, no_decl, declaration, AreLoops, no_loop, a_region, AreProgram}
use Rattle.nest_print.specs.Canonical.{name_text}

abbrev pub Names : Type 0
Names = List (List ℕ)

-- one after another
abbrev pub in_all : List Names → Names
in_all parts = flat_map (λ (part : Names). part) parts

module _ (names : Names) where
  abbrev in_node : Expr-F Names → Names
  in_node (Expr-F.Number n) = []
  in_node (Expr-F.Scalar n) = name_text names n ∷ []
  in_node (Expr-F.Word n place) = name_text names n ∷ place
  in_node (Expr-F.Unary o part) = part
  in_node (Expr-F.Binary o left right) = left ++ right
  in_node (Expr-F.Choice test first second) = test ++ (first ++ second)

  abbrev pub in_expr : Expr → Names
  in_expr = fold-Expr Names in_node

  abbrev in_stmt_node : Stmt-F Names Names Names → Names
  in_stmt_node (Stmt-F.Declare line n value) = name_text names n ∷ in_expr value
  in_stmt_node (Stmt-F.Assign line n o value) = name_text names n ∷ in_expr value
  in_stmt_node (Stmt-F.Write line n place o value) = name_text names n ∷ (in_expr place ++ in_expr value)
  in_stmt_node (Stmt-F.If arms other) = in_all arms ++ in_all other
  in_stmt_node (Stmt-F.Loop inner) = inner

  abbrev in_arm_node : Arm-F Names Names Names → Names
  in_arm_node arm = in_expr arm.test ++ in_all arm.body

  -- the name of a loop stands in it three times
  abbrev in_loop_node : Loop-F Names Names Names → Names
  in_loop_node head = name_text names head.name ∷ (in_expr head.low ++ (name_text names head.name ∷ (in_expr head.high ++ (name_text names head.name ∷ in_all head.body))))

  abbrev pub in_stmt : Stmt → Names
  in_stmt = fold-Stmt Names Names Names in_stmt_node in_arm_node in_loop_node

  abbrev pub in_arm : Arm → Names
  in_arm = fold-Arm Names Names Names in_stmt_node in_arm_node in_loop_node

  abbrev pub in_loop : Loop → Names
  in_loop = fold-Loop Names Names Names in_stmt_node in_arm_node in_loop_node

  abbrev pub in_decl : Decl → Names
  in_decl (decl.Array line n length fixed) = name_text names n ∷ []
  in_decl (decl.Scalar line n value) = name_text names n ∷ []

  abbrev pub in_kind : Kind → Names
  in_kind (kind.Name n) = name_text names n ∷ []
  in_kind _ = []

  abbrev pub in_tokens : List Token → Names
  in_tokens tokens = flat_map (λ (t : Token). in_kind t.kind) tokens

  pub in_number : (z : ℤ) → in_expr (expr.Number z) ≡ []
  in_number z = search (rules, the_lemmas)

  pub in_scalar : (n : ℕ) → in_expr (expr.Scalar n) ≡ name_text names n ∷ []
  in_scalar n = search (rules, the_lemmas)

  pub in_word : (n : ℕ) (e : Expr) → in_expr (expr.Word n e) ≡ name_text names n ∷ in_expr e
  in_word n e = search (rules, the_lemmas)

  pub in_unary : (o : Un) (e : Expr) → in_expr (expr.Unary o e) ≡ in_expr e
  in_unary o e = search (rules, the_lemmas)

  pub in_binary : (o : Bin) (a b : Expr) → in_expr (expr.Binary o a b) ≡ in_expr a ++ in_expr b
  in_binary o a b = search (rules, the_lemmas)

  pub in_choice : (c a b : Expr) → in_expr (expr.Choice c a b) ≡ in_expr c ++ (in_expr a ++ in_expr b)
  in_choice c a b = search (rules, the_lemmas)

  pub in_declare : (on : Line) (n : ℕ) (e : Expr) → in_stmt (stmt.Declare on n e) ≡ name_text names n ∷ in_expr e
  in_declare on n e = search (rules, the_stmt_lemmas)

  pub in_assign : (on : Line) (n : ℕ) (o : Op) (e : Expr) → in_stmt (stmt.Assign on n o e) ≡ name_text names n ∷ in_expr e
  in_assign on n o e = search (rules, the_stmt_lemmas)

  pub in_write : (on : Line) (n : ℕ) (p : Expr) (o : Op) (e : Expr) → in_stmt (stmt.Write on n p o e) ≡ name_text names n ∷ (in_expr p ++ in_expr e)
  in_write on n p o e = search (rules, the_stmt_lemmas)

  pub in_if : (arms : List Arm) (other : List Stmt) → in_stmt (stmt.If arms other) ≡ in_all (map in_arm arms) ++ in_all (map in_stmt other)
  in_if arms other = search (rules, the_stmt_lemmas)

  pub in_inner : (l : Loop) → in_stmt (stmt.Loop l) ≡ in_loop l
  in_inner l = search (rules, the_stmt_lemmas)

  pub in_tested : (on : Line) (e : Expr) (body : List Stmt) → in_arm (record { line = on; test = e; body = body }) ≡ in_expr e ++ in_all (map in_stmt body)
  in_tested on e body = search (rules, the_stmt_lemmas)

  pub in_turns : (on : Line) (n : ℕ) (low high : Expr) (through : Bool) (step : ℕ) (body : List Stmt)
      → in_loop (record { line = on; name = n; low = low; high = high; through = through; step = step; body = body })
      ≡ name_text names n ∷ (in_expr low ++ (name_text names n ∷ (in_expr high ++ (name_text names n ∷ in_all (map in_stmt body)))))
  in_turns on n low high through step body = search (rules, the_stmt_lemmas)

  -- operators have no names
  no_unary : (k : Kind) {o : Un} → unary k ≡ Some o → in_kind k ≡ []
  no_unary (kind.Name n) u = cc
  no_unary _ u = refl

  no_binary : (k : Kind) {d : ℕ} {o : Bin} → binary k ≡ Some (d, o) → in_kind k ≡ []
  no_binary (kind.Name n) u = cc
  no_binary _ u = refl

  no_assignment : (k : Kind) {o : Op} → assignment k ≡ Some o → in_kind k ≡ []
  no_assignment (kind.Name n) u = cc
  no_assignment _ u = refl

  no_comparison : (k : Kind) {through : Bool} → comparison k ≡ Some through → in_kind k ≡ []
  no_comparison (kind.Name n) u = cc
  no_comparison _ u = refl

  three : (a b c r : Names) → a ++ (b ++ (c ++ r)) ≡ (a ++ (b ++ c)) ++ r
  three a b c r = simp append_assoc

  four : (a b c r : Names) → a ++ (b ++ (c ++ r)) ≡ ((a ++ b) ++ c) ++ r
  four a b c r = simp append_assoc

  five : (a b c d e r : Names) → a ++ (b ++ (c ++ (d ++ (e ++ r)))) ≡ (a ++ (b ++ (c ++ (d ++ e)))) ++ r
  five a b c d e r = simp append_assoc

  -- what tokens derive has the names of the tokens
  mutual
    factor_said : {ts r : List Token} {e : Expr} → IsFactor ts e r → in_tokens ts ≡ in_expr e ++ in_tokens r
    factor_said (a_number {n = n} {r = r} x) = ap (λ ns. ns ++ in_tokens r) (sym (in_number (pos n)))
    factor_said (a_name {n = n} {r = r}) = ap (λ ns. ns ++ in_tokens r) (sym (in_scalar n))
    factor_said (a_word {n = n} {r = r} {e = e} x) = ap (λ ns. name_text names n ∷ ns) (value_said x) ∙ ap (λ ns. ns ++ in_tokens r) (sym (in_word n e))
    factor_said (in_parentheses x) = value_said x
    factor_said (signed {k = k} {o = o} {ts = ts} {r = r} {e = e} u x) = ap (λ ns. ns ++ in_tokens ts) (no_unary k u) ∙ factor_said x ∙ ap (λ ns. ns ++ in_tokens r) (sym (in_unary o e))

    level_said : {d : ℕ} {ts r : List Token} {e : Expr} → IsLevel d ts e r → in_tokens ts ≡ in_expr e ++ in_tokens r
    level_said (tightest x) = factor_said x
    level_said (level x t) = level_said x ∙ tail_said t

    tail_said : {d : ℕ} {a e : Expr} {ts r : List Token} → IsTail d a ts e r → in_expr a ++ in_tokens ts ≡ in_expr e ++ in_tokens r
    tail_said ended = refl
    tail_said (goes_on {k = k} {o = o} {a = a} {b = b} {ts = ts} {m = m} u x t) =
        ap (λ ns. in_expr a ++ (ns ++ in_tokens ts)) (no_binary k u)
        ∙ ap (λ ns. in_expr a ++ ns) (level_said x)
        ∙ sym (append_assoc (in_expr a) (in_expr b) (in_tokens m))
        ∙ ap (λ ns. ns ++ in_tokens m) (sym (in_binary o a b))
        ∙ tail_said t

    value_said : {ts r : List Token} {e : Expr} → IsExpr ts e r → in_tokens ts ≡ in_expr e ++ in_tokens r
    value_said (plain x) = level_said x
    value_said (choice {r = r} {c = c} {a = a} {b = b} x y z) =
        level_said x
        ∙ ap (λ ns. in_expr c ++ ns) (value_said y ∙ ap (λ ns. in_expr a ++ ns) (value_said z))
        ∙ three (in_expr c) (in_expr a) (in_expr b) (in_tokens r)
        ∙ ap (λ ns. ns ++ in_tokens r) (sym (in_choice c a b))

  step_said : {n c : ℕ} {ts r : List Token} → IsStep n ts c r → in_tokens ts ≡ name_text names n ∷ in_tokens r
  step_said behind = refl
  step_said before = refl
  step_said (by x) = refl

  mutual
    statement_said : {ts r : List Token} {x : Stmt} → IsStatement ts x r → in_tokens ts ≡ in_stmt x ++ in_tokens r
    statement_said (declares {n = n} {r = r} {e = e} x) = ap (λ ns. name_text names n ∷ ns) (value_said x) ∙ ap (λ ns. ns ++ in_tokens r) (sym (in_declare _ n e))
    statement_said (assigns {n = n} {k = k} {o = o} {ts = ts} {r = r} {e = e} u x) =
        ap (λ ns. name_text names n ∷ (ns ++ in_tokens ts)) (no_assignment k u) ∙ ap (λ ns. name_text names n ∷ ns) (value_said x) ∙ ap (λ ns. ns ++ in_tokens r) (sym (in_assign _ n o e))
    statement_said (writes {n = n} {k = k} {o = o} {us = us} {r = r} {place = p} {e = e} x u y) =
        ap (λ ns. name_text names n ∷ ns)
        (value_said x ∙ ap (λ ns. in_expr p ++ (ns ++ in_tokens us)) (no_assignment k u) ∙ ap (λ ns. in_expr p ++ ns) (value_said y) ∙ sym (append_assoc (in_expr p) (in_expr e) (in_tokens r)))
        ∙ ap (λ ns. ns ++ in_tokens r) (sym (in_write _ n p o e))
    statement_said (chooses {r = r} {first = first} {arms = arms} {other = other} a b) =
        arm_said a ∙ ap (λ ns. in_arm first ++ ns) (elses_said b)
        ∙ four (in_arm first) (in_all (map in_arm arms)) (in_all (map in_stmt other)) (in_tokens r)
        ∙ ap (λ ns. ns ++ in_tokens r) (sym (in_if (first ∷ arms) other))
    statement_said (turns {r = r} {l = l} x) = loop_said x ∙ ap (λ ns. ns ++ in_tokens r) (sym (in_inner l))

    arm_said : {s : Spot} {ts r : List Token} {x : Arm} → IsArm s ts x r → in_tokens ts ≡ in_arm x ++ in_tokens r
    arm_said (an_arm {r = r} {e = e} {body = body} x xs) =
        value_said x ∙ ap (λ ns. in_expr e ++ ns) (statements_said xs) ∙ sym (append_assoc (in_expr e) (in_all (map in_stmt body)) (in_tokens r))
        ∙ ap (λ ns. ns ++ in_tokens r) (sym (in_tested _ e body))

    elses_said : {ts r : List Token} {arms : List Arm} {other : List Stmt} → IsElses ts arms other r → in_tokens ts ≡ in_all (map in_arm arms) ++ (in_all (map in_stmt other) ++ in_tokens r)
    elses_said no_else = refl
    elses_said (else_if {r = r} {next = next} {arms = arms} {other = other} a b) =
        arm_said a ∙ ap (λ ns. in_arm next ++ ns) (elses_said b) ∙ sym (append_assoc (in_arm next) (in_all (map in_arm arms)) (in_all (map in_stmt other) ++ in_tokens r))
    elses_said (last_else xs) = statements_said xs

    loop_said : {ts r : List Token} {x : Loop} → IsLoop ts x r → in_tokens ts ≡ in_loop x ++ in_tokens r
    loop_said (a_loop {n = n} {k = k} {us = us} {r = r} {low = low} {high = high} {body = body} x c y s xs) =
        ap (λ ns. name_text names n ∷ ns)
        (value_said x
        ∙ ap (λ ns. in_expr low ++ (name_text names n ∷ (ns ++ in_tokens us))) (no_comparison k c)
        ∙ ap (λ ns. in_expr low ++ (name_text names n ∷ ns)) (level_said y ∙ ap (λ ns. in_expr high ++ ns) (step_said s ∙ ap (λ ns. name_text names n ∷ ns) (statements_said xs)))
        ∙ five (in_expr low) (name_text names n ∷ []) (in_expr high) (name_text names n ∷ []) (in_all (map in_stmt body)) (in_tokens r))
        ∙ ap (λ ns. ns ++ in_tokens r) (sym (in_turns _ n low high _ _ body))

    statements_said : {ts r : List Token} {xs : List Stmt} → IsStatements ts xs r → in_tokens ts ≡ in_all (map in_stmt xs) ++ in_tokens r
    statements_said no_statement = refl
    statements_said (statement {r = r} {x = x} {xs = xs} y ys) =
        statement_said y ∙ ap (λ ns. in_stmt x ++ ns) (statements_said ys) ∙ sym (append_assoc (in_stmt x) (in_all (map in_stmt xs)) (in_tokens r))

  signed_said : {z : ℤ} {ts r : List Token} → IsSigned ts z r → in_tokens ts ≡ in_tokens r
  signed_said (positive x) = refl
  signed_said (negative x) = refl

  decl_said : {ts r : List Token} {x : Decl} → IsDecl ts x r → in_tokens ts ≡ in_decl x ++ in_tokens r
  decl_said (an_array x) = refl
  decl_said (a_fixed_array x) = refl
  decl_said (a_scalar {n = n} x) = ap (λ ns. name_text names n ∷ ns) (signed_said x)

  decls_said : {ts r : List Token} {xs : List Decl} → AreDecls ts xs r → in_tokens ts ≡ in_all (map in_decl xs) ++ in_tokens r
  decls_said no_decl = refl
  decls_said (declaration {r = r} {x = x} {xs = xs} y ys) = decl_said y ∙ ap (λ ns. in_decl x ++ ns) (decls_said ys) ∙ sym (append_assoc (in_decl x) (in_all (map in_decl xs)) (in_tokens r))

  loops_said : {ts r : List Token} {xs : List Loop} → AreLoops ts xs r → in_tokens ts ≡ in_all (map in_loop xs) ++ in_tokens r
  loops_said no_loop = refl
  loops_said (a_region {r = r} {x = x} {xs = xs} y ys) = loop_said y ∙ ap (λ ns. in_loop x ++ ns) (loops_said ys) ∙ sym (append_assoc (in_loop x) (in_all (map in_loop xs)) (in_tokens r))

  pub program_said : {ts : List Token} {decls : List Decl} {regions : List Loop} → AreProgram ts decls regions → in_tokens ts ≡ in_all (map in_decl decls) ++ in_all (map in_loop regions)
  program_said {decls = decls} {regions = regions} p = decls_said p.declared ∙ ap (λ ns. in_all (map in_decl decls) ++ ns) (loops_said p.looped ∙ append-nil (in_all (map in_loop regions)))
