-- What is read back has the same names in the same order. It is the same, where the names have the same numbers too.
use Rattle.std.proofs.Common.{◌≡◌, ℕ, ℤ, Bool, List, [], ◌∷◌, ◌++◌, map, refl, sym, ap, ◌∙◌, rules}
use Rattle.nest_syntax.specs.declared.names.Line.{Line}
use Rattle.nest_syntax.specs.declared.operators.Un.{Un}
use Rattle.nest_syntax.specs.declared.operators.Bin.{Bin}
use Rattle.nest_syntax.specs.declared.operators.Op.{Op}
use Rattle.nest_syntax.specs.declared.tree.Expr.{Expr}
use Rattle.nest_syntax.specs.declared.tree.Expr.TheVariants as expr
use Rattle.nest_syntax.specs.declared.tree.Arm.{Arm}
use Rattle.nest_syntax.specs.declared.tree.Stmt.{Stmt}
use Rattle.nest_syntax.specs.declared.tree.Stmt.TheVariants as stmt
use Rattle.nest_syntax.specs.declared.tree.Stmt.TheFolds.{the_lemmas}
use Rattle.nest_syntax.specs.declared.tree.Loop.{Loop}
use Rattle.nest_syntax.specs.declared.tree.Decl.{Decl}
use Rattle.nest_syntax.specs.declared.tree.Decl.TheVariants as decl
use Rattle.nest_lex.specs.Spelling.{IsName}
use Rattle.nest_print.specs.Canonical.{name_text}
use Rattle.nest_print.specs.Same.{no_line, stmt_without_lines, arm_without_lines, loop_without_lines, decl_without_line}
use Rattle.nest_print.proofs.Takes.{place}
use Rattle.nest_print.proofs.Said.{Names, in_all, in_expr, in_stmt, in_arm, in_loop, in_decl, in_number, in_scalar, in_word, in_unary, in_binary, in_choice, in_declare, in_assign, in_write, in_if, in_inner, in_tested, in_turns}

bare_declare : (on : Line) (n : ℕ) (e : Expr) → stmt_without_lines (stmt.Declare on n e) ≡ stmt.Declare no_line n e
bare_declare on n e = search (rules, the_lemmas)

bare_assign : (on : Line) (n : ℕ) (o : Op) (e : Expr) → stmt_without_lines (stmt.Assign on n o e) ≡ stmt.Assign no_line n o e
bare_assign on n o e = search (rules, the_lemmas)

bare_write : (on : Line) (n : ℕ) (p : Expr) (o : Op) (e : Expr) → stmt_without_lines (stmt.Write on n p o e) ≡ stmt.Write no_line n p o e
bare_write on n p o e = search (rules, the_lemmas)

bare_if : (arms : List Arm) (other : List Stmt) → stmt_without_lines (stmt.If arms other) ≡ stmt.If (map arm_without_lines arms) (map stmt_without_lines other)
bare_if arms other = search (rules, the_lemmas)

bare_inner : (l : Loop) → stmt_without_lines (stmt.Loop l) ≡ stmt.Loop (loop_without_lines l)
bare_inner l = search (rules, the_lemmas)

bare_arm : (on : Line) (e : Expr) (body : List Stmt) → arm_without_lines (record { line = on; test = e; body = body }) ≡ record { line = no_line; test = e; body = map stmt_without_lines body }
bare_arm on e body = search (rules, the_lemmas)

bare_loop : (on : Line) (n : ℕ) (low high : Expr) (through : Bool) (step : ℕ) (body : List Stmt)
    → loop_without_lines (record { line = on; name = n; low = low; high = high; through = through; step = step; body = body })
    ≡ record { line = no_line; name = n; low = low; high = high; through = through; step = step; body = map stmt_without_lines body }
bare_loop on n low high through step body = search (rules, the_lemmas)

module _ (old names : Names) where
  -- each name has its old number
  abbrev pub AreNumbered : Type 0
  AreNumbered = (n : ℕ) → IsName (name_text old n) → place names (name_text old n) ≡ n

  -- a name is found among the names
  pub record Named (n : ℕ) : Type 0 where
    pub name : IsName (name_text old n)
    pub is : name_text names (place names (name_text old n)) ≡ name_text old n

  pub record Agree {X : Type 0} (said : Names → X → Names) (bare : X → X) (x x' : X) : Type 0 where
    pub spoken : said old x ≡ said names x'
    pub equal : AreNumbered → bare x ≡ bare x'

  abbrev pub AgreeExpr : Expr → Expr → Type 0
  AgreeExpr = Agree in_expr (λ e. e)

  abbrev pub AgreeStmt : Stmt → Stmt → Type 0
  AgreeStmt = Agree in_stmt stmt_without_lines

  abbrev pub AgreeStmts : List Stmt → List Stmt → Type 0
  AgreeStmts = Agree (λ ns xs. in_all (map (in_stmt ns) xs)) (map stmt_without_lines)

  abbrev pub AgreeArm : Arm → Arm → Type 0
  AgreeArm = Agree in_arm arm_without_lines

  abbrev pub AgreeArms : List Arm → List Arm → Type 0
  AgreeArms = Agree (λ ns xs. in_all (map (in_arm ns) xs)) (map arm_without_lines)

  abbrev pub AgreeLoop : Loop → Loop → Type 0
  AgreeLoop = Agree in_loop loop_without_lines

  abbrev pub AgreeLoops : List Loop → List Loop → Type 0
  AgreeLoops = Agree (λ ns xs. in_all (map (in_loop ns) xs)) (map loop_without_lines)

  abbrev pub AgreeDecl : Decl → Decl → Type 0
  AgreeDecl = Agree in_decl decl_without_line

  abbrev pub AgreeDecls : List Decl → List Decl → Type 0
  AgreeDecls = Agree (λ ns xs. in_all (map (in_decl ns) xs)) (map decl_without_line)

module _ {old names : Names} where
  pub number : {z : ℤ} → AgreeExpr old names (expr.Number z) (expr.Number z)
  number {z} = record { spoken = in_number old z ∙ sym (in_number names z); equal = λ numbered. refl }

  pub scalar : {n : ℕ} → Named old names n → AgreeExpr old names (expr.Scalar n) (expr.Scalar (place names (name_text old n)))
  scalar {n} x = record {
    spoken = in_scalar old n ∙ ap (λ b. b ∷ []) (sym x.is) ∙ sym (in_scalar names (place names (name_text old n)));
    equal = λ numbered. ap expr.Scalar (sym (numbered n x.name));
  }

  pub word : {n : ℕ} {e e' : Expr} → Named old names n → AgreeExpr old names e e' → AgreeExpr old names (expr.Word n e) (expr.Word (place names (name_text old n)) e')
  word {n} {e} {e'} x a = record {
    spoken = in_word old n e ∙ (λ i. (sym x.is) i ∷ a.spoken i) ∙ sym (in_word names (place names (name_text old n)) e');
    equal = λ numbered. λ i. expr.Word ((sym (numbered n x.name)) i) (a.equal numbered i);
  }

  pub unary : {o : Un} {e e' : Expr} → AgreeExpr old names e e' → AgreeExpr old names (expr.Unary o e) (expr.Unary o e')
  unary {o} {e} {e'} a = record { spoken = in_unary old o e ∙ a.spoken ∙ sym (in_unary names o e'); equal = λ numbered. ap (expr.Unary o) (a.equal numbered) }

  pub binary : {o : Bin} {a a' b b' : Expr} → AgreeExpr old names a a' → AgreeExpr old names b b' → AgreeExpr old names (expr.Binary o a b) (expr.Binary o a' b')
  binary {o} {a} {a'} {b} {b'} x y = record {
    spoken = in_binary old o a b ∙ (λ i. x.spoken i ++ y.spoken i) ∙ sym (in_binary names o a' b');
    equal = λ numbered. λ i. expr.Binary o (x.equal numbered i) (y.equal numbered i);
  }

  pub choice : {c c' a a' b b' : Expr} → AgreeExpr old names c c' → AgreeExpr old names a a' → AgreeExpr old names b b' → AgreeExpr old names (expr.Choice c a b) (expr.Choice c' a' b')
  choice {c} {c'} {a} {a'} {b} {b'} x y z = record {
    spoken = in_choice old c a b ∙ (λ i. x.spoken i ++ (y.spoken i ++ z.spoken i)) ∙ sym (in_choice names c' a' b');
    equal = λ numbered. λ i. expr.Choice (x.equal numbered i) (y.equal numbered i) (z.equal numbered i);
  }

  pub declare : {on on' : Line} {n : ℕ} {e e' : Expr} → Named old names n → AgreeExpr old names e e' → AgreeStmt old names (stmt.Declare on n e) (stmt.Declare on' (place names (name_text old n)) e')
  declare {on} {on'} {n} {e} {e'} x a = record {
    spoken = in_declare old on n e ∙ (λ i. (sym x.is) i ∷ a.spoken i) ∙ sym (in_declare names on' (place names (name_text old n)) e');
    equal = λ numbered. bare_declare on n e ∙ (λ i. stmt.Declare no_line ((sym (numbered n x.name)) i) (a.equal numbered i)) ∙ sym (bare_declare on' (place names (name_text old n)) e');
  }

  pub assign : {on on' : Line} {n : ℕ} {o : Op} {e e' : Expr} → Named old names n → AgreeExpr old names e e' → AgreeStmt old names (stmt.Assign on n o e) (stmt.Assign on' (place names (name_text old n)) o e')
  assign {on} {on'} {n} {o} {e} {e'} x a = record {
    spoken = in_assign old on n o e ∙ (λ i. (sym x.is) i ∷ a.spoken i) ∙ sym (in_assign names on' (place names (name_text old n)) o e');
    equal = λ numbered. bare_assign on n o e ∙ (λ i. stmt.Assign no_line ((sym (numbered n x.name)) i) o (a.equal numbered i)) ∙ sym (bare_assign on' (place names (name_text old n)) o e');
  }

  pub write : {on on' : Line} {n : ℕ} {p p' : Expr} {o : Op} {e e' : Expr} → Named old names n → AgreeExpr old names p p' → AgreeExpr old names e e'
      → AgreeStmt old names (stmt.Write on n p o e) (stmt.Write on' (place names (name_text old n)) p' o e')
  write {on} {on'} {n} {p} {p'} {o} {e} {e'} x a b = record {
    spoken = in_write old on n p o e ∙ (λ i. (sym x.is) i ∷ (a.spoken i ++ b.spoken i)) ∙ sym (in_write names on' (place names (name_text old n)) p' o e');
    equal = λ numbered. bare_write on n p o e ∙ (λ i. stmt.Write no_line ((sym (numbered n x.name)) i) (a.equal numbered i) o (b.equal numbered i)) ∙ sym (bare_write on' (place names (name_text old n)) p' o e');
  }

  pub chooses : {arms arms' : List Arm} {other other' : List Stmt} → AgreeArms old names arms arms' → AgreeStmts old names other other' → AgreeStmt old names (stmt.If arms other) (stmt.If arms' other')
  chooses {arms} {arms'} {other} {other'} a b = record {
    spoken = in_if old arms other ∙ (λ i. a.spoken i ++ b.spoken i) ∙ sym (in_if names arms' other');
    equal = λ numbered. bare_if arms other ∙ (λ i. stmt.If (a.equal numbered i) (b.equal numbered i)) ∙ sym (bare_if arms' other');
  }

  pub turns : {l l' : Loop} → AgreeLoop old names l l' → AgreeStmt old names (stmt.Loop l) (stmt.Loop l')
  turns {l} {l'} a = record {
    spoken = in_inner old l ∙ a.spoken ∙ sym (in_inner names l');
    equal = λ numbered. bare_inner l ∙ ap stmt.Loop (a.equal numbered) ∙ sym (bare_inner l');
  }

  pub no_stmt : AgreeStmts old names [] []
  no_stmt = record { spoken = refl; equal = λ numbered. refl }

  pub one_stmt : {x x' : Stmt} {xs xs' : List Stmt} → AgreeStmt old names x x' → AgreeStmts old names xs xs' → AgreeStmts old names (x ∷ xs) (x' ∷ xs')
  one_stmt a b = record { spoken = λ i. a.spoken i ++ b.spoken i; equal = λ numbered. λ i. a.equal numbered i ∷ b.equal numbered i }

  pub an_arm : {on on' : Line} {e e' : Expr} {body body' : List Stmt} → AgreeExpr old names e e' → AgreeStmts old names body body'
      → AgreeArm old names (record { line = on; test = e; body = body }) (record { line = on'; test = e'; body = body' })
  an_arm {on} {on'} {e} {e'} {body} {body'} a b = record {
    spoken = in_tested old on e body ∙ (λ i. a.spoken i ++ b.spoken i) ∙ sym (in_tested names on' e' body');
    equal = λ numbered. bare_arm on e body ∙ (λ i. record { line = no_line; test = a.equal numbered i; body = b.equal numbered i }) ∙ sym (bare_arm on' e' body');
  }

  pub no_arm : AgreeArms old names [] []
  no_arm = record { spoken = refl; equal = λ numbered. refl }

  pub one_arm : {x x' : Arm} {xs xs' : List Arm} → AgreeArm old names x x' → AgreeArms old names xs xs' → AgreeArms old names (x ∷ xs) (x' ∷ xs')
  one_arm a b = record { spoken = λ i. a.spoken i ++ b.spoken i; equal = λ numbered. λ i. a.equal numbered i ∷ b.equal numbered i }

  pub a_loop : {on on' : Line} {n step : ℕ} {low low' high high' : Expr} {through : Bool} {body body' : List Stmt}
      → Named old names n → AgreeExpr old names low low' → AgreeExpr old names high high' → AgreeStmts old names body body'
      → AgreeLoop old names (record { line = on; name = n; low = low; high = high; through = through; step = step; body = body })
      (record { line = on'; name = place names (name_text old n); low = low'; high = high'; through = through; step = step; body = body' })
  a_loop {on} {on'} {n} {step} {low} {low'} {high} {high'} {through} {body} {body'} x a b c = record {
    spoken = in_turns old on n low high through step body
        ∙ (λ i. (sym x.is) i ∷ (a.spoken i ++ ((sym x.is) i ∷ (b.spoken i ++ ((sym x.is) i ∷ c.spoken i)))))
        ∙ sym (in_turns names on' (place names (name_text old n)) low' high' through step body');
    equal = λ numbered.
        bare_loop on n low high through step body
        ∙ (λ i. record { line = no_line; name = (sym (numbered n x.name)) i; low = a.equal numbered i; high = b.equal numbered i; through = through; step = step; body = c.equal numbered i })
        ∙ sym (bare_loop on' (place names (name_text old n)) low' high' through step body');
  }

  pub no_loop : AgreeLoops old names [] []
  no_loop = record { spoken = refl; equal = λ numbered. refl }

  pub one_loop : {x x' : Loop} {xs xs' : List Loop} → AgreeLoop old names x x' → AgreeLoops old names xs xs' → AgreeLoops old names (x ∷ xs) (x' ∷ xs')
  one_loop a b = record { spoken = λ i. a.spoken i ++ b.spoken i; equal = λ numbered. λ i. a.equal numbered i ∷ b.equal numbered i }

  pub array : {on on' : Line} {n count : ℕ} {fixed : Bool} → Named old names n → AgreeDecl old names (decl.Array on n count fixed) (decl.Array on' (place names (name_text old n)) count fixed)
  array {n = n} {count = count} {fixed = fixed} x = record { spoken = ap (λ b. b ∷ []) (sym x.is); equal = λ numbered. ap (λ m. decl.Array no_line m count fixed) (sym (numbered n x.name)) }

  pub a_scalar : {on on' : Line} {n : ℕ} {z : ℤ} → Named old names n → AgreeDecl old names (decl.Scalar on n z) (decl.Scalar on' (place names (name_text old n)) z)
  a_scalar {n = n} {z = z} x = record { spoken = ap (λ b. b ∷ []) (sym x.is); equal = λ numbered. ap (λ m. decl.Scalar no_line m z) (sym (numbered n x.name)) }

  pub no_decl : AgreeDecls old names [] []
  no_decl = record { spoken = refl; equal = λ numbered. refl }

  pub one_decl : {x x' : Decl} {xs xs' : List Decl} → AgreeDecl old names x x' → AgreeDecls old names xs xs' → AgreeDecls old names (x ∷ xs) (x' ∷ xs')
  one_decl a b = record { spoken = λ i. a.spoken i ++ b.spoken i; equal = λ numbered. λ i. a.equal numbered i ∷ b.equal numbered i }
