-- The text of a statement is read back as the same statement.
use Rattle.std.proofs.Common.{◌≡◌, ℕ, ◌≤◌, List, [], ◌∷◌, ◌++◌, map, refl, sym, ap, subst, ◌∙◌, arith, append_assoc, codes}
use Rattle.nest_syntax.specs.declared.tree.Expr.{Expr}
use Rattle.nest_syntax.specs.declared.tree.Arm.{Arm}
use Rattle.nest_syntax.specs.declared.tree.Stmt.{Stmt}
use Rattle.nest_syntax.specs.declared.tree.Stmt.TheVariants as stmt
use Rattle.nest_lex.specs.Spelling.{mark_text, IsName}
use Rattle.nest_lex.specs.declared.token.Keyword.TheVariants as word
use Rattle.nest_lex.specs.declared.token.Mark.TheVariants as mark
use Rattle.nest_lex.specs.declared.token.Spot.{Spot}
use Rattle.nest_lex.specs.declared.token.Token.{Token}
use Rattle.nest_parse.specs.Grammar.{greatest, line, sign, keyword, IsExpr, IsStep, behind, before, by, IsStatement, declares, assigns, writes, IsArm, an_arm, IsElses, IsStatements}
use Rattle.nest_print.specs.declared.print.Standing.TheVariants.{Alone}
use Rattle.nest_print.specs.Canonical.{expr_text, name_text, statement_text, one_arm_text, all_shown, block_text, further_text, other_text, deeper}
use Rattle.nest_print.proofs.Agreed as same
use Rattle.nest_print.proofs.Agreed.{AgreeStmt, AgreeStmts, AgreeArm, AgreeArms, AgreeLoop}
use Rattle.nest_print.proofs.Left.{Left, moved, past}
use Rattle.nest_print.proofs.Takes.{place, take_name, take_keyword, take_mark, take_lone}
use Rattle.nest_print.proofs.Shown.{declare_text, assign_text, write_text, tested_text}
use Rattle.nest_print.proofs.Signs.{assignment_of}
use Rattle.nest_print.proofs.Printable.{AllNames}
use Rattle.nest_print.proofs.Values.{Comes}

-- the spaces of a depth of blocks
pub data Blanks : List ℕ → Type 0 where
  outer : Blanks []
  inner : {indent : List ℕ} → Blanks indent → Blanks (deeper indent)

pub after : {t : Token} {ts us vs : List Token} → ts ≡ t ∷ us → us ≡ vs → ts ≡ t ∷ vs
after {t} e f = e ∙ ap (λ x. t ∷ x) f

-- the step of a loop is in range, and what follows it is well named
pub step_good : (old : List (List ℕ)) {n c : ℕ} {ts r : List Token} → IsStep n ts c r → AllNames old ts → (c ≤ greatest) × AllNames old r
step_good old behind h = (omega arith, h.1.1)
step_good old before h = (omega arith, h.1.1)
step_good old (by x) h = (x, h.1.1.1)

-- an arm behind its `if`
pub record If_arm (tokens : List Token) (x : Arm) (r : List Token) : Type 0 where
  pub spot : Spot
  pub more : List Token
  pub are : tokens ≡ keyword word.If spot ∷ more
  pub is : IsArm spot more x r

-- statements between `{` and `}`
pub record Block (tokens : List Token) (body : List Stmt) (r : List Token) : Type 0 where
  pub opened : Spot
  pub closed : Spot
  pub more : List Token
  pub are : tokens ≡ sign mark.OpenCurly opened ∷ more
  pub is : IsStatements more body (sign mark.CloseCurly closed ∷ r)

module _ {text : List ℕ} {names : List (List ℕ)} where
  pub past_all : {indent : List ℕ} → Blanks indent → {tokens : List Token} {rest : List ℕ} → Left text names tokens (indent ++ rest) → Left text names tokens rest
  past_all outer left = left
  past_all (inner {indent = indent} b) {tokens} {rest} left = past 32 refl (past 32 refl (past_all b (moved (append_assoc indent (32 ∷ 32 ∷ []) rest) left)))

module _ (old : List (List ℕ)) (text : List ℕ) (names : List (List ℕ)) where
  -- it is read from these tokens, and the same; the rest is left
  pub record Returned {X : Type 0} (Is : List Token → X → List Token → Type 0) (Same : X → X → Type 0) (x : X) (tokens : List Token) (rest : List ℕ) : Type 0 where
    pub back : X
    pub more : List Token
    pub is : Is tokens back more
    pub same : Same x back
    pub left : Left text names more rest

  -- so it is wherever its text is in front
  abbrev pub Returns : {X : Type 0} → (List Token → X → List Token → Type 0) → (X → X → Type 0) → X → (List ℕ → List ℕ) → Type 0
  Returns Is Same x shown = (indent : List ℕ) → Blanks indent → (rest : List ℕ) → (tokens : List Token) → Left text names tokens (shown indent ++ rest) → Returned Is Same x tokens rest

  -- further arms and the last block
  pub record Elses_returned (arms : List Arm) (other : List Stmt) (tokens : List Token) (rest : List ℕ) : Type 0 where
    pub arms' : List Arm
    pub other' : List Stmt
    pub more : List Token
    pub is : IsElses tokens arms' other' more
    pub same : AgreeArms old names arms arms'
    pub same_other : AgreeStmts old names other other'
    pub left : Left text names more rest

  abbrev pub Elses_return : List Arm → List Stmt → Type 0
  Elses_return arms other = (indent : List ℕ) → Blanks indent → (rest : List ℕ) → (tokens : List Token)
      → Left text names tokens (further_text indent (map (one_arm_text old) arms) ++ (other_text indent (map (statement_text old) other) ++ rest)) → Elses_returned arms other tokens rest

  pub read_declare : (n : ℕ) (e : Expr) (on : _) → IsName (name_text old n) → Comes old text names e → Returns IsStatement (AgreeStmt old names) (stmt.Declare on n e) (statement_text old (stmt.Declare on n e))
  read_declare n e on name value indent blanks rest tokens left =
      let split : statement_text old (stmt.Declare on n e) indent ++ rest ≡ indent ++ (codes "long " ++ (name_text old n ++ (codes " = " ++ (expr_text old e Alone ++ (codes ";\n" ++ rest))))) = ap (λ x. x ++ rest) (declare_text old on n e indent) ∙ simp append_assoc in
      let k = take_keyword word.Long refl (past_all blanks (moved split left)) in
      let t = take_name (name_text old n) name refl (past 32 refl k.left) in
      let a = take_mark mark.Assign 32 refl refl (past 32 refl t.took.left) in
      let b = value.alone (59 ∷ 10 ∷ rest) refl a.more (past 32 refl a.left) in
      let end = take_lone mark.Semicolon refl b.left in
      record {
        back = stmt.Declare (line k.spot) (place names (name_text old n)) b.back;
        more = end.more;
        is = subst (λ ts. IsStatement ts (stmt.Declare (line k.spot) (place names (name_text old n)) b.back) end.more) (sym (after k.are (after t.took.are a.are))) (declares (subst (λ ts. IsExpr a.more b.back ts) end.are b.is));
        same = same.declare (record { name = name; is = t.is }) b.same;
        left = past 10 refl end.left;
      }

  pub read_assign : (n : ℕ) (o : _) (e : Expr) (on : _) → IsName (name_text old n) → Comes old text names e → Returns IsStatement (AgreeStmt old names) (stmt.Assign on n o e) (statement_text old (stmt.Assign on n o e))
  read_assign n o e on name value indent blanks rest tokens left =
      let u = assignment_of o in
      let split : statement_text old (stmt.Assign on n o e) indent ++ rest ≡ indent ++ (name_text old n ++ 32 ∷ (mark_text u.sign ++ 32 ∷ (expr_text old e Alone ++ (codes ";\n" ++ rest)))) =
      ap (λ x. x ++ rest) (assign_text old on n o e indent) ∙ ap (λ x. (indent ++ name_text old n ++ x ++ expr_text old e Alone ++ codes ";\n") ++ rest) u.shown ∙ simp append_assoc in
      let t = take_name (name_text old n) name refl (past_all blanks (moved split left)) in
      let a = take_mark u.sign 32 refl (u.plain _) (past 32 refl t.took.left) in
      let b = value.alone (59 ∷ 10 ∷ rest) refl a.more (past 32 refl a.left) in
      let end = take_lone mark.Semicolon refl b.left in
      record {
        back = stmt.Assign (line t.took.spot) (place names (name_text old n)) o b.back;
        more = end.more;
        is = subst (λ ts. IsStatement ts (stmt.Assign (line t.took.spot) (place names (name_text old n)) o b.back) end.more) (sym (after t.took.are a.are)) (assigns u.found (subst (λ ts. IsExpr a.more b.back ts) end.are b.is));
        same = same.assign (record { name = name; is = t.is }) b.same;
        left = past 10 refl end.left;
      }

  pub read_write : (n : ℕ) (p : Expr) (o : _) (e : Expr) (on : _) → IsName (name_text old n) → Comes old text names p → Comes old text names e
      → Returns IsStatement (AgreeStmt old names) (stmt.Write on n p o e) (statement_text old (stmt.Write on n p o e))
  read_write n p o e on name subscript value indent blanks rest tokens left =
      let u = assignment_of o in
      let split : statement_text old (stmt.Write on n p o e) indent ++ rest ≡ indent ++ (name_text old n ++ 91 ∷ (expr_text old p Alone ++ 93 ∷ 32 ∷ (mark_text u.sign ++ 32 ∷ (expr_text old e Alone ++ (codes ";\n" ++ rest))))) =
      ap (λ x. x ++ rest) (write_text old on n p o e indent) ∙ ap (λ x. (indent ++ (name_text old n ++ codes "[" ++ expr_text old p Alone ++ codes "]") ++ x ++ expr_text old e Alone ++ codes ";\n") ++ rest) u.shown ∙ simp append_assoc in
      let t = take_name (name_text old n) name refl (past_all blanks (moved split left)) in
      let opened = take_lone mark.OpenSquare refl t.took.left in
      let q = subscript.alone _ refl opened.more opened.left in
      let closed = take_lone mark.CloseSquare refl q.left in
      let a = take_mark u.sign 32 refl (u.plain _) (past 32 refl closed.left) in
      let b = value.alone (59 ∷ 10 ∷ rest) refl a.more (past 32 refl a.left) in
      let end = take_lone mark.Semicolon refl b.left in
      record {
        back = stmt.Write (line t.took.spot) (place names (name_text old n)) q.back o b.back;
        more = end.more;
        is = subst (λ ts. IsStatement ts (stmt.Write (line t.took.spot) (place names (name_text old n)) q.back o b.back) end.more) (sym (after t.took.are opened.are))
            (writes (subst (λ ts. IsExpr opened.more q.back ts) (after closed.are a.are) q.is) u.found (subst (λ ts. IsExpr a.more b.back ts) end.are b.is));
        same = same.write (record { name = name; is = t.is }) q.same b.same;
        left = past 10 refl end.left;
      }

  -- a block, by its statements
  pub read_block : (body : List Stmt) → Returns IsStatements (AgreeStmts old names) body (λ indent. all_shown indent (map (statement_text old) body))
      → Returns Block (AgreeStmts old names) body (λ indent. block_text indent (map (statement_text old) body))
  read_block body read indent blanks rest tokens left =
      let split : block_text indent (map (statement_text old) body) ++ rest ≡ 123 ∷ 10 ∷ (all_shown (deeper indent) (map (statement_text old) body) ++ (indent ++ 125 ∷ rest)) = simp append_assoc in
      let opened = take_lone mark.OpenCurly refl (moved split left) in
      let b = read (deeper indent) (inner blanks) (indent ++ 125 ∷ rest) opened.more (past 10 refl opened.left) in
      let closed = take_lone mark.CloseCurly refl (past_all blanks b.left) in
      record {
        back = b.back;
        more = closed.more;
        is = record { opened = opened.spot; closed = closed.spot; more = opened.more; are = opened.are; is = subst (λ ts. IsStatements opened.more b.back ts) closed.are b.is };
        same = b.same;
        left = closed.left;
      }

  arm_split : (e block rest : List ℕ) → (codes "if (" ++ e ++ codes ") " ++ block) ++ rest ≡ codes "if (" ++ (e ++ (codes ") " ++ (block ++ rest)))
  arm_split e block rest = simp append_assoc

  pub read_arm : (e : Expr) (body : List Stmt) (on : _) → Comes old text names e → Returns IsStatements (AgreeStmts old names) body (λ indent. all_shown indent (map (statement_text old) body))
      → Returns If_arm (AgreeArm old names) (record { line = on; test = e; body = body }) (one_arm_text old (record { line = on; test = e; body = body }))
  read_arm e body on test read indent blanks rest tokens left =
      let split : one_arm_text old (record { line = on; test = e; body = body }) indent ++ rest ≡ codes "if (" ++ (expr_text old e Alone ++ (codes ") " ++ (block_text indent (map (statement_text old) body) ++ rest))) =
      ap (λ x. x ++ rest) (tested_text old on e body indent) ∙ arm_split (expr_text old e Alone) (block_text indent (map (statement_text old) body)) rest in
      let k = take_keyword word.If refl (moved split left) in
      let opened = take_lone mark.OpenRound refl (past 32 refl k.left) in
      let t = test.alone _ refl opened.more opened.left in
      let closed = take_lone mark.CloseRound refl t.left in
      let b = read_block body read indent blanks rest closed.more (past 32 refl closed.left) in
      let inside = subst (λ ts. IsExpr opened.more t.back ts) (after closed.are b.is.are) t.is in
      record {
        back = record { line = line k.spot; test = t.back; body = b.back };
        more = b.more;
        is = record { spot = k.spot; more = k.more; are = k.are; is = subst (λ ts. IsArm k.spot ts (record { line = line k.spot; test = t.back; body = b.back }) b.more) (sym opened.are) (an_arm inside b.is.is) };
        same = same.an_arm t.same b.same;
        left = b.left;
      }
