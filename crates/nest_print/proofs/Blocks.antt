-- The text of arms, loops and lists of statements is read back as the same.
use Rattle.std.proofs.Common.{◌≡◌, ℕ, ◌≤◌, Bool, true, false, if◌then◌else◌, ◌==◌, List, [], ◌∷◌, ◌++◌, map, refl, sym, ap, subst, ◌∙◌, arith, append_assoc, codes}
use Rattle.std.specs.Fmt.{decimal}
use Rattle.std.proofs.lemmas.Bool.Decides.{nat_tests}
use Rattle.nest_syntax.specs.declared.tree.Expr.{Expr}
use Rattle.nest_syntax.specs.declared.tree.Arm.{Arm}
use Rattle.nest_syntax.specs.declared.tree.Stmt.{Stmt}
use Rattle.nest_syntax.specs.declared.tree.Stmt.TheVariants as stmt
use Rattle.nest_syntax.specs.declared.tree.Loop.{Loop}
use Rattle.nest_syntax.specs.declared.names.Line.{Line}
use Rattle.nest_lex.specs.Spelling.{mark_text, IsName}
use Rattle.nest_lex.specs.declared.token.Keyword.TheVariants as word
use Rattle.nest_lex.specs.declared.token.Mark.TheVariants as mark
use Rattle.nest_lex.specs.declared.token.Spot.{Spot}
use Rattle.nest_lex.specs.declared.token.Token.{Token}
use Rattle.nest_parse.specs.Grammar.{greatest, shift, line, IsExpr, IsLevel, IsStep, behind, by, IsStatement, declares, assigns, writes, chooses, turns, IsArm, an_arm, IsElses, no_else, else_if, last_else, IsLoop, a_loop, IsStatements, no_statement, statement}
use Rattle.nest_print.specs.declared.print.Standing.TheVariants.{Alone, Bound}
use Rattle.nest_print.specs.Canonical.{expr_text, name_text, statement_text, one_arm_text, region_text, all_shown, block_text, further_text, other_text, step_text}
use Rattle.nest_print.proofs.Agreed as same
use Rattle.nest_print.proofs.Agreed.{AgreeStmt, AgreeStmts, AgreeArm, AgreeArms, AgreeLoop}
use Rattle.nest_print.proofs.Left.{Left, moved, past}
use Rattle.nest_print.proofs.Takes.{place, take_name, take_number, take_keyword, take_mark, take_lone}
use Rattle.nest_print.proofs.Shown.{if_text, inner_text, turns_text}
use Rattle.nest_print.proofs.Signs.{compared_of}
use Rattle.nest_print.proofs.Printable.{AllNames, value_printable, level_printable}
use Rattle.nest_print.proofs.Values.{Comes, comes}
use Rattle.nest_print.proofs.Statements.{after, step_good, If_arm, past_all, Returns, Elses_return, read_declare, read_assign, read_write, read_block, read_arm}

-- a step is read, and what is left behind it
pub record Stepped (text : List ℕ) (names : List (List ℕ)) (n step : ℕ) (tokens : List Token) (rest : List ℕ) : Type 0 where
  pub more : List Token
  pub is : IsStep n tokens step more
  pub left : Left text names more rest

is_one : (step : ℕ) → (step == 1) ≡ true → 1 ≡ step
is_one step e = grind (arith, nat_tests)

module _ {text : List ℕ} {names : List (List ℕ)} where
  step_by_one : (bytes : List ℕ) → IsName bytes → (rest : List ℕ) (tokens : List Token) → Left text names tokens (bytes ++ 43 ∷ 43 ∷ 41 ∷ rest) → Stepped text names (place names bytes) 1 tokens (41 ∷ rest)
  step_by_one bytes name rest tokens left =
      let t = take_name bytes name refl left in
      let i = take_mark mark.Increment 41 refl refl t.took.left in
      record { more = i.more; is = subst (λ ts. IsStep (place names bytes) ts 1 i.more) (sym (after t.took.are i.are)) behind; left = i.left }

  step_by : (bytes : List ℕ) → IsName bytes → (step : ℕ) → step ≤ greatest → (rest : List ℕ) (tokens : List Token) → Left text names tokens (bytes ++ 32 ∷ 43 ∷ 61 ∷ 32 ∷ (decimal step ++ 41 ∷ rest))
      → Stepped text names (place names bytes) step tokens (41 ∷ rest)
  step_by bytes name step small rest tokens left =
      let t = take_name bytes name refl left in
      let p = take_mark mark.PlusAssign 32 refl refl (past 32 refl t.took.left) in
      let c = take_number step small refl (past 32 refl p.left) in
      record { more = c.more; is = subst (λ ts. IsStep (place names bytes) ts step c.more) (sym (after t.took.are (after p.are c.are))) (by small); left = c.left }

  read_step : (bytes : List ℕ) → IsName bytes → (step : ℕ) → step ≤ greatest → (rest : List ℕ) (tokens : List Token) → Left text names tokens (bytes ++ (step_text step ++ 41 ∷ rest))
      → Stepped text names (place names bytes) step tokens (41 ∷ rest)
  read_step bytes name step small rest tokens left = either (step == 1) refl
    where
      either : (b : Bool) → (step == 1) ≡ b → Stepped text names (place names bytes) step tokens (41 ∷ rest)
      either true e =
          let shown = ap (λ b. bytes ++ ((if b then codes "++" else codes " += " ++ decimal step) ++ 41 ∷ rest)) e in
          subst (λ c. Stepped text names (place names bytes) c tokens (41 ∷ rest)) (is_one step e) (step_by_one bytes name rest tokens (moved shown left))
      either false e =
          let shown = ap (λ b. bytes ++ ((if b then codes "++" else codes " += " ++ decimal step) ++ 41 ∷ rest)) e in
          step_by bytes name step small rest tokens (moved shown left)

loop_split : (indent opens long name equals low ends space mark high step closes block line_feed rest : List ℕ)
    → (indent ++ opens ++ (long ++ name ++ equals ++ low ++ ends ++ name ++ (space ++ (mark ++ space)) ++ high ++ ends) ++ name ++ step ++ closes ++ block ++ line_feed) ++ rest
    ≡ indent ++ (opens ++ (long ++ (name ++ (equals ++ (low ++ (ends ++ (name ++ (space ++ (mark ++ (space ++ (high ++ (ends ++ (name ++ (step ++ (closes ++ (block ++ (line_feed ++ rest)))))))))))))))))
loop_split indent opens long name equals low ends space mark high step closes block line_feed rest = simp append_assoc

else_split : (arm more rest : List ℕ) → ((codes " else " ++ arm) ++ more) ++ rest ≡ codes " else " ++ (arm ++ (more ++ rest))
else_split arm more rest = simp append_assoc

if_split : (indent first further other rest : List ℕ) → (indent ++ (first ++ further) ++ other ++ codes "\n") ++ rest ≡ indent ++ (first ++ (further ++ (other ++ (codes "\n" ++ rest))))
if_split indent first further other rest = simp append_assoc

module _ (old : List (List ℕ)) (text : List ℕ) (names : List (List ℕ)) where
  abbrev Body : List Stmt → Type 0
  Body body = Returns old text names IsStatements (AgreeStmts old names) body (λ indent. all_shown indent (map (statement_text old) body))

  read_loop : (on : Line) (n : ℕ) (low high : Expr) (through : Bool) (step : ℕ) (body : List Stmt) → IsName (name_text old n) → step ≤ greatest → Comes old text names low → Comes old text names high → Body body
      → Returns old text names IsLoop (AgreeLoop old names) (record { line = on; name = n; low = low; high = high; through = through; step = step; body = body })
      (region_text old (record { line = on; name = n; low = low; high = high; through = through; step = step; body = body }))
  read_loop on n low high through step body name small from to read indent blanks rest tokens left =
      let u = compared_of through in
      let bytes = name_text old n in
      let block = block_text indent (map (statement_text old) body) in
      let start = ap (λ x. x ++ rest) (turns_text old on n low high through step body indent)
      ∙ ap (λ x. (indent ++ codes "for (" ++ (codes "long " ++ bytes ++ codes " = " ++ expr_text old low Alone ++ codes "; " ++ bytes ++ x ++ expr_text old high Bound ++ codes "; ") ++ bytes ++ step_text step ++ codes ") " ++ block ++ codes "\n") ++ rest) u.shown
      ∙ loop_split indent (codes "for (") (codes "long ") bytes (codes " = ") (expr_text old low Alone) (codes "; ") (32 ∷ []) (mark_text u.sign) (expr_text old high Bound) (step_text step) (codes ") ") block (codes "\n") rest in
      let k = take_keyword word.For refl (past_all blanks (moved start left)) in
      let opened = take_lone mark.OpenRound refl (past 32 refl k.left) in
      let l = take_keyword word.Long refl opened.left in
      let first = take_name bytes name refl (past 32 refl l.left) in
      let a = take_mark mark.Assign 32 refl refl (past 32 refl first.took.left) in
      let b = from.alone _ refl a.more (past 32 refl a.left) in
      let end = take_lone mark.Semicolon refl b.left in
      let second = take_name bytes name refl (past 32 refl end.left) in
      let c = take_mark u.sign 32 refl (u.plain _) (past 32 refl second.took.left) in
      let h = to.bound _ refl c.more (past 32 refl c.left) in
      let end' = take_lone mark.Semicolon refl h.left in
      let s = read_step bytes name step small (32 ∷ (block ++ (codes "\n" ++ rest))) end'.more (past 32 refl end'.left) in
      let closed = take_lone mark.CloseRound refl s.left in
      let body' = read_block old text names body read indent blanks (codes "\n" ++ rest) closed.more (past 32 refl closed.left) in
      let made : Loop = record { line = line k.spot; name = place names bytes; low = b.back; high = h.back; through = through; step = step; body = body'.back } in
      record {
        back = made;
        more = body'.more;
        is = subst (λ ts. IsLoop ts made body'.more) (sym (after k.are (after opened.are (after l.are (after first.took.are a.are)))))
            (a_loop (subst (λ ts. IsExpr a.more b.back ts) (after end.are (after second.took.are c.are)) b.is) u.found (subst (λ ts. IsLevel shift c.more h.back ts) end'.are h.is)
            (subst (λ ts. IsStep (place names bytes) end'.more step ts) (after closed.are body'.is.are) s.is) body'.is.is);
        same = same.a_loop (record { name = name; is = first.is }) b.same h.same body'.same;
        left = past 10 refl body'.left;
      }

  no_elses : Elses_return old text names [] []
  no_elses indent blanks rest tokens left = record { arms' = []; other' = []; more = tokens; is = no_else; same = same.no_arm; same_other = same.no_stmt; left = left }

  block_else : (other : List Stmt) → Body other → Elses_return old text names [] other
  block_else [] read indent blanks rest tokens left = no_elses indent blanks rest tokens left
  block_else (x ∷ xs) read indent blanks rest tokens left =
      let block = block_text indent (map (statement_text old) (x ∷ xs)) in
      let k = take_keyword word.Else refl (past 32 refl (moved (append_assoc (codes " else ") block rest) left)) in
      let b = read_block old text names (x ∷ xs) read indent blanks rest k.more (past 32 refl k.left) in
      record {
        arms' = [];
        other' = b.back;
        more = b.more;
        is = subst (λ ts. IsElses ts [] b.back b.more) (sym (after k.are b.is.are)) (last_else b.is.is);
        same = same.no_arm;
        same_other = b.same;
        left = b.left;
      }

  arm_else : (next : Arm) (arms : List Arm) (other : List Stmt) → Returns old text names If_arm (AgreeArm old names) next (one_arm_text old next) → Elses_return old text names arms other
      → Elses_return old text names (next ∷ arms) other
  arm_else next arms other arm further indent blanks rest tokens left =
      let k = take_keyword word.Else refl (past 32 refl (moved (else_split (one_arm_text old next indent) (further_text indent (map (one_arm_text old) arms)) (other_text indent (map (statement_text old) other) ++ rest)) left)) in
      let a = arm indent blanks _ k.more (past 32 refl k.left) in
      let f = further indent blanks rest a.more a.left in
      record {
        arms' = a.back ∷ f.arms';
        other' = f.other';
        more = f.more;
        is = subst (λ ts. IsElses ts (a.back ∷ f.arms') f.other' f.more) (sym (after k.are a.is.are)) (else_if a.is.is f.is);
        same = same.one_arm a.same f.same;
        same_other = f.same_other;
        left = f.left;
      }

  read_if : (first : Arm) (arms : List Arm) (other : List Stmt) → Returns old text names If_arm (AgreeArm old names) first (one_arm_text old first) → Elses_return old text names arms other
      → Returns old text names IsStatement (AgreeStmt old names) (stmt.If (first ∷ arms) other) (statement_text old (stmt.If (first ∷ arms) other))
  read_if first arms other arm further indent blanks rest tokens left =
      let split = ap (λ x. x ++ rest) (if_text old (first ∷ arms) other indent)
      ∙ if_split indent (one_arm_text old first indent) (further_text indent (map (one_arm_text old) arms)) (other_text indent (map (statement_text old) other)) rest in
      let a = arm indent blanks _ tokens (past_all blanks (moved split left)) in
      let f = further indent blanks (codes "\n" ++ rest) a.more a.left in
      record {
        back = stmt.If (a.back ∷ f.arms') f.other';
        more = f.more;
        is = subst (λ ts. IsStatement ts (stmt.If (a.back ∷ f.arms') f.other') f.more) (sym a.is.are) (chooses a.is.is f.is);
        same = same.chooses (same.one_arm a.same f.same) f.same_other;
        left = past 10 refl f.left;
      }

  read_turns : (l : Loop) → Returns old text names IsLoop (AgreeLoop old names) l (region_text old l) → Returns old text names IsStatement (AgreeStmt old names) (stmt.Loop l) (statement_text old (stmt.Loop l))
  read_turns l read indent blanks rest tokens left =
      let b = read indent blanks rest tokens (moved (ap (λ x. x ++ rest) (inner_text old l indent)) left) in
      record { back = stmt.Loop b.back; more = b.more; is = turns b.is; same = same.turns b.same; left = b.left }

  none_shown : Body []
  none_shown indent blanks rest tokens left = record { back = []; more = tokens; is = no_statement; same = same.no_stmt; left = left }

  more_shown : (x : Stmt) (xs : List Stmt) → Returns old text names IsStatement (AgreeStmt old names) x (statement_text old x) → Body xs → Body (x ∷ xs)
  more_shown x xs one many indent blanks rest tokens left =
      let a = one indent blanks _ tokens (moved (append_assoc (statement_text old x indent) (all_shown indent (map (statement_text old) xs)) rest) left) in
      let b = many indent blanks rest a.more a.left in
      record { back = a.back ∷ b.back; more = b.more; is = statement a.is b.is; same = same.one_stmt a.same b.same; left = b.left }

  mutual
    statement_back : {ts r : List Token} {x : Stmt} → IsStatement ts x r → AllNames old ts → Returns old text names IsStatement (AgreeStmt old names) x (statement_text old x) × AllNames old r
    statement_back (declares {n = n} {e = e} x) h = let v = value_printable old x h.1.1.1 in (read_declare old text names n e _ h.1.0 (comes old text names v.0), v.1.1)
    statement_back (assigns {n = n} {o = o} {e = e} u x) h = let v = value_printable old x h.1.1 in (read_assign old text names n o e _ h.0 (comes old text names v.0), v.1.1)
    statement_back (writes {n = n} {o = o} {place = p} {e = e} x u y) h =
        let q = value_printable old x h.1.1 in
        let v = value_printable old y q.1.1.1 in
        (read_write old text names n p o e _ h.0 (comes old text names q.0) (comes old text names v.0), v.1.1)
    statement_back (chooses {first = first} {arms = arms} {other = other} a b) h =
        let f = arm_back a h.1 in
        let g = elses_back b f.1 in
        (read_if first arms other f.0 g.0, g.1)
    statement_back (turns {l = l} x) h = let v = loop_back x h in (read_turns l v.0, v.1)

    arm_back : {s : Spot} {ts r : List Token} {x : Arm} → IsArm s ts x r → AllNames old ts → Returns old text names If_arm (AgreeArm old names) x (one_arm_text old x) × AllNames old r
    arm_back (an_arm {e = e} {body = body} x xs) h =
        let v = value_printable old x h.1 in
        let w = statements_back xs v.1.1.1 in
        (read_arm old text names e body _ (comes old text names v.0) w.0, w.1.1)

    elses_back : {ts r : List Token} {arms : List Arm} {other : List Stmt} → IsElses ts arms other r → AllNames old ts → Elses_return old text names arms other × AllNames old r
    elses_back no_else h = (no_elses, h)
    elses_back (else_if {next = next} {arms = arms} {other = other} a b) h =
        let f = arm_back a h.1.1 in
        let g = elses_back b f.1 in
        (arm_else next arms other f.0 g.0, g.1)
    elses_back (last_else {other = other} xs) h = let w = statements_back xs h.1.1 in (block_else other w.0, w.1.1)

    pub loop_back : {ts r : List Token} {x : Loop} → IsLoop ts x r → AllNames old ts → Returns old text names IsLoop (AgreeLoop old names) x (region_text old x) × AllNames old r
    loop_back (a_loop {n = n} {step = step} {through = through} {low = low} {high = high} {body = body} x c y s xs) h =
        let u = value_printable old x h.1.1.1.1.1 in
        let v = level_printable old y u.1.1.1.1 in
        let w = step_good old s v.1.1 in
        let b = statements_back xs w.1.1.1 in
        (read_loop _ n low high through step body h.1.1.1.0 w.0 (comes old text names u.0) (comes old text names v.0) b.0, b.1.1)

    statements_back : {ts r : List Token} {xs : List Stmt} → IsStatements ts xs r → AllNames old ts → Body xs × AllNames old r
    statements_back no_statement h = (none_shown, h)
    statements_back (statement {x = x} {xs = xs} y ys) h =
        let v = statement_back y h in
        let w = statements_back ys v.1 in
        (more_shown x xs v.0 w.0, w.1)
