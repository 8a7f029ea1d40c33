-- Tokens have one reading.
use Rattle.std.proofs.Common.{◌≡◌, ℕ, suc, Bool, true, false, Option, Some, List, [], ◌∷◌, refl, sym, ◌∙◌, ap, subst}
use Rattle.std.specs.Prelude.{ℤ}
use Rattle.nest_syntax.specs.declared.operators.Bin.{Bin}
use Rattle.nest_syntax.specs.declared.operators.Op.{Op}
use Rattle.nest_syntax.specs.declared.tree.Expr.{Expr}
use Rattle.nest_syntax.specs.declared.tree.Expr.TheVariants as expr
use Rattle.nest_syntax.specs.declared.tree.Arm.{Arm}
use Rattle.nest_syntax.specs.declared.tree.Stmt.{Stmt}
use Rattle.nest_syntax.specs.declared.tree.Stmt.TheVariants as stmt
use Rattle.nest_syntax.specs.declared.tree.Loop.{Loop}
use Rattle.nest_syntax.specs.declared.tree.Decl.{Decl}
use Rattle.nest_syntax.specs.declared.tree.Decl.TheVariants as decl
use Rattle.nest_syntax.specs.declared.tree.Program.{Program}
use Rattle.nest_lex.specs.declared.token.Spot.{Spot}
use Rattle.nest_lex.specs.declared.token.Keyword.TheVariants as word
use Rattle.nest_lex.specs.declared.token.Mark.TheVariants as mark
use Rattle.nest_lex.specs.declared.token.Kind.{Kind}
use Rattle.nest_lex.specs.declared.token.Kind.TheVariants as kind
use Rattle.nest_lex.specs.declared.token.Token.{Token}
use Rattle.nest_lex.specs.declared.token.Tokens.{Tokens}
use Rattle.nest_parse.specs.Grammar.{token, sign, line, assignment, comparison, IsFactor, a_number, a_name, a_word, in_parentheses, signed, IsLevel, tightest, level, IsTail, ended, goes_on, IsExpr, plain, choice, IsStep, behind, before, by, IsStatement, declares, assigns, writes, chooses, turns, IsArm, an_arm, IsElses, no_else, else_if, last_else, IsLoop, a_loop, IsStatements, no_statement, statement, IsSigned, positive, negative, IsDecl, an_array, a_fixed_array, a_scalar, AreDecls, no_decl, declaration, AreLoops, no_loop, a_region, AreProgram, Derives}
use Rattle.nest_parse.proofs.Quiet.{quiet, quiet-less, quiet-tail, not_quiet, settled, settled-statements}

-- one thing, and one list of tokens behind it
abbrev Same : {X : Type 0} → X → X → List Token → List Token → Type 0
Same x y r r' = (x ≡ y) × (r ≡ r')

same_operator : {d : ℕ} {o o' : Bin} {found : Option (ℕ × Bin)} → found ≡ Some (d, o) → found ≡ Some (d, o') → o ≡ o'
same_operator {d} {o} {o'} p q = let pair : (d, o) ≡ (d, o') = cc in ap (λ (x : ℕ × Bin). x.1) pair

same_found : {X : Type 0} {x y : X} {found : Option X} → found ≡ Some x → found ≡ Some y → x ≡ y
same_found p q = cc

behind_one : {t u : Token} {ts us : List Token} → ◌≡◌ {A = List Token} (t ∷ ts) (u ∷ us) → ts ≡ us
behind_one e = cc

behind_two : {t u v w : Token} {ts us : List Token} → ◌≡◌ {A = List Token} (t ∷ u ∷ ts) (v ∷ w ∷ us) → ts ≡ us
behind_two e = cc

behind_three : {t u v w x y : Token} {ts us : List Token} → ◌≡◌ {A = List Token} (t ∷ u ∷ v ∷ ts) (w ∷ x ∷ y ∷ us) → ts ≡ us
behind_three e = cc

second_kind : {t v : Token} {k k' : Kind} {s s' : Spot} {ts us : List Token} → ◌≡◌ {A = List Token} (t ∷ token k s ∷ ts) (v ∷ token k' s' ∷ us) → k ≡ k'
second_kind {k = k} {k' = k'} {s = s} {s' = s'} e = let h : token k s ≡ token k' s' = cc in ap (λ (t : Token). t.kind) h

third_kind : {t v u w : Token} {k k' : Kind} {s s' : Spot} {ts us : List Token} → ◌≡◌ {A = List Token} (t ∷ u ∷ token k s ∷ ts) (v ∷ w ∷ token k' s' ∷ us) → k ≡ k'
third_kind {k = k} {k' = k'} {s = s} {s' = s'} e = let h : token k s ≡ token k' s' = cc in ap (λ (t : Token). t.kind) h

not_loud : {s : Spot} {m r : List Token} → r ≡ sign mark.Question s ∷ m → quiet 11 r ≡ true → ⊥
not_loud {s} {m} e q = let h : quiet 11 (sign mark.Question s ∷ m) ≡ true = subst (λ r. quiet 11 r ≡ true) e q in cc

-- a reading of the same tokens
along_value : {ts ts' r : List Token} {e : Expr} → ts ≡ ts' → IsExpr ts' e r → IsExpr ts e r
along_value {r = r} {e = e} p x = subst (λ ts. IsExpr ts e r) (sym p) x

along_level : {d : ℕ} {ts ts' r : List Token} {e : Expr} → ts ≡ ts' → IsLevel d ts' e r → IsLevel d ts e r
along_level {d} {r = r} {e = e} p x = subst (λ ts. IsLevel d ts e r) (sym p) x

along_tail : {d : ℕ} {ts ts' r : List Token} {a a' e : Expr} → a ≡ a' → ts ≡ ts' → IsTail d a' ts' e r → IsTail d a ts e r
along_tail {d} {ts} {ts'} {r} {a} {a'} {e} q p x = subst (λ ts. IsTail d a ts e r) (sym p) (subst (λ b. IsTail d b ts' e r) (sym q) x)

along_step : {n c : ℕ} {ts ts' r : List Token} → ts ≡ ts' → IsStep n ts' c r → IsStep n ts c r
along_step {n} {c} {r = r} p x = subst (λ ts. IsStep n ts c r) (sym p) x

along_statements : {ts ts' r : List Token} {xs : List Stmt} → ts ≡ ts' → IsStatements ts' xs r → IsStatements ts xs r
along_statements {r = r} {xs = xs} p x = subst (λ ts. IsStatements ts xs r) (sym p) x

along_assignment : {k k' : Kind} {o : Op} → k ≡ k' → assignment k' ≡ Some o → assignment k ≡ Some o
along_assignment {o = o} p e = subst (λ k. assignment k ≡ Some o) (sym p) e

along_comparison : {k k' : Kind} {b : Bool} → k ≡ k' → comparison k' ≡ Some b → comparison k ≡ Some b
along_comparison {b = b} p e = subst (λ k. comparison k ≡ Some b) (sym p) e

mutual
  pub unique_factor : {ts r r' : List Token} {e e' : Expr} → IsFactor ts e r → quiet 0 r ≡ true → IsFactor ts e' r' → quiet 0 r' ≡ true → Same e e' r r'
  unique_factor (a_number h) q (a_number h') q' = (refl, refl)
  unique_factor (a_number h) q (signed o x) q' = (cc, cc)
  unique_factor a_name q a_name q' = (refl, refl)
  unique_factor a_name q (a_word x) q' = (cc, cc)
  unique_factor a_name q (signed o x) q' = (cc, cc)
  unique_factor (a_word x) q a_name q' = (cc, cc)
  unique_factor (a_word {n = n} x) q (a_word y) q' = let v = unique_value x refl y refl in (ap (λ e. expr.Word n e) v.0, behind_one v.1)
  unique_factor (a_word x) q (signed o y) q' = (cc, cc)
  unique_factor (in_parentheses x) q (in_parentheses y) q' = let v = unique_value x refl y refl in (v.0, behind_one v.1)
  unique_factor (in_parentheses x) q (signed o y) q' = (cc, cc)
  unique_factor (signed o x) q (a_number h) q' = (cc, cc)
  unique_factor (signed o x) q a_name q' = (cc, cc)
  unique_factor (signed o x) q (a_word y) q' = (cc, cc)
  unique_factor (signed o x) q (in_parentheses y) q' = (cc, cc)
  unique_factor (signed o x) q (signed o' y) q' = let v = unique_factor x q y q' in let same = same_found o o' in (λ i. expr.Unary (same i) (v.0 i), v.1)

  pub unique_level : {d : ℕ} {ts r r' : List Token} {e e' : Expr} → IsLevel d ts e r → quiet d r ≡ true → IsLevel d ts e' r' → quiet d r' ≡ true → Same e e' r r'
  unique_level (tightest x) q (tightest y) q' = unique_factor x q y q'
  unique_level (level {d = d} {m = m} {r = r} {a = a} x t) q (level {r = r'} {e = e'} y u) q' =
      let v = unique_level x (quiet-tail t q) y (quiet-tail u q') in
      unique_tail t q (along_tail v.0 v.1 u) q'

  pub unique_tail : {d : ℕ} {ts r r' : List Token} {a e e' : Expr} → IsTail d a ts e r → quiet (suc d) r ≡ true → IsTail d a ts e' r' → quiet (suc d) r' ≡ true → Same e e' r r'
  unique_tail ended q ended q' = (refl, refl)
  unique_tail ended q (goes_on {k = k} {s = s} {ts = ts} o x t) q' = absurd (not_quiet k s ts o q)
  unique_tail (goes_on {k = k} {s = s} {ts = ts} o x t) q ended q' = absurd (not_quiet k s ts o q')
  unique_tail (goes_on {d = d} {o = op} {a = a} {b = b} {m = m} o x t) q (goes_on {o = op'} {b = b'} {e = e'} {m = m'} {r = r'} o' y u) q' =
      let v = unique_level x (quiet-tail t q) y (quiet-tail u q') in
      let left : expr.Binary op a b ≡ expr.Binary op' a b' = λ i. expr.Binary (same_operator o o' i) a (v.0 i) in
      unique_tail t q (along_tail left v.1 u) q'

  pub unique_value : {ts r r' : List Token} {e e' : Expr} → IsExpr ts e r → quiet 11 r ≡ true → IsExpr ts e' r' → quiet 11 r' ≡ true → Same e e' r r'
  unique_value (plain {r = r} x) q (plain {r = r'} y) q' = unique_level x (quiet-less 10 r q) y (quiet-less 10 r' q')
  unique_value (plain {r = r} x) q (choice y z w) q' = absurd (not_loud (unique_level x (quiet-less 10 r q) y refl).1 q)
  unique_value (choice x z w) q (plain {r = r'} y) q' = absurd (not_loud (sym (unique_level x refl y (quiet-less 10 r' q')).1) q')
  unique_value (choice {c = c} x z w) q (choice {n = n'} {r = r'} {a = a'} {b = b'} x' z' w') q' =
      let v = unique_level x refl x' refl in
      let f = unique_value z refl (along_value (behind_one v.1) z') refl in
      let g = unique_value w q (along_value (behind_one f.1) w') q' in
      (λ i. expr.Choice (v.0 i) (f.0 i) (g.0 i), g.1)

unique_step : {n n' c c' : ℕ} {ts r r' : List Token} → IsStep n ts c r → IsStep n' ts c' r' → Same c c' r r'
unique_step behind behind = (refl, refl)
unique_step before before = (refl, refl)
unique_step (by h) (by h') = (refl, refl)

abbrev is_for : List Token → Bool
is_for [] = false
is_for (t ∷ ts) = for_kind t.kind where
  for_kind : Kind → Bool
  for_kind (kind.Keyword word.For) = true
  for_kind _ = false

loop_begins : {ts r : List Token} {l : Loop} → IsLoop ts l r → is_for ts ≡ true
loop_begins (a_loop x c y s xs) = refl

-- a `}` stands here
abbrev is_close : List Token → Bool
is_close [] = false
is_close (t ∷ ts) = close_kind t.kind where
  close_kind : Kind → Bool
  close_kind (kind.Mark mark.CloseCurly) = true
  close_kind _ = false

statement_begins : {ts r : List Token} {x : Stmt} → IsStatement ts x r → is_close ts ≡ true → ⊥
statement_begins (declares x) q = cc
statement_begins (assigns o x) q = cc
statement_begins (writes x o y) q = cc
statement_begins (chooses a b) q = cc
statement_begins (turns (a_loop x c y s xs)) q = cc

close_settled : (ts : List Token) → is_close ts ≡ true → settled ts ≡ true
close_settled [] q = cc
close_settled (t ∷ ts) q = by_kind t.kind q where
  by_kind : (k : Kind) → is_close (token k (record { line = 0; column = 0 }) ∷ []) ≡ true → settled (token k (record { line = 0; column = 0 }) ∷ []) ≡ true
  by_kind (kind.Mark mark.CloseCurly) q = refl
  by_kind _ q = cc

mutual
  unique_statement : {ts r r' : List Token} {x x' : Stmt} → IsStatement ts x r → settled r ≡ true → IsStatement ts x' r' → settled r' ≡ true → Same x x' r r'
  unique_statement (declares {n = n} {s = s} x) q (declares y) q' = let v = unique_value x refl y refl in (ap (λ e. stmt.Declare (line s) n e) v.0, behind_one v.1)
  unique_statement (declares x) q (turns y) q' = let e = loop_begins y in (cc, cc)
  unique_statement (assigns {n = n} {s = s} o x) q (assigns o' y) q' =
      let v = unique_value x refl y refl in
      let same = same_found o o' in
      (λ i. stmt.Assign (line s) n (same i) (v.0 i), behind_one v.1)
  unique_statement (assigns o x) q (writes y o' z) q' = (cc, cc)
  unique_statement (assigns o x) q (turns y) q' = let e = loop_begins y in (cc, cc)
  unique_statement (writes y o' z) q (assigns o x) q' = (cc, cc)
  unique_statement (writes {n = n} {s = s} {us = us} x o y) q (writes {us = us'} {e = e'} x' o' y') q' =
      let p = unique_value x refl x' refl in
      let v = unique_value y refl (along_value (behind_two p.1) y') refl in
      let same = same_found o (along_assignment (second_kind p.1) o') in
      (λ i. stmt.Write (line s) n (p.0 i) (same i) (v.0 i), behind_one v.1)
  unique_statement (writes x o y) q (turns z) q' = let e = loop_begins z in (cc, cc)
  unique_statement (chooses a b) q (chooses {r = r'} {arms = arms'} {other = other'} a' b') q' =
      let f = unique_arm a a' in
      let g = unique_elses b q (subst (λ ts. IsElses ts arms' other' r') (sym f.1) b') q' in
      (λ i. stmt.If (f.0 i ∷ g.0 i) (g.1 i), g.2)
  unique_statement (chooses a b) q (turns y) q' = let e = loop_begins y in (cc, cc)
  unique_statement (turns x) q (declares y) q' = let e = loop_begins x in (cc, cc)
  unique_statement (turns x) q (assigns o y) q' = let e = loop_begins x in (cc, cc)
  unique_statement (turns x) q (writes y o z) q' = let e = loop_begins x in (cc, cc)
  unique_statement (turns x) q (chooses a b) q' = let e = loop_begins x in (cc, cc)
  unique_statement (turns x) q (turns y) q' = let v = unique_loop x y in (ap stmt.Loop v.0, v.1)

  unique_arm : {s : Spot} {ts r r' : List Token} {x x' : Arm} → IsArm s ts x r → IsArm s ts x' r' → Same x x' r r'
  unique_arm (an_arm {s = s} x xs) (an_arm {body = body'} y ys) =
      let v = unique_value x refl y refl in
      let w = unique_statements xs refl (along_statements (behind_two v.1) ys) refl in
      (λ i. record { line = line s; test = v.0 i; body = w.0 i }, behind_one w.1)

  unique_elses : {ts r r' : List Token} {arms arms' : List Arm} {other other' : List Stmt} → IsElses ts arms other r → settled r ≡ true → IsElses ts arms' other' r' → settled r' ≡ true
      → (arms ≡ arms') × (other ≡ other') × (r ≡ r')
  unique_elses no_else q no_else q' = (refl, refl, refl)
  unique_elses no_else q (else_if a b) q' = (cc, cc, cc)
  unique_elses no_else q (last_else xs) q' = (cc, cc, cc)
  unique_elses (else_if a b) q no_else q' = (cc, cc, cc)
  unique_elses (else_if a b) q (else_if {r = r'} {arms = arms'} {other = other'} a' b') q' =
      let f = unique_arm a a' in
      let g = unique_elses b q (subst (λ ts. IsElses ts arms' other' r') (sym f.1) b') q' in
      (λ i. f.0 i ∷ g.0 i, g.1, g.2)
  unique_elses (last_else xs) q no_else q' = (cc, cc, cc)
  unique_elses (last_else xs) q (last_else ys) q' = let w = unique_statements xs refl ys refl in (refl, w.0, behind_one w.1)

  unique_loop : {ts r r' : List Token} {x x' : Loop} → IsLoop ts x r → IsLoop ts x' r' → Same x x' r r'
  unique_loop (a_loop {n = n} {s = s} low c high st xs) (a_loop {step = step'} {high = high'} {body = body'} low' c' high'' st' xs') =
      let l = unique_value low refl low' refl in
      let same = same_found c (along_comparison (third_kind l.1) c') in
      let h = unique_level high refl (along_level (behind_three l.1) high'') refl in
      let t = unique_step st (along_step (behind_one h.1) st') in
      let b = unique_statements xs refl (along_statements (behind_two t.1) xs') refl in
      (λ i. record { line = line s; name = n; low = l.0 i; high = h.0 i; through = same i; step = t.0 i; body = b.0 i }, behind_one b.1)

  unique_statements : {ts r r' : List Token} {xs xs' : List Stmt} → IsStatements ts xs r → is_close r ≡ true → IsStatements ts xs' r' → is_close r' ≡ true → Same xs xs' r r'
  unique_statements no_statement q no_statement q' = (refl, refl)
  unique_statements no_statement q (statement y ys) q' = absurd (statement_begins y q)
  unique_statements (statement x xs) q no_statement q' = absurd (statement_begins x q')
  unique_statements (statement {r = r} x xs) q (statement {r = r'} {xs = xs'} y ys) q' =
      let f = unique_statement x (settled-statements xs (close_settled r q)) y (settled-statements ys (close_settled r' q')) in
      let g = unique_statements xs q (subst (λ ts. IsStatements ts xs' r') (sym f.1) ys) q' in
      (λ i. f.0 i ∷ g.0 i, g.1)

unique_signed : {ts r r' : List Token} {z z' : ℤ} → IsSigned ts z r → IsSigned ts z' r' → Same z z' r r'
unique_signed (positive h) (positive h') = (refl, refl)
unique_signed (negative h) (negative h') = (refl, refl)

unique_decl : {ts r r' : List Token} {x x' : Decl} → IsDecl ts x r → IsDecl ts x' r' → Same x x' r r'
unique_decl (an_array h) (an_array h') = (refl, refl)
unique_decl (a_fixed_array h) (a_fixed_array h') = (refl, refl)
unique_decl (a_scalar {n = n} {s = s} x) (a_scalar y) = let v = unique_signed x y in (ap (λ z. decl.Scalar (line s) n z) v.0, behind_one v.1)

-- no declaration begins here
abbrev is_past : List Token → Bool
is_past [] = true
is_past (t ∷ ts) = past_kind t.kind where
  past_kind : Kind → Bool
  past_kind (kind.Keyword word.Long) = false
  past_kind (kind.Keyword word.Const) = false
  past_kind _ = true

decl_begins : {ts r : List Token} {x : Decl} → IsDecl ts x r → is_past ts ≡ true → ⊥
decl_begins (an_array h) q = cc
decl_begins (a_fixed_array h) q = cc
decl_begins (a_scalar x) q = cc

unique_decls : {ts r r' : List Token} {xs xs' : List Decl} → AreDecls ts xs r → is_past r ≡ true → AreDecls ts xs' r' → is_past r' ≡ true → Same xs xs' r r'
unique_decls no_decl q no_decl q' = (refl, refl)
unique_decls no_decl q (declaration y ys) q' = absurd (decl_begins y q)
unique_decls (declaration x xs) q no_decl q' = absurd (decl_begins x q')
unique_decls (declaration x xs) q (declaration {r = r'} {xs = xs'} y ys) q' =
    let f = unique_decl x y in
    let g = unique_decls xs q (subst (λ ts. AreDecls ts xs' r') (sym f.1) ys) q' in
    (λ i. f.0 i ∷ g.0 i, g.1)

not_for : {ts r : List Token} {x : Loop} → IsLoop ts x r → is_for ts ≡ false → ⊥
not_for (a_loop x c y s xs) q = cc

unique_loops : {ts r r' : List Token} {xs xs' : List Loop} → AreLoops ts xs r → is_for r ≡ false → AreLoops ts xs' r' → is_for r' ≡ false → Same xs xs' r r'
unique_loops no_loop q no_loop q' = (refl, refl)
unique_loops no_loop q (a_region y ys) q' = absurd (not_for y q)
unique_loops (a_region x xs) q no_loop q' = absurd (not_for x q')
unique_loops (a_region x xs) q (a_region {r = r'} {xs = xs'} y ys) q' =
    let f = unique_loop x y in
    let g = unique_loops xs q (subst (λ ts. AreLoops ts xs' r') (sym f.1) ys) q' in
    (λ i. f.0 i ∷ g.0 i, g.1)

loops_past : {ts r : List Token} {xs : List Loop} → AreLoops ts xs r → is_past r ≡ true → is_past ts ≡ true
loops_past no_loop q = q
loops_past (a_region (a_loop x c y s body) xs) q = refl

pub unique_program : {ts : List Token} {ds ds' : List Decl} {ls ls' : List Loop} → AreProgram ts ds ls → AreProgram ts ds' ls' → (ds ≡ ds') × (ls ≡ ls')
unique_program {ls' = ls'} p p' =
    let f = unique_decls p.declared (loops_past p.looped refl) p'.declared (loops_past p'.looped refl) in
    let g = unique_loops p.looped refl (subst (λ ts. AreLoops ts ls' []) (sym f.1) p'.looped) refl in
    (f.0, g.0)

pub unique : {tokens : Tokens} {p p' : Program} → Derives tokens p → Derives tokens p' → p' ≡ p
unique {tokens} {p} {p'} h h' =
    let u = unique_program h'.spelled h.spelled in
    let names = h'.names ∙ sym h.names in
    λ i. record { names = names i; decls = u.0 i; regions = u.1 i }
