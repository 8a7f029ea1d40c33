-- Whatever the machine went through begins a program's tokens.
use Rattle.std.proofs.Common.{◌≡◌, ℕ, zero, suc, ◌≤◌, Bool, true, false, Option, Some, None, List, [], ◌∷◌, ◌++◌, refl, sym, ◌∙◌, ap, subst, arith, eqb, eqb-true, leb-true}
use Rattle.std.specs.Prelude.{nat_le, is_some, ℤ, if◌then◌else◌}
use denote.Enum.Bare.{sameb, same_true}
use Rattle.nest_syntax.specs.declared.operators.Un.{Un}
use Rattle.nest_syntax.specs.declared.operators.Bin.{Bin}
use Rattle.nest_syntax.specs.declared.operators.Op.{Op}
use Rattle.nest_syntax.specs.declared.tree.Expr.{Expr}
use Rattle.nest_syntax.specs.declared.tree.Expr.TheVariants as expr
use Rattle.nest_syntax.specs.declared.tree.Arm.{Arm}
use Rattle.nest_syntax.specs.declared.tree.Stmt.{Stmt}
use Rattle.nest_syntax.specs.declared.tree.Loop.{Loop}
use Rattle.nest_syntax.specs.declared.tree.Decl.{Decl}
use Rattle.nest_lex.specs.declared.token.Spot.{Spot}
use Rattle.nest_lex.specs.declared.token.Keyword.TheVariants as word
use Rattle.nest_lex.specs.declared.token.Mark.TheVariants as mark
use Rattle.nest_lex.specs.declared.token.Kind.{Kind}
use Rattle.nest_lex.specs.declared.token.Kind.TheVariants as kind
use Rattle.nest_lex.specs.declared.token.Token.{Token}
use Rattle.nest_lex.specs.contracts.token.Mark.{the_type as mark_type}
use Rattle.nest_lex.specs.contracts.token.Keyword.{the_type as keyword_type}
use Rattle.nest_parse.specs.Grammar.{token, sign, keyword, named, numeral, greatest, binary, unary, assignment, comparison, loosest, IsFactor, a_number, a_name, a_word, in_parentheses, signed, IsLevel, tightest, level, IsTail, ended, goes_on, IsExpr, plain, choice, IsStep, behind, before, by, IsStatement, declares, assigns, writes, chooses, turns, IsArm, an_arm, IsElses, no_else, else_if, last_else, IsLoop, a_loop, IsStatements, no_statement, statement, IsSigned, positive, negative, IsDecl, an_array, a_fixed_array, a_scalar, AreDecls, no_decl, declaration, AreLoops, no_loop, a_region, BeginProgram}
use Rattle.nest_parse.specs.Expected.{Expected, This, Word, ThisName, AnyName, AnyNumber, Factor, Subscript, Tail, Choice, Compare, Assigns, Statements, Elses, BehindElse, LoopName, Step, StepTail, Decls, DeclTail, Signed, Loops, level_then, value_then, block_then, arm_then, header_then, only_if, with_operand, with_right, takes, skips, or_skip, step, may_end, stuck, start}
use Rattle.nest_parse.proofs.Complete.{head_is}

-- one token of a kind
pub data IsThe (k : Kind) : List Token → List Token → Type 0 where
  here : {s : Spot} {r : List Token} → IsThe k (token k s ∷ r) r

pub data IsSubscript : List Token → List Token → Type 0 where
  bare : {r : List Token} → IsSubscript r r
  with_place : {s s' : Spot} {ts r : List Token} {e : Expr} → IsExpr ts e (sign mark.CloseSquare s' ∷ r) → IsSubscript (sign mark.OpenSquare s ∷ ts) r

-- what an item is, of tokens and those behind it: the rest of a thing makes the whole, whatever stood before
abbrev pub Means : Expected → List Token → List Token → Type 0
Means (This m) ts r = IsThe (kind.Mark m) ts r
Means (Word w) ts r = IsThe (kind.Keyword w) ts r
Means (ThisName n) ts r = IsThe (kind.Name n) ts r
Means AnyName ts r = (n : ℕ) × IsThe (kind.Name n) ts r
Means AnyNumber ts r = (n : ℕ) × (n ≤ greatest) × IsThe (kind.Number n) ts r
Means Factor ts r = (e : Expr) × IsFactor ts e r
Means Subscript ts r = IsSubscript ts r
Means (Tail d) ts r = (a : Expr) → (e : Expr) × IsTail d a ts e r
Means Choice ts r = (c : Expr) (us : List Token) → IsLevel loosest us c ts → (e : Expr) × IsExpr us e r
Means Compare ts r = (t : Kind) × (b : Bool) × (comparison t ≡ Some b) × IsThe t ts r
Means Assigns ts r = (t : Kind) × (o : Op) × (assignment t ≡ Some o) × IsThe t ts r
Means Statements ts r = (xs : List Stmt) × IsStatements ts xs r
Means Elses ts r = (arms : List Arm) × (other : List Stmt) × IsElses ts arms other r
Means BehindElse ts r = (s : Spot) → (arms : List Arm) × (other : List Stmt) × IsElses (keyword word.Else s ∷ ts) arms other r
Means LoopName ts r = (s s1 s2 : Spot) → (l : Loop) × IsLoop (keyword word.For s ∷ sign mark.OpenRound s1 ∷ keyword word.Long s2 ∷ ts) l r
Means (Step n) ts r = (c : ℕ) × IsStep n ts c r
Means StepTail ts r = (n : ℕ) (s : Spot) → (c : ℕ) × IsStep n (named n s ∷ ts) c r
Means Decls ts r = (xs : List Decl) × AreDecls ts xs r
Means DeclTail ts r = (n : ℕ) (s s1 : Spot) → (x : Decl) × IsDecl (keyword word.Long s ∷ named n s1 ∷ ts) x r
Means Signed ts r = (z : ℤ) × IsSigned ts z r
Means Loops ts r = (xs : List Loop) × AreLoops ts xs r

-- the tokens are what is expected, all of them
abbrev pub Spells : List Expected → List Token → Type 0
Spells [] ts = ts ≡ []
Spells (x ∷ k) ts = (r : List Token) × Means x ts r × Spells k r

level_spells : (d : ℕ) (k : List Expected) (ts : List Token) → Spells (level_then d k) ts → (e : Expr) × (r : List Token) × IsLevel d ts e r × Spells k r
level_spells zero k ts h = (h.1.0, h.0, tightest h.1.1, h.2)
level_spells (suc d) k ts h =
    let l = level_spells d (Tail d ∷ k) ts h in
    let t = l.3.1 l.0 in
    (t.0, l.3.0, level l.2 t.1, l.3.2)

value_spells : (k : List Expected) (ts : List Token) → Spells (value_then k) ts → (e : Expr) × (r : List Token) × IsExpr ts e r × Spells k r
value_spells k ts h =
    let l = level_spells 10 (Choice ∷ k) ts h in
    let v = l.3.1 l.0 ts l.2 in
    (v.0, l.3.0, v.1, l.3.2)

arm_on : {ts m a b c d e' : List Token} {e : Expr} {xs : List Stmt} → IsThe (kind.Mark mark.OpenRound) ts m → IsExpr m e a → IsThe (kind.Mark mark.CloseRound) a b
    → IsThe (kind.Mark mark.OpenCurly) b c → IsStatements c xs d → IsThe (kind.Mark mark.CloseCurly) d e' → (s : Spot) → (x : Arm) × IsArm s ts x e'
arm_on here x here here xs here s = (_, an_arm x xs)

arm_spells : (k : List Expected) (ts : List Token) → Spells (arm_then k) ts → (s : Spot) → (x : Arm) × (r : List Token) × IsArm s ts x r × Spells k r
arm_spells k ts h s =
    let v = value_spells (This mark.CloseRound ∷ block_then k) h.0 h.2 in
    let c = v.3 in
    let o = c.2 in
    let xs = o.2 in
    let end = xs.2 in
    let a = arm_on h.1 v.2 c.1 o.1 xs.1.1 end.1 s in
    (a.0, end.0, a.1, end.2)

declares_on : {ts a b c d : List Token} {n : ℕ} {e : Expr} → IsThe (kind.Name n) ts a → IsThe (kind.Mark mark.Assign) a b → IsExpr b e c → IsThe (kind.Mark mark.Semicolon) c d
    → (s : Spot) → (x : Stmt) × IsStatement (keyword word.Long s ∷ ts) x d
declares_on here here x here s = (_, declares x)

assigns_on : {ts a b c d : List Token} {t : Kind} {o : Op} {e : Expr} → IsSubscript ts a → assignment t ≡ Some o → IsThe t a b → IsExpr b e c → IsThe (kind.Mark mark.Semicolon) c d
    → (n : ℕ) (s : Spot) → (x : Stmt) × IsStatement (named n s ∷ ts) x d
assigns_on bare o here x here n s = (_, assigns o x)
assigns_on (with_place p) o here x here n s = (_, writes p o x)

factor_on : {ts r : List Token} → IsSubscript ts r → (n : ℕ) (s : Spot) → (e : Expr) × IsFactor (named n s ∷ ts) e r
factor_on bare n s = (_, a_name)
factor_on (with_place x) n s = (_, a_word x)

parentheses_on : {ts a b : List Token} {e : Expr} → IsExpr ts e a → IsThe (kind.Mark mark.CloseRound) a b → (s : Spot) → (e : Expr) × IsFactor (sign mark.OpenRound s ∷ ts) e b
parentheses_on x here s = (_, in_parentheses x)

place_on : {ts a b : List Token} {e : Expr} → IsExpr ts e a → IsThe (kind.Mark mark.CloseSquare) a b → (s : Spot) → IsSubscript (sign mark.OpenSquare s ∷ ts) b
place_on x here s = with_place x

choice_on : {us ts m n r : List Token} {s : Spot} {c a b : Expr} → IsLevel loosest us c (sign mark.Question s ∷ ts) → IsExpr ts a m → IsThe (kind.Mark mark.Colon) m n → IsExpr n b r
    → (e : Expr) × IsExpr us e r
choice_on l x here y = (_, choice l x y)

other_on : {ts a b : List Token} {xs : List Stmt} → IsStatements ts xs a → IsThe (kind.Mark mark.CloseCurly) a b → (s s' : Spot)
    → (arms : List Arm) × (other : List Stmt) × IsElses (keyword word.Else s ∷ sign mark.OpenCurly s' ∷ ts) arms other b
other_on xs here s s' = ([], _, last_else xs)

loop_on : {ts r1 r2 r3 r4 r5 r6 r7 r8 r9 r10 m1 m2 : List Token} {n c : ℕ} {t : Kind} {b : Bool} {low high : Expr} {xs : List Stmt}
    → IsThe (kind.Mark mark.Assign) ts r1 → IsExpr r1 low m1 → IsThe (kind.Mark mark.Semicolon) m1 r2 → IsThe (kind.Name n) r2 r3 → comparison t ≡ Some b → IsThe t r3 r4
    → IsLevel 3 r4 high m2 → IsThe (kind.Mark mark.Semicolon) m2 r5 → IsStep n r5 c r6 → IsThe (kind.Mark mark.CloseRound) r6 r7 → IsThe (kind.Mark mark.OpenCurly) r7 r8
    → IsStatements r8 xs r9 → IsThe (kind.Mark mark.CloseCurly) r9 r10 → (s s1 s2 s3 : Spot)
    → (l : Loop) × IsLoop (keyword word.For s ∷ sign mark.OpenRound s1 ∷ keyword word.Long s2 ∷ named n s3 ∷ ts) l r10
loop_on here low here here c here high here st here here xs here s s1 s2 s3 = (_, a_loop low c high st xs)

header_spells : (n : ℕ) (k : List Expected) (ts : List Token) → Spells (header_then n k) ts → (s3 : Spot) → Spells (LoopName ∷ k) (named n s3 ∷ ts)
header_spells n k ts h s3 =
    let block = This mark.CloseRound ∷ block_then k in
    let low = value_spells (This mark.Semicolon ∷ ThisName n ∷ Compare ∷ level_then 3 (This mark.Semicolon ∷ Step n ∷ block)) h.0 h.2 in
    let name = low.3.2 in
    let compare = name.2 in
    let high = level_spells 3 (This mark.Semicolon ∷ Step n ∷ block) compare.0 compare.2 in
    let st = high.3.2 in
    let close = st.2 in
    let opening = close.2 in
    let xs = opening.2 in
    let end = xs.2 in (
      end.0,
      λ s s1 s2. loop_on h.1 low.2 low.3.1 name.1 compare.1.2 compare.1.3 high.2 high.3.1 st.1.1 close.1 opening.1 xs.1.1 end.1 s s1 s2 s3,
      end.2,
    )

loop_opened : {ts a b c : List Token} (k : List Expected) → IsThe (kind.Mark mark.OpenRound) ts a → IsThe (kind.Keyword word.Long) a b → Means LoopName b c → Spells k c → (s : Spot)
    → (l : Loop) × (r : List Token) × IsLoop (keyword word.For s ∷ ts) l r × Spells k r
loop_opened {c = c} k (here {s = s1}) (here {s = s2}) m more s = let l = m s s1 s2 in (l.0, c, l.1, more)

-- a loop's tokens, where its parts are expected one by one
region_on : (k : List Expected) (ts : List Token) → Spells (This mark.OpenRound ∷ Word word.Long ∷ LoopName ∷ k) ts → (s : Spot)
    → (l : Loop) × (r : List Token) × IsLoop (keyword word.For s ∷ ts) l r × Spells k r
region_on k ts h s = loop_opened k h.1 h.2.1 h.2.2.1 h.2.2.2 s

array_on : {ts a b d : List Token} {c : ℕ} → c ≤ greatest → IsThe (kind.Number c) ts a → IsThe (kind.Mark mark.CloseSquare) a b → IsThe (kind.Mark mark.Semicolon) b d
    → (n : ℕ) (s s1 s2 : Spot) → (x : Decl) × IsDecl (keyword word.Long s ∷ named n s1 ∷ sign mark.OpenSquare s2 ∷ ts) x d
array_on h here here here n s s1 s2 = (_, an_array h)

scalar_on : {ts a b : List Token} {z : ℤ} → IsSigned ts z a → IsThe (kind.Mark mark.Semicolon) a b
    → (n : ℕ) (s s1 s2 : Spot) → (x : Decl) × IsDecl (keyword word.Long s ∷ named n s1 ∷ sign mark.Assign s2 ∷ ts) x b
scalar_on x here n s s1 s2 = (_, a_scalar x)

fixed_on : {ts a b d e f g : List Token} {n c : ℕ} → IsThe (kind.Keyword word.Long) ts a → IsThe (kind.Name n) a b → IsThe (kind.Mark mark.OpenSquare) b d
    → c ≤ greatest → IsThe (kind.Number c) d e → IsThe (kind.Mark mark.CloseSquare) e f → IsThe (kind.Mark mark.Semicolon) f g
    → (s : Spot) → (x : Decl) × IsDecl (keyword word.Const s ∷ ts) x g
fixed_on here here here h here here here s = (_, a_fixed_array h)

decl_on : {ts a b : List Token} {n : ℕ} → IsThe (kind.Name n) ts a → Means DeclTail a b → (s : Spot) → (x : Decl) × IsDecl (keyword word.Long s ∷ ts) x b
decl_on {n = n} (here {s = s1}) m s = m n s s1

negative_on : {ts r : List Token} {n : ℕ} → n ≤ greatest → IsThe (kind.Number n) ts r → (s : Spot) → (z : ℤ) × IsSigned (sign mark.Minus s ∷ ts) z r
negative_on h here s = (_, negative h)

before_on : {ts r : List Token} {n : ℕ} → IsThe (kind.Name n) ts r → (s : Spot) → (c : ℕ) × IsStep n (sign mark.Increment s ∷ ts) c r
before_on here s = (1, before)

by_on : {ts r : List Token} {c : ℕ} → c ≤ greatest → IsThe (kind.Number c) ts r → (n : ℕ) (s s' : Spot) → (c : ℕ) × IsStep n (named n s ∷ sign mark.PlusAssign s' ∷ ts) c r
by_on h here n s s' = (_, by h)

-- what is expected behind a token that is taken makes, with this token, what was expected
abbrev On : Expected → List Expected → Kind → Spot → List Token → Option (List Expected) → Type 0
On x k t sp ts None = Unit {0}
On x k t sp ts (Some s) = Spells s ts → Spells (x ∷ k) (token t sp ∷ ts)

on_if : (x : Expected) (k : List Expected) (t : Kind) (sp : Spot) (ts : List Token) (s : List Expected) (b : Bool) → (b ≡ true → Spells s ts → Spells (x ∷ k) (token t sp ∷ ts))
    → On x k t sp ts (only_if b s)
on_if x k t sp ts s true f = f refl
on_if x k t sp ts s false f = tt

on_some : {X : Type 0} (x : Expected) (k : List Expected) (t : Kind) (sp : Spot) (ts : List Token) (found : Option X) → ((v : X) → found ≡ Some v → Spells k ts → Spells (x ∷ k) (token t sp ∷ ts))
    → On x k t sp ts (only_if (is_some found) k)
on_some x k t sp ts None f = tt
on_some x k t sp ts (Some v) f = f v refl

on_operand : (k : List Expected) (t : Kind) (sp : Spot) (ts : List Token) (u : Option Un) → unary t ≡ u → On Factor k t sp ts (with_operand u k)
on_operand k t sp ts None e = tt
on_operand k t sp ts (Some o) e = λ h. (h.0, (expr.Unary o h.1.0, signed e h.1.1), h.2)

on_right : (d : ℕ) (k : List Expected) (t : Kind) (sp : Spot) (ts : List Token) (f : Option (ℕ × Bin)) → binary t ≡ f → On (Tail d) k t sp ts (with_right f d k)
on_right d k t sp ts None e = tt
on_right d k t sp ts (Some found) e = on_if (Tail d) k t sp ts (level_then d (Tail d ∷ k)) (eqb found.0 d) (λ q h.
    let l = level_spells d (Tail d ∷ k) ts h in
    let same : found.0 ≡ d = eqb-true found.0 d q in
    let is : binary t ≡ Some (d, found.1) = e ∙ ap (λ n. Some (n, found.1)) same in
    (l.3.0, λ a. let more = l.3.1 (expr.Binary found.1 a l.0) in (more.0, goes_on is l.2 more.1), l.3.2))

is_here : {k k' : Kind} {s : Spot} {r : List Token} → k ≡ k' → IsThe k' (token k s ∷ r) r
is_here {k} {k'} {s} {r} e = subst (λ t. IsThe t (token k s ∷ r) r) e here

takes_on : (x : Expected) (t : Kind) (k : List Expected) (sp : Spot) (ts : List Token) → On x k t sp ts (takes x t k)
takes_on (This m) (kind.Mark t) k sp ts = on_if (This m) k (kind.Mark t) sp ts k (sameb mark_type m t) (λ e h. (ts, is_here (ap kind.Mark (sym (same_true mark_type tt m t e))), h))
takes_on (Word w) (kind.Keyword t) k sp ts = on_if (Word w) k (kind.Keyword t) sp ts k (sameb keyword_type w t) (λ e h. (ts, is_here (ap kind.Keyword (sym (same_true keyword_type tt w t e))), h))
takes_on (ThisName n) (kind.Name t) k sp ts = on_if (ThisName n) k (kind.Name t) sp ts k (eqb t n) (λ e h. (ts, is_here (ap kind.Name (eqb-true t n e)), h))
takes_on AnyName (kind.Name t) k sp ts = λ h. (ts, (t, here), h)
takes_on AnyNumber (kind.Number t) k sp ts = on_if AnyNumber k (kind.Number t) sp ts k (nat_le t greatest) (λ e h. (ts, (t, leb-true t greatest e, here), h))
takes_on Factor (kind.Number t) k sp ts = on_if Factor k (kind.Number t) sp ts k (nat_le t greatest) (λ e h. (ts, (_, a_number (leb-true t greatest e)), h))
takes_on Factor (kind.Name t) k sp ts = λ h. (h.0, factor_on h.1 t sp, h.2)
takes_on Factor (kind.Mark mark.OpenRound) k sp ts = λ h. let v = value_spells (This mark.CloseRound ∷ k) ts h in (v.3.0, parentheses_on v.2 v.3.1 sp, v.3.2)
takes_on Factor t k sp ts = on_operand k t sp ts (unary t) refl
takes_on Subscript (kind.Mark mark.OpenSquare) k sp ts = λ h. let v = value_spells (This mark.CloseSquare ∷ k) ts h in (v.3.0, place_on v.2 v.3.1 sp, v.3.2)
takes_on (Tail d) t k sp ts = on_right d k t sp ts (binary t) refl
takes_on Choice (kind.Mark mark.Question) k sp ts = λ h.
    let v = value_spells (This mark.Colon ∷ value_then k) ts h in
    let w = value_spells k v.3.0 v.3.2 in
    (w.1, λ c us l. choice_on l v.2 v.3.1 w.2, w.3)
takes_on Compare t k sp ts = on_some Compare k t sp ts (comparison t) (λ b e h. (ts, (t, b, e, here), h))
takes_on Assigns t k sp ts = on_some Assigns k t sp ts (assignment t) (λ o e h. (ts, (t, o, e, here), h))
takes_on Statements (kind.Keyword word.Long) k sp ts = λ h.
    let v = value_spells (This mark.Semicolon ∷ Statements ∷ k) h.2.0 h.2.2 in
    let more = v.3.2 in
    let x = declares_on h.1.1 h.2.1 v.2 v.3.1 sp in
    (more.0, (x.0 ∷ more.1.0, statement x.1 more.1.1), more.2)
takes_on Statements (kind.Name t) k sp ts = λ h.
    let o = h.2 in
    let v = value_spells (This mark.Semicolon ∷ Statements ∷ k) o.0 o.2 in
    let more = v.3.2 in
    let x = assigns_on h.1 o.1.2 o.1.3 v.2 v.3.1 t sp in
    (more.0, (x.0 ∷ more.1.0, statement x.1 more.1.1), more.2)
takes_on Statements (kind.Keyword word.If) k sp ts = λ h.
    let a = arm_spells (Elses ∷ Statements ∷ k) ts h sp in
    let e = a.3 in
    let more = e.2 in
    (more.0, (_ ∷ more.1.0, statement (chooses a.2 e.1.2) more.1.1), more.2)
takes_on Statements (kind.Keyword word.For) k sp ts = λ h.
    let l = region_on (Statements ∷ k) ts h sp in
    (l.3.0, (_ ∷ l.3.1.0, statement (turns l.2) l.3.1.1), l.3.2)
takes_on Elses (kind.Keyword word.Else) k sp ts = λ h. (h.0, h.1 sp, h.2)
takes_on BehindElse (kind.Keyword word.If) k sp ts = λ h.
    let a = arm_spells (Elses ∷ k) ts h sp in
    (a.3.0, λ s. (a.0 ∷ a.3.1.0, a.3.1.1, else_if a.2 a.3.1.2), a.3.2)
takes_on BehindElse (kind.Mark mark.OpenCurly) k sp ts = λ h. (h.2.0, λ s. other_on h.1.1 h.2.1 s sp, h.2.2)
takes_on LoopName (kind.Name t) k sp ts = λ h. header_spells t k ts h sp
takes_on (Step n) (kind.Mark mark.Increment) k sp ts = λ h. (h.0, before_on h.1 sp, h.2)
takes_on (Step n) (kind.Name t) k sp ts = on_if (Step n) k (kind.Name t) sp ts (StepTail ∷ k) (eqb t n) (λ e h.
    let c = h.1 n sp in
    (h.0, (c.0, subst (λ m. IsStep n (named m sp ∷ ts) c.0 h.0) (sym (eqb-true t n e)) c.1), h.2))
takes_on StepTail (kind.Mark mark.Increment) k sp ts = λ h. (ts, λ n s. (1, behind), h)
takes_on StepTail (kind.Mark mark.PlusAssign) k sp ts = λ h. (h.0, λ n s. by_on h.1.1 h.1.2 n s sp, h.2)
takes_on Decls (kind.Keyword word.Long) k sp ts = λ h.
    let x = decl_on h.1.1 h.2.1 sp in
    let more = h.2.2 in
    (more.0, (x.0 ∷ more.1.0, declaration x.1 more.1.1), more.2)
takes_on Decls (kind.Keyword word.Const) k sp ts = λ h.
    let name = h.2 in
    let opening = name.2 in
    let count = opening.2 in
    let close = count.2 in
    let end = close.2 in
    let more = end.2 in
    let x = fixed_on h.1 name.1.1 opening.1 count.1.1 count.1.2 close.1 end.1 sp in
    (more.0, (x.0 ∷ more.1.0, declaration x.1 more.1.1), more.2)
takes_on DeclTail (kind.Mark mark.OpenSquare) k sp ts = λ h. (h.2.2.0, λ n s s1. array_on h.1.1 h.1.2 h.2.1 h.2.2.1 n s s1 sp, h.2.2.2)
takes_on DeclTail (kind.Mark mark.Assign) k sp ts = λ h. (h.2.0, λ n s s1. scalar_on h.1.1 h.2.1 n s s1 sp, h.2.2)
takes_on Signed (kind.Number t) k sp ts = on_if Signed k (kind.Number t) sp ts k (nat_le t greatest) (λ e h. (ts, (_, positive (leb-true t greatest e)), h))
takes_on Signed (kind.Mark mark.Minus) k sp ts = λ h. (h.0, negative_on h.1.1 h.1.2 sp, h.2)
takes_on Loops (kind.Keyword word.For) k sp ts = λ h.
    let l = region_on (Loops ∷ k) ts h sp in
    (l.3.0, (_ ∷ l.3.1.0, a_region l.2 l.3.1.1), l.3.2)
takes_on _ _ k sp ts = tt

-- what may be left out is there without a token
left_out : (x : Expected) → skips x ≡ true → (r : List Token) → Means x r r
left_out Subscript e r = bare
left_out (Tail d) e r = λ a. (a, ended)
left_out Choice e r = λ c us l. (c, plain l)
left_out Statements e r = ([], no_statement)
left_out Elses e r = ([], [], no_else)
left_out Decls e r = ([], no_decl)
left_out Loops e r = ([], no_loop)
left_out _ e r = cc

-- some place, for the tokens of completions
nowhere : Spot
nowhere = record { line = 0; column = 0 }

at_level : (d : ℕ) {ts r : List Token} {e : Expr} → IsFactor ts e r → IsLevel d ts e r
at_level zero x = tightest x
at_level (suc d) x = level (at_level d x) ended

nothing : 0 ≤ greatest
nothing = omega arith

-- each item has tokens
least : (x : Expected) (r : List Token) → (ts : List Token) × Means x ts r
least (This m) r = (token (kind.Mark m) nowhere ∷ r, here)
least (Word w) r = (token (kind.Keyword w) nowhere ∷ r, here)
least (ThisName n) r = (token (kind.Name n) nowhere ∷ r, here)
least AnyName r = (named 0 nowhere ∷ r, (0, here))
least AnyNumber r = (numeral 0 nowhere ∷ r, (0, nothing, here))
least Factor r = (numeral 0 nowhere ∷ r, (_, a_number nothing))
least Compare r = (sign mark.Less nowhere ∷ r, (kind.Mark mark.Less, false, refl, here))
least Assigns r = (sign mark.Assign nowhere ∷ r, (kind.Mark mark.Assign, _, refl, here))
least BehindElse r = (sign mark.OpenCurly nowhere ∷ sign mark.CloseCurly nowhere ∷ r, λ s. ([], [], last_else no_statement))
least LoopName r = (
  named 0 nowhere ∷ sign mark.Assign nowhere ∷ numeral 0 nowhere ∷ sign mark.Semicolon nowhere ∷ named 0 nowhere ∷ sign mark.Less nowhere ∷ numeral 0 nowhere
      ∷ sign mark.Semicolon nowhere ∷ named 0 nowhere ∷ sign mark.Increment nowhere ∷ sign mark.CloseRound nowhere ∷ sign mark.OpenCurly nowhere ∷ sign mark.CloseCurly nowhere ∷ r,
  λ s s1 s2. (_, a_loop (plain (at_level 10 (a_number nothing))) refl (at_level 3 (a_number nothing)) behind no_statement),
)
least (Step n) r = (sign mark.Increment nowhere ∷ named n nowhere ∷ r, (1, before))
least StepTail r = (sign mark.Increment nowhere ∷ r, λ n s. (1, behind))
least DeclTail r = (sign mark.OpenSquare nowhere ∷ numeral 0 nowhere ∷ sign mark.CloseSquare nowhere ∷ sign mark.Semicolon nowhere ∷ r, λ n s s1. (_, an_array nothing))
least Signed r = (numeral 0 nowhere ∷ r, (_, positive nothing))
least x r = (r, left_out x refl r)

completes : (s : List Expected) → (ts : List Token) × Spells s ts
completes [] = ([], refl)
completes (x ∷ k) =
    let more = completes k in
    let l = least x more.0 in
    (l.0, (more.0, l.1, more.1))

step_at : (x : Expected) (k s : List Expected) (t : Kind) (sp : Spot) (ts : List Token) (o other : Option (List Expected)) (b : Bool) → On x k t sp ts o
    → (b ≡ true → (r : List Token) → Means x r r) → (other ≡ Some s → Spells s ts → Spells k (token t sp ∷ ts))
    → or_skip o b other ≡ Some s → Spells s ts → Spells (x ∷ k) (token t sp ∷ ts)
step_at x k s t sp ts (Some u) other b on out more e h = let same : u ≡ s = cc in on (subst (λ v. Spells v ts) (sym same) h)
step_at x k s t sp ts None other true on out more e h = (token t sp ∷ ts, out refl (token t sp ∷ ts), more e h)
step_at x k s t sp ts None other false on out more e h = cc

-- a step of the machine is a step of the grammar
steps : (k s : List Expected) (t : Kind) (sp : Spot) (ts : List Token) → step t k ≡ Some s → Spells s ts → Spells k (token t sp ∷ ts)
steps [] s t sp ts e h = cc
steps (x ∷ k) s t sp ts e h = step_at x k s t sp ts (takes x t k) (step t k) (skips x) (takes_on x t k sp ts) (left_out x) (steps k s t sp ts) e h

-- Where the machine is stuck: what stands before completes to what is expected, and the token there stops it
-- whatever follows.
pub record Stops (s : List Expected) (ts r : List Token) : Type 0 where
  pub front : List Token
  pub rest : List Token
  pub split : ts ≡ front ++ r
  pub viable : Spells s (front ++ rest)
  pub local : (t : Token) (us vs : List Token) → r ≡ t ∷ us → stuck s (front ++ t ∷ vs) ≡ Some (t ∷ vs)

at_end : (b : Bool) (r : List Token) → (if b then None else Some []) ≡ Some r → [] ≡ r
at_end true r e = cc
at_end false r e = cc

not_empty : {t : Token} {us : List Token} → ◌≡◌ {A = List Token} [] (t ∷ us) → ⊥
not_empty e = cc

-- behind a step, or at none
behind_step : (s : List Expected) (t : Token) (ts r : List Token) (o : Option (List Expected)) → step t.kind s ≡ o → ((s' : List Expected) → stuck s' ts ≡ Some r → Stops s' ts r)
    → (elim o [ None ↦ Some (t ∷ ts) | Some s' ↦ stuck s' ts ]) ≡ Some r → Stops s (t ∷ ts) r
behind_step s t ts r None o later e =
    let c = completes s in
    let all : t ∷ ts ≡ r = cc in
    record { front = []; rest = c.0; split = all; viable = c.1; local = λ u us vs h. rw (← head_is (all ∙ h)) (rw (o, stuck) refl) }
behind_step s t ts r (Some s') o later e =
    let more = later s' e in
    record {
      front = t ∷ more.front;
      rest = more.rest;
      split = ap (λ x. t ∷ x) more.split;
      viable = steps s s' t.kind t.spot (more.front ++ more.rest) o more.viable;
      local = λ u us vs h. rw (o, stuck) (more.local u us vs h);
    }

pub stops : (s : List Expected) (ts r : List Token) → stuck s ts ≡ Some r → Stops s ts r
stops s [] r e =
    let end = at_end (may_end s) r e in
    let c = completes s in
    record { front = []; rest = c.0; split = end; viable = c.1; local = λ t us vs h. absurd (not_empty (end ∙ h)) }
stops s (t ∷ ts) r e = behind_step s t ts r (step t.kind s) refl (λ s' h. stops s' ts r h) e

pub begins : (front rest : List Token) → Spells start (front ++ rest) → BeginProgram front
begins front rest h =
    let loops = h.2 in
    record {
      rest = rest;
      decls = h.1.0;
      regions = loops.1.0;
      are = record { middle = h.0; declared = h.1.1; looped = subst (λ r. AreLoops h.0 loops.1.0 r) loops.2 loops.1.1 };
    }
