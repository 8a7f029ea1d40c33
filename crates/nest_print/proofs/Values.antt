-- The text of an expression is read back as the same expression.
use Rattle.std.proofs.Common.{◌≡◌, ℕ, zero, suc, ◌+◌, ◌-◌, ◌≤◌, pos, Bool, true, false, if◌then◌else◌, List, [], ◌∷◌, ◌++◌, length, get_or, refl, sym, ap, subst, ◌∙◌, arith, append_assoc}
use Rattle.std.specs.Fmt.{decimal}
use Rattle.std.proofs.lemmas.Bool.Decides.{nat_tests}
use Rattle.nest_syntax.specs.declared.operators.Un.{Un}
use Rattle.nest_syntax.specs.declared.operators.Bin.{Bin}
use Rattle.nest_syntax.specs.declared.tree.Expr.{Expr}
use Rattle.nest_syntax.specs.declared.tree.Expr.TheVariants as expr
use Rattle.nest_lex.specs.Bytes.{is_letter, is_digit, is_word_byte}
use Rattle.nest_lex.specs.Spelling.{mark_text, IsName}
use Rattle.nest_lex.specs.declared.token.Mark.TheVariants as mark
use Rattle.nest_lex.specs.declared.token.Token.{Token}
use Rattle.nest_lex.proofs.Ranges.{all_at}
use Rattle.nest_parse.specs.Grammar as grammar
use Rattle.nest_parse.specs.Grammar.{greatest, shift, loosest, IsFactor, a_number, a_name, a_word, in_parentheses, signed, IsLevel, tightest, level, IsTail, ended, goes_on, IsExpr, plain, choice}
use Rattle.nest_print.specs.declared.print.Standing.{Standing}
use Rattle.nest_print.specs.declared.print.Standing.TheVariants.{Alone, Bound, Operand}
use Rattle.nest_print.specs.Canonical.{expr_text, name_text, word_text, enclosed, is_tight, unary_text, binary_text}
use Rattle.nest_print.proofs.Agreed as same
use Rattle.nest_print.proofs.Agreed.{AgreeExpr}
use Rattle.nest_print.proofs.Digits.{is_number}
use Rattle.nest_print.proofs.Joined.{joins}
use Rattle.nest_print.proofs.Left.{Left, moved, past}
use Rattle.nest_print.proofs.Takes.{place, take_name, take_number, take_mark, take_lone}
use Rattle.nest_print.proofs.Shown.{number_text, scalar_text, read_text, signed_text, joined_text, choice_text}
use Rattle.nest_print.proofs.Signs.{Binary, binary_of, unary_of}
use Rattle.nest_print.proofs.Printable.{Printable, number, scalar, word, unary, binary, chosen}

-- a level holds what the tighter ones hold
climb : (k d : ℕ) {ts r : List Token} {e : Expr} → IsLevel d ts e r → IsLevel (k + d) ts e r
climb zero d {ts} {r} {e} l = let same : d ≡ 0 + d = omega arith in subst (λ n. IsLevel n ts e r) same l
climb (suc k) d {ts} {r} {e} l = let same : k + suc d ≡ suc k + d = omega arith in subst (λ n. IsLevel n ts e r) same (climb k (suc d) (level l ended))

pub raised : (d to : ℕ) → d ≤ to → {ts r : List Token} {e : Expr} → IsLevel d ts e r → IsLevel to ts e r
raised d to within {ts} {r} {e} l = let same : to - d + d ≡ to = omega arith in subst (λ n. IsLevel n ts e r) same (climb (to - d) d l)

of_factor : (to : ℕ) {ts r : List Token} {e : Expr} → IsFactor ts e r → IsLevel to ts e r
of_factor to f = raised 0 to (omega arith) (tightest f)

-- the first byte of an operand, with which no mark goes on
pub record First (shown : List ℕ) : Type 0 where
  pub byte : ℕ
  pub more : List ℕ
  pub is : shown ≡ byte ∷ more
  pub plain : joins byte ≡ false

digit_plain : (b : ℕ) → is_digit b ≡ true → joins b ≡ false
digit_plain b digit = grind (arith, nat_tests)

letter_plain : (b : ℕ) → is_letter b ≡ true → joins b ≡ false
letter_plain b letter = grind (arith, nat_tests)

first_of : (shown : List ℕ) → 1 ≤ length shown → joins (get_or shown 0 0) ≡ false → First shown
first_of [] some apart = absurd (omega (arith, some))
first_of (b ∷ more) some apart = record { byte = b; more = more; is = refl; plain = apart }

pub first_of_number : (n : ℕ) → n ≤ greatest → First (decimal n)
first_of_number n small = let is = is_number n small in first_of (decimal n) is.some (digit_plain (get_or (decimal n) 0 0) (all_at is_digit (decimal n) 0 (omega (arith, is.some)) is.digits))

first_of_name : (bytes : List ℕ) → IsName bytes → First bytes
first_of_name [] name = absurd (cc)
first_of_name (b ∷ bytes) name = record { byte = b; more = bytes; is = refl; plain = letter_plain b name.begins }

first_with : {shown : List ℕ} → First shown → (more : List ℕ) → First (shown ++ more)
first_with f more = record { byte = f.byte; more = f.more ++ more; is = ap (λ x. x ++ more) f.is; plain = f.plain }

module _ (old : List (List ℕ)) (text : List ℕ) (names : List (List ℕ)) where
  -- an expression is read from these tokens, and the same; the rest is left
  pub record Back (Is : List Token → Expr → List Token → Type 0) (e : Expr) (tokens : List Token) (rest : List ℕ) : Type 0 where
    pub back : Expr
    pub more : List Token
    pub is : Is tokens back more
    pub same : AgreeExpr old names e back
    pub left : Left text names more rest

  -- so it is wherever these bytes are in front
  abbrev pub Reader : (List Token → Expr → List Token → Type 0) → Expr → List ℕ → Type 0
  Reader Is e shown = (rest : List ℕ) → is_word_byte (get_or rest 0 0) ≡ false → (tokens : List Token) → Left text names tokens (shown ++ rest) → Back Is e tokens rest

  along : {Is : List Token → Expr → List Token → Type 0} {e : Expr} {shown shown' : List ℕ} → shown ≡ shown' → Reader Is e shown → Reader Is e shown'
  along {Is} {e} same read = subst (λ bytes. Reader Is e bytes) same read

  widened : {Is Has : List Token → Expr → List Token → Type 0} {e : Expr} (shown : List ℕ) → ((ts r : List Token) (x : Expr) → Is ts x r → Has ts x r) → Reader Is e shown → Reader Has e shown
  widened shown widen read rest ends tokens left =
      let b = read rest ends tokens left in
      record { back = b.back; more = b.more; is = widen tokens b.more b.back b.is; same = b.same; left = b.left }

  round_split : (body rest : List ℕ) → enclosed true body ++ rest ≡ 40 ∷ (body ++ 41 ∷ rest)
  round_split body rest = ap (λ x. 40 ∷ x) (append_assoc body (41 ∷ []) rest)

  in_round : {e : Expr} (body : List ℕ) → Reader IsExpr e body → Reader IsFactor e (enclosed true body)
  in_round {e} body read rest ends tokens left =
      let opened = take_lone mark.OpenRound refl (moved (round_split body rest) left) in
      let b = read (41 ∷ rest) refl opened.more opened.left in
      let close = take_lone mark.CloseRound refl b.left in
      record {
        back = b.back;
        more = close.more;
        is = subst (λ ts. IsFactor ts b.back close.more) (sym opened.are) (in_parentheses (subst (λ ts. IsExpr opened.more b.back ts) close.are b.is));
        same = b.same;
        left = close.left;
      }

  -- an expression is read back however it stands
  pub record Comes (e : Expr) : Type 0 where
    pub operand : Reader IsFactor e (expr_text old e Operand)
    pub alone : Reader IsExpr e (expr_text old e Alone)
    pub bound : Reader (IsLevel shift) e (expr_text old e Bound)
    pub begins : First (expr_text old e Operand)

  to_value : (ts r : List Token) (x : Expr) → IsFactor ts x r → IsExpr ts x r
  to_value ts r x f = plain (of_factor loosest f)

  to_bound : (ts r : List Token) (x : Expr) → IsFactor ts x r → IsLevel shift ts x r
  to_bound ts r x f = of_factor shift f

  as_factor : {e : Expr} {shown : List ℕ} → ((standing : Standing) → expr_text old e standing ≡ shown) → Reader IsFactor e shown → First shown → Comes e
  as_factor {e} {shown} same read begins = record {
    operand = along (sym (same Operand)) read;
    alone = along (sym (same Alone)) (widened _ to_value read);
    bound = along (sym (same Bound)) (widened _ to_bound read);
    begins = subst First (sym (same Operand)) begins;
  }

  read_number : (n : ℕ) → n ≤ greatest → Reader IsFactor (expr.Number (pos n)) (decimal n)
  read_number n small rest ends tokens left =
      let t = take_number n small ends left in
      record { back = expr.Number (pos n); more = t.more; is = subst (λ ts. IsFactor ts (expr.Number (pos n)) t.more) (sym t.are) (a_number small); same = same.number; left = t.left }

  read_scalar : (n : ℕ) → IsName (name_text old n) → Reader IsFactor (expr.Scalar n) (name_text old n)
  read_scalar n name rest ends tokens left =
      let t = take_name (name_text old n) name ends left in
      record { back = expr.Scalar (place names (name_text old n)); more = t.took.more; is = subst (λ ts. IsFactor ts (expr.Scalar (place names (name_text old n))) t.took.more) (sym t.took.are) a_name; same = same.scalar (record { name = name; is = t.is }); left = t.took.left }

  word_split : (name place rest : List ℕ) → word_text name place ++ rest ≡ name ++ 91 ∷ (place ++ 93 ∷ rest)
  word_split name place rest = simp append_assoc

  read_word : (n : ℕ) (e : Expr) → IsName (name_text old n) → Comes e → Reader IsFactor (expr.Word n e) (word_text (name_text old n) (expr_text old e Alone))
  read_word n e name comes rest ends tokens left =
      let t = take_name (name_text old n) name refl (moved (word_split (name_text old n) (expr_text old e Alone) rest) left) in
      let opened = take_lone mark.OpenSquare refl t.took.left in
      let b = comes.alone (93 ∷ rest) refl opened.more opened.left in
      let close = take_lone mark.CloseSquare refl b.left in
      let inside : IsExpr opened.more b.back _ = subst (λ ts. IsExpr opened.more b.back ts) close.are b.is in
      let front = t.took.are ∙ ap (λ ts. grammar.named (place names (name_text old n)) t.took.spot ∷ ts) opened.are in
      record {
        back = expr.Word (place names (name_text old n)) b.back;
        more = close.more;
        is = subst (λ ts. IsFactor ts (expr.Word (place names (name_text old n)) b.back) close.more) (sym front) (a_word inside);
        same = same.word (record { name = name; is = t.is }) b.same;
        left = close.left;
      }

  read_signed : (o : Un) (e : Expr) → Comes e → Reader IsFactor (expr.Unary o e) (unary_text o ++ expr_text old e Operand)
  read_signed o e comes rest ends tokens left =
      let u = unary_of o in
      let f = comes.begins in
      let behind : expr_text old e Operand ++ rest ≡ f.byte ∷ (f.more ++ rest) = ap (λ x. x ++ rest) f.is in
      let split : (unary_text o ++ expr_text old e Operand) ++ rest ≡ mark_text u.sign ++ f.byte ∷ (f.more ++ rest) =
      append_assoc (unary_text o) (expr_text old e Operand) rest ∙ ap (λ x. x ++ (expr_text old e Operand ++ rest)) u.shown ∙ ap (λ x. mark_text u.sign ++ x) behind in
      let t = take_mark u.sign f.byte f.plain (u.plain f.byte (f.more ++ rest)) (moved split left) in
      let b = comes.operand rest ends t.more (moved (sym behind) t.left) in
      record {
        back = expr.Unary o b.back;
        more = b.more;
        is = subst (λ ts. IsFactor ts (expr.Unary o b.back) b.more) (sym t.are) (signed u.found b.is);
        same = same.unary b.same;
        left = b.left;
      }

  abbrev joined : Bin → Expr → Expr → List ℕ
  joined o a b = expr_text old a Operand ++ binary_text o ++ expr_text old b Operand

  abbrev choosing : Expr → Expr → Expr → List ℕ
  choosing c a b = expr_text old c Operand ++ (32 ∷ 63 ∷ 32 ∷ []) ++ expr_text old a Operand ++ (32 ∷ 58 ∷ 32 ∷ []) ++ expr_text old b Operand

  joined_split : (a sign b rest : List ℕ) → (a ++ (32 ∷ (sign ++ 32 ∷ [])) ++ b) ++ rest ≡ a ++ 32 ∷ (sign ++ 32 ∷ (b ++ rest))
  joined_split a sign b rest = simp append_assoc

  read_joined : (o : Bin) (a b : Expr) → Comes a → Comes b → (u : Binary o) → Reader (IsLevel (suc u.depth)) (expr.Binary o a b) (joined o a b)
  read_joined o a b first second u rest ends tokens left =
      let start = ap (λ x. (expr_text old a Operand ++ x ++ expr_text old b Operand) ++ rest) u.shown ∙ joined_split (expr_text old a Operand) (mark_text u.sign) (expr_text old b Operand) rest in
      let x = first.operand (32 ∷ (mark_text u.sign ++ 32 ∷ (expr_text old b Operand ++ rest))) refl tokens (moved start left) in
      let t = take_mark u.sign 32 refl (u.plain (expr_text old b Operand ++ rest)) (past 32 refl x.left) in
      let y = second.operand rest ends t.more (past 32 refl t.left) in
      let l : IsLevel u.depth tokens x.back _ = of_factor u.depth (subst (λ ts. IsFactor tokens x.back ts) t.are x.is) in
      record {
        back = expr.Binary o x.back y.back;
        more = y.more;
        is = level l (goes_on u.found (of_factor u.depth y.is) ended);
        same = same.binary x.same y.same;
        left = y.left;
      }

  choice_split : (c a b rest : List ℕ) → (c ++ (32 ∷ 63 ∷ 32 ∷ []) ++ a ++ (32 ∷ 58 ∷ 32 ∷ []) ++ b) ++ rest ≡ c ++ 32 ∷ 63 ∷ 32 ∷ (a ++ 32 ∷ 58 ∷ 32 ∷ (b ++ rest))
  choice_split c a b rest = simp append_assoc

  read_choice : (c a b : Expr) → Comes c → Comes a → Comes b
      → Reader IsExpr (expr.Choice c a b) (choosing c a b)
  read_choice c a b test first second rest ends tokens left =
      let x = test.operand _ refl tokens (moved (choice_split (expr_text old c Operand) (expr_text old a Operand) (expr_text old b Operand) rest) left) in
      let t = take_lone mark.Question refl (past 32 refl x.left) in
      let y = first.operand _ refl t.more (past 32 refl t.left) in
      let u = take_lone mark.Colon refl (past 32 refl y.left) in
      let z = second.operand rest ends u.more (past 32 refl u.left) in
      record {
        back = expr.Choice x.back y.back z.back;
        more = z.more;
        is = choice (of_factor loosest (subst (λ ts. IsFactor tokens x.back ts) t.are x.is)) (to_value t.more _ y.back (subst (λ ts. IsFactor t.more y.back ts) u.are y.is)) (to_value u.more z.more z.back z.is);
        same = same.choice x.same y.same z.same;
        left = z.left;
      }

  signed_comes : (o : Un) (e : Expr) → Comes e → Comes (expr.Unary o e)
  signed_comes o e comes =
      let read = read_signed o e comes in
      record {
        operand = along (sym (signed_text old o e Operand)) (in_round _ (widened _ to_value read));
        alone = along (sym (signed_text old o e Alone)) (widened _ to_value read);
        bound = along (sym (signed_text old o e Bound)) (widened _ to_bound read);
        begins = record { byte = 40; more = _; is = signed_text old o e Operand; plain = refl };
      }

  joined_comes : (o : Bin) (a b : Expr) → Comes a → Comes b → Comes (expr.Binary o a b)
  joined_comes o a b first second =
      let u = binary_of o in
      let read = read_joined o a b first second u in
      let value : Reader IsExpr (expr.Binary o a b) (joined o a b) = widened (joined o a b) (λ ts r x l. plain (raised (suc u.depth) loosest (omega (arith, u.deep)) l)) read in
      record {
        operand = along (sym (joined_text old o a b Operand)) (in_round (joined o a b) value);
        alone = along (sym (joined_text old o a b Alone)) value;
        bound = along (sym (joined_text old o a b Bound)) (bounded (is_tight o) refl);
        begins = record { byte = 40; more = _; is = joined_text old o a b Operand; plain = refl };
      }
    where
      bounded : (tight : Bool) → is_tight o ≡ tight → Reader (IsLevel shift) (expr.Binary o a b) (enclosed (if tight then false else true) (joined o a b))
      bounded true is = let u = binary_of o in widened (joined o a b) (λ ts r x l. raised (suc u.depth) shift (omega (arith, u.tight is)) l) (read_joined o a b first second u)
      bounded false is = let u = binary_of o in widened (enclosed true (joined o a b)) to_bound (in_round (joined o a b) (widened (joined o a b) (λ ts r x l. plain (raised (suc u.depth) loosest (omega (arith, u.deep)) l)) (read_joined o a b first second u)))

  choice_comes : (c a b : Expr) → Comes c → Comes a → Comes b → Comes (expr.Choice c a b)
  choice_comes c a b test first second =
      let read = read_choice c a b test first second in
      record {
        operand = along (sym (choice_text old c a b Operand)) (in_round (choosing c a b) read);
        alone = along (sym (choice_text old c a b Alone)) read;
        bound = along (sym (choice_text old c a b Bound)) (widened (enclosed true (choosing c a b)) to_bound (in_round (choosing c a b) read));
        begins = record { byte = 40; more = _; is = choice_text old c a b Operand; plain = refl };
      }

  pub comes : {e : Expr} → Printable old e → Comes e
  comes (number {n = n} small) = as_factor (number_text old (pos n)) (read_number n small) (first_of_number n small)
  comes (scalar {n = n} name) = as_factor (scalar_text old n) (read_scalar n name) (first_of_name (name_text old n) name)
  comes (word {n = n} {e = e} name x) = as_factor (read_text old n e) (read_word n e name (comes x)) (first_with (first_with (first_with (first_of_name (name_text old n) name) (91 ∷ [])) (expr_text old e Alone)) (93 ∷ []))
  comes (unary {o = o} {e = e} x) = signed_comes o e (comes x)
  comes (binary {o = o} {a = a} {b = b} x y) = joined_comes o a b (comes x) (comes y)
  comes (chosen {c = c} {a = a} {b = b} x y z) = choice_comes c a b (comes x) (comes y) (comes z)
