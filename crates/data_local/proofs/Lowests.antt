-- The lowest line of loops that pass a test, and what it tells of the lines that break a rule.
use Rattle.std.proofs.Common.{◌≡◌, ℕ, suc, ◌+◌, ◌<◌, ◌≤◌, Bool, true, false, ◌||◌, ◌==◌, eq-eqb, ◌⊎◌, inl, inr, if◌then◌else◌, Option, Some, None, List, [], ◌∷◌, ◌++◌, map, filter, length, take, drop, get_or, nat_lt, refl, sym, ap, ◌∙◌, subst, arith, drop-cons, add-one}
use Rattle.std.specs.List.{list_any}
use Rattle.std.proofs.lemmas.List.{drop_all, take_more, map-append}
use Rattle.std.proofs.lemmas.Bool.{ltb-true, ltb-false, eqb-true}
use Rattle.nest_syntax.specs.declared.names.Line.{Line}
use Rattle.nest_syntax.specs.declared.tree.Expr.{Expr}
use Rattle.nest_syntax.specs.declared.tree.Loop.{Loop}
use Rattle.nest_syntax.specs.declared.tree.Stmt.{Stmt}
use Rattle.nest_syntax.specs.Arrays.{Array}
use Rattle.nest_syntax.specs.Value.{names_written}
use Rattle.nest_syntax.proofs.LowerLists.{lower_of-where}
use Rattle.nest_syntax.specs.Lowest.{lower_of, lines_where, lower_if, IsAtMost, Lowers}
use Rattle.nest_syntax.proofs.Lowers.{lowers_by}
use Rattle.nest_syntax.specs.Among.{is_among, IsOne}
use Rattle.data_local.specs.Names.{scalars_in}
use Rattle.data_local.specs.DataLocals.{IsData, AreDataLocals}
use Rattle.data_local.specs.Loops.{line_of, loops_in}
use Rattle.data_local.specs.Bounds.{HasDataBoundIn}
use Rattle.data_local.specs.Breaches.{is_data, has_data_bound}
use Rattle.data_local.proofs.Parts.{either, or_left, or_right, one_left, one_right, one_parts}
use denote.Ref.{Bor}

-- one more loop
pub notes_more : (test : Loop → Bool) (loops : List (Bor Loop)) (i : ℕ) → i < length loops → (here : Bor Loop) → here ≡ get_or loops i here → (breaks : Bool) → breaks ≡ test here.now
    → (found found' whole : Option Line) → lower_of found (lines_where line_of test (map (λ x. x.now) (drop i loops))) ≡ whole → found' ≡ lower_if breaks found here.now.line
    → lower_of found' (lines_where line_of test (map (λ x. x.now) (drop (i + 1) loops))) ≡ whole
notes_more test loops i there here is breaks same found found' whole left more =
    let rest : drop i loops ≡ here ∷ drop (i + 1) loops = drop-cons loops i here there ∙ ap (λ x. x ∷ drop (suc i) loops) (sym is) ∙ ap (λ k. here ∷ drop k loops) (sym (add-one i)) in
    ap (λ f. lower_of f (lines_where line_of test (map (λ (x : Bor Loop). x.now) (drop (i + 1) loops)))) (more ∙ ap (λ b. lower_if b found here.now.line) same)
    ∙ lower_of-where line_of test found here.now (map (λ (x : Bor Loop). x.now) (drop (i + 1) loops))
    ∙ ap (λ ls. lower_of found (lines_where line_of test (map (λ (x : Bor Loop). x.now) ls))) (sym rest)
    ∙ left

pub notes_end : (test : Loop → Bool) (loops : List (Bor Loop)) (i : ℕ) → length loops ≤ i → (found whole : Option Line) → lower_of found (lines_where line_of test (map (λ x. x.now) (drop i loops))) ≡ whole → found ≡ whole
notes_end test loops i over found whole left = ap (λ ls. lower_of found (lines_where line_of test (map (λ (x : Bor Loop). x.now) ls))) (sym (drop_all i loops over)) ∙ left

-- the lines of the loops that pass a test, both ways
one_where : (test : Loop → Bool) (loops : List Loop) (l : Loop) → IsOne loops l → test l ≡ true → IsOne (lines_where line_of test loops) l.line
one_where test [] l h e = absurd h
one_where test (first ∷ loops) l (inl same) e = by_test (test first) (ap test (sym same) ∙ e)
  where
    by_test : (b : Bool) → b ≡ true → IsOne (map (λ (x : Loop). x.line) (if b then first ∷ filter test loops else filter test loops)) l.line
    by_test true h = inl (ap (λ (x : Loop). x.line) same)
    by_test false h = absurd cc
one_where test (first ∷ loops) l (inr later) e = by_test (test first) (one_where test loops l later e)
  where
    by_test : (b : Bool) → IsOne (lines_where line_of test loops) l.line → IsOne (map (λ (x : Loop). x.line) (if b then first ∷ filter test loops else filter test loops)) l.line
    by_test true h = inr h
    by_test false h = h

where_one : (test : Loop → Bool) (loops : List Loop) (line : Line) → IsOne (lines_where line_of test loops) line → (l : Loop) × IsOne loops l × (l.line ≡ line) × (test l ≡ true)
where_one test [] line h = absurd h
where_one test (first ∷ loops) line h = by_test (λ later. where_one test loops line later) (test first) refl h
  where
    by_test : (IsOne (lines_where line_of test loops) line → (l : Loop) × IsOne loops l × (l.line ≡ line) × (test l ≡ true)) → (b : Bool) → test first ≡ b
        → IsOne (map (λ (x : Loop). x.line) (if b then first ∷ filter test loops else filter test loops)) line → (l : Loop) × IsOne (first ∷ loops) l × (l.line ≡ line) × (test l ≡ true)
    by_test go true e (inl same) = (first, inl refl, sym same, e)
    by_test go true e (inr later) = let at = go later in (at.0, inr at.1, at.2, at.3)
    by_test go false e later = let at = go later in (at.0, inr at.1, at.2, at.3)

-- the test of an expression, both ways
any_local : (locals names : List ℕ) → list_any (is_among locals) names ≡ true → (name : ℕ) × (is_among names name ≡ true) × (is_among locals name ≡ true)
any_local locals [] e = absurd cc
any_local locals (first ∷ names) e = by_either (λ later. any_local locals names later) (either (is_among locals first) (list_any (is_among locals) names) e)
  where
    by_either : (list_any (is_among locals) names ≡ true → (name : ℕ) × (is_among names name ≡ true) × (is_among locals name ≡ true)) → (is_among locals first ≡ true) ⊎ (list_any (is_among locals) names ≡ true)
        → (name : ℕ) × (is_among (first ∷ names) name ≡ true) × (is_among locals name ≡ true)
    by_either go (inl here) = (first, or_left (first == first) (is_among names first) (eq-eqb first first refl), here)
    by_either go (inr later) = let at = go later in (at.0, or_right (at.0 == first) (is_among names at.0) at.1, at.2)

local_any : (locals names : List ℕ) (name : ℕ) → is_among names name ≡ true → is_among locals name ≡ true → list_any (is_among locals) names ≡ true
local_any locals [] name e h = e
local_any locals (first ∷ names) name e h = by_either (λ later. local_any locals names name later h) (either (name == first) (is_among names name) e)
  where
    by_either : (is_among names name ≡ true → list_any (is_among locals) names ≡ true) → ((name == first) ≡ true) ⊎ (is_among names name ≡ true) → (is_among locals first || list_any (is_among locals) names) ≡ true
    by_either go (inl same) = or_left (is_among locals first) (list_any (is_among locals) names) (ap (is_among locals) (sym (eqb-true name first same)) ∙ h)
    by_either go (inr later) = or_right (is_among locals first) (list_any (is_among locals) names) (go later)

pub data_is : (arrays : List Array) (body : List Stmt) (locals : List ℕ) (e : Expr) → AreDataLocals arrays body locals → is_data arrays locals e ≡ true → IsData arrays body e
data_is arrays body locals e are h = elim (either (names_written arrays e) (list_any (is_among locals) (scalars_in e)) h) [
  | inl written ↦ inl written
  | inr local ↦ let at = any_local locals (scalars_in e) local in inr (at.0, at.1, (are at.0).0 at.2)
]

pub is_data_of : (arrays : List Array) (body : List Stmt) (locals : List ℕ) (e : Expr) → AreDataLocals arrays body locals → IsData arrays body e → is_data arrays locals e ≡ true
is_data_of arrays body locals e are (inl written) = or_left (names_written arrays e) (list_any (is_among locals) (scalars_in e)) written
is_data_of arrays body locals e are (inr local) = or_right (names_written arrays e) (list_any (is_among locals) (scalars_in e)) (local_any locals (scalars_in e) local.0 local.1 ((are local.0).1 local.2))

-- the loops of a body that have a data expression as a bound
pub body_lowers : (arrays : List Array) (body : List Stmt) (locals : List ℕ) (loops : List Loop) (old new : Option Line) → AreDataLocals arrays body locals → loops ≡ loops_in body
    → new ≡ lower_of old (lines_where line_of (has_data_bound arrays locals) loops) → Lowers (HasDataBoundIn arrays body) old new
body_lowers arrays body locals loops old new are all is = lowers_by (HasDataBoundIn arrays body) (lines_where line_of (has_data_bound arrays locals) loops) old new into back is
  where
    passes : (l : Loop) → IsData arrays body l.low ⊎ IsData arrays body l.high → has_data_bound arrays locals l ≡ true
    passes l (inl low) = or_left (is_data arrays locals l.low) (is_data arrays locals l.high) (is_data_of arrays body locals l.low are low)
    passes l (inr high) = or_right (is_data arrays locals l.low) (is_data arrays locals l.high) (is_data_of arrays body locals l.high are high)

    into : (line : Line) → HasDataBoundIn arrays body line → IsOne (lines_where line_of (has_data_bound arrays locals) loops) line
    into line h = subst (IsOne (lines_where line_of (has_data_bound arrays locals) loops)) h.2 (one_where (has_data_bound arrays locals) loops h.0 (subst (λ ls. IsOne ls h.0) (sym all) h.1) (passes h.0 h.3))

    back : (line : Line) → IsOne (lines_where line_of (has_data_bound arrays locals) loops) line → HasDataBoundIn arrays body line
    back line h =
        let at = where_one (has_data_bound arrays locals) loops line h in (
          at.0,
          subst (λ ls. IsOne ls at.0) all at.1,
          at.2,
          elim (either (is_data arrays locals at.0.low) (is_data arrays locals at.0.high) at.3) [
            | inl low ↦ inl (data_is arrays body locals at.0.low are low)
            | inr high ↦ inr (data_is arrays body locals at.0.high are high)
          ],
        )

-- the lines of the bodies so far
abbrev pub Among : List Array → List (List Stmt) → Line → Type 0
Among arrays bodies line = (one : List Stmt) × IsOne bodies one × HasDataBoundIn arrays one line

pub lowers_none : (arrays : List Array) → Lowers (Among arrays []) None None
lowers_none arrays = record { reached = λ line h. h.1; kept = λ line e. absurd cc; from = λ line e. inl e }

lower_than : (found : Option Line) (lowest line : Line) → IsAtMost found lowest → lowest.0 ≤ line.0 → IsAtMost found line
lower_than None lowest line h le = absurd h
lower_than (Some one) lowest line h le = let most : one.0 ≤ lowest.0 = h in omega arith

pub lowers_more : (arrays : List Array) (bodies : List (Bor (List Stmt))) (i : ℕ) → i < length bodies → (here : Bor (List Stmt)) → here ≡ get_or bodies i here → (found found' : Option Line)
    → Lowers (Among arrays (map (λ x. x.now) (take i bodies))) None found → Lowers (HasDataBoundIn arrays here.now) found found' → Lowers (Among arrays (map (λ x. x.now) (take (i + 1) bodies))) None found'
lowers_more arrays bodies i there here is found found' before more = record {
  reached = λ line h. reached_by line h.0 h.2 (one_parts (map (λ (x : Bor (List Stmt)). x.now) (take i bodies)) (here.now ∷ []) h.0 (subst (λ ls. IsOne ls h.0) all h.1));
  kept = λ line e. absurd cc;
  from = λ line e. elim (more.from line e) [
    | inl was ↦ elim (before.from line was) [ inl none ↦ inl none | inr one ↦ inr (one.0, subst (λ ls. IsOne ls one.0) (sym all) (one_left (map (λ (x : Bor (List Stmt)). x.now) (take i bodies)) (here.now ∷ []) one.0 one.1), one.2) ]
    | inr bound ↦ inr (here.now, subst (λ ls. IsOne ls here.now) (sym all) (one_right (map (λ (x : Bor (List Stmt)). x.now) (take i bodies)) (here.now ∷ []) here.now (inl refl)), bound)
  ];
}
  where
    all : map (λ (x : Bor (List Stmt)). x.now) (take (i + 1) bodies) ≡ map (λ (x : Bor (List Stmt)). x.now) (take i bodies) ++ here.now ∷ []
    all = ap (map (λ (x : Bor (List Stmt)). x.now)) (take_more bodies i here there ∙ ap (λ x. take i bodies ++ x ∷ []) (sym is)) ∙ map-append (λ (x : Bor (List Stmt)). x.now) (take i bodies) (here ∷ [])

    at_most : (o : Option Line) (line : Line) → found ≡ o → IsAtMost o line → IsAtMost found' line
    at_most None line e h = absurd h
    at_most (Some lowest) line e h = lower_than found' lowest line (more.kept lowest e) h

    reached_by : (line : Line) (one : List Stmt) → HasDataBoundIn arrays one line → IsOne (map (λ (x : Bor (List Stmt)). x.now) (take i bodies)) one ⊎ IsOne (here.now ∷ []) one → IsAtMost found' line
    reached_by line one bound (inl was) = at_most found line refl (before.reached line (one, was, bound))
    reached_by line one bound (inr (inl same)) = more.reached line (subst (λ (b : List Stmt). HasDataBoundIn arrays b line) same bound)
    reached_by line one bound (inr (inr none)) = absurd none
