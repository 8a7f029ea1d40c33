-- Reading expressions.
use Rattle.std.proofs.Common.{◌≡◌, ℕ, suc, ◌<◌, Bool, true, false, pos, Some, None, Result, Ok, Err, List, [], ◌∷◌, length, refl, sym, ◌∙◌, ap, subst, arith, is_some}
use Rattle.nest_syntax.specs.declared.operators.Bin.{Bin}
use Rattle.nest_syntax.specs.declared.operators.Un.{Un}
use Rattle.nest_syntax.specs.declared.tree.Expr.{Expr}
use Rattle.nest_syntax.specs.declared.tree.Expr.TheVariants as expr
use Rattle.nest_lex.specs.declared.token.Mark.TheVariants as mark
use Rattle.nest_lex.specs.declared.token.Kind.{Kind}
use Rattle.nest_lex.specs.declared.token.Kind.TheVariants as kind
use Rattle.nest_lex.specs.declared.token.Token.{Token}
use Rattle.nest_parse.specs.declared.refused.Stop.{Stop}
use Rattle.nest_parse.specs.Grammar.{sign, named, unary, IsFactor, a_number, a_name, a_word, in_parentheses, signed, IsLevel, tightest, level, IsTail, ended, goes_on, IsExpr, plain, choice}
use Rattle.nest_parse.specs.Expected.{Expected, This, AnyNumber, Factor, Subscript, Tail, Choice, level_then, value_then, takes, skips, stuck, Reads, IsSign, IsName, IsNumber, IsUnary, IsExprThen, IsBehindName, TakesOperator, TakesNone, is_name, is_mark}
use Rattle.nest_parse.proofs.Complete.{taken, skipped, takes_unary, takes_binary}
use Rattle.nest_parse.proofs.Chains.{handed}

-- what may be left out is, where no token goes on with it
pub left_there : (x : Expected) {such : Kind → Bool} {old new : List Token} → skips x ≡ true → ((t : Kind) (k : List Expected) → such t ≡ false → takes x t k ≡ None) → TakesNone such old new
    → (k : List Expected) → stuck (x ∷ k) old ≡ stuck k new
left_there x {such} {old} {new} s none h k = skipped x k old s (λ t r o. none t.kind k (h.other t r o)) ∙ ap (stuck k) (sym h.stays)

pub no_place : (t : Kind) (k : List Expected) → is_mark mark.OpenSquare t ≡ false → takes Subscript t k ≡ None
no_place (kind.Mark mark.OpenSquare) k q = cc
no_place _ k q = refl

pub no_question : (t : Kind) (k : List Expected) → is_mark mark.Question t ≡ false → takes Choice t k ≡ None
no_question (kind.Mark mark.Question) k q = cc
no_question _ k q = refl

-- `left` is read, and whatever goes on at `now` goes on with it
pub record Joined (d : ℕ) (old now : List Token) (left : Expr) : Type 0 where
  pub is : (e : Expr) (r : List Token) → IsTail d left now e r → IsLevel (suc d) old e r
  pub goes : (k : List Expected) → stuck (level_then (suc d) k) old ≡ stuck (Tail d ∷ k) now
  pub shorter : length now < length old

pub started : {d : ℕ} {old now : List Token} {left : Expr} → Reads (IsLevel d) (level_then d) old now (Ok left) → length now < length old → Joined d old now left
started {d} h s = record { is = λ e r t. level h.is t; goes = λ k. h.goes (Tail d ∷ k); shorter = s }

pub operator_opens : {d : ℕ} {now mid : List Token} {o : Bin} → TakesOperator d now mid (Some o) → (k : List Expected) → stuck (Tail d ∷ k) now ≡ stuck (level_then d (Tail d ∷ k)) mid
operator_opens {d} {mid = mid} h k = let t = h.some in ap (stuck (Tail d ∷ k)) t.3 ∙ taken (Tail d) t.0 k t.1 mid (takes_binary t.0 k t.2)

pub joined_on : {d : ℕ} {old now mid new : List Token} {left right : Expr} {o : Bin} → Joined d old now left → TakesOperator d now mid (Some o)
    → Reads (IsLevel d) (level_then d) mid new (Ok right) → length mid < length now → length new < length mid → Joined d old new (expr.Binary o left right)
joined_on {d} {old} {now} {mid} {new} {left} {right} {o} j h r s s' = record {
  is = λ e q t. j.is e q (subst (λ ts. IsTail d left ts e q) (sym h.some.3) (goes_on h.some.2 r.is t));
  goes = λ k. j.goes k ∙ (operator_opens h k ∙ r.goes (Tail d ∷ k));
  shorter = omega (arith, j.shorter);
}

pub all_joined : {d : ℕ} {old now new : List Token} {left : Expr} → Joined d old now left → TakesOperator d now new None → Reads (IsLevel (suc d)) (level_then (suc d)) old new (Ok left)
all_joined {d} {old} {now} {new} {left} j h = record {
  is = j.is left new (subst (λ r. IsTail d left now left r) (sym h.none.0) ended);
  goes = λ k. j.goes k ∙ (h.none.1 k ∙ ap (stuck k) (sym h.none.0));
  sticks = tt;
}

pub lowest : {old new : List Token} (result : Result Expr Stop) → Reads IsFactor (λ k. Factor ∷ k) old new result → Reads (IsLevel 0) (level_then 0) old new result
lowest (Ok e) r = record { is = tightest r.is; goes = r.goes; sticks = tt }
lowest (Err e) r = record { is = tt; goes = tt; sticks = r.sticks }

pub value_plain : {old mid new : List Token} {e : Expr} → Reads (IsLevel 10) (level_then 10) old mid (Ok e) → TakesNone (is_mark mark.Question) mid new → Reads IsExpr value_then old new (Ok e)
value_plain {old} {mid} {new} {e} r h = record {
  is = plain (subst (λ q. IsLevel 10 old e q) (sym h.stays) r.is);
  goes = λ k. r.goes (Choice ∷ k) ∙ left_there Choice refl no_question h k;
  sticks = tt;
}

pub question_opens : {old mid new : List Token} {e : Expr} → Reads (IsLevel 10) (level_then 10) old mid (Ok e) → IsSign mark.Question mid tt new
    → (k : List Expected) → stuck (value_then k) old ≡ stuck (value_then (This mark.Colon ∷ value_then k)) new
question_opens r h k = r.goes (Choice ∷ k) ∙ ap (stuck (Choice ∷ k)) h.1

pub choice_read : {old m m' m'' new : List Token} {c a b : Expr} → Reads (IsLevel 10) (level_then 10) old m (Ok c) → IsSign mark.Question m tt m'
    → Reads (IsExprThen mark.Colon) (λ k. value_then (This mark.Colon ∷ k)) m' m'' (Ok a) → Reads IsExpr value_then m'' new (Ok b) → Reads IsExpr value_then old new (Ok (expr.Choice c a b))
choice_read {old} {c = c} r h f g = record {
  is = choice (subst (λ q. IsLevel 10 old c q) h.1 r.is) f.is.1 g.is;
  goes = λ k. question_opens r h k ∙ (f.goes (value_then k) ∙ g.goes k);
  sticks = tt;
}

pub scalar_read : {old new : List Token} {n : ℕ} → TakesNone (is_mark mark.OpenSquare) old new → Reads (IsBehindName n) (λ k. Subscript ∷ k) old new (Ok (expr.Scalar n))
scalar_read {old} {new} {n} h = record {
  is = λ s. subst (λ r. IsFactor (named n s ∷ r) (expr.Scalar n) new) h.stays a_name;
  goes = left_there Subscript refl no_place h;
  sticks = tt;
}

pub place_opens : {old mid : List Token} → IsSign mark.OpenSquare old tt mid → (k : List Expected) → stuck (Subscript ∷ k) old ≡ stuck (value_then (This mark.CloseSquare ∷ k)) mid
place_opens h k = ap (stuck (Subscript ∷ k)) h.1

pub word_read : {old mid new : List Token} {n : ℕ} {e : Expr} → IsSign mark.OpenSquare old tt mid
    → Reads (IsExprThen mark.CloseSquare) (λ k. value_then (This mark.CloseSquare ∷ k)) mid new (Ok e) → Reads (IsBehindName n) (λ k. Subscript ∷ k) old new (Ok (expr.Word n e))
word_read {old} {mid} {new} {n} {e} h r = record {
  is = λ s. subst (λ ts. IsFactor (named n s ∷ ts) (expr.Word n e) new) (sym h.1) (a_word r.is.1);
  goes = λ k. place_opens h k ∙ r.goes k;
  sticks = tt;
}

pub named_handed : {old mid new : List Token} {n : ℕ} (result : Result Expr Stop) → IsName old n mid → Reads (IsBehindName n) (λ k. Subscript ∷ k) mid new result
    → Reads IsFactor (λ k. Factor ∷ k) old new result
named_handed {old} {mid} {new} {n} result h r =
    handed {Is = IsBehindName n} {Is' = IsFactor} {on = λ k. Subscript ∷ k} {on' = λ k. Factor ∷ k} result
    (λ x is. subst (λ ts. IsFactor ts x new) (sym h.1) (is h.0)) (λ k. k) (λ k. ap (stuck (Factor ∷ k)) h.1) (λ k. refl) r

pub parentheses_handed : {such : Kind → Bool} {old m mid new : List Token} (result : Result Expr Stop) → TakesNone such old m → IsSign mark.OpenRound m tt mid
    → Reads (IsExprThen mark.CloseRound) (λ k. value_then (This mark.CloseRound ∷ k)) mid new result → Reads IsFactor (λ k. Factor ∷ k) old new result
parentheses_handed {old = old} {mid = mid} {new = new} result none h r =
    let at : old ≡ sign mark.OpenRound h.0 ∷ mid = sym none.stays ∙ h.1 in
    handed {Is = IsExprThen mark.CloseRound} {Is' = IsFactor} {on = λ k. value_then (This mark.CloseRound ∷ k)} {on' = λ k. Factor ∷ k} result
    (λ x is. subst (λ ts. IsFactor ts x new) (sym at) (in_parentheses is.1)) (λ k. k) (λ k. ap (stuck (Factor ∷ k)) at) (λ k. refl) r

-- a unary operator, where no name and no parenthesis stands
pub record Signed (old new : List Token) (o : Un) : Type 0 where
  pub m : List Token
  pub mid : List Token
  pub no_name : TakesNone is_name old m
  pub no_opening : TakesNone (is_mark mark.OpenRound) m mid
  pub op : IsUnary mid o new

pub sign_opens : {old new : List Token} {o : Un} → Signed old new o → (k : List Expected) → stuck (Factor ∷ k) old ≡ stuck (Factor ∷ k) new
sign_opens {old} {new} h k =
    let t = h.op in
    ap (stuck (Factor ∷ k)) (sym h.no_name.stays ∙ (sym h.no_opening.stays ∙ t.3)) ∙ taken Factor t.0 k t.1 new (takes_unary t.0 k t.2)

pub signed_read : {old mid new : List Token} {o : Un} {e : Expr} → Signed old mid o → Reads IsFactor (λ k. Factor ∷ k) mid new (Ok e) → Reads IsFactor (λ k. Factor ∷ k) old new (Ok (expr.Unary o e))
signed_read {old} {mid} {new} {o} {e} h r =
    let at = sym h.no_name.stays ∙ (sym h.no_opening.stays ∙ h.op.3) in
    record {
      is = subst (λ ts. IsFactor ts (expr.Unary o e) new) (sym at) (signed h.op.2 r.is);
      goes = λ k. sign_opens h k ∙ r.goes k;
      sticks = tt;
    }

-- no name, no parenthesis and no unary operator stands there
pub record Unsigned (old new : List Token) : Type 0 where
  pub m : List Token
  pub mid : List Token
  pub no_name : TakesNone is_name old m
  pub no_opening : TakesNone (is_mark mark.OpenRound) m mid
  pub no_op : TakesNone (λ t. is_some (unary t)) mid new

same_takes : (t : Kind) (k : List Expected) → is_name t ≡ false → is_mark mark.OpenRound t ≡ false → is_some (unary t) ≡ false → takes Factor t k ≡ takes AnyNumber t k
same_takes (kind.Number n) k a b c = refl
same_takes (kind.Name n) k a b c = cc
same_takes (kind.Keyword w) k a b c = refl
same_takes (kind.Mark mark.OpenRound) k a b c = cc
same_takes (kind.Mark mark.Minus) k a b c = cc
same_takes (kind.Mark mark.Not) k a b c = cc
same_takes (kind.Mark mark.Flip) k a b c = cc
same_takes (kind.Mark m) k a b c = refl

number_at : (ts : List Token) (k : List Expected) → ((t : Token) (r : List Token) → ts ≡ t ∷ r → takes Factor t.kind k ≡ takes AnyNumber t.kind k) → stuck (Factor ∷ k) ts ≡ stuck (AnyNumber ∷ k) ts
number_at [] k h = refl
number_at (t ∷ ts) k h = rw (h t ts refl, stuck) refl

pub number_opens : {old new : List Token} → Unsigned old new → (k : List Expected) → stuck (Factor ∷ k) old ≡ stuck (AnyNumber ∷ k) new
number_opens {old} {new} h k =
    let first : h.m ≡ old = h.no_name.stays in
    let second : h.mid ≡ old = h.no_opening.stays ∙ first in
    let third : new ≡ old = h.no_op.stays ∙ second in
    number_at old k (λ t r o. same_takes t.kind k (h.no_name.other t r o) (h.no_opening.other t r (first ∙ o)) (h.no_op.other t r (second ∙ o))) ∙ ap (stuck (AnyNumber ∷ k)) (sym third)

pub literal_read : {old mid new : List Token} {n : ℕ} → Unsigned old mid → Reads IsNumber (λ k. AnyNumber ∷ k) mid new (Ok n) → Reads IsFactor (λ k. Factor ∷ k) old new (Ok (expr.Number (pos n)))
literal_read {old} {mid} {new} {n} h r =
    let at = sym (h.no_op.stays ∙ (h.no_opening.stays ∙ h.no_name.stays)) ∙ r.is.2 in
    record {
      is = subst (λ ts. IsFactor ts (expr.Number (pos n)) new) (sym at) (a_number r.is.0);
      goes = λ k. number_opens h k ∙ r.goes k;
      sticks = tt;
    }
