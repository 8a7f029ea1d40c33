-- Reading statements, loops and declarations.
use Rattle.std.proofs.Common.{◌≡◌, ℕ, ◌<◌, Bool, true, false, pos, neg_ℤ, Option, Some, None, Result, Ok, Err, IsErrAnd, List, [], ◌∷◌, ◌++◌, length, refl, sym, ◌∙◌, ap, subst, arith, append_assoc}
use Rattle.std.proofs.lemmas.List.{append-nil}
use Rattle.nest_syntax.specs.declared.names.Line.{Line}
use Rattle.nest_syntax.specs.declared.operators.Op.{Op}
use Rattle.nest_syntax.specs.declared.tree.Expr.{Expr}
use Rattle.nest_syntax.specs.declared.tree.Arm.{Arm}
use Rattle.nest_syntax.specs.declared.tree.Stmt.{Stmt}
use Rattle.nest_syntax.specs.declared.tree.Stmt.TheVariants as stmt
use Rattle.nest_syntax.specs.declared.tree.Loop.{Loop}
use Rattle.nest_syntax.specs.declared.tree.Decl.{Decl}
use Rattle.nest_syntax.specs.declared.tree.Decl.TheVariants as decl
use Rattle.nest_lex.specs.declared.token.Spot.{Spot}
use Rattle.nest_lex.specs.declared.token.Keyword.TheVariants as word
use Rattle.nest_lex.specs.declared.token.Mark.TheVariants as mark
use Rattle.nest_lex.specs.declared.token.Kind.{Kind}
use Rattle.nest_lex.specs.declared.token.Kind.TheVariants as kind
use Rattle.nest_lex.specs.declared.token.Token.{Token}
use Rattle.nest_parse.specs.declared.refused.Stop.{Stop}
use Rattle.nest_parse.specs.Grammar.{token, sign, keyword, named, numeral, line, IsExpr, IsLevel, IsStep, behind, before, by, IsStatement, declares, assigns, writes, chooses, IsArm, an_arm, IsElses, no_else, else_if, last_else, IsLoop, a_loop, IsStatements, IsSigned, positive, negative, IsDecl, an_array, a_fixed_array, a_scalar, AreDecls, AreLoops}
use Rattle.nest_parse.specs.Expected.{line_of, Expected, This, Word, ThisName, AnyName, AnyNumber, Subscript, Assigns, Compare, Statements, Elses, BehindElse, LoopName, Step, StepTail, Decls, DeclTail, Signed, Loops, level_then, value_then, block_then, arm_then, header_then, initial_then, assigned_then, test_then, length_then, takes, skips, or_skip, step, stuck, Reads, ReadsNext, ReadsVariable, ReadsProgram, IsSign, IsWord, IsTheName, IsName, IsNumber, IsAssignment, IsComparison, IsExprThen, IsInitial, IsAssigned, IsBlock, IsBehind, IsArmAt, IsTest, IsBehindVariable, IsLength, IsBehindDeclared, IsScalar, TakesNone, is_name, is_mark, is_keyword}
use Rattle.nest_parse.proofs.Complete.{skipped}
use Rattle.nest_parse.proofs.Values.{left_there, no_place, place_opens}

pub initial_read : {old m new : List Token} → IsSign mark.Assign old tt m → (result : Result Expr Stop)
    → ((k : List Expected) → stuck (This mark.Assign ∷ k) old ≡ stuck k m) → Reads (IsExprThen mark.Semicolon) (λ k. value_then (This mark.Semicolon ∷ k)) m new result
    → Reads IsInitial initial_then old new result
initial_read {m = m} h (Ok e) g r = record { is = (h.0, m, r.is.0, h.1, r.is.1); goes = λ k. g (value_then (This mark.Semicolon ∷ k)) ∙ r.goes k; sticks = tt }
initial_read h (Err e) g r = record { is = tt; goes = tt; sticks = λ q k. g (value_then (This mark.Semicolon ∷ k)) ∙ r.sticks q k }

pub test_read : {old a b c new : List Token} {n : ℕ} {through : Bool} {high : Expr} → Reads (IsTheName n) (λ k. ThisName n ∷ k) old a (Ok tt) → Reads IsComparison (λ k. Compare ∷ k) a b (Ok through)
    → Reads (IsLevel 3) (level_then 3) b c (Ok high) → Reads (IsSign mark.Semicolon) (λ k. This mark.Semicolon ∷ k) c new (Ok tt) → Reads (IsTest n) (test_then n) old new (Ok (through, high))
test_read {old} {a} {b} {c} {new} {n} {through} {high} f g h s = record {
  is = record {
    kind_of = g.is.0;
    name_spot = f.is.0;
    spot = g.is.1;
    us = b;
    last = s.is.0;
    compares = g.is.2;
    at = f.is.1 ∙ ap (λ ts. named n f.is.0 ∷ ts) g.is.3;
    high = subst (λ r. IsLevel 3 b high r) s.is.1 h.is;
  };
  goes = λ k. f.goes (Compare ∷ level_then 3 (This mark.Semicolon ∷ k)) ∙ (g.goes (level_then 3 (This mark.Semicolon ∷ k)) ∙ (h.goes (This mark.Semicolon ∷ k) ∙ s.goes k));
  sticks = tt;
}

-- the step of a loop
pub before_opens : {old m : List Token} (n : ℕ) → IsSign mark.Increment old tt m → (k : List Expected) → stuck (Step n ∷ k) old ≡ stuck (ThisName n ∷ k) m
before_opens n h k = ap (stuck (Step n ∷ k)) h.1

pub before_read : {old m new : List Token} {n : ℕ} → IsSign mark.Increment old tt m → Reads (IsTheName n) (λ k. ThisName n ∷ k) m new (Ok tt) → Reads (IsStep n) (λ k. Step n ∷ k) old new (Ok 1)
before_read {old} {m} {new} {n} h r = record {
  is = subst (λ ts. IsStep n ts 1 new) (sym (h.1 ∙ ap (λ ts. sign mark.Increment h.0 ∷ ts) r.is.1)) before;
  goes = λ k. before_opens n h k ∙ r.goes k;
  sticks = tt;
}

step_takes : (t : Kind) (n : ℕ) (k : List Expected) → is_mark mark.Increment t ≡ false → takes (Step n) t k ≡ takes (ThisName n) t (StepTail ∷ k)
step_takes (kind.Mark mark.Increment) n k q = cc
step_takes (kind.Name t) n k q = refl
step_takes (kind.Number t) n k q = refl
step_takes (kind.Keyword t) n k q = refl
step_takes (kind.Mark m) n k q = refl

no_skip : (o a b : Option (List Expected)) → or_skip o false a ≡ or_skip o false b
no_skip None a b = refl
no_skip (Some s) a b = refl

same_stuck : (x y : Expected) (k l : List Expected) (ts : List Token) → skips x ≡ false → skips y ≡ false → ((t : Token) (r : List Token) → ts ≡ t ∷ r → takes x t.kind k ≡ takes y t.kind l)
    → stuck (x ∷ k) ts ≡ stuck (y ∷ l) ts
same_stuck x y k l [] s s' h = rw (s, s', stuck) refl
same_stuck x y k l (t ∷ ts) s s' h = rw (h t ts refl, s, s', no_skip (takes y t.kind l) (step t.kind k) (step t.kind l), stuck) refl

pub name_opens : {old m : List Token} (n : ℕ) → TakesNone (is_mark mark.Increment) old m → (k : List Expected) → stuck (Step n ∷ k) old ≡ stuck (ThisName n ∷ StepTail ∷ k) m
name_opens {old} {m} n h k =
    same_stuck (Step n) (ThisName n) k (StepTail ∷ k) old refl refl (λ t r o. step_takes t.kind n k (h.other t r o)) ∙ ap (stuck (ThisName n ∷ StepTail ∷ k)) (sym h.stays)

pub behind_read : {old m a new : List Token} {n : ℕ} → TakesNone (is_mark mark.Increment) old m → Reads (IsTheName n) (λ k. ThisName n ∷ k) m a (Ok tt) → IsSign mark.Increment a tt new
    → Reads (IsStep n) (λ k. Step n ∷ k) old new (Ok 1)
behind_read {old} {m} {a} {new} {n} h r i =
    let at : old ≡ named n r.is.0 ∷ sign mark.Increment i.0 ∷ new = sym h.stays ∙ (r.is.1 ∙ ap (λ ts. named n r.is.0 ∷ ts) i.1) in
    record {
      is = subst (λ ts. IsStep n ts 1 new) (sym at) behind;
      goes = λ k. name_opens n h k ∙ (r.goes (StepTail ∷ k) ∙ ap (stuck (StepTail ∷ k)) i.1);
      sticks = tt;
    }

tail_takes : (t : Kind) (k : List Expected) → is_mark mark.Increment t ≡ false → takes StepTail t k ≡ takes (This mark.PlusAssign) t (AnyNumber ∷ k)
tail_takes (kind.Mark mark.Increment) k q = cc
tail_takes _ k q = refl

pub sum_opens : {old m a b : List Token} {n : ℕ} → TakesNone (is_mark mark.Increment) old m → Reads (IsTheName n) (λ k. ThisName n ∷ k) m a (Ok tt) → TakesNone (is_mark mark.Increment) a b
    → (k : List Expected) → stuck (Step n ∷ k) old ≡ stuck (This mark.PlusAssign ∷ AnyNumber ∷ k) b
sum_opens {a = a} {n = n} h r i k =
    name_opens n h k ∙ (r.goes (StepTail ∷ k)
    ∙ (same_stuck StepTail (This mark.PlusAssign) k (AnyNumber ∷ k) a refl refl (λ t q o. tail_takes t.kind k (i.other t q o)) ∙ ap (stuck (This mark.PlusAssign ∷ AnyNumber ∷ k)) (sym i.stays)))

pub by_read : {old m a b d new : List Token} {n : ℕ} → TakesNone (is_mark mark.Increment) old m → Reads (IsTheName n) (λ k. ThisName n ∷ k) m a (Ok tt) → TakesNone (is_mark mark.Increment) a b
    → Reads (IsSign mark.PlusAssign) (λ k. This mark.PlusAssign ∷ k) b d (Ok tt) → (result : Result ℕ Stop) → Reads IsNumber (λ k. AnyNumber ∷ k) d new result → Reads (IsStep n) (λ k. Step n ∷ k) old new result
by_read {old} {m} {a} {b} {d} {new} {n} h r i p (Ok c) q =
    let at : old ≡ named n r.is.0 ∷ sign mark.PlusAssign p.is.0 ∷ numeral c q.is.1 ∷ new =
    sym h.stays ∙ (r.is.1 ∙ ap (λ ts. named n r.is.0 ∷ ts) (sym i.stays ∙ (p.is.1 ∙ ap (λ ts. sign mark.PlusAssign p.is.0 ∷ ts) q.is.2))) in
    record {
      is = subst (λ ts. IsStep n ts c new) (sym at) (by q.is.0);
      goes = λ k. sum_opens h r i k ∙ (p.goes (AnyNumber ∷ k) ∙ q.goes k);
      sticks = tt;
    }
by_read h r i p (Err e) q = record { is = tt; goes = tt; sticks = λ f k. sum_opens h r i k ∙ (p.goes (AnyNumber ∷ k) ∙ q.sticks f k) }

-- statements
pub local_read : {old m new : List Token} {n : ℕ} {e : Expr} {on : Line} → Reads IsName (λ k. AnyName ∷ k) old m (Ok n) → Reads IsInitial initial_then m new (Ok e)
    → Reads (IsBehind (keyword word.Long) IsStatement on) (λ k. AnyName ∷ initial_then k) old new (Ok (stmt.Declare on n e))
local_read {old} {m} {new} {n} {e} {on} f g = record {
  is = λ s h. subst (λ l. IsStatement (keyword word.Long s ∷ old) (stmt.Declare l n e) new) (sym h)
      (subst (λ ts. IsStatement (keyword word.Long s ∷ ts) (stmt.Declare (line s) n e) new) (sym (f.is.1 ∙ ap (λ ts. named n f.is.0 ∷ ts) g.is.3)) (declares g.is.4));
  goes = λ k. f.goes (initial_then k) ∙ g.goes k;
  sticks = tt;
}

pub assigned_read : {old m new : List Token} {o : Op} {e : Expr} → Reads IsAssignment (λ k. Assigns ∷ k) old m (Ok o)
    → Reads (IsExprThen mark.Semicolon) (λ k. value_then (This mark.Semicolon ∷ k)) m new (Ok e) → Reads IsAssigned assigned_then old new (Ok (o, e))
assigned_read {m = m} f g = record {
  is = record { kind_of = f.is.0; spot = f.is.1; us = m; last = g.is.0; op = f.is.2; at = f.is.3; value = g.is.1 };
  goes = λ k. f.goes (value_then (This mark.Semicolon ∷ k)) ∙ g.goes k;
  sticks = tt;
}

pub assign_read : {old m new : List Token} {n : ℕ} {o : Op} {e : Expr} {on : Line} → TakesNone (is_mark mark.OpenSquare) old m → Reads IsAssigned assigned_then m new (Ok (o, e))
    → Reads (IsBehind (named n) IsStatement on) (λ k. Subscript ∷ assigned_then k) old new (Ok (stmt.Assign on n o e))
assign_read {old} {m} {new} {n} {o} {e} {on} h r = record {
  is = λ s q. subst (λ l. IsStatement (named n s ∷ old) (stmt.Assign l n o e) new) (sym q)
      (subst (λ ts. IsStatement (named n s ∷ ts) (stmt.Assign (line s) n o e) new) (sym (sym h.stays ∙ r.is.at)) (assigns r.is.op r.is.value));
  goes = λ k. left_there Subscript refl no_place h (assigned_then k) ∙ r.goes k;
  sticks = tt;
}

pub write_read : {old m a new : List Token} {n : ℕ} {o : Op} {place e : Expr} {on : Line} → IsSign mark.OpenSquare old tt m
    → Reads (IsExprThen mark.CloseSquare) (λ k. value_then (This mark.CloseSquare ∷ k)) m a (Ok place) → Reads IsAssigned assigned_then a new (Ok (o, e))
    → Reads (IsBehind (named n) IsStatement on) (λ k. Subscript ∷ assigned_then k) old new (Ok (stmt.Write on n place o e))
write_read {old} {m} {a} {new} {n} {o} {place} {e} {on} h p r = record {
  is = λ s q. subst (λ l. IsStatement (named n s ∷ old) (stmt.Write l n place o e) new) (sym q)
      (subst (λ ts. IsStatement (named n s ∷ ts) (stmt.Write (line s) n place o e) new) (sym h.1)
      (writes (subst (λ ts. IsExpr m place (sign mark.CloseSquare p.is.0 ∷ ts)) r.is.at p.is.1) r.is.op r.is.value));
  goes = λ k. place_opens h (assigned_then k) ∙ (p.goes (assigned_then k) ∙ r.goes k);
  sticks = tt;
}

pub block_read : {old m a new : List Token} {xs : List Stmt} → Reads (IsSign mark.OpenCurly) (λ k. This mark.OpenCurly ∷ k) old m (Ok tt) → Reads IsStatements (λ k. Statements ∷ k) m a (Ok xs)
    → Reads (IsSign mark.CloseCurly) (λ k. This mark.CloseCurly ∷ k) a new (Ok tt) → Reads IsBlock block_then old new (Ok xs)
block_read {old} {m} {a} {new} {xs} f g h = record {
  is = record { first = f.is.0; us = m; last = h.is.0; at = f.is.1; body_is = subst (λ r. IsStatements m xs r) h.is.1 g.is };
  goes = λ k. f.goes (Statements ∷ This mark.CloseCurly ∷ k) ∙ (g.goes (This mark.CloseCurly ∷ k) ∙ h.goes k);
  sticks = tt;
}

pub arm_read : {old m a new : List Token} {e : Expr} {body : List Stmt} {on : Line} → Reads (IsSign mark.OpenRound) (λ k. This mark.OpenRound ∷ k) old m (Ok tt)
    → Reads (IsExprThen mark.CloseRound) (λ k. value_then (This mark.CloseRound ∷ k)) m a (Ok e) → Reads IsBlock block_then a new (Ok body)
    → Reads (IsArmAt on) arm_then old new (Ok (record { line = on; test = e; body = body }))
arm_read {old} {m} {a} {new} {e} {body} {on} f p b = record {
  is = λ s h. subst (λ l. IsArm s old (record { line = l; test = e; body = body }) new) (sym h)
      (subst (λ ts. IsArm s ts (record { line = line s; test = e; body = body }) new) (sym f.is.1)
      (an_arm (subst (λ ts. IsExpr m e (sign mark.CloseRound p.is.0 ∷ ts)) b.is.at p.is.1) b.is.body_is));
  goes = λ k. f.goes (value_then (This mark.CloseRound ∷ block_then k)) ∙ (p.goes (block_then k) ∙ b.goes k);
  sticks = tt;
}

-- arms are read, and whatever goes on at `now` goes on with them
pub record Armed (on : Line) (old now : List Token) (arms : List Arm) : Type 0 where
  pub is : (s : Spot) → on ≡ line s → (more : List Arm) (other : List Stmt) (r : List Token) → IsElses now more other r
      → IsStatement (keyword word.If s ∷ old) (stmt.If (arms ++ more) other) r
  pub goes : (k : List Expected) → stuck (arm_then (Elses ∷ k)) old ≡ stuck (Elses ∷ k) now
  pub shorter : length now < length old

pub armed : {on : Line} {old now : List Token} {first : Arm} {none arms : List Arm} → Reads (IsArmAt on) arm_then old now (Ok first) → length now < length old → none ≡ [] → arms ≡ none ++ first ∷ []
    → Armed on old now arms
armed {on} {old} {now} {first} {none} {arms} r s z e = record {
  is = λ s h more other q x. subst (λ xs. IsStatement (keyword word.If s ∷ old) (stmt.If (xs ++ more) other) q) (sym (e ∙ ap (λ xs. xs ++ first ∷ []) z)) (chooses (r.is s h) x);
  goes = λ k. r.goes (Elses ∷ k);
  shorter = s;
}

pub else_if_opens : {on : Line} {old now a b : List Token} {arms : List Arm} → Armed on old now arms → IsWord word.Else now tt a → IsWord word.If a tt b
    → (k : List Expected) → stuck (arm_then (Elses ∷ k)) old ≡ stuck (arm_then (Elses ∷ k)) b
else_if_opens j e i k = j.goes k ∙ (ap (stuck (Elses ∷ k)) e.1 ∙ ap (stuck (BehindElse ∷ k)) i.1)

on_line : {old m : List Token} {on : Line} {t : Kind} {s : Spot} → old ≡ token t s ∷ m → on ≡ line_of old → on ≡ line s
on_line {old} {m} {on} {t} {s} e h = h ∙ ap line_of e

pub armed_on : {on here : Line} {old now a b new : List Token} {arms arms' : List Arm} {x : Arm} → Armed on old now arms → IsWord word.Else now tt a → here ≡ line_of a → IsWord word.If a tt b
    → Reads (IsArmAt here) arm_then b new (Ok x) → length new < length now → arms' ≡ arms ++ x ∷ [] → Armed on old new arms'
armed_on {on} {here} {old} {now} {a} {b} {new} {arms} {arms'} {x} j e h i r s g = record {
  is = λ s q more other t y.
      let next : IsElses now (x ∷ more) other t = subst (λ ts. IsElses ts (x ∷ more) other t) (sym (e.1 ∙ ap (λ ts. keyword word.Else e.0 ∷ ts) i.1)) (else_if (r.is i.0 (on_line i.1 h)) y) in
      subst (λ xs. IsStatement (keyword word.If s ∷ old) (stmt.If xs other) t) (sym (ap (λ xs. xs ++ more) g ∙ append_assoc arms (x ∷ []) more)) (j.is s q (x ∷ more) other t next);
  goes = λ k. else_if_opens j e i k ∙ r.goes (Elses ∷ k);
  shorter = omega (arith, j.shorter);
}

else_takes : (t : Kind) (k : List Expected) → is_keyword word.If t ≡ false → takes BehindElse t k ≡ takes (This mark.OpenCurly) t (Statements ∷ This mark.CloseCurly ∷ k)
else_takes (kind.Keyword word.If) k q = cc
else_takes (kind.Mark mark.OpenCurly) k q = refl
else_takes _ k q = refl

pub else_opens : {on : Line} {old now a b : List Token} {arms : List Arm} → Armed on old now arms → IsWord word.Else now tt a → TakesNone (is_keyword word.If) a b
    → (k : List Expected) → stuck (arm_then (Elses ∷ k)) old ≡ stuck (block_then k) b
else_opens {a = a} j e i k =
    j.goes k ∙ (ap (stuck (Elses ∷ k)) e.1
    ∙ (same_stuck BehindElse (This mark.OpenCurly) k (Statements ∷ This mark.CloseCurly ∷ k) a refl refl (λ t r o. else_takes t.kind k (i.other t r o)) ∙ ap (stuck (block_then k)) (sym i.stays)))

pub else_read : {on : Line} {old now a b new : List Token} {arms : List Arm} {other : List Stmt} → Armed on old now arms → IsWord word.Else now tt a → TakesNone (is_keyword word.If) a b
    → Reads IsBlock block_then b new (Ok other) → Reads (IsBehind (keyword word.If) IsStatement on) (λ k. arm_then (Elses ∷ k)) old new (Ok (stmt.If arms other))
else_read {on} {old} {now} {a} {b} {new} {arms} {other} j e i r = record {
  is = λ s h.
      let last : IsElses now [] other new = subst (λ ts. IsElses ts [] other new) (sym (e.1 ∙ ap (λ ts. keyword word.Else e.0 ∷ ts) (sym i.stays ∙ r.is.at))) (last_else r.is.body_is) in
      subst (λ xs. IsStatement (keyword word.If s ∷ old) (stmt.If xs other) new) (append-nil arms) (j.is s h [] other new last);
  goes = λ k. else_opens j e i k ∙ r.goes k;
  sticks = tt;
}

no_else_takes : (t : Kind) (k : List Expected) → is_keyword word.Else t ≡ false → takes Elses t k ≡ None
no_else_takes (kind.Keyword word.Else) k q = cc
no_else_takes _ k q = refl

pub branch_read : {on : Line} {old now new : List Token} {arms : List Arm} → Armed on old now arms → TakesNone (is_keyword word.Else) now new
    → Reads (IsBehind (keyword word.If) IsStatement on) (λ k. arm_then (Elses ∷ k)) old new (Ok (stmt.If arms []))
branch_read {on} {old} {now} {new} {arms} j i = record {
  is = λ s h. subst (λ xs. IsStatement (keyword word.If s ∷ old) (stmt.If xs []) new) (append-nil arms) (j.is s h [] [] new (subst (λ ts. IsElses ts [] [] new) i.stays no_else));
  goes = λ k. j.goes k ∙ left_there Elses refl no_else_takes i k;
  sticks = tt;
}

-- loops
pub variable_stopped : {old new : List Token} {e : Stop} → ReadsVariable old new (Err e) → Reads IsName (λ k. LoopName ∷ k) old new (Err e)
variable_stopped r = record { is = tt; goes = tt; sticks = r.sticks }

pub turns_read : {old a b c new : List Token} {n : ℕ} {on : Line} → Reads (IsSign mark.OpenRound) (λ k. This mark.OpenRound ∷ k) old a (Ok tt) → Reads (IsWord word.Long) (λ k. Word word.Long ∷ k) a b (Ok tt)
    → ReadsVariable b c (Ok n) → (result : Result Loop Stop) → Reads (IsBehindVariable on n) (header_then n) c new result
    → Reads (IsBehind (keyword word.For) IsLoop on) (λ k. This mark.OpenRound ∷ Word word.Long ∷ LoopName ∷ k) old new result
turns_read {old} {a} {b} {c} {new} {n} {on} f g v (Ok x) r = record {
  is = λ s h. subst (λ ts. IsLoop (keyword word.For s ∷ ts) x new)
      (sym (f.is.1 ∙ ap (λ ts. sign mark.OpenRound f.is.0 ∷ ts) (g.is.1 ∙ ap (λ ts. keyword word.Long g.is.0 ∷ ts) v.is.1))) (r.is s f.is.0 g.is.0 v.is.0 h);
  goes = λ k. f.goes (Word word.Long ∷ LoopName ∷ k) ∙ (g.goes (LoopName ∷ k) ∙ (v.goes k ∙ r.goes k));
  sticks = tt;
}
turns_read f g v (Err e) r = record { is = tt; goes = tt; sticks = λ q k. f.goes (Word word.Long ∷ LoopName ∷ k) ∙ (g.goes (LoopName ∷ k) ∙ (v.goes k ∙ r.sticks q k)) }

pub turned_read : {old a b c d new : List Token} {n st : ℕ} {through : Bool} {low high : Expr} {body : List Stmt} {on : Line} → Reads IsInitial initial_then old a (Ok low)
    → Reads (IsTest n) (test_then n) a b (Ok (through, high)) → Reads (IsStep n) (λ k. Step n ∷ k) b c (Ok st) → Reads (IsSign mark.CloseRound) (λ k. This mark.CloseRound ∷ k) c d (Ok tt)
    → Reads IsBlock block_then d new (Ok body)
    → Reads (IsBehindVariable on n) (header_then n) old new (Ok (record { line = on; name = n; low = low; high = high; through = through; step = st; body = body }))
turned_read {old} {a} {b} {c} {d} {new} {n} {st} {through} {low} {high} {body} {on} i t p q r = record {
  is = λ s s1 s2 s3 h.
      let first = subst (λ ts. IsExpr i.is.1 low (sign mark.Semicolon i.is.2 ∷ ts)) t.is.at i.is.4 in
      let behind_step = q.is.1 ∙ ap (λ ts. sign mark.CloseRound q.is.0 ∷ ts) r.is.at in
      let made = a_loop {s = s} {s1 = s1} {s2 = s2} {s3 = s3} {s4 = i.is.0} first t.is.compares t.is.high (subst (λ ts. IsStep n b st ts) behind_step p.is) r.is.body_is in
      subst (λ l. IsLoop (keyword word.For s ∷ sign mark.OpenRound s1 ∷ keyword word.Long s2 ∷ named n s3 ∷ old) (record { line = l; name = n; low = low; high = high; through = through; step = st; body = body }) new) (sym h)
      (subst (λ ts. IsLoop (keyword word.For s ∷ sign mark.OpenRound s1 ∷ keyword word.Long s2 ∷ named n s3 ∷ ts) (record { line = line s; name = n; low = low; high = high; through = through; step = st; body = body }) new) (sym i.is.3) made);
  goes = λ k. i.goes (test_then n (Step n ∷ This mark.CloseRound ∷ block_then k)) ∙ (t.goes (Step n ∷ This mark.CloseRound ∷ block_then k) ∙ (p.goes (This mark.CloseRound ∷ block_then k) ∙ (q.goes (block_then k) ∙ r.goes k)));
  sticks = tt;
}

-- the next of many things, behind the token that begins it
pub next_read : {X Y : Type 0} {Is : List Token → X → List Token → Type 0} {Is' : List Token → Y → List Token → Type 0} {t : Kind} {s : Spot} {on : Line} {x : Expected} {old m new : List Token} {v : Y}
    (items : List Expected → List Expected) (wrap : Y → X) → old ≡ token t s ∷ m → on ≡ line_of old → ((k : List Expected) → stuck (x ∷ k) (token t s ∷ m) ≡ stuck (items (x ∷ k)) m)
    → ((ts r : List Token) (y : Y) → Is' ts y r → Is ts (wrap y) r)
    → Reads (IsBehind (token t) Is' on) items m new (Ok v) → ReadsNext Is x old new (Ok (Some (wrap v)))
next_read {Is = Is} {Is' = Is'} {t = t} {s = s} {x = x} {old = old} {m = m} {new = new} {v = v} items wrap e h opens whole r = record {
  is = subst (λ ts. Is ts (wrap v) new) (sym e) (whole (token t s ∷ m) new v (r.is s (on_line e h)));
  goes = λ k. ap (stuck (x ∷ k)) e ∙ (opens k ∙ r.goes (x ∷ k));
  sticks = tt;
}

pub next_stopped : {X Y : Type 0} {Is : List Token → X → List Token → Type 0} {Is' : List Token → Y → List Token → Type 0} {t : Kind} {s : Spot} {x : Expected} {old m new : List Token} {e : Stop}
    (items : List Expected → List Expected) (result : Result (Option X) Stop) → IsErrAnd result (λ f. f ≡ e) → old ≡ token t s ∷ m
    → ((k : List Expected) → stuck (x ∷ k) (token t s ∷ m) ≡ stuck (items (x ∷ k)) m) → Reads Is' items m new (Err e) → ReadsNext Is x old new result
next_stopped items (Ok v) h o opens r = absurd h
next_stopped {x = x} items (Err f) h o opens r = record { is = tt; goes = tt; sticks = λ q k. ap (stuck (x ∷ k)) o ∙ (opens k ∙ r.sticks (sym h ∙ q) (x ∷ k)) }

no_statement_takes : (t : Kind) (k : List Expected) → is_keyword word.Long t ≡ false → is_name t ≡ false → is_keyword word.If t ≡ false → is_keyword word.For t ≡ false → takes Statements t k ≡ None
no_statement_takes (kind.Keyword word.Long) k a b c d = cc
no_statement_takes (kind.Keyword word.If) k a b c d = cc
no_statement_takes (kind.Keyword word.For) k a b c d = cc
no_statement_takes (kind.Name n) k a b c d = cc
no_statement_takes _ k a b c d = refl

pub none_next : {Is : List Token → Stmt → List Token → Type 0} {old a b c new : List Token} → TakesNone (is_keyword word.Long) old a → TakesNone is_name a b → TakesNone (is_keyword word.If) b c
    → TakesNone (is_keyword word.For) c new → ReadsNext Is Statements old new (Ok None)
none_next {old = old} f g h i =
    let first = f.stays in
    let second = g.stays ∙ first in
    let third = h.stays ∙ second in
    record {
      is = tt;
      goes = (i.stays ∙ third, λ k. skipped Statements k old refl (λ t r o. no_statement_takes t.kind k (f.other t r o) (g.other t r (first ∙ o)) (h.other t r (second ∙ o)) (i.other t r (third ∙ o))));
      sticks = tt;
    }

no_region_takes : (t : Kind) (k : List Expected) → is_keyword word.For t ≡ false → takes Loops t k ≡ None
no_region_takes (kind.Keyword word.For) k q = cc
no_region_takes _ k q = refl

pub no_region : {Is : List Token → Loop → List Token → Type 0} {old new : List Token} → TakesNone (is_keyword word.For) old new → ReadsNext Is Loops old new (Ok None)
no_region {old = old} h = record { is = tt; goes = (h.stays, λ k. skipped Loops k old refl (λ t r o. no_region_takes t.kind k (h.other t r o))); sticks = tt }

-- declarations
pub length_read : {old a b new : List Token} {n : ℕ} → Reads IsNumber (λ k. AnyNumber ∷ k) old a (Ok n) → Reads (IsSign mark.CloseSquare) (λ k. This mark.CloseSquare ∷ k) a b (Ok tt)
    → Reads (IsSign mark.Semicolon) (λ k. This mark.Semicolon ∷ k) b new (Ok tt) → Reads IsLength length_then old new (Ok n)
length_read {n = n} f g h = record {
  is = record { spot = f.is.1; middle = g.is.0; last = h.is.0; small = f.is.0; at = f.is.2 ∙ ap (λ ts. numeral n f.is.1 ∷ ts) (g.is.1 ∙ ap (λ ts. sign mark.CloseSquare g.is.0 ∷ ts) h.is.1) };
  goes = λ k. f.goes (This mark.CloseSquare ∷ This mark.Semicolon ∷ k) ∙ (g.goes (This mark.Semicolon ∷ k) ∙ h.goes k);
  sticks = tt;
}

pub fixed_read : {old a b c new : List Token} {n l : ℕ} {on : Line} → Reads (IsWord word.Long) (λ k. Word word.Long ∷ k) old a (Ok tt) → Reads IsName (λ k. AnyName ∷ k) a b (Ok n)
    → Reads (IsSign mark.OpenSquare) (λ k. This mark.OpenSquare ∷ k) b c (Ok tt) → Reads IsLength length_then c new (Ok l)
    → Reads (IsBehind (keyword word.Const) IsDecl on) (λ k. Word word.Long ∷ AnyName ∷ This mark.OpenSquare ∷ length_then k) old new (Ok (decl.Array on n l true))
fixed_read {old} {a} {b} {c} {new} {n} {l} {on} f g h r = record {
  is = λ s q. subst (λ o. IsDecl (keyword word.Const s ∷ old) (decl.Array o n l true) new) (sym q)
      (subst (λ ts. IsDecl (keyword word.Const s ∷ ts) (decl.Array (line s) n l true) new)
      (sym (f.is.1 ∙ ap (λ ts. keyword word.Long f.is.0 ∷ ts) (g.is.1 ∙ ap (λ ts. named n g.is.0 ∷ ts) (h.is.1 ∙ ap (λ ts. sign mark.OpenSquare h.is.0 ∷ ts) r.is.at)))) (a_fixed_array r.is.small));
  goes = λ k. f.goes (AnyName ∷ This mark.OpenSquare ∷ length_then k) ∙ (g.goes (This mark.OpenSquare ∷ length_then k) ∙ (h.goes (length_then k) ∙ r.goes k));
  sticks = tt;
}

pub array_opens : {old m : List Token} → IsSign mark.OpenSquare old tt m → (k : List Expected) → stuck (DeclTail ∷ k) old ≡ stuck (length_then k) m
array_opens h k = ap (stuck (DeclTail ∷ k)) h.1

pub array_read : {old m new : List Token} {n l : ℕ} {on : Line} → IsSign mark.OpenSquare old tt m → Reads IsLength length_then m new (Ok l)
    → Reads (IsBehindDeclared on n) (λ k. DeclTail ∷ k) old new (Ok (decl.Array on n l false))
array_read {old} {m} {new} {n} {l} {on} h r = record {
  is = λ s s1 q. subst (λ o. IsDecl (keyword word.Long s ∷ named n s1 ∷ old) (decl.Array o n l false) new) (sym q)
      (subst (λ ts. IsDecl (keyword word.Long s ∷ named n s1 ∷ ts) (decl.Array (line s) n l false) new) (sym (h.1 ∙ ap (λ ts. sign mark.OpenSquare h.0 ∷ ts) r.is.at)) (an_array r.is.small));
  goes = λ k. array_opens h k ∙ r.goes k;
  sticks = tt;
}

declared_takes : (t : Kind) (k : List Expected) → is_mark mark.OpenSquare t ≡ false → takes DeclTail t k ≡ takes (This mark.Assign) t (Signed ∷ This mark.Semicolon ∷ k)
declared_takes (kind.Mark mark.OpenSquare) k q = cc
declared_takes _ k q = refl

pub scalar_opens : {old m : List Token} → TakesNone (is_mark mark.OpenSquare) old m → (k : List Expected) → stuck (DeclTail ∷ k) old ≡ stuck (This mark.Assign ∷ Signed ∷ This mark.Semicolon ∷ k) m
scalar_opens {old} h k =
    same_stuck DeclTail (This mark.Assign) k (Signed ∷ This mark.Semicolon ∷ k) old refl refl (λ t r o. declared_takes t.kind k (h.other t r o))
    ∙ ap (stuck (This mark.Assign ∷ Signed ∷ This mark.Semicolon ∷ k)) (sym h.stays)

pub declared_read : {old m a b new : List Token} {n : ℕ} {x : Decl} {on : Line} → TakesNone (is_mark mark.OpenSquare) old m → Reads (IsSign mark.Assign) (λ k. This mark.Assign ∷ k) m a (Ok tt)
    → Reads (IsScalar on n) (λ k. Signed ∷ k) a b (Ok x) → Reads (IsSign mark.Semicolon) (λ k. This mark.Semicolon ∷ k) b new (Ok tt)
    → Reads (IsBehindDeclared on n) (λ k. DeclTail ∷ k) old new (Ok x)
declared_read {old} {m} {a} {b} {new} {n} {x} {on} h f g e = record {
  is = λ s s1 q.
      let made = a_scalar {n = n} {s = s} {s1 = s1} {s2 = f.is.0} (subst (λ r. IsSigned a g.is.0 r) e.is.1 g.is.1) in
      let same : decl.Scalar (line s) n g.is.0 ≡ x = ap (λ o. decl.Scalar o n g.is.0) (sym q) ∙ sym g.is.2 in
      subst (λ y. IsDecl (keyword word.Long s ∷ named n s1 ∷ old) y new) same
      (subst (λ ts. IsDecl (keyword word.Long s ∷ named n s1 ∷ ts) (decl.Scalar (line s) n g.is.0) new) (sym (sym h.stays ∙ f.is.1)) made);
  goes = λ k. scalar_opens h k ∙ (f.goes (Signed ∷ This mark.Semicolon ∷ k) ∙ (g.goes (This mark.Semicolon ∷ k) ∙ e.goes k));
  sticks = tt;
}

pub minus_opens : {old m : List Token} → IsSign mark.Minus old tt m → (k : List Expected) → stuck (Signed ∷ k) old ≡ stuck (AnyNumber ∷ k) m
minus_opens h k = ap (stuck (Signed ∷ k)) h.1

pub negative_read : {old m new : List Token} {n c : ℕ} {on : Line} → IsSign mark.Minus old tt m → Reads IsNumber (λ k. AnyNumber ∷ k) m new (Ok c)
    → Reads (IsScalar on n) (λ k. Signed ∷ k) old new (Ok (decl.Scalar on n (neg_ℤ (pos c))))
negative_read {old} {m} {new} {n} {c} {on} h r = record {
  is = (neg_ℤ (pos c), subst (λ ts. IsSigned ts (neg_ℤ (pos c)) new) (sym (h.1 ∙ ap (λ ts. sign mark.Minus h.0 ∷ ts) r.is.2)) (negative r.is.0), refl);
  goes = λ k. minus_opens h k ∙ r.goes k;
  sticks = tt;
}

signed_takes : (t : Kind) (k : List Expected) → is_mark mark.Minus t ≡ false → takes Signed t k ≡ takes AnyNumber t k
signed_takes (kind.Mark mark.Minus) k q = cc
signed_takes _ k q = refl

pub number_there : {old m : List Token} → TakesNone (is_mark mark.Minus) old m → (k : List Expected) → stuck (Signed ∷ k) old ≡ stuck (AnyNumber ∷ k) m
number_there {old} h k = same_stuck Signed AnyNumber k k old refl refl (λ t r o. signed_takes t.kind k (h.other t r o)) ∙ ap (stuck (AnyNumber ∷ k)) (sym h.stays)

pub positive_read : {old m new : List Token} {n c : ℕ} {on : Line} → TakesNone (is_mark mark.Minus) old m → Reads IsNumber (λ k. AnyNumber ∷ k) m new (Ok c)
    → Reads (IsScalar on n) (λ k. Signed ∷ k) old new (Ok (decl.Scalar on n (pos c)))
positive_read {old} {m} {new} {n} {c} {on} h r = record {
  is = (pos c, subst (λ ts. IsSigned ts (pos c) new) (sym (sym h.stays ∙ r.is.2)) (positive r.is.0), refl);
  goes = λ k. number_there h k ∙ r.goes k;
  sticks = tt;
}

no_decl_takes : (t : Kind) (k : List Expected) → is_keyword word.Const t ≡ false → is_keyword word.Long t ≡ false → takes Decls t k ≡ None
no_decl_takes (kind.Keyword word.Const) k a b = cc
no_decl_takes (kind.Keyword word.Long) k a b = cc
no_decl_takes _ k a b = refl

pub no_declaration : {Is : List Token → Decl → List Token → Type 0} {old a new : List Token} → TakesNone (is_keyword word.Const) old a → TakesNone (is_keyword word.Long) a new → ReadsNext Is Decls old new (Ok None)
no_declaration {old = old} f g =
    record { is = tt; goes = (g.stays ∙ f.stays, λ k. skipped Decls k old refl (λ t r o. no_decl_takes t.kind k (f.other t r o) (g.other t r (f.stays ∙ o)))); sticks = tt }

-- behind a `long` and a name
pub declaration_read : {old m a new : List Token} {s : Spot} {n : ℕ} {x : Decl} {on : Line} → old ≡ keyword word.Long s ∷ m → on ≡ line_of old → Reads IsName (λ k. AnyName ∷ k) m a (Ok n)
    → Reads (IsBehindDeclared on n) (λ k. DeclTail ∷ k) a new (Ok x) → ReadsNext IsDecl Decls old new (Ok (Some x))
declaration_read {old} {m} {a} {new} {s} {n} {x} {on} e h f r = record {
  is = subst (λ ts. IsDecl ts x new) (sym (e ∙ ap (λ ts. keyword word.Long s ∷ ts) f.is.1)) (r.is s f.is.0 (on_line e h));
  goes = λ k. ap (stuck (Decls ∷ k)) e ∙ (f.goes (DeclTail ∷ Decls ∷ k) ∙ r.goes (Decls ∷ k));
  sticks = tt;
}

-- the whole
pub program_read : {old m new : List Token} {ds : List Decl} {ls : List Loop} → Reads AreDecls (λ k. Decls ∷ k) old m (Ok ds) → Reads AreLoops (λ k. Loops ∷ k) m new (Ok ls) → new ≡ []
    → ReadsProgram old new (Ok (ds, ls))
program_read {m = m} {ls = ls} f g e = record { is = record { middle = m; declared = f.is; looped = subst (λ r. AreLoops m ls r) e g.is }; sticks = tt }

stays_stuck : (new : List Token) → (new ≡ [] → ⊥) → stuck [] new ≡ Some new
stays_stuck [] h = absurd (h refl)
stays_stuck (t ∷ ts) h = refl

pub more_follows : {old m new : List Token} {ds : List Decl} {ls : List Loop} {e : Stop} → Reads AreDecls (λ k. Decls ∷ k) old m (Ok ds) → Reads AreLoops (λ k. Loops ∷ k) m new (Ok ls) → (new ≡ [] → ⊥)
    → ReadsProgram old new (Err e)
more_follows {new = new} f g h = record { is = tt; sticks = λ q. f.goes (Loops ∷ []) ∙ (g.goes [] ∙ stays_stuck new h) }
