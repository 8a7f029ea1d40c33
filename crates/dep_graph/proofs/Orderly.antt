-- What the rules say of an invocation: its variables stay, its step is moderate, and its turns stay inside the arrays.
use Rattle.std.proofs.Common.{◌≡◌, ◌≢◌, ℕ, suc, ◌<◌, ◌≤◌, ◌==◌, ◌&&◌, ◌||◌, nat_lt, if◌then◌else◌, Bool, true, false, IsTrue, Option, Some, None, ◌⊎◌, inl, inr, ℤ, List, [], ◌∷◌, ◌++◌, map, filter, length, refl, sym, ap, ◌∙◌, subst, eq-eqb}
use Rattle.std.specs.Prelude.{IfSome}
use Rattle.std.specs.List.{list_all, flat_map, concat}
use Rattle.std.proofs.lemmas.Bool.{and_parts, ltb-true, ltb-false}
use Rattle.std.proofs.lemmas.Bool.Decides.{eqb_tells}
use Rattle.nest_syntax.specs.declared.names.Line.{Line}
use Rattle.nest_syntax.specs.declared.operators.Op.{Op}
use Rattle.nest_syntax.specs.declared.tree.Expr.{Expr}
use Rattle.nest_syntax.specs.declared.tree.Arm.{Arm}
use Rattle.nest_syntax.specs.declared.tree.Loop.{Loop}
use Rattle.nest_syntax.specs.declared.tree.Stmt.{Stmt}
use Rattle.nest_syntax.specs.declared.tree.Stmt.TheOpen.{Stmt-F}
use Rattle.nest_syntax.specs.declared.tree.Stmt.TheFolds.{fold-roll-Stmt}
use Rattle.nest_syntax.specs.declared.tree.Stmt.TheVariants as stmt
use Rattle.nest_syntax.specs.declared.tree.Stmt.TheVariants.{rolls-If, rolls-Loop}
use Rattle.nest_syntax.specs.declared.tree.Program.{Program}
use Rattle.nest_syntax.specs.Among.{Each, IsOne, is_among}
use Rattle.nest_syntax.specs.Arrays.{arrays_of}
use Rattle.nest_syntax.specs.Inside.{StaysInside}
use Rattle.nest_syntax.specs.Turn.{turn_of}
use Rattle.nest_syntax.specs.Locals.{given, given_in_arm, names_given}
use Rattle.nest_syntax.specs.Lowest.{lines_where}
use Rattle.nest_syntax.specs.Named.{expr_named, loop_named, IsWellNamed}
use Rattle.nest_syntax.specs.Outcome.{body_at}
use Rattle.nest_syntax.specs.Shape.{Entry, Plain, Declares, Invokes, Body, body_of_loop, items, items_in_arm, items_of, invoked_in, invoked_in_region, invoked_by, statements_of_each, bodies_of}
use Rattle.nest_syntax.proofs.Equations.{given-declare, given-assign, given-write, given-if, given-loop, given_in_arm-is, given_in_loop-is}
use Rattle.nest_syntax.proofs.Inductions.{stmt_induction, each_left, each_right, each_both}
use Rattle.nest_syntax.proofs.Shapes.{items-declare, items-assign, items-write, items-if, items-loop, items_in_arm-is}
use Rattle.data_local.specs.Loops.{loops, loops_in, loops_in_arm}
use Rattle.data_local.proofs.Gathers.{loops-declare, loops-assign, loops-write, loops-if, loops-loop, loops_in_arm-is}
use Rattle.nest_check.specs.Kept.{KeepsRules}
use Rattle.nest_check.specs.Parts.{Part, ALoop, Parts_at, all_at, parts, parts_in_arm, parts_in_loop, parts_node, arm_parts_node, loop_parts_node}
use Rattle.nest_check.specs.Rules.{is_outside, has_wrong_step, part_line}
use Rattle.nest_check.specs.Tables.{scalar_of}
use Rattle.nest_check.proofs.Few.{scalar_below}
use Rattle.nest_check.proofs.Inside.{turns_stay_inside}
use Rattle.nest_check.proofs.PartNodes.{parts_in_arm-is, parts_in_loop-is}
use Rattle.bound_names.specs.Uses.{Binder, Invocation, Inside, Declaration, Bindings, binder_of, used_by}
use Rattle.bound_names.specs.Meant.{IsUnbound, IsDeclared, BoundIn, ExprBoundIn, HasMeaning}
use Rattle.bound_names.proofs.Equations.{used-declare, used-assign, used-write, used-if, used-loop}
use Rattle.bound_names.proofs.Meanings.{have_meaning}
use Rattle.bound_names.proofs.Scopes.{named as has_names, named_arm, all_named, named-if, named-loop, named_arm-is, loop_named-is}
use Rattle.bound_names.proofs.Walk.{StmtBoundIn, ArmBoundIn, bound_first, bound_declare, bound_assign, bound_if, bound_loop}
use Rattle.dep_graph.proofs.Locals.{out_both}

-- a loop's variable is a name of the program, and the loop's block neither declares nor assigns it
pub record HoldsItsVariable (program : Program) (l : Loop) : Type 0 where
  pub steady : is_among (names_given true l.body) l.name ≡ false
  pub named : l.name < length program.names

-- An invocation of a program: it and the loops of its body hold their variables, its step is at most 65,536, the scalars
-- of the scheduler have numbers below 32, and its turns stay inside the arrays.
pub record IsOrderly (program : Program) (nest : Loop) : Type 0 where
  pub variables : Each (HoldsItsVariable program) (nest ∷ loops_in nest.body)
  pub step : nest.step ≤ 65536
  pub scalars : (name number : ℕ) → scalar_of program name ≡ Some number → number < 32
  pub inside : (scalars : List ℤ) → StaysInside (arrays_of program.decls) (turn_of (arrays_of program.decls) nest.body scalars)

of_each : {A : Type 0} (P : A → Type 0) (xs : List A) (x : A) → Each P xs → IsOne xs x → P x
of_each P [] x each none = absurd none
of_each P (first ∷ xs) x each (inl same) = subst P (sym same) each.0
of_each P (first ∷ xs) x each (inr there) = of_each P xs x each.1 there

-- a loop binds the name
abbrev IsOfLoop : Option Binder → Type 0
IsOfLoop None = ⊥
IsOfLoop (Some (Invocation l)) = Unit {0}
IsOfLoop (Some (Inside l)) = Unit {0}
IsOfLoop (Some (Declaration line value)) = ⊥

not_unbound : (o : Option Binder) → IsOfLoop o → IsUnbound o → ⊥
not_unbound None of is = of
not_unbound (Some binder) of is = is

not_declared : (o : Option Binder) → IsOfLoop o → IsDeclared o → ⊥
not_declared None of is = of
not_declared (Some (Invocation l)) of is = is
not_declared (Some (Inside l)) of is = is
not_declared (Some (Declaration line value)) of is = of

-- so it isn't another one, which no loop binds
is_other : (P : Option Binder → Type 0) → ((o : Option Binder) → IsOfLoop o → P o → ⊥) → (bindings : Bindings) (name other : ℕ) → IsOfLoop (binder_of bindings name) → P (binder_of bindings other) → (name == other) ≡ false
is_other P clash bindings name other of is = by (eqb_tells name other)
  where
    by : (((name == other) ≡ true) × (name ≡ other)) ⊎ (((name == other) ≡ false) × (name ≢ other)) → (name == other) ≡ false
    by (inl same) = absurd (clash (binder_of bindings other) (subst (λ n. IsOfLoop (binder_of bindings n)) same.1 of) is)
    by (inr apart) = apart.0

-- one more name is bound, another one
still_of_loop : (bindings : Bindings) (name other : ℕ) (binder : Binder) → (name == other) ≡ false → IsOfLoop (binder_of bindings name) → IsOfLoop (binder_of ((other, binder) ∷ bindings) name)
still_of_loop bindings name other binder apart of = subst IsOfLoop (sym (ap (λ b. if b then Some binder else binder_of bindings name) apart)) of

not_among : (name other : ℕ) (rest : List ℕ) → (name == other) ≡ false → is_among rest name ≡ false → is_among (other ∷ rest) name ≡ false
not_among name other rest apart out = ap (λ b. b || is_among rest name) apart ∙ out

module _ (program : Program) (body : Body) where
  -- a name that a loop around binds is given by no statement
  module _ (name : ℕ) where
    abbrev Steady : Stmt → Type 0
    Steady s = (bindings : Bindings) → IsOfLoop (binder_of bindings name) → StmtBoundIn program body bindings s → (is_among (given true s) name ≡ false) × IsOfLoop (binder_of (used_by s bindings).behind name)

    block_steady : (stmts : List Stmt) → Each Steady stmts → (bindings : Bindings) → IsOfLoop (binder_of bindings name) → BoundIn program body bindings stmts → is_among (names_given true stmts) name ≡ false
    block_steady [] each bindings of all = refl
    block_steady (s ∷ stmts) each bindings of all =
        let parts = bound_first program body bindings s stmts all in
        let here = each.0 bindings of parts.0 in
        out_both (given true s) (names_given true stmts) name here.0 (block_steady stmts each.1 (used_by s bindings).behind here.1 parts.1)

    arms_steady : (arms : List Arm) → Each (λ (a : Arm). Each Steady a.body) arms → (bindings : Bindings) → IsOfLoop (binder_of bindings name) → Each (ArmBoundIn program body bindings) arms → is_among (concat (map (given_in_arm true) arms)) name ≡ false
    arms_steady [] each bindings of all = refl
    arms_steady (a ∷ arms) each bindings of all =
        out_both (given_in_arm true a) (concat (map (given_in_arm true) arms)) name
        (ap (λ l. is_among l name) (given_in_arm-is true a) ∙ block_steady a.body each.0 bindings of all.0.1)
        (arms_steady arms each.1 bindings of all.1)

    at_declare : (line : Line) (other : ℕ) (e : Expr) → Steady (stmt.Declare line other e)
    at_declare line other e bindings of all =
        let apart = is_other IsUnbound not_unbound bindings name other of (bound_declare program body bindings line other e all).0 in (
          ap (λ l. is_among l name) (given-declare true line other e) ∙ not_among name other [] apart refl,
          subst (λ u. IsOfLoop (binder_of u name)) (sym (ap (λ u. u.behind) (used-declare bindings line other e))) (still_of_loop bindings name other (Declaration line e) apart of),
        )

    at_assign : (line : Line) (other : ℕ) (o : Op) (e : Expr) → Steady (stmt.Assign line other o e)
    at_assign line other o e bindings of all =
        let apart = is_other IsDeclared not_declared bindings name other of (bound_assign program body bindings line other o e all).0 in (
          ap (λ l. is_among l name) (given-assign true line other o e) ∙ not_among name other [] apart refl,
          subst (λ u. IsOfLoop (binder_of u name)) (sym (ap (λ u. u.behind) (used-assign bindings line other o e))) of,
        )

    at_write : (line : Line) (array : ℕ) (p : Expr) (o : Op) (e : Expr) → Steady (stmt.Write line array p o e)
    at_write line array p o e bindings of all = (ap (λ l. is_among l name) (given-write true line array p o e), subst (λ u. IsOfLoop (binder_of u name)) (sym (ap (λ u. u.behind) (used-write bindings line array p o e))) of)

    at_if : (arms : List Arm) (other : List Stmt) → Each (λ (a : Arm). Each Steady a.body) arms → Each Steady other → Steady (stmt.If arms other)
    at_if arms other in_arms in_other bindings of all =
        let parts = bound_if program body bindings arms other all in (
          ap (λ l. is_among l name) (given-if true arms other)
              ∙ out_both (concat (map (given_in_arm true) arms)) (names_given true other) name (arms_steady arms in_arms bindings of parts.0) (block_steady other in_other bindings of parts.1),
          subst (λ u. IsOfLoop (binder_of u name)) (sym (ap (λ u. u.behind) (used-if bindings arms other))) of,
        )

    at_loop : (l : Loop) → Each Steady l.body → Steady (stmt.Loop l)
    at_loop l inside bindings of all =
        let parts = bound_loop program body bindings l all in
        let apart = is_other IsUnbound not_unbound bindings name l.name of parts.0 in (
          ap (λ g. is_among g name) (given-loop true l ∙ given_in_loop-is true l)
              ∙ not_among name l.name (names_given true l.body) apart (block_steady l.body inside ((l.name, Inside l) ∷ bindings) (still_of_loop bindings name l.name (Inside l) apart of) parts.1.1.1),
          subst (λ u. IsOfLoop (binder_of u name)) (sym (ap (λ u. u.behind) (used-loop bindings l))) of,
        )

    steady_in : (s : Stmt) → Steady s
    steady_in = stmt_induction Steady at_declare at_assign at_write at_if at_loop

    each_steady : (stmts : List Stmt) → Each Steady stmts
    each_steady [] = tt
    each_steady (s ∷ stmts) = (steady_in s, each_steady stmts)

  -- the block of a loop whose variable is bound by it
  loop_steady : (l : Loop) (binder : Binder) → IsOfLoop (Some binder) → (bindings : Bindings) → BoundIn program body ((l.name, binder) ∷ bindings) l.body → is_among (names_given true l.body) l.name ≡ false
  loop_steady l binder of bindings all =
      block_steady l.name l.body (each_steady l.name l.body) ((l.name, binder) ∷ bindings)
      (subst IsOfLoop (sym (ap (λ b. if b then Some binder else binder_of bindings l.name) (eq-eqb l.name l.name refl))) of) all

  abbrev count : ℕ
  count = length program.names

  loop_parts : (l : Loop) → IsTrue (loop_named count l) → (l.name < count) × IsTrue (all_named count l.body)
  loop_parts l names =
      let a = and_parts (nat_lt l.name count) (expr_named count l.low && (expr_named count l.high && all_named count l.body)) (subst IsTrue (loop_named-is count l) names) in
      let b = and_parts (expr_named count l.low) (expr_named count l.high && all_named count l.body) a.1 in
      (ltb-true l.name count a.0, (and_parts (expr_named count l.high) (all_named count l.body) b.1).1)

  -- the loops of a body hold their variables
  abbrev Held : Stmt → Type 0
  Held s = (bindings : Bindings) → StmtBoundIn program body bindings s → IsTrue (has_names count s) → Each (HoldsItsVariable program) (loops s)

  block_held : (stmts : List Stmt) → Each Held stmts → (bindings : Bindings) → BoundIn program body bindings stmts → IsTrue (all_named count stmts) → Each (HoldsItsVariable program) (loops_in stmts)
  block_held [] each bindings all names = tt
  block_held (s ∷ stmts) each bindings all names =
      let parts = bound_first program body bindings s stmts all in
      let ns = and_parts (has_names count s) (all_named count stmts) names in
      each_both (HoldsItsVariable program) (loops s) (loops_in stmts) (each.0 bindings parts.0 ns.0) (block_held stmts each.1 (used_by s bindings).behind parts.1 ns.1)

  arms_held : (arms : List Arm) → Each (λ (a : Arm). Each Held a.body) arms → (bindings : Bindings) → Each (ArmBoundIn program body bindings) arms → IsTrue (list_all (λ a. a) (map (named_arm count) arms)) → Each (HoldsItsVariable program) (flat_map loops_in_arm arms)
  arms_held [] each bindings all names = tt
  arms_held (a ∷ arms) each bindings all names =
      let ns = and_parts (named_arm count a) (list_all (λ a. a) (map (named_arm count) arms)) names in
      let inside = and_parts (expr_named count a.test) (all_named count a.body) (subst IsTrue (named_arm-is count a) ns.0) in
      each_both (HoldsItsVariable program) (loops_in_arm a) (flat_map loops_in_arm arms)
      (subst (Each (HoldsItsVariable program)) (sym (loops_in_arm-is a)) (block_held a.body each.0 bindings all.0.1 inside.1))
      (arms_held arms each.1 bindings all.1 ns.1)

  held_if : (arms : List Arm) (other : List Stmt) → Each (λ (a : Arm). Each Held a.body) arms → Each Held other → Held (stmt.If arms other)
  held_if arms other in_arms in_other bindings all names =
      let parts = bound_if program body bindings arms other all in
      let ns = and_parts (list_all (λ a. a) (map (named_arm count) arms)) (all_named count other) (subst IsTrue (named-if count arms other) names) in
      subst (Each (HoldsItsVariable program)) (sym (loops-if arms other))
      (each_both (HoldsItsVariable program) (flat_map loops_in_arm arms) (loops_in other) (arms_held arms in_arms bindings parts.0 ns.0) (block_held other in_other bindings parts.1 ns.1))

  held_loop : (l : Loop) → Each Held l.body → Held (stmt.Loop l)
  held_loop l inside bindings all names =
      let parts = bound_loop program body bindings l all in
      let ns = loop_parts l (subst IsTrue (named-loop count l) names) in
      subst (Each (HoldsItsVariable program)) (sym (loops-loop l))
      (record { steady = loop_steady l (Inside l) tt bindings parts.1.1.1; named = ns.0 }, block_held l.body inside ((l.name, Inside l) ∷ bindings) parts.1.1.1 ns.1)

  held_in : (s : Stmt) → Held s
  held_in = stmt_induction Held
      (λ line name e bindings all names. subst (Each (HoldsItsVariable program)) (sym (loops-declare line name e)) tt)
      (λ line name o e bindings all names. subst (Each (HoldsItsVariable program)) (sym (loops-assign line name o e)) tt)
      (λ line name p o e bindings all names. subst (Each (HoldsItsVariable program)) (sym (loops-write line name p o e)) tt)
      held_if held_loop

  each_held : (stmts : List Stmt) → Each Held stmts
  each_held [] = tt
  each_held (s ∷ stmts) = (held_in s, each_held stmts)

  -- the loop that invokes the body, and the loops of the body
  variables_held : (l : Loop) (bindings : Bindings) → BoundIn program body ((l.name, Invocation l) ∷ bindings) l.body → IsTrue (loop_named count l) → Each (HoldsItsVariable program) (l ∷ loops_in l.body)
  variables_held l bindings all names =
      let ns = loop_parts l names in
      (record { steady = loop_steady l (Invocation l) tt bindings all; named = ns.0 }, block_held l.body (each_held l.body) ((l.name, Invocation l) ∷ bindings) all ns.1)

-- no line breaks a rule, so no part does
none_where : {A : Type 0} (line : A → Line) (test : A → Bool) (xs : List A) → lines_where line test xs ≡ [] → Each (λ x. test x ≡ false) xs
none_where line test [] e = tt
none_where line test (x ∷ xs) e = by (none_where line test xs) (test x) refl e
  where
    by : (lines_where line test xs ≡ [] → Each (λ x. test x ≡ false) xs) → (b : Bool) → test x ≡ b → map line (if b then x ∷ filter test xs else filter test xs) ≡ [] → (test x ≡ false) × Each (λ x. test x ≡ false) xs
    by go true is e = absurd cc
    by go false is e = (is, go e)

abbrev IsRight : Part → Type 0
IsRight part = has_wrong_step part ≡ false

right_step : (step : ℕ) → is_outside 65536 step ≡ false → step ≤ 65536
right_step step e = by (step == 0) e
  where
    by : (b : Bool) → (b || nat_lt 65536 step) ≡ false → step ≤ 65536
    by true e = absurd cc
    by false e = ltb-false 65536 step e

parts-if : (arms : List Arm) (other : List Stmt) (at : ℕ) → parts (stmt.If arms other) at ≡ all_at (map parts_in_arm arms) at ++ all_at (map parts other) at
parts-if arms other at = ap (λ s. parts s at) (sym (rolls-If arms other)) ∙ ap (λ (p : Parts_at). p at) (fold-roll-Stmt Parts_at Parts_at Parts_at parts_node arm_parts_node loop_parts_node (Stmt-F.If arms other))

parts-loop : (l : Loop) (at : ℕ) → parts (stmt.Loop l) at ≡ parts_in_loop l at
parts-loop l at = ap (λ s. parts s at) (sym (rolls-Loop l)) ∙ ap (λ (p : Parts_at). p at) (fold-roll-Stmt Parts_at Parts_at Parts_at parts_node arm_parts_node loop_parts_node (Stmt-F.Loop l))

-- the loops that invoke bodies are well named, and have moderate steps
module _ (count : ℕ) where
  abbrev HeaderFits : Option Loop → Type 0
  HeaderFits None = Unit {0}
  HeaderFits (Some l) = IsTrue (loop_named count l) × (l.step ≤ 65536)

  abbrev Fits : Body → Type 0
  Fits b = HeaderFits b.header

  invoked-both : (xs ys : List Entry) → Each Fits (invoked_in xs) → Each Fits (invoked_in ys) → Each Fits (invoked_in (xs ++ ys))
  invoked-both [] ys first second = second
  invoked-both (Plain ∷ xs) ys first second = invoked-both xs ys first second
  invoked-both (Declares d ∷ xs) ys first second = invoked-both xs ys first second
  invoked-both (Invokes b ∷ xs) ys first second = (first.0, invoked-both xs ys first.1 second)

  abbrev Invoking : Stmt → Type 0
  Invoking s = IsTrue (has_names count s) → (at : ℕ) → Each IsRight (parts s at) → Each Fits (invoked_in (items s))

  block_invoking : (stmts : List Stmt) → Each Invoking stmts → IsTrue (all_named count stmts) → (at : ℕ) → Each IsRight (all_at (map parts stmts) at) → Each Fits (invoked_in (items_of stmts))
  block_invoking [] each names at right = tt
  block_invoking (s ∷ stmts) each names at right =
      let ns = and_parts (has_names count s) (all_named count stmts) names in
      invoked-both (items s) (items_of stmts) (each.0 ns.0 at (each_left IsRight (parts s at) (all_at (map parts stmts) at) right)) (block_invoking stmts each.1 ns.1 at (each_right IsRight (parts s at) (all_at (map parts stmts) at) right))

  arms_invoking : (arms : List Arm) → Each (λ (a : Arm). Each Invoking a.body) arms → IsTrue (list_all (λ a. a) (map (named_arm count) arms)) → (at : ℕ) → Each IsRight (all_at (map parts_in_arm arms) at) → Each Fits (invoked_in (flat_map items_in_arm arms))
  arms_invoking [] each names at right = tt
  arms_invoking (a ∷ arms) each names at right =
      let ns = and_parts (named_arm count a) (list_all (λ a. a) (map (named_arm count) arms)) names in
      let inside = and_parts (expr_named count a.test) (all_named count a.body) (subst IsTrue (named_arm-is count a) ns.0) in
      let here = subst (Each IsRight) (parts_in_arm-is a at) (each_left IsRight (parts_in_arm a at) (all_at (map parts_in_arm arms) at) right) in
      invoked-both (items_in_arm a) (flat_map items_in_arm arms)
      (subst (λ es. Each Fits (invoked_in es)) (sym (items_in_arm-is a)) (block_invoking a.body each.0 inside.1 at here.1))
      (arms_invoking arms each.1 ns.1 at (each_right IsRight (parts_in_arm a at) (all_at (map parts_in_arm arms) at) right))

  invoking_if : (arms : List Arm) (other : List Stmt) → Each (λ (a : Arm). Each Invoking a.body) arms → Each Invoking other → Invoking (stmt.If arms other)
  invoking_if arms other in_arms in_other names at right =
      let ns = and_parts (list_all (λ a. a) (map (named_arm count) arms)) (all_named count other) (subst IsTrue (named-if count arms other) names) in
      let all = subst (Each IsRight) (parts-if arms other at) right in
      subst (λ es. Each Fits (invoked_in es)) (sym (items-if arms other))
      (invoked-both (flat_map items_in_arm arms) (items_of other)
      (arms_invoking arms in_arms ns.0 at (each_left IsRight (all_at (map parts_in_arm arms) at) (all_at (map parts other) at) all))
      (block_invoking other in_other ns.1 at (each_right IsRight (all_at (map parts_in_arm arms) at) (all_at (map parts other) at) all)))

  invoking_loop : (l : Loop) → Each Invoking l.body → Invoking (stmt.Loop l)
  invoking_loop l inside names at right =
      let here = subst (Each IsRight) (parts-loop l at ∙ parts_in_loop-is l at) right in
      subst (λ es. Each Fits (invoked_in es)) (sym (items-loop l)) ((subst IsTrue (named-loop count l) names, right_step l.step here.0), tt)

  invoking_in : (s : Stmt) → Invoking s
  invoking_in = stmt_induction Invoking
      (λ line name e names at right. subst (λ es. Each Fits (invoked_in es)) (sym (items-declare line name e)) tt)
      (λ line name o e names at right. subst (λ es. Each Fits (invoked_in es)) (sym (items-assign line name o e)) tt)
      (λ line name p o e names at right. subst (λ es. Each Fits (invoked_in es)) (sym (items-write line name p o e)) (tt, tt))
      invoking_if invoking_loop

  each_invoking : (stmts : List Stmt) → Each Invoking stmts
  each_invoking [] = tt
  each_invoking (s ∷ stmts) = (invoking_in s, each_invoking stmts)

  regions_invoking : (regions : List Loop) → IsTrue (list_all (loop_named count) regions) → Each IsRight (all_at (map parts_in_loop regions) 1) → Each Fits (flat_map invoked_in_region regions)
  regions_invoking [] names right = tt
  regions_invoking (l ∷ regions) names right =
      let ns = and_parts (loop_named count l) (list_all (loop_named count) regions) names in
      let a = and_parts (nat_lt l.name count) (expr_named count l.low && (expr_named count l.high && all_named count l.body)) (subst IsTrue (loop_named-is count l) ns.0) in
      let b = and_parts (expr_named count l.low) (expr_named count l.high && all_named count l.body) a.1 in
      let inside = (and_parts (expr_named count l.high) (all_named count l.body) b.1).1 in
      let here = subst (Each IsRight) (parts_in_loop-is l 1) (each_left IsRight (parts_in_loop l 1) (all_at (map parts_in_loop regions) 1) right) in
      each_both Fits (invoked_in_region l) (flat_map invoked_in_region regions)
      (block_invoking l.body (each_invoking l.body) inside 2 here.1.1.1)
      (regions_invoking regions ns.1 (each_right IsRight (parts_in_loop l 1) (all_at (map parts_in_loop regions) 1) right))

-- the number of a body
number_of : (bodies : List Body) (body : Body) → IsOne bodies body → (n : ℕ) × (body_at (statements_of_each bodies) n ≡ body.stmts)
number_of [] body none = absurd none
number_of (first ∷ bodies) body (inl same) = (0, ap (λ (b : Body). b.stmts) (sym same))
number_of (first ∷ bodies) body (inr there) = let found = number_of bodies body there in (suc found.0, found.1)

module _ (program : Program) (well : IsWellNamed program) (keeps : KeepsRules program) (nest : Loop) (invokes : IsOne (invoked_by program) (body_of_loop nest)) where
  scalars_few : (name number : ℕ) → scalar_of program name ≡ Some number → number < 32
  scalars_few name number is = subst (λ o. IfSome o (λ n. n < 32)) is (scalar_below program name keeps)

  pub is_orderly : IsOrderly program nest
  is_orderly =
      let fits : HeaderFits (length program.names) (Some nest) = of_each (Fits (length program.names)) (invoked_by program) (body_of_loop nest) (regions_invoking (length program.names) program.regions well.regions (none_where part_line has_wrong_step (all_at (map parts_in_loop program.regions) 1) keeps.steps)) invokes in
      let bound : HasMeaning program (body_of_loop nest) = of_each (HasMeaning program) (invoked_by program) (body_of_loop nest) (have_meaning program well keeps) invokes in
      let number = number_of (invoked_by program) (body_of_loop nest) invokes in
      record {
        variables = variables_held program (body_of_loop nest) nest [] bound fits.0;
        step = fits.1;
        scalars = scalars_few;
        inside = λ scalars. subst (λ body. StaysInside (arrays_of program.decls) (turn_of (arrays_of program.decls) body scalars)) number.1 (turns_stay_inside program well keeps number.0 scalars);
      }
