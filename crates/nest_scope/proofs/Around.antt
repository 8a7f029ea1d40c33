-- The scopes from which bodies are entered: what holds of the scope behind the declarations, and stays so where the
-- scheduler declares a name, holds of the scope around each body.
use Rattle.std.proofs.Common.{◌≡◌, ℕ, true, List, [], ◌∷◌, ◌++◌, map, refl, sym, ap, subst}
use Rattle.std.specs.List.{flat_map}
use Rattle.nest_syntax.specs.declared.names.Line.{Line}
use Rattle.nest_syntax.specs.declared.operators.Op.{Op}
use Rattle.nest_syntax.specs.declared.tree.Expr.{Expr}
use Rattle.nest_syntax.specs.declared.tree.Arm.{Arm}
use Rattle.nest_syntax.specs.declared.tree.Loop.{Loop}
use Rattle.nest_syntax.specs.declared.tree.Stmt.{Stmt}
use Rattle.nest_syntax.specs.declared.tree.Stmt.TheVariants as stmt
use Rattle.nest_syntax.specs.declared.tree.Program.{Program}
use Rattle.nest_syntax.specs.Among.{Each}
use Rattle.nest_syntax.specs.Shape.{Declaration, Entry, Plain, Declares, Invokes, body_of_loop, body_of_write, items, items_in_arm, items_of, declarations_in}
use Rattle.nest_syntax.proofs.Shapes.{items-declare, items-if, items_in_arm-is}
use Rattle.nest_syntax.proofs.Inductions.{stmt_induction, each_left, each_right, each_both}
use Rattle.nest_scope.specs.declared.occurrences.Binding.{Binding}
use Rattle.nest_scope.specs.declared.occurrences.Binding.TheVariants as binding
use Rattle.nest_scope.specs.declared.occurrences.Level.TheVariants as level
use Rattle.nest_scope.specs.Occurrences.{Scope, with_bound, variable_at, in_stmt}
use Rattle.nest_scope.specs.Entered.{Entered, entered_by_arms, entered_by, entered_by_arm, entered_in, entered_in_region, declared_scope, entered_of, is_schedulers}
use Rattle.nest_scope.proofs.Entered.{entered-declare, entered-assign, entered-write, entered-if, entered-loop, entered_by_arm-is}
use Rattle.nest_scope.proofs.Equations.{behind-declare, behind-assign, behind-write, behind-if, behind-loop}

declarations-append : (xs ys : List Entry) → declarations_in (xs ++ ys) ≡ declarations_in xs ++ declarations_in ys
declarations-append [] ys = refl
declarations-append (Plain ∷ xs) ys = declarations-append xs ys
declarations-append (Declares d ∷ xs) ys = ap (λ ds. d ∷ ds) (declarations-append xs ys)
declarations-append (Invokes b ∷ xs) ys = declarations-append xs ys

-- how a body is entered from the scope around it: by its loop, whose variable is bound there, or as an array statement
pub data EnteredFrom (around : Scope) : Entered → Type 0 where
  by_loop : (l : Loop) → EnteredFrom around (record { body = body_of_loop l; level = level.Body; scope = with_bound around l.name binding.LoopVariable })
  by_write : (line : Line) (name : ℕ) (p : Expr) (o : Op) (e : Expr) → EnteredFrom around (record { body = body_of_write line (stmt.Write line name p o e); level = level.Items; scope = around })

-- a body that is entered from a scope of which something holds
abbrev pub IsFrom : (Scope → Type 0) → Entered → Type 0
IsFrom Q e = (around : Scope) × (Q around × EnteredFrom around e)

module _ (Q : Scope → Type 0) (D : Declaration → Type 0) (stays : (to : Binding) → is_schedulers to ≡ true → (scope : Scope) (d : Declaration) → D d → Q scope → Q (with_bound scope d.0 to)) where
  abbrev From : Stmt → Type 0
  From s = (scope : Scope) → Q scope → Each D (declarations_in (items s)) → Each (IsFrom Q) (entered_by s scope) × Q (in_stmt s level.Items scope).behind

  block_from : (stmts : List Stmt) → Each From stmts → (scope : Scope) → Q scope → Each D (declarations_in (items_of stmts)) → Each (IsFrom Q) (entered_in stmts scope)
  block_from [] each scope q ds = tt
  block_from (s ∷ stmts) each scope q ds =
      let behind : Scope = (in_stmt s level.Items scope).behind in
      let parts : Each D (declarations_in (items s) ++ declarations_in (items_of stmts)) = subst (Each D) (declarations-append (items s) (items_of stmts)) ds in
      let here : Each (IsFrom Q) (entered_by s scope) × Q behind = each.0 scope q (each_left D (declarations_in (items s)) (declarations_in (items_of stmts)) parts) in
      each_both (IsFrom Q) (entered_by s scope) (entered_in stmts behind) here.0 (block_from stmts each.1 behind here.1 (each_right D (declarations_in (items s)) (declarations_in (items_of stmts)) parts))

  arms_from : (arms : List Arm) → Each (λ (a : Arm). Each From a.body) arms → (scope : Scope) → Q scope → Each D (declarations_in (flat_map items_in_arm arms)) → Each (IsFrom Q) (entered_by_arms (map (λ a. (a, entered_by_arm a)) arms) scope)
  arms_from [] each scope q ds = tt
  arms_from (a ∷ arms) each scope q ds =
      let rest : List Entry = flat_map items_in_arm arms in
      let parts : Each D (declarations_in (items_in_arm a) ++ declarations_in rest) = subst (Each D) (declarations-append (items_in_arm a) rest) ds in
      let inside : Each D (declarations_in (items_of a.body)) = subst (λ es. Each D (declarations_in es)) (items_in_arm-is a) (each_left D (declarations_in (items_in_arm a)) (declarations_in rest) parts) in
      each_both (IsFrom Q) (entered_by_arm a scope) (entered_by_arms (map (λ r. (r, entered_by_arm r)) arms) scope)
      (subst (Each (IsFrom Q)) (sym (entered_by_arm-is a scope)) (block_from a.body each.0 scope q inside))
      (arms_from arms each.1 scope q (each_right D (declarations_in (items_in_arm a)) (declarations_in rest) parts))

  from : (s : Stmt) → From s
  from = stmt_induction From
      (λ line name e scope q ds.
      let here : Each D ((name, line) ∷ []) = subst (λ es. Each D (declarations_in es)) (items-declare line name e) ds in
      (subst (Each (IsFrom Q)) (sym (entered-declare line name e scope)) tt, subst Q (sym (behind-declare level.Items scope line name e)) (stays binding.SchedulerScalar refl scope (name, line) here.0 q)))
      (λ line name o e scope q ds. (subst (Each (IsFrom Q)) (sym (entered-assign line name o e scope)) tt, subst Q (sym (behind-assign level.Items scope line name o e)) q))
      (λ line name p o e scope q ds. (subst (Each (IsFrom Q)) (sym (entered-write line name p o e scope)) ((scope, (q, by_write line name p o e)), tt), subst Q (sym (behind-write level.Items scope line name p o e)) q))
      (λ arms other in_arms in_other scope q ds.
      let front : List Entry = flat_map items_in_arm arms in
      let whole : Each D (declarations_in (front ++ items_of other)) = subst (λ es. Each D (declarations_in es)) (items-if arms other) ds in
      let parts : Each D (declarations_in front ++ declarations_in (items_of other)) = subst (Each D) (declarations-append front (items_of other)) whole in (
        subst (Each (IsFrom Q)) (sym (entered-if arms other scope))
            (each_both (IsFrom Q) (entered_by_arms (map (λ a. (a, entered_by_arm a)) arms) scope) (entered_in other scope)
            (arms_from arms in_arms scope q (each_left D (declarations_in front) (declarations_in (items_of other)) parts))
            (block_from other in_other scope q (each_right D (declarations_in front) (declarations_in (items_of other)) parts))),
        subst Q (sym (behind-if level.Items scope arms other)) q,
      ))
      (λ l inside scope q ds. (subst (Each (IsFrom Q)) (sym (entered-loop l scope)) ((scope, (q, by_loop l)), tt), subst Q (sym (behind-loop level.Items scope l)) q))

  each_from : (stmts : List Stmt) → Each From stmts
  each_from [] = tt
  each_from (s ∷ stmts) = (from s, each_from stmts)

  -- the declarations of a region: its variable, and those among its items
  abbrev pub Declared : Loop → Type 0
  Declared l = D (l.name, l.line) × Each D (declarations_in (items_of l.body))

  regions_from : (scope : Scope) → Q scope → (regions : List Loop) → Each Declared regions → Each (IsFrom Q) (flat_map (entered_in_region scope) regions)
  regions_from scope q [] each = tt
  regions_from scope q (l ∷ regions) each =
      each_both (IsFrom Q) (entered_in_region scope l) (flat_map (entered_in_region scope) regions)
      (block_from l.body (each_from l.body) (with_bound scope l.name (variable_at level.Outside)) (stays binding.RegionVariable refl scope (l.name, l.line) each.0.0 q) each.0.1)
      (regions_from scope q regions each.1)

  pub program_from : (program : Program) → Q (declared_scope program) → Each Declared program.regions → Each (IsFrom Q) (entered_of program)
  program_from program q each = regions_from (declared_scope program) q program.regions each

-- the same where nothing is asked of the declarations
module _ (Q : Scope → Type 0) (stays : (to : Binding) → is_schedulers to ≡ true → (scope : Scope) (name : ℕ) → Q scope → Q (with_bound scope name to)) where
  abbrev Any : Declaration → Type 0
  Any d = Unit {0}

  any_stays : (to : Binding) → is_schedulers to ≡ true → (scope : Scope) (d : Declaration) → Any d → Q scope → Q (with_bound scope d.0 to)
  any_stays to is scope d any q = stays to is scope d.0 q

  any_each : (ds : List Declaration) → Each Any ds
  any_each [] = tt
  any_each (d ∷ ds) = (tt, any_each ds)

  any_declared : (regions : List Loop) → Each (Declared Q Any any_stays) regions
  any_declared [] = tt
  any_declared (l ∷ regions) = ((tt, any_each (declarations_in (items_of l.body))), any_declared regions)

  pub program_around : (program : Program) → Q (declared_scope program) → Each (IsFrom Q) (entered_of program)
  program_around program q = program_from Q Any any_stays program q (any_declared program.regions)
