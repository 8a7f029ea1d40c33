-- What the names in the bodies of a program that keeps the rules are.
use Rattle.std.proofs.Common.{◌≡◌, ℕ, ◌&&◌, nat_lt, Bool, true, false, IsTrue, Option, Some, None, List, [], ◌∷◌, map, length, refl, sym, ap, ◌∙◌, subst, ⊎_elim}
use Rattle.std.specs.List.{list_all, flat_map}
use Rattle.std.proofs.lemmas.Bool.{and_parts}
use Rattle.std.proofs.lemmas.List.{append-nil}
use Rattle.nest_syntax.specs.declared.names.Line.{Line}
use Rattle.nest_syntax.specs.declared.tree.Arm.{Arm}
use Rattle.nest_syntax.specs.declared.tree.Loop.{Loop}
use Rattle.nest_syntax.specs.declared.tree.Stmt.{Stmt}
use Rattle.nest_syntax.specs.declared.tree.Stmt.TheVariants as stmt
use Rattle.nest_syntax.specs.declared.tree.Program.{Program}
use Rattle.nest_syntax.specs.Among.{Each, is_among}
use Rattle.nest_syntax.specs.Named.{expr_named, loop_named, IsWellNamed}
use Rattle.nest_syntax.specs.Shape.{Body, body_of_loop, body_of_write, invoked_by}
use Rattle.nest_syntax.specs.Locals.{locals_of}
use Rattle.nest_syntax.proofs.Inductions.{stmt_induction, each_left, each_both}
use Rattle.nest_scope.specs.declared.occurrences.Binding.{Binding}
use Rattle.nest_scope.specs.declared.occurrences.Binding.TheVariants as binding
use Rattle.nest_scope.specs.declared.occurrences.Level.TheVariants as level
use Rattle.nest_scope.specs.declared.occurrences.Action.{Action}
use Rattle.nest_scope.specs.declared.occurrences.Action.TheVariants as action
use Rattle.nest_scope.specs.Occurrences.{Scope, bound as bound_to, with_bound, occurrence, in_stmt}
use Rattle.nest_scope.specs.Rules.{is_no_scalar, is_no_array}
use Rattle.nest_scope.specs.Entered.{Entered, entered_by_arms, entered_by, entered_by_arm, entered_in, entered_in_region, declared_scope, entered_of, IsBound, HasBoundNames}
use Rattle.nest_scope.proofs.Entered.{entered-declare, entered-assign, entered-write, entered-if, entered-loop, entered_by_arm-is, regions_invoked, bodies_bound}
use Rattle.nest_scope.proofs.Around.{EnteredFrom, by_loop, by_write, IsFrom}
use Rattle.nest_check.specs.Kept.{KeepsRules}
use Rattle.nest_check.proofs.Writable.{bound_written}
use Rattle.body_names.specs.Laws.{HasNamesFromOutside}
use Rattle.body_names.proofs.Names.{bound_with}
use Rattle.body_names.proofs.Programs.{is_inner, of_scheduler, names_in_bodies}
use Rattle.body_names.proofs.Assigned.{assigned_local}
use Rattle.bound_names.specs.Uses.{Binder, Invocation, Inside, Declaration, binder_of, used_by}
use Rattle.bound_names.specs.Meant.{IsMeant, MeantAs, HasMeaning}
use Rattle.bound_names.proofs.Scopes.{named, named_arm, all_named, named-if, named-loop, named_arm-is, loop_named-is, kind_of, agrees_with, names_meant, write_meant}
use Rattle.bound_names.proofs.Outside.{Outside, entered_outside, scalar_some, written}

-- a name that is used in a body, from the scope around it
module _ (program : Program) (body : Body) (around : Scope) (outside : Outside program around) (locals : (name : ℕ) → is_among (locals_of body.stmts) name ≡ true → bound_to around name ≡ binding.Unbound) (name : ℕ) where
  -- one that is bound around the body is no local of it
  no_local : (test : Binding → Bool) → test binding.Unbound ≡ true → test (bound_to around name) ≡ false → is_among (locals_of body.stmts) name ≡ false
  no_local test none known = by (is_among (locals_of body.stmts) name) refl
    where
      by : (b : Bool) → is_among (locals_of body.stmts) name ≡ b → is_among (locals_of body.stmts) name ≡ false
      by false is = is
      by true is = absurd (let wrong : true ≡ false = sym none ∙ sym (ap test (locals name is)) ∙ known in cc)

  meant : (line : Line) (does : Action) (o : Option Binder) → IsBound (occurrence line level.Body does (kind_of o (bound_to around name))) → MeantAs program body name o does
  meant line action.Declared None is = tt
  meant line action.Declared (Some (Invocation l)) is = absurd (let wrong : true ≡ false = is.declared_once in cc)
  meant line action.Declared (Some (Inside l)) is = absurd (let wrong : true ≡ false = is.declared_once in cc)
  meant line action.Declared (Some (Declaration at value)) is = absurd (let wrong : true ≡ false = is.declared_once in cc)
  meant line action.Assigned None is = absurd (let wrong : true ≡ false = sym (ap is_inner (assigned_local (bound_to around name) is.known is.variables is.scheduled)) ∙ outside.around name in cc)
  meant line action.Assigned (Some (Invocation l)) is = absurd (let wrong : true ≡ false = is.variables in cc)
  meant line action.Assigned (Some (Inside l)) is = absurd (let wrong : true ≡ false = is.variables in cc)
  meant line action.Assigned (Some (Declaration at value)) is = tt
  meant line action.ScalarRead None is = record {
    numbered = scalar_some program name (outside.scalars name (of_scheduler (bound_to around name) (outside.around name) is.known));
    no_local = no_local is_no_scalar refl is.known;
  }
  meant line action.ScalarRead (Some binder) is = tt
  meant line action.WordRead None is = (tt, record { numbered = outside.arrays name is.known; no_local = no_local is_no_array refl is.known })
  meant line action.WordRead (Some (Invocation l)) is = absurd (let wrong : true ≡ false = is.known in cc)
  meant line action.WordRead (Some (Inside l)) is = absurd (let wrong : true ≡ false = is.known in cc)
  meant line action.WordRead (Some (Declaration at value)) is = absurd (let wrong : true ≡ false = is.known in cc)
  meant line action.WordWritten None is = (tt, (record { numbered = outside.arrays name is.known; no_local = no_local is_no_array refl is.known }, written program around outside name (bound_written (bound_to around name) is.known is.constant)))
  meant line action.WordWritten (Some (Invocation l)) is = absurd (let wrong : true ≡ false = is.known in cc)
  meant line action.WordWritten (Some (Inside l)) is = absurd (let wrong : true ≡ false = is.known in cc)
  meant line action.WordWritten (Some (Declaration at value)) is = absurd (let wrong : true ≡ false = is.known in cc)

-- the loops that invoke bodies are well named where their regions are
module _ (count : ℕ) where
  abbrev header_named : Option Loop → Bool
  header_named None = true
  header_named (Some l) = loop_named count l

  abbrev IsNamed : Entered → Type 0
  IsNamed e = IsTrue (header_named e.body.header)

  abbrev NamedIn : Stmt → Type 0
  NamedIn s = IsTrue (named count s) → (scope : Scope) → Each IsNamed (entered_by s scope)

  block_named : (stmts : List Stmt) → Each NamedIn stmts → IsTrue (all_named count stmts) → (scope : Scope) → Each IsNamed (entered_in stmts scope)
  block_named [] each names scope = tt
  block_named (s ∷ stmts) each names scope =
      let behind : Scope = (in_stmt s level.Items scope).behind in
      let parts = and_parts (named count s) (all_named count stmts) names in
      each_both IsNamed (entered_by s scope) (entered_in stmts behind) (each.0 parts.0 scope) (block_named stmts each.1 parts.1 behind)

  arms_named : (arms : List Arm) → Each (λ (a : Arm). Each NamedIn a.body) arms → IsTrue (list_all (λ a. a) (map (named_arm count) arms)) → (scope : Scope) → Each IsNamed (entered_by_arms (map (λ a. (a, entered_by_arm a)) arms) scope)
  arms_named [] each names scope = tt
  arms_named (a ∷ arms) each names scope =
      let parts = and_parts (named_arm count a) (list_all (λ a. a) (map (named_arm count) arms)) names in
      let inside = and_parts (expr_named count a.test) (all_named count a.body) (subst IsTrue (named_arm-is count a) parts.0) in
      each_both IsNamed (entered_by_arm a scope) (entered_by_arms (map (λ r. (r, entered_by_arm r)) arms) scope)
      (subst (Each IsNamed) (sym (entered_by_arm-is a scope)) (block_named a.body each.0 inside.1 scope))
      (arms_named arms each.1 parts.1 scope)

  named_in : (s : Stmt) → NamedIn s
  named_in = stmt_induction NamedIn
      (λ line name e names scope. subst (Each IsNamed) (sym (entered-declare line name e scope)) tt)
      (λ line name o e names scope. subst (Each IsNamed) (sym (entered-assign line name o e scope)) tt)
      (λ line name p o e names scope. subst (Each IsNamed) (sym (entered-write line name p o e scope)) (refl, tt))
      (λ arms other in_arms in_other names scope.
      let parts = and_parts (list_all (λ a. a) (map (named_arm count) arms)) (all_named count other) (subst IsTrue (named-if count arms other) names) in
      subst (Each IsNamed) (sym (entered-if arms other scope))
      (each_both IsNamed (entered_by_arms (map (λ a. (a, entered_by_arm a)) arms) scope) (entered_in other scope) (arms_named arms in_arms parts.0 scope) (block_named other in_other parts.1 scope)))
      (λ l inside names scope. subst (Each IsNamed) (sym (entered-loop l scope)) (subst IsTrue (named-loop count l) names, tt))

  each_named : (stmts : List Stmt) → Each NamedIn stmts
  each_named [] = tt
  each_named (s ∷ stmts) = (named_in s, each_named stmts)

  loop_parts : (l : Loop) → IsTrue (loop_named count l) → IsTrue (nat_lt l.name count) × IsTrue (all_named count l.body)
  loop_parts l names =
      let a = and_parts (nat_lt l.name count) (expr_named count l.low && (expr_named count l.high && all_named count l.body)) (subst IsTrue (loop_named-is count l) names) in
      let b = and_parts (expr_named count l.low) (expr_named count l.high && all_named count l.body) a.1 in
      (a.0, (and_parts (expr_named count l.high) (all_named count l.body) b.1).1)

  regions_named : (scope : Scope) (regions : List Loop) → IsTrue (list_all (loop_named count) regions) → Each IsNamed (flat_map (entered_in_region scope) regions)
  regions_named scope [] names = tt
  regions_named scope (l ∷ regions) names =
      let parts = and_parts (loop_named count l) (list_all (loop_named count) regions) names in
      each_both IsNamed (entered_in_region scope l) (flat_map (entered_in_region scope) regions)
      (block_named l.body (each_named l.body) (loop_parts l parts.0).1 (with_bound scope l.name binding.RegionVariable))
      (regions_named scope regions parts.1)

-- the names of a body, from how it is entered
module _ (program : Program) where
  body_meant : (e : Entered) (around : Scope) → EnteredFrom around e → Outside program around → HasNamesFromOutside e → IsNamed (length program.names) e → HasBoundNames e → HasMeaning program e.body
  body_meant _ around (by_write line array p o value) outside names named bound =
      let s : Stmt = stmt.Write line array p o value in
      let body : Body = body_of_write line s in
      subst (Each (IsMeant program body)) (sym (append-nil (used_by s []).uses))
      (write_meant (length program.names) around (IsMeant program body) (λ bindings does name at is. meant program body around outside (λ other. (names other).local) name at does (binder_of bindings name) is)
      line level.Items around [] (record { many = outside.many; kinds = λ name. refl }) array p o value
      (each_left IsBound (in_stmt s level.Items around).occurrences [] bound))
  body_meant _ around (by_loop l) outside names named bound =
      let parts = loop_parts (length program.names) l named in
      let inside : Scope = with_bound around l.name binding.LoopVariable in
      names_meant (length program.names) around (IsMeant program (body_of_loop l)) (λ bindings does name at is. meant program (body_of_loop l) around outside unbound name at does (binder_of bindings name) is)
      l.body inside ((l.name, Invocation l) ∷ [])
      (agrees_with (length program.names) around around [] l.name (Invocation l) binding.LoopVariable (λ other. refl) parts.0 (record { many = outside.many; kinds = λ name. refl }))
      parts.1 bound
    where
      unbound : (name : ℕ) → is_among (locals_of l.body) name ≡ true → bound_to around name ≡ binding.Unbound
      unbound name among =
          let free : bound_to (with_bound around l.name binding.LoopVariable) name ≡ binding.Unbound = (names name).local among in
          ⊎_elim
          (λ (here : (name ≡ l.name) × (bound_to (with_bound around l.name binding.LoopVariable) name ≡ binding.LoopVariable)). absurd (let wrong : binding.LoopVariable ≡ binding.Unbound = sym here.1 ∙ free in cc))
          (λ (other : bound_to (with_bound around l.name binding.LoopVariable) name ≡ bound_to around name). sym other ∙ free)
          (bound_with around l.name name binding.LoopVariable)

  abbrev FromOutside : Entered → Type 0
  FromOutside = IsFrom (Outside program)

  all_meant : (entered : List Entered) → Each FromOutside entered → Each HasNamesFromOutside entered → Each (IsNamed (length program.names)) entered → Each HasBoundNames entered → Each (HasMeaning program) (map (λ (e : Entered). e.body) entered)
  all_meant [] from names named bound = tt
  all_meant (e ∷ entered) from names named bound = (body_meant e from.0.0 from.0.1.1 from.0.1.0 names.0 named.0 bound.0, all_meant entered from.1 names.1 named.1 bound.1)

  pub have_meaning : IsWellNamed program → KeepsRules program → Each (HasMeaning program) (invoked_by program)
  have_meaning named keeps =
      subst (Each (HasMeaning program)) (regions_invoked (declared_scope program) program.regions)
      (all_meant (entered_of program) (entered_outside program named keeps)
      (names_in_bodies program keeps.declared_once keeps.known)
      (regions_named (length program.names) (declared_scope program) program.regions named.regions)
      (bodies_bound program keeps.declared_once keeps.known keeps.constant keeps.variables keeps.scheduled))
