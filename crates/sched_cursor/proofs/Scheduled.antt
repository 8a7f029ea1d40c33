-- What the rules say of the items: a name that is set among them is that of a scheduler scalar. And each body has the
-- variable and the step of its invocation.
use Rattle.std.proofs.Common.{◌≡◌, ℕ, zero, suc, ◌+◌, ◌<◌, ℤ, pos, true, false, is_some, ◌||◌, eq-eqb, Option, Some, List, [], ◌∷◌, ◌++◌, map, length, replicate, slice_get, refl, sym, ap, ◌∙◌, subst, arith}
use Rattle.std.specs.List.{flat_map}
use Rattle.std.specs.Option.{option_map, option_and_then}
use Rattle.std.proofs.lemmas.List.{length-set, length-replicate, length-map, get_or-set_other}
use Rattle.nest_syntax.specs.declared.tree.Arm.{Arm}
use Rattle.nest_syntax.specs.declared.tree.Loop.{Loop}
use Rattle.nest_syntax.specs.declared.tree.Stmt.{Stmt}
use Rattle.nest_syntax.specs.declared.tree.Decl.{Decl}
use Rattle.nest_syntax.specs.declared.tree.Decl.TheVariants as decl
use Rattle.nest_syntax.specs.declared.tree.Program.{Program}
use Rattle.nest_syntax.specs.Among.{Each}
use Rattle.nest_syntax.specs.Named.{IsWellNamed}
use Rattle.nest_syntax.specs.Value.{scalar_at, with_scalar}
use Rattle.nest_syntax.specs.Course.{declared_scalars, opening_scalars}
use Rattle.nest_syntax.specs.Shape.{Declaration, Entry, Plain, Declares, Invokes, Body, items, items_in_arm, items_of, declarations_in, invoked_in, invoked_in_region, invoked_by, bodies_of}
use Rattle.nest_syntax.proofs.Shapes.{items-declare, items-assign, items-write, items-if, items-loop, items_in_arm-is}
use Rattle.nest_syntax.proofs.Inductions.{stmt_induction, each_left, each_right, each_both}
use Rattle.nest_scope.specs.declared.occurrences.Binding.{Binding}
use Rattle.nest_scope.specs.declared.occurrences.Binding.TheVariants as binding
use Rattle.nest_scope.specs.declared.occurrences.Level.TheVariants as level
use Rattle.nest_scope.specs.declared.occurrences.Action.TheVariants as action
use Rattle.nest_scope.specs.declared.occurrences.Occurrence.{Occurrence}
use Rattle.nest_scope.specs.Occurrences.{Scope, bound, with_bound, variable_at, read_in, in_stmt, in_arm, in_loop, in_block, in_same_scope, in_decls, in_regions, unbound, occurrence, occurrences_of}
use Rattle.nest_scope.specs.Rules.{uses_unknown, is_no_scalar, line_of}
use Rattle.nest_scope.specs.Entered.{declared_scope, is_schedulers}
use Rattle.nest_syntax.specs.Lowest.{lines_where}
use Rattle.nest_scope.proofs.Entered.{none_where}
use Rattle.nest_scope.proofs.Around.{Declared}
use Rattle.nest_scope.proofs.Equations.{occurrences-assign, occurrences-if, occurrences-arm, occurrences-loop, behind-declare, behind-assign, behind-write, behind-if, behind-loop}
use Rattle.nest_check.specs.Declarations.{has_name}
use Rattle.nest_check.specs.Entries.{scalars_in, scalars_in_region, scheduler_scalars}
use Rattle.nest_check.specs.Tables.{scalar_of}
use Rattle.nest_check.specs.Kept.{KeepsRules}
use Rattle.body_names.proofs.Programs.{is_inner}
use Rattle.bound_names.proofs.Outside.{Outside, IsScalars, has_left, has_right, stays_outside, regions_declared, declared_outside, scalar_some}
use Rattle.sched_cursor.specs.Doings.{Doing, Sets, Runs, doings, doings_in_arm, doings_of, doings_in_region, AreTold, NodesTell}
use Rattle.sched_cursor.specs.Cursor.{Cursor}
use Rattle.sched_cursor.specs.Handed.{variable_with_step, naming_of, Tells}
use Rattle.sched_cursor.specs.Laws.{restarted}
use Rattle.sched_cursor.proofs.Doings.{doings-declare, doings-assign, doings-write, doings-if, doings-loop, doings_in_arm-is}

declarations_of_both : (xs ys : List Entry) → declarations_in (xs ++ ys) ≡ declarations_in xs ++ declarations_in ys
declarations_of_both [] ys = refl
declarations_of_both (Plain ∷ xs) ys = declarations_of_both xs ys
declarations_of_both (Declares d ∷ xs) ys = ap (λ ds. d ∷ ds) (declarations_of_both xs ys)
declarations_of_both (Invokes b ∷ xs) ys = declarations_of_both xs ys

module _ (program : Program) where
  abbrev Known : Occurrence → Type 0
  Known o = uses_unknown o ≡ false

  abbrev IsSet : Doing → Type 0
  IsSet (Sets name) = has_name (scheduler_scalars program) name ≡ true
  IsSet (Runs variable) = Unit {0}

  abbrev Q : Scope → Type 0
  Q = Outside program

  abbrev D : Declaration → Type 0
  D = IsScalars program

  -- a name that is assigned around bodies is bound to a scalar of the scheduler
  bound_assigned : (b : Binding) → is_no_scalar b ≡ false → is_inner b ≡ false → is_schedulers b ≡ true
  bound_assigned binding.SchedulerScalar known around = refl
  bound_assigned binding.RegionVariable known around = refl
  bound_assigned binding.Unbound known around = absurd cc
  bound_assigned binding.Array known around = absurd cc
  bound_assigned binding.ConstArray known around = absurd cc
  bound_assigned binding.Local known around = absurd cc
  bound_assigned binding.LoopVariable known around = absurd cc

  abbrev Set : Stmt → Type 0
  Set s = (scope : Scope) → Q scope → Each D (declarations_in (items s)) → Each Known (in_stmt s level.Items scope).occurrences → Each IsSet (doings s) × Q (in_stmt s level.Items scope).behind

  block_set : (stmts : List Stmt) → Each Set stmts → (scope : Scope) → Q scope → Each D (declarations_in (items_of stmts)) → Each Known (in_block stmts level.Items scope) → Each IsSet (doings_of stmts)
  block_set [] each scope q ds known = tt
  block_set (s ∷ stmts) each scope q ds known =
      let behind : Scope = (in_stmt s level.Items scope).behind in
      let os : List Occurrence = (in_stmt s level.Items scope).occurrences in
      let parts : Each D (declarations_in (items s) ++ declarations_in (items_of stmts)) = subst (Each D) (declarations_of_both (items s) (items_of stmts)) ds in
      let here : Each IsSet (doings s) × Q behind = each.0 scope q (each_left D (declarations_in (items s)) (declarations_in (items_of stmts)) parts) (each_left Known os (in_block stmts level.Items behind) known) in
      each_both IsSet (doings s) (doings_of stmts) here.0
      (block_set stmts each.1 behind here.1 (each_right D (declarations_in (items s)) (declarations_in (items_of stmts)) parts) (each_right Known os (in_block stmts level.Items behind) known))

  arms_set : (arms : List Arm) → Each (λ (a : Arm). Each Set a.body) arms → (scope : Scope) → Q scope → Each D (declarations_in (flat_map items_in_arm arms)) → Each Known (in_same_scope (map in_arm arms) level.Items scope) → Each IsSet (flat_map doings_in_arm arms)
  arms_set [] each scope q ds known = tt
  arms_set (a ∷ arms) each scope q ds known =
      let rest : List Entry = flat_map items_in_arm arms in
      let others : List Occurrence = in_same_scope (map in_arm arms) level.Items scope in
      let parts : Each D (declarations_in (items_in_arm a) ++ declarations_in rest) = subst (Each D) (declarations_of_both (items_in_arm a) rest) ds in
      let inside : Each D (declarations_in (items_of a.body)) = subst (λ es. Each D (declarations_in es)) (items_in_arm-is a) (each_left D (declarations_in (items_in_arm a)) (declarations_in rest) parts) in
      let here : Each Known (read_in a.line level.Items scope a.test ++ in_block a.body level.Items scope) = subst (Each Known) (occurrences-arm level.Items scope a) (each_left Known (in_arm a level.Items scope) others known) in
      each_both IsSet (doings_in_arm a) (flat_map doings_in_arm arms)
      (subst (Each IsSet) (sym (doings_in_arm-is a)) (block_set a.body each.0 scope q inside (each_right Known (read_in a.line level.Items scope a.test) (in_block a.body level.Items scope) here)))
      (arms_set arms each.1 scope q (each_right D (declarations_in (items_in_arm a)) (declarations_in rest) parts) (each_right Known (in_arm a level.Items scope) others known))

  set : (s : Stmt) → Set s
  set = stmt_induction Set
      (λ line name e scope q ds known.
      let here : Each D ((name, line) ∷ []) = subst (λ es. Each D (declarations_in es)) (items-declare line name e) ds in
      (subst (Each IsSet) (sym (doings-declare line name e)) (here.0, tt), subst Q (sym (behind-declare level.Items scope line name e)) (stays_outside program binding.SchedulerScalar refl scope (name, line) here.0 q)))
      (λ line name o e scope q ds known.
      let here : Each Known (occurrence line level.Items action.Assigned (bound scope name) ∷ read_in line level.Items scope e) = subst (Each Known) (occurrences-assign level.Items scope line name o e) known in
      (subst (Each IsSet) (sym (doings-assign line name o e)) (q.scalars name (bound_assigned (bound scope name) here.0 (q.around name)), tt), subst Q (sym (behind-assign level.Items scope line name o e)) q))
      (λ line name p o e scope q ds known. (subst (Each IsSet) (sym (doings-write line name p o e)) (tt, tt), subst Q (sym (behind-write level.Items scope line name p o e)) q))
      (λ arms other in_arms in_other scope q ds known.
      let front : List Entry = flat_map items_in_arm arms in
      let whole : Each D (declarations_in (front ++ items_of other)) = subst (λ es. Each D (declarations_in es)) (items-if arms other) ds in
      let parts : Each D (declarations_in front ++ declarations_in (items_of other)) = subst (Each D) (declarations_of_both front (items_of other)) whole in
      let uses : Each Known (in_same_scope (map in_arm arms) level.Items scope ++ in_block other level.Items scope) = subst (Each Known) (occurrences-if level.Items scope arms other) known in (
        subst (Each IsSet) (sym (doings-if arms other))
            (each_both IsSet (flat_map doings_in_arm arms) (doings_of other)
            (arms_set arms in_arms scope q (each_left D (declarations_in front) (declarations_in (items_of other)) parts) (each_left Known (in_same_scope (map in_arm arms) level.Items scope) (in_block other level.Items scope) uses))
            (block_set other in_other scope q (each_right D (declarations_in front) (declarations_in (items_of other)) parts) (each_right Known (in_same_scope (map in_arm arms) level.Items scope) (in_block other level.Items scope) uses))),
        subst Q (sym (behind-if level.Items scope arms other)) q,
      ))
      (λ l inside scope q ds known. (subst (Each IsSet) (sym (doings-loop l)) (tt, tt), subst Q (sym (behind-loop level.Items scope l)) q))

  each_set : (stmts : List Stmt) → Each Set stmts
  each_set [] = tt
  each_set (s ∷ stmts) = (set s, each_set stmts)

  regions_set : (scope : Scope) → Q scope → (regions : List Loop) → Each (Declared Q D (stays_outside program)) regions → Each Known (in_regions regions scope) → Each IsSet (flat_map doings_in_region regions)
  regions_set scope q [] ds known = tt
  regions_set scope q (l ∷ regions) ds known =
      let inside : Scope = with_bound scope l.name (variable_at level.Outside) in
      let low : List Occurrence = read_in l.line level.Outside scope l.low in
      let high : List Occurrence = read_in l.line level.Outside inside l.high in
      let body : List Occurrence = in_block l.body level.Items inside in
      let here : Each Known (occurrence l.line level.Outside action.Declared (bound scope l.name) ∷ (low ++ (high ++ body))) = subst (Each Known) (occurrences-loop level.Outside scope l) (each_left Known (in_loop l level.Outside scope) (in_regions regions scope) known) in
      each_both IsSet (doings_in_region l) (flat_map doings_in_region regions)
      (ds.0.0, block_set l.body (each_set l.body) inside (stays_outside program binding.RegionVariable refl scope (l.name, l.line) ds.0.0 q) ds.0.1 (each_right Known high body (each_right Known low (high ++ body) here.1)))
      (regions_set scope q regions ds.1 (each_right Known (in_loop l level.Outside scope) (in_regions regions scope) known))

  all_known : (os : List Occurrence) → lines_where line_of uses_unknown os ≡ [] → Each Known os
  all_known [] none = tt
  all_known (o ∷ os) none = let here = none_where uses_unknown o os none in (here.0, all_known os here.1)

  all_set : IsWellNamed program → KeepsRules program → Each IsSet (flat_map doings_in_region program.regions)
  all_set named keeps =
      regions_set (declared_scope program) (declared_outside program named keeps) program.regions
      (regions_declared program program.regions (λ name e. has_right (scalars_in program.decls) (flat_map scalars_in_region program.regions) name e))
      (each_right Known (in_decls program.decls (unbound (length program.names))) (in_regions program.regions (declared_scope program)) (all_known (occurrences_of program) keeps.known))

  numbered : (name : ℕ) → has_name (scheduler_scalars program) name ≡ true → is_some (scalar_of program name) ≡ true
  numbered name there = ap is_some (scalar_some program name there).1

  -- the bodies that are run, with their variables and steps
  abbrev header_name : Body → Option (ℕ × ℕ)
  header_name b = option_map (λ (l : Loop). (l.name, l.step)) b.header

  abbrev variables : List Doing → List (Option (ℕ × ℕ))
  variables [] = []
  variables (Sets name ∷ ds) = variables ds
  variables (Runs variable ∷ ds) = variable ∷ variables ds

  variables_both : (xs ys : List Doing) → variables (xs ++ ys) ≡ variables xs ++ variables ys
  variables_both [] ys = refl
  variables_both (Sets name ∷ xs) ys = variables_both xs ys
  variables_both (Runs variable ∷ xs) ys = ap (λ vs. variable ∷ vs) (variables_both xs ys)

  invoked_both : (xs ys : List Entry) → map header_name (invoked_in (xs ++ ys)) ≡ map header_name (invoked_in xs) ++ map header_name (invoked_in ys)
  invoked_both [] ys = refl
  invoked_both (Plain ∷ xs) ys = invoked_both xs ys
  invoked_both (Declares d ∷ xs) ys = invoked_both xs ys
  invoked_both (Invokes b ∷ xs) ys = ap (λ vs. header_name b ∷ vs) (invoked_both xs ys)

  abbrev Same : Stmt → Type 0
  Same s = variables (doings s) ≡ map header_name (invoked_in (items s))

  same_block : (stmts : List Stmt) → Each Same stmts → variables (doings_of stmts) ≡ map header_name (invoked_in (items_of stmts))
  same_block [] each = refl
  same_block (s ∷ stmts) each =
      variables_both (doings s) (doings_of stmts) ∙ (λ i. each.0 i ++ same_block stmts each.1 i) ∙ sym (invoked_both (items s) (items_of stmts))

  same_arms : (arms : List Arm) → Each (λ (a : Arm). Each Same a.body) arms → variables (flat_map doings_in_arm arms) ≡ map header_name (invoked_in (flat_map items_in_arm arms))
  same_arms [] each = refl
  same_arms (a ∷ arms) each =
      let here : variables (doings_in_arm a) ≡ map header_name (invoked_in (items_in_arm a)) = ap variables (doings_in_arm-is a) ∙ same_block a.body each.0 ∙ ap (λ es. map header_name (invoked_in es)) (sym (items_in_arm-is a)) in
      variables_both (doings_in_arm a) (flat_map doings_in_arm arms) ∙ (λ i. here i ++ same_arms arms each.1 i) ∙ sym (invoked_both (items_in_arm a) (flat_map items_in_arm arms))

  abbrev header_names : List Entry → List (Option (ℕ × ℕ))
  header_names es = map header_name (invoked_in es)

  same : (s : Stmt) → Same s
  same = stmt_induction Same
      (λ line name e. ap variables (doings-declare line name e) ∙ ap header_names (sym (items-declare line name e)))
      (λ line name o e. ap variables (doings-assign line name o e) ∙ ap header_names (sym (items-assign line name o e)))
      (λ line name p o e. ap variables (doings-write line name p o e) ∙ ap header_names (sym (items-write line name p o e)))
      (λ arms other in_arms in_other.
      ap variables (doings-if arms other) ∙ variables_both (flat_map doings_in_arm arms) (doings_of other) ∙ (λ i. same_arms arms in_arms i ++ same_block other in_other i)
      ∙ sym (invoked_both (flat_map items_in_arm arms) (items_of other)) ∙ ap header_names (sym (items-if arms other)))
      (λ l inside. ap variables (doings-loop l) ∙ ap header_names (sym (items-loop l)))

  each_same : (stmts : List Stmt) → Each Same stmts
  each_same [] = tt
  each_same (s ∷ stmts) = (same s, each_same stmts)

  map_both : (xs ys : List Body) → map header_name (xs ++ ys) ≡ map header_name xs ++ map header_name ys
  map_both [] ys = refl
  map_both (x ∷ xs) ys = ap (λ vs. header_name x ∷ vs) (map_both xs ys)

  same_regions : (regions : List Loop) → variables (flat_map doings_in_region regions) ≡ map header_name (flat_map invoked_in_region regions)
  same_regions [] = refl
  same_regions (l ∷ regions) =
      variables_both (doings_in_region l) (flat_map doings_in_region regions) ∙ (λ i. same_block l.body (each_same l.body) i ++ same_regions regions i)
      ∙ sym (map_both (invoked_in_region l) (flat_map invoked_in_region regions))

  -- all is told
  told_from : (ds : List Doing) (first : ℕ) → Each IsSet ds
      → ((n : ℕ) (v : Option (ℕ × ℕ)) → slice_get (variables ds) n ≡ Some v → ((naming_of program).variable (first + n) ≡ v) × (first + n < (naming_of program).bodies)) → AreTold (naming_of program) first ds
  told_from [] first set there = tt
  told_from (Sets name ∷ ds) first set there = (numbered name set.0, told_from ds first set.1 there)
  told_from (Runs variable ∷ ds) first set there =
      let here = there 0 variable refl in
      let at : first + 0 ≡ first = omega arith in (
        (subst (λ k. (naming_of program).variable k ≡ variable) at here.0, subst (λ k. k < (naming_of program).bodies) at here.1),
        told_from ds (suc first) set.1 (λ n v is.
            let on : first + suc n ≡ suc first + n = omega arith in
            let rest = there (suc n) v is in
            (subst (λ k. (naming_of program).variable k ≡ v) on rest.0, subst (λ k. k < (naming_of program).bodies) on rest.1)),
      )

  at_body : (bodies : List Body) (n : ℕ) (v : Option (ℕ × ℕ)) → slice_get (map header_name bodies) n ≡ Some v → (option_and_then header_name (slice_get bodies n) ≡ v) × (n < length bodies)
  at_body [] n v is = absurd cc
  at_body (b ∷ bodies) zero v is = (some_of (header_name b) v is, omega arith)
    where
      some_of : (x y : Option (ℕ × ℕ)) → Some x ≡ Some y → x ≡ y
      some_of x y e = cc
  at_body (b ∷ bodies) (suc n) v is = let rest = at_body bodies n v is in (rest.0, omega (arith, rest.1))

  pub are_told : IsWellNamed program → KeepsRules program → AreTold (naming_of program) 0 (flat_map doings_in_region program.regions)
  are_told named keeps = told_from (flat_map doings_in_region program.regions) 0 (all_set named keeps)
      (λ n v is.
      let there = at_body (invoked_by program) n v (sym (ap (λ vs. slice_get vs n) (same_regions program.regions)) ∙ is) in
      let many : length (bodies_of program) ≡ length (invoked_by program) = length-map (invoked_by program) (λ (b : Body). b.stmts) in
      let at : n ≡ 0 + n = omega arith in
      (subst (λ k. variable_with_step program k ≡ v) at there.0, omega (arith, there.1, many)))

  -- the scalars as the regions begin
  declared_tell : (decls : List Decl) (scalars : List ℤ) → ((name : ℕ) → has_name (scalars_in decls) name ≡ true → is_some (scalar_of program name) ≡ true) → length scalars ≡ length program.names
      → ((name : ℕ) → is_some (scalar_of program name) ≡ false → scalar_at scalars name ≡ pos 0)
      → (length (declared_scalars decls scalars) ≡ length program.names) × ((name : ℕ) → is_some (scalar_of program name) ≡ false → scalar_at (declared_scalars decls scalars) name ≡ pos 0)
  declared_tell [] scalars there many others = (many, others)
  declared_tell (decl.Array line name size fixed ∷ decls) scalars there many others = declared_tell decls scalars there many others
  declared_tell (decl.Scalar line name value ∷ decls) scalars there many others =
      declared_tell decls (with_scalar scalars name value) (λ other e. there other (has_right ((name, line) ∷ []) (scalars_in decls) other e)) (length-set scalars name value ∙ many)
      (λ other isnt. get_or-set_other scalars name other value (pos 0)
      (λ is. let clash : true ≡ false = sym (there name (has_left ((name, line) ∷ []) (scalars_in decls) name (eq_name name))) ∙ ap (λ n. is_some (scalar_of program n)) (sym is) ∙ isnt in cc) ∙ others other isnt)
    where
      eq_name : (n : ℕ) → has_name ((n, line) ∷ []) n ≡ true
      eq_name n = ap (λ b. b || false) (eq-eqb n n refl)

  opening_tells : (length (opening_scalars program) ≡ length program.names) × ((name : ℕ) → is_some (scalar_of program name) ≡ false → scalar_at (opening_scalars program) name ≡ pos 0)
  opening_tells = declared_tell program.decls (replicate (length program.names) (pos 0))
      (λ name e. numbered name (has_left (scalars_in program.decls) (flat_map scalars_in_region program.regions) name e))
      (length-replicate (length program.names) (pos 0))
      (λ name isnt. zero_at (length program.names) name)
    where
      zero_at : (n name : ℕ) → scalar_at (replicate n (pos 0)) name ≡ pos 0
      zero_at zero name = refl
      zero_at (suc n) zero = refl
      zero_at (suc n) (suc name) = zero_at n name

  pub restart_tells_nodes : (c : Cursor) → NodesTell (naming_of program) c.nodes → Tells (naming_of program) (restarted program c)
  restart_tells_nodes c nodes = record { nodes = nodes; many = opening_tells.0; others = opening_tells.1; region = λ has. cc; at = tt }

pub restart_tells : (program : Program) (c : Cursor) → Tells (naming_of program) c → Tells (naming_of program) (restarted program c)
restart_tells program c tells = restart_tells_nodes program c tells.nodes
