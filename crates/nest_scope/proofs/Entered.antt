-- The bodies that are entered: what each kind of item enters, which bodies these are, and that the names in them are
-- bound where no rule on names is broken.
use Rattle.std.proofs.Common.{◌≡◌, ℕ, Bool, true, false, if◌then◌else◌, List, [], ◌∷◌, ◌++◌, map, length, refl, sym, ap, ◌∙◌, subst}
use Rattle.std.specs.List.{flat_map, filter}
use Rattle.std.proofs.lemmas.List.{append-nil, map-append}
use Rattle.nest_syntax.specs.declared.names.Line.{Line}
use Rattle.nest_syntax.specs.declared.operators.Op.{Op}
use Rattle.nest_syntax.specs.declared.tree.Expr.{Expr}
use Rattle.nest_syntax.specs.declared.tree.Arm.{Arm, roll-out-Arm, out-Arm}
use Rattle.nest_syntax.specs.declared.tree.Loop.{Loop}
use Rattle.nest_syntax.specs.declared.tree.Stmt.{Stmt}
use Rattle.nest_syntax.specs.declared.tree.Stmt.TheVariants as stmt
use Rattle.nest_syntax.specs.declared.tree.Stmt.TheVariants.{rolls-Declare, rolls-Assign, rolls-Write, rolls-If, rolls-Loop}
use Rattle.nest_syntax.specs.declared.tree.Stmt.TheOpen.{Stmt-F}
use Rattle.nest_syntax.specs.declared.tree.Stmt.TheFolds.{fold-roll-Stmt, para-roll-Stmt, para-roll-Arm}
use Rattle.nest_syntax.specs.declared.tree.Program.{Program}
use Rattle.nest_syntax.specs.Among.{Each}
use Rattle.nest_syntax.specs.Shape.{Entry, Plain, Declares, Invokes, body_of_loop, body_of_write, items, items_in_arm, items_of, invoked_in, invoked_in_region}
use Rattle.nest_syntax.proofs.Shapes.{items-declare, items-assign, items-write, items-if, items-loop, items_in_arm-is}
use Rattle.nest_syntax.proofs.Inductions.{stmt_induction, each_left, each_right, each_both}
use Rattle.nest_syntax.specs.Lowest.{lines_where}
use Rattle.nest_scope.specs.declared.occurrences.Level.{Level}
use Rattle.nest_scope.specs.declared.occurrences.Level.TheVariants as level
use Rattle.nest_scope.specs.declared.occurrences.Occurrence.{Occurrence}
use Rattle.nest_scope.specs.declared.occurrences.Action.TheVariants as action
use Rattle.nest_scope.specs.Occurrences.{Scope, Walk, Listing, bound as bound_to, with_bound, inner, variable_at, occurrence, read_in, in_same_scope, stmt_node, arm_node, loop_node, in_stmt, in_arm, in_loop, in_block, in_decls, in_regions, unbound, occurrences_of}
use Rattle.nest_scope.specs.Rules.{line_of, redeclares, uses_unknown, writes_const, assigns_loop_variable, assigns_scheduler_scalar, lines_redeclared, lines_unknown, lines_const_written, lines_loop_variable_assigned, lines_scheduler_scalar_assigned}
use Rattle.nest_scope.specs.Entered.{Entered, Entering, entered_by_arms, entered_node, entered_arm_node, entered_loop_node, entered_by, entered_by_arm, entered_in, entered_in_region, declared_scope, entered_of, IsBound, HasBoundNames}
use Rattle.nest_scope.proofs.Equations.{occurrences-if, occurrences-arm, occurrences-loop}

-- what each kind of item enters
pub entered-declare : (line : Line) (name : ℕ) (e : Expr) (scope : Scope) → entered_by (stmt.Declare line name e) scope ≡ []
entered-declare line name e scope = ap (λ s. entered_by s scope) (sym (rolls-Declare line name e)) ∙ ap (λ (f : Entering). f scope) (para-roll-Stmt Entering Entering Entering entered_node entered_arm_node entered_loop_node (Stmt-F.Declare line name e))

pub entered-assign : (line : Line) (name : ℕ) (o : Op) (e : Expr) (scope : Scope) → entered_by (stmt.Assign line name o e) scope ≡ []
entered-assign line name o e scope = ap (λ s. entered_by s scope) (sym (rolls-Assign line name o e)) ∙ ap (λ (f : Entering). f scope) (para-roll-Stmt Entering Entering Entering entered_node entered_arm_node entered_loop_node (Stmt-F.Assign line name o e))

pub entered-write : (line : Line) (name : ℕ) (p : Expr) (o : Op) (e : Expr) (scope : Scope) → entered_by (stmt.Write line name p o e) scope ≡ record { body = body_of_write line (stmt.Write line name p o e); level = level.Items; scope = scope } ∷ []
entered-write line name p o e scope = ap (λ s. entered_by s scope) (sym (rolls-Write line name p o e)) ∙ ap (λ (f : Entering). f scope) (para-roll-Stmt Entering Entering Entering entered_node entered_arm_node entered_loop_node (Stmt-F.Write line name p o e))

pub entered-if : (arms : List Arm) (other : List Stmt) (scope : Scope) → entered_by (stmt.If arms other) scope ≡ entered_by_arms (map (λ a. (a, entered_by_arm a)) arms) scope ++ entered_in other scope
entered-if arms other scope = ap (λ s. entered_by s scope) (sym (rolls-If arms other)) ∙ ap (λ (f : Entering). f scope) (para-roll-Stmt Entering Entering Entering entered_node entered_arm_node entered_loop_node (Stmt-F.If arms other))

pub entered-loop : (l : Loop) (scope : Scope) → entered_by (stmt.Loop l) scope ≡ record { body = body_of_loop l; level = level.Body; scope = with_bound scope l.name (variable_at level.Items) } ∷ []
entered-loop l scope = ap (λ s. entered_by s scope) (sym (rolls-Loop l)) ∙ ap (λ (f : Entering). f scope) (para-roll-Stmt Entering Entering Entering entered_node entered_arm_node entered_loop_node (Stmt-F.Loop l))

pub entered_by_arm-is : (a : Arm) (scope : Scope) → entered_by_arm a scope ≡ entered_in a.body scope
entered_by_arm-is a scope = ap (λ r. entered_by_arm r scope) (sym (roll-out-Arm a)) ∙ ap (λ (f : Entering). f scope) (para-roll-Arm Entering Entering Entering entered_node entered_arm_node entered_loop_node (out-Arm a))

-- which bodies these are
invoked-append : (xs ys : List Entry) → invoked_in (xs ++ ys) ≡ invoked_in xs ++ invoked_in ys
invoked-append [] ys = refl
invoked-append (Plain ∷ xs) ys = invoked-append xs ys
invoked-append (Declares d ∷ xs) ys = invoked-append xs ys
invoked-append (Invokes b ∷ xs) ys = ap (λ bodies. b ∷ bodies) (invoked-append xs ys)

abbrev IsInvoked : Stmt → Type 0
IsInvoked s = (scope : Scope) → map (λ (e : Entered). e.body) (entered_by s scope) ≡ invoked_in (items s)

two_parts : (xs ys : List Entered) (front back : List Entry) → map (λ (e : Entered). e.body) xs ≡ invoked_in front → map (λ (e : Entered). e.body) ys ≡ invoked_in back → map (λ (e : Entered). e.body) (xs ++ ys) ≡ invoked_in (front ++ back)
two_parts xs ys front back first second =
    map-append (λ (e : Entered). e.body) xs ys ∙ ap (λ l. l ++ map (λ (e : Entered). e.body) ys) first ∙ ap (λ l. invoked_in front ++ l) second ∙ sym (invoked-append front back)

block_invoked : (stmts : List Stmt) → Each IsInvoked stmts → (scope : Scope) → map (λ (e : Entered). e.body) (entered_in stmts scope) ≡ invoked_in (items_of stmts)
block_invoked [] each scope = refl
block_invoked (s ∷ stmts) each scope =
    let behind : Scope = (in_stmt s level.Items scope).behind in
    two_parts (entered_by s scope) (entered_in stmts behind) (items s) (items_of stmts) (each.0 scope) (block_invoked stmts each.1 behind)

arms_invoked : (arms : List Arm) → Each (λ (a : Arm). Each IsInvoked a.body) arms → (scope : Scope) → map (λ (e : Entered). e.body) (entered_by_arms (map (λ a. (a, entered_by_arm a)) arms) scope) ≡ invoked_in (flat_map items_in_arm arms)
arms_invoked [] each scope = refl
arms_invoked (a ∷ arms) each scope =
    two_parts (entered_by_arm a scope) (entered_by_arms (map (λ r. (r, entered_by_arm r)) arms) scope) (items_in_arm a) (flat_map items_in_arm arms)
    (ap (map (λ (e : Entered). e.body)) (entered_by_arm-is a scope) ∙ block_invoked a.body each.0 scope ∙ ap invoked_in (sym (items_in_arm-is a)))
    (arms_invoked arms each.1 scope)

invoked : (s : Stmt) → IsInvoked s
invoked = stmt_induction IsInvoked
    (λ line name e scope. ap (map (λ (x : Entered). x.body)) (entered-declare line name e scope) ∙ ap invoked_in (sym (items-declare line name e)))
    (λ line name o e scope. ap (map (λ (x : Entered). x.body)) (entered-assign line name o e scope) ∙ ap invoked_in (sym (items-assign line name o e)))
    (λ line name p o e scope. ap (map (λ (x : Entered). x.body)) (entered-write line name p o e scope) ∙ ap invoked_in (sym (items-write line name p o e)))
    (λ arms other in_arms in_other scope.
    ap (map (λ (x : Entered). x.body)) (entered-if arms other scope)
    ∙ two_parts (entered_by_arms (map (λ a. (a, entered_by_arm a)) arms) scope) (entered_in other scope) (flat_map items_in_arm arms) (items_of other) (arms_invoked arms in_arms scope) (block_invoked other in_other scope)
    ∙ ap invoked_in (sym (items-if arms other)))
    (λ l inside scope. ap (map (λ (x : Entered). x.body)) (entered-loop l scope) ∙ ap invoked_in (sym (items-loop l)))

each_invoked : (stmts : List Stmt) → Each IsInvoked stmts
each_invoked [] = tt
each_invoked (s ∷ stmts) = (invoked s, each_invoked stmts)

pub regions_invoked : (scope : Scope) (regions : List Loop) → map (λ (e : Entered). e.body) (flat_map (entered_in_region scope) regions) ≡ flat_map invoked_in_region regions
regions_invoked scope [] = refl
regions_invoked scope (l ∷ regions) =
    map-append (λ (e : Entered). e.body) (entered_in_region scope l) (flat_map (entered_in_region scope) regions)
    ∙ ap (λ bodies. bodies ++ map (λ (e : Entered). e.body) (flat_map (entered_in_region scope) regions)) (block_invoked l.body (each_invoked l.body) (with_bound scope l.name (variable_at level.Outside)))
    ∙ ap (λ bodies. invoked_in_region l ++ bodies) (regions_invoked scope regions)

pub loop_is : (at : Level) (l : Loop) (scope : Scope) → (in_stmt (stmt.Loop l) at scope).occurrences ≡ in_loop l at scope
loop_is at l scope =
    ap (λ s. (in_stmt s at scope).occurrences) (sym (rolls-Loop l))
    ∙ ap (λ (p : Walk). (p at scope).occurrences) (fold-roll-Stmt Walk Listing Listing stmt_node arm_node loop_node (Stmt-F.Loop l))

-- what holds of each occurrence among the items holds of each in the bodies
module _ (P : Occurrence → Type 0) where
  abbrev HasEach : Entered → Type 0
  HasEach e = Each P (in_block e.body.stmts e.level e.scope)

  abbrev Keeps : Stmt → Type 0
  Keeps s = (scope : Scope) → Each P (in_stmt s level.Items scope).occurrences → Each HasEach (entered_by s scope)

  block_bound : (stmts : List Stmt) → Each Keeps stmts → (scope : Scope) → Each P (in_block stmts level.Items scope) → Each HasEach (entered_in stmts scope)
  block_bound [] each scope bound = tt
  block_bound (s ∷ stmts) each scope bound =
      let behind : Scope = (in_stmt s level.Items scope).behind in
      let here : List Occurrence = (in_stmt s level.Items scope).occurrences in
      each_both HasEach (entered_by s scope) (entered_in stmts behind)
      (each.0 scope (each_left P here (in_block stmts level.Items behind) bound))
      (block_bound stmts each.1 behind (each_right P here (in_block stmts level.Items behind) bound))

  arms_bound : (arms : List Arm) → Each (λ (a : Arm). Each Keeps a.body) arms → (scope : Scope) → Each P (in_same_scope (map in_arm arms) level.Items scope) → Each HasEach (entered_by_arms (map (λ a. (a, entered_by_arm a)) arms) scope)
  arms_bound [] each scope bound = tt
  arms_bound (a ∷ arms) each scope bound =
      let rest : List Occurrence = in_same_scope (map in_arm arms) level.Items scope in
      let here : Each P (read_in a.line level.Items scope a.test ++ in_block a.body level.Items scope) = subst (Each P) (occurrences-arm level.Items scope a) (each_left P (in_arm a level.Items scope) rest bound) in
      each_both HasEach (entered_by_arm a scope) (entered_by_arms (map (λ r. (r, entered_by_arm r)) arms) scope)
      (subst (Each HasEach) (sym (entered_by_arm-is a scope)) (block_bound a.body each.0 scope (each_right P (read_in a.line level.Items scope a.test) (in_block a.body level.Items scope) here)))
      (arms_bound arms each.1 scope (each_right P (in_arm a level.Items scope) rest bound))

  -- the body of a loop whose names are bound
  inside_bound : (at : Level) (scope : Scope) (l : Loop) → Each P (in_loop l at scope) → Each P (in_block l.body (inner at) (with_bound scope l.name (variable_at at)))
  inside_bound at scope l bound =
      let inside : Scope = with_bound scope l.name (variable_at at) in
      let low : List Occurrence = read_in l.line at scope l.low in
      let high : List Occurrence = read_in l.line at inside l.high in
      let body : List Occurrence = in_block l.body (inner at) inside in
      let parts : Each P (occurrence l.line at action.Declared (bound_to scope l.name) ∷ (low ++ (high ++ body))) = subst (Each P) (occurrences-loop at scope l) bound in
      each_right P high body (each_right P low (high ++ body) parts.1)

  keeps : (s : Stmt) → Keeps s
  keeps = stmt_induction Keeps
      (λ line name e scope bound. subst (Each HasEach) (sym (entered-declare line name e scope)) tt)
      (λ line name o e scope bound. subst (Each HasEach) (sym (entered-assign line name o e scope)) tt)
      (λ line name p o e scope bound.
      subst (Each HasEach) (sym (entered-write line name p o e scope)) (subst (Each P) (sym (append-nil (in_stmt (stmt.Write line name p o e) level.Items scope).occurrences)) bound, tt))
      (λ arms other in_arms in_other scope bound.
      let parts : Each P (in_same_scope (map in_arm arms) level.Items scope ++ in_block other level.Items scope) = subst (Each P) (occurrences-if level.Items scope arms other) bound in
      subst (Each HasEach) (sym (entered-if arms other scope))
      (each_both HasEach (entered_by_arms (map (λ a. (a, entered_by_arm a)) arms) scope) (entered_in other scope)
      (arms_bound arms in_arms scope (each_left P (in_same_scope (map in_arm arms) level.Items scope) (in_block other level.Items scope) parts))
      (block_bound other in_other scope (each_right P (in_same_scope (map in_arm arms) level.Items scope) (in_block other level.Items scope) parts))))
      (λ l inside scope bound. subst (Each HasEach) (sym (entered-loop l scope)) (inside_bound level.Items scope l (subst (Each P) (loop_is level.Items l scope) bound), tt))

  each_keeps : (stmts : List Stmt) → Each Keeps stmts
  each_keeps [] = tt
  each_keeps (s ∷ stmts) = (keeps s, each_keeps stmts)

  -- what holds of each occurrence in the regions holds of each in the bodies that are entered there
  pub regions_bound : (scope : Scope) (regions : List Loop) → Each P (in_regions regions scope) → Each HasEach (flat_map (entered_in_region scope) regions)
  regions_bound scope [] bound = tt
  regions_bound scope (l ∷ regions) bound =
      each_both HasEach (entered_in_region scope l) (flat_map (entered_in_region scope) regions)
      (block_bound l.body (each_keeps l.body) (with_bound scope l.name (variable_at level.Outside)) (inside_bound level.Outside scope l (each_left P (in_loop l level.Outside scope) (in_regions regions scope) bound)))
      (regions_bound scope regions (each_right P (in_loop l level.Outside scope) (in_regions regions scope) bound))

  pub program_bound : (program : Program) → Each P (occurrences_of program) → Each HasEach (entered_of program)
  program_bound program each = regions_bound (declared_scope program) program.regions (each_right P (in_decls program.decls (unbound (length program.names))) (in_regions program.regions (declared_scope program)) each)

-- where no line breaks a rule, no occurrence does
pub none_where : (breaks : Occurrence → Bool) (o : Occurrence) (os : List Occurrence) → lines_where line_of breaks (o ∷ os) ≡ [] → (breaks o ≡ false) × (lines_where line_of breaks os ≡ [])
none_where breaks o os none = by (breaks o) refl none
  where
    by : (b : Bool) → breaks o ≡ b → map line_of (if b then o ∷ filter breaks os else filter breaks os) ≡ [] → (breaks o ≡ false) × (lines_where line_of breaks os ≡ [])
    by true is none' = absurd cc
    by false is none' = (is, none')

all_bound : (os : List Occurrence) → lines_where line_of redeclares os ≡ [] → lines_where line_of uses_unknown os ≡ [] → lines_where line_of writes_const os ≡ [] → lines_where line_of assigns_loop_variable os ≡ [] → lines_where line_of assigns_scheduler_scalar os ≡ [] → Each IsBound os
all_bound [] once known constant variables scheduled = tt
all_bound (o ∷ os) once known constant variables scheduled =
    let a = none_where redeclares o os once in
    let b = none_where uses_unknown o os known in
    let c = none_where writes_const o os constant in
    let d = none_where assigns_loop_variable o os variables in
    let e = none_where assigns_scheduler_scalar o os scheduled in
    (record { declared_once = a.0; known = b.0; constant = c.0; variables = d.0; scheduled = e.0 }, all_bound os a.1 b.1 c.1 d.1 e.1)

pub bodies_bound : (program : Program) → lines_redeclared program ≡ [] → lines_unknown program ≡ [] → lines_const_written program ≡ [] → lines_loop_variable_assigned program ≡ [] → lines_scheduler_scalar_assigned program ≡ [] → Each HasBoundNames (entered_of program)
bodies_bound program once known constant variables scheduled =
    program_bound IsBound program (all_bound (occurrences_of program) once known constant variables scheduled)
