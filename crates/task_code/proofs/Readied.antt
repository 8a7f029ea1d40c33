-- That the bodies of a program that keeps the rules can be compiled.
use Rattle.std.proofs.Common.{◌≡◌, ◌≢◌, ℕ, zero, suc, ◌+◌, ◌<◌, ◌≤◌, Bool, true, false, ◌&&◌, ◌||◌, ◌==◌, nat_lt, if◌then◌else◌, Option, Some, None, ◌⊎◌, inl, inr, List, [], ◌∷◌, ◌++◌, map, length, refl, sym, ap, ◌∙◌, subst, arith}
use Rattle.std.specs.Prelude.{IsTrue, is_some}
use Rattle.std.specs.List.{list_all, flat_map, concat}
use Rattle.std.specs.Option.{option_map_or}
use Rattle.std.proofs.lemmas.Bool.{and_parts, ltb-true, ltb-false, eqb-true, eq-eqb}
use Rattle.std.proofs.lemmas.Bool.Decides.{eqb_tells}
use Rattle.std.proofs.lemmas.List.{get_or-set_same, length-map}
use Rattle.nest_syntax.specs.declared.names.Line.{Line}
use Rattle.nest_syntax.specs.declared.operators.Op.{Op as Change}
use Rattle.nest_syntax.specs.declared.tree.Expr.{Expr}
use Rattle.nest_syntax.specs.declared.tree.Arm.{Arm}
use Rattle.nest_syntax.specs.declared.tree.Loop.{Loop}
use Rattle.nest_syntax.specs.declared.tree.Stmt.{Stmt}
use Rattle.nest_syntax.specs.declared.tree.Stmt.TheOpen.{Stmt-F}
use Rattle.nest_syntax.specs.declared.tree.Stmt.TheFolds.{fold-roll-Stmt}
use Rattle.nest_syntax.specs.declared.tree.Stmt.TheVariants as stmt
use Rattle.nest_syntax.specs.declared.tree.Stmt.TheVariants.{rolls-Declare, rolls-Write, rolls-If, rolls-Loop}
use Rattle.nest_syntax.specs.declared.tree.Program.{Program}
use Rattle.nest_syntax.specs.Among.{Each, is_among}
use Rattle.nest_syntax.specs.Named.{expr_named, stmt_named, arm_named, header_named, loop_named, IsWellNamed}
use Rattle.nest_syntax.specs.Lowest.{lines_where}
use Rattle.nest_syntax.specs.Shape.{Declaration, Body, body_of_loop, body_of_write, invoked_in_region, invoked_by, bodies_of, statements_of_each}
use Rattle.nest_syntax.specs.Locals.{given, given_in_arm, names_given, locals_of}
use Rattle.nest_syntax.proofs.Equations.{given-declare, given-assign, given-write, given-if, given-loop, given_in_arm-is, given_in_loop-is}
use Rattle.nest_syntax.proofs.Inductions.{stmt_induction, each_left, each_right, each_both}
use Rattle.nest_scope.specs.declared.occurrences.Binding.{Binding}
use Rattle.nest_scope.specs.declared.occurrences.Binding.TheVariants as binding
use Rattle.nest_scope.specs.Occurrences.{Scope, bound, with_bound}
use Rattle.nest_scope.specs.Entered.{Entered, entered_of, declared_scope, is_schedulers}
use Rattle.nest_scope.proofs.Entered.{regions_invoked}
use Rattle.nest_scope.proofs.Around.{EnteredFrom, by_loop, by_write, IsFrom}
use Rattle.nest_check.specs.Kept.{KeepsRules}
use Rattle.nest_check.specs.Entries.{statements_of, scheduler_scalars}
use Rattle.nest_check.specs.Declarations.{index_of_name, names_of, lines_of, first_of_each}
use Rattle.nest_check.specs.Tables.{scalar_of}
use Rattle.nest_check.specs.Parts.{Parts_at, Part, ALoop, AnExpression, all_at, parts, parts_in_arm, parts_in_loop, parts_node, arm_parts_node, loop_parts_node}
use Rattle.nest_check.specs.Rules.{part_line, parts_of, is_deep, first_behind, is_large_body, line_of_body, large_bodies}
use Rattle.nest_check.specs.Rules as rule
use Rattle.nest_check.proofs.PartNodes.{parts_in_arm-is, parts_in_loop-is}
use Rattle.body_names.specs.Uses.{names_used}
use Rattle.body_names.specs.Laws.{HasNamesFromOutside, AssignsLocals, is_from_outside, is_variable}
use Rattle.body_names.proofs.Names.{bound_other}
use Rattle.body_names.proofs.Programs.{names_in_bodies}
use Rattle.body_names.proofs.Assigned.{bodies_assign}
use Rattle.bound_names.proofs.Scopes.{named, named_arm, all_named, named-if, named-loop, named_arm-is, loop_named-is}
use Rattle.bound_names.proofs.Outside.{Outside, scalar_some, entered_outside}
use Rattle.task_code.specs.Ready.{register_by, register_of, block_ready}
use Rattle.task_code.specs.Bodies.{layout_of}
use Rattle.task_code.specs.CodeOf.{IsReady}
use Rattle.task_code.proofs.Fits.{none_where, PartFits, parts_fit, HasRegister, IsLocal, body_fits}
use Rattle.task_code.proofs.Invoked.{regions_have}
use Rattle.task_code.proofs.Zeros.{each_of, each_at}
use Rattle.task_code.proofs.Layouts.{loop_layout, write_layout}
use Rattle.task_code.proofs.Opening.{write_opens, loop_opens}

-- the parts of each kind of item
parts-if : (arms : List Arm) (other : List Stmt) (at : ℕ) → parts (stmt.If arms other) at ≡ all_at (map parts_in_arm arms) at ++ all_at (map parts other) at
parts-if arms other at = ap (λ s. parts s at) (sym (rolls-If arms other)) ∙ ap (λ (p : Parts_at). p at) (fold-roll-Stmt Parts_at Parts_at Parts_at parts_node arm_parts_node loop_parts_node (Stmt-F.If arms other))

parts-loop : (l : Loop) (at : ℕ) → parts (stmt.Loop l) at ≡ ALoop l.line l.step at ∷ AnExpression l.line l.low ∷ AnExpression l.line l.high ∷ all_at (map parts l.body) (suc at)
parts-loop l at = ap (λ s. parts s at) (sym (rolls-Loop l)) ∙ ap (λ (p : Parts_at). p at) (fold-roll-Stmt Parts_at Parts_at Parts_at parts_node arm_parts_node loop_parts_node (Stmt-F.Loop l)) ∙ parts_in_loop-is l at

parts-write : (line : Line) (name : ℕ) (p : Expr) (o : Change) (e : Expr) (at : ℕ) → parts (stmt.Write line name p o e) at ≡ AnExpression line p ∷ AnExpression line e ∷ []
parts-write line name p o e at = ap (λ s. parts s at) (sym (rolls-Write line name p o e)) ∙ ap (λ (f : Parts_at). f at) (fold-roll-Stmt Parts_at Parts_at Parts_at parts_node arm_parts_node loop_parts_node (Stmt-F.Write line name p o e))

module _ (count : ℕ) where
  -- the names of locals are names
  named-declare : (line : Line) (name : ℕ) (e : Expr) → named count (stmt.Declare line name e) ≡ (nat_lt name count && expr_named count e)
  named-declare line name e = ap (named count) (sym (rolls-Declare line name e)) ∙ fold-roll-Stmt Bool Bool Bool (stmt_named count) (arm_named count) (header_named count) (Stmt-F.Declare line name e)

  abbrev Below : ℕ → Type 0
  Below name = name < count

  abbrev AllBelow : Stmt → Type 0
  AllBelow s = IsTrue (named count s) → Each Below (given false s)

  block_below : (stmts : List Stmt) → Each AllBelow stmts → IsTrue (all_named count stmts) → Each Below (names_given false stmts)
  block_below [] each names = tt
  block_below (s ∷ stmts) each names =
      let both = and_parts (named count s) (all_named count stmts) names in
      each_both Below (given false s) (names_given false stmts) (each.0 both.0) (block_below stmts each.1 both.1)

  arms_below : (arms : List Arm) → Each (λ (a : Arm). Each AllBelow a.body) arms → IsTrue (list_all (λ a. a) (map (named_arm count) arms)) → Each Below (concat (map (given_in_arm false) arms))
  arms_below [] each names = tt
  arms_below (a ∷ arms) each names =
      let both = and_parts (named_arm count a) (list_all (λ a. a) (map (named_arm count) arms)) names in
      let inside = and_parts (expr_named count a.test) (all_named count a.body) (subst IsTrue (named_arm-is count a) both.0) in
      each_both Below (given_in_arm false a) (concat (map (given_in_arm false) arms)) (subst (Each Below) (sym (given_in_arm-is false a)) (block_below a.body each.0 inside.1)) (arms_below arms each.1 both.1)

  loop_parts : (l : Loop) → IsTrue (loop_named count l) → (l.name < count) × IsTrue (all_named count l.body)
  loop_parts l names =
      let a = and_parts (nat_lt l.name count) (expr_named count l.low && (expr_named count l.high && all_named count l.body)) (subst IsTrue (loop_named-is count l) names) in
      let b = and_parts (expr_named count l.low) (expr_named count l.high && all_named count l.body) a.1 in
      (ltb-true l.name count a.0, (and_parts (expr_named count l.high) (all_named count l.body) b.1).1)

  below : (s : Stmt) → AllBelow s
  below = stmt_induction AllBelow
      (λ line name e names. subst (Each Below) (sym (given-declare false line name e)) (ltb-true name count (and_parts (nat_lt name count) (expr_named count e) (subst IsTrue (named-declare line name e) names)).0, tt))
      (λ line name o e names. subst (Each Below) (sym (given-assign false line name o e)) tt)
      (λ line name p o e names. subst (Each Below) (sym (given-write false line name p o e)) tt)
      (λ arms other in_arms in_other names.
      let both = and_parts (list_all (λ a. a) (map (named_arm count) arms)) (all_named count other) (subst IsTrue (named-if count arms other) names) in
      subst (Each Below) (sym (given-if false arms other)) (each_both Below (concat (map (given_in_arm false) arms)) (names_given false other) (arms_below arms in_arms both.0) (block_below other in_other both.1)))
      (λ l inside names.
      let both = loop_parts l (subst IsTrue (named-loop count l) names) in
      subst (Each Below) (sym (given-loop false l ∙ given_in_loop-is false l)) (both.0, block_below l.body inside both.1))

  each_below : (stmts : List Stmt) → Each AllBelow stmts
  each_below [] = tt
  each_below (s ∷ stmts) = (below s, each_below stmts)

  locals_below : (stmts : List Stmt) → IsTrue (all_named count stmts) → Each Below (locals_of stmts)
  locals_below stmts = block_below stmts (each_below stmts)

  -- what is known of a body from the text of its region
  abbrev HeaderBelow : Option Loop → Type 0
  HeaderBelow None = Unit {0}
  HeaderBelow (Some l) = l.name < count

  record TextFits (b : Body) : Type 0 where
    pub fit : Each PartFits (all_at (map parts b.stmts) 3)
    pub variable : HeaderBelow b.header
    pub locals : Each Below (locals_of b.stmts)

  abbrev ItemFits : Stmt → Type 0
  ItemFits s = Each PartFits (parts s 2) × IsTrue (named count s)

  block_parts : (stmts : List Stmt) → Each PartFits (all_at (map parts stmts) 2) → IsTrue (all_named count stmts) → Each ItemFits stmts
  block_parts [] fit names = tt
  block_parts (s ∷ stmts) fit names =
      let both = and_parts (named count s) (all_named count stmts) names in
      ((each_left PartFits (parts s 2) (all_at (map parts stmts) 2) fit, both.0), block_parts stmts (each_right PartFits (parts s 2) (all_at (map parts stmts) 2) fit) both.1)

  arms_parts : (arms : List Arm) → Each PartFits (all_at (map parts_in_arm arms) 2) → IsTrue (list_all (λ a. a) (map (named_arm count) arms)) → Each (λ (a : Arm). Each ItemFits a.body) arms
  arms_parts [] fit names = tt
  arms_parts (a ∷ arms) fit names =
      let both = and_parts (named_arm count a) (list_all (λ a. a) (map (named_arm count) arms)) names in
      let inside = and_parts (expr_named count a.test) (all_named count a.body) (subst IsTrue (named_arm-is count a) both.0) in
      let here : Each PartFits (AnExpression a.line a.test ∷ all_at (map parts a.body) 2) = subst (Each PartFits) (parts_in_arm-is a 2) (each_left PartFits (parts_in_arm a 2) (all_at (map parts_in_arm arms) 2) fit) in
      (block_parts a.body here.1 inside.1, arms_parts arms (each_right PartFits (parts_in_arm a 2) (all_at (map parts_in_arm arms) 2) fit) both.1)

  regions_parts : (regions : List Loop) → Each PartFits (all_at (map parts_in_loop regions) 1) → IsTrue (list_all (loop_named count) regions) → Each (λ (l : Loop). Each ItemFits l.body) regions
  regions_parts [] fit names = tt
  regions_parts (l ∷ regions) fit names =
      let both = and_parts (loop_named count l) (list_all (loop_named count) regions) names in
      let here : Each PartFits (ALoop l.line l.step 1 ∷ AnExpression l.line l.low ∷ AnExpression l.line l.high ∷ all_at (map parts l.body) 2) = subst (Each PartFits) (parts_in_loop-is l 1) (each_left PartFits (parts_in_loop l 1) (all_at (map parts_in_loop regions) 1) fit) in
      (block_parts l.body here.1.1.1 (loop_parts l both.0).1, regions_parts regions (each_right PartFits (parts_in_loop l 1) (all_at (map parts_in_loop regions) 1) fit) both.1)

  texts_fit : (regions : List Loop) → Each PartFits (all_at (map parts_in_loop regions) 1) → IsTrue (list_all (loop_named count) regions) → Each TextFits (flat_map invoked_in_region regions)
  texts_fit regions fit names = regions_have ItemFits TextFits
      (λ arms other holds.
      let both = and_parts (list_all (λ a. a) (map (named_arm count) arms)) (all_named count other) (subst IsTrue (named-if count arms other) holds.1) in
      let all : Each PartFits (all_at (map parts_in_arm arms) 2 ++ all_at (map parts other) 2) = subst (Each PartFits) (parts-if arms other 2) holds.0 in
      (arms_parts arms (each_left PartFits (all_at (map parts_in_arm arms) 2) (all_at (map parts other) 2) all) both.0, block_parts other (each_right PartFits (all_at (map parts_in_arm arms) 2) (all_at (map parts other) 2) all) both.1))
      (λ l holds.
      let here : Each PartFits (ALoop l.line l.step 2 ∷ AnExpression l.line l.low ∷ AnExpression l.line l.high ∷ all_at (map parts l.body) 3) = subst (Each PartFits) (parts-loop l 2) holds.0 in
      let both = loop_parts l (subst IsTrue (named-loop count l) holds.1) in
      record { fit = here.1.1.1; variable = both.0; locals = locals_below l.body both.1 })
      (λ line name p o e holds.
      let s : Stmt = stmt.Write line name p o e in
      let here : Each PartFits (AnExpression line p ∷ AnExpression line e ∷ []) = subst (Each PartFits) (parts-write line name p o e 2) holds.0 in
      record {
        fit = each_both PartFits (parts s 3) [] (subst (Each PartFits) (sym (parts-write line name p o e 3)) here) tt;
        variable = tt;
        locals = each_both Below (given false s) [] (subst (Each Below) (sym (given-write false line name p o e)) tt) tt;
      })
      regions (regions_parts regions fit names)

-- a list that is empty has empty parts
nil_left : {A : Type 0} (xs ys : List A) → xs ++ ys ≡ [] → xs ≡ []
nil_left [] ys e = refl
nil_left (x ∷ xs) ys e = absurd cc

program_parts : (program : Program) → KeepsRules program → Each PartFits (parts_of program)
program_parts program keeps = parts_fit (parts_of program) keeps.steps keeps.levels (nil_left (lines_where part_line is_deep (parts_of program)) (first_behind 32 (lines_of (first_of_each (scheduler_scalars program)))) keeps.depths)

-- few locals
abbrev IsSmall : Body → Type 0
IsSmall b = length (layout_of b) ≤ 16

right_false : (a b : Bool) → (a || b) ≡ false → b ≡ false
right_false true b e = absurd cc
right_false false b e = e

small : (b : Body) → is_large_body b ≡ false → IsSmall b
small b is =
    let few : length (rule.locals_of b) ≤ 16 = ltb-false 16 (length (rule.locals_of b)) (right_false (nat_lt 1024 (length (statements_of b.stmts))) (nat_lt 16 (length (rule.locals_of b))) is) in
    subst (λ n. n ≤ 16) (sym (length-map (rule.locals_of b) (λ (d : Declaration). d.0))) few

all_small : (bodies : List Body) → lines_where line_of_body is_large_body bodies ≡ [] → Each IsSmall bodies
all_small [] none = tt
all_small (b ∷ bodies) none = let here = none_where line_of_body is_large_body b bodies none in (small b here.0, all_small bodies here.1)

true_or : (a b : Bool) → b ≡ true → (a || b) ≡ true
true_or true b e = refl
true_or false b e = e

-- the names that a body uses have registers
local_register : (slot number : Option ℕ) → is_some slot ≡ true → IsTrue (is_some (register_by slot number))
local_register (Some slot) number is = refl
local_register None number is = absurd (let no : false ≡ true = is in cc)

numbered_register : (slot : Option ℕ) (n : ℕ) → IsTrue (is_some (register_by slot (Some n)))
numbered_register (Some slot) n = refl
numbered_register None n = refl

module _ (program : Program) (keeps : KeepsRules program) where
  module _ (b : Body) (scope : Scope) (local : (name : ℕ) → is_among (locals_of b.stmts) name ≡ true → is_some (index_of_name (layout_of b) name) ≡ true)
      (outside : (name : ℕ) → is_from_outside b.header name (bound scope name) ≡ true → HasRegister program (layout_of b) name)
      (known : (name : ℕ) → is_among (locals_of b.stmts) name ≡ false → is_among (names_used b.stmts) name ≡ true → is_from_outside b.header name (bound scope name) ≡ true) (assigns : AssignsLocals b.stmts) where
    given_local : (name : ℕ) → is_among (names_given true b.stmts) name ≡ true → IsLocal program (layout_of b) name
    given_local name given = by (is_among (locals_of b.stmts) name) refl where
      by : (t : Bool) → is_among (locals_of b.stmts) name ≡ t → IsLocal program (layout_of b) name
      by true there = local name there
      by false out = absurd (let no : true ≡ false = sym given ∙ assigns name out in cc)

    used_register : (name : ℕ) → is_among (names_used b.stmts) name ≡ true → HasRegister program (layout_of b) name
    used_register name used = by (is_among (locals_of b.stmts) name) refl where
      by : (t : Bool) → is_among (locals_of b.stmts) name ≡ t → HasRegister program (layout_of b) name
      by true there = local_register (index_of_name (layout_of b) name) (scalar_of program name) (local name there)
      by false out = outside name (known name out used)

    statements_ready : Each PartFits (all_at (map parts b.stmts) 3) → IsTrue (block_ready program (layout_of b) b.stmts 0)
    statements_ready fit = body_fits program (layout_of b) b.stmts 0 3 refl (omega arith) (each_of (IsLocal program (layout_of b)) (names_given true b.stmts) given_local)
        (each_of (HasRegister program (layout_of b)) (names_used b.stmts) used_register) fit

  scheduled : (locals : List ℕ) (name : ℕ) → ((n : ℕ) × (scalar_of program name ≡ Some n)) → HasRegister program locals name
  scheduled locals name number = subst (λ o. IsTrue (is_some (register_by (index_of_name locals name) o))) (sym number.1) (numbered_register (index_of_name locals name) number.0)

  body_ready : (e : Entered) (around : Scope) → EnteredFrom around e → Outside program around → HasNamesFromOutside e → AssignsLocals e.body.stmts → TextFits (length program.names) e.body → IsSmall e.body → IsReady program e.body
  body_ready _ around (by_write line array p o value) outside names assigns text few =
      let s : Stmt = stmt.Write line array p o value in
      let b : Body = body_of_write line s in
      record {
        few = few;
        ready = statements_ready b around (λ name there. write_layout line s name ∙ there)
            (λ name is. scheduled (layout_of b) name (scalar_some program name (outside.scalars name is))) (λ name out used. (names name).outside out used) assigns text.fit;
        opens = write_opens program keeps line s few (λ name is. each_at (Below (length program.names)) (locals_of (s ∷ [])) text.locals name (sym (write_layout line s name) ∙ is));
      }
  body_ready _ around (by_loop l) outside names assigns text few = record {
    few = few;
    ready = statements_ready b scope (λ name there. loop_layout l name ∙ true_or (l.name == name) (is_among (locals_of l.body) name) there) from_outside (λ name out used. (names name).outside out used) assigns text.fit;
    opens = loop_opens program keeps l few all_below apart;
  } where
    b : Body
    b = body_of_loop l

    scope : Scope
    scope = with_bound around l.name binding.LoopVariable

    by_name : (name : ℕ) → (((name == l.name) ≡ true) × (name ≡ l.name)) ⊎ (((name == l.name) ≡ false) × (name ≢ l.name)) → is_from_outside (Some l) name (bound scope name) ≡ true → HasRegister program (layout_of b) name
    by_name name (inl same) is = local_register (index_of_name (layout_of b) name) (scalar_of program name) (loop_layout l name ∙ ap (λ t. t || is_among (locals_of l.body) name) (eq-eqb l.name name (sym same.1)))
    by_name name (inr other) is =
        let of_scheduler : is_schedulers (bound scope name) ≡ true = sym (ap (λ t. if t then is_variable (bound scope name) else is_schedulers (bound scope name)) other.0) ∙ is in
        scheduled (layout_of b) name (scalar_some program name (outside.scalars name (sym (ap is_schedulers (bound_other around l.name name binding.LoopVariable other.1)) ∙ of_scheduler)))

    from_outside : (name : ℕ) → is_from_outside (Some l) name (bound scope name) ≡ true → HasRegister program (layout_of b) name
    from_outside name is = by_name name (eqb_tells name l.name) is

    all_below : (name : ℕ) → is_some (index_of_name (layout_of b) name) ≡ true → name < length program.names
    all_below name is = by (l.name == name) refl (sym (loop_layout l name) ∙ is) where
      by : (t : Bool) → (l.name == name) ≡ t → (t || is_among (locals_of l.body) name) ≡ true → name < length program.names
      by true same there = subst (λ n. n < length program.names) (eqb-true l.name name same) text.variable
      by false other there = each_at (Below (length program.names)) (locals_of l.body) text.locals name there

    apart : is_among (locals_of l.body) l.name ≡ false
    apart = by (is_among (locals_of l.body) l.name) refl where
      by : (t : Bool) → is_among (locals_of l.body) l.name ≡ t → is_among (locals_of l.body) l.name ≡ false
      by false is = is
      by true is = absurd (let wrong : binding.LoopVariable ≡ binding.Unbound =
          sym (get_or-set_same around l.name binding.LoopVariable binding.Unbound (subst (λ n. l.name < n) (sym outside.many) text.variable)) ∙ (names l.name).local is in cc)

  all_ready : (entered : List Entered) → Each (IsFrom (Outside program)) entered → Each HasNamesFromOutside entered → Each AssignsLocals (statements_of_each (map (λ (e : Entered). e.body) entered))
      → Each (TextFits (length program.names)) (map (λ (e : Entered). e.body) entered) → Each IsSmall (map (λ (e : Entered). e.body) entered) → Each (IsReady program) (map (λ (e : Entered). e.body) entered)
  all_ready [] from names assigns texts few = tt
  all_ready (e ∷ entered) from names assigns texts few = (body_ready e from.0.0 from.0.1.1 from.0.1.0 names.0 assigns.0 texts.0 few.0, all_ready entered from.1 names.1 assigns.1 texts.1 few.1)

  pub bodies_ready : IsWellNamed program → Each (IsReady program) (invoked_by program)
  bodies_ready named =
      let same : map (λ (e : Entered). e.body) (entered_of program) ≡ invoked_by program = regions_invoked (declared_scope program) program.regions in
      subst (Each (IsReady program)) same
      (all_ready (entered_of program) (entered_outside program named keeps) (names_in_bodies program keeps.declared_once keeps.known)
      (subst (λ bodies. Each AssignsLocals (statements_of_each bodies)) (sym same) (bodies_assign program keeps.known keeps.variables keeps.scheduled))
      (subst (Each (TextFits (length program.names))) (sym same) (texts_fit (length program.names) program.regions (program_parts program keeps) named.regions))
      (subst (Each IsSmall) (sym same) (all_small (invoked_by program) keeps.bodies)))
