-- The variables of invocations and the scalars of the scheduler are names of the program, and a body's variable is one of
-- its locals.
use Rattle.std.proofs.Common.{◌≡◌, ℕ, suc, ◌<◌, ◌==◌, ◌&&◌, ◌||◌, nat_lt, if◌then◌else◌, Bool, true, false, IsTrue, Option, Some, None, List, [], ◌∷◌, ◌++◌, map, length, refl, sym, ap, ◌∙◌, subst, eq-eqb}
use Rattle.std.specs.List.{list_all, flat_map}
use Rattle.std.specs.Option.{option_map, option_map_or}
use Rattle.std.proofs.lemmas.Bool.{and_parts, ltb-true, eqb-true}
use Rattle.nest_syntax.specs.declared.tree.Arm.{Arm}
use Rattle.nest_syntax.specs.declared.tree.Decl.{Decl}
use Rattle.nest_syntax.specs.declared.tree.Decl.TheVariants as decl
use Rattle.nest_syntax.specs.declared.tree.Expr.{Expr}
use Rattle.nest_syntax.specs.declared.tree.Loop.{Loop}
use Rattle.nest_syntax.specs.declared.tree.Program.{Program}
use Rattle.nest_syntax.specs.declared.tree.Stmt.{Stmt}
use Rattle.nest_syntax.specs.declared.tree.Stmt.TheOpen.{Stmt-F}
use Rattle.nest_syntax.specs.declared.tree.Stmt.TheFolds.{fold-roll-Stmt}
use Rattle.nest_syntax.specs.declared.tree.Stmt.TheVariants as stmt
use Rattle.nest_syntax.specs.declared.tree.Stmt.TheVariants.{rolls-Declare}
use Rattle.nest_syntax.specs.declared.names.Line.{Line}
use Rattle.nest_syntax.specs.Among.{Each}
use Rattle.nest_syntax.specs.Named.{expr_named, stmt_named, arm_named, header_named, loop_named, decl_named, IsWellNamed}
use Rattle.nest_syntax.specs.Shape.{Declaration, Body, Entry, Plain, Declares, Invokes, items, items_in_arm, items_of, declarations_in, invoked_in, invoked_in_region, invoked_by}
use Rattle.nest_syntax.proofs.Shapes.{items-declare, items-assign, items-write, items-if, items-loop, items_in_arm-is}
use Rattle.nest_syntax.proofs.Inductions.{stmt_induction, each_both}
use Rattle.nest_check.specs.Declarations.{has_name, with_declaration, first_of_each, names_of, index_of_name}
use Rattle.nest_check.specs.Through.{through}
use Rattle.nest_check.specs.Entries.{statements_of, scalars_in, scalars_in_region, scheduler_scalars}
use Rattle.nest_check.specs.Tables.{scalar_of}
use Rattle.nest_check.specs.Rules.{locals_of}
use Rattle.bound_names.proofs.Scopes.{named, named_arm, all_named, named-if, named-loop, named_arm-is, loop_named-is}
use Rattle.bound_names.proofs.Outside.{has_left}

module _ (count : ℕ) where
  -- the names that items declare and bind are below a count
  abbrev Below : Declaration → Type 0
  Below d = d.0 < count

  abbrev pub HeaderBelow : Option Loop → Type 0
  HeaderBelow None = Unit {0}
  HeaderBelow (Some l) = l.name < count

  abbrev pub BodyBelow : Body → Type 0
  BodyBelow body = HeaderBelow body.header

  abbrev EntryBelow : Entry → Type 0
  EntryBelow Plain = Unit {0}
  EntryBelow (Declares d) = Below d
  EntryBelow (Invokes body) = BodyBelow body

  abbrev ItemsBelow : Stmt → Type 0
  ItemsBelow s = IsTrue (named count s) → Each EntryBelow (items s)

  named-declare : (line : Line) (name : ℕ) (e : Expr) → named count (stmt.Declare line name e) ≡ (nat_lt name count && expr_named count e)
  named-declare line name e = ap (named count) (sym (rolls-Declare line name e)) ∙ fold-roll-Stmt Bool Bool Bool (stmt_named count) (arm_named count) (header_named count) (Stmt-F.Declare line name e)

  block_below : (stmts : List Stmt) → Each ItemsBelow stmts → IsTrue (all_named count stmts) → Each EntryBelow (items_of stmts)
  block_below [] each names = tt
  block_below (s ∷ stmts) each names =
      let both = and_parts (named count s) (all_named count stmts) names in
      each_both EntryBelow (items s) (items_of stmts) (each.0 both.0) (block_below stmts each.1 both.1)

  arms_below : (arms : List Arm) → Each (λ (a : Arm). Each ItemsBelow a.body) arms → IsTrue (list_all (λ a. a) (map (named_arm count) arms)) → Each EntryBelow (flat_map items_in_arm arms)
  arms_below [] each names = tt
  arms_below (a ∷ arms) each names =
      let both = and_parts (named_arm count a) (list_all (λ b. b) (map (named_arm count) arms)) names in
      let inside = and_parts (expr_named count a.test) (all_named count a.body) (subst IsTrue (named_arm-is count a) both.0) in
      each_both EntryBelow (items_in_arm a) (flat_map items_in_arm arms) (subst (Each EntryBelow) (sym (items_in_arm-is a)) (block_below a.body each.0 inside.1)) (arms_below arms each.1 both.1)

  loop_parts : (l : Loop) → IsTrue (loop_named count l) → (l.name < count) × IsTrue (all_named count l.body)
  loop_parts l names =
      let a = and_parts (nat_lt l.name count) (expr_named count l.low && (expr_named count l.high && all_named count l.body)) (subst IsTrue (loop_named-is count l) names) in
      let b = and_parts (expr_named count l.low) (expr_named count l.high && all_named count l.body) a.1 in
      (ltb-true l.name count a.0, (and_parts (expr_named count l.high) (all_named count l.body) b.1).1)

  below : (s : Stmt) → ItemsBelow s
  below = stmt_induction ItemsBelow
      (λ line name e names. subst (Each EntryBelow) (sym (items-declare line name e)) (ltb-true name count (and_parts (nat_lt name count) (expr_named count e) (subst IsTrue (named-declare line name e) names)).0, tt))
      (λ line name o e names. subst (Each EntryBelow) (sym (items-assign line name o e)) (tt, tt))
      (λ line name p o e names. subst (Each EntryBelow) (sym (items-write line name p o e)) (tt, tt))
      (λ arms other in_arms in_other names.
      let both = and_parts (list_all (λ a. a) (map (named_arm count) arms)) (all_named count other) (subst IsTrue (named-if count arms other) names) in
      subst (Each EntryBelow) (sym (items-if arms other)) (tt, each_both EntryBelow (flat_map items_in_arm arms) (items_of other) (arms_below arms in_arms both.0) (block_below other in_other both.1)))
      (λ l inside names. subst (Each EntryBelow) (sym (items-loop l)) ((loop_parts l (subst IsTrue (named-loop count l) names)).0, tt))

  each_below : (stmts : List Stmt) → Each ItemsBelow stmts
  each_below [] = tt
  each_below (s ∷ stmts) = (below s, each_below stmts)

  -- so are the bodies and the declarations among items
  invoked_below : (entries : List Entry) → Each EntryBelow entries → Each BodyBelow (invoked_in entries)
  invoked_below [] each = tt
  invoked_below (Plain ∷ entries) each = invoked_below entries each.1
  invoked_below (Declares d ∷ entries) each = invoked_below entries each.1
  invoked_below (Invokes body ∷ entries) each = (each.0, invoked_below entries each.1)

  declared_below : (entries : List Entry) → Each EntryBelow entries → Each Below (declarations_in entries)
  declared_below [] each = tt
  declared_below (Plain ∷ entries) each = declared_below entries each.1
  declared_below (Declares d ∷ entries) each = (each.0, declared_below entries each.1)
  declared_below (Invokes body ∷ entries) each = declared_below entries each.1

  regions_below : (regions : List Loop) → IsTrue (list_all (loop_named count) regions) → Each BodyBelow (flat_map invoked_in_region regions) × Each Below (flat_map scalars_in_region regions)
  regions_below [] names = (tt, tt)
  regions_below (l ∷ regions) names =
      let both = and_parts (loop_named count l) (list_all (loop_named count) regions) names in
      let here = loop_parts l both.0 in
      let inside : Each EntryBelow (items_of l.body) = block_below l.body (each_below l.body) here.1 in
      let rest = regions_below regions both.1 in (
        each_both BodyBelow (invoked_in_region l) (flat_map invoked_in_region regions) (invoked_below (items_of l.body) inside) rest.0,
        each_both Below (scalars_in_region l) (flat_map scalars_in_region regions) (here.0, declared_below (items_of l.body) inside) rest.1,
      )

  decls_below : (decls : List Decl) → IsTrue (list_all (decl_named count) decls) → Each Below (scalars_in decls)
  decls_below [] names = tt
  decls_below (decl.Array line name size fixed ∷ decls) names = decls_below decls (and_parts (nat_lt name count) (list_all (decl_named count) decls) names).1
  decls_below (decl.Scalar line name value ∷ decls) names =
      let both = and_parts (nat_lt name count) (list_all (decl_named count) decls) names in
      (ltb-true name count both.0, decls_below decls both.1)

  -- and the first declarations of each name
  firsts_below : (found ds : List Declaration) → Each Below found → Each Below ds → Each Below (through with_declaration found ds)
  firsts_below found [] before each = before
  firsts_below found (d ∷ ds) before each = firsts_below (with_declaration found d) ds (by (has_name found d.0)) each.1
    where
      by : (b : Bool) → Each Below (if b then found else found ++ d ∷ [])
      by true = before
      by false = each_both Below found (d ∷ []) before (each.0, tt)

  index_below : (ds : List Declaration) (name n : ℕ) → Each Below ds → index_of_name (names_of ds) name ≡ Some n → name < count
  index_below [] name n each is = absurd (let none : None ≡ Some n = is in cc)
  index_below (d ∷ ds) name n each is = by (d.0 == name) refl is (λ k later. index_below ds name k each.1 later)
    where
      later_is : (o : Option ℕ) → option_map suc o ≡ Some n → ((k : ℕ) → o ≡ Some k → name < count) → name < count
      later_is None e rest = absurd (let none : None ≡ Some n = e in cc)
      later_is (Some k) e rest = rest k refl

      by : (b : Bool) → (d.0 == name) ≡ b → (if b then Some 0 else option_map suc (index_of_name (names_of ds) name)) ≡ Some n → ((k : ℕ) → index_of_name (names_of ds) name ≡ Some k → name < count) → name < count
      by true same e rest = subst (λ x. x < count) (eqb-true d.0 name same) each.0
      by false other e rest = later_is (index_of_name (names_of ds) name) e rest

module _ (program : Program) (named_well : IsWellNamed program) where
  pub headers_named : Each (BodyBelow (length program.names)) (invoked_by program)
  headers_named = (regions_below (length program.names) program.regions named_well.regions).0

  pub scalars_named : (name n : ℕ) → scalar_of program name ≡ Some n → name < length program.names
  scalars_named name n is =
      let count = length program.names in
      let all : Each (Below count) (scheduler_scalars program) =
      each_both (Below count) (scalars_in program.decls) (flat_map scalars_in_region program.regions) (decls_below count program.decls named_well.decls) (regions_below count program.regions named_well.regions).1 in
      index_below count (first_of_each (scheduler_scalars program)) name n (firsts_below count [] (scheduler_scalars program) tt all) is

-- a name that was found stays so
has_more : (found ds : List Declaration) (name : ℕ) → has_name found name ≡ true → has_name (through with_declaration found ds) name ≡ true
has_more found [] name there = there
has_more found (d ∷ ds) name there = has_more (with_declaration found d) ds name (by (has_name found d.0))
  where
    by : (b : Bool) → has_name (if b then found else found ++ d ∷ []) name ≡ true
    by true = there
    by false = has_left found (d ∷ []) name there

pub variable_is_local : (body : Body) (l : Loop) → body.header ≡ Some l → has_name (locals_of body) l.name ≡ true
variable_is_local body l is =
    subst (λ (o : Option Loop). has_name (first_of_each (option_map_or (λ (x : Loop). (x.name, x.line) ∷ []) o [] ++ declarations_in (statements_of body.stmts))) l.name ≡ true) (sym is)
    (has_more ((l.name, l.line) ∷ []) (declarations_in (statements_of body.stmts)) l.name (ap (λ b. b || false) (eq-eqb l.name l.name refl)))
