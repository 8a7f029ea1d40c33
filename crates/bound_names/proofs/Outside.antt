-- What the scopes around bodies bind: scalars of the scheduler, which have their numbers, and arrays, which have theirs.
use Rattle.std.proofs.Common.{◌≡◌, ℕ, suc, ◌==◌, ◌||◌, if◌then◌else◌, Bool, true, false, IsTrue, Some, ◌⊎◌, inl, inr, List, [], ◌∷◌, ◌++◌, length, refl, sym, ap, ◌∙◌, subst, ⊎_elim, eq-eqb}
use Rattle.std.specs.List.{list_all, flat_map}
use Rattle.std.specs.Option.{option_map, option_map_or}
use Rattle.std.proofs.lemmas.Bool.{eqb-true}
use Rattle.std.proofs.lemmas.List.{length-set, length-replicate}
use Rattle.std.proofs.lemmas.List.Folds.{list_any-append}
use Rattle.nest_syntax.specs.declared.tree.Decl.{Decl}
use Rattle.nest_syntax.specs.declared.tree.Decl.TheVariants as decl
use Rattle.nest_syntax.specs.declared.tree.Loop.{Loop}
use Rattle.nest_syntax.specs.declared.tree.Program.{Program}
use Rattle.nest_syntax.specs.Among.{Each}
use Rattle.nest_syntax.specs.Arrays.{Array, arrays_of, array_of, is_fixed}
use Rattle.nest_syntax.specs.Value.{is_written}
use Rattle.nest_syntax.specs.Named.{decl_named, IsWellNamed}
use Rattle.nest_syntax.specs.Shape.{Declaration}
use Rattle.nest_scope.specs.declared.occurrences.Binding.{Binding}
use Rattle.nest_scope.specs.declared.occurrences.Binding.TheVariants as binding
use Rattle.nest_scope.specs.Occurrences.{Scope, bound, with_bound, array_binding, in_decls, in_regions, behind_decls, unbound, occurrences_of}
use Rattle.nest_scope.specs.Rules.{is_no_array}
use Rattle.nest_scope.specs.Entered.{entered_of, declared_scope, is_schedulers}
use Rattle.nest_scope.proofs.Around.{IsFrom, Declared, program_from}
use Rattle.nest_check.specs.Declarations.{has_name, with_declaration, first_of_each, names_of, index_of_name}
use Rattle.nest_check.specs.Through.{through}
use Rattle.nest_check.specs.Entries.{scalars_in, scalars_in_region, scheduler_scalars}
use Rattle.nest_check.specs.Tables.{scalar_of}
use Rattle.nest_check.specs.Kept.{KeepsRules}
use Rattle.nest_check.proofs.Writable.{kept-first, kept-from_lines, IsWritable, writable-with, decls-writable}
use Rattle.body_names.proofs.Names.{bound_with}
use Rattle.body_names.proofs.Programs.{is_inner, IsAround, around_decls, stays, unbound_at}

-- names among declarations
pub has_left : (xs ys : List Declaration) (name : ℕ) → has_name xs name ≡ true → has_name (xs ++ ys) name ≡ true
has_left xs ys name there = list_any-append (λ (d : Declaration). d.0 == name) xs ys ∙ ap (λ b. b || has_name ys name) there

or_right : (a b : Bool) → b ≡ true → (a || b) ≡ true
or_right true b e = refl
or_right false b e = e

pub has_right : (xs ys : List Declaration) (name : ℕ) → has_name ys name ≡ true → has_name (xs ++ ys) name ≡ true
has_right xs ys name there = list_any-append (λ (d : Declaration). d.0 == name) xs ys ∙ or_right (has_name xs name) (has_name ys name) there

has_here : (d : Declaration) (ds : List Declaration) (name : ℕ) → name ≡ d.0 → has_name (d ∷ ds) name ≡ true
has_here d ds name same = ap (λ b. b || has_name ds name) (eq-eqb d.0 name (sym same))

-- a name that is declared has a first declaration, and so a number
has_more : (found : List Declaration) (d : Declaration) (name : ℕ) → has_name found name ≡ true → has_name (with_declaration found d) name ≡ true
has_more found d name there = by (has_name found d.0)
  where
    by : (b : Bool) → has_name (if b then found else found ++ d ∷ []) name ≡ true
    by true = there
    by false = has_left found (d ∷ []) name there

has_new : (found : List Declaration) (d : Declaration) (name : ℕ) → name ≡ d.0 → has_name (with_declaration found d) name ≡ true
has_new found d name same = by (has_name found d.0) refl
  where
    by : (b : Bool) → has_name found d.0 ≡ b → has_name (if b then found else found ++ d ∷ []) name ≡ true
    by true is = ap (has_name found) same ∙ is
    by false is = has_right found (d ∷ []) name (has_here d [] name same)

has_first : (found ds : List Declaration) (name : ℕ) → (has_name found name ≡ true) ⊎ (has_name ds name ≡ true) → has_name (through with_declaration found ds) name ≡ true
has_first found [] name (inl before) = before
has_first found [] name (inr there) = absurd (let no : false ≡ true = there in cc)
has_first found (d ∷ ds) name (inl before) = has_first (with_declaration found d) ds name (inl (has_more found d name before))
has_first found (d ∷ ds) name (inr there) = has_first (with_declaration found d) ds name (by (d.0 == name) refl there)
  where
    by : (b : Bool) → (d.0 == name) ≡ b → (b || has_name ds name) ≡ true → (has_name (with_declaration found d) name ≡ true) ⊎ (has_name ds name ≡ true)
    by true is e = inl (has_new found d name (sym (eqb-true d.0 name is)))
    by false is e = inr e

place_some : (ds : List Declaration) (name : ℕ) → has_name ds name ≡ true → (n : ℕ) × (index_of_name (names_of ds) name ≡ Some n)
place_some [] name there = absurd (let no : false ≡ true = there in cc)
place_some (d ∷ ds) name there = by (d.0 == name) there (place_some ds name)
  where
    by : (b : Bool) → (b || has_name ds name) ≡ true → (has_name ds name ≡ true → (n : ℕ) × (index_of_name (names_of ds) name ≡ Some n)) → (n : ℕ) × ((if b then Some 0 else option_map suc (index_of_name (names_of ds) name)) ≡ Some n)
    by true e rest = (0, refl)
    by false e rest = let there = rest e in (suc there.0, ap (option_map suc) there.1)

pub scalar_some : (program : Program) (name : ℕ) → has_name (scheduler_scalars program) name ≡ true → (n : ℕ) × (scalar_of program name ≡ Some n)
scalar_some program name there = place_some (first_of_each (scheduler_scalars program)) name (has_first [] (scheduler_scalars program) name (inr there))

-- the scope behind the declarations
array_here : (a : Array) (arrays : List Array) (name : ℕ) → name ≡ a.name → array_of (a ∷ arrays) name ≡ Some 0
array_here a arrays name same = ap (λ b. if b then Some 0 else option_map suc (array_of arrays name)) (eq-eqb a.name name (sym same))

array_later : (a : Array) (arrays : List Array) (name : ℕ) → ((n : ℕ) × (array_of arrays name ≡ Some n)) → (n : ℕ) × (array_of (a ∷ arrays) name ≡ Some n)
array_later a arrays name later = by (a.name == name)
  where
    by : (b : Bool) → (n : ℕ) × ((if b then Some 0 else option_map suc (array_of arrays name)) ≡ Some n)
    by true = (0, refl)
    by false = (suc later.0, ap (option_map suc) later.1)

abbrev HasArray : List Decl → Scope → ℕ → Type 0
HasArray decls scope name = (is_no_array (bound scope name) ≡ false) ⊎ ((n : ℕ) × (array_of (arrays_of decls) name ≡ Some n))

decls_arrays : (decls : List Decl) (scope : Scope) (name : ℕ) → is_no_array (bound (behind_decls decls scope) name) ≡ false → HasArray decls scope name
decls_arrays [] scope name is = inl is
decls_arrays (decl.Array line one size fixed ∷ decls) scope name is = ⊎_elim
    (λ (at_next : is_no_array (bound next name) ≡ false). ⊎_elim
    (λ (here : (name ≡ one) × (bound next name ≡ array_binding fixed)). inr (0, array_here a (arrays_of decls) name here.0))
    (λ (other : bound next name ≡ bound scope name). inl (sym (ap is_no_array other) ∙ at_next))
    (bound_with scope one name (array_binding fixed)))
    (λ (later : (n : ℕ) × (array_of (arrays_of decls) name ≡ Some n)). inr (array_later a (arrays_of decls) name later))
    (decls_arrays decls next name is)
  where
    next : Scope
    next = with_bound scope one (array_binding fixed)

    a : Array
    a = record { name = one; size = size; fixed = fixed }
decls_arrays (decl.Scalar line one value ∷ decls) scope name is = ⊎_elim
    (λ (at_next : is_no_array (bound next name) ≡ false). ⊎_elim
    (λ (here : (name ≡ one) × (bound next name ≡ binding.SchedulerScalar)). absurd (let no : true ≡ false = sym (ap is_no_array here.1) ∙ at_next in cc))
    (λ (other : bound next name ≡ bound scope name). inl (sym (ap is_no_array other) ∙ at_next))
    (bound_with scope one name binding.SchedulerScalar))
    (λ (later : (n : ℕ) × (array_of (arrays_of decls) name ≡ Some n)). inr later)
    (decls_arrays decls next name is)
  where
    next : Scope
    next = with_bound scope one binding.SchedulerScalar

array_no_scheduler : (fixed : Bool) → is_schedulers (array_binding fixed) ≡ false
array_no_scheduler true = refl
array_no_scheduler false = refl

decls_scalars : (decls : List Decl) (scope : Scope) (name : ℕ) → is_schedulers (bound (behind_decls decls scope) name) ≡ true → (is_schedulers (bound scope name) ≡ true) ⊎ (has_name (scalars_in decls) name ≡ true)
decls_scalars [] scope name is = inl is
decls_scalars (decl.Array line one size fixed ∷ decls) scope name is = ⊎_elim
    (λ (at_next : is_schedulers (bound next name) ≡ true). ⊎_elim
    (λ (here : (name ≡ one) × (bound next name ≡ array_binding fixed)). absurd (let no : false ≡ true = sym (ap is_schedulers here.1 ∙ array_no_scheduler fixed) ∙ at_next in cc))
    (λ (other : bound next name ≡ bound scope name). inl (sym (ap is_schedulers other) ∙ at_next))
    (bound_with scope one name (array_binding fixed)))
    (λ (later : has_name (scalars_in decls) name ≡ true). inr later)
    (decls_scalars decls next name is)
  where
    next : Scope
    next = with_bound scope one (array_binding fixed)
decls_scalars (decl.Scalar line one value ∷ decls) scope name is = ⊎_elim
    (λ (at_next : is_schedulers (bound next name) ≡ true). ⊎_elim
    (λ (here : (name ≡ one) × (bound next name ≡ binding.SchedulerScalar)). inr (has_here (one, line) (scalars_in decls) name here.0))
    (λ (other : bound next name ≡ bound scope name). inl (sym (ap is_schedulers other) ∙ at_next))
    (bound_with scope one name binding.SchedulerScalar))
    (λ (later : has_name (scalars_in decls) name ≡ true). inr (or_right (one == name) (has_name (scalars_in decls) name) later))
    (decls_scalars decls next name is)
  where
    next : Scope
    next = with_bound scope one binding.SchedulerScalar

decls_many : (decls : List Decl) (scope : Scope) → length (behind_decls decls scope) ≡ length scope
decls_many [] scope = refl
decls_many (decl.Array line one size fixed ∷ decls) scope = decls_many decls (with_bound scope one (array_binding fixed)) ∙ length-set scope one (array_binding fixed)
decls_many (decl.Scalar line one value ∷ decls) scope = decls_many decls (with_bound scope one binding.SchedulerScalar) ∙ length-set scope one binding.SchedulerScalar

-- a scope around bodies
pub record Outside (program : Program) (scope : Scope) : Type 0 where
  pub many : length scope ≡ length program.names
  pub around : IsAround scope
  pub scalars : (name : ℕ) → is_schedulers (bound scope name) ≡ true → has_name (scheduler_scalars program) name ≡ true
  pub arrays : (name : ℕ) → is_no_array (bound scope name) ≡ false → (n : ℕ) × (array_of (arrays_of program.decls) name ≡ Some n)
  pub writable : IsWritable (arrays_of program.decls) scope

pub written : (program : Program) (scope : Scope) → Outside program scope → (name : ℕ) → bound scope name ≡ binding.Array → is_written (arrays_of program.decls) name ≡ true
written program scope outside name is =
    let there = outside.arrays name (ap is_no_array is) in
    ap (λ o. option_map_or (λ n. if is_fixed (arrays_of program.decls) n then false else true) o false) there.1 ∙ ap (λ b. if b then false else true) (outside.writable name is there.0 there.1)

module _ (program : Program) where
  -- the declaration of a scalar of the scheduler
  abbrev pub IsScalars : Declaration → Type 0
  IsScalars d = has_name (scheduler_scalars program) d.0 ≡ true

  scheduler_no_array : (to : Binding) → is_schedulers to ≡ true → is_no_array to ≡ true
  scheduler_no_array binding.SchedulerScalar e = refl
  scheduler_no_array binding.RegionVariable e = refl
  scheduler_no_array binding.Unbound e = refl
  scheduler_no_array binding.Local e = refl
  scheduler_no_array binding.LoopVariable e = refl
  scheduler_no_array binding.Array e = absurd (cc)
  scheduler_no_array binding.ConstArray e = absurd (cc)

  pub stays_outside : (to : Binding) → is_schedulers to ≡ true → (scope : Scope) (d : Declaration) → IsScalars d → Outside program scope → Outside program (with_bound scope d.0 to)
  stays_outside to is scope d among outside = record {
    many = length-set scope d.0 to ∙ outside.many;
    around = stays to is scope d.0 outside.around;
    scalars = λ name e. ⊎_elim
        (λ (here : (name ≡ d.0) × (bound (with_bound scope d.0 to) name ≡ to)). ap (has_name (scheduler_scalars program)) here.0 ∙ among)
        (λ (other : bound (with_bound scope d.0 to) name ≡ bound scope name). outside.scalars name (sym (ap is_schedulers other) ∙ e))
        (bound_with scope d.0 name to);
    arrays = λ name e. ⊎_elim
        (λ (here : (name ≡ d.0) × (bound (with_bound scope d.0 to) name ≡ to)). absurd (let no : true ≡ false = sym (ap is_no_array here.1 ∙ scheduler_no_array to is) ∙ e in cc))
        (λ (other : bound (with_bound scope d.0 to) name ≡ bound scope name). outside.arrays name (sym (ap is_no_array other) ∙ e))
        (bound_with scope d.0 name to);
    writable = writable-with (arrays_of program.decls) scope d.0 to (λ (e : to ≡ binding.Array). let no : true ≡ false = sym (scheduler_no_array to is) ∙ ap is_no_array e in cc) outside.writable;
  }

  each_declared : (ds : List Declaration) → ((name : ℕ) → has_name ds name ≡ true → has_name (scheduler_scalars program) name ≡ true) → Each IsScalars ds
  each_declared [] within = tt
  each_declared (d ∷ ds) within = (within d.0 (has_here d ds d.0 refl), each_declared ds (λ name e. within name (or_right (d.0 == name) (has_name ds name) e)))

  pub regions_declared : (regions : List Loop) → ((name : ℕ) → has_name (flat_map scalars_in_region regions) name ≡ true → has_name (scheduler_scalars program) name ≡ true) → Each (Declared (Outside program) IsScalars stays_outside) regions
  regions_declared [] within = tt
  regions_declared (l ∷ regions) within =
      let here : Each IsScalars (scalars_in_region l) = each_declared (scalars_in_region l) (λ name e. within name (has_left (scalars_in_region l) (flat_map scalars_in_region regions) name e)) in
      ((here.0, here.1), regions_declared regions (λ name e. within name (has_right (scalars_in_region l) (flat_map scalars_in_region regions) name e)))

  pub declared_outside : IsWellNamed program → KeepsRules program → Outside program (declared_scope program)
  declared_outside named keeps = record {
    many = decls_many program.decls (unbound (length program.names)) ∙ length-replicate (length program.names) binding.Unbound;
    around = around_decls program.decls (unbound (length program.names)) (λ name. ap is_inner (unbound_at (length program.names) name));
    scalars = λ name e. ⊎_elim
        (λ (before : is_schedulers (bound (unbound (length program.names)) name) ≡ true). absurd (let no : false ≡ true = sym (ap is_schedulers (unbound_at (length program.names) name)) ∙ before in cc))
        (λ (there : has_name (scalars_in program.decls) name ≡ true). has_left (scalars_in program.decls) (flat_map scalars_in_region program.regions) name there)
        (decls_scalars program.decls (unbound (length program.names)) name e);
    arrays = λ name e. ⊎_elim
        (λ (before : is_no_array (bound (unbound (length program.names)) name) ≡ false). absurd (let no : true ≡ false = sym (ap is_no_array (unbound_at (length program.names) name)) ∙ before in cc))
        (λ (there : (n : ℕ) × (array_of (arrays_of program.decls) name ≡ Some n)). there)
        (decls_arrays program.decls (unbound (length program.names)) name e);
    writable = decls-writable program.decls (unbound (length program.names))
        (kept-first (in_decls program.decls (unbound (length program.names))) (in_regions program.regions (declared_scope program)) (kept-from_lines (occurrences_of program) keeps.declared_once keeps.known keeps.constant))
        (subst (λ n. IsTrue (list_all (decl_named n) program.decls)) (sym (length-replicate (length program.names) binding.Unbound)) named.decls);
  }

  pub entered_outside : IsWellNamed program → KeepsRules program → Each (IsFrom (Outside program)) (entered_of program)
  entered_outside named keeps = program_from (Outside program) IsScalars stays_outside program (declared_outside named keeps) (regions_declared program.regions (λ name e. has_right (scalars_in program.decls) (flat_map scalars_in_region program.regions) name e))
