-- A program that keeps the rules has few declarations: at most 64 arrays, and at most 32 scalars, which are declared once each.
use Rattle.std.proofs.Common.{◌≡◌, ◌≢◌, ℕ, ◌+◌, ◌<◌, ◌≤◌, ◌==◌, ◌&&◌, ◌||◌, Bool, true, false, if◌then◌else◌, nat_lt, List, [], ◌∷◌, ◌++◌, map, length, refl, sym, ap, ◌∙◌, subst, arith, length-append, ◌⊎◌, inl, inr}
use Rattle.std.specs.Prelude.{IsTrue}
use Rattle.std.specs.List.{list_all, filter, flat_map}
use Rattle.std.proofs.lemmas.Bool.{ltb-true}
use Rattle.std.proofs.lemmas.Bool.Decides.{eqb_tells}
use Rattle.std.proofs.lemmas.List.{get_or-set_same, get_or-set_other, length-set, length-replicate}
use Rattle.std.proofs.lemmas.List.Folds.{list_any-append}
use Rattle.nest_syntax.specs.declared.names.Line.{Line}
use Rattle.nest_syntax.specs.declared.tree.Decl.{Decl}
use Rattle.nest_syntax.specs.declared.tree.Decl.TheVariants as decl
use Rattle.nest_syntax.specs.declared.tree.Program.{Program}
use Rattle.nest_syntax.specs.Named.{IsWellNamed, decl_named}
use Rattle.nest_syntax.specs.Lowest.{lines_where}
use Rattle.nest_scope.specs.declared.occurrences.Binding.{Binding}
use Rattle.nest_scope.specs.declared.occurrences.Binding.TheVariants as binding
use Rattle.nest_scope.specs.declared.occurrences.Level.TheVariants as level
use Rattle.nest_scope.specs.declared.occurrences.Action.TheVariants as action
use Rattle.nest_scope.specs.declared.occurrences.Occurrence.{Occurrence}
use Rattle.nest_scope.specs.Occurrences.{Scope, bound, with_bound, array_binding, in_decls, unbound, occurrence}
use Rattle.nest_scope.specs.Rules.{is_redeclared, redeclares, line_of}
use Rattle.nest_check.specs.Through.{through}
use Rattle.nest_syntax.specs.Shape.{Declaration}
use Rattle.nest_check.specs.Declarations.{has_name, with_declaration, first_of_each}
use Rattle.nest_check.specs.Entries.{scalars_in, scalars_in_region, scheduler_scalars}
use Rattle.nest_check.specs.Rules.{array_lines}
use Rattle.nest_check.specs.Kept.{KeepsRules}
use Rattle.nest_check.proofs.Lists.{through-append}
use Rattle.nest_check.proofs.Judged.{few_scalars, few_array_lines}

-- an occurrence that redeclares nothing
none_here : (o : Occurrence) (rest : List Occurrence) → lines_where line_of redeclares (o ∷ rest) ≡ [] → (redeclares o ≡ false) × (lines_where line_of redeclares rest ≡ [])
none_here o rest e = by (redeclares o) refl e
  where
    by : (b : Bool) → redeclares o ≡ b → map (λ (o : Occurrence). o.line) (if b then o ∷ filter redeclares rest else filter redeclares rest) ≡ [] → (redeclares o ≡ false) × (lines_where line_of redeclares rest ≡ [])
    by true is e' = absurd (cc)
    by false is e' = (is, e')

declared_free : (to : Binding) → is_redeclared action.Declared to ≡ false → to ≡ binding.Unbound
declared_free binding.Unbound e = refl
declared_free binding.Array e = absurd (cc)
declared_free binding.ConstArray e = absurd (cc)
declared_free binding.SchedulerScalar e = absurd (cc)
declared_free binding.RegionVariable e = absurd (cc)
declared_free binding.Local e = absurd (cc)
declared_free binding.LoopVariable e = absurd (cc)

both_left : (a b : Bool) → IsTrue (a && b) → IsTrue a
both_left true b h = refl
both_left false b h = h

both_right : (a b : Bool) → IsTrue (a && b) → IsTrue b
both_right true b h = h
both_right false b h = absurd (cc)

-- the names found so far are bound
abbrev pub AreBound : List Declaration → Scope → Type 0
AreBound found scope = (name : ℕ) → has_name found name ≡ true → bound scope name ≢ binding.Unbound

still_bound : (found : List Declaration) (scope : Scope) (here : ℕ) (to : Binding) → to ≢ binding.Unbound → here < length scope → AreBound found scope → AreBound found (with_bound scope here to)
still_bound found scope here to some inside before name known = by (eqb_tells name here)
  where
    by : (((name == here) ≡ true) × (name ≡ here)) ⊎ (((name == here) ≡ false) × (name ≢ here)) → bound (with_bound scope here to) name ≢ binding.Unbound
    by (inl e) = λ free. some (sym (get_or-set_same scope here to binding.Unbound inside) ∙ ap (bound (with_bound scope here to)) (sym e.1) ∙ free)
    by (inr e) = λ free. before name known (sym (get_or-set_other scope here name to binding.Unbound e.1) ∙ free)

or_cases : (a b : Bool) → (a || b) ≡ true → (a ≡ true) ⊎ (b ≡ true)
or_cases true b e = inl refl
or_cases false b e = inr e

newly_bound : (found : List Declaration) (scope : Scope) (here : ℕ) (line : Line) (to : Binding) → to ≢ binding.Unbound → here < length scope → AreBound found scope → AreBound (found ++ (here, line) ∷ []) (with_bound scope here to)
newly_bound found scope here line to some inside before name known =
    by (or_cases (has_name found name) (has_name ((here, line) ∷ []) name) (sym (list_any-append (λ (d : Declaration). d.0 == name) found ((here, line) ∷ [])) ∙ known)) (eqb_tells here name)
  where
    by : (has_name found name ≡ true) ⊎ (has_name ((here, line) ∷ []) name ≡ true) → (((here == name) ≡ true) × (here ≡ name)) ⊎ (((here == name) ≡ false) × (here ≢ name)) → bound (with_bound scope here to) name ≢ binding.Unbound
    by (inl old) tells = still_bound found scope here to some inside before name old
    by (inr new) (inl e) = λ free. some (sym (get_or-set_same scope here to binding.Unbound inside) ∙ ap (bound (with_bound scope here to)) e.1 ∙ free)
    by (inr new) (inr e) = let wrong : (false || false) ≡ true = ap (λ b. b || false) (sym e.0) ∙ new in absurd (cc)

array_bound : (fixed : Bool) → array_binding fixed ≢ binding.Unbound
array_bound true = λ e. cc
array_bound false = λ e. cc

scalar_bound : binding.SchedulerScalar ≢ binding.Unbound
scalar_bound = λ e. cc

bool_false : (b : Bool) → (b ≡ true → ⊥) → b ≡ false
bool_false true never = absurd (never refl)
bool_false false never = refl

-- scalars that are declared once each
distinct : (decls : List Decl) (scope : Scope) (found : List Declaration) (count : ℕ) → count ≡ length scope → IsTrue (list_all (decl_named count) decls) → AreBound found scope → lines_where line_of redeclares (in_decls decls scope) ≡ []
    → length (through with_declaration found (scalars_in decls)) ≡ length found + length (scalars_in decls)
distinct [] scope found count long named before once = omega arith
distinct (decl.Array line name size fixed ∷ decls) scope found count long named before once =
    let free = none_here (occurrence line level.Outside action.Declared (bound scope name)) (in_decls decls (with_bound scope name (array_binding fixed))) once in
    let here : name < count = ltb-true name count (both_left (nat_lt name count) _ named) in
    let inside : name < length scope = subst (λ n. name < n) long here in
    distinct decls (with_bound scope name (array_binding fixed)) found count (long ∙ sym (length-set scope name (array_binding fixed))) (both_right (nat_lt name count) _ named) (still_bound found scope name (array_binding fixed) (array_bound fixed) inside before) free.1
distinct (decl.Scalar line name value ∷ decls) scope found count long named before once =
    let free = none_here (occurrence line level.Outside action.Declared (bound scope name)) (in_decls decls (with_bound scope name binding.SchedulerScalar)) once in
    let here : name < count = ltb-true name count (both_left (nat_lt name count) _ named) in
    let inside : name < length scope = subst (λ n. name < n) long here in
    let new : has_name found name ≡ false = bool_false (has_name found name) (λ known. before name known (declared_free (bound scope name) free.0)) in
    let rest : length (through with_declaration (found ++ (name, line) ∷ []) (scalars_in decls)) ≡ length (found ++ (name, line) ∷ []) + length (scalars_in decls) =
    distinct decls (with_bound scope name binding.SchedulerScalar) (found ++ (name, line) ∷ []) count (long ∙ sym (length-set scope name binding.SchedulerScalar)) (both_right (nat_lt name count) _ named) (newly_bound found scope name line binding.SchedulerScalar scalar_bound inside before) free.1 in
    let longer = length-append found ((name, line) ∷ []) in
    ap (λ b. length (through with_declaration (if b then found else found ++ (name, line) ∷ []) (scalars_in decls))) new ∙ omega (arith, rest, longer)

grows : (found ds : List Declaration) → length found ≤ length (through with_declaration found ds)
grows found [] = omega arith
grows found (d ∷ ds) = by (has_name found d.0) (λ next. grows next ds)
  where
    by : (known : Bool) → ((next : List Declaration) → length next ≤ length (through with_declaration next ds)) → length found ≤ length (through with_declaration (if known then found else found ++ d ∷ []) ds)
    by true rest = rest found
    by false rest = let more = rest (found ++ d ∷ []) in let longer = length-append found (d ∷ []) in omega (arith, more, longer)

first_left : (xs ys : List Occurrence) → lines_where line_of redeclares (xs ++ ys) ≡ [] → lines_where line_of redeclares xs ≡ []
first_left [] ys e = refl
first_left (o ∷ xs) ys e =
    let here = none_here o (xs ++ ys) e in
    ap (λ b. map (λ (o : Occurrence). o.line) (if b then o ∷ filter redeclares xs else filter redeclares xs)) here.0 ∙ first_left xs ys here.1

split_decls : (decls : List Decl) → length decls ≡ length (array_lines decls) + length (scalars_in decls)
split_decls [] = omega arith
split_decls (decl.Array line name size fixed ∷ decls) = let rest = split_decls decls in omega (arith, rest)
split_decls (decl.Scalar line name value ∷ decls) = let rest = split_decls decls in omega (arith, rest)

pub few_decls : (program : Program) → IsWellNamed program → KeepsRules program → length program.decls ≤ 96
few_decls program named kept =
    let each : length (through with_declaration [] (scalars_in program.decls)) ≡ 0 + length (scalars_in program.decls) =
    distinct program.decls (unbound (length program.names)) [] (length program.names) (sym (length-replicate (length program.names) binding.Unbound)) named.decls (λ name known. absurd (cc)) (first_left (in_decls program.decls (unbound (length program.names))) _ kept.declared_once) in
    let more : length (through with_declaration [] (scalars_in program.decls)) ≤ length (first_of_each (scheduler_scalars program)) =
    subst (λ ds. length (through with_declaration [] (scalars_in program.decls)) ≤ length ds) (sym (through-append with_declaration [] (scalars_in program.decls) (flat_map scalars_in_region program.regions))) (grows _ (flat_map scalars_in_region program.regions)) in
    let few : length (first_of_each (scheduler_scalars program)) ≤ 32 = few_scalars program kept in
    let arrays : length (array_lines program.decls) ≤ 64 = few_array_lines program kept in
    let both = split_decls program.decls in
    omega (arith, each, more, few, arrays, both)
