-- What the rules on names say of the arrays that are written: in each scope, a name that is bound to an array that may be
-- written is that of an array that isn't `const`.
use Rattle.std.proofs.Common.{◌≡◌, ℕ, suc, ◌==◌, nat_lt, if◌then◌else◌, Bool, true, false, Option, Some, None, IsTrue, List, [], ◌∷◌, ◌++◌, length, set, refl, sym, ap, ◌∙◌, subst, arith, ⊎_elim}
use Rattle.std.specs.List.{list_all}
use Rattle.std.specs.Option.{option_map}
use Rattle.std.proofs.lemmas.Bool.{and_parts, eqb-true, ltb-true, ltb-false, cases_eq}
use Rattle.std.proofs.lemmas.List.{get_or-set_same, get_or-set_other, get_or_past, length-set}
use Rattle.nest_syntax.specs.declared.tree.Decl.{Decl}
use Rattle.nest_syntax.specs.declared.tree.Decl.TheVariants as decl
use Rattle.nest_syntax.specs.Arrays.{Array, arrays_of, array_of, is_fixed}
use Rattle.nest_syntax.specs.Named.{decl_named}
use Rattle.nest_syntax.specs.Among.{Each}
use Rattle.nest_syntax.proofs.Inductions.{each_left, each_right}
use Rattle.nest_syntax.specs.Lowest.{lines_where}
use Rattle.nest_scope.specs.declared.occurrences.Binding.{Binding}
use Rattle.nest_scope.specs.declared.occurrences.Binding.TheVariants as binding
use Rattle.nest_scope.specs.declared.occurrences.Level.{Level}
use Rattle.nest_scope.specs.declared.occurrences.Level.TheVariants as level
use Rattle.nest_scope.specs.declared.occurrences.Action.TheVariants as action
use Rattle.nest_scope.specs.declared.occurrences.Occurrence.{Occurrence}
use Rattle.nest_scope.specs.Occurrences.{Scope, bound, with_bound, declared_at, variable_at, array_binding, in_decls, behind_decls}
use Rattle.nest_scope.proofs.Entered.{none_where}
use Rattle.nest_scope.specs.Rules.{is_redeclared, is_no_array, is_const_written, redeclares, uses_unknown, writes_const, line_of}

-- an occurrence that breaks none of three rules, and a list of such
pub record IsKept (o : Occurrence) : Type 0 where
  pub declared_once : redeclares o ≡ false
  pub known : uses_unknown o ≡ false
  pub constant : writes_const o ≡ false

abbrev pub AreKept : List Occurrence → Type 0
AreKept os = Each IsKept os

pub kept-first : (xs ys : List Occurrence) → AreKept (xs ++ ys) → AreKept xs
kept-first xs ys kept = each_left IsKept xs ys kept

pub kept-second : (xs ys : List Occurrence) → AreKept (xs ++ ys) → AreKept ys
kept-second xs ys kept = each_right IsKept xs ys kept

pub kept-from_lines : (os : List Occurrence) → lines_where line_of redeclares os ≡ [] → lines_where line_of uses_unknown os ≡ [] → lines_where line_of writes_const os ≡ [] → AreKept os
kept-from_lines [] once known constant = tt
kept-from_lines (o ∷ os) once known constant =
    let a = none_where redeclares o os once in
    let b = none_where uses_unknown o os known in
    let c = none_where writes_const o os constant in
    (record { declared_once = a.0; known = b.0; constant = c.0 }, kept-from_lines os a.1 b.1 c.1)

-- what a name is bound to where it is written, and where it is declared
pub bound_written : (b : Binding) → is_no_array b ≡ false → is_const_written action.WordWritten b ≡ false → b ≡ binding.Array
bound_written binding.Array known constant = refl
bound_written binding.ConstArray known constant = absurd (cc)
bound_written _ known constant = absurd (cc)

unbound_declared : (b : Binding) → is_redeclared action.Declared b ≡ false → b ≡ binding.Unbound
unbound_declared binding.Unbound once = refl
unbound_declared _ once = absurd (cc)

-- A scope in which names may be written.
abbrev pub IsFree : List Array → ℕ → Type 0
IsFree arrays name = (n : ℕ) → array_of arrays name ≡ Some n → is_fixed arrays n ≡ false

abbrev pub IsWritable : List Array → Scope → Type 0
IsWritable arrays scope = (name : ℕ) → bound scope name ≡ binding.Array → IsFree arrays name

-- It is still one with a name bound to something else than an array.
pub writable-with : (arrays : List Array) (scope : Scope) (name : ℕ) (to : Binding) → (to ≡ binding.Array → ⊥) → IsWritable arrays scope → IsWritable arrays (with_bound scope name to)
writable-with arrays scope name to other writable given is = writable given (⊎_elim
    (λ (same : given ≡ name). absurd (at_same (ap (bound (with_bound scope name to)) (sym same) ∙ is)))
    (λ (apart : given ≡ name → ⊥). sym (get_or-set_other scope name given to binding.Unbound apart) ∙ is)
    (cases_eq given name))
  where
    at_same : bound (with_bound scope name to) name ≡ binding.Array → ⊥
    at_same e = by (nat_lt name (length scope)) refl
      where
        by : (b : Bool) → nat_lt name (length scope) ≡ b → ⊥
        by true inside = other (sym (get_or-set_same scope name to binding.Unbound (ltb-true name (length scope) inside)) ∙ e)
        by false outside = let past = get_or_past (set scope name to) name binding.Unbound (omega (arith, length-set scope name to, ltb-false name (length scope) outside)) in cc

pub declared-no_array : (at : Level) → declared_at at ≡ binding.Array → ⊥
declared-no_array level.Outside e = cc
declared-no_array level.Items e = cc
declared-no_array level.Body e = cc

pub variable-no_array : (at : Level) → variable_at at ≡ binding.Array → ⊥
variable-no_array level.Outside e = cc
variable-no_array level.Items e = cc
variable-no_array level.Body e = cc

-- the scope behind the declarations: a name that is bound stays so
bound-stays : (name given : ℕ) (scope : Scope) (to : Binding) → is_redeclared action.Declared (bound scope name) ≡ false → (bound scope given ≡ binding.Unbound → ⊥) → bound (with_bound scope name to) given ≡ bound scope given
bound-stays name given scope to once bound_there = get_or-set_other scope name given to binding.Unbound (λ same. bound_there (ap (bound scope) same ∙ unbound_declared (bound scope name) once))

decls-stay : (decls : List Decl) (scope : Scope) (given : ℕ) → AreKept (in_decls decls scope) → (bound scope given ≡ binding.Unbound → ⊥) → bound (behind_decls decls scope) given ≡ bound scope given
decls-stay [] scope given kept there = refl
decls-stay (decl.Array line name size fixed ∷ decls) scope given kept there =
    let same = bound-stays name given scope (array_binding fixed) kept.0.declared_once there in
    decls-stay decls (with_bound scope name (array_binding fixed)) given kept.1 (λ e. there (sym same ∙ e)) ∙ same
decls-stay (decl.Scalar line name value ∷ decls) scope given kept there =
    let same = bound-stays name given scope binding.SchedulerScalar kept.0.declared_once there in
    decls-stay decls (with_bound scope name binding.SchedulerScalar) given kept.1 (λ e. there (sym same ∙ e)) ∙ same

not_fixed : (fixed : Bool) → array_binding fixed ≡ binding.Array → fixed ≡ false
not_fixed true e = absurd (cc)
not_fixed false e = refl

never_unbound : (fixed : Bool) → array_binding fixed ≡ binding.Unbound → ⊥
never_unbound true e = cc
never_unbound false e = cc

-- the first of some arrays, or a later one
first_or_later : (a : Array) (arrays : List Array) (given n : ℕ) → array_of (a ∷ arrays) given ≡ Some n → (a.name ≡ given → a.fixed ≡ false) → IsFree arrays given → is_fixed (a ∷ arrays) n ≡ false
first_or_later a arrays given n found here later = by (a.name == given) refl found
  where
    behind : (o : Option ℕ) → array_of arrays given ≡ o → option_map suc o ≡ Some n → is_fixed (a ∷ arrays) n ≡ false
    behind None e found = absurd (let no : None ≡ Some n = found in cc)
    behind (Some m) e found = let same : suc m ≡ n = cc in subst (λ k. is_fixed (a ∷ arrays) k ≡ false) same (later m e)

    by : (b : Bool) → (a.name == given) ≡ b → (if b then Some 0 else option_map suc (array_of arrays given)) ≡ Some n → is_fixed (a ∷ arrays) n ≡ false
    by true same found = let first : 0 ≡ n = cc in subst (λ k. is_fixed (a ∷ arrays) k ≡ false) first (here (eqb-true a.name given same))
    by false apart found = behind (array_of arrays given) refl found

pub decls-writable : (decls : List Decl) (scope : Scope) → AreKept (in_decls decls scope) → IsTrue (list_all (decl_named (length scope)) decls) → IsWritable (arrays_of decls) (behind_decls decls scope)
decls-writable [] scope kept named given is n found = absurd (let no : None ≡ Some n = found in cc)
decls-writable (decl.Array line name size fixed ∷ decls) scope kept named given is n found =
    let parts = and_parts (nat_lt name (length scope)) (list_all (decl_named (length scope)) decls) named in
    let next = with_bound scope name (array_binding fixed) in
    first_or_later (record { name = name; size = size; fixed = fixed }) (arrays_of decls) given n found
    (λ (same : name ≡ given).
    let there : bound next given ≡ array_binding fixed = ap (bound next) (sym same) ∙ get_or-set_same scope name (array_binding fixed) binding.Unbound (ltb-true name (length scope) parts.0) in
    not_fixed fixed (sym there ∙ sym (decls-stay decls next given kept.1 (λ e. never_unbound fixed (sym there ∙ e))) ∙ is))
    (decls-writable decls next kept.1 (subst (λ k. IsTrue (list_all (decl_named k) decls)) (sym (length-set scope name (array_binding fixed))) parts.1) given is)
decls-writable (decl.Scalar line name value ∷ decls) scope kept named given is n found =
    let parts = and_parts (nat_lt name (length scope)) (list_all (decl_named (length scope)) decls) named in
    decls-writable decls (with_bound scope name binding.SchedulerScalar) kept.1 (subst (λ k. IsTrue (list_all (decl_named k) decls)) (sym (length-set scope name binding.SchedulerScalar)) parts.1) given is n found
