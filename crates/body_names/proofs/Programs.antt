-- The bodies of a program, from the scopes in which they are entered.
use Rattle.std.proofs.Common.{◌≡◌, ℕ, zero, suc, ◌<◌, ◌≤◌, ◌==◌, ◌||◌, Bool, true, false, List, [], ◌∷◌, length, refl, sym, ap, ◌∙◌, ⊎_elim}
use Rattle.std.specs.List.{list_any}
use Rattle.std.proofs.lemmas.Bool.{cases_lt}
use Rattle.std.proofs.lemmas.Bool.Decides.{eqb_tells}
use Rattle.std.proofs.lemmas.List.{get_or-set_same, get_or_past, set_past}
use Rattle.nest_syntax.specs.declared.tree.Decl.{Decl}
use Rattle.nest_syntax.specs.declared.tree.Decl.TheVariants as decl
use Rattle.nest_syntax.specs.declared.tree.Loop.{Loop}
use Rattle.nest_syntax.specs.declared.tree.Program.{Program}
use Rattle.nest_syntax.specs.Among.{Each}
use Rattle.nest_syntax.specs.Shape.{Declaration, items_of, declarations_in}
use Rattle.nest_syntax.specs.Lowest.{lines_where}
use Rattle.nest_scope.specs.declared.occurrences.Binding.{Binding}
use Rattle.nest_scope.specs.declared.occurrences.Binding.TheVariants as binding
use Rattle.nest_scope.specs.declared.occurrences.Occurrence.{Occurrence}
use Rattle.nest_scope.specs.Occurrences.{Scope, bound, with_bound, array_binding, in_block, behind_decls, unbound, occurrences_of}
use Rattle.nest_scope.specs.Rules.{line_of, redeclares, uses_unknown, is_no_scalar, lines_redeclared, lines_unknown}
use Rattle.nest_scope.specs.Entered.{Entered, entered_of, is_schedulers}
use Rattle.nest_scope.proofs.Entered.{none_where, program_bound}
use Rattle.nest_scope.proofs.Around.{EnteredFrom, by_loop, by_write, IsFrom, program_around}
use Rattle.body_names.specs.Laws.{KeepsNames, is_variable, is_from_outside, HasNamesFromOutside}
use Rattle.body_names.proofs.Names.{bound_other, bound_with}
use Rattle.body_names.proofs.Bodies.{names_are}

-- an occurrence that breaks neither rule
abbrev Keeps : Occurrence → Type 0
Keeps o = (redeclares o ≡ false) × (uses_unknown o ≡ false)

all_keep : (os : List Occurrence) → lines_where line_of redeclares os ≡ [] → lines_where line_of uses_unknown os ≡ [] → Each Keeps os
all_keep [] once known = tt
all_keep (o ∷ os) once known =
    let first = none_where redeclares o os once in
    let second = none_where uses_unknown o os known in
    ((first.0, second.0), all_keep os first.1 second.1)

none_of : (a b : Bool) → a ≡ false → b ≡ false → (a || b) ≡ false
none_of true b e f = e
none_of false b e f = f

keeps_names : (os : List Occurrence) → Each Keeps os → KeepsNames os
keeps_names [] all = record { once = refl; known = refl }
keeps_names (o ∷ os) all = let rest = keeps_names os all.1 in record {
  once = none_of (redeclares o) (list_any redeclares os) all.0.0 rest.once;
  known = none_of (uses_unknown o) (list_any uses_unknown os) all.0.1 rest.known;
}

-- whether a name is bound to what a body declares or a loop among the items or in a body
abbrev pub is_inner : Binding → Bool
is_inner binding.Local = true
is_inner binding.LoopVariable = true
is_inner to = false

-- a scope outside of each body
abbrev pub IsAround : Scope → Type 0
IsAround scope = (name : ℕ) → is_inner (bound scope name) ≡ false

-- what isn't so of a binding is so of no name, where it isn't of any before one was bound anew
pub none_with : (test : Binding → Bool) (scope : Scope) (one : ℕ) (to : Binding) → test to ≡ false → ((name : ℕ) → test (bound scope name) ≡ false) → (name : ℕ) → test (bound (with_bound scope one to) name) ≡ false
none_with test scope one to not none name = ⊎_elim
    (λ (here : (name ≡ one) × (bound (with_bound scope one to) name ≡ to)). ap test here.1 ∙ not)
    (λ (other : bound (with_bound scope one to) name ≡ bound scope name). ap test other ∙ none name)
    (bound_with scope one name to)

array_outer : (fixed : Bool) → is_inner (array_binding fixed) ≡ false
array_outer true = refl
array_outer false = refl

pub around_decls : (decls : List Decl) (scope : Scope) → IsAround scope → IsAround (behind_decls decls scope)
around_decls [] scope around = around
around_decls (decl.Array line name size fixed ∷ decls) scope around = around_decls decls (with_bound scope name (array_binding fixed)) (none_with is_inner scope name (array_binding fixed) (array_outer fixed) around)
around_decls (decl.Scalar line name value ∷ decls) scope around = around_decls decls (with_bound scope name binding.SchedulerScalar) (none_with is_inner scope name binding.SchedulerScalar refl around)

pub unbound_at : (names name : ℕ) → bound (unbound names) name ≡ binding.Unbound
unbound_at zero zero = refl
unbound_at zero (suc name) = refl
unbound_at (suc names) zero = refl
unbound_at (suc names) (suc name) = unbound_at names name

scheduler_outer : (to : Binding) → is_schedulers to ≡ true → is_inner to ≡ false
scheduler_outer binding.SchedulerScalar e = refl
scheduler_outer binding.RegionVariable e = refl
scheduler_outer binding.Unbound e = refl
scheduler_outer binding.Array e = refl
scheduler_outer binding.ConstArray e = refl
scheduler_outer binding.Local e = absurd (cc)
scheduler_outer binding.LoopVariable e = absurd (cc)

pub stays : (to : Binding) → is_schedulers to ≡ true → (scope : Scope) (name : ℕ) → IsAround scope → IsAround (with_bound scope name to)
stays to is scope name around = none_with is_inner scope name to (scheduler_outer to is) around

-- a scalar that is bound outside of each body is one of the scheduler
pub of_scheduler : (to : Binding) → is_inner to ≡ false → is_no_scalar to ≡ false → is_schedulers to ≡ true
of_scheduler binding.SchedulerScalar outer scalar = refl
of_scheduler binding.RegionVariable outer scalar = refl
of_scheduler binding.Unbound outer scalar = absurd (cc)
of_scheduler binding.Array outer scalar = absurd (cc)
of_scheduler binding.ConstArray outer scalar = absurd (cc)
of_scheduler binding.Local outer scalar = absurd (cc)
of_scheduler binding.LoopVariable outer scalar = absurd (cc)

-- what a scalar is bound to where a body is entered from such a scope
from_outside : (e : Entered) (around : Scope) → EnteredFrom around e → IsAround around → (name : ℕ) → is_no_scalar (bound e.scope name) ≡ false → is_from_outside e.body.header name (bound e.scope name) ≡ true
from_outside _ around (by_write line array p o e) outer name scalar = of_scheduler (bound around name) (outer name) scalar
from_outside _ around (by_loop l) outer name scalar = ⊎_elim
    (λ (same : ((name == l.name) ≡ true) × (name ≡ l.name)). ⊎_elim
    (λ (there : l.name < length around). let is = ap (bound scope) same.1 ∙ get_or-set_same around l.name binding.LoopVariable binding.Unbound there in
    rw same.0 (ap is_variable is))
    (λ (over : length around ≤ l.name). absurd (let none = ap is_no_scalar (ap (λ s. bound s name) (set_past around l.name binding.LoopVariable over) ∙ ap (bound around) same.1 ∙ get_or_past around l.name binding.Unbound over) in cc))
    (cases_lt l.name (length around)))
    (λ (apart : ((name == l.name) ≡ false) × ((name ≡ l.name) → ⊥)).
    let is : bound scope name ≡ bound around name = bound_other around l.name name binding.LoopVariable apart.1 in
    rw apart.0 (ap is_schedulers is ∙ of_scheduler (bound around name) (outer name) (sym (ap is_no_scalar is) ∙ scalar)))
    (eqb_tells name l.name)
  where
    scope : Scope
    scope = with_bound around l.name binding.LoopVariable

abbrev pub FromAround : Entered → Type 0
FromAround = IsFrom IsAround

abbrev HasKept : Entered → Type 0
HasKept e = Each Keeps (in_block e.body.stmts e.level e.scope)

names_in : (e : Entered) → HasKept e → FromAround e → HasNamesFromOutside e
names_in e kept from name =
    let names = names_are e.body.stmts e.level e.scope (keeps_names (in_block e.body.stmts e.level e.scope) kept) name in record {
      local = names.local;
      outside = λ out used. from_outside e from.0 from.1.1 from.1.0 name (names.outside out used);
    }

all_in : (entered : List Entered) → Each HasKept entered → Each FromAround entered → Each HasNamesFromOutside entered
all_in [] kept from = tt
all_in (e ∷ entered) kept from = (names_in e kept.0 from.0, all_in entered kept.1 from.1)

pub entered_around : (program : Program) → Each FromAround (entered_of program)
entered_around program = program_around IsAround stays program (around_decls program.decls (unbound (length program.names)) (λ name. ap is_inner (unbound_at (length program.names) name)))

pub names_in_bodies : (program : Program) → lines_redeclared program ≡ [] → lines_unknown program ≡ [] → Each HasNamesFromOutside (entered_of program)
names_in_bodies program once known = all_in (entered_of program) (program_bound Keeps program (all_keep (occurrences_of program) once known)) (entered_around program)
