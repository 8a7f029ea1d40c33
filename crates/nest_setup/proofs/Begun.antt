-- What an iteration begins with that a cursor hands out: the registers hold its scalars.
use Rattle.std.proofs.Common.{◌≡◌, ◌≢◌, ℕ, zero, suc, ◌+◌, ◌<◌, ℤ, pos, true, false, Option, Some, None, List, [], ◌∷◌, length, slice_index_or, refl, sym, ap, ◌∙◌, subst, arith}
use Rattle.std.specs.Prelude.{slice_get}
use Rattle.std.specs.Option.{option_map, option_and_then, option_map_or}
use Rattle.std.proofs.lemmas.Bool.{false≢true}
use Rattle.std.proofs.lemmas.List.{get_or-set_same, get_or-set_other, length-set}
use Rattle.std.proofs.lemmas.List.FromFn.{length-map-range_with_len, get_or-map-range_with_len, fill_by_all}
use Rattle.nest_syntax.specs.declared.tree.Loop.{Loop}
use Rattle.nest_syntax.specs.declared.tree.Program.{Program}
use Rattle.nest_syntax.specs.Among.{Each}
use Rattle.nest_syntax.specs.Named.{IsWellNamed}
use Rattle.nest_syntax.specs.Value.{scalar_at, with_scalar}
use Rattle.nest_syntax.specs.Shape.{Body, invoked_by}
use Rattle.nest_check.specs.Declarations.{has_name}
use Rattle.nest_check.specs.Tables.{scalar_of}
use Rattle.nest_check.specs.Rules.{locals_of}
use Rattle.nest_check.specs.Kept.{KeepsRules}
use Rattle.nest_check.proofs.Few.{scalar_below}
use Rattle.std.specs.Prelude.{IfSome}
use Rattle.task_code.specs.CodeOf.{BeginsWith}
use Rattle.sched_cursor.specs.declared.event.Iteration.{Iteration}
use Rattle.sched_cursor.specs.Handed.{told_at, told, what_of}
use Rattle.nest_setup.specs.Pieces.{in_places}
use Rattle.nest_setup.specs.Laws.{PlacesAreKept}
use Rattle.nest_setup.proofs.Named.{BodyBelow, HeaderBelow, headers_named, scalars_named, variable_is_local}

pub in_places_same : PlacesAreKept
in_places_same env long = sym (fill_by_all (λ n. slice_index_or env n (pos 0)) env 32 (pos 0) long (λ k below. refl))

from_none : (n : ℕ) → 0 + n ≡ n
from_none n = omega arith

-- an item of a list that is found
pub found_there : {A : Type 0} (P : A → Type 0) (xs : List A) (n : ℕ) (x : A) → Each P xs → slice_get xs n ≡ Some x → P x
found_there P [] n x each is = absurd (let none : None ≡ Some x = is in cc)
found_there P (y ∷ xs) zero x each is = let same : y ≡ x = cc in subst P same each.0
found_there P (y ∷ xs) (suc n) x each is = found_there P xs n x each.1 is

pub found_inside : {A : Type 0} (xs : List A) (n : ℕ) → n < length xs → (x : A) × (slice_get xs n ≡ Some x)
found_inside [] n below = absurd (omega arith)
found_inside (x ∷ xs) zero below = (x, refl)
found_inside (x ∷ xs) (suc n) below = found_inside xs n (omega arith)

module _ (program : Program) (named : IsWellNamed program) (keeps : KeepsRules program) (i : Iteration) (body : Body) (there : slice_get (invoked_by program) i.body ≡ Some body) where
  abbrev known : List ℤ
  known = told program i.env

  -- the scalars, by the loop that invokes the body
  abbrev with_header : Option Loop → List ℤ
  with_header header = option_map_or (λ name. with_scalar known name i.value) (option_map (λ (l : Loop). l.name) header) known

  scalars_are : (what_of program i).1 ≡ with_header body.header
  scalars_are = ap (λ (o : Option Body). option_map_or (λ name. with_scalar known name i.value) (option_and_then (λ (b : Body). option_map (λ (l : Loop). l.name) b.header) o) known) there

  long : length known ≡ length program.names
  long = length-map-range_with_len (told_at program i.env) 0 (length program.names)

  as_long : (header : Option Loop) → length (with_header header) ≡ length program.names
  as_long None = long
  as_long (Some l) = length-set known l.name i.value ∙ long

  known_at : (name n : ℕ) → scalar_of program name ≡ Some n → scalar_at known name ≡ slice_index_or i.env n (pos 0)
  known_at name n is =
      get_or-map-range_with_len (told_at program i.env) 0 (length program.names) name name (pos 0) (scalars_named program named name n is) (from_none name)
      ∙ ap (λ o. option_map_or (λ k. slice_index_or i.env k (pos 0)) o (pos 0)) is

  placed_at : (name n : ℕ) → scalar_of program name ≡ Some n → slice_index_or (in_places i.env) n (pos 0) ≡ slice_index_or i.env n (pos 0)
  placed_at name n is =
      let few : n < 32 = subst (λ o. IfSome o (λ k. k < 32)) is (scalar_below program name keeps) in
      get_or-map-range_with_len (λ k. slice_index_or i.env k (pos 0)) 0 32 n n (pos 0) few (from_none n)

  at_variable : (header : Option Loop) → HeaderBelow (length program.names) header → (l : Loop) → header ≡ Some l → scalar_at (with_header header) l.name ≡ i.value
  at_variable None below l is = absurd (let none : None ≡ Some l = is in cc)
  at_variable (Some x) below l is =
      let same : x ≡ l = cc in
      subst (λ (y : Loop). scalar_at (with_header (Some x)) y.name ≡ i.value) same (get_or-set_same known x.name i.value (pos 0) (subst (λ n. x.name < n) (sym long) below))

  -- a name that is no local isn't the variable
  at_scheduled : (header : Option Loop) → ((l : Loop) → header ≡ Some l → has_name (locals_of body) l.name ≡ true) → (name n : ℕ) → scalar_of program name ≡ Some n → has_name (locals_of body) name ≡ false
      → slice_index_or (in_places i.env) n (pos 0) ≡ scalar_at (with_header header) name
  at_scheduled None variable name n is outside = placed_at name n is ∙ sym (known_at name n is)
  at_scheduled (Some l) variable name n is outside =
      let other : name ≢ l.name = λ same. absurd (false≢true (sym outside ∙ ap (has_name (locals_of body)) same ∙ variable l refl)) in
      placed_at name n is ∙ sym (known_at name n is) ∙ sym (get_or-set_other known l.name name i.value (pos 0) other)

  pub begins_with : BeginsWith program body (what_of program i).1 i.value (in_places i.env)
  begins_with = subst (λ (scalars : List ℤ). BeginsWith program body scalars i.value (in_places i.env)) (sym scalars_are) (record {
    many = as_long body.header;
    registers = length-map-range_with_len (λ n. slice_index_or i.env n (pos 0)) 0 32;
    variable = λ l is. at_variable body.header (found_there (BodyBelow (length program.names)) (invoked_by program) i.body body (headers_named program named) there) l is;
    scheduled = λ name n is outside. at_scheduled body.header (λ l header. variable_is_local body l header) name n is outside;
  })
