-- The frame that an iteration of a body begins on holds the scalars.
use Rattle.std.proofs.Common.{◌≡◌, ℕ, zero, suc, ◌<◌, ◌≤◌, ℤ, pos, Bool, true, false, ◌||◌, ◌==◌, if◌then◌else◌, Option, Some, None, List, [], ◌∷◌, length, replicate, slice_index_or, slice_set, refl, sym, ap, ◌∙◌, subst, arith, eq-eqb}
use Rattle.std.specs.Prelude.{is_some, IfSome}
use Rattle.std.specs.Option.{option_map}
use Rattle.std.proofs.lemmas.Bool.{eqb-true}
use Rattle.std.proofs.lemmas.List.{get_or-replicate, get_or-set_same, get_or-set_other, length-set, length-replicate}
use Rattle.nest_syntax.specs.declared.names.Line.{Line}
use Rattle.nest_syntax.specs.declared.tree.Loop.{Loop}
use Rattle.nest_syntax.specs.declared.tree.Stmt.{Stmt}
use Rattle.nest_syntax.specs.declared.tree.Program.{Program}
use Rattle.nest_syntax.specs.Among.{is_among}
use Rattle.nest_syntax.specs.Value.{scalar_at}
use Rattle.nest_syntax.specs.Locals.{with_zeros}
use Rattle.nest_syntax.specs.Locals as text
use Rattle.nest_syntax.specs.Shape.{Body, body_of_loop, body_of_write}
use Rattle.nest_check.specs.Declarations.{has_name, names_of, first_of_each, index_of_name}
use Rattle.nest_check.specs.Entries.{scheduler_scalars}
use Rattle.nest_check.specs.Tables.{scalar_of}
use Rattle.nest_check.specs.Rules.{locals_of}
use Rattle.nest_check.specs.Kept.{KeepsRules}
use Rattle.nest_check.proofs.Judged.{few_scalar_names}
use Rattle.task_hop.specs.declared.frame.Frame.{Frame}
use Rattle.task_hop.specs.declared.frame.Register.{Register}
use Rattle.task_hop.specs.declared.frame.Register.TheVariants as register
use Rattle.task_hop.specs.Registers.{held}
use Rattle.task_code.specs.Unfolded.{opening_frame}
use Rattle.task_code.specs.Ready.{register_by, register_of}
use Rattle.task_code.specs.Compiled.{Holds, IsInside}
use Rattle.task_code.specs.Bodies.{layout_of, slot_of}
use Rattle.task_code.specs.CodeOf.{BeginsWith}
use Rattle.task_code.proofs.Places.{place_inside}
use Rattle.task_code.proofs.Zeros.{zeros_long, zeros_out, zeros_in}
use Rattle.task_code.proofs.Layouts.{placed, loop_layout, write_layout, variable_first}

if_some : (o : Option ℕ) (P Q : ℕ → Type 0) → IfSome o P → ((n : ℕ) → P n → Q n) → IfSome o Q
if_some None P Q holds map = tt
if_some (Some n) P Q holds map = map n holds

has_one : 0 < length (replicate 16 (pos 0))
has_one = let many = length-replicate 16 (pos 0) in omega (arith, many)

zero_at : (n slot : ℕ) → slot < n → slice_index_or (replicate n (pos 0)) slot (pos 0) ≡ pos 0
zero_at n slot inside = get_or-replicate n slot (pos 0) (pos 0) inside

module _ (program : Program) (keeps : KeepsRules program) (body : Body) (few : length (layout_of body) ≤ 16) where
  slots_few : (name : ℕ) → IfSome (index_of_name (layout_of body) name) (λ slot. slot < 16)
  slots_few name = if_some (index_of_name (layout_of body) name) (λ slot. slot < length (layout_of body)) (λ slot. slot < 16) (place_inside (layout_of body) name) (λ slot less. omega (arith, less, few))

  numbers_few : (name : ℕ) → IfSome (scalar_of program name) (λ n. n < 32)
  numbers_few name = if_some (scalar_of program name) (λ n. n < length (names_of (first_of_each (scheduler_scalars program)))) (λ n. n < 32)
      (place_inside (names_of (first_of_each (scheduler_scalars program))) name) (λ n less. omega (arith, less, few_scalar_names program keeps))

  abbrev InsideBy : Option Register → Type 0
  InsideBy None = Unit {0}
  InsideBy (Some r) = IsInside r

  inside_by : (slot number : Option ℕ) → IfSome slot (λ n. n < 16) → IfSome number (λ n. n < 32) → InsideBy (register_by slot number)
  inside_by (Some slot) number is_slot is_number = is_slot
  inside_by None (Some n) is_slot is_number = is_number
  inside_by None None is_slot is_number = tt

  inside : (name : ℕ) (r : Register) → register_of program (layout_of body) name ≡ Some r → IsInside r
  inside name r is = subst InsideBy is (inside_by (index_of_name (layout_of body) name) (scalar_of program name) (slots_few name) (numbers_few name))

  -- the names of locals are names of the program
  module _ (count : ℕ) (below : (name : ℕ) → is_some (index_of_name (layout_of body) name) ≡ true → name < count) where
    abbrev BelowBy : ℕ → Option Register → Type 0
    BelowBy name None = Unit {0}
    BelowBy name (Some (register.Local n)) = name < count
    BelowBy name (Some (register.Scalar n)) = Unit {0}
    BelowBy name (Some (register.Temporary n)) = Unit {0}

    below_by : (name : ℕ) (slot number : Option ℕ) → index_of_name (layout_of body) name ≡ slot → BelowBy name (register_by slot number)
    below_by name (Some slot) number is = below name (ap is_some is)
    below_by name None (Some n) is = tt
    below_by name None None is = tt

    many : (name slot : ℕ) → register_of program (layout_of body) name ≡ Some (register.Local slot) → name < count
    many name slot is = subst (BelowBy name) is (below_by name (index_of_name (layout_of body) name) (scalar_of program name) refl)

    -- what each register holds, from what the locals hold
    module _ (scalars : List ℤ) (value : ℤ) (env : List ℤ) (begins : BeginsWith program body scalars value env) (frame : Frame) (env_is : frame.env ≡ env) (long : length frame.locals ≡ 16) (temps : length frame.temps ≡ 32) (as_many : length scalars ≡ count)
        (at_local : (name slot : ℕ) → index_of_name (layout_of body) name ≡ Some slot → slice_index_or frame.locals slot (pos 0) ≡ scalar_at (with_zeros (text.locals_of body.stmts) scalars) name)
        (no_local : (name : ℕ) → index_of_name (layout_of body) name ≡ None → is_among (text.locals_of body.stmts) name ≡ false) where
      abbrev opened : List ℤ
      opened = with_zeros (text.locals_of body.stmts) scalars

      abbrev ValueBy : ℕ → Option Register → Type 0
      ValueBy name None = Unit {0}
      ValueBy name (Some r) = held frame r ≡ scalar_at opened name

      value_by : (name : ℕ) (slot number : Option ℕ) → index_of_name (layout_of body) name ≡ slot → scalar_of program name ≡ number → ValueBy name (register_by slot number)
      value_by name (Some slot) number is_slot is_number = at_local name slot is_slot
      value_by name None (Some n) is_slot is_number =
          ap (λ e. slice_index_or e n (pos 0)) env_is
          ∙ begins.scheduled name n is_number (sym (placed (locals_of body) name) ∙ ap is_some is_slot)
          ∙ sym (zeros_out (text.locals_of body.stmts) scalars name (no_local name is_slot))
      value_by name None None is_slot is_number = tt

      pub opened_holds : Holds program (layout_of body) opened frame
      opened_holds = record {
        env = ap length env_is ∙ begins.registers;
        locals_held = long;
        temps = temps;
        many = λ name slot is. subst (λ n. name < n) (sym (zeros_long (text.locals_of body.stmts) scalars ∙ as_many)) (many name slot is);
        inside = inside;
        values = λ name r is. subst (ValueBy name) is (value_by name (index_of_name (layout_of body) name) (scalar_of program name) refl refl);
      }

none_in : (o : Option ℕ) (b : Bool) → is_some o ≡ b → o ≡ None → b ≡ false
none_in o b is none = sym is ∙ ap is_some none

-- an array statement
module _ (program : Program) (keeps : KeepsRules program) (line : Line) (s : Stmt) (few : length (layout_of (body_of_write line s)) ≤ 16)
    (below : (name : ℕ) → is_some (index_of_name (layout_of (body_of_write line s)) name) ≡ true → name < length program.names) where
  abbrev the_write : Body
  the_write = body_of_write line s

  pub write_opens : (scalars : List ℤ) (value : ℤ) (env : List ℤ) → BeginsWith program (body_of_write line s) scalars value env
      → Holds program (layout_of (body_of_write line s)) (with_zeros (text.locals_of (s ∷ [])) scalars) (opening_frame None value env)
  write_opens scalars value env begins = opened_holds program keeps the_write few (length program.names) below scalars value env begins (opening_frame None value env) refl (length-replicate 16 (pos 0)) (length-replicate 32 (pos 0)) begins.many at_local no_local where
    at_local : (name slot : ℕ) → index_of_name (layout_of the_write) name ≡ Some slot → slice_index_or (replicate 16 (pos 0)) slot (pos 0) ≡ scalar_at (with_zeros (text.locals_of (s ∷ [])) scalars) name
    at_local name slot is =
        let there : is_among (text.locals_of (s ∷ [])) name ≡ true = sym (write_layout line s name) ∙ ap is_some is in
        let inside : slot < 16 = subst (λ o. IfSome o (λ n. n < 16)) is (slots_few program keeps the_write few name) in
        zero_at 16 slot inside ∙ sym (zeros_in (text.locals_of (s ∷ [])) scalars name there)

    no_local : (name : ℕ) → index_of_name (layout_of the_write) name ≡ None → is_among (text.locals_of (s ∷ [])) name ≡ false
    no_local name none = none_in (index_of_name (layout_of the_write) name) (is_among (text.locals_of (s ∷ [])) name) (write_layout line s name) none

-- the body of a loop, whose variable is the first local
module _ (program : Program) (keeps : KeepsRules program) (l : Loop) (few : length (layout_of (body_of_loop l)) ≤ 16)
    (below : (name : ℕ) → is_some (index_of_name (layout_of (body_of_loop l)) name) ≡ true → name < length program.names) (apart : is_among (text.locals_of l.body) l.name ≡ false) where
  abbrev the_body : Body
  the_body = body_of_loop l

  or_none : (a b : Bool) → (a || b) ≡ false → b ≡ false
  or_none true b e = absurd cc
  or_none false b e = e

  -- the first local is the variable, and the others aren't
  slot_tells : (name slot : ℕ) → index_of_name (layout_of the_body) name ≡ Some slot → (b : Bool) → (l.name == name) ≡ b → (if b then Some 0 else option_map suc (index_of_name (variable_first l).0 name)) ≡ Some slot
  slot_tells name slot is b same = subst (λ t. (if t then Some 0 else option_map suc (index_of_name (variable_first l).0 name)) ≡ Some slot) same (sym (ap (λ ns. index_of_name ns name) (variable_first l).1) ∙ is)

  not_zero : (k : ℕ) → Some 0 ≡ Some (suc k) → ⊥
  not_zero k e = let same : 0 ≡ suc k = cc in omega (arith, same)

  not_first : (o : Option ℕ) → option_map suc o ≡ Some 0 → ⊥
  not_first None e = cc
  not_first (Some n) e = cc

  pub loop_opens : (scalars : List ℤ) (value : ℤ) (env : List ℤ) → BeginsWith program (body_of_loop l) scalars value env
      → Holds program (layout_of (body_of_loop l)) (with_zeros (text.locals_of l.body) scalars) (opening_frame (Some 0) value env)
  loop_opens scalars value env begins = opened_holds program keeps the_body few (length program.names) below scalars value env begins (opening_frame (Some 0) value env) refl (length-set (replicate 16 (pos 0)) 0 value ∙ length-replicate 16 (pos 0)) (length-replicate 32 (pos 0)) begins.many at_local no_local where
    by_name : (name slot : ℕ) → index_of_name (layout_of the_body) name ≡ Some slot → slot < 16 → (b : Bool) → (l.name == name) ≡ b → slice_index_or (slice_set (replicate 16 (pos 0)) 0 value) slot (pos 0) ≡ scalar_at (with_zeros (text.locals_of l.body) scalars) name
    by_name name zero is inside true same =
        let one : l.name ≡ name = eqb-true l.name name same in
        get_or-set_same (replicate 16 (pos 0)) 0 value (pos 0) has_one
        ∙ sym (begins.variable l refl)
        ∙ sym (zeros_out (text.locals_of l.body) scalars l.name apart)
        ∙ ap (scalar_at (with_zeros (text.locals_of l.body) scalars)) one
    by_name name zero is inside false other = elim (not_first (index_of_name (variable_first l).0 name) (slot_tells name zero is false other)) [ ]
    by_name name (suc k) is inside true same = elim (not_zero k (slot_tells name (suc k) is true same)) [ ]
    by_name name (suc k) is inside false other =
        let there : is_among (text.locals_of l.body) name ≡ true = sym (ap (λ b. b || is_among (text.locals_of l.body) name) other) ∙ sym (loop_layout l name) ∙ ap is_some is in
        get_or-set_other (replicate 16 (pos 0)) 0 (suc k) value (pos 0) (λ e. omega (arith, e)) ∙ zero_at 16 (suc k) inside ∙ sym (zeros_in (text.locals_of l.body) scalars name there)

    at_local : (name slot : ℕ) → index_of_name (layout_of the_body) name ≡ Some slot → slice_index_or (slice_set (replicate 16 (pos 0)) 0 value) slot (pos 0) ≡ scalar_at (with_zeros (text.locals_of l.body) scalars) name
    at_local name slot is = by_name name slot is (subst (λ o. IfSome o (λ n. n < 16)) is (slots_few program keeps the_body few name)) (l.name == name) refl

    no_local : (name : ℕ) → index_of_name (layout_of the_body) name ≡ None → is_among (text.locals_of l.body) name ≡ false
    no_local name none = or_none (l.name == name) (is_among (text.locals_of l.body) name) (none_in (index_of_name (layout_of the_body) name) ((l.name == name) || is_among (text.locals_of l.body) name) (loop_layout l name) none)
