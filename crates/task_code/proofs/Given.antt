-- A frame holds the scalars also where a name is given a value.
use Rattle.std.proofs.Common.{◌≡◌, ◌≢◌, ℕ, suc, ◌<◌, ℤ, pos, Bool, true, false, ◌==◌, Option, Some, None, List, [], ◌∷◌, length, slice_index_or, slice_set, if◌then◌else◌, refl, sym, ap, ◌∙◌, subst, arith}
use Rattle.std.specs.Prelude.{IfSome}
use Rattle.std.proofs.lemmas.Bool.{eqb-true, eq-eqb}
use Rattle.std.proofs.lemmas.List.{get_or-set_same, get_or-set_other, length-set}
use Rattle.std.specs.Option.{option_map}
use Rattle.nest_syntax.specs.declared.tree.Program.{Program}
use Rattle.nest_syntax.specs.Value.{scalar_at, with_scalar}
use Rattle.nest_check.specs.Declarations.{first_of_each, names_of, index_of_name}
use Rattle.nest_check.specs.Entries.{scheduler_scalars}
use Rattle.nest_check.specs.Tables.{scalar_of}
use Rattle.task_hop.specs.declared.frame.Frame.{Frame}
use Rattle.task_hop.specs.declared.frame.Register.{Register}
use Rattle.task_hop.specs.declared.frame.Register.TheVariants as register
use Rattle.task_hop.specs.Registers.{held, with_register}
use Rattle.task_code.specs.Ready.{register_by, register_of}
use Rattle.task_code.specs.Compiled.{Holds, IsInside, KeepsBelow}

-- at the place of a name stands the name
place_has : (names : List ℕ) (name : ℕ) → IfSome (index_of_name names name) (λ place. slice_index_or names place 0 ≡ name)
place_has [] name = tt
place_has (first ∷ names) name = by (first == name) (index_of_name names name) refl (place_has names name) where
  by : (b : Bool) (p : Option ℕ) → first == name ≡ b → IfSome p (λ place. slice_index_or names place 0 ≡ name) → IfSome (if b then Some 0 else option_map suc p) (λ place. slice_index_or (first ∷ names) place 0 ≡ name)
  by true p is has = eqb-true first name is
  by false None is has = tt
  by false (Some place) is has = has

module _ (program : Program) (locals : List ℕ) where
  scalar_names : List ℕ
  scalar_names = names_of (first_of_each (scheduler_scalars program))

  -- the name of a register
  abbrev IsNamed : Option Register → ℕ → Type 0
  IsNamed None name = Unit {0}
  IsNamed (Some (register.Local n)) name = slice_index_or locals n 0 ≡ name
  IsNamed (Some (register.Scalar n)) name = slice_index_or (names_of (first_of_each (scheduler_scalars program))) n 0 ≡ name
  IsNamed (Some (register.Temporary n)) name = Unit {0}

  named_by : (slot number : Option ℕ) (name : ℕ) → IfSome slot (λ n. slice_index_or locals n 0 ≡ name) → IfSome number (λ n. slice_index_or (names_of (first_of_each (scheduler_scalars program))) n 0 ≡ name) → IsNamed (register_by slot number) name
  named_by (Some n) number name is_slot is_number = is_slot
  named_by None (Some n) name is_slot is_number = is_number
  named_by None None name is_slot is_number = tt

  named : (name : ℕ) → IsNamed (register_of program locals name) name
  named name = named_by (index_of_name locals name) (scalar_of program name) name (place_has locals name) (place_has (names_of (first_of_each (scheduler_scalars program))) name)

  same_name : (a b : ℕ) (r : Register) → IsInside r → IsNamed (Some r) a → IsNamed (Some r) b → a ≡ b
  same_name a b (register.Local n) inside is_a is_b = sym is_a ∙ is_b
  same_name a b (register.Scalar n) inside is_a is_b = sym is_a ∙ is_b
  same_name a b (register.Temporary n) inside is_a is_b = elim inside [ ]

  -- two names have two registers
  apart : (a b : ℕ) (r : Register) → IsInside r → register_of program locals a ≡ Some r → register_of program locals b ≡ Some r → a ≡ b
  apart a b r inside at_a at_b = same_name a b r inside (subst (λ o. IsNamed o a) at_a (named a)) (subst (λ o. IsNamed o b) at_b (named b))

  abbrev IsLong : Frame → Type 0
  IsLong frame = (length frame.env ≡ 32) × (length frame.locals ≡ 16)

  set_here : (frame : Frame) (r : Register) (value : ℤ) → length frame.env ≡ 32 → length frame.locals ≡ 16 → IsInside r → held (with_register frame r value) r ≡ value
  set_here frame (register.Local n) value env locals inside = get_or-set_same frame.locals n value (pos 0) (omega (arith, locals, inside))
  set_here frame (register.Scalar n) value env locals inside = get_or-set_same frame.env n value (pos 0) (omega (arith, env, inside))
  set_here frame (register.Temporary n) value env locals inside = elim inside [ ]

  set_other : (frame : Frame) (r q : Register) (value : ℤ) → (q ≡ r → ⊥) → held (with_register frame r value) q ≡ held frame q
  set_other frame (register.Local n) (register.Local k) value other = get_or-set_other frame.locals n k value (pos 0) (λ e. other (ap register.Local e))
  set_other frame (register.Local n) (register.Scalar k) value other = refl
  set_other frame (register.Local n) (register.Temporary k) value other = refl
  set_other frame (register.Scalar n) (register.Local k) value other = refl
  set_other frame (register.Scalar n) (register.Scalar k) value other = get_or-set_other frame.env n k value (pos 0) (λ e. other (ap register.Scalar e))
  set_other frame (register.Scalar n) (register.Temporary k) value other = refl
  set_other frame (register.Temporary n) (register.Local k) value other = refl
  set_other frame (register.Temporary n) (register.Scalar k) value other = refl
  set_other frame (register.Temporary n) (register.Temporary k) value other = get_or-set_other frame.temps n k value (pos 0) (λ e. other (ap register.Temporary e))

  some_one : (q r : Register) → Some q ≡ Some r → q ≡ r
  some_one q r e = cc

  differ : (a b : ℕ) → a == b ≡ false → a ≡ b → ⊥
  differ a b e same = let wrong : false ≡ true = sym e ∙ eq-eqb a b same in cc

  env_length : (frame : Frame) (r : Register) (value : ℤ) → length (with_register frame r value).env ≡ length frame.env
  env_length frame (register.Local n) value = refl
  env_length frame (register.Scalar n) value = length-set frame.env n value
  env_length frame (register.Temporary n) value = refl

  locals_length : (frame : Frame) (r : Register) (value : ℤ) → length (with_register frame r value).locals ≡ length frame.locals
  locals_length frame (register.Local n) value = length-set frame.locals n value
  locals_length frame (register.Scalar n) value = refl
  locals_length frame (register.Temporary n) value = refl

  temps_kept : (frame : Frame) (r : Register) (value : ℤ) → IsInside r → (with_register frame r value).temps ≡ frame.temps
  temps_kept frame (register.Local n) value inside = refl
  temps_kept frame (register.Scalar n) value inside = refl
  temps_kept frame (register.Temporary n) value inside = elim inside [ ]

  -- giving a name a value keeps all temporaries
  pub gives_below : (into : ℕ) (frame : Frame) (r : Register) (value : ℤ) → IsInside r → KeepsBelow into frame (with_register frame r value)
  gives_below into frame r value inside n below = ap (λ temps. slice_index_or temps n (pos 0)) (temps_kept frame r value inside)

  pub gives_held : (frame : Frame) (r : Register) (value : ℤ) (n : ℕ) → IsInside r → held (with_register frame r value) (register.Temporary n) ≡ held frame (register.Temporary n)
  gives_held frame r value n inside = ap (λ temps. slice_index_or temps n (pos 0)) (temps_kept frame r value inside)

  pub holds_given : (scalars : List ℤ) (frame : Frame) (name slot : ℕ) (value : ℤ) → Holds program locals scalars frame → register_of program locals name ≡ Some (register.Local slot)
      → Holds program locals (with_scalar scalars name value) (with_register frame (register.Local slot) value)
  holds_given scalars frame name slot value holds is = record {
    env = env_length frame (register.Local slot) value ∙ holds.env;
    locals_held = locals_length frame (register.Local slot) value ∙ holds.locals_held;
    temps = ap length (temps_kept frame (register.Local slot) value (holds.inside name (register.Local slot) is)) ∙ holds.temps;
    many = λ other k at_k. subst (λ n. other < n) (sym (length-set scalars name value)) (holds.many other k at_k);
    inside = holds.inside;
    values = λ other q at_q. by other (other == name) refl q at_q;
  } where
    by : (other : ℕ) (b : Bool) → other == name ≡ b → (q : Register) → register_of program locals other ≡ Some q → held (with_register frame (register.Local slot) value) q ≡ scalar_at (with_scalar scalars name value) other
    by other true e q at_q =
        let same : other ≡ name = eqb-true other name e in
        let at_name : register_of program locals name ≡ Some q = subst (λ n. register_of program locals n ≡ Some q) same at_q in
        let one : q ≡ register.Local slot = some_one q (register.Local slot) (sym at_name ∙ is) in
        subst (λ n. held (with_register frame (register.Local slot) value) q ≡ scalar_at (with_scalar scalars name value) n) (sym same)
        (subst (λ p. held (with_register frame (register.Local slot) value) p ≡ scalar_at (with_scalar scalars name value) name) (sym one)
        (set_here frame (register.Local slot) value holds.env holds.locals_held (holds.inside name (register.Local slot) is) ∙ sym (get_or-set_same scalars name value (pos 0) (holds.many name slot is))))
    by other false e q at_q =
        let differs : other ≢ name = λ same. differ other name e same in
        let two : q ≡ register.Local slot → ⊥ = λ one. differs (apart other name (register.Local slot) (holds.inside name (register.Local slot) is) (at_q ∙ ap Some one) is) in
        set_other frame (register.Local slot) q value two ∙ holds.values other q at_q ∙ sym (get_or-set_other scalars name other value (pos 0) differs)
