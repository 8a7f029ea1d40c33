-- What the walk of a body meets depends only on the scalars in scope where the body begins, and on the `const` words.
use Rattle.std.proofs.Common.{◌≡◌, ℕ, ◌<◌, ◌==◌, ℤ, pos, Bool, true, false, not, ◌||◌, if◌then◌else◌, Option, Some, None, is_none, Ok, Err, List, [], ◌∷◌, length, slice_get, slice_index_or, refl, sym, ap, ◌∙◌, subst, inl, inr}
use Rattle.std.specs.Option.{option_map, option_and_then, option_map_or}
use Rattle.std.proofs.lemmas.List.{length-set}
use Rattle.std.proofs.lemmas.Bool.{or_cases, eqb-true}
use Rattle.nest_syntax.specs.declared.operators.Cause.TheVariants as cause
use Rattle.nest_syntax.specs.declared.tree.Loop.{Loop}
use Rattle.nest_syntax.specs.declared.tree.Stmt.{Stmt}
use Rattle.nest_syntax.specs.declared.tree.Program.{Program}
use Rattle.nest_syntax.specs.Named.{IsWellNamed}
use Rattle.nest_syntax.specs.Among.{is_among}
use Rattle.nest_syntax.specs.Arrays.{Array, arrays_of, sizes_of, array_of, is_fixed, place_of, word_number, word_at}
use Rattle.nest_syntax.specs.Value.{read, scalar_at, with_scalar, is_written}
use Rattle.nest_syntax.specs.Locals.{locals_of, with_zeros}
use Rattle.nest_syntax.specs.Shape.{Body, bodies_of, invoked_by}
use Rattle.nest_syntax.specs.Outcome.{body_at}
use Rattle.nest_syntax.proofs.Places.{place_in-inside}
use Rattle.data_local.specs.DataLocals.{AreDataLocals}
use Rattle.settle_law.specs.Cuts.{HoldsFixed}
use Rattle.settle_law.specs.Reading.{told, fixed_in}
use Rattle.settle_law.proofs.Turns.{fixed_as_array}
use Rattle.nest_check.specs.Kept.{KeepsRules}
use Rattle.nest_check.specs.Tables.{scalar_of}
use Rattle.claim_walk.specs.Walk.{Setting}
use Rattle.claim_walk.specs.Laws.{setting_of, AgreeAt, StepsAreOfScope}
use Rattle.claim_walk.proofs.Slices.{or_none}
use Rattle.claim_walk.proofs.Fits.{hidden_in, is_seen}
use Rattle.claim_walk.proofs.Agreeing.{not_false, Agree, set_same, set_other}
use Rattle.claim_walk.proofs.Alike.{block_alike}
use Rattle.claim_walk.proofs.Lengths.{zeros_long}
use Rattle.claim_walk.proofs.Whole.{IsOpening, body_fits_at}

-- a word of a `const` array, where the words hold what is told of the opening ones
module _ (arrays : List Array) (opening words : List ℤ) (holds : HoldsFixed (fixed_in arrays opening) words) where
  is_const : (fixed : Bool) → (if fixed then false else true) ≡ false → fixed ≡ true
  is_const true is = refl
  is_const false is = absurd (let no : true ≡ false = is in cc)

  abbrev number : ℕ → ℕ → ℕ
  number n place = word_number (sizes_of arrays) n place

  same_word : (n place : ℕ) → is_fixed arrays n ≡ true → place < slice_index_or (sizes_of arrays) n 0 → word_at words (number n place) ≡ word_at opening (number n place)
  same_word n place fixed inside = holds (number n place) (word_at opening (number n place)) (ap (λ b. told b (word_at opening (number n place))) (fixed_as_array arrays n place inside ∙ fixed))

  same_place : (n : ℕ) (at : ℤ) → is_fixed arrays n ≡ true → (found : Option ℕ) → place_of (sizes_of arrays) n at ≡ found
      → option_map_or (λ (p : ℕ × ℕ). Ok (word_at words (number p.0 p.1))) (option_map (λ (place : ℕ). (n, place)) found) (Err cause.Index)
      ≡ option_map_or (λ (p : ℕ × ℕ). Ok (word_at opening (number p.0 p.1))) (option_map (λ (place : ℕ). (n, place)) found) (Err cause.Index)
  same_place n at fixed None is = refl
  same_place n at fixed (Some place) is = ap Ok (same_word n place fixed (place_in-inside (slice_index_or (sizes_of arrays) n 0) at place is).0)

  same_array : (at : ℤ) (found : Option ℕ) → option_map_or (λ n. if is_fixed arrays n then false else true) found false ≡ false
      → option_map_or (λ (p : ℕ × ℕ). Ok (word_at words (number p.0 p.1))) (option_and_then (λ (n : ℕ). option_map (λ (place : ℕ). (n, place)) (place_of (sizes_of arrays) n at)) found) (Err cause.Index)
      ≡ option_map_or (λ (p : ℕ × ℕ). Ok (word_at opening (number p.0 p.1))) (option_and_then (λ (n : ℕ). option_map (λ (place : ℕ). (n, place)) (place_of (sizes_of arrays) n at)) found) (Err cause.Index)
  same_array at None is = refl
  same_array at (Some n) is = same_place n at (is_const (is_fixed arrays n) is) (place_of (sizes_of arrays) n at) refl

  same_reads : (name : ℕ) (at : ℤ) → is_written arrays name ≡ false → read arrays words name at ≡ read arrays opening name at
  same_reads name at const = same_array at (array_of arrays name) const

-- scalars with 0 for some names
zeros_same : (names : List ℕ) (xs ys : List ℤ) (name : ℕ) → length xs ≡ length ys → (is_among names name ≡ false → scalar_at xs name ≡ scalar_at ys name) → scalar_at (with_zeros names xs) name ≡ scalar_at (with_zeros names ys) name
zeros_same [] xs ys name e same = same refl
zeros_same (first ∷ names) xs ys name e same =
    zeros_same names (with_scalar xs first (pos 0)) (with_scalar ys first (pos 0)) name (length-set xs first (pos 0) ∙ e ∙ sym (length-set ys first (pos 0)))
    (λ out. by (name == first) refl (λ apart. same (ap (λ b. b || is_among names name) apart ∙ out)))
  where
    by : (b : Bool) → (name == first) ≡ b → (b ≡ false → scalar_at xs name ≡ scalar_at ys name) → scalar_at (with_scalar xs first (pos 0)) name ≡ scalar_at (with_scalar ys first (pos 0)) name
    by true eq rest = subst (λ n. scalar_at (with_scalar xs first (pos 0)) n ≡ scalar_at (with_scalar ys first (pos 0)) n) (sym (eqb-true name first eq)) (set_same xs ys first (pos 0) e)
    by false eq rest = set_other xs first name (pos 0) eq ∙ rest refl ∙ sym (set_other ys first name (pos 0) eq)

-- what is in scope where a body begins agrees
module _ (program : Program) (body : ℕ) (some others : List ℤ) (agree : AgreeAt program body some others) (set : Setting) (bound : List ℕ) (opens : IsOpening (invoked_by program) body bound) where
  abbrev stmts : List Stmt
  stmts = body_at (bodies_of program) body

  scheduled : (name : ℕ) (o : Option ℕ) → scalar_of program name ≡ o → is_none o ≡ false → scalar_at some name ≡ scalar_at others name
  scheduled name None is e = absurd (let no : true ≡ false = e in cc)
  scheduled name (Some number) is e = agree.scheduled name number is

  in_scope : (name : ℕ) → is_seen set (hidden_in program stmts) bound name ≡ true → scalar_at some name ≡ scalar_at others name
  in_scope name seen = elim (or_cases (is_among bound name) (not (hidden_in program stmts name)) seen) [
    | inl is_bound ↦ let l = opens name is_bound in subst (λ n. scalar_at some n ≡ scalar_at others n) l.2 (agree.variable l.0 l.1)
    | inr shown ↦ scheduled name (scalar_of program name) refl (or_none (is_among (locals_of stmts) name) (is_none (scalar_of program name)) (not_false (hidden_in program stmts name) shown)).1
  ]

  pub begun_alike : Agree set (hidden_in program stmts) bound (with_zeros (locals_of stmts) some) (with_zeros (locals_of stmts) others)
  begun_alike = record {
    as_many = zeros_long (locals_of stmts) some ∙ agree.as_many ∙ sym (zeros_long (locals_of stmts) others);
    each = λ name sliced seen. zeros_same (locals_of stmts) some others name agree.as_many (λ out. in_scope name seen);
  }

pub steps_of_scope : StepsAreOfScope
steps_of_scope program named keeps body data_locals are opening words holds some others agree =
    let set = setting_of program words data_locals in
    let stmts = body_at (bodies_of program) body in
    let fits = body_fits_at program named keeps words data_locals body are in
    block_alike set opening (same_reads (arrays_of program.decls) opening words holds) (hidden_in program stmts) stmts fits.0 false fits.1
    (with_zeros (locals_of stmts) some) (with_zeros (locals_of stmts) others) (begun_alike program body some others agree set fits.0 fits.2)
