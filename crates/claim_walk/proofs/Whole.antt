-- The claims of an iteration hold its turn, and the steps of its walk bound it.
use Rattle.std.proofs.Common.{◌≡◌, ◌==◌, ℕ, zero, suc, ◌+◌, ℤ, Bool, true, false, ◌&&◌, nat_le, nat_lt, ◌||◌, Option, Some, None, List, [], ◌∷◌, length, slice_get, slice_index_or, refl, sym, ap, ◌∙◌, arith, inl, inr, eq-eqb}
use Rattle.std.specs.Option.{option_map_or, option_and_then}
use Rattle.std.proofs.lemmas.Bool.{or_left, or_right, le-leb, lt-ltb, eqb-true}
use Rattle.nest_syntax.specs.declared.tree.Loop.{Loop}
use Rattle.nest_syntax.specs.declared.tree.Stmt.{Stmt}
use Rattle.nest_syntax.specs.declared.tree.Program.{Program}
use Rattle.nest_syntax.specs.Named.{IsWellNamed}
use Rattle.nest_syntax.specs.Among.{Each, IsOne, is_among}
use Rattle.nest_syntax.specs.Arrays.{Array, arrays_of, sizes_of, word_number, word_at}
use Rattle.nest_syntax.specs.Locals.{locals_of}
use Rattle.nest_syntax.specs.Shape.{Body, bodies_of, invoked_by, statements_of_each}
use Rattle.nest_syntax.specs.Turn.{Turn, Finished, Trapped, Load, Store, Op, Go, turn_of}
use Rattle.nest_syntax.specs.Outcome.{body_at, turn_in}
use Rattle.data_local.specs.DataLocals.{AreDataLocals}
use Rattle.data_local.specs.Loops.{loops_of}
use Rattle.settle_law.specs.Claims.{Claims}
use Rattle.settle_law.specs.Reading.{WithinTurn, told, fixed_in}
use Rattle.settle_law.proofs.Turns.{fixed_as_array}
use Rattle.nest_check.specs.Kept.{KeepsRules}
use Rattle.bound_names.specs.Meant.{HasMeaning}
use Rattle.bound_names.specs.Uses.{Invocation, opening_bindings}
use Rattle.bound_names.proofs.Meanings.{have_meaning}
use Rattle.claim_walk.specs.Walk.{Step, Passes, Touches, Sweeps, Setting, same_kind, claims_word, is_claimed, claims_met, steps_of, walk_body}
use Rattle.claim_walk.specs.Laws.{TakesAtMost, setting_of, steps_in, ClaimsHoldTurns, StepsBoundTurns, StepsAreOfLocals}
use Rattle.claim_walk.proofs.Held.{has, Held, All, IsClaimed, more}
use Rattle.claim_walk.proofs.Expressions.{TellsConst}
use Rattle.claim_walk.proofs.Fits.{hidden_in, fit_block}
use Rattle.claim_walk.proofs.Statements.{body_held}
use Rattle.claim_walk.proofs.Ruled.{names_of, body_fits}
use Rattle.claim_walk.proofs.Bodies.{Within, program_within, bounded_in}

-- both halves of what is held
module _ (sizes : List ℕ) (fixed : ℕ → Option ℤ) (claims : Claims) where
  within_held : (t : Turn) (n : ℕ) → Held sizes fixed claims t n → WithinTurn sizes fixed claims t
  within_held Finished n held = tt
  within_held (Trapped cause line) n held = tt
  within_held (Load array place go) n (m, less, claimed, held) = (claimed, λ value can. within_held (go value) m (held value can))
  within_held (Store array place value rest) n (m, less, claimed, held) = (claimed, within_held rest m held)
  within_held (Op rest) n (m, less, held) = within_held rest m held
  within_held (Go rest) n (m, less, held) = within_held rest m held

  takes_held : (t : Turn) (n : ℕ) → Held sizes fixed claims t n → TakesAtMost sizes fixed t n
  takes_held Finished n held = tt
  takes_held (Trapped cause line) n held = tt
  takes_held (Load array place go) n (m, less, claimed, held) = (m, less, λ value can. takes_held (go value) m (held value can))
  takes_held (Store array place value rest) n (m, less, claimed, held) = (m, less, takes_held rest m held)
  takes_held (Op rest) n (m, less, held) = (m, less, takes_held rest m held)
  takes_held (Go rest) n (m, less, held) = (m, less, takes_held rest m held)

-- the claims of what is met hold each step of it
module _ (sizes : List ℕ) (fixed : ℕ → Option ℤ) where
  abbrev met_claims : List Step → Claims
  met_claims steps = claims_met sizes steps

  has_met : (steps : List Step) (write : Bool) (w : ℕ) → is_claimed sizes steps write w ≡ true → has (met_claims steps) write w ≡ true
  has_met steps true w e = e
  has_met steps false w e = e

  itself : (write : Bool) → same_kind write write ≡ true
  itself true = refl
  itself false = refl

  one_claims : (step : Step) (write : Bool) (w : ℕ) (steps : List Step) → IsOne steps step → claims_word sizes step write w ≡ true → is_claimed sizes steps write w ≡ true
  one_claims step write w [] one e = absurd one
  one_claims step write w (first ∷ steps) (inl same) e = or_left (claims_word sizes first write w) (is_claimed sizes steps write w) (ap (λ s. claims_word sizes s write w) (sym same) ∙ e)
  one_claims step write w (first ∷ steps) (inr later) e = or_right (claims_word sizes first write w) (is_claimed sizes steps write w) (one_claims step write w steps later e)

  both_true : (a b : Bool) → a ≡ true → b ≡ true → (a && b) ≡ true
  both_true true b e f = f
  both_true false b e f = absurd (let no : false ≡ true = e in cc)

  step_claimed : (steps : List Step) (step : Step) → IsOne steps step → IsClaimed sizes fixed (met_claims steps) step
  step_claimed steps Passes one = tt
  step_claimed steps (Touches array place write) one = has_met steps write (word_number sizes array place) (one_claims (Touches array place write) write (word_number sizes array place) steps one
      (both_true (same_kind write write) (word_number sizes array place == word_number sizes array place) (itself write) (eq-eqb (word_number sizes array place) (word_number sizes array place) refl)))
  step_claimed steps (Sweeps array write) one = λ place below.
      let first = word_number sizes array 0 in
      let here = word_number sizes array place in
      let end = word_number sizes array (slice_index_or sizes array 0) in
      has_met steps write here (one_claims (Sweeps array write) write here steps one
      (both_true (same_kind write write) (nat_le first here && nat_lt here end) (itself write)
      (both_true (nat_le first here) (nat_lt here end) (le-leb first here (omega arith)) (lt-ltb here end (omega (arith, below))))))

  each_claimed : (steps some : List Step) → ((s : Step) → IsOne some s → IsOne steps s) → All sizes fixed (met_claims steps) some
  each_claimed steps [] into = tt
  each_claimed steps (s ∷ some) into = (step_claimed steps s (into s (inl refl)), each_claimed steps some (λ other is. into other (inr is)))

-- the opening words tell the `const` ones
tells_const : (arrays : List Array) (words : List ℤ) → TellsConst arrays words (fixed_in arrays words)
tells_const arrays words array place below is = ap (λ b. told b (word_at words (word_number (sizes_of arrays) array place))) (fixed_as_array arrays array place below ∙ is)

-- what is bound where a body begins is the variable of the loop that invokes it
abbrev pub IsOpening : List Body → ℕ → List ℕ → Type 0
IsOpening bodies n bound = (name : ℕ) → is_among bound name ≡ true → (l : Loop) × (option_and_then (λ (b : Body). b.header) (slice_get bodies n) ≡ Some l) × (l.name ≡ name)

opened : (header : Option Loop) (name : ℕ) → is_among (names_of (option_map_or (λ (l : Loop). (l.name, Invocation l) ∷ []) header [])) name ≡ true → (l : Loop) × (header ≡ Some l) × (l.name ≡ name)
opened None name is = absurd (let no : false ≡ true = is in cc)
opened (Some l) name is = (l, refl, sym (eqb-true name l.name (or_nothing (name == l.name) is)))
  where
    or_nothing : (b : Bool) → (b || false) ≡ true → b ≡ true
    or_nothing true e = refl
    or_nothing false e = e

-- a body of a program fits
module _ (program : Program) (named : IsWellNamed program) (keeps : KeepsRules program) (words : List ℤ) (data_locals : List ℕ) where
  abbrev set : Setting
  set = setting_of program words data_locals

  abbrev pub Fits : List Body → ℕ → List Stmt → Type 0
  Fits bodies n stmts = AreDataLocals set.arrays stmts data_locals → (bound : List ℕ) × (fit_block set (hidden_in program stmts) stmts bound false ≡ true) × IsOpening bodies n bound

  one_fits : (body : Body) (bodies : List Body) → HasMeaning program body → IsOne (bodies_of program) body.stmts → Within (loops_of program) body.stmts → Fits (body ∷ bodies) 0 body.stmts
  one_fits body bodies means one within are = (
    names_of (opening_bindings body),
    body_fits program body set.arrays words data_locals are (opening_bindings body) means (bounded_in program keeps body words data_locals one within are),
    λ name is. opened body.header name is,
  )

  at_fits : (bodies : List Body) → Each (HasMeaning program) bodies → Each (Within (loops_of program)) (statements_of_each bodies) → ((stmts : List Stmt) → IsOne (statements_of_each bodies) stmts → IsOne (bodies_of program) stmts) → (n : ℕ) → Fits bodies n (body_at (statements_of_each bodies) n)
  at_fits [] means within into n = λ are. ([], refl, λ name is. absurd (let no : false ≡ true = is in cc))
  at_fits (b ∷ bodies) means within into zero = one_fits b bodies means.0 (into b.stmts (inl refl)) within.0
  at_fits (b ∷ bodies) means within into (suc n) = at_fits bodies means.1 within.1 (λ stmts one. into stmts (inr one)) n

  pub body_fits_at : (n : ℕ) → Fits (invoked_by program) n (body_at (bodies_of program) n)
  body_fits_at = at_fits (invoked_by program) (have_meaning program named keeps) (program_within program) (λ stmts one. one)

  holds : (body : ℕ) → AreDataLocals set.arrays (body_at (bodies_of program) body) data_locals → (scalars : List ℤ)
      → Held (sizes_of set.arrays) (fixed_in set.arrays words) (claims_met (sizes_of set.arrays) (steps_in program words data_locals body scalars)) (turn_in set.arrays (bodies_of program) body scalars) (length (steps_in program words data_locals body scalars))
  holds body are scalars =
      let stmts = body_at (bodies_of program) body in
      let fits = body_fits_at body are in
      let steps = steps_in program words data_locals body scalars in
      let claims = claims_met (sizes_of set.arrays) steps in
      more (sizes_of set.arrays) (fixed_in set.arrays words) claims (turn_of set.arrays stmts scalars) (length steps + 0) (length steps) (omega arith)
      (body_held set (hidden_in program stmts) (fixed_in set.arrays words) claims (tells_const set.arrays words) stmts fits.0 scalars fits.1 (each_claimed (sizes_of set.arrays) (fixed_in set.arrays words) steps steps (λ s one. one)))

pub claims_hold : ClaimsHoldTurns
claims_hold program named keeps body data_locals are scalars words =
    within_held (sizes_of (arrays_of program.decls)) (fixed_in (arrays_of program.decls) words) (claims_met (sizes_of (arrays_of program.decls)) (steps_in program words data_locals body scalars)) (turn_in (arrays_of program.decls) (bodies_of program) body scalars)
    (length (steps_in program words data_locals body scalars)) (holds program named keeps words data_locals body are scalars)

pub steps_bound : StepsBoundTurns
steps_bound program named keeps body data_locals are scalars words =
    takes_held (sizes_of (arrays_of program.decls)) (fixed_in (arrays_of program.decls) words) (claims_met (sizes_of (arrays_of program.decls)) (steps_in program words data_locals body scalars)) (turn_in (arrays_of program.decls) (bodies_of program) body scalars)
    (length (steps_in program words data_locals body scalars)) (holds program named keeps words data_locals body are scalars)

-- two lists with the same names tell the same walk
same_tests : (a b : Bool) → (a ≡ true → b ≡ true) → (b ≡ true → a ≡ true) → a ≡ b
same_tests true b f g = sym (f refl)
same_tests false true f g = g refl
same_tests false false f g = refl

pub steps_of_locals : StepsAreOfLocals
steps_of_locals program body some others are are_too scalars words =
    let same = λ (name : ℕ). same_tests (is_among some name) (is_among others name) (λ is. (are_too name).1 ((are name).0 is)) (λ is. (are name).1 ((are_too name).0 is)) in
    ap (λ (tell : ℕ → Bool). steps_of (walk_body (record { arrays = arrays_of program.decls; words = words; is_data_local = tell }) (body_at (bodies_of program) body) scalars)) (λ i name. same name i)
