-- The entries of a code by the numbers of bodies.
use Rattle.std.proofs.Common.{◌≡◌, ℕ, zero, suc, ℤ, Bool, true, ◌||◌, ◌==◌, Option, Some, None, List, [], ◌∷◌, ◌++◌, length, slice_index_or, refl, sym, ap, ◌∙◌, subst, eq-eqb}
use Rattle.std.specs.Prelude.{slice_get}
use Rattle.std.specs.Option.{option_map_or}
use Rattle.nest_syntax.specs.declared.tree.Loop.{Loop}
use Rattle.nest_syntax.specs.declared.tree.Program.{Program}
use Rattle.nest_syntax.specs.Arrays.{Array}
use Rattle.nest_syntax.specs.Shape.{Declaration, Body, invoked_by, statements_of_each, declarations_in}
use Rattle.nest_syntax.specs.Turn.{turn_of}
use Rattle.nest_syntax.specs.Outcome.{body_at}
use Rattle.nest_check.specs.Declarations.{has_name, first_of_each}
use Rattle.nest_check.specs.Entries.{statements_of}
use Rattle.task_code.specs.declared.code.Entry.{Entry}
use Rattle.task_code.specs.declared.code.Instruction.{Instruction}
use Rattle.task_code.specs.Code.{Code}
use Rattle.task_code.specs.CodeOf.{IsEntryOf, AreEntriesOf}
use Rattle.task_code.specs.Entries.{EntriesCount, EntriesAreOfBodies, TurnsAreOfBodies, VariablesAreLocals}
use Rattle.task_code.proofs.Layouts.{all_more}

module _ (program : Program) (code : List Instruction) where
  as_many : (bodies : List Body) (entries : List Entry) → AreEntriesOf program code bodies entries → length entries ≡ length (statements_of_each bodies)
  as_many [] [] are = refl
  as_many (b ∷ bodies) (e ∷ entries) are = ap suc (as_many bodies entries are.1)
  as_many [] (e ∷ entries) are = elim are [ ]
  as_many (b ∷ bodies) [] are = elim are [ ]

  at_number : (d : Entry) (bodies : List Body) (entries : List Entry) → AreEntriesOf program code bodies entries → (number : ℕ) (body : Body) → slice_get bodies number ≡ Some body → IsEntryOf program code body (slice_index_or entries number d)
  at_number d [] [] are number body there = absurd cc
  at_number d (b ∷ bodies) (e ∷ entries) are zero body there = subst (λ x. IsEntryOf program code x e) (let same : b ≡ body = cc in same) are.0
  at_number d (b ∷ bodies) (e ∷ entries) are (suc number) body there = at_number d bodies entries are.1 number body there
  at_number d [] (e ∷ entries) are number body there = elim are [ ]
  at_number d (b ∷ bodies) [] are number body there = elim are [ ]

pub entries_count : EntriesCount
entries_count program code is = as_many program code.instructions (invoked_by program) code.entries is.entries

pub entries_of_bodies : EntriesAreOfBodies
entries_of_bodies program code is number body there = at_number program code.instructions (record { at = 0; slot = None }) (invoked_by program) code.entries is.entries number body there

-- the statements of a body by its number
stmts_at : (bodies : List Body) (number : ℕ) (body : Body) → slice_get bodies number ≡ Some body → body_at (statements_of_each bodies) number ≡ body.stmts
stmts_at [] number body there = absurd cc
stmts_at (b ∷ bodies) zero body there = ap (λ (x : Body). x.stmts) (let same : b ≡ body = cc in same)
stmts_at (b ∷ bodies) (suc number) body there = stmts_at bodies number body there

pub turns_of_bodies : TurnsAreOfBodies
turns_of_bodies arrays bodies number body there scalars = ap (λ stmts. turn_of arrays stmts scalars) (stmts_at bodies number body there)

pub variable_local : VariablesAreLocals
variable_local body l is =
    let ds : List Declaration = declarations_in (statements_of body.stmts) in
    subst (λ h. has_name (first_of_each (option_map_or (λ (x : Loop). (x.name, x.line) ∷ []) h [] ++ ds)) l.name ≡ true) (sym is)
    (all_more [] ((l.name, l.line) ∷ ds) l.name ∙ ap (λ b. b || has_name ds l.name) (eq-eqb l.name l.name refl))
