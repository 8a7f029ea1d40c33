-- The setup of a program is right: its pieces realise the cut turns, its cursor follows the course, and iterations whose
-- claims don't clash are apart.
use Rattle.std.proofs.Common.{◌≡◌, ℕ, zero, suc, ◌<◌, ℤ, false, Option, Some, None, List, [], ◌∷◌, length, slice_index_or, refl, sym, ap, ◌∙◌, subst}
use Rattle.std.specs.Prelude.{slice_get}
use Rattle.std.specs.Option.{option_map_or}
use Rattle.std.proofs.lemmas.Bool.{true≢false}
use Rattle.std.proofs.lemmas.List.{length-map}
use Rattle.nest_syntax.specs.declared.tree.Program.{Program}
use Rattle.nest_syntax.specs.declared.tree.Stmt.{Stmt}
use Rattle.nest_syntax.specs.Arrays.{Array, arrays_of, sizes_of}
use Rattle.nest_syntax.specs.Shape.{Body, invoked_by, bodies_of, statements_of_each}
use Rattle.nest_syntax.specs.Turn.{Turn, turn_of}
use Rattle.nest_syntax.specs.Outcome.{body_at, turn_in}
use Rattle.nest_check.proofs.Inside.{turns_stay_inside}
use Rattle.addr_slice.specs.Claims.{Claimed, by_word, clashes, no_claims, IsEven}
use Rattle.addr_slice.proofs.Clashes.{tells_clash, Clash-sym}
use Rattle.settle_law.specs.Cuts.{cut, plain}
use Rattle.settle_law.specs.Trees.{Finished}
use Rattle.settle_law.specs.Traces.{Apart}
use Rattle.settle_law.specs.Claims.{Within}
use Rattle.settle_law.specs.Reading.{KeepsFixed, BodiesBegin, fixed_in}
use Rattle.settle_law.specs.Courses.{Nest, nest_of, family_of, iteration_at, cut_at}
use Rattle.settle_law.proofs.Claims.{apart-from_claims}
use Rattle.settle_law.proofs.Turns.{within_turns, inside_turns_tell, keeps-from_tells}
use Rattle.task_code.specs.declared.code.Entry.{Entry}
use Rattle.task_code.specs.declared.code.Instruction.{Instruction}
use Rattle.task_code.specs.Code.{Code, entry_of}
use Rattle.task_code.specs.CodeOf.{IsEntryOf, AreEntriesOf, IsCodeOf}
use Rattle.task_code.specs.Unfolded.{Unfolds}
use Rattle.task_frame.specs.Pieces.{reached}
use Rattle.task_frame.specs.System.{system_of}
use Rattle.sched_cursor.specs.declared.event.Iteration.{Iteration}
use Rattle.sched_cursor.specs.Cursor.{Cursor}
use Rattle.sched_cursor.specs.Handed.{what_of}
use Rattle.sched_cursor.proofs.Whole.{cursors_follow}
use Rattle.sched_cursor.proofs.Inside.{bodies_inside}
use Rattle.nest_setup.specs.Pieces.{in_places, opening_piece}
use Rattle.nest_setup.specs.Setups.{claims_numbered, BoundTurns, IsPrepared}
use Rattle.nest_setup.specs.Laws.{SetupsAreRight, EntriesAreOfBodies}
use Rattle.nest_setup.proofs.Begun.{begins_with, found_inside}
use Rattle.nest_setup.proofs.Realised.{realised}

-- the entries of a code
entry_at_number : (program : Program) (code : List Instruction) (d : Entry) (bodies : List Body) (entries : List Entry) → AreEntriesOf program code bodies entries → (number : ℕ) (body : Body) → slice_get bodies number ≡ Some body → IsEntryOf program code body (slice_index_or entries number d)
entry_at_number program code d [] [] are number body there = absurd (let none : None ≡ Some body = there in cc)
entry_at_number program code d (b ∷ bodies) (e ∷ entries) are zero body there = subst (λ x. IsEntryOf program code x e) (let same : b ≡ body = cc in same) are.0
entry_at_number program code d (b ∷ bodies) (e ∷ entries) are (suc number) body there = entry_at_number program code d bodies entries are.1 number body there
entry_at_number program code d [] (e ∷ entries) are number body there = elim are [ ]
entry_at_number program code d (b ∷ bodies) [] are number body there = elim are [ ]

as_many : (program : Program) (code : List Instruction) (bodies : List Body) (entries : List Entry) → AreEntriesOf program code bodies entries → length entries ≡ length bodies
as_many program code [] [] are = refl
as_many program code (b ∷ bodies) (e ∷ entries) are = ap suc (as_many program code bodies entries are.1)
as_many program code [] (e ∷ entries) are = elim are [ ]
as_many program code (b ∷ bodies) [] are = elim are [ ]

bodies_many : (program : Program) → length (bodies_of program) ≡ length (invoked_by program)
bodies_many program = length-map (invoked_by program) (λ (b : Body). b.stmts)

entry_found : (program : Program) (code : Code) (number : ℕ) (body : Body) → IsCodeOf program code → slice_get (invoked_by program) number ≡ Some body → IsEntryOf program code.instructions body (entry_of code number)
entry_found program code number body is there = entry_at_number program code.instructions (record { at = 0; slot = None }) (invoked_by program) code.entries is.entries number body there

pub entries_of_bodies : EntriesAreOfBodies
entries_of_bodies = record {
  many = λ program code is. as_many program code.instructions (invoked_by program) code.entries is.entries ∙ sym (bodies_many program);
  entry = entry_found;
}

-- the statements of a body by its number
pub stmts_at_number : (bodies : List Body) (number : ℕ) (body : Body) → slice_get bodies number ≡ Some body → body_at (statements_of_each bodies) number ≡ body.stmts
stmts_at_number [] number body there = absurd (let none : None ≡ Some body = there in cc)
stmts_at_number (b ∷ bodies) zero body there = ap (λ (x : Body). x.stmts) (let same : b ≡ body = cc in same)
stmts_at_number (b ∷ bodies) (suc number) body there = stmts_at_number bodies number body there

module _ (program : Program) (opening : List ℤ) (code : Code) (claims : ℕ × List ℤ → Claimed) (cursor : Cursor) (width room : ℕ) (prepared : IsPrepared program opening code claims cursor width room) where
  abbrev arrays : List Array
  arrays = arrays_of program.decls

  abbrev sizes : List ℕ
  sizes = sizes_of (arrays_of program.decls)

  abbrev fixed : ℕ → Option ℤ
  fixed = fixed_in (arrays_of program.decls) opening

  abbrev nest : Nest
  nest = nest_of program opening

  abbrev turn_at : ℕ × List ℤ → Turn
  turn_at i = turn_in (arrays_of program.decls) (bodies_of program) i.0 i.1

  turn_keeps : (i : ℕ × List ℤ) → KeepsFixed sizes fixed (turn_at i)
  turn_keeps i = keeps-from_tells arrays fixed opening (turn_at i) ((inside_turns_tell arrays opening).1 (turn_at i) (turns_stay_inside program prepared.named prepared.keeps i.0 i.1))

  -- pieces begin
  begins : (stops : ℕ × List ℤ → ℕ) → BoundTurns program opening stops → BodiesBegin (system_of sizes code fixed) nest (what_of program) (λ (i : Iteration). record { piece = opening_piece code i; left = stops (what_of program i) })
  begins stops bounds i k at =
      let inside : i.body < length (bodies_of program) = bodies_inside program opening cursor prepared.cursor_is k i.body (what_of program i).1 at in
      let found = found_inside (invoked_by program) i.body (subst (λ n. i.body < n) (bodies_many program) inside) in
      let here : turn_at (what_of program i) ≡ turn_of arrays found.0.stmts (what_of program i).1 = ap (λ (stmts : List Stmt). turn_of arrays stmts (what_of program i).1) (stmts_at_number (invoked_by program) i.body found.0 found.1) in
      let entry = entry_found program code i.body found.0 prepared.code_is found.1 in
      realised sizes code fixed (turn_at (what_of program i)) 0 (stops (what_of program i)) (opening_piece code i)
      (subst (λ (t : Turn). Unfolds sizes code.instructions (cut sizes 0 t) (reached (opening_piece code i))) (sym here) (entry.unfolds (what_of program i).1 i.value (in_places i.env) (begins_with program prepared.named prepared.keeps i found.0 found.1)))
      (turn_keeps (what_of program i)) (bounds (what_of program i))

  -- claims hold the trees of the iterations
  abbrev HoldsTree : ℕ → Option (ℕ × List ℤ) → Type 0
  HoldsTree k o = Within (by_word (claims_numbered program opening claims k)) (option_map_or (λ (i : ℕ × List ℤ). plain fixed (cut_at nest i)) o Finished)

  tree_held : (k : ℕ) → Within (by_word (claims_numbered program opening claims k)) (family_of fixed nest k)
  tree_held k = by (iteration_at nest k) refl
    where
      by : (o : Option (ℕ × List ℤ)) → iteration_at nest k ≡ o → HoldsTree k (iteration_at nest k)
      by None is = subst (HoldsTree k) (sym is) tt
      by (Some i) is = subst (HoldsTree k) (sym is)
          (subst (λ (c : Claimed). Within (by_word c) (plain fixed (cut_at nest i))) (sym (ap (λ o. option_map_or claims o (no_claims 0)) is))
          ((within_turns sizes fixed (by_word (claims i)) (turn_at i)).0 (prepared.claims_hold.hold i)))

  claims_even : (k : ℕ) → IsEven (claims_numbered program opening claims k)
  claims_even k = by (iteration_at nest k)
    where
      by : (o : Option (ℕ × List ℤ)) → IsEven (option_map_or claims o (no_claims 0))
      by None = refl
      by (Some i) = prepared.claims_hold.even i

  apart : (j k : ℕ) → clashes (claims_numbered program opening claims) j k ≡ false → Apart (family_of fixed nest j) (family_of fixed nest k)
  unfolding clashes
  apart j k none =
      let mine = claims_numbered program opening claims j in
      let other = claims_numbered program opening claims k in
      apart-from_claims (by_word mine) (by_word other) (family_of fixed nest j) (family_of fixed nest k) (tree_held j) (tree_held k)
      (λ clash. true≢false (sym ((tells_clash other mine (claims_even k)).1 (Clash-sym mine other clash)) ∙ none))

pub setups_right : SetupsAreRight
setups_right program opening code claims cursor width room prepared stops bounds = record {
  some_worker = prepared.some_worker;
  some_room = prepared.some_room;
  begins = begins program opening code claims cursor width room prepared stops bounds;
  follows = cursors_follow program opening cursor prepared.cursor_is;
  opens_fixed = (inside_turns_tell (arrays_of program.decls) opening).0;
  apart = λ j k lower none. apart program opening code claims cursor width room prepared j k none;
}
