-- The setup of a program is right.
use Rattle.std.proofs.Common.{◌≡◌, ℕ, zero, suc, ◌+◌, ◌<◌, ℤ, Bool, true, false, ◌==◌, nat_lt, if◌then◌else◌, Option, Some, None, List, [], ◌∷◌, length, sum, refl, sym, ap, ◌∙◌, subst, inl, inr, ⊎_elim, arith}
use Rattle.std.specs.Prelude.{slice_get, slice_index_or}
use Rattle.std.specs.Option.{option_and_then, option_map, option_map_or}
use Rattle.std.proofs.lemmas.Bool.{cases_lt, and_parts, ltb-true, eqb-true, lt-ltb}
use Rattle.std.proofs.lemmas.List.{get_or_past, length-map}
use Rattle.std.proofs.lemmas.List.FromFn.{length-map-range_with_len}
use Rattle.nest_syntax.specs.declared.tree.Arm.{Arm}
use Rattle.nest_syntax.specs.declared.tree.Loop.{Loop}
use Rattle.nest_syntax.specs.declared.tree.Program.{Program}
use Rattle.nest_syntax.specs.declared.tree.Stmt.{Stmt}
use Rattle.nest_syntax.specs.Among.{IsOne, Each}
use Rattle.nest_syntax.specs.Words.{variable, most_turns}
use Rattle.nest_syntax.specs.Arrays.{Array, arrays_of, sizes_of, word_number}
use Rattle.nest_syntax.specs.Shape.{Body, body_of_loop, invoked_by, bodies_of}
use Rattle.nest_syntax.specs.Value.{with_scalar}
use Rattle.nest_syntax.specs.Turn.{Turn, turn_of}
use Rattle.nest_syntax.specs.Turn as turn
use Rattle.nest_syntax.specs.Inside.{StaysInside}
use Rattle.nest_syntax.specs.Outcome.{body_at, turn_in}
use Rattle.nest_syntax.proofs.Places.{word_number-lt}
use Rattle.nest_check.proofs.Inside.{turns_stay_inside}
use Rattle.settle_law.specs.Trees.{Finished}
use Rattle.settle_law.specs.Traces.{Apart}
use Rattle.settle_law.specs.Cuts.{cut, plain, plain_turn}
use Rattle.settle_law.specs.Claims.{Within}
use Rattle.settle_law.specs.Tasks.{Realises}
use Rattle.settle_law.specs.Courses.{Nest, nest_of, iteration_at, cut_at, family_of}
use Rattle.settle_law.specs.Reading.{fixed_in, KeepsFixed, WithinTurn, BodiesBegin}
use Rattle.settle_law.proofs.Turns.{inside_turns_tell, keeps-from_tells, within_turns}
use Rattle.task_code.proofs.Invoked.{regions_have}
use Rattle.task_code.specs.Code.{Code}
use Rattle.task_code.specs.Unfolded.{Unfolds}
use Rattle.task_frame.specs.Pieces.{reached}
use Rattle.task_frame.specs.System.{system_of}
use Rattle.dep_graph.specs.declared.kinds.LoopKind.{LoopKind}
use Rattle.dep_graph.specs.declared.kinds.LoopKind.TheVariants as kind
use Rattle.dep_graph.specs.Kinds.{kind_of as loop_kind_of}
use Rattle.dep_graph.specs.Apart.{turn_with, DoAllIsApart}
use Rattle.sched_cursor.specs.declared.event.Iteration.{Iteration}
use Rattle.sched_cursor.specs.Cursor.{Cursor}
use Rattle.sched_cursor.specs.Handed.{loop_of_body, variable_of_body, told_at, told, what_of}
use Rattle.sched_cursor.proofs.Inside.{bodies_inside}
use Rattle.nest_setup.specs.Pieces.{in_places, opening_piece}
use Rattle.nest_setup.specs.Setups.{BoundTurns}
use Rattle.nest_setup.proofs.Begun.{begins_with, found_there, found_inside}
use Rattle.nest_setup.proofs.Realised.{realised}
use Rattle.nest_setup.proofs.Right.{entries_of_bodies, stmts_at_number}
use Rattle.spec_machine.specs.Theorems.{words_of}
use Rattle.spec_tasks.proofs.Notes.{law}
use Rattle.spec_setup.specs.Signs.{Signs, kind_of}
use Rattle.spec_setup.specs.Setups.{Invoked, handed, is_turn_of, what_in, is_all, is_do_all, is_word_of, IsPrepared}
use Rattle.spec_setup.specs.Laws.{SetupsAreRight}
use Rattle.spec_setup.proofs.Signs.{keeps_notes}
use Rattle.spec_setup.proofs.Follows.{follows}

-- a body of the program is one of them
found_is_one : (bodies : List Body) (number : ℕ) (body : Body) → slice_get bodies number ≡ Some body → IsOne bodies body
found_is_one [] number body there = absurd (let none : None ≡ Some body = there in cc)
found_is_one (b ∷ bodies) zero body there = inl (let same : body ≡ b = cc in same)
found_is_one (b ∷ bodies) (suc number) body there = inr (found_is_one bodies number body there)

-- a body with a loop is that loop's
bodies_of_loops : (program : Program) → Each (λ (b : Body). (l : Loop) → b.header ≡ Some l → b ≡ body_of_loop l) (invoked_by program)
bodies_of_loops program =
    regions_have (λ s. Unit {0}) (λ (b : Body). (l : Loop) → b.header ≡ Some l → b ≡ body_of_loop l)
    (λ arms other holds. (in_arms arms, in_block other))
    (λ loop holds l is. let same : loop ≡ l = cc in ap body_of_loop same)
    (λ line name p o e holds l is. absurd (let no : None ≡ Some l = is in cc))
    program.regions (in_regions program.regions)
  where
    in_block : (stmts : List Stmt) → Each (λ (s : Stmt). Unit {0}) stmts
    in_block [] = tt
    in_block (s ∷ stmts) = (tt, in_block stmts)

    in_arms : (arms : List Arm) → Each (λ (a : Arm). Each (λ (s : Stmt). Unit {0}) a.body) arms
    in_arms [] = tt
    in_arms (a ∷ arms) = (in_block a.body, in_arms arms)

    in_regions : (regions : List Loop) → Each (λ (l : Loop). Each (λ (s : Stmt). Unit {0}) l.body) regions
    in_regions [] = tt
    in_regions (l ∷ regions) = (in_block l.body, in_regions regions)

-- the loop that invokes a body, by the body's number
record Looped (program : Program) (number : ℕ) (l : Loop) : Type 0 where
  pub one : IsOne (invoked_by program) (body_of_loop l)
  pub stmts : body_at (bodies_of program) number ≡ l.body
  pub variable_is : variable_of_body program number ≡ Some l.name

-- what a turn touches that stays inside its arrays
module _ (arrays : List Array) (fixed : ℕ → Option ℤ) where
  abbrev touched : ℕ → Bool
  touched w = nat_lt w (sum (sizes_of arrays))

  word_touched : (array place : ℕ) → place < slice_index_or (sizes_of arrays) array 0 → touched (word_number (sizes_of arrays) array place) ≡ true
  word_touched array place inside = ⊎_elim
      (λ there. lt-ltb (word_number (sizes_of arrays) array place) (sum (sizes_of arrays)) (word_number-lt (sizes_of arrays) array place there inside))
      (λ past. absurd (omega (arith, inside, get_or_past (sizes_of arrays) array 0 past)))
      (cases_lt array (length (sizes_of arrays)))

  touches : (t : Turn) → StaysInside arrays t → WithinTurn (sizes_of arrays) fixed (words_of touched) t
  touches turn.Finished inside = tt
  touches (turn.Trapped cause line) inside = tt
  touches (turn.Load array place go) inside = (λ free. word_touched array place inside.0, λ value can. touches (go value) (inside.1 value))
  touches (turn.Store array place value rest) inside = (word_touched array place inside.0, touches rest inside.2)
  touches (turn.Op rest) inside = touches rest inside
  touches (turn.Go rest) inside = touches rest inside

module _ {S : Type 0} (do_all : DoAllIsApart) (program : Program) (opening : List ℤ) (code : Code) (cursor : Cursor) (signs : Signs S) (width room : ℕ) (prepared : IsPrepared program code cursor signs width room) where
  abbrev arrays : List Array
  arrays = arrays_of program.decls

  abbrev sizes : List ℕ
  sizes = sizes_of (arrays_of program.decls)

  abbrev fixed : ℕ → Option ℤ
  fixed = fixed_in (arrays_of program.decls) opening

  abbrev nest : Nest
  nest = nest_of program opening

  abbrev turn_at : ℕ × List ℤ → Turn
  turn_at i = turn_in (arrays_of program.decls) (bodies_of program) i.0 i.1

  bodies_many : length (bodies_of program) ≡ length (invoked_by program)
  bodies_many = length-map (invoked_by program) (λ (b : Body). b.stmts)

  turn_stays : (i : ℕ × List ℤ) → StaysInside arrays (turn_at i)
  turn_stays i = turns_stay_inside program prepared.named prepared.keeps i.0 i.1

  turn_keeps : (i : ℕ × List ℤ) → KeepsFixed sizes fixed (turn_at i)
  turn_keeps i = keeps-from_tells arrays fixed opening (turn_at i) ((inside_turns_tell arrays opening).1 (turn_at i) (turn_stays i))

  body_below : (k : ℕ) (i : ℕ × List ℤ) → iteration_at nest k ≡ Some i → i.0 < length (bodies_of program)
  body_below k i at = bodies_inside program opening cursor prepared.cursor_is k i.0 i.1 at

  -- What an invocation says of an iteration of the nest is what is handed out, at a turn that may be one.
  pub record IsTurn (b : Invoked) (x : ℕ) : Type 0 where
    pub may : is_turn_of (loop_of_body program b.body) b x ≡ true
    pub told_as : what_in program (b, x) ≡ what_of program (handed b x)

  pub is_turn : (b : Invoked) (x k : ℕ) → iteration_at nest k ≡ Some (what_in program (b, x)) → IsTurn b x
  is_turn b x k at = by (is_turn_of (loop_of_body program b.body) b x) refl
    where
      by : (t : Bool) → is_turn_of (loop_of_body program b.body) b x ≡ t → IsTurn b x
      by true is = record { may = is; told_as = ap (λ t. if t then what_of program (handed b x) else (length (bodies_of program), [])) is }
      by false is =
          let none : what_in program (b, x) ≡ (length (bodies_of program), []) = ap (λ t. if t then what_of program (handed b x) else (length (bodies_of program), [])) is in
          let below : length (bodies_of program) < length (bodies_of program) = subst (λ (i : ℕ × List ℤ). i.0 < length (bodies_of program)) none (body_below k (what_in program (b, x)) at) in
          absurd (omega (arith, below))

  -- pieces begin
  begins : (stops : ℕ × List ℤ → ℕ) → BoundTurns program opening stops
      → BodiesBegin (system_of sizes code fixed) nest (what_in program) (λ (i : Invoked × ℕ). record { piece = opening_piece code (handed i.0 i.1); left = stops (what_of program (handed i.0 i.1)) })
  begins stops bounds (b, x) k at =
      let i : Iteration = handed b x in
      let same = (is_turn b x k at).told_as in
      let inside : i.body < length (bodies_of program) = subst (λ (j : ℕ × List ℤ). j.0 < length (bodies_of program)) same (body_below k (what_in program (b, x)) at) in
      let found = found_inside (invoked_by program) i.body (subst (λ n. i.body < n) bodies_many inside) in
      let here : turn_at (what_of program i) ≡ turn_of arrays found.0.stmts (what_of program i).1 = ap (λ (stmts : List Stmt). turn_of arrays stmts (what_of program i).1) (stmts_at_number (invoked_by program) i.body found.0 found.1) in
      let entry = entries_of_bodies.entry program code i.body found.0 prepared.code_is found.1 in
      subst (λ (j : ℕ × List ℤ). Realises (system_of sizes code fixed) (cut_at nest j) (record { piece = opening_piece code i; left = stops (what_of program i) })) (sym same)
      (realised sizes code fixed (turn_at (what_of program i)) 0 (stops (what_of program i)) (opening_piece code i)
      (subst (λ (t : Turn). Unfolds sizes code.instructions (cut sizes 0 t) (reached (opening_piece code i))) (sym here) (entry.unfolds (what_of program i).1 i.value (in_places i.env) (begins_with program prepared.named prepared.keeps i found.0 found.1)))
      (turn_keeps (what_of program i)) (bounds (what_of program i)))

  -- iterations touch the words of the arrays
  abbrev Touches : Option (ℕ × List ℤ) → Type 0
  Touches o = Within (words_of (is_word_of program)) (option_map_or (λ (i : ℕ × List ℤ). plain fixed (cut_at nest i)) o Finished)

  inside : (k : ℕ) → Within (words_of (is_word_of program)) (family_of fixed nest k)
  inside k = by (iteration_at nest k)
    where
      by : (o : Option (ℕ × List ℤ)) → Touches o
      by None = tt
      by (Some i) = (within_turns sizes fixed (words_of (is_word_of program)) (turn_at i)).0 (touches arrays fixed (turn_at i) (turn_stays i))

  -- the iterations of an invocation whose turns may be shared are apart
  all_of : (k : LoopKind) → is_all k ≡ true → k ≡ kind.DoAll
  all_of kind.DoAll is = refl
  all_of (kind.Plain first second) is = absurd cc

  looped : (b : Invoked) (l : Loop) → loop_of_body program b.body ≡ Some l → Looped program b.body l
  looped b l is = by (slice_get (invoked_by program) b.body) refl
    where
      by : (o : Option Body) → slice_get (invoked_by program) b.body ≡ o → Looped program b.body l
      by None none = absurd (let no : None ≡ Some l = sym (ap (option_and_then (λ (x : Body). x.header)) none) ∙ is in cc)
      by (Some body) there =
          let header : body.header ≡ Some l = sym (ap (option_and_then (λ (x : Body). x.header)) there) ∙ is in
          let same : body ≡ body_of_loop l = found_there (λ (x : Body). (l : Loop) → x.header ≡ Some l → x ≡ body_of_loop l) (invoked_by program) b.body body (bodies_of_loops program) there l header in
          let found : slice_get (invoked_by program) b.body ≡ Some (body_of_loop l) = there ∙ ap Some same in
          record {
            one = found_is_one (invoked_by program) b.body (body_of_loop l) found;
            stmts = stmts_at_number (invoked_by program) b.body (body_of_loop l) found;
            variable_is = ap (option_and_then (λ (x : Body). option_map (λ (y : Loop). y.name) x.header)) found;
          }

  -- the tree of a turn of it
  tree_is : (b : Invoked) (l : Loop) (step_is : b.step ≡ l.step) → Looped program b.body l → (k x : ℕ) → iteration_at nest k ≡ Some (what_in program (b, x))
      → family_of fixed nest k ≡ plain_turn sizes fixed (turn_with program l (told program b.env) (variable b.low l.step x))
  tree_is b l step_is is k x at =
      let same = (is_turn b x k at).told_as in
      ap (λ o. option_map_or (λ (i : ℕ × List ℤ). plain fixed (cut_at nest i)) o Finished) (at ∙ ap Some same)
      ∙ ap (λ (name : Option ℕ). plain_turn sizes fixed (turn_at (b.body, option_map_or (λ n. with_scalar (told program b.env) n (variable b.low b.step x)) name (told program b.env)))) is.variable_is
      ∙ ap (λ (stmts : List Stmt). plain_turn sizes fixed (turn_of arrays stmts (with_scalar (told program b.env) l.name (variable b.low b.step x)))) is.stmts
      ∙ ap (λ n. plain_turn sizes fixed (turn_of arrays l.body (with_scalar (told program b.env) l.name (variable b.low n x)))) step_is

  apart : (b : Invoked) (first x y : ℕ) → is_do_all program b ≡ true → (x ≡ y → ⊥) → iteration_at nest (first + x) ≡ Some (what_in program (b, x)) → iteration_at nest (first + y) ≡ Some (what_in program (b, y)) → Apart (family_of fixed nest (first + x)) (family_of fixed nest (first + y))
  apart b first x y all differ at_x at_y = by (loop_of_body program b.body) refl (is_turn b x (first + x) at_x).may (is_turn b y (first + y) at_y).may all
    where
      by : (o : Option Loop) → loop_of_body program b.body ≡ o → is_turn_of (loop_of_body program b.body) b x ≡ true → is_turn_of (loop_of_body program b.body) b y ≡ true → is_do_all program b ≡ true → Apart (family_of fixed nest (first + x)) (family_of fixed nest (first + y))
      by None none may_x may_y all =
          let low_x : x < 1 = ltb-true x 1 (sym (ap (λ o. is_turn_of o b x) none) ∙ may_x) in
          let low_y : y < 1 = ltb-true y 1 (sym (ap (λ o. is_turn_of o b y) none) ∙ may_y) in
          absurd (differ (let same : x ≡ y = omega (arith, low_x, low_y) in same))
      by (Some l) is may_x may_y all =
          let both_x = and_parts (b.step == l.step) (nat_lt x most_turns) (sym (ap (λ o. is_turn_of o b x) is) ∙ may_x) in
          let both_y = and_parts (b.step == l.step) (nat_lt y most_turns) (sym (ap (λ o. is_turn_of o b y) is) ∙ may_y) in
          let step_is : b.step ≡ l.step = eqb-true b.step l.step both_x.0 in
          let loop = looped b l is in
          let shared : loop_kind_of program l ≡ kind.DoAll = all_of (loop_kind_of program l) (sym (ap (λ o. option_map_or (λ (x : Loop). is_all (loop_kind_of program x)) o true) is) ∙ all) in
          subst (λ t. Apart t (family_of fixed nest (first + y))) (sym (tree_is b l step_is loop (first + x) x at_x))
          (subst (Apart (plain_turn sizes fixed (turn_with program l (told program b.env) (variable b.low l.step x)))) (sym (tree_is b l step_is loop (first + y) y at_y))
          (do_all program prepared.named prepared.keeps l loop.one shared (told program b.env) opening (length-map-range_with_len (told_at program b.env) 0 (length program.names)) b.low x y
          (ltb-true x most_turns both_x.1) (ltb-true y most_turns both_y.1) differ))

pub setups_right : {S : Type 0} → DoAllIsApart → SetupsAreRight S
setups_right do_all program opening code cursor signs width room far prepared stops bounds = record {
  some_worker = prepared.some_worker;
  some_room = prepared.some_room;
  begins = begins do_all program opening code cursor signs width room prepared stops bounds;
  follows = follows program opening cursor prepared.cursor_is;
  opens_fixed = (inside_turns_tell (arrays_of program.decls) opening).0;
  apart = λ b first x y all differ at_x at_y. apart do_all program opening code cursor signs width room prepared b first x y all differ at_x at_y;
  touched = is_word_of program;
  inside = inside do_all program opening code cursor signs width room prepared;
  is_kind = law (kind_of (sizes_of (arrays_of program.decls)) signs) (is_word_of program) (keeps_notes (sizes_of (arrays_of program.decls)) signs prepared.hold_notes);
}

pub touched_is : {S : Type 0} (do_all : DoAllIsApart) (program : Program) (opening : List ℤ) (code : Code) (cursor : Cursor) (signs : Signs S) (width room far : ℕ) (prepared : IsPrepared program code cursor signs width room) (stops : ℕ × List ℤ → ℕ) (bounds : BoundTurns program opening stops)
    → (setups_right do_all program opening code cursor signs width room far prepared stops bounds).touched ≡ is_word_of program
unfolding setups_right
touched_is do_all program opening code cursor signs width room far prepared stops bounds = refl
