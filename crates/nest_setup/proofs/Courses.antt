-- Along a history the cursor stays one of the program, and counts what was handed out. And the words that decide an event.
use Rattle.std.proofs.Common.{◌≡◌, ℕ, suc, ◌+◌, ℤ, Bool, true, false, if◌then◌else◌, Option, Some, None, Result, Ok, Err, List, refl, ap, ◌∙◌, subst, arith}
use Rattle.std.specs.Prelude.{slice_get, IfSome}
use Rattle.std.specs.List.{list_any}
use Rattle.std.specs.Option.{option_map}
use Rattle.nest_syntax.specs.declared.place.Place.{Place}
use Rattle.nest_syntax.specs.declared.tree.Program.{Program}
use Rattle.nest_syntax.specs.Arrays.{Array, arrays_of}
use Rattle.nest_syntax.specs.Value.{names_written}
use Rattle.nest_syntax.specs.Course.{Purpose}
use Rattle.addr_slice.specs.Claims.{Claimed}
use Rattle.settle_law.specs.Courses.{Trap, nest_of}
use Rattle.settle_law.specs.Courses as courses
use Rattle.task_code.specs.Code.{Code}
use Rattle.task_frame.specs.declared.piece.Piece.{Piece}
use Rattle.sched_cursor.specs.declared.event.Event.{Event}
use Rattle.sched_cursor.specs.declared.event.Event.TheVariants as kind
use Rattle.sched_cursor.specs.declared.event.Iteration.{Iteration}
use Rattle.sched_cursor.specs.declared.node.Next.TheVariants as next
use Rattle.sched_cursor.specs.declared.node.Node.{Node}
use Rattle.sched_cursor.specs.declared.node.At.{At}
use Rattle.sched_cursor.specs.declared.node.At.TheVariants as at
use Rattle.sched_cursor.specs.Steps.{exprs_of}
use Rattle.sched_cursor.specs.Cursor.{Cursor}
use Rattle.sched_cursor.specs.Events.{after_at, after_event, kind_found, kind_at, kind_of, purpose_at, handed_at, cursor_or, trap_in, event_of, event_at, placed, as_answer, is_of_invocation, is_iteration}
use Rattle.sched_cursor.specs.Laws.{IsCursorOf, restarted}
use Rattle.sched_cursor.proofs.Cursors.{cursors_stay}
use Rattle.sched_cursor.proofs.Counting.{events_count}
use Rattle.sched_cursor.proofs.Presents.{const_words_suffice}
use Rattle.domore_machine.specs.Machine.{Setup, State, Move, DoScalar, DoClose, DoDrain, DoDispatch, DoHalt, opening, state_after}
use Rattle.domore_machine.proofs.Guards.{Guard}
use Rattle.nest_setup.specs.Setups.{setup_of}
use Rattle.nest_setup.proofs.Along.{along}
use Rattle.nest_setup.specs.Laws.{CursorsKeepUp, EventsAgree, place_by, IsAnswered, AnswersTellEvents}

-- the words that an event other than a drain is told by
pub events_agree : EventsAgree
events_agree arrays opening_words words c same = by (kind_of arrays c) refl
  where
    told : Event → List ℤ → courses.Event Iteration Cursor
    told k now = event_of k (purpose_at c c.at) (λ w. after_at arrays c w c.at) (handed_at c c.at) now c

    by : (k : Event) → kind_of arrays c ≡ k → told k words ≡ told k opening_words
    by kind.Scalar is = ap (λ (r : Result Cursor Trap). let e : courses.Event Iteration Cursor = courses.Scalar (purpose_at c c.at) (trap_in r) (cursor_or c r) in e) (const_words_suffice arrays opening_words words c same is)
    by kind.Drain is = refl
    by kind.Iterate is = ap (λ (r : Result Cursor Trap). courses.Iterate (handed_at c c.at) (cursor_or c r)) (events_count.unread arrays words opening_words c (ap is_of_invocation is))
    by kind.Close is = ap (λ (r : Result Cursor Trap). let e : courses.Event Iteration Cursor = courses.Close (cursor_or c r) in e) (events_count.unread arrays words opening_words c (ap is_of_invocation is))
    by kind.End is = refl

-- what an answer tells of the event
module _ (arrays : List Array) (words : List ℤ) (c later : Cursor) (answer : Option Place) where
  answered : (r : Result Cursor Trap) → as_answer answer later ≡ placed c.next r → IfSome answer (λ place. later ≡ c) → (answer ≡ option_map (place_by c) (trap_in r)) × (later ≡ cursor_or c r)
  answered r moved kept = by answer r moved kept
    where
      by : (o : Option Place) (r : Result Cursor Trap) → as_answer o later ≡ placed c.next r → IfSome o (λ place. later ≡ c) → (o ≡ option_map (place_by c) (trap_in r)) × (later ≡ cursor_or c r)
      by None (Ok there) moved kept = (refl, (let same : later ≡ there = cc in same))
      by None (Err trap) moved kept = absurd (cc)
      by (Some place) (Ok there) moved kept = absurd (cc)
      by (Some place) (Err trap) moved kept = ((let same : place ≡ place_by c trap = cc in ap Some same), kept)

  not_found : (found : Option Node) → is_of_invocation (kind_found arrays found) ≡ true → ⊥
  not_found None is = let no : false ≡ true = is in cc
  not_found (Some this) is = by (list_any (names_written arrays) (exprs_of this)) is
    where
      by : (drains : Bool) → is_of_invocation (if drains then kind.Drain else kind.Scalar) ≡ true → ⊥
      by true is = let no : false ≡ true = is in cc
      by false is = let no : false ≡ true = is in cc

  untrapped : (a : At) → is_of_invocation (kind_at arrays c a) ≡ true → trap_in (after_at arrays c words a) ≡ None
  untrapped (at.Before (next.Node n)) is = absurd (not_found (slice_get c.nodes n) is)
  untrapped (at.Before next.Turn) is = absurd (let no : false ≡ true = is in cc)
  untrapped (at.Before next.End) is = absurd (let no : false ≡ true = is in cc)
  untrapped (at.Inside i) is = refl

  tells : as_answer answer later ≡ placed c.next (after_event arrays c words) → IfSome answer (λ place. later ≡ c) → IsAnswered c words answer later (event_at arrays words c)
  tells moved kept = by (kind_of arrays c) refl (answered (after_event arrays c words) moved kept)
    where
      by : (k : Event) → kind_of arrays c ≡ k → (answer ≡ option_map (place_by c) (trap_in (after_event arrays c words))) × (later ≡ cursor_or c (after_event arrays c words))
          → IsAnswered c words answer later (event_of k (purpose_at c c.at) (λ w. after_at arrays c w c.at) (handed_at c c.at) words c)
      by kind.Scalar is both = both
      by kind.Drain is both = both
      by kind.Iterate is both = (both.0 ∙ ap (option_map (place_by c)) (untrapped c.at (ap is_of_invocation is)), both.1, refl)
      by kind.Close is both = (both.0 ∙ ap (option_map (place_by c)) (untrapped c.at (ap is_of_invocation is)), both.1)
      by kind.End is both = tt

pub answers_tell : AnswersTellEvents
answers_tell arrays opening_words words c later answer same moved kept =
    subst (IsAnswered c words answer later) (events_agree arrays opening_words words c same) (tells arrays words c later answer moved kept)

module _ (program : Program) (c : Cursor) (is : IsCursorOf program c) where
  abbrev arrays : List Array
  arrays = arrays_of program.decls

  -- behind an event stands a cursor of the program; only an iteration is counted, and it doesn't trap
  abbrev Goes : Bool → Cursor → Type 0
  Goes more later = IsCursorOf program later × (later.next ≡ (if more then c.next + 1 else c.next))

  abbrev Ends : Bool → Result Cursor Trap → Type 0
  Ends more (Ok later) = Goes more later
  Ends more (Err trap) = more ≡ false

  found_not : (found : Option Node) → is_iteration (kind_found arrays found) ≡ false
  found_not None = refl
  found_not (Some this) = by (list_any (names_written arrays) (exprs_of this))
    where
      by : (drains : Bool) → is_iteration (if drains then kind.Drain else kind.Scalar) ≡ false
      by true = refl
      by false = refl

  trapped_not : (words : List ℤ) (trap : Trap) (a : At) → after_at arrays c words a ≡ Err trap → is_iteration (kind_at arrays c a) ≡ false
  trapped_not words trap (at.Before (next.Node n)) e = found_not (slice_get c.nodes n)
  trapped_not words trap (at.Before next.Turn) e = refl
  trapped_not words trap (at.Before next.End) e = refl
  trapped_not words trap (at.Inside i) e = absurd (cc)

  results : (words : List ℤ) → Ends (is_iteration (kind_of arrays c)) (after_event arrays c words)
  results words = by (after_event arrays c words) refl
    where
      by : (r : Result Cursor Trap) → after_event arrays c words ≡ r → Ends (is_iteration (kind_of arrays c)) r
      by (Ok later) e = (cursors_stay.behind_events program words c later is e, events_count.passed arrays words c later e)
      by (Err trap) e = trapped_not words trap c.at e

  abbrev pub Leads_on : courses.Event Iteration Cursor → Type 0
  Leads_on courses.End = Unit {0}
  Leads_on (courses.Scalar purpose trap rest) = Goes false rest
  Leads_on (courses.Drain purpose traps rests) = (words : List ℤ) → Goes false (rests words)
  Leads_on (courses.Iterate b rest) = Goes true rest
  Leads_on (courses.Close rest) = Goes false rest

  or_same : (r : Result Cursor Trap) → Ends false r → Goes false (cursor_or c r)
  or_same (Ok later) goes = goes
  or_same (Err trap) e = (is, refl)

  or_counted : (r : Result Cursor Trap) → Ends true r → Goes true (cursor_or c r)
  or_counted (Ok later) goes = goes
  or_counted (Err trap) e = absurd (let no : true ≡ false = e in cc)

  told : (k : Event) (purpose : Purpose) (after : List ℤ → Result Cursor Trap) (b : Iteration) (words : List ℤ) → ((now : List ℤ) → Ends (is_iteration k) (after now)) → Leads_on (event_of k purpose after b words c)
  told kind.Scalar purpose after b words each = or_same (after words) (each words)
  told kind.Drain purpose after b words each = λ now. or_same (after now) (each now)
  told kind.Iterate purpose after b words each = or_counted (after words) (each words)
  told kind.Close purpose after b words each = or_same (after words) (each words)
  told kind.End purpose after b words each = tt

  pub leads_on : (words : List ℤ) → Leads_on (event_at arrays words c)
  leads_on words = told (kind_of arrays c) (purpose_at c c.at) (λ w. after_at arrays c w c.at) (handed_at c c.at) words results

module _ (program : Program) (words : List ℤ) (code : Code) (claims : ℕ × List ℤ → Claimed) (width room : ℕ) where
  abbrev m : Setup Iteration Cursor Piece
  m = setup_of program words code claims width room

  abbrev KeepsUp : State Iteration Cursor Piece → Type 0
  KeepsUp s = IsCursorOf program s.cursor × (s.cursor.next ≡ s.next)

  pub row : (s : State Iteration Cursor Piece) (u : ℕ) (move : Move Iteration Cursor Piece) → Guard m s u move → KeepsUp s → KeepsUp (state_after m s u move)
  row s u (DoScalar purpose None rest) g keeps = let on = subst (Leads_on program s.cursor keeps.0) g.1 (leads_on program s.cursor keeps.0 words) in (on.0, on.1 ∙ keeps.1)
  row s u (DoScalar purpose (Some trap) rest) g keeps = keeps
  row s u (DoClose rest) g keeps = let on = subst (Leads_on program s.cursor keeps.0) g.1 (leads_on program s.cursor keeps.0 words) in (on.0, on.1 ∙ keeps.1)
  row s u (DoDrain purpose None rest) (traps, rests, free, is, trap, behind, all) keeps =
      let on = subst (Leads_on program s.cursor keeps.0) is (leads_on program s.cursor keeps.0 words) in
      let there = on s.words in
      subst (λ (c : Cursor). IsCursorOf program c × (c.next ≡ s.next)) behind (there.0, there.1 ∙ keeps.1)
  row s u (DoDrain purpose (Some trap) rest) g keeps = keeps
  row s u (DoDispatch b rest) g keeps =
      let on = subst (Leads_on program s.cursor keeps.0) g.1 (leads_on program s.cursor keeps.0 words) in
      let more : rest.next ≡ s.cursor.next + 1 = on.1 in
      let same : s.cursor.next ≡ s.next = keeps.1 in
      let counted : rest.next ≡ suc s.next = omega (arith, more, same) in
      (on.0, counted)
  row s u DoHalt g keeps = keeps
  row s u move g keeps = keeps

pub cursors_keep_up : CursorsKeepUp
cursors_keep_up program words code claims cursor width room is history s leads =
    along (setup_of program words code claims width room) (λ (t : State Iteration Cursor Piece). IsCursorOf program t.cursor × (t.cursor.next ≡ t.next)) (row program words code claims width room)
    history (opening (setup_of program words code claims width room) (restarted program cursor) words) s (cursors_stay.at_start program cursor is, refl) leads
