-- No step changes the script of the cursor.
use Rattle.std.proofs.Common.{◌≡◌, ℕ, ℤ, Option, Some, None, Result, Ok, Err, List, refl, sym, subst}
use Rattle.std.specs.Option.{option_map}
use Rattle.nest_syntax.specs.declared.tree.Program.{Program}
use Rattle.nest_syntax.specs.Arrays.{Array, arrays_of}
use Rattle.nest_syntax.specs.Course.{Purpose, opening_scalars}
use Rattle.settle_law.specs.Courses.{Trap}
use Rattle.sched_cursor.specs.declared.event.Event.{Event as Kind}
use Rattle.sched_cursor.specs.declared.event.Event.TheVariants as kind
use Rattle.sched_cursor.specs.declared.event.Iteration.{Iteration}
use Rattle.sched_cursor.specs.declared.node.At.{At}
use Rattle.sched_cursor.specs.declared.node.At.TheVariants as at
use Rattle.sched_cursor.specs.Cursor.{Cursor}
use Rattle.sched_cursor.specs.Events.{after_event, kind_at, purpose_at, handed_at, cursor_or, event_of}
use Rattle.sched_cursor.specs.Laws.{before_entry, restarted}
use Rattle.sched_cursor.proofs.Handing.{Stays, StaysOk, stays_after}
use Rattle.spec_machine.specs.Invocations.{Event, End, Scalar, Drain, Invoke}
use Rattle.spec_machine.specs.Machine.{Setup, State, Move, DoScalar, DoDrain, DoOpen, move_of, state_after, step}
use Rattle.spec_machine.proofs.Events.{FromEvent, from_event}
use Rattle.spec_setup.specs.Setups.{Invoked, invoking, by_invocations, invocation_at, setup_of}
use Rattle.spec_setup.specs.Ahead.{ScriptsStay}

-- behind an event the cursor has the script
module _ (arrays : List Array) (words : List ℤ) (c : Cursor) where
  abbrev StaysEvent : Event Invoked Cursor → Type 0
  StaysEvent End = Unit {0}
  StaysEvent (Scalar purpose trap rest) = Stays c rest
  StaysEvent (Drain purpose traps rests) = (now : List ℤ) → Stays c (rests now)
  StaysEvent (Invoke b n rest) = Stays c rest

  or_stays : (r : Result Cursor Trap) → StaysOk c r → Stays c (cursor_or c r)
  or_stays (Ok later) stays = stays
  or_stays (Err trap) stays = record { nodes = refl; drains = refl; entry = refl; names = refl }

  stays_invoking : (a : At) → StaysEvent (invoking c a)
  stays_invoking (at.Before behind) = tt
  stays_invoking (at.Inside i) = record { nodes = refl; drains = refl; entry = refl; names = refl }

  stays_kind : (k : Kind) (purpose : Purpose) (b : Iteration) → StaysEvent (by_invocations c (event_of k purpose (λ now. after_event arrays c now) b words c))
  stays_kind kind.Scalar purpose b = or_stays (after_event arrays c words) (stays_after arrays words c)
  stays_kind kind.Drain purpose b = λ now. or_stays (after_event arrays c now) (stays_after arrays now c)
  stays_kind kind.Iterate purpose b = stays_invoking c.at
  stays_kind kind.Close purpose b = stays_invoking c.at
  stays_kind kind.End purpose b = tt

  stays_event : StaysEvent (invocation_at arrays words c)
  stays_event = stays_kind (kind_at arrays c c.at) (purpose_at c c.at) (handed_at c c.at)

module _ {P G : Type 0} (program : Program) (words : List ℤ) (m : Setup Invoked Cursor P G) (is_event : (c : Cursor) → m.event c ≡ invocation_at (arrays_of program.decls) words c) (s : State Invoked Cursor P G) where
  there : StaysEvent (arrays_of program.decls) words s.cursor (m.event s.cursor)
  there = subst (StaysEvent (arrays_of program.decls) words s.cursor) (sym (is_event s.cursor)) (stays_event (arrays_of program.decls) words s.cursor)

  same_script : (later : Cursor) → Stays s.cursor later → restarted program later ≡ restarted program s.cursor
  same_script later stays = λ i. before_entry (stays.nodes i) (stays.drains i) (stays.entry i) (opening_scalars program) (stays.names i)

  moved : (u : ℕ) (move : Move Invoked Cursor P) → FromEvent m s move → restarted program (state_after m s u move).cursor ≡ restarted program s.cursor
  moved u (DoScalar purpose (Some trap) rest) from = refl
  moved u (DoScalar purpose None rest) from = same_script rest (subst (StaysEvent (arrays_of program.decls) words s.cursor) from there)
  moved u (DoDrain purpose (Some trap) rest) from = refl
  moved u (DoDrain purpose None rest) (traps, rests, is, behind) = same_script rest (subst (Stays s.cursor) behind (let each = subst (StaysEvent (arrays_of program.decls) words s.cursor) is there in each s.words))
  moved u (DoOpen b n rest) from = same_script rest (subst (StaysEvent (arrays_of program.decls) words s.cursor) from there)
  moved u move from = refl

  script_stays : (t : State Invoked Cursor P G) (u : ℕ) → step m s u ≡ Some t → restarted program t.cursor ≡ restarted program s.cursor
  script_stays t u is = go (move_of m s u) refl is
    where
      go : (o : Option (Move Invoked Cursor P)) → move_of m s u ≡ o → option_map (state_after m s u) o ≡ Some t → restarted program t.cursor ≡ restarted program s.cursor
      go None known made = absurd (let none : None ≡ Some t = made in cc)
      go (Some move) known made =
          let same : state_after m s u move ≡ t = cc in
          subst (λ (x : State Invoked Cursor P G). restarted program x.cursor ≡ restarted program s.cursor) same (moved u move (from_event m s u move known))

pub scripts_stay : {S : Type 0} → ScriptsStay S
scripts_stay program words code signs width room far s t u is = script_stays program words (setup_of program words code signs width room far) (λ c. refl) s t u is
