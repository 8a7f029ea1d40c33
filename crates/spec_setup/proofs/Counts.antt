-- Along each history the cursor stays one of the program, and what is counted stays small: each epoch is of a header.
use Rattle.std.proofs.Common.{◌≡◌, ℕ, suc, ◌+◌, ◌-◌, ◌^◌, ◌<◌, ◌≤◌, ℤ, true, Some, None, List, [], ◌∷◌, length, refl, sym, ap, ◌∙◌, subst, arith, length-append}
use Rattle.nest_syntax.specs.declared.tree.Program.{Program}
use Rattle.nest_syntax.specs.Arrays.{arrays_of}
use Rattle.nest_syntax.specs.Course.{Purpose, Ordinary, Header}
use Rattle.settle_law.specs.Claims.{Claims}
use Rattle.settle_law.specs.Courses.{Trap, nest_of}
use Rattle.settle_law.specs.Courses as courses
use Rattle.sched_cursor.specs.declared.event.Iteration.{Iteration}
use Rattle.sched_cursor.specs.declared.node.Invocation.{Invocation}
use Rattle.sched_cursor.specs.declared.node.At.TheVariants as at
use Rattle.sched_cursor.specs.Cursor.{Cursor}
use Rattle.sched_cursor.specs.Events.{event_at}
use Rattle.sched_cursor.specs.Laws.{IsCursorOf, restarted}
use Rattle.sched_cursor.proofs.Cursors.{cursors_stay}
use Rattle.spec_machine.specs.Invocations.{Event, End, Scalar, Drain, Invoke}
use Rattle.spec_machine.specs.Machine.{Setup, State, Move, DoScalar, DoDrain, DoOpen, DoCommit, state_after}
use Rattle.spec_machine.specs.Table.{Enabled}
use Rattle.spec_machine.specs.Theorems.{IsSetupFor, Leads}
use Rattle.spec_machine.proofs.Bounds.{along_legal}
use Rattle.nest_setup.proofs.Headers.{with_header, HasLeft, outside, LeadsOn, leads_on, left_behind}
use Rattle.spec_setup.specs.Setups.{Invoked, what_in, invoking, by_invocations, invocation_at}
use Rattle.spec_setup.proofs.Follows.{Fresh, entered, Good, Entered, Onto, Onward, onward, good_behind}

module _ (program : Program) (words : List ℤ) where
  pub record IsOpened (c : Cursor) (headers : ℕ) (n : ℕ) (rest : Cursor) : Type 0 where
    pub good : Good program words rest
    pub left : HasLeft headers rest
    pub next : rest.next ≡ c.next + n
    pub here : entered c.at ≡ 1
    pub there : entered rest.at ≡ 0

  -- what an event says of the cursor behind it
  abbrev Told : Cursor → ℕ → Event Invoked Cursor → Type 0
  Told c headers End = Unit {0}
  Told c headers (Scalar purpose trap rest) = trap ≡ None → Onto program words c purpose rest × HasLeft (with_header purpose headers) rest
  Told c headers (Drain purpose traps rests) = (now : List ℤ) → traps now ≡ None → Onto program words c purpose (rests now) × HasLeft (with_header purpose headers) (rests now)
  Told c headers (Invoke b n rest) = IsOpened c headers n rest

  opened : (c : Cursor) (headers : ℕ) → Good program words c → HasLeft headers c → (i : Invocation) → c.at ≡ at.Inside i → Told c headers (invoking c (at.Inside i))
  opened c headers good left i there = record {
    good = good_behind program words c i good.own there;
    left = left_behind headers c i there left;
    next = (let first : i.turning.turn ≡ 0 = subst Fresh there good.fresh in let all : c.next + (i.turning.trips - i.turning.turn) ≡ c.next + i.turning.trips = omega (arith, first) in all);
    here = ap entered there;
    there = refl;
  }

  told : (c : Cursor) (headers : ℕ) → Good program words c → HasLeft headers c → Told c headers (invocation_at (arrays_of program.decls) words c)
  told c headers good left = by (event_at (arrays_of program.decls) words c) (onward program words c good) (leads_on (arrays_of program.decls) words c headers left)
    where
      in_turn : Entered program words c → Told c headers (invoking c c.at)
      in_turn is = subst (λ a. Told c headers (invoking c a)) (sym is.there) (opened c headers good left is.invocation is.there)

      by : (e : courses.Event Iteration Cursor) → Onward program words c e → LeadsOn (arrays_of program.decls) words c headers left e → Told c headers (by_invocations c e)
      by courses.End on leads = tt
      by (courses.Scalar purpose trap later) on leads = λ none. (on none, leads none)
      by (courses.Drain purpose traps later) on leads = λ now none. (on now none, leads now none)
      by (courses.Iterate i later) on leads = in_turn on
      by (courses.Close later) on leads = in_turn on

  pub record AreCounted (c : Cursor) (next segments iterations invocations opens : ℕ) : Type 0 where
    pub good : Good program words c
    pub left : HasLeft invocations c
    pub passed : c.next ≡ next
    pub counted : iterations ≡ next
    pub headers : segments + opens + entered c.at ≤ invocations

  module _ {P G : Type 0} (m : Setup Invoked Cursor P G) (is_event : (c : Cursor) → m.event c ≡ invocation_at (arrays_of program.decls) words c) where
    abbrev pub Counted : State Invoked Cursor P G → Type 0
    Counted s = AreCounted s.cursor s.next s.facts.segments s.facts.iterations s.facts.invocations (length s.epochs)

    module _ (s : State Invoked Cursor P G) (filled : s.sealed ≡ true → 0 < length s.epochs) (h : Counted s) where
      there : Told s.cursor s.facts.invocations (m.event s.cursor)
      there = subst (Told s.cursor s.facts.invocations) (sym (is_event s.cursor)) (told s.cursor s.facts.invocations h.good h.left)

      computed : (purpose : Purpose) (rest : Cursor) → Onto program words s.cursor purpose rest × HasLeft (with_header purpose s.facts.invocations) rest
          → AreCounted rest s.next s.facts.segments s.facts.iterations (with_header purpose s.facts.invocations) (length s.epochs)
      computed Ordinary rest (on, left) = record { good = on.good; left = left; passed = on.computes.next ∙ h.passed; counted = h.counted; headers = (let few = on.computes.headers in omega (arith, few, h.headers)) }
      computed Header rest (on, left) = record { good = on.good; left = left; passed = on.computes.next ∙ h.passed; counted = h.counted; headers = (let few = on.computes.headers in omega (arith, few, h.headers)) }

      row : (u : ℕ) (move : Move Invoked Cursor P) → Enabled m s u move → Counted (state_after m s u move)
      row u (DoScalar purpose (Some trap) rest) g = h
      row u (DoScalar Ordinary None rest) (free, room, is) = let on = subst (Told s.cursor s.facts.invocations) is there in computed Ordinary rest (on refl)
      row u (DoScalar Header None rest) (free, room, is) = let on = subst (Told s.cursor s.facts.invocations) is there in computed Header rest (on refl)
      row u (DoDrain purpose (Some trap) rest) g = h
      row u (DoDrain Ordinary None rest) (traps, rests, free, open_none, is, trap, behind) =
          let on = subst (Told s.cursor s.facts.invocations) is there in
          subst (λ c. AreCounted c s.next s.facts.segments s.facts.iterations s.facts.invocations (length s.epochs)) behind (computed Ordinary (rests s.words) (on s.words trap))
      row u (DoDrain Header None rest) (traps, rests, free, open_none, is, trap, behind) =
          let on = subst (Told s.cursor s.facts.invocations) is there in
          subst (λ c. AreCounted c s.next s.facts.segments s.facts.iterations (suc s.facts.invocations) (length s.epochs)) behind (computed Header (rests s.words) (on s.words trap))
      row u (DoOpen b n rest) (free, room, is) =
          let on = subst (Told s.cursor s.facts.invocations) is there in
          let one = length-append s.epochs (record { first = s.next; count = n; body = b } ∷ []) in
          record {
            good = on.good;
            left = on.left;
            passed = on.next ∙ ap (λ k. k + n) h.passed;
            counted = ap (λ k. k + n) h.counted;
            headers = omega (arith, h.headers, on.here, on.there, one);
          }
      row u DoCommit (going, whole, untrapped, finished, passed) =
          let some = filled whole in
          record { good = h.good; left = h.left; passed = h.passed; counted = h.counted; headers = omega (arith, h.headers, some) }
      row u move g = h

    pub counted_along : {cursor : Cursor} → IsCursorOf program cursor → (noted : G → Claims) → IsSetupFor m (nest_of program words) (what_in program) (restarted program cursor) noted
        → (history : List ℕ) (s : State Invoked Cursor P G) → Leads m (nest_of program words) (restarted program cursor) history s → Counted s
    counted_along {cursor} own noted setup = along_legal m (nest_of program words) (what_in program) (restarted program cursor) noted setup Counted
        (record { good = record { own = cursors_stay.at_start program cursor own; fresh = tt }; left = outside cursor.entry (2 ^ 60) refl own.entry (omega arith); passed = refl; counted = refl; headers = omega arith })
        (λ s trace i u move g h. row s i.filled h u move g)
