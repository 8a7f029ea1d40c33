-- What is counted stays small: an iteration for each number that was handed out, at most 7 waits for each, and a header
-- for each 2^24 of the 2^60 iterations for which a cursor's script has room.
use Rattle.std.proofs.Common.{◌≡◌, ℕ, zero, suc, ◌+◌, ◌-◌, ◌*◌, ◌^◌, ◌<◌, ◌≤◌, ◌%◌, ℤ, Bool, true, false, ◌==◌, if◌then◌else◌, Option, Some, None, List, [], ◌∷◌, map, length, refl, sym, ap, subst, arith, ⊎_elim, length-append}
use Rattle.std.specs.Option.{option_and_then}
use Rattle.std.proofs.lemmas.Bool.{cases_eq, cond-true, eq-eqb}
use Rattle.std.proofs.lemmas.List.{length-map}
use Rattle.std.proofs.lemmas.List.Sums.{count_by-le-length}
use Rattle.std.proofs.lemmas.Nat.{mod_below}
use Rattle.nest_syntax.specs.declared.tree.Program.{Program}
use Rattle.nest_syntax.specs.Arrays.{arrays_of}
use Rattle.nest_syntax.specs.Course.{Purpose, Ordinary, Header}
use Rattle.addr_slice.specs.Claims.{Claimed}
use Rattle.settle_law.specs.Runs.{run}
use Rattle.settle_law.specs.Courses.{nest_of}
use Rattle.settle_law.specs.Courses as courses
use Rattle.task_code.specs.Code.{Code}
use Rattle.task_frame.specs.declared.piece.Piece.{Piece}
use Rattle.sched_cursor.specs.declared.event.Iteration.{Iteration}
use Rattle.sched_cursor.specs.Cursor.{Cursor}
use Rattle.sched_cursor.specs.Laws.{IsCursorOf, CursorsStay, restarted}
use Rattle.domore_machine.specs.Waits.{Wait, wait_for, waits_with, waits_of}
use Rattle.domore_machine.specs.Waits as machine_waits
use Rattle.domore_machine.specs.Facts.{Facts, WaitLine, wait_line, computed, drained, iterated}
use Rattle.domore_machine.specs.Machine.{Setup, State, Move, DoScalar, DoClose, DoDrain, DoDispatch, DoHalt, opening, state_after, waits}
use Rattle.domore_machine.specs.Machine as machine
use Rattle.domore_machine.specs.Theorems.{Leads}
use Rattle.domore_machine.proofs.Guards.{Guard, IsStep, step_is}
use Rattle.nest_setup.specs.Setups.{setup_of, IsPrepared}
use Rattle.nest_setup.specs.Laws.{CursorsKeepUp}
use Rattle.nest_setup.proofs.Headers.{with_header, HasLeft, outside, few_headers, LeadsOn, leads_on}

-- an iteration waits for each other worker once
less : (own u : ℕ) → (own ≡ u → ⊥) → own < suc u → own < u
less own u other below = omega arith

length-wait : (need : ℕ → Option ℕ) (own u : ℕ) → length (if own == u then [] else wait_for u (need u)) ≤ 1
length-wait need own u = by (own == u) (need u)
  where
    by : (same : Bool) (o : Option ℕ) → length (if same then [] else wait_for u o) ≤ 1
    by true o = omega arith
    by false None = omega arith
    by false (Some n) = omega arith

abbrev last-wait : (need : ℕ → Option ℕ) (own u : ℕ) → List Wait
last-wait need own u = if own == u then [] else wait_for u (need u)

length-more : (need : ℕ → Option ℕ) (own u : ℕ) → length (waits_with need own (suc u)) ≡ length (waits_with need own u) + length (last-wait need own u)
length-more need own u = length-append (waits_with need own u) (last-wait need own u)

length-waits : (need : ℕ → Option ℕ) (own n : ℕ) → length (waits_with need own n) ≤ n
length-waits need own zero = omega arith
length-waits need own (suc u) = let all = length-more need own u in let before = length-waits need own u in let last = length-wait need own u in omega (arith, all, before, last)

length-others : (need : ℕ → Option ℕ) (own n : ℕ) → own < n → length (waits_with need own n) + 1 ≤ n
length-others need own zero below = absurd (omega arith)
length-others need own (suc u) below = ⊎_elim
    (λ (same : own ≡ u).
    let none : length (last-wait need own u) ≡ 0 = ap length (cond-true (own == u) [] (wait_for u (need u)) (eq-eqb own u same)) in
    let all = length-more need own u in
    let before = length-waits need own u in
    omega (arith, all, none, before))
    (λ (other : own ≡ u → ⊥).
    let all = length-more need own u in
    let before = length-others need own u (less own u other below) in
    let last = length-wait need own u in
    omega (arith, all, before, last))
    (cases_eq own u)

few_waits : (clashes : ℕ → ℕ → Bool) (width k : ℕ) → 0 < width → width < 9 → length (waits_of clashes width k) ≤ 7
few_waits clashes width k some few =
    let others = length-others (machine_waits.need clashes width k) (k % width) width (mod_below k width some) in
    omega (arith, others, few)

module _ (program : Program) (words : List ℤ) (code : Code) (claims : ℕ × List ℤ → Claimed) (width room : ℕ) (some : 0 < width) (few : width < 9) where
  abbrev m : Setup Iteration Cursor Piece
  m = setup_of program words code claims width room

  pub record AreCounted (c : Cursor) (number : ℕ) (facts : Facts) : Type 0 where
    pub left : HasLeft facts.invocations c
    pub iterations : facts.iterations ≡ number
    pub waits : facts.waits ≤ 7 * number
    pub crossing : facts.crossing ≤ facts.waits

  -- behind an event that is no iteration
  computed_on : (c rest : Cursor) (number : ℕ) (purpose : Purpose) (facts : Facts) → AreCounted c number facts → HasLeft (with_header purpose facts.invocations) rest → AreCounted rest number (computed number purpose facts)
  computed_on c rest number Ordinary facts is left = record { left = left; iterations = is.iterations; waits = is.waits; crossing = is.crossing }
  computed_on c rest number Header facts is left = record { left = left; iterations = is.iterations; waits = is.waits; crossing = is.crossing }

  drained_on : (c : Cursor) (number : ℕ) (facts : Facts) → AreCounted c number facts → AreCounted c number (drained facts)
  drained_on c number facts is = record { left = is.left; iterations = is.iterations; waits = is.waits; crossing = is.crossing }

  iterated_on : (c rest : Cursor) (number : ℕ) (new : List Wait) (facts : Facts) → AreCounted c number facts → HasLeft facts.invocations rest → length new ≤ 7 → AreCounted rest (suc number) (iterated number new facts)
  iterated_on c rest number new facts is left short =
      let lines = map (wait_line number facts.first) new in
      let crosses = count_by-le-length (λ (l : WaitLine). l.crossing) lines in
      let many : length lines ≡ length new = length-map new (wait_line number facts.first) in
      record {
        left = left;
        iterations = ap suc is.iterations;
        waits = omega (arith, is.waits, short);
        crossing = omega (arith, is.crossing, crosses, many);
      }

  module _ (s : State Iteration Cursor Piece) (h : AreCounted s.cursor s.next s.facts) where
    abbrev LeadsThere : courses.Event Iteration Cursor → Type 0
    LeadsThere event = LeadsOn (arrays_of program.decls) words s.cursor s.facts.invocations h.left event

    there : LeadsThere (m.event s.cursor)
    there = leads_on (arrays_of program.decls) words s.cursor s.facts.invocations h.left

    row : (u : ℕ) (move : Move Iteration Cursor Piece) → Guard m s u move → AreCounted (state_after m s u move).cursor (state_after m s u move).next (state_after m s u move).facts
    row u (DoScalar purpose None rest) g = let on = subst LeadsThere g.1 there in computed_on s.cursor rest s.next purpose s.facts h (on refl)
    row u (DoScalar purpose (Some trap) rest) g = h
    row u (DoClose rest) g = let on = subst LeadsThere g.1 there in computed_on s.cursor rest s.next Ordinary s.facts h on
    row u (DoDrain purpose None rest) (traps, rests, free, is, trap, behind, all) =
        let on = subst LeadsThere is there in
        subst (λ (c : Cursor). AreCounted c s.next (computed s.next purpose (drained s.facts))) behind (computed_on s.cursor (rests s.words) s.next purpose (drained s.facts) (drained_on s.cursor s.next s.facts h) (on s.words trap))
    row u (DoDrain purpose (Some trap) rest) g = drained_on s.cursor s.next s.facts h
    row u (DoDispatch b rest) g = let on = subst LeadsThere g.1 there in iterated_on s.cursor rest s.next (waits m s.next) s.facts h on (few_waits m.clashes width s.next some few)
    row u DoHalt g = h
    row u move g = h

  stepped_on : (s t : State Iteration Cursor Piece) (u : ℕ) → machine.step m s u ≡ Some t → AreCounted s.cursor s.next s.facts → AreCounted t.cursor t.next t.facts
  stepped_on s t u e h = go (step_is m s u t e)
    where
      go : IsStep m s u t → AreCounted t.cursor t.next t.facts
      go is = subst (λ (x : State Iteration Cursor Piece). AreCounted x.cursor x.next x.facts) (sym is.behind) (row s h u is.move is.guard)

  pub counted : (history : List ℕ) (s t : State Iteration Cursor Piece) → AreCounted s.cursor s.next s.facts → run (machine.step m) s history ≡ Some t → AreCounted t.cursor t.next t.facts
  counted [] s t h e = let same : s ≡ t = cc in subst (λ (x : State Iteration Cursor Piece). AreCounted x.cursor x.next x.facts) same h
  counted (u ∷ history) s t h e = go (machine.step m s u) refl e (λ x is. counted history x t (stepped_on s x u is h))
    where
      go : (o : Option (State Iteration Cursor Piece)) → machine.step m s u ≡ o → option_and_then (λ x. run (machine.step m) x history) o ≡ Some t → ((x : State Iteration Cursor Piece) → machine.step m s u ≡ Some x → run (machine.step m) x history ≡ Some t → AreCounted t.cursor t.next t.facts) → AreCounted t.cursor t.next t.facts
      go None is e more = absurd (let none : None ≡ Some t = e in cc)
      go (Some x) is e more = more x is e

  pub counted_opening : (c : Cursor) → IsCursorOf program c → AreCounted (restarted program c) 0 (opening m (restarted program c) words).facts
  counted_opening c is = record { left = outside c.entry (2 ^ 60) refl is.entry (omega arith); iterations = refl; waits = omega arith; crossing = omega arith }

-- the counts of a legal history
pub record AreFew (facts : Facts) : Type 0 where
  pub invocations : facts.invocations ≤ 2 ^ 36
  pub iterations : facts.iterations ≤ 2 ^ 60
  pub waits : facts.waits ≤ 7 * 2 ^ 60
  pub crossing : facts.crossing ≤ 7 * 2 ^ 60

pub counts_are_few : CursorsKeepUp → CursorsStay → (program : Program) (opening : List ℤ) (code : Code) (claims : ℕ × List ℤ → Claimed) (cursor : Cursor) (width room : ℕ) → IsPrepared program opening code claims cursor width room → width < 9
    → (history : List ℕ) (s : State Iteration Cursor Piece) → Leads (setup_of program opening code claims width room) (nest_of program opening) (restarted program cursor) history s → AreFew s.facts
counts_are_few keep_up stay program words code claims cursor width room ready few history s leads =
    let first = opening (setup_of program words code claims width room) (restarted program cursor) words in
    let is = counted program words code claims width room ready.some_worker few history first s (counted_opening program words code claims width room ready.some_worker few cursor ready.cursor_is) leads in
    let now = keep_up program words code claims cursor width room ready.cursor_is history s leads in
    let passed : s.cursor.next ≤ 2 ^ 60 = stay.passed program s.cursor now.0 in
    let same : s.cursor.next ≡ s.next = now.1 in
    let below : s.next ≤ 2 ^ 60 = subst (λ n. n ≤ 2 ^ 60) same passed in
    record {
      invocations = few_headers s.facts.invocations s.cursor is.left;
      iterations = subst (λ n. n ≤ 2 ^ 60) (sym is.iterations) below;
      waits = omega (arith, is.waits, below);
      crossing = omega (arith, is.crossing, is.waits, below);
    }
