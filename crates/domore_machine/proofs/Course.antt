-- The course: each row keeps what the cursor says of the nest, and what is counted.
use Rattle.std.proofs.Common.{◌≡◌, ℕ, suc, ◌+◌, ◌<◌, false, Option, Some, None, IsSome, List, [], ◌∷◌, ◌++◌, length, refl, sym, ap, ◌∙◌, subst, ⊎_elim, arith, ℤ}
use Rattle.std.proofs.lemmas.Bool.{cases_lt, true≢false}
use Rattle.nest_syntax.specs.declared.place.Place.{Place}
use Rattle.nest_syntax.specs.Course.{Purpose, Ordinary}
use Rattle.nest_syntax.specs.Outcome.{Event as Passed, Computes, Drains, Iterates, Closes, Ends, place_of_trap, iterations_among}
use Rattle.settle_law.specs.Traces.{Access}
use Rattle.settle_law.specs.Courses.{Nest, Trap, Event, Scalar, Drain, Iterate, Close, Behind, AtEvent, Onward, iteration_at}
use Rattle.settle_law.proofs.Cursors.{at_event}
use Rattle.domore_machine.specs.Waits.{Wait}
use Rattle.domore_machine.specs.Facts.{Facts, no_facts, computed, drained, iterated, counted, facts_from}
use Rattle.domore_machine.specs.Machine.{Setup, State, Move, DoScalar, DoClose, DoDrain, DoDispatch, DoHalt, DoTake, DoPass, DoRead, DoWrite, DoGo, DoFinish, DoTrap, DoDropHeld, DoDropQueued, DoEnd, least_trap, worker_after, state_after, scalar_after, waits}
use Rattle.domore_machine.specs.Theorems.{IsSetupFor}
use Rattle.domore_machine.specs.Invariant.{AllTickets, Guarded, AllParts, WordsKept, Going, EarlyTrap, LateTrap, CourseKept}
use Rattle.domore_machine.proofs.Guards.{Guard, Holds, IsFree}
use Rattle.domore_machine.proofs.Tickets.{held, least_is}
use Rattle.domore_machine.proofs.Textual.{all_finished_at, words_are}

-- what is counted
module _ (waits : ℕ → List Wait) where
  pub facts_append : (next number : ℕ) (facts : Facts) (passed others : List Passed) → next + length (iterations_among passed) ≡ number → facts_from waits next facts (passed ++ others) ≡ facts_from waits number (facts_from waits next facts passed) others
  facts_append next number facts [] others is = ap (λ n. facts_from waits n facts others) (omega arith)
  facts_append next number facts (Computes purpose scalars ∷ passed) others is = facts_append next number (computed next purpose facts) passed others is
  facts_append next number facts (Drains purpose scalars ∷ passed) others is = facts_append next number (computed next purpose (drained facts)) passed others is
  facts_append next number facts (Iterates body scalars ∷ passed) others is = facts_append (suc next) number (iterated next (waits next) facts) passed others (omega arith)
  facts_append next number facts (Closes scalars ∷ passed) others is = facts_append next number facts passed others is
  facts_append next number facts (Ends ∷ passed) others is = facts_append next number facts passed others is

module _ {B C P : Type 0} (m : Setup B C P) (nest : Nest) (what : B → ℕ × List ℤ) (start : C) (setup : IsSetupFor m nest what start) (s : State B C P) (trace : List Access) (tickets : AllTickets m s) (guards : Guarded m s trace) (words : WordsKept m.system.fixed nest.opening trace s.words) (parts : AllParts m nest what s trace) (i : CourseKept m nest what s) where
  -- an event of the cursor
  event_is : (event : Event B C) (going : Going m nest what s) → m.event s.cursor ≡ event → AtEvent nest what m.event going.passed s.next event
  event_is event going is = subst (AtEvent nest what m.event going.passed s.next) is (at_event nest what m.event going.passed s.next s.cursor going.behind)

  -- the body that is handed out is the nest's next iteration
  pub given : (b : B) (rest : C) → s.trap ≡ None → m.event s.cursor ≡ Iterate b rest → iteration_at nest s.next ≡ Some (what b)
  given b rest none is = (event_is (Iterate b rest) (i.going none) is).0

  -- what is counted behind one event more
  counted_more : (this : Passed) (going : Going m nest what s) → facts_from (waits m) 0 no_facts (going.passed ++ this ∷ []) ≡ counted (waits m) s.next s.facts this
  counted_more this going = facts_append (waits m) 0 s.next no_facts going.passed (this ∷ []) (omega (arith, going.behind.counts)) ∙ ap (λ f. counted (waits m) s.next f this) (sym going.counted)

  -- a row that leaves the scheduler as it is
  same_course : (t : State B C P) → t.cursor ≡ s.cursor → t.next ≡ s.next → t.facts ≡ s.facts → t.halted ≡ s.halted → t.trap ≡ s.trap → CourseKept m nest what t
  same_course t cursor next facts halted trap = record {
    going = λ none. let old = i.going (sym trap ∙ none) in record {
      passed = old.passed;
      behind = subst (λ n. Behind nest what m.event old.passed n t.cursor) (sym next) (subst (Behind nest what m.event old.passed s.next) (sym cursor) old.behind);
      counted = facts ∙ old.counted;
    };
    known = subst (λ n. (k : ℕ) → k < n → IsSome (iteration_at nest k)) (sym next) i.known;
    early = subst (λ n. EarlyTrap nest n t.trap) (sym next) (subst (EarlyTrap nest s.next) (sym trap) i.early);
    late = subst (λ n. LateTrap n t.trap) (sym next) (subst (LateTrap s.next) (sym trap) i.late);
    over = λ over none. ap m.event cursor ∙ i.over (sym halted ∙ over) (sym trap ∙ none);
  }

  trap_row : (u k : ℕ) (piece : P) (cause : _) (line : _) → Holds m s u k [] piece → CourseKept m nest what (worker_after m s u (DoTrap k cause line))
  trap_row u k piece cause line h = record {
    going = λ none. absurd (cc);
    known = i.known;
    early = early s.trap i.early;
    late = late s.trap i.late;
    over = λ over none. absurd (cc);
  }
    where
      early : (trap : Option Place) → EarlyTrap nest s.next trap → EarlyTrap nest s.next (Some (least_trap trap (place_of_trap cause line k false)))
      early None old = λ scheduler. cc
      early (Some t) old = ⊎_elim
          (λ is. subst (λ x. EarlyTrap nest s.next (Some x)) (sym is.0) (λ scheduler. cc))
          (λ is. subst (λ x. EarlyTrap nest s.next (Some x)) (sym is.0) old)
          (least_is t (place_of_trap cause line k false))

      late : (trap : Option Place) → LateTrap s.next trap → LateTrap s.next (Some (least_trap trap (place_of_trap cause line k false)))
      late None old = λ worker. (held m s tickets u k [] piece h.own h.hand).rises.2
      late (Some t) old = ⊎_elim
          (λ is. subst (λ x. LateTrap s.next (Some x)) (sym is.0) (λ worker. (held m s tickets u k [] piece h.own h.hand).rises.2))
          (λ is. subst (λ x. LateTrap s.next (Some x)) (sym is.0) old)
          (least_is t (place_of_trap cause line k false))

  -- an event of the scheduler that is no iteration, with what it counts
  onward : (u : ℕ) (this : Passed) (purpose : Purpose) (facts : Facts) (trap : Option Trap) (rest : C) → IsFree m s u → (going : Going m nest what s) → Onward nest what m.event going.passed s.next this trap rest → counted (waits m) s.next s.facts this ≡ computed s.next purpose facts → CourseKept m nest what (scalar_after m (record s { facts = facts }) purpose trap rest)
  onward u this purpose facts None rest free going behind counts = record {
    going = λ none. record {
      passed = going.passed ++ this ∷ [];
      behind = behind;
      counted = sym (counted_more this going ∙ counts);
    };
    known = i.known;
    early = subst (EarlyTrap nest s.next) (sym free.untrapped) tt;
    late = subst (LateTrap s.next) (sym free.untrapped) tt;
    over = λ over none. absurd (true≢false (sym over ∙ free.going));
  }
  onward u this purpose facts (Some trap) rest free going there counts = record {
    going = λ none. absurd (cc);
    known = i.known;
    early = λ scheduler. (refl, there);
    late = λ worker. absurd (true≢false worker);
    over = λ over none. absurd (cc);
  }

  dispatched : (b : B) (rest : C) → s.trap ≡ None → s.halted ≡ false → (going : Going m nest what s) → AtEvent nest what m.event going.passed s.next (Iterate b rest) → CourseKept m nest what (state_after m s m.width (DoDispatch b rest))
  dispatched b rest none on going (at, behind) = record {
    going = λ untrapped. record {
      passed = going.passed ++ Iterates (what b).0 (what b).1 ∷ [];
      behind = behind;
      counted = sym (counted_more (Iterates (what b).0 (what b).1) going);
    };
    known = λ k lt. ⊎_elim (λ l. i.known k l) (λ ge. let is : k ≡ s.next = omega arith in subst (λ x. IsSome (iteration_at nest x)) (sym is) (subst IsSome (sym at) refl)) (cases_lt k s.next);
    early = subst (EarlyTrap nest (suc s.next)) (sym none) tt;
    late = subst (LateTrap (suc s.next)) (sym none) tt;
    over = λ over untrapped. absurd (true≢false (sym over ∙ on));
  }

  -- each row keeps the course
  pub course_row : (u : ℕ) (move : Move B C P) → Guard m s u move → CourseKept m nest what (state_after m s u move)
  course_row u (DoScalar purpose trap rest) (free, is) = let at = event_is (Scalar purpose trap rest) (i.going free.untrapped) is in onward u (Computes purpose at.0) purpose s.facts trap rest free (i.going free.untrapped) at.1 refl
  course_row u (DoClose rest) (free, is) = let at = event_is (Close rest) (i.going free.untrapped) is in let k = onward u (Closes at.0) Ordinary s.facts None rest free (i.going free.untrapped) at.1 refl in k
  course_row u (DoDrain purpose trap rest) (traps, rests, free, is, trap_is, rest_is, all) = let going = i.going free.untrapped in
      let at = event_is (Drain purpose traps rests) going is in
      onward u (Drains purpose at.0) purpose (drained s.facts) trap rest free going
      (subst (λ x. Onward nest what m.event going.passed s.next (Drains purpose at.0) x rest) trap_is
      (subst (λ x. Onward nest what m.event going.passed s.next (Drains purpose at.0) (traps s.words) x) rest_is
      (at.1 s.words (words_are m nest what start setup s trace guards words parts i.known (λ k lt. all_finished_at m.width s.next k s.seats all lt)))))
      refl
  course_row u (DoDispatch b rest) (free, is, room) = let d = dispatched b rest free.untrapped free.going (i.going free.untrapped) (event_is (Iterate b rest) (i.going free.untrapped) is) in record { going = λ none. let g = d.going none in record { passed = g.passed; behind = g.behind; counted = g.counted }; known = d.known; early = d.early; late = d.late; over = d.over }
  course_row u DoHalt (actor, on, at_end) = record {
    going = λ none. let g = i.going none in record { passed = g.passed; behind = g.behind; counted = g.counted };
    known = i.known;
    early = i.early;
    late = i.late;
    over = λ over none. at_end none;
  }
  course_row u (DoTake ticket queue) g = same_course _ refl refl refl refl refl
  course_row u (DoPass k w left piece) g = same_course _ refl refl refl refl refl
  course_row u (DoRead k w next) g = same_course _ refl refl refl refl refl
  course_row u (DoWrite k w value next) g = same_course _ refl refl refl refl refl
  course_row u (DoGo k next) g = same_course _ refl refl refl refl refl
  course_row u (DoFinish k) g = same_course _ refl refl refl refl refl
  course_row u (DoTrap k cause line) (piece, h, stop) = trap_row u k piece cause line h
  course_row u (DoDropHeld k) g = same_course _ refl refl refl refl refl
  course_row u (DoDropQueued ticket queue) g = same_course _ refl refl refl refl refl
  course_row u DoEnd g = same_course _ refl refl refl refl refl
