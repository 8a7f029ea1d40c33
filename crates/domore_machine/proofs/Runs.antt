-- The invariant, over all histories, and what it gives.
use Rattle.std.proofs.Common.{◌≡◌, ℕ, ◌<◌, Option, Some, None, List, [], ◌∷◌, ◌++◌, replicate, refl, sym, ap, ◌∙◌, subst, arith, append-nil, ℤ}
use Rattle.std.proofs.lemmas.List.{append_assoc, get_or-replicate, length-replicate}
use Rattle.std.proofs.lemmas.Bool.{true≢false}
use Rattle.std.specs.Option.{option_map_or, option_and_then}
use Rattle.settle_law.specs.Traces.{Access}
use Rattle.settle_law.specs.Courses.{Nest, family_of}
use Rattle.settle_law.proofs.Cursors.{begins}
use Rattle.domore_machine.specs.Machine.{Setup, State, Seat, Idle, Ended, Move, opening_seat, seat_at, opening, step, state_after, accesses_of}
use Rattle.settle_law.specs.Runs.{run}
use Rattle.domore_machine.specs.Runs.{made_by, trace_from}
use Rattle.domore_machine.specs.Theorems.{IsSetupFor, Leads, HistoriesKeepOrder, HistoriesEndAsNest, FactsAreOfNest, HandedOutIsNext}
use Rattle.domore_machine.specs.Invariant.{Tickets, SeatWaits, SeatParts, Invariant, numbers}
use Rattle.domore_machine.proofs.Guards.{Guard, IsStep, step_is}
use Rattle.domore_machine.proofs.Tickets.{tickets_row}
use Rattle.domore_machine.proofs.WaitsLeft.{waits_row}
use Rattle.domore_machine.proofs.Parts.{parts_row}
use Rattle.domore_machine.proofs.Kept.{guarded_row, words_row}
use Rattle.domore_machine.proofs.Course.{given, course_row}
use Rattle.domore_machine.proofs.Finished.{ended_row, ends_as_nest, counts_as_nest}

module _ {B C P : Type 0} (m : Setup B C P) (nest : Nest) (what : B → ℕ × List ℤ) (start : C) (setup : IsSetupFor m nest what start) where
  -- each row keeps the invariant
  invariant_row : (s : State B C P) (trace : List Access) (u : ℕ) (move : Move B C P) → Guard m s u move → Invariant m nest what s trace → Invariant m nest what (state_after m s u move) (trace ++ accesses_of m s.words move)
  invariant_row s trace u move g i = record {
    tickets = tickets_row m s i.tickets u move setup.some_worker g;
    waits_left = waits_row m s i.tickets i.waits_left u move setup.some_worker g;
    guarded = guarded_row m nest what s trace i.tickets i.waits_left i.guarded i.words i.parts u move setup.some_worker g;
    parts = parts_row m nest what s trace i.tickets i.words.fixed_words i.parts u move setup.some_worker setup.begins (given m nest what start setup s trace i.tickets i.guarded i.words i.parts i.course) g;
    words = words_row m nest what s trace i.tickets i.waits_left i.guarded i.words i.parts setup.apart u move g;
    course = course_row m nest what start setup s trace i.tickets i.guarded i.words i.parts i.course u move g;
    ended = ended_row m s i.tickets i.ended u move setup.some_worker g;
  }

  pub invariant_step : (s t : State B C P) (trace : List Access) (u : ℕ) → step m s u ≡ Some t → Invariant m nest what s trace → Invariant m nest what t (trace ++ made_by m s u)
  invariant_step s t trace u e i = go (step_is m s u t e)
    where
      go : IsStep m s u t → Invariant m nest what t (trace ++ made_by m s u)
      go is = subst (λ x. Invariant m nest what x (trace ++ made_by m s u)) (sym is.behind)
          (subst (λ o. Invariant m nest what (state_after m s u is.move) (trace ++ option_map_or (accesses_of m s.words) o [])) (sym is.enabled)
          (invariant_row s trace u is.move is.guard i))

  -- the opening
  opening_at : (u : ℕ) → u < m.width → seat_at (replicate m.width opening_seat) u ≡ opening_seat {B = B} {P = P}
  opening_at u lt = get_or-replicate m.width u opening_seat _ lt

  pub invariant_opening : Invariant m nest what (opening m start nest.opening) []
  invariant_opening = record {
    tickets = record {
      width = length-replicate m.width _;
      seats = λ u lt. subst (λ (x : Seat B P). Tickets m.width 0 None u x.done (numbers x)) (sym (opening_at u lt)) (record { rises = tt; fate = λ k l own. absurd (omega arith); bounded = omega arith });
      trap = tt;
    };
    waits_left = λ u lt. subst (SeatWaits m (replicate m.width opening_seat)) (sym (opening_at u lt)) (record { hand = tt; queue = tt });
    guarded = tt;
    parts = record {
      seats = λ u lt. subst (SeatParts m nest what [] u) (sym (opening_at u lt)) (record { finished = λ k own l. absurd (omega arith); hand = tt; queue = tt });
      later = λ k le. refl;
      fits = λ k. (family_of m.system.fixed nest k, refl);
      trapped = tt;
    };
    words = record { replays = tt; in_order = tt; settles = refl; fixed_words = setup.opens_fixed };
    course = record {
      going = λ none. record { passed = []; behind = begins B C nest what m.event start setup.follows; counted = refl };
      known = λ k lt. absurd (omega arith);
      early = tt;
      late = tt;
      over = λ over none. absurd (true≢false (sym over));
    };
    ended = λ u lt gone. let is : Idle ≡ Ended = sym (ap (λ (x : Seat B P). x.hand) (opening_at u lt)) ∙ gone in cc;
  }

  -- whole histories
  pub invariant_run : (history : List ℕ) (s t : State B C P) (trace : List Access) → Invariant m nest what s trace → run (step m) s history ≡ Some t → Invariant m nest what t (trace ++ trace_from m s history)
  invariant_run [] s t trace i e = let is : s ≡ t = cc in subst (Invariant m nest what t) (sym (append-nil trace)) (subst (λ x. Invariant m nest what x trace) is i)
  invariant_run (u ∷ history) s t trace i e = go (step m s u) refl e (λ x is. invariant_run history x t (trace ++ made_by m s u) (invariant_step s x trace u is i))
    where
      go : (o : Option (State B C P)) → step m s u ≡ o → option_and_then (λ x. run (step m) x history) o ≡ Some t → ((x : State B C P) → step m s u ≡ Some x → run (step m) x history ≡ Some t → Invariant m nest what t (trace ++ made_by m s u ++ trace_from m x history)) → Invariant m nest what t (trace ++ option_map_or (λ x. made_by m s u ++ trace_from m x history) o [])
      go None is e more = cc
      go (Some x) is e more = subst (Invariant m nest what t) (append_assoc trace (made_by m s u) (trace_from m x history)) (more x is e)

  -- each legal history leaves a state with the invariant
  pub invariant_holds : (history : List ℕ) (s : State B C P) → Leads m nest start history s → Invariant m nest what s (trace_from m (opening m start nest.opening) history)
  invariant_holds history s e = invariant_run history (opening m start nest.opening) s [] invariant_opening e

pub keeps_order : (B C P : Type 0) → HistoriesKeepOrder B C P
keeps_order B C P m nest what start setup history s e = let i = invariant_holds m nest what start setup history s e in record { replays = i.words.replays; in_order = i.words.in_order; settles = i.words.settles }

pub ends_as : (B C P : Type 0) → HistoriesEndAsNest B C P
ends_as B C P m nest what start setup history complete = ends_as_nest m nest what start setup complete.last (trace_from m (opening m start nest.opening) history) (invariant_holds m nest what start setup history complete.last complete.ran) complete.finished

pub counts_as : (B C P : Type 0) → FactsAreOfNest B C P
counts_as B C P m nest what start setup history complete words done = counts_as_nest m nest what start setup complete.last (trace_from m (opening m start nest.opening) history) (invariant_holds m nest what start setup history complete.last complete.ran) complete.finished words done

pub is_next : (B C P : Type 0) → HandedOutIsNext B C P
is_next B C P m nest what start setup history s leads b rest none is = let i = invariant_holds m nest what start setup history s leads in given m nest what start setup s (trace_from m (opening m start nest.opening) history) i.tickets i.guarded i.words i.parts i.course b rest none is
