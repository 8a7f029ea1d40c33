-- What a machine keeps of a nest, one keeps that forgets something of its pieces.
use Rattle.std.proofs.Common.{◌≡◌, ℕ, ◌+◌, ◌<◌, ◌≤◌, ℤ, true, false, Option, None, Some, List, [], length, refl, sym, ap, ◌∙◌, subst, ◌++◌}
use Rattle.std.specs.Prelude.{IsSome, ◌↔◌}
use Rattle.std.proofs.lemmas.List.{length-map}
use Rattle.std.specs.Option.{option_map}
use Rattle.settle_law.specs.Cuts.{HoldsFixed}
use Rattle.settle_law.specs.Tasks.{Stop}
use Rattle.settle_law.specs.Courses.{Nest, Iterate, iteration_at, outcome}
use Rattle.settle_law.specs.Traces.{part}
use Rattle.settle_law.specs.Runs.{run}
use Rattle.domore_machine.specs.Facts.{facts_of}
use Rattle.domore_machine.specs.Machine.{Setup, State, Seat, Hand, Idle, Holding, Ended, Ticket, opening, step, seat_at, waits, ended_actor}
use Rattle.domore_machine.specs.Runs.{trace_from, is_finished, ending_of}
use Rattle.domore_machine.specs.Theorems.{IsSetupFor, Leads, Completes, KeepsOrder, CanGoOn}
use Rattle.domore_machine.specs.Invariant.{Each, AllTickets, Tickets, Invariant, numbers, held_number, queued_numbers}
use Rattle.domore_machine.specs.Measure.{measure}
use Rattle.domore_machine.proofs.Runs.{invariant_holds, keeps_order, ends_as, counts_as, is_next}
use Rattle.domore_machine.proofs.Seats.{each_map}
use Rattle.domore_machine.proofs.Progress.{goes_on}
use Rattle.domore_machine.proofs.Falls.{is_bounded}
use Rattle.domore_machine.proofs.Ended.{stay, finishes}
use Rattle.nest_tasks.specs.Forgetting.{forget_stop, forget_setup, forget_hand, forget_seat, forget}
use Rattle.nest_tasks.specs.Carried.{KeepsNest, ForgettingKeepsNests}
use Rattle.nest_tasks.proofs.Dropping.{seat_same, step_same, finishes_same, ended_same, histories_same}

some_of : {X Y : Type 0} (g : X → Y) (o : Option X) → IsSome o → IsSome (option_map g o)
some_of g (Some x) some = refl
some_of g None some = some

module _ {B C P Q : Type 0} (m : Setup B C P) (f : P → Q) (stop : Q → Stop Q) (stops : (p : P) → stop (f p) ≡ forget_stop f (m.system.stop p))
    (nest : Nest) (what : B → ℕ × List ℤ) (start : C) (setup : IsSetupFor m nest what start) where
  abbrev n : Setup B C Q
  n = forget_setup f stop m

  -- a legal history leads to what is left of the state to which it leads without forgetting
  pub record Led (history : List ℕ) (t : State B C Q) : Type 0 where
    pub state : State B C P
    pub leads : Leads m nest start history state
    pub is : forget f state ≡ t

  led : (history : List ℕ) (t : State B C Q) → Leads n nest start history t → Led history t
  led history t leads = go (run (step m) (opening m start nest.opening) history) refl (sym (histories_same m f stop stops history start nest.opening).0 ∙ leads)
    where
      go : (o : Option (State B C P)) → run (step m) (opening m start nest.opening) history ≡ o → option_map (forget f) o ≡ Some t → Led history t
      go None is e = absurd (let none : None ≡ Some t = e in cc)
      go (Some s) is e = record { state = s; leads = is; is = (let same : forget f s ≡ t = cc in same) }

  -- what holds of each state without forgetting
  carried : (history : List ℕ) (R : State B C Q → Type 0) → ((s : State B C P) → Leads m nest start history s → R (forget f s)) → (t : State B C Q) → Leads n nest start history t → R t
  carried history R each t leads = let way = led history t leads in subst R way.is (each way.state way.leads)

  kept : (history : List ℕ) (s : State B C P) → Leads m nest start history s → Invariant m nest what s (trace_from m (opening m start nest.opening) history)
  kept history s leads = invariant_holds m nest what start setup history s leads

  held_same : (hand : Hand P) → held_number (forget_hand f hand) ≡ held_number hand
  held_same Idle = refl
  held_same (Holding k left piece) = refl
  held_same Ended = refl

  tickets_same : (s : State B C P) → AllTickets m s → AllTickets n (forget f s)
  tickets_same s tickets = record {
    width = length-map s.seats (forget_seat f) ∙ tickets.width;
    seats = λ u own.
        subst (λ (x : Seat B Q). Tickets m.width s.next s.trap u x.done (numbers x)) (sym (seat_same m f stop stops s.seats u))
        (subst (λ ns. Tickets m.width s.next s.trap u (seat_at s.seats u).done (ns ++ queued_numbers (seat_at s.seats u).queue)) (sym (held_same (seat_at s.seats u).hand)) (tickets.seats u own));
    trap = tickets.trap;
  }

  orders : (history : List ℕ) (s : State B C P) → Leads m nest start history s → KeepsOrder nest.opening (trace_from n (opening n start nest.opening) history) (forget f s).words
  orders history s leads =
      subst (λ trace. KeepsOrder nest.opening trace s.words) (sym (histories_same m f stop stops history start nest.opening).1) (keeps_order B C P m nest what start setup history s leads)

  completes : (history : List ℕ) (R : State B C Q → Type 0) → ((complete : Completes m nest start history) → R (forget f complete.last)) → (complete : Completes n nest start history) → R complete.last
  completes history R each complete =
      let way = led history complete.last complete.ran in
      let finished : is_finished m way.state ≡ true = sym (finishes_same m f stop stops way.state) ∙ ap (is_finished n) way.is ∙ complete.finished in
      subst R way.is (each (record { last = way.state; ran = way.leads; finished = finished }))

  abbrev Iterates : Ticket B → Type 0
  Iterates t = iteration_at nest t.number ≡ Some (what t.body)

  queues : (history : List ℕ) (s : State B C P) → Leads m nest start history s → (u : ℕ) → u < m.width → Each Iterates (seat_at (forget f s).seats u).queue
  queues history s leads u own =
      let trace = trace_from m (opening m start nest.opening) history in
      subst (λ (x : Seat B Q). Each Iterates x.queue) (sym (seat_same m f stop stops s.seats u))
      (each_map (λ (t : Ticket B). Iterates t × (part t.number trace ≡ [])) Iterates (seat_at s.seats u).queue (λ t both. both.0) ((kept history s leads).parts.seats u own).queue)

  goes : (history : List ℕ) (s : State B C P) → Leads m nest start history s → is_finished n (forget f s) ≡ false → CanGoOn n (forget f s)
  goes history s leads unfinished =
      let can = goes_on B C P m nest what start setup history s leads (sym (finishes_same m f stop stops s) ∙ unfinished) in
      record { actor = can.actor; present = can.present; enabled = subst IsSome (sym (step_same m f stop stops s can.actor)) (some_of (forget f) (step m s can.actor) can.enabled) }

  stays_ended : (history : List ℕ) (actor other : ℕ) (s : State B C P) → Leads m nest start history s → (t : State B C Q) → ended_actor n (forget f s) actor ≡ true → step n (forget f s) other ≡ Some t → ended_actor n t actor ≡ true
  stays_ended history actor other s leads t ended is = go (step m s other) refl (sym (step_same m f stop stops s other) ∙ is)
    where
      go : (o : Option (State B C P)) → step m s other ≡ o → option_map (forget f) o ≡ Some t → ended_actor n t actor ≡ true
      go None known e = absurd (let none : None ≡ Some t = e in cc)
      go (Some next) known e =
          let same : forget f next ≡ t = cc in
          subst (λ x. ended_actor n x actor ≡ true) same
          (ended_same m f stop stops next actor ∙ stay B C P m nest what start setup history s next actor other leads (sym (ended_same m f stop stops s actor) ∙ ended) known)

  pub keeps_nest : KeepsNest n nest what start (measure m nest (opening m start nest.opening))
  keeps_nest = record {
    order = λ history. carried history (λ t. KeepsOrder nest.opening (trace_from n (opening n start nest.opening) history) t.words) (orders history);
    ends = λ history. completes history (λ t. ending_of t ≡ outcome nest) (ends_as B C P m nest what start setup history);
    facts = λ history complete words done. completes history (λ t. t.facts ≡ facts_of (waits n) nest) (λ whole. counts_as B C P m nest what start setup history whole words done) complete;
    hands_out = λ history t leads b rest none is.
        carried history (λ x. x.trap ≡ None → n.event x.cursor ≡ Iterate b rest → iteration_at nest x.next ≡ Some (what b)) (λ s legal. is_next B C P m nest what start setup history s legal b rest) t leads none is;
    known = λ history. carried history (λ t. (k : ℕ) → k < t.next → IsSome (iteration_at nest k)) (λ s leads. (kept history s leads).course.known);
    queued = λ history. carried history (λ t. (u : ℕ) → u < m.width → Each Iterates (seat_at t.seats u).queue) (queues history);
    fixed_words = λ history. carried history (λ t. HoldsFixed m.system.fixed t.words) (λ s leads. (kept history s leads).words.fixed_words);
    tickets = λ history. carried history (AllTickets n) (λ s leads. tickets_same s (kept history s leads).tickets);
    goes_on = λ history. carried history (λ t. is_finished n t ≡ false → CanGoOn n t) (goes history);
    stays = λ history s t actor other leads.
        carried history (λ x. ended_actor n x actor ≡ true → step n x other ≡ Some t → ended_actor n t actor ≡ true) (λ before legal. stays_ended history actor other before legal t) s leads;
    finishes = λ history.
        carried history (λ t. (is_finished n t ≡ true) ↔ ((actor : ℕ) → actor < m.width + 2 → ended_actor n t actor ≡ true))
        (λ s leads.
        let both = finishes B C P m nest what start setup history s leads in (
          (λ over actor below. ended_same m f stop stops s actor ∙ both.0 (sym (finishes_same m f stop stops s) ∙ over) actor below),
          (λ all. finishes_same m f stop stops s ∙ both.1 (λ actor below. sym (ended_same m f stop stops s actor) ∙ all actor below)),
        ));
    few = λ history. carried history (λ t. length history ≤ measure m nest (opening m start nest.opening)) (λ s leads. is_bounded B C P m nest what start setup history s leads);
  }

pub forgetting_keeps : (B C P Q : Type 0) → ForgettingKeepsNests B C P Q
forgetting_keeps B C P Q m f stop stops nest what start setup = keeps_nest m f stop stops nest what start setup
