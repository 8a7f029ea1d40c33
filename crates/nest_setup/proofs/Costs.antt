-- What the setup keeps of the nest, and that no history is longer than the bound by the costs.
use Rattle.std.proofs.Common.{◌≡◌, ℕ, zero, suc, ◌+◌, ◌<◌, ◌≤◌, ◌==◌, nat_lt, ℤ, Option, Some, None, List, [], ◌∷◌, ◌++◌, length, refl, sym, ◌∙◌, subst, arith}
use Rattle.std.specs.Option.{option_map_or}
use Rattle.std.proofs.lemmas.Bool.{cond-false, le-ltb, ne_eqb}
use Rattle.nest_syntax.specs.Arrays.{arrays_of, sizes_of}
use Rattle.nest_syntax.specs.Shape.{bodies_of}
use Rattle.nest_syntax.specs.Turn.{turn_of}
use Rattle.nest_syntax.specs.Outcome.{Event as Passed, Computes, Drains, Iterates, Closes, body_at}
use Rattle.settle_law.specs.Reading.{fixed_in}
use Rattle.settle_law.specs.Courses.{Nest, Event, End, Scalar, Drain, Iterate, Close, Behind, Onward, AtEvent, events, iteration_at, nest_of}
use Rattle.settle_law.proofs.Cursors.{at_event, begins}
use Rattle.turn_cost.specs.Costs.{body_cost}
use Rattle.turn_cost.proofs.Costly.{turn_costs}
use Rattle.task_hop.specs.declared.frame.Frame.{Frame}
use Rattle.task_hop.specs.declared.stop.Stop.{Stop as Stopped}
use Rattle.task_hop.specs.declared.stop.Stop.TheVariants as stop
use Rattle.task_code.specs.Code.{Code}
use Rattle.task_frame.specs.declared.piece.Piece.{Piece}
use Rattle.task_frame.specs.Pieces.{reached}
use Rattle.task_frame.specs.System as fuelled
use Rattle.task_frame.specs.System.{Fuelled}
use Rattle.sched_cursor.specs.declared.event.Iteration.{Iteration}
use Rattle.sched_cursor.specs.Cursor.{Cursor}
use Rattle.sched_cursor.specs.Handed.{what_of}
use Rattle.sched_cursor.specs.Laws.{restarted}
use Rattle.domore_machine.specs.Machine.{Setup, State, opening, step}
use Rattle.domore_machine.specs.Measure.{measure, bound, EventCosts, Costs}
use Rattle.domore_machine.proofs.Falls.{opening_within}
use Rattle.domore_machine.proofs.Ended.{no_step}
use Rattle.nest_tasks.specs.Forgetting.{forget_stop}
use Rattle.nest_tasks.specs.Carried.{KeepsNest}
use Rattle.nest_tasks.proofs.Carrying.{forgetting_keeps}
use Rattle.nest_tasks.proofs.Longest.{bounded_falls}
use Rattle.nest_setup.specs.Pieces.{stop_told, stop_of}
use Rattle.nest_setup.specs.Setups.{setup_of, fuelled_setup_of}
use Rattle.nest_setup.specs.Laws.{cost_by, SetupsKeepNests, MeasuresFall, BodyCostsBoundTurns}
use Rattle.nest_setup.proofs.Realised.{takes_within}
use Rattle.nest_setup.proofs.Right.{setups_right}

pub body_costs_bound : BodyCostsBoundTurns
body_costs_bound program words i =
    takes_within (sizes_of (arrays_of program.decls)) (fixed_in (arrays_of program.decls) words) (turn_of (arrays_of program.decls) (body_at (bodies_of program) i.0) i.1) (body_cost (body_at (bodies_of program) i.0))
    (turn_costs (arrays_of program.decls) (body_at (bodies_of program) i.0) i.1)

-- Where the costs bound the fuel of each iteration of the nest that may be handed out, they bound all that a cursor hands out.
module _ {B C P : Type 0} (m : Setup B C P) (nest : Nest) (what : B → ℕ × List ℤ) (cost : ℕ → ℕ) (bounds : (b : B) (k : ℕ) → iteration_at nest k ≡ Some (what b) → m.system.fuel (m.entry b) < cost k) where
  pub costs : (most : ℕ) (passed : List Passed) (next : ℕ) (cursor : C) → Behind nest what m.event passed next cursor → Costs m nest most cost cursor next
  costs zero passed next cursor behind = tt
  costs (suc most) passed next cursor behind = by (m.event cursor) (at_event nest what m.event passed next cursor behind) (λ p n c b. costs most p n c b)
    where
      by : (e : Event B C) → AtEvent nest what m.event passed next e → ((p : List Passed) (n : ℕ) (c : C) → Behind nest what m.event p n c → Costs m nest most cost c n) → EventCosts m nest (Costs m nest most cost) cost next e
      by End at rest = tt
      by (Scalar purpose trap after) (scalars, onward) rest = λ none. rest (passed ++ Computes purpose scalars ∷ []) next after (subst (λ t. Onward nest what m.event passed next (Computes purpose scalars) t after) none onward)
      by (Drain purpose trap after) (scalars, each) rest =
          λ words reached none. rest (passed ++ Drains purpose scalars ∷ []) next (after words) (subst (λ t. Onward nest what m.event passed next (Drains purpose scalars) t (after words)) none (each words reached))
      by (Iterate b after) (is, later) rest = (bounds b next is, rest (passed ++ Iterates (what b).0 (what b).1 ∷ []) (suc next) after later)
      by (Close after) (scalars, later) rest = rest (passed ++ Closes scalars ∷ []) next after later

-- under a greater bound
fewer : {B C P : Type 0} (m : Setup B C P) (nest : Nest) (what : B → ℕ × List ℤ) (start : C) (most more : ℕ) → most ≤ more → KeepsNest m nest what start most → KeepsNest m nest what start more
fewer m nest what start most more le keeps = record {
  order = keeps.order;
  ends = keeps.ends;
  facts = keeps.facts;
  hands_out = keeps.hands_out;
  known = keeps.known;
  queued = keeps.queued;
  fixed_words = keeps.fixed_words;
  tickets = keeps.tickets;
  goes_on = keeps.goes_on;
  stays = keeps.stays;
  finishes = keeps.finishes;
  few = λ history s leads. let less : length history ≤ most = keeps.few history s leads in omega (arith, le, less);
}

-- a piece stands where it stands with its fuel
module _ (sizes : List ℕ) (code : Code) where
  told_same : (left : ℕ) (frame : Frame) (at : Stopped) → stop_told sizes code frame at ≡ forget_stop (λ (p : Fuelled). p.piece) (fuelled.stop_told sizes code left frame at)
  told_same left frame (stop.Load array place into next) = refl
  told_same left frame (stop.Store array place value next) = refl
  told_same left frame (stop.Go next) = refl
  told_same left frame stop.Finish = refl
  told_same left frame (stop.Trap cause line) = refl

  pub stops_same : (p : Fuelled) → stop_of sizes code p.piece ≡ forget_stop (λ (q : Fuelled). q.piece) (fuelled.stop_of sizes code p)
  stops_same p = told_same p.left (reached p.piece).frame (reached p.piece).stop

pub setups_keep : SetupsKeepNests
setups_keep program words code claims cursor width room prepared stops bounds =
    let nest = nest_of program words in
    let start = restarted program cursor in
    let m = fuelled_setup_of program words code claims stops width room in
    let right = setups_right program words code claims cursor width room prepared stops bounds in
    let cost = cost_by nest stops in
    let few : (i : Iteration) (k : ℕ) → iteration_at nest k ≡ Some (what_of program i) → stops (what_of program i) < cost k =
    λ i k at. subst (λ (o : Option (ℕ × List ℤ)). stops (what_of program i) < option_map_or (λ (j : ℕ × List ℤ). suc (stops j)) o 0) (sym at) (less (stops (what_of program i))) in
    let within : measure m nest (opening m start words) ≤ bound nest width cost =
    opening_within Iteration Cursor Fuelled m nest (what_of program) start cost right
    (costs m nest (what_of program) cost few (length (events nest)) [] 0 start (begins Iteration Cursor nest (what_of program) m.event start right.follows)) in
    fewer (setup_of program words code claims width room) nest (what_of program) start (measure m nest (opening m start words)) (bound nest width cost) within
    (forgetting_keeps Iteration Cursor Fuelled Piece m (λ (p : Fuelled). p.piece) (stop_of (sizes_of (arrays_of program.decls)) code) (stops_same (sizes_of (arrays_of program.decls)) code) nest (what_of program) start right)
  where
    less : (n : ℕ) → n < suc n
    less n = omega arith

-- a number behind the scheduler's is no actor's
past_none : {B C P : Type 0} (m : Setup B C P) (s : State B C P) (actor : ℕ) → m.width + 1 ≤ actor → step m s actor ≡ None
past_none {B} {C} {P} m s actor past = no_step B C P m s actor (
    cond-false (nat_lt actor m.width) _ _ (le-ltb actor m.width (omega (arith, past)))
    ∙ cond-false (actor == m.width) _ _ (ne_eqb actor m.width (λ same. absurd (omega (arith, past, same)))))

pub measures_fall : MeasuresFall
measures_fall program words code claims cursor width room prepared stops bounds =
    let m = setup_of program words code claims width room in
    bounded_falls (State Iteration Cursor Piece) (step m) (width + 1) (bound (nest_of program words) width (cost_by (nest_of program words) stops)) (opening m (restarted program cursor) words)
    (setups_keep program words code claims cursor width room prepared stops bounds).few (λ history s actor led past. past_none m s actor past)
