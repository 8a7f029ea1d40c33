-- The engine keeps the laws of a machine, since its abstract machine does.
use Rattle.std.specs.Prelude.{◌≡◌, ◌↔◌, ℕ, suc, ◌+◌, ◌≤◌, Bool, true, false, nat_lt, ◌==◌, if◌then◌else◌, Option, None, Some, is_some, List, [], ◌∷◌, length, refl}
use Rattle.std.specs.Option.{option_map, option_map_or, option_and_then}
use Rattle.std.proofs.Common.{arith, ap, ◌∙◌, sym, subst}
use Rattle.std.proofs.lemmas.Bool.{le-ltb, lt-ltb, ltb-false, ne_eqb, cond-false}
use Rattle.nest_syntax.specs.Shape.{bodies_of}
use Rattle.nest_syntax.specs.Outcome.{body_at}
use Rattle.nest_mean.specs.Nest.{CanRun, IsWellFormed}
use Rattle.progress_board.specs.declared.options.Options.{Options}
use Rattle.progress_board.specs.declared.actors.Row.TheVariants as board
use Rattle.progress_board.specs.declared.actors.Work.{Work}
use Rattle.progress_board.specs.declared.actors.Ask.TheVariants.{Ready, Ended}
use Rattle.progress_board.specs.Options.{IsInRange}
use Rattle.progress_board.specs.Actors.{actors_of, is_ready, IsRowOf, SomeEnabled, AllEnded}
use Rattle.settle_law.specs.Runs.{run}
use Rattle.turn_cost.specs.Costs.{body_cost}
use Rattle.task_frame.specs.declared.piece.Piece.{Piece}
use Rattle.sched_cursor.specs.Laws.{restarted}
use Rattle.nest_tasks.specs.Longest.{longest, LongestFalls}
use Rattle.nest_setup.specs.Laws.{cost_by}
use Rattle.spec_machine.specs.Machine as machine
use Rattle.spec_machine.specs.Machine.{Hand}
use Rattle.spec_machine.specs.Measure.{bound}
use Rattle.spec_machine.specs.Theorems.{Leads}
use Rattle.spec_machine.proofs.Runs.{ended_stay}
use Rattle.spec_tasks.specs.Carried.{KeepsNest}
use Rattle.spec_setup.specs.Signs.{Signs, HoldNotes}
use Rattle.spec_setup.specs.Setups.{is_word_of, IsPrepared}
use Rattle.spec_core.specs.declared.moves.Move.{Move as Told}
use Rattle.spec_core.specs.Moves.{told}
use Rattle.spec_core.specs.Engine.{Engine, Stand, Move, nest_in, hand_at, answer, work_of_move, made_of, is_finished, setup_in, IsOpened, IsLegalEngine, move_of, told_of, step, has_ended, asked, made_by}
use Rattle.spec_core.specs.Names.{IsNamed, named}
use Rattle.spec_core.specs.Below.{body_costs_bound_turns, bounded_histories_fall, setups_keep_nests, scripts_stay}

module _ {G : Type 0} (s : Signs G) where
  -- no history of the engine's job with its options is longer: by the costs of its bodies
  abbrev pub most_steps : Engine G → ℕ
  most_steps e = bound (setup_in s e) (nest_in e.job) (restarted e.job.program e.state.cursor) (cost_by (nest_in e.job) (λ i. body_cost (body_at (bodies_of e.job.program) i.0)))

  -- the measure: the length of the longest history from here
  abbrev pub measure : Engine G → ℕ
  measure e = longest (step s) (actors_of e.options) (most_steps e) e

  -- a step changes the state alone, as the abstract machine does
  pub record IsStepped (e : Engine G) (actor : ℕ) (f : Engine G) : Type 0 where
    pub state : Stand G
    pub stepped : machine.step (setup_in s e) e.state actor ≡ Some state
    pub new : f ≡ record e { state = state }

  pub stepped : (e f : Engine G) (actor : ℕ) → step s e actor ≡ Some f → IsStepped e actor f
  stepped e f actor is = go (machine.step (setup_in s e) e.state actor) refl is
    where
      go : (o : Option (Stand G)) → machine.step (setup_in s e) e.state actor ≡ o → option_map (λ (t : Stand G). record e { state = t }) o ≡ Some f → IsStepped e actor f
      go None known made = absurd (cc)
      go (Some t) known made = record { state = t; stepped = known; new = (let same : (let g : Engine G = record e { state = t } in g) ≡ f = cc in sym same) }

  pub keeps_job : (e f : Engine G) (actor : ℕ) → step s e actor ≡ Some f → f.job ≡ e.job
  keeps_job e f actor is = ap (λ (g : Engine G). g.job) (stepped e f actor is).new

  pub keeps_options : (e f : Engine G) (actor : ℕ) → step s e actor ≡ Some f → f.options ≡ e.options
  keeps_options e f actor is = ap (λ (g : Engine G). g.options) (stepped e f actor is).new

  -- a legal history of the engine is one of the abstract machine
  pub record IsLed (e : Engine G) (history : List ℕ) (f : Engine G) : Type 0 where
    pub state : Stand G
    pub leads : run (machine.step (setup_in s e)) e.state history ≡ Some state
    pub new : f ≡ record e { state = state }

  pub led : (history : List ℕ) (e f : Engine G) → run (step s) e history ≡ Some f → IsLed e history f
  led [] e f is = record { state = e.state; leads = refl; new = (let same : e ≡ f = cc in sym same) }
  led (actor ∷ history) e f is = go (machine.step (setup_in s e) e.state actor) refl is (λ t made. led history (record e { state = t }) f made)
    where
      go : (o : Option (Stand G)) → machine.step (setup_in s e) e.state actor ≡ o → option_and_then (λ (t : Engine G). run (step s) t history) (option_map (λ (t : Stand G). record e { state = t }) o) ≡ Some f
          → ((t : Stand G) → run (step s) (record e { state = t }) history ≡ Some f → IsLed (record e { state = t }) history f) → IsLed e (actor ∷ history) f
      go None known made later = absurd (let no : None ≡ Some f = made in cc)
      go (Some t) known made later =
          let rest = later t made in
          record { state = rest.state; leads = ap (λ (o : Option (Stand G)). option_and_then (λ (u : Stand G). run (machine.step (setup_in s e)) u history) o) known ∙ rest.leads; new = rest.new }

  -- the machine of an opened engine keeps the nest of its job
  abbrev pub KeepsJob : Engine G → Type 0
  KeepsJob first = KeepsNest (setup_in s first) (nest_in first.job) (restarted first.job.program first.state.cursor) (is_word_of first.job.program) (most_steps first)

  pub prepared : HoldNotes s → (first : Engine G) → IsOpened s first → CanRun first.job → IsInRange first.options → IsPrepared first.job.program first.code first.state.cursor s first.options.workers first.options.segment
  unfolding IsWellFormed
  prepared holds first opened runs allowed = record {
    named = runs.formed.0;
    keeps = runs.formed.1;
    code_is = opened.code_is;
    cursor_is = opened.cursor_is;
    hold_notes = holds;
    some_worker = omega (arith, allowed.some_worker);
    some_room = omega (arith, allowed.some_invocation);
  }

  pub keeps : HoldNotes s → (first : Engine G) → IsOpened s first → CanRun first.job → IsInRange first.options → KeepsJob first
  keeps holds first opened runs allowed = setups_keep_nests G first.job.program first.job.opening.words first.code first.state.cursor s first.options.workers first.options.segment _ (prepared holds first opened runs allowed) _ (body_costs_bound_turns first.job.program first.job.opening.words)

  -- How a legal state came about: by a history of the abstract machine, from an opening of its job.
  pub record CameBy (e : Engine G) : Type 0 where
    pub first : Engine G
    pub opened : IsOpened s first
    pub runs : CanRun first.job
    pub allowed : IsInRange first.options
    pub history : List ℕ
    pub ran : run (step s) first history ≡ Some e
    pub state : Stand G
    pub leads : Leads (setup_in s first) (nest_in first.job) (restarted first.job.program first.state.cursor) history state
    pub new : e ≡ record first { state = state }

  pub came_by : (e : Engine G) → IsLegalEngine s e → CameBy e
  came_by e legal =
      let way = led legal.reached.history legal.first e legal.reached.ran in
      let opened = legal.opened.opened in
      record {
        first = legal.first;
        opened = opened;
        runs = subst CanRun (sym legal.opened.same_job) legal.runs;
        allowed = subst IsInRange (sym legal.opened.same_options) legal.allowed;
        history = legal.reached.history;
        ran = legal.reached.ran;
        state = way.state;
        leads = ap (λ (t : Stand G). run (machine.step (setup_in s legal.first)) t legal.reached.history) (sym opened.at_opening) ∙ way.leads;
        new = way.new;
      }

  -- an actor is asked to work exactly where it has a step
  ready_is : (e : Engine G) (actor : ℕ) (over : Bool) (hand : Hand Piece) (o : Option Move) → is_ready (answer over hand (option_map (told hand) o)) ≡ is_some (option_map (λ (t : Stand G). let g : Engine G = record e { state = t } in g) (option_map (machine.state_after (setup_in s e) e.state actor) o))
  ready_is e actor over hand (Some move) = refl
  ready_is e actor true hand None = refl
  ready_is e actor false hand None = refl

  pub readies : (e : Engine G) (actor : ℕ) → is_ready (asked s e actor) ≡ is_some (step s e actor)
  readies e actor = ready_is e actor (has_ended s e actor) (hand_at e actor) (move_of s e actor)

  -- an ended actor has no move
  no_move : (e : Engine G) (actor : ℕ) → has_ended s e actor ≡ true → move_of s e actor ≡ None
  no_move e actor over = by e.state.concluded (nat_lt actor (e.options.workers + 2)) refl over
    where
      past : nat_lt actor (e.options.workers + 2) ≡ false → machine.going_move (setup_in s e) e.state actor ≡ None
      past behind =
          let far : e.options.workers + 2 ≤ actor = ltb-false actor (e.options.workers + 2) behind in
          cond-false (nat_lt actor e.options.workers) _ _ (le-ltb actor e.options.workers (omega arith))
          ∙ cond-false (actor == e.options.workers) _ _ (ne_eqb actor e.options.workers (λ same. absurd (omega arith)))
          ∙ cond-false (actor == suc e.options.workers) _ _ (ne_eqb actor (suc e.options.workers) (λ same. absurd (omega arith)))

      by : (concluded present : Bool) → nat_lt actor (e.options.workers + 2) ≡ present → (if present then concluded else true) ≡ true → (if concluded then None else machine.going_move (setup_in s e) e.state actor) ≡ None
      by true present is over = refl
      by false true is over = absurd (let no : false ≡ true = over in cc)
      by false false is over = past is

  -- numbers behind the last actor have no step
  pub actors : (e : Engine G) (actor : ℕ) → actors_of e.options ≤ actor → step s e actor ≡ None
  actors e actor past = ap (λ (o : Option Move). option_map (λ (t : Stand G). let g : Engine G = record e { state = t } in g) (option_map (machine.state_after (setup_in s e) e.state actor) o))
      (no_move e actor (cond-false (nat_lt actor (e.options.workers + 2)) _ _ (le-ltb actor (e.options.workers + 2) past)))

  -- an actor is answered that it is ended exactly where it is
  ended_is : (over : Bool) (hand : Hand Piece) (o : Option Told) → answer over hand o ≡ Ended → over ≡ true
  ended_is over hand (Some move) is = absurd (cc)
  ended_is true hand None is = refl
  ended_is false hand None is = absurd (cc)

  is_ended : (e : Engine G) (actor : ℕ) → has_ended s e actor ≡ true → asked s e actor ≡ Ended
  is_ended e actor over =
      ap (λ o. answer (has_ended s e actor) (hand_at e actor) (option_map (told (hand_at e actor)) o)) (no_move e actor over) ∙ ap (λ b. answer b (hand_at e actor) None) over

  was_ended : (e : Engine G) (actor : ℕ) → asked s e actor ≡ Ended → has_ended s e actor ≡ true
  was_ended e actor is = ended_is (has_ended s e actor) (hand_at e actor) (told_of s e actor) is

  pub stays : (e f : Engine G) (actor other : ℕ) → asked s e actor ≡ Ended → step s e other ≡ Some f → asked s f actor ≡ Ended
  stays e f actor other over is =
      let way = stepped e f other is in
      subst (λ (g : Engine G). asked s g actor ≡ Ended) (sym way.new)
      (is_ended (record e { state = way.state }) actor (ended_stay _ _ _ _ (setup_in s e) e.state way.state actor other (was_ended e actor over) way.stepped))

  -- the machine is finished exactly where all are ended
  pub finishes : (e : Engine G) → (is_finished e ≡ true) ↔ AllEnded (asked s) e (actors_of e.options)
  finishes e = (
    (λ over. λ actor below. is_ended e actor (ap (λ b. if nat_lt actor (e.options.workers + 2) then b else true) over ∙ both (nat_lt actor (e.options.workers + 2)))),
    (λ all. let over : has_ended s e 0 ≡ true = was_ended e 0 (all 0 (omega arith)) in sym (ap (λ b. if b then e.state.concluded else true) (lt-ltb 0 (e.options.workers + 2) (omega arith))) ∙ over),
  )
    where
      both : (t : Bool) → (if t then true else true) ≡ true
      both true = refl
      both false = refl

  -- each step makes the measure smaller
  pub longest_falls : HoldNotes s → (first : Engine G) → IsOpened s first → CanRun first.job → IsInRange first.options → LongestFalls (Engine G) (step s) (actors_of first.options) (most_steps first) first
  longest_falls holds first opened runs allowed = bounded_histories_fall (Engine G) (step s) (actors_of first.options) (most_steps first) first few others
    where
      few : (history : List ℕ) (t : Engine G) → run (step s) first history ≡ Some t → length history ≤ most_steps first
      few history t ran =
          let way = led history first t ran in
          (keeps holds first opened runs allowed).few history way.state (ap (λ (u : Stand G). run (machine.step (setup_in s first)) u history) (sym opened.at_opening) ∙ way.leads)

      others : (history : List ℕ) (t : Engine G) (actor : ℕ) → run (step s) first history ≡ Some t → actors_of first.options ≤ actor → step s t actor ≡ None
      others history t actor ran past = let way = led history first t ran in subst (λ (g : Engine G). step s g actor ≡ None) (sym way.new) (actors (record first { state = way.state }) actor past)

  -- along a history the script of the cursor, and so the bound, stays
  same_most : (history : List ℕ) (e f : Engine G) → run (step s) e history ≡ Some f → most_steps f ≡ most_steps e
  same_most [] e f is = let same : e ≡ f = cc in ap most_steps (sym same)
  same_most (actor ∷ history) e f is = go (step s e actor) refl is (λ g made. same_most history g f made)
    where
      one : (g : Engine G) → step s e actor ≡ Some g → most_steps g ≡ most_steps e
      one g made =
          let way = stepped e g actor made in
          let cursor : restarted e.job.program g.state.cursor ≡ restarted e.job.program e.state.cursor = scripts_stay s e g actor made in
          ap most_steps way.new ∙ ap (λ c. bound (setup_in s e) (nest_in e.job) c (cost_by (nest_in e.job) (λ i. body_cost (body_at (bodies_of e.job.program) i.0)))) (ap (λ (h : Engine G). restarted e.job.program h.state.cursor) (sym way.new) ∙ cursor)

      go : (o : Option (Engine G)) → step s e actor ≡ o → option_and_then (λ (t : Engine G). run (step s) t history) o ≡ Some f → ((g : Engine G) → run (step s) g history ≡ Some f → most_steps f ≡ most_steps g) → most_steps f ≡ most_steps e
      go None known made later = absurd (let no : None ≡ Some f = made in cc)
      go (Some g) known made later = later g made ∙ one g known

  measure_as : (e first : Engine G) → e.options ≡ first.options → most_steps e ≡ most_steps first → measure e ≡ longest (step s) (actors_of first.options) (most_steps first) e
  measure_as e first options most =
      ap (λ (o : Options). longest (step s) (actors_of o) (most_steps e) e) options ∙ ap (λ n. longest (step s) (actors_of first.options) n e) most

  pub falls : HoldNotes s → (e f : Engine G) (actor : ℕ) → IsLegalEngine s e → step s e actor ≡ Some f → measure f + 1 ≤ measure e
  falls holds e f actor legal is =
      let by = came_by e legal in
      let less = (longest_falls holds by.first by.opened by.runs by.allowed).falls by.history e f actor by.ran is in
      let options : e.options ≡ by.first.options = ap (λ (g : Engine G). g.options) by.new in
      let most : most_steps e ≡ most_steps by.first = same_most by.history by.first e by.ran in
      let options_too : f.options ≡ by.first.options = keeps_options e f actor is ∙ options in
      let most_too : most_steps f ≡ most_steps by.first = same_most (actor ∷ []) e f (ap (λ (o : Option (Engine G)). option_and_then (λ (t : Engine G). run (step s) t []) o) is) ∙ most in
      subst (λ n. n + 1 ≤ measure e) (sym (measure_as f by.first options_too most_too))
      (subst (λ n. longest (step s) (actors_of by.first.options) (most_steps by.first) f + 1 ≤ n) (sym (measure_as e by.first options most)) less)

  -- a machine that isn't finished has a step
  some_of : (now : Engine G) (o : Option (Stand G)) → is_some o ≡ true → is_some (option_map (λ (t : Stand G). let g : Engine G = record now { state = t } in g) o) ≡ true
  some_of now (Some t) some = refl
  some_of now None some = some

  progress_by : HoldNotes s → (e : Engine G) (by : CameBy e) → is_finished (record by.first { state = by.state }) ≡ false → SomeEnabled (step s) (record by.first { state = by.state }) (actors_of by.first.options)
  progress_by holds e by unfinished =
      let can = (keeps holds by.first by.opened by.runs by.allowed).goes_on by.history by.state by.leads unfinished in
      record { actor = can.actor; below = omega (arith, can.present); enabled = some_of (record by.first { state = by.state }) (machine.step (setup_in s by.first) by.state can.actor) can.enabled }

  pub progress : HoldNotes s → (e : Engine G) → IsLegalEngine s e → is_finished e ≡ false → SomeEnabled (step s) e (actors_of e.options)
  progress holds e legal =
      let by = came_by e legal in
      subst (λ (g : Engine G). is_finished g ≡ false → SomeEnabled (step s) g (actors_of g.options)) (sym by.new) (progress_by holds e by)

  -- what is made is a row of the work that was asked for
  pub names : (e : Engine G) (actor : ℕ) (work : Work) → asked s e actor ≡ Ready work → IsRowOf work (made_by s e actor).row
  names e actor work is = by (has_ended s e actor) (move_of s e actor) (named (setup_in s e) _ e.code (λ p. refl) e.state actor) is
    where
      by : (over : Bool) (o : Option Move) → IsNamed (hand_at e actor) o → answer over (hand_at e actor) (option_map (told (hand_at e actor)) o) ≡ Ready work → IsRowOf work (option_map_or (made_of e actor) o (record { row = board.Conclude; number = 0 })).row
      by over (Some move) named ready = let same : work_of_move (told (hand_at e actor) move) (hand_at e actor) ≡ work = cc in subst (λ w. IsRowOf w (made_of e actor move).row) same named
      by true None named ready = absurd (cc)
      by false None named ready = absurd (cc)
