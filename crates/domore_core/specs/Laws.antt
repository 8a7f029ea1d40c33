-- The engine keeps the laws of a machine, since its abstract machine does.
use Rattle.std.specs.Prelude.{◌≡◌, ◌↔◌, ℕ, ◌+◌, ◌≤◌, ◌<◌, Bool, true, false, nat_lt, ◌==◌, Option, None, Some, is_some, List, [], ◌∷◌, length, refl}
use Rattle.std.specs.Option.{option_map, option_map_or, option_and_then}
use Rattle.std.proofs.Common.{arith, ap, ◌∙◌, sym, subst, inl}
use Rattle.std.proofs.lemmas.Bool.{le-ltb, ne_eqb, cond-false}
use Rattle.nest_mean.specs.Nest.{Nest, CanRun, IsWellFormed}
use Rattle.progress_board.specs.declared.options.Options.{Options}
use Rattle.progress_board.specs.declared.actors.Row.TheVariants as board
use Rattle.progress_board.specs.declared.actors.Work.{Work}
use Rattle.progress_board.specs.declared.actors.Work.TheVariants as work
use Rattle.progress_board.specs.declared.actors.Ask.TheVariants.{Ready, Ended}
use Rattle.progress_board.specs.Options.{IsInRange}
use Rattle.progress_board.specs.Actors.{actors_of, is_ready, asked_as, IsRowAt, IsRowOf, SomeEnabled, AllEnded}
use Rattle.settle_law.specs.Runs.{run}
use Rattle.domore_machine.specs.Machine as machine
use Rattle.domore_machine.specs.Machine.{Hand, Idle, Holding, DoScalar, DoClose, DoDrain, DoDispatch, DoHalt, DoTake, DoPass, DoRead, DoWrite, DoGo, DoFinish, DoTrap, DoDropHeld, DoDropQueued, DoEnd}
use Rattle.domore_machine.proofs.Guards.{Guard, guarded}
use Rattle.domore_machine.specs.Theorems.{Leads}
use Rattle.domore_machine.proofs.Ended as ended
use Rattle.sched_cursor.specs.declared.event.Iteration.{Iteration}
use Rattle.sched_cursor.specs.Cursor.{Cursor}
use Rattle.sched_cursor.specs.Handed.{what_of}
use Rattle.sched_cursor.specs.Laws.{restarted}
use Rattle.nest_syntax.specs.Arrays.{arrays_of, sizes_of}
use Rattle.task_hop.specs.declared.frame.Frame.{Frame}
use Rattle.task_hop.specs.declared.stop.Stop.{Stop as Stopped}
use Rattle.task_hop.specs.declared.stop.Stop.TheVariants as stopped
use Rattle.task_code.specs.Code.{Code}
use Rattle.task_frame.specs.declared.piece.Piece.{Piece}
use Rattle.task_frame.specs.Pieces.{reached}
use Rattle.nest_setup.specs.Pieces.{stop_told, stop_of}
use Rattle.nest_tasks.specs.Carried.{KeepsNest}
use Rattle.nest_tasks.specs.Longest.{LongestFalls, longest}
use Rattle.nest_setup.specs.Setups.{IsPrepared}
use Rattle.domore_core.specs.declared.moves.Move.{Move as Told}
use Rattle.domore_core.specs.declared.moves.Move.TheVariants.{Turn, Hop}
use Rattle.domore_core.specs.declared.moves.Turn.{Turn as OwnMove}
use Rattle.domore_core.specs.declared.moves.Turn.TheVariants as turns
use Rattle.domore_core.specs.Claims.{claims_of}
use Rattle.domore_core.specs.Moves.{told, row_of_turn}
use Rattle.domore_core.specs.Engine.{Engine, Stand, Move, setup_in, nest_in, most_steps, Opens, IsOpened, IsLegalEngine, move_of, step, has_ended, hand_at, answer, asked, work_of_move, row_of, made_of, made_by, is_finished, measure}
use Rattle.domore_core.specs.Below.{machines_keep_jobs, bounded_histories_fall, claims_hold}

-- a step changes the state alone, as the abstract machine does
pub record IsStepped (e : Engine) (actor : ℕ) (f : Engine) : Type 0 where
  pub state : Stand
  pub stepped : machine.step (setup_in e) e.state actor ≡ Some state
  pub new : f ≡ record e { state = state }

pub stepped : (e f : Engine) (actor : ℕ) → step e actor ≡ Some f → IsStepped e actor f
stepped e f actor is = go (machine.step (setup_in e) e.state actor) refl is
  where
    go : (o : Option Stand) → machine.step (setup_in e) e.state actor ≡ o → option_map (λ (s : Stand). record e { state = s }) o ≡ Some f → IsStepped e actor f
    go None known made = absurd (cc)
    go (Some s) known made = record { state = s; stepped = known; new = (let same : (let g : Engine = record e { state = s } in g) ≡ f = cc in sym same) }

pub keeps_job : (e f : Engine) (actor : ℕ) → step e actor ≡ Some f → f.job ≡ e.job
keeps_job e f actor is = ap (λ (g : Engine). g.job) (stepped e f actor is).new

pub keeps_options : (e f : Engine) (actor : ℕ) → step e actor ≡ Some f → f.options ≡ e.options
keeps_options e f actor is = ap (λ (g : Engine). g.options) (stepped e f actor is).new

-- a legal history of the engine is one of the abstract machine
pub record IsLed (e : Engine) (history : List ℕ) (f : Engine) : Type 0 where
  pub state : Stand
  pub leads : run (machine.step (setup_in e)) e.state history ≡ Some state
  pub new : f ≡ record e { state = state }

pub led : (history : List ℕ) (e f : Engine) → run step e history ≡ Some f → IsLed e history f
led [] e f is = record { state = e.state; leads = refl; new = (let same : e ≡ f = cc in sym same) }
led (actor ∷ history) e f is = go (machine.step (setup_in e) e.state actor) refl is (λ s made. led history (record e { state = s }) f made)
  where
    go : (o : Option Stand) → machine.step (setup_in e) e.state actor ≡ o → option_and_then (λ (t : Engine). run step t history) (option_map (λ (s : Stand). record e { state = s }) o) ≡ Some f
        → ((s : Stand) → run step (record e { state = s }) history ≡ Some f → IsLed (record e { state = s }) history f) → IsLed e (actor ∷ history) f
    go None known made later = absurd (let no : None ≡ Some f = made in cc)
    go (Some s) known made later =
        let rest = later s made in
        record { state = rest.state; leads = ap (λ (o : Option Stand). option_and_then (λ (t : Stand). run (machine.step (setup_in e)) t history) o) known ∙ rest.leads; new = rest.new }

-- the machine of an opened engine keeps the nest of its job
abbrev pub KeepsJob : Engine → Type 0
KeepsJob first = KeepsNest (setup_in first) (nest_in first.job) (what_of first.job.program) (restarted first.job.program first.state.cursor) (most_steps first.job first.options)

pub prepared : (first : Engine) → IsOpened first → CanRun first.job → IsInRange first.options → IsPrepared first.job.program first.job.opening.words first.code (claims_of first.job.program first.job.opening.words) first.state.cursor first.options.workers first.options.queue
unfolding IsWellFormed
prepared first opened runs allowed = record {
  named = runs.formed.0;
  keeps = runs.formed.1;
  code_is = opened.code_is;
  cursor_is = opened.cursor_is;
  claims_hold = claims_hold first.job.program runs.formed.0 runs.formed.1 first.job.opening.words;
  some_worker = omega (arith, allowed.some_worker);
  some_room = omega (arith, allowed.some_room);
}

pub keeps : (first : Engine) → IsOpened first → CanRun first.job → IsInRange first.options → KeepsJob first
keeps first opened runs allowed = machines_keep_jobs first.job.program first.job.opening.words first.code (claims_of first.job.program first.job.opening.words) first.state.cursor first.options.workers first.options.queue (prepared first opened runs allowed)

-- How a legal state came about: by a history of the abstract machine, from an opening of its job.
pub record CameBy (e : Engine) : Type 0 where
  pub first : Engine
  pub opened : IsOpened first
  pub runs : CanRun first.job
  pub allowed : IsInRange first.options
  pub history : List ℕ
  pub ran : run step first history ≡ Some e
  pub state : Stand
  pub leads : Leads (setup_in first) (nest_in first.job) (restarted first.job.program first.state.cursor) history state
  pub new : e ≡ record first { state = state }

pub came_by : (e : Engine) → IsLegalEngine e → CameBy e
came_by e legal =
    let way = led legal.reached.history legal.first e legal.reached.ran in
    let opened = legal.opened.opened in
    record {
      first = legal.first;
      opened = opened;
      runs = subst CanRun (sym legal.opened.same_job) legal.runs;
      allowed = subst IsInRange (sym legal.opened.same_options) legal.allowed;
      history = legal.reached.history;
      ran = legal.reached.ran;
      state = way.state;
      leads = ap (λ (s : Stand). run (machine.step (setup_in legal.first)) s legal.reached.history) (sym opened.at_opening) ∙ way.leads;
      new = way.new;
    }

-- an actor is asked to work exactly where it has a step
ready_is : (e : Engine) (actor : ℕ) (over : Bool) (hand : Hand Piece) (o : Option Move) → is_ready (answer over hand (option_map told o)) ≡ is_some (option_map (λ (s : Stand). let g : Engine = record e { state = s } in g) (option_map (machine.state_after (setup_in e) e.state actor) o))
ready_is e actor over hand (Some move) = refl
ready_is e actor true hand None = refl
ready_is e actor false hand None = refl

pub readies : (e : Engine) (actor : ℕ) → is_ready (asked e actor) ≡ is_some (step e actor)
readies e actor = ready_is e actor (has_ended e actor) (hand_at e actor) (move_of e actor)

-- numbers behind the last actor have none
pub actors : (e : Engine) (actor : ℕ) → actors_of e.options ≤ actor → step e actor ≡ None
actors e actor past = ap (λ (o : Option Move). option_map (λ (s : Stand). let g : Engine = record e { state = s } in g) (option_map (machine.state_after (setup_in e) e.state actor) o)) none
  where
    none : move_of e actor ≡ None
    none = cond-false (nat_lt actor e.options.workers) _ _ (le-ltb actor e.options.workers (omega arith)) ∙ cond-false (actor == e.options.workers) _ _ (ne_eqb actor e.options.workers (λ same. absurd (omega arith)))

-- an actor is answered that it is ended exactly where it is
ended_is : (over : Bool) (hand : Hand Piece) (o : Option Told) → answer over hand o ≡ Ended → over ≡ true
ended_is over hand (Some move) is = absurd (cc)
ended_is true hand None is = refl
ended_is false hand None is = absurd (cc)

no_move : (e : Engine) (actor : ℕ) (o : Option Move) → option_map (machine.state_after (setup_in e) e.state actor) o ≡ None → o ≡ None
no_move e actor None none = refl
no_move e actor (Some move) none = absurd (let no : Some (machine.state_after (setup_in e) e.state actor move) ≡ None = none in cc)

is_ended : (e : Engine) (actor : ℕ) → has_ended e actor ≡ true → asked e actor ≡ Ended
is_ended e actor over =
    ap (λ o. answer (has_ended e actor) (hand_at e actor) (option_map told o)) (no_move e actor (move_of e actor) (ended.no_step Iteration Cursor Piece (setup_in e) e.state actor over)) ∙ ap (λ b. answer b (hand_at e actor) None) over

-- in the state that a history of the abstract machine left
module _ (e : Engine) (by : CameBy e) where
  abbrev now : Engine
  now = record by.first { state = by.state }

  kept : KeepsJob by.first
  kept = keeps by.first by.opened by.runs by.allowed

  over_is : (actor : ℕ) → asked now actor ≡ Ended → has_ended now actor ≡ true
  over_is actor = ended_is (has_ended now actor) (hand_at now actor) (option_map told (move_of now actor))

  stays_now : (f : Engine) (actor other : ℕ) → asked now actor ≡ Ended → step now other ≡ Some f → asked f actor ≡ Ended
  stays_now f actor other over is =
      let way = stepped now f other is in
      subst (λ (g : Engine). asked g actor ≡ Ended) (sym way.new) (is_ended (record now { state = way.state }) actor (kept.stays by.history by.state way.state actor other by.leads (over_is actor over) way.stepped))

  some_of : (o : Option Stand) → is_some o ≡ true → is_some (option_map (λ (s : Stand). let g : Engine = record now { state = s } in g) o) ≡ true
  some_of (Some s) some = refl
  some_of None some = some

  progress_now : is_finished now ≡ false → SomeEnabled step now (actors_of now.options)
  progress_now unfinished =
      let can = kept.goes_on by.history by.state by.leads unfinished in
      record { actor = can.actor; below = omega (arith, can.present); enabled = some_of (machine.step (setup_in now) by.state can.actor) can.enabled }

  finishes_now : (is_finished now ≡ true) ↔ AllEnded asked now (actors_of now.options)
  finishes_now =
      let both = kept.finishes by.history by.state by.leads in (
        (λ over. λ actor below. is_ended now actor (both.0 over actor below)),
        (λ all. both.1 (λ actor below. over_is actor (all actor below))),
      )

pub stays : (e f : Engine) (actor other : ℕ) → IsLegalEngine e → asked e actor ≡ Ended → step e other ≡ Some f → asked f actor ≡ Ended
stays e f actor other legal = let by = came_by e legal in subst (λ (g : Engine). asked g actor ≡ Ended → step g other ≡ Some f → asked f actor ≡ Ended) (sym by.new) (stays_now e by f actor other)

-- the machine is finished exactly where all are ended
pub finishes : (e : Engine) → IsLegalEngine e → (is_finished e ≡ true) ↔ AllEnded asked e (actors_of e.options)
finishes e legal = let by = came_by e legal in subst (λ (g : Engine). (is_finished g ≡ true) ↔ AllEnded asked g (actors_of g.options)) (sym by.new) (finishes_now e by)

-- a machine that isn't finished has a step
pub progress : (e : Engine) → IsLegalEngine e → is_finished e ≡ false → SomeEnabled step e (actors_of e.options)
progress e legal = let by = came_by e legal in subst (λ (g : Engine). is_finished g ≡ false → SomeEnabled step g (actors_of g.options)) (sym by.new) (progress_now e by)

-- each step makes the measure smaller
pub longest_falls : (first : Engine) → IsOpened first → CanRun first.job → IsInRange first.options → LongestFalls Engine step (actors_of first.options) (most_steps first.job first.options) first
longest_falls first opened runs allowed = bounded_histories_fall Engine step (actors_of first.options) (most_steps first.job first.options) first few others
  where
    few : (history : List ℕ) (s : Engine) → run step first history ≡ Some s → length history ≤ most_steps first.job first.options
    few history s ran =
        let way = led history first s ran in
        (keeps first opened runs allowed).few history way.state (ap (λ (t : Stand). run (machine.step (setup_in first)) t history) (sym opened.at_opening) ∙ way.leads)

    others : (history : List ℕ) (s : Engine) (actor : ℕ) → run step first history ≡ Some s → actors_of first.options ≤ actor → step s actor ≡ None
    others history s actor ran past = let way = led history first s ran in subst (λ (g : Engine). step g actor ≡ None) (sym way.new) (actors (record first { state = way.state }) actor past)

measure_as : (e first : Engine) → e.options ≡ first.options → e.job ≡ first.job → measure e ≡ longest step (actors_of first.options) (most_steps first.job first.options) e
measure_as e first options job =
    ap (λ (o : Options). longest step (actors_of o) (most_steps e.job o) e) options
    ∙ ap (λ (j : Nest). longest step (actors_of first.options) (most_steps j first.options) e) job

pub falls : (e f : Engine) (actor : ℕ) → IsLegalEngine e → step e actor ≡ Some f → measure f + 1 ≤ measure e
falls e f actor legal is =
    let by = came_by e legal in
    let less = (longest_falls by.first by.opened by.runs by.allowed).falls by.history e f actor by.ran is in
    let options : e.options ≡ by.first.options = ap (λ (g : Engine). g.options) by.new in
    let job : e.job ≡ by.first.job = ap (λ (g : Engine). g.job) by.new in
    subst (λ n. n + 1 ≤ measure e) (sym (measure_as f by.first (keeps_options e f actor is ∙ options) (keeps_job e f actor is ∙ job)))
    (subst (λ n. longest step (actors_of by.first.options) (most_steps by.first.job by.first.options) f + 1 ≤ n) (sym (measure_as e by.first options job)) less)

-- what is made is a row of the work that was asked for
stop_row_is : (sizes : List ℕ) (code : Code) (frame : Frame) (k : ℕ) (m : machine.Setup Iteration Cursor Piece) (stop : Stopped) → IsRowAt stop (row_of (machine.stop_move m k (stop_told sizes code frame stop)))
stop_row_is sizes code frame k m (stopped.Load array place into next) = refl
stop_row_is sizes code frame k m (stopped.Store array place value next) = refl
stop_row_is sizes code frame k m (stopped.Go next) = refl
stop_row_is sizes code frame k m stopped.Finish = inl refl
stop_row_is sizes code frame k m (stopped.Trap cause line) = refl

-- a move that is made at a stop
abbrev IsHop : Engine → ℕ → Move → Type 0
IsHop e actor move = told move ≡ Hop → (k : ℕ) × (piece : Piece) × (actor < e.options.workers) × (hand_at e actor ≡ Holding k [] piece) × (move ≡ machine.stop_move (setup_in e) k (stop_of (sizes_of (arrays_of e.job.program.decls)) e.code piece))

hop_is : (e : Engine) (actor : ℕ) (move : Move) → Guard (setup_in e) e.state actor move → IsHop e actor move
hop_is e actor (DoScalar purpose trap rest) g is = absurd (cc)
hop_is e actor (DoClose rest) g is = absurd (cc)
hop_is e actor (DoDrain purpose trap rest) g is = absurd (cc)
hop_is e actor (DoDispatch b rest) g is = absurd (cc)
hop_is e actor DoHalt g is = absurd (cc)
hop_is e actor (DoTake ticket queue) g is = absurd (cc)
hop_is e actor (DoPass k w left piece) g is = absurd (cc)
hop_is e actor (DoRead k w next) (piece, holds, stop) is = (k, piece, holds.own, holds.hand, sym (ap (machine.stop_move (setup_in e) k) stop))
hop_is e actor (DoWrite k w value next) (piece, holds, stop) is = (k, piece, holds.own, holds.hand, sym (ap (machine.stop_move (setup_in e) k) stop))
hop_is e actor (DoGo k next) (piece, holds, stop) is = (k, piece, holds.own, holds.hand, sym (ap (machine.stop_move (setup_in e) k) stop))
hop_is e actor (DoFinish k) (piece, holds, stop) is = (k, piece, holds.own, holds.hand, sym (ap (machine.stop_move (setup_in e) k) stop))
hop_is e actor (DoTrap k cause line) (piece, holds, stop) is = (k, piece, holds.own, holds.hand, sym (ap (machine.stop_move (setup_in e) k) stop))
hop_is e actor (DoDropHeld k) g is = absurd (cc)
hop_is e actor (DoDropQueued ticket queue) g is = absurd (cc)
hop_is e actor DoEnd g is = absurd (cc)

-- Where a move is made at a stop, the work is the piece that is held there, and what is made is the stop's row.
pub record IsHopOf (e : Engine) (actor : ℕ) (move : Move) : Type 0 where
  pub number : ℕ
  pub piece : Piece
  pub own : actor < e.options.workers
  pub hand : hand_at e actor ≡ Holding number [] piece
  pub made : move ≡ machine.stop_move (setup_in e) number (stop_of (sizes_of (arrays_of e.job.program.decls)) e.code piece)

pub hop_of : (e : Engine) (actor : ℕ) (move : Move) → move_of e actor ≡ Some move → told move ≡ Hop → IsHopOf e actor move
hop_of e actor move is hops = let there = hop_is e actor move (guarded (setup_in e) e.state actor move is) hops in record { number = there.0; piece = there.1; own = there.2; hand = there.3; made = there.4 }

turn_row : (turn : OwnMove) → asked_as (row_of_turn turn) ≡ row_of_turn turn
turn_row turns.Scalar = refl
turn_row turns.Drain = refl
turn_row turns.Dispatch = refl
turn_row turns.Halt = refl
turn_row turns.Take = refl
turn_row turns.Pass = refl
turn_row turns.DropHeld = refl
turn_row turns.DropQueued = refl
turn_row turns.End = refl

-- the row of a move that the machine makes by itself
pub row_told : (move : Move) (turn : OwnMove) → told move ≡ Turn turn → row_of move ≡ row_of_turn turn
row_told (DoScalar purpose trap rest) turn is = let same : turns.Scalar ≡ turn = cc in ap row_of_turn same
row_told (DoClose rest) turn is = let same : turns.Scalar ≡ turn = cc in ap row_of_turn same
row_told (DoDrain purpose trap rest) turn is = let same : turns.Drain ≡ turn = cc in ap row_of_turn same
row_told (DoDispatch b rest) turn is = let same : turns.Dispatch ≡ turn = cc in ap row_of_turn same
row_told DoHalt turn is = let same : turns.Halt ≡ turn = cc in ap row_of_turn same
row_told (DoTake ticket queue) turn is = let same : turns.Take ≡ turn = cc in ap row_of_turn same
row_told (DoPass k w left piece) turn is = let same : turns.Pass ≡ turn = cc in ap row_of_turn same
row_told (DoRead k w next) turn is = absurd (cc)
row_told (DoWrite k w value next) turn is = absurd (cc)
row_told (DoGo k next) turn is = absurd (cc)
row_told (DoFinish k) turn is = absurd (cc)
row_told (DoTrap k cause line) turn is = absurd (cc)
row_told (DoDropHeld k) turn is = let same : turns.DropHeld ≡ turn = cc in ap row_of_turn same
row_told (DoDropQueued ticket queue) turn is = let same : turns.DropQueued ≡ turn = cc in ap row_of_turn same
row_told DoEnd turn is = let same : turns.End ≡ turn = cc in ap row_of_turn same

row_of_work : (e : Engine) (actor : ℕ) (move : Move) → move_of e actor ≡ Some move → (t : Told) → told move ≡ t → IsRowOf (work_of_move t (hand_at e actor)) (row_of move)
row_of_work e actor move is (Turn turn) t = subst (λ r. asked_as r ≡ row_of_turn turn) (sym (row_told move turn t)) (turn_row turn)
row_of_work e actor move is Hop t =
    let there = hop_of e actor move is t in
    let sizes = sizes_of (arrays_of e.job.program.decls) in
    subst (λ (h : Hand Piece). IsRowOf (work_of_move Hop h) (row_of move)) (sym there.hand)
    (subst (λ (m : Move). IsRowAt (reached there.piece).stop (row_of m)) (sym there.made) (stop_row_is sizes e.code (reached there.piece).frame there.number (setup_in e) (reached there.piece).stop))

names_move : (e : Engine) (actor : ℕ) (over : Bool) (o : Option Move) → move_of e actor ≡ o → (work : Work) → answer over (hand_at e actor) (option_map told o) ≡ Ready work → IsRowOf work (option_map_or (made_of e) o (record { row = board.End; number = 0 })).row
names_move e actor over (Some move) is work ready = let same : work_of_move (told move) (hand_at e actor) ≡ work = cc in subst (λ w. IsRowOf w (row_of move)) same (row_of_work e actor move is (told move) refl)
names_move e actor true None is work ready = absurd (cc)
names_move e actor false None is work ready = absurd (cc)

pub names : (e : Engine) (actor : ℕ) (work : Work) → asked e actor ≡ Ready work → IsRowOf work (made_by e actor).row
names e actor work is = names_move e actor (has_ended e actor) (move_of e actor) refl work is
