-- The relay keeps the laws of a machine.
use Rattle.std.specs.Prelude.{◌≡◌, ◌↔◌, ℕ, ◌+◌, ◌<◌, ◌≤◌, ◌%◌, Bool, true, false, Option, None, Some, is_some, refl}
use Rattle.std.specs.Option.{option_map, option_map_or}
use Rattle.std.proofs.Common.{arith, ap, ◌∙◌, sym, subst, ⊎_elim}
use Rattle.std.proofs.lemmas.Bool.{cases_lt, cases_Bool}
use Rattle.std.proofs.lemmas.Bool.Decides.{nat_tests}
use Rattle.nest_mean.specs.Nest.{Nest, CanRun}
use Rattle.progress_board.specs.Options.{IsInRange}
use Rattle.progress_board.specs.Runs.{IsReached, IsLegal}
use Rattle.progress_board.specs.declared.options.Options.{Options}
use Rattle.progress_board.specs.declared.actors.Row.TheVariants.{End}
use Rattle.progress_board.specs.declared.actors.Work.{Work}
use Rattle.progress_board.specs.declared.actors.Work.TheVariants.{Hop}
use Rattle.task_frame.specs.declared.piece.Piece.{Piece}
use Rattle.progress_board.specs.declared.actors.Ask.TheVariants.{Ready, Ended}
use Rattle.progress_board.specs.declared.facts.Facts.{Facts}
use Rattle.progress_board.specs.Actors.{actors_of, is_ready, asked_as, IsRowOf, SomeEnabled, AllEnded}
use Rattle.progress_board.proofs.Runs.{reached_step, run_keeps}
use Rattle.progress_board.proofs.Turns.{names_turn, asks_turn}
use Rattle.toy_machine.specs.State.{State}
use Rattle.toy_machine.specs.Tokens.{Move, Hands, Halts, Takes, move_of, state_after, step, row_of, has_ended, answer, asked, made_of, made_by, is_finished, measure, opening, no_facts}
use Rattle.toy_machine.specs.Kept.{IsSound, IsKept}
use Rattle.toy_machine.specs.Guards.{Guard, moved, guarded}

-- a legal state is reached from the one opening state of its job and options
pub opened_reached : (s : State) → IsLegal (λ (t : State). t.job) (λ (t : State). t.options) (λ job options t. t ≡ opening job options) step s → IsReached step (opening s.job s.options) s
opened_reached s legal = subst (λ (t : State). IsReached step t s) legal.opened legal.reached

-- job and options stay
same_job : (s : State) (move : Move) → (state_after s move).job ≡ s.job
same_job s Hands = refl
same_job s Halts = refl
same_job s Takes = refl

same_options : (s : State) (move : Move) → (state_after s move).options ≡ s.options
same_options s Hands = refl
same_options s Halts = refl
same_options s Takes = refl

pub keeps_job : (s t : State) (actor : ℕ) → step s actor ≡ Some t → t.job ≡ s.job
keeps_job s t actor e = let m = moved s actor t e in ap (λ (u : State). u.job) (sym m.new) ∙ same_job s m.move

pub keeps_options : (s t : State) (actor : ℕ) → step s actor ≡ Some t → t.options ≡ s.options
keeps_options s t actor e = let m = moved s actor t e in ap (λ (u : State). u.options) (sym m.new) ∙ same_options s m.move

-- work is handed out exactly where there is a step
ready_answer : (s : State) (ended : Bool) (o : Option Move) → is_ready (answer ended o) ≡ is_some (option_map (state_after s) o)
ready_answer s ended (Some move) = refl
ready_answer s true None = refl
ready_answer s false None = refl

pub readies : (s : State) (actor : ℕ) → is_ready (asked s actor) ≡ is_some (step s actor)
readies s actor = ready_answer s (has_ended s actor) (move_of s actor)

-- nobody above the checker has one
none_above : (s : State) (actor : ℕ) → actors_of s.options ≤ actor → move_of s actor ≡ None
none_above s actor past = grind (arith, nat_tests)

pub actors : (s : State) (actor : ℕ) → actors_of s.options ≤ actor → step s actor ≡ None
actors s actor past = ap (option_map (state_after s)) (none_above s actor past)

-- the measure falls
falls_move : (s : State) (actor : ℕ) (move : Move) → Guard s actor move → measure (state_after s move) + 1 ≤ measure s
falls_move s actor Hands g = grind (arith, nat_tests)
falls_move s actor Halts g = rw (g.1) (omega arith)
falls_move s actor Takes g = grind (arith, nat_tests)

pub falls : (s t : State) (actor : ℕ) → step s actor ≡ Some t → measure t + 1 ≤ measure s
falls s t actor e = let m = moved s actor t e in subst (λ (u : State). measure u + 1 ≤ measure s) m.new (falls_move s actor m.move m.guard)

-- who has ended its part has no move
none_of_ended : (s : State) (actor : ℕ) → has_ended s actor ≡ true → move_of s actor ≡ None
none_of_ended s actor ended = grind (arith, nat_tests)

ended_is : (ended : Bool) (o : Option Move) → answer ended o ≡ Ended → ended ≡ true
ended_is ended (Some move) e = cc
ended_is true None e = refl
ended_is false None e = cc

ended_from : (ended : Bool) (o : Option Move) → ended ≡ true → o ≡ None → answer ended o ≡ Ended
ended_from ended o e none = rw (e, none) refl

pub is_ended : (s : State) (actor : ℕ) → has_ended s actor ≡ true → asked s actor ≡ Ended
is_ended s actor ended = ended_from (has_ended s actor) (move_of s actor) ended (none_of_ended s actor ended)

-- and stays so
stays_move : (s : State) (actor other : ℕ) (move : Move) → Guard s other move → has_ended s actor ≡ true → has_ended (state_after s move) actor ≡ true
stays_move s actor other Hands g ended = grind (arith, nat_tests)
stays_move s actor other Halts g ended = grind (arith, nat_tests)
stays_move s actor other Takes g ended = grind (arith, nat_tests)

pub stays : (s t : State) (actor other : ℕ) → asked s actor ≡ Ended → step s other ≡ Some t → asked t actor ≡ Ended
stays s t actor other ended e =
    let m = moved s other t e in
    subst (λ (u : State). asked u actor ≡ Ended) m.new
    (is_ended (state_after s m.move) actor (stays_move s actor other m.move m.guard (ended_is (has_ended s actor) (move_of s actor) ended)))

-- the machine is finished exactly where all have ended their parts
all_ended : (s : State) (actor : ℕ) → is_finished s ≡ true → has_ended s actor ≡ true
all_ended s actor finished = grind (arith, nat_tests)

finished_from : (s : State) → 1 ≤ s.options.workers → has_ended s 0 ≡ true → is_finished s ≡ true
finished_from s some ended = grind (arith, nat_tests)

pub finishes : (s : State) → 1 ≤ s.options.workers → (is_finished s ≡ true) ↔ AllEnded asked s (actors_of s.options)
finishes s some = (
  λ finished. λ actor below. is_ended s actor (all_ended s actor finished),
  λ all. finished_from s some (ended_is (has_ended s 0) (move_of s 0) (all 0 (omega arith))),
)

-- a machine that isn't finished has a step
some_of : (s : State) (o : Option Move) (move : Move) → o ≡ Some move → is_some (option_map (state_after s) o) ≡ true
some_of s o move e = rw e refl

hands_on : (s : State) → s.halted ≡ false → s.handed < s.options.queue → move_of s s.options.workers ≡ Some Hands
hands_on s going more = grind (arith, nat_tests)

halts_at_last : (s : State) → s.halted ≡ false → s.options.queue ≤ s.handed → move_of s s.options.workers ≡ Some Halts
halts_at_last s going none = grind (arith, nat_tests)

takes_next : (s : State) → 1 ≤ s.options.workers → s.taken < s.handed → move_of s (s.taken % s.options.workers) ≡ Some Takes
takes_next s some left = let own : s.taken % s.options.workers < s.options.workers = omega arith in grind (arith, nat_tests)

scheduler_can : (s : State) → s.halted ≡ false → SomeEnabled step s (actors_of s.options)
scheduler_can s going = record {
  actor = s.options.workers;
  below = omega arith;
  enabled = ⊎_elim
      (λ (more : s.handed < s.options.queue). some_of s (move_of s s.options.workers) Hands (hands_on s going more))
      (λ (none : s.options.queue ≤ s.handed). some_of s (move_of s s.options.workers) Halts (halts_at_last s going none))
      (cases_lt s.handed s.options.queue);
}

worker_can : (s : State) → 1 ≤ s.options.workers → s.taken < s.handed → SomeEnabled step s (actors_of s.options)
worker_can s some left = record {
  actor = s.taken % s.options.workers;
  below = omega arith;
  enabled = some_of s (move_of s (s.taken % s.options.workers)) Takes (takes_next s some left);
}

left_over : (s : State) → s.taken ≤ s.handed → s.halted ≡ true → is_finished s ≡ false → s.taken < s.handed
left_over s order halted unfinished = grind (arith, nat_tests)

-- what the relay keeps
sound_move : (s : State) (actor : ℕ) (move : Move) → Guard s actor move → IsSound s → IsSound (state_after s move)
sound_move s actor Hands g sound = record { taken = omega arith; handed = omega arith; halted = λ e. absurd (cc) }
sound_move s actor Halts g sound = record { taken = sound.taken; handed = sound.handed; halted = λ e. omega arith }
sound_move s actor Takes g sound = record { taken = omega arith; handed = sound.handed; halted = sound.halted }

sound_step : (s t : State) (actor : ℕ) → IsSound s → step s actor ≡ Some t → IsSound t
sound_step s t actor sound e = let m = moved s actor t e in subst IsSound m.new (sound_move s actor m.move m.guard sound)

sound_reached : (s : State) → IsReached step (opening s.job s.options) s → IsSound s
sound_reached s reached = run_keeps step IsSound sound_step (opening s.job s.options) s reached.history (record { taken = omega arith; handed = omega arith; halted = λ e. absurd (cc) }) reached.ran

pub progress : (s : State) → 1 ≤ s.options.workers → IsReached step (opening s.job s.options) s → is_finished s ≡ false → SomeEnabled step s (actors_of s.options)
progress s some reached unfinished = ⊎_elim
    (λ (halted : s.halted ≡ true). worker_can s some (left_over s (sound_reached s reached).taken halted unfinished))
    (λ (going : s.halted ≡ false). scheduler_can s going)
    (cases_Bool s.halted)

pub kept_move : (s : State) (actor : ℕ) (move : Move) (facts : Facts) → move_of s actor ≡ Some move → IsKept s facts → IsKept (state_after s move) facts
kept_move s actor move facts e kept = record {
  runs = subst CanRun (sym (same_job s move)) kept.runs;
  allowed = subst IsInRange (sym (same_options s move)) kept.allowed;
  sound = sound_move s actor move (guarded s actor move e) kept.sound;
  reached =
      let opened : opening s.job s.options ≡ opening (state_after s move).job (state_after s move).options =
      ap (λ (j : Nest). opening j s.options) (sym (same_job s move)) ∙ ap (λ (o : Options). opening (state_after s move).job o) (sym (same_options s move)) in
      subst (λ (v : State). IsReached step v (state_after s move)) opened
      (reached_step step (opening s.job s.options) s (state_after s move) actor kept.reached (rw e refl));
  counted = kept.counted ∙ ap no_facts (sym (same_options s move));
}

-- what is made is the row that was asked for
asked_row : (row : Move) → asked_as (row_of row) ≡ row_of row
asked_row Hands = refl
asked_row Halts = refl
asked_row Takes = refl

pub names : (s : State) (actor : ℕ) (work : Work) → asked s actor ≡ Ready work → IsRowOf work (made_by s actor).row
names s actor work e = names_turn row_of (made_of s) (record { row = End; number = 0 }) asked_row (has_ended s actor) (move_of s actor) work e

pub asks_no_piece : (s : State) (actor : ℕ) (piece : Piece) → asked s actor ≡ Ready (Hop piece) → ⊥
asks_no_piece s actor piece e = asks_turn row_of (has_ended s actor) (move_of s actor) piece e
