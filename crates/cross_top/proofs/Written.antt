-- How a call ends, by its status.
use Rattle.std.proofs.Common.{◌≡◌, ◌≢◌, ℕ, ◌<◌, ℤ, Bool, true, false, List, [], codes, length, Option, Some, None, Result, Ok, Err, refl, sym, subst, ◌∙◌}
use Rattle.std.specs.Io.KnownBytes.{Keeps, Appends}
use Rattle.nest_io.specs.Stream.{AppendsPart}
use Rattle.nest_syntax.specs.Outcome.{Ending, Done, TrappedAt, ending}
use Rattle.nest_syntax.specs.declared.tree.Program.{Program}
use Rattle.cross_top.specs.declared.status.Status.{Status}
use Rattle.cross_top.specs.declared.status.Status.TheVariants as status
use Rattle.cross_words.specs.declared.call.Action.{Action}
use Rattle.cross_words.specs.declared.call.Action.TheVariants.{Plain, Check, Deps, Alone, Replay, Profile, Gen, Big, Run}
use Rattle.cross_words.specs.declared.call.Call.{Call}
use Rattle.word_store.specs.Memory.{Memory}
use Rattle.nest_input.specs.declared.refused.Refusal.{Refusal}
use Rattle.nest_mean.specs.Nest.{Nest}
use Rattle.progress_board.specs.declared.facts.Facts.{Facts}
use Rattle.nest_mean.specs.declared.outcomes.Outcome.{Outcome}
use Rattle.nest_mean.specs.declared.outcomes.Outcome.TheVariants as outcomes
use Rattle.nest_mean.specs.Outcomes.{outcome}
use Rattle.cross_top.specs.Answers.{Answer, refusal, refused_answer, printed, told, job_of, plain_answer, check_answer, deps_answer, gen_answer, is_gen, AnswersPlain, AnswersAlone, AnswersThreads, AnswersWords, AnswersProgram, AnswersNest, AnswersInput, too_long, a_text, AnswersCall, word_refused, step_refused, AnswersRun, AnswersSteps, ran, not_enabled, AnswersActors, AnswersReplay, AnswersProfile, profile_answer}
use Rattle.cross_top.specs.Words.{AskToRead}
use Rattle.cross_top.specs.Ends.{SourceChange, IsDue, IsDueTo, IsAnsweredFrom, EndsWith, Ends}

-- what is untold or told is kept where nothing happens
pub kept : (bytes : Option (List ℕ)) → Keeps bytes bytes
kept None = tt
kept (Some bytes) = refl

-- the statuses of an answer
abbrev pub IsAnswering : Status → Type 0
IsAnswering status.Done = Unit {0}
IsAnswering status.Trapped = Unit {0}
IsAnswering status.WordsRefused = Unit {0}
IsAnswering status.TextRefused = Unit {0}
IsAnswering status.ReadFault = ⊥
IsAnswering status.WriteFault = ⊥
IsAnswering status.NoMemory = ⊥

printed_answers : (program : Program) (e : Ending) → IsAnswering (printed program e).status
printed_answers program (Done words) = tt
printed_answers program (TrappedAt place) = tt

told_answers : (call : Call) (program : Program) (facts : Facts) (history : List ℕ) (o : Outcome) → IsAnswering (told call program facts history o).status
told_answers call program facts history (outcomes.Done memory) = tt
told_answers call program facts history (outcomes.Trapped place) = tt

-- the status of an answer that is this one
is_answering : (answer due : Answer) → answer ≡ due → IsAnswering due.status → IsAnswering answer.status
is_answering answer due is answers = subst (λ (a : Answer). IsAnswering a.status) (sym is) answers

plain_answers : (program : Program) (words : List ℤ) (answer : Answer) → AnswersPlain program words answer → IsAnswering answer.status
plain_answers program words answer is = is_answering answer (plain_answer program words) is (printed_answers program (ending program words))

run_answers : (Runs : List ℕ → Facts → Type 0) (call : Call) (job : Nest) (answer : Answer) → AnswersRun Runs call job answer → IsAnswering answer.status
run_answers Runs call job answer run = is_answering answer (told call job.program run.facts run.history (outcome job)) run.is (told_answers call job.program run.facts run.history (outcome job))

alone_answers : (call : Call) (program : Program) (words : List ℤ) (answer : Answer) → AnswersAlone call program words answer → IsAnswering answer.status
alone_answers call program words answer run = run_answers _ call (job_of program words) answer run

actors_answers : (call : Call) (job : Nest) (said : Result (List ℕ) ℕ) (answer : Answer) → AnswersActors call job said answer → IsAnswering answer.status
actors_answers call job (Ok steps) answer (ran run) = run_answers _ call job answer run
actors_answers call job (Ok steps) answer (not_enabled n refuses is) = is_answering answer (step_refused n) is tt
actors_answers call job (Err n) answer is = is_answering answer (word_refused n) is tt

replay_answers : (call : Call) (input : List ℕ) (program : Program) (words : List ℤ) (answer : Answer) → AnswersReplay call input program words answer → IsAnswering answer.status
replay_answers call input program words answer is = actors_answers call (job_of program words) is.said answer is.answers

threads_answers : (call : Call) (program : Program) (words : List ℤ) (answer : Answer) → AnswersThreads call program words answer → IsAnswering answer.status
threads_answers call program words answer run = run_answers _ call (job_of program words) answer run

profile_answers : (call : Call) (program : Program) (words : List ℤ) (answer : Answer) → AnswersProfile call program words answer → IsAnswering answer.status
profile_answers call program words answer told = is_answering answer (profile_answer told.least) told.is tt

words_answers : (Acts : List ℤ → Answer → Type 0) → ((words : List ℤ) (answer : Answer) → Acts words answer → IsAnswering answer.status) → (said : Result Memory Refusal) (answer : Answer) → AnswersWords Acts said answer → IsAnswering answer.status
words_answers Acts acts (Ok memory) answer is = acts memory.words answer is
words_answers Acts acts (Err why) answer is = is_answering answer (refused_answer why) is tt

program_answers : (action : Action) (call : Call) (input : List ℕ) (program : Program) (answer : Answer) → AnswersProgram action call input program answer → IsAnswering answer.status
program_answers Plain call input program answer is = words_answers (AnswersPlain program) (plain_answers program) is.said answer is.answers
program_answers Check call input program answer is = is_answering answer (check_answer program) is tt
program_answers Deps call input program answer is = is_answering answer (deps_answer program) is tt
program_answers Alone call input program answer is = words_answers (AnswersAlone call program) (alone_answers call program) is.said answer is.answers
program_answers Big call input program answer is = words_answers (AnswersAlone call program) (alone_answers call program) is.said answer is.answers
program_answers Gen call input program answer is = absurd is
program_answers Replay call input program answer is = words_answers (AnswersReplay call input program) (replay_answers call input program) is.said answer is.answers
program_answers Profile call input program answer is = words_answers (AnswersProfile call program) (profile_answers call program) is.said answer is.answers
program_answers Run call input program answer is = words_answers (AnswersThreads call program) (threads_answers call program) is.said answer is.answers

nest_answers : (call : Call) (input : List ℕ) (said : Result Program Refusal) (answer : Answer) → AnswersNest call input said answer → IsAnswering answer.status
nest_answers call input (Ok program) answer is = program_answers call.action call input program answer is
nest_answers call input (Err why) answer is = is_answering answer (refused_answer why) is tt

input_answers : (call : Call) (input : List ℕ) (answer : Answer) → AnswersInput call input answer → IsAnswering answer.status
input_answers call input answer (too_long long is) = is_answering answer (refusal status.TextRefused (codes "too long")) is tt
input_answers call input answer (a_text few said says is) = nest_answers call input said answer is

call_answers : (generates : Bool) (call : Call) (input : List ℕ) (answer : Answer) → AnswersCall generates call input answer → IsAnswering answer.status
call_answers true call input answer is = is_answering answer (gen_answer input) is tt
call_answers false call input answer is = input_answers call input answer is

due_answers : (asked : Option Call) (source : SourceChange) (answer : Answer) → IsDueTo asked source answer → IsAnswering answer.status
due_answers None source answer due = is_answering answer (refusal status.WordsRefused (codes "words")) due.1 tt
due_answers (Some call) source answer due = call_answers (is_gen call.action) call due.0 answer due.2

-- of answers that are due, each of which has the status of an answer
module _ (Due : Answer → Type 0) (answering : (answer : Answer) → Due answer → IsAnswering answer.status) where
  -- none is cut by itself
  is_whole : (answer : Answer) → Due answer → answer.status ≢ status.WriteFault
  is_whole answer due cut = subst IsAnswering cut (answering answer due)

  -- none is ended as a failed read
  is_read : (sink sink' : Option (List ℕ)) (answer : Answer) (s : Status) → Due answer → (s ≢ status.WriteFault → (s ≡ answer.status) × Appends sink sink' answer.bytes) → s ≡ status.ReadFault → ⊥
  is_read sink sink' answer s due written read =
      let w = written (λ e. let no : status.ReadFault ≡ status.WriteFault = sym read ∙ e in cc) in
      subst IsAnswering (sym w.0 ∙ read) (answering answer due)

  -- written, or cut
  ends_with : (Reads : Type 0) (sink sink' : Option (List ℕ)) (HasRoom : ℕ → Type 0) (answer : Answer) (s : Status) → Due answer
      → (s ≢ status.WriteFault → (s ≡ answer.status) × Appends sink sink' answer.bytes)
      → (s ≡ status.WriteFault → answer.status ≢ status.WriteFault → AppendsPart sink sink' answer.bytes × ((room : ℕ) → HasRoom room → room < length answer.bytes))
      → EndsWith Due Reads sink sink' HasRoom s answer.history
  ends_with Reads sink sink' HasRoom answer status.Done due written cut = let w = written (λ e. cc) in (answer, due, sym w.0, refl, w.1)
  ends_with Reads sink sink' HasRoom answer status.Trapped due written cut = let w = written (λ e. cc) in (answer, due, sym w.0, refl, w.1)
  ends_with Reads sink sink' HasRoom answer status.WordsRefused due written cut = let w = written (λ e. cc) in (answer, due, sym w.0, refl, w.1)
  ends_with Reads sink sink' HasRoom answer status.TextRefused due written cut = let w = written (λ e. cc) in (answer, due, sym w.0, refl, w.1)
  ends_with Reads sink sink' HasRoom answer status.ReadFault due written cut = absurd (subst IsAnswering (sym (written (λ e. cc)).0) (answering answer due))
  ends_with Reads sink sink' HasRoom answer status.NoMemory due written cut = absurd (subst IsAnswering (sym (written (λ e. cc)).0) (answering answer due))
  ends_with Reads sink sink' HasRoom answer status.WriteFault due written cut = let c = cut refl (is_whole answer due) in (answer, due, refl, c.0, c.1)

-- of a call that waits for nobody
module _ (words : List (List ℕ)) (source : SourceChange) where
  words_due : (answer : Answer) → IsDue words source answer → IsAnswering answer.status
  words_due answer due = due_answers due.0 source answer due.2

  pub due_is_whole : (answer : Answer) → IsDue words source answer → answer.status ≢ status.WriteFault
  due_is_whole = is_whole (IsDue words source) words_due

  pub never_read : (sink sink' : Option (List ℕ)) (answer : Answer) (s : Status) → IsDue words source answer → (s ≢ status.WriteFault → (s ≡ answer.status) × Appends sink sink' answer.bytes) → s ≡ status.ReadFault → ⊥
  never_read = is_read (IsDue words source) words_due

  pub ends_written : (sink sink' : Option (List ℕ)) (HasRoom : ℕ → Type 0) (answer : Answer) (s : Status) → IsDue words source answer
      → (s ≢ status.WriteFault → (s ≡ answer.status) × Appends sink sink' answer.bytes)
      → (s ≡ status.WriteFault → answer.status ≢ status.WriteFault → AppendsPart sink sink' answer.bytes × ((room : ℕ) → HasRoom room → room < length answer.bytes))
      → Ends words source sink sink' HasRoom s answer.history
  ends_written = ends_with (IsDue words source) words_due (AskToRead words)

  -- one that ends at a fault of reading
  pub ends_unread : (sink : Option (List ℕ)) (HasRoom : ℕ → Type 0) (s : Status) (history : List ℕ) → s ≡ status.ReadFault → history ≡ [] → AskToRead words → Ends words source sink sink HasRoom s history
  ends_unread sink HasRoom s history is none asks = subst (λ (x : Status). Ends words source sink sink HasRoom x history) (sym is) (asks, kept sink, none)

-- of one by threads
module _ (call : Call) (source : SourceChange) where
  taken_due : (answer : Answer) → IsAnsweredFrom call source answer → IsAnswering answer.status
  taken_due answer due = input_answers call due.0 answer due.2

  pub run_is_whole : (answer : Answer) → IsAnsweredFrom call source answer → answer.status ≢ status.WriteFault
  run_is_whole = is_whole (IsAnsweredFrom call source) taken_due

  pub run_never_read : (sink sink' : Option (List ℕ)) (answer : Answer) (s : Status) → IsAnsweredFrom call source answer → (s ≢ status.WriteFault → (s ≡ answer.status) × Appends sink sink' answer.bytes) → s ≡ status.ReadFault → ⊥
  run_never_read = is_read (IsAnsweredFrom call source) taken_due

  pub run_ends : (sink sink' : Option (List ℕ)) (HasRoom : ℕ → Type 0) (answer : Answer) (s : Status) → IsAnsweredFrom call source answer
      → (s ≢ status.WriteFault → (s ≡ answer.status) × Appends sink sink' answer.bytes)
      → (s ≡ status.WriteFault → answer.status ≢ status.WriteFault → AppendsPart sink sink' answer.bytes × ((room : ℕ) → HasRoom room → room < length answer.bytes))
      → EndsWith (IsAnsweredFrom call source) (Unit {0}) sink sink' HasRoom s answer.history
  run_ends = ends_with (IsAnsweredFrom call source) taken_due (Unit {0})

  pub run_ends_early : (sink : Option (List ℕ)) (HasRoom : ℕ → Type 0) (s : Status) (history : List ℕ) → s ≡ status.ReadFault → history ≡ [] → EndsWith (IsAnsweredFrom call source) (Unit {0}) sink sink HasRoom s history
  run_ends_early sink HasRoom s history is none = subst (λ (x : Status). EndsWith (IsAnsweredFrom call source) (Unit {0}) sink sink HasRoom x history) (sym is) (tt, kept sink, none)

  pub run_ends_full : (sink : Option (List ℕ)) (HasRoom : ℕ → Type 0) (s : Status) (history : List ℕ) → s ≡ status.NoMemory → history ≡ [] → EndsWith (IsAnsweredFrom call source) (Unit {0}) sink sink HasRoom s history
  run_ends_full sink HasRoom s history is none = subst (λ (x : Status). EndsWith (IsAnsweredFrom call source) (Unit {0}) sink sink HasRoom x history) (sym is) (kept sink, none)
