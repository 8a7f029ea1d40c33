-- What an action answers: the status that it ends with and the bytes that it prints.
use Rattle.std.specs.Prelude.{◌≡◌, ◌↔◌, ◌⊎◌, ℕ, ◌≤◌, ◌<◌, ℤ, Bool, true, false, if◌then◌else◌, Option, Result, Ok, Err, List, [], ◌∷◌, ◌++◌, codes, decimal, length}
use Rattle.nest_syntax.specs.declared.tree.Program.{Program}
use Rattle.nest_syntax.specs.Arrays.{arrays_of, sizes_of}
use Rattle.nest_syntax.specs.Outcome.{Ending, Done, TrappedAt, ending}
use Rattle.word_store.specs.Memory.{Memory}
use Rattle.nest_io.specs.declared.transfer.TheConstants.{MOST_BYTES}
use Rattle.nest_input.specs.declared.refused.Refusal.{Refusal}
use Rattle.nest_input.specs.Input.{SaysNest, SaysWords, SaysSteps}
use Rattle.nest_print.specs.Canonical.{canonical_text}
use Rattle.nest_data.specs.Sum.{written_words, sum_of}
use Rattle.nest_data.specs.Text.{array_lines}
use Rattle.nest_report.specs.Text.{trap_line, least_line}
use Rattle.nest_report.specs.Deps.{deps_text}
use Rattle.nest_report.specs.Steps.{steps_text}
use Rattle.cross_top.specs.declared.status.Status.{Status}
use Rattle.cross_top.specs.declared.status.Status.TheVariants as status
use Rattle.cross_words.specs.declared.call.Action.{Action}
use Rattle.cross_words.specs.declared.call.Action.TheVariants.{Plain, Check, Deps, Alone, Replay, Profile, Gen, Big, Run}
use Rattle.cross_words.specs.declared.call.Call.{Call}
use Rattle.nest_mean.specs.Nest.{Nest}
use Rattle.nest_mean.specs.Outcomes.{outcome}
use Rattle.nest_mean.specs.declared.outcomes.Outcome.{Outcome}
use Rattle.nest_mean.specs.declared.outcomes.Outcome.TheVariants as outcomes
use Rattle.nest_profile.specs.Least.{IsLeast}
use Rattle.nest_runtime.specs.Opened.{IsSpeculative}
use Rattle.nest_runtime.specs.Jobs.{RunsJob, RunsAlone, RunsStrict, RefusesStep}
use Rattle.progress_board.specs.declared.facts.Facts.{Facts}
use Rattle.nest_report.specs.Report.{report_text, summary_text}
use Rattle.cross_top.specs.Refusals.{reason_text}

-- the status, the bytes, and the steps that an engine made
pub record Answer : Type 0 where
  pub status : Status
  pub bytes : List ℕ
  pub history : List ℕ

-- the line of a refusal
abbrev pub refusal : Status → List ℕ → Answer
refusal status reason = record { status = status; bytes = codes "refused: " ++ reason ++ 10 ∷ []; history = [] }

-- the outcome of a program as it is printed: the final arrays, or the trap
abbrev pub printed : Program → Ending → Answer
printed program (Done words) = record { status = status.Done; bytes = array_lines program.names (record { sizes = sizes_of (arrays_of program.decls); words = words }) 0 program.decls; history = [] }
printed program (TrappedAt place) = record { status = status.Trapped; bytes = trap_line place; history = [] }

-- a program on its opening words, as a job
abbrev pub job_of : Program → List ℤ → Nest
job_of program words = record { program = program; opening = record { sizes = sizes_of (arrays_of program.decls); words = words } }

-- whether an action tells of a run its sum alone, and no steps
abbrev pub is_summary : Action → Bool
is_summary Big = true
is_summary _ = false

-- what is told of final words with an engine's facts: the arrays and the report, or the summary
abbrev pub done_text : Call → Program → Memory → Facts → List ℕ
done_text call program memory facts =
    if is_summary call.action then summary_text call.seed call.size facts (sum_of (written_words memory 0 program.decls))
    else array_lines program.names memory 0 program.decls ++ report_text program facts

-- the steps that are told: all, but of a summary none
abbrev pub told_steps : Call → List ℕ → List ℕ
told_steps call history = if is_summary call.action then [] else history

-- and their text, where the words ask for it
abbrev pub steps_part : Call → List ℕ → List ℕ
steps_part call history = if is_summary call.action then [] else (if call.with_steps then steps_text history else [])

-- a run that ended so, with this text and these steps
abbrev pub ended : Call → Status → List ℕ → List ℕ → Answer
ended call status text history = record { status = status; bytes = text ++ steps_part call history; history = told_steps call history }

-- what is told of a run that ended so, with its facts and its steps
abbrev pub told : Call → Program → Facts → List ℕ → Outcome → Answer
told call program facts history (outcomes.Done memory) = ended call status.Done (done_text call program memory facts) history
told call program facts history (outcomes.Trapped place) = ended call status.Trapped (trap_line place) history

-- The answer of a run of a job: with some steps and facts it runs so, and what is told is the outcome of textual order, with
-- these facts.
pub record AnswersRun (Runs : List ℕ → Facts → Type 0) (call : Call) (job : Nest) (answer : Answer) : Type 0 where
  pub history : List ℕ
  pub facts : Facts
  pub runs : Runs history facts
  pub is : answer ≡ told call job.program facts history (outcome job)

-- what `plain` answers to a program on these opening words: the outcome of textual order
abbrev pub plain_answer : Program → List ℤ → Answer
plain_answer program words = printed program (ending program words)

-- what `check` answers to a program: its canonical text
abbrev pub check_answer : Program → Answer
check_answer program = record { status = status.Done; bytes = canonical_text program; history = [] }

-- what `deps` answers to a program: the kind of each loop that invokes a body
abbrev pub deps_answer : Program → Answer
deps_answer program = record { status = status.Done; bytes = deps_text program; history = [] }

-- what `gen` answers: the text that is generated
abbrev pub gen_answer : List ℕ → Answer
gen_answer text = record { status = status.Done; bytes = text; history = [] }

-- what `profile` answers: the line of a least distance
abbrev pub profile_answer : Option ℕ → Answer
profile_answer least = record { status = status.Done; bytes = least_line least; history = [] }

-- the answer to an input that is refused
abbrev pub refused_answer : Refusal → Answer
refused_answer why = refusal status.TextRefused (reason_text why)

-- the answer to a step word that names no actor, and to a step that isn't enabled in its turn, by their numbers from 0
abbrev pub word_refused : ℕ → Answer
word_refused n = refusal status.TextRefused (codes "step word " ++ decimal n)

abbrev pub step_refused : ℕ → Answer
step_refused n = refusal status.TextRefused (codes "step " ++ decimal n)

-- `plain` runs every program
abbrev pub AnswersPlain : Program → List ℤ → Answer → Type 0
AnswersPlain program words answer = answer ≡ plain_answer program words

-- so do `alone` and `big`, by an engine and the rotation
abbrev pub AnswersAlone : Call → Program → List ℤ → Answer → Type 0
AnswersAlone call program words answer = AnswersRun (RunsAlone (job_of program words) call.options []) call (job_of program words) answer

-- so does `run`, by an engine whose actors have threads, in some order
abbrev pub AnswersThreads : Call → Program → List ℤ → Answer → Type 0
AnswersThreads call program words answer = AnswersRun (RunsJob (job_of program words) call.options) call (job_of program words) answer

-- What `replay` answers to a job and the actors of the given steps: a run by these steps and then the rotation, or the first
-- of them that isn't enabled.
pub data AnswersSteps (call : Call) (job : Nest) (steps : List ℕ) (answer : Answer) : Type 0 where
  ran : AnswersRun (RunsStrict job call.options steps) call job answer → AnswersSteps call job steps answer
  not_enabled : (n : ℕ) → RefusesStep job call.options steps n → answer ≡ step_refused n → AnswersSteps call job steps answer

-- to a job and what the step words say
abbrev pub AnswersActors : Call → Nest → Result (List ℕ) ℕ → Answer → Type 0
AnswersActors call job (Ok steps) answer = AnswersSteps call job steps answer
AnswersActors call job (Err n) answer = answer ≡ word_refused n

-- and to a program, for the step words of an input
pub record AnswersReplay (call : Call) (input : List ℕ) (program : Program) (words : List ℤ) (answer : Answer) : Type 0 where
  pub said : Result (List ℕ) ℕ
  pub says : SaysSteps input call.options.workers said
  pub answers : AnswersActors call (job_of program words) said answer

-- `profile` tells the least distance of a job
pub record TellsLeast (call : Call) (job : Nest) (answer : Answer) : Type 0 where
  pub least : Option ℕ
  pub is_least : IsLeast job call.options least
  pub is : answer ≡ profile_answer least

abbrev pub AnswersProfile : Call → Program → List ℤ → Answer → Type 0
AnswersProfile call program words answer = TellsLeast call (job_of program words) answer

-- what is answered to what the data lines say, by an action that answers so to the words of a program
abbrev pub AnswersWords : (List ℤ → Answer → Type 0) → Result Memory Refusal → Answer → Type 0
AnswersWords Acts (Err why) answer = answer ≡ refused_answer why
AnswersWords Acts (Ok memory) answer = Acts memory.words answer

-- the same, of an input and its program
pub record AnswersData (Acts : List ℤ → Answer → Type 0) (input : List ℕ) (program : Program) (answer : Answer) : Type 0 where
  pub said : Result Memory Refusal
  pub says : SaysWords input program said
  pub answers : AnswersWords Acts said answer

-- What an action answers to an input with this program. `check` and `deps` don't look at the data lines, and `gen` reads
-- none.
abbrev pub AnswersProgram : Action → Call → List ℕ → Program → Answer → Type 0
AnswersProgram Plain call input program answer = AnswersData (AnswersPlain program) input program answer
AnswersProgram Check call input program answer = answer ≡ check_answer program
AnswersProgram Deps call input program answer = answer ≡ deps_answer program
AnswersProgram Alone call input program answer = AnswersData (AnswersAlone call program) input program answer
AnswersProgram Big call input program answer = AnswersData (AnswersAlone call program) input program answer
AnswersProgram Gen call input program answer = ⊥
AnswersProgram Replay call input program answer = AnswersData (AnswersReplay call input program) input program answer
AnswersProgram Profile call input program answer = AnswersData (AnswersProfile call program) input program answer
AnswersProgram Run call input program answer = AnswersData (AnswersThreads call program) input program answer

-- what a call answers to what the nest of an input says
abbrev pub AnswersNest : Call → List ℕ → Result Program Refusal → Answer → Type 0
AnswersNest call input (Err why) answer = answer ≡ refused_answer why
AnswersNest call input (Ok program) answer = AnswersProgram call.action call input program answer

-- what a call answers to an input: that it is too long, or what it answers to what its nest says
pub data AnswersInput (call : Call) (input : List ℕ) (answer : Answer) : Type 0 where
  too_long : MOST_BYTES < length input → answer ≡ refusal status.TextRefused (codes "too long") → AnswersInput call input answer
  a_text : length input ≤ MOST_BYTES → (said : Result Program Refusal) → SaysNest input said → AnswersNest call input said answer → AnswersInput call input answer

-- What a call answers to its input, which is what was read, or for an action that reads nothing what is generated: `gen`
-- prints it, and each other action does what it does with an input.
abbrev pub AnswersCall : Bool → Call → List ℕ → Answer → Type 0
AnswersCall true call input answer = answer ≡ gen_answer input
AnswersCall false call input answer = AnswersInput call input answer

abbrev pub is_gen : Action → Bool
is_gen Gen = true
is_gen _ = false

abbrev pub Answers : Call → List ℕ → Answer → Type 0
Answers call input answer = AnswersCall (is_gen call.action) call input answer

-- two answers refuse the same step, or none of them refuses one
abbrev pub RefuseSameStep : Answer → Answer → Type 0
RefuseSameStep answer other = (n : ℕ) → (answer ≡ step_refused n) ↔ (other ≡ step_refused n)

-- two answers tell the same final words and steps, and may differ in the facts
pub record DifferInFacts (call : Call) (answer other : Answer) : Type 0 where
  pub program : Program
  pub memory : Memory
  pub history : List ℕ
  pub facts : Facts
  pub others : Facts
  pub is : answer ≡ told call program facts history (outcomes.Done memory)
  pub other_is : other ≡ told call program others history (outcomes.Done memory)

-- what input and steps leave open of two answers
abbrev pub AgreeApart : Action → Answer → Answer → Type 0
AgreeApart Replay answer other = RefuseSameStep answer other
AgreeApart _ answer other = Unit {0}

-- the actions that run an engine
abbrev pub runs_engine : Action → Bool
runs_engine Alone = true
runs_engine Replay = true
runs_engine Big = true
runs_engine Run = true
runs_engine _ = false

-- two answers are one; by an engine that passes barriers speculatively, but for the facts
abbrev pub AreOne : Action → Call → Answer → Answer → Type 0
AreOne action call answer other = (answer ≡ other) ⊎ ((runs_engine action ≡ true) × IsSpeculative call.options.engine × DifferInFacts call answer other)

-- With the same steps, an input has one answer. Which step `replay` refuses isn't settled by this: two answers have to agree
-- about it. Nor is what a speculative engine counts.
abbrev pub OneAnswer : Type 0
OneAnswer = (call : Call) (input : List ℕ) (answer other : Answer) → answer.history ≡ other.history → AgreeApart call.action answer other → Answers call input answer → Answers call input other → AreOne call.action call answer other
