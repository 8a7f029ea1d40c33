-- What makes an answer due.
use Rattle.std.proofs.Common.{◌≡◌, ℕ, ◌+◌, ◌≤◌, ℤ, Bool, true, false, List, codes, length, Option, Some, None, Result, Ok, Err, IfOk, MatchResult, refl, sym, subst, ap, ◌∙◌, arith}
use Rattle.std.specs.Io.KnownBytes.{Keeps, Consumes}
use Rattle.nest_syntax.specs.declared.names.NoMemory.{NoMemory}
use Rattle.nest_syntax.specs.declared.tree.Program.{Program}
use Rattle.word_store.specs.Memory.{Memory, HasLayout}
use Rattle.nest_io.specs.declared.transfer.TheConstants.{MOST_BYTES}
use Rattle.nest_input.specs.declared.refused.Refusal.{Refusal}
use Rattle.nest_input.specs.Input.{SaysNest, SaysWords, SaysSteps}
use Rattle.nest_mean.specs.Nest.{Nest}
use Rattle.progress_board.specs.Options.{IsInRange}
use Rattle.cross_top.specs.declared.status.Status.TheVariants as status
use Rattle.cross_top.specs.declared.top.Unanswered.{Unanswered}
use Rattle.cross_words.specs.declared.call.Action.{Action}
use Rattle.cross_words.specs.declared.call.Action.TheVariants.{Plain, Check, Deps, Alone, Replay, Profile, Gen, Big, Run}
use Rattle.cross_words.specs.declared.call.Call.{Call}
use Rattle.nest_gen.specs.Generated.{generated}
use Rattle.cross_top.specs.Words.{Ask, AskToRead, reads_input}
use Rattle.cross_top.specs.Threads.{is_threaded, IsThreaded}
use Rattle.cross_top.specs.Answers.{Answer, refusal, refused_answer, job_of, AnswersData, AnswersProgram, AnswersInput, too_long, a_text, Answers, AnswersCall, AnswersThreads, TellsLeast, AnswersProfile, gen_answer, is_gen, word_refused, AnswersSteps, AnswersReplay}
use Rattle.cross_top.specs.Ends.{SourceChange, IsDue, IsDueTo, TakesInput, TakesWhere, IsAnsweredFrom}

-- the answer to a nest that is a program
pub program_answered : (r : Result Answer NoMemory) (call : Call) (input : List ℕ) (program : Program) → length input ≤ MOST_BYTES → SaysNest input (Ok program) → IfOk r (λ reply. AnswersProgram call.action call input program reply) → IfOk r (λ reply. AnswersInput call input reply)
program_answered (Ok reply) call input program few says h = a_text few (Ok program) says h
program_answered (Err e) call input program few says h = tt

-- and to any other
pub refusal_answered : (r : Result Answer NoMemory) (call : Call) (input : List ℕ) (why : Refusal) → length input ≤ MOST_BYTES → SaysNest input (Err why) → IfOk r (λ reply. reply ≡ refused_answer why) → IfOk r (λ reply. AnswersInput call input reply)
refusal_answered (Ok reply) call input why few says h = a_text few (Err why) says h
refusal_answered (Err e) call input why few says h = tt

-- the answer to the words of a program, from that to their job
pub words_answered : (Acts : Program → List ℤ → Answer → Type 0) (input : List ℕ) (program : Program) (memory : Memory) (nest : Nest) → nest ≡ record { program = program; opening = memory } → SaysWords input program (Ok memory) → (r : Result Answer NoMemory) → IfOk r (λ reply. Acts nest.program nest.opening.words reply) → IfOk r (λ reply. AnswersData (Acts program) input program reply)
words_answered Acts input program memory nest is says (Ok reply) h = record { said = Ok memory; says = says; answers = subst (λ (n : Nest). Acts n.program n.opening.words reply) is h }
words_answered Acts input program memory nest is says (Err e) h = tt

-- and to a faulty data line
pub fault_answered : (Acts : Program → List ℤ → Answer → Type 0) (input : List ℕ) (program : Program) (why : Refusal) → SaysWords input program (Err why) → (r : Result Answer NoMemory) → IfOk r (λ reply. reply ≡ refused_answer why) → IfOk r (λ reply. AnswersData (Acts program) input program reply)
fault_answered Acts input program why says (Ok reply) h = record { said = Err why; says = says; answers = h }
fault_answered Acts input program why says (Err e) h = tt

-- the answer of `profile` to a job, from that to its program and words
pub least_answered : (call : Call) (input : List ℕ) (program : Program) (memory : Memory) (nest : Nest) → nest ≡ record { program = program; opening = memory } → HasLayout memory program.decls → SaysWords input program (Ok memory)
    → (r : Result Answer NoMemory) → IfOk r (λ reply. TellsLeast call nest reply) → IfOk r (λ reply. AnswersData (AnswersProfile call program) input program reply)
least_answered call input program memory nest is sizes says (Ok reply) told = record {
  said = Ok memory;
  says = says;
  answers = subst (λ (n : Nest). TellsLeast call n reply) (is ∙ λ i. record { program = program; opening = record { sizes = sizes i; words = memory.words } }) told;
}
least_answered call input program memory nest is sizes says (Err e) told = tt

-- the answer of `replay`, to steps
pub actors_answered : (r : Result Answer NoMemory) (call : Call) (input : List ℕ) (job : Nest) (steps : List ℕ) → SaysSteps input call.options.workers (Ok steps)
    → IfOk r (λ reply. AnswersSteps call (job_of job.program job.opening.words) steps reply) → IfOk r (λ reply. AnswersReplay call input job.program job.opening.words reply)
actors_answered (Ok reply) call input job steps says h = record { said = Ok steps; says = says; answers = h }
actors_answered (Err e) call input job steps says h = tt

-- and to a step word that names no actor
pub stranger_answered : (r : Result Answer NoMemory) (call : Call) (input : List ℕ) (job : Nest) (n : ℕ) → SaysSteps input call.options.workers (Err n)
    → IfOk r (λ reply. reply ≡ word_refused n) → IfOk r (λ reply. AnswersReplay call input job.program job.opening.words reply)
stranger_answered (Ok reply) call input job n says h = record { said = Err n; says = says; answers = h }
stranger_answered (Err e) call input job n says h = tt

-- the answer to an input that was taken whole
pub taken_is_due : (s : Result Answer Unanswered) (r : Result Answer NoMemory) (call : Call) (source : SourceChange) (e : Unanswered) → MatchResult r (λ reply. s ≡ Ok reply) (λ _. s ≡ Err e) → (input : List ℕ) → IfOk r (λ reply. AnswersInput call input reply) → TakesInput source input → IfOk s (λ reply. IsAnsweredFrom call source reply)
taken_is_due s (Ok reply) call source e is input h takes = subst (λ t. IfOk t (λ a. IsAnsweredFrom call source a)) (sym is) (input, takes, h)
taken_is_due s (Err x) call source e is input h takes = subst (λ t. IfOk t (λ a. IsAnsweredFrom call source a)) (sym is) tt

-- the answer to an input that is too long
pub long_is_due : (s : Result Answer Unanswered) (r : Result Answer NoMemory) (call : Call) (source : SourceChange) (e : Unanswered) → MatchResult r (λ reply. s ≡ Ok reply) (λ _. s ≡ Err e) → IfOk r (λ reply. reply ≡ refusal status.TextRefused (codes "too long")) → (more : List ℕ) → length more ≡ MOST_BYTES + 1 → Consumes source.old source.new more → IfOk s (λ reply. IsAnsweredFrom call source reply)
long_is_due s (Ok reply) call source e is h more long taken = subst (λ t. IfOk t (λ a. IsAnsweredFrom call source a)) (sym is) (more, record { taken = taken; whole = λ few. absurd (omega (arith, long, few)) }, too_long (omega (arith, long)) h)
long_is_due s (Err x) call source e is h more long taken = subst (λ t. IfOk t (λ a. IsAnsweredFrom call source a)) (sym is) tt

-- an action that reads doesn't print what is generated
pub reads_no_gen : (action : Action) → reads_input action ≡ true → is_gen action ≡ false
reads_no_gen Plain reads = refl
reads_no_gen Check reads = refl
reads_no_gen Deps reads = refl
reads_no_gen Alone reads = refl
reads_no_gen Replay reads = refl
reads_no_gen Profile reads = refl
reads_no_gen Gen reads = sym reads
reads_no_gen Big reads = refl
reads_no_gen Run reads = refl

-- what is due to a call that reads an input
pub read_is_due : (s : Result Answer Unanswered) (call : Call) (source : SourceChange) → reads_input call.action ≡ true → IfOk s (λ reply. IsAnsweredFrom call source reply) → IfOk s (λ reply. IsDueTo (Some call) source reply)
read_is_due (Ok reply) call source reads from = (from.0, subst (λ b. TakesWhere b call source from.0) (sym reads) from.1, subst (λ b. AnswersCall b call from.0 reply) (sym (reads_no_gen call.action reads)) from.2)
read_is_due (Err e) call source reads from = tt

-- and to one that doesn't
pub unread_is_due : (s : Result Answer Unanswered) (r : Result Answer NoMemory) (call : Call) (source : SourceChange) (e : Unanswered) → MatchResult r (λ reply. s ≡ Ok reply) (λ _. s ≡ Err e) → reads_input call.action ≡ false → Keeps source.old source.new → IfOk r (λ reply. Answers call (generated call.seed call.size) reply) → IfOk s (λ reply. IsDueTo (Some call) source reply)
unread_is_due s (Ok reply) call source e is none keeps h = subst (λ t. IfOk t (λ a. IsDueTo (Some call) source a)) (sym is) (generated call.seed call.size, subst (λ b. TakesWhere b call source (generated call.seed call.size)) (sym none) (keeps, refl), h)
unread_is_due s (Err x) call source e is none keeps h = subst (λ t. IfOk t (λ a. IsDueTo (Some call) source a)) (sym is) tt

-- what is due to words, from what they ask for
pub asked_is_due : (s : Result Answer Unanswered) (words : List (List ℕ)) (asked : Option Call) (source : SourceChange) → Ask words asked → IfOk s (λ reply. IsDueTo asked source reply) → IfOk s (λ reply. IsDue words source reply)
asked_is_due (Ok reply) words asked source ask due = (asked, ask, due)
asked_is_due (Err e) words asked source ask due = tt

-- where they ask for nothing
pub unasked_is_due : (s : Result Answer Unanswered) (r : Result Answer NoMemory) (words : List (List ℕ)) (source : SourceChange) (e : Unanswered) → MatchResult r (λ reply. s ≡ Ok reply) (λ _. s ≡ Err e) → Ask words None → Keeps source.old source.new
    → IfOk r (λ reply. reply ≡ refusal status.WordsRefused (codes "words")) → IfOk s (λ reply. IsDue words source reply)
unasked_is_due s (Ok reply) words source e is ask keeps h = subst (λ t. IfOk t (λ a. IsDue words source a)) (sym is) (None, ask, (keeps, h))
unasked_is_due s (Err x) words source e is ask keeps h = subst (λ t. IfOk t (λ a. IsDue words source a)) (sym is) tt

unread_at : (words : List (List ℕ)) (call : Call) → Ask words (Some call) → (AskToRead words → ⊥) → (reads : Bool) → reads_input call.action ≡ reads → reads_input call.action ≡ false
unread_at words call ask none true is = absurd (none (call, ask, is))
unread_at words call ask none false is = is

-- words that ask for a call, and for none that reads, ask for one that doesn't
pub asks_unread : (words : List (List ℕ)) (call : Call) → Ask words (Some call) → (AskToRead words → ⊥) → reads_input call.action ≡ false
asks_unread words call ask none = unread_at words call ask none (reads_input call.action) refl

-- what is generated is printed
pub generated_printed : (reply : Answer) (call : Call) (input text : List ℕ) → text ≡ input → is_gen call.action ≡ true → reply ≡ gen_answer text → Answers call input reply
generated_printed reply call input text same printed is = subst (λ b. AnswersCall b call input reply) (sym printed) (is ∙ ap gen_answer same)

-- or answered as any input
pub generated_run : (r : Result Answer NoMemory) (call : Call) (input text : List ℕ) → text ≡ input → is_gen call.action ≡ false → IfOk r (λ reply. AnswersInput call text reply) → IfOk r (λ reply. Answers call input reply)
generated_run (Ok reply) call input text same none h = subst (λ b. AnswersCall b call input reply) (sym none) (subst (λ (i : List ℕ). AnswersInput call i reply) same h)
generated_run (Err e) call input text same none h = tt

-- what `run` answers to a program is what its call does
pub threads_answered : (r : Result Answer NoMemory) (call : Call) (input : List ℕ) (program : Program) → call.action ≡ Run → IfOk r (λ reply. AnswersData (AnswersThreads call program) input program reply) → IfOk r (λ reply. AnswersProgram call.action call input program reply)
threads_answered r call input program is h = subst (λ (a : Action). IfOk r (λ reply. AnswersProgram a call input program reply)) (sym is) h

threads_at : (action : Action) → is_threaded action ≡ true → action ≡ Run
threads_at Run is = refl
threads_at Plain is = cc
threads_at Check is = cc
threads_at Deps is = cc
threads_at Alone is = cc
threads_at Replay is = cc
threads_at Profile is = cc
threads_at Gen is = cc
threads_at Big is = cc

-- a call that is run by threads is that of `run`
pub runs_threads : (call : Call) → IsInRange call.options → is_threaded call.action ≡ true → IsThreaded call
runs_threads call allowed is = record { action = threads_at call.action is; in_range = allowed }
