-- How a call ends, over what its source tells of the bytes to come and its sink of the bytes written.
use Rattle.std.specs.Prelude.{◌≡◌, ℕ, ◌≤◌, ◌<◌, Bool, true, false, Option, Some, None, List, [], codes, length}
use Rattle.std.specs.Io.KnownBytes.{Keeps, Consumes, Appends, IsAtEnd}
use Rattle.nest_io.specs.Stream.{AppendsPart}
use Rattle.nest_io.specs.declared.transfer.TheConstants.{MOST_BYTES}
use Rattle.cross_top.specs.declared.status.Status.{Status}
use Rattle.cross_top.specs.declared.status.Status.TheVariants as status
use Rattle.cross_words.specs.declared.call.Call.{Call}
use Rattle.nest_gen.specs.Generated.{generated}
use Rattle.cross_top.specs.Words.{Ask, AskToRead, reads_input}
use Rattle.cross_top.specs.Answers.{Answer, refusal, Answers, AnswersInput}

-- What became of a source: what it tells of the bytes to come, before and behind, and whether its end was answered.
pub record SourceChange : Type 0 where
  pub old : Option (List ℕ)
  pub new : Option (List ℕ)
  pub ended : Bool

-- these bytes were taken: all that there were, or more than an input may have
pub record TakesInput (source : SourceChange) (input : List ℕ) : Type 0 where
  pub taken : Consumes source.old source.new input
  pub whole : length input ≤ MOST_BYTES → (source.ended ≡ true) × IsAtEnd source.new

-- what is the input of an action that reads one, and of one that doesn't: what its seed and size generate
abbrev pub TakesWhere : Bool → Call → SourceChange → List ℕ → Type 0
TakesWhere true call source input = TakesInput source input
TakesWhere false call source input = Keeps source.old source.new × (input ≡ generated call.seed call.size)

-- what is due where the words ask for this call, with what became of the source
abbrev pub IsDueTo : Option Call → SourceChange → Answer → Type 0
IsDueTo None source answer = Keeps source.old source.new × (answer ≡ refusal status.WordsRefused (codes "words"))
IsDueTo (Some call) source answer = (input : List ℕ) × TakesWhere (reads_input call.action) call source input × Answers call input answer

-- The answer that is due: for refused words their refusal, and the source is as it was; else what the call answers to
-- the bytes that were read or generated.
abbrev pub IsDue : List (List ℕ) → SourceChange → Answer → Type 0
IsDue words source answer = (asked : Option Call) × Ask words asked × IsDueTo asked source answer

-- what a call answers to bytes that were taken from a source
abbrev pub IsAnsweredFrom : Call → SourceChange → Answer → Type 0
IsAnsweredFrom call source answer = (input : List ℕ) × TakesInput source input × AnswersInput call input answer

-- an answer that is due has this status and these steps, and was written, all of it
abbrev pub IsWritten : (Answer → Type 0) → (sink sink' : Option (List ℕ)) → Status → List ℕ → Type 0
IsWritten Due sink sink' status history = (answer : Answer) × Due answer × (answer.status ≡ status) × (answer.history ≡ history) × Appends sink sink' answer.bytes

-- A proper prefix of an answer that is due was written, into a sink that hadn't surely room for all of it. Its steps were
-- made.
abbrev pub IsCut : (Answer → Type 0) → (sink sink' : Option (List ℕ)) → (ℕ → Type 0) → List ℕ → Type 0
IsCut Due sink sink' HasRoom history = (answer : Answer) × Due answer × (answer.history ≡ history) × AppendsPart sink sink' answer.bytes × ((room : ℕ) → HasRoom room → room < length answer.bytes)

-- How a call ends to which such answers are due, and which may read where `Reads` holds: with this status and this history.
-- A sink that doesn't tell leaves its part open.
abbrev pub EndsWith : (Due : Answer → Type 0) (Reads : Type 0) (sink sink' : Option (List ℕ)) → (ℕ → Type 0) → Status → List ℕ → Type 0
EndsWith Due Reads sink sink' HasRoom status.Done history = IsWritten Due sink sink' status.Done history
EndsWith Due Reads sink sink' HasRoom status.Trapped history = IsWritten Due sink sink' status.Trapped history
EndsWith Due Reads sink sink' HasRoom status.WordsRefused history = IsWritten Due sink sink' status.WordsRefused history
EndsWith Due Reads sink sink' HasRoom status.TextRefused history = IsWritten Due sink sink' status.TextRefused history
EndsWith Due Reads sink sink' HasRoom status.ReadFault history = Reads × Keeps sink sink' × (history ≡ [])
EndsWith Due Reads sink sink' HasRoom status.WriteFault history = IsCut Due sink sink' HasRoom history
EndsWith Due Reads sink sink' HasRoom status.NoMemory history = Keeps sink sink' × (history ≡ [])

-- How a call with these words ends that waits for nobody.
abbrev pub Ends : List (List ℕ) → SourceChange → (sink sink' : Option (List ℕ)) → (ℕ → Type 0) → Status → List ℕ → Type 0
Ends words source sink sink' HasRoom status history = EndsWith (IsDue words source) (AskToRead words) sink sink' HasRoom status history
