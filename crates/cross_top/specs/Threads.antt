-- How a call with these words ends that may wait: it has `run` beside the actions that wait for nobody.
use Rattle.std.specs.Prelude.{◌≡◌, ℕ, Bool, true, false, Option, Some, None, List, []}
use Rattle.std.specs.Io.KnownBytes.{Keeps}
use Rattle.progress_board.specs.Options.{IsInRange}
use Rattle.cross_words.specs.declared.call.Action.{Action}
use Rattle.cross_words.specs.declared.call.Action.TheVariants.{Run}
use Rattle.cross_words.specs.declared.call.Call.{Call}
use Rattle.cross_words.specs.Table.{Say}
use Rattle.cross_top.specs.declared.status.Status.{Status}
use Rattle.cross_top.specs.declared.status.Status.TheVariants as status
use Rattle.cross_top.specs.Ends.{SourceChange, IsAnsweredFrom, EndsWith, Ends}

-- whether an action is run by threads
abbrev pub is_threaded : Action → Bool
is_threaded Run = true
is_threaded _ = false

-- what words ask for that is run by threads: the call that they say, or nothing, where they say no such call
abbrev pub AskToRun : List (List ℕ) → Option Call → Type 0
AskToRun words (Some call) = Say words call × (is_threaded call.action ≡ true)
AskToRun words None = (call : Call) → Say words call → is_threaded call.action ≡ false

-- a call that is run by threads
pub record IsThreaded (call : Call) : Type 0 where
  pub action : call.action ≡ Run
  pub in_range : IsInRange call.options

-- By threads, with what the call answers to the bytes that were taken; or as one that waits for nobody; or for want of
-- memory, with nothing written.
pub data MainEnds (words : List (List ℕ)) (source : SourceChange) (sink sink' : Option (List ℕ)) (HasRoom : ℕ → Type 0) (end : Status) (history : List ℕ) : Type 0 where
  by_threads : (call : Call) → AskToRun words (Some call) → EndsWith (IsAnsweredFrom call source) (Unit {0}) sink sink' HasRoom end history → MainEnds words source sink sink' HasRoom end history
  quietly : AskToRun words None → Ends words source sink sink' HasRoom end history → MainEnds words source sink sink' HasRoom end history
  no_memory : end ≡ status.NoMemory → Keeps sink sink' → history ≡ [] → MainEnds words source sink sink' HasRoom end history
