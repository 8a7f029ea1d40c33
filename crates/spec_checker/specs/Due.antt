-- The pair due: the first unordered pair that isn't passed, where its late task and every task before that are finished.
use Rattle.std.specs.Prelude.{ℕ, ◌≡◌, ◌+◌, ◌*◌, ◌<◌, ◌≤◌, Bool, true, false, not, ◌&&◌, Option, List, [], length, slice_index, slice_index_or}
use Rattle.nest_syntax.specs.declared.names.TaskName.{TaskName}
use Rattle.epoch_plan.specs.declared.tasks.Seen.{Seen}
use Rattle.epoch_plan.specs.Tasks.{is_unordered}
use Rattle.spec_checker.specs.Order.{Pair, is_before, is_pair_before, is_passed}

-- that a task and every task before it are finished, where `finished` has for each worker how many epochs it has finished
abbrev pub IsReached : List ℕ → ℕ → TaskName → Type 0
IsReached finished workers task = (before : TaskName) → before.worker < workers → is_before task before ≡ false → before.epoch < slice_index finished before.worker

-- what a task saw, which stands at `epoch * workers + worker`
abbrev pub seen_by : List Seen → ℕ → TaskName → Seen
seen_by seen workers task = slice_index_or seen (task.epoch * workers + task.worker) (record { 0 = [] })

-- that there is an entry for each task that is finished
abbrev pub HasEntries : List ℕ → ℕ → List Seen → Type 0
HasEntries finished workers seen = (worker : ℕ) → worker < workers → slice_index finished worker * workers ≤ length seen

-- whether a pair is unordered and isn't passed, where its late task saw `saw`
abbrev pub is_open_with : Option Pair → Seen → TaskName → TaskName → Bool
is_open_with last saw late early = is_unordered saw early late && not (is_passed last (early, late))

abbrev pub is_open : Option Pair → List Seen → ℕ → Pair → Bool
is_open last seen workers pair = is_open_with last (seen_by seen workers pair.1) pair.1 pair.0

-- that two tasks are of these workers
abbrev pub AreOf : ℕ → Pair → Type 0
AreOf workers pair = (pair.0.worker < workers) × (pair.1.worker < workers)

pub record IsDue (last : Option Pair) (finished : List ℕ) (workers : ℕ) (seen : List Seen) (pair : Pair) : Type 0 where
  pub tasks : AreOf workers pair
  pub unpassed : is_open last seen workers pair ≡ true
  pub first : (other : Pair) → AreOf workers other → is_pair_before other pair ≡ true → is_open last seen workers other ≡ false
  pub reached : IsReached finished workers pair.1

-- No pair is due: of the late tasks that are reached none has a pair left.
abbrev pub NoneIsOpen : Option Pair → List ℕ → ℕ → List Seen → Type 0
NoneIsOpen last finished workers seen = (pair : Pair) → AreOf workers pair → IsReached finished workers pair.1 → is_open last seen workers pair ≡ false

-- that each unordered pair of the first epochs is passed
abbrev pub AllPassed : Option Pair → ℕ → ℕ → List Seen → Type 0
AllPassed last epochs workers seen =
    (pair : Pair) → AreOf workers pair → pair.1.epoch < epochs → is_unordered (seen_by seen workers pair.1) pair.0 pair.1 ≡ true → is_passed last pair ≡ true

-- what holds where a late task has no pair left, and of the early task of its first one
abbrev pub NoneOpenWith : Option Pair → Seen → ℕ → TaskName → Type 0
NoneOpenWith last saw workers late = (early : TaskName) → early.worker < workers → is_open_with last saw late early ≡ false

pub record IsFirstOpenWith (last : Option Pair) (saw : Seen) (workers : ℕ) (late early : TaskName) : Type 0 where
  pub own : early.worker < workers
  pub unpassed : is_open_with last saw late early ≡ true
  pub first : (other : TaskName) → other.worker < workers → is_before other early ≡ true → is_open_with last saw late other ≡ false
