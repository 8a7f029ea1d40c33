-- What is claimed of every history, whatever the order of the actors in it.
use Rattle.std.specs.Prelude.{◌≡◌, ◌↔◌, ℕ, suc, ◌+◌, ◌<◌, ◌≤◌, ◌⊎◌, ℤ, Bool, true, false, Some, None, IsSome, List, [], ◌∷◌, length, take}
use Rattle.std.specs.List.{filter}
use Rattle.settle_law.specs.Cuts.{HoldsFixed}
use Rattle.settle_law.specs.Traces.{Access, part, Apart}
use Rattle.settle_law.specs.Law.{accesses}
use Rattle.settle_law.specs.Claims.{Claims, Within, claimed}
use Rattle.settle_law.specs.Runs.{run, IsComplete}
use Rattle.settle_law.specs.Courses.{Nest, Follows, family_of, iteration_at, reached, outcome}
use Rattle.settle_law.specs.Reading.{BodiesBegin}
use Rattle.spec_machine.specs.Invocations.{Outside, one_by_one}
use Rattle.spec_machine.specs.Signatures.{IsKind, Holds}
use Rattle.spec_machine.specs.Facts.{Task, Pair, Abort, Fails, Overlaps, Facts, Rollback}
use Rattle.spec_machine.specs.Machine.{Setup, State, Move, DoCommit, opening, step, move_of, pairs, is_unordered, sign_at, overlap_of}
use Rattle.spec_machine.specs.Rows.{Row, is_commit, is_check}
use Rattle.spec_machine.specs.Table.{In, Enabled}
use Rattle.spec_machine.specs.Runs.{trace_from, rows_from, rollbacks_from, is_finished, ending_of, ended_actor}
use Rattle.spec_machine.specs.Segments.{IsBlamed, TrapsIn, ClashesIn, hull, opens_at}

-- all words that pass a test
abbrev pub words_of : (ℕ → Bool) → Claims
words_of test = record { read = test; written = test }

-- A setup is for a nest where there is a worker, and room in a segment; the first piece of each iteration that is handed
-- out realises its cut turn; the cursor, taken one event at a time, follows the course of the nest; `const` words have
-- their values as the nest opens; two iterations of one invocation whose loop is DoAll are apart; and signatures of the
-- kind keep its law for the words that iterations touch.
pub record IsSetupFor {B C P G : Type 0} (m : Setup B C P G) (nest : Nest) (what : B × ℕ → ℕ × List ℤ) (start : C) (noted : G → Claims) : Type 0 where
  pub some_worker : 0 < m.width
  pub some_room : 0 < m.room
  pub begins : BodiesBegin m.system nest what (λ (i : B × ℕ). m.entry i.0 i.1)
  pub follows : Follows nest what (one_by_one m.event) (Outside start) nest.course
  pub opens_fixed : HoldsFixed m.system.fixed nest.opening
  pub apart : (b : B) (first x y : ℕ) → m.doall b ≡ true → (x ≡ y → ⊥) → iteration_at nest (first + x) ≡ Some (what (b, x)) → iteration_at nest (first + y) ≡ Some (what (b, y)) → Apart (family_of m.system.fixed nest (first + x)) (family_of m.system.fixed nest (first + y))
  pub touched : ℕ → Bool
  pub inside : (k : ℕ) → Within (words_of touched) (family_of m.system.fixed nest k)
  pub is_kind : IsKind m.kind noted touched

-- a legal history leads from the opening to a state
abbrev pub Leads : {B C P G : Type 0} → Setup B C P G → Nest → C → List ℕ → State B C P G → Type 0
Leads m nest start history s = run (step m) (opening m start nest.opening) history ≡ Some s

-- a history from the opening is complete
abbrev pub Completes : {B C P G : Type 0} → Setup B C P G → Nest → C → List ℕ → Type 0
Completes m nest start history = IsComplete (step m) is_finished (opening m start nest.opening) history

-- What a commit marks: the words are those when all iterations so far are finished in textual order, each iteration of
-- the open epochs made the accesses that it makes there, and no unordered pair has overlapping signatures.
pub record IsTrueCommit {B C P G : Type 0} (m : Setup B C P G) (nest : Nest) (s : State B C P G) (trace : List Access) : Type 0 where
  pub words : reached nest s.next ≡ Some s.words
  pub parts : (k : ℕ) → opens_at s.epochs s.next ≤ k → k < s.next → (before : List ℤ) × (reached nest k ≡ Some before) × (part k trace ≡ accesses k (family_of m.system.fixed nest k) before)
  pub checked : (p : Pair) → In p (pairs m.width (length s.epochs)) → is_unordered s.seats p ≡ true → overlap_of m s.seats p ≡ None

-- In each state that a legal history leaves, a commit that is enabled is true, whatever stale words were read on the way.
abbrev pub CommitsAreTrue : Type 0 → Type 0 → Type 0 → Type 0 → Type 0
CommitsAreTrue B C P G = (m : Setup B C P G) (nest : Nest) (what : B × ℕ → ℕ × List ℤ) (start : C) (noted : G → Claims) → IsSetupFor m nest what start noted → (history : List ℕ) (s : State B C P G) (actor : ℕ) → Leads m nest start history s → move_of m s actor ≡ Some DoCommit → IsTrueCommit m nest s (trace_from m (opening m start nest.opening) [] history)

-- Each complete history ends as the nest does in textual order: with its final words, or at its first trap.
abbrev pub HistoriesEndAsNest : Type 0 → Type 0 → Type 0 → Type 0 → Type 0
HistoriesEndAsNest B C P G = (m : Setup B C P G) (nest : Nest) (what : B × ℕ → ℕ × List ℤ) (start : C) (noted : G → Claims) → IsSetupFor m nest what start noted → (history : List ℕ) (complete : Completes m nest start history) → ending_of complete.last ≡ outcome nest

-- A kept abort says what it is: the pair is one of tasks in rising epochs and of different workers, it is unordered, and
-- its signatures overlap, first in that array. That of a trap comes only at a distance above 0.
abbrev pub Tells : {B C P G : Type 0} → Setup B C P G → State B C P G → Abort → Type 0
Tells m s (Fails t) = 0 < s.distance
Tells m s (Overlaps p array) = In p (pairs m.width (length s.epochs)) × (is_unordered s.seats p ≡ true) × (overlap_of m s.seats p ≡ Some array)

abbrev pub AbortsTell : Type 0 → Type 0 → Type 0 → Type 0 → Type 0
AbortsTell B C P G = (m : Setup B C P G) (nest : Nest) (what : B × ℕ → ℕ × List ℤ) (start : C) (noted : G → Claims) → IsSetupFor m nest what start noted → (history : List ℕ) (s : State B C P G) (cause : Abort) → Leads m nest start history s → s.abort ≡ Some cause → Tells m s cause

-- claims that hold the turns: each access of an iteration, on any path, is claimed, and claimed words are below `size`
pub record AreHeld {B C P G : Type 0} (m : Setup B C P G) (nest : Nest) (claims : ℕ → Claims) (size : ℕ) : Type 0 where
  pub held : (k : ℕ) → Within (claims k) (family_of m.system.fixed nest k)
  pub inside : (k w : ℕ) → claimed (claims k) w ≡ true → w < size

-- What a task noted is within its hull, while its segment isn't given up.
abbrev pub NotedIsWithinHull : Type 0 → Type 0 → Type 0 → Type 0 → Type 0
NotedIsWithinHull B C P G = (m : Setup B C P G) (nest : Nest) (what : B × ℕ → ℕ × List ℤ) (start : C) (noted : G → Claims) (claims : ℕ → Claims) (size : ℕ) → IsSetupFor m nest what start noted → AreHeld m nest claims size → (history : List ℕ) (s : State B C P G) (t : Task) → Leads m nest start history s → s.abort ≡ None → t.epoch < length s.epochs → t.worker < m.width → Holds (noted (hull m nest start claims size s.epochs t)) (noted (sign_at m s.seats t))

-- Each rollback of a legal history has its cause in the nest. That of an overlap is of a pair to blame. That of a trap
-- comes only where textual order traps in that segment, or two of its tasks clash within the set distance.
abbrev pub CausedBy : {B C P G : Type 0} → Setup B C P G → Nest → C → (ℕ → Claims) → ℕ → ℕ → Abort → Type 0
CausedBy m nest start claims size segment (Fails t) = TrapsIn m nest start segment ⊎ ClashesIn m nest start claims m.far segment
CausedBy m nest start claims size segment (Overlaps p array) = IsBlamed m nest start claims size m.far segment p

abbrev pub RollbacksAreCaused : Type 0 → Type 0 → Type 0 → Type 0 → Type 0
RollbacksAreCaused B C P G = (m : Setup B C P G) (nest : Nest) (what : B × ℕ → ℕ × List ℤ) (start : C) (noted : G → Claims) (claims : ℕ → Claims) (size : ℕ) → IsSetupFor m nest what start noted → AreHeld m nest claims size → (history : List ℕ) (s : State B C P G) (rollback : Rollback) → Leads m nest start history s → In rollback (rollbacks_from m (opening m start nest.opening) history) → CausedBy m nest start claims size rollback.segment rollback.cause

-- Where the set distance is below the least distance, at which two tasks to blame are apart, no rollback is of an overlap,
-- and one of a trap comes only in the segment in which the outcome traps. Only words that iterations may touch are claimed
-- there.
abbrev pub IsTrapOf : {B C P G : Type 0} → Setup B C P G → Nest → C → ℕ → Abort → Type 0
IsTrapOf m nest start segment (Fails t) = TrapsIn m nest start segment
IsTrapOf m nest start segment (Overlaps p array) = ⊥

abbrev pub BelowLeastAreTraps : Type 0 → Type 0 → Type 0 → Type 0 → Type 0
BelowLeastAreTraps B C P G = (m : Setup B C P G) (nest : Nest) (what : B × ℕ → ℕ × List ℤ) (start : C) (noted : G → Claims) (claims : ℕ → Claims) (size : ℕ) → (setup : IsSetupFor m nest what start noted) → AreHeld m nest claims size → ((k w : ℕ) → claimed (claims k) w ≡ true → setup.touched w ≡ true) → ((distance g : ℕ) (p : Pair) → IsBlamed m nest start claims size distance g p → p.early.epoch + m.far < p.late.epoch) → (history : List ℕ) (s : State B C P G) (rollback : Rollback) → Leads m nest start history s → In rollback (rollbacks_from m (opening m start nest.opening) history) → IsTrapOf m nest start rollback.segment rollback.cause

-- A segment is restored at most once: the segments of the rollbacks of a legal history rise.
abbrev pub Rises : ℕ → List Rollback → Type 0
Rises low [] = Unit {0}
Rises low (r ∷ rollbacks) = (low ≤ r.segment) × Rises (suc r.segment) rollbacks

abbrev pub SegmentsAreRestoredOnce : Type 0 → Type 0 → Type 0 → Type 0 → Type 0
SegmentsAreRestoredOnce B C P G = (m : Setup B C P G) (nest : Nest) (what : B × ℕ → ℕ × List ℤ) (start : C) (noted : G → Claims) → IsSetupFor m nest what start noted → (history : List ℕ) (s : State B C P G) → Leads m nest start history s → Rises 0 (rollbacks_from m (opening m start nest.opening) history)

-- What is counted is of the history: its commits, the checker's steps, its rollbacks, and the first 64 of these.
pub record AreCounted (facts : Facts) (rows : List Row) (rollbacks : List Rollback) : Type 0 where
  pub segments : facts.segments ≡ length (filter is_commit rows)
  pub checks : facts.checks ≡ length (filter is_check rows)
  pub number : facts.rollbacks ≡ length rollbacks
  pub listed : facts.listed ≡ take 64 rollbacks

abbrev pub FactsAreCounted : Type 0 → Type 0 → Type 0 → Type 0 → Type 0
FactsAreCounted B C P G = (m : Setup B C P G) (nest : Nest) (start : C) (history : List ℕ) (s : State B C P G) → Leads m nest start history s → AreCounted s.facts (rows_from m (opening m start nest.opening) history) (rollbacks_from m (opening m start nest.opening) history)

-- In each state that a legal history leaves, the moves of an actor are exactly the rows that the table enables: so no two
-- of one actor.
abbrev pub MovesAreRows : Type 0 → Type 0 → Type 0 → Type 0 → Type 0
MovesAreRows B C P G = (m : Setup B C P G) (nest : Nest) (what : B × ℕ → ℕ × List ℤ) (start : C) (noted : G → Claims) → IsSetupFor m nest what start noted → (history : List ℕ) (s : State B C P G) (actor : ℕ) (move : Move B C P) → Leads m nest start history s → (move_of m s actor ≡ Some move) ↔ Enabled m s actor move

-- some worker, the scheduler or the checker has a step
pub record CanGoOn {B C P G : Type 0} (m : Setup B C P G) (s : State B C P G) : Type 0 where
  pub actor : ℕ
  pub present : actor < m.width + 2
  pub enabled : IsSome (step m s actor)

-- In each state that a legal history leaves and that isn't finished, some actor has a step.
abbrev pub UnfinishedGoOn : Type 0 → Type 0 → Type 0 → Type 0 → Type 0
UnfinishedGoOn B C P G = (m : Setup B C P G) (nest : Nest) (what : B × ℕ → ℕ × List ℤ) (start : C) (noted : G → Claims) → IsSetupFor m nest what start noted → (history : List ℕ) (s : State B C P G) → Leads m nest start history s → is_finished s ≡ false → CanGoOn m s

-- An actor whose part is ended has no step, and its part stays ended.
abbrev pub EndedHaveNoStep : Type 0 → Type 0 → Type 0 → Type 0 → Type 0
EndedHaveNoStep B C P G = (m : Setup B C P G) (s : State B C P G) (actor : ℕ) → ended_actor m s actor ≡ true → step m s actor ≡ None

abbrev pub EndedStay : Type 0 → Type 0 → Type 0 → Type 0 → Type 0
EndedStay B C P G = (m : Setup B C P G) (s t : State B C P G) (actor other : ℕ) → ended_actor m s actor ≡ true → step m s other ≡ Some t → ended_actor m t actor ≡ true

-- The machine is finished exactly where the parts of all actors are ended: the workers, the scheduler and the checker.
abbrev pub FinishedIsAllEnded : Type 0 → Type 0 → Type 0 → Type 0 → Type 0
FinishedIsAllEnded B C P G = (m : Setup B C P G) (s : State B C P G) → (is_finished s ≡ true) ↔ ((actor : ℕ) → actor < m.width + 2 → ended_actor m s actor ≡ true)
