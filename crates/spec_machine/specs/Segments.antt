-- The segments of a nest, which no schedule decides: the invocations of its course, cut. And what may overlap in them, by
-- the claims of the iterations.
use Rattle.std.specs.Prelude.{◌≡◌, ℕ, zero, suc, ◌+◌, ◌-◌, ◌<◌, ◌≤◌, ◌⊎◌, false, if◌then◌else◌, ◌==◌, Option, Some, None, IsSome, List, [], ◌∷◌, ◌++◌, length, slice_get}
use Rattle.std.specs.Option.{option_map_or}
use Rattle.nest_syntax.specs.declared.place.Place.{Place}
use Rattle.nest_syntax.specs.Outcome.{TrappedAt}
use Rattle.settle_law.specs.Claims.{Claims, Clash}
use Rattle.settle_law.specs.Courses.{Nest, Trap, events, reached, outcome}
use Rattle.spec_machine.specs.Invocations.{Event, End, Scalar, Drain, Invoke}
use Rattle.spec_machine.specs.Signatures.{Kind}
use Rattle.spec_machine.specs.Facts.{Task, Pair}
use Rattle.spec_machine.specs.Machine.{Setup, Epoch, from, to}

-- an event ahead of the scheduler, as it reads them
pub data Coming (B : Type 0) : Type 0 where
  Computes : Coming B
  Drains : Coming B
  Invokes : Epoch B → Coming B

-- behind an event that traps there is nothing
abbrev pub behind_trap : {B : Type 0} → Option Trap → List (Coming B) → List (Coming B)
behind_trap None others = others
behind_trap (Some trap) others = []

-- where a segment is cut off, there is none without an epoch
abbrev pub cut_off : {B : Type 0} → List (Epoch B) → List (List (Epoch B))
cut_off [] = []
cut_off (x ∷ gathered) = (x ∷ gathered) ∷ []

-- Events cut to segments, the first of which has some epochs already: a segment ends where it is full and another
-- invocation comes, before a drain, and where no event follows.
abbrev pub segments_of : {B : Type 0} → ℕ → List (Epoch B) → List (Coming B) → List (List (Epoch B))
segments_of room gathered [] = cut_off gathered
segments_of room gathered (Computes ∷ others) = segments_of room gathered others
segments_of room gathered (Drains ∷ others) = cut_off gathered ++ segments_of room [] others
segments_of room gathered (Invokes x ∷ others) = if length gathered == room then gathered ∷ segments_of room (x ∷ []) others else segments_of room (gathered ++ x ∷ []) others

-- the number of iterations before the first epoch of a list, where `next` are before the next epoch
abbrev pub opens_at : {B : Type 0} → List (Epoch B) → ℕ → ℕ
opens_at [] next = next
opens_at (x ∷ epochs) next = x.first

-- an iteration of one of these epochs
abbrev pub IsAmong : {B : Type 0} → List (Epoch B) → ℕ → Type 0
IsAmong [] k = ⊥
IsAmong (x ∷ epochs) k = ((x.first ≤ k) × (k < x.first + x.count)) ⊎ IsAmong epochs k

module _ {B C P G : Type 0} (m : Setup B C P G) (nest : Nest) where
  -- The events ahead of a cursor that has passed `next` iterations, `most` of them at most. A drain has the words that
  -- textual order reaches, and isn't carried out where it doesn't get there.
  abbrev pub coming_from : (C → ℕ → List (Coming B)) → ℕ → Event B C → List (Coming B)
  coming_from behind next End = []
  coming_from behind next (Scalar purpose trap rest) = Computes ∷ behind_trap trap (behind rest next)
  coming_from behind next (Drain purpose trap rest) = option_map_or (λ words. Drains ∷ behind_trap (trap words) (behind (rest words) next)) (reached nest next) []
  coming_from behind next (Invoke b n rest) = Invokes (record { first = next; count = n; body = b }) ∷ behind rest (next + n)

  abbrev pub coming : ℕ → C → ℕ → List (Coming B)
  coming zero cursor next = []
  coming (suc most) cursor next = coming_from (coming most) next (m.event cursor)

  -- The segments ahead, where some epochs are gathered already: those of the events ahead, of which there are none behind
  -- a trap of the scheduler.
  abbrev pub ahead : Option Place → C → ℕ → List (Coming B)
  ahead None cursor next = coming (length (events nest)) cursor next
  ahead (Some trap) cursor next = []

  abbrev pub segments_ahead : Option Place → C → ℕ → List (Epoch B) → List (List (Epoch B))
  segments_ahead early cursor next gathered = segments_of m.room gathered (ahead early cursor next)

  -- the segments of the nest, from its first event on
  abbrev pub segments : C → List (List (Epoch B))
  segments start = segments_ahead None start 0 []

-- The hull of a task: the signature of the claims of its iterations. `claims` tells those of each iteration, and all words
-- claimed are below `size`.
module _ {G : Type 0} (kind : Kind G) where
  abbrev pub with_claimed : Claims → ℕ → G → G
  with_claimed c w sign = let read : G = if c.read w then kind.with_read w sign else sign in if c.written w then kind.with_written w read else read

  abbrev pub with_claims : Claims → ℕ → G → G
  with_claims c zero sign = sign
  with_claims c (suc w) sign = with_claimed c w (with_claims c w sign)

  -- the claims of n iterations from k on
  abbrev pub with_iterations : (ℕ → Claims) → ℕ → ℕ → ℕ → G
  with_iterations claims size k zero = kind.blank
  with_iterations claims size k (suc n) = with_claims (claims (k + n)) size (with_iterations claims size k n)

module _ {B C P G : Type 0} (m : Setup B C P G) (nest : Nest) (start : C) where
  -- A segment of the nest, which textual order reaches.
  pub record IsSegment (g : ℕ) (epochs : List (Epoch B)) : Type 0 where
    pub is_one : slice_get (segments m nest start) g ≡ Some epochs
    pub reaches : IsSome (reached nest (opens_at epochs 0))

  -- a pair of tasks of a segment: the epochs rise, the workers differ
  pub record IsPairIn (epochs : List (Epoch B)) (p : Pair) : Type 0 where
    pub rises : p.early.epoch < p.late.epoch
    pub late : p.late.epoch < length epochs
    pub early_own : p.early.worker < m.width
    pub late_own : p.late.worker < m.width
    pub differ : p.early.worker ≡ p.late.worker → ⊥

  -- the outcome is the trap of an iteration of segment g
  pub record TrapsIn (g : ℕ) : Type 0 where
    pub epochs : List (Epoch B)
    pub segment : IsSegment g epochs
    pub trap : Place
    pub is_outcome : outcome nest ≡ TrappedAt trap
    pub of_iteration : trap.by_scheduler ≡ false
    pub among : IsAmong epochs trap.number

  module _ (claims : ℕ → Claims) (size : ℕ) where
    abbrev pub hull : List (Epoch B) → Task → G
    hull epochs t = with_iterations m.kind claims size (from m epochs t.epoch t.worker) (to m epochs t.epoch t.worker - from m epochs t.epoch t.worker)

    -- A pair of a segment whose hulls overlap, at most `distance` epochs apart. The blame of a nest is all of these at the
    -- set distance; the least distance is the least of them apart.
    pub record IsBlamed (distance g : ℕ) (p : Pair) : Type 0 where
      pub epochs : List (Epoch B)
      pub segment : IsSegment g epochs
      pub is_pair : IsPairIn epochs p
      pub near : p.late.epoch ≤ p.early.epoch + distance
      pub overlap : IsSome (m.kind.overlap (hull epochs p.early) (hull epochs p.late))

  module _ (claims : ℕ → Claims) where
    -- two tasks of segment g, at most `distance` epochs apart, have iterations whose claims clash
    pub record ClashesIn (distance g : ℕ) : Type 0 where
      pub epochs : List (Epoch B)
      pub segment : IsSegment g epochs
      pub pair : Pair
      pub is_pair : IsPairIn epochs pair
      pub near : pair.late.epoch ≤ pair.early.epoch + distance
      pub j : ℕ
      pub k : ℕ
      pub of_early : (from m epochs pair.early.epoch pair.early.worker ≤ j) × (j < to m epochs pair.early.epoch pair.early.worker)
      pub of_late : (from m epochs pair.late.epoch pair.late.worker ≤ k) × (k < to m epochs pair.late.epoch pair.late.worker)
      pub clash : Clash (claims j) (claims k)
