-- The measure of a state: how many steps may still come. It falls at each step, so no history is longer than the measure
-- of the opening, which is bounded by the costs of the iterations.
use Rattle.std.specs.Prelude.{◌≡◌, ℕ, zero, suc, ◌+◌, ◌-◌, ◌*◌, ◌<◌, ◌≤◌, ℤ, Bool, true, false, not, Option, Some, None, List, [], ◌∷◌, length, replicate, sum_by}
use Rattle.std.specs.List.{filter}
use Rattle.settle_law.specs.Claims.{Claims}
use Rattle.settle_law.specs.Courses.{Nest, events}
use Rattle.spec_machine.specs.Facts.{Pair, Abort}
use Rattle.spec_machine.specs.Machine.{Setup, State, Seat, Hand, Idle, Empty, Running, Stopped, Epoch, fresh_seat, seat_at, is_passed, pairs, epoch_at, from, to, opening, step}
use Rattle.spec_machine.specs.Table.{In}
use Rattle.spec_machine.specs.Segments.{ahead, segments_ahead, segments}
use Rattle.spec_machine.specs.Theorems.{IsSetupFor, Leads}

-- the sum over the numbers below n, and over n numbers from k on
abbrev pub sum_below : ℕ → (ℕ → ℕ) → ℕ
sum_below zero f = 0
sum_below (suc n) f = sum_below n f + f n

abbrev pub sum_from : (ℕ → ℕ) → (k n : ℕ) → ℕ
sum_from f k zero = 0
sum_from f k (suc n) = f k + sum_from f (suc k) n

module _ {B C P G : Type 0} (m : Setup B C P G) (nest : Nest) where
  -- an iteration: its stops, with its end
  abbrev pub iteration_weight : Epoch B → ℕ → ℕ
  iteration_weight x k = suc (m.system.fuel (m.entry x.body (k - x.first)))

  -- a task: to begin it, its iterations, and to finish it
  abbrev pub task_weight : List (Epoch B) → (e u : ℕ) → ℕ
  task_weight epochs e u = 2 + sum_from (iteration_weight (epoch_at m epochs e)) (from m epochs e u) (to m epochs e u - from m epochs e u)

  -- the tasks of a worker from epoch e on
  abbrev pub tasks_weight : List (Epoch B) → (u e : ℕ) → ℕ
  tasks_weight epochs u e = sum_from (λ f. task_weight epochs f u) e (length epochs - e)

  -- what a worker has to do in a segment of these epochs, where e are finished, and to stop where a trap is kept
  abbrev pub hand_weight : List (Epoch B) → (u e : ℕ) → Hand P → ℕ
  hand_weight epochs u e Idle = suc (tasks_weight epochs u e)
  hand_weight epochs u e Empty = 2 + tasks_weight epochs u (suc e)
  hand_weight epochs u e (Running k piece) = 2 + m.system.fuel piece + sum_from (iteration_weight (epoch_at m epochs e)) (suc k) (to m epochs e u - suc k) + tasks_weight epochs u (suc e)
  hand_weight epochs u e Stopped = 0

  abbrev pub seat_weight : List (Epoch B) → (u : ℕ) → Seat P G → ℕ
  seat_weight epochs u seat = hand_weight epochs u seat.done seat.hand

  abbrev pub run_weight : List (Epoch B) → List (Seat P G) → ℕ
  run_weight epochs seats = sum_below m.width (λ u. seat_weight epochs u (seat_at seats u))

  -- a whole run from nothing
  abbrev pub whole_weight : List (Epoch B) → ℕ
  whole_weight epochs = run_weight epochs (replicate m.width fresh_seat)

  -- under an abort, running workers let go
  abbrev pub lets_go : Hand P → ℕ
  lets_go Idle = 0
  lets_go Empty = 1
  lets_go (Running k piece) = 1
  lets_go Stopped = 0

  abbrev pub letting_go : List (Seat P G) → ℕ
  letting_go seats = sum_below m.width (λ u. lets_go (seat_at seats u).hand)

  abbrev pub pairs_left : List (Epoch B) → List Pair → ℕ
  pairs_left epochs passed = length (filter (λ p. not (is_passed passed p)) (pairs m.width (length epochs)))

  -- A segment at a distance above 0 may be given up once: then it is restored and run again, at distance 0.
  abbrev pub live_weight : List (Epoch B) → ℕ → List (Seat P G) → List Pair → ℕ
  live_weight epochs zero seats passed = run_weight epochs seats
  live_weight epochs (suc distance) seats passed = run_weight epochs seats + pairs_left epochs passed + suc (whole_weight epochs)

  abbrev pub segment_weight : List (Epoch B) → Option Abort → ℕ → List (Seat P G) → List Pair → ℕ
  segment_weight epochs None distance seats passed = live_weight epochs distance seats passed
  segment_weight epochs (Some cause) distance seats passed = letting_go seats + suc (whole_weight epochs)

  -- to close a segment and to commit it
  abbrev pub seal_weight : Bool → ℕ
  seal_weight true = 1
  seal_weight false = 2

  -- a segment that isn't begun
  abbrev pub coming_weight : List (Epoch B) → ℕ
  coming_weight epochs = live_weight epochs m.far (replicate m.width fresh_seat) [] + 2

  -- the present segment and those behind it
  abbrev pub segments_weight : State B C P G → List (List (Epoch B)) → ℕ
  segments_weight s [] = 0
  segments_weight s (epochs ∷ others) = segment_weight epochs s.abort s.distance s.seats s.passed + seal_weight s.sealed + sum_by coming_weight others

  -- the events ahead, the segments ahead, and to conclude
  abbrev pub going_weight : State B C P G → ℕ
  going_weight s = suc (length (ahead m nest s.early s.cursor s.next) + segments_weight s (segments_ahead m nest s.early s.cursor s.next s.epochs))

  abbrev pub over_weight : State B C P G → Bool → ℕ
  over_weight s true = 0
  over_weight s false = going_weight s

  abbrev pub measure : State B C P G → ℕ
  measure s = over_weight s s.concluded

  -- The bound: a step for each event, one to conclude, and for each segment of n epochs twice the costs of its iterations,
  -- to begin and to finish each task twice, for each worker to stop twice, a step for each pair, and to close, restore and
  -- commit it.
  abbrev pub costs_of : (ℕ → ℕ) → List (Epoch B) → ℕ
  costs_of cost epochs = sum_by (λ (x : Epoch B). sum_from cost x.first x.count) epochs

  abbrev pub segment_bound : (ℕ → ℕ) → List (Epoch B) → ℕ
  segment_bound cost epochs = 2 * costs_of cost epochs + 4 * (length epochs * m.width) + 2 * m.width + length (pairs m.width (length epochs)) + 3

  abbrev pub bound : C → (ℕ → ℕ) → ℕ
  bound start cost = length (events nest) + 1 + sum_by (segment_bound cost) (segments m nest start)

  -- the costs bound the fuel of the iterations of the segments: a first piece has less fuel than its iteration's cost
  abbrev pub Costs : C → (ℕ → ℕ) → Type 0
  Costs start cost = (epochs : List (Epoch B)) (x : Epoch B) → In epochs (segments m nest start) → In x epochs → (j : ℕ) → j < x.count → m.system.fuel (m.entry x.body j) < cost (x.first + j)

-- The measure falls at each step of a legal history.
abbrev pub StepsFall : Type 0 → Type 0 → Type 0 → Type 0 → Type 0
StepsFall B C P G = (m : Setup B C P G) (nest : Nest) (what : B × ℕ → ℕ × List ℤ) (start : C) (noted : G → Claims) → IsSetupFor m nest what start noted → (history : List ℕ) (s t : State B C P G) (actor : ℕ) → Leads m nest start history s → step m s actor ≡ Some t → measure m nest t < measure m nest s

-- So no legal history is longer than the measure of the opening.
abbrev pub HistoriesAreBounded : Type 0 → Type 0 → Type 0 → Type 0 → Type 0
HistoriesAreBounded B C P G = (m : Setup B C P G) (nest : Nest) (what : B × ℕ → ℕ × List ℤ) (start : C) (noted : G → Claims) → IsSetupFor m nest what start noted → (history : List ℕ) (s : State B C P G) → Leads m nest start history s → length history ≤ measure m nest (opening m start nest.opening)

-- Where the costs bound the fuel of all iterations, that measure is within the bound.
abbrev pub OpeningIsWithinBound : Type 0 → Type 0 → Type 0 → Type 0 → Type 0
OpeningIsWithinBound B C P G = (m : Setup B C P G) (nest : Nest) (what : B × ℕ → ℕ × List ℤ) (start : C) (noted : G → Claims) (cost : ℕ → ℕ) → IsSetupFor m nest what start noted → Costs m nest start cost → measure m nest (opening m start nest.opening) ≤ bound m nest start cost

-- The pairs of n epochs are one for each two workers that differ, in both orders, and each two epochs, in one.
abbrev pub PairsAreCounted : Type 0
PairsAreCounted = (width n : ℕ) → 2 * length (pairs width n) ≡ width * (width - 1) * (n * (n - 1))
