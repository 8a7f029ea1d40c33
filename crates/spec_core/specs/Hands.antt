-- A worker as it is kept, and as the abstract machine has it.
use Rattle.std.specs.Prelude.{ℕ, suc, ◌+◌, ◌*◌, List, [], ◌∷◌, map, take, length, slice_index_or}
use Rattle.std.specs.List.{range_with_len}
use Rattle.task_frame.specs.declared.piece.Piece.{Piece}
use Rattle.epoch_plan.specs.declared.tasks.Seen.{Seen}
use Rattle.spec_machine.specs.Machine.{Seat, Hand, Idle, Empty, Running, Stopped}
use Rattle.spec_core.specs.declared.hand.Held.{Held}
use Rattle.spec_core.specs.declared.hand.Held.TheVariants as held

abbrev pub hand_of : Held → Hand Piece
hand_of held.Nothing = Idle
hand_of held.Empty = Empty
hand_of (held.Task number piece) = Running number piece
hand_of held.Stopped = Stopped

-- A worker: what it holds, how many tasks of this segment it has finished and how many it has begun, and the room for the
-- signatures of its tasks, of which those begun are in use.
pub record Bench (G : Type 0) : Type 0 where
  pub hand : Hand Piece
  pub done : ℕ
  pub begun : ℕ
  pub signs : List G

abbrev pub idle_bench : {G : Type 0} → Bench G
idle_bench = record { hand = Idle; done = 0; begun = 0; signs = [] }

-- one that has begun nothing
abbrev pub cleared : {G : Type 0} → Bench G → Bench G
cleared bench = record bench { hand = Idle; done = 0; begun = 0 }

abbrev pub bench_at : {G : Type 0} → List (Bench G) → ℕ → Bench G
bench_at benches u = slice_index_or benches u idle_bench

-- what task (e, u) saw stands at `e * width + u`
abbrev pub seen_at : ℕ → List Seen → (e u : ℕ) → List ℕ
seen_at width seen e u = take width (slice_index_or seen (e * width + u) (record { 0 = [] })).0

-- what the first tasks of a worker saw
abbrev pub seen_by : ℕ → List Seen → (u begun : ℕ) → List (List ℕ)
seen_by width seen u begun = map (λ e. seen_at width seen e u) (range_with_len 0 begun)

abbrev pub seat_in : {G : Type 0} → ℕ → List Seen → ℕ → Bench G → Seat Piece G
seat_in width seen u bench = record { hand = bench.hand; done = bench.done; seen = seen_by width seen u bench.begun; signs = take bench.begun bench.signs }

-- the seats of the workers from u on
abbrev pub seats_from : {G : Type 0} → ℕ → List Seen → ℕ → List (Bench G) → List (Seat Piece G)
seats_from width seen u [] = []
seats_from width seen u (bench ∷ benches) = seat_in width seen u bench ∷ seats_from width seen (suc u) benches

abbrev pub seats_of : {G : Type 0} → List Seen → List (Bench G) → List (Seat Piece G)
seats_of seen benches = seats_from (length benches) seen 0 benches
