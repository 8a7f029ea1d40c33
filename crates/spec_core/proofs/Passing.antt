-- Unordered pairs, what is passed of them, and the pair due, as they are kept and as the abstract machine has them.
use Rattle.std.proofs.Common.{◌≡◌, ℕ, zero, suc, ◌+◌, ◌<◌, nat_le, List, [], map, length, slice_index_or, ap, ◌∙◌, arith}
use Rattle.std.specs.List.{range_with_len}
use Rattle.epoch_plan.specs.declared.tasks.Seen.{Seen}
use Rattle.spec_machine.specs.Facts.{Pair}
use Rattle.spec_machine.specs.Machine.{Seat, saw, is_unordered}
use Rattle.task_frame.specs.declared.piece.Piece.{Piece}
use Rattle.spec_core.specs.Hands.{Bench, bench_at, seen_at, seats_of}
use Rattle.spec_core.specs.Passed.{unordered_in}
use Rattle.spec_core.proofs.Seating.{seats_there}

-- what a worker's task saw is what stands there, where it has begun
rows_there : (width : ℕ) (seen : List Seen) (u k n e : ℕ) → e < n → slice_index_or (map (λ d. seen_at width seen d u) (range_with_len k n)) e [] ≡ seen_at width seen (k + e) u
rows_there width seen u k zero e lt = absurd (omega arith)
rows_there width seen u k (suc n) zero lt = let z : k ≡ k + 0 = omega arith in ap (λ d. seen_at width seen d u) z
rows_there width seen u k (suc n) (suc e) lt = let z : k + 1 + e ≡ k + suc e = omega arith in rows_there width seen u (k + 1) n e (omega arith) ∙ ap (λ d. seen_at width seen d u) z

pub saw_there : {G : Type 0} (seen : List Seen) (benches : List (Bench G)) (e u v : ℕ) → u < length benches → e < (bench_at benches u).begun → saw (seats_of seen benches) e u v ≡ slice_index_or (seen_at (length benches) seen e u) v 0
saw_there {G} seen benches e u v own begun =
    ap (λ (x : Seat Piece G). slice_index_or (slice_index_or x.seen e []) v 0) (seats_there seen benches u own)
    ∙ ap (λ (row : List ℕ). slice_index_or row v 0) (rows_there (length benches) seen u 0 (bench_at benches u).begun e begun ∙ (let z : 0 + e ≡ e = omega arith in ap (λ d. seen_at (length benches) seen d u) z))

pub unordered_there : {G : Type 0} (seen : List Seen) (benches : List (Bench G)) (p : Pair) → p.late.worker < length benches → p.late.epoch < (bench_at benches p.late.worker).begun
    → is_unordered (seats_of seen benches) p ≡ unordered_in (length benches) seen p
unordered_there seen benches p own begun = ap (λ n. nat_le n p.early.epoch) (saw_there seen benches p.late.epoch p.late.worker p.early.worker own begun)
