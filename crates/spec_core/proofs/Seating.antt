-- Seats as they are kept, and as the abstract machine has them.
use Rattle.std.proofs.Common.{◌≡◌, ℕ, zero, suc, ◌+◌, ◌<◌, Bool, ◌&&◌, ◌||◌, List, [], ◌∷◌, map, length, slice_set, refl, ap, ◌∙◌, arith}
use Rattle.std.specs.List.{list_all, list_any}
use Rattle.task_frame.specs.declared.piece.Piece.{Piece}
use Rattle.epoch_plan.specs.declared.tasks.Seen.{Seen}
use Rattle.spec_machine.specs.Machine.{Seat, Hand, seat_at}
use Rattle.spec_core.specs.Hands.{Bench, bench_at, seat_in, seats_from, seats_of}

module _ {G : Type 0} (width : ℕ) (seen : List Seen) where
  pub many : (k : ℕ) (benches : List (Bench G)) → length (seats_from width seen k benches) ≡ length benches
  many k [] = refl
  many k (b ∷ benches) = ap suc (many (suc k) benches)

  -- the seat of a worker
  pub there : (k : ℕ) (benches : List (Bench G)) (u : ℕ) → u < length benches → seat_at (seats_from width seen k benches) u ≡ seat_in width seen (k + u) (bench_at benches u)
  there k [] u lt = absurd (omega arith)
  there k (b ∷ benches) zero lt = let e : k ≡ k + 0 = omega arith in ap (λ n. seat_in width seen n b) e
  there k (b ∷ benches) (suc u) lt = let e : suc k + u ≡ k + suc u = omega arith in there (suc k) benches u (omega arith) ∙ ap (λ n. seat_in width seen n (bench_at benches u)) e

  -- one seat is changed
  pub put : (k : ℕ) (benches : List (Bench G)) (u : ℕ) (b : Bench G) → seats_from width seen k (slice_set benches u b) ≡ slice_set (seats_from width seen k benches) u (seat_in width seen (k + u) b)
  put k [] u b = refl
  put k (c ∷ benches) zero b = let e : k ≡ k + 0 = omega arith in ap (λ n. seat_in width seen n b ∷ seats_from width seen (suc k) benches) e
  put k (c ∷ benches) (suc u) b = let e : suc k + u ≡ k + suc u = omega arith in ap (λ l. seat_in width seen k c ∷ l) (put (suc k) benches u b ∙ ap (λ n. slice_set (seats_from width seen (suc k) benches) u (seat_in width seen n b)) e)

  -- a test of what is held, or of how many are done
  pub all_hands : (test : Hand Piece → Bool) (k : ℕ) (benches : List (Bench G)) → list_all (λ (x : Seat Piece G). test x.hand) (seats_from width seen k benches) ≡ list_all (λ (b : Bench G). test b.hand) benches
  all_hands test k [] = refl
  all_hands test k (b ∷ benches) = ap (λ t. test b.hand && t) (all_hands test (suc k) benches)

  pub any_hands : (test : Hand Piece → Bool) (k : ℕ) (benches : List (Bench G)) → list_any (λ (x : Seat Piece G). test x.hand) (seats_from width seen k benches) ≡ list_any (λ (b : Bench G). test b.hand) benches
  any_hands test k [] = refl
  any_hands test k (b ∷ benches) = ap (λ t. test b.hand || t) (any_hands test (suc k) benches)

  pub all_done : (test : ℕ → Bool) (k : ℕ) (benches : List (Bench G)) → list_all (λ (x : Seat Piece G). test x.done) (seats_from width seen k benches) ≡ list_all (λ (b : Bench G). test b.done) benches
  all_done test k [] = refl
  all_done test k (b ∷ benches) = ap (λ t. test b.done && t) (all_done test (suc k) benches)

  pub dones_are : (k : ℕ) (benches : List (Bench G)) → map (λ (x : Seat Piece G). x.done) (seats_from width seen k benches) ≡ map (λ (b : Bench G). b.done) benches
  dones_are k [] = refl
  dones_are k (b ∷ benches) = ap (λ l. b.done ∷ l) (dones_are (suc k) benches)

pub length_put : {A : Type 0} (xs : List A) (n : ℕ) (x : A) → length (slice_set xs n x) ≡ length xs
length_put [] n x = refl
length_put (y ∷ xs) zero x = refl
length_put (y ∷ xs) (suc n) x = ap suc (length_put xs n x)

-- the seats of all workers, where one is changed and as many are left
pub seats_put : {G : Type 0} (seen : List Seen) (benches : List (Bench G)) (u : ℕ) (b : Bench G) → seats_of seen (slice_set benches u b) ≡ slice_set (seats_of seen benches) u (seat_in (length benches) seen u b)
seats_put seen benches u b =
    let same : length (slice_set benches u b) ≡ length benches = length_put benches u b in
    ap (λ n. seats_from n seen 0 (slice_set benches u b)) same ∙ put (length benches) seen 0 benches u b ∙ (let e : 0 + u ≡ u = omega arith in ap (λ n. slice_set (seats_of seen benches) u (seat_in (length benches) seen n b)) e)

pub seats_there : {G : Type 0} (seen : List Seen) (benches : List (Bench G)) (u : ℕ) → u < length benches → seat_at (seats_of seen benches) u ≡ seat_in (length benches) seen u (bench_at benches u)
seats_there seen benches u lt = there (length benches) seen 0 benches u lt ∙ (let e : 0 + u ≡ u = omega arith in ap (λ n. seat_in (length benches) seen n (bench_at benches u)) e)
