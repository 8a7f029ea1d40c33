-- Blocks are shares.
use Rattle.std.proofs.Common.{◌≡◌, ℕ, suc, ◌+◌, ◌*◌, ◌/◌, ◌%◌, ◌<◌, ◌≤◌, ◌⊎◌, Bool, true, false, ◌==◌, if◌then◌else◌, refl, sym, ap, ◌∙◌, subst, inl, inr, arith}
use Rattle.std.proofs.lemmas.Bool.{cases_order, le-leb, lt-leb, eq-eqb, eqb-true}
use Rattle.spec_machine.specs.Machine.{share}
use Rattle.spec_setup.specs.Blocks.{BlocksAreShares}

module _ (count index worker workers : ℕ) where
  abbrev block_by : Bool → ℕ × ℕ
  block_by all = if all then (count * worker / workers, count * (worker + 1) / workers) else if index % workers == worker then (0, count) else (0, 0)

  one_more : worker + 1 ≡ suc worker
  one_more = omega arith

  -- the shares of a loop that goes whole to one worker, before it, of it and behind it
  nothing : (w : ℕ) → w ≤ index % workers → share false workers index count w ≡ 0
  nothing w le = ap (λ b. if b then 0 else count) (le-leb w (index % workers) le)

  all_of : (w : ℕ) → index % workers < w → share false workers index count w ≡ count
  all_of w lt = ap (λ b. if b then 0 else count) (lt-leb w (index % workers) lt)

  whole : (all : Bool) → share all workers index count worker < share all workers index count (suc worker) → block_by all ≡ (share all workers index count worker, share all workers index count (suc worker))
  whole true lt = ap (λ k. let b : ℕ × ℕ = (count * worker / workers, count * k / workers) in b) one_more
  whole false lt = by (cases_order worker (index % workers))
    where
      by : (worker ≡ index % workers) ⊎ ((worker < index % workers) ⊎ (index % workers < worker)) → block_by false ≡ (share false workers index count worker, share false workers index count (suc worker))
      by (inl same) =
          let here : (index % workers == worker) ≡ true = eq-eqb (index % workers) worker (sym same) in
          let low : share false workers index count worker ≡ 0 = nothing worker (omega (arith, same)) in
          let high : share false workers index count (suc worker) ≡ count = all_of (suc worker) (omega (arith, same)) in
          ap (λ b. let x : ℕ × ℕ = if b then (0, count) else (0, 0) in x) here ∙ sym (λ i. (low i, high i))
      by (inr (inl before)) =
          let low : share false workers index count worker ≡ 0 = nothing worker (omega (arith, before)) in
          let high : share false workers index count (suc worker) ≡ 0 = nothing (suc worker) (omega (arith, before)) in
          absurd (omega (arith, low, high, lt))
      by (inr (inr past)) =
          let low : share false workers index count worker ≡ count = all_of worker past in
          let high : share false workers index count (suc worker) ≡ count = all_of (suc worker) (omega (arith, past)) in
          absurd (omega (arith, low, high, lt))

  empty : (all : Bool) → share all workers index count (suc worker) ≤ share all workers index count worker → (block_by all).1 ≤ (block_by all).0
  empty true le = subst (λ k. count * k / workers ≤ count * worker / workers) (sym one_more) le
  empty false le = by (index % workers == worker) refl
    where
      by : (b : Bool) → (index % workers == worker) ≡ b → (let x : ℕ × ℕ = if b then (0, count) else (0, 0) in x).1 ≤ (let x : ℕ × ℕ = if b then (0, count) else (0, 0) in x).0
      by true here =
          let same : index % workers ≡ worker = eqb-true (index % workers) worker here in
          let low : share false workers index count worker ≡ 0 = nothing worker (omega (arith, same)) in
          let high : share false workers index count (suc worker) ≡ count = all_of (suc worker) (omega (arith, same)) in
          omega (arith, low, high, le)
      by false other = omega arith

pub are_shares : BlocksAreShares
are_shares epoch index workers worker = record { whole = whole epoch.trips index worker workers epoch.all; empty = empty epoch.trips index worker workers epoch.all }
