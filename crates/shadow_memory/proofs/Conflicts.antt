-- The last access to a word gives the last iteration that conflicts there.
use Rattle.std.proofs.Common.{◌≡◌, ℕ, zero, suc, ◌+◌, ◌<◌, ◌≤◌, Option, Some, None, arith, ⊎_elim, Bool, true, false, ◌&&◌, ◌||◌, ◌==◌, List, refl, sym, ap, ◌∙◌}
use Rattle.std.proofs.lemmas.Bool.{cases_lt, and_right}
use Rattle.addr_slice.specs.Claims.{Claimed, IsNext, has, is_claimed, is_set, clash_at, clash_below}
use Rattle.shadow_memory.specs.Notes.{Note, greatest, later}
use Rattle.shadow_memory.specs.Accesses.{last_claim, last_conflict}
use Rattle.shadow_memory.proofs.Greatest.{greatest-or, greatest-alike, greatest-none}

-- what conflicts with a write
with_write : (own reads read write : Bool) → ((own && write) || (own && read)) ≡ (own && ((true && (read || write)) || ((reads || true) && write)))
with_write false reads read write = refl
with_write true true true true = refl
with_write true true true false = refl
with_write true true false true = refl
with_write true true false false = refl
with_write true false true true = refl
with_write true false true false = refl
with_write true false false true = refl
with_write true false false false = refl

pub conflict-of_write : (claims : Claimed) (word worker : ℕ) (notes : List Note) → has claims word true ≡ true
    → later (last_claim notes worker word true) (last_claim notes worker word false) ≡ last_conflict notes claims worker word
conflict-of_write claims word worker notes written =
    greatest-or (λ note. (note.worker == worker) && has note.claims word true) (λ note. (note.worker == worker) && has note.claims word false) notes
    ∙ greatest-alike _ _ notes (λ note.
    with_write (note.worker == worker) (is_set claims.reads word) (is_set note.claims.reads word) (is_set note.claims.writes word)
    ∙ ap (λ w. (note.worker == worker) && ((w && is_claimed note.claims word) || ((is_set claims.reads word || w) && has note.claims word true))) (sym written))

-- Word by word: a conflict at the words below one, or there.
unclaimed : (reads writes claimed write : Bool) → (reads || writes) ≡ false → ((writes && claimed) || ((reads || writes) && write)) ≡ false
unclaimed false false claimed write none = refl
unclaimed false true claimed write none = absurd (cc)
unclaimed true writes claimed write none = absurd (cc)

-- words that aren't claimed are passed over
clash-skips : (claims other : Claimed) (n from : ℕ) → from ≤ n → ((k : ℕ) → from ≤ k → k < n → is_claimed claims k ≡ false) → clash_below claims other n ≡ clash_below claims other from
clash-skips claims other zero from le none = let same : from ≡ 0 = omega arith in ap (clash_below claims other) (sym same)
clash-skips claims other (suc n) from le none = ⊎_elim
    (λ (less : from < suc n).
    ap (λ b. clash_below claims other n || b) (unclaimed (is_set claims.reads n) (is_set claims.writes n) (is_claimed other n) (has other n true) (none n (omega arith) (omega arith)))
    ∙ or_false (clash_below claims other n)
    ∙ clash-skips claims other n from (omega arith) (λ k low high. none k low (omega arith)))
    (λ (past : suc n ≤ from). let same : from ≡ suc n = omega arith in ap (clash_below claims other) (sym same))
    (cases_lt from (suc n))
  where
    or_false : (b : Bool) → (b || false) ≡ b
    or_false true = refl
    or_false false = refl

-- the greatest iterations that conflict at the words below `from`
abbrev pub conflict_below : List Note → Claimed → (worker from : ℕ) → Option ℕ
conflict_below notes claims worker from = greatest (λ note. (note.worker == worker) && clash_below claims note.claims from) notes

pub conflict-none : (notes : List Note) (claims : Claimed) (worker : ℕ) → conflict_below notes claims worker 0 ≡ None
conflict-none notes claims worker = greatest-none _ notes (λ note. and_right (note.worker == worker) false refl)

pub conflict-skips : (notes : List Note) (claims : Claimed) (worker from n : ℕ) → from ≤ n → ((k : ℕ) → from ≤ k → k < n → is_claimed claims k ≡ false) → conflict_below notes claims worker from ≡ conflict_below notes claims worker n
conflict-skips notes claims worker from n le none = greatest-alike _ _ notes (λ note. ap (λ b. (note.worker == worker) && b) (sym (clash-skips claims note.claims n from le none)))

pub conflict-next : (notes : List Note) (claims : Claimed) (worker from word : ℕ) → IsNext (is_claimed claims) from (Some word)
    → later (conflict_below notes claims worker from) (last_conflict notes claims worker word) ≡ conflict_below notes claims worker (word + 1)
conflict-next notes claims worker from word next =
    let more : suc word ≡ word + 1 = omega arith in
    ap (λ o. later o (last_conflict notes claims worker word)) (conflict-skips notes claims worker from word next.0 next.2)
    ∙ greatest-or _ _ notes
    ∙ greatest-alike _ _ notes (λ note. out (note.worker == worker) (clash_below claims note.claims word) (clash_at claims note.claims word))
    ∙ ap (conflict_below notes claims worker) more
  where
    out : (own a b : Bool) → ((own && a) || (own && b)) ≡ (own && (a || b))
    out true a b = refl
    out false a b = refl
