-- The waits of an iteration: they are of lower iterations, and cover each one of another worker whose claims clash.
use Rattle.std.proofs.Common.{◌≡◌, ℕ, zero, suc, ◌%◌, ◌<◌, ◌≤◌, Bool, true, false, ◌&&◌, if◌then◌else◌, ◌==◌, Option, Some, None, List, [], ◌∷◌, ◌++◌, length, refl, sym, ap, ◌∙◌, inl, inr, ⊎_elim, arith, length-append}
use Rattle.std.proofs.lemmas.Bool.{eq-eqb, ne_eqb, eqb-true, cases_lt, and_parts, and_from}
use Rattle.std.proofs.lemmas.Nat.{mod_below}
use Rattle.domore_machine.specs.Waits.{Wait, greatest, need, wait_for, waits_with, waits_of, Clashes, IsGreatest, NeedsAreGreatest}
use Rattle.domore_machine.specs.Invariant.{Each, Covers, IsWaitOf}
use Rattle.domore_machine.proofs.Seats.{each_append}

module _ (clashes : ℕ → ℕ → Bool) (width k : ℕ) where
  -- the claims of an iteration of a worker clash with those of k
  abbrev passes : ℕ → ℕ → Bool
  passes u j = (j % width == u) && clashes j k

  abbrev on_workers : ℕ → List Wait
  on_workers n = waits_with (need clashes width k) (k % width) n

  -- a number that is found is of the worker, and below n
  abbrev pub IsFound : ℕ → ℕ → Option ℕ → Type 0
  IsFound u n None = Unit {0}
  IsFound u n (Some j) = (j < n) × (j % width ≡ u) × (clashes j k ≡ true)

  found_more : (u n : ℕ) (o : Option ℕ) → IsFound u n o → IsFound u (suc n) o
  found_more u n None f = tt
  found_more u n (Some j) f = let l : j < n = f.0 in (omega arith, f.1, f.2)

  found : (u n : ℕ) → IsFound u n (greatest (passes u) n)
  found u zero = tt
  found u (suc j) = go (passes u j) refl (found u j)
    where
      go : (t : Bool) → passes u j ≡ t → IsFound u j (greatest (passes u) j) → IsFound u (suc j) (if t then Some j else greatest (passes u) j)
      go true e more = (omega arith, eqb-true _ _ (and_parts _ _ e).0, (and_parts (j % width == u) (clashes j k) e).1)
      go false e more = found_more u j (greatest (passes u) j) more

  -- it is the greatest
  abbrev pub IsAtLeast : ℕ → Option ℕ → Type 0
  IsAtLeast i None = ⊥
  IsAtLeast i (Some j) = i ≤ j

  at_least : (u n i : ℕ) → i < n → i % width ≡ u → clashes i k ≡ true → IsAtLeast i (greatest (passes u) n)
  at_least u zero i lt own clash = absurd (omega arith)
  at_least u (suc j) i lt own clash = go (passes u j) refl (λ l. at_least u j i l own clash)
    where
      go : (t : Bool) → passes u j ≡ t → (i < j → IsAtLeast i (greatest (passes u) j)) → IsAtLeast i (if t then Some j else greatest (passes u) j)
      go true e more = omega arith
      go false e more = ⊎_elim more
          (λ ge. let same : i ≡ j = omega arith in
          let both : passes u j ≡ true = and_from _ _ (eq-eqb _ _ (ap (λ x. x % width) (sym same) ∙ own)) (ap (λ x. clashes x k) (sym same) ∙ clash) in
          absurd (cc))
          (cases_lt i j)

  covers_left : (xs ys : List Wait) (j : ℕ) → Covers width xs j → Covers width (xs ++ ys) j
  covers_left [] ys j c = elim c [ ]
  covers_left (w ∷ xs) ys j (inl here) = inl here
  covers_left (w ∷ xs) ys j (inr later) = inr (covers_left xs ys j later)

  covers_right : (xs ys : List Wait) (j : ℕ) → Covers width ys j → Covers width (xs ++ ys) j
  covers_right [] ys j c = c
  covers_right (w ∷ xs) ys j c = inr (covers_right xs ys j c)

  -- the waits on worker u
  abbrev pub on_worker : ℕ → List Wait
  on_worker u = if k % width == u then [] else wait_for u (need clashes width k u)

  covers_need : (u j : ℕ) (o : Option ℕ) → u ≡ j % width → IsAtLeast j o → Covers width (wait_for u o) j
  covers_need u j None own least = elim least [ ]
  covers_need u j (Some i) own least = inl (own, least)

  on_worker_covers : (u j : ℕ) → j < k → u ≡ j % width → (j % width ≡ k % width → ⊥) → clashes j k ≡ true → Covers width (on_worker u) j
  on_worker_covers u j lt own other clash = rw (ne_eqb (k % width) u (λ same. other (sym (same ∙ own)))) (covers_need u j (need clashes width k u) own (at_least u k j lt (sym own) clash))

  below_covers : (n j : ℕ) → j < k → j % width < n → (j % width ≡ k % width → ⊥) → clashes j k ≡ true → Covers width (on_workers n) j
  below_covers zero j lt below other clash = absurd (omega arith)
  below_covers (suc u) j lt below other clash = ⊎_elim
      (λ l. covers_left (on_workers u) (on_worker u) j (below_covers u j lt l other clash))
      (λ ge. covers_right (on_workers u) (on_worker u) j (on_worker_covers u j lt (omega arith) other clash))
      (cases_lt (j % width) u)

  need_waits : (u : ℕ) (o : Option ℕ) → IsFound u k o → Each (IsWaitOf width k) (wait_for u o)
  need_waits u None f = tt
  need_waits u (Some j) f = ((f.0, f.1), tt)

  on_worker_waits : (u : ℕ) → Each (IsWaitOf width k) (on_worker u)
  on_worker_waits u = go (k % width == u)
    where
      go : (t : Bool) → Each (IsWaitOf width k) (if t then [] else wait_for u (need clashes width k u))
      go true = tt
      go false = need_waits u (need clashes width k u) (found u k)

  below_waits : (n : ℕ) → Each (IsWaitOf width k) (on_workers n)
  below_waits zero = tt
  below_waits (suc u) = each_append (IsWaitOf width k) (on_workers u) (on_worker u) (below_waits u) (on_worker_waits u)

  need_few : (u : ℕ) (o : Option ℕ) → length (wait_for u o) ≤ 1
  need_few u None = omega arith
  need_few u (Some j) = omega arith

  on_worker_few : (u : ℕ) → length (on_worker u) ≤ 1
  on_worker_few u = go (k % width == u)
    where
      go : (t : Bool) → length (if t then [] else wait_for u (need clashes width k u)) ≤ 1
      go true = omega arith
      go false = need_few u (need clashes width k u)

  below_few : (n : ℕ) → length (on_workers n) ≤ n
  below_few zero = omega arith
  below_few (suc u) = rw (length-append (on_workers u) (on_worker u)) (let a : length (on_workers u) ≤ u = below_few u in let b : length (on_worker u) ≤ 1 = on_worker_few u in omega arith)

-- each wait is for a lower iteration of its worker
pub waits_are : (clashes : ℕ → ℕ → Bool) (width k : ℕ) → Each (IsWaitOf width k) (waits_of clashes width k)
waits_are clashes width k = below_waits clashes width k width

-- the waits cover each lower iteration of another worker whose claims clash
pub waits_cover : (clashes : ℕ → ℕ → Bool) (width k j : ℕ) → 0 < width → j < k → clashes j k ≡ true → (j % width ≡ k % width → ⊥) → Covers width (waits_of clashes width k) j
waits_cover clashes width k j some lt clash other = below_covers clashes width k width j lt (mod_below j width some) other clash

-- there are no more than workers
pub waits_few : (clashes : ℕ → ℕ → Bool) (width k : ℕ) → length (waits_of clashes width k) ≤ width
waits_few clashes width k = below_few clashes width k width

-- what is needed is the greatest
pub needs_are_greatest : NeedsAreGreatest
needs_are_greatest clashes width k u = go (need clashes width k u) (found clashes width k u k) (λ i c. at_least clashes width k u k i c.lower c.own c.clash)
  where
    go : (o : Option ℕ) → IsFound clashes width k u k o → ((i : ℕ) → Clashes clashes width k u i → IsAtLeast clashes width k i o) → IsGreatest clashes width k u o
    go None f least = least
    go (Some j) f least = (record { lower = f.0; own = f.1; clash = f.2 }, least)
