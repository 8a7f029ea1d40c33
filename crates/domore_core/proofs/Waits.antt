-- What the shadow needs of the iterations that were noted gives the waits of the next one.
use Rattle.std.proofs.Common.{◌≡◌, ℕ, zero, suc, ◌%◌, ◌≤◌, ◌<◌, max, Bool, true, false, ◌&&◌, ◌==◌, if◌then◌else◌, Option, Some, None, List, [], ◌∷◌, ◌++◌, slice_index_or, append-nil, refl, sym, ap, ◌∙◌, subst, arith, ⊎_elim}
use Rattle.std.proofs.lemmas.Bool.{and_left, cases_eq, cases_lt, eq-eqb, ne_eqb, cond-true, cond-false}
use Rattle.std.proofs.lemmas.Nat.{mod_below}
use Rattle.addr_slice.specs.Claims.{Claimed, clash, clashes}
use Rattle.shadow_memory.specs.Notes.{Note, later}
use Rattle.shadow_memory.specs.Notes as notes
use Rattle.shadow_memory.specs.Accesses.{LastAccesses, IsNoted}
use Rattle.domore_machine.specs.Waits.{Wait, wait_for, waits_with, waits_of}
use Rattle.domore_machine.specs.Waits as machine
use Rattle.domore_core.specs.Tickets.{waits_in}
use Rattle.domore_core.specs.Tables.{notes_below}

-- greatest numbers
greatest-less : (P : ℕ → Bool) (n a : ℕ) → machine.greatest P n ≡ Some a → a < n
greatest-less P zero a is = absurd (let no : None ≡ Some a = is in cc)
greatest-less P (suc n) a is = go (P n) is (λ e. greatest-less P n a e)
  where
    go : (t : Bool) → (if t then Some n else machine.greatest P n) ≡ Some a → (machine.greatest P n ≡ Some a → a < n) → a < suc n
    go true e rest = let same : n ≡ a = cc in omega arith
    go false e rest = let less = rest e in omega arith

greatest-none : (P : ℕ → Bool) (n : ℕ) → ((j : ℕ) → P j ≡ false) → machine.greatest P n ≡ None
greatest-none P zero none = refl
greatest-none P (suc n) none = cond-false (P n) _ _ (none n) ∙ greatest-none P n none

later-first : (n : ℕ) (o : Option ℕ) → ((b : ℕ) → o ≡ Some b → b < n) → later (Some n) o ≡ Some n
later-first n None less = refl
later-first n (Some b) less = let below = less b refl in ap Some (let e : max n b ≡ n = omega arith in e)

module _ (claims : ℕ → Claimed) (width : ℕ) where
  abbrev note_at : ℕ → Note
  note_at j = record { worker = j % width; number = j; claims = claims j }

  -- of the notes below n that pass a test, the greatest is the greatest number that does
  greatest-is : (test : Note → Bool) (n : ℕ) → notes.greatest test (notes_below claims width n) ≡ machine.greatest (λ j. test (note_at j)) n
  greatest-is test zero = refl
  greatest-is test (suc n) = go (test (note_at n)) (greatest-is test n)
    where
      go : (t : Bool) → notes.greatest test (notes_below claims width n) ≡ machine.greatest (λ j. test (note_at j)) n
          → (if t then later (Some n) (notes.greatest test (notes_below claims width n)) else notes.greatest test (notes_below claims width n)) ≡ (if t then Some n else machine.greatest (λ j. test (note_at j)) n)
      go true is = ap (later (Some n)) is ∙ later-first n (machine.greatest (λ j. test (note_at j)) n) (λ b e. greatest-less (λ j. test (note_at j)) n b e)
      go false is = is

  need-is : (k other : ℕ) → notes.need (notes_below claims width k) (claims k) (k % width) other ≡ (if other == k % width then None else machine.need (clashes claims) width k other)
  unfolding clashes
  need-is k other = ap (λ o. if other == k % width then None else o) (greatest-is (λ note. (note.worker == other) && clash (claims k) note.claims) k)

-- Of 8 places those of the worker itself, and of workers that aren't there, have no wait.
module _ (need found : ℕ → Option ℕ) (own width : ℕ) (few : width ≤ 8) (is : (u : ℕ) → found u ≡ (if u == own then None else need u)) (none : (u : ℕ) → width ≤ u → need u ≡ None) where
  wait-is : (u : ℕ) → wait_for u (found u) ≡ (if own == u then [] else wait_for u (need u))
  wait-is u = ap (wait_for u) (is u) ∙ ⊎_elim
      (λ (same : u ≡ own). ap (wait_for u) (cond-true (u == own) _ _ (eq-eqb u own same)) ∙ sym (cond-true (own == u) _ _ (eq-eqb own u (sym same))))
      (λ (other : u ≡ own → ⊥). ap (wait_for u) (cond-false (u == own) _ _ (ne_eqb u own other)) ∙ sym (cond-false (own == u) _ _ (ne_eqb own u (λ same. other (sym same)))))
      (cases_eq u own)

  in-place : (u : ℕ) → u < 8 → (if 8 == u then [] else wait_for u (found u)) ≡ wait_for u (found u)
  in-place u below = cond-false (8 == u) _ _ (ne_eqb 8 u (λ same. absurd (omega arith)))

  there : (n : ℕ) → n ≤ 8 → waits_with found 8 n ≡ waits_with need own n
  there zero le = refl
  there (suc u) le =
      ap (λ (ws : List Wait). ws ++ (if 8 == u then [] else wait_for u (found u))) (there u (omega arith))
      ∙ ap (λ (ws : List Wait). waits_with need own u ++ ws) (in-place u (omega arith) ∙ wait-is u)

  found-none : (u : ℕ) → width ≤ u → found u ≡ None
  found-none u past = is u ∙ ⊎_elim
      (λ (same : u ≡ own). cond-true (u == own) _ _ (eq-eqb u own same))
      (λ (other : u ≡ own → ⊥). cond-false (u == own) _ _ (ne_eqb u own other) ∙ none u past)
      (cases_eq u own)

  beyond : (n : ℕ) → n ≤ 8 → width ≤ n → waits_with found 8 n ≡ waits_with need own width
  beyond zero le past = let same : width ≡ 0 = omega arith in there 0 le ∙ ap (waits_with need own) (sym same)
  beyond (suc u) le past = ⊎_elim
      (λ (less : width < suc u).
      ap (λ (ws : List Wait). waits_with found 8 u ++ ws) (in-place u (omega arith) ∙ ap (wait_for u) (found-none u (omega arith)))
      ∙ append-nil (waits_with found 8 u) ∙ beyond u (omega arith) (omega arith))
      (λ (ge : suc u ≤ width). let same : suc u ≡ width = omega arith in there (suc u) le ∙ ap (waits_with need own) same)
      (cases_lt width (suc u))

-- The waits in 8 places that are as the shadow's needs are those of the definition.
pub waits-are : (claims : ℕ → Claimed) (width k : ℕ) (by_worker : List (Option ℕ)) → 0 < width → width ≤ 8
    → ((other : ℕ) → slice_index_or by_worker other None ≡ notes.need (notes_below claims width k) (claims k) (k % width) other)
    → waits_in by_worker ≡ waits_of (clashes claims) width k
waits-are claims width k by_worker some few is =
    beyond (machine.need (clashes claims) width k) (λ u. slice_index_or by_worker u None) (k % width) width few (λ u. is u ∙ need-is claims width k u) none 8 (omega arith) few
  where
    none : (u : ℕ) → width ≤ u → machine.need (clashes claims) width k u ≡ None
    none u past = greatest-none _ k (λ j. and_left (j % width == u) (clashes claims j k) (ne_eqb (j % width) u (λ same. let below = mod_below j width some in absurd (omega (arith, below, same)))))

-- one iteration more is noted
pub noted-next : (each : ℕ → Claimed) (width k : ℕ) (shadow : LastAccesses) (worker : ℕ) (claims : Claimed) → claims ≡ each k → worker ≡ k % width
    → IsNoted shadow (record { worker = worker; number = k; claims = claims } ∷ notes_below each width k) → IsNoted shadow (notes_below each width (suc k))
noted-next each width k shadow worker claims is own noted =
    subst (λ (w : ℕ). IsNoted shadow (record { worker = w; number = k; claims = each k } ∷ notes_below each width k)) own
    (subst (λ (c : Claimed). IsNoted shadow (record { worker = worker; number = k; claims = c } ∷ notes_below each width k)) is noted)
