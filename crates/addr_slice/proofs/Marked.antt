-- A set that knows which stretches are in it as a whole.
use Rattle.std.proofs.Common.{◌≡◌, ◌≢◌, ℕ, ◌<◌, ◌≤◌, true, false, Some, List, Bool, length, set, replicate, ⊎_elim, ap, sym, ◌∙◌, arith}
use Rattle.std.proofs.lemmas.Bool.{cases_Bool, cases_eq, cases_lt, true≢false}
use Rattle.std.proofs.lemmas.List.{get_or-set_same, get_or-set_other, length-set}
use Rattle.addr_slice.specs.Claims.{IsNext, is_set}
use Rattle.addr_slice.specs.WordSet.{AreSet, IsMarked}
use Rattle.addr_slice.proofs.Sets.{none_set}
use Rattle.addr_slice.proofs.Held.{set-stays}

module _ (flags starts ends : List Bool) (kept : IsMarked flags starts ends) where
  -- up to the next end behind a start all are in the set
  pub marked-set : (first last end : ℕ) → is_set starts first ≡ true → IsNext (is_set ends) first (Some end) → last ≤ end → AreSet flags first last
  marked-set first last end start next within = λ word from to. kept.whole first word start from (λ k low high. next.2 k low (omega (arith, high, to, within)))

  -- one more word
  pub marked-more : (n : ℕ) → IsMarked (set flags n true) starts ends
  marked-more n = record {
    a_start_each = kept.a_start_each ∙ sym (length-set flags n true);
    an_end_each = kept.an_end_each ∙ sym (length-set flags n true);
    whole = λ first word start from none. set-stays flags n word (kept.whole first word start from none);
  }

  -- one more stretch
  pub marked-whole : (first last : ℕ) → first ≤ last → last < length flags → AreSet flags first last → IsMarked flags (set starts first true) (set ends last true)
  marked-whole first last order inside all = record {
    a_start_each = length-set starts first true ∙ kept.a_start_each;
    an_end_each = length-set ends last true ∙ kept.an_end_each;
    whole = λ start word is from none. ⊎_elim
        (λ (e : start ≡ first). all word (omega (arith, e, from)) (⊎_elim
        (λ (past : last < word). absurd (true≢false (sym (get_or-set_same ends last true false (omega (arith, inside, kept.an_end_each))) ∙ none last (omega (arith, e, order)) past)))
        (λ (to : word ≤ last). to)
        (cases_lt last word)))
        (λ (apart : start ≢ first). kept.whole start word (sym (get_or-set_other starts first start true false apart) ∙ is) from (λ k low high. unset k (none k low high)))
        (cases_eq start first);
  }
    where
      unset : (k : ℕ) → is_set (set ends last true) k ≡ false → is_set ends k ≡ false
      unset k none = ⊎_elim
          (λ (is : is_set ends k ≡ true). absurd (true≢false (sym (set-stays ends last k is) ∙ none)))
          (λ is. is)
          (cases_Bool (is_set ends k))

-- no stretch
pub marked-none : (n : ℕ) (flags starts ends : List Bool) → flags ≡ replicate n false → starts ≡ replicate n false → ends ≡ replicate n false → IsMarked flags starts ends
marked-none n flags starts ends e f g = record {
  a_start_each = ap length f ∙ sym (ap length e);
  an_end_each = ap length g ∙ sym (ap length e);
  whole = λ first word start from none. absurd (true≢false (sym start ∙ ap (λ s. is_set s first) f ∙ none_set n first));
}
