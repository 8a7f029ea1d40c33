-- The test whether two sets of claims clash.
use Rattle.std.proofs.Common.{◌≡◌, ℕ, zero, suc, ◌<◌, true, ◌&&◌, ⊎_elim, inl, inr, IsTrue, sym, subst, arith}
use Rattle.std.proofs.lemmas.Bool.{and_parts, and_from, or_cases, or_left, or_right, cases_lt, true≢false}
use Rattle.addr_slice.specs.Claims.{Claimed, has, is_claimed, words_of, clash_at, clash_below, Clash, IsEven, TestTellsClash}
use Rattle.addr_slice.proofs.Sets.{is_set-within}

module _ (first second : Claimed) where
  pub clash_from_word : (word : ℕ) → IsTrue (clash_at first second word) → Clash first second
  clash_from_word word is = (word, ⊎_elim (λ e. inl (and_parts _ _ e)) (λ e. inr (and_parts _ _ e)) (or_cases (has first word true && is_claimed second word) _ is))

  pub at_word : (clash : Clash first second) → IsTrue (clash_at first second clash.0)
  at_word (word, inl both) = or_left _ _ (and_from _ _ both.0 both.1)
  at_word (word, inr both) = or_right (has first word true && is_claimed second word) _ (and_from _ _ both.0 both.1)

  clash_from_below : (n : ℕ) → IsTrue (clash_below first second n) → Clash first second
  clash_from_below zero is = absurd (true≢false (sym is))
  clash_from_below (suc n) is = ⊎_elim (clash_from_below n) (clash_from_word n) (or_cases (clash_below first second n) _ is)

  below_from_word : (n word : ℕ) → word < n → IsTrue (clash_at first second word) → IsTrue (clash_below first second n)
  below_from_word zero word less is = absurd (omega arith)
  below_from_word (suc n) word less is = ⊎_elim
      (λ lower. or_left _ _ (below_from_word n word lower is))
      (λ past. let same : word ≡ n = omega arith in or_right (clash_below first second n) _ (subst (λ w. IsTrue (clash_at first second w)) same is))
      (cases_lt word n)

  -- it is a word of the first
  inside : IsEven first → (clash : Clash first second) → clash.0 < words_of first
  inside even (word, inl both) = let written = is_set-within first.writes word both.0 in omega arith
  inside even (word, inr both) = ⊎_elim (is_set-within first.reads word) (λ e. let written = is_set-within first.writes word e in omega arith) (or_cases _ _ both.0)

pub tells_clash : TestTellsClash
tells_clash first second even = (clash_from_below first second (words_of first), λ clash. below_from_word first second (words_of first) clash.0 (inside first second even clash) (at_word first second clash))

pub Clash-sym : (first second : Claimed) → Clash first second → Clash second first
Clash-sym first second (word, inl both) = (word, inr (both.1, both.0))
Clash-sym first second (word, inr both) = (word, inl (both.1, both.0))
