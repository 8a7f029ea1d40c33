-- Four words added and subtracted in 128 bits.
use Rattle.std.proofs.Common.{rules, ◌≡◌, ℤ, ◌+ℤ◌, ◌-ℤ◌, FitsSigned, w64, refl, sym, ap, ◌∙◌, subst, arith}
use Rattle.std.proofs.lemmas.Int.{ints, to_z-of_z}
use mir.Syntax.{w128}
use mir.Val.{to_z, of_z}

abbrev kept : ℤ → ℤ
kept z = to_z w128 (of_z w128 z)

widened : (z : ℤ) → FitsSigned w64 z → FitsSigned w128 z
widened z h = first_of (omega (arith, ints), search rules)

module _ (a b c d : ℤ) (fits : FitsSigned w64 a) (fits' : FitsSigned w64 b) (fits2 : FitsSigned w64 c) (fits3 : FitsSigned w64 d) where
  first : FitsSigned w128 (a -ℤ b)
  first = first_of (omega (arith, ints), search rules)

  second : FitsSigned w128 ((a -ℤ b) +ℤ c)
  second = first_of (omega (arith, ints), search rules)

  third : FitsSigned w128 (((a -ℤ b) +ℤ c) -ℤ d)
  third = first_of (omega (arith, ints), search rules)

  one : kept (kept a -ℤ kept b) ≡ a -ℤ b
  one = ap kept (ap (λ x. x -ℤ kept b) (to_z-of_z w128 a (widened a fits)) ∙ ap (λ y. a -ℤ y) (to_z-of_z w128 b (widened b fits'))) ∙ to_z-of_z w128 (a -ℤ b) first

  two : kept (kept (kept a -ℤ kept b) +ℤ kept c) ≡ (a -ℤ b) +ℤ c
  two = ap kept (ap (λ x. x +ℤ kept c) one ∙ ap (λ y. (a -ℤ b) +ℤ y) (to_z-of_z w128 c (widened c fits2))) ∙ to_z-of_z w128 ((a -ℤ b) +ℤ c) second

  before : kept (kept (kept a -ℤ kept b) +ℤ kept c) -ℤ kept d ≡ ((a -ℤ b) +ℤ c) -ℤ d
  before = ap (λ x. x -ℤ kept d) two ∙ ap (λ y. ((a -ℤ b) +ℤ c) -ℤ y) (to_z-of_z w128 d (widened d fits3))

  pub fits_four : FitsSigned w128 (kept (kept (kept a -ℤ kept b) +ℤ kept c) -ℤ kept d)
  fits_four = subst (FitsSigned w128) (sym before) third

  pub value_four : kept (kept (kept (kept a -ℤ kept b) +ℤ kept c) -ℤ kept d) ≡ ((a -ℤ b) +ℤ c) -ℤ d
  value_four = ap kept before ∙ to_z-of_z w128 (((a -ℤ b) +ℤ c) -ℤ d) third
