-- A number as it is printed is the number that it spells.
use Rattle.std.proofs.Common.{◌≡◌, ℕ, ◌+◌, ◌-◌, ◌*◌, ◌/◌, ◌%◌, ◌<◌, ◌≤◌, ◌^◌, true, ◌&&◌, List, [], ◌∷◌, ◌++◌, length, get_or, ap, ◌∙◌, inl, inr, arith}
use Rattle.std.specs.List.{list_all}
use Rattle.std.specs.Fmt.{decimal}
use Rattle.std.proofs.lemmas.Fmt.{decimal_by_steps, decimal_digit, first_decimal}
use Rattle.std.proofs.lemmas.List.{length-append}
use Rattle.std.proofs.lemmas.List.Folds.{list_all-append}
use Rattle.std.proofs.lemmas.List.Sums.{fold-append}
use Rattle.std.proofs.lemmas.Bool.{cases_lt}
use Rattle.std.proofs.lemmas.Bool.Decides.{nat_tests}
use Rattle.nest_lex.specs.Bytes.{is_digit}
use Rattle.nest_lex.specs.Spelling.{decimal as said_by, IsNumber}

abbrev Spelled : ℕ → List ℕ → Type 0
Spelled n digits = (list_all is_digit digits ≡ true) × (said_by digits ≡ n) × (1 ≤ length digits)

is_a_digit : (d : ℕ) → d < 10 → is_digit (48 + d) ≡ true
is_a_digit d small = grind (arith, nat_tests)

one_digit : (n : ℕ) → n < 10 → Spelled n ((48 + n) ∷ [])
one_digit n small = (ap (λ b. b && true) (is_a_digit n small), omega arith, omega arith)

all_and_last : (ds : List ℕ) (d : ℕ) → list_all is_digit ds ≡ true → is_digit d ≡ true → list_all is_digit (ds ++ d ∷ []) ≡ true
all_and_last ds d all last = list_all-append is_digit ds (d ∷ []) ∙ ap (λ b. b && (is_digit d && true)) all ∙ ap (λ b. b && true) last

one_digit_more : (n : ℕ) (ds : List ℕ) → 10 ≤ n → Spelled (n / 10) ds → Spelled n (ds ++ ((48 + n % 10) ∷ []))
one_digit_more n ds big spelled =
    let value = fold-append (λ (v : ℕ) (digit : ℕ). 10 * v + (digit - 48)) 0 ds ((48 + n % 10) ∷ []) in
    (all_and_last ds (48 + n % 10) spelled.0 (is_a_digit (n % 10) (omega arith)), omega (arith, value, spelled.1), omega (arith, length-append ds ((48 + n % 10) ∷ [])))

spelled : (n : ℕ) → n < 2 ^ 64 → Spelled n (decimal n)
spelled = decimal_by_steps Spelled one_digit one_digit_more

lone_zero : (n : ℕ) → n < 2 ^ 64 → get_or (decimal n) 0 0 ≡ 48 → length (decimal n) ≡ 1
lone_zero n small zero = elim (cases_lt 0 n) [
  | inl more ↦ absurd (omega (arith, first_decimal n more small))
  | inr none ↦ ap length (decimal_digit n (omega arith))
]

pub is_number : (n : ℕ) → n ≤ 9223372036854775807 → IsNumber (decimal n) n
is_number n small =
    let fits : n < 2 ^ 64 = omega arith in
    let is = spelled n fits in
    record { some = is.2; digits = is.0; lone_zero = lone_zero n fits; says = is.1; small = small }
