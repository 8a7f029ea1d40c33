-- Words and their operations. A word is a whole number of 64 bits with its sign, from -2^63 to 2^63 - 1. Results
-- wrap: of the numbers that differ from the true result by a multiple of 2^64, the one that is a word.
use Rattle.std.specs.Prelude.{ℕ, ◌+◌, ◌-◌, ◌*◌, ◌/◌, ◌^◌, ℤ, pos, ◌+ℤ◌, ◌-ℤ◌, ◌*ℤ◌, neg_ℤ, Bool, true, false, not, if◌then◌else◌, ◌&&◌, ◌||◌, Option, Some, None, Result, Ok, Err, nat_le, int_lt, int_le, int_div, unsigned_abs}
use Rattle.std.specs.Int.{w64, int_wrap, int_gap, int_bit_and, int_bit_or, int_bit_xor, int_bit_not, int_div_euclid, int_rem_euclid}
use Rattle.std.specs.Ordering.{int_eq}
use Rattle.nest_syntax.specs.declared.operators.Un.{Un}
use Rattle.nest_syntax.specs.declared.operators.Un.TheVariants as un
use Rattle.nest_syntax.specs.declared.operators.Bin.{Bin}
use Rattle.nest_syntax.specs.declared.operators.Bin.TheVariants as bin
use Rattle.nest_syntax.specs.declared.operators.Op.{Op}
use Rattle.nest_syntax.specs.declared.operators.Op.TheVariants as op
use Rattle.nest_syntax.specs.declared.operators.Cause.{Cause}
use Rattle.nest_syntax.specs.declared.operators.Cause.TheVariants as cause

-- the word that differs from a number by a multiple of 2^64
abbrev pub wrap : ℤ → ℤ
wrap n = int_wrap w64 n

abbrev pub is_zero : ℤ → Bool
is_zero n = int_eq n (pos 0)

-- 1 for true and 0 for false
abbrev pub flag : Bool → ℤ
flag true = pos 1
flag false = pos 0

-- 1 for any word but 0
abbrev pub truth : ℤ → ℤ
truth n = flag (not (is_zero n))

-- the quotient truncated towards 0, and what it leaves: `a % b` is `a - b*q`. A divisor of 0 traps.
abbrev pub quotient : ℤ → ℤ → Result ℤ Cause
quotient a b = if is_zero b then Err cause.Divide else Ok (wrap (int_div a b))

abbrev pub remainder : ℤ → ℤ → Result ℤ Cause
remainder a b = if is_zero b then Err cause.Divide else Ok (a -ℤ b *ℤ int_div a b)

-- the number from 0 to 63 that differs from a word by a multiple of 64
abbrev pub shift_count : ℤ → ℕ
shift_count b = unsigned_abs (int_rem_euclid b (pos 64))

-- A binary operation of two words. `&&` and `||` are here what they are of two words that are both known.
abbrev pub apply : Bin → ℤ → ℤ → Result ℤ Cause
apply bin.Add a b = Ok (wrap (a +ℤ b))
apply bin.Sub a b = Ok (wrap (a -ℤ b))
apply bin.Mul a b = Ok (wrap (a *ℤ b))
apply bin.Div a b = quotient a b
apply bin.Rem a b = remainder a b
apply bin.Shl a b = Ok (wrap (a *ℤ pos (2 ^ shift_count b)))
apply bin.Shr a b = Ok (int_div_euclid a (pos (2 ^ shift_count b)))
apply bin.And a b = Ok (int_bit_and w64 a b)
apply bin.Xor a b = Ok (int_bit_xor w64 a b)
apply bin.Or a b = Ok (int_bit_or w64 a b)
apply bin.Less a b = Ok (flag (int_lt a b))
apply bin.LessEq a b = Ok (flag (int_le a b))
apply bin.More a b = Ok (flag (int_lt b a))
apply bin.MoreEq a b = Ok (flag (int_le b a))
apply bin.Equal a b = Ok (flag (int_eq a b))
apply bin.NotEqual a b = Ok (flag (not (int_eq a b)))
apply bin.Both a b = Ok (flag (not (is_zero a) && not (is_zero b)))
apply bin.Either a b = Ok (flag (not (is_zero a) || not (is_zero b)))

-- A unary operation: `-`, `!` (0 or 1), `~`.
abbrev pub apply_un : Un → ℤ → ℤ
apply_un un.Neg a = wrap (neg_ℤ a)
apply_un un.Not a = flag (is_zero a)
apply_un un.Flip a = int_bit_not w64 a

-- the operation of an `op=`, none for `=`
abbrev pub operation_of : Op → Option Bin
operation_of op.Set = None
operation_of op.Add = Some bin.Add
operation_of op.Sub = Some bin.Sub
operation_of op.Mul = Some bin.Mul
operation_of op.Div = Some bin.Div
operation_of op.Rem = Some bin.Rem
operation_of op.Shl = Some bin.Shl
operation_of op.Shr = Some bin.Shr
operation_of op.And = Some bin.And
operation_of op.Xor = Some bin.Xor
operation_of op.Or = Some bin.Or

-- the new value of an assignment, from the old one and the value of its right side
abbrev pub assigned : Option Bin → ℤ → ℤ → Result ℤ Cause
assigned None old value = Ok value
assigned (Some operation) old value = apply operation old value

-- How often a loop turns, over whole numbers, with a step above 0: for `<` the least count with `low + count*step`
-- not below `high`, for `<=` the least with it above `high`, and never below 0.
abbrev pub turns : ℤ → ℤ → ℕ → Bool → ℕ
turns low high step false = (int_gap low high + (step - 1)) / step
turns low high step true = if int_lt high low then 0 else int_gap low high / step + 1

-- the most turns that a loop may have
abbrev pub most_turns : ℕ
most_turns = 16777216

-- the count of turns, where it is allowed
abbrev pub counted : ℕ → Result ℕ Cause
counted n = if nat_le n most_turns then Ok n else Err cause.Loop

-- the value of a loop's variable in turn k
abbrev pub variable : ℤ → ℕ → ℕ → ℤ
variable low step k = low +ℤ pos (k * step)
