-- The value of an expression, from the values of the scalars (one for each name of the program) and the words of the
-- arrays. Operands are evaluated from left to right; `&&`, `||` and `?:` evaluate only what they need. `Turn` says the same
-- order step by step, and the law `reckonings_are_values` that the two agree.
use Rattle.std.specs.Prelude.{ℕ, ℤ, pos, Bool, true, false, ◌||◌, if◌then◌else◌, Result, Ok, Err, List, slice_index_or, slice_set}
use Rattle.std.specs.Option.{option_map_or}
use Rattle.nest_syntax.specs.declared.operators.Bin.{Bin}
use Rattle.nest_syntax.specs.declared.operators.Bin.TheVariants as bin
use Rattle.nest_syntax.specs.declared.operators.Cause.{Cause}
use Rattle.nest_syntax.specs.declared.operators.Cause.TheVariants as cause
use Rattle.nest_syntax.specs.declared.tree.Expr.{Expr}
use Rattle.nest_syntax.specs.declared.tree.Expr.TheOpen.{Expr-F}
use Rattle.nest_syntax.specs.declared.tree.Expr.TheFolds.{fold-Expr}
use Rattle.nest_syntax.specs.Words.{is_zero, truth, apply, apply_un}
use Rattle.nest_syntax.specs.Arrays.{Array, located, sizes_of, word_number, word_at, array_of, is_fixed}

-- the value of a scalar, by the number of its name
abbrev pub scalar_at : List ℤ → ℕ → ℤ
scalar_at scalars name = slice_index_or scalars name (pos 0)

abbrev pub with_scalar : List ℤ → ℕ → ℤ → List ℤ
with_scalar scalars name value = slice_set scalars name value

-- goes on with a value; a trap ends the evaluation
abbrev pub and_then : {A B : Type 0} → Result A Cause → (A → Result B Cause) → Result B Cause
and_then (Ok value) go = go value
and_then (Err cause) go = Err cause

-- the word at a subscript
abbrev pub read : List Array → List ℤ → ℕ → ℤ → Result ℤ Cause
read arrays words name at = option_map_or (λ (p : ℕ × ℕ). Ok (word_at words (word_number (sizes_of arrays) p.0 p.1))) (located arrays name at) (Err cause.Index)

-- a binary operation, behind its left operand: the right one counts only where it is needed
abbrev pub operate : Bin → ℤ → Result ℤ Cause → Result ℤ Cause
operate bin.Both left right = if is_zero left then Ok (pos 0) else and_then right (λ value. Ok (truth value))
operate bin.Either left right = if is_zero left then and_then right (λ value. Ok (truth value)) else Ok (pos 1)
operate operation left right = and_then right (apply operation left)

-- one layer of an expression, with the values of its parts in their places
abbrev pub value_node : List Array → List ℤ → List ℤ → Expr-F (Result ℤ Cause) → Result ℤ Cause
value_node arrays scalars words (Expr-F.Number n) = Ok n
value_node arrays scalars words (Expr-F.Scalar name) = Ok (scalar_at scalars name)
value_node arrays scalars words (Expr-F.Word name place) = and_then place (read arrays words name)
value_node arrays scalars words (Expr-F.Unary operation part) = and_then part (λ value. Ok (apply_un operation value))
value_node arrays scalars words (Expr-F.Binary operation left right) = and_then left (λ value. operate operation value right)
value_node arrays scalars words (Expr-F.Choice test first second) = and_then test (λ value. if is_zero value then second else first)

-- the value of an expression, or the cause of its trap
abbrev pub value : List Array → List ℤ → List ℤ → Expr → Result ℤ Cause
value arrays scalars words = fold-Expr (Result ℤ Cause) (value_node arrays scalars words)

-- whether the array of this name is there and isn't `const`
abbrev pub is_written : List Array → ℕ → Bool
is_written arrays name = option_map_or (λ n. if is_fixed arrays n then false else true) (array_of arrays name) false

abbrev pub names_written_node : List Array → Expr-F Bool → Bool
names_written_node arrays (Expr-F.Word name place) = is_written arrays name || place
names_written_node arrays (Expr-F.Unary operation part) = part
names_written_node arrays (Expr-F.Binary operation left right) = left || right
names_written_node arrays (Expr-F.Choice test first second) = test || (first || second)
names_written_node arrays other = false

-- whether an expression names a written array, one that isn't `const`
abbrev pub names_written : List Array → Expr → Bool
names_written arrays = fold-Expr Bool (names_written_node arrays)
