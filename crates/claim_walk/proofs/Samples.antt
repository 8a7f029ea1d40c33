-- A small sample, worked out by hand: iteration 1 of a loop over `a[p[i]] = i + 7;`, with `long p[2];` and `long a[3];`. The
-- word p[1] is read; one operation follows; and since the subscript of `a` is read from `p`, any word of `a` may be
-- written.
use Rattle.std.proofs.Common.{◌≡◌, ℕ, ℤ, pos, true, false, not, ◌||◌, ◌&&◌, if◌then◌else◌, Ok, List, [], ◌∷◌, ap, ◌∙◌}
use Rattle.std.specs.List.{list_any}
use Rattle.nest_syntax.specs.declared.names.Line.{Line}
use Rattle.nest_syntax.specs.declared.operators.Bin.TheVariants as bin
use Rattle.nest_syntax.specs.declared.operators.Op.TheVariants as op
use Rattle.nest_syntax.specs.declared.tree.Expr.{Expr}
use Rattle.nest_syntax.specs.declared.tree.Expr.TheVariants as expr
use Rattle.nest_syntax.specs.declared.tree.Stmt.TheVariants as stmt
use Rattle.nest_syntax.specs.Arrays.{Array}
use Rattle.nest_syntax.specs.Words.{apply}
use Rattle.nest_syntax.specs.Value.{and_then}
use Rattle.nest_syntax.proofs.Equations.{value-scalar, value-number, names_written-scalar, names_written-number, names_written-word}
use Rattle.claim_walk.specs.Walk.{Step, Passes, Touches, Sweeps, Walk, Goes, Walked, Ends, Setting, behind, meets, operation, is_slice, value_of, at_place, anywhere, access, walk, after, ends, walk_stmt}
use Rattle.data_local.specs.Names.{scalars_in}
use Rattle.claim_walk.specs.Walk as walks
use Rattle.claim_walk.proofs.Equations.{walk-scalar, walk-number, walk-word, walk-binary, walk-write, scalars-scalar, scalars-number}
use Rattle.claim_walk.proofs.Slices.{slice_named}

abbrev arrays : List Array
arrays = record { name = 0; size = 2; fixed = false } ∷ record { name = 1; size = 3; fixed = false } ∷ []

abbrev set : Setting
set = record { arrays = arrays; words = []; is_data_local = λ name. false }

-- the names are p, a and i
abbrev known : List ℤ
known = pos 0 ∷ pos 0 ∷ pos 1 ∷ []

abbrev variable : Expr
variable = expr.Scalar 2

abbrev place : Expr
place = expr.Word 0 variable

abbrev sum_of : Expr
sum_of = expr.Binary bin.Add variable (expr.Number (pos 7))

slice_variable : is_slice set variable ≡ true
slice_variable = slice_named set variable (names_written-scalar arrays 2, ap (list_any (λ (name : ℕ). false)) (scalars-scalar 2))

slice_number : is_slice set (expr.Number (pos 7)) ≡ true
slice_number = slice_named set (expr.Number (pos 7)) (names_written-number arrays (pos 7), ap (list_any (λ (name : ℕ). false)) (scalars-number (pos 7)))

data_place : is_slice set place ≡ false
data_place = ap (λ b. not (b || list_any (λ (name : ℕ). false) (scalars_in place))) (names_written-word arrays 0 variable)

walk_place : walk set known place ≡ Goes (Touches 0 1 false ∷ [])
walk_place =
    walk-word set known 0 variable
    ∙ ap (λ w. behind w (access set true false 0 known variable)) (walk-scalar set known 2)
    ∙ ap (λ b. behind (Goes []) (if b then at_place set true false 0 (value_of set known variable) else anywhere set true false 0)) slice_variable
    ∙ ap (λ v. behind (Goes []) (at_place set true false 0 v)) (value-scalar arrays known [] 2)

walk_sum : walk set known sum_of ≡ Goes (Passes ∷ [])
walk_sum =
    walk-binary set known bin.Add variable (expr.Number (pos 7))
    ∙ ap (λ w. behind w (behind (walk set known (expr.Number (pos 7))) (operation (if is_slice set variable && is_slice set (expr.Number (pos 7)) then and_then (value_of set known variable) (λ a. and_then (value_of set known (expr.Number (pos 7))) (apply bin.Add a)) else Ok (pos 0))))) (walk-scalar set known 2)
    ∙ ap (λ w. behind (Goes []) (behind w (operation (if is_slice set variable && is_slice set (expr.Number (pos 7)) then and_then (value_of set known variable) (λ a. and_then (value_of set known (expr.Number (pos 7))) (apply bin.Add a)) else Ok (pos 0))))) (walk-number set known (pos 7))
    ∙ ap (λ b. behind (Goes []) (behind (Goes []) (operation (if b && is_slice set (expr.Number (pos 7)) then and_then (value_of set known variable) (λ a. and_then (value_of set known (expr.Number (pos 7))) (apply bin.Add a)) else Ok (pos 0))))) slice_variable
    ∙ ap (λ b. behind (Goes []) (behind (Goes []) (operation (if b then and_then (value_of set known variable) (λ a. and_then (value_of set known (expr.Number (pos 7))) (apply bin.Add a)) else Ok (pos 0))))) slice_number
    ∙ ap (λ v. behind (Goes []) (behind (Goes []) (operation (and_then v (λ a. and_then (value_of set known (expr.Number (pos 7))) (apply bin.Add a)))))) (value-scalar arrays known [] 2)
    ∙ ap (λ v. behind (Goes []) (behind (Goes []) (operation (and_then v (apply bin.Add (pos 1)))))) (value-number arrays known [] (pos 7))

walk_target : walks.write set op.Set 1 known place ≡ Goes (Sweeps 1 true ∷ [])
walk_target = ap (λ b. if b then at_place set true true 1 (value_of set known place) else anywhere set true true 1) data_place

pub sample : (line : Line) → walk_stmt set (stmt.Write line 1 place op.Set sum_of) known ≡ Ends (Touches 0 1 false ∷ Passes ∷ Sweeps 1 true ∷ []) known
sample line =
    ap (λ (f : walks.Effect). f known) (walk-write set line 1 place op.Set sum_of)
    ∙ ap (λ w. after w (after (walk set known sum_of) (after (walks.write set op.Set 1 known place) ends)) known) walk_place
    ∙ ap (λ w. after (Goes (Touches 0 1 false ∷ [])) (after w (after (walks.write set op.Set 1 known place) ends)) known) walk_sum
    ∙ ap (λ w. after (Goes (Touches 0 1 false ∷ [])) (after (Goes (Passes ∷ [])) (after w ends)) known) walk_target
