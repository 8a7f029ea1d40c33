-- The loops and expressions of an arm and of a loop, as equations, and depths as they are counted.
use Rattle.std.proofs.Common.{◌≡◌, ℕ, suc, ◌+◌, ◌^◌, ◌-◌, min, nat_lt, ◌∷◌, map, ap, arith}
use Rattle.std.proofs.lemmas.Bool.Decides.{nat_tests}
use Rattle.nest_syntax.specs.declared.names.Line.{Line}
use Rattle.nest_syntax.specs.declared.tree.Arm.{Arm}
use Rattle.nest_syntax.specs.declared.tree.Loop.{Loop}
use Rattle.nest_syntax.specs.declared.tree.Stmt.TheFolds.{fold_out-Arm, fold_out-Loop}
use Rattle.nest_syntax.specs.Lowest.{lower_if}
use Rattle.nest_check.specs.declared.parts.Breaches.{Breaches}
use Rattle.nest_check.specs.Parts.{Parts_at, ALoop, AnExpression, all_at, parts, parts_in_arm, parts_in_loop, parts_node, arm_parts_node, loop_parts_node}
use Rattle.nest_check.specs.Noted.{noted, counted_depth}

pub parts_in_arm-is : (a : Arm) (at : ℕ) → parts_in_arm a at ≡ AnExpression a.line a.test ∷ all_at (map parts a.body) at
parts_in_arm-is a at = ap (λ (p : Parts_at). p at) (fold_out-Arm Parts_at Parts_at Parts_at parts_node arm_parts_node loop_parts_node a)

pub parts_in_loop-is : (l : Loop) (at : ℕ) → parts_in_loop l at ≡ ALoop l.line l.step at ∷ AnExpression l.line l.low ∷ AnExpression l.line l.high ∷ all_at (map parts l.body) (suc at)
parts_in_loop-is l at = ap (λ (p : Parts_at). p at) (fold_out-Loop Parts_at Parts_at Parts_at parts_node arm_parts_node loop_parts_node l)

pub depth_below : (depth at : ℕ) → depth ≡ counted_depth at → min (depth + 1) (2 ^ 32 - 1) ≡ counted_depth (suc at)
depth_below depth at counts = omega arith

is_deeper : (depth at : ℕ) → depth ≡ counted_depth at → nat_lt 4 depth ≡ nat_lt 4 at
is_deeper depth at counts = grind (arith, nat_tests)

-- a loop is noted by its counted depth as by its depth
pub loop_noted : (found : Breaches) (line : Line) (step depth at : ℕ) → depth ≡ counted_depth at → noted found (ALoop line step depth) ≡ noted found (ALoop line step at)
loop_noted found line step depth at counts = ap (λ deep. record found { steps = (noted found (ALoop line step at)).steps; levels = lower_if deep found.levels line }) (is_deeper depth at counts)
