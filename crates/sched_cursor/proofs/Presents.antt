-- Where no written array is named, present words lead where the opening words do.
use Rattle.std.proofs.Common.{◌≡◌, ℕ, ℤ, Bool, true, false, ◌||◌, if◌then◌else◌, Option, Some, None, Result, Ok, Err, List, [], ◌∷◌, slice_get, refl, sym, ap, ◌∙◌, subst}
use Rattle.std.specs.List.{list_any}
use Rattle.nest_syntax.specs.declared.operators.Cause.{Cause}
use Rattle.nest_syntax.specs.declared.tree.Expr.{Expr}
use Rattle.nest_syntax.specs.declared.tree.Expr.TheOpen.{Expr-F}
use Rattle.nest_syntax.specs.declared.tree.Expr.TheFolds.{map-Expr, fold-roll-Expr, ind-Expr}
use Rattle.nest_syntax.specs.Words.{is_zero, apply_un, operation_of, assigned, turns, counted}
use Rattle.nest_syntax.specs.Arrays.{Array}
use Rattle.nest_syntax.specs.Value.{value, value_node, and_then, operate, read, scalar_at, names_written, names_written_node, is_written}
use Rattle.sched_cursor.specs.declared.node.Header.{Header}
use Rattle.sched_cursor.specs.declared.node.Next.TheVariants as next
use Rattle.sched_cursor.specs.declared.node.Node.{Node}
use Rattle.sched_cursor.specs.declared.node.Node.TheVariants as node
use Rattle.sched_cursor.specs.declared.node.At.{At}
use Rattle.sched_cursor.specs.declared.node.At.TheVariants as at
use Rattle.sched_cursor.specs.declared.event.Event.TheVariants as kind
use Rattle.sched_cursor.specs.declared.step.Step.TheVariants as step
use Rattle.sched_cursor.specs.Turning.{begun}
use Rattle.sched_cursor.specs.Steps.{exprs_of, line_of, turning_of, step_of}
use Rattle.sched_cursor.specs.Cursor.{Cursor}
use Rattle.sched_cursor.specs.Events.{stepped, at_line, after_at, after_found, kind_at, kind_found}
use Rattle.sched_cursor.specs.Laws.{SameConst, ConstWordsSuffice}

left_false : (a b : Bool) → (a || b) ≡ false → a ≡ false
left_false false b is = refl
left_false true b is = cc

right_false : (a b : Bool) → (a || b) ≡ false → b ≡ false
right_false false b is = is
right_false true b is = cc

pub either_of_two : (a b : Bool) → (a || (b || false)) ≡ (a || b)
either_of_two true b = refl
either_of_two false true = refl
either_of_two false false = refl

pub either_of_one : (a : Bool) → (a || false) ≡ a
either_of_one true = refl
either_of_one false = refl

module _ (arrays : List Array) (scalars words words' : List ℤ) (same : SameConst arrays words words') where
  abbrev IsSame : Expr → Type 0
  IsSame e = names_written arrays e ≡ false → value arrays scalars words e ≡ value arrays scalars words' e

  abbrev Such : Type 0
  Such = (e : Expr) × IsSame e

  abbrev Layer : Expr-F Expr → Type 0
  Layer x = names_written_node arrays (map-Expr Expr Bool (names_written arrays) x) ≡ false
      → value_node arrays scalars words (map-Expr Expr (Result ℤ Cause) (value arrays scalars words) x) ≡ value_node arrays scalars words' (map-Expr Expr (Result ℤ Cause) (value arrays scalars words') x)

  read_same : (name : ℕ) → is_written arrays name ≡ false → (place : Result ℤ Cause) → and_then place (read arrays words name) ≡ and_then place (read arrays words' name)
  read_same name fixed (Ok place) = same name place fixed
  read_same name fixed (Err cause) = refl

  layer : (y : Expr-F Such) → Layer (map-Expr Such Expr (λ e. e.0) y)
  layer (Expr-F.Number n) none = refl
  layer (Expr-F.Scalar name) none = refl
  layer (Expr-F.Word name place) none =
      ap (λ r. and_then r (read arrays words name)) (place.1 (right_false (is_written arrays name) (names_written arrays place.0) none))
      ∙ read_same name (left_false (is_written arrays name) (names_written arrays place.0) none) (value arrays scalars words' place.0)
  layer (Expr-F.Unary o part) none = ap (λ r. and_then r (λ v. Ok (apply_un o v))) (part.1 none)
  layer (Expr-F.Binary o left right) none =
      ap (λ r. and_then r (λ v. operate o v (value arrays scalars words right.0))) (left.1 (left_false (names_written arrays left.0) (names_written arrays right.0) none))
      ∙ ap (λ r. and_then (value arrays scalars words' left.0) (λ v. operate o v r)) (right.1 (right_false (names_written arrays left.0) (names_written arrays right.0) none))
  layer (Expr-F.Choice test first second) none =
      let others = right_false (names_written arrays test.0) (names_written arrays first.0 || names_written arrays second.0) none in
      ap (λ r. and_then r (λ v. if is_zero v then value arrays scalars words second.0 else value arrays scalars words first.0)) (test.1 (left_false (names_written arrays test.0) (names_written arrays first.0 || names_written arrays second.0) none))
      ∙ ap (λ r. and_then (value arrays scalars words' test.0) (λ v. if is_zero v then r else value arrays scalars words first.0)) (second.1 (right_false (names_written arrays first.0) (names_written arrays second.0) others))
      ∙ ap (λ r. and_then (value arrays scalars words' test.0) (λ v. if is_zero v then value arrays scalars words' second.0 else r)) (first.1 (left_false (names_written arrays first.0) (names_written arrays second.0) others))

  pub value_same : (e : Expr) → IsSame e
  value_same = ind-Expr IsSame (λ x y is.
      let here : Layer x = subst Layer is (layer y) in
      λ none. fold-roll-Expr (Result ℤ Cause) (value_node arrays scalars words) x
      ∙ here (sym (fold-roll-Expr Bool (names_written_node arrays) x) ∙ none)
      ∙ sym (fold-roll-Expr (Result ℤ Cause) (value_node arrays scalars words') x))

  turning_same : (h : Header) → list_any (names_written arrays) (h.low ∷ h.high ∷ []) ≡ false → turning_of arrays h scalars words ≡ turning_of arrays h scalars words'
  turning_same h none =
      let low = left_false (names_written arrays h.low) (names_written arrays h.high || false) none in
      let high = left_false (names_written arrays h.high) false (right_false (names_written arrays h.low) (names_written arrays h.high || false) none) in
      ap (λ r. and_then r (λ l. and_then (value arrays scalars words h.high) (λ t. and_then (counted (turns l t h.step h.through)) (λ trips. Ok (begun l h.step trips))))) (value_same h.low low)
      ∙ ap (λ r. and_then (value arrays scalars words' h.low) (λ l. and_then r (λ t. and_then (counted (turns l t h.step h.through)) (λ trips. Ok (begun l h.step trips))))) (value_same h.high high)

  step_same : (this : Node) → list_any (names_written arrays) (exprs_of this) ≡ false → step_of arrays this scalars words ≡ step_of arrays this scalars words'
  step_same (node.Region header items leave) none = ap (λ r. and_then r (λ turning. Ok (step.Enter (record { name = header.name; turning = turning; items = items; leave = leave })))) (turning_same header none)
  step_same (node.Change line name o e behind) none = ap (λ r. and_then (and_then r (assigned (operation_of o) (scalar_at scalars name))) (λ new. Ok (step.Change name new behind))) (value_same e (left_false (names_written arrays e) false none))
  step_same (node.Test line test taken otherwise) none = ap (λ r. and_then r (λ v. Ok (step.Go (if is_zero v then otherwise else taken)))) (value_same test (left_false (names_written arrays test) false none))
  step_same (node.Invoke header body behind) none = ap (λ r. and_then r (λ turning. Ok (step.Invoke (record { body = body; name = Some header.name; turning = turning; next = behind })))) (turning_same header none)
  step_same (node.Write line body behind) none = refl

scalar_names_none : (drains : Bool) → (if drains then kind.Drain else kind.Scalar) ≡ kind.Scalar → drains ≡ false
scalar_names_none false is = refl
scalar_names_none true is = cc

module _ (arrays : List Array) (opening words : List ℤ) (c : Cursor) (same : SameConst arrays words opening) where
  found_same : (found : Option Node) → kind_found arrays found ≡ kind.Scalar → after_found arrays c words found ≡ after_found arrays c opening found
  found_same None is = refl
  found_same (Some this) is = ap (λ r. at_line (line_of this) (and_then r (λ made. Ok (stepped c made)))) (step_same arrays c.scalars words opening same this (scalar_names_none (list_any (names_written arrays) (exprs_of this)) is))

  at_same : (a : At) → kind_at arrays c a ≡ kind.Scalar → after_at arrays c words a ≡ after_at arrays c opening a
  at_same (at.Before (next.Node n)) is = found_same (slice_get c.nodes n) is
  at_same (at.Before next.Turn) is = refl
  at_same (at.Before next.End) is = refl
  at_same (at.Inside i) is = refl

pub const_words_suffice : ConstWordsSuffice
const_words_suffice arrays opening words c same is = at_same arrays opening words c same c.at is
