-- The room for iterations is kept.
use Rattle.std.proofs.Common.{◌≡◌, ℕ, suc, ◌+◌, ◌-◌, ◌*◌, ◌^◌, ◌<◌, ◌≤◌, ℤ, Bool, true, false, if◌then◌else◌, Some, Result, Ok, Err, List, slice_get, refl, sym, ap, ◌∙◌, subst, arith}
use Rattle.std.proofs.Math.Nat.{mul-le-mul_left}
use Rattle.std.proofs.lemmas.Bool.{ltb-true}
use Rattle.nest_syntax.specs.declared.operators.Cause.{Cause}
use Rattle.nest_syntax.specs.Words.{is_zero}
use Rattle.nest_syntax.specs.Arrays.{Array}
use Rattle.nest_syntax.specs.Value.{value, and_then, with_scalar}
use Rattle.settle_law.specs.Courses.{Trap}
use Rattle.sched_cursor.specs.declared.node.Next.{Next}
use Rattle.sched_cursor.specs.declared.node.Next.TheVariants as next
use Rattle.sched_cursor.specs.declared.node.Invocation.{Invocation}
use Rattle.sched_cursor.specs.declared.node.At.{At}
use Rattle.sched_cursor.specs.declared.node.At.TheVariants as at
use Rattle.sched_cursor.specs.declared.step.Step.TheVariants as step
use Rattle.sched_cursor.specs.Turning.{Turning, has_turn, one_passed, variable_of}
use Rattle.sched_cursor.specs.Steps.{turning_of, changed}
use Rattle.sched_cursor.specs.Cursor.{Cursor, standing}
use Rattle.sched_cursor.specs.Events.{stepped, at_line, after_found, after_at, after_event, behind_invocation}
use Rattle.sched_cursor.specs.Rooms.{Most, by_turn, by_change, by_test, by_invoke, by_write, MostOf, by_end, by_region, MostAt, HasRoom, outside, within}
use Rattle.sched_cursor.proofs.Handing.{FewTurns, few_turns}

node_is : (m n : ℕ) → next.Node m ≡ next.Node n → m ≡ n
node_is m n is = cc

before_is : (a b : Next) → at.Before a ≡ at.Before b → a ≡ b
before_is a b is = cc

abbrev pub RoomOk : Result Cursor Trap → Type 0
RoomOk (Ok later) = HasRoom later
RoomOk (Err trap) = Unit {0}

module _ (arrays : List Array) (words : List ℤ) (c : Cursor) where
  abbrev left : ℕ → ℕ → ℕ
  left each rest = (c.region.turning.trips - c.region.turning.turn) * each + rest

  -- at a node of the region that was entered
  module _ (each rest : ℕ) (items : Most c.nodes c.region.items each) (leaves : MostOf c.nodes c.region.leave rest) where
    room_node : (here : Next) (n k : ℕ) → here ≡ next.Node n → Most c.nodes here k → c.next + k + left each rest ≤ 2 ^ 60 → RoomOk (after_found arrays c words (slice_get c.nodes n))
    room_node _ n _ is (by_turn k) few = absurd cc
    room_node _ n _ is (by_change m k line name o e behind there after) few =
        subst (λ x. RoomOk (after_found arrays c words (slice_get c.nodes x))) (node_is m n is) (subst (λ f. RoomOk (after_found arrays c words f)) (sym there) (by (changed arrays name o e c.scalars words)))
      where
        by : (r : Result ℤ Cause) → RoomOk (at_line line (and_then (and_then r (λ new. Ok (step.Change name new behind))) (λ made. Ok (stepped c made))))
        by (Ok new) = within k each rest after items leaves few
        by (Err cause) = tt
    room_node _ n _ is (by_test m k line e taken otherwise there one other) few =
        subst (λ x. RoomOk (after_found arrays c words (slice_get c.nodes x))) (node_is m n is) (subst (λ f. RoomOk (after_found arrays c words f)) (sym there) (by (value arrays c.scalars words e)))
      where
        by_test_is : (zero_is : Bool) → HasRoom (standing c (if zero_is then otherwise else taken))
        by_test_is true = within k each rest other items leaves few
        by_test_is false = within k each rest one items leaves few

        by : (r : Result ℤ Cause) → RoomOk (at_line line (and_then (and_then r (λ v. Ok (step.Go (if is_zero v then otherwise else taken)))) (λ made. Ok (stepped c made))))
        by (Ok v) = by_test_is (is_zero v)
        by (Err cause) = tt
    room_node _ n _ is (by_invoke m j k header body behind there after fits) few =
        subst (λ x. RoomOk (after_found arrays c words (slice_get c.nodes x))) (node_is m n is) (subst (λ f. RoomOk (after_found arrays c words f)) (sym there) (by (turning_of arrays header c.scalars words) (few_turns arrays header c.scalars words)))
      where
        by : (r : Result Turning Cause) → FewTurns r → RoomOk (at_line header.line (and_then (and_then r (λ turning. Ok (step.Invoke (record { body = body; name = Some header.name; turning = turning; next = behind })))) (λ made. Ok (stepped c made))))
        by (Ok turning) turns = within k each rest (j, omega (arith, fits, turns.1), after) items leaves few
        by (Err cause) turns = tt
    room_node _ n _ is (by_write m j k line body behind there after fits) few =
        subst (λ x. RoomOk (after_found arrays c words (slice_get c.nodes x))) (node_is m n is) (subst (λ f. RoomOk (after_found arrays c words f)) (sym there)
        (within k each rest (j, omega (arith, fits), after) items leaves few))

  -- at a region
  room_region : (here : Next) (n k : ℕ) → here ≡ next.Node n → MostOf c.nodes here k → c.next + k ≤ 2 ^ 60 → RoomOk (after_found arrays c words (slice_get c.nodes n))
  room_region _ n _ is (by_end k) few = absurd cc
  room_region _ n _ is (by_region m each rest k header items leave there inside leaves fits) few =
      subst (λ x. RoomOk (after_found arrays c words (slice_get c.nodes x))) (node_is m n is) (subst (λ f. RoomOk (after_found arrays c words f)) (sym there) (by (turning_of arrays header c.scalars words) (few_turns arrays header c.scalars words)))
    where
      by : (r : Result Turning Cause) → FewTurns r → RoomOk (at_line header.line (and_then (and_then r (λ turning. Ok (step.Enter (record { name = header.name; turning = turning; items = items; leave = leave })))) (λ made. Ok (stepped c made))))
      by (Ok turning) turns =
          let small : turning.trips - turning.turn ≤ 16777216 = omega (arith, turns.1) in
          let product = mul-le-mul_left each small in
          within 0 each rest (by_turn 0) inside leaves (omega (arith, fits, few, product))
      by (Err cause) turns = tt

  room_found : (n : ℕ) → c.at ≡ at.Before (next.Node n) → HasRoom c → RoomOk (after_found arrays c words (slice_get c.nodes n))
  room_found n at_is (outside here k at_here most few) = room_region here n k (before_is here (next.Node n) (sym at_here ∙ at_is)) most few
  room_found n at_is (within k each rest most items leaves few) = room_node each rest items leaves (next.Node n) n k refl (subst (λ a. MostAt c.nodes a k) at_is most) few

  no_turn : (here : Next) (k : ℕ) → here ≡ next.Turn → MostOf c.nodes here k → ⊥
  no_turn _ _ is (by_end k) = cc
  no_turn _ _ is (by_region n each rest k header items leave there inside leaves fits) = cc

  room_turn : (has : Bool) → has_turn c.region.turning ≡ has → c.at ≡ at.Before next.Turn → HasRoom c
      → HasRoom (if has then record c { at = at.Before c.region.items; region = record c.region { turning = one_passed c.region.turning }; scalars = with_scalar c.scalars c.region.name (variable_of c.region.turning) } else standing c c.region.leave)
  room_turn has has_is at_is (outside here k at_here most few) = absurd (no_turn here k (before_is here next.Turn (sym at_here ∙ at_is)) most)
  room_turn true has_is at_is (within k each rest most items leaves few) =
      let some : c.region.turning.turn < c.region.turning.trips = ltb-true c.region.turning.turn c.region.turning.trips has_is in
      let less : c.region.turning.trips - c.region.turning.turn ≡ suc (c.region.turning.trips - (c.region.turning.turn + 1)) = omega arith in
      let product : (c.region.turning.trips - c.region.turning.turn) * each ≡ suc (c.region.turning.trips - (c.region.turning.turn + 1)) * each = ap (λ d. d * each) less in
      within each each rest items items leaves (omega (arith, few, product))
  room_turn false has_is at_is (within k each rest most items leaves few) = outside c.region.leave rest refl leaves (omega (arith, few))

  room_iteration : (i : Invocation) (has : Bool) → has_turn i.turning ≡ has → c.at ≡ at.Inside i → HasRoom c → HasRoom (if has then record c { at = at.Inside (record i { turning = one_passed i.turning }); next = c.next + 1 } else standing c i.next)
  room_iteration i has has_is at_is (outside here k at_here most few) = let clash = sym at_here ∙ at_is in absurd cc
  room_iteration i true has_is at_is (within k each rest most items leaves few) =
      let some : i.turning.turn < i.turning.trips = ltb-true i.turning.turn i.turning.trips has_is in
      let there = subst (λ a. MostAt c.nodes a k) at_is most in
      within (k - 1) each rest (there.0, omega (arith, some, there.1), there.2) items leaves (omega (arith, few, some, there.1))
  room_iteration i false has_is at_is (within k each rest most items leaves few) =
      let there = subst (λ a. MostAt c.nodes a k) at_is most in
      within there.0 each rest there.2 items leaves (omega (arith, few, there.1))

  room_at : (a : At) → c.at ≡ a → HasRoom c → RoomOk (after_at arrays c words a)
  room_at (at.Before (next.Node n)) at_is room = room_found n at_is room
  room_at (at.Before next.Turn) at_is room = room_turn (has_turn c.region.turning) refl at_is room
  room_at (at.Before next.End) at_is room = room
  room_at (at.Inside i) at_is room = room_iteration i (has_turn i.turning) refl at_is room

  pub room_after : HasRoom c → RoomOk (after_event arrays c words)
  room_after room = room_at c.at refl room

-- what is still to come has room
pub room_passed : (c : Cursor) → HasRoom c → c.next ≤ 2 ^ 60
room_passed c (outside here k at_here most few) = omega (arith, few)
room_passed c (within k each rest most items leaves few) = omega (arith, few)

pub room_inside : (c : Cursor) (i : Invocation) → c.at ≡ at.Inside i → HasRoom c → c.next + (i.turning.trips - i.turning.turn) ≤ 2 ^ 60
room_inside c i at_is (outside here k at_here most few) = let clash = sym at_here ∙ at_is in absurd cc
room_inside c i at_is (within k each rest most items leaves few) = let there = subst (λ a. MostAt c.nodes a k) at_is most in omega (arith, few, there.1)

pub room_behind : (c : Cursor) (a : At) → c.at ≡ a → HasRoom c → HasRoom (behind_invocation c a)
room_behind c (at.Before behind) at_is room = room
room_behind c (at.Inside i) at_is (outside here k at_here most few) = let clash = sym at_here ∙ at_is in absurd cc
room_behind c (at.Inside i) at_is (within k each rest most items leaves few) =
    let there = subst (λ a. MostAt c.nodes a k) at_is most in
    within there.0 each rest there.2 items leaves (omega (arith, few, there.1))
