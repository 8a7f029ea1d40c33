-- A header for each 2^24 of the 2^60 iterations for which a cursor's script has room.
use Rattle.std.proofs.Common.{◌≡◌, ℕ, suc, ◌+◌, ◌-◌, ◌*◌, ◌^◌, ◌<◌, ◌≤◌, ℤ, Bool, true, false, if◌then◌else◌, Option, Some, None, Result, Ok, Err, List, refl, sym, ap, ◌∙◌, subst, arith}
use Rattle.std.proofs.lemmas.Bool.{ltb-true}
use Rattle.std.specs.Prelude.{slice_get}
use Rattle.std.specs.List.{list_any}
use Rattle.std.proofs.Math.Nat.{mul-le-mul_left}
use Rattle.nest_syntax.specs.declared.names.Line.{Line}
use Rattle.nest_syntax.specs.declared.operators.Cause.{Cause}
use Rattle.nest_syntax.specs.Words.{is_zero}
use Rattle.nest_syntax.specs.Arrays.{Array}
use Rattle.nest_syntax.specs.Value.{value, and_then, names_written, with_scalar}
use Rattle.nest_syntax.specs.Course.{Purpose, Ordinary, Header}
use Rattle.settle_law.specs.Courses.{Trap}
use Rattle.settle_law.specs.Courses as courses
use Rattle.sched_cursor.specs.declared.event.Event.{Event}
use Rattle.sched_cursor.specs.declared.event.Event.TheVariants as kind
use Rattle.sched_cursor.specs.declared.event.Iteration.{Iteration}
use Rattle.sched_cursor.specs.declared.node.Next.{Next}
use Rattle.sched_cursor.specs.declared.node.Next.TheVariants as next
use Rattle.sched_cursor.specs.declared.node.Node.{Node}
use Rattle.sched_cursor.specs.declared.node.Invocation.{Invocation}
use Rattle.sched_cursor.specs.declared.node.At.{At}
use Rattle.sched_cursor.specs.declared.node.At.TheVariants as at
use Rattle.sched_cursor.specs.Turning.{has_turn, one_passed, variable_of}
use Rattle.sched_cursor.specs.Steps.{exprs_of, turning_of, changed}
use Rattle.sched_cursor.specs.Cursor.{Cursor, standing}
use Rattle.sched_cursor.specs.Events.{stepped, at_line, after_found, after_at, kind_found, kind_at, purpose_found, purpose_at, handed_at, cursor_or, trap_in, event_of, event_at, behind_invocation, is_of_invocation}
use Rattle.sched_cursor.specs.Rooms.{Most, by_turn, by_change, by_test, by_invoke, by_write, MostOf, by_end, by_region}
use Rattle.sched_cursor.proofs.Handing.{FewTurns, few_turns}

abbrev pub with_header : Purpose → ℕ → ℕ
with_header Ordinary headers = headers
with_header Header headers = suc headers

node_is : (m n : ℕ) → next.Node m ≡ next.Node n → m ≡ n
node_is m n is = cc

before_is : (a b : Next) → at.Before a ≡ at.Before b → a ≡ b
before_is a b is = cc

-- what comes behind an invocation that was entered
abbrev pub HereAt : List Node → At → ℕ → Type 0
HereAt nodes (at.Before here) k = Most nodes here k
HereAt nodes (at.Inside i) k = Most nodes i.next k

-- Each header that was carried out, and each that may come, has 2^24 of the iterations for which there is room.
pub data HasLeft (headers : ℕ) (c : Cursor) : Type 0 where
  outside : (here : Next) (rest : ℕ) → c.at ≡ at.Before here → MostOf c.nodes here rest → 16777216 * headers + rest ≤ 2 ^ 60 → HasLeft headers c
  within : (here each rest : ℕ) → HereAt c.nodes c.at here → Most c.nodes c.region.items each → MostOf c.nodes c.region.leave rest
      → 16777216 * headers + here + ((c.region.turning.trips - c.region.turning.turn) * each + rest) ≤ 2 ^ 60 → HasLeft headers c

pub few_headers : (headers : ℕ) (c : Cursor) → HasLeft headers c → headers ≤ 2 ^ 36
few_headers headers c (outside here rest at_here most few) = omega (arith, few)
few_headers headers c (within here each rest most items leaves few) = omega (arith, few)

module _ (arrays : List Array) (words : List ℤ) (c : Cursor) (headers : ℕ) where
  abbrev left : ℕ → ℕ → ℕ
  left each rest = (c.region.turning.trips - c.region.turning.turn) * each + rest

  abbrev LeftOk : Purpose → Result Cursor Trap → Type 0
  LeftOk purpose (Ok later) = HasLeft (with_header purpose headers) later
  LeftOk purpose (Err trap) = Unit {0}

  abbrev FoundOk : Option Node → Type 0
  FoundOk found = LeftOk (purpose_found found) (after_found arrays c words found)

  -- an event that computes something and goes on
  after_step : {A S : Type 0} (purpose : Purpose) (line : Line) (make : A → S) (go : S → Cursor) (r : Result A Cause) → ((a : A) → r ≡ Ok a → HasLeft (with_header purpose headers) (go (make a)))
      → LeftOk purpose (at_line line (and_then (and_then r (λ a. Ok (make a))) (λ made. Ok (go made))))
  after_step purpose line make go (Ok a) ok = ok a refl
  after_step purpose line make go (Err cause) ok = tt

  -- at a node of the region that was entered
  module _ (each rest : ℕ) (items : Most c.nodes c.region.items each) (leaves : MostOf c.nodes c.region.leave rest) where
    left_test : (k : ℕ) (taken otherwise : Next) (zero_is : Bool) → Most c.nodes taken k → Most c.nodes otherwise k → 16777216 * headers + k + left each rest ≤ 2 ^ 60 → HasLeft headers (standing c (if zero_is then otherwise else taken))
    left_test k taken otherwise true one other few = within k each rest other items leaves few
    left_test k taken otherwise false one other few = within k each rest one items leaves few

    left_node : (here : Next) (n k : ℕ) → here ≡ next.Node n → Most c.nodes here k → 16777216 * headers + k + left each rest ≤ 2 ^ 60 → FoundOk (slice_get c.nodes n)
    left_node _ n _ is (by_turn k) few = absurd cc
    left_node _ n _ is (by_change m k line name o e behind there after) few =
        subst (λ x. FoundOk (slice_get c.nodes x)) (node_is m n is) (subst FoundOk (sym there)
        (after_step Ordinary line _ (stepped c) (changed arrays name o e c.scalars words) (λ new got. within k each rest after items leaves few)))
    left_node _ n _ is (by_test m k line e taken otherwise there one other) few =
        subst (λ x. FoundOk (slice_get c.nodes x)) (node_is m n is) (subst FoundOk (sym there)
        (after_step Ordinary line _ (stepped c) (value arrays c.scalars words e) (λ v got. left_test k taken otherwise (is_zero v) one other few)))
    left_node _ n _ is (by_invoke m j k header body behind there after fits) few =
        subst (λ x. FoundOk (slice_get c.nodes x)) (node_is m n is) (subst FoundOk (sym there)
        (after_step Header header.line _ (stepped c) (turning_of arrays header c.scalars words) (λ turning got. within j each rest after items leaves (omega (arith, fits, few)))))
    left_node _ n _ is (by_write m j k line body behind there after fits) few =
        subst (λ x. FoundOk (slice_get c.nodes x)) (node_is m n is) (subst FoundOk (sym there) (within j each rest after items leaves (omega (arith, fits, few))))

  -- at a region
  left_region : (here : Next) (n k : ℕ) → here ≡ next.Node n → MostOf c.nodes here k → 16777216 * headers + k ≤ 2 ^ 60 → FoundOk (slice_get c.nodes n)
  left_region _ n _ is (by_end k) few = absurd cc
  left_region _ n _ is (by_region m each rest k header items leave there inside leaves fits) few =
      subst (λ x. FoundOk (slice_get c.nodes x)) (node_is m n is) (subst FoundOk (sym there)
      (after_step Ordinary header.line _ (stepped c) (turning_of arrays header c.scalars words) (λ turning got.
      let turns : FewTurns (Ok turning) = subst FewTurns got (few_turns arrays header c.scalars words) in
      let small : turning.trips - turning.turn ≤ 16777216 = omega (arith, turns.1) in
      let product = mul-le-mul_left each small in
      within 0 each rest (by_turn 0) inside leaves (omega (arith, fits, few, product)))))

  left_found : (n : ℕ) → c.at ≡ at.Before (next.Node n) → HasLeft headers c → FoundOk (slice_get c.nodes n)
  left_found n at_is (outside here k at_here most few) = left_region here n k (before_is here (next.Node n) (sym at_here ∙ at_is)) most few
  left_found n at_is (within k each rest most items leaves few) = left_node each rest items leaves (next.Node n) n k refl (subst (λ a. HereAt c.nodes a k) at_is most) few

  no_turn : (here : Next) (k : ℕ) → here ≡ next.Turn → MostOf c.nodes here k → ⊥
  no_turn _ _ is (by_end k) = cc
  no_turn _ _ is (by_region n each rest k header items leave there inside leaves fits) = cc

  left_turn : (has : Bool) → has_turn c.region.turning ≡ has → c.at ≡ at.Before next.Turn → HasLeft headers c
      → HasLeft headers (if has then record c { at = at.Before c.region.items; region = record c.region { turning = one_passed c.region.turning }; scalars = with_scalar c.scalars c.region.name (variable_of c.region.turning) } else standing c c.region.leave)
  left_turn has has_is at_is (outside here k at_here most few) = absurd (no_turn here k (before_is here next.Turn (sym at_here ∙ at_is)) most)
  left_turn true has_is at_is (within k each rest most items leaves few) =
      let some : c.region.turning.turn < c.region.turning.trips = ltb-true c.region.turning.turn c.region.turning.trips has_is in
      let less : c.region.turning.trips - c.region.turning.turn ≡ suc (c.region.turning.trips - (c.region.turning.turn + 1)) = omega arith in
      let product : (c.region.turning.trips - c.region.turning.turn) * each ≡ suc (c.region.turning.trips - (c.region.turning.turn + 1)) * each = ap (λ d. d * each) less in
      within each each rest items items leaves (omega (arith, few, product))
  left_turn false has_is at_is (within k each rest most items leaves few) = outside c.region.leave rest refl leaves (omega (arith, few))

  left_iteration : (i : Invocation) (has : Bool) → c.at ≡ at.Inside i → HasLeft headers c → HasLeft headers (if has then record c { at = at.Inside (record i { turning = one_passed i.turning }); next = c.next + 1 } else standing c i.next)
  left_iteration i has at_is (outside here k at_here most few) = let clash = sym at_here ∙ at_is in absurd cc
  left_iteration i true at_is (within k each rest most items leaves few) = within k each rest (subst (λ a. HereAt c.nodes a k) at_is most) items leaves few
  left_iteration i false at_is (within k each rest most items leaves few) = within k each rest (subst (λ a. HereAt c.nodes a k) at_is most) items leaves few

  left_at : (a : At) → c.at ≡ a → HasLeft headers c → LeftOk (purpose_at c a) (after_at arrays c words a)
  left_at (at.Before (next.Node n)) at_is left = left_found n at_is left
  left_at (at.Before next.Turn) at_is left = left_turn (has_turn c.region.turning) refl at_is left
  left_at (at.Before next.End) at_is left = left
  left_at (at.Inside i) at_is left = left_iteration i (has_turn i.turning) at_is left

-- So of each event.
module _ (arrays : List Array) (opening_words : List ℤ) (c : Cursor) (headers : ℕ) (left : HasLeft headers c) where
  abbrev AfterOk : Purpose → Result Cursor Trap → Type 0
  AfterOk purpose r = LeftOk arrays opening_words c headers purpose r

  abbrev pub LeadsOn : courses.Event Iteration Cursor → Type 0
  LeadsOn courses.End = Unit {0}
  LeadsOn (courses.Scalar purpose trap rest) = trap ≡ None → HasLeft (with_header purpose headers) rest
  LeadsOn (courses.Drain purpose traps rests) = (words : List ℤ) → traps words ≡ None → HasLeft (with_header purpose headers) (rests words)
  LeadsOn (courses.Iterate b rest) = HasLeft headers rest
  LeadsOn (courses.Close rest) = HasLeft headers rest

  untrapped : (purpose : Purpose) (r : Result Cursor Trap) → AfterOk purpose r → trap_in r ≡ None → HasLeft (with_header purpose headers) (cursor_or c r)
  untrapped purpose (Ok later) ok none = ok
  untrapped purpose (Err trap) ok none = absurd (cc)

  inside : (purpose : Purpose) (r : Result Cursor Trap) → purpose ≡ Ordinary → AfterOk purpose r → HasLeft headers (cursor_or c r)
  inside Ordinary (Ok later) is ok = ok
  inside Ordinary (Err trap) is ok = left
  inside Header r is ok = absurd (cc)

  told : (k : Event) (purpose : Purpose) (after : List ℤ → Result Cursor Trap) (b : Iteration) → ((words : List ℤ) → AfterOk purpose (after words)) → (is_of_invocation k ≡ true → purpose ≡ Ordinary) → LeadsOn (event_of k purpose after b opening_words c)
  told kind.Scalar purpose after b ok of = untrapped purpose (after opening_words) (ok opening_words)
  told kind.Drain purpose after b ok of = λ words. untrapped purpose (after words) (ok words)
  told kind.Iterate purpose after b ok of = inside purpose (after opening_words) (of refl) (ok opening_words)
  told kind.Close purpose after b ok of = inside purpose (after opening_words) (of refl) (ok opening_words)
  told kind.End purpose after b ok of = tt

  not_found : (found : Option Node) → is_of_invocation (kind_found arrays found) ≡ true → ⊥
  not_found None is = let no : false ≡ true = is in cc
  not_found (Some this) is = by (list_any (names_written arrays) (exprs_of this)) is
    where
      by : (drains : Bool) → is_of_invocation (if drains then kind.Drain else kind.Scalar) ≡ true → ⊥
      by true is = let no : false ≡ true = is in cc
      by false is = let no : false ≡ true = is in cc

  ordinary : (a : At) → is_of_invocation (kind_at arrays c a) ≡ true → purpose_at c a ≡ Ordinary
  ordinary (at.Before (next.Node n)) is = absurd (not_found (slice_get c.nodes n) is)
  ordinary (at.Before next.Turn) is = refl
  ordinary (at.Before next.End) is = refl
  ordinary (at.Inside i) is = refl

  pub leads_on : LeadsOn (event_at arrays opening_words c)
  leads_on = told (kind_at arrays c c.at) (purpose_at c c.at) (λ w. after_at arrays c w c.at) (handed_at c c.at) (λ words. left_at arrays words c headers c.at refl left) (ordinary c.at)

-- behind an invocation that was entered
pub left_behind : (headers : ℕ) (c : Cursor) (i : Invocation) → c.at ≡ at.Inside i → HasLeft headers c → HasLeft headers (behind_invocation c (at.Inside i))
left_behind headers c i at_is (outside here rest at_here most few) = let clash = sym at_here ∙ at_is in absurd (cc)
left_behind headers c i at_is (within here each rest most items leaves few) = within here each rest (subst (λ a. HereAt c.nodes a here) at_is most) items leaves few
