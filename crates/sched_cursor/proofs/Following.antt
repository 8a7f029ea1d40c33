-- A cursor follows each kind of event of a course.
use Rattle.std.proofs.Common.{◌≡◌, ℕ, zero, suc, ◌+◌, ℤ, Bool, true, false, nat_lt, if◌then◌else◌, Option, Some, None, Result, Ok, Err, List, slice_get, refl, sym, ap, ◌∙◌, arith, add-one}
use Rattle.std.proofs.lemmas.Bool.{lt-ltb, le-ltb}
use Rattle.std.specs.List.{list_any}
use Rattle.std.specs.Option.{option_map_or}
use Rattle.nest_syntax.specs.declared.names.Line.{Line}
use Rattle.nest_syntax.specs.declared.operators.Cause.{Cause}
use Rattle.nest_syntax.specs.Words.{variable}
use Rattle.nest_syntax.specs.Value.{and_then, with_scalar, names_written}
use Rattle.nest_syntax.specs.Course.{Course, Purpose, Ordinary, Setting, computed, event, iterations, region_turns}
use Rattle.nest_syntax.specs.Course as course
use Rattle.settle_law.specs.Courses.{Nest, Trap, Scalar, Drain, Iterate, Close, trap_of}
use Rattle.settle_law.specs.Courses as courses
use Rattle.sched_cursor.specs.declared.node.Next.{Next}
use Rattle.sched_cursor.specs.declared.node.Next.TheVariants as next
use Rattle.sched_cursor.specs.declared.node.Node.{Node}
use Rattle.sched_cursor.specs.declared.node.Region.{Region}
use Rattle.sched_cursor.specs.declared.node.Invocation.{Invocation}
use Rattle.sched_cursor.specs.declared.node.At.TheVariants as at
use Rattle.sched_cursor.specs.declared.step.Step.{Step}
use Rattle.sched_cursor.specs.declared.event.Event.TheVariants as kind
use Rattle.sched_cursor.specs.Steps.{exprs_of, line_of, purpose_of, step_of}
use Rattle.sched_cursor.specs.Cursor.{Cursor, standing}
use Rattle.sched_cursor.specs.Events.{stepped, after_turn, at_line, after_found, cursor_or, trap_in, kind_found, purpose_found, event_of, plain_event_when, plain_event_at}
use Rattle.sched_cursor.specs.Scripts.{FollowsIn, Leads}

module _ (setting : Setting) (nest : Nest) where
  abbrev Follow : Cursor → Course → Type 0
  Follow c left = FollowsIn setting nest c left

  pub not_failed : (c : Cursor) (left : Course) → Follow c left → trap_of left ≡ None
  not_failed c course.End follows = refl
  not_failed c (course.Failed cause line) follows = elim follows [ ]
  not_failed c (course.Scalar purpose scalars rest) follows = refl
  not_failed c (course.Drain purpose scalars rest) follows = refl
  not_failed c (course.Iterate body scalars rest) follows = refl
  not_failed c (course.Close scalars rest) follows = refl

  -- what a step makes of the cursor follows what the course makes of the same result, and both trap alike
  abbrev pub Agrees : {A : Type 0} → Cursor → (A → Course) → Result Step Cause → Result A Cause → Type 0
  Agrees c go (Ok made) (Ok result) = Follow (stepped c made) (go result)
  Agrees c go (Ok made) (Err cause) = ⊥
  Agrees c go (Err cause) (Ok result) = ⊥
  Agrees c go (Err cause) (Err cause') = cause ≡ cause'

  module _ {A : Type 0} (c : Cursor) (line : Line) (go : A → Course) where
    abbrev later : Result Step Cause → Result Cursor Trap
    later made = at_line line (and_then made (λ s. Ok (stepped c s)))

    traps_alike : (made : Result Step Cause) (result : Result A Cause) → Agrees c go made result → trap_in (later made) ≡ trap_of (computed line result go)
    traps_alike (Ok made) (Ok result) agrees = sym (not_failed (stepped c made) (go result) agrees)
    traps_alike (Ok made) (Err cause) agrees = elim agrees [ ]
    traps_alike (Err cause) (Ok result) agrees = elim agrees [ ]
    traps_alike (Err cause) (Err cause') agrees = ap (λ (x : Cause). Some (record { cause = x; line = line })) agrees

    goes_on : (made : Result Step Cause) (result : Result A Cause) → Agrees c go made result → trap_of (computed line result go) ≡ None → Follow (cursor_or c (later made)) (computed line result go)
    goes_on (Ok made) (Ok result) agrees none = agrees
    goes_on (Ok made) (Err cause) agrees none = elim agrees [ ]
    goes_on (Err cause) (Ok result) agrees none = elim agrees [ ]
    goes_on (Err cause) (Err cause') agrees none = cc

  -- the event of a node
  pub computes : {A : Type 0} (c : Cursor) (n : ℕ) (this : Node) → c.at ≡ at.Before (next.Node n) → slice_get c.nodes n ≡ Some this
      → (compute : List ℤ → Result A Cause) (go : A → Course) → ((words : List ℤ) → Agrees c go (step_of setting.arrays this c.scalars words) (compute words))
      → Follow c (event setting (purpose_of this) c.scalars (line_of this) (exprs_of this) compute go)
  computes {A} c n this at_is there compute go agrees = by_kind (list_any (names_written setting.arrays) (exprs_of this)) is
    where
      made : List ℤ → Result Step Cause
      made words = step_of setting.arrays this c.scalars words

      is : plain_event_at setting.arrays setting.words c ≡ event_of (if list_any (names_written setting.arrays) (exprs_of this) then kind.Drain else kind.Scalar) (purpose_of this) (λ words. later c (line_of this) go (made words)) (0, c.scalars) setting.words c
      is = ap (plain_event_when setting.arrays setting.words c) at_is
          ∙ ap (λ found. event_of (kind_found setting.arrays found) (purpose_found found) (λ words. after_found setting.arrays c words found) (0, c.scalars) setting.words c) there

      by_kind : (drains : Bool) → plain_event_at setting.arrays setting.words c ≡ event_of (if drains then kind.Drain else kind.Scalar) (purpose_of this) (λ words. later c (line_of this) go (made words)) (0, c.scalars) setting.words c
          → Follow c (if drains then course.Drain (purpose_of this) c.scalars (λ words. computed (line_of this) (compute words) go) else course.Scalar (purpose_of this) c.scalars (computed (line_of this) (compute setting.words) go))
      by_kind true event_is = (
        (λ words. trap_in (later c (line_of this) go (made words))),
        (λ words. cursor_or c (later c (line_of this) go (made words))),
        event_is,
        λ words. (traps_alike c (line_of this) go (made words) (compute words) (agrees words), goes_on c (line_of this) go (made words) (compute words) (agrees words)),
      )
      by_kind false event_is = (
        cursor_or c (later c (line_of this) go (made setting.words)),
        event_is ∙ ap (λ trap. Scalar (purpose_of this) trap (cursor_or c (later c (line_of this) go (made setting.words)))) (traps_alike c (line_of this) go (made setting.words) (compute setting.words) (agrees setting.words)),
        goes_on c (line_of this) go (made setting.words) (compute setting.words) (agrees setting.words),
      )

  -- the iterations of an invocation, from turn k on
  module _ (body : ℕ) (name : Option ℕ) (low : ℤ) (step trips : ℕ) (behind : Next) (nodes : List Node) (region : Region) (scalars : List ℤ) (rest : Course)
      (ends : (later : Cursor) → later.nodes ≡ nodes → later.region ≡ region → later.scalars ≡ scalars → later.at ≡ at.Before behind → Follow later rest) where
    abbrev invocation : ℕ → Invocation
    invocation k = record { body = body; name = name; turning = record { low = low; step = step; trips = trips; turn = k }; next = behind }

    abbrev pub scalars_in : List ℤ → ℕ → List ℤ
    scalars_in present k = option_map_or (λ n. with_scalar present n (variable low step k)) name present

    abbrev turned : Cursor → ℕ → Bool → courses.Event (ℕ × List ℤ) Cursor
    turned c k has = event_of (if has then kind.Iterate else kind.Close) Ordinary
        (λ words. Ok (if has then record c { at = at.Inside (invocation (k + 1)); next = c.next + 1 } else standing c behind)) (body, scalars_in c.scalars k) setting.words c

    pub iterates : (n k : ℕ) (c : Cursor) → c.nodes ≡ nodes → c.region ≡ region → c.scalars ≡ scalars → c.at ≡ at.Inside (invocation k) → k + n ≡ trips → Follow c (iterations n k body (scalars_in scalars) scalars rest)
    iterates zero k c same_nodes same_region same at_is count = (
      standing c behind,
      ap (plain_event_when setting.arrays setting.words c) at_is ∙ ap (turned c k) (le-ltb k trips (omega arith)),
      ends (standing c behind) same_nodes same_region same refl,
    )
    iterates (suc n) k c same_nodes same_region same at_is count =
        let on : Cursor = record c { at = at.Inside (invocation (k + 1)); next = c.next + 1 } in (
          (body, scalars_in c.scalars k),
          on,
          ap (plain_event_when setting.arrays setting.words c) at_is ∙ ap (turned c k) (lt-ltb k trips (omega arith)),
          ap (λ (s : List ℤ). let i : ℕ × List ℤ = (body, scalars_in s k) in i) same,
          iterates n (suc k) on same_nodes same_region same (ap (λ t. at.Inside (invocation t)) (add-one k)) (omega arith),
        )

  -- the turns of a region, from turn k on
  module _ (name : ℕ) (low : ℤ) (step trips : ℕ) (items leave : Next) (nodes : List Node) (events : List ℤ → (List ℤ → Course) → Course) (go : List ℤ → Course)
      (enacts : (c : Cursor) → c.nodes ≡ nodes → c.at ≡ at.Before items → (after : List ℤ → Course)
      → Leads setting nest c next.Turn after → Follow c (events c.scalars after))
      (ends : (later : Cursor) → later.nodes ≡ nodes → later.at ≡ at.Before leave → Follow later (go later.scalars)) where
    abbrev entered : ℕ → Region
    entered k = record { name = name; turning = record { low = low; step = step; trips = trips; turn = k }; items = items; leave = leave }

    abbrev passed : Cursor → ℕ → Bool → Cursor
    passed c k has = if has then record c { at = at.Before items; region = entered (k + 1); scalars = with_scalar c.scalars name (variable low step k) } else standing c leave

    turn_is : (c : Cursor) (k : ℕ) (has : Bool) → c.at ≡ at.Before next.Turn → c.region ≡ entered k → nat_lt k trips ≡ has → plain_event_at setting.arrays setting.words c ≡ Scalar Ordinary None (passed c k has)
    turn_is c k has at_is region_is has_is =
        ap (plain_event_when setting.arrays setting.words c) at_is ∙ ap (λ r. Scalar Ordinary None (after_turn c r)) region_is ∙ ap (λ h. Scalar Ordinary None (passed c k h)) has_is

    pub turns_follow : (n k : ℕ) (c : Cursor) → c.nodes ≡ nodes → c.at ≡ at.Before next.Turn → c.region ≡ entered k → k + n ≡ trips → Follow c (region_turns n k (variable low step) name events c.scalars go)
    turns_follow zero k c same at_is region_is count =
        let over = ends (standing c leave) same refl in (
          standing c leave,
          turn_is c k false at_is region_is (le-ltb k trips (omega arith)) ∙ ap (λ trap. Scalar Ordinary trap (standing c leave)) (sym (not_failed (standing c leave) (go c.scalars) over)),
          λ none. over,
        )
    turns_follow (suc n) k c same at_is region_is count =
        let on : Cursor = passed c k true in
        let after : List ℤ → Course = λ scalars. region_turns n (suc k) (variable low step) name events scalars go in
        let inside : Follow on (events on.scalars after) = enacts on same refl after (λ later same' region' at'. turns_follow n (suc k) later (same' ∙ same) at' (region' ∙ ap entered (add-one k)) (omega arith)) in (
          on,
          turn_is c k true at_is region_is (lt-ltb k trips (omega arith)) ∙ ap (λ trap. Scalar Ordinary trap on) (sym (not_failed on (events on.scalars after) inside)),
          λ none. inside,
        )
