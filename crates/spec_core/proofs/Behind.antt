-- Behind an event that computes, a cursor stands before the first turn of an invocation exactly where the event was a header.
use Rattle.std.proofs.Common.{◌≡◌, ℕ, ℤ, Bool, true, false, if◌then◌else◌, Option, Some, None, Result, Ok, Err, List, slice_get, refl, sym, ap, ◌∙◌, subst}
use Rattle.nest_syntax.specs.declared.names.Line.{Line}
use Rattle.nest_syntax.specs.declared.operators.Cause.{Cause}
use Rattle.nest_syntax.specs.declared.place.Place.{Place}
use Rattle.nest_syntax.specs.Arrays.{Array}
use Rattle.nest_syntax.specs.Words.{turns, counted}
use Rattle.nest_syntax.specs.Value.{and_then, value}
use Rattle.nest_syntax.specs.Course.{Purpose, Ordinary, Header}
use Rattle.nest_syntax.specs.Outcome.{place_of_trap}
use Rattle.settle_law.specs.Courses.{Trap}
use Rattle.sched_cursor.specs.declared.node.Next.TheVariants as next
use Rattle.sched_cursor.specs.declared.node.Node.{Node}
use Rattle.sched_cursor.specs.declared.node.Node.TheVariants as node
use Rattle.sched_cursor.specs.declared.node.At.{At}
use Rattle.sched_cursor.specs.declared.node.At.TheVariants as at
use Rattle.sched_cursor.specs.Turning.{Turning, has_turn}
use Rattle.sched_cursor.specs.Steps.{turning_of, changed, purpose_of}
use Rattle.sched_cursor.specs.Cursor.{Cursor}
use Rattle.sched_cursor.specs.Events.{stepped, after_found, at_line, after_at, after_event, purpose_found, purpose_at, is_inside, placed, as_answer}
use Rattle.spec_core.specs.Tables.{IsFresh}

abbrev pub header_of : Bool → Purpose
header_of true = Header
header_of false = Ordinary

pub record IsBehind (purpose : Purpose) (later : Cursor) : Type 0 where
  pub purpose_is : purpose ≡ header_of (is_inside later.at)
  pub fresh : IsFresh later.at

abbrev AtOk : (Cursor → Type 0) → Result Cursor Trap → Type 0
AtOk P (Ok later) = P later
AtOk P (Err trap) = Unit {0}

made_ok : {A S : Type 0} (purpose : Purpose) (go : S → Cursor) (make : A → S) (line : Line) (r : Result A Cause) → ((x : A) → r ≡ Ok x → IsBehind purpose (go (make x))) → AtOk (IsBehind purpose) (at_line line (and_then (and_then r (λ x. Ok (make x))) (λ made. Ok (go made))))
made_ok purpose go make line (Ok x) each = each x refl
made_ok purpose go make line (Err cause) each = tt

-- the turns of a loop that is entered begin with the first
abbrev AtFirst : Result Turning Cause → Type 0
AtFirst (Ok t) = t.turn ≡ 0
AtFirst (Err cause) = Unit {0}

behind_value : {A : Type 0} (r : Result A Cause) (f : A → Result Turning Cause) → ((a : A) → AtFirst (f a)) → AtFirst (and_then r f)
behind_value (Ok a) f each = each a
behind_value (Err cause) f each = tt

module _ (arrays : List Array) (c : Cursor) (words : List ℤ) where
  at_node : (this : Node) → AtOk (IsBehind (purpose_of this)) (after_found arrays c words (Some this))
  at_node (node.Region header items leave) = made_ok Ordinary (stepped c) _ header.line (turning_of arrays header c.scalars words) (λ x is. record { purpose_is = refl; fresh = tt })
  at_node (node.Change line name op expr next) = made_ok Ordinary (stepped c) _ line (changed arrays name op expr c.scalars words) (λ x is. record { purpose_is = refl; fresh = tt })
  at_node (node.Test line test taken otherwise) = made_ok Ordinary (stepped c) _ line (value arrays c.scalars words test) (λ x is. record { purpose_is = refl; fresh = tt })
  at_node (node.Invoke header body next) = made_ok Header (stepped c) _ header.line (turning_of arrays header c.scalars words) (λ x is. record { purpose_is = refl; fresh = subst AtFirst is first })
    where
      first : AtFirst (turning_of arrays header c.scalars words)
      first = behind_value (value arrays c.scalars words header.low) _ (λ low. behind_value (value arrays c.scalars words header.high) _ (λ high. behind_value (counted (turns low high header.step header.through)) _ (λ trips. refl)))
  at_node (node.Write line body next) = record { purpose_is = refl; fresh = refl }

  if_turn : (t : Bool) (x y : Cursor) → IsBehind Ordinary x → IsBehind Ordinary y → IsBehind Ordinary (if t then x else y)
  if_turn true x y first second = first
  if_turn false x y first second = second

  at_place : (a : At) → c.at ≡ a → is_inside a ≡ false → AtOk (IsBehind (purpose_at c a)) (after_at arrays c words a)
  at_place (at.Before (next.Node n)) here outside = at_found (slice_get c.nodes n)
    where
      stays : IsBehind Ordinary c
      stays = record { purpose_is = ap header_of (sym (ap is_inside here)); fresh = subst IsFresh (sym here) tt }

      at_found : (o : Option Node) → AtOk (IsBehind (purpose_found o)) (after_found arrays c words o)
      at_found None = stays
      at_found (Some this) = at_node this
  at_place (at.Before next.Turn) here outside = if_turn (has_turn c.region.turning) _ _ (record { purpose_is = refl; fresh = tt }) (record { purpose_is = refl; fresh = tt })
  at_place (at.Before next.End) here outside = record { purpose_is = ap header_of (sym (ap is_inside here)); fresh = subst IsFresh (sym here) tt }
  at_place (at.Inside i) here outside = absurd (let no_one : true ≡ false = outside in cc)

  pub behind : (later : Cursor) → is_inside c.at ≡ false → after_event arrays c words ≡ Ok later → IsBehind (purpose_at c c.at) later
  behind later outside is = subst (AtOk (IsBehind (purpose_at c c.at))) is (at_place c.at refl outside)

-- what an answer says of where the cursor went
pub went : (n : ℕ) (later : Cursor) (r : Result Cursor Trap) → as_answer None later ≡ placed n r → r ≡ Ok later
went n later (Ok after) is = let same : later ≡ after = cc in ap Ok (sym same)
went n later (Err trap) is = absurd (cc)

pub trapped : (n : ℕ) (later : Cursor) (place : Place) (trap : Trap) (r : Result Cursor Trap) → as_answer (Some place) later ≡ placed n r → r ≡ Err trap → place ≡ place_of_trap trap.cause trap.line n true
trapped n later place trap (Ok after) is err = absurd (let no_one : Ok after ≡ Err trap = err in cc)
trapped n later place trap (Err other) is err = let same : other ≡ trap = cc in (let here : place ≡ place_of_trap other.cause other.line n true = cc in here ∙ ap (λ (t : Trap). place_of_trap t.cause t.line n true) same)

ok_is : (a b : Cursor) → ◌≡◌ {A = Result Cursor Trap} (Ok a) (Ok b) → a ≡ b
ok_is a b is = cc

-- where an answer is none
pub record HasGone (c later : Cursor) (inside : Bool) (rest : Cursor) : Type 0 where
  pub same : later ≡ rest
  pub purpose_is : purpose_at c c.at ≡ header_of inside
  pub fresh : IsFresh later.at

pub has_gone : (arrays : List Array) (words : List ℤ) (c later rest : Cursor) (inside : Bool) → is_inside c.at ≡ false → as_answer None later ≡ placed c.next (after_event arrays c words) → after_event arrays c words ≡ Ok rest → inside ≡ is_inside later.at → HasGone c later inside rest
has_gone arrays words c later rest inside outside moved is here =
    let gone = went c.next later (after_event arrays c words) moved in
    let there = behind arrays c words later outside gone in
    record { same = ok_is later rest (sym gone ∙ is); purpose_is = there.purpose_is ∙ ap header_of (sym here); fresh = there.fresh }
