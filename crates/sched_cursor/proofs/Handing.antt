-- What a cursor hands out at an iteration is the course's iteration.
use Rattle.std.proofs.Common.{◌≡◌, ℕ, suc, ◌+◌, ◌<◌, ◌≤◌, ℤ, pos, Bool, true, false, nat_lt, nat_le, if◌then◌else◌, is_some, Option, Some, None, Result, Ok, Err, List, [], ◌∷◌, map, length, slice_get, slice_index_or, refl, sym, ap, ◌∙◌, subst, arith, get_or}
use Rattle.std.specs.List.{list_any, range_with_len}
use Rattle.std.specs.Option.{option_map, option_and_then, option_map_or}
use Rattle.std.proofs.lemmas.Bool.{ltb-true, ltb-false, leb-true}
use Rattle.std.proofs.lemmas.List.{get_or-set_other, get_or_past, length-set, get_or-map}
use Rattle.nest_syntax.specs.declared.names.Line.{Line}
use Rattle.nest_syntax.specs.declared.operators.Cause.{Cause}
use Rattle.nest_syntax.specs.declared.tree.Loop.{Loop}
use Rattle.nest_syntax.specs.declared.tree.Program.{Program}
use Rattle.nest_syntax.specs.declared.operators.Cause.TheVariants as cause
use Rattle.nest_syntax.specs.Words.{is_zero, turns, counted, most_turns}
use Rattle.nest_syntax.specs.Arrays.{Array}
use Rattle.nest_syntax.specs.Shape.{Body, invoked_by}
use Rattle.nest_syntax.specs.Value.{value, and_then, scalar_at, with_scalar, names_written}
use Rattle.nest_syntax.specs.Course.{Course}
use Rattle.nest_syntax.specs.Course as course
use Rattle.nest_check.specs.Tables.{scalar_of}
use Rattle.settle_law.specs.Courses.{Nest, Follows, Trap}
use Rattle.settle_law.specs.Courses as courses
use Rattle.sched_cursor.specs.declared.event.Event.TheVariants as kind
use Rattle.sched_cursor.specs.declared.node.Next.{Next}
use Rattle.sched_cursor.specs.declared.node.Next.TheVariants as next
use Rattle.sched_cursor.specs.declared.node.Header.{Header}
use Rattle.sched_cursor.specs.declared.node.Node.{Node}
use Rattle.sched_cursor.specs.declared.node.Node.TheVariants as node
use Rattle.sched_cursor.specs.declared.node.Invocation.{Invocation}
use Rattle.sched_cursor.specs.declared.node.At.{At}
use Rattle.sched_cursor.specs.declared.node.At.TheVariants as at
use Rattle.sched_cursor.specs.declared.step.Step.{Step}
use Rattle.sched_cursor.specs.declared.step.Step.TheVariants as step
use Rattle.sched_cursor.specs.Turning.{Turning, begun, has_turn, one_passed, variable_of}
use Rattle.sched_cursor.specs.Steps.{exprs_of, line_of, turning_of, changed, step_of}
use Rattle.sched_cursor.specs.Cursor.{Cursor, standing}
use Rattle.sched_cursor.specs.Events.{stepped, at_line, after_found, after_at, after_event, kind_found, purpose_found, event_of, event_when, plain_event_when, env_of, value_of, handed_at, handed_in, iteration_at, behind_invocation}
use Rattle.sched_cursor.specs.Doings.{Naming, NodeTells}
use Rattle.sched_cursor.specs.Handed.{told_at, told, what_of, variable_of_body, variable_with_step, NumbersNames, naming_of, AtTells, Tells}

-- a list by its values
by_values : (xs : List ℤ) (f : ℕ → ℤ) (a : ℕ) → ((n : ℕ) → n < length xs → get_or xs n (pos 0) ≡ f (a + n)) → xs ≡ map f (range_with_len a (length xs))
by_values [] f a same = refl
by_values (x ∷ xs) f a same = λ i. here i ∷ by_values xs f (a + 1) later i
  where
    here : x ≡ f a
    here = let at : a + 0 ≡ a = omega arith in same 0 (omega arith) ∙ ap f at

    later : (n : ℕ) → n < length xs → get_or xs n (pos 0) ≡ f (a + 1 + n)
    later n inside = let at : a + suc n ≡ a + 1 + n = omega arith in same (suc n) (omega (arith, inside)) ∙ ap f at

-- a place that has a name is inside
pub within_some : (names : List (Option ℕ)) (n name : ℕ) → get_or names n None ≡ Some name → n < length names
within_some names n name is = by (nat_lt n (length names)) refl
  where
    by : (b : Bool) → nat_lt n (length names) ≡ b → n < length names
    by true inside = ltb-true n (length names) inside
    by false outside = let past = get_or_past names n None (ltb-false n (length names) outside) in absurd (let clash = sym past ∙ is in cc)

-- the variable of an invocation is that of its body
variable_only : (program : Program) (body : ℕ) → option_map (λ (v : ℕ × ℕ). v.0) (variable_with_step program body) ≡ variable_of_body program body
variable_only program body = by (slice_get (invoked_by program) body)
  where
    named : (header : Option Loop) → option_map (λ (v : ℕ × ℕ). v.0) (option_map (λ (l : Loop). (l.name, l.step)) header) ≡ option_map (λ (l : Loop). l.name) header
    named None = refl
    named (Some l) = refl

    by : (found : Option Body) → option_map (λ (v : ℕ × ℕ). v.0) (option_and_then (λ (b : Body). option_map (λ (l : Loop). (l.name, l.step)) b.header) found) ≡ option_and_then (λ (b : Body). option_map (λ (l : Loop). l.name) b.header) found
    by None = refl
    by (Some b) = named b.header

pub variable_told : (program : Program) (i : Invocation) → variable_with_step program i.body ≡ option_map (λ name. (name, i.turning.step)) i.name → variable_of_body program i.body ≡ i.name
variable_told program i is = sym (variable_only program i.body) ∙ ap (option_map (λ (v : ℕ × ℕ). v.0)) is ∙ by i.name
  where
    by : (name : Option ℕ) → option_map (λ (v : ℕ × ℕ). v.0) (option_map (λ n. (n, i.turning.step)) name) ≡ name
    by None = refl
    by (Some n) = refl

-- the scalars by their numbers tell the scalars, where no others have a value
module _ (program : Program) (c : Cursor) (numbers : NumbersNames program c.names) (tells : Tells (naming_of program) c) where
  told_one : (name : ℕ) → name < length program.names → scalar_at c.scalars name ≡ told_at program (env_of c) name
  told_one name inside = by (scalar_of program name) refl
    where
      by : (number : Option ℕ) → scalar_of program name ≡ number → scalar_at c.scalars name ≡ option_map_or (λ n. slice_index_or (env_of c) n (pos 0)) number (pos 0)
      by None none = tells.others name (ap is_some none)
      by (Some n) is =
          let there : get_or c.names n None ≡ Some name = (numbers.tells n name inside).0 is in
          sym (get_or-map (value_of c.scalars) c.names n None (pos 0) (within_some c.names n name there) ∙ ap (value_of c.scalars) there)

  told_all : told program (env_of c) ≡ c.scalars
  told_all =
      ap (λ n. map (told_at program (env_of c)) (range_with_len 0 n)) (sym tells.many)
      ∙ sym (by_values c.scalars (told_at program (env_of c)) 0 (λ n inside. let at : n ≡ 0 + n = omega arith in told_one n (omega (arith, tells.many, inside)) ∙ ap (told_at program (env_of c)) at))

  pub told_inside : (i : Invocation) → variable_of_body program i.body ≡ i.name → what_of program (handed_in c i i.turning.turn) ≡ iteration_at c (at.Inside i)
  told_inside i is =
      ap (λ (scalars : List ℤ). let b : ℕ × List ℤ = (i.body, option_map_or (λ name. with_scalar scalars name (variable_of i.turning)) (variable_of_body program i.body) scalars) in b) told_all
      ∙ ap (λ (name : Option ℕ). let b : ℕ × List ℤ = (i.body, option_map_or (λ n. with_scalar c.scalars n (variable_of i.turning)) name c.scalars) in b) is

-- an event with what is handed out told otherwise
abbrev pub as_told : {A B C : Type 0} → (A → B) → courses.Event A C → courses.Event B C
as_told what courses.End = courses.End
as_told what (courses.Scalar purpose trap later) = courses.Scalar purpose trap later
as_told what (courses.Drain purpose trap later) = courses.Drain purpose trap later
as_told what (courses.Iterate a later) = courses.Iterate (what a) later
as_told what (courses.Close later) = courses.Close later

module _ (program : Program) (arrays : List Array) (words : List ℤ) where
  abbrev SameFound : Cursor → ℕ → Option Node → Type 0
  SameFound c n found = event_of (kind_found arrays found) (purpose_found found) (λ w. after_found arrays c w found) (iteration_at c (at.Before (next.Node n))) words c
      ≡ as_told (what_of program) (event_of (kind_found arrays found) (purpose_found found) (λ w. after_found arrays c w found) (handed_at c (at.Before (next.Node n))) words c)

  same_kind : (c : Cursor) (n : ℕ) (this : Node) (drains : Bool) → event_of (if drains then kind.Drain else kind.Scalar) (purpose_found (Some this)) (λ w. after_found arrays c w (Some this)) (iteration_at c (at.Before (next.Node n))) words c
      ≡ as_told (what_of program) (event_of (if drains then kind.Drain else kind.Scalar) (purpose_found (Some this)) (λ w. after_found arrays c w (Some this)) (handed_at c (at.Before (next.Node n))) words c)
  same_kind c n this true = refl
  same_kind c n this false = refl

  same_found : (c : Cursor) (n : ℕ) (found : Option Node) → SameFound c n found
  same_found c n None = refl
  same_found c n (Some this) = same_kind c n this (list_any (names_written arrays) (exprs_of this))

  told_turn : (c : Cursor) (i : Invocation) → what_of program (handed_at c (at.Inside i)) ≡ iteration_at c (at.Inside i) → plain_event_when arrays words c (at.Inside i) ≡ as_told (what_of program) (event_when arrays words c (at.Inside i))
  told_turn c i is = by (has_turn i.turning)
    where
      by : (has : Bool) → event_of (if has then kind.Iterate else kind.Close) course.Ordinary (λ w. Ok (if has then record c { at = at.Inside (record i { turning = one_passed i.turning }); next = c.next + 1 } else standing c i.next)) (iteration_at c (at.Inside i)) words c
          ≡ as_told (what_of program) (event_of (if has then kind.Iterate else kind.Close) course.Ordinary (λ w. Ok (if has then record c { at = at.Inside (record i { turning = one_passed i.turning }); next = c.next + 1 } else standing c i.next)) (handed_at c (at.Inside i)) words c)
      by true = ap (λ b. courses.Iterate b (record c { at = at.Inside (record i { turning = one_passed i.turning }); next = c.next + 1 })) (sym is)
      by false = refl

  pub told_event : (c : Cursor) (a : At) → NumbersNames program c.names → Tells (naming_of program) c → AtTells (naming_of program) a → plain_event_when arrays words c a ≡ as_told (what_of program) (event_when arrays words c a)
  told_event c (at.Before (next.Node n)) numbers tells told = same_found c n (slice_get c.nodes n)
  told_event c (at.Before next.Turn) numbers tells told = refl
  told_event c (at.Before next.End) numbers tells told = refl
  told_event c (at.Inside i) numbers tells told = told_turn c i (told_inside program c numbers tells i (variable_told program i told.variable))

-- a loop that is entered is before its first turn, and has few
few_counted : (n m : ℕ) → counted n ≡ Ok m → m ≤ 16777216
few_counted n m is = by (nat_le n most_turns) refl is
  where
    by : (test : Bool) → nat_le n most_turns ≡ test → (if test then Ok n else Err cause.Loop) ≡ Ok m → m ≤ 16777216
    by true within e = let same : n ≡ m = cc in subst (λ k. k ≤ 16777216) same (leb-true n most_turns within)
    by false over e = absurd cc

abbrev pub FewTurns : Result Turning Cause → Type 0
FewTurns (Ok turning) = (turning.turn ≤ turning.trips) × (turning.trips ≤ 16777216)
FewTurns (Err cause) = Unit {0}

pub few_turns : (arrays : List Array) (h : Header) (scalars words : List ℤ) → FewTurns (turning_of arrays h scalars words)
few_turns arrays h scalars words = by_low (value arrays scalars words h.low)
  where
    by_count : (low : ℤ) (n : ℕ) (r : Result ℕ Cause) → counted n ≡ r → FewTurns (and_then r (λ trips. Ok (begun low h.step trips)))
    by_count low n (Ok trips) is = (omega arith, few_counted n trips is)
    by_count low n (Err cause) is = tt

    by_high : (low : ℤ) (r : Result ℤ Cause) → FewTurns (and_then r (λ high. and_then (counted (turns low high h.step h.through)) (λ trips. Ok (begun low h.step trips))))
    by_high low (Ok high) = by_count low (turns low high h.step h.through) (counted (turns low high h.step h.through)) refl
    by_high low (Err cause) = tt

    by_low : (r : Result ℤ Cause) → FewTurns (and_then r (λ low. and_then (value arrays scalars words h.high) (λ high. and_then (counted (turns low high h.step h.through)) (λ trips. Ok (begun low h.step trips)))))
    by_low (Ok low) = by_high low (value arrays scalars words h.high)
    by_low (Err cause) = tt

-- and has the step of its header
abbrev StepsBy : ℕ → Result Turning Cause → Type 0
StepsBy step (Ok turning) = turning.step ≡ step
StepsBy step (Err cause) = Unit {0}

steps_by : (arrays : List Array) (h : Header) (scalars words : List ℤ) → StepsBy h.step (turning_of arrays h scalars words)
steps_by arrays h scalars words = by_low (value arrays scalars words h.low)
  where
    by_count : (low : ℤ) (r : Result ℕ Cause) → StepsBy h.step (and_then r (λ trips. Ok (begun low h.step trips)))
    by_count low (Ok trips) = refl
    by_count low (Err cause) = tt

    by_high : (low : ℤ) (r : Result ℤ Cause) → StepsBy h.step (and_then r (λ high. and_then (counted (turns low high h.step h.through)) (λ trips. Ok (begun low h.step trips))))
    by_high low (Ok high) = by_count low (counted (turns low high h.step h.through))
    by_high low (Err cause) = tt

    by_low : (r : Result ℤ Cause) → StepsBy h.step (and_then r (λ low. and_then (value arrays scalars words h.high) (λ high. and_then (counted (turns low high h.step h.through)) (λ trips. Ok (begun low h.step trips)))))
    by_low (Ok low) = by_high low (value arrays scalars words h.high)
    by_low (Err cause) = tt

-- what a cursor tells is kept
module _ (naming : Naming) where
  abbrev pub TellsOk : Result Cursor Trap → Type 0
  TellsOk (Ok later) = Tells naming later
  TellsOk (Err trap) = Unit {0}

  others_set : (scalars : List ℤ) (name : ℕ) (new : ℤ) → naming.scheduled name ≡ true → ((other : ℕ) → naming.scheduled other ≡ false → scalar_at scalars other ≡ pos 0)
      → (other : ℕ) → naming.scheduled other ≡ false → scalar_at (with_scalar scalars name new) other ≡ pos 0
  others_set scalars name new is others other isnt = get_or-set_other scalars name other new (pos 0) (λ same. let clash : true ≡ false = sym is ∙ ap naming.scheduled (sym same) ∙ isnt in cc) ∙ others other isnt

  module _ (arrays : List Array) (words : List ℤ) (c : Cursor) (tells : Tells naming c) where
    stands : (a : At) → AtTells naming a → Tells naming (record c { at = a })
    stands a told = record { nodes = tells.nodes; many = tells.many; others = tells.others; region = tells.region; at = told }

    entered : (header : Header) (turning : Turning) (items leave : Next) → naming.scheduled header.name ≡ true → Tells naming (stepped c (step.Enter (record { name = header.name; turning = turning; items = items; leave = leave })))
    entered header turning items leave is = record { nodes = tells.nodes; many = tells.many; others = tells.others; region = λ has. is; at = tt }

    set : (name : ℕ) (new : ℤ) (behind : Next) → naming.scheduled name ≡ true → Tells naming (stepped c (step.Change name new behind))
    set name new behind is = record { nodes = tells.nodes; many = length-set c.scalars name new ∙ tells.many; others = others_set c.scalars name new is tells.others; region = tells.region; at = tt }

    tells_node : (this : Node) → NodeTells naming this → TellsOk (at_line (line_of this) (and_then (step_of arrays this c.scalars words) (λ made. Ok (stepped c made))))
    tells_node (node.Region header items leave) is = by (turning_of arrays header c.scalars words)
      where
        by : (r : Result Turning Cause) → TellsOk (at_line header.line (and_then (and_then r (λ turning. Ok (step.Enter (record { name = header.name; turning = turning; items = items; leave = leave })))) (λ made. Ok (stepped c made))))
        by (Ok turning) = entered header turning items leave is
        by (Err cause) = tt
    tells_node (node.Change line name o e behind) is = by (changed arrays name o e c.scalars words)
      where
        by : (r : Result ℤ Cause) → TellsOk (at_line line (and_then (and_then r (λ new. Ok (step.Change name new behind))) (λ made. Ok (stepped c made))))
        by (Ok new) = set name new behind is
        by (Err cause) = tt
    tells_node (node.Test line test taken otherwise) is = by (value arrays c.scalars words test)
      where
        by : (r : Result ℤ Cause) → TellsOk (at_line line (and_then (and_then r (λ v. Ok (step.Go (if is_zero v then otherwise else taken)))) (λ made. Ok (stepped c made))))
        by (Ok v) = stands (at.Before (if is_zero v then otherwise else taken)) tt
        by (Err cause) = tt
    tells_node (node.Invoke header body behind) is = by (turning_of arrays header c.scalars words) (few_turns arrays header c.scalars words) (steps_by arrays header c.scalars words)
      where
        by : (r : Result Turning Cause) → FewTurns r → StepsBy header.step r → TellsOk (at_line header.line (and_then (and_then r (λ turning. Ok (step.Invoke (record { body = body; name = Some header.name; turning = turning; next = behind })))) (λ made. Ok (stepped c made))))
        by (Ok turning) few steps = stands (at.Inside (record { body = body; name = Some header.name; turning = turning; next = behind })) (record { variable = is.0 ∙ ap (λ n. Some (header.name, n)) (sym steps); body = is.1; turned = few.0; few = few.1; alone = λ none. absurd cc })
        by (Err cause) few steps = tt
    tells_node (node.Write line body behind) is = stands (at.Inside (record { body = body; name = None; turning = begun (pos 0) 1 1; next = behind })) (record { variable = is.0; body = is.1; turned = omega arith; few = omega arith; alone = λ none. omega arith })

    tells_found : (n : ℕ) (found : Option Node) → slice_get c.nodes n ≡ found → TellsOk (after_found arrays c words found)
    tells_found n None is = tells
    tells_found n (Some this) is = tells_node this (tells.nodes n this is)

    tells_turn : (has : Bool) → has_turn c.region.turning ≡ has → TellsOk (Ok (if has then record c { at = at.Before c.region.items; region = record c.region { turning = one_passed c.region.turning }; scalars = with_scalar c.scalars c.region.name (variable_of c.region.turning) } else standing c c.region.leave))
    tells_turn true is = record {
      nodes = tells.nodes;
      many = length-set c.scalars c.region.name (variable_of c.region.turning) ∙ tells.many;
      others = others_set c.scalars c.region.name (variable_of c.region.turning) (tells.region is) tells.others;
      region = λ has. tells.region is;
      at = tt;
    }
    tells_turn false is = stands (at.Before c.region.leave) tt

    tells_iteration : (i : Invocation) → AtTells naming (at.Inside i) → (has : Bool) → has_turn i.turning ≡ has → TellsOk (Ok (if has then record c { at = at.Inside (record i { turning = one_passed i.turning }); next = c.next + 1 } else standing c i.next))
    tells_iteration i told true has = record {
      nodes = tells.nodes;
      many = tells.many;
      others = tells.others;
      region = tells.region;
      at = record { variable = told.variable; body = told.body; turned = omega (arith, ltb-true i.turning.turn i.turning.trips has); few = told.few; alone = told.alone };
    }
    tells_iteration i told false has = stands (at.Before i.next) tt

    tells_at : (a : At) → AtTells naming a → TellsOk (after_at arrays c words a)
    tells_at (at.Before (next.Node n)) told = tells_found n (slice_get c.nodes n) refl
    tells_at (at.Before next.Turn) told = tells_turn (has_turn c.region.turning) refl
    tells_at (at.Before next.End) told = tells
    tells_at (at.Inside i) told = tells_iteration i told (has_turn i.turning) refl

    pub tells_after : TellsOk (after_event arrays c words)
    tells_after = tells_at c.at tells.at

    tells_behind : (a : At) → Tells naming (behind_invocation c a)
    tells_behind (at.Before behind) = tells
    tells_behind (at.Inside i) = record { nodes = tells.nodes; many = tells.many; others = tells.others; region = tells.region; at = tt }

    pub tells_behind_invocation : Tells naming (behind_invocation c c.at)
    tells_behind_invocation = tells_behind c.at

-- the script with what drains in it, entry and numbers stay as they are
pub record Stays (c later : Cursor) : Type 0 where
  pub nodes : later.nodes ≡ c.nodes
  pub drains : later.drains ≡ c.drains
  pub entry : later.entry ≡ c.entry
  pub names : later.names ≡ c.names

abbrev pub StaysOk : Cursor → Result Cursor Trap → Type 0
StaysOk c (Ok later) = Stays c later
StaysOk c (Err trap) = Unit {0}

module _ (arrays : List Array) (words : List ℤ) (c : Cursor) where
  stays_here : Stays c c
  stays_here = record { nodes = refl; drains = refl; entry = refl; names = refl }

  stays_step : (made : Step) → Stays c (stepped c made)
  stays_step (step.Enter region) = record { nodes = refl; drains = refl; entry = refl; names = refl }
  stays_step (step.Change name new behind) = record { nodes = refl; drains = refl; entry = refl; names = refl }
  stays_step (step.Go behind) = record { nodes = refl; drains = refl; entry = refl; names = refl }
  stays_step (step.Invoke invocation) = record { nodes = refl; drains = refl; entry = refl; names = refl }

  stays_made : (line : Line) (made : Result Step Cause) → StaysOk c (at_line line (and_then made (λ m. Ok (stepped c m))))
  stays_made line (Ok made) = stays_step made
  stays_made line (Err cause) = tt

  stays_found : (found : Option Node) → StaysOk c (after_found arrays c words found)
  stays_found None = stays_here
  stays_found (Some this) = stays_made (line_of this) (step_of arrays this c.scalars words)

  stays_turn : (has : Bool) → Stays c (if has then record c { at = at.Before c.region.items; region = record c.region { turning = one_passed c.region.turning }; scalars = with_scalar c.scalars c.region.name (variable_of c.region.turning) } else standing c c.region.leave)
  stays_turn true = record { nodes = refl; drains = refl; entry = refl; names = refl }
  stays_turn false = record { nodes = refl; drains = refl; entry = refl; names = refl }

  stays_iteration : (i : Invocation) (has : Bool) → Stays c (if has then record c { at = at.Inside (record i { turning = one_passed i.turning }); next = c.next + 1 } else standing c i.next)
  stays_iteration i true = record { nodes = refl; drains = refl; entry = refl; names = refl }
  stays_iteration i false = record { nodes = refl; drains = refl; entry = refl; names = refl }

  stays_at : (a : At) → StaysOk c (after_at arrays c words a)
  stays_at (at.Before (next.Node n)) = stays_found (slice_get c.nodes n)
  stays_at (at.Before next.Turn) = stays_turn (has_turn c.region.turning)
  stays_at (at.Before next.End) = stays_here
  stays_at (at.Inside i) = stays_iteration i (has_turn i.turning)

  pub stays_after : StaysOk c (after_event arrays c words)
  stays_after = stays_at c.at

  stays_past : (a : At) → Stays c (behind_invocation c a)
  stays_past (at.Before behind) = stays_here
  stays_past (at.Inside i) = record { nodes = refl; drains = refl; entry = refl; names = refl }

  pub stays_behind : Stays c (behind_invocation c c.at)
  stays_behind = stays_past c.at
