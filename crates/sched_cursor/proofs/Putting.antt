-- Items put in front of a script, one kind after the other.
use Rattle.std.proofs.Common.{◌≡◌, ℕ, zero, suc, ◌+◌, ◌*◌, ℤ, pos, Bool, true, false, if◌then◌else◌, Some, None, Result, Ok, Err, List, [], ◌∷◌, ◌++◌, map, length, slice_get, IfOk, refl, sym, ap, ◌∙◌, subst, arith}
use Rattle.std.specs.List.{flat_map}
use Rattle.std.proofs.lemmas.List.{length-append}
use Rattle.nest_syntax.specs.declared.names.Line.{Line}
use Rattle.nest_syntax.specs.declared.names.NoMemory.{NoMemory}
use Rattle.nest_syntax.specs.declared.operators.Cause.{Cause}
use Rattle.nest_syntax.specs.declared.operators.Op.{Op}
use Rattle.nest_syntax.specs.declared.operators.Op.TheVariants as op
use Rattle.nest_syntax.specs.declared.tree.Expr.{Expr}
use Rattle.nest_syntax.specs.declared.tree.Arm.{Arm}
use Rattle.nest_syntax.specs.declared.tree.Loop.{Loop}
use Rattle.nest_syntax.specs.declared.tree.Stmt.{Stmt}
use Rattle.nest_syntax.specs.declared.tree.Stmt.TheVariants as stmt
use Rattle.nest_syntax.specs.Words.{is_zero, operation_of, assigned, turns, counted, variable}
use Rattle.nest_syntax.specs.Value.{value, and_then, scalar_at, with_scalar}
use Rattle.nest_syntax.specs.Course.{Course, Setting, Item, Tested, Looped, Layer_of_loop, Ordinary, Header as Header_purpose, in_order, chosen, event, bounds, iterations, region_turns, looped_node, item_of, tested_of, region_of}
use Rattle.nest_syntax.specs.Course as course
use Rattle.nest_syntax.proofs.Equations.{item-declare, item-assign, item-write, item-if, item-loop, looped-is, tested-is}
use Rattle.settle_law.specs.Courses.{Nest}
use Rattle.sched_cursor.specs.declared.node.Next.{Next}
use Rattle.sched_cursor.specs.declared.node.Next.TheVariants as next
use Rattle.sched_cursor.specs.declared.node.Header.{Header}
use Rattle.sched_cursor.specs.declared.node.Node.{Node}
use Rattle.sched_cursor.specs.declared.node.Node.TheVariants as node
use Rattle.sched_cursor.specs.declared.node.At.TheVariants as at
use Rattle.sched_cursor.specs.declared.step.Step.{Step}
use Rattle.sched_cursor.specs.declared.step.Step.TheVariants as step
use Rattle.sched_cursor.specs.Turning.{Turning, begun}
use Rattle.sched_cursor.specs.Steps.{turning_of}
use Rattle.sched_cursor.specs.Events.{stepped}
use Rattle.sched_cursor.specs.Cursor.{Cursor, standing}
use Rattle.sched_cursor.specs.Doings.{Doing, Naming, runs, AreTold, NodeTells, NodesTell, doings, doings_in_arm, doings_of, doings_in_region}
use Rattle.sched_cursor.specs.Scripts.{Keeps, FollowsIn, Leads, EnactsRegion, Puts, PutsRegion, header_of, block_of}
use Rattle.sched_cursor.specs.Rooms.{Most, by_turn, by_change, by_test, by_invoke, by_write, by_region}
use Rattle.sched_cursor.proofs.Growing.{more, more_of}
use Rattle.sched_cursor.proofs.Doings.{doings-declare, doings-assign, doings-write, doings-if, doings-loop, doings_in_arm-is, told_split, runs-append}
use Rattle.sched_cursor.proofs.Following.{computes, iterates, turns_follow, Agrees}

some_is : {A : Type 0} (a b : A) → Some a ≡ Some b → a ≡ b
some_is a b is = cc

-- scripts in one another
pub keeps_all : (nodes : List Node) → Keeps nodes nodes
keeps_all nodes n this there = there

pub keeps_then : (a b c : List Node) → Keeps a b → Keeps b c → Keeps a c
keeps_then a b c first second n this there = second n this (first n this there)

pub keeps_pushed : (nodes : List Node) (last : Node) → Keeps nodes (nodes ++ last ∷ [])
keeps_pushed (x ∷ nodes) last zero this there = there
keeps_pushed (x ∷ nodes) last (suc n) this there = keeps_pushed nodes last n this there
keeps_pushed [] last zero this there = cc
keeps_pushed [] last (suc n) this there = cc

pub pushed_there : (nodes : List Node) (last : Node) → slice_get (nodes ++ last ∷ []) (length nodes) ≡ Some last
pushed_there [] last = refl
pushed_there (x ∷ nodes) last = pushed_there nodes last

tells_pushed : (naming : Naming) (nodes : List Node) (last : Node) → NodesTell naming nodes → NodeTells naming last → NodesTell naming (nodes ++ last ∷ [])
tells_pushed naming [] last all this zero found is = subst (NodeTells naming) (some_is last found is) this
tells_pushed naming [] last all this (suc n) found is = cc
tells_pushed naming (x ∷ nodes) last all this zero found is = all zero found is
tells_pushed naming (x ∷ nodes) last all this (suc n) found is = tells_pushed naming nodes last (λ m. all (suc m)) this n found is

-- an item of one node
module _ (nodes : List Node) (this : Node) where
  abbrev longer : List Node
  longer = nodes ++ this ∷ []

  there_in : (c : Cursor) → Keeps longer c.nodes → slice_get c.nodes (length nodes) ≡ Some this
  there_in c keeps = keeps (length nodes) this (pushed_there nodes this)

  pub record IsNode (item : Setting → Item) (first : ℕ) (behind : Next) : Type 0 where
    pub follows : (setting : Setting) (nest : Nest) (c : Cursor) → c.at ≡ at.Before (next.Node (length nodes)) → slice_get c.nodes (length nodes) ≡ Some this → (go : List ℤ → Course)
        → Leads setting nest c behind go → FollowsIn setting nest c ((item setting).events first c.scalars go)

  pub one_node : (item : Setting → Item) (does : List Doing) (first first' : ℕ) (behind : Next) → ((setting : Setting) → first' + length (item setting).bodies ≡ first) → first' + runs does ≡ first
      → ((naming : Naming) → AreTold naming first' does → NodeTells naming this)
      → ((more_nodes : List Node) → slice_get more_nodes (length nodes) ≡ Some this → (k : ℕ) → Most more_nodes behind k → Most more_nodes (next.Node (length nodes)) (16777216 * runs does + k))
      → IsNode item first' behind → Puts nodes first longer first' item does behind (next.Node (length nodes))
  one_node item does first first' behind counts runs_are tells room is = record {
    keeps = keeps_pushed nodes this;
    counts = counts;
    ran = runs_are;
    tells = λ naming told all. tells_pushed naming nodes this all (tells naming told);
    room = λ more_nodes keeps k most. room more_nodes (keeps (length nodes) this (pushed_there nodes this)) k most;
    enacts = λ setting nest c keeps at_is go ends. is.follows setting nest c at_is (there_in c keeps) go ends;
  }

-- a declaration, an assignment
module _ (nodes : List Node) (first : ℕ) (line : Line) (name : ℕ) (e : Expr) (behind : Next) where
  pub puts_declare : Puts nodes first (nodes ++ node.Change line name op.Set e behind ∷ []) first (λ setting. item_of setting (stmt.Declare line name e)) (doings (stmt.Declare line name e)) behind (next.Node (length nodes))
  puts_declare = one_node nodes this (λ setting. item_of setting (stmt.Declare line name e)) (doings (stmt.Declare line name e)) first first behind
      (λ setting. ap (λ (i : Item). first + length i.bodies) (item-declare setting line name e) ∙ omega arith)
      (ap (λ ds. first + runs ds) (doings-declare line name e) ∙ omega arith)
      (λ naming told. (subst (AreTold naming first) (doings-declare line name e) told).0)
      (λ more_nodes there k most. by_change (length nodes) (16777216 * runs (doings (stmt.Declare line name e)) + k) line name op.Set e behind there (more more_nodes behind k (16777216 * runs (doings (stmt.Declare line name e)) + k) (omega arith) most))
      (record {
        follows = λ setting nest c at_is there go ends. subst (λ (i : Item). FollowsIn setting nest c (i.events first c.scalars go)) (sym (item-declare setting line name e))
            (computes setting nest c (length nodes) this at_is there (λ words. and_then (value setting.arrays c.scalars words e) (λ new. Ok (with_scalar c.scalars name new))) go
            (λ words. agree setting nest c go ends (value setting.arrays c.scalars words e)));
      })
    where
      this : Node
      this = node.Change line name op.Set e behind

      agree : (setting : Setting) (nest : Nest) (c : Cursor) (go : List ℤ → Course) → Leads setting nest c behind go
          → (r : Result ℤ Cause) → Agrees setting nest c go (and_then (and_then r (assigned (operation_of op.Set) (scalar_at c.scalars name))) (λ new. Ok (step.Change name new behind))) (and_then r (λ new. Ok (with_scalar c.scalars name new)))
      agree setting nest c go ends (Ok new) = ends (record c { at = at.Before behind; scalars = with_scalar c.scalars name new }) refl refl refl
      agree setting nest c go ends (Err cause) = refl

module _ (nodes : List Node) (first : ℕ) (line : Line) (name : ℕ) (o : Op) (e : Expr) (behind : Next) where
  pub puts_assign : Puts nodes first (nodes ++ node.Change line name o e behind ∷ []) first (λ setting. item_of setting (stmt.Assign line name o e)) (doings (stmt.Assign line name o e)) behind (next.Node (length nodes))
  puts_assign = one_node nodes this (λ setting. item_of setting (stmt.Assign line name o e)) (doings (stmt.Assign line name o e)) first first behind
      (λ setting. ap (λ (i : Item). first + length i.bodies) (item-assign setting line name o e) ∙ omega arith)
      (ap (λ ds. first + runs ds) (doings-assign line name o e) ∙ omega arith)
      (λ naming told. (subst (AreTold naming first) (doings-assign line name o e) told).0)
      (λ more_nodes there k most. by_change (length nodes) (16777216 * runs (doings (stmt.Assign line name o e)) + k) line name o e behind there (more more_nodes behind k (16777216 * runs (doings (stmt.Assign line name o e)) + k) (omega arith) most))
      (record {
        follows = λ setting nest c at_is there go ends. subst (λ (i : Item). FollowsIn setting nest c (i.events first c.scalars go)) (sym (item-assign setting line name o e))
            (computes setting nest c (length nodes) this at_is there (λ words. and_then (value setting.arrays c.scalars words e) (λ right. and_then (assigned (operation_of o) (scalar_at c.scalars name) right) (λ new. Ok (with_scalar c.scalars name new)))) go
            (λ words. agree setting nest c go ends (value setting.arrays c.scalars words e)));
      })
    where
      this : Node
      this = node.Change line name o e behind

      made : (setting : Setting) (nest : Nest) (c : Cursor) (go : List ℤ → Course) → Leads setting nest c behind go
          → (r : Result ℤ Cause) → Agrees setting nest c go (and_then r (λ new. Ok (step.Change name new behind))) (and_then r (λ new. Ok (with_scalar c.scalars name new)))
      made setting nest c go ends (Ok new) = ends (record c { at = at.Before behind; scalars = with_scalar c.scalars name new }) refl refl refl
      made setting nest c go ends (Err cause) = refl

      agree : (setting : Setting) (nest : Nest) (c : Cursor) (go : List ℤ → Course) → Leads setting nest c behind go
          → (r : Result ℤ Cause) → Agrees setting nest c go (and_then (and_then r (assigned (operation_of o) (scalar_at c.scalars name))) (λ new. Ok (step.Change name new behind)))
          (and_then r (λ right. and_then (assigned (operation_of o) (scalar_at c.scalars name) right) (λ new. Ok (with_scalar c.scalars name new))))
      agree setting nest c go ends (Ok right) = made setting nest c go ends (assigned (operation_of o) (scalar_at c.scalars name) right)
      agree setting nest c go ends (Err cause) = refl

-- the header of a loop: what its turns make of a cursor, against its low bound and its count of turns
module _ (setting : Setting) (nest : Nest) (c : Cursor) (h : Header) (make : Turning → Step) (go : ℤ × ℕ → Course)
    (each : (low : ℤ) (trips : ℕ) → FollowsIn setting nest (stepped c (make (begun low h.step trips))) (go (low, trips))) (words : List ℤ) where
  by_count : (low : ℤ) (r : Result ℕ Cause) → Agrees setting nest c go (and_then (and_then r (λ trips. Ok (begun low h.step trips))) (λ t. Ok (make t))) (and_then r (λ count. Ok (low, count)))
  by_count low (Ok trips) = each low trips
  by_count low (Err cause) = refl

  by_high : (low : ℤ) (r : Result ℤ Cause) → Agrees setting nest c go (and_then (and_then r (λ high. and_then (counted (turns low high h.step h.through)) (λ trips. Ok (begun low h.step trips)))) (λ t. Ok (make t)))
      (and_then r (λ high. and_then (counted (turns low high h.step h.through)) (λ count. Ok (low, count))))
  by_high low (Ok high) = by_count low (counted (turns low high h.step h.through))
  by_high low (Err cause) = refl

  by_low : (r : Result ℤ Cause) → Agrees setting nest c go (and_then (and_then r (λ low. and_then (value setting.arrays c.scalars words h.high) (λ high. and_then (counted (turns low high h.step h.through)) (λ trips. Ok (begun low h.step trips))))) (λ t. Ok (make t)))
      (and_then r (λ low. and_then (value setting.arrays c.scalars words h.high) (λ high. and_then (counted (turns low high h.step h.through)) (λ count. Ok (low, count)))))
  by_low (Ok low) = by_high low (value setting.arrays c.scalars words h.high)
  by_low (Err cause) = refl

  pub headers_agree : Agrees setting nest c go (and_then (turning_of setting.arrays h c.scalars words) (λ t. Ok (make t)))
      (and_then (value setting.arrays c.scalars words h.low) (λ low. and_then (value setting.arrays c.scalars words h.high) (λ high. and_then (counted (turns low high h.step h.through)) (λ count. Ok (low, count)))))
  headers_agree = by_low (value setting.arrays c.scalars words h.low)

-- each beside what it is made into
pub seconds : {A B : Type 0} (f : A → B) (xs : List A) → map (λ (p : A × B). p.1) (map (λ x. (x, f x)) xs) ≡ map f xs
seconds f [] = refl
seconds f (x ∷ xs) = ap (λ ys. f x ∷ ys) (seconds f xs)

-- a loop that invokes a body
module _ (nodes : List Node) (first : ℕ) (l : Loop) (behind : Next) where
  abbrev invoking : Node
  invoking = node.Invoke (header_of l) first behind

  abbrev layer : Setting → Layer_of_loop
  layer setting = record { line = l.line; name = l.name; low = l.low; high = l.high; through = l.through; step = l.step; body = map (λ s. (s, item_of setting s)) l.body }

  invocation_is : (setting : Setting) → item_of setting (stmt.Loop l) ≡ (looped_node setting (layer setting)).invocation
  invocation_is setting = item-loop setting l ∙ ap (λ (x : Looped). x.invocation) (looped-is setting l)

  invocation_follows : IsNode nodes invoking (λ setting. item_of setting (stmt.Loop l)) first behind
  invocation_follows = record { follows = λ setting nest c at_is there go ends. subst (λ (i : Item). FollowsIn setting nest c (i.events first c.scalars go)) (sym (invocation_is setting)) (inside setting nest c at_is there go ends) }
    where
      inside : (setting : Setting) (nest : Nest) (c : Cursor) → c.at ≡ at.Before (next.Node (length nodes)) → slice_get c.nodes (length nodes) ≡ Some invoking → (go : List ℤ → Course) → Leads setting nest c behind go
          → FollowsIn setting nest c ((looped_node setting (layer setting)).invocation.events first c.scalars go)
      inside setting nest c at_is there go ends =
          let on : ℤ × ℕ → Course = λ b. iterations b.1 0 first (λ k. with_scalar c.scalars l.name (variable b.0 l.step k)) c.scalars (go c.scalars) in
          computes setting nest c (length nodes) invoking at_is there (λ words. bounds setting.arrays (layer setting) c.scalars words) on
          (λ words. headers_agree setting nest c (header_of l) (λ t. step.Invoke (record { body = first; name = Some l.name; turning = t; next = behind })) on
          (λ low trips. iterates setting nest first (Some l.name) low l.step trips behind c.nodes c.region c.scalars (go c.scalars)
          (λ later same region scalars at'. subst (λ s. FollowsIn setting nest later (go s)) scalars (ends later same region at'))
          trips 0 (stepped c (step.Invoke (record { body = first; name = Some l.name; turning = begun low l.step trips; next = behind }))) refl refl refl refl (omega arith)) words)

  pub puts_invocation : Puts nodes (suc first) (nodes ++ invoking ∷ []) first (λ setting. item_of setting (stmt.Loop l)) (doings (stmt.Loop l)) behind (next.Node (length nodes))
  puts_invocation = one_node nodes invoking (λ setting. item_of setting (stmt.Loop l)) (doings (stmt.Loop l)) (suc first) first behind (λ setting. ap (λ (i : Item). first + length i.bodies) (invocation_is setting) ∙ omega arith)
      (ap (λ ds. first + runs ds) (doings-loop l) ∙ omega arith) (λ naming told. (subst (AreTold naming first) (doings-loop l) told).0)
      (λ more_nodes there k most. subst (λ ds. Most more_nodes (next.Node (length nodes)) (16777216 * runs ds + k)) (sym (doings-loop l))
      (by_invoke (length nodes) k (16777216 * 1 + k) (header_of l) first behind there most (omega arith)))
      invocation_follows

-- an array statement
module _ (nodes : List Node) (first : ℕ) (line : Line) (name : ℕ) (place : Expr) (o : Op) (e : Expr) (behind : Next) where
  abbrev writing : Node
  writing = node.Write line first behind

  abbrev the_write : Stmt
  the_write = stmt.Write line name place o e

  write_follows : IsNode nodes writing (λ setting. item_of setting the_write) first behind
  write_follows = record { follows = λ setting nest c at_is there go ends. subst (λ (i : Item). FollowsIn setting nest c (i.events first c.scalars go)) (sym (item-write setting line name place o e)) (inside setting nest c at_is there go ends) }
    where
      inside : (setting : Setting) (nest : Nest) (c : Cursor) → c.at ≡ at.Before (next.Node (length nodes)) → slice_get c.nodes (length nodes) ≡ Some writing → (go : List ℤ → Course) → Leads setting nest c behind go
          → FollowsIn setting nest c (course.Scalar Header_purpose c.scalars (iterations 1 0 first (λ k. c.scalars) c.scalars (go c.scalars)))
      inside setting nest c at_is there go ends =
          let on : Unit {0} → Course = λ u. iterations 1 0 first (λ k. c.scalars) c.scalars (go c.scalars) in
          computes setting nest c (length nodes) writing at_is there (λ words. Ok tt) on
          (λ words. iterates setting nest first None (pos 0) 1 1 behind c.nodes c.region c.scalars (go c.scalars)
          (λ later same region scalars at'. subst (λ s. FollowsIn setting nest later (go s)) scalars (ends later same region at'))
          1 0 (stepped c (step.Invoke (record { body = first; name = None; turning = begun (pos 0) 1 1; next = behind }))) refl refl refl refl refl)

  pub puts_write : Puts nodes (suc first) (nodes ++ writing ∷ []) first (λ setting. item_of setting the_write) (doings the_write) behind (next.Node (length nodes))
  puts_write = one_node nodes writing (λ setting. item_of setting the_write) (doings the_write) (suc first) first behind (λ setting. ap (λ (i : Item). first + length i.bodies) (item-write setting line name place o e) ∙ omega arith)
      (ap (λ ds. first + runs ds) (doings-write line name place o e) ∙ omega arith) (λ naming told. (subst (AreTold naming first) (doings-write line name place o e) told).0)
      (λ more_nodes there k most. subst (λ ds. Most more_nodes (next.Node (length nodes)) (16777216 * runs ds + k)) (sym (doings-write line name place o e))
      (by_write (length nodes) k (16777216 * 1 + k) line first behind there most (omega arith)))
      write_follows

-- the same item, otherwise said
pub puts_as : (nodes : List Node) (first : ℕ) (nodes' : List Node) (first' : ℕ) (item item' : Setting → Item) (does does' : List Doing) (behind start : Next) → ((setting : Setting) → item' setting ≡ item setting) → does' ≡ does
    → Puts nodes first nodes' first' item does behind start → Puts nodes first nodes' first' item' does' behind start
puts_as nodes first nodes' first' item item' does does' behind start same same_does puts = record {
  keeps = puts.keeps;
  counts = λ setting. ap (λ (i : Item). first' + length i.bodies) (same setting) ∙ puts.counts setting;
  ran = ap (λ ds. first' + runs ds) same_does ∙ puts.ran;
  tells = λ naming told all. puts.tells naming (subst (AreTold naming first') same_does told) all;
  room = λ longer keeps k most. subst (λ ds. Most longer start (16777216 * runs ds + k)) (sym same_does) (puts.room longer keeps k most);
  enacts = λ setting nest c keeps at_is go ends. subst (λ (i : Item). FollowsIn setting nest c (i.events first' c.scalars go)) (sym (same setting)) (puts.enacts setting nest c keeps at_is go ends);
}

-- no items
pub puts_none : (nodes : List Node) (first : ℕ) (behind : Next) → Puts nodes first nodes first (block_of []) [] behind behind
puts_none nodes first behind = record {
  keeps = keeps_all nodes;
  counts = λ setting. omega arith;
  ran = omega arith;
  tells = λ naming told all. all;
  room = λ longer keeps k most. more longer behind k (16777216 * 0 + k) (omega arith) most;
  enacts = λ setting nest c keeps at_is go ends. ends c refl refl at_is;
}

-- what stands in two parts: how many there are, how many are run, and what is told of them
both_count : {A : Type 0} (f₀ f₁ f₂ : ℕ) (xs ys : List A) → f₁ + length ys ≡ f₀ → f₂ + length xs ≡ f₁ → f₂ + length (xs ++ ys) ≡ f₀
both_count f₀ f₁ f₂ xs ys rest here = let both = length-append xs ys in omega (arith, rest, here)

both_run : (f₀ f₁ f₂ : ℕ) (does later_does : List Doing) → f₁ + runs later_does ≡ f₀ → f₂ + runs does ≡ f₁ → f₂ + runs (does ++ later_does) ≡ f₀
both_run f₀ f₁ f₂ does later_does rest here = let both = runs-append does later_does in omega (arith, rest, here)

both_tell : (n₀ n₁ n₂ : List Node) (f₁ f₂ : ℕ) (does later_does : List Doing) → f₂ + runs does ≡ f₁ → ((naming : Naming) → AreTold naming f₁ later_does → NodesTell naming n₀ → NodesTell naming n₁) → ((naming : Naming) → AreTold naming f₂ does → NodesTell naming n₁ → NodesTell naming n₂)
    → (naming : Naming) → AreTold naming f₂ (does ++ later_does) → NodesTell naming n₀ → NodesTell naming n₂
both_tell n₀ n₁ n₂ f₁ f₂ does later_does runs_are rest here naming told all =
    let parts = told_split naming f₂ does later_does told in
    here naming parts.0 (rest naming (subst (λ f. AreTold naming f later_does) runs_are parts.1) all)

-- an item before others
pub puts_more : (n₀ n₁ n₂ : List Node) (f₀ f₁ f₂ : ℕ) (item : Setting → Item) (others : Setting → List Item) (does later_does : List Doing) (behind middle start : Next)
    → Puts n₀ f₀ n₁ f₁ (λ setting. in_order (others setting)) later_does behind middle → Puts n₁ f₁ n₂ f₂ item does middle start → Puts n₀ f₀ n₂ f₂ (λ setting. in_order (item setting ∷ others setting)) (does ++ later_does) behind start
puts_more n₀ n₁ n₂ f₀ f₁ f₂ item others does later_does behind middle start rest here = record {
  keeps = keeps_then n₀ n₁ n₂ rest.keeps here.keeps;
  ran = both_run f₀ f₁ f₂ does later_does rest.ran here.ran;
  tells = both_tell n₀ n₁ n₂ f₁ f₂ does later_does here.ran rest.tells here.tells;
  room = λ longer keeps k most.
      let both = runs-append does later_does in
      more longer start (16777216 * runs does + (16777216 * runs later_does + k)) (16777216 * runs (does ++ later_does) + k) (omega arith)
      (here.room longer keeps (16777216 * runs later_does + k) (rest.room longer (keeps_then n₁ n₂ longer here.keeps keeps) k most));
  counts = λ setting. both_count f₀ f₁ f₂ (item setting).bodies (in_order (others setting)).bodies (rest.counts setting) (here.counts setting);
  enacts = λ setting nest c keeps at_is go ends.
      here.enacts setting nest c keeps at_is (λ after. (in_order (others setting)).events (f₂ + length (item setting).bodies) after go)
      (λ later same region at'. subst (λ f. FollowsIn setting nest later ((in_order (others setting)).events f later.scalars go)) (sym (here.counts setting))
      (rest.enacts setting nest later (λ n this there. ap (λ nodes. slice_get nodes n) same ∙ keeps n this (here.keeps n this there)) at' go
      (λ last same' region' at''. ends last (same' ∙ same) (region' ∙ region) at'')));
}

-- an arm before others
module _ (n₀ n₁ n₂ : List Node) (f₀ f₁ f₂ : ℕ) (a : Arm) (arms : Setting → List Tested) (other : Setting → Item) (does : List Doing) (behind otherwise taken : Next)
    (rest : Puts n₀ f₀ n₁ f₁ (λ setting. chosen (arms setting) (other setting)) does behind otherwise) (body : Puts n₁ f₁ n₂ f₂ (block_of a.body) (doings_of a.body) behind taken) where
  abbrev testing : Node
  testing = node.Test a.line a.test taken otherwise

  abbrev tested_as : Setting → Item → Tested
  tested_as setting items = record {
    bodies = items.bodies;
    events = λ first scalars otherwise go. event setting Ordinary scalars a.line (a.test ∷ []) (λ words. value setting.arrays scalars words a.test) (λ test. if is_zero test then otherwise else items.events first scalars go);
  }

  tested_as_is : (setting : Setting) → tested_of setting a ≡ tested_as setting (block_of a.body setting)
  tested_as_is setting = tested-is setting a ∙ ap (λ items. tested_as setting (in_order items)) (seconds (item_of setting) a.body)

  abbrev whole : Setting → Tested → Item
  whole setting t = chosen (t ∷ arms setting) (other setting)

  enacts_test : (setting : Setting) (nest : Nest) (c : Cursor) → Keeps (n₂ ++ testing ∷ []) c.nodes → c.at ≡ at.Before (next.Node (length n₂)) → (go : List ℤ → Course) → Leads setting nest c behind go
      → FollowsIn setting nest c ((whole setting (tested_as setting (block_of a.body setting))).events f₂ c.scalars go)
  enacts_test setting nest c keeps at_is go ends =
      computes setting nest c (length n₂) testing at_is (keeps (length n₂) testing (pushed_there n₂ testing)) (λ words. value setting.arrays c.scalars words a.test) on (λ words. agree (value setting.arrays c.scalars words a.test))
    where
      others : Course
      others = (chosen (arms setting) (other setting)).events (f₂ + length (block_of a.body setting).bodies) c.scalars go

      on : ℤ → Course
      on test = if is_zero test then others else (block_of a.body setting).events f₂ c.scalars go

      keeps_body : Keeps n₂ c.nodes
      keeps_body = keeps_then n₂ (n₂ ++ testing ∷ []) c.nodes (keeps_pushed n₂ testing) keeps

      by_zero : (zero_is : Bool) → FollowsIn setting nest (standing c (if zero_is then otherwise else taken)) (if zero_is then others else (block_of a.body setting).events f₂ c.scalars go)
      by_zero true = subst (λ f. FollowsIn setting nest (standing c otherwise) ((chosen (arms setting) (other setting)).events f c.scalars go)) (sym (body.counts setting))
          (rest.enacts setting nest (standing c otherwise) (keeps_then n₁ n₂ c.nodes body.keeps keeps_body) refl go ends)
      by_zero false = body.enacts setting nest (standing c taken) keeps_body refl go ends

      agree : (r : Result ℤ Cause) → Agrees setting nest c on (and_then r (λ v. Ok (step.Go (if is_zero v then otherwise else taken)))) r
      agree (Ok v) = by_zero (is_zero v)
      agree (Err cause) = refl

  pub puts_arm : Puts n₀ f₀ (n₂ ++ testing ∷ []) f₂ (λ setting. chosen (tested_of setting a ∷ arms setting) (other setting)) (doings_in_arm a ++ does) behind (next.Node (length n₂))
  puts_arm = puts_as n₀ f₀ (n₂ ++ testing ∷ []) f₂ (λ setting. whole setting (tested_as setting (block_of a.body setting))) (λ setting. whole setting (tested_of setting a)) (doings_of a.body ++ does) (doings_in_arm a ++ does) behind (next.Node (length n₂))
      (λ setting. ap (whole setting) (tested_as_is setting)) (ap (λ ds. ds ++ does) (doings_in_arm-is a))
      (record {
        keeps = keeps_then n₀ n₁ (n₂ ++ testing ∷ []) rest.keeps (keeps_then n₁ n₂ (n₂ ++ testing ∷ []) body.keeps (keeps_pushed n₂ testing));
        counts = λ setting. both_count f₀ f₁ f₂ (block_of a.body setting).bodies (chosen (arms setting) (other setting)).bodies (rest.counts setting) (body.counts setting);
        ran = both_run f₀ f₁ f₂ (doings_of a.body) does rest.ran body.ran;
        tells = λ naming told all. tells_pushed naming n₂ testing (both_tell n₀ n₁ n₂ f₁ f₂ (doings_of a.body) does body.ran rest.tells body.tells naming told all) tt;
        room = λ longer keeps k most.
            let both = runs-append (doings_of a.body) does in
            let keeps_body : Keeps n₂ longer = keeps_then n₂ (n₂ ++ testing ∷ []) longer (keeps_pushed n₂ testing) keeps in
            by_test (length n₂) (16777216 * runs (doings_of a.body ++ does) + k) a.line a.test taken otherwise (keeps (length n₂) testing (pushed_there n₂ testing))
            (more longer taken (16777216 * runs (doings_of a.body) + k) (16777216 * runs (doings_of a.body ++ does) + k) (omega arith) (body.room longer keeps_body k most))
            (more longer otherwise (16777216 * runs does + k) (16777216 * runs (doings_of a.body ++ does) + k) (omega arith) (rest.room longer (keeps_then n₁ n₂ longer body.keeps keeps_body) k most));
        enacts = enacts_test;
      })

-- an `if`
pub if_is : (setting : Setting) (arms : List Arm) (other : List Stmt) → item_of setting (stmt.If arms other) ≡ chosen (map (tested_of setting) arms) (block_of other setting)
if_is setting arms other = item-if setting arms other
    ∙ ap (λ tests. chosen tests (in_order (map (λ (s : Stmt × Item). s.1) (map (λ s. (s, item_of setting s)) other)))) (seconds (tested_of setting) arms)
    ∙ ap (λ items. chosen (map (tested_of setting) arms) (in_order items)) (seconds (item_of setting) other)

-- a region
module _ (n₀ n₁ : List Node) (f₀ f₁ : ℕ) (l : Loop) (items leave : Next) (body : Puts n₀ f₀ n₁ f₁ (block_of l.body) (doings_of l.body) next.Turn items) where
  abbrev entering : Node
  entering = node.Region (header_of l) items leave

  abbrev region_layer : Setting → Layer_of_loop
  region_layer setting = record { line = l.line; name = l.name; low = l.low; high = l.high; through = l.through; step = l.step; body = map (λ s. (s, item_of setting s)) l.body }

  abbrev region_as : Setting → Item → Item
  region_as setting inside = record {
    bodies = inside.bodies;
    events = λ first scalars go. event setting Ordinary scalars l.line (l.low ∷ l.high ∷ []) (bounds setting.arrays (region_layer setting) scalars) (λ b. region_turns b.1 0 (variable b.0 l.step) l.name (inside.events first) scalars go);
  }

  region_is : (setting : Setting) → region_of setting l ≡ region_as setting (block_of l.body setting)
  region_is setting = ap (λ (x : Looped). x.region) (looped-is setting l) ∙ ap (λ them. region_as setting (in_order them)) (seconds (item_of setting) l.body)

  enacts_region : EnactsRegion (n₁ ++ entering ∷ []) (λ setting. region_as setting (block_of l.body setting)) f₁ leave (next.Node (length n₁))
  enacts_region setting nest c keeps at_is go ends =
      computes setting nest c (length n₁) entering at_is (keeps (length n₁) entering (pushed_there n₁ entering)) (λ words. bounds setting.arrays (region_layer setting) c.scalars words) on
      (λ words. headers_agree setting nest c (header_of l) (λ t. step.Enter (record { name = l.name; turning = t; items = items; leave = leave })) on
      (λ low trips. turns_follow setting nest l.name low l.step trips items leave c.nodes ((block_of l.body setting).events f₁) go inside ends
      trips 0 (stepped c (step.Enter (record { name = l.name; turning = begun low l.step trips; items = items; leave = leave }))) refl refl refl (omega arith)) words)
    where
      on : ℤ × ℕ → Course
      on b = region_turns b.1 0 (variable b.0 l.step) l.name ((block_of l.body setting).events f₁) c.scalars go

      inside : (d : Cursor) → d.nodes ≡ c.nodes → d.at ≡ at.Before items → (after : List ℤ → Course) → Leads setting nest d next.Turn after → FollowsIn setting nest d ((block_of l.body setting).events f₁ d.scalars after)
      inside d same at' after onward = body.enacts setting nest d (λ n this there. ap (λ nodes. slice_get nodes n) same ∙ keeps n this (keeps_pushed n₁ entering n this there)) at' after onward

  pub puts_region : PutsRegion n₀ f₀ (n₁ ++ entering ∷ []) f₁ (λ setting. region_of setting l) (doings_in_region l) leave (next.Node (length n₁))
  puts_region = record {
    keeps = keeps_then n₀ n₁ (n₁ ++ entering ∷ []) body.keeps (keeps_pushed n₁ entering);
    ran = body.ran;
    tells = λ naming told all. tells_pushed naming n₁ entering (body.tells naming told.1 all) told.0;
    room = λ longer keeps k most.
        by_region (length n₁) (16777216 * runs (doings_of l.body) + 0) k (281474976710656 * runs (doings_of l.body) + k) (header_of l) items leave (keeps (length n₁) entering (pushed_there n₁ entering))
        (body.room longer (keeps_then n₁ (n₁ ++ entering ∷ []) longer (keeps_pushed n₁ entering) keeps) 0 (by_turn 0)) most (omega arith);
    counts = λ setting. ap (λ (i : Item). f₁ + length i.bodies) (region_is setting) ∙ body.counts setting;
    enacts = λ setting nest c keeps at_is go ends. subst (λ (i : Item). FollowsIn setting nest c (i.events f₁ c.scalars go)) (sym (region_is setting)) (enacts_region setting nest c keeps at_is go ends);
  }

pub puts_no_region : (nodes : List Node) (first : ℕ) (behind : Next) → PutsRegion nodes first nodes first (λ setting. in_order []) [] behind behind
puts_no_region nodes first behind = record {
  keeps = keeps_all nodes;
  ran = omega arith;
  tells = λ naming told all. all;
  room = λ longer keeps k most. more_of longer behind k (281474976710656 * 0 + k) (omega arith) most;
  counts = λ setting. omega arith;
  enacts = λ setting nest c keeps at_is go ends. ends c refl at_is;
}

-- a region before others
pub puts_more_regions : (n₀ n₁ n₂ : List Node) (f₀ f₁ f₂ : ℕ) (item : Setting → Item) (others : Setting → List Item) (does later_does : List Doing) (behind middle start : Next)
    → PutsRegion n₀ f₀ n₁ f₁ (λ setting. in_order (others setting)) later_does behind middle → PutsRegion n₁ f₁ n₂ f₂ item does middle start → PutsRegion n₀ f₀ n₂ f₂ (λ setting. in_order (item setting ∷ others setting)) (does ++ later_does) behind start
puts_more_regions n₀ n₁ n₂ f₀ f₁ f₂ item others does later_does behind middle start rest here = record {
  keeps = keeps_then n₀ n₁ n₂ rest.keeps here.keeps;
  ran = both_run f₀ f₁ f₂ does later_does rest.ran here.ran;
  tells = both_tell n₀ n₁ n₂ f₁ f₂ does later_does here.ran rest.tells here.tells;
  room = λ longer keeps k most.
      let both = runs-append does later_does in
      more_of longer start (281474976710656 * runs does + (281474976710656 * runs later_does + k)) (281474976710656 * runs (does ++ later_does) + k) (omega arith)
      (here.room longer keeps (281474976710656 * runs later_does + k) (rest.room longer (keeps_then n₁ n₂ longer here.keeps keeps) k most));
  counts = λ setting. both_count f₀ f₁ f₂ (item setting).bodies (in_order (others setting)).bodies (rest.counts setting) (here.counts setting);
  enacts = λ setting nest c keeps at_is go ends.
      here.enacts setting nest c keeps at_is (λ after. (in_order (others setting)).events (f₂ + length (item setting).bodies) after go)
      (λ later same at'. subst (λ f. FollowsIn setting nest later ((in_order (others setting)).events f later.scalars go)) (sym (here.counts setting))
      (rest.enacts setting nest later (λ n this there. ap (λ nodes. slice_get nodes n) same ∙ keeps n this (here.keeps n this there)) at' go
      (λ last same' at''. ends last (same' ∙ same) at'')));
}

-- an event was pushed to a script
pub pushed : (P : List Node → ℕ → Next → Type 0) (m n' : List Node) (g f' : ℕ) (this : Node) → P (m ++ this ∷ []) g (next.Node (length m)) → (result : Result Next NoMemory)
    → IfOk result (λ start. (start ≡ next.Node (length m)) × (n' ≡ m ++ this ∷ []) × (f' ≡ g)) → IfOk result (λ start. P n' f' start)
pushed P m n' g f' this holds (Ok start) tells =
    subst (λ s. P n' f' s) (sym tells.0) (subst (λ n. P n f' (next.Node (length m))) (sym tells.1) (subst (λ f. P (m ++ this ∷ []) f (next.Node (length m))) (sym tells.2) holds))
pushed P m n' g f' this holds (Err none) tells = tells

-- an `if`, from its last block and its arms
pub if_puts : (result : Result Next NoMemory) (n m n' : List Node) (f g f' : ℕ) (arms : List Arm) (other : List Stmt) (behind otherwise : Next) → Puts n f m g (block_of other) (doings_of other) behind otherwise
    → IfOk result (λ start. (nodes : List Node) (first : ℕ) (o : Setting → Item) (does : List Doing) → Puts nodes first m g o does behind otherwise → Puts nodes first n' f' (λ setting. chosen (map (tested_of setting) arms) (o setting)) (flat_map doings_in_arm arms ++ does) behind start)
    → IfOk result (λ start. Puts n f n' f' (λ setting. item_of setting (stmt.If arms other)) (doings (stmt.If arms other)) behind start)
if_puts (Ok start) n m n' f g f' arms other behind otherwise block each =
    puts_as n f n' f' (λ setting. chosen (map (tested_of setting) arms) (block_of other setting)) (λ setting. item_of setting (stmt.If arms other)) (flat_map doings_in_arm arms ++ doings_of other) (doings (stmt.If arms other)) behind start
    (λ setting. if_is setting arms other) (doings-if arms other) (each n f (block_of other) (doings_of other) block)
if_puts (Err none) n m n' f g f' arms other behind otherwise block each = each
