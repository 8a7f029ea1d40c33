-- How many iterations may come on any way through a course: at most 2^24 for a body in each turn of its region, and at
-- most 2^24 turns.
use Rattle.std.proofs.Common.{◌≡◌, ℕ, zero, suc, ◌+◌, ◌-◌, ◌*◌, ◌^◌, ◌≤◌, ℤ, Bool, true, false, nat_le, if◌then◌else◌, Option, Some, None, Result, Ok, Err, List, [], ◌∷◌, ◌++◌, map, length, refl, sym, ap, ◌∙◌, subst, arith, length-append}
use Rattle.std.specs.Option.{option_and_then}
use Rattle.std.specs.List.{list_any}
use Rattle.std.proofs.Math.Nat.{mul-le-mul_left}
use Rattle.std.proofs.lemmas.Bool.{leb-true}
use Rattle.nest_syntax.specs.declared.names.Line.{Line}
use Rattle.nest_syntax.specs.declared.operators.Cause.{Cause}
use Rattle.nest_syntax.specs.declared.operators.Cause.TheVariants as cause
use Rattle.nest_syntax.specs.declared.tree.Expr.{Expr}
use Rattle.nest_syntax.specs.declared.tree.Arm.{Arm}
use Rattle.nest_syntax.specs.declared.tree.Loop.{Loop}
use Rattle.nest_syntax.specs.declared.tree.Stmt.{Stmt}
use Rattle.nest_syntax.specs.Words.{is_zero, operation_of, assigned, turns, counted, variable, most_turns}
use Rattle.nest_syntax.specs.Arrays.{Array, arrays_of, sizes_of}
use Rattle.nest_syntax.specs.Value.{value, and_then, names_written, scalar_at, with_scalar}
use Rattle.nest_syntax.specs.Turn.{Turn}
use Rattle.nest_syntax.specs.Reads.{on_words}
use Rattle.nest_syntax.specs.Course.{Setting, Course, Purpose, Ordinary, Header, End, Failed, Scalar, Drain, Iterate, Close, Item, Tested, Looped, Layer_of_arm, Layer_of_loop, computed, event, iterations, region_turns, in_order, chosen, bounds, tested_node, looped_node, item_of, tested_of, region_of, setting_of, bodies_of, whole_of, opening_scalars}
use Rattle.nest_syntax.specs.Outcome.{turn_in, completed, events_from, iterations_among}
use Rattle.nest_mean.specs.Bound.{most_iterations, HasFewIterations}
use Rattle.nest_syntax.specs.Among.{Each}
use Rattle.nest_syntax.proofs.Equations.{item-declare, item-assign, item-write, item-if, item-loop, looped-is, tested-is}
use Rattle.nest_syntax.proofs.Inductions.{stmt_induction}
use Rattle.nest_syntax.proofs.Shapes.{regions_same}

-- at most so many iterations, whatever the drains read
abbrev AtMost : ℕ → Course → Type 0
AtMost n End = Unit {0}
AtMost n (Failed cause line) = Unit {0}
AtMost n (Scalar purpose scalars rest) = AtMost n rest
AtMost n (Drain purpose scalars rest) = (words : List ℤ) → AtMost n (rest words)
AtMost n (Iterate body scalars rest) = (1 ≤ n) × AtMost (n - 1) rest
AtMost n (Close scalars rest) = AtMost n rest

more : (few many : ℕ) (course : Course) → few ≤ many → AtMost few course → AtMost many course
more few many End le h = tt
more few many (Failed cause line) le h = tt
more few many (Scalar purpose scalars rest) le h = more few many rest le h
more few many (Drain purpose scalars rest) le h = λ words. more few many (rest words) le (h words)
more few many (Iterate body scalars rest) le h = (omega (arith, h.0), more (few - 1) (many - 1) rest (omega arith) h.1)
more few many (Close scalars rest) le h = more few many rest le h

among : (sizes : List ℕ) (turn : ℕ → List ℤ → Turn) (course : Course) (n : ℕ) (reached : Option (List ℤ)) → AtMost n course → length (iterations_among (events_from sizes turn course reached)) ≤ n
among sizes turn End n reached h = omega arith
among sizes turn (Failed cause line) n reached h = omega arith
among sizes turn (Scalar purpose scalars rest) n reached h = among sizes turn rest n reached h
among sizes turn (Drain purpose scalars rest) n None h = omega arith
among sizes turn (Drain purpose scalars rest) n (Some words) h = among sizes turn (rest words) n (Some words) (h words)
among sizes turn (Iterate body scalars rest) n reached h =
    let others = among sizes turn rest (n - 1) (option_and_then (λ words. completed (on_words sizes (turn body scalars) words)) reached) h.1 in
    omega (arith, h.0, others)
among sizes turn (Close scalars rest) n reached h = among sizes turn rest n reached h

-- an item has at most so many iterations for each of its bodies, besides those of what follows
abbrev Few : ℕ → Item → Type 0
Few most item = (first : ℕ) (scalars : List ℤ) (go : List ℤ → Course) (n : ℕ) → ((after : List ℤ) → AtMost n (go after)) → AtMost (most * length item.bodies + n) (item.events first scalars go)

-- and so has an arm, besides those of what follows it or is done otherwise
abbrev FewTested : Tested → Type 0
FewTested arm = (first : ℕ) (scalars : List ℤ) (otherwise : Course) (go : List ℤ → Course) (n all : ℕ) → most_turns * length arm.bodies + n ≤ all → AtMost all otherwise → ((after : List ℤ) → AtMost n (go after)) → AtMost all (arm.events first scalars otherwise go)

-- one item before others
few_before : (most : ℕ) (item others : Item) → Few most item → Few most others
    → Few most (record { bodies = item.bodies ++ others.bodies; events = λ first scalars go. item.events first scalars (λ after. others.events (first + length item.bodies) after go) })
few_before most item others here rest first scalars go n h =
    let product : most * length (item.bodies ++ others.bodies) ≡ most * (length item.bodies + length others.bodies) = ap (λ k. most * k) (length-append item.bodies others.bodies) in
    more (most * length item.bodies + (most * length others.bodies + n)) (most * length (item.bodies ++ others.bodies) + n) (item.events first scalars (λ after. others.events (first + length item.bodies) after go)) (omega (arith, product))
    (here first scalars (λ after. others.events (first + length item.bodies) after go) (most * length others.bodies + n) (λ after. rest (first + length item.bodies) after go n h))

few_none : (most : ℕ) → Few most (in_order [])
few_none most first scalars go n h = more n (most * 0 + n) (go scalars) (omega arith) (h scalars)

-- an event, where each result that it may have leads to few
module _ {A : Type 0} (line : Line) (compute : List ℤ → Result A Cause) (go : A → Course) (n : ℕ) (h : (words : List ℤ) (a : A) → compute words ≡ Ok a → AtMost n (go a)) where
  few_computed : (words : List ℤ) (result : Result A Cause) → compute words ≡ result → AtMost n (computed line result go)
  few_computed words (Ok a) is = h words a is
  few_computed words (Err cause) is = tt

  few_event : (setting : Setting) (purpose : Purpose) (scalars : List ℤ) (exprs : List Expr) → AtMost n (event setting purpose scalars line exprs compute go)
  few_event setting purpose scalars exprs = by_kind (list_any (names_written setting.arrays) exprs)
    where
      by_kind : (drains : Bool) → AtMost n (if drains then Drain purpose scalars (λ words. computed line (compute words) go) else Scalar purpose scalars (computed line (compute setting.words) go))
      by_kind true = λ words. few_computed words (compute words) refl
      by_kind false = few_computed setting.words (compute setting.words) refl

few_iterations : (count k body : ℕ) (scalars_in : ℕ → List ℤ) (scalars : List ℤ) (rest : Course) (n : ℕ) → AtMost n rest → AtMost (count + n) (iterations count k body scalars_in scalars rest)
few_iterations zero k body scalars_in scalars rest n h = more n (0 + n) rest (omega arith) h
few_iterations (suc count) k body scalars_in scalars rest n h = (omega arith, more (count + n) (suc count + n - 1) (iterations count (suc k) body scalars_in scalars rest) (omega arith) (few_iterations count (suc k) body scalars_in scalars rest n h))

few_turns : (items : Item) → Few most_turns items → (count k : ℕ) (variable_in : ℕ → ℤ) (name first : ℕ) (scalars : List ℤ) (go : List ℤ → Course) (n : ℕ) → ((after : List ℤ) → AtMost n (go after))
    → AtMost (count * (most_turns * length items.bodies) + n) (region_turns count k variable_in name (items.events first) scalars go)
few_turns items few zero k variable_in name first scalars go n h = more n (0 * (most_turns * length items.bodies) + n) (go scalars) (omega arith) (h scalars)
few_turns items few (suc count) k variable_in name first scalars go n h =
    more (most_turns * length items.bodies + (count * (most_turns * length items.bodies) + n)) (suc count * (most_turns * length items.bodies) + n) (items.events first (with_scalar scalars name (variable_in k)) (λ after. region_turns count (suc k) variable_in name (items.events first) after go)) (omega arith)
    (few first (with_scalar scalars name (variable_in k)) (λ after. region_turns count (suc k) variable_in name (items.events first) after go) (count * (most_turns * length items.bodies) + n)
    (λ after. few_turns items few count (suc k) variable_in name first after go n h))

-- a loop that doesn't trap has few turns
few_counted : (low : ℤ) (n : ℕ) (b : ℤ × ℕ) → and_then (counted n) (λ count. Ok (low, count)) ≡ Ok b → b.1 ≤ most_turns
few_counted low n b is = by_test (nat_le n most_turns) refl is
  where
    by_test : (test : Bool) → nat_le n most_turns ≡ test → and_then (if test then Ok n else Err cause.Loop) (λ count. Ok (low, count)) ≡ Ok b → b.1 ≤ most_turns
    by_test true within e = let same : (low, n) ≡ b = cc in subst (λ (p : ℤ × ℕ). p.1 ≤ most_turns) same (leb-true n most_turns within)
    by_test false over e = absurd (cc)

few_bounds : (arrays : List Array) (l : Layer_of_loop) (scalars words : List ℤ) (b : ℤ × ℕ) → bounds arrays l scalars words ≡ Ok b → b.1 ≤ most_turns
few_bounds arrays l scalars words b is = by_values (value arrays scalars words l.low) (value arrays scalars words l.high) is
  where
    by_values : (low high : Result ℤ Cause) → and_then low (λ from. and_then high (λ to. and_then (counted (turns from to l.step l.through)) (λ count. Ok (from, count)))) ≡ Ok b → b.1 ≤ most_turns
    by_values (Err cause) high e = absurd (cc)
    by_values (Ok from) (Err cause) e = absurd (cc)
    by_values (Ok from) (Ok to) e = few_counted from (turns from to l.step l.through) b e

module _ (setting : Setting) where
  abbrev FewItem : Stmt → Type 0
  FewItem s = Few most_turns (item_of setting s)

  abbrev items_at : List Stmt → Item
  items_at stmts = in_order (map (λ (p : Stmt × Item). p.1) (map (λ q. (q, item_of setting q)) stmts))

  abbrev arms_at : List Arm → Item → Item
  arms_at arms other = chosen (map (λ (p : Arm × Tested). p.1) (map (λ q. (q, tested_of setting q)) arms)) other

  few_items : (stmts : List Stmt) → Each FewItem stmts → Few most_turns (items_at stmts)
  few_items [] each = few_none most_turns
  few_items (s ∷ stmts) each = few_before most_turns (item_of setting s) (items_at stmts) each.0 (few_items stmts each.1)

  abbrev arm_at : Arm → Layer_of_arm
  arm_at a = record { line = a.line; test = a.test; body = map (λ s. (s, item_of setting s)) a.body }

  few_tested : (a : Arm) → Few most_turns (items_at a.body) → FewTested (tested_node setting (arm_at a))
  few_tested a items first scalars otherwise go n all within other h =
      few_event a.line (λ words. value setting.arrays scalars words a.test) (λ test. if is_zero test then otherwise else (items_at a.body).events first scalars go) all
      (λ words test is. by_test (is_zero test)) setting Ordinary scalars (a.test ∷ [])
    where
      by_test : (zero : Bool) → AtMost all (if zero then otherwise else (items_at a.body).events first scalars go)
      by_test true = other
      by_test false = more (most_turns * length (items_at a.body).bodies + n) all ((items_at a.body).events first scalars go) within (items first scalars go n h)

  few_arms : (arms : List Arm) → Each (λ (a : Arm). Each FewItem a.body) arms → (other : Item) → Few most_turns other → Few most_turns (arms_at arms other)
  few_arms [] each other h = h
  few_arms (a ∷ arms) each other h = λ first scalars go n rest.
      let arm = tested_of setting a in
      let others = arms_at arms other in
      let longer = length-append arm.bodies others.bodies in
      subst FewTested (sym (tested-is setting a)) (few_tested a (few_items a.body each.0)) first scalars (others.events (first + length arm.bodies) scalars go) go n (most_turns * length (arm.bodies ++ others.bodies) + n) (omega (arith, longer))
      (more (most_turns * length others.bodies + n) (most_turns * length (arm.bodies ++ others.bodies) + n) (others.events (first + length arm.bodies) scalars go) (omega (arith, longer)) (few_arms arms each.1 other h (first + length arm.bodies) scalars go n rest))
      rest

  few_assignment : (line : Line) (expr : Expr) (compute : List ℤ → List ℤ → Result (List ℤ) Cause) → Few most_turns (record { bodies = []; events = λ first scalars go. event setting Ordinary scalars line (expr ∷ []) (compute scalars) go })
  few_assignment line expr compute first scalars go n h = few_event line (compute scalars) go (most_turns * 0 + n) (λ words a is. more n (most_turns * 0 + n) (go a) (omega arith) (h a)) setting Ordinary scalars (expr ∷ [])

  abbrev loop_at : Loop → Layer_of_loop
  loop_at l = record { line = l.line; name = l.name; low = l.low; high = l.high; through = l.through; step = l.step; body = map (λ s. (s, item_of setting s)) l.body }

  few_loop : (x : Loop) → Few most_turns (items_at x.body) → Few most_turns (looped_node setting (loop_at x)).invocation × Few most_iterations (looped_node setting (loop_at x)).region
  few_loop x items = (invocation, region)
    where
      invocation : Few most_turns (looped_node setting (loop_at x)).invocation
      invocation first scalars go n h = few_event x.line (bounds setting.arrays (loop_at x) scalars) (λ b. iterations b.1 0 first (λ k. with_scalar scalars x.name (variable b.0 x.step k)) scalars (go scalars)) (most_turns * 1 + n)
          (λ words b is. let few = few_bounds setting.arrays (loop_at x) scalars words b is in
          more (b.1 + n) (most_turns * 1 + n) (iterations b.1 0 first (λ k. with_scalar scalars x.name (variable b.0 x.step k)) scalars (go scalars)) (omega (arith, few)) (few_iterations b.1 0 first (λ k. with_scalar scalars x.name (variable b.0 x.step k)) scalars (go scalars) n (h scalars)))
          setting Header scalars (x.low ∷ x.high ∷ [])

      region : Few most_iterations (looped_node setting (loop_at x)).region
      region first scalars go n h = few_event x.line (bounds setting.arrays (loop_at x) scalars) (λ b. region_turns b.1 0 (variable b.0 x.step) x.name ((items_at x.body).events first) scalars go) (most_iterations * length (items_at x.body).bodies + n)
          (λ words b is. let few = mul-le-mul_left (most_turns * length (items_at x.body).bodies) (few_bounds setting.arrays (loop_at x) scalars words b is) in
          more (b.1 * (most_turns * length (items_at x.body).bodies) + n) (most_iterations * length (items_at x.body).bodies + n) (region_turns b.1 0 (variable b.0 x.step) x.name ((items_at x.body).events first) scalars go) (omega (arith, few)) (few_turns (items_at x.body) items b.1 0 (variable b.0 x.step) x.name first scalars go n h))
          setting Ordinary scalars (x.low ∷ x.high ∷ [])

  few_item : (s : Stmt) → FewItem s
  few_item = stmt_induction FewItem
      (λ line name e. subst (Few most_turns) (sym (item-declare setting line name e)) (few_assignment line e (λ scalars words. and_then (value setting.arrays scalars words e) (λ new. Ok (with_scalar scalars name new)))))
      (λ line name o e. subst (Few most_turns) (sym (item-assign setting line name o e))
      (few_assignment line e (λ scalars words. and_then (value setting.arrays scalars words e) (λ right. and_then (assigned (operation_of o) (scalar_at scalars name) right) (λ new. Ok (with_scalar scalars name new))))))
      (λ line name p o e. subst (Few most_turns) (sym (item-write setting line name p o e))
      (λ first scalars go n h. more (1 + n) (most_turns * 1 + n) (iterations 1 0 first (λ k. scalars) scalars (go scalars)) (omega arith) (few_iterations 1 0 first (λ k. scalars) scalars (go scalars) n (h scalars))))
      (λ arms other in_arms in_other. subst (Few most_turns) (sym (item-if setting arms other)) (few_arms arms in_arms (items_at other) (few_items other in_other)))
      (λ l inside. subst (Few most_turns) (sym (item-loop setting l ∙ ap (λ (x : Looped). x.invocation) (looped-is setting l))) (few_loop l (few_items l.body inside)).0)

  each_few : (stmts : List Stmt) → Each FewItem stmts
  each_few [] = tt
  each_few (s ∷ stmts) = (few_item s, each_few stmts)

  few_region : (l : Loop) → Few most_iterations (region_of setting l)
  few_region l = subst (λ (x : Looped). Few most_iterations x.region) (sym (looped-is setting l)) (few_loop l (few_items l.body (each_few l.body))).1

  few_regions : (regions : List Loop) → Few most_iterations (in_order (map (region_of setting) regions))
  few_regions [] = few_none most_iterations
  few_regions (l ∷ ls) = few_before most_iterations (region_of setting l) (in_order (map (region_of setting) ls)) (few_region l) (few_regions ls)

pub has_few : HasFewIterations
has_few nest few_bodies =
    let setting = setting_of nest.program nest.opening.words in
    let whole = whole_of nest.program nest.opening.words in
    let same : length (bodies_of nest.program) ≡ length whole.bodies = ap length (sym (regions_same setting nest.program.regions)) in
    let within : most_iterations * length whole.bodies + 0 ≤ 2 ^ 60 = omega (arith, same, few_bodies) in
    let course = whole.events 0 (opening_scalars nest.program) (λ after. End) in
    among (sizes_of (arrays_of nest.program.decls)) (turn_in (arrays_of nest.program.decls) (bodies_of nest.program)) course (2 ^ 60) (Some nest.opening.words)
    (more (most_iterations * length whole.bodies + 0) (2 ^ 60) course within (few_regions setting nest.program.regions 0 (opening_scalars nest.program) (λ after. End) 0 (λ after. tt)))
