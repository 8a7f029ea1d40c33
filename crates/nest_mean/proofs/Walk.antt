-- How items are carried out, from how their parts are.
use Rattle.std.proofs.Common.{◌≡◌, ℕ, suc, ◌+◌, ◌*◌, ◌<◌, ◌≤◌, ℤ, pos, Bool, true, false, if◌then◌else◌, Result, Ok, Err, List, [], ◌∷◌, ◌++◌, map, length, drop, get_or, refl, sym, ap, ◌∙◌, subst, arith, drop-cons, add-one, length-append}
use Rattle.std.proofs.lemmas.List.{drop_all, ext_get_or}
use Rattle.std.proofs.Math.Nat.{mul-le-mul_left}
use Rattle.nest_syntax.specs.declared.names.Line.{Line}
use Rattle.nest_syntax.specs.declared.operators.Op.{Op}
use Rattle.nest_syntax.specs.declared.operators.Op.TheVariants as op
use Rattle.nest_syntax.specs.declared.operators.Cause.{Cause}
use Rattle.nest_syntax.specs.declared.tree.Expr.{Expr}
use Rattle.nest_syntax.specs.declared.tree.Arm.{Arm}
use Rattle.nest_syntax.specs.declared.tree.Loop.{Loop}
use Rattle.nest_syntax.specs.declared.tree.Stmt.{Stmt}
use Rattle.nest_syntax.specs.declared.tree.Stmt.TheVariants as stmt
use Rattle.nest_syntax.specs.declared.tree.Stmt.TheOpen.{Stmt-F}
use Rattle.nest_syntax.specs.Words.{is_zero, operation_of, assigned, variable, most_turns}
use Rattle.nest_syntax.specs.Arrays.{sizes_of}
use Rattle.nest_syntax.specs.Value.{value, and_then, scalar_at, with_scalar}
use Rattle.nest_syntax.specs.Course.{Setting, Course, Purpose, Ordinary, Header, Item, Tested, computed, event, iterations, region_turns, in_order, chosen, item_of, item_node, looped_of, region_of, tested_of}
use Rattle.nest_syntax.specs.Outcome.{place_of_trap, turn_in}
use Rattle.nest_syntax.proofs.Equations.{tested-is, looped-is, item-declare, item-assign, item-write, item-if, item-loop, given-write}
use Rattle.nest_mean.specs.declared.run.Run.{Run}
use Rattle.nest_syntax.specs.declared.place.Place.{Place}
use Rattle.nest_mean.specs.NamesChanged.{names_changed, KeepsOthers}
use Rattle.nest_mean.specs.Nest.{Nest}
use Rattle.nest_mean.specs.Bound.{most_iterations}
use Rattle.nest_mean.specs.Saved.{SavedScalars}
use Rattle.nest_mean.specs.CourseParts.{event_words, header, value_changed, IsReady, finish_of, Stand, Passes, bodies_in, PassesArms, Iterates, IteratesAll, PassesTurns, items_in}
use Rattle.nest_mean.proofs.Rounds.{reaches_from, reaches_to, event_is}

stand_front : (bodies : List (List Stmt)) (first : ℕ) (xs ys : List (List Stmt)) → Stand bodies first (xs ++ ys) → Stand bodies first xs
stand_front bodies first [] ys stands = tt
stand_front bodies first (x ∷ xs) ys stands = (stands.0, stand_front bodies (suc first) xs ys stands.1)

stand_back : (bodies : List (List Stmt)) (first : ℕ) (xs ys : List (List Stmt)) → Stand bodies first (xs ++ ys) → Stand bodies (first + length xs) ys
stand_back bodies first [] ys stands = let same : first ≡ first + 0 = omega arith in subst (λ n. Stand bodies n ys) same stands
stand_back bodies first (x ∷ xs) ys stands = let same : suc first + length xs ≡ first + suc (length xs) = omega arith in subst (λ n. Stand bodies n ys) same (stand_back bodies (suc first) xs ys stands.1)

pub map_first : {A B : Type 0} (f : A → B) (xs : List A) → map (λ (p : A × B). p.0) (map (λ x. (x, f x)) xs) ≡ xs
map_first f [] = refl
map_first f (x ∷ xs) = ap (λ ys. x ∷ ys) (map_first f xs)

pub map_second : {A B : Type 0} (f : A → B) (xs : List A) → map (λ (p : A × B). p.1) (map (λ x. (x, f x)) xs) ≡ map f xs
map_second f [] = refl
map_second f (x ∷ xs) = ap (λ ys. f x ∷ ys) (map_second f xs)

-- what is ready for many iterations is ready for fewer
pub ready_for : (nest : Nest) (few many : ℕ) (r : Run) → few ≤ many → IsReady nest many r → IsReady nest few r
ready_for nest few many r fewer ready = record { sizes = ready.sizes; room = omega (arith, ready.room, fewer) }

module _ (setting : Setting) where
  -- an item before others
  abbrev pub before : Item → Item → Item
  before item others = record {
    bodies = item.bodies ++ others.bodies;
    events = λ first scalars go. item.events first scalars (λ after. others.events (first + length item.bodies) after go);
  }

  -- how far a list of items has come
  pub record IsAhead (whole rest : Item) (most : ℕ) (r₀ r : Run) : Type 0 where
    pub passed : ℕ
    pub stands : (bodies : List (List Stmt)) (first : ℕ) → Stand bodies first whole.bodies → Stand bodies (first + passed) rest.bodies
    pub same : (bodies : List (List Stmt)) (first : ℕ) → Stand bodies first whole.bodies → (go : List ℤ → Course) → finish_of setting bodies (whole.events first r₀.scalars.present go) r₀ ≡ finish_of setting bodies (rest.events (first + passed) r.scalars.present go) r
    pub sizes : r.words.sizes ≡ r₀.words.sizes
    pub few : r.number + most * length rest.bodies ≤ r₀.number + most * length whole.bodies

  pub ahead_begins : (whole : Item) (most : ℕ) (r : Run) → IsAhead whole whole most r r
  ahead_begins whole most r = record {
    passed = 0;
    stands = λ bodies first stands. let same : first ≡ first + 0 = omega arith in subst (λ f. Stand bodies f whole.bodies) same stands;
    same = λ bodies first stands go. let same : first ≡ first + 0 = omega arith in ap (λ f. finish_of setting bodies (whole.events f r.scalars.present go) r) same;
    sizes = refl;
    few = omega arith;
  }

  -- the item at place i of a list
  module _ {A : Type 0} (f : A → Item) (xs : List A) (most : ℕ) (i : ℕ) where
    abbrev whole : Item
    whole = in_order (map f xs)

    abbrev rest_from : ℕ → Item
    rest_from k = in_order (map f (drop k xs))

    pub listed_over : length xs ≤ i → (r₀ r : Run) → IsAhead whole (rest_from i) most r₀ r → Passes setting whole most (Ok tt) r₀ r
    listed_over over r₀ r ahead = record {
      same = λ bodies first stands go. ahead.same bodies first stands go ∙ ap (λ ys. finish_of setting bodies ((in_order (map f ys)).events (first + ahead.passed) r.scalars.present go) r) (drop_all i xs over);
      sizes = ahead.sizes;
      few = omega (arith, ahead.few);
    }

    module _ (there : i < length xs) (here : A) (is : here ≡ get_or xs i here) (r₀ r : Run) (ahead : IsAhead whole (rest_from i) most r₀ r) where
      abbrev next : Item
      next = rest_from (i + 1)

      rest-is : rest_from i ≡ before (f here) next
      rest-is = ap (λ ys. in_order (map f ys)) (drop-cons xs i here there) ∙ ap (λ x. before (f x) (rest_from (suc i))) (sym is) ∙ ap (λ k. before (f here) (rest_from k)) (sym (add-one i))

      here_stands : (bodies : List (List Stmt)) (first : ℕ) → Stand bodies first whole.bodies → Stand bodies (first + ahead.passed) ((f here).bodies ++ next.bodies)
      here_stands bodies first stands = subst (λ (item : Item). Stand bodies (first + ahead.passed) item.bodies) rest-is (ahead.stands bodies first stands)

      comes : (bodies : List (List Stmt)) (first : ℕ) → Stand bodies first whole.bodies → (go : List ℤ → Course)
          → finish_of setting bodies (whole.events first r₀.scalars.present go) r₀ ≡ finish_of setting bodies ((f here).events (first + ahead.passed) r.scalars.present (λ after. next.events (first + ahead.passed + length (f here).bodies) after go)) r
      comes bodies first stands go = ahead.same bodies first stands go ∙ ap (λ (item : Item). finish_of setting bodies (item.events (first + ahead.passed) r.scalars.present go) r) rest-is

      few_left : r.number + (most * length (f here).bodies + most * length next.bodies) ≤ r₀.number + most * length whole.bodies
      few_left =
          let both : length (rest_from i).bodies ≡ length (f here).bodies + length next.bodies = ap (λ (item : Item). length item.bodies) rest-is ∙ length-append (f here).bodies next.bodies in
          let product : most * length (rest_from i).bodies ≡ most * (length (f here).bodies + length next.bodies) = ap (λ k. most * k) both in
          omega (arith, ahead.few, product)

      pub listed_ready : (nest : Nest) → IsReady nest (most * length whole.bodies) r₀ → IsReady nest (most * length (f here).bodies) r
      listed_ready nest ready = record { sizes = ahead.sizes ∙ ready.sizes; room = omega (arith, few_left, ready.room) }

      pub listed_passes : (r' : Run) → Passes setting (f here) most (Ok tt) r r' → IsAhead whole next most r₀ r'
      listed_passes r' passed = record {
        passed = ahead.passed + length (f here).bodies;
        stands = λ bodies first stands.
            let same : first + ahead.passed + length (f here).bodies ≡ first + (ahead.passed + length (f here).bodies) = omega arith in
            subst (λ k. Stand bodies k next.bodies) same (stand_back bodies (first + ahead.passed) (f here).bodies next.bodies (here_stands bodies first stands));
        same = λ bodies first stands go.
            let same : first + ahead.passed + length (f here).bodies ≡ first + (ahead.passed + length (f here).bodies) = omega arith in
            comes bodies first stands go
            ∙ passed.same bodies (first + ahead.passed) (stand_front bodies (first + ahead.passed) (f here).bodies next.bodies (here_stands bodies first stands)) (λ after. next.events (first + ahead.passed + length (f here).bodies) after go)
            ∙ ap (λ k. finish_of setting bodies (next.events k r'.scalars.present go) r') same;
        sizes = passed.sizes ∙ ahead.sizes;
        few = omega (arith, passed.few, few_left);
      }

      pub listed_ends : (stopped : Place) (r' : Run) → Passes setting (f here) most (Err stopped) r r' → Passes setting whole most (Err stopped) r₀ r'
      listed_ends stopped r' passed = record {
        same = λ bodies first stands go.
            comes bodies first stands go
            ∙ passed.same bodies (first + ahead.passed) (stand_front bodies (first + ahead.passed) (f here).bodies next.bodies (here_stands bodies first stands)) (λ after. next.events (first + ahead.passed + length (f here).bodies) after go);
        sizes = passed.sizes ∙ ahead.sizes;
        few = omega (arith, passed.few, few_left);
      }

  pub passes_as : (item item' : Item) (most : ℕ) (result : Result (Unit {0}) Place) (r r' : Run) → item' ≡ item → Passes setting item most result r r' → Passes setting item' most result r r'
  passes_as item item' most result r r' is passed = subst (λ i. Passes setting i most result r r') (sym is) passed

  -- an event of the scheduler, as a run makes it
  ends_event : {A : Type 0} (purpose : Purpose) (line : Line) (exprs : List Expr) (compute : List ℤ → Result A Cause) (go : A → Course) (bodies : List (List Stmt)) (r : Run) (result : Result A Cause) → result ≡ compute (event_words setting.arrays exprs r.words.words setting.words)
      → finish_of setting bodies (event setting purpose r.scalars.present line exprs compute go) r ≡ finish_of setting bodies (computed line result go) r
  ends_event purpose line exprs compute go bodies r result is = event_is setting purpose r.scalars.present line exprs compute go (sizes_of setting.arrays) (turn_in setting.arrays bodies) r.number r.words.words ∙ ap (λ a. finish_of setting bodies (computed line a go) r) (sym is)

  -- an assignment
  module _ (line : Line) (name : ℕ) (o : Op) (e : Expr) (r : Run) where
    in_two : (v : Result ℤ Cause) → and_then v (λ right. and_then (assigned (operation_of o) (scalar_at r.scalars.present name) right) (λ new. Ok (with_scalar r.scalars.present name new)))
        ≡ and_then (and_then v (assigned (operation_of o) (scalar_at r.scalars.present name))) (λ new. Ok (with_scalar r.scalars.present name new))
    in_two (Ok right) = refl
    in_two (Err cause) = refl

    abbrev words : List ℤ
    words = event_words setting.arrays (e ∷ []) r.words.words setting.words

    changes : (changed : Result ℤ Cause) → changed ≡ value_changed setting.arrays name o e r.scalars.present words → (bodies : List (List Stmt)) (first : ℕ) (go : List ℤ → Course)
        → finish_of setting bodies ((item_node setting (Stmt-F.Assign line name o e)).events first r.scalars.present go) r ≡ finish_of setting bodies (computed line (and_then changed (λ new. Ok (with_scalar r.scalars.present name new))) go) r
    changes changed is bodies first go = ends_event Ordinary line (e ∷ []) _ go bodies r _ (ap (λ v. and_then v (λ new. Ok (with_scalar r.scalars.present name new))) is ∙ sym (in_two (value setting.arrays r.scalars.present words e)))

    pub assigns : (new : ℤ) → Ok new ≡ value_changed setting.arrays name o e r.scalars.present words → (kept : SavedScalars) → kept.present ≡ with_scalar r.scalars.present name new
        → Passes setting (item_node setting (Stmt-F.Assign line name o e)) most_turns (Ok tt) r (record r { scalars = kept })
    assigns new is kept present = record {
      same = λ bodies first stands go. changes (Ok new) is bodies first go ∙ ap (λ s. finish_of setting bodies (go s) r) (sym present);
      sizes = refl;
      few = omega arith;
    }

    pub assignment_traps : (cause : Cause) → Err cause ≡ value_changed setting.arrays name o e r.scalars.present words → Passes setting (item_node setting (Stmt-F.Assign line name o e)) most_turns (Err (place_of_trap cause line r.number true)) r r
    assignment_traps cause is = record { same = λ bodies first stands go. changes (Err cause) is bodies first go; sizes = refl; few = omega arith }

  pub item_assign : (line : Line) (name : ℕ) (o : Op) (e : Expr) (result : Result (Unit {0}) Place) (r r' : Run) → Passes setting (item_node setting (Stmt-F.Assign line name o e)) most_turns result r r' → Passes setting (item_of setting (stmt.Assign line name o e)) most_turns result r r'
  item_assign line name o e result r r' passed = passes_as _ _ _ _ _ _ (item-assign setting line name o e) passed

  pub item_declare : (line : Line) (name : ℕ) (e : Expr) (result : Result (Unit {0}) Place) (r r' : Run) → Passes setting (item_node setting (Stmt-F.Assign line name op.Set e)) most_turns result r r' → Passes setting (item_of setting (stmt.Declare line name e)) most_turns result r r'
  item_declare line name e result r r' passed = passes_as _ _ _ _ _ _ (item-declare setting line name e) passed

  -- a statement that writes a word
  pub item_write : (line : Line) (name : ℕ) (place : Expr) (o : Op) (e : Expr) (result : Result (Unit {0}) Place) (r r' : Run)
      → Iterates setting (stmt.Write line name place o e ∷ []) (names_changed (stmt.Write line name place o e ∷ [])) result r r' → Passes setting (item_of setting (stmt.Write line name place o e)) most_turns result r r'
  item_write line name place o e result r r' ran = passes_as _ _ _ _ _ _ (item-write setting line name place o e) (record {
    same = λ bodies first stands go. reaches_to result _ (λ done. finish_of setting bodies (go r.scalars.present) r') (λ done. finish_of setting bodies (go r'.scalars.present) r') _ (λ done. ap (λ t. finish_of setting bodies (go t) r') (sym same_scalars)) (ran.same bodies first stands.0 (Course.Close r.scalars.present (go r.scalars.present)));
    sizes = ran.sizes;
    few = omega (arith, ran.few);
  })
    where
      kept : KeepsOthers [] r.scalars.present r'.scalars.present
      kept = subst (λ names. KeepsOthers names r.scalars.present r'.scalars.present) (ap (λ names. names ++ []) (given-write true line name place o e)) ran.kept

      same_scalars : r'.scalars.present ≡ r.scalars.present
      same_scalars = ext_get_or (pos 0) r'.scalars.present r.scalars.present kept.many (λ at there. kept.others at refl)

  -- an invocation and a region, with their parts in place
  abbrev pub invocation_item : Loop → Item
  invocation_item l = record {
    bodies = l.body ∷ [];
    events = λ first scalars go. event setting Header scalars l.line (l.low ∷ l.high ∷ []) (header setting.arrays l scalars) (λ b. iterations b.1 0 first (λ k. with_scalar scalars l.name (variable b.0 l.step k)) scalars (go scalars));
  }

  pub invocation-is : (l : Loop) → (looped_of setting l).invocation ≡ invocation_item l
  invocation-is l = ap (λ i. i.invocation) (looped-is setting l) ∙ ap (λ body. record (invocation_item l) { bodies = body ∷ [] }) (map_first (item_of setting) l.body)

  abbrev pub region_item : Loop → Item
  region_item l = record {
    bodies = (items_in setting l.body).bodies;
    events = λ first scalars go. event setting Ordinary scalars l.line (l.low ∷ l.high ∷ []) (header setting.arrays l scalars) (λ b. region_turns b.1 0 (variable b.0 l.step) l.name ((items_in setting l.body).events first) scalars go);
  }

  pub region-is : (l : Loop) → region_of setting l ≡ region_item l
  region-is l = ap (λ i. i.region) (looped-is setting l)
      ∙ ap (λ (items : List Item). record { bodies = (in_order items).bodies; events = λ first scalars go. event setting Ordinary scalars l.line (l.low ∷ l.high ∷ []) (header setting.arrays l scalars) (λ b. region_turns b.1 0 (variable b.0 l.step) l.name ((in_order items).events first) scalars go) }) (map_second (item_of setting) l.body)

  module _ (l : Loop) (r : Run) where
    abbrev header_here : Result (ℤ × ℕ) Cause
    header_here = header setting.arrays l r.scalars.present (event_words setting.arrays (l.low ∷ l.high ∷ []) r.words.words setting.words)

    -- what follows the header, of an invocation and of a region
    abbrev iterated : ℕ → (List ℤ → Course) → ℤ × ℕ → Course
    iterated first go b = iterations b.1 0 first (λ k. with_scalar r.scalars.present l.name (variable b.0 l.step k)) r.scalars.present (go r.scalars.present)

    abbrev turned : ℕ → (List ℤ → Course) → ℤ × ℕ → Course
    turned first go b = region_turns b.1 0 (variable b.0 l.step) l.name ((items_in setting l.body).events first) r.scalars.present go

    ends_header : (purpose : Purpose) (go : ℤ × ℕ → Course) (bodies : List (List Stmt)) (result : Result (ℤ × ℕ) Cause) → result ≡ header_here
        → finish_of setting bodies (event setting purpose r.scalars.present l.line (l.low ∷ l.high ∷ []) (header setting.arrays l r.scalars.present) go) r ≡ finish_of setting bodies (computed l.line result go) r
    ends_header purpose go bodies result is = ends_event purpose l.line (l.low ∷ l.high ∷ []) (header setting.arrays l r.scalars.present) go bodies r result is

    pub invocation_traps : (cause : Cause) → Err cause ≡ header_here → Passes setting (looped_of setting l).invocation most_turns (Err (place_of_trap cause l.line r.number true)) r r
    invocation_traps cause is = passes_as _ _ _ _ _ _ (invocation-is l) (record { same = λ bodies first stands go. ends_header Header (iterated first go) bodies _ is; sizes = refl; few = omega arith })

    pub invocation_runs : (low : ℤ) (count : ℕ) → Ok (low, count) ≡ header_here → count ≤ most_turns → (result : Result (Unit {0}) Place) (r' : Run) → IteratesAll setting l low count result r r' → Passes setting (looped_of setting l).invocation most_turns result r r'
    invocation_runs low count is few result r' ran = passes_as _ _ _ _ _ _ (invocation-is l) (record {
      same = λ bodies first stands go. reaches_from result _ _ _ _ (ends_header Header (iterated first go) bodies _ is) (ran.same bodies first stands.0 go);
      sizes = ran.sizes;
      few = omega (arith, ran.few, few);
    })

    pub region_traps : (cause : Cause) (most : ℕ) → Err cause ≡ header_here → Passes setting (region_of setting l) most (Err (place_of_trap cause l.line r.number true)) r r
    region_traps cause most is = passes_as _ _ _ _ _ _ (region-is l) (record { same = λ bodies first stands go. ends_header Ordinary (turned first go) bodies _ is; sizes = refl; few = omega arith })

    pub region_runs : (low : ℤ) (count : ℕ) → Ok (low, count) ≡ header_here → count ≤ most_turns → (result : Result (Unit {0}) Place) (r' : Run) → PassesTurns setting (items_in setting l.body) l low count result r r' → Passes setting (region_of setting l) most_iterations result r r'
    region_runs low count is few result r' ran = passes_as _ _ _ _ _ _ (region-is l) (record {
      same = λ bodies first stands go. reaches_from result _ _ _ _ (ends_header Ordinary (turned first go) bodies _ is) (ran.same bodies first stands go);
      sizes = ran.sizes;
      few = omega (arith, ran.few, mul-le-mul_left (most_turns * length (items_in setting l.body).bodies) few);
    })

    pub region_ready : (nest : Nest) (count : ℕ) → count ≤ most_turns → IsReady nest (most_iterations * length (region_of setting l).bodies) r → IsReady nest (count * (most_turns * length (items_in setting l.body).bodies)) r
    region_ready nest count few =
        let same : length (region_of setting l).bodies ≡ length (items_in setting l.body).bodies = ap (λ (i : Item). length i.bodies) (region-is l) in
        ready_for nest _ _ r (omega (arith, same, mul-le-mul_left (most_turns * length (items_in setting l.body).bodies) few))

  -- arms
  abbrev pub tested_item : Arm → Tested
  tested_item arm = record {
    bodies = (items_in setting arm.body).bodies;
    events = λ first scalars otherwise go. event setting Ordinary scalars arm.line (arm.test ∷ []) (λ words. value setting.arrays scalars words arm.test) (λ test. if is_zero test then otherwise else (items_in setting arm.body).events first scalars go);
  }

  pub tested_of-is : (arm : Arm) → tested_of setting arm ≡ tested_item arm
  tested_of-is arm = tested-is setting arm
      ∙ ap (λ (items : List Item). record { bodies = (in_order items).bodies; events = λ first scalars otherwise go. event setting Ordinary scalars arm.line (arm.test ∷ []) (λ words. value setting.arrays scalars words arm.test) (λ test. if is_zero test then otherwise else (in_order items).events first scalars go) }) (map_second (item_of setting) arm.body)

  abbrev pub before_arms : Tested → Item → Item
  before_arms arm others = record {
    bodies = arm.bodies ++ others.bodies;
    events = λ first scalars go. arm.events first scalars (others.events (first + length arm.bodies) scalars go) go;
  }

  module _ (arms : List Arm) (r₀ : Run) where
    abbrev tested_from : ℕ → List Tested
    tested_from i = map (tested_of setting) (drop i arms)

    -- the arms before place i had a test that is 0, and the run is as it was
    pub record AreAhead (i : ℕ) (r : Run) : Type 0 where
      pub run : r ≡ r₀
      pub passed : ℕ
      pub count : passed + bodies_in (tested_from i) ≡ bodies_in (map (tested_of setting) arms)
      pub stands : (bodies : List (List Stmt)) (first : ℕ) (other : Item) → Stand bodies first (chosen (tested_from 0) other).bodies → Stand bodies (first + passed) (chosen (tested_from i) other).bodies
      pub same : (bodies : List (List Stmt)) (first : ℕ) (other : Item) → Stand bodies first (chosen (tested_from 0) other).bodies → (go : List ℤ → Course)
          → finish_of setting bodies ((chosen (tested_from 0) other).events first r₀.scalars.present go) r₀ ≡ finish_of setting bodies ((chosen (tested_from i) other).events (first + passed) r.scalars.present go) r

    pub arms_begin : AreAhead 0 r₀
    arms_begin = record {
      run = refl;
      passed = 0;
      count = omega arith;
      stands = λ bodies first other stands. let same : first ≡ first + 0 = omega arith in subst (λ f. Stand bodies f (chosen (tested_from 0) other).bodies) same stands;
      same = λ bodies first other stands go. let same : first ≡ first + 0 = omega arith in ap (λ f. finish_of setting bodies ((chosen (tested_from 0) other).events f r₀.scalars.present go) r₀) same;
    }

    pub arms_over : (i : ℕ) (r : Run) → length arms ≤ i → AreAhead i r → PassesArms setting (map (tested_of setting) arms) (Ok false) r₀ r
    arms_over i r over ahead = record {
      same = λ bodies first other stands go.
          let none : tested_from i ≡ [] = ap (map (tested_of setting)) (drop_all i arms over) in
          let all : ahead.passed ≡ bodies_in (map (tested_of setting) arms) = let sum : ahead.passed + bodies_in [] ≡ bodies_in (map (tested_of setting) arms) = ap (λ ts. ahead.passed + bodies_in ts) (sym none) ∙ ahead.count in omega (arith, sum) in
          ahead.same bodies first other stands go
          ∙ ap (λ ts. finish_of setting bodies ((chosen ts other).events (first + ahead.passed) r.scalars.present go) r) none
          ∙ ap (λ p. finish_of setting bodies (other.events (first + p) r.scalars.present go) r) all;
      sizes = ap (λ (x : Run). x.words.sizes) ahead.run;
      few = let number : r.number ≡ r₀.number = ap (λ (x : Run). x.number) ahead.run in omega (arith, number);
    }

    module _ (i : ℕ) (there : i < length arms) (here : Arm) (here_is : here ≡ get_or arms i here) (r : Run) (ahead : AreAhead i r) where
      abbrev items_here : Item
      items_here = items_in setting here.body

      number_is : r.number ≡ r₀.number
      number_is = ap (λ (x : Run). x.number) ahead.run

      sizes_are : r.words.sizes ≡ r₀.words.sizes
      sizes_are = ap (λ (x : Run). x.words.sizes) ahead.run

      arms-are : tested_from i ≡ tested_item here ∷ tested_from (i + 1)
      arms-are = ap (map (tested_of setting)) (drop-cons arms i here there) ∙ ap (λ x. tested_of setting x ∷ tested_from (suc i)) (sym here_is) ∙ ap (λ t. t ∷ tested_from (suc i)) (tested_of-is here)
          ∙ ap (λ k. tested_item here ∷ tested_from k) (sym (add-one i))

      counted : ahead.passed + (length items_here.bodies + bodies_in (tested_from (i + 1))) ≡ bodies_in (map (tested_of setting) arms)
      counted = ap (λ ts. ahead.passed + bodies_in ts) (sym arms-are) ∙ ahead.count

      -- what follows the test
      abbrev by_test : Item → ℕ → (List ℤ → Course) → Bool → Course
      by_test other first go zero = if zero then (chosen (tested_from (i + 1)) other).events (first + ahead.passed + length items_here.bodies) r.scalars.present go else items_here.events (first + ahead.passed) r.scalars.present go

      -- the event of the test
      tested_at : (result : Result ℤ Cause) → result ≡ value setting.arrays r.scalars.present (event_words setting.arrays (here.test ∷ []) r.words.words setting.words) here.test
          → (bodies : List (List Stmt)) (first : ℕ) (other : Item) → Stand bodies first (chosen (tested_from 0) other).bodies → (go : List ℤ → Course)
          → finish_of setting bodies ((chosen (tested_from 0) other).events first r₀.scalars.present go) r₀ ≡ finish_of setting bodies (computed here.line result (λ test. by_test other first go (is_zero test))) r
      tested_at result is bodies first other stands go =
          ahead.same bodies first other stands go ∙ ap (λ ts. finish_of setting bodies ((chosen ts other).events (first + ahead.passed) r.scalars.present go) r) arms-are
          ∙ ends_event Ordinary here.line (here.test ∷ []) (λ words. value setting.arrays r.scalars.present words here.test) (λ test. by_test other first go (is_zero test)) bodies r result is

      left_stands : (bodies : List (List Stmt)) (first : ℕ) (other : Item) → Stand bodies first (chosen (tested_from 0) other).bodies → Stand bodies (first + ahead.passed) (items_here.bodies ++ (chosen (tested_from (i + 1)) other).bodies)
      left_stands bodies first other stands = subst (λ ts. Stand bodies (first + ahead.passed) (chosen ts other).bodies) arms-are (ahead.stands bodies first other stands)

      pub arm_is_passed : (test : ℤ) → Ok test ≡ value setting.arrays r.scalars.present (event_words setting.arrays (here.test ∷ []) r.words.words setting.words) here.test → is_zero test ≡ true → AreAhead (i + 1) r
      arm_is_passed test is zero = record {
        run = ahead.run;
        passed = ahead.passed + length items_here.bodies;
        count = omega (arith, counted);
        stands = λ bodies first other stands.
            let same : first + ahead.passed + length items_here.bodies ≡ first + (ahead.passed + length items_here.bodies) = omega arith in
            subst (λ f. Stand bodies f (chosen (tested_from (i + 1)) other).bodies) same (stand_back bodies (first + ahead.passed) items_here.bodies (chosen (tested_from (i + 1)) other).bodies (left_stands bodies first other stands));
        same = λ bodies first other stands go.
            let same : first + ahead.passed + length items_here.bodies ≡ first + (ahead.passed + length items_here.bodies) = omega arith in
            tested_at (Ok test) is bodies first other stands go ∙ ap (λ b. finish_of setting bodies (by_test other first go b) r) zero
            ∙ ap (λ f. finish_of setting bodies ((chosen (tested_from (i + 1)) other).events f r.scalars.present go) r) same;
      }

      pub arm_fails : (cause : Cause) → Err cause ≡ value setting.arrays r.scalars.present (event_words setting.arrays (here.test ∷ []) r.words.words setting.words) here.test → PassesArms setting (map (tested_of setting) arms) (Err (place_of_trap cause here.line r.number true)) r₀ r
      arm_fails cause is = record { same = λ bodies first other stands go. tested_at (Err cause) is bodies first other stands go; sizes = sizes_are; few = omega (arith, number_is) }

      pub arm_ready : (nest : Nest) → IsReady nest (most_turns * bodies_in (map (tested_of setting) arms)) r₀ → IsReady nest (most_turns * length items_here.bodies) r
      arm_ready nest ready = record { sizes = sizes_are ∙ ready.sizes; room = omega (arith, ready.room, counted, number_is) }

      module _ (test : ℤ) (is : Ok test ≡ value setting.arrays r.scalars.present (event_words setting.arrays (here.test ∷ []) r.words.words setting.words) here.test) (not_zero : is_zero test ≡ false) (r' : Run) where
        taken : (bodies : List (List Stmt)) (first : ℕ) (other : Item) → Stand bodies first (chosen (tested_from 0) other).bodies → (go : List ℤ → Course)
            → finish_of setting bodies ((chosen (tested_from 0) other).events first r₀.scalars.present go) r₀ ≡ finish_of setting bodies (items_here.events (first + ahead.passed) r.scalars.present go) r
        taken bodies first other stands go = tested_at (Ok test) is bodies first other stands go ∙ ap (λ b. finish_of setting bodies (by_test other first go b) r) not_zero

        body_stands : (bodies : List (List Stmt)) (first : ℕ) (other : Item) → Stand bodies first (chosen (tested_from 0) other).bodies → Stand bodies (first + ahead.passed) items_here.bodies
        body_stands bodies first other stands = stand_front bodies (first + ahead.passed) items_here.bodies (chosen (tested_from (i + 1)) other).bodies (left_stands bodies first other stands)

        pub arm_is_taken : Passes setting items_here most_turns (Ok tt) r r' → PassesArms setting (map (tested_of setting) arms) (Ok true) r₀ r'
        arm_is_taken passed = record {
          same = λ bodies first other stands go. taken bodies first other stands go ∙ passed.same bodies (first + ahead.passed) (body_stands bodies first other stands) go;
          sizes = passed.sizes ∙ sizes_are;
          few = omega (arith, passed.few, counted, number_is);
        }

        pub arm_ends : (stopped : Place) → Passes setting items_here most_turns (Err stopped) r r' → PassesArms setting (map (tested_of setting) arms) (Err stopped) r₀ r'
        arm_ends stopped passed = record {
          same = λ bodies first other stands go. taken bodies first other stands go ∙ passed.same bodies (first + ahead.passed) (body_stands bodies first other stands) go;
          sizes = passed.sizes ∙ sizes_are;
          few = omega (arith, passed.few, counted, number_is);
        }

  -- an `if` among the items
  module _ (arms : List Arm) (other : List Stmt) (r r' : Run) where
    abbrev tested_arms : List Tested
    tested_arms = map (tested_of setting) arms

    abbrev other_items : Item
    other_items = items_in setting other

    if-is : item_of setting (stmt.If arms other) ≡ chosen tested_arms other_items
    if-is = item-if setting arms other ∙ ap (λ ts. chosen ts (in_order (map (λ (p : Stmt × Item). p.1) (map (λ x. (x, item_of setting x)) other)))) (map_second (tested_of setting) arms)
        ∙ ap (λ is. chosen tested_arms (in_order is)) (map_second (item_of setting) other)

    bodies_split : (ts : List Tested) (o : Item) → length (chosen ts o).bodies ≡ bodies_in ts + length o.bodies
    bodies_split [] o = omega arith
    bodies_split (t ∷ ts) o = length-append t.bodies (chosen ts o).bodies ∙ (let rest = bodies_split ts o in omega (arith, rest))

    other_stands : (bodies : List (List Stmt)) (first : ℕ) (ts : List Tested) (o : Item) → Stand bodies first (chosen ts o).bodies → Stand bodies (first + bodies_in ts) o.bodies
    other_stands bodies first [] o stands = let same : first ≡ first + 0 = omega arith in subst (λ f. Stand bodies f o.bodies) same stands
    other_stands bodies first (t ∷ ts) o stands =
        let same : first + length t.bodies + bodies_in ts ≡ first + (length t.bodies + bodies_in ts) = omega arith in
        subst (λ f. Stand bodies f o.bodies) same (other_stands bodies (first + length t.bodies) ts o (stand_back bodies first t.bodies (chosen ts o).bodies stands))

    if_count : length (item_of setting (stmt.If arms other)).bodies ≡ bodies_in tested_arms + length other_items.bodies
    if_count = ap (λ (i : Item). length i.bodies) if-is ∙ bodies_split tested_arms other_items

    abbrev IfPasses : Result (Unit {0}) Place → Run → Type 0
    IfPasses result = Passes setting (item_of setting (stmt.If arms other)) most_turns result r

    pub if_fails : (stopped : Place) → PassesArms setting tested_arms (Err stopped) r r' → IfPasses (Err stopped) r'
    if_fails stopped passed = passes_as (chosen tested_arms other_items) _ _ _ _ _ if-is (record {
      same = λ bodies first stands go. passed.same bodies first other_items stands go;
      sizes = passed.sizes;
      few = omega (arith, passed.few, bodies_split tested_arms other_items);
    })

    pub if_is_taken : PassesArms setting tested_arms (Ok true) r r' → IfPasses (Ok tt) r'
    if_is_taken passed = passes_as (chosen tested_arms other_items) _ _ _ _ _ if-is (record {
      same = λ bodies first stands go. passed.same bodies first other_items stands go;
      sizes = passed.sizes;
      few = omega (arith, passed.few, bodies_split tested_arms other_items);
    })

    pub if_goes_on : (result : Result (Unit {0}) Place) (r'' : Run) → PassesArms setting tested_arms (Ok false) r r' → Passes setting other_items most_turns result r' r'' → IfPasses result r''
    if_goes_on result r'' passed others = passes_as (chosen tested_arms other_items) _ _ _ _ _ if-is (record {
      same = λ bodies first stands go. reaches_from result _ _ _ _ (passed.same bodies first other_items stands go) (others.same bodies (first + bodies_in tested_arms) (other_stands bodies first tested_arms other_items stands) go);
      sizes = others.sizes ∙ passed.sizes;
      few = omega (arith, passed.few, others.few, bodies_split tested_arms other_items);
    })

    pub if_arms_ready : (nest : Nest) → IsReady nest (most_turns * length (item_of setting (stmt.If arms other)).bodies) r → IsReady nest (most_turns * bodies_in tested_arms) r
    if_arms_ready nest = ready_for nest _ _ r (omega (arith, if_count))

    pub if_other_ready : (nest : Nest) → IsReady nest (most_turns * length (item_of setting (stmt.If arms other)).bodies) r → (was : Result Bool Place) → PassesArms setting tested_arms was r r' → IsReady nest (most_turns * length other_items.bodies) r'
    if_other_ready nest ready was passed = record { sizes = passed.sizes ∙ ready.sizes; room = omega (arith, ready.room, if_count, passed.few) }

  -- what the other items need
  pub write_ready : (line : Line) (name : ℕ) (place : Expr) (o : Op) (e : Expr) (nest : Nest) (r : Run) → IsReady nest (most_turns * length (item_of setting (stmt.Write line name place o e)).bodies) r → IsReady nest 1 r
  write_ready line name place o e nest r = let one : length (item_of setting (stmt.Write line name place o e)).bodies ≡ 1 = ap (λ (i : Item). length i.bodies) (item-write setting line name place o e) in ready_for nest _ _ r (omega (arith, one))

  pub invocation_ready : (l : Loop) (nest : Nest) (r : Run) → IsReady nest (most_turns * length (item_of setting (stmt.Loop l)).bodies) r → IsReady nest most_turns r
  invocation_ready l nest r = let one : length (item_of setting (stmt.Loop l)).bodies ≡ 1 = ap (λ (i : Item). length i.bodies) (item-loop setting l ∙ invocation-is l) in ready_for nest _ _ r (omega (arith, one))

  pub item_invokes : (l : Loop) (result : Result (Unit {0}) Place) (r r' : Run) → Passes setting (looped_of setting l).invocation most_turns result r r' → Passes setting (item_of setting (stmt.Loop l)) most_turns result r r'
  item_invokes l result r r' passed = passes_as _ _ _ _ _ _ (item-loop setting l) passed
