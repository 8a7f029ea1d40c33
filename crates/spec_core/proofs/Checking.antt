-- What the checker answers is what the machine does.
use Rattle.std.proofs.Common.{◌≡◌, ◌↔◌, ℕ, ◌+◌, ◌*◌, ◌<◌, ◌≤◌, Bool, IsTrue, true, false, not, ◌&&◌, if◌then◌else◌, MatchOption, Option, Some, None, List, [], ◌∷◌, ◌++◌, length, map, take, slice_index, get_or, refl, sym, ap, ◌∙◌, subst, arith}
use Rattle.std.proofs.Math.Nat.{mul-le-mul_left}
use Rattle.std.proofs.lemmas.List.{get_or-take, get_or_default, get_or_read_under}
use Rattle.std.proofs.lemmas.Bool.{true≢false}
use Rattle.std.specs.Option.{option_map}
use Rattle.std.specs.List.{find, list_any}
use Rattle.nest_syntax.specs.Among.{Each}
use Rattle.task_frame.specs.declared.piece.Piece.{Piece}
use Rattle.epoch_plan.specs.declared.tasks.Seen.{Seen}
use Rattle.spec_checker.specs.Order.{Pair as Names, is_pair_before, is_passed as is_behind}
use Rattle.spec_checker.specs.Due.{IsReached, IsDue, NoneIsOpen, AllPassed, HasEntries}
use Rattle.spec_machine.specs.Facts.{Task, Pair}
use Rattle.spec_machine.specs.Machine.{Seat, done_at, sign_at, is_open, pairs, finished_up_to, due, due_if}
use Rattle.spec_machine.proofs.Lists.{IsPair, pairs_in}
use Rattle.spec_machine.specs.Table.{In}
use Rattle.spec_machine.proofs.Due.{IsDue as IsDuePair, is_due, up_to, IsUpTo}
use Rattle.spec_setup.specs.Signs.{Signs}
use Rattle.spec_core.specs.declared.plan.Plan.{Plan}
use Rattle.spec_core.specs.declared.table.Table.{Table}
use Rattle.spec_core.specs.Hands.{Bench, bench_at, idle_bench}
use Rattle.spec_core.specs.Passed.{names_of, pair_in, unordered_in, passed_in}
use Rattle.spec_core.specs.Tables.{state_of, setup_by, sizes_by, IsBenchBy, IsSound, GoesOn}
use Rattle.spec_core.proofs.Seating.{many, seats_there}
use Rattle.spec_core.proofs.Blocks.{many_epochs}
use Rattle.spec_core.proofs.Placing.{each_of}
use Rattle.spec_core.proofs.Passing.{unordered_there}
use Rattle.spec_core.proofs.Ordered.{Before, in_order, filter_one_more}
use Rattle.spec_core.proofs.Preceding.{follow, itself_last, one_way, find_least}
use Rattle.spec_core.proofs.Due as Due
use Rattle.spec_core.proofs.Due.{count_is, due_is, all_is, in_filter, open_is, up_reached, reached_before, late_before}

take_whole : {G : Type 0} (xs : List (Bench G)) → take (length xs) (map (λ (b : Bench G). b.done) xs) ≡ map (λ (b : Bench G). b.done) xs
take_whole [] = refl
take_whole (x ∷ xs) = ap (λ l. x.done ∷ l) (take_whole xs)

module _ {G : Type 0} (s : Signs G) (sizes_in : G → List ℕ) (plan : Plan) (old : Table G) (sound : IsSound sizes_in plan old) (goes : GoesOn (setup_by s plan) (sizes_by plan) (state_of old)) where
  abbrev benches : List (Bench G)
  benches = old.seats.items

  abbrev n : ℕ
  n = length old.desk.epochs

  pub bench_kept : (u : ℕ) → u < length benches → IsBenchBy sizes_in plan (bench_at benches u)
  bench_kept u own = each_of (IsBenchBy sizes_in plan) benches u idle_bench own sound.benches

  pub few : (u : ℕ) → u < length benches → (bench_at benches u).done ≤ n
  few u own = let le : done_at (state_of old).seats u ≤ length (state_of old).epochs = goes.done u in
      omega (arith, le, many_epochs old.desk.epochs, (let e : done_at (state_of old).seats u ≡ (bench_at benches u).done = ap (λ (x : Seat Piece G). x.done) (seats_there old.seen.items benches u own) in e))

  module _ (f : List ℕ) (counts : take (length benches) f ≡ map (λ (b : Bench G). b.done) benches) where
    pub entries : (seen : List Seen) → seen ≡ old.seen.items → HasEntries f plan.options.workers seen
    entries seen same worker mine =
        let own : worker < length benches = subst (λ k. worker < k) (sym sound.seats) mine in
        let kept = bench_kept worker own in
        let count : slice_index f worker ≡ (bench_at benches worker).done = count_is old.seen.items benches n old.checker f counts (λ u lt. (bench_kept u lt).done) few worker own in
        let le : slice_index f worker ≤ plan.options.segment = omega (arith, count, kept.done, kept.begun) in
        let more : plan.options.workers * slice_index f worker ≤ plan.options.workers * plan.options.segment = mul-le-mul_left plan.options.workers le in
        subst (λ l. slice_index f worker * plan.options.workers ≤ length l) (sym same) (subst (λ k. slice_index f worker * plan.options.workers ≤ k) (sym sound.seen) (omega (arith, more)))

    pub due_answer : (result : Option Names) (seen : List Seen) → seen ≡ old.seen.items → MatchOption result (NoneIsOpen old.checker f plan.options.workers seen) (λ names. IsDue old.checker f plan.options.workers seen names)
        → option_map pair_in result ≡ due plan.options.workers (state_of old)
    due_answer result seen same told =
        due_is old.seen.items benches n old.checker f counts (λ u lt. (bench_kept u lt).done) few result
        (subst (λ w. MatchOption result (NoneIsOpen old.checker f w old.seen.items) (λ names. IsDue old.checker f w old.seen.items names)) (sym sound.seats)
        (subst (λ l. MatchOption result (NoneIsOpen old.checker f plan.options.workers l) (λ names. IsDue old.checker f plan.options.workers l names)) same told))
        ∙ (λ i. due_if (state_of old).seats (find (is_open (state_of old).seats (state_of old).passed) (pairs (sound.seats i) (sym (many_epochs old.desk.epochs) i))))

  pub all_answer : (epochs : ℕ) (result : Bool) (seen : List Seen) → seen ≡ old.seen.items → epochs ≡ n → Each (λ (b : Bench G). b.done ≡ epochs) benches → IsTrue result ↔ AllPassed old.checker epochs plan.options.workers seen
      → result ≡ not (list_any (is_open (state_of old).seats (state_of old).passed) (pairs plan.options.workers n))
  all_answer epochs result seen same is finished told =
      all_is old.seen.items benches n old.checker (map (λ (b : Bench G). b.done) benches) (take_whole benches) (λ u lt. (bench_kept u lt).done) few result
      (subst (λ e. IsTrue result ↔ AllPassed old.checker e (length benches) old.seen.items) is (subst (λ w. IsTrue result ↔ AllPassed old.checker epochs w old.seen.items) (sym sound.seats) (subst (λ l. IsTrue result ↔ AllPassed old.checker epochs plan.options.workers l) same told)))
      (λ u lt. each_of (λ (b : Bench G). b.done ≡ epochs) benches u idle_bench lt finished ∙ is)
      ∙ ap (λ w. not (list_any (is_open (state_of old).seats (state_of old).passed) (pairs w n))) sound.seats

-- The pair due: both its tasks are begun, and it is open.
module _ {G : Type 0} (s : Signs G) (sizes_in : G → List ℕ) (plan : Plan) (old : Table G) (sound : IsSound sizes_in plan old) (goes : GoesOn (setup_by s plan) (sizes_by plan) (state_of old)) (p : Pair) (is : due plan.options.workers (state_of old) ≡ Some p) where
  abbrev width : ℕ
  width = length old.seats.items

  abbrev open_epochs : ℕ
  open_epochs = length old.desk.epochs

  due_pair : IsDuePair plan.options.workers (state_of old) p
  due_pair = is_due plan.options.workers (state_of old) p is

  pub among : In p (pairs width open_epochs)
  among = subst (λ w. In p (pairs w open_epochs)) (sym sound.seats) (subst (λ k. In p (pairs plan.options.workers k)) (many_epochs old.desk.epochs) due_pair.among)

  pub pair : IsPair width open_epochs p
  pair = pairs_in width open_epochs p among

  done_of : (u : ℕ) → u < width → done_at (state_of old).seats u ≡ (bench_at old.seats.items u).done
  done_of u own = ap (λ (x : Seat Piece G). x.done) (seats_there old.seen.items old.seats.items u own)

  up : (u : ℕ) → u < width → IsUpTo p.late u (done_at (state_of old).seats u)
  up u own =
      let lt : u < length (state_of old).seats = subst (λ k. u < k) (sym (many width old.seen.items 0 old.seats.items)) own in
      let z : 0 + u ≡ u = omega arith in
      subst (λ k. IsUpTo p.late k (done_at (state_of old).seats u)) z (up_to p.late 0 (state_of old).seats u due_pair.finished lt)

  pub late_begun : p.late.epoch < (bench_at old.seats.items p.late.worker).begun
  late_begun =
      let less : p.late.epoch < done_at (state_of old).seats p.late.worker = (up p.late.worker pair.late_own).1 (omega arith) in
      let kept = bench_kept s sizes_in plan old sound goes p.late.worker pair.late_own in
      omega (arith, less, done_of p.late.worker pair.late_own, kept.done)

  pub early_begun : p.early.epoch < (bench_at old.seats.items p.early.worker).begun
  early_begun =
      let le : p.late.epoch ≤ done_at (state_of old).seats p.early.worker = (up p.early.worker pair.early_own).0 in
      let kept = bench_kept s sizes_in plan old sound goes p.early.worker pair.early_own in
      omega (arith, le, pair.rises, done_of p.early.worker pair.early_own, kept.done)

  kept_of : (u : ℕ) → u < width → (bench_at old.seats.items u).done ≤ (bench_at old.seats.items u).begun
  kept_of u own = (bench_kept s sizes_in plan old sound goes u own).done

  unordered_is : unordered_in width old.seen.items p ≡ true
  unordered_is = sym (unordered_there old.seen.items old.seats.items p pair.late_own late_begun) ∙ due_pair.unordered

  -- it isn't passed yet
  pub unpassed_is : is_behind old.checker (names_of p) ≡ false
  unpassed_is =
      ap (λ t. t && is_behind old.checker (names_of p)) (sym unordered_is)
      ∙ sym (in_filter (λ q. unordered_in width old.seen.items q && is_behind old.checker (names_of q)) p (pairs width open_epochs) among) ∙ due_pair.unpassed

  -- all tasks up to its late one are finished
  pub late_reached : IsReached (map (λ (b : Bench G). b.done) old.seats.items) width (names_of p).1
  late_reached = up_reached old.seen.items old.seats.items open_epochs old.checker (map (λ (b : Bench G). b.done) old.seats.items) (take_whole old.seats.items) kept_of (few s sizes_in plan old sound goes) (names_of p).1 due_pair.finished

  first_is : find (is_open (state_of old).seats (state_of old).passed) (pairs width open_epochs) ≡ Some p
  first_is = by (find (is_open (state_of old).seats (state_of old).passed) (pairs width open_epochs)) ((λ i. due_if (state_of old).seats (find (is_open (state_of old).seats (state_of old).passed) (pairs (sound.seats i) (sym (many_epochs old.desk.epochs) i)))) ∙ is)
    where
      by : (o : Option Pair) → due_if (state_of old).seats o ≡ Some p → o ≡ Some p
      by None none = absurd (let no_one : None ≡ Some p = none in cc)
      by (Some q) found = two (finished_up_to (state_of old).seats q.late) found
        where
          two : (t : Bool) → (if t then Some q else None) ≡ Some p → Some q ≡ Some p
          two true same = same
          two false none = absurd (let no_one : None ≡ Some p = none in cc)

  -- it is passed, and nothing else
  pub passed_more : passed_in width open_epochs old.seen.items (Some (names_of p)) ≡ passed_in width open_epochs old.seen.items old.checker ++ p ∷ []
  passed_more = filter_one_more Before test wider (pairs width open_epochs) p (in_order width open_epochs) among fails passes lower upper
    where
      test : Pair → Bool
      test q = unordered_in width old.seen.items q && is_behind old.checker (names_of q)

      wider : Pair → Bool
      wider q = unordered_in width old.seen.items q && is_behind (Some (names_of p)) (names_of q)

      fails : test p ≡ false
      fails = ap (λ t. t && is_behind old.checker (names_of p)) unordered_is ∙ unpassed_is

      passes : wider p ≡ true
      passes = ap (λ t. t && not (is_pair_before (names_of p) (names_of p))) unordered_is ∙ ap not (itself_last (names_of p))

      both : (a b c : Bool) → (a && not b) ≡ false → c ≡ false → (a && b) ≡ (a && not c)
      both true true c shut later = ap not (sym later)
      both true false c shut later = absurd (true≢false shut)
      both false b c shut later = refl

      lower : (y : Pair) → In y (pairs width open_epochs) → Before y p → test y ≡ wider y
      lower y mine before =
          let there = pairs_in width open_epochs y mine in
          let reached = reached_before (map (λ (b : Bench G). b.done) old.seats.items) width (names_of y).1 (names_of p).1 (late_before (names_of y) (names_of p) before) late_reached in
          let shut : is_open (state_of old).seats (state_of old).passed y ≡ false = find_least Before (is_open (state_of old).seats (state_of old).passed) (λ a b ab ba. true≢false (sym ba ∙ one_way (names_of a) (names_of b) ab)) (pairs width open_epochs) p y (in_order width open_epochs) first_is among mine before in
          let begun = Due.late_begun old.seen.items old.seats.items open_epochs old.checker (map (λ (b : Bench G). b.done) old.seats.items) (take_whole old.seats.items) kept_of (few s sizes_in plan old sound goes) y there reached in
          both (unordered_in width old.seen.items y) (is_behind old.checker (names_of y)) (is_pair_before (names_of p) (names_of y)) (sym (open_is old.seen.items old.seats.items open_epochs old.checker y there begun) ∙ shut) (one_way (names_of y) (names_of p) before)

      none : (a b : Bool) → b ≡ false → (a && b) ≡ false
      none true b shut = shut
      none false b shut = refl

      past : (last : Option Names) → is_behind last (names_of p) ≡ false → (y : Pair) → Before p y → is_behind last (names_of y) ≡ false
      past None shut y after = refl
      past (Some l) shut y after = ap not (follow l (names_of p) (names_of y) (not_false (is_pair_before l (names_of p)) shut) after)
        where
          not_false : (t : Bool) → not t ≡ false → t ≡ true
          not_false true shut = refl
          not_false false shut = absurd (true≢false shut)

      upper : (y : Pair) → In y (pairs width open_epochs) → Before p y → (test y ≡ false) × (wider y ≡ false)
      upper y mine after = (
        none (unordered_in width old.seen.items y) (is_behind old.checker (names_of y)) (past old.checker unpassed_is y after),
        none (unordered_in width old.seen.items y) (not (is_pair_before (names_of p) (names_of y))) (ap not after),
      )

-- a signature of a task that is begun
module _ {G : Type 0} (s : Signs G) (sizes_in : G → List ℕ) (plan : Plan) (old : Table G) (sound : IsSound sizes_in plan old) (t : Task) (own : t.worker < length old.seats.items) (begun : t.epoch < (bench_at old.seats.items t.worker).begun)
    (was : Bench G) (at : was ≡ get_or old.seats.items t.worker was) (sign : G) (told : sign ≡ get_or was.signs t.epoch (s.nothing [])) where
  abbrev bench : Bench G
  bench = bench_at old.seats.items t.worker

  kept : IsBenchBy sizes_in plan bench
  kept = each_of (IsBenchBy sizes_in plan) old.seats.items t.worker idle_bench own sound.benches

  here : t.epoch < length bench.signs
  here = omega (arith, begun, kept.begun, kept.places)

  is_there : sign ≡ get_or bench.signs t.epoch (s.nothing [])
  is_there = told ∙ ap (λ (b : Bench G). get_or b.signs t.epoch (s.nothing [])) (get_or_read_under old.seats.items t.worker (length old.seats.items) was idle_bench at own refl)

  pub sign_sizes : sizes_in sign ≡ sizes_by plan
  sign_sizes = subst (λ (g : G). sizes_in g ≡ sizes_by plan) (sym is_there) (each_of (λ (g : G). sizes_in g ≡ sizes_by plan) bench.signs t.epoch (s.nothing []) here kept.sizes)

  pub sign_is : sign ≡ sign_at (setup_by s plan) (state_of old).seats t
  sign_is =
      is_there ∙ get_or_default bench.signs t.epoch (s.nothing []) (s.nothing (sizes_by plan)) here
      ∙ sym (get_or-take bench.begun bench.signs t.epoch (s.nothing (sizes_by plan)) begun)
      ∙ ap (λ (x : Seat Piece G). get_or x.signs t.epoch (s.nothing (sizes_by plan))) (sym (seats_there old.seen.items old.seats.items t.worker own))
