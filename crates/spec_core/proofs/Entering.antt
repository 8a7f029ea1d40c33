-- An invocation that was entered is opened as an epoch.
use Rattle.std.proofs.Common.{◌≡◌, ℕ, suc, ◌+◌, ◌<◌, ◌≤◌, ◌^◌, ℤ, Bool, true, false, ◌&&◌, ◌||◌, ◌==◌, nat_lt, not, Option, Some, None, List, [], ◌∷◌, ◌++◌, map, length, slice_index, get_or, refl, sym, ap, ◌∙◌, arith, length-append, append-nil}
use Rattle.std.proofs.lemmas.Bool.{or_left, lt-ltb, le-ltb}
use Rattle.std.proofs.lemmas.List.{get_or_default}
use Rattle.std.proofs.lemmas.Grind.{flat_map-append}
use Rattle.std.proofs.lemmas.List.Elements.{filter-append}
use Rattle.std.specs.List.{filter}
use Rattle.nest_syntax.specs.declared.names.TaskName.{TaskName}
use Rattle.epoch_plan.specs.declared.tasks.Seen.{Seen}
use Rattle.sched_cursor.specs.declared.event.Here.{Here}
use Rattle.sched_cursor.specs.declared.node.At.{At}
use Rattle.sched_cursor.specs.declared.node.At.TheVariants as at
use Rattle.sched_cursor.specs.Cursor.{Cursor}
use Rattle.sched_cursor.specs.Events.{here_at, is_inside, behind_invocation}
use Rattle.sched_cursor.specs.Turning.{Reaches}
use Rattle.sched_cursor.specs.Laws.{IsCursorOf}
use Rattle.sched_cursor.proofs.Cursors.{cursors_stay}
use Rattle.spec_checker.specs.Order.{Pair as Names, is_before, is_passed as is_behind}
use Rattle.spec_checker.specs.Due.{IsReached}
use Rattle.spec_machine.specs.Facts.{Pair, opened}
use Rattle.spec_machine.specs.Machine.{below, pairs_late, pairs, DoOpen, state_after}
use Rattle.spec_setup.specs.Signs.{Signs}
use Rattle.spec_setup.specs.Setups.{Invoked}
use Rattle.spec_core.specs.declared.plan.Plan.{Plan}
use Rattle.spec_core.specs.declared.desk.Desk.{Desk}
use Rattle.spec_core.specs.declared.table.Table.{Table}
use Rattle.spec_core.specs.Hands.{Bench}
use Rattle.spec_core.specs.Blocks.{epochs_in}
use Rattle.spec_core.specs.Passed.{names_of, unordered_in, passed_in}
use Rattle.spec_core.specs.Engine.{Stand}
use Rattle.spec_core.specs.Tables.{state_of, setup_by, sizes_by, IsPlan, IsEpochBy, IsFresh, IsSound, IsOpenedBy, GoesOn}
use Rattle.spec_core.proofs.Blocks.{many_epochs}
use Rattle.spec_core.proofs.Ordered.{filter_none, is_of_epoch}
use Rattle.spec_core.proofs.Placing.{done_there}
use Rattle.spec_core.proofs.Checking.{few}

-- no pair with a task of the new epoch was passed
pub passed_longer : (width n : ℕ) (seen : List Seen) (last : Option Names) → ((names : Names) → last ≡ Some names → names.1.epoch < n) → passed_in width (suc n) seen last ≡ passed_in width n seen last
passed_longer width n seen last early =
    ap (filter test) (flat_map-append (pairs_late width) (below n) (n ∷ []) ∙ ap (λ l. pairs width n ++ l) (append-nil (pairs_late width n)))
    ∙ filter-append test (pairs width n) (pairs_late width n)
    ∙ ap (λ l. filter test (pairs width n) ++ l) (filter_none test (pairs_late width n) (λ p among. none (unordered_in width seen p) (behind last early p (is_of_epoch width n p among))))
    ∙ append-nil (filter test (pairs width n))
  where
    test : Pair → Bool
    test p = unordered_in width seen p && is_behind last (names_of p)

    none : (t : Bool) {b : Bool} → b ≡ false → (t && b) ≡ false
    none true fails = fails
    none false fails = refl

    behind : (last : Option Names) → ((names : Names) → last ≡ Some names → names.1.epoch < n) → (p : Pair) → p.late.epoch ≡ n → is_behind last (names_of p) ≡ false
    behind None early p is = refl
    behind (Some names) early p is =
        let less : names.1.epoch < n = early names refl in
        ap not (or_left (is_before names.1 (names_of p).1) _ (or_left (nat_lt names.1.epoch p.late.epoch) _ (lt-ltb names.1.epoch p.late.epoch (omega (arith, less, is)))))

-- a task that is reached is of an epoch that is open: worker 0 has finished its own there
reached_epoch : {G : Type 0} (s : Signs G) (sizes_in : G → List ℕ) (plan : Plan) (old : Table G) → IsPlan plan → IsSound sizes_in plan old → GoesOn (setup_by s plan) (sizes_by plan) (state_of old) → (t : TaskName)
    → IsReached (map (λ (b : Bench G). b.done) old.seats.items) (length old.seats.items) t → t.epoch < length old.desk.epochs
reached_epoch {G} s sizes_in plan old ready sound goes t reached =
    let own : 0 < length old.seats.items = omega (arith, sound.seats, ready.some_worker) in
    let first : TaskName = record { epoch = t.epoch; worker = 0 } in
    let less : t.epoch < slice_index (map (λ (b : Bench G). b.done) old.seats.items) 0 = reached first own (not_before t) in
    omega (arith, less, done_there old.seats.items 0 own, few s sizes_in plan old sound goes 0 own)
  where
    and_fails : (a b : Bool) → b ≡ false → (a && b) ≡ false
    and_fails true b fails = fails
    and_fails false b fails = refl

    not_before : (t : TaskName) → is_before t (record { epoch = t.epoch; worker = 0 }) ≡ false
    not_before t = ap (λ b. b || (t.epoch == t.epoch && nat_lt t.worker 0)) (le-ltb t.epoch t.epoch (omega arith)) ∙ and_fails (t.epoch == t.epoch) _ (le-ltb t.worker 0 (omega arith))

pub opens_by : {G : Type 0} (s : Signs G) (sizes_in : G → List ℕ) (plan : Plan) (old : Table G) (new : Desk) (b : Invoked) (n : ℕ) (rest : Cursor) → IsPlan plan → IsSound sizes_in plan old → GoesOn (setup_by s plan) (sizes_by plan) (state_of old) → IsOpenedBy plan old.desk new b n rest
    → state_of (record old { desk = new }) ≡ state_after (setup_by s plan) (state_of old) plan.options.workers (DoOpen b n rest)
opens_by {G} s sizes_in plan old new b n rest ready sound goes is =
    ap (λ (d : Desk). state_of (record old { desk = d })) is.kept
    ∙ (λ i. let t : Stand G = record (state_of old) { cursor = is.cursor i; next = (ap (λ (c : Cursor). c.next) is.cursor ∙ is.next) i; epochs = is.epochs i; passed = passed i; facts = opened n old.desk.tally.facts } in t)
  where
    longer : length new.epochs ≡ suc (length old.desk.epochs)
    longer = sym (many_epochs new.epochs) ∙ ap length is.epochs ∙ length-append (epochs_in old.desk.epochs) _ ∙ (let e : length (epochs_in old.desk.epochs) ≡ length old.desk.epochs = many_epochs old.desk.epochs in let r : length (epochs_in old.desk.epochs) + 1 ≡ suc (length old.desk.epochs) = omega arith in r)

    early : (names : Names) → old.checker ≡ Some names → names.1.epoch < length old.desk.epochs
    early names last = reached_epoch s sizes_in plan old ready sound goes names.1 (sound.reached names last)

    passed : passed_in (length old.seats.items) (length new.epochs) old.seen.items old.checker ≡ (state_of old).passed
    passed = ap (λ k. passed_in (length old.seats.items) k old.seen.items old.checker) longer ∙ passed_longer (length old.seats.items) (length old.desk.epochs) old.seen.items old.checker early

-- what the desk keeps
pub fresh_behind : (c : Cursor) (a : At) → is_inside a ≡ true → IsFresh (behind_invocation c a).at
fresh_behind c (at.Before n) inside = absurd (let no_one : false ≡ true = inside in cc)
fresh_behind c (at.Inside i) inside = tt

next_behind : (c : Cursor) (a : At) (here : Here) → is_inside a ≡ true → IsFresh a → Some here ≡ here_at a → (behind_invocation c a).next ≡ c.next + here.trips
next_behind c (at.Before n) here inside fresh is = absurd (let no_one : false ≡ true = inside in cc)
next_behind c (at.Inside i) here inside fresh is =
    let same : here ≡ record { body = i.body; low = i.turning.low; step = i.turning.step; trips = i.turning.trips; turn = i.turning.turn } = cc in
    let trips : here.trips ≡ i.turning.trips = ap (λ (h : Here). h.trips) same in
    omega (arith, trips, fresh)

pub epoch_by : (plan : Plan) (c later : Cursor) (here : Here) (all : Bool) (env : List ℤ) → IsPlan plan → IsCursorOf plan.job.program later → is_inside c.at ≡ true → IsFresh c.at → Some here ≡ here_at c.at → later ≡ behind_invocation c c.at
    → here.body < length plan.code.entries → here.trips ≤ 16777216 → Reaches here.low here.step here.trips → all ≡ get_or plan.shared.items here.body all
    → IsEpochBy plan (record { body = here.body; first = c.next; low = here.low; step = here.step; trips = here.trips; all = all; env = env })
epoch_by plan c later here all env ready cursor_is inside fresh is behind body few reach shared = record {
  body = body;
  trips = few;
  reach = reach;
  all = shared ∙ get_or_default plan.shared.items here.body all false (omega (arith, body, ready.many_shared)) ∙ ready.shared (record { body = here.body; low = here.low; step = here.step; env = env }) body;
  numbers =
      let most : later.next ≤ 2 ^ 60 = cursors_stay.passed plan.job.program later cursor_is in
      let next : later.next ≡ c.next + here.trips = ap (λ (d : Cursor). d.next) behind ∙ next_behind c c.at here inside fresh is in
      omega (arith, most, next);
}
