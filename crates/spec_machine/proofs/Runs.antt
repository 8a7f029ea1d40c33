-- The invariant, over all histories, and what it gives.
use Rattle.std.proofs.Common.{◌≡◌, ℕ, zero, suc, ◌+◌, ◌-◌, ◌<◌, ◌≤◌, ◌⊎◌, ℤ, Bool, true, false, if◌then◌else◌, cond, ◌==◌, Option, Some, None, List, [], ◌∷◌, ◌++◌, length, take, refl, sym, ap, ◌∙◌, subst, inl, inr, ⊎_elim, arith, append-nil, append_assoc, length-append}
use Rattle.std.proofs.lemmas.List.{length-replicate}
use Rattle.std.proofs.lemmas.Bool.{true≢false, le-ltb, lt-ltb, ne_eqb, leb-true, cases_lt, or_left, or_right, or_cases}
use Rattle.std.specs.Option.{option_map, option_map_or, option_and_then}
use Rattle.std.specs.List.{filter}
use Rattle.settle_law.specs.Traces.{Access}
use Rattle.settle_law.specs.Claims.{Claims, claimed}
use Rattle.settle_law.specs.Courses.{Nest, Trap}
use Rattle.settle_law.specs.Runs.{run}
use Rattle.settle_law.proofs.Cursors.{begins}
use Rattle.spec_machine.specs.Invocations.{Outside, Within, one_by_one}
use Rattle.spec_machine.specs.Signatures.{Holds}
use Rattle.spec_machine.specs.Facts.{Task, Pair, Abort, Fails, Overlaps, Rollback, Facts, computed, drained, opened, committed, checked}
use Rattle.nest_syntax.specs.Course.{Purpose, Ordinary, Header}
use Rattle.spec_machine.specs.Machine.{Setup, State, Epoch, Move, DoScalar, DoDrain, DoOpen, DoClose, DoCommit, DoRestore, DoConclude, DoBegin, DoRead, DoWrite, DoGo, DoNext, DoFinish, DoFail, DoTrap, DoLetGo, DoStop, DoCheck, DoAbort, fresh_seat, opening, step, move_of, state_after, scalar_after, pairs, from, to, due, seat_at, done_at, saw, sign_at, worker_move, scheduler_move, checker_move, going_move}
use Rattle.spec_machine.specs.Rows.{Row, row_of, is_commit, is_check}
use Rattle.spec_machine.specs.Rows as rows
use Rattle.spec_machine.specs.Table.{In, Enabled}
use Rattle.spec_machine.specs.Runs.{trace_after, trace_from, rows_from, rollback_of, rollbacks_from, ended_actor}
use Rattle.spec_machine.specs.Segments.{opens_at, hull, IsBlamed, ClashesIn}
use Rattle.spec_machine.specs.Theorems.{IsSetupFor, Leads, IsTrueCommit, CommitsAreTrue, HistoriesEndAsNest, AbortsTell, NotedIsWithinHull, AreHeld, CausedBy, RollbacksAreCaused, IsTrapOf, BelowLeastAreTraps, Rises, SegmentsAreRestoredOnce, FactsAreCounted, EndedHaveNoStep, EndedStay, FinishedIsAllEnded}
use Rattle.spec_machine.specs.Invariant.{plan, Chain, Invariant, HistoriesKeepInvariant}
use Rattle.spec_machine.proofs.Lists.{in_either, pairs_in}
use Rattle.spec_machine.proofs.Guards.{enabled}
use Rattle.spec_machine.proofs.Due.{is_due, up_to}
use Rattle.spec_machine.proofs.Opens.{sound_fresh}
use Rattle.spec_machine.proofs.Orders.{true_words, true_part, no_overlap}
use Rattle.spec_machine.proofs.Plans.{chain_le}
use Rattle.spec_machine.proofs.Causes.{within_hull}
use Rattle.spec_machine.proofs.Hulls.{hull_reads, hull_writes}
use Rattle.spec_machine.proofs.Rows.{invariant_row, passed_in}

some_of : {A : Type 0} (x y : A) → Some x ≡ Some y → x ≡ y
some_of x y e = cc

module _ {B C P G : Type 0} (m : Setup B C P G) where
  -- what holds of a history from a state, if it holds of none and is kept by each move in front
  pub along : (Q : State B C P G → List ℕ → State B C P G → Type 0) → ((s : State B C P G) → Q s [] s) → ((s t : State B C P G) (u : ℕ) (move : Move B C P) (history : List ℕ) → move_of m s u ≡ Some move → run (step m) (state_after m s u move) history ≡ Some t → Q (state_after m s u move) history t → Q s (u ∷ history) t) → (history : List ℕ) (s t : State B C P G) → run (step m) s history ≡ Some t → Q s history t
  along Q none one [] s t e = subst (Q s []) (some_of s t e) (none s)
  along Q none one (u ∷ history) s t e = go (move_of m s u) refl e (λ move is rest. one s t u move history is rest (along Q none one history (state_after m s u move) t rest))
    where
      go : (o : Option (Move B C P)) → move_of m s u ≡ o → option_and_then (λ x. run (step m) x history) (option_map (state_after m s u) o) ≡ Some t → ((move : Move B C P) → move_of m s u ≡ Some move → run (step m) (state_after m s u move) history ≡ Some t → Q s (u ∷ history) t) → Q s (u ∷ history) t
      go None is rest more = absurd (let no : None ≡ Some t = rest in cc)
      go (Some move) is rest more = more move is rest

  trace_step : (s : State B C P G) (trace : List Access) (u : ℕ) (move : Move B C P) (history : List ℕ) → move_of m s u ≡ Some move → trace_from m s trace (u ∷ history) ≡ trace_from m (state_after m s u move) (trace_after m trace s.words move) history
  trace_step s trace u move history is = ap (λ o. option_map_or (λ x. trace_from m (state_after m s u x) (trace_after m trace s.words x) history) o trace) is

  rollbacks_step : (s : State B C P G) (u : ℕ) (move : Move B C P) (history : List ℕ) → move_of m s u ≡ Some move → rollbacks_from m s (u ∷ history) ≡ rollback_of m s move ++ rollbacks_from m (state_after m s u move) history
  rollbacks_step s u move history is = ap (λ o. option_map_or (λ x. rollback_of m s x ++ rollbacks_from m (state_after m s u x) history) o []) is

  -- a rollback is a restore
  pub record IsRestore (s : State B C P G) (move : Move B C P) (r : Rollback) : Type 0 where
    pub cause : Abort
    pub is_restore : move ≡ DoRestore cause
    pub is : r ≡ record { segment = s.facts.segments; cause = cause }

  restore_is : (s : State B C P G) (move : Move B C P) (r : Rollback) → In r (rollback_of m s move) → IsRestore s move r
  restore_is s (DoRestore cause) r (inl same) = record { cause = cause; is_restore = refl; is = sym same }
  restore_is s (DoRestore cause) r (inr none) = elim none [ ]
  restore_is s (DoScalar purpose trap rest) r among = elim among [ ]
  restore_is s (DoDrain purpose trap rest) r among = elim among [ ]
  restore_is s (DoOpen b n rest) r among = elim among [ ]
  restore_is s DoClose r among = elim among [ ]
  restore_is s DoCommit r among = elim among [ ]
  restore_is s DoConclude r among = elim among [ ]
  restore_is s (DoBegin hand) r among = elim among [ ]
  restore_is s (DoRead k w next) r among = elim among [ ]
  restore_is s (DoWrite k w value next) r among = elim among [ ]
  restore_is s (DoGo k next) r among = elim among [ ]
  restore_is s (DoNext k piece) r among = elim among [ ]
  restore_is s DoFinish r among = elim among [ ]
  restore_is s DoFail r among = elim among [ ]
  restore_is s (DoTrap k cause line) r among = elim among [ ]
  restore_is s DoLetGo r among = elim among [ ]
  restore_is s DoStop r among = elim among [ ]
  restore_is s (DoCheck p) r among = elim among [ ]
  restore_is s (DoAbort p array) r among = elim among [ ]

module _ {B C P G : Type 0} (m : Setup B C P G) (nest : Nest) (what : B × ℕ → ℕ × List ℤ) (start : C) (noted : G → Claims) (setup : IsSetupFor m nest what start noted) where
  abbrev pub Inv : State B C P G → List Access → Type 0
  Inv s trace = Invariant m nest what start noted s trace

  pub row_enabled : (s : State B C P G) (trace : List Access) → Inv s trace → (u : ℕ) (move : Move B C P) → move_of m s u ≡ Some move → Enabled m s u move
  row_enabled s trace i u move is = enabled m s setup.some_worker setup.some_room i.width i.room u move is

  pub kept : (s : State B C P G) (trace : List Access) → Inv s trace → (u : ℕ) (move : Move B C P) → move_of m s u ≡ Some move → Inv (state_after m s u move) (trace_after m trace s.words move)
  kept s trace i u move is = invariant_row m nest what start noted setup s trace i u move (row_enabled s trace i u move is)

  pub invariant_opening : Inv (opening m start nest.opening) []
  invariant_opening = record {
    first = 0;
    width = length-replicate m.width fresh_seat;
    marked = refl;
    chain = refl;
    known = λ k lt. absurd (omega arith);
    course = λ none. record { events = []; behind = begins (B × ℕ) (Within B C) nest what (one_by_one m.event) (Outside start) setup.follows };
    early = tt;
    segments = record { committed = []; are = refl; counts = refl; whole = λ sealed. absurd (true≢false (sym sealed)) };
    room = omega arith;
    filled = λ sealed. absurd (true≢false (sym sealed));
    either = inl refl;
    strict = λ some. absurd (true≢false (sym some));
    within = omega arith;
    sound = λ calm. sound_fresh m nest what start noted setup (plan m 0 0 []) nest.opening m.far setup.opens_fixed;
    aborted = λ cause is. absurd (let no : None ≡ Some cause = is in cc);
    over = λ over. absurd (true≢false (sym over));
  }

  pub invariant_run : (history : List ℕ) (s t : State B C P G) (trace : List Access) → Inv s trace → run (step m) s history ≡ Some t → Inv t (trace_from m s trace history)
  invariant_run history s t trace i e = along m (λ s history t. (trace : List Access) → Inv s trace → Inv t (trace_from m s trace history)) (λ s trace i. i) (λ s t u move history is rest more trace i. subst (Inv t) (sym (trace_step m s trace u move history is)) (more (trace_after m trace s.words move) (kept s trace i u move is))) history s t e trace i

  -- each legal history leaves a state with the invariant
  pub holds : (history : List ℕ) (s : State B C P G) → Leads m nest start history s → Inv s (trace_from m (opening m start nest.opening) [] history)
  holds history s leads = invariant_run history (opening m start nest.opening) s [] invariant_opening leads

  opens_is : (first next : ℕ) (epochs : List (Epoch B)) → Chain m nest what first next epochs → opens_at epochs next ≡ first
  opens_is first next [] chain = sym chain
  opens_is first next (x ∷ epochs) chain = chain.0

  pub true_commit : (history : List ℕ) (s : State B C P G) (u : ℕ) → Leads m nest start history s → move_of m s u ≡ Some DoCommit → IsTrueCommit m nest s (trace_from m (opening m start nest.opening) [] history)
  true_commit history s u leads is = go (row_enabled s (trace_from m (opening m start nest.opening) [] history) i u DoCommit is)
    where
      i : Inv s (trace_from m (opening m start nest.opening) [] history)
      i = holds history s leads

      go : Enabled m s u DoCommit → IsTrueCommit m nest s (trace_from m (opening m start nest.opening) [] history)
      go (going, sealed, untrapped, all_done, all_passed) =
          let sound = i.sound going.calm in
          let passed = λ (p : Pair) (among : In p (pairs m.width (length s.epochs))) (unordered : _). passed_in m nest what start noted setup s _ i s.passed p (all_passed p among unordered) in
          record {
            words = true_words m nest what start noted setup i.first s.next s.epochs i.chain i.known s.mark s.words i.marked s.seats s.distance s.passed s.trap _ i.width sound all_done passed (chain_le m nest what i.first s.next s.epochs i.chain);
            parts = λ k low high. true_part m nest what start noted setup i.first s.next s.epochs i.chain i.known s.mark s.words i.marked s.seats s.distance s.passed s.trap _ i.width sound all_done passed k (subst (λ x. x ≤ k) (opens_is i.first s.next s.epochs i.chain) low) high;
            checked = no_overlap m nest what start noted setup i.first s.next s.epochs i.chain i.known s.mark s.words i.marked s.seats s.distance s.passed s.trap _ i.width sound all_done passed;
          }

  -- the causes of all rollbacks
  module _ (claims : ℕ → Claims) (size : ℕ) (held : AreHeld m nest claims size) where
    abbrev pub Caused : Rollback → Type 0
    Caused r = CausedBy m nest start claims size r.segment r.cause

    caused_at : (s : State B C P G) (trace : List Access) (u : ℕ) (move : Move B C P) (r : Rollback) → Inv s trace → Enabled m s u move → IsRestore m s move r → Caused r
    caused_at s trace u move r i guard restore = subst Caused (sym restore.is) ((i.aborted restore.cause (subst (Enabled m s u) restore.is_restore guard).2).caused claims size held)

    caused_run : (history : List ℕ) (s t : State B C P G) (trace : List Access) (r : Rollback) → Inv s trace → run (step m) s history ≡ Some t → In r (rollbacks_from m s history) → Caused r
    caused_run history s t trace r i e among = along m (λ s history t. (trace : List Access) → Inv s trace → In r (rollbacks_from m s history) → Caused r) (λ s trace i among. elim among [ ]) (λ s t u move history is rest more trace i among. ⊎_elim
        (λ here. caused_at s trace u move r i (row_enabled s trace i u move is) (restore_is m s move r here))
        (λ later. more (trace_after m trace s.words move) (kept s trace i u move is) later)
        (in_either r (rollback_of m s move) (rollbacks_from m (state_after m s u move) history) (subst (In r) (rollbacks_step m s u move history is) among))) history s t e trace i among

    -- claims that clash make hulls overlap
    clash_blamed : ((k w : ℕ) → claimed (claims k) w ≡ true → setup.touched w ≡ true) → (distance g : ℕ) → ClashesIn m nest start claims distance g → (p : Pair) × IsBlamed m nest start claims size distance g p
    clash_blamed touched distance g c = (
      c.pair,
      record {
        epochs = c.epochs;
        segment = c.segment;
        is_pair = c.is_pair;
        near = c.near;
        overlap = setup.is_kind.clashing (hull m nest start claims size c.epochs c.pair.early) (hull m nest start claims size c.epochs c.pair.late) c.clash.0
            (touched c.j c.clash.0 (⊎_elim (λ both. or_right ((claims c.j).read c.clash.0) ((claims c.j).written c.clash.0) both.0) (λ both. both.0) c.clash.1))
            (⊎_elim
            (λ both. inl (writes c.pair.early c.j c.clash.0 c.of_early.0 c.of_early.1 both.0, any c.pair.late c.k c.clash.0 c.of_late.0 c.of_late.1 both.1))
            (λ both. inr (any c.pair.early c.j c.clash.0 c.of_early.0 c.of_early.1 both.0, writes c.pair.late c.k c.clash.0 c.of_late.0 c.of_late.1 both.1))
            c.clash.1);
      },
    )
      where
        low : Task → ℕ
        low t = from m c.epochs t.epoch t.worker

        writes : (t : Task) (k w : ℕ) → from m c.epochs t.epoch t.worker ≤ k → k < to m c.epochs t.epoch t.worker → (claims k).written w ≡ true → (noted (hull m nest start claims size c.epochs t)).written w ≡ true
        writes t k w lo hi is = hull_writes m.kind noted setup.is_kind claims size held.inside (from m c.epochs t.epoch t.worker) (to m c.epochs t.epoch t.worker - from m c.epochs t.epoch t.worker) k w lo (omega arith) is

        any : (t : Task) (k w : ℕ) → from m c.epochs t.epoch t.worker ≤ k → k < to m c.epochs t.epoch t.worker → claimed (claims k) w ≡ true → claimed (noted (hull m nest start claims size c.epochs t)) w ≡ true
        any t k w lo hi is = ⊎_elim
            (λ r. or_left _ _ (hull_reads m.kind noted setup.is_kind claims size held.inside (from m c.epochs t.epoch t.worker) (to m c.epochs t.epoch t.worker - from m c.epochs t.epoch t.worker) k w lo (omega arith) r))
            (λ r. or_right _ _ (writes t k w lo hi r))
            (or_cases ((claims k).read w) ((claims k).written w) is)

    below_least : ((k w : ℕ) → claimed (claims k) w ≡ true → setup.touched w ≡ true) → ((distance g : ℕ) (p : Pair) → IsBlamed m nest start claims size distance g p → p.early.epoch + m.far < p.late.epoch) → (segment : ℕ) (cause : Abort) → CausedBy m nest start claims size segment cause → IsTrapOf m nest start segment cause
    below_least touched least segment (Fails t) (inl traps) = traps
    below_least touched least segment (Fails t) (inr clashes) = let b = clash_blamed touched m.far segment clashes in absurd (let l : b.0.early.epoch + m.far < b.0.late.epoch = least m.far segment b.0 b.1 in let n : b.0.late.epoch ≤ b.0.early.epoch + m.far = b.1.near in omega arith)
    below_least touched least segment (Overlaps p array) blamed = let l : p.early.epoch + m.far < p.late.epoch = least m.far segment p blamed in let n : p.late.epoch ≤ p.early.epoch + m.far = blamed.near in omega arith

  -- A segment is restored once: behind a restore its distance is 0, at which no abort is made.
  abbrev pub MayRestore : ℕ → State B C P G → Type 0
  MayRestore low s = (low ≤ s.facts.segments) ⊎ ((low ≤ suc s.facts.segments) × (s.distance ≡ 0) × (s.abort ≡ None))

  -- at distance 0 no pair is due
  pub none_due : (s : State B C P G) (trace : List Access) → Inv s trace → s.abort ≡ None → s.distance ≡ 0 → (p : Pair) → due m.width s ≡ Some p → ⊥
  none_due s trace i calm near p is =
      let f = is_due m.width s p is in
      let q = pairs_in m.width (length s.epochs) p f.among in
      let sound = i.sound calm in
      let r = up_to p.late 0 s.seats p.late.worker f.finished (let l : p.late.worker < m.width = q.late_own in omega (arith, i.width)) in
      let a : p.late.epoch < done_at s.seats p.late.worker = r.1 (omega arith) in
      let b : done_at s.seats p.late.worker ≤ length (seat_at s.seats p.late.worker).seen = (sound.crew p.late.worker q.late_own).begun in
      let c : p.late.epoch ≤ saw s.seats p.late.epoch p.late.worker p.early.worker + s.distance = sound.near p.late.worker p.early.worker p.late.epoch q.late_own q.early_own (omega arith) in
      let d : saw s.seats p.late.epoch p.late.worker p.early.worker ≤ p.early.epoch = leb-true _ _ f.unordered in
      let e : p.early.epoch < p.late.epoch = q.rises in
      omega (arith, near)

  scalar_may : (s : State B C P G) (low : ℕ) (purpose : Purpose) (trap : Option Trap) (rest : C) → MayRestore low s → MayRestore low (scalar_after m s purpose trap rest)
  scalar_may s low purpose (Some trap) rest may = may
  scalar_may s low Ordinary None rest may = may
  scalar_may s low Header None rest may = may

  rises_row : (s : State B C P G) (trace : List Access) (u low : ℕ) (move : Move B C P) (rest : List Rollback) → Inv s trace → Enabled m s u move → MayRestore low s → ((low : ℕ) → MayRestore low (state_after m s u move) → Rises low rest) → Rises low (rollback_of m s move ++ rest)
  rises_row s trace u low (DoScalar purpose trap rest_cursor) rest i g may more = more low (scalar_may s low purpose trap rest_cursor may)
  rises_row s trace u low (DoDrain purpose trap rest_cursor) rest i g may more = more low (scalar_may (record s { facts = drained s.facts }) low purpose trap rest_cursor may)
  rises_row s trace u low (DoOpen b n rest_cursor) rest i g may more = more low may
  rises_row s trace u low DoClose rest i g may more = more low may
  rises_row s trace u low DoCommit rest i g may more = more low (inl (⊎_elim (λ (l : low ≤ s.facts.segments). at_most_next l) (λ r. r.0) may))
    where
      at_most_next : low ≤ s.facts.segments → low ≤ suc s.facts.segments
      at_most_next l = omega arith
  rises_row s trace u low (DoRestore cause) rest i (own, going, is, none_running) may more = (⊎_elim (λ l. l) (λ r. absurd (let no : None ≡ Some cause = sym r.2 ∙ is in cc)) may, more (suc s.facts.segments) (inr (omega arith, refl, refl)))
  rises_row s trace u low DoConclude rest i g may more = more low may
  rises_row s trace u low (DoBegin hand) rest i g may more = more low may
  rises_row s trace u low (DoRead k w next) rest i g may more = more low may
  rises_row s trace u low (DoWrite k w value next) rest i g may more = more low may
  rises_row s trace u low (DoGo k next) rest i g may more = more low may
  rises_row s trace u low (DoNext k piece) rest i g may more = more low may
  rises_row s trace u low DoFinish rest i g may more = more low may
  rises_row s trace u low DoFail rest i (k, cause, line, at, far) may more = more low (⊎_elim (λ l. inl l) (λ r. absurd (let z : s.distance ≡ 0 = r.1 in omega arith)) may)
  rises_row s trace u low (DoTrap k cause line) rest i g may more = more low may
  rises_row s trace u low DoLetGo rest i g may more = more low may
  rises_row s trace u low DoStop rest i g may more = more low may
  rises_row s trace u low (DoCheck p) rest i g may more = more low may
  rises_row s trace u low (DoAbort p array) rest i (own, going, calm, untrapped, is, overlaps) may more = more low (⊎_elim (λ l. inl l) (λ r. absurd (none_due s trace i calm r.1 p is)) may)

  rises_run : (history : List ℕ) (s t : State B C P G) (trace : List Access) (low : ℕ) → Inv s trace → MayRestore low s → run (step m) s history ≡ Some t → Rises low (rollbacks_from m s history)
  rises_run history s t trace low i may e = along m (λ s history t. (trace : List Access) (low : ℕ) → Inv s trace → MayRestore low s → Rises low (rollbacks_from m s history)) (λ s trace low i may. tt) (λ s t u move history is rest more trace low i may. subst (Rises low) (sym (rollbacks_step m s u move history is)) (rises_row s trace u low move (rollbacks_from m (state_after m s u move) history) i (row_enabled s trace i u move is) may (λ l next. more (trace_after m trace s.words move) l (kept s trace i u move is) next))) history s t e trace low i may

take_again : {A : Type 0} (n : ℕ) (xs ys : List A) → take n (take n xs ++ ys) ≡ take n (xs ++ ys)
take_again zero xs ys = refl
take_again (suc n) [] ys = refl
take_again (suc n) (x ∷ xs) ys = ap (λ l. x ∷ l) (take_again n xs ys)

filter_append : {A : Type 0} (test : A → Bool) (xs ys : List A) → length (filter test (xs ++ ys)) ≡ length (filter test xs) + length (filter test ys)
filter_append test [] ys = omega arith
filter_append test (x ∷ xs) ys = go (test x) (filter_append test xs ys)
  where
    go : (t : Bool) → length (filter test (xs ++ ys)) ≡ length (filter test xs) + length (filter test ys) → length (cond t (x ∷ filter test (xs ++ ys)) (filter test (xs ++ ys))) ≡ length (cond t (x ∷ filter test xs) (filter test xs)) + length (filter test ys)
    go true more = omega (arith, more)
    go false more = more

-- what is counted
module _ {B C P G : Type 0} (m : Setup B C P G) where
  pub record IsCounted (facts after : Facts) (rows : List Row) (made : List Rollback) : Type 0 where
    pub segments : after.segments ≡ facts.segments + length (filter is_commit rows)
    pub checks : after.checks ≡ facts.checks + length (filter is_check rows)
    pub number : after.rollbacks ≡ facts.rollbacks + length made
    pub listed : (prior : List Rollback) → facts.listed ≡ take 64 prior → after.listed ≡ take 64 (prior ++ made)

  -- a row without a rollback
  without : (facts after : Facts) (rows : List Row) → after.segments ≡ facts.segments + length (filter is_commit rows) → after.checks ≡ facts.checks + length (filter is_check rows) → after.rollbacks ≡ facts.rollbacks → after.listed ≡ facts.listed → IsCounted facts after rows []
  without facts after rows segments checks number listed = record { segments = segments; checks = checks; number = omega (arith, number); listed = λ prior is. listed ∙ is ∙ ap (take 64) (sym (append-nil prior)) }

  -- one that counts nothing
  none_counted : (facts after : Facts) (rows : List Row) → length (filter is_commit rows) ≡ 0 → length (filter is_check rows) ≡ 0 → after.segments ≡ facts.segments → after.checks ≡ facts.checks → after.rollbacks ≡ facts.rollbacks → after.listed ≡ facts.listed → IsCounted facts after rows []
  none_counted facts after rows no_commit no_check segments checks number listed = without facts after rows (omega (arith, no_commit, segments)) (omega (arith, no_check, checks)) number listed

  abbrev pub Counted : State B C P G → ℕ → Move B C P → Type 0
  Counted s u move = IsCounted s.facts (state_after m s u move).facts (row_of move ∷ []) (rollback_of m s move)

  quiet_row : (facts : Facts) (row : Row) → length (filter is_commit (row ∷ [])) ≡ 0 → length (filter is_check (row ∷ [])) ≡ 0 → IsCounted facts facts (row ∷ []) []
  quiet_row facts row no_commit no_check = none_counted facts facts (row ∷ []) no_commit no_check refl refl refl refl

  scalar_counted : (s : State B C P G) (purpose : Purpose) (trap : Option Trap) (rest : C) → IsCounted s.facts (scalar_after m s purpose trap rest).facts (rows.Scalar ∷ []) []
  scalar_counted s purpose (Some trap) rest = quiet_row s.facts rows.Scalar refl refl
  scalar_counted s Ordinary None rest = quiet_row s.facts rows.Scalar refl refl
  scalar_counted s Header None rest = none_counted s.facts (computed Header s.facts) (rows.Scalar ∷ []) refl refl refl refl refl refl

  counted_row : (s : State B C P G) (u : ℕ) (move : Move B C P) → Counted s u move
  counted_row s u (DoScalar purpose trap rest) = scalar_counted s purpose trap rest
  counted_row s u (DoDrain purpose trap rest) = let r = scalar_counted (record s { facts = drained s.facts }) purpose trap rest in record { segments = r.segments; checks = r.checks; number = r.number; listed = r.listed }
  counted_row s u (DoOpen b n rest) = none_counted s.facts (opened n s.facts) (rows.Open ∷ []) refl refl refl refl refl refl
  counted_row s u DoClose = quiet_row s.facts rows.Close refl refl
  counted_row s u DoCommit = without s.facts (committed s.facts) (rows.Commit ∷ []) (omega arith) (omega arith) refl refl
  counted_row s u (DoRestore cause) = record { segments = omega arith; checks = omega arith; number = omega arith; listed = λ prior is. ap (λ l. take 64 (l ++ record { segment = s.facts.segments; cause = cause } ∷ [])) is ∙ take_again 64 prior (record { segment = s.facts.segments; cause = cause } ∷ []) }
  counted_row s u DoConclude = quiet_row s.facts rows.Conclude refl refl
  counted_row s u (DoBegin hand) = quiet_row s.facts rows.Begin refl refl
  counted_row s u (DoRead k w next) = quiet_row s.facts rows.Hop refl refl
  counted_row s u (DoWrite k w value next) = quiet_row s.facts rows.Hop refl refl
  counted_row s u (DoGo k next) = quiet_row s.facts rows.Hop refl refl
  counted_row s u (DoNext k piece) = quiet_row s.facts rows.Hop refl refl
  counted_row s u DoFinish = quiet_row s.facts rows.Finish refl refl
  counted_row s u DoFail = quiet_row s.facts rows.Trap refl refl
  counted_row s u (DoTrap k cause line) = quiet_row s.facts rows.Trap refl refl
  counted_row s u DoLetGo = quiet_row s.facts rows.Stop refl refl
  counted_row s u DoStop = quiet_row s.facts rows.Stop refl refl
  counted_row s u (DoCheck p) = without s.facts (checked s.facts) (rows.Check ∷ []) (omega arith) (omega arith) refl refl
  counted_row s u (DoAbort p array) = without s.facts (checked s.facts) (rows.Abort ∷ []) (omega arith) (omega arith) refl refl

  counted_both : (a b c : Facts) (rows more : List Row) (made others : List Rollback) → IsCounted a b rows made → IsCounted b c more others → IsCounted a c (rows ++ more) (made ++ others)
  counted_both a b c rows more made others x y = record {
    segments = sum_of a.segments b.segments c.segments (length (filter is_commit rows)) (length (filter is_commit more)) x.segments y.segments ∙ ap (λ n. a.segments + n) (sym (filter_append is_commit rows more));
    checks = sum_of a.checks b.checks c.checks (length (filter is_check rows)) (length (filter is_check more)) x.checks y.checks ∙ ap (λ n. a.checks + n) (sym (filter_append is_check rows more));
    number = sum_of a.rollbacks b.rollbacks c.rollbacks (length made) (length others) x.number y.number ∙ ap (λ n. a.rollbacks + n) (sym (length-append made others));
    listed = λ prior is. y.listed (prior ++ made) (x.listed prior is) ∙ ap (take 64) (append_assoc prior made others);
  }
    where
      sum_of : (a b c m n : ℕ) → b ≡ a + m → c ≡ b + n → c ≡ a + (m + n)
      sum_of a b c m n e f = omega arith

  rows_step : (s : State B C P G) (u : ℕ) (move : Move B C P) (history : List ℕ) → move_of m s u ≡ Some move → rows_from m s (u ∷ history) ≡ (row_of move ∷ []) ++ rows_from m (state_after m s u move) history
  rows_step s u move history is = ap (λ o. option_map_or (λ x. row_of x ∷ rows_from m (state_after m s u x) history) o []) is

  counted_run : (history : List ℕ) (s t : State B C P G) → run (step m) s history ≡ Some t → IsCounted s.facts t.facts (rows_from m s history) (rollbacks_from m s history)
  counted_run history s t e = along m (λ s history t. IsCounted s.facts t.facts (rows_from m s history) (rollbacks_from m s history)) (λ s. none_counted s.facts s.facts [] refl refl refl refl refl refl) (λ s t u move history is rest more. subst (λ l. IsCounted s.facts t.facts l (rollbacks_from m s (u ∷ history))) (sym (rows_step s u move history is)) (subst (IsCounted s.facts t.facts ((row_of move ∷ []) ++ rows_from m (state_after m s u move) history)) (sym (rollbacks_step m s u move history is)) (counted_both s.facts (state_after m s u move).facts t.facts (row_of move ∷ []) (rows_from m (state_after m s u move) history) (rollback_of m s move) (rollbacks_from m (state_after m s u move) history) (counted_row s u move) more))) history s t e

  -- ended actors
  no_move : (s : State B C P G) (actor : ℕ) → ended_actor m s actor ≡ true → move_of m s actor ≡ None
  no_move s actor ended = ⊎_elim
      (λ present. ap (λ t. if t then None else going_move m s actor) (sym (ap (λ t. if t then s.concluded else true) (lt-ltb actor (m.width + 2) present)) ∙ ended))
      (λ past. by_over s.concluded past)
      (cases_lt actor (m.width + 2))
    where
      none_going : m.width + 2 ≤ actor → going_move m s actor ≡ None
      none_going past = ap (λ t. if t then worker_move m s s.abort actor else if actor == m.width then scheduler_move m s s.abort else if actor == suc m.width then checker_move m s s.abort s.trap else None) (le-ltb actor m.width (omega arith))
          ∙ ap (λ t. if t then scheduler_move m s s.abort else if actor == suc m.width then checker_move m s s.abort s.trap else None) (ne_eqb actor m.width (λ same. omega arith))
          ∙ ap (λ t. if t then checker_move m s s.abort s.trap else None) (ne_eqb actor (suc m.width) (λ same. omega arith))

      by_over : (t : Bool) → m.width + 2 ≤ actor → (if t then None else going_move m s actor) ≡ None
      by_over true past = refl
      by_over false past = none_going past

pub keeps_invariant : (B C P G : Type 0) → HistoriesKeepInvariant B C P G
keeps_invariant B C P G m nest what start noted setup history s leads = holds m nest what start noted setup history s leads

pub commits : (B C P G : Type 0) → CommitsAreTrue B C P G
commits B C P G m nest what start noted setup history s actor leads is = true_commit m nest what start noted setup history s actor leads is

pub ends : (B C P G : Type 0) → HistoriesEndAsNest B C P G
ends B C P G m nest what start noted setup history complete = (holds m nest what start noted setup history complete.last complete.ran).over complete.finished

pub aborts : (B C P G : Type 0) → AbortsTell B C P G
aborts B C P G m nest what start noted setup history s cause leads is = ((holds m nest what start noted setup history s leads).aborted cause is).tells

pub causes : (B C P G : Type 0) → RollbacksAreCaused B C P G
causes B C P G m nest what start noted claims size setup held history s rollback leads among = caused_run m nest what start noted setup claims size held history (opening m start nest.opening) s [] rollback (invariant_opening m nest what start noted setup) leads among

pub below_least_traps : (B C P G : Type 0) → BelowLeastAreTraps B C P G
below_least_traps B C P G m nest what start noted claims size setup held touched least history s rollback leads among = below_least m nest what start noted setup claims size held touched least rollback.segment rollback.cause (causes B C P G m nest what start noted claims size setup held history s rollback leads among)

pub once : (B C P G : Type 0) → SegmentsAreRestoredOnce B C P G
once B C P G m nest what start noted setup history s leads = rises_run m nest what start noted setup history (opening m start nest.opening) s [] 0 (invariant_opening m nest what start noted setup) (inl (omega arith)) leads

pub counts : (B C P G : Type 0) → FactsAreCounted B C P G
counts B C P G m nest start history s leads = let r = counted_run m history (opening m start nest.opening) s leads in record { segments = omega (arith, r.segments); checks = omega (arith, r.checks); number = omega (arith, r.number); listed = r.listed [] refl }

pub within_hulls : (B C P G : Type 0) → NotedIsWithinHull B C P G
within_hulls B C P G m nest what start noted claims size setup held history s t leads calm lt own =
    let i = holds m nest what start noted setup history s leads in
    subst (λ l. Holds (noted (hull m nest start claims size l t)) (noted (sign_at m s.seats t))) (append-nil s.epochs)
    (within_hull m nest what start noted setup i.first s.next s.epochs i.chain i.known s.mark s.words i.marked s.seats s.distance s.passed s.trap (trace_from m (opening m start nest.opening) [] history) i.width (i.sound calm) claims size held [] t lt own)

pub ended_no_step : (B C P G : Type 0) → EndedHaveNoStep B C P G
ended_no_step B C P G m s actor ended = ap (option_map (state_after m s actor)) (no_move m s actor ended)

pub ended_stay : (B C P G : Type 0) → EndedStay B C P G
ended_stay B C P G m s t actor other ended stepped = ⊎_elim
    (λ present. absurd (let over : s.concluded ≡ true = sym (ap (λ b. if b then s.concluded else true) (lt-ltb actor (m.width + 2) present)) ∙ ended in let no : None ≡ Some t = sym (ap (λ b. option_map (state_after m s other) (if b then None else going_move m s other)) over) ∙ stepped in cc))
    (λ past. ap (λ b. if b then t.concluded else true) (le-ltb actor (m.width + 2) past))
    (cases_lt actor (m.width + 2))

pub finished_all_ended : (B C P G : Type 0) → FinishedIsAllEnded B C P G
finished_all_ended B C P G m s = (
  (λ over actor present. ap (λ b. if b then s.concluded else true) (lt-ltb actor (m.width + 2) present) ∙ over),
  (λ all. sym (ap (λ b. if b then s.concluded else true) (lt-ltb 0 (m.width + 2) (omega arith))) ∙ all 0 (omega arith)),
)
