-- The next task of a worker begins.
use Rattle.std.proofs.Common.{◌≡◌, ℕ, zero, suc, ◌+◌, ◌*◌, ◌<◌, ◌≤◌, ◌⊎◌, Bool, true, false, ◌&&◌, not, nat_le, Option, Some, None, List, [], ◌∷◌, ◌++◌, map, take, length, slice_set, slice_index, slice_index_or, get_or, refl, sym, ap, ◌∙◌, subst, inl, inr, ⊎_elim, arith, length-set}
use Rattle.std.proofs.lemmas.Bool.{or_left, cases_Bool, cases_order}
use Rattle.std.proofs.lemmas.List.{get_or-set_same, get_or-set_other}
use Rattle.std.proofs.Math.Seq.{take-suc-set}
use Rattle.std.specs.List.{range_with_len}
use Rattle.std.specs.Vec.{with_item}
use Rattle.task_frame.specs.declared.piece.Piece.{Piece}
use Rattle.epoch_plan.specs.declared.tasks.Seen.{Seen}
use Rattle.spec_checker.specs.Order.{Pair as Names, is_before, is_passed as is_behind}
use Rattle.spec_checker.specs.Due.{IsReached}
use Rattle.spec_machine.specs.Facts.{Pair}
use Rattle.spec_machine.specs.Machine.{Seat, Hand, DoBegin, seat_at, seat_after, dones, pairs, worker_after}
use Rattle.spec_machine.specs.Table.{In}
use Rattle.spec_machine.proofs.Lists.{IsPair, pairs_in}
use Rattle.spec_setup.specs.Signs.{Signs}
use Rattle.spec_core.specs.declared.plan.Plan.{Plan}
use Rattle.spec_core.specs.declared.table.Table.{Table}
use Rattle.spec_core.specs.Hands.{Bench, bench_at, seen_at, seen_by, seat_in, seats_from, seats_of}
use Rattle.spec_core.specs.Passed.{names_of, unordered_in, passed_in}
use Rattle.spec_core.specs.Tables.{state_of, setup_by, sizes_by, IsPlan, IsBenchBy, IsSound}
use Rattle.spec_core.proofs.Ordered.{filter_same}
use Rattle.spec_core.proofs.Seating.{dones_are, seats_there}
use Rattle.spec_core.proofs.Placing.{each_of, each_put, more_done, done_there, inside, was_is, kept_by}

-- Two tasks stand at one place only where they are the same.
apart : (width e u f v : ℕ) → u < width → v < width → e * width + u ≡ f * width + v → (e ≡ f) × (u ≡ v)
apart width e u f v own other same = by (cases_order e f)
  where
    more : (a b : ℕ) → a < b → a * width + width ≤ b * width
    more a zero lt = absurd (omega arith)
    more a (suc b) lt = ⊎_elim
        (λ (below : a < b). let l : a * width + width ≤ b * width = more a b below in omega arith)
        (λ (is : a ≡ b). let r : a * width + width ≤ suc a * width = omega arith in subst (λ c. a * width + width ≤ suc c * width) is r)
        (split (cases_order a b))
      where
        split : (a ≡ b) ⊎ ((a < b) ⊎ (b < a)) → (a < b) ⊎ (a ≡ b)
        split (inl is) = inr is
        split (inr (inl less)) = inl less
        split (inr (inr past)) = absurd (omega arith)

    by : (e ≡ f) ⊎ ((e < f) ⊎ (f < e)) → (e ≡ f) × (u ≡ v)
    by (inl is) = (is, (let s : e * width ≡ f * width = ap (λ n. n * width) is in omega arith))
    by (inr (inl less)) = absurd (let l : e * width + width ≤ f * width = more e f less in omega arith)
    by (inr (inr past)) = absurd (let l : f * width + width ≤ e * width = more f e past in omega arith)

module _ (width : ℕ) (seen : List Seen) (d u : ℕ) (saw : Seen) (own : u < width) where
  abbrev pub later : List Seen
  later = slice_set seen (d * width + u) saw

  pub seen_other : (e v : ℕ) → v < width → ((e ≡ d) → (v ≡ u) → ⊥) → seen_at width later e v ≡ seen_at width seen e v
  seen_other e v mine other = ap (λ (x : Seen). take width x.0) (get_or-set_other seen (d * width + u) (e * width + v) saw (record { 0 = [] }) (λ same. let both = apart width e v d u mine own same in other both.0 both.1))

  pub seen_same : d * width + u < length seen → seen_at width later d u ≡ take width saw.0
  seen_same lt = ap (λ (x : Seen). take width x.0) (get_or-set_same seen (d * width + u) saw (record { 0 = [] }) lt)

  rows_other : (v k n : ℕ) → v < width → ((e : ℕ) → k ≤ e → e < k + n → (e ≡ d) → (v ≡ u) → ⊥) → map (λ e. seen_at width later e v) (range_with_len k n) ≡ map (λ e. seen_at width seen e v) (range_with_len k n)
  rows_other v k zero mine other = refl
  rows_other v k (suc n) mine other = λ i. seen_other k v mine (other k (omega arith) (omega arith)) i ∷ rows_other v (k + 1) n mine (λ e low high. other e (omega arith) (omega arith)) i

  rows_more : (k n : ℕ) (row : ℕ → List ℕ) → map row (range_with_len k (suc n)) ≡ map row (range_with_len k n) ++ row (k + n) ∷ []
  rows_more k zero row = let z : k ≡ k + 0 = omega arith in ap (λ e. row e ∷ []) z
  rows_more k (suc n) row = let z : k + 1 + n ≡ k + suc n = omega arith in ap (λ l. row k ∷ l) (rows_more (k + 1) n row ∙ ap (λ e. map row (range_with_len (k + 1) n) ++ row e ∷ []) z)

  -- the other seats are as they were
  seats_same : {G : Type 0} (k : ℕ) (benches : List (Bench G)) → k + length benches ≤ width → u < k → seats_from width later k benches ≡ seats_from width seen k benches
  seats_same k [] few past = refl
  seats_same k (b ∷ benches) few past = λ i. record (seat_in width seen k b) { seen = rows_other k 0 b.begun (omega arith) (λ e low high same is. omega (arith, is)) i } ∷ seats_same (suc k) benches (omega arith) (omega arith) i

  pub seats_begun : {G : Type 0} (k j : ℕ) (benches : List (Bench G)) (b : Bench G) (y : Seat Piece G) → k + length benches ≤ width → k + j ≡ u → seat_in width later u b ≡ y → seats_from width later k (slice_set benches j b) ≡ slice_set (seats_from width seen k benches) j y
  seats_begun k j [] b y few here is = refl
  seats_begun k zero (c ∷ benches) b y few here is = let same : k ≡ u = omega arith in λ i. (ap (λ n. seat_in width later n b) same ∙ is) i ∷ seats_same (suc k) benches (omega arith) (omega arith) i
  seats_begun k (suc j) (c ∷ benches) b y few here is =
      λ i. record (seat_in width seen k c) { seen = rows_other k 0 c.begun (omega arith) (λ e low high same it. omega (arith, it)) i } ∷ seats_begun (suc k) j benches b y (omega arith) (omega arith) is i

  -- what was passed stays so: nothing of the new task was
  pub passed_same : (n : ℕ) (last : Option Names) (counts : List ℕ) → slice_index counts u ≡ d → ((names : Names) → last ≡ Some names → IsReached counts width names.1) → passed_in width n later last ≡ passed_in width n seen last
  passed_same n last counts at reached = filter_same (λ (p : Pair). unordered_in width later p && is_behind last (names_of p)) (λ (p : Pair). unordered_in width seen p && is_behind last (names_of p)) (pairs width n) each
    where
      both : (a b : Bool) → (a && false) ≡ (b && false)
      both true true = refl
      both true false = refl
      both false true = refl
      both false false = refl

      new : (last : Option Names) → ((names : Names) → last ≡ Some names → IsReached counts width names.1) → (p : Pair) → p.late.epoch ≡ d → p.late.worker ≡ u → is_behind last (names_of p) ≡ false
      new None reached p epoch worker = refl
      new (Some names) reached p epoch worker = ap not (or_left _ _ (⊎_elim (λ before. before)
          (λ fails. absurd (let low : d < slice_index counts u = subst (λ e. e < slice_index counts u) epoch (subst (λ v. p.late.epoch < slice_index counts v) worker (reached names refl (names_of p).1 (omega (arith, worker, own)) fails)) in omega arith))
          (cases_Bool (is_before names.1 (names_of p).1))))

      each : (p : Pair) → In p (pairs width n) → (unordered_in width later p && is_behind last (names_of p)) ≡ (unordered_in width seen p && is_behind last (names_of p))
      each p among = by (cases_order p.late.epoch d) (cases_order p.late.worker u)
        where
          there : IsPair width n p
          there = pairs_in width n p among

          other : ((p.late.epoch ≡ d) → (p.late.worker ≡ u) → ⊥) → (unordered_in width later p && is_behind last (names_of p)) ≡ (unordered_in width seen p && is_behind last (names_of p))
          other differs = ap (λ (row : List ℕ). nat_le (slice_index_or row p.early.worker 0) p.early.epoch && is_behind last (names_of p)) (seen_other p.late.epoch p.late.worker there.late_own differs)

          by : (p.late.epoch ≡ d) ⊎ ((p.late.epoch < d) ⊎ (d < p.late.epoch)) → (p.late.worker ≡ u) ⊎ ((p.late.worker < u) ⊎ (u < p.late.worker)) → (unordered_in width later p && is_behind last (names_of p)) ≡ (unordered_in width seen p && is_behind last (names_of p))
          by (inl e) (inl w) = let gone : is_behind last (names_of p) ≡ false = new last reached p e w in ap (λ t. unordered_in width later p && t) gone ∙ both (unordered_in width later p) (unordered_in width seen p) ∙ ap (λ t. unordered_in width seen p && t) (sym gone)
          by (inl e) (inr w) = other (λ same is. ⊎_elim (λ (l : p.late.worker < u). omega (arith, is, l)) (λ (l : u < p.late.worker). omega (arith, is, l)) w)
          by (inr e) w = other (λ same is. ⊎_elim (λ (l : p.late.epoch < d). omega (arith, same, l)) (λ (l : d < p.late.epoch). omega (arith, same, l)) e)

-- the same of a table
module _ {G : Type 0} (s : Signs G) (sizes_in : G → List ℕ) (plan : Plan) (old : Table G) (u : ℕ) (was : Bench G) (ready : IsPlan plan) (sound : IsSound sizes_in plan old) (own : u < plan.options.workers) (at : was ≡ get_or old.seats.items u was)
    (idle : (bench_at old.seats.items u).begun ≡ (bench_at old.seats.items u).done) (there : (bench_at old.seats.items u).done < length old.desk.epochs) where
  abbrev bench : Bench G
  bench = bench_at old.seats.items u

  abbrev all : ℕ
  all = length old.seats.items

  abbrev pub begun_by : Hand Piece → Bench G → Bench G
  begun_by hand b = record b { hand = hand; begun = suc b.begun; signs = slice_set b.signs b.begun (s.nothing (sizes_in (get_or b.signs b.begun (s.nothing [])))) }

  -- the table with the worker begun, which saw this
  abbrev pub with_begun : Bench G → ℕ → List ℕ → Table G
  with_begun b epoch finished = record old { seats = with_item old.seats u b; seen = with_item old.seen (epoch * plan.options.workers + u) (record { 0 = finished }) }

  is : was ≡ bench
  is = was_is sizes_in plan old u was sound own at

  mine : u < all
  mine = inside sizes_in plan old u was sound own at

  kept : IsBenchBy sizes_in plan was
  kept = kept_by sizes_in plan old u was sound own at

  begun_done : was.begun ≡ was.done
  begun_done = subst (λ (b : Bench G). b.begun ≡ b.done) (sym is) idle

  pub room : was.begun < length was.signs
  room = let lt : was.done < length old.desk.epochs = subst (λ (b : Bench G). b.done < length old.desk.epochs) (sym is) there in omega (arith, begun_done, lt, sound.desk.few, kept.places)

  pub short : length was.signs ≤ 64
  short = omega (arith, kept.places, ready.few_epochs)

  more : (a b c n : ℕ) → a < b → c < n → a * n + c < b * n
  more a zero c n lt less = absurd (omega arith)
  more a (suc b) c n lt less = ⊎_elim
      (λ (below : a < b). let l : a * n + c < b * n = more a b c n below less in omega arith)
      (λ (same : a ≡ b). subst (λ d. a * n + c < suc d * n) same (omega (arith, less)))
      (split (cases_order a b))
    where
      split : (a ≡ b) ⊎ ((a < b) ⊎ (b < a)) → (a < b) ⊎ (a ≡ b)
      split (inl same) = inr same
      split (inr (inl less)) = inl less
      split (inr (inr past)) = absurd (omega arith)

  pub place_there : (epoch : ℕ) → epoch ≡ bench.done → epoch * plan.options.workers + u < length old.seen.items
  place_there epoch same =
      let lt : epoch < plan.options.segment = omega (arith, same, there, sound.desk.few) in
      subst (λ n. epoch * plan.options.workers + u < n) (sym sound.seen) (more epoch plan.options.segment u plan.options.workers lt own)

  pub begin_sound : ((sizes : List ℕ) → sizes_in (s.nothing sizes) ≡ sizes) → (b : Bench G) (epoch : ℕ) (finished : List ℕ) (hand : Hand Piece) → b ≡ begun_by hand was → IsSound sizes_in plan (with_begun b epoch finished)
  begin_sound keeps b epoch finished hand made = record {
    seats = many ∙ sound.seats;
    benches = each_put (IsBenchBy sizes_in plan) old.seats.items u b sound.benches (subst (IsBenchBy sizes_in plan) (sym made) (record {
      places = length-set was.signs was.begun _ ∙ kept.places;
      sizes = each_put (λ (sign : G). sizes_in sign ≡ sizes_by plan) was.signs was.begun _ kept.sizes (keeps _ ∙ each_of (λ (sign : G). sizes_in sign ≡ sizes_by plan) was.signs was.begun (s.nothing []) room kept.sizes);
      begun = omega (arith, room, kept.places);
      done = omega (arith, begun_done);
    }));
    seen = length-set old.seen.items _ _ ∙ sound.seen;
    sizes = sound.sizes;
    mark = sound.mark;
    desk = sound.desk;
    near = sound.near;
    reached = λ names last. λ before mine first. more_done old.seats.items u before.worker before.epoch b (let le : bench.done ≤ (begun_by hand was).done = subst (λ (x : Bench G). x.done ≤ was.done) is (omega arith) in subst (λ (x : Bench G). bench.done ≤ x.done) (sym made) le) (sound.reached names last before (subst (λ n. before.worker < n) many mine) first);
  }
    where
      many : length (slice_set old.seats.items u b) ≡ all
      many = length-set old.seats.items u b

  module _ (b : Bench G) (epoch : ℕ) (finished : List ℕ) (hand first : Hand Piece) (same : epoch ≡ bench.done) (made : b ≡ begun_by hand was) (first_is : hand ≡ first) (counts : take all finished ≡ map (λ (x : Bench G). x.done) old.seats.items)
      (keeps : (sizes : List ℕ) → sizes_in (s.nothing sizes) ≡ sizes) where
    abbrev saw : Seen
    saw = record { 0 = finished }

    place : epoch * plan.options.workers + u ≡ bench.done * all + u
    place = ap (λ e. e * plan.options.workers + u) same ∙ ap (λ n. bench.done * n + u) (sym sound.seats)

    inside_seen : bench.done * all + u < length old.seen.items
    inside_seen = subst (λ n. n < length old.seen.items) place (place_there epoch same)

    abbrev now : List Seen
    now = slice_set old.seen.items (bench.done * all + u) saw

    width : length (slice_set old.seats.items u b) ≡ all
    width = length-set old.seats.items u b

    rows : seen_by all now u (suc bench.begun) ≡ seen_by all old.seen.items u bench.begun ++ dones (state_of old).seats ∷ []
    rows =
        rows_more all old.seen.items bench.done u saw mine 0 bench.begun (λ e. seen_at all now e u)
        ∙ ap (λ l. l ++ seen_at all now (0 + bench.begun) u ∷ []) (rows_other all old.seen.items bench.done u saw mine u 0 bench.begun mine (λ e low high same it. omega (arith, high, same, idle)))
        ∙ ap (λ row. seen_by all old.seen.items u bench.begun ++ row ∷ [])
        ((let z : 0 + bench.begun ≡ bench.done = omega (arith, idle) in ap (λ e. seen_at all now e u) z) ∙ seen_same all old.seen.items bench.done u saw mine inside_seen ∙ counts ∙ sym (dones_are all old.seen.items 0 old.seats.items))

    signs : take (suc bench.begun) (begun_by first bench).signs ≡ take bench.begun bench.signs ++ s.nothing (sizes_by plan) ∷ []
    signs =
        let lt : bench.begun < length bench.signs = subst (λ (x : Bench G). x.begun < length x.signs) is room in
        take-suc-set bench.signs bench.begun _ lt
        ∙ ap (λ l. take bench.begun bench.signs ++ s.nothing l ∷ []) (each_of (λ (sign : G). sizes_in sign ≡ sizes_by plan) bench.signs bench.begun (s.nothing []) lt (subst (IsBenchBy sizes_in plan) is kept).sizes)

    abbrev y : Seat Piece G
    y = seat_after (setup_by s plan) (state_of old) (seat_at (state_of old).seats u) (DoBegin first)

    seat : seat_in all now u b ≡ y
    seat =
        ap (seat_in all now u) (made ∙ (λ i. begun_by (first_is i) (is i)))
        ∙ (λ i. let z : Seat Piece G = record { hand = first; done = bench.done; seen = rows i; signs = signs i } in z)
        ∙ ap (λ (x : Seat Piece G). seat_after (setup_by s plan) (state_of old) x (DoBegin first)) (sym (seats_there old.seen.items old.seats.items u mine))

    seats : seats_of (slice_set old.seen.items (epoch * plan.options.workers + u) saw) (slice_set old.seats.items u b) ≡ slice_set (state_of old).seats u y
    seats =
        (λ i. seats_from (width i) (slice_set old.seen.items (place i) saw) 0 (slice_set old.seats.items u b))
        ∙ seats_begun all old.seen.items bench.done u saw mine 0 u old.seats.items b y (omega arith) (omega arith) seat

    at_done : slice_index (map (λ (x : Bench G). x.done) old.seats.items) u ≡ bench.done
    at_done = done_there old.seats.items u mine

    passed : passed_in (length (slice_set old.seats.items u b)) (length old.desk.epochs) (slice_set old.seen.items (epoch * plan.options.workers + u) saw) old.checker ≡ (state_of old).passed
    passed =
        (λ i. passed_in (width i) (length old.desk.epochs) (slice_set old.seen.items (place i) saw) old.checker)
        ∙ passed_same all old.seen.items bench.done u saw mine (length old.desk.epochs) old.checker (map (λ (x : Bench G). x.done) old.seats.items) at_done sound.reached

    pub begin_by : state_of (with_begun b epoch finished) ≡ worker_after (setup_by s plan) (state_of old) u (DoBegin first)
    begin_by = λ i. record (state_of old) { seats = seats i; passed = passed i }
