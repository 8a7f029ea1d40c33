-- A segment was looked at: what the table of its hulls tells is what is found in it, and the least of the distances found
-- stays the least.
use Rattle.std.proofs.Common.{◌≡◌, ℕ, ◌+◌, ◌-◌, ◌<◌, ◌≤◌, ◌⊎◌, nat_lt, if◌then◌else◌, Option, Some, None, IsSome, List, [], ◌∷◌, ◌++◌, length, slice_get, slice_index_or, refl, sym, ap, ◌∙◌, subst, inl, inr, ⊎_elim, arith}
use Rattle.std.proofs.lemmas.Bool.{cases_lt}
use Rattle.std.specs.Option.{option_map_or, option_or}
use Rattle.settle_law.specs.Courses.{Nest as Textual, reached}
use Rattle.nest_mean.specs.Nest.{Nest}
use Rattle.range_sign.specs.Overlap.{overlap_of}
use Rattle.sched_cursor.specs.Cursor.{Cursor}
use Rattle.task_frame.specs.declared.piece.Piece.{Piece}
use Rattle.progress_board.specs.declared.options.Options.{Options}
use Rattle.spec_machine.specs.Facts.{Pair, Task}
use Rattle.spec_machine.specs.Machine.{Setup, Epoch}
use Rattle.spec_machine.specs.Segments.{cut_off, opens_at, hull}
use Rattle.spec_setup.specs.Signs.{Signs}
use Rattle.spec_setup.specs.Setups.{Invoked}
use Rattle.spec_core.specs.Engine.{nest_in}
use Rattle.spec_core.specs.Theorems.{claims_due, words_due}
use Rattle.nest_profile.specs.declared.row.Row.{Row}
use Rattle.nest_profile.specs.Least.{IsLeastOf}
use Rattle.nest_profile.specs.Found.{FoundAt}
use Rattle.nest_profile.specs.Hulls.{IsEven, IsTable, sign_in, HoldHulls}
use Rattle.nest_profile.specs.Nearest.{MeetApart, IsNearest, bound_by}
use Rattle.nest_profile.specs.Walked.{machine, sizes_in, Found, HasLooked}
use Rattle.nest_profile.proofs.Found.{left, right, parted}
use Rattle.nest_profile.proofs.Rows.{each_got, got_or, got_below, got_there, hold_cleared}

module _ {G : Type 0} (signs : Signs G) (job : Nest) (options : Options) (start : Cursor) (sizes_of : G → List ℕ) where
  abbrev nest : Textual
  nest = nest_in job

  abbrev m : Setup Invoked Cursor Piece G
  m = machine signs job options

  abbrev At : List (Epoch Invoked) → Pair → Type 0
  At = FoundAt m nest start (claims_due job) (words_due job)

  abbrev In : List (List (Epoch Invoked)) → Pair → Type 0
  In = Found signs job options start

  -- what is found in a segment, whether or not it has an epoch
  of_cut : (gathered : List (Epoch Invoked)) (p : Pair) → In (cut_off gathered) p → At gathered p
  of_cut [] p found = absurd found
  of_cut (x ∷ gathered) p (inl here) = here
  of_cut (x ∷ gathered) p (inr later) = absurd later

  to_cut : (gathered : List (Epoch Invoked)) (p : Pair) → At gathered p → In (cut_off gathered) p
  to_cut [] p found = absurd (omega (arith, found.is_pair.late))
  to_cut (x ∷ gathered) p found = inl found

  module _ (rows : List (Row G)) (gathered : List (Epoch Invoked)) (table : IsTable sizes_of (sizes_in job) options.segment options.workers rows) (hulls : HoldHulls m nest start (claims_due job) (words_due job) rows gathered) (few : length gathered ≤ options.segment) where
    abbrev hull_of : Task → G
    hull_of = hull m nest start (claims_due job) (words_due job) gathered

    -- the signature of a task, as it stands in its row
    record InRow (e u : ℕ) : Type 0 where
      pub row : Row G
      pub row_there : slice_get rows e ≡ Some row
      pub sign : G
      pub there : slice_get row.signs.items u ≡ Some sign
      pub is_hull : hull_of (record { epoch = e; worker = u }) ≡ sign

    row_hull : (e u : ℕ) (row : Row G) (sign : G) → e < length gathered → slice_get rows e ≡ Some row → slice_get row.signs.items u ≡ Some sign → u < options.workers → hull_of (record { epoch = e; worker = u }) ≡ sign
    row_hull e u row sign low there here own = sym (hulls e u (got_below rows e row there) own) ∙ ap (λ o. option_map_or (λ (r : Row G). slice_index_or r.signs.items u m.kind.blank) o m.kind.blank) there ∙ got_or row.signs.items u sign m.kind.blank here

    in_row : (e u : ℕ) → e < length gathered → u < options.workers → InRow e u
    in_row e u low own =
        let r = got_there rows e (omega (arith, low, few, table.rows_for_each)) in
        let wide : length r.0.signs.items ≡ options.workers = each_got (λ (row : Row G). length row.signs.items ≡ options.workers) rows e r.0 table.wide r.1 in
        let g = got_there r.0.signs.items u (omega (arith, own, wide)) in
        record { row = r.0; row_there = r.1; sign = g.0; there = g.1; is_hull = row_hull e u r.0 g.0 low r.1 g.1 own }

    row_sizes : (e u : ℕ) (row : Row G) (sign : G) → slice_get rows e ≡ Some row → slice_get row.signs.items u ≡ Some sign → sizes_of sign ≡ sizes_in job
    row_sizes e u row sign there here = each_got (λ (s : G). sizes_of s ≡ sizes_in job) row.signs.items u sign (each_got (IsEven sizes_of (sizes_in job)) rows e row table.even there) here

    worker_below : (e u : ℕ) (row : Row G) (sign : G) → slice_get rows e ≡ Some row → slice_get row.signs.items u ≡ Some sign → u < options.workers
    worker_below e u row sign there here =
        let wide : length row.signs.items ≡ options.workers = each_got (λ (row : Row G). length row.signs.items ≡ options.workers) rows e row table.wide there in
        let low : u < length row.signs.items = got_below row.signs.items u sign here in
        omega arith

    -- rows so far apart meet in a pair
    record MeetsIn (d : ℕ) : Type 0 where
      pub pair : Pair
      pub found : At gathered pair
      pub apart : pair.late.epoch ≡ pair.early.epoch + d

    meets_in : IsSome (reached nest (opens_at gathered 0)) → (d : ℕ) → 0 < d → MeetApart sizes_of signs.holds rows (length gathered) d → MeetsIn d
    meets_in gets d some a =
        let e : ℕ = a.epoch in
        let u : ℕ = a.meet.worker in
        let w : ℕ = a.meet.meets.worker in
        let own = worker_below e u a.early a.meet.sign a.early_there a.meet.there in
        let other_own = worker_below (e + d) w a.late a.meet.meets.other a.late_there a.meet.meets.there in
        let early_is = row_hull e u a.early a.meet.sign (omega (arith, a.inside)) a.early_there a.meet.there own in
        let late_is = row_hull (e + d) w a.late a.meet.meets.other a.inside a.late_there a.meet.meets.there other_own in
        record {
          pair = record { early = record { epoch = e; worker = u }; late = record { epoch = e + d; worker = w } };
          found = record {
            reaches = gets;
            is_pair = record { rises = omega (arith, some); late = a.inside; early_own = own; late_own = other_own; differ = λ same. a.meet.meets.differs (sym same) };
            overlap = subst (λ x. IsSome (m.kind.overlap x (hull_of (record { epoch = e + d; worker = w })))) (sym early_is)
                (subst (λ y. IsSome (m.kind.overlap a.meet.sign y)) (sym late_is)
                (subst (λ l. IsSome (overlap_of l (signs.holds a.meet.sign) (signs.holds a.meet.meets.other))) (row_sizes e u a.early a.meet.sign a.early_there a.meet.there) a.meet.meets.overlaps));
          };
          apart = refl;
        }

    -- and a pair that is found meets so far apart
    found_meets : (p : Pair) (d : ℕ) → p.early.epoch + d ≡ p.late.epoch → At gathered p → MeetApart sizes_of signs.holds rows (length gathered) d
    found_meets p d apart found =
        let pair = found.is_pair in
        let early = in_row p.early.epoch p.early.worker (omega (arith, pair.rises, pair.late)) pair.early_own in
        let late = in_row p.late.epoch p.late.worker pair.late pair.late_own in
        record {
          epoch = p.early.epoch;
          early = early.row;
          late = late.row;
          early_there = early.row_there;
          late_there = ap (slice_get rows) apart ∙ late.row_there;
          inside = omega (arith, apart, pair.late);
          meet = record {
            worker = p.early.worker;
            sign = early.sign;
            there = early.there;
            meets = record {
              worker = p.late.worker;
              other = late.sign;
              there = late.there;
              differs = λ same. pair.differ (sym same);
              overlaps = subst (λ l. IsSome (overlap_of l (signs.holds early.sign) (signs.holds late.sign))) (sym (row_sizes p.early.epoch p.early.worker early.row early.sign early.row_there early.there))
                  (subst (λ x. IsSome (m.kind.overlap x late.sign)) early.is_hull (subst (λ y. IsSome (m.kind.overlap (hull_of p.early) y)) late.is_hull found.overlap));
            };
          };
        }

    -- the distance of a pair of the segment
    distance_of : (p : Pair) → At gathered p → (d : ℕ) × (p.early.epoch + d ≡ p.late.epoch) × (0 < d) × (d < length gathered)
    distance_of p found =
        let rises = found.is_pair.rises in
        let late = found.is_pair.late in
        let d : ℕ = p.late.epoch - p.early.epoch in
        (d, omega (arith, rises), omega (arith, rises), omega (arith, rises, late))

    module _ (looked : List (List (Epoch Invoked))) (gets : 0 < length gathered → IsSome (reached nest (opens_at gathered 0))) where
      abbrev all : List (List (Epoch Invoked))
      all = looked ++ cut_off gathered

      either : (p : Pair) → In all p → In looked p ⊎ At gathered p
      either p found = ⊎_elim (λ l. inl l) (λ r. inr (of_cut gathered p r)) (parted m nest start (claims_due job) (words_due job) looked (cut_off gathered) p found)

      old_found : (p : Pair) → In looked p → In all p
      old_found = left m nest start (claims_due job) (words_due job) looked (cut_off gathered)

      new_found : (p : Pair) → At gathered p → In all p
      new_found p found = right m nest start (claims_due job) (words_due job) looked (cut_off gathered) p (to_cut gathered p found)

      -- where nothing nearer than the bound is found
      none_nearer : (best : Option ℕ) → IsLeastOf (In looked) best → ((d : ℕ) → 0 < d → d < bound_by best (length gathered) → MeetApart sizes_of signs.holds rows (length gathered) d → ⊥) → IsLeastOf (In all) best
      none_nearer None least none = λ p found. ⊎_elim (least p) (λ here. let d = distance_of p here in none d.0 d.2 d.3 (found_meets p d.0 d.1 here)) (either p found)
      none_nearer (Some b) least none = (
        (least.0.0, old_found least.0.0 least.0.1, least.0.2),
        λ p found. ⊎_elim (least.1 p) (λ here.
            let d = distance_of p here in
            ⊎_elim (λ (low : d.0 < b). absurd (none d.0 d.2 (omega (arith, low, d.3)) (found_meets p d.0 d.1 here))) (λ (high : b ≤ d.0). let far : p.early.epoch + b ≤ p.late.epoch = omega (arith, high, d.1) in far) (cases_lt d.0 b)) (either p found),
      )

      -- where something nearer is found
      one_nearer : (best : Option ℕ) (near : ℕ) → IsLeastOf (In looked) best → 0 < near → near < bound_by best (length gathered) → MeetApart sizes_of signs.holds rows (length gathered) near → ((d : ℕ) → 0 < d → d < near → MeetApart sizes_of signs.holds rows (length gathered) d → ⊥) → IsLeastOf (In all) (Some near)
      one_nearer best near least some below meets none =
          let inside : 0 < length gathered = omega (arith, meets.inside) in
          let one = meets_in (gets inside) near some meets in (
            (one.pair, new_found one.pair one.found, one.apart),
            λ p found. ⊎_elim (older best least below p) (λ here.
                let d = distance_of p here in
                ⊎_elim (λ (low : d.0 < near). absurd (none d.0 d.2 low (found_meets p d.0 d.1 here))) (λ (high : near ≤ d.0). let far : p.early.epoch + near ≤ p.late.epoch = omega (arith, high, d.1) in far) (cases_lt d.0 near)) (either p found),
          )
        where
          older : (best : Option ℕ) → IsLeastOf (In looked) best → near < bound_by best (length gathered) → (p : Pair) → In looked p → p.early.epoch + near ≤ p.late.epoch
          older None least below p found = absurd (least p found)
          older (Some b) least below p found = let far : p.early.epoch + b ≤ p.late.epoch = least.1 p found in let low : near < b = omega (arith, below) in omega arith

      pub least_then : (best answer : Option ℕ) → IsLeastOf (In looked) best → IsNearest sizes_of signs.holds rows (length gathered) (bound_by best (length gathered)) answer → IsLeastOf (In all) (option_or answer best)
      least_then best None least is = none_nearer best least is
      least_then best (Some near) least is = one_nearer best near least is.0 is.1 is.2 is.3

  -- A segment was looked at, and its rows were cleared.
  pub cut_looked : (old rows : List (Row G)) (count : ℕ) (best found : Option ℕ) (looked : List (List (Epoch Invoked))) (gathered : List (Epoch Invoked)) → (0 < length gathered → IsSome (reached nest (opens_at gathered 0)))
      → HasLooked signs job options start sizes_of old count best looked gathered → IsNearest sizes_of signs.holds old count (bound_by best count) found
      → IsTable sizes_of (sizes_in job) options.segment options.workers rows
      → ((e u : ℕ) → sign_in (signs.nothing (sizes_in job)) rows e u ≡ (if nat_lt e count then signs.nothing (sizes_in job) else sign_in (signs.nothing (sizes_in job)) old e u))
      → HasLooked signs job options start sizes_of rows 0 (option_or found best) (looked ++ cut_off gathered) []
  cut_looked old rows count best found looked gathered gets h near table cleared = record {
    table = table;
    hulls = hold_cleared m nest start (claims_due job) (words_due job) old rows gathered (table.rows_for_each ∙ sym h.table.rows_for_each) h.hulls
        (subst (λ n. (e u : ℕ) → sign_in (signs.nothing (sizes_in job)) rows e u ≡ (if nat_lt e n then signs.nothing (sizes_in job) else sign_in (signs.nothing (sizes_in job)) old e u)) h.counts cleared);
    counts = refl;
    few = omega arith;
    least = least_then old gathered h.table h.hulls h.few looked gets best found h.least (subst (λ n. IsNearest sizes_of signs.holds old n (bound_by best n) found) h.counts near);
  }
