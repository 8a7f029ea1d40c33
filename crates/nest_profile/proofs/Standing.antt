-- How a walk stands before the first event, and where one epoch more is gathered.
use Rattle.std.proofs.Common.{◌≡◌, ◌↔◌, ℕ, ◌+◌, ◌<◌, ◌⊎◌, ℤ, Bool, true, false, if◌then◌else◌, Option, Some, None, IsSome, Err, List, [], ◌∷◌, ◌++◌, length, replicate, slice_get, slice_set, slice_index_or, refl, sym, ap, ◌∙◌, subst, inl, inr, arith, length-append, append-nil}
use Rattle.std.specs.Option.{option_map_or}
use Rattle.nest_syntax.specs.Among.{Each}
use Rattle.nest_syntax.specs.Arrays.{arrays_of}
use Rattle.settle_law.specs.Courses.{Nest as Textual, Trap, reached, nest_of}
use Rattle.nest_mean.specs.Nest.{Nest}
use Rattle.sched_cursor.specs.declared.node.Invocation.{Invocation}
use Rattle.sched_cursor.specs.declared.node.At.TheVariants as at
use Rattle.sched_cursor.specs.Cursor.{Cursor}
use Rattle.sched_cursor.specs.Events.{after_event, is_inside, behind_invocation}
use Rattle.sched_cursor.specs.Laws.{IsCursorOf, restarted}
use Rattle.task_frame.specs.declared.piece.Piece.{Piece}
use Rattle.progress_board.specs.declared.options.Options.{Options}
use Rattle.spec_machine.specs.Facts.{Pair}
use Rattle.spec_machine.specs.Machine.{Setup, Epoch}
use Rattle.spec_machine.specs.Segments.{opens_at}
use Rattle.spec_setup.specs.Signs.{Signs}
use Rattle.spec_setup.specs.Setups.{Invoked}
use Rattle.spec_setup.proofs.Follows.{Fresh}
use Rattle.spec_core.specs.Engine.{nest_in}
use Rattle.spec_core.specs.Theorems.{claims_due, words_due}
use Rattle.nest_profile.specs.declared.course.Course.{Course}
use Rattle.nest_profile.specs.declared.row.Row.{Row}
use Rattle.nest_profile.specs.Hulls.{IsEven, hull_in, HoldHulls}
use Rattle.nest_profile.specs.Iterations.{AreNext, left_at, IsCourse}
use Rattle.nest_profile.specs.Walked.{machine, sizes_in, entered_at, all_segments, Found, Stands, HasLooked}
use Rattle.nest_profile.proofs.Rows.{each_got, hull_past, hold_more, hold_none, table_set, opened_table, opened_blank}
use Rattle.nest_profile.proofs.Turned.{entered}
use Rattle.nest_profile.proofs.Walking.{GoesOn, invoke_goes, iterations_next, stands_first}

module _ {G : Type 0} (signs : Signs G) (job : Nest) (options : Options) where
  abbrev m : Setup Invoked Cursor Piece G
  m = machine signs job options

  abbrev blank : G
  blank = signs.nothing (sizes_in job)

  -- before the first event
  pub stands_opened : (c : Cursor) → IsCursorOf job.program c → c ≡ restarted job.program c → Stands signs job options (restarted job.program c) c [] []
  stands_opened c own first = subst (λ (k : Cursor). Stands signs job options (restarted job.program c) k [] []) (sym first) (stands_first signs job options c own)

  module _ (start : Cursor) where
    -- an invocation that was entered
    module _ (c : Cursor) (looked : List (List (Epoch Invoked))) (gathered : List (Epoch Invoked)) (s : Stands signs job options start c looked gathered) (inside : is_inside c.at ≡ true) where
      pub next_ones : AreNext job c (left_at c.at)
      next_ones = by (entered c.at inside)
        where
          by : (i : Invocation) × (c.at ≡ at.Inside i) → AreNext job c (left_at c.at)
          by (i, there) =
              let fresh : i.turning.turn ≡ 0 = subst Fresh there s.good.fresh in
              let all : left_at (at.Inside i) ≡ i.turning.trips = omega (arith, fresh) in
              subst (AreNext job c) (sym (ap left_at there ∙ all)) (iterations_next signs job options start c looked gathered s i there)

      pub goes_behind : length gathered < options.segment → GoesOn signs job options start c looked gathered s (behind_invocation c c.at) looked (gathered ++ entered_at c c.at ∷ [])
      goes_behind room = by (entered c.at inside)
        where
          by : (i : Invocation) × (c.at ≡ at.Inside i) → GoesOn signs job options start c looked gathered s (behind_invocation c c.at) looked (gathered ++ entered_at c c.at ∷ [])
          by (i, there) = subst (λ a. GoesOn signs job options start c looked gathered s (behind_invocation c a) looked (gathered ++ entered_at c a ∷ [])) (sym there) (invoke_goes signs job options start c looked gathered s i there room)

    module _ (sizes_of : G → List ℕ) where
      pub looked_first : sizes_of (signs.nothing (sizes_in job)) ≡ sizes_in job → (rows : List (Row G)) → length rows ≡ options.segment → Each (λ (row : Row G). row.signs.items ≡ replicate options.workers (signs.nothing (sizes_in job))) rows → HasLooked signs job options start sizes_of rows 0 None [] []
      looked_first of rows many each = record {
        table = opened_table sizes_of (sizes_in job) blank options.segment options.workers rows of many each;
        hulls = hold_none m (nest_in job) start (claims_due job) (words_due job) rows (opened_blank blank options.workers rows each);
        counts = refl;
        few = omega arith;
        least = λ p found. found;
      }

      -- one epoch more
      module _ (rows : List (Row G)) (count : ℕ) (best : Option ℕ) (looked : List (List (Epoch Invoked))) (gathered : List (Epoch Invoked)) (has : HasLooked signs job options start sizes_of rows count best looked gathered) (room : count < options.segment) where
        pub row_inside : count < length rows
        row_inside = omega (arith, room, has.table.rows_for_each)

        -- the row that comes next is of nothing
        module _ (row : Row G) (there : slice_get rows count ≡ Some row) where
          pub wide_there : length row.signs.items ≡ options.workers
          wide_there = each_got (λ (row : Row G). length row.signs.items ≡ options.workers) rows count row has.table.wide there

          pub even_there : IsEven sizes_of (sizes_in job) row
          even_there = each_got (IsEven sizes_of (sizes_in job)) rows count row has.table.even there

          pub blank_there : (u : ℕ) → u < options.workers → slice_index_or row.signs.items u (signs.nothing (sizes_in job)) ≡ signs.nothing (sizes_in job)
          blank_there u own = sym (ap (λ o. option_map_or (λ (r : Row G). slice_index_or r.signs.items u blank) o blank) there) ∙ has.hulls count u row_inside own
              ∙ hull_past m (nest_in job) start (claims_due job) (words_due job) gathered count u (omega (arith, has.counts))

        pub one_more : (row : Row G) (x : Epoch Invoked) → length row.signs.items ≡ options.workers → IsEven sizes_of (sizes_in job) row
            → ((u : ℕ) → u < options.workers → slice_index_or row.signs.items u (signs.nothing (sizes_in job)) ≡ hull_in m (claims_due job) (words_due job) x count u)
            → HasLooked signs job options start sizes_of (slice_set rows count row) (count + 1) best looked (gathered ++ x ∷ [])
        one_more row x wide even hulls = record {
          table = table_set sizes_of (sizes_in job) options.segment options.workers rows count row has.table wide even;
          hulls = subst (λ n. HoldHulls m (nest_in job) start (claims_due job) (words_due job) (slice_set rows n row) (gathered ++ x ∷ [])) (sym has.counts) (hold_more m (nest_in job) start (claims_due job) (words_due job) rows row gathered x has.hulls (omega (arith, row_inside, has.counts)) (subst (λ n. (u : ℕ) → u < options.workers → slice_index_or row.signs.items u blank ≡ hull_in m (claims_due job) (words_due job) x n u) has.counts hulls));
          counts = let l : length (gathered ++ x ∷ []) ≡ length gathered + 1 = length-append gathered (x ∷ []) in omega (arith, l, has.counts);
          few = let l : length (gathered ++ x ∷ []) ≡ length gathered + 1 = length-append gathered (x ∷ []) in omega (arith, l, has.counts, room);
          least = has.least;
        }

-- whether textual order gets to a course
pub gets_words : (job : Nest) (course : Course) → IsCourse job course → course.is_reached ≡ true → reached (nest_of job.program job.opening.words) course.cursor.next ≡ Some course.words.words
gets_words job course is so = is.reached_is ∙ ap (λ t. if t then Some course.words.words else None) so

pub gets : (job : Nest) (course : Course) → IsCourse job course → course.is_reached ≡ true → IsSome (reached (nest_of job.program job.opening.words) course.cursor.next)
gets job course is so = subst IsSome (sym (gets_words job course is so)) refl

pub gets_not : (job : Nest) (course : Course) → IsCourse job course → course.is_reached ≡ false → reached (nest_of job.program job.opening.words) course.cursor.next ≡ None
gets_not job course is so = is.reached_is ∙ ap (λ t. if t then Some course.words.words else None) so

-- why textual order doesn't get behind a drain
pub drain_stops : (job : Nest) (course : Course) → IsCourse job course → (course.is_reached ≡ true → (trap : Trap) × (after_event (arrays_of job.program.decls) course.cursor course.words.words ≡ Err trap))
    → (reached (nest_of job.program job.opening.words) course.cursor.next ≡ None) ⊎ ((words : List ℤ) × (trap : Trap) × (reached (nest_of job.program job.opening.words) course.cursor.next ≡ Some words) × (after_event (arrays_of job.program.decls) course.cursor words ≡ Err trap))
drain_stops job course is traps = by course.is_reached refl
  where
    by : (t : Bool) → course.is_reached ≡ t → (reached (nest_of job.program job.opening.words) course.cursor.next ≡ None) ⊎ ((words : List ℤ) × (trap : Trap) × (reached (nest_of job.program job.opening.words) course.cursor.next ≡ Some words) × (after_event (arrays_of job.program.decls) course.cursor words ≡ Err trap))
    by true so = let at = traps so in inr (course.words.words, at.0, gets_words job course is so, at.1)
    by false so = inl (gets_not job course is so)

pub opened : (nest : Textual) (gathered : List (Epoch Invoked)) (next : ℕ) → IsSome (reached nest (opens_at gathered next)) → 0 < length gathered → IsSome (reached nest (opens_at gathered 0))
opened nest [] next opens some = absurd (omega (arith, some))
opened nest (x ∷ gathered) next opens some = opens

-- where all segments were looked at, but for what is gathered
module _ {G : Type 0} (signs : Signs G) (job : Nest) (options : Options) (start : Cursor) where
  abbrev all : List (List (Epoch Invoked))
  all = all_segments signs job options start

  abbrev In : List (List (Epoch Invoked)) → Pair → Type 0
  In = Found signs job options start

  pub ends_whole : (looked : List (List (Epoch Invoked))) → looked ≡ all_segments signs job options start → (p : Pair) → Found signs job options start (all_segments signs job options start) p ↔ Found signs job options start looked p
  ends_whole looked is p = subst (λ l. In all p ↔ In l p) (sym is) ((λ found. found), (λ found. found))

  pub ends_cut : (looked : List (List (Epoch Invoked))) (p : Pair) → Found signs job options start (all_segments signs job options start) p ↔ Found signs job options start looked p → Found signs job options start (all_segments signs job options start) p ↔ Found signs job options start (looked ++ []) p
  ends_cut looked p whole = subst (λ l. In all p ↔ In l p) (sym (append-nil looked)) whole
