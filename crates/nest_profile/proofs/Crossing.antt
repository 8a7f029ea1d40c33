-- An invocation that is gone through, the task of one worker after the other.
use Rattle.std.proofs.Common.{◌≡◌, ℕ, suc, ◌+◌, ◌-◌, ◌<◌, ◌≤◌, ◌⊎◌, Bool, true, false, nat_lt, if◌then◌else◌, Some, List, length, slice_index_or, slice_set, refl, sym, ap, ◌∙◌, subst, inl, inr, ⊎_elim, arith, length-set}
use Rattle.std.proofs.lemmas.Bool.{cases_order, cases_lt, lt-ltb, le-ltb}
use Rattle.std.proofs.lemmas.List.{get_or-set_same, get_or-set_other}
use Rattle.task_frame.specs.declared.piece.Piece.{Piece}
use Rattle.nest_syntax.specs.Among.{Each}
use Rattle.nest_mean.specs.Nest.{Nest}
use Rattle.settle_law.specs.Courses.{iteration_at, nest_of}
use Rattle.epoch_plan.specs.declared.blocks.Epoch.{Epoch as Planned}
use Rattle.epoch_plan.specs.Blocks.{block}
use Rattle.sched_cursor.specs.declared.node.Invocation.{Invocation}
use Rattle.sched_cursor.specs.declared.node.At.{At}
use Rattle.sched_cursor.specs.declared.node.At.TheVariants as at
use Rattle.sched_cursor.specs.Cursor.{Cursor}
use Rattle.sched_cursor.specs.Events.{is_inside, handed_at, behind_invocation}
use Rattle.sched_cursor.specs.Handed.{what_of}
use Rattle.sched_cursor.specs.Laws.{IsCursorOf}
use Rattle.progress_board.specs.declared.options.Options.{Options}
use Rattle.spec_machine.specs.Machine.{Setup, Epoch, share, share_of}
use Rattle.spec_machine.specs.Segments.{with_iterations}
use Rattle.spec_machine.proofs.Plans.{share_all, share_rises}
use Rattle.spec_setup.specs.Signs.{Signs}
use Rattle.spec_setup.specs.Setups.{Invoked}
use Rattle.spec_setup.proofs.Blocks.{are_shares}
use Rattle.spec_setup.proofs.Follows.{Fresh}
use Rattle.spec_core.specs.Theorems.{claims_due, words_due}
use Rattle.nest_profile.specs.declared.course.Course.{Course}
use Rattle.nest_profile.specs.declared.row.Row.{Row}
use Rattle.nest_profile.specs.Hulls.{IsEven, hull_in}
use Rattle.nest_profile.specs.Iterations.{turned, left_at, AreNext, AreTakenOver, IsCourse}
use Rattle.nest_profile.specs.Walked.{machine, entered_at, sizes_in}
use Rattle.nest_profile.proofs.Courses.{course_moved}
use Rattle.nest_profile.proofs.Rows.{each_set}
use Rattle.nest_profile.proofs.Turned.{turned_more, next_turned, left_turned, inside_turned, behind_turned}

-- how many iterations a block has
pub block_count : (epoch : Planned) (index worker workers count : ℕ) (all : Bool) → 0 < workers → epoch.trips ≡ count → epoch.all ≡ all → (b : ℕ × ℕ) → b ≡ block epoch index worker workers → b.1 - b.0 ≡ share all workers index count (suc worker) - share all workers index count worker
block_count epoch index worker workers count all some trips shared b is =
    subst (λ n. b.1 - b.0 ≡ share all workers index n (suc worker) - share all workers index n worker) trips
    (subst (λ t. b.1 - b.0 ≡ share t workers index epoch.trips (suc worker) - share t workers index epoch.trips worker) shared (⊎_elim more none (cases_lt from to)))
  where
    from : ℕ
    from = share epoch.all workers index epoch.trips worker

    to : ℕ
    to = share epoch.all workers index epoch.trips (suc worker)

    more : from < to → b.1 - b.0 ≡ to - from
    more low = ap (λ (x : ℕ × ℕ). x.1 - x.0) (is ∙ (are_shares epoch index workers worker).whole low)

    none : to ≤ from → b.1 - b.0 ≡ to - from
    none high =
        let le : b.1 ≤ b.0 = subst (λ (x : ℕ × ℕ). x.1 ≤ x.0) (sym is) ((are_shares epoch index workers worker).empty high) in
        omega (arith, le, high)

module _ {G : Type 0} (signs : Signs G) (sizes_of : G → List ℕ) (job : Nest) (options : Options) (start : Cursor) (index : ℕ) where
  abbrev m : Setup Invoked Cursor Piece G
  m = machine signs job options

  abbrev blank : G
  blank = signs.nothing (sizes_in job)

  abbrev x : Epoch Invoked
  x = entered_at start start.at

  abbrev before : ℕ → ℕ
  before w = share_of m x index w

  abbrev hull_of : ℕ → G
  hull_of u = hull_in m (claims_due job) (words_due job) x index u

  -- the tasks of the first workers were gone through
  pub record Crosses (w : ℕ) (row : Row G) (course : Course) : Type 0 where
    pub wide : length row.signs.items ≡ options.workers
    pub even : IsEven sizes_of (sizes_in job) row
    pub hulls : (u : ℕ) → u < options.workers → slice_index_or row.signs.items u (signs.nothing (sizes_in job)) ≡ (if nat_lt u w then hull_of u else signs.nothing (sizes_in job))
    pub cursor : course.cursor ≡ turned (before w) start
    pub is_course : IsCourse job course
    pub scalars : AreTakenOver job.program course.cursor course.scalars

  module _ (some : 0 < options.workers) (i : Invocation) (there : start.at ≡ at.Inside i) (fresh : Fresh start.at) where
    inside : is_inside start.at ≡ true
    inside = ap is_inside there

    all_left : left_at start.at ≡ x.count
    all_left = by start.at fresh inside
      where
        by : (a : At) → Fresh a → is_inside a ≡ true → left_at a ≡ (entered_at start a).count
        by (at.Before next) fresh inside = refl
        by (at.Inside i) fresh inside = omega (arith, fresh)

    first_is : x.first ≡ start.next
    first_is = by start.at
      where
        by : (a : At) → (entered_at start a).first ≡ start.next
        by (at.Before next) = refl
        by (at.Inside i) = refl

    all_before : before options.workers ≡ x.count
    all_before = share_all (m.doall x.body) m.width index x.count some

    rises : (w : ℕ) → before w ≤ before (suc w)
    rises w = share_rises (m.doall x.body) m.width index x.count w (suc w) some (omega arith)

    few : (w : ℕ) → w < options.workers → before (suc w) ≤ x.count
    few w own = let le : before (suc w) ≤ before options.workers = share_rises (m.doall x.body) m.width index x.count (suc w) options.workers some (omega (arith, own)) in omega (arith, le, all_before)

    module _ (w : ℕ) (own : w < options.workers) (row : Row G) (course : Course) (c : Crosses w row course) (count : ℕ) (counts : count ≡ before (suc w) - before w) where
      next_is : course.cursor.next ≡ start.next + before w
      next_is = ap (λ (d : Cursor). d.next) c.cursor ∙ next_turned start i there (before w)

      pub left_enough : count ≤ left_at course.cursor.at
      left_enough =
          let l : left_at course.cursor.at ≡ x.count - before w = ap (λ (d : Cursor). left_at d.at) c.cursor ∙ left_turned start i there (before w) ∙ ap (λ n. n - before w) all_left in
          omega (arith, l, counts, rises w, few w own)

      pub next_ones : AreNext job start (left_at start.at) → AreNext job course.cursor count
      next_ones next j low =
          let at : start.next + (before w + j) ≡ course.cursor.next + j = omega (arith, next_is) in
          let same : turned (before w + j) start ≡ turned j course.cursor = sym (turned_more start (before w) j) ∙ ap (turned j) (sym c.cursor) in
          subst (λ (d : Cursor). iteration_at (nest_of job.program job.opening.words) (course.cursor.next + j) ≡ Some (what_of job.program (handed_at d d.at))) same
          (subst (λ k. iteration_at (nest_of job.program job.opening.words) k ≡ Some (what_of job.program (handed_at (turned (before w + j) start) (turned (before w + j) start).at))) at
          (next (before w + j) (omega (arith, low, counts, rises w, few w own, all_left))))

      pub blank_there : slice_index_or row.signs.items w (signs.nothing (sizes_in job)) ≡ signs.nothing (sizes_in job)
      blank_there = c.hulls w own ∙ ap (λ t. if t then hull_of w else blank) (le-ltb w w (omega arith))

      pub crosses_next : (sign : G) (later : Course) (row' : Row G) → row'.signs.items ≡ slice_set row.signs.items w sign → sign ≡ with_iterations m.kind (claims_due job) (words_due job) course.cursor.next count → sizes_of sign ≡ sizes_in job
          → later.cursor ≡ turned count course.cursor → IsCourse job later → AreTakenOver job.program later.cursor later.scalars → Crosses (w + 1) row' later
      crosses_next sign later row' put noted sizes gone is taken = record {
        wide = ap length put ∙ length-set row.signs.items w sign ∙ c.wide;
        even = subst (Each (λ (s : G). sizes_of s ≡ sizes_in job)) (sym put) (each_set (λ (s : G). sizes_of s ≡ sizes_in job) row.signs.items w sign c.even sizes);
        hulls = λ u low. ap (λ l. slice_index_or l u blank) put ∙ by u low (cases_order u w);
        cursor = gone ∙ ap (turned count) c.cursor ∙ turned_more start (before w) count ∙ ap (λ n. turned n start) (let e : before w + count ≡ before (suc w) = omega (arith, counts, rises w) in e) ∙ ap (λ n. turned (before n) start) (let one : suc w ≡ w + 1 = omega arith in one);
        is_course = is;
        scalars = taken;
      }
        where
          low_row : w < length row.signs.items
          low_row = omega (arith, own, c.wide)

          hull_is : sign ≡ hull_of w
          hull_is =
              let k : course.cursor.next ≡ x.first + before w = next_is ∙ ap (λ n. n + before w) (sym first_is) in
              let n : count ≡ x.first + before (suc w) - (x.first + before w) = omega (arith, counts, rises w) in
              noted ∙ (λ j. with_iterations m.kind (claims_due job) (words_due job) (k j) (n j))

          by : (u : ℕ) → u < options.workers → (u ≡ w) ⊎ ((u < w) ⊎ (w < u)) → slice_index_or (slice_set row.signs.items w sign) u blank ≡ (if nat_lt u (w + 1) then hull_of u else blank)
          by u low (inl same) = ap (λ k. slice_index_or (slice_set row.signs.items w sign) k blank) same ∙ get_or-set_same row.signs.items w sign blank low_row ∙ hull_is ∙ ap hull_of (sym same)
              ∙ sym (ap (λ t. if t then hull_of u else blank) (lt-ltb u (w + 1) (omega (arith, same))))
          by u low (inr (inl less)) = get_or-set_other row.signs.items w u sign blank (λ same. omega (arith, same, less)) ∙ c.hulls u low ∙ ap (λ t. if t then hull_of u else blank) (lt-ltb u w less ∙ sym (lt-ltb u (w + 1) (omega (arith, less))))
          by u low (inr (inr more)) = get_or-set_other row.signs.items w u sign blank (λ same. omega (arith, same, more)) ∙ c.hulls u low ∙ ap (λ t. if t then hull_of u else blank) (le-ltb u w (omega (arith, more)) ∙ sym (le-ltb u (w + 1) (omega (arith, more))))

    -- behind the last worker
    module _ (row : Row G) (course : Course) (c : Crosses options.workers row course) where
      turns_all : course.cursor ≡ turned x.count start
      turns_all = c.cursor ∙ ap (λ n. turned n start) all_before

      pub inside_last : is_inside course.cursor.at ≡ true
      inside_last = ap (λ (d : Cursor). is_inside d.at) turns_all ∙ inside_turned start i there x.count

      pub behind_last : behind_invocation course.cursor course.cursor.at ≡ behind_invocation start start.at
      behind_last = ap (λ (d : Cursor). behind_invocation d d.at) turns_all ∙ behind_turned start i there x.count (sym all_left)

      pub course_last : (later : Cursor) → IsCursorOf job.program later → later ≡ behind_invocation course.cursor course.cursor.at → IsCourse job (record course { cursor = later })
      course_last later own is = course_moved job course later c.is_course own (ap (λ (d : Cursor). d.next) (is ∙ behind_last) ∙ counted ∙ sym (ap (λ (d : Cursor). d.next) turns_all ∙ next_turned start i there x.count))
        where
          by : (a : At) → is_inside a ≡ true → Fresh a → (behind_invocation start a).next ≡ start.next + (entered_at start a).count
          by (at.Before next) inside fresh = absurd (let no_one : false ≡ true = inside in cc)
          by (at.Inside i) inside fresh = omega (arith, fresh)

          counted : (behind_invocation start start.at).next ≡ start.next + x.count
          counted = by start.at inside fresh
