-- No caller needs this. What a walk through the course of a job has found.
use Rattle.std.specs.Prelude.{◌≡◌, ◌↔◌, ℕ, ◌<◌, ◌≤◌, false, Option, IsSome, List, [], ◌++◌, length, slice_index_or}
use Rattle.nest_syntax.specs.Arrays.{arrays_of, sizes_of}
use Rattle.nest_syntax.specs.Shape.{bodies_of}
use Rattle.nest_syntax.specs.Outcome.{Event as Passed}
use Rattle.nest_partition.specs.Split.{IsSplitOf}
use Rattle.nest_mean.specs.Nest.{Nest}
use Rattle.settle_law.specs.Courses.{reached, events}
use Rattle.task_code.specs.Code.{Code}
use Rattle.task_frame.specs.declared.piece.Piece.{Piece}
use Rattle.sched_cursor.specs.declared.node.At.{At}
use Rattle.sched_cursor.specs.declared.node.At.TheVariants as at
use Rattle.sched_cursor.specs.Cursor.{Cursor}
use Rattle.progress_board.specs.declared.options.Options.{Options}
use Rattle.spec_machine.specs.Facts.{Pair}
use Rattle.spec_machine.specs.Machine.{Setup, Epoch}
use Rattle.spec_machine.specs.Invocations.{Outside}
use Rattle.spec_machine.specs.Segments.{Coming, segments_of, coming, cut_off, opens_at, segments}
use Rattle.spec_setup.specs.Signs.{Signs}
use Rattle.spec_setup.specs.Setups.{Invoked, what_in, is_do_all, no_invocation, invoked_at}
use Rattle.spec_setup.proofs.Follows.{Good}
use Rattle.spec_machine.proofs.Courses.{BehindNow}
use Rattle.spec_core.specs.Engine.{setup_for, nest_in}
use Rattle.spec_core.specs.Theorems.{claims_due, words_due}
use Rattle.nest_profile.specs.declared.plan.Plan.{Plan}
use Rattle.nest_profile.specs.declared.row.Row.{Row}
use Rattle.nest_profile.specs.declared.walk.Walk.{Walk}
use Rattle.nest_profile.specs.Least.{IsLeastOf}
use Rattle.nest_profile.specs.Found.{FoundIn}
use Rattle.nest_profile.specs.Hulls.{IsTable, HoldHulls}
use Rattle.nest_profile.specs.Iterations.{IsCourse}

-- The setup of a job, of whose code nothing is asked here.
abbrev pub no_code : Code
no_code = record { instructions = []; entries = [] }

abbrev pub setup_by : {G : Type 0} → Signs G → Nest → Options → Setup Invoked Cursor Piece G
setup_by signs job options = setup_for signs job no_code options

abbrev pub sizes_in : Nest → List ℕ
sizes_in job = sizes_of (arrays_of job.program.decls)

-- what is found of a job before the walk
pub record IsPlan (job : Nest) (plan : Plan) : Type 0 where
  pub few_workers : plan.options.workers ≤ 8
  pub some_worker : 0 < plan.options.workers
  pub some_epoch : 0 < plan.options.segment
  pub few_epochs : plan.options.segment ≤ 64
  pub split_is : IsSplitOf job.program plan.split
  pub many_shared : length plan.shared.items ≡ length (bodies_of job.program)
  pub shared : (b : Invoked) → b.body < length plan.shared.items → slice_index_or plan.shared.items b.body false ≡ is_do_all job.program b

-- the epoch of the invocation that a cursor has entered
abbrev pub entered_at : Cursor → At → Epoch Invoked
entered_at c (at.Before next) = record { first = c.next; count = 0; body = no_invocation }
entered_at c (at.Inside i) = record { first = c.next; count = i.turning.trips; body = invoked_at c i }

module _ {G : Type 0} (signs : Signs G) (job : Nest) (options : Options) where
  abbrev pub machine : Setup Invoked Cursor Piece G
  machine = setup_by signs job options

  -- what comes from a cursor on
  abbrev pub comes : Cursor → List (Coming Invoked)
  comes c = coming (setup_by signs job options) (nest_in job) (length (events (nest_in job))) c c.next

  module _ (start : Cursor) where
    abbrev pub all_segments : List (List (Epoch Invoked))
    all_segments = segments (setup_by signs job options) (nest_in job) start

    abbrev pub Found : List (List (Epoch Invoked)) → Pair → Type 0
    Found = FoundIn (setup_by signs job options) (nest_in job) start (claims_due job) (words_due job)

    -- Where a cursor stands: segments that were looked at, those epochs that are gathered, and what comes are the segments
    -- of the job. Textual order gets to the present one.
    pub record Stands (c : Cursor) (looked : List (List (Epoch Invoked))) (gathered : List (Epoch Invoked)) : Type 0 where
      pub passed : List Passed
      pub good : Good job.program job.opening.words c
      pub behind : BehindNow (setup_by signs job options) (nest_in job) (what_in job.program) passed c.next (Outside c)
      pub opens : IsSome (reached (nest_in job) (opens_at gathered c.next))
      pub whole : looked ++ segments_of options.segment gathered (comes c) ≡ all_segments

    -- What was found in the segments that were looked at, and the hulls of the epochs that are gathered.
    pub record HasLooked (sizes_of : G → List ℕ) (rows : List (Row G)) (count : ℕ) (best : Option ℕ) (looked : List (List (Epoch Invoked))) (gathered : List (Epoch Invoked)) : Type 0 where
      pub table : IsTable sizes_of (sizes_in job) options.segment options.workers rows
      pub hulls : HoldHulls (setup_by signs job options) (nest_in job) start (claims_due job) (words_due job) rows gathered
      pub counts : count ≡ length gathered
      pub few : length gathered ≤ options.segment
      pub least : IsLeastOf (Found looked) best

    pub record StandsAt (sizes_of : G → List ℕ) (walk : Walk G) : Type 0 where
      pub looked : List (List (Epoch Invoked))
      pub gathered : List (Epoch Invoked)
      pub course : IsCourse job walk.course
      pub stands : Stands walk.course.cursor looked gathered
      pub has_looked : HasLooked sizes_of walk.rows.items walk.count walk.best looked gathered

    -- where it ended: with what is gathered, all was looked at that textual order reaches
    pub record HasEnded (sizes_of : G → List ℕ) (walk : Walk G) : Type 0 where
      pub looked : List (List (Epoch Invoked))
      pub gathered : List (Epoch Invoked)
      pub reaches : 0 < length gathered → IsSome (reached (nest_in job) (opens_at gathered 0))
      pub has_looked : HasLooked sizes_of walk.rows.items walk.count walk.best looked gathered
      pub whole : (p : Pair) → Found all_segments p ↔ Found (looked ++ cut_off gathered) p
