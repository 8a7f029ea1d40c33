-- The report of a run, from its facts. An array is named by the number of its declaration among arrays.
use Rattle.std.specs.Prelude.{ℕ, ℤ, Bool, true, false, Option, Some, None, List, [], ◌∷◌, ◌++◌, codes, decimal, slice_index_or}
use Rattle.std.specs.Fmt.{signed_decimal}
use Rattle.std.specs.List.{flat_map}
use Rattle.nest_syntax.specs.declared.names.TaskName.{TaskName}
use Rattle.nest_syntax.specs.declared.tree.Program.{Program}
use Rattle.nest_syntax.specs.Arrays.{arrays_of, array_names}
use Rattle.progress_board.specs.declared.facts.Facts.{Facts}
use Rattle.progress_board.specs.declared.facts.Wait.{Wait}
use Rattle.progress_board.specs.declared.facts.Rollback.{Rollback}
use Rattle.progress_board.specs.declared.facts.RollCause.{RollCause}
use Rattle.progress_board.specs.declared.facts.RollCause.TheVariants.{Overlap, Trap}
use Rattle.progress_board.specs.declared.options.Options.{Options}
use Rattle.progress_board.specs.declared.options.Engine.{Engine}
use Rattle.progress_board.specs.declared.options.Engine.TheVariants.{Domore, Speccross, Barrier}
use Rattle.progress_board.specs.declared.options.Sign.{Sign}
use Rattle.progress_board.specs.declared.options.Sign.TheVariants.{Range, Exact}

-- a text, and a number behind it
abbrev pub number_text : List ℕ → ℕ → List ℕ
number_text what n = what ++ decimal n

-- a line that tells a count
abbrev pub count_line : List ℕ → ℕ → List ℕ
count_line what n = number_text what n ++ 10 ∷ []

-- which engine ran, and the options that it has
abbrev pub sign_text : Sign → List ℕ
sign_text Range = codes "range"
sign_text Exact = codes "exact"

abbrev pub speccross_line : Options → List ℕ
speccross_line options = number_text (codes "engine speccross workers ") options.workers ++ codes " sign " ++ sign_text options.sign ++ number_text (codes " segment ") options.segment ++ count_line (codes " distance ") options.distance

abbrev pub barrier_line : Options → List ℕ
barrier_line options = number_text (codes "engine barrier workers ") options.workers ++ count_line (codes " segment ") options.segment

abbrev pub engine_line : Engine → Options → List ℕ
engine_line Domore options = count_line (codes "engine domore workers ") options.workers
engine_line Speccross options = speccross_line options
engine_line Barrier options = barrier_line options

-- the counts of each engine, and then its own
abbrev pub shared_counts : Facts → List ℕ
shared_counts facts = count_line (codes "invocations ") facts.invocations ++ count_line (codes "iterations ") facts.iterations ++ count_line (codes "drains ") facts.drains

abbrev pub wait_counts : Facts → List ℕ
wait_counts facts = number_text (codes "waits ") facts.waits ++ count_line (codes " crossing ") facts.crossing

abbrev pub segment_counts : Facts → List ℕ
segment_counts facts = count_line (codes "segments ") facts.segments ++ count_line (codes "checks ") facts.checks ++ count_line (codes "rollbacks ") facts.rollbacks

abbrev pub own_counts : Engine → Facts → List ℕ
own_counts Domore facts = wait_counts facts
own_counts Speccross facts = segment_counts facts
own_counts Barrier facts = segment_counts facts

abbrev pub counts_text : Facts → List ℕ
counts_text facts = engine_line facts.options.engine facts.options ++ shared_counts facts ++ own_counts facts.options.engine facts

-- `wait K on J`, and whether the two belong to different invocations
abbrev pub crossing_text : Bool → List ℕ
crossing_text true = codes " crossing\n"
crossing_text false = codes "\n"

abbrev pub wait_line : Option Wait → List ℕ
wait_line None = []
wait_line (Some w) = number_text (codes "wait ") w.number ++ number_text (codes " on ") w.on ++ crossing_text w.crossing

-- a rollback of a segment: by two tasks, the early one first, whose signatures overlap in an array; or by a task that trapped
abbrev pub array_name : Program → ℕ → List ℕ
array_name program array = slice_index_or program.names (slice_index_or (array_names (arrays_of program.decls)) array 0) []

abbrev pub overlap_text : TaskName → TaskName → List ℕ → List ℕ
overlap_text early late array = codes " overlap " ++ array ++ number_text (codes " epochs ") early.epoch ++ number_text (codes " ") late.epoch ++ number_text (codes " workers ") early.worker ++ count_line (codes " ") late.worker

abbrev pub trapped_text : TaskName → List ℕ
trapped_text task = number_text (codes " trap epoch ") task.epoch ++ count_line (codes " worker ") task.worker

abbrev pub cause_text : Program → RollCause → List ℕ
cause_text program (Overlap early late array) = overlap_text early late (array_name program array)
cause_text program (Trap task) = trapped_text task

abbrev pub rollback_text : Program → Rollback → List ℕ
rollback_text program r = number_text (codes "rollback segment ") r.segment ++ cause_text program r.cause

abbrev pub rollback_line : Program → Option Rollback → List ℕ
rollback_line program None = []
rollback_line program (Some r) = rollback_text program r

abbrev pub own_lines : Program → Engine → Facts → List ℕ
own_lines program Domore facts = flat_map wait_line facts.first_waits
own_lines program Speccross facts = flat_map (rollback_line program) facts.first_rollbacks
own_lines program Barrier facts = flat_map (rollback_line program) facts.first_rollbacks

abbrev pub report_text : Program → Facts → List ℕ
report_text program facts = counts_text facts ++ own_lines program facts.options.engine facts

-- a generated run in short: what it was generated from, the counts, and the sum of the final words
abbrev pub summary_text : ℕ → ℕ → Facts → ℤ → List ℕ
summary_text seed size facts sum = number_text (codes "seed ") seed ++ count_line (codes " size ") size ++ counts_text facts ++ codes "sum " ++ signed_decimal sum ++ 10 ∷ []
