-- The passed pairs: all unordered ones up to the last that was passed.
use Rattle.std.specs.Prelude.{ℕ, Bool, ◌&&◌, nat_le, Option, List, slice_index_or}
use Rattle.std.specs.List.{filter}
use Rattle.epoch_plan.specs.declared.tasks.Seen.{Seen}
use Rattle.spec_checker.specs.Order.{Pair as Names, is_passed}
use Rattle.spec_machine.specs.Facts.{Pair}
use Rattle.spec_machine.specs.Machine.{pairs}
use Rattle.spec_core.specs.Hands.{seen_at}
use Rattle.spec_core.specs.Reports.{task_in, name_of}

abbrev pub names_of : Pair → Names
names_of p = (name_of p.early, name_of p.late)

abbrev pub pair_in : Names → Pair
pair_in names = record { early = task_in names.0; late = task_in names.1 }

-- whether a pair is unordered, by what stands of its late task
abbrev pub unordered_in : ℕ → List Seen → Pair → Bool
unordered_in width seen p = nat_le (slice_index_or (seen_at width seen p.late.epoch p.late.worker) p.early.worker 0) p.early.epoch

abbrev pub passed_in : (width epochs : ℕ) → List Seen → Option Names → List Pair
passed_in width epochs seen last = filter (λ (p : Pair). unordered_in width seen p && is_passed last (names_of p)) (pairs width epochs)
