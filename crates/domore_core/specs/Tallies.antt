-- The counts of a run as they are kept: as a report, and the number of the first iteration of the invocation.
use Rattle.std.specs.Prelude.{◌≡◌, ℕ, suc, ◌+◌, if◌then◌else◌, min, nat_lt, Option, Some, None, List, [], ◌∷◌, ◌++◌, take, length}
use Rattle.progress_board.specs.declared.options.Options.{Options}
use Rattle.progress_board.specs.declared.facts.Facts.{Facts as Report}
use Rattle.progress_board.specs.declared.facts.Wait.{Wait as Place}
use Rattle.domore_machine.specs.Waits.{Wait}
use Rattle.domore_machine.specs.Facts.{Facts, WaitLine, wait_line}
use Rattle.domore_core.specs.Reports.{report_of}

-- the facts of a run, for these options
pub record Tallied : Type 0 where
  pub options : Options
  pub facts : Facts

abbrev pub listed_in : List (Option Place) → List WaitLine
listed_in [] = []
listed_in (None ∷ places) = listed_in places
listed_in (Some wait ∷ places) = record { number = wait.number; on = wait.on; crossing = wait.crossing } ∷ listed_in places

abbrev pub tallied : Report → ℕ → Tallied
tallied report first = record {
  options = report.options;
  facts = record { invocations = report.invocations; iterations = report.iterations; drains = report.drains; waits = report.waits; crossing = report.crossing; first_waits = listed_in report.first_waits; first = first };
}

-- the report is that of these facts, which list as many waits as there are, 64 at most
pub record IsTallied (report : Report) (tally : Tallied) : Type 0 where
  pub is : report ≡ report_of tally.options tally.facts
  pub count : length tally.facts.first_waits ≡ min tally.facts.waits 64

-- the facts with one wait more of an iteration by its number, and with some
abbrev pub with_wait : ℕ → Facts → Wait → Facts
with_wait number facts w = record facts {
  waits = suc facts.waits;
  crossing = facts.crossing + (if nat_lt w.number facts.first then 1 else 0);
  first_waits = take 64 (facts.first_waits ++ wait_line number facts.first w ∷ []);
}

abbrev pub with_waits : ℕ → Facts → List Wait → Facts
with_waits number facts [] = facts
with_waits number facts (w ∷ waits) = with_waits number (with_wait number facts w) waits
