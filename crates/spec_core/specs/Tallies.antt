-- The counts of a run as they are kept: as a report.
use Rattle.std.specs.Prelude.{◌≡◌, min, Option, Some, None, List, [], ◌∷◌, length}
use Rattle.progress_board.specs.declared.options.Options.{Options}
use Rattle.progress_board.specs.declared.facts.Facts.{Facts as Report}
use Rattle.progress_board.specs.declared.facts.Rollback.{Rollback as Told}
use Rattle.spec_machine.specs.Facts.{Facts, Rollback}
use Rattle.spec_core.specs.Reports.{abort_in, report_of}

-- the facts of a run, for these options
pub record Tallied : Type 0 where
  pub options : Options
  pub facts : Facts

abbrev pub listed_in : List (Option Told) → List Rollback
listed_in [] = []
listed_in (None ∷ places) = listed_in places
listed_in (Some r ∷ places) = record { segment = r.segment; cause = abort_in r.cause } ∷ listed_in places

abbrev pub tallied : Report → Tallied
tallied report = record {
  options = report.options;
  facts = record { invocations = report.invocations; iterations = report.iterations; drains = report.drains; segments = report.segments; checks = report.checks; rollbacks = report.rollbacks; listed = listed_in report.first_rollbacks };
}

-- the report is that of these facts, which list as many rollbacks as there are, 64 at most
pub record IsTallied (report : Report) (tally : Tallied) : Type 0 where
  pub is : report ≡ report_of tally.options tally.facts
  pub count : length tally.facts.listed ≡ min tally.facts.rollbacks 64
