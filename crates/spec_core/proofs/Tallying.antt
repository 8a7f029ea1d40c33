-- The list of a tally.
use Rattle.std.proofs.Common.{◌≡◌, ℕ, suc, ◌+◌, Option, Some, List, [], ◌∷◌, ◌++◌, length, take, set, refl, sym, ap, ◌∙◌, arith}
use Rattle.progress_board.specs.declared.facts.Facts.{Facts as Report}
use Rattle.progress_board.specs.declared.facts.Rollback.{Rollback as Told}
use Rattle.progress_board.specs.declared.facts.RollCause.{RollCause}
use Rattle.progress_board.specs.declared.facts.RollCause.TheVariants as causes
use Rattle.progress_board.proofs.Places.{counted_more, placed_more, listed_places}
use Rattle.spec_machine.specs.Facts.{Rollback, Abort, Overlaps, Fails, restored}
use Rattle.spec_core.specs.Reports.{abort_in, cause_of, rollback_of, places_of, report_of}
use Rattle.spec_core.specs.Tallies.{Tallied, listed_in, tallied, IsTallied}

-- causes are told as they are kept
pub cause_back : (cause : RollCause) → cause_of (abort_in cause) ≡ cause
cause_back (causes.Overlap early late array) = refl
cause_back (causes.Trap task) = refl

pub abort_back : (abort : Abort) → abort_in (cause_of abort) ≡ abort
abort_back (Overlaps p array) = refl
abort_back (Fails t) = refl

module _ (report : Report) (cause : RollCause) (kept : IsTallied report (tallied report)) where
  abbrev xs : List Rollback
  xs = listed_in report.first_rollbacks

  abbrev one : Rollback
  one = record { segment = report.segments; cause = abort_in cause }

  abbrev pub after : Report
  after = record report { rollbacks = report.rollbacks + 1; first_rollbacks = set report.first_rollbacks report.rollbacks (Some (record { segment = report.segments; cause = cause })) }

  places-after : after.first_rollbacks ≡ places_of (take 64 (xs ++ one ∷ []))
  places-after =
      ap (λ (c : RollCause). set report.first_rollbacks report.rollbacks (let r : Option Told = Some (record { segment = report.segments; cause = c }) in r)) (sym (cause_back cause))
      ∙ ap (λ (ps : List (Option Told)). set ps report.rollbacks (Some (rollback_of one))) (ap (λ (r : Report). r.first_rollbacks) kept.is) ∙ placed_more rollback_of xs report.rollbacks one kept.count

  listed-after : listed_in after.first_rollbacks ≡ take 64 (xs ++ one ∷ [])
  listed-after = ap listed_in places-after ∙ listed_places rollback_of listed_in refl (λ ps. refl) (λ r ps. λ i. record { segment = r.segment; cause = abort_back r.cause i } ∷ listed_in ps) (take 64 (xs ++ one ∷ []))

  pub restore_kept : IsTallied after (tallied after)
  restore_kept = record {
    is = ap (λ (r : Report). let s : Report = record r { rollbacks = report.rollbacks + 1; first_rollbacks = after.first_rollbacks } in s) kept.is
        ∙ ap (λ (ps : List (Option Told)). let s : Report = record (report_of report.options (tallied report).facts) { rollbacks = report.rollbacks + 1; first_rollbacks = ps } in s) (places-after ∙ ap places_of (sym listed-after));
    count = ap length listed-after ∙ counted_more xs report.rollbacks one kept.count;
  }

  pub restore_is : tallied after ≡ record (tallied report) { facts = restored (abort_in cause) (tallied report).facts }
  restore_is =
      let more : report.rollbacks + 1 ≡ suc report.rollbacks = omega arith in
      ap (λ (n : ℕ). let t : Tallied = record (tallied after) { facts = record (tallied after).facts { rollbacks = n } } in t) more
      ∙ ap (λ (l : List Rollback). let t : Tallied = record (tallied after) { facts = record (tallied after).facts { rollbacks = suc report.rollbacks; listed = l } } in t) listed-after
