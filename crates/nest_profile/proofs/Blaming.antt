-- The pairs that are blamed are those that are found in all segments. They are the same for each code and each cursor of a
-- program, and for each set distance.
use Rattle.std.proofs.Common.{◌≡◌, ◌↔◌, ℕ, ◌+◌, ◌≤◌, ◌<◌, Option, Some, None, List, refl, sym, ap, subst, arith}
use Rattle.nest_mean.specs.Nest.{Nest}
use Rattle.task_code.specs.Code.{Code}
use Rattle.sched_cursor.specs.Cursor.{Cursor}
use Rattle.sched_cursor.specs.Laws.{IsCursorOf, restarted}
use Rattle.progress_board.specs.declared.options.Options.{Options}
use Rattle.progress_board.specs.declared.options.Sign.{Sign}
use Rattle.progress_board.specs.declared.options.Sign.TheVariants as sign
use Rattle.spec_machine.specs.Facts.{Pair, Rollback}
use Rattle.spec_machine.specs.Machine.{Epoch}
use Rattle.spec_machine.specs.Segments.{IsBlamed}
use Rattle.spec_machine.specs.Table.{In}
use Rattle.spec_machine.specs.Theorems.{IsTrapOf}
use Rattle.spec_setup.specs.Signs.{Signs, exact_signs, range_signs}
use Rattle.spec_setup.specs.Setups.{Invoked, setup_of}
use Rattle.spec_core.specs.Engine.{Engine, IsOpened, Opens, setup_for, setup_in, nest_in, far_of}
use Rattle.spec_core.specs.Theorems.{claims_due, words_due, start_of, rollbacks_of, IsHistory, GivesUpForTrap, HistoriesGiveUpForTrap}
use Rattle.nest_profile.specs.Least.{IsLeastOf, AreBlamed, IsLeastBy, IsLeastFor, IsBelow, OneLeast, BelowLeastAreTraps}
use Rattle.nest_profile.specs.Walked.{no_code, all_segments, Found}
use Rattle.nest_profile.proofs.Alike.{blamed_same}
use Rattle.nest_profile.proofs.Cursors.{same_segments}
use Rattle.nest_profile.proofs.Found.{blamed_is_found, found_is_blamed}

least_same : (P Q : Pair → Type 0) → ((p : Pair) → P p ↔ Q p) → (best : Option ℕ) → IsLeastOf P best → IsLeastOf Q best
least_same P Q same None least = λ p has. least p ((same p).1 has)
least_same P Q same (Some d) least = ((least.0.0, (same least.0.0).0 least.0.1, least.0.2), λ p has. least.1 p ((same p).1 has))

-- there is one least distance
least_one : (P : Pair → Type 0) (a b : Option ℕ) → IsLeastOf P a → IsLeastOf P b → a ≡ b
least_one P None None none none' = refl
least_one P None (Some d) none least = absurd (none least.0.0 least.0.1)
least_one P (Some d) None least none = absurd (none least.0.0 least.0.1)
least_one P (Some d) (Some d') least least' =
    let one : least.0.0.early.epoch + d' ≤ least.0.0.late.epoch = least'.1 least.0.0 least.0.1 in
    let two : least'.0.0.early.epoch + d ≤ least'.0.0.late.epoch = least.1 least'.0.0 least'.0.1 in
    let same : d ≡ d' = omega (arith, one, two, least.0.2, least'.0.2) in
    ap Some same

module _ {G : Type 0} (signs : Signs G) (job : Nest) where
  blamed_by : (width room far near : ℕ) (code other : Code) (cursor cursor' : Cursor) → IsCursorOf job.program cursor → IsCursorOf job.program cursor' → (distance segment : ℕ) (p : Pair)
      → IsBlamed (setup_of job.program job.opening.words code signs width room far) (nest_in job) (restarted job.program cursor) (claims_due job) (words_due job) distance segment p
      → IsBlamed (setup_of job.program job.opening.words other signs width room near) (nest_in job) (restarted job.program cursor') (claims_due job) (words_due job) distance segment p
  blamed_by width room far near code other cursor cursor' own own' = blamed_same signs job.program job.opening.words width room code other far near (restarted job.program cursor) (restarted job.program cursor')
      (same_segments signs job.program job.opening.words width room code other far near cursor cursor' own own') (claims_due job) (words_due job)

  module _ (options : Options) where
    to_other : (code other : Code) (cursor cursor' : Cursor) → IsCursorOf job.program cursor → IsCursorOf job.program cursor' → (p : Pair) → AreBlamed signs job options code cursor p → AreBlamed signs job options other cursor' p
    to_other code other cursor cursor' own own' p (distance, segment, blamed) = (distance, segment, blamed_by options.workers options.segment (far_of options) (far_of options) code other cursor cursor' own own' distance segment p blamed)

    pub least_blamed : (cursor : Cursor) → IsCursorOf job.program cursor → (looked : List (List (Epoch Invoked))) (best : Option ℕ)
        → ((p : Pair) → Found signs job options (restarted job.program cursor) (all_segments signs job options (restarted job.program cursor)) p ↔ Found signs job options (restarted job.program cursor) looked p)
        → IsLeastOf (Found signs job options (restarted job.program cursor) looked) best → IsLeastBy signs job options best
    least_blamed cursor own looked best whole least = record { some_cursor = (cursor, own); least = λ code other own'. least_same (Found signs job options start looked) (AreBlamed signs job options code other) (λ p. (to code other own' p, from code other own' p)) best least }
      where
        start : Cursor
        start = restarted job.program cursor

        to : (code : Code) (other : Cursor) → IsCursorOf job.program other → (p : Pair) → Found signs job options (restarted job.program cursor) looked p → AreBlamed signs job options code other p
        to code other own' p found = to_other no_code code cursor other own own' p (found_is_blamed (setup_for signs job no_code options) (nest_in job) (restarted job.program cursor) (claims_due job) (words_due job) p ((whole p).1 found))

        from : (code : Code) (other : Cursor) → IsCursorOf job.program other → (p : Pair) → AreBlamed signs job options code other p → Found signs job options (restarted job.program cursor) looked p
        from code other own' p blamed = (whole p).0 (blamed_is_found (setup_for signs job no_code options) (nest_in job) (restarted job.program cursor) (claims_due job) (words_due job) p (to_other code no_code other cursor own' own p blamed))

    pub least_unique : (a b : Option ℕ) → IsLeastBy signs job options a → IsLeastBy signs job options b → a ≡ b
    least_unique a b one other =
        let cursor = one.some_cursor in
        least_one (AreBlamed signs job options no_code cursor.0) a b (one.least no_code cursor.0 cursor.1) (other.least no_code cursor.0 cursor.1)

pub one_least : OneLeast
one_least job options = by options.sign
  where
    by : (s : Sign) (answer other : Option ℕ) → IsLeastFor s job options answer → IsLeastFor s job options other → answer ≡ other
    by sign.Exact = least_unique exact_signs job options
    by sign.Range = least_unique range_signs job options

-- at a set distance below the least
module _ {G : Type 0} (signs : Signs G) (first : Engine G) (history : List ℕ) where
  abbrev BlamedAt : (code : Code) (cursor : Cursor) (distance segment : ℕ) (p : Pair) → (width room far : ℕ) → Type 0
  BlamedAt code cursor distance segment p width room far = IsBlamed (setup_of first.job.program first.job.opening.words code signs width room far) (nest_in first.job) (restarted first.job.program cursor) (claims_due first.job) (words_due first.job) distance segment p

  further : (far : ℕ) (answer : Option ℕ) (Has : Pair → Type 0) → IsBelow far answer → IsLeastOf Has answer → (p : Pair) → Has p → p.early.epoch + far < p.late.epoch
  further far None Has below least p has = absurd (least p has)
  further far (Some d) Has below least p has = let at_least : p.early.epoch + d ≤ p.late.epoch = least.1 p has in omega (arith, below, at_least)

  all_further : IsOpened signs first → (asked : Options) (answer : Option ℕ) → asked.workers ≡ first.options.workers → asked.segment ≡ first.options.segment → IsLeastBy signs first.job asked answer → IsBelow (far_of first.options) answer
      → (distance segment : ℕ) (p : Pair) → IsBlamed (setup_in signs first) (nest_in first.job) (start_of first) (claims_due first.job) (words_due first.job) distance segment p → p.early.epoch + far_of first.options < p.late.epoch
  all_further opened asked answer workers room least below distance segment p blamed =
      let own = opened.cursor_is in
      let same : BlamedAt first.code first.state.cursor distance segment p first.options.workers first.options.segment (far_of asked) =
      blamed_by signs first.job first.options.workers first.options.segment (far_of first.options) (far_of asked) first.code first.code first.state.cursor first.state.cursor own own distance segment p blamed in
      let there : BlamedAt first.code first.state.cursor distance segment p asked.workers asked.segment (far_of asked) =
      subst (λ w. BlamedAt first.code first.state.cursor distance segment p w asked.segment (far_of asked)) (sym workers) (subst (λ r. BlamedAt first.code first.state.cursor distance segment p first.options.workers r (far_of asked)) (sym room) same) in
      further (far_of first.options) answer (AreBlamed signs first.job asked first.code first.state.cursor) below (least.least first.code first.state.cursor own) p (distance, segment, there)

  abbrev Below : Nest → Options → Type 0
  Below job options = (asked : Options) (answer : Option ℕ) → asked.workers ≡ options.workers → asked.segment ≡ options.segment → IsLeastBy signs job asked answer → IsBelow (far_of options) answer → GivesUpForTrap signs job options first history
      → (rollback : Rollback) → In rollback (rollbacks_of signs first history) → IsTrapOf (setup_in signs first) (nest_in job) (start_of first) rollback.segment rollback.cause

  below_least : (job : Nest) (options : Options) → Opens signs job options first → Below job options
  below_least job options opens = subst (λ j. Below j options) opens.same_job (subst (λ o. Below first.job o) opens.same_options (λ asked answer workers room least below gives. gives.traps (all_further opens.opened asked answer workers room least below)))

pub below_least_traps : (S : Type 0) → HistoriesGiveUpForTrap S → BelowLeastAreTraps S
below_least_traps S give_up signs holds job asked options answer first history e workers room least below is = below_least signs first history job options is.opens asked answer workers room least below (give_up signs holds job options first history e is)
