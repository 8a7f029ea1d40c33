-- The tasks of open epochs, as they are planned and as the abstract machine has them.
use Rattle.std.proofs.Common.{◌≡◌, ℕ, zero, suc, ◌+◌, ◌-◌, ◌<◌, Bool, true, false, ◌&&◌, nat_lt, if◌then◌else◌, Some, None, List, [], ◌∷◌, length, slice_index_or, refl, sym, ap, ◌∙◌, arith}
use Rattle.std.proofs.lemmas.Bool.{ltb-true}
use Rattle.nest_syntax.specs.Among.{Each}
use Rattle.task_code.specs.Code.{Code}
use Rattle.task_frame.specs.declared.piece.Piece.{Piece}
use Rattle.nest_setup.specs.Pieces.{opening_piece}
use Rattle.epoch_plan.specs.declared.blocks.Epoch.{Epoch as Planned}
use Rattle.sched_cursor.specs.Cursor.{Cursor}
use Rattle.spec_machine.specs.Machine.{Setup, Epoch, Empty, Running, share, from, to, piece_at, first_hand, has_below}
use Rattle.spec_setup.specs.Setups.{Invoked, handed, is_do_all}
use Rattle.spec_setup.specs.Signs.{Signs}
use Rattle.spec_core.specs.declared.plan.Plan.{Plan}
use Rattle.spec_core.specs.Blocks.{planned_at, invocation_in, epoch_in, epochs_in, begins, block_in, starts_below, has_below_in, first_in}
use Rattle.spec_core.specs.Tables.{setup_by, IsEpochBy}

pub many_epochs : (xs : List Planned) → length (epochs_in xs) ≡ length xs
many_epochs [] = refl
many_epochs (x ∷ xs) = ap suc (many_epochs xs)

pub epoch_there : (xs : List Planned) (e : ℕ) (d : Epoch Invoked) → e < length xs → slice_index_or (epochs_in xs) e d ≡ epoch_in (planned_at xs e)
epoch_there [] e d lt = absurd (omega arith)
epoch_there (x ∷ xs) zero d lt = refl
epoch_there (x ∷ xs) (suc e) d lt = epoch_there xs e d (omega arith)

pub each_at : (P : Planned → Type 0) (xs : List Planned) (e : ℕ) → Each P xs → e < length xs → P (planned_at xs e)
each_at P [] e each lt = absurd (omega arith)
each_at P (x ∷ xs) zero each lt = each.0
each_at P (x ∷ xs) (suc e) each lt = each_at P xs e each.1 (omega arith)

starts_by : (t : Bool) (a b n : ℕ) → starts_below (if t then Some (a, b) else None) n ≡ (t && nat_lt a n)
starts_by true a b n = refl
starts_by false a b n = refl

first_by : (code : Code) (x : Planned) (t : Bool) (a b : ℕ) → first_in code x (if t then Some (a, b) else None) ≡ (if t then Running a (opening_piece code (handed (invocation_in x) (a - x.first))) else Empty)
first_by code x true a b = refl
first_by code x false a b = refl

module _ {G : Type 0} (s : Signs G) (plan : Plan) (xs : List Planned) (each : Each (IsEpochBy plan) xs) (e : ℕ) (there : e < length xs) where
  abbrev m : Setup Invoked Cursor Piece G
  m = setup_by s plan

  abbrev x : Planned
  x = planned_at xs e

  abbrev workers : ℕ
  workers = plan.options.workers

  pub from_is : (u : ℕ) → from m (epochs_in xs) e u ≡ begins x workers e u
  from_is u = ap (λ (y : Epoch Invoked). y.first + share (is_do_all plan.job.program y.body) workers e y.count u) (epoch_there xs e _ there)
      ∙ ap (λ b. x.first + share b workers e x.trips u) (sym (each_at (IsEpochBy plan) xs e each there).all)

  pub first_is : (u : ℕ) → first_in plan.code x (block_in x workers e u) ≡ first_hand m (epochs_in xs) e u
  first_is u =
      first_by plan.code x (nat_lt (begins x workers e u) (begins x workers e (suc u))) (begins x workers e u) (begins x workers e (suc u))
      ∙ ap (λ (y : Epoch Invoked). if nat_lt (begins x workers e u) (begins x workers e (suc u)) then Running (begins x workers e u) (opening_piece plan.code (handed y.body (begins x workers e u - y.first))) else Empty) (sym (epoch_there xs e _ there))
      ∙ sym (λ i. if nat_lt (from_is u i) (from_is (suc u) i) then Running (from_is u i) (piece_at m (epochs_in xs) e (from_is u i)) else Empty)

pub has_below_is : {G : Type 0} (s : Signs G) (plan : Plan) (xs : List Planned) → Each (IsEpochBy plan) xs → (e u n : ℕ) → has_below_in plan.options.workers xs e u n ≡ has_below (setup_by s plan) (epochs_in xs) e u n
has_below_is s plan xs each e u n = by (nat_lt e (length xs)) refl ∙ ap (λ k. nat_lt e k && (nat_lt (from (setup_by s plan) (epochs_in xs) e u) (to (setup_by s plan) (epochs_in xs) e u) && nat_lt (from (setup_by s plan) (epochs_in xs) e u) n)) (sym (many_epochs xs))
  where
    by : (t : Bool) → nat_lt e (length xs) ≡ t → (nat_lt e (length xs) && starts_below (block_in (planned_at xs e) plan.options.workers e u) n)
        ≡ (nat_lt e (length xs) && (nat_lt (from (setup_by s plan) (epochs_in xs) e u) (to (setup_by s plan) (epochs_in xs) e u) && nat_lt (from (setup_by s plan) (epochs_in xs) e u) n))
    by true is =
        let there : e < length xs = ltb-true e (length xs) is in
        let x : Planned = planned_at xs e in
        let a = from_is s plan xs each e there u in
        let b = from_is s plan xs each e there (suc u) in
        ap (λ t. nat_lt e (length xs) && t) (starts_by (nat_lt (begins x plan.options.workers e u) (begins x plan.options.workers e (suc u))) (begins x plan.options.workers e u) (begins x plan.options.workers e (suc u)) n
        ∙ sym (λ i. nat_lt (a i) (b i) && nat_lt (a i) n))
    by false is = ap (λ t. t && starts_below (block_in (planned_at xs e) plan.options.workers e u) n) is
        ∙ sym (ap (λ t. t && (nat_lt (from (setup_by s plan) (epochs_in xs) e u) (to (setup_by s plan) (epochs_in xs) e u) && nat_lt (from (setup_by s plan) (epochs_in xs) e u) n)) is)
