-- A legal state of the engine can be gone on with, and a step leaves a legal one.
use Rattle.std.proofs.Common.{◌≡◌, ℕ, Some, List, sym, ap, subst}
use Rattle.std.specs.Option.{option_map}
use Rattle.nest_syntax.specs.Arrays.{arrays_of, sizes_of}
use Rattle.progress_board.proofs.Runs.{reached_step}
use Rattle.dep_graph.proofs.Apart.{do_all_is_apart}
use Rattle.spec_machine.specs.Machine as machine
use Rattle.spec_setup.specs.Signs.{Signs, HoldNotes}
use Rattle.spec_setup.specs.Ahead.{GoesOn}
use Rattle.spec_setup.proofs.Going.{states_go}
use Rattle.spec_core.specs.declared.plan.Plan.{Plan}
use Rattle.spec_core.specs.declared.table.Table.{Table}
use Rattle.spec_core.specs.Engine.{Engine, Stand, setup_in, far_of, step, IsLegalEngine}
use Rattle.spec_core.specs.Tables.{state_of, setup_by, IsSound}
use Rattle.spec_core.specs.Kept.{engine_of, IsKept}
use Rattle.spec_core.specs.Laws.{came_by, prepared}

module _ {G : Type 0} (signs : Signs G) where
  abbrev Goes : Engine G → Type 0
  Goes e = GoesOn (setup_in signs e) (sizes_of (arrays_of e.job.program.decls)) e.state

  pub legal_goes_on : HoldNotes signs → (e : Engine G) → IsLegalEngine signs e → Goes e
  legal_goes_on holds e legal =
      let by = came_by signs e legal in
      let first = by.first in
      subst Goes (sym by.new)
      (states_go do_all_is_apart first.job.program first.job.opening.words first.code first.state.cursor signs first.options.workers first.options.segment (far_of first.options) (prepared signs holds first by.opened by.runs by.allowed)
      by.allowed.few_workers by.allowed.few_invocations by.opened.inside by.history by.state by.leads)

  pub kept_step : {sizes_in : G → List ℕ} (plan : Plan) (old new : Table G) (actor : ℕ) → IsKept signs sizes_in plan old → machine.step (setup_by signs plan) (state_of old) actor ≡ Some (state_of new) → IsSound sizes_in plan new → IsKept signs sizes_in plan new
  kept_step plan old new actor kept stepped sound = record {
    legal = record {
      runs = kept.legal.runs;
      allowed = kept.legal.allowed;
      first = kept.legal.first;
      opened = kept.legal.opened;
      reached = reached_step (step signs) kept.legal.first (engine_of plan old) (engine_of plan new) actor kept.legal.reached (ap (λ o. option_map (λ (s : Stand G). let g : Engine G = record (engine_of plan old) { state = s } in g) o) stepped);
    };
    plan_is = kept.plan_is;
    sound = sound;
  }
