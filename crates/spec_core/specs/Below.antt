-- No caller needs this. What crates below prove, as the engine cites it.
use Rattle.std.proofs.Common.{◌≡◌, ℕ, Option, Some, None, refl, subst}
use Rattle.std.specs.Option.{option_map}
use Rattle.sched_cursor.specs.Laws.{restarted}
use Rattle.nest_tasks.specs.Longest.{BoundedHistoriesFall}
use Rattle.nest_setup.specs.Laws.{BodyCostsBoundTurns}
use Rattle.spec_machine.specs.Machine as machine
use Rattle.spec_setup.specs.Signs.{Signs}
use Rattle.spec_setup.specs.Laws.{SetupsKeepNests}
use Rattle.dep_graph.proofs.Apart.{do_all_is_apart}
use Rattle.nest_tasks.proofs.Longest.{bounded_falls}
use Rattle.nest_setup.proofs.Costs.{body_costs_bound}
use Rattle.spec_setup.proofs.Keeps.{setups_keep}
use Rattle.spec_setup.proofs.Scripts as scripts
use Rattle.spec_core.specs.Engine.{Engine, Stand, setup_in, far_of, step}

pub body_costs_bound_turns : BodyCostsBoundTurns
body_costs_bound_turns = body_costs_bound

pub bounded_histories_fall : (S : Type 0) → BoundedHistoriesFall S
bounded_histories_fall S = λ step actors most opening few others. bounded_falls S step actors most opening few others

pub setups_keep_nests : (G : Type 0) → SetupsKeepNests G
setups_keep_nests G = λ program opening code cursor signs width room far prepared stops bounds. setups_keep do_all_is_apart program opening code cursor signs width room far prepared stops bounds

-- no step changes the script of the cursor
pub scripts_stay : {G : Type 0} (signs : Signs G) (e f : Engine G) (actor : ℕ) → step signs e actor ≡ Some f → restarted e.job.program f.state.cursor ≡ restarted e.job.program e.state.cursor
scripts_stay {G} signs e f actor is = go (machine.step (setup_in signs e) e.state actor) refl is
  where
    go : (o : Option (Stand G)) → machine.step (setup_in signs e) e.state actor ≡ o → option_map (λ (s : Stand G). record e { state = s }) o ≡ Some f → restarted e.job.program f.state.cursor ≡ restarted e.job.program e.state.cursor
    go None known made = absurd (let none : None ≡ Some f = made in cc)
    go (Some t) known made =
        let same : (let g : Engine G = record e { state = t } in g) ≡ f = cc in
        subst (λ (g : Engine G). restarted e.job.program g.state.cursor ≡ restarted e.job.program e.state.cursor) same
        (scripts.scripts_stay e.job.program e.job.opening.words e.code signs e.options.workers e.options.segment (far_of e.options) e.state t actor known)
