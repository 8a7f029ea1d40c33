-- A legal state of the engine can be gone on with, and a step leaves a legal one.
use Rattle.std.proofs.Common.{◌≡◌, ℕ, ◌<◌, ◌≤◌, Option, Some, None, List, [], ◌∷◌, sym, ap, ◌∙◌, subst, arith}
use Rattle.std.specs.Option.{option_map}
use Rattle.nest_syntax.specs.Arrays.{arrays_of}
use Rattle.sched_cursor.proofs.Fixed.{fixed_words_are_const}
use Rattle.domore_machine.specs.Machine as machine
use Rattle.progress_board.proofs.Runs.{reached_step}
use Rattle.domore_core.specs.declared.plan.Plan.{Plan}
use Rattle.domore_core.specs.declared.table.Table.{Table}
use Rattle.domore_core.specs.Claims.{claims_of}
use Rattle.domore_core.specs.Engine.{Engine, Stand, step, IsLegalEngine}
use Rattle.domore_core.specs.Ahead.{GoesOn}
use Rattle.domore_core.specs.Tables.{state_of, setup_by, engine_of, IsSound}
use Rattle.domore_core.specs.Kept.{IsKept}
use Rattle.domore_core.specs.Laws.{CameBy, came_by, prepared, keeps}
use Rattle.sched_cursor.proofs.Cursors.{cursors_stay}
use Rattle.nest_setup.proofs.Courses.{cursors_keep_up}
use Rattle.nest_setup.proofs.Held.{seats_go_on}
use Rattle.domore_core.proofs.Counts.{counts_are_few}

goes_now : (e : Engine) (by : CameBy e) → GoesOn (record by.first { state = by.state })
goes_now e by =
    let first = by.first in
    let program = first.job.program in
    let words = first.job.opening.words in
    let kept = keeps first by.opened by.runs by.allowed in
    let ready = prepared first by.opened by.runs by.allowed in
    let counts = counts_are_few cursors_keep_up cursors_stay program words first.code (claims_of program words) first.state.cursor first.options.workers first.options.queue ready (omega (arith, by.allowed.few_workers)) by.history by.state by.leads in
    record {
      tickets = kept.tickets by.history by.state by.leads;
      hands_out = kept.hands_out by.history by.state by.leads;
      fixed = fixed_words_are_const (arrays_of program.decls) words by.state.words (kept.fixed_words by.history by.state by.leads);
      seats = seats_go_on program words first.code (claims_of program words) first.state.cursor first.options.workers first.options.queue ready by.opened.inside by.history by.state by.leads;
      few = record {
        invocations = omega (arith, counts.invocations);
        iterations = omega (arith, counts.iterations);
        waits = omega (arith, counts.waits);
        crossing = omega (arith, counts.crossing);
      };
    }

pub goes_on : (e : Engine) → IsLegalEngine e → GoesOn e
goes_on e legal = let by = came_by e legal in subst GoesOn (sym by.new) (goes_now e by)

pub kept_step : (plan : Plan) (old new : Table) (actor : ℕ) → IsKept plan old → machine.step (setup_by plan) (state_of old) actor ≡ Some (state_of new) → IsSound plan new → IsKept plan new
kept_step plan old new actor kept stepped sound = record {
  legal = record {
    runs = kept.legal.runs;
    allowed = kept.legal.allowed;
    first = kept.legal.first;
    opened = kept.legal.opened;
    reached = reached_step step kept.legal.first (engine_of plan old) (engine_of plan new) actor kept.legal.reached (ap (λ o. option_map (λ (s : Stand). let g : Engine = record (engine_of plan old) { state = s } in g) o) stepped);
  };
  plan_is = kept.plan_is;
  sound = sound;
}
