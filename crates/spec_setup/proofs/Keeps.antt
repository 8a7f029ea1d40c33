-- What the setup keeps of the nest, and that no history is longer than the bound by the costs.
use Rattle.std.proofs.Common.{◌≡◌, ℕ, suc, ◌+◌, ◌<◌, ◌≤◌, ℤ, Option, Some, List, length, sum_by, sym, ap, ◌∙◌, subst, arith}
use Rattle.std.specs.Option.{option_map_or}
use Rattle.nest_syntax.specs.declared.tree.Program.{Program}
use Rattle.nest_syntax.specs.Arrays.{arrays_of, sizes_of}
use Rattle.settle_law.specs.Courses.{Nest, nest_of, iteration_at, events}
use Rattle.dep_graph.specs.Apart.{DoAllIsApart}
use Rattle.task_code.specs.Code.{Code}
use Rattle.task_frame.specs.declared.piece.Piece.{Piece}
use Rattle.task_frame.specs.System.{Fuelled}
use Rattle.sched_cursor.specs.Cursor.{Cursor}
use Rattle.sched_cursor.specs.Handed.{what_of}
use Rattle.sched_cursor.specs.Laws.{restarted}
use Rattle.nest_setup.specs.Pieces.{stop_of}
use Rattle.nest_setup.specs.Setups.{BoundTurns}
use Rattle.nest_setup.specs.Laws.{cost_by}
use Rattle.nest_setup.proofs.Costs.{stops_same}
use Rattle.spec_machine.specs.Machine.{Setup, Epoch, opening}
use Rattle.spec_machine.specs.Theorems.{IsSetupFor}
use Rattle.spec_machine.specs.Measure.{measure, segment_bound, bound}
use Rattle.spec_machine.proofs.Within.{opening_within}
use Rattle.spec_tasks.specs.Notes.{Note, noted_in}
use Rattle.spec_tasks.specs.Forgetting.{with_notes}
use Rattle.spec_tasks.specs.Carried.{KeepsNest}
use Rattle.spec_tasks.proofs.Carrying.{forgetting_keeps, segments_same}
use Rattle.spec_tasks.proofs.Costing.{costs}
use Rattle.spec_setup.specs.Signs.{Signs}
use Rattle.spec_setup.specs.Setups.{Invoked, handed, what_in, setup_of, fuelled_setup_of, is_word_of, IsPrepared}
use Rattle.spec_setup.specs.Laws.{SetupsKeepNests}
use Rattle.spec_setup.proofs.Right.{is_turn, setups_right, touched_is}

module _ {S : Type 0} (do_all : DoAllIsApart) (program : Program) (words : List ℤ) (code : Code) (cursor : Cursor) (signs : Signs S) (width room far : ℕ) (prepared : IsPrepared program code cursor signs width room) (stops : ℕ × List ℤ → ℕ) (bounds : BoundTurns program words stops) where
  abbrev nest : Nest
  nest = nest_of program words

  abbrev start : Cursor
  start = restarted program cursor

  abbrev m : Setup Invoked Cursor Fuelled S
  m = fuelled_setup_of program words code stops signs width room far

  abbrev l : Setup Invoked Cursor Fuelled (List Note)
  l = with_notes m

  abbrev n : Setup Invoked Cursor Piece S
  n = setup_of program words code signs width room far

  abbrev most : ℕ
  most = measure l nest (opening l start words)

  abbrev cost : ℕ → ℕ
  cost = cost_by nest stops

  abbrev right : IsSetupFor l nest (what_in program) start noted_in
  right = setups_right do_all program words code cursor signs width room far prepared stops bounds

  less : (k : ℕ) → k < suc k
  less k = omega arith

  fuel_below : (b : Invoked) (j k : ℕ) → iteration_at nest k ≡ Some (what_in program (b, j)) → stops (what_of program (handed b j)) < cost k
  fuel_below b j k at =
      let told = (is_turn do_all program words code cursor signs width room prepared b j k at).told_as in
      subst (λ (o : Option (ℕ × List ℤ)). stops (what_of program (handed b j)) < option_map_or (λ (i : ℕ × List ℤ). suc (stops i)) o 0) (sym (at ∙ ap Some told)) (less (stops (what_of program (handed b j))))

  within : most ≤ bound n nest start cost
  within = subst (λ (s : List (List (Epoch Invoked))). most ≤ length (events nest) + 1 + sum_by (segment_bound l nest cost) s)
      (sym (segments_same m (λ (p : Fuelled). p.piece) (stop_of (sizes_of (arrays_of program.decls)) code) (stops_same (sizes_of (arrays_of program.decls)) code) nest start))
      (opening_within Invoked Cursor Fuelled (List Note) l nest (what_in program) start noted_in cost right (costs l nest (what_in program) cost fuel_below start right.follows))

  kept : KeepsNest n nest start (is_word_of program) most
  kept = subst (λ touched. KeepsNest n nest start touched most) (touched_is do_all program words code cursor signs width room far prepared stops bounds)
      (forgetting_keeps Invoked Cursor Fuelled Piece S m (λ (p : Fuelled). p.piece) (stop_of (sizes_of (arrays_of program.decls)) code) (stops_same (sizes_of (arrays_of program.decls)) code) nest (what_in program) start right)

  keeps : KeepsNest n nest start (is_word_of program) (bound n nest start cost)
  keeps = record {
    commits = kept.commits;
    ends = kept.ends;
    aborts = kept.aborts;
    causes = kept.causes;
    below_least = kept.below_least;
    once = kept.once;
    room = kept.room;
    known = kept.known;
    fixed_words = kept.fixed_words;
    goes_on = kept.goes_on;
    few = λ history s leads. let few : length history ≤ most = kept.few history s leads in omega (arith, few, within);
  }

pub setups_keep : {S : Type 0} → DoAllIsApart → SetupsKeepNests S
setups_keep do_all program words code cursor signs width room far prepared stops bounds = keeps do_all program words code cursor signs width room far prepared stops bounds
