-- The outcome of a nest, from how its regions are carried out.
use Rattle.std.proofs.Common.{◌≡◌, ℕ, suc, ◌*◌, ℤ, Ok, Err, List, map, length, refl, sym, ap, ◌∙◌, subst, arith}
use Rattle.nest_syntax.specs.declared.tree.Loop.{Loop}
use Rattle.nest_syntax.specs.Arrays.{sizes_of}
use Rattle.nest_syntax.specs.Turn.{Turn}
use Rattle.nest_syntax.specs.Reads.{Ended, Completed, Stopped, on_words}
use Rattle.nest_syntax.specs.Course.{Course, Item, in_order, region_of, bodies_of, course_of, opening_scalars, End, Failed, Scalar, Drain, Iterate, Close}
use Rattle.nest_syntax.specs.Outcome.{Done, turn_in, behind, ending_from, ending}
use Rattle.word_store.specs.Memory.{Memory}
use Rattle.nest_mean.specs.declared.run.Run.{Run}
use Rattle.nest_syntax.specs.declared.place.Place.{Place}
use Rattle.nest_mean.specs.declared.outcomes.Outcome.TheVariants as outcomes
use Rattle.nest_mean.specs.Nest.{Nest, CanRun}
use Rattle.nest_mean.specs.Bound.{most_iterations}
use Rattle.nest_mean.specs.Outcomes.{as_outcome, outcome}
use Rattle.nest_mean.specs.Finish.{Finish, trapped_with, finish_behind, finish_from}
use Rattle.nest_mean.specs.CourseParts.{IsReady, finish_of, Stand, Passes, setting_in}
use Rattle.nest_syntax.proofs.Shapes.{regions_same}
use Rattle.nest_mean.proofs.Sameness.{stand_all}

-- the ending of a run is the same, with its words or without
finish-ending : (sizes : List ℕ) (turn : ℕ → List ℤ → Turn) (course : Course) (k : ℕ) (words : List ℤ) → (finish_from sizes turn course k words).ending ≡ ending_from sizes turn course k words
finish-ending sizes turn End k words = refl
finish-ending sizes turn (Failed cause line) k words = refl
finish-ending sizes turn (Scalar purpose scalars rest) k words = finish-ending sizes turn rest k words
finish-ending sizes turn (Drain purpose scalars rest) k words = finish-ending sizes turn (rest words) k words
finish-ending sizes turn (Close scalars rest) k words = finish-ending sizes turn rest k words
finish-ending sizes turn (Iterate body scalars rest) k words = by_end (on_words sizes (turn body scalars) words) (finish-ending sizes turn rest (suc k))
  where
    by_end : (e : Ended) → ((w : List ℤ) → (finish_from sizes turn rest (suc k) w).ending ≡ ending_from sizes turn rest (suc k) w) → (finish_behind k e (finish_from sizes turn rest (suc k))).ending ≡ behind k e (ending_from sizes turn rest (suc k))
    by_end (Completed w) same = same w
    by_end (Stopped cause line w) same = refl

module _ (nest : Nest) (r : Run) (scalars : r.scalars.present ≡ opening_scalars nest.program) (number : r.number ≡ 0) (words : r.words ≡ nest.opening) (listed : List Loop) (listed_is : listed ≡ nest.program.regions) where
  abbrev regions : Item
  regions = in_order (map (region_of (setting_in nest)) listed)

  bodies_are : bodies_of nest.program ≡ regions.bodies
  bodies_are = sym (ap (λ ls. (in_order (map (region_of (setting_in nest)) ls)).bodies) listed_is ∙ regions_same (setting_in nest) nest.program.regions)

  pub is_ready : CanRun nest → IsReady nest (most_iterations * length regions.bodies) r
  is_ready runs = let same : length (bodies_of nest.program) ≡ length regions.bodies = ap length bodies_are in record {
    sizes = ap (λ (w : Memory). w.sizes) words ∙ runs.sizes;
    room = omega (arith, number, same, runs.few_bodies);
  }

  bodies_stand : Stand (bodies_of nest.program) 0 regions.bodies
  bodies_stand = subst (λ bodies. Stand (bodies_of nest.program) 0 bodies) bodies_are (stand_all (bodies_of nest.program))

  ends_in : (finish : Finish) → finish_of (setting_in nest) (bodies_of nest.program) (regions.events 0 r.scalars.present (λ after. End)) r ≡ finish → ending nest.program nest.opening.words ≡ finish.ending
  ends_in finish is =
      sym (finish-ending (sizes_of (setting_in nest).arrays) (turn_in (setting_in nest).arrays (bodies_of nest.program)) (course_of nest.program nest.opening.words) 0 nest.opening.words)
      ∙ ap (λ ls. (finish_of (setting_in nest) (bodies_of nest.program) ((in_order (map (region_of (setting_in nest)) ls)).events 0 (opening_scalars nest.program) (λ after. End)) (record r { scalars = record r.scalars { present = opening_scalars nest.program }; number = 0; words = nest.opening })).ending) (sym listed_is)
      ∙ ap (λ s. (finish_of (setting_in nest) (bodies_of nest.program) (regions.events 0 s (λ after. End)) (record r { number = 0; words = nest.opening })).ending) (sym scalars)
      ∙ ap (λ n. (finish_of (setting_in nest) (bodies_of nest.program) (regions.events 0 r.scalars.present (λ after. End)) (record r { number = n; words = nest.opening })).ending) (sym number)
      ∙ ap (λ w. (finish_of (setting_in nest) (bodies_of nest.program) (regions.events 0 r.scalars.present (λ after. End)) (record r { words = w })).ending) (sym words) ∙ ap (λ (f : Finish). f.ending) is

  pub run_is_done : (r' : Run) → Passes (setting_in nest) regions most_iterations (Ok tt) r r' → outcomes.Done r'.words ≡ outcome nest
  run_is_done r' passed =
      ap (λ sizes. outcomes.Done (record { sizes = sizes; words = r'.words.words })) (passed.sizes ∙ ap (λ (w : Memory). w.sizes) words)
      ∙ ap (as_outcome nest.opening.sizes) (sym (ends_in (record { ending = Done r'.words.words; words = r'.words.words }) (passed.same (bodies_of nest.program) 0 bodies_stand (λ after. End))))

  pub run_traps : (place : Place) (r' : Run) → Passes (setting_in nest) regions most_iterations (Err place) r r' → outcomes.Trapped place ≡ outcome nest
  run_traps place r' passed = ap (as_outcome nest.opening.sizes) (sym (ends_in (trapped_with place r'.words.words) (passed.same (bodies_of nest.program) 0 bodies_stand (λ after. End))))
