-- How the events, iterations and turns of a course are carried out, put together.
use Rattle.std.proofs.Common.{◌≡◌, ℕ, suc, ◌+◌, ◌-◌, ◌*◌, ◌<◌, ◌≤◌, ℤ, Bool, true, false, if◌then◌else◌, Result, Ok, Err, List, ◌∷◌, length, refl, sym, ap, ◌∙◌, subst, arith, add-one}
use Rattle.std.specs.List.{list_any}
use Rattle.std.proofs.Math.Nat.{mul-le-mul_left}
use Rattle.nest_syntax.specs.declared.names.Line.{Line}
use Rattle.nest_syntax.specs.declared.operators.Cause.{Cause}
use Rattle.nest_syntax.specs.declared.tree.Expr.{Expr}
use Rattle.nest_syntax.specs.declared.tree.Loop.{Loop}
use Rattle.nest_syntax.specs.declared.tree.Stmt.{Stmt}
use Rattle.nest_syntax.specs.Words.{variable, most_turns}
use Rattle.nest_syntax.specs.Arrays.{sizes_of}
use Rattle.nest_syntax.specs.Value.{names_written, with_scalar}
use Rattle.nest_syntax.specs.Turn.{Turn, turn_of}
use Rattle.nest_syntax.specs.Reads.{on_words}
use Rattle.nest_syntax.specs.Course.{Setting, Course, Purpose, Iterate, Item, computed, event, iterations, region_turns}
use Rattle.nest_syntax.specs.Outcome.{body_at, turn_in}
use Rattle.nest_mean.specs.declared.bodies.TurnTrap.{TurnTrap}
use Rattle.nest_mean.specs.declared.run.Run.{Run}
use Rattle.nest_syntax.specs.declared.place.Place.{Place}
use Rattle.nest_mean.specs.NamesChanged.{names_changed, changed_in_loop, KeepsOthers}
use Rattle.nest_mean.specs.TurnRun.{ended}
use Rattle.nest_mean.specs.CourseParts.{event_words, at_iteration, next_number, IsReady, finish_of, Stand, Reaches, Passes, Iterates, IteratesAll, PassesTurns}
use Rattle.nest_mean.specs.Nest.{Nest}
use Rattle.nest_mean.specs.Finish.{Finish, finish_behind, finish_from}
use Rattle.nest_mean.specs.Saved.{SavedScalars, taken_over, AreSaved}
use Rattle.nest_mean.proofs.Names.{among_here, among_behind, keeps_then, keeps_more, keeps_set}
use Rattle.nest_syntax.proofs.Equations.{given_in_loop-is}
use Rattle.nest_mean.proofs.Kept.{put_back_saved}

-- a run that went another way before and came to the same
pub reaches_from : {A : Type 0} (result : Result A Place) (words : List ℤ) (next : A → Finish) (before after : Finish) → before ≡ after → Reaches result words next after → Reaches result words next before
reaches_from (Ok r) words next before after same reached = same ∙ reached
reaches_from (Err place) words next before after same reached = same ∙ reached

-- a run that goes on otherwise to the same
pub reaches_to : {A : Type 0} (result : Result A Place) (words : List ℤ) (next next' : A → Finish) (finish : Finish) → ((r : A) → next r ≡ next' r) → Reaches result words next finish → Reaches result words next' finish
reaches_to (Ok r) words next next' finish same reached = reached ∙ same r
reaches_to (Err place) words next next' finish same reached = reached

-- an event is evaluated on its words
pub event_is : {A : Type 0} (setting : Setting) (purpose : Purpose) (scalars : List ℤ) (line : Line) (exprs : List Expr) (compute : List ℤ → Result A Cause) (go : A → Course)
    (sizes : List ℕ) (turn : ℕ → List ℤ → Turn) (k : ℕ) (words : List ℤ)
    → finish_from sizes turn (event setting purpose scalars line exprs compute go) k words ≡ finish_from sizes turn (computed line (compute (event_words setting.arrays exprs words setting.words)) go) k words
event_is {A} setting purpose scalars line exprs compute go sizes turn k words = by_kind (list_any (names_written setting.arrays) exprs)
  where
    by_kind : (drains : Bool) → finish_from sizes turn (if drains then Course.Drain purpose scalars (λ ws. computed line (compute ws) go) else Course.Scalar purpose scalars (computed line (compute setting.words) go)) k words
        ≡ finish_from sizes turn (computed line (compute (if drains then words else setting.words)) go) k words
    by_kind true = refl
    by_kind false = refl

module _ (setting : Setting) where
  -- one iteration, from the turn that was carried out
  pub iterates : (body : List Stmt) (names : List ℕ) (turned : Result (Unit {0}) TurnTrap) (result : Result (Unit {0}) Place) (r r' : Run)
      → on_words (sizes_of setting.arrays) (turn_of setting.arrays body r.scalars.present) r.words.words ≡ ended turned r'.words.words → r'.words.sizes ≡ r.words.sizes → KeepsOthers names r.scalars.present r'.scalars.present → r'.scalars.aside ≡ r.scalars.aside
      → result ≡ at_iteration r.number turned → r'.number ≡ next_number r.number turned → Iterates setting body names result r r'
  iterates body names turned result r r' turn sizes kept aside answer count = record {
    same = λ bodies at is rest.
        reaches_from result _ _ _ _ (ap (λ b. finish_behind r.number (on_words (sizes_of setting.arrays) (turn_of setting.arrays b r.scalars.present) r.words.words) (goes_on bodies rest)) is ∙ ap (λ e. finish_behind r.number e (goes_on bodies rest)) turn)
        (by_end bodies rest turned answer count);
    sizes = sizes;
    few = few turned count;
    kept = kept;
    aside = aside;
  }
    where
      goes_on : List (List Stmt) → Course → List ℤ → Finish
      goes_on bodies rest = finish_from (sizes_of setting.arrays) (turn_in setting.arrays bodies) rest (suc r.number)

      by_end : (bodies : List (List Stmt)) (rest : Course) (e : Result (Unit {0}) TurnTrap) → result ≡ at_iteration r.number e → r'.number ≡ next_number r.number e
          → Reaches result r'.words.words (λ done. finish_of setting bodies rest r') (finish_behind r.number (ended e r'.words.words) (goes_on bodies rest))
      by_end bodies rest (Ok done) answer count = subst (λ a. Reaches a r'.words.words (λ _. finish_of setting bodies rest r') (goes_on bodies rest r'.words.words)) (sym answer)
          (ap (λ k. finish_from (sizes_of setting.arrays) (turn_in setting.arrays bodies) rest k r'.words.words) (sym (count ∙ add-one r.number)))
      by_end bodies rest (Err trap) answer count = subst (λ a. Reaches a r'.words.words (λ _. finish_of setting bodies rest r') (finish_behind r.number (ended (Err trap) r'.words.words) (goes_on bodies rest))) (sym answer) refl

      few : (e : Result (Unit {0}) TurnTrap) → r'.number ≡ next_number r.number e → r'.number ≤ r.number + 1
      few (Ok done) count = omega (arith, count)
      few (Err trap) count = omega (arith, count)

  -- the iterations of an invocation, from turn k on
  module _ (invoked : Loop) (low : ℤ) (count : ℕ) (r₀ : Run) where
    abbrev scalars_in : ℕ → List ℤ
    scalars_in k = with_scalar r₀.scalars.present invoked.name (variable low invoked.step k)

    abbrev iterations_left : ℕ → ℕ → ℕ → Course → Course
    iterations_left c k at rest = iterations c k at scalars_in r₀.scalars.present rest

    pub record IsIterated (k : ℕ) (r : Run) : Type 0 where
      pub scalars : r.scalars.present ≡ r₀.scalars.present
      pub saved : AreSaved (changed_in_loop invoked) r₀.scalars.present r.scalars.aside
      pub same : (bodies : List (List Stmt)) (at : ℕ) → body_at bodies at ≡ invoked.body → (rest : Course) → finish_of setting bodies (iterations_left count 0 at rest) r₀ ≡ finish_of setting bodies (iterations_left (count - k) k at rest) r
      pub sizes : r.words.sizes ≡ r₀.words.sizes
      pub few : r.number ≤ r₀.number + k

    pub iterations_begin : (kept : SavedScalars) → kept.present ≡ r₀.scalars.present → AreSaved (changed_in_loop invoked) r₀.scalars.present kept.aside → IsIterated 0 (record r₀ { scalars = kept })
    iterations_begin kept present saved = let all : count ≡ count - 0 = omega arith in record {
      scalars = present;
      saved = saved;
      same = λ bodies at is rest. ap (λ c. finish_of setting bodies (iterations_left c 0 at rest) r₀) all;
      sizes = refl;
      few = omega arith;
    }

    pub iteration_ready : (k : ℕ) → k < count → (r : Run) → IsIterated k r → (nest : Nest) → IsReady nest count r₀ → (start : SavedScalars) → IsReady nest 1 (record r { scalars = start })
    iteration_ready k there r iterated nest ready start = record { sizes = iterated.sizes ∙ ready.sizes; room = omega (arith, ready.room, iterated.few, there) }

    module _ (k : ℕ) (there : k < count) (r : Run) (iterated : IsIterated k r) (start : SavedScalars) (start_is : start.present ≡ with_scalar r.scalars.present invoked.name (variable low invoked.step k)) (r' : Run) where
      round : (bodies : List (List Stmt)) (at : ℕ) → body_at bodies at ≡ invoked.body → (rest : Course) → finish_of setting bodies (iterations_left count 0 at rest) r₀ ≡ finish_of setting bodies (Iterate at start.present (iterations_left (count - (k + 1)) (k + 1) at rest)) r
      round bodies at is rest =
          let left : count - k ≡ suc (count - (k + 1)) = omega arith in
          let begin : scalars_in k ≡ start.present = ap (λ t. with_scalar t invoked.name (variable low invoked.step k)) (sym iterated.scalars) ∙ sym start_is in
          iterated.same bodies at is rest ∙ ap (λ c. finish_of setting bodies (iterations_left c k at rest) r) left
          ∙ ap (λ t. finish_of setting bodies (Iterate at t (iterations_left (count - (k + 1)) (suc k) at rest)) r) begin
          ∙ ap (λ j. finish_of setting bodies (Iterate at start.present (iterations_left (count - (k + 1)) j at rest)) r) (sym (add-one k))

      pub iteration_runs : start.aside ≡ r.scalars.aside → Iterates setting invoked.body (names_changed invoked.body) (Ok tt) (record r { scalars = start }) r' → (back : SavedScalars) → back.present ≡ taken_over (changed_in_loop invoked) r'.scalars.aside r'.scalars.present → back.aside ≡ r'.scalars.aside
          → IsIterated (k + 1) (record r' { scalars = back })
      iteration_runs same_aside ran back present aside = record {
        scalars = present ∙ put_back_saved (changed_in_loop invoked) r₀.scalars.present r'.scalars.present r'.scalars.aside all_kept (subst (AreSaved (changed_in_loop invoked) r₀.scalars.present) (sym (ran.aside ∙ same_aside)) iterated.saved);
        saved = subst (AreSaved (changed_in_loop invoked) r₀.scalars.present) (sym (aside ∙ ran.aside ∙ same_aside)) iterated.saved;
        same = λ bodies at is rest. round bodies at is rest ∙ ran.same bodies at is (iterations_left (count - (k + 1)) (k + 1) at rest);
        sizes = ran.sizes ∙ iterated.sizes;
        few = omega (arith, ran.few, iterated.few);
      }
        where
          all_kept : KeepsOthers (changed_in_loop invoked) r₀.scalars.present r'.scalars.present
          all_kept = subst (λ names. KeepsOthers names r₀.scalars.present r'.scalars.present) (sym (given_in_loop-is true invoked))
              (keeps_then (invoked.name ∷ names_changed invoked.body) r₀.scalars.present start.present r'.scalars.present
              (subst (λ t. KeepsOthers (invoked.name ∷ names_changed invoked.body) r₀.scalars.present t) (ap (λ t. with_scalar t invoked.name (variable low invoked.step k)) (sym iterated.scalars) ∙ sym start_is)
              (keeps_set (invoked.name ∷ names_changed invoked.body) r₀.scalars.present invoked.name (variable low invoked.step k) (among_here invoked.name (names_changed invoked.body))))
              (keeps_more (names_changed invoked.body) (invoked.name ∷ names_changed invoked.body) start.present r'.scalars.present (among_behind invoked.name (names_changed invoked.body)) ran.kept))

      pub iteration_stops : (stopped : Place) → Iterates setting invoked.body (names_changed invoked.body) (Err stopped) (record r { scalars = start }) r' → IteratesAll setting invoked low count (Err stopped) r₀ r'
      iteration_stops stopped ran = record {
        same = λ bodies at is go. round bodies at is (go r₀.scalars.present) ∙ ran.same bodies at is (iterations_left (count - (k + 1)) (k + 1) at (go r₀.scalars.present));
        sizes = ran.sizes ∙ iterated.sizes;
        few = omega (arith, ran.few, iterated.few);
      }

    pub iterations_end : (k : ℕ) (r : Run) → count ≤ k → k ≤ count → IsIterated k r → IteratesAll setting invoked low count (Ok tt) r₀ r
    iterations_end k r over within iterated = record {
      same = λ bodies at is go.
          let none : count - k ≡ 0 = omega arith in
          iterated.same bodies at is (go r₀.scalars.present) ∙ ap (λ c. finish_of setting bodies (iterations_left c k at (go r₀.scalars.present)) r) none ∙ ap (λ t. finish_of setting bodies (go t) r) (sym iterated.scalars);
      sizes = iterated.sizes;
      few = omega (arith, iterated.few);
    }

  -- the turns of a region, from turn k on
  module _ (items : Item) (region : Loop) (low : ℤ) (count : ℕ) (r₀ : Run) where
    abbrev turns_left : ℕ → ℕ → ℕ → List ℤ → (List ℤ → Course) → Course
    turns_left c k first = region_turns c k (variable low region.step) region.name (items.events first)

    pub record IsTurned (k : ℕ) (r : Run) : Type 0 where
      pub same : (bodies : List (List Stmt)) (first : ℕ) → Stand bodies first items.bodies → (go : List ℤ → Course) → finish_of setting bodies (turns_left count 0 first r₀.scalars.present go) r₀ ≡ finish_of setting bodies (turns_left (count - k) k first r.scalars.present go) r
      pub sizes : r.words.sizes ≡ r₀.words.sizes
      pub few : r.number ≤ r₀.number + k * (most_turns * length items.bodies)

    pub region_begins : IsTurned 0 r₀
    region_begins = let all : count ≡ count - 0 = omega arith in record {
      same = λ bodies first stands go. ap (λ c. finish_of setting bodies (turns_left c 0 first r₀.scalars.present go) r₀) all;
      sizes = refl;
      few = omega arith;
    }

    module _ (k : ℕ) (there : k < count) (r : Run) (turned : IsTurned k r) where
      pub turn_ready : (nest : Nest) → IsReady nest (count * (most_turns * length items.bodies)) r₀ → (start : SavedScalars) → IsReady nest (most_turns * length items.bodies) (record r { scalars = start })
      turn_ready nest ready start = let next : k + 1 ≤ count = omega arith in record {
        sizes = turned.sizes ∙ ready.sizes;
        room = omega (arith, ready.room, turned.few, mul-le-mul_left (most_turns * length items.bodies) next);
      }

      module _ (start : SavedScalars) (start_is : start.present ≡ with_scalar r.scalars.present region.name (variable low region.step k)) (r' : Run) where
        turn : (bodies : List (List Stmt)) (first : ℕ) → Stand bodies first items.bodies → (go : List ℤ → Course)
            → finish_of setting bodies (turns_left count 0 first r₀.scalars.present go) r₀ ≡ finish_of setting bodies (items.events first start.present (λ after. turns_left (count - (k + 1)) (k + 1) first after go)) r
        turn bodies first stands go =
            let left : count - k ≡ suc (count - (k + 1)) = omega arith in
            turned.same bodies first stands go ∙ ap (λ c. finish_of setting bodies (turns_left c k first r.scalars.present go) r) left
            ∙ ap (λ t. finish_of setting bodies (items.events first t (λ after. turns_left (count - (k + 1)) (suc k) first after go)) r) (sym start_is)
            ∙ ap (λ j. finish_of setting bodies (items.events first start.present (λ after. turns_left (count - (k + 1)) j first after go)) r) (sym (add-one k))

        pub turn_passes : Passes setting items most_turns (Ok tt) (record r { scalars = start }) r' → IsTurned (k + 1) r'
        turn_passes passed = record {
          same = λ bodies first stands go. turn bodies first stands go ∙ passed.same bodies first stands (λ after. turns_left (count - (k + 1)) (k + 1) first after go);
          sizes = passed.sizes ∙ turned.sizes;
          few = omega (arith, passed.few, turned.few);
        }

        pub turn_ends : (stopped : Place) → Passes setting items most_turns (Err stopped) (record r { scalars = start }) r' → PassesTurns setting items region low count (Err stopped) r₀ r'
        turn_ends stopped passed = record {
          same = λ bodies first stands go. turn bodies first stands go ∙ passed.same bodies first stands (λ after. turns_left (count - (k + 1)) (k + 1) first after go);
          sizes = passed.sizes ∙ turned.sizes;
          few = let next : k + 1 ≤ count = omega arith in omega (arith, passed.few, turned.few, mul-le-mul_left (most_turns * length items.bodies) next);
        }

    pub region_ends : (k : ℕ) (r : Run) → count ≡ k → IsTurned k r → PassesTurns setting items region low count (Ok tt) r₀ r
    region_ends k r over turned = record {
      same = λ bodies first stands go.
          let none : count - k ≡ 0 = omega arith in
          turned.same bodies first stands go ∙ ap (λ c. finish_of setting bodies (turns_left c k first r.scalars.present go) r) none;
      sizes = turned.sizes;
      few = subst (λ c. r.number ≤ r₀.number + c * (most_turns * length items.bodies)) (sym over) turned.few;
    }
