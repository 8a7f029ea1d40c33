-- The events ahead of a cursor: their weight is what the event at the cursor and those behind it weigh, and is bounded by
-- the costs.
use Rattle.std.proofs.Common.{◌≡◌, ℕ, zero, suc, ◌+◌, ◌<◌, ◌≤◌, ℤ, Option, Some, None, IsSome, List, [], ◌∷◌, ◌++◌, length, refl, sym, ap, ◌∙◌, subst, ⊎_elim, arith, length-append}
use Rattle.std.proofs.lemmas.Bool.{true≢false, cases_lt}
use Rattle.std.specs.Option.{option_map_or}
use Rattle.nest_syntax.specs.Course.{Course}
use Rattle.nest_syntax.specs.Course as course
use Rattle.nest_syntax.specs.Outcome.{Event as Passed, Computes, Drains, Iterates, Closes, Ends, iterations_among}
use Rattle.settle_law.specs.Courses.{Nest, Trap, Event, End, Scalar, Drain, Iterate, Close, Follows, Behind, AtEvent, Onward, events, events_left, reached}
use Rattle.settle_law.proofs.Cursors.{at_event}
use Rattle.domore_machine.specs.Machine.{Setup, waits}
use Rattle.domore_machine.specs.Measure.{behind_trap, iteration_weight, event_weight, ahead, EventCosts, Costs, sum_below}
use Rattle.domore_machine.proofs.Need.{waits_few}

-- there are no fewer iterations among more events
fewer : (passed others : List Passed) → length (iterations_among passed) ≤ length (iterations_among (passed ++ others))
fewer [] others = omega arith
fewer (Computes purpose scalars ∷ passed) others = fewer passed others
fewer (Drains purpose scalars ∷ passed) others = fewer passed others
fewer (Iterates body scalars ∷ passed) others = let l : length (iterations_among passed) ≤ length (iterations_among (passed ++ others)) = fewer passed others in omega arith
fewer (Closes scalars ∷ passed) others = fewer passed others
fewer (Ends ∷ passed) others = fewer passed others

module _ {B C P : Type 0} (m : Setup B C P) (nest : Nest) (what : B → ℕ × List ℤ) where
  -- an event that is carried out: a drain only where textual order gets there
  abbrev pub IsCarried : Event B C → Option (List ℤ) → Type 0
  IsCarried (Drain purpose trap rest) o = IsSome o
  IsCarried End o = Unit {0}
  IsCarried (Scalar purpose trap rest) o = Unit {0}
  IsCarried (Iterate b rest) o = Unit {0}
  IsCarried (Close rest) o = Unit {0}

  some_left : (cursor : C) (left : Course) (o : Option (List ℤ)) → Follows nest what m.event cursor left → IsCarried (m.event cursor) o → 1 ≤ length (events_left nest left o)
  some_left cursor course.End o is carried = omega arith
  some_left cursor (course.Failed cause line) o is carried = elim is [ ]
  some_left cursor (course.Scalar purpose scalars rest) o is carried = omega arith
  some_left cursor (course.Drain purpose scalars rest) None (trap, after, is, follows) carried = absurd (true≢false (sym (subst (λ x. IsCarried x None) is carried)))
  some_left cursor (course.Drain purpose scalars rest) (Some words) is carried = omega arith
  some_left cursor (course.Iterate body scalars rest) o is carried = omega arith
  some_left cursor (course.Close scalars rest) o is carried = omega arith

  all_length : (passed : List Passed) (next : ℕ) (cursor : C) (behind : Behind nest what m.event passed next cursor) → length passed + length (events_left nest behind.left (reached nest next)) ≡ length (events nest)
  all_length passed next cursor behind = sym (length-append passed (events_left nest behind.left (reached nest next))) ∙ ap length behind.all_events

  -- an event that is carried out is one more of the nest
  one_more : (passed : List Passed) (next : ℕ) (cursor : C) → Behind nest what m.event passed next cursor → IsCarried (m.event cursor) (reached nest next) → length passed < length (events nest)
  one_more passed next cursor behind carried = let a : length passed + length (events_left nest behind.left (reached nest next)) ≡ length (events nest) = all_length passed next cursor behind in let b : 1 ≤ length (events_left nest behind.left (reached nest next)) = some_left cursor behind.left (reached nest next) behind.follows carried in omega arith

  one_longer : (passed : List Passed) (this : Passed) → length (passed ++ this ∷ []) ≡ length passed + 1
  one_longer passed this = length-append passed (this ∷ [])

  -- With as many events as the nest has left, one more makes no difference.
  module _ (most : ℕ) (more : (passed : List Passed) (next : ℕ) (cursor : C) → Behind nest what m.event passed next cursor → length (events nest) ≤ length passed + most → ahead m nest most cursor next ≡ ahead m nest (suc most) cursor next) where
    onward_steady : (passed : List Passed) (this : Passed) (next : ℕ) (trap : Option Trap) (rest : C) → length (events nest) ≤ length passed + suc most → Onward nest what m.event passed next this trap rest → behind_trap trap (ahead m nest most rest next) ≡ behind_trap trap (ahead m nest (suc most) rest next)
    onward_steady passed this next None rest enough behind = more (passed ++ this ∷ []) next rest behind (let e : length (passed ++ this ∷ []) ≡ length passed + 1 = one_longer passed this in omega arith)
    onward_steady passed this next (Some trap) rest enough there = refl

    event_steady : (passed : List Passed) (next : ℕ) (event : Event B C) → length (events nest) ≤ length passed + suc most → AtEvent nest what m.event passed next event → event_weight m nest (ahead m nest most) next event ≡ event_weight m nest (ahead m nest (suc most)) next event
    event_steady passed next End enough at = refl
    event_steady passed next (Scalar purpose trap rest) enough (scalars, at) = ap suc (onward_steady passed (Computes purpose scalars) next trap rest enough at)
    event_steady passed next (Drain purpose trap rest) enough (scalars, at) = go (reached nest next) refl
      where
        go : (o : Option (List ℤ)) → reached nest next ≡ o → option_map_or (λ words. suc (behind_trap (trap words) (ahead m nest most (rest words) next))) o 0 ≡ option_map_or (λ words. suc (behind_trap (trap words) (ahead m nest (suc most) (rest words) next))) o 0
        go None is = refl
        go (Some words) is = ap suc (onward_steady passed (Drains purpose scalars) next (trap words) (rest words) enough (at words is))
    event_steady passed next (Iterate b rest) enough (here, behind) = ap (λ n. suc (iteration_weight m nest b (waits m next) + n)) (more (passed ++ Iterates (what b).0 (what b).1 ∷ []) (suc next) rest behind (let e : length (passed ++ Iterates (what b).0 (what b).1 ∷ []) ≡ length passed + 1 = one_longer passed (Iterates (what b).0 (what b).1) in omega arith))
    event_steady passed next (Close rest) enough (scalars, behind) = ap suc (more (passed ++ Closes scalars ∷ []) next rest behind (let e : length (passed ++ Closes scalars ∷ []) ≡ length passed + 1 = one_longer passed (Closes scalars) in omega arith))

  -- with no event left there is no weight
  none_left : (passed : List Passed) (next : ℕ) (cursor : C) (event : Event B C) → m.event cursor ≡ event → Behind nest what m.event passed next cursor → length (events nest) ≤ length passed + 0 → 0 ≡ event_weight m nest (ahead m nest 0) next event
  none_left passed next cursor End is behind none = refl
  none_left passed next cursor (Scalar purpose trap rest) is behind none = let l : length passed < length (events nest) = one_more passed next cursor behind (subst (λ x. IsCarried x (reached nest next)) (sym is) tt) in absurd (omega arith)
  none_left passed next cursor (Drain purpose trap rest) is behind none = go (reached nest next) refl
    where
      go : (o : Option (List ℤ)) → reached nest next ≡ o → 0 ≡ option_map_or (λ words. suc (behind_trap (trap words) (ahead m nest 0 (rest words) next))) o 0
      go None reach = refl
      go (Some words) reach = let l : length passed < length (events nest) = one_more passed next cursor behind (subst (λ x. IsCarried x (reached nest next)) (sym is) (subst IsSome (sym reach) refl)) in absurd (omega arith)
  none_left passed next cursor (Iterate b rest) is behind none = let l : length passed < length (events nest) = one_more passed next cursor behind (subst (λ x. IsCarried x (reached nest next)) (sym is) tt) in absurd (omega arith)
  none_left passed next cursor (Close rest) is behind none = let l : length passed < length (events nest) = one_more passed next cursor behind (subst (λ x. IsCarried x (reached nest next)) (sym is) tt) in absurd (omega arith)

  steady : (most : ℕ) (passed : List Passed) (next : ℕ) (cursor : C) → Behind nest what m.event passed next cursor → length (events nest) ≤ length passed + most → ahead m nest most cursor next ≡ ahead m nest (suc most) cursor next
  steady zero passed next cursor behind enough = none_left passed next cursor (m.event cursor) refl behind enough
  steady (suc most) passed next cursor behind enough = event_steady most (steady most) passed next (m.event cursor) enough (at_event nest what m.event passed next cursor behind)

  -- the weight ahead is that of the event and of what is ahead behind it
  pub ahead_is : (passed : List Passed) (next : ℕ) (cursor : C) → Behind nest what m.event passed next cursor → ahead m nest (length (events nest)) cursor next ≡ event_weight m nest (ahead m nest (length (events nest))) next (m.event cursor)
  ahead_is passed next cursor behind = steady (length (events nest)) passed next cursor behind (omega arith)

  -- the bound
  module _ (cost : ℕ → ℕ) where
    abbrev pub spent : ℕ → ℕ
    spent n = sum_below n (λ k. cost k + m.width + 1)

    spent_up : (n total : ℕ) → n ≤ total → spent n ≤ spent total
    spent_up zero zero le = omega arith
    spent_up n zero le = let same : n ≡ 0 = omega arith in subst (λ x. spent x ≤ spent 0) (sym same) (omega arith)
    spent_up n (suc total) le = ⊎_elim
        (λ l. let more : spent n ≤ spent total = spent_up n total (omega arith) in omega arith)
        (λ ge. let same : n ≡ suc total = omega arith in subst (λ x. spent x ≤ spent (suc total)) (sym same) (omega arith))
        (cases_lt n (suc total))

    abbrev pub all_spent : ℕ
    all_spent = length (events nest) + spent (length (iterations_among (events nest)))

    iterations_within : (passed : List Passed) (next : ℕ) (cursor : C) → Behind nest what m.event passed next cursor → (length passed ≤ length (events nest)) × (spent next ≤ spent (length (iterations_among (events nest))))
    iterations_within passed next cursor behind = (
      (let a : length passed + length (events_left nest behind.left (reached nest next)) ≡ length (events nest) = all_length passed next cursor behind in omega arith),
      spent_up next (length (iterations_among (events nest))) (let a : length (iterations_among passed) ≡ next = behind.counts in let b : length (iterations_among passed) ≤ length (iterations_among (events nest)) = subst (λ x. length (iterations_among passed) ≤ length (iterations_among x)) behind.all_events (fewer passed (events_left nest behind.left (reached nest next))) in omega arith),
    )

    -- what is ahead, what is passed and what was spent is all within the bound
    module _ (most : ℕ) (more : (passed : List Passed) (next : ℕ) (cursor : C) → Behind nest what m.event passed next cursor → Costs m nest most cost cursor next → ahead m nest most cursor next + length passed + spent next ≤ all_spent) where
      onward_bounded : (passed : List Passed) (this : Passed) (next : ℕ) (trap : Option Trap) (rest : C) → length passed < length (events nest) → spent next ≤ spent (length (iterations_among (events nest))) → Onward nest what m.event passed next this trap rest → (trap ≡ None → Costs m nest most cost rest next) → suc (behind_trap trap (ahead m nest most rest next)) + length passed + spent next ≤ all_spent
      onward_bounded passed this next None rest lt up behind costs = let l : ahead m nest most rest next + length (passed ++ this ∷ []) + spent next ≤ all_spent = more (passed ++ this ∷ []) next rest behind (costs refl) in let e : length (passed ++ this ∷ []) ≡ length passed + 1 = one_longer passed this in omega arith
      onward_bounded passed this next (Some trap) rest lt up there costs = omega arith

      event_bounded : (passed : List Passed) (next : ℕ) (cursor : C) (event : Event B C) → m.event cursor ≡ event → Behind nest what m.event passed next cursor → AtEvent nest what m.event passed next event → EventCosts m nest (Costs m nest most cost) cost next event → event_weight m nest (ahead m nest most) next event + length passed + spent next ≤ all_spent
      event_bounded passed next cursor End is behind at costs = let a : length passed ≤ length (events nest) = (iterations_within passed next cursor behind).0 in let b : spent next ≤ spent (length (iterations_among (events nest))) = (iterations_within passed next cursor behind).1 in omega arith
      event_bounded passed next cursor (Scalar purpose trap rest) is behind (scalars, at) costs = onward_bounded passed (Computes purpose scalars) next trap rest (one_more passed next cursor behind (subst (λ x. IsCarried x (reached nest next)) (sym is) tt)) (iterations_within passed next cursor behind).1 at costs
      event_bounded passed next cursor (Drain purpose trap rest) is behind (scalars, at) costs = go (reached nest next) refl
        where
          go : (o : Option (List ℤ)) → reached nest next ≡ o → option_map_or (λ words. suc (behind_trap (trap words) (ahead m nest most (rest words) next))) o 0 + length passed + spent next ≤ all_spent
          go None reach = let a : length passed ≤ length (events nest) = (iterations_within passed next cursor behind).0 in let b : spent next ≤ spent (length (iterations_among (events nest))) = (iterations_within passed next cursor behind).1 in omega arith
          go (Some words) reach = onward_bounded passed (Drains purpose scalars) next (trap words) (rest words) (one_more passed next cursor behind (subst (λ x. IsCarried x (reached nest next)) (sym is) (subst IsSome (sym reach) refl))) (iterations_within passed next cursor behind).1 (at words reach) (costs words reach)
      event_bounded passed next cursor (Iterate b rest) is behind (here, after) (fuel, costs) =
          let l : ahead m nest most rest (suc next) + length (passed ++ Iterates (what b).0 (what b).1 ∷ []) + (spent next + (cost next + m.width + 1)) ≤ all_spent = more (passed ++ Iterates (what b).0 (what b).1 ∷ []) (suc next) rest after costs in
          let e : length (passed ++ Iterates (what b).0 (what b).1 ∷ []) ≡ length passed + 1 = one_longer passed (Iterates (what b).0 (what b).1) in
          let w : length (waits m next) ≤ m.width = waits_few m.clashes m.width next in
          omega arith
      event_bounded passed next cursor (Close rest) is behind (scalars, after) costs =
          let l : ahead m nest most rest next + length (passed ++ Closes scalars ∷ []) + spent next ≤ all_spent = more (passed ++ Closes scalars ∷ []) next rest after costs in
          let e : length (passed ++ Closes scalars ∷ []) ≡ length passed + 1 = one_longer passed (Closes scalars) in
          omega arith

    pub bounded : (most : ℕ) (passed : List Passed) (next : ℕ) (cursor : C) → Behind nest what m.event passed next cursor → Costs m nest most cost cursor next → ahead m nest most cursor next + length passed + spent next ≤ all_spent
    bounded zero passed next cursor behind costs = let a : length passed ≤ length (events nest) = (iterations_within passed next cursor behind).0 in let b : spent next ≤ spent (length (iterations_among (events nest))) = (iterations_within passed next cursor behind).1 in omega arith
    bounded (suc most) passed next cursor behind costs = event_bounded most (bounded most) passed next cursor (m.event cursor) refl behind (at_event nest what m.event passed next cursor behind) costs
