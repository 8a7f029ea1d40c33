-- What the event of the cursor says of the nest, a whole invocation at a time.
use Rattle.std.proofs.Common.{◌≡◌, ℕ, zero, suc, ◌+◌, ◌<◌, ◌≤◌, ℤ, Option, Some, None, IsSome, List, [], ◌∷◌, ◌++◌, length, refl, sym, ap, ◌∙◌, subst, arith, length-append}
use Rattle.std.proofs.lemmas.Bool.{true≢false}
use Rattle.std.specs.Option.{option_map_or}
use Rattle.nest_syntax.specs.Course.{Course}
use Rattle.nest_syntax.specs.Course as course
use Rattle.nest_syntax.specs.Outcome.{Event as Passed, Computes as Computed, Drains as Drained, Iterates, Closes}
use Rattle.settle_law.specs.Courses.{Nest, Trap, Follows, Behind, AtEvent, Onward, TrapsThere, events, events_left, reached, iteration_at}
use Rattle.settle_law.specs.Courses as courses
use Rattle.settle_law.proofs.Cursors.{at_event}
use Rattle.spec_machine.specs.Invocations.{Event, End, Scalar, Drain, Invoke, Within, Outside, Inside, inside, single, one_by_one}
use Rattle.spec_machine.specs.Machine.{Setup}
use Rattle.spec_machine.specs.Segments.{Computes, Drains, Invokes, behind_trap, coming_from, coming}

module _ {B C P G : Type 0} (m : Setup B C P G) (nest : Nest) (what : B × ℕ → ℕ × List ℤ) where
  abbrev pub singly : Within B C → courses.Event (B × ℕ) (Within B C)
  singly = one_by_one m.event

  abbrev pub BehindNow : List Passed → ℕ → Within B C → Type 0
  BehindNow passed next cursor = Behind nest what singly passed next cursor

  -- an invocation is passed: its iterations are the next ones of the nest
  pub record Crossed (passed : List Passed) (next n k : ℕ) (b : B) (rest : C) : Type 0 where
    pub after : List Passed
    pub longer : length passed < length after
    pub behind : BehindNow after (next + n) (Outside rest)
    pub iterations : (j : ℕ) → j < n → iteration_at nest (next + j) ≡ Some (what (b, k + j))

  one_longer : (passed : List Passed) (this : Passed) → length passed < length (passed ++ this ∷ [])
  one_longer passed this = let l : length (passed ++ this ∷ []) ≡ length passed + 1 = length-append passed (this ∷ []) in omega arith

  pub crossed : (n k : ℕ) (passed : List Passed) (next : ℕ) (b : B) (rest : C) → AtEvent nest what singly passed next (inside b k n rest) → Crossed passed next n k b rest
  crossed zero k passed next b rest (scalars, behind) = let z : next ≡ next + 0 = omega arith in record {
    after = passed ++ Closes scalars ∷ [];
    longer = one_longer passed (Closes scalars);
    behind = subst (λ x. BehindNow (passed ++ Closes scalars ∷ []) x (Outside rest)) z behind;
    iterations = λ j lt. absurd (omega arith);
  }
  crossed (suc n) k passed next b rest (here, behind) =
      let this : Passed = Iterates (what (b, k)).0 (what (b, k)).1 in
      let r = crossed n (suc k) (passed ++ Iterates (what (b, k)).0 (what (b, k)).1 ∷ []) (suc next) b rest (at_event nest what singly (passed ++ Iterates (what (b, k)).0 (what (b, k)).1 ∷ []) (suc next) (Inside b (suc k) n rest) behind) in
      let z : suc next + n ≡ next + suc n = omega arith in
      record {
        after = r.after;
        longer = let a : length passed < length (passed ++ Iterates (what (b, k)).0 (what (b, k)).1 ∷ []) = one_longer passed (Iterates (what (b, k)).0 (what (b, k)).1) in let c : length (passed ++ Iterates (what (b, k)).0 (what (b, k)).1 ∷ []) < length r.after = r.longer in omega arith;
        behind = subst (λ x. BehindNow r.after x (Outside rest)) z r.behind;
        iterations = λ j lt. by_turn j lt r.iterations;
      }
    where
      by_turn : (j : ℕ) → j < suc n → ((i : ℕ) → i < n → iteration_at nest (suc next + i) ≡ Some (what (b, suc k + i))) → iteration_at nest (next + j) ≡ Some (what (b, k + j))
      by_turn zero lt others = let x : next ≡ next + 0 = omega arith in let y : k ≡ k + 0 = omega arith in subst (λ w. iteration_at nest w ≡ Some (what (b, k + 0))) x (subst (λ w. iteration_at nest next ≡ Some (what (b, w))) y here)
      by_turn (suc j) lt others = let x : suc next + j ≡ next + suc j = omega arith in let y : suc k + j ≡ k + suc j = omega arith in subst (λ w. iteration_at nest w ≡ Some (what (b, k + suc j))) x (subst (λ w. iteration_at nest (suc next + j) ≡ Some (what (b, w))) y (others j (omega arith)))

  -- what the event at which the cursor stands says
  pub event_says : (passed : List Passed) (next : ℕ) (cursor : C) (event : Event B C) → BehindNow passed next (Outside cursor) → m.event cursor ≡ event → AtEvent nest what singly passed next (single event)
  event_says passed next cursor event behind is = subst (λ e. AtEvent nest what singly passed next (single e)) is (at_event nest what singly passed next (Outside cursor) behind)

  -- an event that is carried out: a drain only where textual order gets there
  abbrev pub IsCarried : courses.Event (B × ℕ) (Within B C) → Option (List ℤ) → Type 0
  IsCarried (courses.Drain purpose trap rest) o = IsSome o
  IsCarried courses.End o = Unit {0}
  IsCarried (courses.Scalar purpose trap rest) o = Unit {0}
  IsCarried (courses.Iterate b rest) o = Unit {0}
  IsCarried (courses.Close rest) o = Unit {0}

  some_left : (cursor : Within B C) (left : Course) (o : Option (List ℤ)) → Follows nest what singly cursor left → IsCarried (singly cursor) o → 1 ≤ length (events_left nest left o)
  some_left cursor course.End o is carried = omega arith
  some_left cursor (course.Failed cause line) o is carried = elim is [ ]
  some_left cursor (course.Scalar purpose scalars rest) o is carried = omega arith
  some_left cursor (course.Drain purpose scalars rest) None (trap, after, is, follows) carried = absurd (true≢false (sym (subst (λ x. IsCarried x None) is carried)))
  some_left cursor (course.Drain purpose scalars rest) (Some words) is carried = omega arith
  some_left cursor (course.Iterate body scalars rest) o is carried = omega arith
  some_left cursor (course.Close scalars rest) o is carried = omega arith

  all_length : (passed : List Passed) (next : ℕ) (cursor : Within B C) (behind : BehindNow passed next cursor) → length passed + length (events_left nest behind.left (reached nest next)) ≡ length (events nest)
  all_length passed next cursor behind = sym (length-append passed (events_left nest behind.left (reached nest next))) ∙ ap length behind.all_events

  pub no_more : (passed : List Passed) (next : ℕ) (cursor : Within B C) → BehindNow passed next cursor → length passed ≤ length (events nest)
  no_more passed next cursor behind = let a : length passed + length (events_left nest behind.left (reached nest next)) ≡ length (events nest) = all_length passed next cursor behind in omega arith

  -- an event that is carried out is one more of the nest
  one_more : (passed : List Passed) (next : ℕ) (cursor : Within B C) → BehindNow passed next cursor → IsCarried (singly cursor) (reached nest next) → length passed < length (events nest)
  one_more passed next cursor behind carried = let a : length passed + length (events_left nest behind.left (reached nest next)) ≡ length (events nest) = all_length passed next cursor behind in let b : 1 ≤ length (events_left nest behind.left (reached nest next)) = some_left cursor behind.left (reached nest next) behind.follows carried in omega arith

  -- With as many events as the nest has left, one more makes no difference to what is coming.
  module _ (most : ℕ) (more : (passed : List Passed) (next : ℕ) (cursor : C) → BehindNow passed next (Outside cursor) → length (events nest) ≤ length passed + most → coming m nest most cursor next ≡ coming m nest (suc most) cursor next) where
    onward_steady : (passed : List Passed) (this : Passed) (next : ℕ) (trap : Option Trap) (rest : C) → length (events nest) ≤ length passed + suc most → Onward nest what singly passed next this trap (Outside rest) → behind_trap trap (coming m nest most rest next) ≡ behind_trap trap (coming m nest (suc most) rest next)
    onward_steady passed this next None rest enough behind = more (passed ++ this ∷ []) next rest behind (let e : length passed < length (passed ++ this ∷ []) = one_longer passed this in omega arith)
    onward_steady passed this next (Some trap) rest enough there = refl

    event_steady : (passed : List Passed) (next : ℕ) (event : Event B C) → length (events nest) ≤ length passed + suc most → AtEvent nest what singly passed next (single event) → coming_from m nest (coming m nest most) next event ≡ coming_from m nest (coming m nest (suc most)) next event
    event_steady passed next End enough says = refl
    event_steady passed next (Scalar purpose trap rest) enough (scalars, says) = ap (λ l. Computes ∷ l) (onward_steady passed (Computed purpose scalars) next trap rest enough says)
    event_steady passed next (Drain purpose trap rest) enough (scalars, says) = go (reached nest next) refl
      where
        go : (o : Option (List ℤ)) → reached nest next ≡ o → option_map_or (λ words. Drains ∷ behind_trap (trap words) (coming m nest most (rest words) next)) o [] ≡ option_map_or (λ words. Drains ∷ behind_trap (trap words) (coming m nest (suc most) (rest words) next)) o []
        go None is = refl
        go (Some words) is = ap (λ l. Drains ∷ l) (onward_steady passed (Drained purpose scalars) next (trap words) (rest words) enough (says words is))
    event_steady passed next (Invoke b n rest) enough says = let r = crossed n 0 passed next b rest says in ap (λ l. Invokes (record { first = next; count = n; body = b }) ∷ l) (more r.after (next + n) rest r.behind (let e : length passed < length r.after = r.longer in omega arith))

  -- with no event left nothing comes
  none_left : (passed : List Passed) (next : ℕ) (cursor : C) (event : Event B C) → m.event cursor ≡ event → BehindNow passed next (Outside cursor) → length (events nest) ≤ length passed + 0 → [] ≡ coming_from m nest (coming m nest 0) next event
  none_left passed next cursor End is behind none = refl
  none_left passed next cursor (Scalar purpose trap rest) is behind none = let l : length passed < length (events nest) = one_more passed next (Outside cursor) behind (subst (λ x. IsCarried (single x) (reached nest next)) (sym is) tt) in absurd (omega arith)
  none_left passed next cursor (Drain purpose trap rest) is behind none = go (reached nest next) refl
    where
      go : (o : Option (List ℤ)) → reached nest next ≡ o → [] ≡ option_map_or (λ words. Drains ∷ behind_trap (trap words) (coming m nest 0 (rest words) next)) o []
      go None reach = refl
      go (Some words) reach = let l : length passed < length (events nest) = one_more passed next (Outside cursor) behind (subst (λ x. IsCarried (single x) (reached nest next)) (sym is) (subst IsSome (sym reach) refl)) in absurd (omega arith)
  none_left passed next cursor (Invoke b n rest) is behind none =
      let r = crossed n 0 passed next b rest (event_says passed next cursor (Invoke b n rest) behind is) in
      let l : length r.after ≤ length (events nest) = no_more r.after (next + n) (Outside rest) r.behind in
      let e : length passed < length r.after = r.longer in
      absurd (omega arith)

  steady : (most : ℕ) (passed : List Passed) (next : ℕ) (cursor : C) → BehindNow passed next (Outside cursor) → length (events nest) ≤ length passed + most → coming m nest most cursor next ≡ coming m nest (suc most) cursor next
  steady zero passed next cursor behind enough = none_left passed next cursor (m.event cursor) refl behind enough
  steady (suc most) passed next cursor behind enough = event_steady most (steady most) passed next (m.event cursor) enough (at_event nest what singly passed next (Outside cursor) behind)

  -- what is coming is the event at the cursor and what comes behind it
  pub coming_is : (passed : List Passed) (next : ℕ) (cursor : C) → BehindNow passed next (Outside cursor) → coming m nest (length (events nest)) cursor next ≡ coming_from m nest (coming m nest (length (events nest))) next (m.event cursor)
  coming_is passed next cursor behind = steady (length (events nest)) passed next cursor behind (omega arith)

  -- and it is no more than the nest has left
  module _ (most : ℕ) (more : (passed : List Passed) (next : ℕ) (cursor : C) → BehindNow passed next (Outside cursor) → length (coming m nest most cursor next) + length passed ≤ length (events nest)) where
    onward_few : (passed : List Passed) (this : Passed) (next : ℕ) (trap : Option Trap) (rest : C) → length passed < length (events nest) → Onward nest what singly passed next this trap (Outside rest) → suc (length (behind_trap trap (coming m nest most rest next))) + length passed ≤ length (events nest)
    onward_few passed this next None rest lt behind = let l : length (coming m nest most rest next) + length (passed ++ this ∷ []) ≤ length (events nest) = more (passed ++ this ∷ []) next rest behind in let e : length passed < length (passed ++ this ∷ []) = one_longer passed this in omega arith
    onward_few passed this next (Some trap) rest lt there = omega arith

    event_few : (passed : List Passed) (next : ℕ) (cursor : C) (event : Event B C) → m.event cursor ≡ event → BehindNow passed next (Outside cursor) → AtEvent nest what singly passed next (single event) → length (coming_from m nest (coming m nest most) next event) + length passed ≤ length (events nest)
    event_few passed next cursor End is behind says = let l : length passed ≤ length (events nest) = no_more passed next (Outside cursor) behind in omega arith
    event_few passed next cursor (Scalar purpose trap rest) is behind (scalars, says) = onward_few passed (Computed purpose scalars) next trap rest (one_more passed next (Outside cursor) behind (subst (λ x. IsCarried (single x) (reached nest next)) (sym is) tt)) says
    event_few passed next cursor (Drain purpose trap rest) is behind (scalars, says) = go (reached nest next) refl
      where
        go : (o : Option (List ℤ)) → reached nest next ≡ o → length (option_map_or (λ words. Drains ∷ behind_trap (trap words) (coming m nest most (rest words) next)) o []) + length passed ≤ length (events nest)
        go None reach = let l : length passed ≤ length (events nest) = no_more passed next (Outside cursor) behind in omega arith
        go (Some words) reach = onward_few passed (Drained purpose scalars) next (trap words) (rest words) (one_more passed next (Outside cursor) behind (subst (λ x. IsCarried (single x) (reached nest next)) (sym is) (subst IsSome (sym reach) refl))) (says words reach)
    event_few passed next cursor (Invoke b n rest) is behind says =
        let r = crossed n 0 passed next b rest says in
        let l : length (coming m nest most rest (next + n)) + length r.after ≤ length (events nest) = more r.after (next + n) rest r.behind in
        let e : length passed < length r.after = r.longer in
        omega arith

  pub coming_few : (most : ℕ) (passed : List Passed) (next : ℕ) (cursor : C) → BehindNow passed next (Outside cursor) → length (coming m nest most cursor next) + length passed ≤ length (events nest)
  coming_few zero passed next cursor behind = let l : length passed ≤ length (events nest) = no_more passed next (Outside cursor) behind in omega arith
  coming_few (suc most) passed next cursor behind = event_few most (coming_few most) passed next cursor (m.event cursor) refl behind (at_event nest what singly passed next (Outside cursor) behind)
