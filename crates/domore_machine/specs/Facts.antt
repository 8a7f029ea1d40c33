-- What the report counts. Each event adds to it; `waits` gives the waits of an iteration by its number.
use Rattle.std.specs.Prelude.{◌≡◌, ℕ, suc, ◌+◌, ◌-◌, ◌^◌, min, Bool, true, false, List, [], ◌∷◌, ◌++◌, map, take, length, count_by, nat_lt}
use Rattle.nest_syntax.specs.Course.{Purpose, Ordinary, Header}
use Rattle.nest_syntax.specs.Outcome.{Event, Computes, Drains, Iterates, Closes, Ends, iterations_among}
use Rattle.settle_law.specs.Courses.{Nest, events}
use Rattle.domore_machine.specs.Waits.{Wait}

-- a wait as the report lists it: iteration `number` waits for iteration `on`. It is crossing where the two belong to
-- different invocations.
pub record WaitLine : Type 0 where
  pub number : ℕ
  pub on : ℕ
  pub crossing : Bool

-- The counts of headers carried out, of iterations, of drains, of waits, and of crossing waits; the first 64 waits, in
-- the order of iterations and then of workers; and the number of the first iteration of the present invocation.
pub record Facts : Type 0 where
  pub invocations : ℕ
  pub iterations : ℕ
  pub drains : ℕ
  pub waits : ℕ
  pub crossing : ℕ
  pub first_waits : List WaitLine
  pub first : ℕ

abbrev pub no_facts : Facts
no_facts = record { invocations = 0; iterations = 0; drains = 0; waits = 0; crossing = 0; first_waits = []; first = 0 }

-- a header begins an invocation, whose first iteration is the next one
abbrev pub computed : ℕ → Purpose → Facts → Facts
computed next Ordinary facts = facts
computed next Header facts = record facts { invocations = suc facts.invocations; first = next }

-- The greatest count of drains: it stays there. It is needed since nothing bounds the number of tests, and so of
-- drains.
abbrev pub most_drains : ℕ
most_drains = 2 ^ 64 - 1

abbrev pub drained : Facts → Facts
drained facts = record facts { drains = min (suc facts.drains) most_drains }

-- a wait of iteration k, where the first iteration of its invocation is `first`
abbrev pub wait_line : ℕ → ℕ → Wait → WaitLine
wait_line k first w = record { number = k; on = w.number; crossing = nat_lt w.number first }

-- iteration k, with these waits
abbrev pub iterated : ℕ → List Wait → Facts → Facts
iterated k waits facts = let new = map (wait_line k facts.first) waits in record facts {
  iterations = suc facts.iterations;
  waits = facts.waits + length waits;
  crossing = facts.crossing + count_by (λ (l : WaitLine). l.crossing) new;
  first_waits = take 64 (facts.first_waits ++ new);
}

-- what an event adds that is carried out without a trap, before iteration `next`
abbrev pub counted : (ℕ → List Wait) → ℕ → Facts → Event → Facts
counted waits next facts (Computes purpose scalars) = computed next purpose facts
counted waits next facts (Drains purpose scalars) = computed next purpose (drained facts)
counted waits next facts (Iterates body scalars) = iterated next (waits next) facts
counted waits next facts (Closes scalars) = facts
counted waits next facts Ends = facts

-- the number of the next iteration behind an event
abbrev pub next_behind : ℕ → Event → ℕ
next_behind next (Iterates body scalars) = suc next
next_behind next _ = next

-- the facts of a list of events from iteration `next` on, each carried out without a trap
abbrev pub facts_from : (ℕ → List Wait) → ℕ → Facts → List Event → Facts
facts_from waits next facts [] = facts
facts_from waits next facts (event ∷ others) = facts_from waits (next_behind next event) (counted waits next facts event) others

-- the facts of a nest that doesn't trap: those of all its events
abbrev pub facts_of : (ℕ → List Wait) → Nest → Facts
facts_of waits nest = facts_from waits 0 no_facts (events nest)

-- whether an event is the header of an invocation, and whether it is a drain
abbrev pub begins : Purpose → Bool
begins Ordinary = false
begins Header = true

abbrev pub is_header : Event → Bool
is_header (Computes purpose scalars) = begins purpose
is_header (Drains purpose scalars) = begins purpose
is_header other = false

abbrev pub is_drain : Event → Bool
is_drain (Drains purpose scalars) = true
is_drain other = false

-- the first iteration of the present invocation, behind an event before iteration k
abbrev pub first_behind : Purpose → ℕ → ℕ → ℕ
first_behind Ordinary k first = first
first_behind Header k first = k

-- all waits of the iterations among events, in order, from iteration k on
abbrev pub wait_lines_from : (ℕ → List Wait) → ℕ → ℕ → List Event → List WaitLine
wait_lines_from waits k first [] = []
wait_lines_from waits k first (Computes purpose scalars ∷ others) = wait_lines_from waits k (first_behind purpose k first) others
wait_lines_from waits k first (Drains purpose scalars ∷ others) = wait_lines_from waits k (first_behind purpose k first) others
wait_lines_from waits k first (Iterates body scalars ∷ others) = map (wait_line k first) (waits k) ++ wait_lines_from waits (suc k) first others
wait_lines_from waits k first (Closes scalars ∷ others) = wait_lines_from waits k first others
wait_lines_from waits k first (Ends ∷ others) = wait_lines_from waits k first others

-- what facts are of a whole list of events
pub record AreOf (waits_at : ℕ → List Wait) (passed : List Event) (facts : Facts) : Type 0 where
  pub invocations : facts.invocations ≡ count_by is_header passed
  pub iterations : facts.iterations ≡ length (iterations_among passed)
  pub drains : facts.drains ≡ min (count_by is_drain passed) most_drains
  pub waits : facts.waits ≡ length (wait_lines_from waits_at 0 0 passed)
  pub crossing : facts.crossing ≡ count_by (λ (l : WaitLine). l.crossing) (wait_lines_from waits_at 0 0 passed)
  pub first_waits : facts.first_waits ≡ take 64 (wait_lines_from waits_at 0 0 passed)

-- The facts of a list of events are counts of it, and the first 64 of all waits.
abbrev pub FactsCount : Type 0
FactsCount = (waits : ℕ → List Wait) (passed : List Event) → AreOf waits passed (facts_from waits 0 no_facts passed)
