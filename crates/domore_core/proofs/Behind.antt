-- A cursor goes behind an iteration: what is handed out there, and which claims are its own.
use Rattle.std.proofs.Common.{◌≡◌, ℕ, suc, ◌+◌, ℤ, Bool, true, false, if◌then◌else◌, Option, Some, None, List, sym, ap, ◌∙◌, subst, arith}
use Rattle.std.proofs.lemmas.Bool.{cond-true}
use Rattle.std.specs.Option.{option_map_or}
use Rattle.nest_syntax.specs.declared.place.Place.{Place}
use Rattle.nest_syntax.specs.declared.tree.Program.{Program}
use Rattle.nest_syntax.specs.Arrays.{Array, arrays_of}
use Rattle.nest_syntax.specs.Course.{Ordinary}
use Rattle.addr_slice.specs.Claims.{Claimed, no_claims}
use Rattle.settle_law.specs.Courses.{iteration_at, nest_of}
use Rattle.settle_law.specs.Courses as courses
use Rattle.sched_cursor.specs.declared.event.Event.TheVariants as kind
use Rattle.sched_cursor.specs.declared.event.Iteration.{Iteration}
use Rattle.sched_cursor.specs.declared.node.At.{At}
use Rattle.sched_cursor.specs.declared.node.At.TheVariants as at
use Rattle.sched_cursor.specs.Turning.{has_turn}
use Rattle.sched_cursor.specs.Cursor.{Cursor}
use Rattle.sched_cursor.specs.Events.{after_at, after_event, after_iteration, handed_at, event_of, event_when, placed, as_answer, is_iterating}
use Rattle.domore_machine.specs.Waits.{Wait}
use Rattle.domore_machine.specs.Machine.{Ticket}
use Rattle.nest_setup.specs.Setups.{claims_numbered}

module _ (arrays : List Array) (words : List ℤ) (c later : Cursor) where
  -- what the cursor is behind an iteration
  pub record IsBehind (a : At) : Type 0 where
    pub event : event_when arrays words c a ≡ courses.Iterate (handed_at c a) later
    pub next : later.next ≡ suc c.next

  at_iteration : (a : At) (answer : Option Place) → is_iterating a ≡ true → as_answer answer later ≡ placed c.next (after_at arrays c words a) → IsBehind a
  at_iteration (at.Before next) answer iterates moved = absurd (let no : false ≡ true = iterates in cc)
  at_iteration (at.Inside i) (Some place) iterates moved = absurd (cc)
  at_iteration (at.Inside i) None iterates moved =
      let same : later ≡ after_iteration c i = cc in
      let counted : later.next ≡ c.next + 1 = ap (λ (x : Cursor). x.next) (same ∙ cond-true (has_turn i.turning) _ _ iterates) in
      record {
        event = ap (λ (b : Bool). event_of (if b then kind.Iterate else kind.Close) Ordinary (λ now. after_at arrays c now (at.Inside i)) (handed_at c (at.Inside i)) words c) iterates
            ∙ ap (λ (x : Cursor). courses.Iterate (handed_at c (at.Inside i)) x) (sym same);
        next = omega (arith, counted);
      }

  pub behind_iteration : (answer : Option Place) → is_iterating c.at ≡ true → as_answer answer later ≡ placed c.next (after_event arrays c words) → IsBehind c.at
  behind_iteration = at_iteration c.at

-- the same, on a program and words that are told of otherwise
pub behind_told : (program given : Program) (words others : List ℤ) (c later : Cursor) (answer : Option Place) → given ≡ program → others ≡ words → is_iterating c.at ≡ true
    → as_answer answer later ≡ placed c.next (after_event (arrays_of given.decls) c others) → IsBehind (arrays_of program.decls) words c later c.at
behind_told program given words others c later answer same alike iterates moved =
    behind_iteration (arrays_of program.decls) words c later answer iterates
    (subst (λ (p : Program). as_answer answer later ≡ placed c.next (after_event (arrays_of p.decls) c words)) same
    (subst (λ (ws : List ℤ). as_answer answer later ≡ placed c.next (after_event (arrays_of given.decls) c ws)) alike moved))

-- an event tells what it hands out, and where it leads
pub iterates_once : (b i : Iteration) (rest later : Cursor) (event : courses.Event Iteration Cursor) → event ≡ courses.Iterate i later → event ≡ courses.Iterate b rest → (i ≡ b) × (later ≡ rest)
iterates_once b i rest later event told is = (cc, cc)

-- the claims of an iteration by its number
pub claims_at : (program : Program) (words : List ℤ) (claims : ℕ × List ℤ → Claimed) (k : ℕ) (i : ℕ × List ℤ) → iteration_at (nest_of program words) k ≡ Some i → claims_numbered program words claims k ≡ claims i
claims_at program words claims k i is = ap (λ (o : Option (ℕ × List ℤ)). option_map_or claims o (no_claims 0)) is

-- the ticket of an iteration
pub ticket-is : (k n : ℕ) (i b : Iteration) (found : List Wait) (waits_at : ℕ → List Wait) → k ≡ n → i ≡ b → found ≡ waits_at k → (let t : Ticket Iteration = record { number = k; body = i; waits = found } in t) ≡ record { number = n; body = b; waits = waits_at n }
ticket-is k n i b found waits_at number same is = let there : found ≡ waits_at n = is ∙ ap waits_at number in λ j. record { number = number j; body = same j; waits = there j }
