-- The greatest number of the notes that pass a test is a maximum.
use Rattle.std.proofs.Common.{◌≡◌, ℕ, zero, suc, max, ◌<◌, ◌≤◌, Bool, true, false, ◌&&◌, ◌==◌, if◌then◌else◌, Option, Some, None, List, [], ◌∷◌, refl, sym, subst, arith, ⊎_elim}
use Rattle.std.specs.List.{Contains}
use Rattle.std.proofs.lemmas.Bool.{eqb-true, eq-eqb, ne_eqb, and_parts, and_from, cond-false, cases_lt}
use Rattle.addr_slice.specs.Claims.{Claimed, IsEven, clash}
use Rattle.addr_slice.proofs.Clashes.{tells_clash}
use Rattle.shadow_memory.specs.Notes.{Note, later, greatest}
use Rattle.shadow_memory.specs.Laws.{Conflicts, IsGreatest, NeedsAreGreatest}

module _ (P : Note → Bool) where
  -- the greatest number of those that pass
  abbrev IsMost : List Note → Option ℕ → Type 0
  IsMost notes None = (note : Note) → Contains notes note → P note ≡ true → ⊥
  IsMost notes (Some n) = ((note : Note) × Contains notes note × (P note ≡ true) × (note.number ≡ n)) × ((note : Note) → Contains notes note → P note ≡ true → note.number ≤ n)

  there : (first : Note) (notes : List Note) (note : Note) → Contains notes note → Contains (first ∷ notes) note
  there first notes note (k, less, is) = (suc k, omega arith, is)

  -- a note of the longer list is the first, or of the rest
  by_place : (Q : Note → Type 0) (first : Note) (notes : List Note) → Q first → ((note : Note) → Contains notes note → Q note) → (note : Note) → Contains (first ∷ notes) note → Q note
  by_place Q first notes here rest note (zero, less, is) = subst Q is here
  by_place Q first notes here rest note (suc k, less, is) = rest note (k, omega arith, is)

  with_first : (first : Note) (notes : List Note) → P first ≡ true → (o : Option ℕ) → IsMost notes o → IsMost (first ∷ notes) (later (Some first.number) o)
  with_first first notes passes None none = (
    (first, (zero, omega arith, refl), passes, refl),
    by_place (λ note. P note ≡ true → note.number ≤ first.number) first notes (λ _. omega arith) (λ note among is. absurd (none note among is)),
  )
  with_first first notes passes (Some m) most = (
    ⊎_elim
        (λ (less : m < first.number). (first, (zero, omega arith, refl), passes, let e : first.number ≡ max first.number m = omega arith in e))
        (λ (past : first.number ≤ m). (most.0.0, there first notes most.0.0 most.0.1, most.0.2, let is : most.0.0.number ≡ m = most.0.3 in let e : most.0.0.number ≡ max first.number m = omega arith in e))
        (cases_lt m first.number),
    by_place (λ note. P note ≡ true → note.number ≤ max first.number m) first notes (λ _. omega arith) (λ note among is. let le : note.number ≤ m = most.1 note among is in omega arith),
  )

  without_first : (first : Note) (notes : List Note) → P first ≡ false → (o : Option ℕ) → IsMost notes o → IsMost (first ∷ notes) o
  without_first first notes fails None none = by_place (λ note. P note ≡ true → ⊥) first notes (λ is. absurd (cc)) none
  without_first first notes fails (Some m) most = (
    (most.0.0, there first notes most.0.0 most.0.1, most.0.2, most.0.3),
    by_place (λ note. P note ≡ true → note.number ≤ m) first notes (λ is. absurd (cc)) most.1,
  )

  most : (notes : List Note) → IsMost notes (greatest P notes)
  most [] = λ note among is. let less : among.0 < 0 = among.1 in absurd (omega arith)
  most (first ∷ notes) = go (P first) refl (most notes)
    where
      go : (t : Bool) → P first ≡ t → IsMost notes (greatest P notes) → IsMost (first ∷ notes) (if t then later (Some first.number) (greatest P notes) else greatest P notes)
      go true is rest = with_first first notes is (greatest P notes) rest
      go false is rest = without_first first notes is (greatest P notes) rest

module _ (claims : Claimed) (even : IsEven claims) (other : ℕ) where
  abbrev conflicts : Note → Bool
  conflicts note = (note.worker == other) && clash claims note.claims

  told : (note : Note) → conflicts note ≡ true → Conflicts claims other note
  told note is = record {
    own = eqb-true note.worker other (and_parts (note.worker == other) (clash claims note.claims) is).0;
    clash = (tells_clash claims note.claims even).0 (and_parts (note.worker == other) (clash claims note.claims) is).1;
  }

  found : (note : Note) → Conflicts claims other note → conflicts note ≡ true
  found note conflict = and_from (note.worker == other) (clash claims note.claims) (eq-eqb note.worker other conflict.own) ((tells_clash claims note.claims even).1 conflict.clash)

  is_greatest : (notes : List Note) (o : Option ℕ) → IsMost conflicts notes o → IsGreatest notes claims other o
  is_greatest notes None none = λ note among conflict. none note among (found note conflict)
  is_greatest notes (Some n) most = (
    (most.0.0, most.0.1, told most.0.0 most.0.2, most.0.3),
    λ note among conflict. most.1 note among (found note conflict),
  )

pub needs_are_greatest : NeedsAreGreatest
needs_are_greatest notes claims even worker other apart =
    subst (IsGreatest notes claims other) (sym (cond-false (other == worker) None (greatest (conflicts claims even other) notes) (ne_eqb other worker apart)))
    (is_greatest claims even other notes (greatest (conflicts claims even other) notes) (most (conflicts claims even other) notes))
