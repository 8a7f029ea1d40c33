-- The greatest number of the notes that pass one test or another.
use Rattle.std.proofs.Common.{◌≡◌, ℕ, ◌≤◌, ◌==◌, max, Bool, true, false, ◌&&◌, ◌||◌, if◌then◌else◌, Option, Some, None, List, [], ◌∷◌, refl, ap, ◌∙◌, arith}
use Rattle.std.proofs.lemmas.Bool.{cond-false, and_left, ne_eqb}
use Rattle.shadow_memory.specs.Notes.{Note, later, greatest}
use Rattle.shadow_memory.specs.Accesses.{AreOf}

pub later-none : (a : Option ℕ) → later a None ≡ a
later-none None = refl
later-none (Some n) = refl

-- the greater of two options, each of which has one number more
both_more : (n : ℕ) (a b : Option ℕ) → later (later (Some n) a) (later (Some n) b) ≡ later (Some n) (later a b)
both_more n None None = ap Some (let e : max n n ≡ n = omega arith in e)
both_more n None (Some j) = ap Some (let e : max n (max n j) ≡ max n j = omega arith in e)
both_more n (Some i) None = ap Some (let e : max (max n i) n ≡ max n i = omega arith in e)
both_more n (Some i) (Some j) = ap Some (let e : max (max n i) (max n j) ≡ max n (max i j) = omega arith in e)

first_more : (n : ℕ) (a b : Option ℕ) → later (later (Some n) a) b ≡ later (Some n) (later a b)
first_more n None None = refl
first_more n None (Some j) = refl
first_more n (Some i) None = refl
first_more n (Some i) (Some j) = ap Some (let e : max (max n i) j ≡ max n (max i j) = omega arith in e)

second_more : (n : ℕ) (a b : Option ℕ) → later a (later (Some n) b) ≡ later (Some n) (later a b)
second_more n None b = refl
second_more n (Some i) None = ap Some (let e : max i n ≡ max n i = omega arith in e)
second_more n (Some i) (Some j) = ap Some (let e : max i (max n j) ≡ max n (max i j) = omega arith in e)

pub greatest-or : (P Q : Note → Bool) (notes : List Note) → later (greatest P notes) (greatest Q notes) ≡ greatest (λ note. P note || Q note) notes
greatest-or P Q [] = refl
greatest-or P Q (note ∷ notes) = go (P note) (Q note) (greatest-or P Q notes)
  where
    go : (s t : Bool) → later (greatest P notes) (greatest Q notes) ≡ greatest (λ n. P n || Q n) notes
        → later (if s then later (Some note.number) (greatest P notes) else greatest P notes) (if t then later (Some note.number) (greatest Q notes) else greatest Q notes) ≡ (if s || t then later (Some note.number) (greatest (λ n. P n || Q n) notes) else greatest (λ n. P n || Q n) notes)
    go true true rest = both_more note.number (greatest P notes) (greatest Q notes) ∙ ap (later (Some note.number)) rest
    go true false rest = first_more note.number (greatest P notes) (greatest Q notes) ∙ ap (later (Some note.number)) rest
    go false true rest = second_more note.number (greatest P notes) (greatest Q notes) ∙ ap (later (Some note.number)) rest
    go false false rest = rest

pub greatest-alike : (P Q : Note → Bool) (notes : List Note) → ((note : Note) → P note ≡ Q note) → greatest P notes ≡ greatest Q notes
greatest-alike P Q [] same = refl
greatest-alike P Q (note ∷ notes) same =
    ap (λ t. if t then later (Some note.number) (greatest P notes) else greatest P notes) (same note)
    ∙ ap (λ o. if Q note then later (Some note.number) o else o) (greatest-alike P Q notes same)

pub greatest-none : (P : Note → Bool) (notes : List Note) → ((note : Note) → P note ≡ false) → greatest P notes ≡ None
greatest-none P [] none = refl
greatest-none P (note ∷ notes) none = cond-false (P note) _ _ (none note) ∙ greatest-none P notes none

-- no note is of a worker that there isn't
pub none_of : (workers other : ℕ) (passes : Note → Bool) (notes : List Note) → AreOf workers notes → workers ≤ other → greatest (λ note. (note.worker == other) && passes note) notes ≡ None
none_of workers other passes [] own past = refl
none_of workers other passes (note ∷ notes) own past =
    cond-false ((note.worker == other) && passes note) _ _ (and_left (note.worker == other) (passes note) (ne_eqb note.worker other (λ same. let less = own.0 in absurd (omega arith))))
    ∙ none_of workers other passes notes own.1 past
