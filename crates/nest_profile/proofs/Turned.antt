-- A cursor behind some turns of an invocation that was entered.
use Rattle.std.proofs.Common.{◌≡◌, ℕ, zero, suc, ◌+◌, ◌-◌, ◌<◌, ℤ, true, false, Option, Some, None, Result, Ok, List, refl, sym, ap, ◌∙◌, subst, arith}
use Rattle.std.proofs.lemmas.Bool.{lt-ltb, cond-true}
use Rattle.nest_syntax.specs.declared.place.Place.{Place}
use Rattle.nest_syntax.specs.Arrays.{Array}
use Rattle.settle_law.specs.Courses.{Trap}
use Rattle.sched_cursor.specs.declared.node.Invocation.{Invocation}
use Rattle.sched_cursor.specs.declared.node.At.{At}
use Rattle.sched_cursor.specs.declared.node.At.TheVariants as at
use Rattle.sched_cursor.specs.Turning.{has_turn}
use Rattle.sched_cursor.specs.Cursor.{Cursor}
use Rattle.sched_cursor.specs.Events.{after_at, after_event, as_answer, placed, is_inside, is_iterating, handed_at, handed_in, behind_invocation}
use Rattle.nest_profile.specs.Iterations.{turned_at, turned, left_at}

-- turns behind turns
pub turned_more : (c : Cursor) (s j : ℕ) → turned j (turned s c) ≡ turned (s + j) c
turned_more c s zero = let z : s ≡ s + 0 = omega arith in ap (λ n. turned n c) z
turned_more c s (suc j) = let z : suc (s + j) ≡ s + suc j = omega arith in ap (λ (d : Cursor). turned_at d d.at) (turned_more c s j) ∙ ap (λ n. turned n c) z

module _ (c : Cursor) (i : Invocation) where
  -- the invocation, and the cursor, behind n of its turns
  abbrev pub later_in : ℕ → Invocation
  later_in n = record i { turning = record i.turning { turn = i.turning.turn + n } }

  abbrev pub later : ℕ → Cursor
  later n = record c { at = at.Inside (later_in n); next = c.next + n }

  pub turned_is : c.at ≡ at.Inside i → (n : ℕ) → turned n c ≡ later n
  turned_is there zero =
      let t : i.turning.turn ≡ i.turning.turn + 0 = omega arith in
      let k : c.next ≡ c.next + 0 = omega arith in
      λ j. record c { at = (there ∙ ap (λ n. at.Inside (record i { turning = record i.turning { turn = n } })) t) j; next = k j }
  turned_is there (suc n) =
      let t : i.turning.turn + n + 1 ≡ i.turning.turn + suc n = omega arith in
      let k : c.next + n + 1 ≡ c.next + suc n = omega arith in
      ap (λ (d : Cursor). turned_at d d.at) (turned_is there n) ∙ (λ j. record c { at = at.Inside (record i { turning = record i.turning { turn = t j } }); next = k j })

  pub next_turned : c.at ≡ at.Inside i → (n : ℕ) → (turned n c).next ≡ c.next + n
  next_turned there n = ap (λ (d : Cursor). d.next) (turned_is there n)

  pub left_turned : c.at ≡ at.Inside i → (n : ℕ) → left_at (turned n c).at ≡ left_at c.at - n
  left_turned there n =
      let e : i.turning.trips - (i.turning.turn + n) ≡ i.turning.trips - i.turning.turn - n = omega arith in
      ap (λ (d : Cursor). left_at d.at) (turned_is there n) ∙ e ∙ ap (λ a. left_at a - n) (sym there)

  pub inside_turned : c.at ≡ at.Inside i → (n : ℕ) → is_inside (turned n c).at ≡ true
  inside_turned there n = ap (λ (d : Cursor). is_inside d.at) (turned_is there n)

  -- behind all turns only the end of the invocation is left
  pub behind_turned : c.at ≡ at.Inside i → (n : ℕ) → n ≡ left_at c.at → behind_invocation (turned n c) (turned n c).at ≡ behind_invocation c c.at
  behind_turned there n all =
      let left : n ≡ i.turning.trips - i.turning.turn = all ∙ ap left_at there in
      let k : c.next + n + (i.turning.trips - (i.turning.turn + n)) ≡ c.next + (i.turning.trips - i.turning.turn) = omega (arith, left) in
      ap (λ (d : Cursor). behind_invocation d d.at) (turned_is there n)
      ∙ (λ j. record c { at = at.Before i.next; next = k j })
      ∙ sym (ap (behind_invocation c) there)

  pub iterating : c.at ≡ at.Inside i → (n : ℕ) → n < left_at c.at → is_iterating (turned n c).at ≡ true
  iterating there n some =
      let left : n < i.turning.trips - i.turning.turn = subst (λ a. n < left_at a) there some in
      ap (λ (d : Cursor). is_iterating d.at) (turned_is there n) ∙ lt-ltb (i.turning.turn + n) i.turning.trips (omega (arith, left))

  -- what is handed out behind n turns, of which none was passed before
  pub handed_turned : c.at ≡ at.Inside i → i.turning.turn ≡ 0 → (n : ℕ) → handed_at (turned n c) (turned n c).at ≡ handed_in c i n
  handed_turned there fresh n =
      let t : i.turning.turn + n ≡ n = omega (arith, fresh) in
      ap (λ (d : Cursor). handed_at d d.at) (turned_is there n) ∙ ap (handed_in c i) t

-- where an iteration is next, a cursor is inside its invocation
pub entered : (a : At) → is_inside a ≡ true → (i : Invocation) × (a ≡ at.Inside i)
entered (at.Before next) inside = absurd (let no_one : false ≡ true = inside in cc)
entered (at.Inside i) inside = (i, refl)

pub iterating_inside : (a : At) → is_iterating a ≡ true → is_inside a ≡ true
iterating_inside (at.Before next) iterates = iterates
iterating_inside (at.Inside i) iterates = refl

pub some_left : (a : At) → 0 < left_at a → is_inside a ≡ true
some_left (at.Before next) some = absurd (omega arith)
some_left (at.Inside i) some = refl

-- the next turn, as the cursor passes it
passed_at : (arrays : List Array) (c : Cursor) (words : List ℤ) (a : At) → c.at ≡ a → is_iterating a ≡ true → after_event arrays c words ≡ Ok (turned_at c a)
passed_at arrays c words (at.Before next) there iterates = absurd (let no_one : false ≡ true = iterates in cc)
passed_at arrays c words (at.Inside i) there iterates = ap (λ a. after_at arrays c words a) there ∙ ap Ok (cond-true (has_turn i.turning) _ _ iterates)

answered : (answer : Option Place) (later target : Cursor) (n : ℕ) (r : Result Cursor Trap) → r ≡ Ok target → as_answer answer later ≡ placed n r → later ≡ target
answered answer later target n r is moved = by answer (moved ∙ ap (placed n) is)
  where
    by : (answer : Option Place) → as_answer answer later ≡ Ok target → later ≡ target
    by None ok = cc
    by (Some place) ok = absurd (cc)

pub passes : (arrays : List Array) (c later : Cursor) (words : List ℤ) (answer : Option Place) → is_iterating c.at ≡ true → as_answer answer later ≡ placed c.next (after_event arrays c words) → later ≡ turned_at c c.at
passes arrays c later words answer iterates moved = answered answer later (turned_at c c.at) c.next (after_event arrays c words) (passed_at arrays c words c.at refl iterates) moved

-- where turns are left, the cursor is inside the invocation
pub inside_left : (c : Cursor) (n : ℕ) → n < left_at c.at → (i : Invocation) × (c.at ≡ at.Inside i)
inside_left c n some = entered c.at (some_left c.at (omega (arith, some)))

pub iterates_turned : (c d : Cursor) (n : ℕ) → d ≡ turned n c → n < left_at c.at → is_iterating d.at ≡ true
iterates_turned c d n is some = let e = inside_left c n some in subst (λ (x : Cursor). is_iterating x.at ≡ true) (sym is) (iterating c e.0 e.1 n some)

pub counted_turned : (c d : Cursor) (n : ℕ) → d ≡ turned n c → n < left_at c.at → d.next ≡ c.next + n
counted_turned c d n is some = let e = inside_left c n some in ap (λ (x : Cursor). x.next) is ∙ next_turned c e.0 e.1 n

pub turned_on : (c d later : Cursor) (n : ℕ) → d ≡ turned n c → later ≡ turned_at d d.at → later ≡ turned (n + 1) c
turned_on c d later n is on = let one : suc n ≡ n + 1 = omega arith in on ∙ ap (λ (x : Cursor). turned_at x x.at) is ∙ ap (λ k. turned k c) one
