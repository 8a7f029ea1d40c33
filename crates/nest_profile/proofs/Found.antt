-- Pairs that were found: in one more segment, and in all segments of a nest. Segments behind the reach of textual order
-- have none.
use Rattle.std.proofs.Common.{◌≡◌, ◌↔◌, ◌⊎◌, ℕ, zero, suc, ◌+◌, ◌<◌, ◌≤◌, ◌==◌, ℤ, Bool, true, false, if◌then◌else◌, Option, Some, None, IsSome, List, [], ◌∷◌, ◌++◌, length, slice_get, refl, sym, ap, subst, inl, inr, ⊎_elim, arith}
use Rattle.std.proofs.lemmas.Bool.{true≢false, cases_lt, ne_eqb}
use Rattle.std.specs.Option.{option_map_or, option_and_then}
use Rattle.nest_syntax.specs.Among.{Each}
use Rattle.settle_law.specs.Claims.{Claims}
use Rattle.settle_law.specs.Courses.{Nest, Trap, reached}
use Rattle.spec_machine.specs.Facts.{Pair}
use Rattle.spec_machine.specs.Machine.{Setup, Epoch}
use Rattle.spec_machine.specs.Invocations.{Event, End, Scalar, Drain, Invoke}
use Rattle.spec_machine.specs.Segments.{Coming, Computes, Drains, Invokes, behind_trap, cut_off, segments_of, coming_from, coming, segments, IsBlamed}
use Rattle.nest_profile.specs.Found.{FoundAt, FoundIn}

-- an invocation that comes is not before this number of an iteration
abbrev pub ComesFrom : {B : Type 0} → ℕ → Coming B → Type 0
ComesFrom next Computes = Unit {0}
ComesFrom next Drains = Unit {0}
ComesFrom next (Invokes x) = next ≤ x.first

abbrev pub OpensFrom : {B : Type 0} → ℕ → List (Epoch B) → Type 0
OpensFrom next [] = Unit {0}
OpensFrom next (x ∷ epochs) = next ≤ x.first

module _ {B C P G : Type 0} (m : Setup B C P G) (nest : Nest) (start : C) (claims : ℕ → Claims) (size : ℕ) where
  abbrev At : List (Epoch B) → Pair → Type 0
  At = FoundAt m nest start claims size

  abbrev In : List (List (Epoch B)) → Pair → Type 0
  In = FoundIn m nest start claims size

  pub left : (first others : List (List (Epoch B))) (p : Pair) → In first p → In (first ++ others) p
  left [] others p found = absurd found
  left (epochs ∷ first) others p (inl here) = inl here
  left (epochs ∷ first) others p (inr later) = inr (left first others p later)

  pub right : (first others : List (List (Epoch B))) (p : Pair) → In others p → In (first ++ others) p
  right [] others p found = found
  right (epochs ∷ first) others p found = inr (right first others p found)

  pub parted : (first others : List (List (Epoch B))) (p : Pair) → In (first ++ others) p → In first p ⊎ In others p
  parted [] others p found = inr found
  parted (epochs ∷ first) others p (inl here) = inl (inl here)
  parted (epochs ∷ first) others p (inr later) = ⊎_elim (λ l. inl (inr l)) (λ r. inr r) (parted first others p later)

  -- segments in which nothing is found may be left out
  pub none_behind : (first others : List (List (Epoch B))) → ((p : Pair) → In others p → ⊥) → (p : Pair) → In (first ++ others) p ↔ In first p
  none_behind first others none p = (λ found. ⊎_elim (λ l. l) (λ r. absurd (none p r)) (parted first others p found), left first others p)

  -- by the number of a segment
  numbered : (list : List (List (Epoch B))) (g : ℕ) (epochs : List (Epoch B)) (p : Pair) → slice_get list g ≡ Some epochs → At epochs p → In list p
  numbered [] g epochs p is found = absurd (let none : None ≡ Some epochs = is in cc)
  numbered (x ∷ list) zero epochs p is found = inl (subst (λ e. At e p) (let same : epochs ≡ x = cc in same) found)
  numbered (x ∷ list) (suc g) epochs p is found = inr (numbered list g epochs p is found)

  record Numbered (list : List (List (Epoch B))) (p : Pair) : Type 0 where
    pub g : ℕ
    pub epochs : List (Epoch B)
    pub is_one : slice_get list g ≡ Some epochs
    pub found : At epochs p

  number_of : (list : List (List (Epoch B))) (p : Pair) → In list p → Numbered list p
  number_of [] p found = absurd found
  number_of (x ∷ list) p (inl here) = record { g = 0; epochs = x; is_one = refl; found = here }
  number_of (x ∷ list) p (inr later) = let n = number_of list p later in record { g = suc n.g; epochs = n.epochs; is_one = n.is_one; found = n.found }

  abbrev Blamed : Pair → Type 0
  Blamed p = (distance g : ℕ) × IsBlamed m nest start claims size distance g p

  pub blamed_is_found : (p : Pair) → Blamed p → In (segments m nest start) p
  blamed_is_found p (distance, g, b) = numbered (segments m nest start) g b.epochs p b.segment.is_one (record { reaches = b.segment.reaches; is_pair = b.is_pair; overlap = b.overlap })

  pub found_is_blamed : (p : Pair) → In (segments m nest start) p → Blamed p
  found_is_blamed p found =
      let n = number_of (segments m nest start) p found in
      (p.late.epoch, n.g, record { epochs = n.epochs; segment = record { is_one = n.is_one; reaches = n.found.reaches }; is_pair = n.found.is_pair; near = omega arith; overlap = n.found.overlap })

  -- what comes behind a cursor
  from_less : (events : List (Coming B)) (next more : ℕ) → next ≤ more → Each (ComesFrom more) events → Each (ComesFrom next) events
  from_less [] next more le each = tt
  from_less (Computes ∷ events) next more le each = (tt, from_less events next more le each.1)
  from_less (Drains ∷ events) next more le each = (tt, from_less events next more le each.1)
  from_less (Invokes x ∷ events) next more le each = (omega (arith, each.0), from_less events next more le each.1)

  module _ (most : ℕ) (more : (cursor : C) (next : ℕ) → Each (ComesFrom next) (coming m nest most cursor next)) (next : ℕ) where
    from_trap : (trap : Option Trap) (rest : C) → Each (ComesFrom next) (behind_trap trap (coming m nest most rest next))
    from_trap None rest = more rest next
    from_trap (Some trap) rest = tt

    from_words : (o : Option (List ℤ)) (traps : List ℤ → Option Trap) (rests : List ℤ → C) → Each (ComesFrom next) (option_map_or (λ words. Drains ∷ behind_trap (traps words) (coming m nest most (rests words) next)) o [])
    from_words None traps rests = tt
    from_words (Some words) traps rests = (tt, from_trap (traps words) (rests words))

    from_event : (event : Event B C) → Each (ComesFrom next) (coming_from m nest (coming m nest most) next event)
    from_event End = tt
    from_event (Scalar purpose trap rest) = (tt, from_trap trap rest)
    from_event (Drain purpose traps rests) = from_words (reached nest next) traps rests
    from_event (Invoke b n rest) = (omega arith, from_less (coming m nest most rest (next + n)) next (next + n) (omega arith) (more rest (next + n)))

  pub comes_from : (most : ℕ) (cursor : C) (next : ℕ) → Each (ComesFrom next) (coming m nest most cursor next)
  comes_from zero cursor next = tt
  comes_from (suc most) cursor next = from_event most (comes_from most) next (m.event cursor)

  -- behind where textual order gets, it gets nowhere
  pub stays_behind : (next n : ℕ) → reached nest next ≡ None → next ≤ n → reached nest n ≡ None
  stays_behind next zero none le = let same : next ≡ 0 = omega (arith, le) in subst (λ k. reached nest k ≡ None) same none
  stays_behind next (suc n) none le = ⊎_elim
      (λ below. ap (option_and_then _) (stays_behind next n none (omega (arith, below))))
      (λ above. let same : next ≡ suc n = omega (arith, above, le) in subst (λ k. reached nest k ≡ None) same none)
      (cases_lt next (suc n))

  pub not_behind : (next n : ℕ) → reached nest next ≡ None → next ≤ n → IsSome (reached nest n) → ⊥
  not_behind next n none le some = true≢false (sym (subst IsSome (stays_behind next n none le) some))

  -- So a segment that begins there has no pair.
  none_at : (next : ℕ) (x : Epoch B) (epochs : List (Epoch B)) (p : Pair) → reached nest next ≡ None → next ≤ x.first → At (x ∷ epochs) p → ⊥
  none_at next x epochs p none le found = not_behind next x.first none le found.reaches

  none_cut : (next : ℕ) (epochs : List (Epoch B)) (p : Pair) → reached nest next ≡ None → OpensFrom next epochs → In (cut_off epochs) p → ⊥
  none_cut next [] p none opens found = absurd found
  none_cut next (x ∷ epochs) p none opens (inl here) = none_at next x epochs p none opens here
  none_cut next (x ∷ epochs) p none opens (inr later) = later

  -- nor has any segment from there on
  pub none_from : (next room : ℕ) (gathered : List (Epoch B)) (events : List (Coming B)) → reached nest next ≡ None → OpensFrom next gathered → 0 < room → Each (ComesFrom next) events → (p : Pair) → In (segments_of room gathered events) p → ⊥
  none_from next room gathered [] none opens some each p = none_cut next gathered p none opens
  none_from next room gathered (Computes ∷ events) none opens some each p = none_from next room gathered events none opens some each.1 p
  none_from next room gathered (Drains ∷ events) none opens some each p = λ found. ⊎_elim (none_cut next gathered p none opens) (none_from next room [] events none tt some each.1 p) (parted (cut_off gathered) (segments_of room [] events) p found)
  none_from next room [] (Invokes x ∷ events) none opens some each p = subst (λ t. In (if t then [] ∷ segments_of room (x ∷ []) events else segments_of room (x ∷ []) events) p → ⊥) (sym (ne_eqb 0 room (λ z. omega (arith, z, some)))) (none_from next room (x ∷ []) events none each.0 some each.1 p)
  none_from next room (y ∷ gathered) (Invokes x ∷ events) none opens some each p = by (length (y ∷ gathered) == room) (none_from next room (x ∷ []) events none each.0 some each.1 p) (none_from next room (y ∷ gathered ++ x ∷ []) events none opens some each.1 p)
    where
      by : (t : Bool) → (In (segments_of room (x ∷ []) events) p → ⊥) → (In (segments_of room (y ∷ gathered ++ x ∷ []) events) p → ⊥) → In (if t then (y ∷ gathered) ∷ segments_of room (x ∷ []) events else segments_of room (y ∷ gathered ++ x ∷ []) events) p → ⊥
      by true later more (inl here) = none_at next y gathered p none opens here
      by true later more (inr found) = later found
      by false later more found = more found
