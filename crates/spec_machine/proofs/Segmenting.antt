-- How the segments ahead go on: with each event, at a close and at a commit; and where the open epochs stand among them.
use Rattle.std.proofs.Common.{◌≡◌, ℕ, suc, ◌+◌, ◌<◌, ◌≤◌, ◌⊎◌, ℤ, Bool, true, false, if◌then◌else◌, ◌==◌, Option, Some, None, IsSome, List, [], ◌∷◌, ◌++◌, length, slice_get, refl, sym, ap, ◌∙◌, subst, inl, inr, ⊎_elim, arith, append_assoc, append-nil}
use Rattle.std.proofs.lemmas.Bool.{cases_lt, eq-eqb, ne_eqb, true≢false}
use Rattle.std.proofs.lemmas.List.{get_or_append_left}
use Rattle.std.specs.Option.{option_map_or}
use Rattle.nest_syntax.specs.declared.place.Place.{Place}
use Rattle.settle_law.specs.Courses.{Nest, Trap, events, reached}
use Rattle.spec_machine.specs.Invocations.{Event, End, Scalar, Drain, Invoke}
use Rattle.spec_machine.specs.Machine.{Setup, State, Epoch, share_of, from}
use Rattle.spec_machine.specs.Table.{IsCut}
use Rattle.spec_machine.specs.Segments.{Coming, Computes, Drains, Invokes, behind_trap, segments_of, opens_at, IsAmong, coming_from, coming, ahead, segments_ahead, IsSegment}
use Rattle.spec_machine.specs.Invariant.{Chain, Going, SegmentsOk}
use Rattle.spec_machine.proofs.Courses.{coming_is}

-- gathered epochs are the first of the first segment
pub record Gathered {B : Type 0} (room : ℕ) (epochs : List (Epoch B)) (events : List (Coming B)) : Type 0 where
  pub more : List (Epoch B)
  pub others : List (List (Epoch B))
  pub are : segments_of room epochs events ≡ (epochs ++ more) ∷ others

pub gathered : {B : Type 0} (room : ℕ) (x : Epoch B) (epochs : List (Epoch B)) (events : List (Coming B)) → Gathered room (x ∷ epochs) events
gathered room x epochs [] = record { more = []; others = []; are = ap (λ l. (x ∷ l) ∷ []) (sym (append-nil epochs)) }
gathered room x epochs (Computes ∷ events) = let r = gathered room x epochs events in record { more = r.more; others = r.others; are = r.are }
gathered room x epochs (Drains ∷ events) = record { more = []; others = segments_of room [] events; are = ap (λ l. (x ∷ l) ∷ segments_of room [] events) (sym (append-nil epochs)) }
gathered room x epochs (Invokes y ∷ events) = by_room (length (x ∷ epochs) == room) refl (gathered room x (epochs ++ y ∷ []) events)
  where
    by_room : (t : Bool) → (length (x ∷ epochs) == room) ≡ t → Gathered room (x ∷ epochs ++ y ∷ []) events → Gathered room (x ∷ epochs) (Invokes y ∷ events)
    by_room true is r = record { more = []; others = segments_of room (y ∷ []) events; are = ap (λ t. if t then (x ∷ epochs) ∷ segments_of room (y ∷ []) events else segments_of room (x ∷ epochs ++ y ∷ []) events) is ∙ ap (λ l. (x ∷ l) ∷ segments_of room (y ∷ []) events) (sym (append-nil epochs)) }
    by_room false is r = record { more = y ∷ r.more; others = r.others; are = ap (λ t. if t then (x ∷ epochs) ∷ segments_of room (y ∷ []) events else segments_of room (x ∷ epochs ++ y ∷ []) events) is ∙ r.are ∙ ap (λ l. (x ∷ l) ∷ r.others) (append_assoc epochs (y ∷ []) r.more) }

-- a full segment is whole, whatever comes
pub full_whole : {B : Type 0} (room : ℕ) (x : Epoch B) (epochs : List (Epoch B)) (events : List (Coming B)) → length (x ∷ epochs) ≡ room → segments_of room (x ∷ epochs) events ≡ (x ∷ epochs) ∷ segments_of room [] events
full_whole room x epochs [] full = refl
full_whole room x epochs (Computes ∷ events) full = full_whole room x epochs events full
full_whole room x epochs (Drains ∷ events) full = refl
full_whole room x epochs (Invokes y ∷ events) full = ap (λ t. if t then (x ∷ epochs) ∷ segments_of room (y ∷ []) events else segments_of room (x ∷ epochs ++ y ∷ []) events) (eq-eqb (suc (length epochs)) room full)
    ∙ ap (λ t. (x ∷ epochs) ∷ (if t then [] ∷ segments_of room (y ∷ []) events else segments_of room (y ∷ []) events)) (sym (ne_eqb 0 room (λ none. omega (arith, full, none))))

at_length : {A : Type 0} (xs : List A) (y : A) (ys : List A) → slice_get (xs ++ y ∷ ys) (length xs) ≡ Some y
at_length [] y ys = refl
at_length (x ∷ xs) y ys = at_length xs y ys

pub among_more : {B : Type 0} (xs ys : List (Epoch B)) (k : ℕ) → IsAmong xs k → IsAmong (xs ++ ys) k
among_more [] ys k among = absurd among
among_more (x ∷ xs) ys k (inl here) = inl here
among_more (x ∷ xs) ys k (inr later) = inr (among_more xs ys k later)

module _ {B C P G : Type 0} (m : Setup B C P G) (nest : Nest) (what : B × ℕ → ℕ × List ℤ) (start : C) where
  pub chain_among : (first next : ℕ) (epochs : List (Epoch B)) (k : ℕ) → Chain m nest what first next epochs → first ≤ k → k < next → IsAmong epochs k
  chain_among first next [] k chain low high = absurd (omega (arith, chain))
  chain_among first next (x ∷ epochs) k chain low high = ⊎_elim
      (λ here. inl ((let e : x.first ≡ first = chain.0 in omega arith), here))
      (λ later. inr (chain_among (x.first + x.count) next epochs k chain.2 later high))
      (cases_lt k (x.first + x.count))

  -- what is ahead while the scheduler has no trap
  ahead_is : (s : State B C P G) → s.early ≡ None → (going : Going m nest what s.next s.cursor) → (event : Event B C) → m.event s.cursor ≡ event → ahead m nest s.early s.cursor s.next ≡ coming_from m nest (coming m nest (length (events nest))) s.next event
  ahead_is s none going event is = ap (λ e. ahead m nest e s.cursor s.next) none ∙ coming_is m nest what going.events s.next s.cursor going.behind ∙ ap (coming_from m nest (coming m nest (length (events nest))) s.next) is

  -- behind an event that computes
  pub scalar_ahead : (s : State B C P G) → s.early ≡ None → (going : Going m nest what s.next s.cursor) → (purpose : _) (trap : Option Trap) (rest : C) → m.event s.cursor ≡ Scalar purpose trap rest → (gathered_now : List (Epoch B)) → segments_ahead m nest s.early s.cursor s.next gathered_now ≡ segments_of m.room gathered_now (behind_trap trap (coming m nest (length (events nest)) rest s.next))
  scalar_ahead s none going purpose trap rest is gathered_now = ap (segments_of m.room gathered_now) (ahead_is s none going (Scalar purpose trap rest) is)

  pub drain_ahead : (s : State B C P G) (words : List ℤ) → s.early ≡ None → (going : Going m nest what s.next s.cursor) → (purpose : _) (trap : List ℤ → Option Trap) (rest : List ℤ → C) → m.event s.cursor ≡ Drain purpose trap rest → reached nest s.next ≡ Some words → segments_ahead m nest s.early s.cursor s.next [] ≡ segments_of m.room [] (behind_trap (trap words) (coming m nest (length (events nest)) (rest words) s.next))
  drain_ahead s words none going purpose trap rest is reach = ap (segments_of m.room []) (ahead_is s none going (Drain purpose trap rest) is ∙ ap (λ o. option_map_or (λ w. Drains ∷ behind_trap (trap w) (coming m nest (length (events nest)) (rest w) s.next)) o []) reach)

  pub open_ahead : (s : State B C P G) → s.early ≡ None → (going : Going m nest what s.next s.cursor) → (b : B) (n : ℕ) (rest : C) → m.event s.cursor ≡ Invoke b n rest → length s.epochs < m.room → segments_ahead m nest s.early s.cursor s.next s.epochs ≡ segments_of m.room (s.epochs ++ record { first = s.next; count = n; body = b } ∷ []) (coming m nest (length (events nest)) rest (s.next + n))
  open_ahead s none going b n rest is lt = ap (segments_of m.room s.epochs) (ahead_is s none going (Invoke b n rest) is)
      ∙ ap (λ t. if t then s.epochs ∷ segments_of m.room (record { first = s.next; count = n; body = b } ∷ []) (coming m nest (length (events nest)) rest (s.next + n)) else segments_of m.room (s.epochs ++ record { first = s.next; count = n; body = b } ∷ []) (coming m nest (length (events nest)) rest (s.next + n))) (ne_eqb (length s.epochs) m.room (λ same. omega arith))

  -- a segment that is closed is whole
  pub close_whole : (s : State B C P G) (x : Epoch B) (epochs : List (Epoch B)) → (s.early ≡ None → Going m nest what s.next s.cursor) → (length (x ∷ epochs) ≡ m.room) ⊎ (IsCut m s (m.event s.cursor) ⊎ IsSome s.early) → segments_ahead m nest s.early s.cursor s.next (x ∷ epochs) ≡ (x ∷ epochs) ∷ segments_ahead m nest s.early s.cursor s.next []
  close_whole s x epochs course (inl full) = full_whole m.room x epochs (ahead m nest s.early s.cursor s.next) full
  close_whole s x epochs course (inr why) = by_early s.early refl why
    where
      none_ahead : ahead m nest s.early s.cursor s.next ≡ [] → segments_ahead m nest s.early s.cursor s.next (x ∷ epochs) ≡ (x ∷ epochs) ∷ segments_ahead m nest s.early s.cursor s.next []
      none_ahead none = ap (segments_of m.room (x ∷ epochs)) none ∙ ap (λ l. (x ∷ epochs) ∷ segments_of m.room [] l) (sym none)

      by_event : s.early ≡ None → (event : Event B C) → m.event s.cursor ≡ event → IsCut m s event → segments_ahead m nest s.early s.cursor s.next (x ∷ epochs) ≡ (x ∷ epochs) ∷ segments_ahead m nest s.early s.cursor s.next []
      by_event none End is cut = none_ahead (ahead_is s none (course none) End is)
      by_event none (Scalar purpose trap rest) is cut = absurd cut
      by_event none (Drain purpose trap rest) is cut = go (reached nest s.next) (ahead_is s none (course none) (Drain purpose trap rest) is)
        where
          go : (o : Option (List ℤ)) → ahead m nest s.early s.cursor s.next ≡ option_map_or (λ w. Drains ∷ behind_trap (trap w) (coming m nest (length (events nest)) (rest w) s.next)) o [] → segments_ahead m nest s.early s.cursor s.next (x ∷ epochs) ≡ (x ∷ epochs) ∷ segments_ahead m nest s.early s.cursor s.next []
          go None at = none_ahead at
          go (Some w) at = ap (segments_of m.room (x ∷ epochs)) at ∙ ap (λ l. (x ∷ epochs) ∷ segments_of m.room [] l) (sym at)
      by_event none (Invoke b n rest) is cut = absurd cut

      by_early : (early : Option Place) → s.early ≡ early → IsCut m s (m.event s.cursor) ⊎ IsSome s.early → segments_ahead m nest s.early s.cursor s.next (x ∷ epochs) ≡ (x ∷ epochs) ∷ segments_ahead m nest s.early s.cursor s.next []
      by_early (Some trap) is why = none_ahead (ap (λ e. ahead m nest e s.cursor s.next) is)
      by_early None is (inl cut) = by_event is (m.event s.cursor) refl cut
      by_early None is (inr some) = absurd (true≢false (sym (subst IsSome is some)))

  -- The open epochs begin the segment of the nest with the number of commits so far.
  pub record Present (s : State B C P G) (first : ℕ) : Type 0 where
    pub more : List (Epoch B)
    pub segment : IsSegment m nest start s.facts.segments (s.epochs ++ more)

  pub present : (s : State B C P G) (first : ℕ) → 0 < length s.epochs → Chain m nest what first s.next s.epochs → IsSome (reached nest first) → SegmentsOk m nest what start s → Present s first
  present s first some chain reach ok = go s.epochs refl chain
    where
      go : (epochs : List (Epoch B)) → s.epochs ≡ epochs → Chain m nest what first s.next epochs → Present s first
      go [] is chained = absurd (let l : length s.epochs ≡ 0 = ap length is in omega arith)
      go (x ∷ epochs) is chained =
          let g = gathered m.room x epochs (ahead m nest s.early s.cursor s.next) in
          let are : segments_ahead m nest s.early s.cursor s.next s.epochs ≡ ((x ∷ epochs) ++ g.more) ∷ g.others = ap (segments_ahead m nest s.early s.cursor s.next) is ∙ g.are in
          record {
            more = g.more;
            segment = record {
              is_one = ap (λ l. slice_get l s.facts.segments) (ok.are ∙ ap (λ l. ok.committed ++ l) are) ∙ ap (slice_get (ok.committed ++ ((x ∷ epochs) ++ g.more) ∷ g.others)) (sym ok.counts) ∙ at_length ok.committed ((x ∷ epochs) ++ g.more) g.others ∙ ap (λ l. Some (l ++ g.more)) (sym is);
              reaches = subst (λ l. IsSome (reached nest (opens_at (l ++ g.more) 0))) (sym is) (subst (λ n. IsSome (reached nest n)) (sym chained.0) reach);
            };
          }

  -- its blocks are those of the open epochs
  pub from_more : (epochs more : List (Epoch B)) (e u : ℕ) → e < length epochs → from m (epochs ++ more) e u ≡ from m epochs e u
  from_more epochs more e u lt = ap (λ (x : Epoch B). x.first + share_of m x e u) (get_or_append_left epochs more _ e lt)
