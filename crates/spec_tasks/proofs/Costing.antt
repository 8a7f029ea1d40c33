-- Where costs bound the fuel of each iteration of a nest that an invocation may begin with, they bound all that a cursor
-- hands out.
use Rattle.std.proofs.Common.{◌≡◌, ℕ, zero, suc, ◌+◌, ◌<◌, ℤ, Bool, true, false, if◌then◌else◌, ◌==◌, Option, Some, None, List, [], ◌∷◌, ◌++◌, length, refl, subst, ⊎_elim, arith}
use Rattle.std.specs.Option.{option_map_or}
use Rattle.nest_syntax.specs.Among.{Each}
use Rattle.nest_syntax.specs.Outcome.{Event as Passed, Computes as Computed, Drains as Drained}
use Rattle.nest_syntax.proofs.Inductions.{each_both}
use Rattle.settle_law.specs.Courses.{Nest, Trap, Follows, Onward, AtEvent, events, iteration_at, reached}
use Rattle.settle_law.proofs.Cursors as cursors
use Rattle.spec_machine.specs.Invocations.{Event, End, Scalar, Drain, Invoke, Within, Outside, single, one_by_one}
use Rattle.spec_machine.specs.Machine.{Setup, Epoch}
use Rattle.spec_machine.specs.Table.{In}
use Rattle.spec_machine.specs.Segments.{Coming, Computes, Drains, Invokes, behind_trap, cut_off, segments_of, coming_from, coming, segments}
use Rattle.spec_machine.specs.Measure.{Costs}
use Rattle.spec_machine.proofs.Courses.{BehindNow, crossed, event_says}

each_in : {A : Type 0} (P : A → Type 0) (xs : List A) (x : A) → Each P xs → In x xs → P x
each_in P [] x each among = elim among [ ]
each_in P (y ∷ xs) x each among = ⊎_elim (λ same. subst P same each.0) (λ later. each_in P xs x each.1 later) among

module _ {B C P G : Type 0} (m : Setup B C P G) (nest : Nest) (what : B × ℕ → ℕ × List ℤ) (cost : ℕ → ℕ) (bounds : (b : B) (j k : ℕ) → iteration_at nest k ≡ Some (what (b, j)) → m.system.fuel (m.entry b j) < cost k) where
  abbrev EpochCosts : Epoch B → Type 0
  EpochCosts x = (j : ℕ) → j < x.count → m.system.fuel (m.entry x.body j) < cost (x.first + j)

  abbrev ComingCosts : Coming B → Type 0
  ComingCosts Computes = Unit {0}
  ComingCosts Drains = Unit {0}
  ComingCosts (Invokes x) = EpochCosts x

  behind_costs : (trap : Option Trap) (others : List (Coming B)) → (trap ≡ None → Each ComingCosts others) → Each ComingCosts (behind_trap trap others)
  behind_costs None others all = all refl
  behind_costs (Some trap) others all = tt

  coming_costs : (most : ℕ) (passed : List Passed) (next : ℕ) (cursor : C) → BehindNow m nest what passed next (Outside cursor) → Each ComingCosts (coming m nest most cursor next)
  coming_costs zero passed next cursor behind = tt
  coming_costs (suc most) passed next cursor behind = by (m.event cursor) (event_says m nest what passed next cursor (m.event cursor) behind refl) (λ p n c b. coming_costs most p n c b)
    where
      by : (e : Event B C) → AtEvent nest what (one_by_one m.event) passed next (single e) → ((p : List Passed) (n : ℕ) (c : C) → BehindNow m nest what p n (Outside c) → Each ComingCosts (coming m nest most c n)) → Each ComingCosts (coming_from m nest (coming m nest most) next e)
      by End at rest = tt
      by (Scalar purpose trap after) (scalars, onward) rest = (
        tt,
        behind_costs trap (coming m nest most after next)
            (λ none. rest (passed ++ Computed purpose scalars ∷ []) next after (subst (λ t. Onward nest what (one_by_one m.event) passed next (Computed purpose scalars) t (Outside after)) none onward)),
      )
      by (Drain purpose trap after) (scalars, each) rest = by_words (reached nest next) refl
        where
          by_words : (o : Option (List ℤ)) → reached nest next ≡ o → Each ComingCosts (option_map_or (λ words. Drains ∷ behind_trap (trap words) (coming m nest most (after words) next)) o [])
          by_words None is = tt
          by_words (Some words) is = (
            tt,
            behind_costs (trap words) (coming m nest most (after words) next)
                (λ none. rest (passed ++ Drained purpose scalars ∷ []) next (after words) (subst (λ t. Onward nest what (one_by_one m.event) passed next (Drained purpose scalars) t (Outside (after words))) none (each words is))),
          )
      by (Invoke b n after) at rest =
          let c = crossed m nest what n 0 passed next b after at in
          ((λ j lt. bounds b j (next + j) (let same : 0 + j ≡ j = omega arith in subst (λ x. iteration_at nest (next + j) ≡ Some (what (b, x))) same (c.iterations j lt))), rest c.after (next + n) after c.behind)

  cut_costs : (gathered : List (Epoch B)) → Each EpochCosts gathered → Each (Each EpochCosts) (cut_off gathered)
  cut_costs [] each = tt
  cut_costs (x ∷ gathered) each = (each, tt)

  segments_cost : (room : ℕ) (gathered : List (Epoch B)) (all : List (Coming B)) → Each EpochCosts gathered → Each ComingCosts all → Each (Each EpochCosts) (segments_of room gathered all)
  segments_cost room gathered [] each others = cut_costs gathered each
  segments_cost room gathered (Computes ∷ all) each others = segments_cost room gathered all each others.1
  segments_cost room gathered (Drains ∷ all) each others = each_both (Each EpochCosts) (cut_off gathered) (segments_of room [] all) (cut_costs gathered each) (segments_cost room [] all tt others.1)
  segments_cost room gathered (Invokes x ∷ all) each others = by (length gathered == room) (segments_cost room (x ∷ []) all (others.0, tt) others.1) (segments_cost room (gathered ++ x ∷ []) all (each_both EpochCosts gathered (x ∷ []) each (others.0, tt)) others.1)
    where
      by : (b : Bool) → Each (Each EpochCosts) (segments_of room (x ∷ []) all) → Each (Each EpochCosts) (segments_of room (gathered ++ x ∷ []) all) → Each (Each EpochCosts) (if b then gathered ∷ segments_of room (x ∷ []) all else segments_of room (gathered ++ x ∷ []) all)
      by true begun more = (each, begun)
      by false begun more = more

  pub costs : (start : C) → Follows nest what (one_by_one m.event) (Outside start) nest.course → Costs m nest start cost
  costs start follows epochs x among among_them =
      each_in EpochCosts epochs x
      (each_in (Each EpochCosts) (segments m nest start) epochs
      (segments_cost m.room [] (coming m nest (length (events nest)) start 0) tt (coming_costs (length (events nest)) [] 0 start (cursors.begins (B × ℕ) (Within B C) nest what (one_by_one m.event) (Outside start) follows)))
      among)
      among_them
