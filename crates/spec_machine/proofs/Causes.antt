-- The causes of rollbacks in the nest: what overlaps is to blame, and where a task traps, textual order traps in the segment
-- or two of its tasks clash.
use Rattle.std.proofs.Common.{◌≡◌, ℕ, zero, suc, ◌+◌, ◌-◌, ◌<◌, ◌≤◌, ◌⊎◌, ℤ, true, false, Option, Some, None, IsSome, List, ◌++◌, length, refl, sym, ap, ◌∙◌, subst, inl, inr, ⊎_elim, arith, length-append}
use Rattle.std.proofs.lemmas.Bool.{cases_eq, cases_lt, true≢false}
use Rattle.std.specs.Option.{option_and_then}
use Rattle.nest_syntax.specs.declared.names.Line.{Line}
use Rattle.nest_syntax.specs.declared.operators.Cause.{Cause}
use Rattle.nest_syntax.specs.declared.place.Place.{Place}
use Rattle.nest_syntax.specs.Reads.{Ended, Completed, Stopped as Ended_at, on_words}
use Rattle.nest_syntax.specs.Outcome.{TrappedAt, place_of_trap, completed}
use Rattle.settle_law.specs.Trees.{Tree}
use Rattle.settle_law.specs.Traces.{Access, Read, Write, iteration, part, IsTrapped}
use Rattle.settle_law.specs.Claims.{Claims, Covers, Clash}
use Rattle.settle_law.specs.Law.{Lawful}
use Rattle.settle_law.specs.Courses.{Nest, family_of, iteration_at, reached, outcome}
use Rattle.settle_law.specs.Reading.{NestKeepsFixed}
use Rattle.settle_law.proofs.Cursors.{followed_keeps}
use Rattle.settle_law.proofs.Members.{each_at, has_part}
use Rattle.settle_law.proofs.Claims.{covered, apart-from_claims}
use Rattle.settle_law.proofs.Law.{parts}
use Rattle.settle_law.proofs.Nests.{family_turn, reached_after, trapped_iteration}
use Rattle.spec_machine.specs.Invocations.{Outside, one_by_one}
use Rattle.spec_machine.specs.Signatures.{Holds}
use Rattle.spec_machine.specs.Facts.{Task, Pair}
use Rattle.spec_machine.specs.Machine.{Setup, Seat, Epoch, seat_at, done_at, saw, pairs, pair_of, is_unordered, overlap_of, sign_at, from, to}
use Rattle.spec_machine.specs.Table.{In}
use Rattle.spec_machine.specs.Segments.{IsSegment, IsBlamed, TrapsIn, ClashesIn, hull}
use Rattle.spec_machine.specs.Theorems.{IsSetupFor, AreHeld}
use Rattle.spec_machine.specs.Invariant.{Plan, plan, Inside, IsOf, Chain, Sound}
use Rattle.spec_machine.proofs.Lists.{pairs_in}
use Rattle.spec_machine.proofs.Plans.{in_block}
use Rattle.spec_machine.proofs.Seats.{has_in}
use Rattle.spec_machine.proofs.Sounds.{begun_at}
use Rattle.spec_machine.proofs.Orders.{lawful_calm}
use Rattle.spec_machine.proofs.Segmenting.{chain_among, among_more, from_more}
use Rattle.spec_machine.proofs.Hulls.{hull_reads, hull_writes, decide_below, decide_both, decide_clash}

module _ {B C P G : Type 0} (m : Setup B C P G) (nest : Nest) (what : B × ℕ → ℕ × List ℤ) (start : C) (noted : G → Claims) (setup : IsSetupFor m nest what start noted) (first next : ℕ) (epochs : List (Epoch B)) (chain : Chain m nest what first next epochs) (known : (k : ℕ) → k < next → IsSome (iteration_at nest k)) (mark words : List ℤ) (marked : reached nest first ≡ Some mark) (seats : List (Seat P G)) (distance : ℕ) (cleared : List Pair) (trap : Option Place) (trace : List Access) (width : length seats ≡ m.width) (i : Sound m nest noted (plan m first next epochs) mark words seats distance cleared trap trace) (claims : ℕ → Claims) (size : ℕ) (held : AreHeld m nest claims size) (more : List (Epoch B)) where
  abbrev pub S : Plan
  S = plan m first next epochs

  abbrev pub family : ℕ → Tree
  family = family_of m.system.fixed nest

  -- an access is within the claims of its iteration
  claimed_at : (a : Access) → In a trace → Covers (claims (iteration a)) a
  claimed_at a among = each_at (Covers (claims (iteration a))) (part (iteration a) trace) a (covered (claims (iteration a)) (family (iteration a)) (part (iteration a) trace) (i.fits (iteration a)).0 (held.held (iteration a)) (i.fits (iteration a)).1) (has_part (iteration a) a trace (has_in a trace among) refl)

  -- an iteration of a task is in its block, also among the epochs of the whole segment
  in_task : (e u k : ℕ) → e < length epochs → IsOf S e u k → (from m (epochs ++ more) e u ≤ k) × (k < to m (epochs ++ more) e u)
  in_task e u k lt of =
      let b = in_block m nest what start noted setup first next epochs chain k of.0 in
      let both : (from m epochs e u ≤ k) × (k < to m epochs e u) = subst (λ x. (from m epochs x u ≤ k) × (k < to m epochs x u)) of.1 (subst (λ v. (from m epochs (S.epoch k) v ≤ k) × (k < to m epochs (S.epoch k) v)) of.2 (b.low, b.high)) in
      (subst (λ x. x ≤ k) (sym (from_more m nest what start epochs more e u lt)) both.0, subst (λ x. k < x) (sym (from_more m nest what start epochs more e (suc u) lt)) both.1)

  abbrev hull_of : Task → G
  hull_of t = hull m nest start claims size (epochs ++ more) t

  -- what a task noted is within its hull
  pub within_hull : (t : Task) → t.epoch < length epochs → t.worker < m.width → Holds (noted (hull_of t)) (noted (sign_at m seats t))
  within_hull t lt own = record {
    read = λ w r. let x = (i.told t.epoch t.worker own).read w r in let b = in_task t.epoch t.worker x.0 lt x.2 in
        let low : from m (epochs ++ more) t.epoch t.worker ≤ x.0 = b.0 in let high : x.0 < to m (epochs ++ more) t.epoch t.worker = b.1 in
        hull_reads m.kind noted setup.is_kind claims size held.inside (from m (epochs ++ more) t.epoch t.worker) (to m (epochs ++ more) t.epoch t.worker - from m (epochs ++ more) t.epoch t.worker) x.0 w low (omega arith) (claimed_at (Read x.0 w x.1) x.3);
    written = λ w r. let x = (i.told t.epoch t.worker own).written w r in let b = in_task t.epoch t.worker x.0 lt x.2 in
        let low : from m (epochs ++ more) t.epoch t.worker ≤ x.0 = b.0 in let high : x.0 < to m (epochs ++ more) t.epoch t.worker = b.1 in
        hull_writes m.kind noted setup.is_kind claims size held.inside (from m (epochs ++ more) t.epoch t.worker) (to m (epochs ++ more) t.epoch t.worker - from m (epochs ++ more) t.epoch t.worker) x.0 w low (omega arith) (claimed_at (Write x.0 w x.1) x.3);
  }

  module _ (g : ℕ) (segment : IsSegment m nest start g (epochs ++ more)) (within : distance ≤ m.far) where
    whole_longer : length epochs ≤ length (epochs ++ more)
    whole_longer = let l : length (epochs ++ more) ≡ length epochs + length more = length-append epochs more in omega arith

    -- an unordered pair that overlaps is to blame
    pub overlap_blamed : (p : Pair) (array : ℕ) → In p (pairs m.width (length epochs)) → is_unordered seats p ≡ true → saw seats p.late.epoch p.late.worker p.early.worker ≤ p.early.epoch → p.late.epoch < done_at seats p.late.worker → overlap_of m seats p ≡ Some array → IsBlamed m nest start claims size m.far g p
    overlap_blamed p array among unordered unseen finished overlaps =
        let is = pairs_in m.width (length epochs) p among in
        let late : p.late.epoch < length epochs = is.late in
        let rises : p.early.epoch < p.late.epoch = is.rises in
        record {
          epochs = epochs ++ more;
          segment = segment;
          is_pair = record { rises = is.rises; late = (let l : length epochs ≤ length (epochs ++ more) = whole_longer in omega arith); early_own = is.early_own; late_own = is.late_own; differ = is.differ };
          near = (let b : done_at seats p.late.worker ≤ length (seat_at seats p.late.worker).seen = begun_at m nest what start noted setup first next epochs chain mark words seats distance cleared trap trace width i p.late.worker in let n : p.late.epoch ≤ saw seats p.late.epoch p.late.worker p.early.worker + distance = i.near p.late.worker p.early.worker p.late.epoch is.late_own is.early_own (omega arith) in omega arith);
          overlap = setup.is_kind.more (sign_at m seats p.early) (sign_at m seats p.late) (hull_of p.early) (hull_of p.late) (within_hull p.early (omega arith) is.early_own) (within_hull p.late late is.late_own) (subst IsSome (sym overlaps) refl);
        }

    -- Where an iteration traps in a lawful trace, textual order traps in the segment, at it or before.
    pub record TrapsWithin : Type 0 where
      pub n : ℕ
      pub inside : Inside S n
      pub cause : Cause
      pub line : Line
      pub is_outcome : outcome nest ≡ TrappedAt (place_of_trap cause line n false)

    module _ (lawful : Lawful family nest.opening first mark trace) (k : ℕ) (cause : Cause) (line : Line) (inside_k : Inside S k) (trapped : IsTrapped (family k) (part k trace) cause line) where
      fixed_keeps : NestKeepsFixed m.system.fixed nest
      fixed_keeps = followed_keeps m.system nest what (λ (x : B × ℕ). m.entry x.0 x.1) (one_by_one m.event) (Outside start) setup.begins setup.follows

      -- the end of an iteration that textual order reaches
      at_ended : (n : ℕ) (w : List ℤ) (x : ℕ × List ℤ) → Inside S n → reached nest n ≡ Some w → iteration_at nest n ≡ Some x → (ended : Ended) → on_words nest.sizes (nest.turn x.0 x.1) w ≡ ended → ((last : List ℤ) → reached nest (suc n) ≡ Some last → TrapsWithin) → TrapsWithin
      at_ended n w x inside reach is (Ended_at c l last) ends more = record { n = n; inside = inside; cause = c; line = l; is_outcome = trapped_iteration nest n w x c l last reach is ends }
      at_ended n w x inside reach is (Completed last) ends more = more last (ap (λ o. option_and_then (λ words. option_and_then (λ (y : ℕ × List ℤ). completed (on_words nest.sizes (nest.turn y.0 y.1) words)) (iteration_at nest n)) o) reach ∙ ap (λ o. option_and_then (λ (y : ℕ × List ℤ). completed (on_words nest.sizes (nest.turn y.0 y.1) w)) o) is ∙ ap completed ends)

      at_known : (n : ℕ) (w : List ℤ) → Inside S n → reached nest n ≡ Some w → (o : Option (ℕ × List ℤ)) → iteration_at nest n ≡ o → IsSome o → ((last : List ℤ) → reached nest (suc n) ≡ Some last → TrapsWithin) → TrapsWithin
      at_known n w inside reach None is some more = absurd (true≢false (sym some))
      at_known n w inside reach (Some x) is some more = at_ended n w x inside reach is (on_words nest.sizes (nest.turn x.0 x.1) w) refl more

      -- k itself traps, where textual order reaches it
      at_k : (w : List ℤ) → reached nest k ≡ Some w → (o : Option (ℕ × List ℤ)) → iteration_at nest k ≡ o → IsSome o → TrapsWithin
      at_k w reach None is some = absurd (true≢false (sym some))
      at_k w reach (Some x) is some =
          let r = reached_after m.system.fixed nest setup.opens_fixed fixed_keeps k w reach in
          let t = (parts family nest.opening first mark trace lawful k w inside_k.0 r.0).trapped cause line trapped in
          record { n = k; inside = inside_k; cause = cause; line = line; is_outcome = trapped_iteration nest k w x cause line _ reach is (sym (family_turn m.system.fixed nest setup.opens_fixed fixed_keeps k x w is r.1) ∙ t.1) }

      search : (fuel n : ℕ) (w : List ℤ) → n + fuel ≡ k → first ≤ n → reached nest n ≡ Some w → TrapsWithin
      search zero n w at low reach = let same : n ≡ k = omega arith in at_k w (subst (λ x. reached nest x ≡ Some w) same reach) (iteration_at nest k) refl (known k inside_k.1)
      search (suc fuel) n w at low reach = let h : k < next = inside_k.1 in at_known n w (low, omega arith) reach (iteration_at nest n) refl (known n (omega arith)) (λ last then. search fuel (suc n) last (omega arith) (omega arith) then)

      pub traps_within : TrapsWithin
      traps_within = let l : first ≤ k = inside_k.0 in search (k - first) first mark (omega arith) (omega arith) marked

    -- Two iterations that may clash within the distance.
    abbrev Suspect : ℕ → ℕ → Type 0
    Suspect j k = (first ≤ j) × ((first ≤ k) × ((S.owner j ≡ S.owner k → ⊥) × ((S.epoch j < S.epoch k) × ((S.epoch k ≤ S.epoch j + distance) × Clash (claims j) (claims k)))))

    decide_le : (a b : ℕ) → (a ≤ b) ⊎ (a ≤ b → ⊥)
    decide_le a b = ⊎_elim (λ (l : b < a). inr (λ (le : a ≤ b). omega arith)) (λ le. inl le) (cases_lt b a)

    decide_lt : (a b : ℕ) → (a < b) ⊎ (a < b → ⊥)
    decide_lt a b = ⊎_elim (λ l. inl l) (λ (ge : b ≤ a). inr (λ (l : a < b). omega arith)) (cases_lt a b)

    decide_differ : (a b : ℕ) → (a ≡ b → ⊥) ⊎ ((a ≡ b → ⊥) → ⊥)
    decide_differ a b = ⊎_elim (λ same. inr (λ other. other same)) (λ other. inl other) (cases_eq a b)

    decide_suspect : (j k : ℕ) → Suspect j k ⊎ (Suspect j k → ⊥)
    decide_suspect j k = decide_both (decide_le first j) (decide_both (decide_le first k) (decide_both (decide_differ (S.owner j) (S.owner k)) (decide_both (decide_lt (S.epoch j) (S.epoch k)) (decide_both (decide_le (S.epoch k) (S.epoch j + distance)) (decide_clash (claims j) (claims k) size (held.inside j))))))

    clashes : (j k : ℕ) → j < next → k < next → Suspect j k → ClashesIn m nest start claims m.far g
    clashes j k lj lk (low_j, (low_k, (other, (rises, (near, clash))))) =
        let b = in_block m nest what start noted setup first next epochs chain j (low_j, lj) in
        let c = in_block m nest what start noted setup first next epochs chain k (low_k, lk) in
        let late : S.epoch k < length epochs = c.epoch in
        let early : S.epoch j < length epochs = b.epoch in
        record {
          epochs = epochs ++ more;
          segment = segment;
          pair = pair_of (S.epoch k) (S.owner k) (S.epoch j) (S.owner j);
          is_pair = record { rises = rises; late = (let l : length epochs ≤ length (epochs ++ more) = whole_longer in omega arith); early_own = b.owner; late_own = c.owner; differ = other };
          near = omega arith;
          j = j;
          k = k;
          of_early = in_task (S.epoch j) (S.owner j) j early ((low_j, lj), refl, refl);
          of_late = in_task (S.epoch k) (S.owner k) k late ((low_k, lk), refl, refl);
          clash = clash;
        }

    -- a task that traps
    pub trap_caused : (k : ℕ) (cause : Cause) (line : Line) → Inside S k → IsTrapped (family k) (part k trace) cause line → TrapsIn m nest start g ⊎ ClashesIn m nest start claims m.far g
    trap_caused k cause line inside_k trapped = go (decide_below (λ j. (k : ℕ) × (k < next) × Suspect j k) (λ j. decide_other j) next)
      where
        decide_other : (j : ℕ) → ((k : ℕ) × (k < next) × Suspect j k) ⊎ ((k : ℕ) × (k < next) × Suspect j k → ⊥)
        decide_other j = ⊎_elim (λ found. inl found) (λ none. inr (λ some. none some.0 some.1 some.2)) (decide_below (λ k. Suspect j k) (decide_suspect j) next)

        traps : TrapsWithin → TrapsIn m nest start g
        traps t = record { epochs = epochs ++ more; segment = segment; trap = place_of_trap t.cause t.line t.n false; is_outcome = t.is_outcome; of_iteration = refl; among = among_more epochs more t.n (chain_among m nest what start first next epochs t.n chain t.inside.0 t.inside.1) }

        go : ((j : ℕ) × (j < next) × ((k : ℕ) × (k < next) × Suspect j k)) ⊎ ((j : ℕ) → j < next → ((k : ℕ) × (k < next) × Suspect j k) → ⊥) → TrapsIn m nest start g ⊎ ClashesIn m nest start claims m.far g
        go (inl (j, lj, (n, ln, suspect))) = inr (clashes j n lj ln suspect)
        go (inr none) = inl (traps (traps_within (lawful_calm m nest what start noted setup first next epochs chain known mark words marked seats distance cleared trap trace width i (λ j n in_j in_n other rises near. apart-from_claims (claims j) (claims n) (family j) (family n) (held.held j) (held.held n) (λ clash. none j in_j.1 (n, in_n.1, (in_j.0, (in_n.0, (other, (rises, (near, clash))))))))) k cause line inside_k trapped))
