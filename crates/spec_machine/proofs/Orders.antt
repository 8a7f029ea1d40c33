-- What the commuting law says of a segment: where nothing conflicts within the distance, and at a commit.
use Rattle.std.proofs.Common.{◌≡◌, ℕ, ◌+◌, ◌<◌, ◌≤◌, ◌⊎◌, ℤ, Bool, true, false, Option, Some, None, IsSome, List, length, refl, sym, ap, ◌∙◌, subst, inl, inr, ⊎_elim, arith}
use Rattle.std.proofs.lemmas.Bool.{cases_eq, cases_lt, cases_order, le-leb, or_left, or_right, true≢false}
use Rattle.nest_syntax.specs.declared.names.Line.{Line}
use Rattle.nest_syntax.specs.declared.operators.Cause.{Cause}
use Rattle.nest_syntax.specs.declared.place.Place.{Place}
use Rattle.nest_syntax.specs.Reads.{Stopped as Ended_at}
use Rattle.nest_syntax.specs.Outcome.{TrappedAt, place_of_trap}
use Rattle.settle_law.specs.Trees.{Tree, turn}
use Rattle.settle_law.specs.Traces.{Access, Read, Write, iteration, Each, Conflict, InOrder, settle, part, IsFinished, IsTrapped, Apart}
use Rattle.settle_law.specs.Claims.{Claims, Covers}
use Rattle.settle_law.specs.Law.{after, accesses, Lawful}
use Rattle.settle_law.specs.Courses.{Nest, family_of, iteration_at, reached, outcome}
use Rattle.settle_law.specs.Reading.{NestKeepsFixed}
use Rattle.settle_law.proofs.Members.{Has, each_at, each_of, has_part}
use Rattle.settle_law.proofs.Claims.{covered}
use Rattle.settle_law.proofs.Commuting.{conflict_comm}
use Rattle.settle_law.proofs.Push.{pairs_map}
use Rattle.settle_law.proofs.Law.{settles, traps, wholes}
use Rattle.settle_law.proofs.Cursors.{followed_keeps}
use Rattle.settle_law.proofs.Nests.{family_turn, reached_after, after_reached, trapped_iteration}
use Rattle.spec_machine.specs.Invocations.{Outside, one_by_one}
use Rattle.spec_machine.specs.Signatures.{ClashAt}
use Rattle.spec_machine.specs.Facts.{Pair}
use Rattle.spec_machine.specs.Machine.{Setup, Seat, Epoch, done_at, saw, pairs, pair_of, is_unordered, overlap_of, sign_at}
use Rattle.spec_machine.specs.Table.{In}
use Rattle.spec_machine.specs.Theorems.{IsSetupFor, words_of}
use Rattle.spec_machine.specs.Invariant.{Plan, plan, Inside, Chain, Done, IsNoted, IsBefore, Sound}
use Rattle.spec_machine.proofs.Lists.{in_pairs}
use Rattle.spec_machine.proofs.Plans.{epochs_rise, in_block, apart_in}

-- the word of an access
abbrev word_of : Access → ℕ
word_of (Read k w value) = w
word_of (Write k w value) = w

clash_of : (claims others : Claims) (a b : Access) → Covers claims a → Covers others b → Conflict a b → ClashAt claims others (word_of b)
clash_of claims others (Read j w value) (Read k u other) mine theirs c = elim c [ ]
clash_of claims others (Read j w value) (Write k u other) mine theirs c = inr (or_left (claims.read u) (claims.written u) (subst (λ x. claims.read x ≡ true) c mine), theirs)
clash_of claims others (Write j w value) (Read k u other) mine theirs c = inl (subst (λ x. claims.written x ≡ true) c mine, or_left (others.read u) (others.written u) theirs)
clash_of claims others (Write j w value) (Write k u other) mine theirs c = inl (subst (λ x. claims.written x ≡ true) c mine, or_right (others.read u) (others.written u) theirs)

passes_test : (test : ℕ → Bool) (a : Access) → Covers (words_of test) a → test (word_of a) ≡ true
passes_test test (Read k w value) covers = covers
passes_test test (Write k w value) covers = covers

module _ {B C P G : Type 0} (m : Setup B C P G) (nest : Nest) (what : B × ℕ → ℕ × List ℤ) (start : C) (noted : G → Claims) (setup : IsSetupFor m nest what start noted) (first next : ℕ) (epochs : List (Epoch B)) (chain : Chain m nest what first next epochs) (known : (k : ℕ) → k < next → IsSome (iteration_at nest k)) (mark words : List ℤ) (marked : reached nest first ≡ Some mark) (seats : List (Seat P G)) (distance : ℕ) (cleared : List Pair) (trap : Option Place) (trace : List Access) (width : length seats ≡ m.width) (i : Sound m nest noted (plan m first next epochs) mark words seats distance cleared trap trace) where
  abbrev pub S : Plan
  S = plan m first next epochs

  abbrev pub family : ℕ → Tree
  family = family_of m.system.fixed nest

  at : (a : Access) → Has a trace → IsNoted m nest noted S seats a
  at a has = each_at (IsNoted m nest noted S seats) trace a i.accesses has

  -- the word of an access is one that iterations touch
  touched_at : (a : Access) → Has a trace → setup.touched (word_of a) ≡ true
  touched_at a has = passes_test setup.touched a (each_at (Covers (words_of setup.touched)) (part (iteration a) trace) a
      (covered (words_of setup.touched) (family (iteration a)) (part (iteration a) trace) (i.fits (iteration a)).0 (setup.inside (iteration a)) (i.fits (iteration a)).1)
      (has_part (iteration a) a trace has refl))

  keeps : NestKeepsFixed m.system.fixed nest
  keeps = followed_keeps m.system nest what (λ (x : B × ℕ). m.entry x.0 x.1) (one_by_one m.event) (Outside start) setup.begins setup.follows

  -- accesses of iterations that are apart don't conflict
  free : (a b : Access) → Has a trace → Has b trace → Apart (family (iteration a)) (family (iteration b)) → Conflict a b → ⊥
  free a b has_a has_b apart c = each_at (λ y. Conflict a y → ⊥) (part (iteration b) trace) b
      (each_at (λ x. Each (λ y. Conflict x y → ⊥) (part (iteration b) trace)) (part (iteration a) trace) a (apart (part (iteration a) trace) (part (iteration b) trace) (i.fits (iteration a)) (i.fits (iteration b))) (has_part (iteration a) a trace has_a refl))
      (has_part (iteration b) b trace has_b refl) c

  -- A trace is in order where no access of a later epoch conflicts with one behind it of an earlier epoch, by another
  -- worker, whose task it didn't see finished.
  in_order : ((a b : Access) → Has a trace → Has b trace → (S.owner (iteration a) ≡ S.owner (iteration b) → ⊥) → S.epoch (iteration b) < S.epoch (iteration a) → saw seats (S.epoch (iteration a)) (S.owner (iteration a)) (S.owner (iteration b)) ≤ S.epoch (iteration b) → Conflict a b → ⊥) → InOrder trace
  in_order clear = pairs_map (IsBefore m nest noted S seats) (λ a b. Conflict a b → iteration a ≤ iteration b) trace (λ a b has_a has_b before c. ⊎_elim
      (λ same. before.own same)
      (λ other. by_epoch a b has_a has_b before c other (cases_order (S.epoch (iteration a)) (S.epoch (iteration b))))
      (cases_eq (S.owner (iteration a)) (S.owner (iteration b)))) i.ordered
    where
      by_epoch : (a b : Access) → Has a trace → Has b trace → IsBefore m nest noted S seats a b → Conflict a b → (S.owner (iteration a) ≡ S.owner (iteration b) → ⊥) → (S.epoch (iteration a) ≡ S.epoch (iteration b)) ⊎ ((S.epoch (iteration a) < S.epoch (iteration b)) ⊎ (S.epoch (iteration b) < S.epoch (iteration a))) → iteration a ≤ iteration b
      by_epoch a b has_a has_b before c other (inl same) = absurd (free a b has_a has_b (apart_in m nest what start noted setup first next epochs chain (iteration a) (iteration b) (at a has_a).inside (at b has_b).inside same other) c)
      by_epoch a b has_a has_b before c other (inr (inl rises)) = ⊎_elim
          (λ (l : iteration b < iteration a). absurd (let e : S.epoch (iteration b) ≤ S.epoch (iteration a) = epochs_rise m nest what epochs (iteration b) (iteration a) (omega arith) in omega arith))
          (λ le. le)
          (cases_lt (iteration b) (iteration a))
      by_epoch a b has_a has_b before c other (inr (inr falls)) = absurd (clear a b has_a has_b other falls (before.unseen falls) c)

  from_first : Each (λ a. first ≤ iteration a) trace
  from_first = each_of (λ a. first ≤ iteration a) trace (λ a has. (at a has).inside.0)

  before_next : Each (λ a. iteration a < next) trace
  before_next = each_of (λ a. iteration a < next) trace (λ a has. (at a has).inside.1)

  abbrev Guarded : Access → Type 0
  Guarded a = (j : ℕ) → first ≤ j → j < iteration a → IsFinished (family j) (part j trace) ⊎ Apart (family j) (family (iteration a))

  lawful_from : InOrder trace → Each Guarded trace → Lawful family nest.opening first mark trace
  lawful_from order guards = record {
    reached = (reached_after m.system.fixed nest setup.opens_fixed keeps first mark marked).0;
    replays = i.replays;
    in_order = order;
    from_m = from_first;
    fits = i.fits;
    guarded = guards;
  }

  -- Where the iterations of two workers in epochs within the distance are apart, the premises of the law hold.
  abbrev pub IsCalm : Type 0
  IsCalm = (j k : ℕ) → Inside S j → Inside S k → (S.owner j ≡ S.owner k → ⊥) → S.epoch j < S.epoch k → S.epoch k ≤ S.epoch j + distance → Apart (family j) (family k)

  pub lawful_calm : IsCalm → Lawful family nest.opening first mark trace
  lawful_calm calm = lawful_from
      (in_order (λ a b has_a has_b other falls unseen c.
      let n : S.epoch (iteration a) ≤ saw seats (S.epoch (iteration a)) (S.owner (iteration a)) (S.owner (iteration b)) + distance = i.near (S.owner (iteration a)) (S.owner (iteration b)) (S.epoch (iteration a)) (at a has_a).own (at b has_b).own (at a has_a).begun in
      free b a has_b has_a (calm (iteration b) (iteration a) (at b has_b).inside (at a has_a).inside (λ same. other (sym same)) falls (omega arith)) (conflict_comm a b c)))
      (each_of Guarded trace (λ a has j low lt. ⊎_elim
      (λ same. inl (each_at (λ b. (j : ℕ) → Inside S j → S.owner j ≡ S.owner (iteration b) → j < iteration b → Done m nest noted S trace j) trace a i.own has j (inside_of a has j low lt) same lt))
      (λ other. by_epoch a has j low lt other (cases_eq (S.epoch j) (S.epoch (iteration a))))
      (cases_eq (S.owner j) (S.owner (iteration a)))))
    where
      inside_of : (a : Access) → Has a trace → (j : ℕ) → first ≤ j → j < iteration a → Inside S j
      inside_of a has j low lt = (low, (let h : iteration a < next = (at a has).inside.1 in omega arith))

      by_epoch : (a : Access) → Has a trace → (j : ℕ) → first ≤ j → j < iteration a → (S.owner j ≡ S.owner (iteration a) → ⊥) → (S.epoch j ≡ S.epoch (iteration a)) ⊎ (S.epoch j ≡ S.epoch (iteration a) → ⊥) → IsFinished (family j) (part j trace) ⊎ Apart (family j) (family (iteration a))
      by_epoch a has j low lt other (inl same) = inr (apart_in m nest what start noted setup first next epochs chain j (iteration a) (inside_of a has j low lt) (at a has).inside same other)
      by_epoch a has j low lt other (inr differs) =
          let rises : S.epoch j ≤ S.epoch (iteration a) = epochs_rise m nest what epochs j (iteration a) (omega arith) in
          let less : S.epoch j < S.epoch (iteration a) = ⊎_elim (λ l. l) (λ (ge : S.epoch (iteration a) ≤ S.epoch j). absurd (differs (let e : S.epoch j ≡ S.epoch (iteration a) = omega arith in e))) (cases_lt (S.epoch j) (S.epoch (iteration a))) in
          ⊎_elim
          (λ (far : S.epoch j + distance < S.epoch (iteration a)).
          let own_j : S.owner j < m.width = (in_block m nest what start noted setup first next epochs chain j (inside_of a has j low lt)).owner in
          let n : S.epoch (iteration a) ≤ saw seats (S.epoch (iteration a)) (S.owner (iteration a)) (S.owner j) + distance = i.near (S.owner (iteration a)) (S.owner j) (S.epoch (iteration a)) (at a has).own own_j (at a has).begun in
          let r : saw seats (S.epoch (iteration a)) (S.owner (iteration a)) (S.owner j) ≤ done_at seats (S.owner j) = i.seen (S.owner (iteration a)) (S.epoch (iteration a)) (S.owner j) in
          inl ((i.crew (S.owner j) own_j).before j (inside_of a has j low lt) refl (omega arith)))
          (λ near. inr (calm j (iteration a) (inside_of a has j low lt) (at a has).inside other less near))
          (cases_lt (S.epoch j + distance) (S.epoch (iteration a)))

  -- at distance 0 it is calm
  pub calm_at_0 : distance ≡ 0 → IsCalm
  calm_at_0 is j k in_j in_k other rises near = absurd (omega (arith, is))

  -- Where an iteration has trapped behind finished ones, the nest traps there.
  pub traps_at : Lawful family nest.opening first mark trace → (n : ℕ) (cause : Cause) (line : Line) → first ≤ n → n < next → ((k : ℕ) → first ≤ k → k < n → Done m nest noted S trace k) → IsTrapped (family n) (part n trace) cause line → outcome nest ≡ TrappedAt (place_of_trap cause line n false)
  traps_at lawful n cause line low high all trapped = go (traps family nest.opening first mark trace lawful n cause line low all trapped)
    where
      at_n : (w last : List ℤ) → after family nest.opening n ≡ Some w → turn (family n) w ≡ Ended_at cause line last → (o : Option (ℕ × List ℤ)) → iteration_at nest n ≡ o → IsSome o → outcome nest ≡ TrappedAt (place_of_trap cause line n false)
      at_n w last before ends None is some = absurd (true≢false (sym some))
      at_n w last before ends (Some x) is some =
          let textual : reached nest n ≡ Some w = sym (after_reached m.system.fixed nest setup.opens_fixed keeps n (λ k l. known k (omega arith))) ∙ before in
          trapped_iteration nest n w x cause line last textual is (sym (family_turn m.system.fixed nest setup.opens_fixed keeps n x w is (reached_after m.system.fixed nest setup.opens_fixed keeps n w textual).1) ∙ ends)

      go : (w : List ℤ) × (after family nest.opening n ≡ Some w) × (turn (family n) w ≡ Ended_at cause line (settle w (part n trace))) × (Each (λ a. iteration a ≤ n) trace → settle w (part n trace) ≡ settle mark trace) → outcome nest ≡ TrappedAt (place_of_trap cause line n false)
      go (w, before, ends, same) = at_n w (settle w (part n trace)) before ends (iteration_at nest n) refl (known n high)

  -- A commit: all tasks are finished, and each unordered pair is passed.
  module _ (all_done : (v : ℕ) → v < m.width → done_at seats v ≡ length epochs) (all_passed : (p : Pair) → In p (pairs m.width (length epochs)) → is_unordered seats p ≡ true → In p cleared) where
    pub no_overlap : (p : Pair) → In p (pairs m.width (length epochs)) → is_unordered seats p ≡ true → overlap_of m seats p ≡ None
    no_overlap p among unordered = (i.passed p (all_passed p among unordered)).apart unordered

    clear : (a b : Access) → Has a trace → Has b trace → (S.owner (iteration a) ≡ S.owner (iteration b) → ⊥) → S.epoch (iteration b) < S.epoch (iteration a) → saw seats (S.epoch (iteration a)) (S.owner (iteration a)) (S.owner (iteration b)) ≤ S.epoch (iteration b) → Conflict a b → ⊥
    clear a b has_a has_b other falls unseen c =
        let p : Pair = pair_of (S.epoch (iteration a)) (S.owner (iteration a)) (S.epoch (iteration b)) (S.owner (iteration b)) in
        let late : S.epoch (iteration a) < length epochs = (in_block m nest what start noted setup first next epochs chain (iteration a) (at a has_a).inside).epoch in
        let among : In (pair_of (S.epoch (iteration a)) (S.owner (iteration a)) (S.epoch (iteration b)) (S.owner (iteration b))) (pairs m.width (length epochs)) = in_pairs m.width (length epochs) (pair_of (S.epoch (iteration a)) (S.owner (iteration a)) (S.epoch (iteration b)) (S.owner (iteration b))) (record { rises = falls; late = late; early_own = (at b has_b).own; late_own = (at a has_a).own; differ = λ same. other (sym same) }) in
        let none : overlap_of m seats (pair_of (S.epoch (iteration a)) (S.owner (iteration a)) (S.epoch (iteration b)) (S.owner (iteration b))) ≡ None = no_overlap (pair_of (S.epoch (iteration a)) (S.owner (iteration a)) (S.epoch (iteration b)) (S.owner (iteration b))) among (le-leb _ _ unseen) in
        let some : IsSome (overlap_of m seats (pair_of (S.epoch (iteration a)) (S.owner (iteration a)) (S.epoch (iteration b)) (S.owner (iteration b)))) = setup.is_kind.clashing (sign_at m seats (record { epoch = S.epoch (iteration b); worker = S.owner (iteration b) })) (sign_at m seats (record { epoch = S.epoch (iteration a); worker = S.owner (iteration a) })) (word_of a) (touched_at a has_a) (clash_of (noted (sign_at m seats (record { epoch = S.epoch (iteration b); worker = S.owner (iteration b) }))) (noted (sign_at m seats (record { epoch = S.epoch (iteration a); worker = S.owner (iteration a) }))) b a (at b has_b).covers (at a has_a).covers (conflict_comm a b c)) in
        true≢false (sym (subst IsSome none some))

    all_finished : (k : ℕ) → first ≤ k → k < next → Done m nest noted S trace k
    all_finished k low high = let b = in_block m nest what start noted setup first next epochs chain k (low, high) in let e : S.epoch k < length epochs = b.epoch in (i.crew (S.owner k) b.owner).before k (low, high) refl (let d : done_at seats (S.owner k) ≡ length epochs = all_done (S.owner k) b.owner in omega arith)

    lawful_commit : Lawful family nest.opening first mark trace
    lawful_commit = lawful_from (in_order clear) (each_of Guarded trace (λ a has j low lt. let h : iteration a < next = (at a has).inside.1 in inl (all_finished j low (omega arith))))

    pub true_words : first ≤ next → reached nest next ≡ Some words
    true_words le = sym (after_reached m.system.fixed nest setup.opens_fixed keeps next known) ∙ settles family nest.opening first mark trace lawful_commit next le all_finished before_next ∙ ap Some i.settles

    pub true_part : (k : ℕ) → first ≤ k → k < next → (before : List ℤ) × (reached nest k ≡ Some before) × (part k trace ≡ accesses k (family k) before)
    true_part k low high = let w = wholes family nest.opening first mark trace lawful_commit next all_finished k low high in (w.0, sym (after_reached m.system.fixed nest setup.opens_fixed keeps k (λ j l. known j (omega arith))) ∙ w.1, w.2)
