-- The open epochs: each iteration is of one task, and those of one worker stand in the order of their epochs.
use Rattle.std.proofs.Common.{◌≡◌, ℕ, zero, suc, ◌+◌, ◌-◌, ◌*◌, ◌/◌, ◌%◌, ◌<◌, ◌≤◌, ℤ, Bool, true, false, if◌then◌else◌, Some, List, [], ◌∷◌, ◌++◌, length, nat_lt, nat_le, refl, sym, ap, ◌∙◌, subst, ⊎_elim, arith}
use Rattle.std.proofs.lemmas.Bool.{cases_lt, cases_eq, cases_Bool, lt-ltb, le-ltb, le-leb, lt-leb, leb-true, leb-false}
use Rattle.std.proofs.lemmas.List.{get_or_append_left}
use Rattle.std.proofs.lemmas.Nat.{mod_below, le-div}
use Rattle.std.proofs.Math.Nat.{mul-div_left, div-mul-le_self, zero-div}
use Rattle.settle_law.specs.Traces.{Apart}
use Rattle.settle_law.specs.Tasks.{Left}
use Rattle.settle_law.specs.Claims.{Claims}
use Rattle.settle_law.specs.Courses.{Nest, family_of, iteration_at, cut_at}
use Rattle.settle_law.proofs.Nests.{family_at}
use Rattle.settle_law.proofs.Tasks.{left_begins}
use Rattle.spec_machine.specs.Machine.{Setup, Epoch, share, epoch_at, share_of, from, to, piece_at}
use Rattle.spec_machine.specs.Theorems.{IsSetupFor}
use Rattle.spec_machine.specs.Invariant.{Plan, plan, epoch_of, holder, owner_of, Inside, IsOf, Chain}

-- shares rise from nothing to all
pub share_nothing : (all : Bool) (width e count : ℕ) → share all width e count 0 ≡ 0
share_nothing true width e count = let z : count * 0 ≡ 0 = omega arith in ap (λ n. n / width) z ∙ zero-div width
share_nothing false width e count = ap (λ t. if t then 0 else count) (le-leb 0 (e % width) (omega arith))

pub share_all : (all : Bool) (width e count : ℕ) → 0 < width → share all width e count width ≡ count
share_all true width e count some = mul-div_left count some
share_all false width e count some = let l : e % width < width = mod_below e width some in ap (λ t. if t then 0 else count) (lt-leb width (e % width) l)

times_more : (count a b : ℕ) → a ≤ b → count * a ≤ count * b
times_more zero a b le = omega arith
times_more (suc count) a b le = let more : count * a ≤ count * b = times_more count a b le in let x : suc count * a ≡ a + count * a = omega arith in let y : suc count * b ≡ b + count * b = omega arith in omega arith

pub share_rises : (all : Bool) (width e count a b : ℕ) → 0 < width → a ≤ b → share all width e count a ≤ share all width e count b
share_rises true width e count a b some le = le-div (count * a / width) (count * b) width some (let l : count * a / width * width ≤ count * a = div-mul-le_self (count * a) width in let n : count * a ≤ count * b = times_more count a b le in omega arith)
share_rises false width e count a b some le = ⊎_elim
    (λ one. subst (λ t. (if t then 0 else count) ≤ (if nat_le b (e % width) then 0 else count)) (sym one) (omega arith))
    (λ two. let g : e % width < a = leb-false _ _ two in let h : nat_le b (e % width) ≡ false = lt-leb b (e % width) (omega arith) in subst (λ t. (if nat_le a (e % width) then 0 else count) ≤ (if t then 0 else count)) (sym h) (subst (λ t. (if t then 0 else count) ≤ count) (sym two) (omega arith)))
    (cases_Bool (nat_le a (e % width)))

-- a loop that isn't DoAll has one worker
pub share_one : (width e count w j : ℕ) → share false width e count w ≤ j → j < share false width e count (suc w) → w ≡ e % width
share_one width e count w j low high = ⊎_elim
    (λ yes. ⊎_elim
    (λ more. absurd (let no : j < 0 = subst (λ t. j < (if t then 0 else count)) more high in omega arith))
    (λ less. let a : w ≤ e % width = leb-true _ _ yes in let b : e % width < suc w = leb-false _ _ less in omega arith)
    (cases_Bool (nat_le (suc w) (e % width))))
    (λ no. absurd (let g : e % width < w = leb-false _ _ no in let a : count ≤ j = subst (λ t. (if t then 0 else count) ≤ j) no low in let b : j < count = subst (λ t. j < (if t then 0 else count)) (lt-leb (suc w) (e % width) (omega arith)) high in omega arith))
    (cases_Bool (nat_le w (e % width)))

-- the holder of a place
pub holds : (begins : ℕ → ℕ) (n j : ℕ) → begins 0 ≤ j → j < begins n → (holder begins n j < n) × (begins (holder begins n j) ≤ j) × (j < begins (suc (holder begins n j)))
holds begins zero j low high = absurd (omega arith)
holds begins (suc w) j low high = ⊎_elim
    (λ yes. subst (λ x. (x < suc w) × (begins x ≤ j) × (j < begins (suc x))) (sym (ap (λ t. if t then w else holder begins w j) yes)) (omega arith, leb-true _ _ yes, high))
    (λ no. let r = holds begins w j low (leb-false _ _ no) in let l : holder begins w j < w = r.0 in subst (λ x. (x < suc w) × (begins x ≤ j) × (j < begins (suc x))) (sym (ap (λ t. if t then w else holder begins w j) no)) (omega arith, r.1, r.2))
    (cases_Bool (nat_le (begins w) j))

pub holder_is : (begins : ℕ → ℕ) (rises : (a b : ℕ) → a ≤ b → begins a ≤ begins b) (n w j : ℕ) → w < n → begins w ≤ j → j < begins (suc w) → holder begins n j ≡ w
holder_is begins rises zero w j lt low high = absurd (omega arith)
holder_is begins rises (suc v) w j lt low high = ⊎_elim
    (λ yes. ap (λ t. if t then v else holder begins v j) yes ∙ ⊎_elim
    (λ less. absurd (let a : begins (suc w) ≤ begins v = rises (suc w) v (omega arith) in let b : begins v ≤ j = leb-true _ _ yes in omega arith))
    (λ ge. let same : v ≡ w = omega arith in same)
    (cases_lt w v))
    (λ no. ap (λ t. if t then v else holder begins v j) no ∙ holder_is begins rises v w j (let b : j < begins v = leb-false _ _ no in ⊎_elim (λ (same : w ≡ v). absurd (let c : begins v ≤ j = subst (λ x. begins x ≤ j) same low in omega arith)) (λ other. omega arith) (cases_eq w v)) low high)
    (cases_Bool (nat_le (begins v) j))

module _ {B C P G : Type 0} (m : Setup B C P G) (nest : Nest) (what : B × ℕ → ℕ × List ℤ) where
  pub chain_le : (first next : ℕ) (epochs : List (Epoch B)) → Chain m nest what first next epochs → first ≤ next
  chain_le first next [] chain = omega (arith, chain)
  chain_le first next (x ∷ epochs) chain = let l : x.first + x.count ≤ next = chain_le (x.first + x.count) next epochs chain.2 in let e : x.first ≡ first = chain.0 in omega arith

  -- an epoch of the chain stands inside it
  pub record IsEpoch (first next : ℕ) (x : Epoch B) : Type 0 where
    pub low : first ≤ x.first
    pub high : x.first + x.count ≤ next
    pub iterations : (j : ℕ) → j < x.count → iteration_at nest (x.first + j) ≡ Some (what (x.body, j))

  pub epoch_ok : (first next : ℕ) (epochs : List (Epoch B)) (e : ℕ) → Chain m nest what first next epochs → e < length epochs → IsEpoch first next (epoch_at m epochs e)
  epoch_ok first next [] e chain lt = absurd (omega arith)
  epoch_ok first next (x ∷ epochs) zero chain lt = record { low = let e : x.first ≡ first = chain.0 in omega arith; high = chain_le (x.first + x.count) next epochs chain.2; iterations = chain.1 }
  epoch_ok first next (x ∷ epochs) (suc e) chain lt = let r = epoch_ok (x.first + x.count) next epochs e chain.2 (omega arith) in record { low = let a : x.first ≡ first = chain.0 in let b : x.first + x.count ≤ (epoch_at m epochs e).first = r.low in omega arith; high = r.high; iterations = r.iterations }

  -- the epoch of an iteration
  pub record Found (epochs : List (Epoch B)) (k : ℕ) : Type 0 where
    pub is_open : epoch_of epochs k < length epochs
    pub low : (epoch_at m epochs (epoch_of epochs k)).first ≤ k
    pub high : k < (epoch_at m epochs (epoch_of epochs k)).first + (epoch_at m epochs (epoch_of epochs k)).count

  abbrev FoundAt : List (Epoch B) → ℕ → ℕ → Type 0
  FoundAt epochs k e = (e < length epochs) × ((epoch_at m epochs e).first ≤ k) × (k < (epoch_at m epochs e).first + (epoch_at m epochs e).count)

  found_at : (first next : ℕ) (epochs : List (Epoch B)) (k : ℕ) → Chain m nest what first next epochs → first ≤ k → k < next → FoundAt epochs k (epoch_of epochs k)
  found_at first next [] k chain low high = absurd (omega (arith, chain))
  found_at first next (x ∷ epochs) k chain low high = ⊎_elim
      (λ here. subst (FoundAt (x ∷ epochs) k) (sym (ap (λ t. if t then 0 else suc (epoch_of epochs k)) (lt-ltb k (x.first + x.count) here))) (omega arith, (let e : x.first ≡ first = chain.0 in omega arith), here))
      (λ (later : x.first + x.count ≤ k). let r = found_at (x.first + x.count) next epochs k chain.2 later high in let l : epoch_of epochs k < length epochs = r.0 in subst (FoundAt (x ∷ epochs) k) (sym (ap (λ t. if t then 0 else suc (epoch_of epochs k)) (le-ltb k (x.first + x.count) later))) (omega arith, r.1, r.2))
      (cases_lt k (x.first + x.count))

  pub found : (first next : ℕ) (epochs : List (Epoch B)) (k : ℕ) → Chain m nest what first next epochs → first ≤ k → k < next → Found epochs k
  found first next epochs k chain low high = let r = found_at first next epochs k chain low high in record { is_open = r.0; low = r.1; high = r.2 }

  pub epoch_is : (first next : ℕ) (epochs : List (Epoch B)) (e k : ℕ) → Chain m nest what first next epochs → e < length epochs → (epoch_at m epochs e).first ≤ k → k < (epoch_at m epochs e).first + (epoch_at m epochs e).count → epoch_of epochs k ≡ e
  epoch_is first next [] e k chain lt low high = absurd (omega arith)
  epoch_is first next (x ∷ epochs) zero k chain lt low high = ap (λ t. if t then 0 else suc (epoch_of epochs k)) (lt-ltb k (x.first + x.count) high)
  epoch_is first next (x ∷ epochs) (suc e) k chain lt low high = let b : x.first + x.count ≤ (epoch_at m epochs e).first = (epoch_ok (x.first + x.count) next epochs e chain.2 (omega arith)).low in ap (λ t. if t then 0 else suc (epoch_of epochs k)) (le-ltb k (x.first + x.count) (omega arith)) ∙ ap suc (epoch_is (x.first + x.count) next epochs e k chain.2 (omega arith) low high)

  pub epochs_rise : (epochs : List (Epoch B)) (j k : ℕ) → j ≤ k → epoch_of epochs j ≤ epoch_of epochs k
  epochs_rise [] j k le = omega arith
  epochs_rise (x ∷ epochs) j k le = ⊎_elim
      (λ here. subst (λ n. n ≤ epoch_of (x ∷ epochs) k) (sym (ap (λ t. if t then 0 else suc (epoch_of epochs j)) (lt-ltb j (x.first + x.count) here))) (omega arith))
      (λ (later : x.first + x.count ≤ j). let more : epoch_of epochs j ≤ epoch_of epochs k = epochs_rise epochs j k le in let a : epoch_of (x ∷ epochs) j ≡ suc (epoch_of epochs j) = ap (λ t. if t then 0 else suc (epoch_of epochs j)) (le-ltb j (x.first + x.count) later) in let b : epoch_of (x ∷ epochs) k ≡ suc (epoch_of epochs k) = ap (λ t. if t then 0 else suc (epoch_of epochs k)) (le-ltb k (x.first + x.count) (omega arith)) in omega arith)
      (cases_lt j (x.first + x.count))

  module _ (start : C) (noted : _ → Claims) (setup : IsSetupFor m nest what start noted) (first next : ℕ) (epochs : List (Epoch B)) (chain : Chain m nest what first next epochs) where
    abbrev pub S : Plan
    S = plan m first next epochs

    rises : (e a b : ℕ) → a ≤ b → share_of m (epoch_at m epochs e) e a ≤ share_of m (epoch_at m epochs e) e b
    rises e a b le = share_rises (m.doall (epoch_at m epochs e).body) m.width e (epoch_at m epochs e).count a b setup.some_worker le

    shares_all : (e : ℕ) → share_of m (epoch_at m epochs e) e m.width ≡ (epoch_at m epochs e).count
    shares_all e = share_all (m.doall (epoch_at m epochs e).body) m.width e (epoch_at m epochs e).count setup.some_worker

    shares_none : (e : ℕ) → share_of m (epoch_at m epochs e) e 0 ≡ 0
    shares_none e = share_nothing (m.doall (epoch_at m epochs e).body) m.width e (epoch_at m epochs e).count

    -- an iteration of a block is of its task
    pub of_block : (e u k : ℕ) → e < length epochs → u < m.width → from m epochs e u ≤ k → k < to m epochs e u → IsOf S e u k
    of_block e u k lt own low high =
        let ok = epoch_ok first next epochs e chain lt in
        let a : first ≤ (epoch_at m epochs e).first = ok.low in
        let b : (epoch_at m epochs e).first + (epoch_at m epochs e).count ≤ next = ok.high in
        let c : share_of m (epoch_at m epochs e) e (suc u) ≤ share_of m (epoch_at m epochs e) e m.width = rises e (suc u) m.width (omega arith) in
        let d : share_of m (epoch_at m epochs e) e m.width ≡ (epoch_at m epochs e).count = shares_all e in
        let is : epoch_of epochs k ≡ e = epoch_is first next epochs e k chain lt (omega arith) (omega arith) in (
          (omega arith, omega arith),
          is,
          ap (λ x. holder (share_of m (epoch_at m epochs x) x) m.width (k - (epoch_at m epochs x).first)) is
              ∙ holder_is (share_of m (epoch_at m epochs e) e) (rises e) m.width u (k - (epoch_at m epochs e).first) own (omega arith) (omega arith),
        )

    -- and each iteration is of the block of its task
    pub record InBlock (k : ℕ) : Type 0 where
      pub epoch : epoch_of epochs k < length epochs
      pub owner : owner_of m epochs k < m.width
      pub low : from m epochs (epoch_of epochs k) (owner_of m epochs k) ≤ k
      pub high : k < to m epochs (epoch_of epochs k) (owner_of m epochs k)

    pub in_block : (k : ℕ) → Inside S k → InBlock k
    in_block k (low, high) =
        let f = found first next epochs k chain low high in
        let e : ℕ = epoch_of epochs k in
        let x : Epoch B = epoch_at m epochs (epoch_of epochs k) in
        let a : (epoch_at m epochs (epoch_of epochs k)).first ≤ k = f.low in
        let b : k < (epoch_at m epochs (epoch_of epochs k)).first + (epoch_at m epochs (epoch_of epochs k)).count = f.high in
        let n : share_of m (epoch_at m epochs (epoch_of epochs k)) (epoch_of epochs k) 0 ≡ 0 = shares_none (epoch_of epochs k) in
        let c : share_of m (epoch_at m epochs (epoch_of epochs k)) (epoch_of epochs k) m.width ≡ (epoch_at m epochs (epoch_of epochs k)).count = shares_all (epoch_of epochs k) in
        let h = holds (share_of m (epoch_at m epochs (epoch_of epochs k)) (epoch_of epochs k)) m.width (k - (epoch_at m epochs (epoch_of epochs k)).first) (omega arith) (omega arith) in
        let l : share_of m (epoch_at m epochs (epoch_of epochs k)) (epoch_of epochs k) (owner_of m epochs k) ≤ k - (epoch_at m epochs (epoch_of epochs k)).first = h.1 in
        let g : k - (epoch_at m epochs (epoch_of epochs k)).first < share_of m (epoch_at m epochs (epoch_of epochs k)) (epoch_of epochs k) (suc (owner_of m epochs k)) = h.2 in
        record { epoch = f.is_open; owner = h.0; low = omega arith; high = omega arith }

    -- the iteration of the nest that it is
    pub iteration_is : (e k : ℕ) → e < length epochs → (epoch_at m epochs e).first ≤ k → k < (epoch_at m epochs e).first + (epoch_at m epochs e).count → iteration_at nest k ≡ Some (what ((epoch_at m epochs e).body, k - (epoch_at m epochs e).first))
    iteration_is e k lt low high =
        let j : (epoch_at m epochs e).first + (k - (epoch_at m epochs e).first) ≡ k = omega arith in
        subst (λ x. iteration_at nest x ≡ Some (what ((epoch_at m epochs e).body, k - (epoch_at m epochs e).first))) j ((epoch_ok first next epochs e chain lt).iterations (k - (epoch_at m epochs e).first) (omega arith))

    -- its first piece has all of it left
    pub piece_begins : (e u k : ℕ) → e < length epochs → u < m.width → from m epochs e u ≤ k → k < to m epochs e u → Left m.system (family_of m.system.fixed nest k) [] (piece_at m epochs e k)
    piece_begins e u k lt own low high =
        let c : share_of m (epoch_at m epochs e) e (suc u) ≤ share_of m (epoch_at m epochs e) e m.width = rises e (suc u) m.width (omega arith) in
        let d : share_of m (epoch_at m epochs e) e m.width ≡ (epoch_at m epochs e).count = shares_all e in
        let at = iteration_is e k lt (omega arith) (omega arith) in
        subst (λ x. Left m.system x [] (piece_at m epochs e k)) (sym (family_at m.system.fixed nest k (what ((epoch_at m epochs e).body, k - (epoch_at m epochs e).first)) at))
        (left_begins _ m.system (cut_at nest (what ((epoch_at m epochs e).body, k - (epoch_at m epochs e).first))) (piece_at m epochs e k) (setup.begins ((epoch_at m epochs e).body, k - (epoch_at m epochs e).first) k at))

    -- iterations of one epoch and of two workers are apart
    pub apart_in : (j k : ℕ) → Inside S j → Inside S k → epoch_of epochs j ≡ epoch_of epochs k → (owner_of m epochs j ≡ owner_of m epochs k → ⊥) → Apart (family_of m.system.fixed nest j) (family_of m.system.fixed nest k)
    apart_in j k inside other same differ = go (epoch_of epochs k) same refl (in_block j inside) (in_block k other)
      where
        by_flag : (e u v : ℕ) → e < length epochs → u < m.width → v < m.width → (u ≡ v → ⊥) → from m epochs e u ≤ j → j < to m epochs e u → from m epochs e v ≤ k → k < to m epochs e v → (flag : Bool) → m.doall (epoch_at m epochs e).body ≡ flag → Apart (family_of m.system.fixed nest j) (family_of m.system.fixed nest k)
        by_flag e u v lt lu lv other low high low_too high_too true is =
            let c : share_of m (epoch_at m epochs e) e (suc u) ≤ share_of m (epoch_at m epochs e) e m.width = rises e (suc u) m.width (omega arith) in
            let c_too : share_of m (epoch_at m epochs e) e (suc v) ≤ share_of m (epoch_at m epochs e) e m.width = rises e (suc v) m.width (omega arith) in
            let d : share_of m (epoch_at m epochs e) e m.width ≡ (epoch_at m epochs e).count = shares_all e in
            let ok = epoch_ok first next epochs e chain lt in
            let jx : (epoch_at m epochs e).first + (j - (epoch_at m epochs e).first) ≡ j = omega arith in
            let kx : (epoch_at m epochs e).first + (k - (epoch_at m epochs e).first) ≡ k = omega arith in
            subst (λ x. Apart (family_of m.system.fixed nest x) (family_of m.system.fixed nest k)) jx
            (subst (λ y. Apart (family_of m.system.fixed nest ((epoch_at m epochs e).first + (j - (epoch_at m epochs e).first))) (family_of m.system.fixed nest y)) kx
            (setup.apart (epoch_at m epochs e).body (epoch_at m epochs e).first (j - (epoch_at m epochs e).first) (k - (epoch_at m epochs e).first) is
            (λ equal. unequal e u v lt lu lv other low high (let s : j ≡ k = omega arith in subst (λ y. from m epochs e v ≤ y) (sym s) low_too) (let s : j ≡ k = omega arith in subst (λ y. y < to m epochs e v) (sym s) high_too))
            (ok.iterations (j - (epoch_at m epochs e).first) (omega arith))
            (ok.iterations (k - (epoch_at m epochs e).first) (omega arith))))
          where
            unequal : (e u v : ℕ) → e < length epochs → u < m.width → v < m.width → (u ≡ v → ⊥) → from m epochs e u ≤ j → j < to m epochs e u → from m epochs e v ≤ j → j < to m epochs e v → ⊥
            unequal e u v lt lu lv other low high low_too high_too = other (sym (of_block e u j lt lu low high).2 ∙ (of_block e v j lt lv low_too high_too).2)
        by_flag e u v lt lu lv other low high low_too high_too false is = absurd (other (one e u j is low high ∙ sym (one e v k is low_too high_too)))
          where
            one : (e w i : ℕ) → m.doall (epoch_at m epochs e).body ≡ false → from m epochs e w ≤ i → i < to m epochs e w → w ≡ e % m.width
            one e w i is low high =
                let a : (epoch_at m epochs e).first + share false m.width e (epoch_at m epochs e).count w ≤ i = subst (λ t. (epoch_at m epochs e).first + share t m.width e (epoch_at m epochs e).count w ≤ i) is low in
                let b : i < (epoch_at m epochs e).first + share false m.width e (epoch_at m epochs e).count (suc w) = subst (λ t. i < (epoch_at m epochs e).first + share t m.width e (epoch_at m epochs e).count (suc w)) is high in
                share_one m.width e (epoch_at m epochs e).count w (i - (epoch_at m epochs e).first) (omega arith) (omega arith)

        go : (e : ℕ) → epoch_of epochs j ≡ e → epoch_of epochs k ≡ e → InBlock j → InBlock k → Apart (family_of m.system.fixed nest j) (family_of m.system.fixed nest k)
        go e at at_too b c = by_flag e (owner_of m epochs j) (owner_of m epochs k) (subst (λ x. x < length epochs) at b.epoch) b.owner c.owner differ
            (subst (λ x. from m epochs x (owner_of m epochs j) ≤ j) at b.low) (subst (λ x. j < to m epochs x (owner_of m epochs j)) at b.high)
            (subst (λ x. from m epochs x (owner_of m epochs k) ≤ k) at_too c.low) (subst (λ x. k < to m epochs x (owner_of m epochs k)) at_too c.high)
            (m.doall (epoch_at m epochs e).body) refl

  -- One epoch more at the end: the old iterations keep their tasks.
  pub chain_push : (first next n : ℕ) (b : B) (epochs : List (Epoch B)) → Chain m nest what first next epochs → ((j : ℕ) → j < n → iteration_at nest (next + j) ≡ Some (what (b, j))) → Chain m nest what first (next + n) (epochs ++ record { first = next; count = n; body = b } ∷ [])
  chain_push first next n b [] chain iterations = (sym chain, iterations, refl)
  chain_push first next n b (x ∷ epochs) chain iterations = (chain.0, chain.1, chain_push (x.first + x.count) next n b epochs chain.2 iterations)

  pub epoch_kept : (epochs : List (Epoch B)) (y : Epoch B) (e : ℕ) → e < length epochs → epoch_at m (epochs ++ y ∷ []) e ≡ epoch_at m epochs e
  epoch_kept epochs y e lt = get_or_append_left epochs (y ∷ []) _ e lt

  pub epoch_old : (first next : ℕ) (epochs : List (Epoch B)) (y : Epoch B) (k : ℕ) → Chain m nest what first next epochs → first ≤ k → k < next → epoch_of (epochs ++ y ∷ []) k ≡ epoch_of epochs k
  epoch_old first next [] y k chain low high = absurd (omega (arith, chain))
  epoch_old first next (x ∷ epochs) y k chain low high = ⊎_elim
      (λ here. ap (λ t. if t then 0 else suc (epoch_of (epochs ++ y ∷ []) k)) (lt-ltb k (x.first + x.count) here) ∙ sym (ap (λ t. if t then 0 else suc (epoch_of epochs k)) (lt-ltb k (x.first + x.count) here)))
      (λ (later : x.first + x.count ≤ k). ap (λ n. if nat_lt k (x.first + x.count) then 0 else suc n) (epoch_old (x.first + x.count) next epochs y k chain.2 later high))
      (cases_lt k (x.first + x.count))

  pub owner_old : (first next : ℕ) (epochs : List (Epoch B)) (y : Epoch B) (k : ℕ) → Chain m nest what first next epochs → first ≤ k → k < next → owner_of m (epochs ++ y ∷ []) k ≡ owner_of m epochs k
  owner_old first next epochs y k chain low high =
      ap (λ e. holder (share_of m (epoch_at m (epochs ++ y ∷ []) e) e) m.width (k - (epoch_at m (epochs ++ y ∷ []) e).first)) (epoch_old first next epochs y k chain low high)
      ∙ ap (λ (x : Epoch B). holder (share_of m x (epoch_of epochs k)) m.width (k - x.first)) (epoch_kept epochs y (epoch_of epochs k) (found first next epochs k chain low high).is_open)

  pub epoch_new : (first next : ℕ) (epochs : List (Epoch B)) (n k : ℕ) (b : B) → Chain m nest what first next epochs → next ≤ k → k < next + n → epoch_of (epochs ++ record { first = next; count = n; body = b } ∷ []) k ≡ length epochs
  epoch_new first next [] n k b chain low high = ap (λ t. if t then 0 else 1) (lt-ltb k (next + n) high)
  epoch_new first next (x ∷ epochs) n k b chain low high =
      let l : x.first + x.count ≤ next = chain_le (x.first + x.count) next epochs chain.2 in
      ap (λ t. if t then 0 else suc (epoch_of (epochs ++ record { first = next; count = n; body = b } ∷ []) k)) (le-ltb k (x.first + x.count) (omega arith)) ∙ ap suc (epoch_new (x.first + x.count) next epochs n k b chain.2 low high)
