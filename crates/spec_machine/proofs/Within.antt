-- The measure of the opening is within the bound.
use Rattle.std.proofs.Common.{◌≡◌, ℕ, zero, suc, ◌+◌, ◌-◌, ◌*◌, ◌<◌, ◌≤◌, not, List, [], ◌∷◌, ◌++◌, length, replicate, refl, sym, ap, ◌∙◌, subst, inl, inr, arith, append_assoc}
use Rattle.std.proofs.lemmas.List.Sums.{sum_by-cons}
use Rattle.std.specs.List.{sum_by, filter}
use Rattle.settle_law.specs.Courses.{Nest, events}
use Rattle.settle_law.proofs.Cursors.{begins}
use Rattle.spec_machine.specs.Invocations.{Within, Outside, one_by_one}
use Rattle.spec_machine.specs.Facts.{Pair}
use Rattle.spec_machine.specs.Machine.{Setup, Seat, Epoch, fresh_seat, seat_at, is_passed, pairs, epoch_at, share_of, from, to, opening}
use Rattle.spec_machine.specs.Table.{In}
use Rattle.spec_machine.specs.Segments.{coming, segments}
use Rattle.spec_machine.specs.Measure.{sum_below, sum_from, iteration_weight, task_weight, tasks_weight, seat_weight, whole_weight, live_weight, coming_weight, pairs_left, segments_weight, costs_of, segment_bound, OpeningIsWithinBound}
use Rattle.spec_machine.proofs.Plans.{share_nothing, share_all, share_rises}
use Rattle.spec_machine.proofs.Due.{fresh_at}
use Rattle.spec_machine.proofs.Courses.{coming_few}

-- sums over numbers one behind the other
sum_split : (f : ℕ → ℕ) (k a b : ℕ) → sum_from f k (a + b) ≡ sum_from f k a + sum_from f (k + a) b
sum_split f k zero b = let x : 0 + b ≡ b = omega arith in let y : k + 0 ≡ k = omega arith in let e : sum_from f k (0 + b) ≡ sum_from f k b = ap (sum_from f k) x in let g : sum_from f (k + 0) b ≡ sum_from f k b = ap (λ n. sum_from f n b) y in let r : sum_from f k (0 + b) ≡ 0 + sum_from f (k + 0) b = omega arith in r
sum_split f k (suc a) b =
    let x : suc a + b ≡ suc (a + b) = omega arith in
    let y : suc k + a ≡ k + suc a = omega arith in
    let e : sum_from f k (suc a + b) ≡ f k + sum_from f (suc k) (a + b) = ap (sum_from f k) x in
    let more : sum_from f (suc k) (a + b) ≡ sum_from f (suc k) a + sum_from f (suc k + a) b = sum_split f (suc k) a b in
    let g : sum_from f (suc k + a) b ≡ sum_from f (k + suc a) b = ap (λ n. sum_from f n b) y in
    let r : sum_from f k (suc a + b) ≡ f k + sum_from f (suc k) a + sum_from f (k + suc a) b = omega arith in
    r

-- a sum over workers of what they have between rising bounds
sum_shares : (f : ℕ → ℕ) (first : ℕ) (begins : ℕ → ℕ) → ((a b : ℕ) → a ≤ b → begins a ≤ begins b) → begins 0 ≡ 0 → (n : ℕ) → sum_below n (λ u. sum_from f (first + begins u) ((first + begins (suc u)) - (first + begins u))) ≡ sum_from f first (begins n)
sum_shares f first begins rises none zero = ap (sum_from f first) (sym none)
sum_shares f first begins rises none (suc n) =
    let l : begins n ≤ begins (suc n) = rises n (suc n) (omega arith) in
    let more : sum_below n (λ u. sum_from f (first + begins u) ((first + begins (suc u)) - (first + begins u))) ≡ sum_from f first (begins n) = sum_shares f first begins rises none n in
    let d : (first + begins (suc n)) - (first + begins n) ≡ begins (suc n) - begins n = omega arith in
    let t : sum_from f (first + begins n) ((first + begins (suc n)) - (first + begins n)) ≡ sum_from f (first + begins n) (begins (suc n) - begins n) = ap (sum_from f (first + begins n)) d in
    let w : begins n + (begins (suc n) - begins n) ≡ begins (suc n) = omega arith in
    let split : sum_from f first (begins n + (begins (suc n) - begins n)) ≡ sum_from f first (begins n) + sum_from f (first + begins n) (begins (suc n) - begins n) = sum_split f first (begins n) (begins (suc n) - begins n) in
    let whole : sum_from f first (begins n + (begins (suc n) - begins n)) ≡ sum_from f first (begins (suc n)) = ap (sum_from f first) w in
    let r : sum_below n (λ u. sum_from f (first + begins u) ((first + begins (suc u)) - (first + begins u))) + sum_from f (first + begins n) ((first + begins (suc n)) - (first + begins n)) ≡ sum_from f first (begins (suc n)) = omega arith in
    r

sum_plus : (n c : ℕ) (f : ℕ → ℕ) → sum_below n (λ u. c + f u) ≡ n * c + sum_below n f
sum_plus zero c f = omega arith
sum_plus (suc n) c f = let more : sum_below n (λ u. c + f u) ≡ n * c + sum_below n f = sum_plus n c f in let x : suc n * c ≡ c + n * c = omega arith in let r : sum_below n (λ u. c + f u) + (c + f n) ≡ suc n * c + (sum_below n f + f n) = omega arith in r

sum_both : (n : ℕ) (f g : ℕ → ℕ) → sum_below n (λ u. f u + g u) ≡ sum_below n f + sum_below n g
sum_both zero f g = omega arith
sum_both (suc n) f g = let more : sum_below n (λ u. f u + g u) ≡ sum_below n f + sum_below n g = sum_both n f g in let r : sum_below n (λ u. f u + g u) + (f n + g n) ≡ sum_below n f + f n + (sum_below n g + g n) = omega arith in r

sum_same : (n : ℕ) (f g : ℕ → ℕ) → ((k : ℕ) → f k ≡ g k) → sum_below n f ≡ sum_below n g
sum_same zero f g each = refl
sum_same (suc n) f g each = let a : sum_below n f ≡ sum_below n g = sum_same n f g each in let b : f n ≡ g n = each n in let r : sum_below n f + f n ≡ sum_below n g + g n = omega arith in r

sum_from_le : (f g : ℕ → ℕ) (k n : ℕ) → ((j : ℕ) → j < n → f (k + j) ≤ g (k + j)) → sum_from f k n ≤ sum_from g k n
sum_from_le f g k zero each = omega arith
sum_from_le f g k (suc n) each =
    let z : k + 0 ≡ k = omega arith in
    let here : f k ≤ g k = subst (λ x. f x ≤ g x) z (each 0 (omega arith)) in
    let more : sum_from f (suc k) n ≤ sum_from g (suc k) n = sum_from_le f g (suc k) n (λ j lt. let y : k + suc j ≡ suc k + j = omega arith in subst (λ x. f x ≤ g x) y (each (suc j) (omega arith))) in
    omega arith

mul_two : (a b : ℕ) → a * (b * 2) ≡ 2 * (a * b)
mul_two zero b = omega arith
mul_two (suc a) b = let more : a * (b * 2) ≡ 2 * (a * b) = mul_two a b in let x : suc a * (b * 2) ≡ b * 2 + a * (b * 2) = omega arith in let y : suc a * b ≡ b + a * b = omega arith in let r : suc a * (b * 2) ≡ 2 * (suc a * b) = omega arith in r

unpassed_all : (xs : List Pair) → length (filter (λ p. not (is_passed [] p)) xs) ≡ length xs
unpassed_all [] = refl
unpassed_all (x ∷ xs) = ap suc (unpassed_all xs)

module _ {B C P G : Type 0} (m : Setup B C P G) (nest : Nest) (some_worker : 0 < m.width) where
  -- the tasks of all workers in one epoch
  abbrev pub epoch_weight : List (Epoch B) → ℕ → ℕ
  epoch_weight epochs e = sum_below m.width (λ u. task_weight m nest epochs e u)

  epoch_is : (epochs : List (Epoch B)) (e : ℕ) → epoch_weight epochs e ≡ m.width * 2 + sum_from (iteration_weight m nest (epoch_at m epochs e)) (epoch_at m epochs e).first (epoch_at m epochs e).count
  epoch_is epochs e =
      let x : Epoch B = epoch_at m epochs e in
      sum_plus m.width 2 (λ u. sum_from (iteration_weight m nest (epoch_at m epochs e)) (from m epochs e u) (to m epochs e u - from m epochs e u))
      ∙ ap (λ n. m.width * 2 + n) (sum_shares (iteration_weight m nest (epoch_at m epochs e)) (epoch_at m epochs e).first (share_of m (epoch_at m epochs e) e) (λ a b le. share_rises (m.doall (epoch_at m epochs e).body) m.width e (epoch_at m epochs e).count a b some_worker le) (share_nothing (m.doall (epoch_at m epochs e).body) m.width e (epoch_at m epochs e).count) m.width
      ∙ ap (sum_from (iteration_weight m nest (epoch_at m epochs e)) (epoch_at m epochs e).first) (share_all (m.doall (epoch_at m epochs e).body) m.width e (epoch_at m epochs e).count some_worker))

  -- by workers, or by epochs
  swapped : (epochs : List (Epoch B)) (e n : ℕ) → sum_below m.width (λ u. sum_from (λ f. task_weight m nest epochs f u) e n) ≡ sum_from (epoch_weight epochs) e n
  swapped epochs e zero = nothing m.width
    where
      nothing : (n : ℕ) → sum_below n (λ u. 0) ≡ 0
      nothing zero = refl
      nothing (suc n) = let r : sum_below n (λ u. 0) ≡ 0 = nothing n in let z : sum_below n (λ u. 0) + 0 ≡ 0 = omega arith in z
  swapped epochs e (suc n) = sum_both m.width (λ u. task_weight m nest epochs e u) (λ u. sum_from (λ f. task_weight m nest epochs f u) (suc e) n) ∙ ap (λ k. epoch_weight epochs e + k) (swapped epochs (suc e) n)

  abbrev pub fresh : List (Seat P G)
  fresh = replicate m.width fresh_seat

  whole_is : (epochs : List (Epoch B)) → whole_weight m nest epochs ≡ m.width + sum_from (epoch_weight epochs) 0 (length epochs)
  whole_is epochs =
      sum_same m.width (λ u. seat_weight m nest epochs u (seat_at fresh u)) (λ u. 1 + tasks_weight m nest epochs u 0) (λ u. ap (λ (x : Seat P G). seat_weight m nest epochs u x) (fresh_at m.width u) ∙ (let z : suc (tasks_weight m nest epochs u 0) ≡ 1 + tasks_weight m nest epochs u 0 = omega arith in z))
      ∙ sum_plus m.width 1 (λ u. tasks_weight m nest epochs u 0)
      ∙ (let a : m.width * 1 ≡ m.width = omega arith in let b : sum_below m.width (λ u. tasks_weight m nest epochs u 0) ≡ sum_from (epoch_weight epochs) 0 (length epochs - 0) = swapped epochs 0 (length epochs - 0) in let c : length epochs - 0 ≡ length epochs = omega arith in let d : sum_from (epoch_weight epochs) 0 (length epochs - 0) ≡ sum_from (epoch_weight epochs) 0 (length epochs) = ap (sum_from (epoch_weight epochs) 0) c in let r : m.width * 1 + sum_below m.width (λ u. tasks_weight m nest epochs u 0) ≡ m.width + sum_from (epoch_weight epochs) 0 (length epochs) = omega arith in r)

  -- the epochs cost what their iterations cost
  module _ (cost : ℕ → ℕ) where
    abbrev pub Covers : List (Epoch B) → Type 0
    Covers epochs = (x : Epoch B) → In x epochs → (j : ℕ) → j < x.count → m.system.fuel (m.entry x.body j) < cost (x.first + j)

    one_costs : (x : Epoch B) → ((j : ℕ) → j < x.count → m.system.fuel (m.entry x.body j) < cost (x.first + j)) → sum_from (iteration_weight m nest x) x.first x.count ≤ sum_from cost x.first x.count
    one_costs x each = sum_from_le (iteration_weight m nest x) cost x.first x.count (λ j lt. let z : j ≡ x.first + j - x.first = omega arith in let l : m.system.fuel (m.entry x.body (x.first + j - x.first)) < cost (x.first + j) = subst (λ k. m.system.fuel (m.entry x.body k) < cost (x.first + j)) z (each j lt) in omega arith)

    -- the epochs from one on, which stand behind others
    costs_from : (before epochs : List (Epoch B)) → Covers epochs → sum_from (epoch_weight (before ++ epochs)) (length before) (length epochs) ≤ length epochs * (m.width * 2) + costs_of m nest cost epochs
    costs_from before [] covers = omega arith
    costs_from before (x ∷ epochs) covers =
        let w : epoch_weight (before ++ x ∷ epochs) (length before) ≡ m.width * 2 + sum_from (iteration_weight m nest (epoch_at m (before ++ x ∷ epochs) (length before))) (epoch_at m (before ++ x ∷ epochs) (length before)).first (epoch_at m (before ++ x ∷ epochs) (length before)).count = epoch_is (before ++ x ∷ epochs) (length before) in
        let here : sum_from (iteration_weight m nest (epoch_at m (before ++ x ∷ epochs) (length before))) (epoch_at m (before ++ x ∷ epochs) (length before)).first (epoch_at m (before ++ x ∷ epochs) (length before)).count ≤ sum_from cost x.first x.count = subst (λ (y : Epoch B). sum_from (iteration_weight m nest y) y.first y.count ≤ sum_from cost x.first x.count) (sym (at_seam before x epochs)) (one_costs x (covers x (inl refl))) in
        let more : sum_from (epoch_weight ((before ++ x ∷ []) ++ epochs)) (length (before ++ x ∷ [])) (length epochs) ≤ length epochs * (m.width * 2) + costs_of m nest cost epochs = costs_from (before ++ x ∷ []) epochs (λ y among. covers y (inr among)) in
        let moved : sum_from (epoch_weight (before ++ x ∷ epochs)) (suc (length before)) (length epochs) ≤ length epochs * (m.width * 2) + costs_of m nest cost epochs = subst (λ l. sum_from (epoch_weight l) (suc (length before)) (length epochs) ≤ length epochs * (m.width * 2) + costs_of m nest cost epochs) (append_assoc before (x ∷ []) epochs) (subst (λ n. sum_from (epoch_weight ((before ++ x ∷ []) ++ epochs)) n (length epochs) ≤ length epochs * (m.width * 2) + costs_of m nest cost epochs) (longer before x) more) in
        let c : costs_of m nest cost (x ∷ epochs) ≡ sum_from cost x.first x.count + costs_of m nest cost epochs = sum_by-cons (λ (y : Epoch B). sum_from cost y.first y.count) x epochs in
        let n : suc (length epochs) * (m.width * 2) ≡ m.width * 2 + length epochs * (m.width * 2) = times_suc (length epochs) (m.width * 2) in
        omega arith
      where
        at_seam : (before : List (Epoch B)) (x : Epoch B) (epochs : List (Epoch B)) → epoch_at m (before ++ x ∷ epochs) (length before) ≡ x
        at_seam [] x epochs = refl
        at_seam (y ∷ before) x epochs = at_seam before x epochs

        longer : (before : List (Epoch B)) (x : Epoch B) → length (before ++ x ∷ []) ≡ suc (length before)
        longer [] x = refl
        longer (y ∷ before) x = ap suc (longer before x)

        times_suc : (a b : ℕ) → suc a * b ≡ b + a * b
        times_suc a b = omega arith

    whole_within : (epochs : List (Epoch B)) → Covers epochs → whole_weight m nest epochs ≤ m.width + length epochs * (m.width * 2) + costs_of m nest cost epochs
    whole_within epochs covers = let a : whole_weight m nest epochs ≡ m.width + sum_from (epoch_weight epochs) 0 (length epochs) = whole_is epochs in let b : sum_from (epoch_weight epochs) 0 (length epochs) ≤ length epochs * (m.width * 2) + costs_of m nest cost epochs = costs_from [] epochs covers in omega arith

    coming_within : (epochs : List (Epoch B)) → Covers epochs → coming_weight m nest epochs ≤ segment_bound m nest cost epochs
    coming_within epochs covers = live m.far
      where
        w : whole_weight m nest epochs ≤ m.width + length epochs * (m.width * 2) + costs_of m nest cost epochs
        w = whole_within epochs covers

        twice : (a b : ℕ) → a * (b * 2) ≡ 2 * (a * b)
        twice a b = mul_two a b

        live : (far : ℕ) → live_weight m nest epochs far fresh [] + 2 ≤ segment_bound m nest cost epochs
        live zero = let t : length epochs * (m.width * 2) ≡ 2 * (length epochs * m.width) = twice (length epochs) m.width in omega (arith, w)
        live (suc far) = let t : length epochs * (m.width * 2) ≡ 2 * (length epochs * m.width) = twice (length epochs) m.width in let p : pairs_left m nest epochs [] ≡ length (pairs m.width (length epochs)) = unpassed_all (pairs m.width (length epochs)) in omega (arith, w)

    all_within : (segments : List (List (Epoch B))) → ((epochs : List (Epoch B)) → In epochs segments → Covers epochs) → sum_by (coming_weight m nest) segments ≤ sum_by (segment_bound m nest cost) segments
    all_within [] covers = omega arith
    all_within (x ∷ segments) covers =
        let a : sum_by (coming_weight m nest) (x ∷ segments) ≡ coming_weight m nest x + sum_by (coming_weight m nest) segments = sum_by-cons (coming_weight m nest) x segments in
        let b : sum_by (segment_bound m nest cost) (x ∷ segments) ≡ segment_bound m nest cost x + sum_by (segment_bound m nest cost) segments = sum_by-cons (segment_bound m nest cost) x segments in
        let c : coming_weight m nest x ≤ segment_bound m nest cost x = coming_within x (covers x (inl refl)) in
        let d : sum_by (coming_weight m nest) segments ≤ sum_by (segment_bound m nest cost) segments = all_within segments (λ epochs among. covers epochs (inr among)) in
        omega arith

-- the measure of the opening is what is coming
opening_is : {B C P G : Type 0} (m : Setup B C P G) (nest : Nest) (start : C) (segments : List (List (Epoch B))) → segments_weight m nest (opening m start nest.opening) segments ≡ sum_by (coming_weight m nest) segments
opening_is m nest start [] = refl
opening_is m nest start (x ∷ segments) = sym (sum_by-cons (coming_weight m nest) x segments)

pub opening_within : (B C P G : Type 0) → OpeningIsWithinBound B C P G
opening_within B C P G m nest what start noted cost setup costs =
    let few : length (coming m nest (length (events nest)) start 0) + 0 ≤ length (events nest) = coming_few m nest what (length (events nest)) [] 0 start (begins (B × ℕ) (Within B C) nest what (one_by_one m.event) (Outside start) setup.follows) in
    let is : segments_weight m nest (opening m start nest.opening) (segments m nest start) ≡ sum_by (coming_weight m nest) (segments m nest start) = opening_is m nest start (segments m nest start) in
    let all : sum_by (coming_weight m nest) (segments m nest start) ≤ sum_by (segment_bound m nest cost) (segments m nest start) = all_within m nest setup.some_worker cost (segments m nest start) (λ epochs among x inside j lt. costs epochs x among inside j lt) in
    omega arith
