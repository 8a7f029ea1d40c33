-- Hulls: the signature of the claims of a task's iterations holds what the task noted.
use Rattle.std.proofs.Common.{◌≡◌, ℕ, zero, suc, ◌+◌, ◌<◌, ◌≤◌, ◌⊎◌, Bool, true, false, if◌then◌else◌, ◌==◌, refl, sym, ◌∙◌, subst, inl, inr, ⊎_elim, arith}
use Rattle.std.proofs.lemmas.Bool.{cases_eq, or_left, or_right, eq-eqb, true≢false}
use Rattle.settle_law.specs.Claims.{Claims, claimed, Clash}
use Rattle.spec_machine.specs.Signatures.{Kind, IsKind, Holds}
use Rattle.spec_machine.specs.Segments.{with_claimed, with_claims, with_iterations}

pub holds_refl : (claims : Claims) → Holds claims claims
holds_refl claims = record { read = λ w r. r; written = λ w r. r }

pub holds_through : (a b c : Claims) → Holds a b → Holds b c → Holds a c
holds_through a b c x y = record { read = λ w r. x.read w (y.read w r); written = λ w r. x.written w (y.written w r) }

module _ {G : Type 0} (kind : Kind G) (noted : G → Claims) {touched : ℕ → Bool} (ok : IsKind kind noted touched) where
  abbrev pub Wider : G → G → Type 0
  Wider sign other = Holds (noted sign) (noted other)

  if_read : (t : Bool) (w : ℕ) (sign : G) → Wider (if t then kind.with_read w sign else sign) sign
  if_read true w sign = record { read = λ u r. ok.read_reads w u sign ∙ or_right (w == u) ((noted sign).read u) r; written = λ u r. ok.read_writes w u sign ∙ r }
  if_read false w sign = holds_refl (noted sign)

  if_written : (t : Bool) (w : ℕ) (sign : G) → Wider (if t then kind.with_written w sign else sign) sign
  if_written true w sign = record { read = λ u r. ok.written_reads w u sign ∙ r; written = λ u r. ok.written_writes w u sign ∙ or_right (w == u) ((noted sign).written u) r }
  if_written false w sign = holds_refl (noted sign)

  one_wider : (c : Claims) (w : ℕ) (sign : G) → Wider (with_claimed kind c w sign) sign
  one_wider c w sign = holds_through _ (noted (if c.read w then kind.with_read w sign else sign)) _ (if_written (c.written w) w (if c.read w then kind.with_read w sign else sign)) (if_read (c.read w) w sign)

  one_reads : (c : Claims) (w : ℕ) (sign : G) → c.read w ≡ true → (noted (with_claimed kind c w sign)).read w ≡ true
  one_reads c w sign is = (if_written (c.written w) w (if c.read w then kind.with_read w sign else sign)).read w (subst (λ t. (noted (if t then kind.with_read w sign else sign)).read w ≡ true) (sym is) (ok.read_reads w w sign ∙ or_left (w == w) ((noted sign).read w) (eq-eqb w w refl)))

  one_writes : (c : Claims) (w : ℕ) (sign : G) → c.written w ≡ true → (noted (with_claimed kind c w sign)).written w ≡ true
  one_writes c w sign is = subst (λ t. (noted (if t then kind.with_written w (if c.read w then kind.with_read w sign else sign) else (if c.read w then kind.with_read w sign else sign))).written w ≡ true) (sym is) (ok.written_writes w w (if c.read w then kind.with_read w sign else sign) ∙ or_left (w == w) ((noted (if c.read w then kind.with_read w sign else sign)).written w) (eq-eqb w w refl))

  all_wider : (c : Claims) (n : ℕ) (sign : G) → Wider (with_claims kind c n sign) sign
  all_wider c zero sign = holds_refl (noted sign)
  all_wider c (suc n) sign = holds_through _ (noted (with_claims kind c n sign)) _ (one_wider c n (with_claims kind c n sign)) (all_wider c n sign)

  all_read : (c : Claims) (n w : ℕ) (sign : G) → w < n → c.read w ≡ true → (noted (with_claims kind c n sign)).read w ≡ true
  all_read c zero w sign lt is = absurd (omega arith)
  all_read c (suc n) w sign lt is = ⊎_elim
      (λ same. subst (λ x. (noted (with_claims kind c (suc n) sign)).read x ≡ true) (sym same) (one_reads c n (with_claims kind c n sign) (subst (λ x. c.read x ≡ true) same is)))
      (λ other. (one_wider c n (with_claims kind c n sign)).read w (all_read c n w sign (omega arith) is))
      (cases_eq w n)

  all_written : (c : Claims) (n w : ℕ) (sign : G) → w < n → c.written w ≡ true → (noted (with_claims kind c n sign)).written w ≡ true
  all_written c zero w sign lt is = absurd (omega arith)
  all_written c (suc n) w sign lt is = ⊎_elim
      (λ same. subst (λ x. (noted (with_claims kind c (suc n) sign)).written x ≡ true) (sym same) (one_writes c n (with_claims kind c n sign) (subst (λ x. c.written x ≡ true) same is)))
      (λ other. (one_wider c n (with_claims kind c n sign)).written w (all_written c n w sign (omega arith) is))
      (cases_eq w n)

  module _ (claims : ℕ → Claims) (size : ℕ) (inside : (k w : ℕ) → claimed (claims k) w ≡ true → w < size) where
    more_wider : (k n : ℕ) → Wider (with_iterations kind claims size k (suc n)) (with_iterations kind claims size k n)
    more_wider k n = all_wider (claims (k + n)) size (with_iterations kind claims size k n)

    -- what an iteration claims is in the signature of any iterations with it
    pub hull_reads : (k n j w : ℕ) → k ≤ j → j < k + n → (claims j).read w ≡ true → (noted (with_iterations kind claims size k n)).read w ≡ true
    hull_reads k zero j w low high is = absurd (omega arith)
    hull_reads k (suc n) j w low high is = ⊎_elim
        (λ same. all_read (claims (k + n)) size w (with_iterations kind claims size k n) (inside j w (or_left ((claims j).read w) ((claims j).written w) is)) (subst (λ x. (claims x).read w ≡ true) same is))
        (λ other. (more_wider k n).read w (hull_reads k n j w low (omega arith) is))
        (cases_eq j (k + n))

    pub hull_writes : (k n j w : ℕ) → k ≤ j → j < k + n → (claims j).written w ≡ true → (noted (with_iterations kind claims size k n)).written w ≡ true
    hull_writes k zero j w low high is = absurd (omega arith)
    hull_writes k (suc n) j w low high is = ⊎_elim
        (λ same. all_written (claims (k + n)) size w (with_iterations kind claims size k n) (inside j w (or_right ((claims j).read w) ((claims j).written w) is)) (subst (λ x. (claims x).written w ≡ true) same is))
        (λ other. (more_wider k n).written w (hull_writes k n j w low (omega arith) is))
        (cases_eq j (k + n))

-- Deciding whether claims clash, and whether some number below n has a property.
pub decide_below : (Q : ℕ → Type 0) → ((k : ℕ) → Q k ⊎ (Q k → ⊥)) → (n : ℕ) → ((k : ℕ) × (k < n) × Q k) ⊎ ((k : ℕ) → k < n → Q k → ⊥)
decide_below Q decide zero = inr (λ k lt q. absurd (omega arith))
decide_below Q decide (suc n) = go (decide n) (decide_below Q decide n)
  where
    go : Q n ⊎ (Q n → ⊥) → ((k : ℕ) × (k < n) × Q k) ⊎ ((k : ℕ) → k < n → Q k → ⊥) → ((k : ℕ) × (k < suc n) × Q k) ⊎ ((k : ℕ) → k < suc n → Q k → ⊥)
    go (inl here) others = inl (n, omega arith, here)
    go (inr none) (inl (k, lt, q)) = inl (k, omega arith, q)
    go (inr none) (inr others) = inr (λ k lt q. ⊎_elim (λ (same : k ≡ n). none (subst Q same q)) (λ other. others k (omega arith) q) (cases_eq k n))

pub decide_both : {Q R : Type 0} → Q ⊎ (Q → ⊥) → R ⊎ (R → ⊥) → (Q × R) ⊎ (Q × R → ⊥)
decide_both (inl q) (inl r) = inl (q, r)
decide_both (inl q) (inr none) = inr (λ both. none both.1)
decide_both (inr none) other = inr (λ both. none both.0)

pub decide_true : (t : Bool) → (t ≡ true) ⊎ (t ≡ true → ⊥)
decide_true true = inl refl
decide_true false = inr (λ is. true≢false (sym is))

decide_either : {Q R : Type 0} → Q ⊎ (Q → ⊥) → R ⊎ (R → ⊥) → (Q ⊎ R) ⊎ (Q ⊎ R → ⊥)
decide_either (inl q) other = inl (inl q)
decide_either (inr none) (inl r) = inl (inr r)
decide_either (inr none) (inr neither) = inr (λ both. ⊎_elim none neither both)

pub decide_clash : (c d : Claims) (size : ℕ) → ((w : ℕ) → claimed c w ≡ true → w < size) → Clash c d ⊎ (Clash c d → ⊥)
decide_clash c d size inside = go (decide_below (λ w. ((c.written w ≡ true) × (claimed d w ≡ true)) ⊎ ((claimed c w ≡ true) × (d.written w ≡ true))) (λ w. decide_either (decide_both (decide_true (c.written w)) (decide_true (claimed d w))) (decide_both (decide_true (claimed c w)) (decide_true (d.written w)))) size)
  where
    low : (w : ℕ) → ((c.written w ≡ true) × (claimed d w ≡ true)) ⊎ ((claimed c w ≡ true) × (d.written w ≡ true)) → w < size
    low w (inl both) = inside w (or_right (c.read w) (c.written w) both.0)
    low w (inr both) = inside w both.0

    go : ((w : ℕ) × (w < size) × (((c.written w ≡ true) × (claimed d w ≡ true)) ⊎ ((claimed c w ≡ true) × (d.written w ≡ true)))) ⊎ ((w : ℕ) → w < size → ((c.written w ≡ true) × (claimed d w ≡ true)) ⊎ ((claimed c w ≡ true) × (d.written w ≡ true)) → ⊥) → Clash c d ⊎ (Clash c d → ⊥)
    go (inl (w, lt, which)) = inl (w, which)
    go (inr none) = inr (λ clash. none clash.0 (low clash.0 clash.1) clash.1)
