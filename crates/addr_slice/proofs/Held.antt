-- The claims of a list are in the set that they are put into.
use Rattle.std.proofs.Common.{◌≡◌, ℕ, ◌<◌, Bool, true, false, IsTrue, List, [], ◌∷◌, ◌++◌, set, ⊎_elim, refl, ap, sym, ◌∙◌, arith}
use Rattle.std.proofs.lemmas.Bool.{cases_eq}
use Rattle.std.proofs.lemmas.List.{get_or-set_same, get_or-set_other, length-set}
use Rattle.addr_slice.specs.Claims.{Claim, Claimed, has, is_set, words_of, with_claim, with_claims, IsEven}
use Rattle.addr_slice.proofs.Sets.{is_set-within}

-- what holds of each claim of a list
abbrev pub Each : (Claim → Type 0) → List Claim → Type 0
Each P [] = Unit {0}
Each P (c ∷ list) = P c × Each P list

-- each claim of a list is claimed
abbrev pub AllClaimed : Claimed → List Claim → Type 0
AllClaimed claims list = Each (λ c. IsTrue (has claims c.word c.write)) list

pub Each-append : (P : Claim → Type 0) (first second : List Claim) → Each P first → Each P second → Each P (first ++ second)
Each-append P [] second h k = k
Each-append P (c ∷ first) second h k = (h.0, Each-append P first second h.1 k)

pub Each-first : (P : Claim → Type 0) (first second : List Claim) → Each P (first ++ second) → Each P first
Each-first P [] second h = tt
Each-first P (c ∷ first) second h = (h.0, Each-first P first second h.1)

pub Each-second : (P : Claim → Type 0) (first second : List Claim) → Each P (first ++ second) → Each P second
Each-second P [] second h = h
Each-second P (c ∷ first) second h = Each-second P first second h.1

pub Each-along : (P Q : Claim → Type 0) (list : List Claim) → ((c : Claim) → P c → Q c) → Each P list → Each Q list
Each-along P Q [] go h = tt
Each-along P Q (c ∷ list) go h = (go c h.0, Each-along P Q list go h.1)

pub set-stays : (flags : List Bool) (n k : ℕ) → is_set flags k ≡ true → is_set (set flags n true) k ≡ true
set-stays flags n k is = ⊎_elim
    (λ (e : k ≡ n). ap (is_set (set flags n true)) e ∙ get_or-set_same flags n true false (omega (arith, e, is_set-within flags k is)))
    (λ (apart : k ≡ n → ⊥). get_or-set_other flags n k true false apart ∙ is)
    (cases_eq k n)

has-stays : (claims : Claimed) (n : ℕ) (w : Bool) (k : ℕ) (v : Bool) → has claims k v ≡ true → has (with_claim claims n w) k v ≡ true
has-stays claims n true k true is = set-stays claims.writes n k is
has-stays claims n true k false is = is
has-stays claims n false k true is = is
has-stays claims n false k false is = set-stays claims.reads n k is

stays : (list : List Claim) (claims : Claimed) (k : ℕ) (v : Bool) → has claims k v ≡ true → has (with_claims claims list) k v ≡ true
stays [] claims k v is = is
stays (c ∷ list) claims k v is = stays list (with_claim claims c.word c.write) k v (has-stays claims c.word c.write k v is)

is_there : (claims : Claimed) (n : ℕ) (w : Bool) → IsEven claims → n < words_of claims → has (with_claim claims n w) n w ≡ true
is_there claims n true even h = get_or-set_same claims.writes n true false (omega arith)
is_there claims n false even h = get_or-set_same claims.reads n true false h

pub even_still : (claims : Claimed) (n : ℕ) (w : Bool) → IsEven claims → IsEven (with_claim claims n w)
even_still claims n true even = length-set claims.writes n true ∙ even
even_still claims n false even = even ∙ sym (length-set claims.reads n true)

pub as_many : (claims : Claimed) (n : ℕ) (w : Bool) → words_of (with_claim claims n w) ≡ words_of claims
as_many claims n true = refl
as_many claims n false = length-set claims.reads n true

pub with_claims-even : (list : List Claim) (claims : Claimed) → IsEven claims → IsEven (with_claims claims list)
with_claims-even [] claims even = even
with_claims-even (c ∷ list) claims even = with_claims-even list (with_claim claims c.word c.write) (even_still claims c.word c.write even)

pub claimed-from_list : (list : List Claim) (claims : Claimed) → IsEven claims → Each (λ c. c.word < words_of claims) list → AllClaimed (with_claims claims list) list
claimed-from_list [] claims even h = tt
claimed-from_list (c ∷ list) claims even h =
    let more = with_claim claims c.word c.write in
    let same : words_of more ≡ words_of claims = as_many claims c.word c.write in (
      stays list more c.word c.write (is_there claims c.word c.write even h.0),
      claimed-from_list list more (even_still claims c.word c.write even)
          (Each-along (λ d. d.word < words_of claims) (λ d. d.word < words_of more) list (λ d below. omega (arith, below, same)) h.1),
    )
