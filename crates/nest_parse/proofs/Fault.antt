-- Where the machine is stuck is the fault.
use Rattle.std.proofs.Common.{◌≡◌, ℕ, suc, ◌+◌, ◌<◌, Option, Some, None, List, [], ◌∷◌, ◌++◌, length, take, refl, sym, ◌∙◌, ap, subst, arith, append_assoc, length-append}
use Rattle.nest_lex.specs.declared.token.Token.{Token}
use Rattle.nest_parse.specs.Grammar.{BeginProgram, IsFaultAt}
use Rattle.nest_parse.specs.Expected.{stuck, start}
use Rattle.nest_parse.proofs.Complete.{complete}
use Rattle.nest_parse.proofs.Viable.{Stops, stops, begins}

take_front : (front r : List Token) → take (length front) (front ++ r) ≡ front
take_front [] r = refl
take_front (t ∷ ts) r = ap (λ x. t ∷ x) (take_front ts r)

take_one_more : (front : List Token) (t : Token) (us : List Token) → take (suc (length front)) (front ++ t ∷ us) ≡ front ++ t ∷ []
take_one_more [] t us = refl
take_one_more (u ∷ ts) t us = ap (λ x. u ∷ x) (take_one_more ts t us)

none_some : {X : Type 0} {o : Option X} {x : X} → o ≡ None → o ≡ Some x → ⊥
none_some p q = cc

no_longer : (front us : List Token) (t : Token) → ((vs : List Token) → stuck start (front ++ t ∷ vs) ≡ Some (t ∷ vs)) → BeginProgram (front ++ t ∷ []) → ⊥
no_longer front us t local b =
    none_some (complete b.are) (subst (λ ts. stuck start ts ≡ Some (t ∷ b.rest)) (sym (append_assoc front (t ∷ []) b.rest)) (local b.rest))

fault_behind : (front r : List Token) (at : ℕ) → Stops start (front ++ r) r → stuck start (front ++ r) ≡ Some r → at ≡ length front → BeginProgram front
    → ((t : Token) (us vs : List Token) → r ≡ t ∷ us → stuck start (front ++ t ∷ vs) ≡ Some (t ∷ vs)) → IsFaultAt (front ++ r) at
fault_behind front r at st e same begun local = record {
  within = let n = length-append front r in omega arith;
  before = subst BeginProgram (sym (ap (λ n. take n (front ++ r)) same ∙ take_front front r)) begun;
  there = λ less b. after r less b local;
  whole = λ ds ls p. none_some (complete p) e;
} where
  after : (r : List Token) → at < length (front ++ r) → BeginProgram (take (at + 1) (front ++ r))
      → ((t : Token) (us vs : List Token) → r ≡ t ∷ us → stuck start (front ++ t ∷ vs) ≡ Some (t ∷ vs)) → ⊥
  after [] less b local = let n = length-append front [] in absurd (omega arith)
  after (t ∷ us) less b local =
      let one : at + 1 ≡ suc (length front) = omega arith in
      no_longer front us t (λ vs. local t us vs refl) (subst BeginProgram (ap (λ n. take n (front ++ t ∷ us)) one ∙ take_one_more front t us) b)

pub fault_at : (tokens r : List Token) (at : ℕ) → stuck start tokens ≡ Some r → at + length r ≡ length tokens → IsFaultAt tokens at
fault_at tokens r at e n =
    let st = stops start tokens r e in
    let size = length-append st.front r in
    let long = ap length st.split in
    let same : at ≡ length st.front = omega arith in
    let split = sym st.split in
    subst (λ ts. IsFaultAt ts at) split
    (fault_behind st.front r at (subst (λ ts. Stops start ts r) st.split st) (subst (λ ts. stuck start ts ≡ Some r) st.split e) same (begins st.front st.rest st.viable) st.local)
