-- Reading one token.
use Rattle.std.proofs.Common.{◌≡◌, ℕ, ◌<◌, Bool, false, Some, None, Err, List, [], ◌∷◌, refl, sym, ◌∙◌, ap, subst, arith, ne_eqb}
use Rattle.std.specs.Prelude.{nat_le, is_some}
use Rattle.std.proofs.lemmas.Bool.Decides.{nat_tests}
use denote.Enum.Bare.{false_same}
use Rattle.nest_syntax.specs.declared.operators.Bin.{Bin}
use Rattle.nest_lex.specs.declared.token.Keyword.{Keyword}
use Rattle.nest_lex.specs.declared.token.Mark.{Mark}
use Rattle.nest_lex.specs.declared.token.Kind.{Kind}
use Rattle.nest_lex.specs.declared.token.Kind.TheVariants as kind
use Rattle.nest_lex.specs.declared.token.Token.{Token}
use Rattle.nest_lex.specs.contracts.token.Mark.{the_type as mark_type}
use Rattle.nest_lex.specs.contracts.token.Keyword.{the_type as keyword_type}
use Rattle.nest_parse.specs.declared.refused.Stop.{Stop}
use Rattle.nest_parse.specs.Grammar.{greatest, binary, unary, assignment, comparison}
use Rattle.nest_parse.specs.Expected.{next_kind, Expected, This, Word, ThisName, AnyName, AnyNumber, Compare, Assigns, Tail, LoopName, takes, skips, stuck, Reads, IsSign, IsWord, IsTheName, IsName, IsNumber, IsAssignment, IsComparison, TakesOperator, ReadsVariable, TakesNone, is_name, is_mark, is_keyword}
use Rattle.nest_parse.proofs.Complete.{skipped}

-- nothing is passed where what is expected can't be left out and isn't there
pub unmet : (x : Expected) (k : List Expected) (old : List Token) → skips x ≡ false → ((t : Token) (r : List Token) → old ≡ t ∷ r → takes x t.kind k ≡ None) → stuck (x ∷ k) old ≡ Some old
unmet x k [] s none = rw (s, stuck) refl
unmet x k (t ∷ ts) s none = rw (none t ts refl, s, stuck) refl

head_kind : {old : List Token} {k : Kind} {t : Token} {r : List Token} → next_kind old ≡ Some k → old ≡ t ∷ r → k ≡ t.kind
head_kind {old} {k} {t} {r} e o = let h : next_kind (t ∷ r) ≡ Some k = subst (λ ts. next_kind ts ≡ Some k) o e in cc

no_kind : {old : List Token} {t : Token} {r : List Token} → old ≡ t ∷ r → next_kind old ≡ Some t.kind
no_kind {old} {t} {r} o = ap (λ ts. next_kind ts) o

refused_one : {X : Type 0} {Is : List Token → X → List Token → Type 0} (x : Expected) {old : List Token} {e : Stop} → skips x ≡ false
    → ((k : List Expected) (t : Token) (r : List Token) → old ≡ t ∷ r → takes x t.kind k ≡ None) → Reads Is (λ k. x ∷ k) old old (Err e)
refused_one x {old} s none = record { is = tt; goes = tt; sticks = λ e k. unmet x k old s (none k) }

pub no_mark : {old : List Token} {m : Mark} {e : Stop} → ((found : Mark) → next_kind old ≡ Some (kind.Mark found) → ⊥) → Reads (IsSign m) (λ k. This m ∷ k) old old (Err e)
no_mark {m = m} none = refused_one (This m) refl (λ k t r o. no k t.kind (λ f e. none f (no_kind o ∙ ap Some e))) where
  no : (k : List Expected) (t : Kind) → ((f : Mark) → t ≡ kind.Mark f → ⊥) → takes (This m) t k ≡ None
  no k (kind.Mark f) none = absurd (none f refl)
  no k _ none = refl

pub other_mark : {old : List Token} {m found : Mark} {e : Stop} → next_kind old ≡ Some (kind.Mark found) → (found ≡ m → ⊥) → Reads (IsSign m) (λ k. This m ∷ k) old old (Err e)
other_mark {m = m} {found = found} e ne = refused_one (This m) refl (λ k t r o. no k t.kind (head_kind e o)) where
  no : (k : List Expected) (t : Kind) → kind.Mark found ≡ t → takes (This m) t k ≡ None
  no k (kind.Mark f) p = let same : found ≡ f = cc in rw (false_same mark_type tt m f (λ q. ne (same ∙ sym q))) refl
  no k _ p = cc

pub no_word : {old : List Token} {w : Keyword} {e : Stop} → ((found : Keyword) → next_kind old ≡ Some (kind.Keyword found) → ⊥) → Reads (IsWord w) (λ k. Word w ∷ k) old old (Err e)
no_word {w = w} none = refused_one (Word w) refl (λ k t r o. no k t.kind (λ f e. none f (no_kind o ∙ ap Some e))) where
  no : (k : List Expected) (t : Kind) → ((f : Keyword) → t ≡ kind.Keyword f → ⊥) → takes (Word w) t k ≡ None
  no k (kind.Keyword f) none = absurd (none f refl)
  no k _ none = refl

pub other_word : {old : List Token} {w found : Keyword} {e : Stop} → next_kind old ≡ Some (kind.Keyword found) → (found ≡ w → ⊥) → Reads (IsWord w) (λ k. Word w ∷ k) old old (Err e)
other_word {w = w} {found = found} e ne = refused_one (Word w) refl (λ k t r o. no k t.kind (head_kind e o)) where
  no : (k : List Expected) (t : Kind) → kind.Keyword found ≡ t → takes (Word w) t k ≡ None
  no k (kind.Keyword f) p = let same : found ≡ f = cc in rw (false_same keyword_type tt w f (λ q. ne (same ∙ sym q))) refl
  no k _ p = cc

pub no_this : {old : List Token} {n : ℕ} {e : Stop} → ((found : ℕ) → next_kind old ≡ Some (kind.Name found) → ⊥) → Reads (IsTheName n) (λ k. ThisName n ∷ k) old old (Err e)
no_this {n = n} none = refused_one (ThisName n) refl (λ k t r o. no k t.kind (λ f e. none f (no_kind o ∙ ap Some e))) where
  no : (k : List Expected) (t : Kind) → ((f : ℕ) → t ≡ kind.Name f → ⊥) → takes (ThisName n) t k ≡ None
  no k (kind.Name f) none = absurd (none f refl)
  no k _ none = refl

pub other_name : {old : List Token} {n found : ℕ} {e : Stop} → next_kind old ≡ Some (kind.Name found) → (found ≡ n → ⊥) → Reads (IsTheName n) (λ k. ThisName n ∷ k) old old (Err e)
other_name {n = n} {found = found} e ne = refused_one (ThisName n) refl (λ k t r o. no k t.kind (head_kind e o)) where
  no : (k : List Expected) (t : Kind) → kind.Name found ≡ t → takes (ThisName n) t k ≡ None
  no k (kind.Name f) p = let same : found ≡ f = cc in rw (ne_eqb f n (λ q. ne (same ∙ q))) refl
  no k _ p = cc

pub no_name : {old : List Token} {e : Stop} → ((found : ℕ) → next_kind old ≡ Some (kind.Name found) → ⊥) → Reads IsName (λ k. AnyName ∷ k) old old (Err e)
no_name none = refused_one AnyName refl (λ k t r o. no k t.kind (λ f e. none f (no_kind o ∙ ap Some e))) where
  no : (k : List Expected) (t : Kind) → ((f : ℕ) → t ≡ kind.Name f → ⊥) → takes AnyName t k ≡ None
  no k (kind.Name f) none = absurd (none f refl)
  no k _ none = refl

pub no_number : {old : List Token} {e : Stop} → ((found : ℕ) → next_kind old ≡ Some (kind.Number found) → ⊥) → Reads IsNumber (λ k. AnyNumber ∷ k) old old (Err e)
no_number none = refused_one AnyNumber refl (λ k t r o. no k t.kind (λ f e. none f (no_kind o ∙ ap Some e))) where
  no : (k : List Expected) (t : Kind) → ((f : ℕ) → t ≡ kind.Number f → ⊥) → takes AnyNumber t k ≡ None
  no k (kind.Number f) none = absurd (none f refl)
  no k _ none = refl

too_great : (n : ℕ) → greatest < n → nat_le n greatest ≡ false
too_great n h = grind (arith, nat_tests)

pub great_number : {old : List Token} {found : ℕ} {e : Stop} → next_kind old ≡ Some (kind.Number found) → greatest < found → Reads IsNumber (λ k. AnyNumber ∷ k) old old (Err e)
great_number {found = found} e h = refused_one AnyNumber refl (λ k t r o. no k t.kind (head_kind e o)) where
  no : (k : List Expected) (t : Kind) → kind.Number found ≡ t → takes AnyNumber t k ≡ None
  no k (kind.Number f) p = let same : found ≡ f = cc in rw (too_great f (subst (λ x. greatest < x) same h)) refl
  no k _ p = cc

at_the_end : {old : List Token} {t : Token} {r : List Token} → next_kind old ≡ None → old ≡ t ∷ r → ⊥
at_the_end {old} {t} {r} e o = let h : next_kind (t ∷ r) ≡ None = subst (λ ts. next_kind ts ≡ None) o e in cc

pub no_assignment : {old : List Token} {e : Stop} → next_kind old ≡ None → Reads IsAssignment (λ k. Assigns ∷ k) old old (Err e)
no_assignment n = refused_one Assigns refl (λ k t r o. absurd (at_the_end n o))

pub other_assignment : {old : List Token} {found : Kind} {e : Stop} → next_kind old ≡ Some found → assignment found ≡ None → Reads IsAssignment (λ k. Assigns ∷ k) old old (Err e)
other_assignment {found = found} n h = refused_one Assigns refl (λ k t r o.
    let same : found ≡ t.kind = head_kind n o in
    let none : assignment t.kind ≡ None = subst (λ f. assignment f ≡ None) same h in
    rw none refl)

pub no_comparison : {old : List Token} {e : Stop} → next_kind old ≡ None → Reads IsComparison (λ k. Compare ∷ k) old old (Err e)
no_comparison n = refused_one Compare refl (λ k t r o. absurd (at_the_end n o))

pub other_comparison : {old : List Token} {found : Kind} {e : Stop} → next_kind old ≡ Some found → comparison found ≡ None → Reads IsComparison (λ k. Compare ∷ k) old old (Err e)
other_comparison {found = found} n h = refused_one Compare refl (λ k t r o.
    let same : found ≡ t.kind = head_kind n o in
    let none : comparison t.kind ≡ None = subst (λ f. comparison f ≡ None) same h in
    rw none refl)

none_taken : (d : ℕ) (old : List Token) → ((k : List Expected) (t : Token) (r : List Token) → old ≡ t ∷ r → takes (Tail d) t.kind k ≡ None) → TakesOperator d old old None
none_taken d old none = record { some = tt; none = (refl, λ k. skipped (Tail d) k old refl (none k)) }

pub no_operator : {old : List Token} {d : ℕ} → next_kind old ≡ None → TakesOperator d old old None
no_operator {old} {d} n = none_taken d old (λ k t r o. absurd (at_the_end n o))

pub other_token : {old : List Token} {found : Kind} {d : ℕ} → next_kind old ≡ Some found → binary found ≡ None → TakesOperator d old old None
other_token {old} {found} {d} n h = none_taken d old (λ k t r o.
    let same : found ≡ t.kind = head_kind n o in
    let none : binary t.kind ≡ None = subst (λ f. binary f ≡ None) same h in
    rw none refl)

pub other_level : {old : List Token} {found : Kind} {d level : ℕ} {o : Bin} → next_kind old ≡ Some found → binary found ≡ Some (level, o) → (level ≡ d → ⊥) → TakesOperator d old old None
other_level {old} {found} {d} {level} {o} n h ne = none_taken d old (λ k t r e.
    let same : found ≡ t.kind = head_kind n e in
    let some : binary t.kind ≡ Some (level, o) = subst (λ f. binary f ≡ Some (level, o)) same h in
    rw (some, ne_eqb level d ne) refl)

-- no such token comes next
none_of : (such : Kind → Bool) (old : List Token) → ((t : Token) (r : List Token) → old ≡ t ∷ r → such t.kind ≡ false) → TakesNone such old old
none_of such old h = record { stays = refl; other = h }

pub not_a_mark : {old : List Token} (m : Mark) → ((f : Mark) → next_kind old ≡ Some (kind.Mark f) → ⊥) → TakesNone (is_mark m) old old
not_a_mark {old} m none = none_of (is_mark m) old (λ t r o. no t.kind (λ f e. none f (no_kind o ∙ ap Some e))) where
  no : (t : Kind) → ((f : Mark) → t ≡ kind.Mark f → ⊥) → is_mark m t ≡ false
  no (kind.Mark f) none = absurd (none f refl)
  no _ none = refl

pub wrong_mark : {old : List Token} {m found : Mark} → next_kind old ≡ Some (kind.Mark found) → (found ≡ m → ⊥) → TakesNone (is_mark m) old old
wrong_mark {old} {m} {found} e ne = none_of (is_mark m) old (λ t r o. no t.kind (head_kind e o)) where
  no : (t : Kind) → kind.Mark found ≡ t → is_mark m t ≡ false
  no (kind.Mark f) p = let same : found ≡ f = cc in false_same mark_type tt m f (λ q. ne (same ∙ sym q))
  no _ p = cc

pub not_a_keyword : {old : List Token} (w : Keyword) → ((f : Keyword) → next_kind old ≡ Some (kind.Keyword f) → ⊥) → TakesNone (is_keyword w) old old
not_a_keyword {old} w none = none_of (is_keyword w) old (λ t r o. no t.kind (λ f e. none f (no_kind o ∙ ap Some e))) where
  no : (t : Kind) → ((f : Keyword) → t ≡ kind.Keyword f → ⊥) → is_keyword w t ≡ false
  no (kind.Keyword f) none = absurd (none f refl)
  no _ none = refl

pub wrong_keyword : {old : List Token} {w found : Keyword} → next_kind old ≡ Some (kind.Keyword found) → (found ≡ w → ⊥) → TakesNone (is_keyword w) old old
wrong_keyword {old} {w} {found} e ne = none_of (is_keyword w) old (λ t r o. no t.kind (head_kind e o)) where
  no : (t : Kind) → kind.Keyword found ≡ t → is_keyword w t ≡ false
  no (kind.Keyword f) p = let same : found ≡ f = cc in false_same keyword_type tt w f (λ q. ne (same ∙ sym q))
  no _ p = cc

pub not_named : {old : List Token} → ((n : ℕ) → next_kind old ≡ Some (kind.Name n) → ⊥) → TakesNone is_name old old
not_named {old} none = none_of is_name old (λ t r o. no t.kind (λ f e. none f (no_kind o ∙ ap Some e))) where
  no : (t : Kind) → ((f : ℕ) → t ≡ kind.Name f → ⊥) → is_name t ≡ false
  no (kind.Name f) none = absurd (none f refl)
  no _ none = refl

pub no_unary : {old : List Token} → next_kind old ≡ None → TakesNone (λ t. is_some (unary t)) old old
no_unary {old} n = none_of (λ t. is_some (unary t)) old (λ t r o. absurd (at_the_end n o))

pub other_unary : {old : List Token} {found : Kind} → next_kind old ≡ Some found → unary found ≡ None → TakesNone (λ t. is_some (unary t)) old old
other_unary {old} {found} n h = none_of (λ t. is_some (unary t)) old (λ t r o.
    let same : found ≡ t.kind = head_kind n o in
    let none : unary t.kind ≡ None = subst (λ f. unary f ≡ None) same h in
    rw none refl)

pub no_variable : {old : List Token} {e : Stop} → ((found : ℕ) → next_kind old ≡ Some (kind.Name found) → ⊥) → ReadsVariable old old (Err e)
no_variable {old} none = record { is = tt; goes = tt; sticks = λ e k. unmet LoopName k old refl (λ t r o. no k t.kind (λ f e. none f (no_kind o ∙ ap Some e))) } where
  no : (k : List Expected) (t : Kind) → ((f : ℕ) → t ≡ kind.Name f → ⊥) → takes LoopName t k ≡ None
  no k (kind.Name f) none = absurd (none f refl)
  no k _ none = refl
