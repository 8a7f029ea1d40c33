-- Reading many things, one after another.
use Rattle.std.proofs.Common.{◌≡◌, ◌<◌, ◌≤◌, Option, Some, None, Ok, Err, List, [], ◌∷◌, ◌++◌, length, refl, sym, ◌∙◌, ap, subst, arith, append_assoc}
use Rattle.std.specs.Prelude.{IsSome}
use Rattle.std.proofs.lemmas.List.{append-nil}
use Rattle.nest_lex.specs.declared.token.Token.{Token}
use Rattle.nest_parse.specs.declared.refused.Stop.{Stop}
use Rattle.nest_parse.specs.Expected.{Expected, stuck, Reads, ReadsNext}

-- `list` is read, and whatever goes on at `now` goes on with it
pub record Listed {X : Type 0} (Are : List Token → List X → List Token → Type 0) (x : Expected) (old now : List Token) (list : List X) : Type 0 where
  pub is : (more : List X) (r : List Token) → Are now more r → Are old (list ++ more) r
  pub goes : (k : List Expected) → stuck (x ∷ k) old ≡ stuck (x ∷ k) now
  pub within : length now ≤ length old

pub listed : {X : Type 0} (Are : List Token → List X → List Token → Type 0) (x : Expected) (old : List Token) → Listed Are x old old []
listed Are x old = record { is = λ more r a. a; goes = λ k. refl; within = omega arith }

-- one more thing
pub listed_on : {X : Type 0} {Is : List Token → X → List Token → Type 0} {Are : List Token → List X → List Token → Type 0} {x : Expected} {old now new : List Token} {list : List X} {v : X}
    → Listed Are x old now list → ((ts m r : List Token) (y : X) (ys : List X) → Is ts y m → Are m ys r → Are ts (y ∷ ys) r) → ReadsNext Is x now new (Ok (Some v)) → length new < length now
    → Listed Are x old new (list ++ v ∷ [])
listed_on {X} {Is} {Are} {x} {old} {now} {new} {list} {v} l with_more r s = record {
  is = λ more t a. subst (λ ys. Are old ys t) (sym (append_assoc list (v ∷ []) more)) (l.is (v ∷ more) t (with_more now new t v more r.is a));
  goes = λ k. l.goes k ∙ r.goes k;
  within = omega (arith, l.within);
}

-- no more
pub all_listed : {X : Type 0} {Is : List Token → X → List Token → Type 0} {Are : List Token → List X → List Token → Type 0} {x : Expected} {old now new : List Token} {list : List X}
    → Listed Are x old now list → ((r : List Token) → Are r [] r) → ReadsNext Is x now new (Ok None) → Reads Are (λ k. x ∷ k) old new (Ok list)
all_listed {X} {Is} {Are} {x} {old} {now} {new} {list} l nothing r = record {
  is = subst (λ ys. Are old ys new) (append-nil list) (l.is [] new (subst (λ ts. Are ts [] new) r.goes.0 (nothing new)));
  goes = λ k. l.goes k ∙ (r.goes.1 k ∙ ap (stuck k) (sym r.goes.0));
  sticks = tt;
}

-- a fault in the next thing
pub next_refused : {X : Type 0} {Is : List Token → X → List Token → Type 0} {Are : List Token → List X → List Token → Type 0} {x : Expected} {old now new : List Token} {list : List X} {e f : Stop}
    → Listed Are x old now list → ReadsNext Is x now new (Err e) → f ≡ e → Reads Are (λ k. x ∷ k) old new (Err f)
next_refused l r same = record { is = tt; goes = tt; sticks = λ q k. l.goes k ∙ r.sticks (sym same ∙ q) k }

pub listed_next : {X : Type 0} {Is : List Token → X → List Token → Type 0} {Are : List Token → List X → List Token → Type 0} {x : Expected} {old now new : List Token} {list list' : List X} {v : X} {found : Option X}
    → Listed Are x old now list → ((ts m r : List Token) (y : X) (ys : List X) → Is ts y m → Are m ys r → Are ts (y ∷ ys) r) → ReadsNext Is x now new (Ok found) → found ≡ Some v
    → (IsSome found → length new < length now) → list' ≡ list ++ v ∷ [] → Listed Are x old new list'
listed_next {X} {Is} {Are} {x} {old} {now} {new} {list} {list'} {v} {found} l with_more r e s g =
    subst (λ ys. Listed Are x old new ys) (sym g)
    (listed_on {Is = Is} l with_more (subst (λ f. ReadsNext Is x now new (Ok f)) e r) (subst (λ f. IsSome f → length new < length now) e s refl))

pub no_more_listed : {X : Type 0} {Is : List Token → X → List Token → Type 0} {Are : List Token → List X → List Token → Type 0} {x : Expected} {old now new : List Token} {list : List X} {found : Option X}
    → Listed Are x old now list → ((r : List Token) → Are r [] r) → ReadsNext Is x now new (Ok found) → found ≡ None → Reads Are (λ k. x ∷ k) old new (Ok list)
no_more_listed {X} {Is} {Are} {x} {old} {now} {new} l nothing r e = all_listed {Is = Is} l nothing (subst (λ f. ReadsNext Is x now new (Ok f)) e r)
