-- Reading one thing behind another.
use Rattle.std.proofs.Common.{◌≡◌, Result, Ok, Err, IsErrAnd, List, sym, ◌∙◌}
use Rattle.nest_lex.specs.declared.token.Token.{Token}
use Rattle.nest_parse.specs.declared.refused.Stop.{Stop}
use Rattle.nest_parse.specs.Expected.{Expected, stuck, Reads}

-- what stops the reading of a part stops the whole: it is handed on
pub refused : {X Y : Type 0} {Is : List Token → X → List Token → Type 0} {Is' : List Token → Y → List Token → Type 0} {on on' : List Expected → List Expected} {old mid new : List Token} {e : Stop}
    (result : Result Y Stop) → IsErrAnd result (λ f. f ≡ e) → (f : List Expected → List Expected) → ((k : List Expected) → stuck (on' k) old ≡ stuck (on (f k)) mid)
    → Reads Is on mid new (Err e) → Reads Is' on' old new result
refused (Ok y) h f led r = absurd h
refused {e = e} (Err y) h f led r = record { is = tt; goes = tt; sticks = λ q k. led k ∙ r.sticks (sym h ∙ q) (f k) }

-- a part that is the whole, with what was passed before it
pub handed : {X : Type 0} {Is Is' : List Token → X → List Token → Type 0} {on on' : List Expected → List Expected} {old mid new : List Token}
    (result : Result X Stop) → ((x : X) → Is mid x new → Is' old x new) → (f : List Expected → List Expected) → ((k : List Expected) → stuck (on' k) old ≡ stuck (on (f k)) mid)
    → ((k : List Expected) → stuck (f k) new ≡ stuck k new) → Reads Is on mid new result → Reads Is' on' old new result
handed (Ok x) is f led rest r = record { is = is x r.is; goes = λ k. led k ∙ (r.goes (f k) ∙ rest k); sticks = tt }
handed (Err e) is f led rest r = record { is = tt; goes = tt; sticks = λ q k. led k ∙ r.sticks q (f k) }
