-- A text has one list of tokens or one first fault, and never both.
use Rattle.std.proofs.Common.{◌≡◌, ◌⊎◌, ℕ, List, Err, Result, refl, sym, ap, ◌∙◌, inl, inr}
use Rattle.nest_lex.specs.Load.{no_load}
use Rattle.nest_lex.specs.Spots.{spot_of}
use Rattle.nest_lex.specs.Text.{Whole, Faulty, AreTokens, IsFault, IsRefusal, tokens_of}
use Rattle.nest_lex.specs.declared.refused.LexKind.{LexKind}
use Rattle.nest_lex.specs.declared.refused.LexRefused.{LexRefused}
use Rattle.nest_lex.specs.declared.refused.LexRefused.TheVariants as refused
use Rattle.nest_lex.specs.declared.token.Spot.{Spot}
use Rattle.nest_lex.specs.declared.token.Tokens.{Tokens}
use Rattle.nest_lex.proofs.OneReading.{one_reading}

pub same_tokens : (text : List ℕ) (r t : Tokens) → AreTokens text r → AreTokens text t → r ≡ t
same_tokens text r t a b = a.are ∙ ap (tokens_of text) (one_reading text 0 no_load a.lexemes b.lexemes Whole Whole a.read b.read).0 ∙ sym b.are

pub no_fault : (text : List ℕ) (t : Tokens) (kind : LexKind) (at : Spot) → AreTokens text t → IsFault text kind at → ⊥
no_fault text t kind at a b = let e = (one_reading text 0 no_load a.lexemes b.lexemes Whole (Faulty kind b.place) a.read b.read).1 in cc

pub same_fault : (text : List ℕ) (kind kind' : LexKind) (at at' : Spot) → IsFault text kind at → IsFault text kind' at' → (kind ≡ kind') × (at ≡ at')
same_fault text kind kind' at at' a b =
    let e = (one_reading text 0 no_load a.lexemes b.lexemes (Faulty kind a.place) (Faulty kind' b.place) a.read b.read).1 in
    let place : a.place ≡ b.place = cc in
    (cc, a.at ∙ ap (spot_of text) place ∙ sym b.at)

pub refused_only : (text : List ℕ) (e : LexRefused) (t : Tokens) → IsRefusal text e → AreTokens text t → e ≡ refused.NoMemory
refused_only text (refused.Fault kind at) t a b = absurd (no_fault text t kind at b a)
refused_only text refused.NoMemory t a b = refl

pub refused_fault : (text : List ℕ) (e : LexRefused) (kind : LexKind) (at : Spot) → IsRefusal text e → IsFault text kind at
    → (◌≡◌ {A = Result Tokens LexRefused} (Err e) (Err refused.NoMemory)) ⊎ (◌≡◌ {A = Result Tokens LexRefused} (Err e) (Err (refused.Fault kind at)))
refused_fault text (refused.Fault k s) kind at a b = let same = same_fault text k kind s at a b in inr (λ i. Err (refused.Fault (same.0 i) (same.1 i)))
refused_fault text refused.NoMemory kind at a b = inl refl
