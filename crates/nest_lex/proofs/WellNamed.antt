-- The names of the tokens of a text differ, and each is numbered within them.
use Rattle.std.proofs.Common.{◌≡◌, ◌≢◌, ℕ, zero, suc, ◌≤◌, Bool, true, false, List, [], ◌∷◌, ◌++◌, if◌then◌else◌, length, get_or, map, refl, sym, ap, subst, ◌∙◌, arith}
use Rattle.std.specs.List.{list_any, fold, All, AllPairs}
use Rattle.std.specs.Str.{bytes_eq}
use Rattle.std.proofs.lemmas.Bool.{false≢true}
use Rattle.std.proofs.lemmas.List.{append-nil}
use Rattle.std.proofs.lemmas.List.Quantifiers.{all_pairs_push}
use Rattle.std.proofs.lemmas.List.Folds.{list_any_at}
use Rattle.nest_lex.specs.Reader.{AllKnown, IsKnown, Went}
use Rattle.nest_lex.specs.Load.{no_load, load_after}
use Rattle.nest_lex.specs.Spelling.{Spells}
use Rattle.nest_lex.specs.Text.{Lexeme, Ending, Whole, Reads, AreWellNamed, IsKindWithin, bytes_of, with_name, names_with, kind_of, token_of}
use Rattle.nest_lex.specs.declared.load.Load.{Load}
use Rattle.nest_lex.specs.declared.piece.Piece.{Piece}
use Rattle.nest_lex.specs.declared.piece.Piece.TheVariants as piece
use Rattle.nest_lex.specs.declared.token.Spot.{Spot}
use Rattle.nest_lex.specs.declared.token.Token.{Token}
use Rattle.nest_lex.proofs.Numbering.{place_present, same_bytes}

abbrev Differ : List (List ℕ) → Type 0
Differ names = AllPairs (λ a b. a ≢ b) names

differ_with_name : (names : List (List ℕ)) (name : List ℕ) → Differ names → Differ (with_name names name)
differ_with_name names name differ = by (list_any (bytes_eq name) names) refl
  where
    by : (b : Bool) → list_any (bytes_eq name) names ≡ b → Differ (with_name names name)
    by true e = subst (λ (b : Bool). Differ (if b then names else names ++ name ∷ [])) (sym e) differ
    by false e = subst (λ (b : Bool). Differ (if b then names else names ++ name ∷ [])) (sym e)
        (all_pairs_push (λ a b. a ≢ b) names name differ (λ k d within same.
        let here : bytes_eq name (get_or names k d) ≡ true = ap (bytes_eq name) same ∙ same_bytes name in
        absurd (false≢true (sym e ∙ list_any_at (bytes_eq name) names k d within here))))

differ_with : (names : List (List ℕ)) (bytes : List ℕ) (p : Piece) → Differ names → Differ (names_with names bytes p)
differ_with names bytes piece.Name differ = differ_with_name names bytes differ
differ_with names bytes (piece.Number n) differ = differ
differ_with names bytes (piece.Keyword k) differ = differ
differ_with names bytes (piece.Mark m) differ = differ

differ_all : (text : List ℕ) (names : List (List ℕ)) (ls : List Lexeme) → Differ names → Differ (fold (λ ns l. names_with ns (bytes_of text l) l.is) names ls)
differ_all text names [] differ = differ
differ_all text names (l ∷ ls) differ = differ_all text (names_with names (bytes_of text l) l.is) ls (differ_with names (bytes_of text l) l.is differ)

kind_within : (names : List (List ℕ)) (bytes : List ℕ) (p : Piece) → IsKnown names bytes p → Spells p bytes → IsKindWithin (length names) (kind_of names bytes p)
kind_within names bytes piece.Name known spelled = place_present (bytes_eq bytes) names known
kind_within names bytes (piece.Number n) known spelled = spelled.small
kind_within names bytes (piece.Keyword k) known spelled = tt
kind_within names bytes (piece.Mark m) known spelled = tt

kinds_within : (text : List ℕ) (names : List (List ℕ)) (at : ℕ) (load : Load) (ls : List Lexeme) (e : Ending) → Reads text at load ls e → AllKnown text names ls
    → All (λ (token : Token). IsKindWithin (length names) token.kind) (map (token_of text names) ls)
kinds_within text names at load [] e reads known k d within = absurd (omega arith)
kinds_within text names at load (l ∷ ls) e reads known zero d within = kind_within names (bytes_of text l) l.is known.0 reads.2.spelled
kinds_within text names at load (l ∷ ls) e reads known (suc k) d within = kinds_within text names l.next (load_after load l.is) ls e reads.4 known.1 k d (omega arith)

pub well_named : (text : List ℕ) (names : List (List ℕ)) (list : List Token) (load : Load) (at : ℕ) (spot : Spot)
    → length text ≤ 33554432 → Went text names list load at spot → at ≡ length text → AreWellNamed (record { names = names; list = list; end = spot })
well_named text names list load at spot small went whole =
    let read : Reads text 0 no_load went.lexemes Whole =
    subst (λ (ls : List Lexeme). Reads text 0 no_load ls Whole) (append-nil went.lexemes) (went.goes [] Whole ([], at, refl, whole)) in
    record {
      differ = subst (λ (ns : List (List ℕ)). Differ ns) (sym went.names_are) (differ_all text [] went.lexemes (λ i j d before within. absurd (omega arith)));
      few = omega (arith, went.few);
      kinds = subst (λ (ts : List Token). All (λ (token : Token). IsKindWithin (length names) token.kind) ts) (sym went.list_is)
          (kinds_within text names 0 no_load went.lexemes Whole read went.known);
    }
