-- A reader's way over a text.
use Rattle.std.proofs.Common.{◌≡◌, ℕ, ◌<◌, ◌≤◌, List, [], ◌∷◌, ◌++◌, length, map, slice_range, refl, sym, ap, subst, ◌∙◌, arith, append_assoc, length-append}
use Rattle.std.proofs.lemmas.List.{map-append, append-nil}
use Rattle.std.proofs.lemmas.List.Sums.{fold-append}
use Rattle.nest_lex.specs.Load.{no_load, load_after, IsAllowed}
use Rattle.nest_lex.specs.Found.{IsBad}
use Rattle.nest_lex.specs.Pieces.{IsGap, Stands}
use Rattle.nest_lex.specs.Spots.{spot_of}
use Rattle.nest_lex.specs.Reader.{Went, AllKnown, IsKnown}
use Rattle.nest_lex.specs.Text.{Lexeme, Ending, Whole, Faulty, Reads, AreTokens, IsFault, bytes_of, names_of, names_with, kind_of, token_of}
use Rattle.nest_lex.specs.declared.load.Load.{Load}
use Rattle.nest_lex.specs.declared.piece.Piece.{Piece}
use Rattle.nest_lex.specs.declared.refused.LexKind.{LexKind}
use Rattle.nest_lex.specs.declared.refused.LexKind.TheVariants as fault
use Rattle.nest_lex.specs.declared.token.Kind.{Kind}
use Rattle.nest_lex.specs.declared.token.Spot.{Spot}
use Rattle.nest_lex.specs.declared.token.Token.{Token}
use Rattle.nest_lex.specs.declared.token.Tokens.{Tokens}
use Rattle.nest_lex.proofs.Numbering.{names_grow, known_more, kind_more, piece_known}

gap_before : (text : List ℕ) (at to : ℕ) (load : Load) (ls : List Lexeme) (ending : Ending) → IsGap text at to → Reads text to load ls ending → Reads text at load ls ending
gap_before text at to load [] ending gap reads = (to ∷ reads.0, reads.1, (gap, reads.2), reads.3)
gap_before text at to load (l ∷ ls) ending gap reads = (to ∷ reads.0, (gap, reads.1), reads.2, reads.3, reads.4)

pub gap_passed : (text : List ℕ) (names : List (List ℕ)) (list : List Token) (load : Load) (at to : ℕ) (spot after : Spot)
    → Went text names list load at spot → at < to → to ≤ length text → IsGap text at to → after ≡ spot_of text to → Went text names list load to after
gap_passed text names list load at to spot after went on within gap is = record {
  lexemes = went.lexemes;
  goes = λ more ending reads. went.goes more ending (gap_before text at to load more ending gap reads);
  names_are = went.names_are;
  known = went.known;
  list_is = went.list_is;
  spot_is = is;
  allowed = went.allowed;
  within = within;
  few = omega (arith, went.few);
}

known_all : (text : List ℕ) (names more : List (List ℕ)) (ls : List Lexeme) → AllKnown text names ls → AllKnown text (names ++ more) ls
known_all text names more [] known = tt
known_all text names more (l ∷ ls) known = (known_more names more (bytes_of text l) l.is known.0, known_all text names more ls known.1)

known_last : (text : List ℕ) (names : List (List ℕ)) (ls : List Lexeme) (l : Lexeme) → AllKnown text names ls → IsKnown names (bytes_of text l) l.is → AllKnown text names (ls ++ l ∷ [])
known_last text names [] l known last = (last, tt)
known_last text names (x ∷ ls) l known last = (known.0, known_last text names ls l known.1 last)

tokens_more : (text : List ℕ) (names more : List (List ℕ)) (ls : List Lexeme) → AllKnown text names ls → map (token_of text (names ++ more)) ls ≡ map (token_of text names) ls
tokens_more text names more [] known = refl
tokens_more text names more (l ∷ ls) known =
    let head : token_of text (names ++ more) l ≡ token_of text names l = ap (λ (k : Kind). record { kind = k; spot = spot_of text l.start }) (kind_more names more (bytes_of text l) l.is known.0) in
    let tail = tokens_more text names more ls known.1 in
    cc

same_token : {k k' : Kind} {s s' : Spot} → k ≡ k' → s ≡ s' → ◌≡◌ {A = Token} (record { kind = k; spot = s }) (record { kind = k'; spot = s' })
same_token k s = cc

same_tokens : {names names' : List (List ℕ)} {list list' : List Token} {end end' : Spot} → names ≡ names' → list ≡ list' → end ≡ end'
    → ◌≡◌ {A = Tokens} (record { names = names; list = list; end = end }) (record { names = names'; list = list'; end = end' })
same_tokens n l e = cc

pub piece_taken : (text : List ℕ) (names after_names : List (List ℕ)) (list : List Token) (load : Load) (at next : ℕ) (p : Piece) (kind : Kind) (spot after : Spot)
    → Went text names list load at spot → Stands text p at next → IsAllowed (load_after load p) → after_names ≡ names_with names (slice_range text at next) p
    → kind ≡ kind_of (names_with names (slice_range text at next) p) (slice_range text at next) p → after ≡ spot_of text next
    → Went text after_names (list ++ record { kind = kind; spot = spot } ∷ []) (load_after load p) next after
piece_taken text names after_names list load at next p kind spot after went stands allowed names_is kind_is after_is =
    let lexeme : Lexeme = record { is = p; start = at; next = next } in
    let grown = names_grow names (slice_range text at next) p in
    let more : after_names ≡ names ++ grown.0 = names_is ∙ grown.1 in
    let known : AllKnown text after_names went.lexemes =
    subst (λ (ns : List (List ℕ)). AllKnown text ns went.lexemes) (sym more) (known_all text names grown.0 went.lexemes went.known) in
    let last : IsKnown after_names (bytes_of text lexeme) p =
    subst (λ (ns : List (List ℕ)). IsKnown ns (bytes_of text lexeme) p) (sym names_is) (piece_known names (slice_range text at next) p) in
    let stay : map (token_of text after_names) went.lexemes ≡ list =
    ap (λ (ns : List (List ℕ)). map (token_of text ns) went.lexemes) more ∙ tokens_more text names grown.0 went.lexemes went.known ∙ sym went.list_is in
    let same_kind : kind_of after_names (slice_range text at next) p ≡ kind = ap (λ (ns : List (List ℕ)). kind_of ns (slice_range text at next) p) names_is ∙ sym kind_is in
    let new : token_of text after_names lexeme ≡ record { kind = kind; spot = spot } = same_token same_kind (sym went.spot_is) in
    let last_name : names_of text (went.lexemes ++ lexeme ∷ []) ≡ names_with (names_of text went.lexemes) (slice_range text at next) p =
    fold-append (λ (ns : List (List ℕ)) (l : Lexeme). names_with ns (bytes_of text l) l.is) [] went.lexemes (lexeme ∷ []) in
    let last_token : map (token_of text after_names) (went.lexemes ++ lexeme ∷ []) ≡ map (token_of text after_names) went.lexemes ++ token_of text after_names lexeme ∷ [] =
    map-append (token_of text after_names) went.lexemes (lexeme ∷ []) in
    record {
      lexemes = went.lexemes ++ lexeme ∷ [];
      goes = λ rest ending reads.
          subst (λ (ls : List Lexeme). Reads text 0 no_load ls ending) (sym (append_assoc went.lexemes (lexeme ∷ []) rest))
          (went.goes (lexeme ∷ rest) ending ([], refl, stands, allowed, reads));
      names_are = names_is ∙ ap (λ (ns : List (List ℕ)). names_with ns (slice_range text at next) p) went.names_are ∙ sym last_name;
      known = known_last text after_names went.lexemes lexeme known last;
      list_is = sym (last_token ∙ ap (λ (ts : List Token). ts ++ token_of text after_names lexeme ∷ []) stay ∙ ap (λ (t : Token). list ++ t ∷ []) new);
      spot_is = after_is;
      allowed = allowed;
      within = stands.within;
      few = omega (arith, ap length more, length-append names grown.0, grown.2, went.few, stands.some);
    }

pub too_dense : (text : List ℕ) (names : List (List ℕ)) (list : List Token) (load : Load) (at next : ℕ) (p : Piece) (spot : Spot)
    → Went text names list load at spot → Stands text p at next → (IsAllowed (load_after load p) → ⊥) → IsFault text fault.Dense spot
too_dense text names list load at next p spot went stands too_much = record {
  lexemes = went.lexemes ++ [];
  place = at;
  read = went.goes [] (Faulty fault.Dense at) ([], at, refl, (refl, record { is = p; next = next; stands = stands; too_much = too_much }));
  at = went.spot_is;
}

pub bad_there : (text : List ℕ) (names : List (List ℕ)) (list : List Token) (load : Load) (at : ℕ) (spot : Spot) (kind : LexKind)
    → Went text names list load at spot → IsBad text at kind → IsFault text kind spot
bad_there text names list load at spot fault.Byte went bad = record { lexemes = went.lexemes ++ []; place = at; read = went.goes [] (Faulty fault.Byte at) ([], at, refl, (refl, bad)); at = went.spot_is }
bad_there text names list load at spot fault.Number went bad = record { lexemes = went.lexemes ++ []; place = at; read = went.goes [] (Faulty fault.Number at) ([], at, refl, (refl, bad)); at = went.spot_is }
bad_there text names list load at spot fault.Comment went bad = record { lexemes = went.lexemes ++ []; place = at; read = went.goes [] (Faulty fault.Comment at) ([], at, refl, (refl, bad)); at = went.spot_is }
bad_there text names list load at spot fault.Dense went bad = absurd bad

pub read_whole : (text : List ℕ) (names : List (List ℕ)) (list : List Token) (load : Load) (at : ℕ) (spot : Spot)
    → Went text names list load at spot → at ≡ length text → AreTokens text (record { names = names; list = list; end = spot })
read_whole text names list load at spot went whole =
    let read : Reads text 0 no_load (went.lexemes ++ []) Whole = went.goes [] Whole ([], at, refl, whole) in
    record {
      lexemes = went.lexemes;
      read = subst (λ (ls : List Lexeme). Reads text 0 no_load ls Whole) (append-nil went.lexemes) read;
      are = same_tokens went.names_are (went.list_is ∙ ap (λ (ns : List (List ℕ)). map (token_of text ns) went.lexemes) went.names_are) (went.spot_is ∙ ap (spot_of text) whole);
    }
