-- What is left of a text, and the tokens that are left with it.
use Rattle.std.proofs.Common.{◌≡◌, ℕ, ◌+◌, ◌-◌, ◌<◌, ◌≤◌, true, false, List, [], ◌∷◌, ◌++◌, length, get_or, take, drop, map, slice_range, refl, sym, ap, subst, ◌∙◌, arith}
use Rattle.std.specs.List.{list_all}
use Rattle.std.proofs.Math.Seq.{drop-append_seam, take-append_seam}
use Rattle.std.proofs.lemmas.List.{get_or-drop, length-drop, drop-drop, length-append}
use Rattle.nest_lex.specs.Bytes.{is_blank, is_word_byte}
use Rattle.nest_lex.specs.Load.{load_after}
use Rattle.nest_lex.specs.Pieces.{Stands}
use Rattle.nest_lex.specs.Spots.{spot_of}
use Rattle.nest_lex.specs.Reader.{AllKnown, IsKnown}
use Rattle.nest_lex.specs.Scans.{IsWordEnd}
use Rattle.nest_lex.specs.Text.{Lexeme, Whole, Reads, kind_of, token_of}
use Rattle.nest_lex.specs.declared.load.Load.{Load}
use Rattle.nest_lex.specs.declared.piece.Piece.{Piece}
use Rattle.nest_lex.specs.declared.token.Kind.{Kind}
use Rattle.nest_lex.specs.declared.token.Spot.{Spot}
use Rattle.nest_lex.specs.declared.token.Token.{Token}
use Rattle.nest_lex.proofs.Ranges.{first_byte, all_at_place}
use Rattle.nest_print.proofs.Spelled.{piece_read, reads_on, none_read}

-- where `rest` is left of the text, these tokens are left
pub record Left (text : List ℕ) (names : List (List ℕ)) (tokens : List Token) (rest : List ℕ) : Type 0 where
  pub at : ℕ
  pub load : Load
  pub lexemes : List Lexeme
  pub reads : Reads text at load lexemes Whole
  pub known : AllKnown text names lexemes
  pub are : tokens ≡ map (token_of text names) lexemes
  pub within : at ≤ length text
  pub here : drop at text ≡ rest

-- the next of them is of this kind
pub record Took (text : List ℕ) (names : List (List ℕ)) (k : Kind) (tokens : List Token) (rest : List ℕ) : Type 0 where
  pub spot : Spot
  pub more : List Token
  pub are : tokens ≡ record { kind = k; spot = spot } ∷ more
  pub left : Left text names more rest

module _ (text : List ℕ) (at : ℕ) where
  pub byte : (rest : List ℕ) → drop at text ≡ rest → (k : ℕ) → get_or text (at + k) 0 ≡ get_or rest k 0
  byte rest here k = sym (get_or-drop at text k 0) ∙ ap (λ xs. get_or xs k 0) here

  pub byte_here : (rest : List ℕ) → drop at text ≡ rest → get_or text at 0 ≡ get_or rest 0 0
  byte_here rest here = ap (λ k. get_or text k 0) (omega arith) ∙ byte rest here 0

  pub left_length : (rest : List ℕ) → drop at text ≡ rest → length text - at ≡ length rest
  left_length rest here = sym (length-drop at text) ∙ ap length here

  module _ (bytes rest : List ℕ) (here : drop at text ≡ bytes ++ rest) where
    pub inside : 1 ≤ length bytes → (at < length text) × (at + length bytes + length rest ≡ length text)
    inside some = let e = left_length (bytes ++ rest) here in let f = length-append bytes rest in (omega arith, omega arith)

    pub behind : drop (at + length bytes) text ≡ rest
    behind = sym (drop-drop (length bytes) at text) ∙ ap (drop (length bytes)) here ∙ drop-append_seam bytes rest

    pub range : slice_range text at (at + length bytes) ≡ bytes
    range =
        let e : at + length bytes - at ≡ length bytes = omega arith in
        ap (λ n. take n (drop at text)) e ∙ ap (take (length bytes)) here ∙ take-append_seam bytes rest

    pub word_end : 1 ≤ length bytes → list_all is_word_byte bytes ≡ true → is_word_byte (get_or rest 0 0) ≡ false → IsWordEnd text at (at + length bytes)
    word_end some words ends = record {
      ordered = omega arith;
      within = omega (arith, (inside some).1);
      word = λ k from to. all_at_place is_word_byte text at (at + length bytes) k from to (omega (arith, (inside some).1)) (ap (list_all is_word_byte) range ∙ words);
      ends = ap is_word_byte (ap (λ k. get_or text k 0) (omega arith) ∙ sym (get_or-drop (at + length bytes) text 0 0) ∙ ap (λ xs. get_or xs 0 0) behind) ∙ ends;
    }

    pub front_byte : 1 ≤ length bytes → get_or text at 0 ≡ get_or bytes 0 0
    front_byte some = sym (first_byte text at (at + length bytes) (omega arith)) ∙ ap (λ (bs : List ℕ). get_or bs 0 0) range

    pub first_word : 1 ≤ length bytes → list_all is_word_byte bytes ≡ true → is_word_byte (get_or text at 0) ≡ true
    first_word some words = all_at_place is_word_byte text at (at + length bytes) at (omega arith) (omega arith) (omega (arith, (inside some).1)) (ap (list_all is_word_byte) range ∙ words)

module _ {text : List ℕ} {names : List (List ℕ)} where
  pub moved : {tokens : List Token} {rest rest' : List ℕ} → rest ≡ rest' → Left text names tokens rest → Left text names tokens rest'
  moved {tokens} same left = subst (λ r. Left text names tokens r) same left

  -- past a blank
  pub past : (b : ℕ) {tokens : List Token} {rest : List ℕ} → is_blank b ≡ true → Left text names tokens (b ∷ rest) → Left text names tokens rest
  past b {tokens} {rest} blank left =
      let in_text = (inside text left.at (b ∷ []) rest left.here (omega arith)).0 in
      record {
        at = left.at + 1;
        load = left.load;
        lexemes = left.lexemes;
        reads = reads_on text left.at left.load left.lexemes (ap is_blank (byte_here text left.at (b ∷ rest) left.here) ∙ blank) in_text left.reads;
        known = left.known;
        are = left.are;
        within = omega arith;
        here = behind text left.at (b ∷ []) rest left.here;
      }

  pub at_end : {tokens : List Token} → Left text names tokens [] → tokens ≡ []
  at_end left = left.are ∙ ap (map (token_of text names)) (none_read text left.at left.load left.lexemes (omega (arith, left.within, left_length text left.at [] left.here)) left.reads)

  -- a piece that stands in front is taken
  pub taken : (p : Piece) (bytes : List ℕ) {tokens : List Token} {rest : List ℕ} (left : Left text names tokens (bytes ++ rest)) → 1 ≤ length bytes → Stands text p left.at (left.at + length bytes)
      → Took text names (kind_of names bytes p) tokens rest × IsKnown names bytes p
  taken p bytes {tokens} {rest} left some stands =
      let read = piece_read text left.at p (left.at + length bytes) left.load left.lexemes stands left.reads in
      let known : AllKnown text names (record { is = p; start = left.at; next = left.at + length bytes } ∷ read.more) = subst (AllKnown text names) read.are left.known in
      let is : slice_range text left.at (left.at + length bytes) ≡ bytes = range text left.at bytes rest left.here in (
        record {
          spot = spot_of text left.at;
          more = map (token_of text names) read.more;
          are = left.are ∙ ap (map (token_of text names)) read.are ∙ ap (λ (bs : List ℕ). record { kind = kind_of names bs p; spot = spot_of text left.at } ∷ map (token_of text names) read.more) is;
          left = record {
            at = left.at + length bytes;
            load = load_after left.load p;
            lexemes = read.more;
            reads = read.reads;
            known = known.1;
            are = refl;
            within = omega (arith, (inside text left.at bytes rest left.here some).1);
            here = behind text left.at bytes rest left.here;
          };
        },
        subst (λ bs. IsKnown names bs p) is known.0,
      )
