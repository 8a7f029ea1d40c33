-- What a text has in front tells which piece stands there.
use Rattle.std.proofs.Common.{◌≡◌, ℕ, ◌+◌, ◌<◌, true, List, [], ◌∷◌, length, get_or, slice_range, slice_index, refl, ap, subst, ◌∙◌, inl, inr, arith}
use Rattle.nest_lex.specs.Bytes.{is_blank}
use Rattle.nest_lex.specs.Load.{load_after}
use Rattle.nest_lex.specs.Pieces.{IsGap, Gaps, Stands}
use Rattle.nest_lex.specs.Text.{Lexeme, Whole, Reads}
use Rattle.nest_lex.specs.declared.load.Load.{Load}
use Rattle.nest_lex.specs.declared.piece.Piece.{Piece}
use Rattle.nest_lex.proofs.Ranges.{first_byte}
use Rattle.nest_lex.proofs.OnePiece.{one_end, one_standing, blank_no_slash, spelled_no_blank, clear_piece, no_gap_at_end}

-- a blank is a gap by itself
blank_gap : (text : List ℕ) (at to : ℕ) → is_blank (slice_index text at) ≡ true → IsGap text at to → to ≡ at + 1
blank_gap text at to blank (inl gap) = gap.1
blank_gap text at to blank (inr (inl gap)) = absurd (blank_no_slash (slice_index text at) blank gap.0.0)
blank_gap text at to blank (inr (inr gap)) = absurd (blank_no_slash (slice_index text at) blank gap.0.0)

module _ (text : List ℕ) (at : ℕ) where
  -- behind a blank the reading goes on
  gaps_on : (gaps : List ℕ) (stop : ℕ) → is_blank (slice_index text at) ≡ true → (stop ≡ at → ⊥) → Gaps text at gaps stop → (more : List ℕ) × Gaps text (at + 1) more stop
  gaps_on [] stop blank past gaps = absurd (past gaps)
  gaps_on (to ∷ gaps) stop blank past more = (gaps, subst (λ (n : ℕ). Gaps text n gaps stop) (blank_gap text at to blank more.0) more.1)

  pub reads_on : (load : Load) (lexemes : List Lexeme) → is_blank (slice_index text at) ≡ true → at < length text → Reads text at load lexemes Whole → Reads text (at + 1) load lexemes Whole
  reads_on load [] blank within reads =
      let more = gaps_on reads.0 reads.1 blank (λ same. omega (arith, reads.3)) reads.2 in
      (more.0, reads.1, more.1, reads.3)
  reads_on load (l ∷ ls) blank within reads =
      let begun = λ (same : l.start ≡ at). spelled_no_blank l.is (slice_range text l.start l.next) reads.2.spelled (ap is_blank (first_byte text l.start l.next reads.2.some ∙ ap (λ (k : ℕ). get_or text k 0) same) ∙ blank) in
      let more = gaps_on reads.0 l.start blank begun reads.1 in
      (more.0, more.1, reads.2, reads.3, reads.4)

  -- no gap stands where a piece does
  no_gaps : (gaps : List ℕ) (stop next : ℕ) (p : Piece) → Stands text p at next → Gaps text at gaps stop → stop ≡ at
  no_gaps [] stop next p stands gaps = gaps
  no_gaps (to ∷ gaps) stop next p stands more = absurd (clear_piece text p at next stands to more.0)

  -- where a piece stands, it is read next
  pub record Piece_read (p : Piece) (next : ℕ) (load : Load) (lexemes : List Lexeme) : Type 0 where
    pub more : List Lexeme
    pub are : lexemes ≡ record { is = p; start = at; next = next } ∷ more
    pub reads : Reads text next (load_after load p) more Whole

  pub piece_read : (p : Piece) (next : ℕ) (load : Load) (lexemes : List Lexeme) → Stands text p at next → Reads text at load lexemes Whole → Piece_read p next load lexemes
  piece_read p next load [] stands reads = absurd (omega (arith, no_gaps reads.0 reads.1 next p stands reads.2, reads.3, stands.some, stands.within))
  piece_read p next load (l ∷ ls) stands reads =
      let start : l.start ≡ at = no_gaps reads.0 l.start next p stands reads.1 in
      let there : Stands text l.is at l.next = subst (λ (n : ℕ). Stands text l.is n l.next) start reads.2 in
      let is : l.is ≡ p = one_standing text at l.next next l.is p there stands in
      let to : l.next ≡ next = one_end text at l.next next l.is p there stands in
      record {
        more = ls;
        are = λ i. record { is = is i; start = start i; next = to i } ∷ ls;
        reads = subst (λ (q : Piece). Reads text next (load_after load q) ls Whole) is (subst (λ (n : ℕ). Reads text n (load_after load l.is) ls Whole) to reads.4);
      }

  -- at the end no piece is left
  end_start : (gaps : List ℕ) (stop : ℕ) → at ≡ length text → Gaps text at gaps stop → stop ≡ at
  end_start [] stop end gaps = gaps
  end_start (to ∷ gaps) stop end more = absurd (no_gap_at_end text at end to more.0)

  pub none_read : (load : Load) (lexemes : List Lexeme) → at ≡ length text → Reads text at load lexemes Whole → lexemes ≡ []
  none_read load [] end reads = refl
  none_read load (l ∷ ls) end reads = absurd (omega (arith, end_start reads.0 l.start end reads.1, reads.2.some, reads.2.within))
