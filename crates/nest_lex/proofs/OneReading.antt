-- A text has one reading.
use Rattle.std.proofs.Common.{◌≡◌, ℕ, ◌+◌, ◌-◌, true, List, [], ◌∷◌, length, slice_index, refl, sym, ap, subst, ◌∙◌, inl, inr, arith}
use Rattle.std.proofs.lemmas.Bool.{false≢true, cases_lt}
use Rattle.nest_lex.specs.Bytes.{is_digit}
use Rattle.nest_lex.specs.Load.{load_after, IsAllowed}
use Rattle.nest_lex.specs.Pieces.{IsGap, Gaps, Stands, OpensLine, OpensBlock, IsLineEnd, IsBlockEnd}
use Rattle.nest_lex.specs.Text.{Lexeme, Ending, Whole, Faulty, EndsAt, Reads, IsBadByte, IsBadNumber, IsBadComment}
use Rattle.nest_lex.specs.declared.load.Load.{Load}
use Rattle.nest_lex.specs.declared.piece.Piece.{Piece}
use Rattle.nest_lex.specs.declared.refused.LexKind.{LexKind}
use Rattle.nest_lex.specs.declared.refused.LexKind.TheVariants as fault
use Rattle.nest_lex.proofs.Ranges.{word_from_digit, blank_no_word}
use Rattle.nest_lex.proofs.OnePiece.{one_end, one_standing, blank_no_slash, clear_piece, past, no_gap_at_end}

-- a gap ends at one place
pub one_line_end : (text : List ℕ) (from to to' : ℕ) → IsLineEnd text from to → IsLineEnd text from to' → to ≡ to'
one_line_end text from to to' a b = elim (cases_lt to to') [
  | inl less ↦ absurd (b.none_before to a.ordered less (a.ends (omega (arith, b.within))))
  | inr least ↦ elim (cases_lt to' to) [
    | inl more ↦ absurd (a.none_before to' b.ordered more (b.ends (omega (arith, a.within))))
    | inr most ↦ omega arith
  ]
]

one_block_end : (text : List ℕ) (from to to' : ℕ) → IsBlockEnd text from to → IsBlockEnd text from to' → to ≡ to'
one_block_end text from to to' a b = elim (cases_lt to to') [
  | inl less ↦ absurd (b.none_before (to - 2) (omega (arith, a.ordered)) (omega (arith, a.ordered)) (a.closes (to - 2) (omega (arith, a.ordered))))
  | inr least ↦ elim (cases_lt to' to) [
    | inl more ↦ absurd (a.none_before (to' - 2) (omega (arith, b.ordered)) (omega (arith, b.ordered)) (b.closes (to' - 2) (omega (arith, b.ordered))))
    | inr most ↦ omega arith
  ]
]

no_both : (text : List ℕ) (at : ℕ) → OpensLine text at → OpensBlock text at → ⊥
no_both text at line block = omega (arith, line.1, block.1)

one_gap : (text : List ℕ) (at to to' : ℕ) → IsGap text at to → IsGap text at to' → to ≡ to'
one_gap text at to to' (inl a) (inl b) = a.1 ∙ sym b.1
one_gap text at to to' (inl a) (inr (inl b)) = absurd (blank_no_slash (slice_index text at) a.0 b.0.0)
one_gap text at to to' (inl a) (inr (inr b)) = absurd (blank_no_slash (slice_index text at) a.0 b.0.0)
one_gap text at to to' (inr (inl a)) (inl b) = absurd (blank_no_slash (slice_index text at) b.0 a.0.0)
one_gap text at to to' (inr (inl a)) (inr (inl b)) = one_line_end text (at + 2) to to' a.1 b.1
one_gap text at to to' (inr (inl a)) (inr (inr b)) = absurd (no_both text at a.0 b.0)
one_gap text at to to' (inr (inr a)) (inl b) = absurd (blank_no_slash (slice_index text at) b.0 a.0.0)
one_gap text at to to' (inr (inr a)) (inr (inl b)) = absurd (no_both text at b.0 a.0)
one_gap text at to to' (inr (inr a)) (inr (inr b)) = one_block_end text (at + 2) to to' a.1 b.1

-- no gap begins at this place
abbrev Clear : List ℕ → ℕ → Type 0
Clear text at = (to : ℕ) → IsGap text at to → ⊥

digit_no_slash : (b : ℕ) → is_digit b ≡ true → b ≡ 47 → ⊥
digit_no_slash b digit slash = absurd (false≢true (sym (ap is_digit slash) ∙ digit))

no_gap_at_byte : (text : List ℕ) (at : ℕ) → IsBadByte text at → (to : ℕ) → IsGap text at to → ⊥
no_gap_at_byte text at bad to (inl gap) = absurd (false≢true (sym bad.no_blank ∙ gap.0))
no_gap_at_byte text at bad to (inr (inl gap)) = bad.no_line gap.0
no_gap_at_byte text at bad to (inr (inr gap)) = bad.no_block gap.0

no_gap_at_digit : (text : List ℕ) (at : ℕ) → is_digit (slice_index text at) ≡ true → (to : ℕ) → IsGap text at to → ⊥
no_gap_at_digit text at digit to (inl gap) = absurd (false≢true (sym (blank_no_word (slice_index text at) gap.0) ∙ word_from_digit (slice_index text at) digit))
no_gap_at_digit text at digit to (inr (inl gap)) = digit_no_slash (slice_index text at) digit gap.0.0
no_gap_at_digit text at digit to (inr (inr gap)) = digit_no_slash (slice_index text at) digit gap.0.0

no_gap_at_comment : (text : List ℕ) (at : ℕ) → IsBadComment text at → (to : ℕ) → IsGap text at to → ⊥
no_gap_at_comment text at bad to (inl gap) = blank_no_slash (slice_index text at) gap.0 bad.block.0
no_gap_at_comment text at bad to (inr (inl gap)) = no_both text at gap.0 bad.block
no_gap_at_comment text at bad to (inr (inr gap)) =
    let after = gap.1.ordered in bad.no_end (to - 2) (omega arith) (gap.1.closes (to - 2) (omega arith))

clear_end : (text : List ℕ) (load : Load) (at : ℕ) (ending : Ending) → EndsAt text load at ending → Clear text at
clear_end text load at Whole ends = no_gap_at_end text at ends
clear_end text load at (Faulty fault.Byte place) ends = no_gap_at_byte text at ends.1
clear_end text load at (Faulty fault.Number place) ends = no_gap_at_digit text at ends.1.digit
clear_end text load at (Faulty fault.Comment place) ends = no_gap_at_comment text at ends.1
clear_end text load at (Faulty fault.Dense place) ends = clear_piece text ends.1.is at ends.1.next ends.1.stands

one_stop : (text : List ℕ) (at stop stop' : ℕ) (gaps gaps' : List ℕ) → Gaps text at gaps stop → Clear text stop → Gaps text at gaps' stop' → Clear text stop' → stop ≡ stop'
one_stop text at stop stop' [] [] a clear b clear' = a ∙ sym b
one_stop text at stop stop' [] (g ∷ gs) a clear b clear' = absurd (clear g (subst (λ (n : ℕ). IsGap text n g) (sym a) b.0))
one_stop text at stop stop' (g ∷ gs) [] a clear b clear' = absurd (clear' g (subst (λ (n : ℕ). IsGap text n g) (sym b) a.0))
one_stop text at stop stop' (g ∷ gs) (h ∷ hs) a clear b clear' =
    one_stop text g stop stop' gs hs a.1 clear (subst (λ (n : ℕ). Gaps text n hs stop') (sym (one_gap text at g h a.0 b.0)) b.1) clear'

-- the end of the text is no fault, and one fault is no other
end_no_digit : (text : List ℕ) (at : ℕ) → at ≡ length text → IsBadNumber text at → ⊥
end_no_digit text at end bad = absurd (false≢true (sym (ap is_digit (past text at end)) ∙ bad.digit))

end_no_comment : (text : List ℕ) (at : ℕ) → at ≡ length text → IsBadComment text at → ⊥
end_no_comment text at end bad = omega (arith, past text at end, bad.block.0)

end_no_standing : (text : List ℕ) (at next : ℕ) (p : Piece) → at ≡ length text → Stands text p at next → ⊥
end_no_standing text at next p end stands = omega (arith, end, stands.some, stands.within)

byte_no_number : (text : List ℕ) (at : ℕ) → IsBadByte text at → IsBadNumber text at → ⊥
byte_no_number text at a b = absurd (false≢true (sym a.no_digit ∙ b.digit))

number_no_comment : (text : List ℕ) (at : ℕ) → IsBadNumber text at → IsBadComment text at → ⊥
number_no_comment text at a b = digit_no_slash (slice_index text at) a.digit b.block.0

same_place : (k : LexKind) (place place' at : ℕ) → place ≡ at → place' ≡ at → Faulty k place ≡ Faulty k place'
same_place k place place' at a b = ap (Faulty k) (a ∙ sym b)

one_ending : (text : List ℕ) (load : Load) (at : ℕ) (e e' : Ending) → EndsAt text load at e → EndsAt text load at e' → e ≡ e'
one_ending text load at Whole Whole a b = refl
one_ending text load at Whole (Faulty fault.Byte q) a b = let within = b.1.within in absurd (omega arith)
one_ending text load at Whole (Faulty fault.Number q) a b = absurd (end_no_digit text at a b.1)
one_ending text load at Whole (Faulty fault.Comment q) a b = absurd (end_no_comment text at a b.1)
one_ending text load at Whole (Faulty fault.Dense q) a b = absurd (end_no_standing text at b.1.next b.1.is a b.1.stands)
one_ending text load at (Faulty fault.Byte p) Whole a b = let within = a.1.within in absurd (omega arith)
one_ending text load at (Faulty fault.Byte p) (Faulty fault.Byte q) a b = same_place fault.Byte p q at a.0 b.0
one_ending text load at (Faulty fault.Byte p) (Faulty fault.Number q) a b = absurd (byte_no_number text at a.1 b.1)
one_ending text load at (Faulty fault.Byte p) (Faulty fault.Comment q) a b = absurd (a.1.no_block b.1.block)
one_ending text load at (Faulty fault.Byte p) (Faulty fault.Dense q) a b = absurd (a.1.no_piece b.1.is b.1.next b.1.stands)
one_ending text load at (Faulty fault.Number p) Whole a b = absurd (end_no_digit text at b a.1)
one_ending text load at (Faulty fault.Number p) (Faulty fault.Byte q) a b = absurd (byte_no_number text at b.1 a.1)
one_ending text load at (Faulty fault.Number p) (Faulty fault.Number q) a b = same_place fault.Number p q at a.0 b.0
one_ending text load at (Faulty fault.Number p) (Faulty fault.Comment q) a b = absurd (number_no_comment text at a.1 b.1)
one_ending text load at (Faulty fault.Number p) (Faulty fault.Dense q) a b = absurd (a.1.no_piece b.1.is b.1.next b.1.stands)
one_ending text load at (Faulty fault.Comment p) Whole a b = absurd (end_no_comment text at b a.1)
one_ending text load at (Faulty fault.Comment p) (Faulty fault.Byte q) a b = absurd (b.1.no_block a.1.block)
one_ending text load at (Faulty fault.Comment p) (Faulty fault.Number q) a b = absurd (number_no_comment text at b.1 a.1)
one_ending text load at (Faulty fault.Comment p) (Faulty fault.Comment q) a b = same_place fault.Comment p q at a.0 b.0
one_ending text load at (Faulty fault.Comment p) (Faulty fault.Dense q) a b = absurd (b.1.stands.no_block a.1.block)
one_ending text load at (Faulty fault.Dense p) Whole a b = absurd (end_no_standing text at a.1.next a.1.is b a.1.stands)
one_ending text load at (Faulty fault.Dense p) (Faulty fault.Byte q) a b = absurd (b.1.no_piece a.1.is a.1.next a.1.stands)
one_ending text load at (Faulty fault.Dense p) (Faulty fault.Number q) a b = absurd (b.1.no_piece a.1.is a.1.next a.1.stands)
one_ending text load at (Faulty fault.Dense p) (Faulty fault.Comment q) a b = absurd (a.1.stands.no_block b.1.block)
one_ending text load at (Faulty fault.Dense p) (Faulty fault.Dense q) a b = same_place fault.Dense p q at a.0 b.0

-- reading does not end where an allowed piece stands
end_no_piece : (text : List ℕ) (load : Load) (at next : ℕ) (e : Ending) (p : Piece) → EndsAt text load at e → Stands text p at next → IsAllowed (load_after load p) → ⊥
end_no_piece text load at next Whole p ends stands allowed = end_no_standing text at next p ends stands
end_no_piece text load at next (Faulty fault.Byte q) p ends stands allowed = ends.1.no_piece p next stands
end_no_piece text load at next (Faulty fault.Number q) p ends stands allowed = ends.1.no_piece p next stands
end_no_piece text load at next (Faulty fault.Comment q) p ends stands allowed = stands.no_block ends.1.block
end_no_piece text load at next (Faulty fault.Dense q) p ends stands allowed =
    ends.1.too_much (subst (λ (is : Piece). IsAllowed (load_after load is)) (one_standing text at next ends.1.next p ends.1.is stands ends.1.stands) allowed)

end_or_piece : (text : List ℕ) (load : Load) (at stop start next : ℕ) (gaps gaps' : List ℕ) (e : Ending) (p : Piece) → Gaps text at gaps stop → EndsAt text load stop e
    → Gaps text at gaps' start → Stands text p start next → IsAllowed (load_after load p) → ⊥
end_or_piece text load at stop start next gaps gaps' e p a ends b stands allowed =
    let same : stop ≡ start = one_stop text at stop start gaps gaps' a (clear_end text load stop e ends) b (clear_piece text p start next stands) in
    end_no_piece text load start next e p (subst (λ (n : ℕ). EndsAt text load n e) same ends) stands allowed

pub one_reading : (text : List ℕ) (at : ℕ) (load : Load) (ls ls' : List Lexeme) (e e' : Ending) → Reads text at load ls e → Reads text at load ls' e' → (ls ≡ ls') × (e ≡ e')
one_reading text at load [] [] e e' a b =
    let same : a.1 ≡ b.1 = one_stop text at a.1 b.1 a.0 b.0 a.2 (clear_end text load a.1 e a.3) b.2 (clear_end text load b.1 e' b.3) in
    (refl, one_ending text load b.1 e e' (subst (λ (n : ℕ). EndsAt text load n e) same a.3) b.3)
one_reading text at load [] (l ∷ ls) e e' a b = absurd (end_or_piece text load at a.1 l.start l.next a.0 b.0 e l.is a.2 a.3 b.1 b.2 b.3)
one_reading text at load (l ∷ ls) [] e e' a b = absurd (end_or_piece text load at b.1 l.start l.next b.0 a.0 e' l.is b.2 b.3 a.1 a.2 a.3)
one_reading text at load (l ∷ ls) (m ∷ ms) e e' a b =
    let start : l.start ≡ m.start =
    one_stop text at l.start m.start a.0 b.0 a.1 (clear_piece text l.is l.start l.next a.2) b.1 (clear_piece text m.is m.start m.next b.2) in
    let there : Stands text l.is m.start l.next = subst (λ (n : ℕ). Stands text l.is n l.next) start a.2 in
    let is : l.is ≡ m.is = one_standing text m.start l.next m.next l.is m.is there b.2 in
    let next : l.next ≡ m.next = one_end text m.start l.next m.next l.is m.is there b.2 in
    let lexeme : l ≡ m = λ i. record { is = is i; start = start i; next = next i } in
    let rest : Reads text l.next (load_after load l.is) ms e' =
    subst (λ (p : Piece). Reads text l.next (load_after load p) ms e') (sym is)
    (subst (λ (n : ℕ). Reads text n (load_after load m.is) ms e') (sym next) b.4) in
    let more = one_reading text l.next (load_after load l.is) ls ms e e' a.4 rest in
    (λ i. lexeme i ∷ more.0 i, more.1)
