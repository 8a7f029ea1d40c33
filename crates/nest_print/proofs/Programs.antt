-- The canonical text of a program is read back as the same program.
use Rattle.std.proofs.Common.{◌≡◌, ◌≢◌, ℕ, zero, suc, ◌<◌, ◌≤◌, ℤ, pos, neg_ℤ, true, false, List, [], ◌∷◌, ◌++◌, length, get_or, map, refl, sym, ap, ◌∙◌, subst, inl, inr, arith, append_assoc, codes}
use Rattle.std.specs.List.{AllPairs, flat_map, fold}
use Rattle.std.specs.Fmt.{decimal, signed_decimal}
use Rattle.std.specs.Str.{bytes_eq}
use Rattle.std.proofs.lemmas.Bool.{cases_lt, false_from_ne_true}
use Rattle.std.proofs.lemmas.List.{append-nil, get_or_past}
use Rattle.std.proofs.lemmas.List.Sums.{fold-append, position_or_len_is}
use Rattle.std.proofs.lemmas.Slice.Eq.{bytes_eq-Decides}
use Rattle.nest_syntax.specs.declared.names.Line.{Line}
use Rattle.nest_syntax.specs.declared.tree.Decl.{Decl}
use Rattle.nest_syntax.specs.declared.tree.Decl.TheVariants as decl
use Rattle.nest_syntax.specs.declared.tree.Loop.{Loop}
use Rattle.nest_syntax.specs.declared.tree.Program.{Program}
use Rattle.nest_lex.specs.Bytes.{is_word_byte}
use Rattle.nest_lex.specs.Load.{no_load, load_after}
use Rattle.nest_lex.specs.Reader.{AllKnown, IsKnown}
use Rattle.nest_lex.specs.Spelling.{Spells, IsName}
use Rattle.nest_lex.specs.Text.{Lexeme, Whole, Reads, AreTokens, bytes_of, names_of, names_with, with_name, kind_of, token_of, tokens_of}
use Rattle.nest_lex.specs.declared.load.Load.{Load}
use Rattle.nest_lex.specs.declared.piece.Piece.{Piece}
use Rattle.nest_lex.specs.declared.piece.Piece.TheVariants as piece
use Rattle.nest_lex.specs.declared.token.Keyword.TheVariants as word
use Rattle.nest_lex.specs.declared.token.Mark.TheVariants as mark
use Rattle.nest_lex.specs.declared.token.Token.{Token}
use Rattle.nest_lex.specs.declared.token.Tokens.{Tokens}
use Rattle.nest_lex.proofs.Numbering.{names_grow, known_more, piece_known, same_bytes}
use Rattle.nest_parse.specs.Grammar.{greatest, line, IsSigned, positive, negative, IsDecl, an_array, a_fixed_array, a_scalar, AreDecls, no_decl, declaration, AreLoops, no_loop, a_region, AreProgram}
use Rattle.nest_print.specs.Canonical.{name_text, region_text, decl_text, all_shown, canonical_text}
use Rattle.nest_print.proofs.Agreed as same
use Rattle.nest_print.proofs.Said.{in_all, in_decl, in_loop, in_kind, in_tokens, program_said}
use Rattle.nest_print.proofs.Agreed.{AreNumbered, AgreeDecl, AgreeDecls, AgreeLoop, AgreeLoops}
use Rattle.nest_print.specs.Same.{IsSpelled, ComesBack}
use Rattle.nest_print.proofs.Left.{Left, moved, past, at_end}
use Rattle.nest_print.proofs.Takes.{place, place_is, name_some, take_name, take_number, take_keyword, take_mark, take_lone}
use Rattle.nest_print.proofs.Printable.{IsNamed, AllNames}
use Rattle.nest_print.proofs.Values.{first_of_number}
use Rattle.nest_print.proofs.Statements.{outer, after, Returned}
use Rattle.nest_print.proofs.Blocks.{loop_back}

-- the names of a text are known, and are names
abbrev after_lexemes : List ℕ → List (List ℕ) → List Lexeme → List (List ℕ)
after_lexemes text names lexemes = fold (λ ns lexeme. names_with ns (bytes_of text lexeme) lexeme.is) names lexemes

known_stays : (text : List ℕ) (lexemes : List Lexeme) (names : List (List ℕ)) (bytes : List ℕ) (p : Piece) → IsKnown names bytes p → IsKnown (after_lexemes text names lexemes) bytes p
known_stays text [] names bytes p known = known
known_stays text (l ∷ ls) names bytes p known =
    let grown = names_grow names (bytes_of text l) l.is in
    known_stays text ls (names_with names (bytes_of text l) l.is) bytes p (subst (λ ns. IsKnown ns bytes p) (sym grown.1) (known_more names grown.0 bytes p known))

all_known : (text : List ℕ) (lexemes : List Lexeme) (names : List (List ℕ)) → AllKnown text (after_lexemes text names lexemes) lexemes
all_known text [] names = tt
all_known text (l ∷ ls) names =
    let more = names_with names (bytes_of text l) l.is in
    (known_stays text ls more (bytes_of text l) l.is (piece_known names (bytes_of text l) l.is), all_known text ls more)

is_named : (names : List (List ℕ)) (bytes : List ℕ) (p : Piece) → IsKnown names bytes p → Spells p bytes → IsNamed names (kind_of names bytes p)
is_named names bytes piece.Name known spelled = subst IsName (sym (place_is bytes names known)) spelled
is_named names bytes (piece.Number n) known spelled = tt
is_named names bytes (piece.Keyword k) known spelled = tt
is_named names bytes (piece.Mark m) known spelled = tt

all_named : (text : List ℕ) (names : List (List ℕ)) (at : ℕ) (load : Load) (lexemes : List Lexeme) → Reads text at load lexemes Whole → AllKnown text names lexemes → AllNames names (map (token_of text names) lexemes)
all_named text names at load [] reads known = tt
all_named text names at load (l ∷ ls) reads known = (is_named names (bytes_of text l) l.is known.0 reads.2.spelled, all_named text names l.next (load_after load l.is) ls reads.4 known.1)

tokens_named : (text : List ℕ) (tokens : Tokens) → AreTokens text tokens → AllNames tokens.names tokens.list
tokens_named text tokens are =
    subst (λ (t : Tokens). AllNames t.names t.list) (sym are.are) (all_named text (names_of text are.lexemes) 0 no_load are.lexemes are.read (all_known text are.lexemes []))

array_split : (a b c d e rest : List ℕ) → (a ++ b ++ c ++ d ++ e) ++ rest ≡ a ++ (b ++ (c ++ (d ++ (e ++ rest))))
array_split a b c d e rest = simp append_assoc

fixed_split : (a b c d e f rest : List ℕ) → ((a ++ b) ++ c ++ d ++ e ++ f) ++ rest ≡ a ++ (b ++ (c ++ (d ++ (e ++ (f ++ rest)))))
fixed_split a b c d e f rest = simp append_assoc

-- a number with its sign is read, and what is left behind it
pub record Signed_back (text : List ℕ) (names : List (List ℕ)) (z : ℤ) (tokens : List Token) (rest : List ℕ) : Type 0 where
  pub more : List Token
  pub is : IsSigned tokens z more
  pub left : Left text names more rest

module _ (text : List ℕ) (names : List (List ℕ)) where
  abbrev Reads_signed : ℤ → Type 0
  Reads_signed z = (rest : List ℕ) → is_word_byte (get_or rest 0 0) ≡ false → (tokens : List Token) → Left text names tokens (signed_decimal z ++ rest) → Signed_back text names z tokens rest

  read_positive : (n : ℕ) → n ≤ greatest → Reads_signed (pos n)
  read_positive n small rest ends tokens left =
      let t = take_number n small ends left in
      record { more = t.more; is = subst (λ ts. IsSigned ts (pos n) t.more) (sym t.are) (positive small); left = t.left }

  read_negative : (n : ℕ) → n ≤ greatest → Reads_signed (neg_ℤ (pos n))
  read_negative zero small rest ends tokens left = read_positive 0 small rest ends tokens left
  read_negative (suc n) small rest ends tokens left =
      let f = first_of_number (suc n) small in
      let behind = ap (λ x. x ++ rest) f.is in
      let m = take_mark mark.Minus f.byte f.plain refl (moved (ap (λ x. 45 ∷ x) behind) left) in
      let t = take_number (suc n) small ends (moved (sym behind) m.left) in
      record { more = t.more; is = subst (λ ts. IsSigned ts (neg_ℤ (pos (suc n))) t.more) (sym (after m.are t.are)) (negative small); left = t.left }

  read_signed : {z : ℤ} {ts r : List Token} → IsSigned ts z r → Reads_signed z
  read_signed (positive {n = n} small) = read_positive n small
  read_signed (negative {n = n} small) = read_negative n small

signed_good : (old : List (List ℕ)) {z : ℤ} {ts r : List Token} → IsSigned ts z r → AllNames old ts → AllNames old r
signed_good old (positive x) h = h.1
signed_good old (negative x) h = h.1.1

module _ (old : List (List ℕ)) (text : List ℕ) (names : List (List ℕ)) where
  abbrev Read_back : {X : Type 0} → (List Token → X → List Token → Type 0) → (X → X → Type 0) → X → List ℕ → Type 0
  Read_back Is Same x shown = (rest : List ℕ) (tokens : List Token) → Left text names tokens (shown ++ rest) → Returned old text names Is Same x tokens rest

  read_array : (on : Line) (n c : ℕ) → IsName (name_text old n) → c ≤ greatest → Read_back IsDecl (AgreeDecl old names) (decl.Array on n c false) (decl_text old (decl.Array on n c false))
  read_array on n c name small rest tokens left =
      let k = take_keyword word.Long refl (moved (array_split (codes "long ") (name_text old n) (codes "[") (decimal c) (codes "];\n") rest) left) in
      let t = take_name (name_text old n) name refl (past 32 refl k.left) in
      let opened = take_lone mark.OpenSquare refl t.took.left in
      let count = take_number c small refl opened.left in
      let closed = take_lone mark.CloseSquare refl count.left in
      let end = take_lone mark.Semicolon refl closed.left in
      record {
        back = decl.Array (line k.spot) (place names (name_text old n)) c false;
        more = end.more;
        is = subst (λ ts. IsDecl ts (decl.Array (line k.spot) (place names (name_text old n)) c false) end.more) (sym (after k.are (after t.took.are (after opened.are (after count.are (after closed.are end.are)))))) (an_array small);
        same = same.array (record { name = name; is = t.is });
        left = past 10 refl end.left;
      }

  read_fixed : (on : Line) (n c : ℕ) → IsName (name_text old n) → c ≤ greatest → Read_back IsDecl (AgreeDecl old names) (decl.Array on n c true) (decl_text old (decl.Array on n c true))
  read_fixed on n c name small rest tokens left =
      let f = take_keyword word.Const refl (moved (fixed_split (codes "const ") (codes "long ") (name_text old n) (codes "[") (decimal c) (codes "];\n") rest) left) in
      let k = take_keyword word.Long refl (past 32 refl f.left) in
      let t = take_name (name_text old n) name refl (past 32 refl k.left) in
      let opened = take_lone mark.OpenSquare refl t.took.left in
      let count = take_number c small refl opened.left in
      let closed = take_lone mark.CloseSquare refl count.left in
      let end = take_lone mark.Semicolon refl closed.left in
      record {
        back = decl.Array (line f.spot) (place names (name_text old n)) c true;
        more = end.more;
        is = subst (λ ts. IsDecl ts (decl.Array (line f.spot) (place names (name_text old n)) c true) end.more)
            (sym (after f.are (after k.are (after t.took.are (after opened.are (after count.are (after closed.are end.are))))))) (a_fixed_array small);
        same = same.array (record { name = name; is = t.is });
        left = past 10 refl end.left;
      }

  read_scalar : (on : Line) (n : ℕ) (z : ℤ) → IsName (name_text old n) → Reads_signed text names z → Read_back IsDecl (AgreeDecl old names) (decl.Scalar on n z) (decl_text old (decl.Scalar on n z))
  read_scalar on n z name read rest tokens left =
      let k = take_keyword word.Long refl (moved (array_split (codes "long ") (name_text old n) (codes " = ") (signed_decimal z) (codes ";\n") rest) left) in
      let t = take_name (name_text old n) name refl (past 32 refl k.left) in
      let a = take_mark mark.Assign 32 refl refl (past 32 refl t.took.left) in
      let s = read (59 ∷ 10 ∷ rest) refl a.more (past 32 refl a.left) in
      let end = take_lone mark.Semicolon refl s.left in
      record {
        back = decl.Scalar (line k.spot) (place names (name_text old n)) z;
        more = end.more;
        is = subst (λ ts. IsDecl ts (decl.Scalar (line k.spot) (place names (name_text old n)) z) end.more) (sym (after k.are (after t.took.are a.are))) (a_scalar (subst (λ ts. IsSigned a.more z ts) end.are s.is));
        same = same.a_scalar (record { name = name; is = t.is });
        left = past 10 refl end.left;
      }

  decl_back : {ts r : List Token} {x : Decl} → IsDecl ts x r → AllNames old ts → Read_back IsDecl (AgreeDecl old names) x (decl_text old x) × AllNames old r
  decl_back (an_array {n = n} {c = c} small) h = (read_array _ n c h.1.0 small, h.1.1.1.1.1.1)
  decl_back (a_fixed_array {n = n} {c = c} small) h = (read_fixed _ n c h.1.1.0 small, h.1.1.1.1.1.1.1)
  decl_back (a_scalar {n = n} {z = z} x) h = let r = signed_good old x h.1.1.1 in (read_scalar _ n z h.1.0 (read_signed text names x), r.1)

  decls_back : {ts r : List Token} {xs : List Decl} → AreDecls ts xs r → AllNames old ts → Read_back AreDecls (AgreeDecls old names) xs (flat_map (decl_text old) xs) × AllNames old r
  decls_back no_decl h = (λ rest tokens left. record { back = []; more = tokens; is = no_decl; same = same.no_decl; left = left }, h)
  decls_back (declaration {x = x} {xs = xs} y ys) h =
      let v = decl_back y h in
      let w = decls_back ys v.1 in (
        λ rest tokens left.
            let a = v.0 _ tokens (moved (append_assoc (decl_text old x) (flat_map (decl_text old) xs) rest) left) in
            let b = w.0 rest a.more a.left in
            record { back = a.back ∷ b.back; more = b.more; is = declaration a.is b.is; same = same.one_decl a.same b.same; left = b.left },
        w.1,
      )

  loops_back : {ts r : List Token} {xs : List Loop} → AreLoops ts xs r → AllNames old ts → Read_back AreLoops (AgreeLoops old names) xs (all_shown [] (map (region_text old) xs)) × AllNames old r
  loops_back no_loop h = (λ rest tokens left. record { back = []; more = tokens; is = no_loop; same = same.no_loop; left = left }, h)
  loops_back (a_region {x = x} {xs = xs} y ys) h =
      let v = loop_back old text names y h in
      let w = loops_back ys v.1 in (
        λ rest tokens left.
            let a = v.0 [] outer _ tokens (moved (append_assoc (region_text old x []) (all_shown [] (map (region_text old) xs)) rest) left) in
            let b = w.0 rest a.more a.left in
            record { back = a.back ∷ b.back; more = b.more; is = a_region a.is b.is; same = same.one_loop a.same b.same; left = b.left },
        w.1,
      )

-- the tokens of the whole text
whole_left : (text : List ℕ) (lexemes : List Lexeme) → Reads text 0 no_load lexemes Whole → Left text (names_of text lexemes) (map (token_of text (names_of text lexemes)) lexemes) text
whole_left text lexemes reads = record { at = 0; load = no_load; lexemes = lexemes; reads = reads; known = all_known text lexemes []; are = refl; within = omega arith; here = refl }

-- a token has the bytes of its lexeme
kind_bytes : (names seen : List (List ℕ)) (bytes : List ℕ) (p : Piece) → IsKnown names bytes p → names_with seen bytes p ≡ fold with_name seen (in_kind names (kind_of names bytes p))
kind_bytes names seen bytes piece.Name known = ap (with_name seen) (sym (place_is bytes names known))
kind_bytes names seen bytes (piece.Number n) known = refl
kind_bytes names seen bytes (piece.Keyword k) known = refl
kind_bytes names seen bytes (piece.Mark m) known = refl

-- the names of a text are those of its tokens, in the order of their first appearance
after_said : (text : List ℕ) (names seen : List (List ℕ)) (lexemes : List Lexeme) → AllKnown text names lexemes
    → after_lexemes text seen lexemes ≡ fold with_name seen (in_tokens names (map (token_of text names) lexemes))
after_said text names seen [] known = refl
after_said text names seen (l ∷ ls) known =
    after_said text names (names_with seen (bytes_of text l) l.is) ls known.1
    ∙ ap (λ ns. fold with_name ns (in_tokens names (map (token_of text names) ls))) (kind_bytes names seen (bytes_of text l) l.is known.0)
    ∙ sym (fold-append with_name seen (in_kind names (kind_of names (bytes_of text l) l.is)) (in_tokens names (map (token_of text names) ls)))

-- the names of a program, in the order of their first appearance
abbrev first_said : List (List ℕ) → List Decl → List Loop → List (List ℕ)
first_said names decls regions = fold with_name [] (in_all (map (in_decl names) decls) ++ in_all (map (in_loop names) regions))

said_first : (text : List ℕ) (tokens : Tokens) {decls : List Decl} {regions : List Loop} → AreTokens text tokens → AreProgram tokens.list decls regions → tokens.names ≡ first_said tokens.names decls regions
said_first text tokens are spelled =
    subst (λ (t : Tokens). t.names ≡ fold with_name [] (in_tokens t.names t.list)) (sym are.are) (after_said text (names_of text are.lexemes) [] are.lexemes (all_known text are.lexemes []))
    ∙ ap (fold with_name []) (program_said tokens.names spelled)

inside : (names : List (List ℕ)) (n : ℕ) → IsName (name_text names n) → n < length names
inside names n name = elim (cases_lt n (length names)) [
  | inl less ↦ less
  | inr over ↦ absurd (omega (arith, name_some (name_text names n) name, ap length (get_or_past names n [] over)))
]

-- where no two names are alike, a name stands at its number
numbered : (names : List (List ℕ)) → AllPairs (λ a b. a ≢ b) names → AreNumbered names names
numbered names differ n name =
    let there = inside names n name in
    position_or_len_is (bytes_eq (name_text names n)) names n [] (omega arith)
    (λ k below. false_from_ne_true (bytes_eq (name_text names n) (get_or names k [])) (λ same. differ k n [] below there (sym ((bytes_eq-Decides (name_text names n) (get_or names k [])).0 same))))
    (λ less. same_bytes (name_text names n))

pub comes_back : (program : Program) (again : Tokens) → AllPairs (λ a b. a ≢ b) program.names → IsSpelled program → AreTokens (canonical_text program) again → ComesBack program again
comes_back program again differ spelled are =
    let text = canonical_text program in
    let names = names_of text are.lexemes in
    let tokens : Tokens = tokens_of text are.lexemes in
    let shown = all_shown [] (map (region_text program.names) program.regions) in
    let good = subst (λ ns. AllNames ns spelled.tokens.list) (sym spelled.derives.names) (tokens_named spelled.text spelled.tokens spelled.are) in
    let spells = spelled.derives.spelled in
    let ds = decls_back program.names text names spells.declared good in
    let ls = loops_back program.names text names spells.looped ds.1 in
    let a = ds.0 shown (map (token_of text names) are.lexemes) (whole_left text are.lexemes are.read) in
    let b = ls.0 [] a.more (moved (sym (append-nil shown)) a.left) in
    let read : AreProgram tokens.list a.back b.back = record { middle = a.more; declared = a.is; looped = subst (λ ts. AreLoops a.more b.back ts) (at_end b.left) b.is } in
    let before : program.names ≡ first_said program.names program.decls program.regions =
    subst (λ ns. ns ≡ first_said ns program.decls program.regions) (sym spelled.derives.names) (said_first spelled.text spelled.tokens spelled.are spells) in
    let behind : names ≡ first_said names a.back b.back = said_first text tokens (record { lexemes = are.lexemes; read = are.read; are = refl }) read in
    let same : program.names ≡ names = before ∙ (λ i. fold with_name [] (a.same.spoken i ++ b.same.spoken i)) ∙ sym behind in
    let keeps : AreNumbered program.names names = subst (λ ns. AreNumbered program.names ns) same (numbered program.names differ) in
    subst (ComesBack program) (sym are.are) (record {
      back = record { names = names; decls = a.back; regions = b.back };
      derives = record { names = refl; spelled = read };
      same = record { names = same; decls = a.same.equal keeps; regions = b.same.equal keeps };
    })

-- the same of bytes that are this text
pub printed_comes_back : {program : Program} {out : List ℕ} {again : Tokens} → AllPairs (λ a b. a ≢ b) program.names → out ≡ canonical_text program → IsSpelled program → AreTokens out again → ComesBack program again
printed_comes_back {program} {out} {again} differ same spelled are = comes_back program again differ spelled (subst (λ text. AreTokens text again) same are)
