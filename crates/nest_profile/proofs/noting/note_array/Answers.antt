use Rattle.std.proofs.Common.{◌≡◌, ℕ, ◌+◌, suc, List, sym, ap, ◌∙◌, subst, arith}
use Rattle.addr_slice.specs.Claims.{by_word}
use Rattle.spec_machine.specs.Segments.{with_claimed, with_claims}
use Rattle.spec_setup.specs.Signs.{kind_of}
use Rattle.spec_core.specs.Signatures.{signs}
use Rattle.nest_profile.proofs.Claimed.{passed_over}
use Rattle.nest_profile.proofs.noting.note_array.Goals as goal

pub returns-then-word-end-clause-sign : goal.returns-then-word-end-clause-sign
returns-then-word-end-clause-sign g c = λ before is.
    let kind = kind_of (g.G.Signature.sizes_of c.args.sign.now) (signs g.G.Signature.EXACT g.G.Signature.holds g.G.Signature.nothing g.G.Signature.with_note) in
    let next = c.in-Some.ensures.next in
    c.words.invariant.3 before is ∙ sym (passed_over kind c.args.claims.now c.words.from c.args.end before c.words.invariant.1 (λ k low high. next.2 k low (omega (arith, high, c.if-word-end.true))))

pub words-preserved : goal.words-preserved
words-preserved g c =
    let s = signs g.G.Signature.EXACT g.G.Signature.holds g.G.Signature.nothing g.G.Signature.with_note in
    let kind = kind_of (g.G.Signature.sizes_of c.args.sign.now) s in
    let claims = c.args.claims.now in
    let word = c.in-Some.word in
    let next = c.in-Some.ensures.next in
    let one : word + 1 ≡ suc word = omega arith in
    let noted = subst (λ (sizes : List ℕ). c.note_word.new.sign ≡ with_claimed (kind_of sizes s) (by_word claims) word c.words.sign) c.words.invariant.2 c.note_word.ensures.sign in (
      omega (arith, c.words.invariant.0, next.0),
      omega (arith, c.if-word-end.false),
      c.note_word.ensures.sizes ∙ c.words.invariant.2,
      λ before is.
          noted
          ∙ ap (with_claimed kind (by_word claims) word) (c.words.invariant.3 before is ∙ sym (passed_over kind claims c.words.from word before next.0 (λ k low high. next.2 k low high)))
          ∙ ap (λ k. with_claims kind (by_word claims) k before) (sym one),
    )

pub returns-clause-sign : goal.returns-clause-sign
returns-clause-sign g c = λ before is.
    let kind = kind_of (g.G.Signature.sizes_of c.args.sign.now) (signs g.G.Signature.EXACT g.G.Signature.holds g.G.Signature.nothing g.G.Signature.with_note) in
    c.words.invariant.3 before is ∙ sym (passed_over kind c.args.claims.now c.words.from c.args.end before c.words.invariant.1 (λ k low high. c.in_default.ensures.next k low))
