use Rattle.std.proofs.Common.{ap, sym, ◌∙◌, if◌then◌else◌}
use Rattle.nest_syntax.specs.Arrays.{word_number}
use Rattle.spec_setup.specs.Signs.{with_word_noted}
use Rattle.spec_core.specs.Signatures.{signs}
use Rattle.spec_core.proofs.Numbers.{noted_there}
use Rattle.nest_profile.proofs.noting.note_if.Goals as goal

pub returns-then-is_claimed-clause-sign : goal.returns-then-is_claimed-clause-sign
returns-then-is_claimed-clause-sign g c =
    let s = signs g.G.Signature.EXACT g.G.Signature.holds g.G.Signature.nothing g.G.Signature.with_note in
    let old = c.args.sign.now in
    let sizes = g.G.Signature.sizes_of old in
    c.note.ensures.is
    ∙ sym (noted_there sizes s c.args.write c.args.array c.args.place old c.requires.array c.requires.place)
    ∙ ap (λ t. if t then with_word_noted sizes s c.args.write (word_number sizes c.args.array c.args.place) old else old) (sym c.if-is_claimed.true)
