use Rattle.std.proofs.Common.{◌≡◌, sum, take}
use Rattle.addr_slice.specs.Claims.{by_word}
use Rattle.spec_machine.specs.Segments.{with_claims}
use Rattle.spec_setup.specs.Signs.{kind_of}
use Rattle.spec_core.specs.Signatures.{signs}
use Rattle.nest_profile.proofs.noting.note_claims.Given as goal

abbrev pub invariant-loop-array : goal.invariant-loop-array
invariant-loop-array g l = (l.start ≡ sum (take l.array l.lengths)) × (g.G.Signature.sizes_of l.sign ≡ l.lengths)
    × (l.sign ≡ with_claims (kind_of l.lengths (signs g.G.Signature.EXACT g.G.Signature.holds g.G.Signature.nothing g.G.Signature.with_note)) (by_word l.claims) l.start l.fn.sign)
