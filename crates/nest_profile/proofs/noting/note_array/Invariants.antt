use Rattle.std.proofs.Common.{◌≡◌, ◌≤◌, ◌-◌}
use Rattle.addr_slice.specs.Claims.{by_word}
use Rattle.spec_machine.specs.Segments.{with_claims}
use Rattle.spec_setup.specs.Signs.{kind_of}
use Rattle.spec_core.specs.Signatures.{signs}
use Rattle.nest_profile.proofs.noting.note_array.Given as goal

abbrev pub invariant-words : goal.invariant-words
invariant-words g l = (l.start ≤ l.from) × (l.from ≤ l.end) × (g.G.Signature.sizes_of l.sign ≡ g.G.Signature.sizes_of l.fn.sign)
    × ((before : g.row.G.Denot) → l.fn.sign ≡ with_claims (kind_of (g.G.Signature.sizes_of l.fn.sign) (signs g.G.Signature.EXACT g.G.Signature.holds g.G.Signature.nothing g.G.Signature.with_note)) (by_word l.claims) l.start before
    → l.sign ≡ with_claims (kind_of (g.G.Signature.sizes_of l.fn.sign) (signs g.G.Signature.EXACT g.G.Signature.holds g.G.Signature.nothing g.G.Signature.with_note)) (by_word l.claims) l.from before)

abbrev pub decreases-words : goal.decreases-words
decreases-words g l = l.end - l.from
