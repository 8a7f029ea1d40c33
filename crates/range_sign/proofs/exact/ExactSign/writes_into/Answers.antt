use Rattle.std.proofs.Common.{◌≡◌, ◌+◌, ◌<◌, length, get_or, subst, sym, ap, ◌∙◌, arith, rules}
use Rattle.std.proofs.lemmas.Grind.{common_steps}
use Rattle.range_sign.specs.Overlap.{any_below}
use Rattle.range_sign.specs.Exact.{Exact}
use Rattle.range_sign.proofs.Words.{is_common, common-seen, array-within}
use Rattle.range_sign.proofs.exact.ExactSign.writes_into.Goals as goal

pub has_common-requires : goal.has_common-requires
has_common-requires c =
    let there : c.args.array < length c.self.inside.sizes.items = subst (λ (e : Exact). c.args.array < length e.sizes) (sym c.self.view_is) c.requires.array in
    let size : c.index.result.now ≡ get_or c.self.inside.sizes.items c.args.array 0 = first_of (search rules, grind (arith, common_steps)) in
    let start : c.index-2.result.now ≡ get_or c.self.inside.starts.items c.args.array 0 = first_of (search rules, grind (arith, common_steps)) in
    omega (arith, c.self.invariant.start_of c.args.array there, array-within c.self.inside.sizes.items c.args.array there, c.self.invariant.few_words)

pub returns : goal.returns
returns c =
    let there : c.args.array < length c.self.inside.sizes.items = subst (λ (e : Exact). c.args.array < length e.sizes) (sym c.self.view_is) c.requires.array in
    let size : c.index.result.now ≡ get_or c.self.inside.sizes.items c.args.array 0 = first_of (search rules, grind (arith, common_steps)) in
    let start : c.index-2.result.now ≡ get_or c.self.inside.starts.items c.args.array 0 = first_of (search rules, grind (arith, common_steps)) in
    c.has_common.ensures
    ∙ ap (any_below (λ place. is_common c.self.inside.writes c.other.inside.reads c.other.inside.writes (c.index-2.result.now + place))) size
    ∙ common-seen (record { sizes = c.self.inside.sizes.items; reads = c.self.inside.reads; writes = c.self.inside.writes }) (record { sizes = c.other.inside.sizes.items; reads = c.other.inside.reads; writes = c.other.inside.writes })
    c.args.self.now c.args.other.now c.args.array c.index-2.result.now c.self.view_is c.other.view_is (start ∙ c.self.invariant.start_of c.args.array there) c.requires.sizes
