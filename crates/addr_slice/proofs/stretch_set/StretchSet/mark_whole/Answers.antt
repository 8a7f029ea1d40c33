use Rattle.std.proofs.Common.{◌<◌, List, Bool, length, set, true, subst, sym}
use Rattle.addr_slice.specs.WordSet.{AreSet, IsMarked}
use Rattle.addr_slice.proofs.Marked.{marked-whole}
use Rattle.addr_slice.proofs.stretch_set.StretchSet.mark_whole.Goals as goal

pub invariant_of-self : goal.invariant_of-self
invariant_of-self c =
    let s = c.self.inside in
    subst (λ (ends : List Bool). IsMarked s.words c.insert.new.self ends) (sym c.insert-2.ensures)
    (subst (λ (starts : List Bool). IsMarked s.words starts (set s.ends c.args.last true)) (sym c.insert.ensures)
    (marked-whole s.words s.starts s.ends c.self.invariant c.args.first c.args.last c.requires.order
    (subst (λ (words : List Bool). c.args.last < length words) (sym c.self.view_is) c.requires.within)
    (subst (λ (words : List Bool). AreSet words c.args.first c.args.last) (sym c.self.view_is) c.requires.set)))
