use Rattle.std.proofs.Common.{true, false, ap, sym, ◌∙◌}
use Rattle.addr_slice.specs.Claims.{Claimed, has}
use Rattle.addr_slice.proofs.claim_set.Claims.mark_whole.Goals as goal

pub mark_whole-requires-clause-set : goal.mark_whole-requires-clause-set
mark_whole-requires-clause-set c = λ word from to.
    ap (λ (s : Claimed). has s word true) c.self.view_is ∙ ap (has c.args.self.now word) (sym c.if-write.true) ∙ c.requires.claimed word from to

pub mark_whole-requires-else-write-clause-set : goal.mark_whole-requires-else-write-clause-set
mark_whole-requires-else-write-clause-set c = λ word from to.
    ap (λ (s : Claimed). has s word false) c.self.view_is ∙ ap (has c.args.self.now word) (sym c.if-write.false) ∙ c.requires.claimed word from to
