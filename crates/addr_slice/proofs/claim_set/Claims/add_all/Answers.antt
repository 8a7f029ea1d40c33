use Rattle.std.proofs.Common.{◌≡◌, ap, sym, ◌∙◌, arith}
use Rattle.addr_slice.specs.Claims.{Claimed, words_of, has, with_stretch}
use Rattle.addr_slice.proofs.Claiming.{stretch_room, stretch_claimed, stretch_again}
use Rattle.addr_slice.proofs.claim_set.Claims.add_all.Goals as goal

pub returns-then-is_whole-clause-claims : goal.returns-then-is_whole-clause-claims
returns-then-is_whole-clause-claims c =
    sym (stretch_again c.args.self.now c.args.first c.args.count c.args.write (λ word from below. c.is_whole.ensures.known c.if-is_whole.true word from (omega (arith, below))))

pub add-requires : goal.add-requires
add-requires c =
    let room : words_of c.loop-k.self ≡ words_of c.args.self.now = ap (λ s. words_of s) c.loop-k.invariant ∙ stretch_room c.args.self.now c.args.first c.loop-k.k c.args.write in
    omega (arith, room, c.requires.inside, c.loop-k-test.true)

module _ (c : goal.After-mark_whole-arg-1) where
  all : c.loop-k.self ≡ with_stretch c.args.self.now c.args.first c.args.count c.args.write
  all =
      let end : c.loop-k.k ≡ c.args.count = omega (arith, c.loop-k-test.false, c.loop-k.auto.k-end) in
      c.loop-k.invariant ∙ ap (λ k. with_stretch c.args.self.now c.args.first k c.args.write) end

  room : words_of c.loop-k.self ≡ words_of c.args.self.now
  room = ap (λ s. words_of s) all ∙ stretch_room c.args.self.now c.args.first c.args.count c.args.write

pub mark_whole-requires-clause-within : goal.mark_whole-requires-clause-within
mark_whole-requires-clause-within c = omega (arith, room c, c.requires.inside, c.if-count-eq0.false)

pub mark_whole-requires-clause-claimed : goal.mark_whole-requires-clause-claimed
mark_whole-requires-clause-claimed c = λ word from to.
    ap (λ (s : Claimed). has s word c.args.write) (all c)
    ∙ stretch_claimed c.args.self.now c.args.first c.args.count c.args.write c.is_whole.ensures.even c.requires.inside word from (omega (arith, to, c.if-count-eq0.false))

pub returns-clause-room : goal.returns-clause-room
returns-clause-room c =
    ap (λ s. words_of s) (c.mark_whole.ensures ∙ c.loop-k.invariant) ∙ stretch_room c.args.self.now c.args.first c.loop-k.k c.args.write
