use Rattle.std.proofs.Common.{refl, ap, ◌∙◌}
use Rattle.std.proofs.lemmas.List.{length-replicate}
use Rattle.addr_slice.specs.Claims.{words_of}
use Rattle.addr_slice.proofs.Slicing.{claims_as, cost_as, holds_as, others_as, number_as}
use Rattle.addr_slice.proofs.slices.claims_and_cost.Goals as goal

pub walk_block-requires-clause-room : goal.walk_block-requires-clause-room
walk_block-requires-clause-room c = ap (λ claims. words_of claims) c.clear.ensures ∙ length-replicate (words_of c.args.into.now) _ ∙ c.requires.room

pub returns-clause-claims : goal.returns-clause-claims
returns-clause-claims c = claims_as c.args.checked.now c.program-program.ensures.named c.program-program.ensures.keeps c.args.split.now c.requires.split c.args.body c.args.words.now.words c.args.scalars.now _ _ (words_of c.args.into.now) c.requires.room _ _ _ _ _ refl c.body_of-stmts.ensures c.clear_locals.ensures (rw c.clear.ensures at c.walk_block.ensures)

pub returns-clause-cost : goal.returns-clause-cost
returns-clause-cost c = cost_as c.args.checked.now c.program-program.ensures.named c.program-program.ensures.keeps c.args.split.now c.requires.split c.args.body c.args.words.now.words c.args.scalars.now _ _ (words_of c.args.into.now) c.requires.room _ _ _ _ _ refl c.body_of-stmts.ensures c.clear_locals.ensures (rw c.clear.ensures at c.walk_block.ensures)

pub returns-clause-holds : goal.returns-clause-holds
returns-clause-holds c = holds_as c.args.checked.now c.program-program.ensures.named c.program-program.ensures.keeps c.args.split.now c.requires.split c.args.body c.args.words.now.words c.args.scalars.now _ _ (words_of c.args.into.now) c.requires.room _ _ _ _ _ refl c.body_of-stmts.ensures c.clear_locals.ensures (rw c.clear.ensures at c.walk_block.ensures)

pub returns-clause-room : goal.returns-clause-room
returns-clause-room c = c.walk_block.ensures.meets.room ∙ ap (λ claims. words_of claims) c.clear.ensures ∙ length-replicate (words_of c.args.into.now) _ ∙ c.requires.room

pub returns-clause-names : goal.returns-clause-names
returns-clause-names c = number_as c.args.checked.now c.program-program.ensures.named c.program-program.ensures.keeps c.args.split.now c.requires.split c.args.body c.args.words.now.words c.args.scalars.now _ _ (words_of c.args.into.now) c.requires.room _ _ _ _ _ refl c.body_of-stmts.ensures c.clear_locals.ensures (rw c.clear.ensures at c.walk_block.ensures)

pub returns-clause-others : goal.returns-clause-others
returns-clause-others c = others_as c.args.checked.now c.program-program.ensures.named c.program-program.ensures.keeps c.args.split.now c.requires.split c.args.body c.args.words.now.words c.args.scalars.now _ _ (words_of c.args.into.now) c.requires.room _ _ _ _ _ refl c.body_of-stmts.ensures c.clear_locals.ensures (rw c.clear.ensures at c.walk_block.ensures)
