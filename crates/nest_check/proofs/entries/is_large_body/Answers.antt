use Rattle.std.proofs.Common.{◌∙◌, refl, ap}
use Rattle.nest_check.specs.Noted.{added}
use Rattle.nest_check.proofs.Room.{large_is}
use Rattle.nest_check.proofs.entries.is_large_body.Goals as goal

pub returns : goal.returns
returns c =
    c.is_over.ensures
    ∙ large_is c.args.invoked.now (record { room = 1025; names = c.note.new.self }) _ refl (c.in_ok-note.ensures ∙ ap (λ names. added 17 names (c.args.invoked.now.name, c.args.invoked.now.line)) c.new.ensures) (rw c.as_slice.ensures at c.in_ok-count_block.ensures)
