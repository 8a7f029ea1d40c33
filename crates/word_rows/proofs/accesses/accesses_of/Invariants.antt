use Rattle.std.proofs.Common.{◌<◌, All}
use Rattle.word_rows.proofs.accesses.accesses_of.Given as goal

abbrev pub invariant-loop-part : goal.invariant-loop-part
invariant-loop-part l = All (λ a. a.word < 3) l.list.items
