use Rattle.std.proofs.Common.{◌≡◌, [], ◌∷◌}
use Rattle.part_tables.proofs.signs.noted.Given as goal

abbrev pub invariant-loop-one : goal.invariant-loop-one
invariant-loop-one g l = g.S.Signature.sizes_of l.sign ≡ 70 ∷ 8 ∷ []
