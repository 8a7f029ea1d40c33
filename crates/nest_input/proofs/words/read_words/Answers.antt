use Rattle.std.proofs.Common.{arith}
use Rattle.nest_input.proofs.Spots.{line_within}
use Rattle.nest_input.proofs.words.read_words.Goals as goal

pub read_data-requires-clause-line : goal.read_data-requires-clause-line
read_data-requires-clause-line c = let within = line_within c.args.input.now c.parts-parts.result c.parts-parts.ensures in omega (arith, within, c.requires)
