use Rattle.nest_data.proofs.Gathered.{words_are}
use Rattle.nest_data.proofs.read.words_are_of_lines.Goals as goal

pub returns : goal.returns
returns c = words_are
