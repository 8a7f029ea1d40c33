use Rattle.std.proofs.Common.{sym}
use Rattle.step_words.specs.Steps.{is_separator}
use Rattle.nest_data.proofs.Parted.{to_end, without_end}
use Rattle.step_words.proofs.words.front_word.Goals as goal

pub returns-in-Some-clause-words : goal.returns-in-Some-clause-words
returns-in-Some-clause-words c = to_end is_separator c.args.bytes.now c.in-Some.end c.requires.begins (sym c.in-Some.ensures)

pub returns-in-None-clause-words : goal.returns-in-None-clause-words
returns-in-None-clause-words c = without_end is_separator c.args.bytes.now c.requires.some (sym c.in-None.ensures)
