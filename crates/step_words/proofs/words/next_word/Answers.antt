use Rattle.std.proofs.Common.{sym, ◌∙◌}
use Rattle.step_words.specs.Steps.{is_separator}
use Rattle.nest_data.proofs.Parted.{begins_there, from_start, without_start}
use Rattle.step_words.proofs.words.next_word.Goals as goal

pub front_word-requires-clause-begins : goal.front_word-requires-clause-begins
front_word-requires-clause-begins c = begins_there is_separator c.args.bytes.now c.in-Some.start (sym c.in-Some.ensures)

pub returns-in-Some-clause-words : goal.returns-in-Some-clause-words
returns-in-Some-clause-words c = from_start is_separator c.args.bytes.now c.in-Some.start (sym c.in-Some.ensures) ∙ c.front_word.ensures.words

pub returns-in-None-clause-words : goal.returns-in-None-clause-words
returns-in-None-clause-words c = without_start is_separator c.args.bytes.now (sym c.in-None.ensures)
