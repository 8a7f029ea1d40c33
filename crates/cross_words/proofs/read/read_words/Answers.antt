use Rattle.std.proofs.Common.{map, string_bytes}
use Rattle.cross_words.proofs.read.read_words.Goals as goal

pub returns : goal.returns
returns c same call say = c.in-None.ensures (map string_bytes c.args.words.now) c.in_ok-texts.ensures call say
