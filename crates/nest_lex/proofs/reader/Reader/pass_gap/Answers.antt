use Rattle.nest_lex.proofs.Reading.{gap_passed}
use Rattle.nest_lex.proofs.reader.Reader.pass_gap.Goals as goal

pub returns-clause-read : goal.returns-clause-read
returns-clause-read c = record {
  went = gap_passed _ _ _ _ _ _ _ _ c.requires.read.went c.requires.ordered c.requires.within c.requires.gap c.spot_after-self.ensures;
  seen = c.requires.read.seen;
}
