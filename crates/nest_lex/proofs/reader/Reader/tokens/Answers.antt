use Rattle.nest_lex.proofs.Reading.{read_whole}
use Rattle.nest_lex.proofs.WellNamed.{well_named}
use Rattle.nest_lex.proofs.reader.Reader.tokens.Goals as goal

pub returns-clause-tokens : goal.returns-clause-tokens
returns-clause-tokens c = read_whole _ _ _ _ _ _ c.requires.read.went c.requires.end

pub returns-clause-named : goal.returns-clause-named
returns-clause-named c = well_named _ _ _ _ _ _ c.requires.small c.requires.read.went c.requires.end
