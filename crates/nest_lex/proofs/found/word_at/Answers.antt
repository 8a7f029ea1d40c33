use Rattle.std.proofs.Common.{sym, ◌∙◌}
use Rattle.nest_lex.proofs.Words.{number_stands, keyword_stands, name_stands}
use Rattle.nest_lex.proofs.found.word_at.Goals as goal

pub returns-in-Some : goal.returns-in-Some
returns-in-Some c = number_stands _ _ _ _ c.word_end-end.ensures c.requires.word c.in-Some.ensures

pub returns-in-Some-keyword_of : goal.returns-in-Some-keyword_of
returns-in-Some-keyword_of c = keyword_stands _ _ _ _ c.word_end-end.ensures c.requires.word c.in-Some-keyword_of.ensures

pub returns-in-None-keyword_of : goal.returns-in-None-keyword_of
returns-in-None-keyword_of c = name_stands _ _ _ c.word_end-end.ensures c.requires.word (sym c.is_digit.ensures ∙ c.if-is_digit.false) c.in-None-keyword_of.ensures
