use Rattle.std.proofs.Common.{refl, ◌∙◌, ◌∷◌}
use Rattle.nest_lex.specs.declared.token.Mark.TheVariants as mark
use Rattle.nest_parse.specs.Expected.{This, Compare, level_then}
use Rattle.nest_parse.proofs.Chains.{refused}
use Rattle.nest_parse.proofs.Blocks.{test_read}
use Rattle.nest_parse.proofs.cursor.Cursor.test.Goals as goal

pub returns-in_err-same_name-clause-reads : goal.returns-in_err-same_name-clause-reads
returns-in_err-same_name-clause-reads c = refused c.from_residual.result c.from_residual.ensures.1 (λ k. Compare ∷ level_then 3 (This mark.Semicolon ∷ k)) (λ k. refl) c.in_err-same_name.ensures.reads

pub returns-in_err-through-clause-reads : goal.returns-in_err-through-clause-reads
returns-in_err-through-clause-reads c = refused c.from_residual-in_err-through.result c.from_residual-in_err-through.ensures.1 (λ k. level_then 3 (This mark.Semicolon ∷ k)) (λ k. c.in_ok-same_name.ensures.reads.goes (Compare ∷ level_then 3 (This mark.Semicolon ∷ k))) c.in_err-through.ensures.reads

pub returns-in_err-high-clause-reads : goal.returns-in_err-high-clause-reads
returns-in_err-high-clause-reads c = refused c.from_residual-in_err-high.result c.from_residual-in_err-high.ensures.1 (λ k. This mark.Semicolon ∷ k) (λ k. c.in_ok-same_name.ensures.reads.goes (Compare ∷ level_then 3 (This mark.Semicolon ∷ k)) ∙ c.in_ok-through.ensures.reads.goes (level_then 3 (This mark.Semicolon ∷ k))) c.in_err-high.ensures.reads

pub returns-in_err-sign-clause-reads : goal.returns-in_err-sign-clause-reads
returns-in_err-sign-clause-reads c = refused c.from_residual-in_err-sign.result c.from_residual-in_err-sign.ensures.1 (λ k. k) (λ k. c.in_ok-same_name.ensures.reads.goes (Compare ∷ level_then 3 (This mark.Semicolon ∷ k)) ∙ (c.in_ok-through.ensures.reads.goes (level_then 3 (This mark.Semicolon ∷ k)) ∙ c.in_ok-high.ensures.reads.goes (This mark.Semicolon ∷ k))) c.in_err-sign.ensures.reads

pub returns-clause-reads : goal.returns-clause-reads
returns-clause-reads c = test_read c.in_ok-same_name.ensures.reads c.in_ok-through.ensures.reads c.in_ok-high.ensures.reads c.in_ok-sign.ensures.reads
