use Rattle.std.proofs.Common.{Ok, Err, ap, refl, subst, ◌∙◌}
use Rattle.nest_parse.specs.Grammar.{IsFault}
use Rattle.nest_parse.specs.declared.refused.ParseRefused.{ParseRefused}
use Rattle.nest_check.specs.Answered.{IsRefused}
use Rattle.nest_check.specs.declared.refused.CheckRefused.{CheckRefused}
use Rattle.nest_input.specs.declared.refused.Refusal.TheVariants as refusal
use Rattle.nest_input.specs.Input.{no_program, no_rules, a_nest, spot_at}
use Rattle.nest_input.proofs.nest.nest_of_tokens.Goals as goal

pub returns-in-Err-Syntax : goal.returns-in-Err-Syntax
returns-in-Err-Syntax c =
    let fault = subst (λ (e : ParseRefused). IsFault c.args.tokens.now.list e) c.in-Err-Syntax.field-0-is c.in-Err-Syntax.ensures.fault in
    no_program c.args.tokens.now c.in-Err-Syntax.token c.requires.are fault (ap (λ spot. Err (refusal.Syntax spot)) c.spot_at.ensures ∙ ap (λ token. Err (refusal.Syntax (spot_at c.args.tokens.now token))) c.in-Err-Syntax.token-is)

pub returns-in-Ok-check : goal.returns-in-Ok-check
returns-in-Ok-check c = a_nest c.args.tokens.now c.in-Ok.program c.requires.are c.in-Ok.ensures.derives c.in-Ok-check.ensures.kept (ap (λ p. Ok p) c.in-Ok-check.ensures.same)

pub returns-in-Err-Rule : goal.returns-in-Err-Rule
returns-in-Err-Rule c =
    let broken = subst (λ (e : CheckRefused). IsRefused c.in-Ok.program e) c.in-Err-Rule.field-0-is c.in-Err-Rule.ensures.refused in
    no_rules c.args.tokens.now c.in-Ok.program c.in-Err-Rule.rule c.in-Err-Rule.line c.requires.are c.in-Ok.ensures.derives broken refl
