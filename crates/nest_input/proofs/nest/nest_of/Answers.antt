use Rattle.std.proofs.Common.{Err, ap, subst, ◌∙◌}
use Rattle.nest_lex.specs.Text.{IsRefusal}
use Rattle.nest_lex.specs.declared.refused.LexRefused.{LexRefused}
use Rattle.nest_input.specs.Input.{no_tokens, token_refusal}
use Rattle.nest_input.proofs.nest.nest_of.Goals as goal

pub returns-in-Err-Fault : goal.returns-in-Err-Fault
returns-in-Err-Fault c =
    let fault = subst (λ (e : LexRefused). IsRefusal c.args.text.now e) c.in-Err-Fault.field-0-is c.in-Err-Fault.ensures.refused in
    no_tokens c.in-Err-Fault.kind c.in-Err-Fault.at fault (ap (λ why. Err why) c.token_refusal.ensures ∙ (λ i. Err (token_refusal (c.in-Err-Fault.kind-is i) (c.in-Err-Fault.at-is i))))
