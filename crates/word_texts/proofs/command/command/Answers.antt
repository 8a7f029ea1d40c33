use Rattle.std.proofs.Common.{ap, ◌∙◌, codes}
use Rattle.std.proofs.lemmas.Result.{IfOk-weaker}
use Rattle.clap.specs.Simple.{App, with_rule}
use Rattle.word_texts.specs.Command.{option_rule, flag_rule}
use Rattle.word_texts.proofs.command.command.Goals as goal

pub returns : goal.returns
returns c =
    let engine = c.in_ok-command-2.ensures ∙ ap (λ (a : App). with_rule a (option_rule (codes "engine"))) c.in_ok-command.ensures in
    let workers = c.in_ok-command-3.ensures ∙ ap (λ (a : App). with_rule a (option_rule (codes "workers"))) engine in
    let queue = c.in_ok-command-4.ensures ∙ ap (λ (a : App). with_rule a (option_rule (codes "queue"))) workers in
    let sign = c.in_ok-command-5.ensures ∙ ap (λ (a : App). with_rule a (option_rule (codes "sign"))) queue in
    let segment = c.in_ok-command-6.ensures ∙ ap (λ (a : App). with_rule a (option_rule (codes "segment"))) sign in
    let distance = c.in_ok-command-7.ensures ∙ ap (λ (a : App). with_rule a (option_rule (codes "distance"))) segment in
    let seed = c.in_ok-command-8.ensures ∙ ap (λ (a : App). with_rule a (option_rule (codes "seed"))) distance in
    let size = c.in_ok-command-9.ensures ∙ ap (λ (a : App). with_rule a (option_rule (codes "size"))) seed in
    IfOk-weaker c.with_flag.result _ _ (λ m is. is ∙ ap (λ (a : App). with_rule a flag_rule) size) c.with_flag.ensures
