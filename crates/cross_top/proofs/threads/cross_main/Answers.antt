use Rattle.std.proofs.Common.{Option, map, string_bytes, subst}
use Rattle.cross_words.specs.declared.call.Call.{Call}
use Rattle.cross_top.specs.Threads.{AskToRun, by_threads}
use Rattle.cross_top.proofs.threads.cross_main.Goals as goal

pub returns-in-Ok-Some-clause-ends : goal.returns-in-Ok-Some-clause-ends
returns-in-Ok-Some-clause-ends g c =
    let asked = subst (λ (a : Option Call). AskToRun (map string_bytes c.args.words.now) a) c.in-Ok-Some.field-0-is c.in-Ok-Some.ensures.asked in
    by_threads c.in-Ok-Some.call asked c.cross_threads.ensures.ends
