use Rattle.std.proofs.Common.{◌≡◌, false, map, string_bytes, sym, subst}
use Rattle.cross_words.specs.declared.call.Call.{Call}
use Rattle.cross_top.specs.Threads.{is_threaded}
use Rattle.cross_top.proofs.words.asked_to_run.Goals as goal

pub returns-else-is_threaded-clause-asked : goal.returns-else-is_threaded-clause-asked
returns-else-is_threaded-clause-asked c other says =
    let same = c.one_call.ensures (map string_bytes c.args.words.now) other c.in-Ok.call says c.in-Ok.ensures in
    subst (λ (x : Call). is_threaded x.action ≡ false) (sym same) (sym c.if-is_threaded.ensures)

pub returns-in-Err-Words-clause-asked : goal.returns-in-Err-Words-clause-asked
returns-in-Err-Words-clause-asked c other says = absurd (c.in-Err-Words.ensures c.in-Err-Words.field-0-is other says)
