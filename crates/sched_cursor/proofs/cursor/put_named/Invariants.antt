use Rattle.std.proofs.Common.{◌≡◌, drop}
use Rattle.sched_cursor.specs.Given.{given_named}
use Rattle.sched_cursor.proofs.cursor.put_named.Given as goal

abbrev pub invariant-loop-name : goal.invariant-loop-name
invariant-loop-name l = given_named l.others (drop l.name-index l.names) l.into ≡ given_named l.others l.names l.fn.into
