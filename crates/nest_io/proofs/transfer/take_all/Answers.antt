-- At a refusal what was kept so far and the last piece, one after the other, are gone from the source.
use Rattle.std.proofs.Common.{◌≡◌, ◌+◌, ◌++◌, length, take, arith}
use Rattle.std.proofs.lemmas.Grind.{common_steps}
use Rattle.std.proofs.KnownBytes.{Consumes-trans}
use Rattle.nest_io.specs.declared.transfer.TheConstants.{MOST_BYTES}
use Rattle.nest_io.proofs.transfer.take_all.Goals as goal

pub returns-then-taken-gt-MOST_BYTES-clause-part :
    goal.returns-then-taken-gt-MOST_BYTES-clause-part
returns-then-taken-gt-MOST_BYTES-clause-part g c =
    (_, Consumes-trans _ _ _ _ _ c.pieces.invariant.taken c.in-Ok.ensures.bytes.0)

pub returns-then-taken-gt-MOST_BYTES-clause-long :
    goal.returns-then-taken-gt-MOST_BYTES-clause-long
returns-then-taken-gt-MOST_BYTES-clause-long g c _ =
    let whole : length (c.pieces.bytes.items ++ take c.in-Ok.count c.read.new.buf) ≡ MOST_BYTES + 1 =
    grind (arith, common_steps, c.in-Ok.ensures.within.0, c.in-Ok.ensures.within.1, c.read.auto.buf, c.len.ensures, c.min-room.ensures, c.pieces.bytes.ok.0) in
    (_, whole, Consumes-trans _ _ _ _ _ c.pieces.invariant.taken c.in-Ok.ensures.bytes.0)

pub returns-in_default-extend_from_slice-clause-part :
    goal.returns-in_default-extend_from_slice-clause-part
returns-in_default-extend_from_slice-clause-part g c =
    (_, Consumes-trans _ _ _ _ _ c.pieces.invariant.taken c.in-Ok.ensures.bytes.0)
