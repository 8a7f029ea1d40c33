-- A write keeps what the loop keeps: it takes the next bytes of those that are left to write.
use Rattle.std.proofs.Common.{◌-◌, ◌+◌, ◌≤◌, ℕ, List, Option, length, take, drop, arith, ◌∙◌, subst}
use Rattle.std.proofs.Math.Seq.{take-add}
use Rattle.std.proofs.lemmas.Grind.{common_steps}
use Rattle.std.proofs.lemmas.List.{take_rest}
use Rattle.std.proofs.KnownBytes.{Appends-trans}
use Rattle.std.specs.Io.KnownBytes.{Appends}
use Rattle.nest_io.proofs.transfer.put_all.Goals as goal

-- a write of what was left to write goes on from what was written
appends_more : (old mid new : Option (List ℕ)) (bytes : List ℕ) (done count : ℕ) → Appends old mid (take done bytes)
    → Appends mid new (take count (take (length bytes - done) (drop done bytes))) → Appends old new (take (done + count) bytes)
appends_more old mid new bytes done count before more =
    rw take-add (Appends-trans old mid new (take done bytes) (take count (drop done bytes)) before (rw take_rest at more))

pub pieces-preserved : goal.pieces-preserved
pieces-preserved g c = record {
  within = grind (arith, common_steps, c.in_ok-done.ensures.within);
  appends = appends_more _ _ _ _ _ _ c.pieces.invariant.appends c.in_ok-done.ensures.bytes;
  untouched = λ none. absurd (omega (arith, none, c.in_ok-done.ensures.some));
  quiet = c.in_ok-done.ensures.quiet ∙ c.pieces.invariant.quiet;
  sure = λ room fits start.
      let left : length (take (length c.args.bytes.now - c.pieces.done) (drop c.pieces.done c.args.bytes.now)) ≤ room - c.pieces.done = grind (arith, common_steps, fits) in
      subst (g.K.Sink.has_room c.write.new.self) (omega arith) (c.in_ok-done.ensures.sure (room - c.pieces.done) left (c.pieces.invariant.sure room fits start));
}
