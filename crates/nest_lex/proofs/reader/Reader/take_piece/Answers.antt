use Rattle.std.proofs.Common.{false, IsTrue, refl, sym, subst}
use Rattle.nest_lex.specs.Load.{IsAllowed, load_after}
use Rattle.nest_lex.specs.declared.load.Load.{Load}
use Rattle.nest_lex.proofs.Reading.{piece_taken, too_dense}
use Rattle.nest_lex.proofs.reader.Reader.take_piece.Goals as goal

pub returns-then-not-is_allowed-clause-refused : goal.returns-then-not-is_allowed-clause-refused
returns-then-not-is_allowed-clause-refused c =
    too_dense _ _ _ _ _ _ _ _ c.requires.read.went c.requires.stands
    (λ allowed. let t : IsTrue false = c.if-not-is_allowed.ensures.1 (subst (λ (load : Load). IsAllowed load) (sym c.after-load.ensures) allowed) in cc)

pub returns-clause-read : goal.returns-clause-read
returns-clause-read c =
    let allowed : IsAllowed (load_after c.args.self.now.load c.args.piece) =
    subst (λ (load : Load). IsAllowed load) c.after-load.ensures (c.if-not-is_allowed.ensures.0 refl) in
    record {
      went = rw (c.in_ok-push.ensures.ok, c.after-load.ensures)
          (piece_taken _ _ _ _ _ _ _ _ _ _ _ c.requires.read.went c.requires.stands allowed c.in_ok-kind.ensures.names c.in_ok-kind.ensures.kind c.spot_after-self.ensures);
      seen = c.in_ok-kind.ensures.seen;
    }
