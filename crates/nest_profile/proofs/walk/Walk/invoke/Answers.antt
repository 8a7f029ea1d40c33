use Rattle.std.proofs.Common.{refl}
use Rattle.nest_profile.proofs.walk.Walk.invoke.Goals as goal

pub gather-requires-clause-stands : goal.gather-requires-clause-stands
gather-requires-clause-stands g c =
    let stands = c.requires.stands in
    (stands.0, (c.if-has_room.ensures.goes refl c.args.job.now stands.0 stands.1).0)

pub gather-requires-clause-room : goal.gather-requires-clause-room
gather-requires-clause-room g c =
    let stands = c.requires.stands in
    (c.if-has_room.ensures.goes refl c.args.job.now stands.0 stands.1).1
