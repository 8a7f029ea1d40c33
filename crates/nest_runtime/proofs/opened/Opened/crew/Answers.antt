use denote.Param.Send.{sendable}
use Rattle.range_sign.proofs.exact.ExactSign.TheSendSync as exact
use Rattle.range_sign.proofs.range.RangeSign.TheSendSync as range
use Rattle.nest_runtime.proofs.Crossing.{domore_send, spec_send}
use Rattle.nest_runtime.proofs.opened.Opened.crew.Goals as goal

pub drive_crew-requires : goal.drive_crew-requires
drive_crew-requires g c = search (sendable, domore_send)

pub drive_crew-requires-in-Exact : goal.drive_crew-requires-in-Exact
drive_crew-requires-in-Exact g c = search (sendable, spec_send, exact.the_send)

pub drive_crew-requires-in-Range : goal.drive_crew-requires-in-Range
drive_crew-requires-in-Range g c = search (sendable, spec_send, range.the_send)
