use denote.Param.Send.{sendable}
use Rattle.range_sign.proofs.exact.ExactSign.TheSendSync as exact
use Rattle.range_sign.proofs.range.RangeSign.TheSendSync as range
use Rattle.nest_runtime.proofs.Crossing.{domore_send, spec_send}
use Rattle.nest_runtime.proofs.opened.Opened.alone.Goals as goal

pub drive_alone-requires : goal.drive_alone-requires
drive_alone-requires c = search (sendable, domore_send)

pub drive_alone-requires-in-Exact : goal.drive_alone-requires-in-Exact
drive_alone-requires-in-Exact c = search (sendable, spec_send, exact.the_send)

pub drive_alone-requires-in-Range : goal.drive_alone-requires-in-Range
drive_alone-requires-in-Range c = search (sendable, spec_send, range.the_send)
