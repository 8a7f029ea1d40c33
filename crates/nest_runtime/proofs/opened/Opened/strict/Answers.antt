use denote.Param.Send.{sendable}
use Rattle.range_sign.proofs.exact.ExactSign.TheSendSync as exact
use Rattle.range_sign.proofs.range.RangeSign.TheSendSync as range
use Rattle.nest_runtime.proofs.Crossing.{domore_send, spec_send}
use Rattle.nest_runtime.proofs.opened.Opened.strict.Goals as goal

pub drive_strict-requires : goal.drive_strict-requires
drive_strict-requires c = search (sendable, domore_send)

pub drive_strict-requires-in-Exact : goal.drive_strict-requires-in-Exact
drive_strict-requires-in-Exact c = search (sendable, spec_send, exact.the_send)

pub drive_strict-requires-in-Range : goal.drive_strict-requires-in-Range
drive_strict-requires-in-Range c = search (sendable, spec_send, range.the_send)
