use Rattle.nest_parse.proofs.Unique.{unique}
use Rattle.nest_parse.proofs.WellNamed.{derived_named}
use Rattle.nest_parse.proofs.Parsed.{derived, left_within, fault_told}
use Rattle.nest_parse.proofs.parser.parse.Goals as goal

pub overflow_sub-result : goal.overflow_sub-result
overflow_sub-result c = left_within (record { same = c.as_slice.ensures; begun = c.new-cursor.ensures; read = c.in-Err-Fault.ensures; is = c.in-Err-Fault.field-0-is; count = c.len.ensures; count_left = c.left.ensures })

pub returns-in_ok-copy_names-in-Ok-clause-only : goal.returns-in_ok-copy_names-in-Ok-clause-only
returns-in_ok-copy_names-in-Ok-clause-only c = λ q h. unique (derived c.as_slice.ensures c.new-cursor.ensures c.in-Ok.ensures c.in_ok-copy_names-in-Ok.ensures) h

pub returns-in_ok-copy_names-in-Ok-clause-named : goal.returns-in_ok-copy_names-in-Ok-clause-named
returns-in_ok-copy_names-in-Ok-clause-named c = derived_named c.requires (derived c.as_slice.ensures c.new-cursor.ensures c.in-Ok.ensures c.in_ok-copy_names-in-Ok.ensures)

pub returns-in-Err-Fault-clause-fault : goal.returns-in-Err-Fault-clause-fault
returns-in-Err-Fault-clause-fault c = fault_told (record { same = c.as_slice.ensures; begun = c.new-cursor.ensures; read = c.in-Err-Fault.ensures; is = c.in-Err-Fault.field-0-is; count = c.len.ensures; count_left = c.left.ensures })
