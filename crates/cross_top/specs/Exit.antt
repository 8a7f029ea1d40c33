-- The exit number of a status.
use Rattle.std.specs.Prelude.{ℕ}
use Rattle.cross_top.specs.declared.status.Status.{Status}
use Rattle.cross_top.specs.declared.status.Status.TheVariants.{Done, Trapped, WordsRefused, TextRefused, ReadFault, WriteFault, NoMemory}

abbrev pub exit_number : Status → ℕ
exit_number Done = 0
exit_number Trapped = 1
exit_number WordsRefused = 2
exit_number TextRefused = 3
exit_number ReadFault = 4
exit_number WriteFault = 5
exit_number NoMemory = 6
