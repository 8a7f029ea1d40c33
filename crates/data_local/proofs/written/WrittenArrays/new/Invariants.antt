use Rattle.data_local.proofs.Scans.{IsScanned}
use Rattle.data_local.proofs.written.WrittenArrays.new.Given as goal

abbrev pub invariant-loop-decl : goal.invariant-loop-decl
invariant-loop-decl l = IsScanned l.decls l.seen.keys l.names.keys l.decl-index
