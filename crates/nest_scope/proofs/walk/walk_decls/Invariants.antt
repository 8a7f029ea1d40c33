use Rattle.std.proofs.Common.{◌≡◌, drop}
use Rattle.nest_scope.specs.Occurrences.{in_decls, behind_decls}
use Rattle.nest_scope.specs.Noted.{all_noted}
use Rattle.nest_scope.proofs.walk.walk_decls.Given as goal

abbrev pub invariant-loop-decl : goal.invariant-loop-decl
invariant-loop-decl l = record {
  found : all_noted l.found (in_decls (drop l.decl-index l.decls) l.scope) ≡ all_noted l.fn.found (in_decls l.decls l.fn.scope);
  scope : behind_decls (drop l.decl-index l.decls) l.scope ≡ behind_decls l.decls l.fn.scope;
}
