use Rattle.std.proofs.Common.{◌≡◌, drop}
use Rattle.nest_scope.specs.Occurrences.{in_regions}
use Rattle.nest_scope.specs.Noted.{all_noted}
use Rattle.nest_scope.proofs.walk.walk_regions.Given as goal

abbrev pub invariant-loop-region : goal.invariant-loop-region
invariant-loop-region l = record {
  found : all_noted l.found (in_regions (drop l.region-index l.regions) l.scope) ≡ all_noted l.fn.found (in_regions l.regions l.fn.scope);
  scope : l.scope ≡ l.fn.scope;
}
