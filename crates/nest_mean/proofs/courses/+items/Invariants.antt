use Rattle.std.proofs.Common.{map, drop}
use Rattle.nest_syntax.specs.Words.{most_turns}
use Rattle.nest_syntax.specs.Course.{in_order, item_of}
use Rattle.nest_mean.specs.CourseParts.{items_in, setting_in}
use Rattle.nest_mean.proofs.Walk.{IsAhead, AreAhead}
use Rattle.nest_mean.proofs.courses.+items.Given as goal

abbrev pub invariant-run_item_arms-loop-arm : goal.invariant-run_item_arms-loop-arm
invariant-run_item_arms-loop-arm l = AreAhead (setting_in l.job) l.arms l.fn.run l.arm-index l.run

abbrev pub invariant-run_items-loop-item : goal.invariant-run_items-loop-item
invariant-run_items-loop-item l = IsAhead (setting_in l.job) (items_in (setting_in l.job) l.items) (in_order (map (item_of (setting_in l.job)) (drop l.item-index l.items))) most_turns l.fn.run l.run
