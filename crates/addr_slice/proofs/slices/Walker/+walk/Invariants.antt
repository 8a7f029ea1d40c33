use Rattle.nest_syntax.specs.Words.{variable}
use Rattle.nest_syntax.specs.Arrays.{arrays_of, sizes_of}
use Rattle.claim_walk.specs.Walk.{Effect, walk_block}
use Rattle.addr_slice.specs.Met.{setting}
use Rattle.addr_slice.proofs.Meeting.{AreLeft, block_from, all_turns, turns_from}
use Rattle.addr_slice.proofs.Arms.{AreArmsLeft}
use Rattle.addr_slice.proofs.slices.Walker.+walk.Given as goal

abbrev pub invariant-walk_block-loop-stmt : goal.invariant-walk_block-loop-stmt
invariant-walk_block-loop-stmt l =
    let set = setting l.self.checked.now l.self.words.now l.self.split.now l.self.body in
    let sizes = sizes_of (arrays_of l.self.checked.now.decls) in
    AreLeft sizes (walk_block set l.stmts) (block_from sizes set l.stmts l.stmt-index) l.fn.scalars l.fn.into l.fn.cost l.scalars l.into l.cost

abbrev pub invariant-walk_turns-loop-k : goal.invariant-walk_turns-loop-k
invariant-walk_turns-loop-k l =
    let set = setting l.self.checked.now l.self.words.now l.self.split.now l.self.body in
    let sizes = sizes_of (arrays_of l.self.checked.now.decls) in
    AreLeft sizes (all_turns sizes set l.count (variable l.low l.inner.step) l.inner.name l.inner.body) (turns_from sizes set l.count (variable l.low l.inner.step) l.inner.name l.inner.body l.k) l.fn.scalars l.fn.into l.fn.cost l.scalars l.into l.cost

abbrev pub invariant-try_arms-loop-arm : goal.invariant-try_arms-loop-arm
invariant-try_arms-loop-arm l =
    let set = setting l.self.checked.now l.self.words.now l.self.split.now l.self.body in
    let sizes = sizes_of (arrays_of l.self.checked.now.decls) in
    (other : Effect) → AreArmsLeft sizes set l.arms other l.fn.scalars l.fn.into l.fn.cost l.is_data l.arm-index l.scalars l.into l.cost
