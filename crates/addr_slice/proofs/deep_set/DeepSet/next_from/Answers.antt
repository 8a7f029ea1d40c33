use Rattle.std.proofs.Common.{◌≡◌, ◌<◌, ◌*◌, ◌+◌, ◌/◌, ◌%◌, ℕ, Option, Some, None, List, length, get_or, subst, sym, arith}
use Rattle.std.proofs.lemmas.List.{get_or_read}
use Rattle.addr_slice.specs.Claims.{IsNext, is_set}
use Rattle.addr_slice.specs.WordSet.{has_bit, in_rows}
use Rattle.addr_slice.proofs.Rows.{next_in_rows-past, next_in_rows-here}
use Rattle.addr_slice.proofs.Sets.{IsNext-alike}
use Rattle.addr_slice.proofs.Filled.{filled_flag-is, filled_row-there, filled_next-none, filled_next-later}
use Rattle.addr_slice.proofs.deep_set.DeepSet.next_from.Goals as goal

-- what a row that was read says of the row of the list
of_row : (rows : List ℕ) (row read from : ℕ) (next : Option ℕ) → row < length rows → read ≡ get_or rows row read → IsNext (has_bit read) from next → IsNext (has_bit (get_or rows row 0)) from next
of_row rows row read from next there is = subst (λ (r : ℕ). IsNext (has_bit r) from next) (get_or_read rows row read there is 0)

pub returns-then-row-len : goal.returns-then-row-len
returns-then-row-len c =
    let s = c.self.inside in
    IsNext-alike (is_set c.args.self.now) (in_rows s.rows.items) c.args.from None (filled_flag-is s.count s.rows.items s.filled c.self.invariant c.args.self.now c.self.view_is)
    (next_in_rows-past s.rows.items c.args.from (omega arith))

pub returns-in-Some : goal.returns-in-Some
returns-in-Some c =
    let s = c.self.inside in
    IsNext-alike (is_set c.args.self.now) (in_rows s.rows.items) c.args.from (Some (c.args.from / 64 * 64 + c.in-Some.bit)) (filled_flag-is s.count s.rows.items s.filled c.self.invariant c.args.self.now c.self.view_is)
    (next_in_rows-here s.rows.items c.args.from c.in-Some.bit c.in-Some.ensures.within
    (of_row s.rows.items (c.args.from / 64) c.index.result.now (c.args.from % 64) (Some c.in-Some.bit) (omega arith) c.index.ensures c.in-Some.ensures.next))

pub returns-in_err-row : goal.returns-in_err-row
returns-in_err-row c =
    let s = c.self.inside in
    subst (λ (next : Option ℕ). IsNext (is_set c.args.self.now) c.args.from next) (sym c.from_residual.ensures)
    (IsNext-alike (is_set c.args.self.now) (in_rows s.rows.items) c.args.from None (filled_flag-is s.count s.rows.items s.filled c.self.invariant c.args.self.now c.self.view_is)
    (filled_next-none s.count s.rows.items s.filled c.self.invariant c.args.from
    (of_row s.rows.items (c.args.from / 64) c.index.result.now (c.args.from % 64) None (omega arith) c.index.ensures c.in_default.ensures.next) c.in_err-row.ensures))

pub returns : goal.returns
returns c =
    let s = c.self.inside in
    IsNext-alike (is_set c.args.self.now) (in_rows s.rows.items) c.args.from (Some (c.in_ok-row.row * 64 + c.least_bit.result)) (filled_flag-is s.count s.rows.items s.filled c.self.invariant c.args.self.now c.self.view_is)
    (filled_next-later s.count s.rows.items s.filled c.self.invariant c.args.from c.in_ok-row.row c.least_bit.result
    (of_row s.rows.items (c.args.from / 64) c.index.result.now (c.args.from % 64) None (omega arith) c.index.ensures c.in_default.ensures.next)
    c.in_ok-row.ensures c.least_bit.ensures.within
    (of_row s.rows.items c.in_ok-row.row c.index-2.result.now 0 (Some c.least_bit.result) (filled_row-there s.count s.rows.items s.filled c.self.invariant c.in_ok-row.row c.in_ok-row.ensures.1) c.index-2.ensures c.least_bit.ensures.least))
