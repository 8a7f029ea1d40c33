use Rattle.std.proofs.Common.{◌≡◌, ◌<◌, ◌*◌, ◌+◌, ◌/◌, ◌%◌, ℕ, Option, Some, None, List, length, get_or, subst, sym, ap, arith}
use Rattle.std.proofs.lemmas.List.{get_or_read}
use Rattle.addr_slice.specs.Claims.{IsNext, is_set}
use Rattle.addr_slice.specs.WordSet.{has_bit, in_rows}
use Rattle.addr_slice.proofs.Rows.{next_in_rows-past, next_in_rows-here}
use Rattle.addr_slice.proofs.Sets.{flag-is, IsNext-alike, next-none_behind, next-in_later, summed_row-there}
use Rattle.addr_slice.proofs.word_set.WordSet.next_from.Goals as goal

-- what a row that was read says of the row of the list
of_row : (rows : List ℕ) (row read from : ℕ) (next : Option ℕ) → row < length rows → read ≡ get_or rows row read → IsNext (has_bit read) from next → IsNext (has_bit (get_or rows row 0)) from next
of_row rows row read from next there is = subst (λ (r : ℕ). IsNext (has_bit r) from next) (get_or_read rows row read there is 0)

pub returns-then-row-len : goal.returns-then-row-len
returns-then-row-len c =
    let s = c.self.inside in
    IsNext-alike (is_set c.args.self.now) (in_rows s.rows.items) c.args.from None (flag-is s.count s.rows.items s.summary.items c.args.self.now c.self.invariant c.self.view_is)
    (next_in_rows-past s.rows.items c.args.from (omega arith))

pub returns-in-Some : goal.returns-in-Some
returns-in-Some c =
    let s = c.self.inside in
    IsNext-alike (is_set c.args.self.now) (in_rows s.rows.items) c.args.from (Some (c.args.from / 64 * 64 + c.in-Some.bit)) (flag-is s.count s.rows.items s.summary.items c.args.self.now c.self.invariant c.self.view_is)
    (next_in_rows-here s.rows.items c.args.from c.in-Some.bit c.in-Some.ensures.within
    (of_row s.rows.items (c.args.from / 64) c.index.result.now (c.args.from % 64) (Some c.in-Some.bit) (omega arith) c.index.ensures c.in-Some.ensures.next))

pub next_in_rows-requires : goal.next_in_rows-requires
next_in_rows-requires c = omega (arith, ap length c.deref.ensures.value, c.self.invariant.few_bits)

pub returns-in_err-row : goal.returns-in_err-row
returns-in_err-row c =
    let s = c.self.inside in
    let behind : IsNext (in_rows s.summary.items) (c.args.from / 64 + 1) None = subst (λ (rows : List ℕ). IsNext (in_rows rows) (c.args.from / 64 + 1) None) c.deref.ensures.value c.in_err-row.ensures in
    subst (λ (next : Option ℕ). IsNext (is_set c.args.self.now) c.args.from next) (sym c.from_residual.ensures)
    (IsNext-alike (is_set c.args.self.now) (in_rows s.rows.items) c.args.from None (flag-is s.count s.rows.items s.summary.items c.args.self.now c.self.invariant c.self.view_is)
    (next-none_behind s.count s.rows.items s.summary.items c.args.from c.self.invariant
    (of_row s.rows.items (c.args.from / 64) c.index.result.now (c.args.from % 64) None (omega arith) c.index.ensures c.in_default.ensures.next) behind))

pub returns : goal.returns
returns c =
    let s = c.self.inside in
    let behind : IsNext (in_rows s.summary.items) (c.args.from / 64 + 1) (Some c.in_ok-row.row) = subst (λ (rows : List ℕ). IsNext (in_rows rows) (c.args.from / 64 + 1) (Some c.in_ok-row.row)) c.deref.ensures.value c.in_ok-row.ensures in
    IsNext-alike (is_set c.args.self.now) (in_rows s.rows.items) c.args.from (Some (c.in_ok-row.row * 64 + c.least_bit.result)) (flag-is s.count s.rows.items s.summary.items c.args.self.now c.self.invariant c.self.view_is)
    (next-in_later s.count s.rows.items s.summary.items c.args.from c.in_ok-row.row c.least_bit.result c.self.invariant
    (of_row s.rows.items (c.args.from / 64) c.index.result.now (c.args.from % 64) None (omega arith) c.index.ensures c.in_default.ensures.next)
    behind c.least_bit.ensures.within
    (of_row s.rows.items c.in_ok-row.row c.index-2.result.now 0 (Some c.least_bit.result) (summed_row-there s.count s.rows.items s.summary.items c.self.invariant c.in_ok-row.row behind.1) c.index-2.ensures c.least_bit.ensures.least))
