use Rattle.std.proofs.Common.{rules, ◌≡◌, Ok, Err, to_z, of_z, w64}
use Rattle.std.proofs.lemmas.Int.{to_z-of_z}
use Rattle.std.proofs.lemmas.Result.{err_from_is_err_and}
use Rattle.nest_syntax.specs.Words.{operation_of, assigned}
use Rattle.nest_syntax.specs.Value.{scalar_at}
use Rattle.nest_mean.proofs.Parts.{scalar_stops, scalar_traps, scalar_changes}
use Rattle.nest_mean.proofs.bodies.change_scalar.Goals as goal

pub returns-in_err-right : goal.returns-in_err-right
returns-in_err-right c =
    let p = err_from_is_err_and c.from_residual.result c.from_residual.ensures.1 in
    rw (p.1, p.2) (scalar_stops _ _ _ _ _ _ _ _ c.in_err-right.ensures)

pub returns-in-Ok : goal.returns-in-Ok
returns-in-Ok c =
    let old : to_z w64 (of_z w64 c.get.result) ≡ c.get.result = to_z-of_z w64 c.get.result (search rules) in
    let right : to_z w64 (of_z w64 c.in_ok-right.right) ≡ c.in_ok-right.right = to_z-of_z w64 c.in_ok-right.right (search rules) in
    let new : to_z w64 (of_z w64 c.in-Ok.new) ≡ c.in-Ok.new = to_z-of_z w64 c.in-Ok.new (search rules) in
    let becomes : Ok c.in-Ok.new ≡ assigned (operation_of c.args.op) (scalar_at c.args.scalars.now c.args.name) c.in_ok-right.right = cc in
    scalar_changes _ _ _ _ _ _ _ c.in_ok-right.right c.in-Ok.new c.set.new.self c.in_ok-right.ensures becomes (simp new at c.set.ensures)

pub returns-in-Err : goal.returns-in-Err
returns-in-Err c =
    let old : to_z w64 (of_z w64 c.get.result) ≡ c.get.result = to_z-of_z w64 c.get.result (search rules) in
    let right : to_z w64 (of_z w64 c.in_ok-right.right) ≡ c.in_ok-right.right = to_z-of_z w64 c.in_ok-right.right (search rules) in
    let traps : Err c.in-Err.cause ≡ assigned (operation_of c.args.op) (scalar_at c.args.scalars.now c.args.name) c.in_ok-right.right = cc in
    scalar_traps _ _ _ _ _ _ _ c.in_ok-right.right c.in-Err.cause c.in_ok-right.ensures traps
