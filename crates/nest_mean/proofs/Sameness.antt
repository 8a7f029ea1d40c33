-- All bodies of a program stand in order.
use Rattle.std.proofs.Common.{◌≡◌, suc, ◌+◌, List, [], ◌∷◌, ◌++◌, length, refl, ◌∙◌, subst, append_assoc, arith, length-append}
use Rattle.nest_syntax.specs.declared.tree.Stmt.{Stmt}
use Rattle.nest_syntax.specs.Outcome.{body_at}
use Rattle.nest_mean.specs.CourseParts.{Stand}

body_behind : (front : List (List Stmt)) (body : List Stmt) (back : List (List Stmt)) → body_at (front ++ body ∷ back) (length front) ≡ body
body_behind [] body back = refl
body_behind (first ∷ front) body back = body_behind front body back

stand_behind : (front bodies : List (List Stmt)) → Stand (front ++ bodies) (length front) bodies
stand_behind front [] = tt
stand_behind front (body ∷ bodies) =
    let longer : length (front ++ body ∷ []) ≡ suc (length front) = length-append front (body ∷ []) ∙ (let one : length front + 1 ≡ suc (length front) = omega arith in one) in (
      body_behind front body bodies,
      subst (λ all. Stand all (suc (length front)) bodies) (append_assoc front (body ∷ []) bodies) (subst (λ n. Stand ((front ++ body ∷ []) ++ bodies) n bodies) longer (stand_behind (front ++ body ∷ []) bodies)),
    )

-- all bodies stand from 0 on
pub stand_all : (bodies : List (List Stmt)) → Stand bodies 0 bodies
stand_all bodies = stand_behind [] bodies
