-- What holds of the items of regions, and so of the bodies that they invoke.
use Rattle.std.proofs.Common.{◌≡◌, ℕ, List, [], ◌∷◌, ◌++◌, refl, sym, ap, subst}
use Rattle.std.specs.List.{flat_map}
use Rattle.nest_syntax.specs.declared.names.Line.{Line}
use Rattle.nest_syntax.specs.declared.operators.Op.{Op as Change}
use Rattle.nest_syntax.specs.declared.tree.Expr.{Expr}
use Rattle.nest_syntax.specs.declared.tree.Arm.{Arm}
use Rattle.nest_syntax.specs.declared.tree.Loop.{Loop}
use Rattle.nest_syntax.specs.declared.tree.Stmt.{Stmt}
use Rattle.nest_syntax.specs.declared.tree.Stmt.TheVariants as stmt
use Rattle.nest_syntax.specs.Among.{Each}
use Rattle.nest_syntax.specs.Shape.{Body, Entry, Plain, Declares, Invokes, body_of_loop, body_of_write, items, items_in_arm, items_of, invoked_in, invoked_in_region}
use Rattle.nest_syntax.proofs.Shapes.{items-declare, items-assign, items-write, items-if, items-loop, items_in_arm-is}
use Rattle.nest_syntax.proofs.Inductions.{stmt_induction, each_both}
use Rattle.nest_check.specs.Through.{through}
use Rattle.task_code.specs.Bodies.{with_invoked}

pub invoked-append : (xs ys : List Entry) → invoked_in (xs ++ ys) ≡ invoked_in xs ++ invoked_in ys
invoked-append [] ys = refl
invoked-append (Plain ∷ xs) ys = invoked-append xs ys
invoked-append (Declares d ∷ xs) ys = invoked-append xs ys
invoked-append (Invokes b ∷ xs) ys = ap (λ bodies. b ∷ bodies) (invoked-append xs ys)

module _ (Q : Stmt → Type 0) (R : Body → Type 0)
    (in_parts : (arms : List Arm) (other : List Stmt) → Q (stmt.If arms other) → Each (λ (a : Arm). Each Q a.body) arms × Each Q other)
    (at_loop : (l : Loop) → Q (stmt.Loop l) → R (body_of_loop l))
    (at_write : (line : Line) (name : ℕ) (p : Expr) (o : Change) (e : Expr) → Q (stmt.Write line name p o e) → R (body_of_write line (stmt.Write line name p o e))) where
  abbrev HasBodies : Stmt → Type 0
  HasBodies s = Q s → Each R (invoked_in (items s))

  block_has : (stmts : List Stmt) → Each HasBodies stmts → Each Q stmts → Each R (invoked_in (items_of stmts))
  block_has [] each holds = tt
  block_has (s ∷ stmts) each holds = subst (Each R) (sym (invoked-append (items s) (items_of stmts)))
      (each_both R (invoked_in (items s)) (invoked_in (items_of stmts)) (each.0 holds.0) (block_has stmts each.1 holds.1))

  arms_have : (arms : List Arm) → Each (λ (a : Arm). Each HasBodies a.body) arms → Each (λ (a : Arm). Each Q a.body) arms → Each R (invoked_in (flat_map items_in_arm arms))
  arms_have [] each holds = tt
  arms_have (a ∷ arms) each holds = subst (Each R) (sym (invoked-append (items_in_arm a) (flat_map items_in_arm arms)))
      (each_both R (invoked_in (items_in_arm a)) (invoked_in (flat_map items_in_arm arms)) (subst (λ es. Each R (invoked_in es)) (sym (items_in_arm-is a)) (block_has a.body each.0 holds.0)) (arms_have arms each.1 holds.1))

  item_has : (s : Stmt) → HasBodies s
  item_has = stmt_induction HasBodies
      (λ line name e holds. subst (λ es. Each R (invoked_in es)) (sym (items-declare line name e)) tt)
      (λ line name o e holds. subst (λ es. Each R (invoked_in es)) (sym (items-assign line name o e)) tt)
      (λ line name p o e holds. subst (λ es. Each R (invoked_in es)) (sym (items-write line name p o e)) (at_write line name p o e holds, tt))
      (λ arms other in_arms in_other holds.
      let parts = in_parts arms other holds in
      subst (λ es. Each R (invoked_in es)) (sym (items-if arms other))
      (subst (Each R) (sym (invoked-append (flat_map items_in_arm arms) (items_of other)))
      (each_both R (invoked_in (flat_map items_in_arm arms)) (invoked_in (items_of other)) (arms_have arms in_arms parts.0) (block_has other in_other parts.1))))
      (λ l inside holds. subst (λ es. Each R (invoked_in es)) (sym (items-loop l)) (at_loop l holds, tt))

  each_has : (stmts : List Stmt) → Each HasBodies stmts
  each_has [] = tt
  each_has (s ∷ stmts) = (item_has s, each_has stmts)

  pub regions_have : (regions : List Loop) → Each (λ (l : Loop). Each Q l.body) regions → Each R (flat_map invoked_in_region regions)
  regions_have [] holds = tt
  regions_have (l ∷ regions) holds = each_both R (invoked_in_region l) (flat_map invoked_in_region regions) (block_has l.body (each_has l.body) holds.0) (regions_have regions holds.1)

-- the bodies that are found, item by item
append_assoc_one : {A : Type 0} (xs : List A) (x : A) (ys : List A) → (xs ++ x ∷ []) ++ ys ≡ xs ++ x ∷ ys
append_assoc_one [] x ys = refl
append_assoc_one (y ∷ xs) x ys = ap (λ zs. y ∷ zs) (append_assoc_one xs x ys)

append_nil : {A : Type 0} (xs : List A) → xs ++ [] ≡ xs
append_nil [] = refl
append_nil (x ∷ xs) = ap (λ zs. x ∷ zs) (append_nil xs)

pub all_invoked : (found : List Body) (entries : List Entry) → through with_invoked found entries ≡ found ++ invoked_in entries
all_invoked found [] = sym (append_nil found)
all_invoked found (Plain ∷ entries) = all_invoked found entries
all_invoked found (Declares d ∷ entries) = all_invoked found entries
all_invoked found (Invokes b ∷ entries) = subst (λ bodies. through with_invoked (found ++ b ∷ []) entries ≡ bodies) (append_assoc_one found b (invoked_in entries)) (all_invoked (found ++ b ∷ []) entries)

pub regions_invoked : (regions : List Loop) → invoked_in (flat_map (λ (l : Loop). items_of l.body) regions) ≡ flat_map invoked_in_region regions
regions_invoked [] = refl
regions_invoked (l ∷ regions) = subst (λ bodies. bodies ≡ flat_map invoked_in_region (l ∷ regions)) (sym (invoked-append (items_of l.body) (flat_map (λ (r : Loop). items_of r.body) regions)))
    (ap (λ bodies. invoked_in_region l ++ bodies) (regions_invoked regions))
