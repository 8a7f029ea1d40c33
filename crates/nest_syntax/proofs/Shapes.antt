-- The items of each kind of statement, and that the events of a course number the bodies of the shape.
use Rattle.std.proofs.Common.{◌≡◌, ℕ, List, [], ◌∷◌, ◌++◌, map, refl, sym, ap, ◌∙◌, append_assoc}
use Rattle.std.specs.List.{flat_map}
use Rattle.nest_syntax.specs.declared.names.Line.{Line}
use Rattle.nest_syntax.specs.declared.operators.Op.{Op}
use Rattle.nest_syntax.specs.declared.tree.Expr.{Expr}
use Rattle.nest_syntax.specs.declared.tree.Arm.{Arm, roll-out-Arm, out-Arm}
use Rattle.nest_syntax.specs.declared.tree.Loop.{Loop}
use Rattle.nest_syntax.specs.declared.tree.Stmt.{Stmt}
use Rattle.nest_syntax.specs.declared.tree.Stmt.TheOpen.{Stmt-F}
use Rattle.nest_syntax.specs.declared.tree.Stmt.TheFolds.{para-roll-Stmt, para-roll-Arm}
use Rattle.nest_syntax.specs.declared.tree.Stmt.TheVariants as stmt
use Rattle.nest_syntax.specs.declared.tree.Stmt.TheVariants.{rolls-Declare, rolls-Assign, rolls-Write, rolls-If, rolls-Loop}
use Rattle.nest_syntax.specs.Shape.{Entry, Plain, Declares, Invokes, Body, body_of_loop, body_of_write, items_node, arm_items_node, loop_items_node, items, items_in_arm, items_of, invoked_in_region, statements_of_each, bodies_in}
use Rattle.nest_syntax.specs.Among.{Each}
use Rattle.nest_syntax.specs.Course.{Setting, Item, Tested, Looped, in_order, chosen, item_of, tested_of, looped_of, region_of}
use Rattle.nest_syntax.proofs.Equations.{item-declare, item-assign, item-write, item-if, item-loop, looped-is, tested-is}
use Rattle.nest_syntax.proofs.Inductions.{stmt_induction}

pub items_beside : (stmts : List Stmt) → flat_map (λ (s : Stmt × List Entry). s.1) (map (λ s. (s, items s)) stmts) ≡ items_of stmts
items_beside [] = refl
items_beside (s ∷ stmts) = ap (λ rest. items s ++ rest) (items_beside stmts)

pub items_in_arm-is : (a : Arm) → items_in_arm a ≡ items_of a.body
items_in_arm-is a = ap items_in_arm (sym (roll-out-Arm a)) ∙ para-roll-Arm (List Entry) (List Entry) (List Entry) items_node arm_items_node loop_items_node (out-Arm a) ∙ items_beside a.body

items_beside_arms : (arms : List Arm) → flat_map (λ (a : Arm × List Entry). a.1) (map (λ a. (a, items_in_arm a)) arms) ≡ flat_map items_in_arm arms
items_beside_arms [] = refl
items_beside_arms (a ∷ arms) = ap (λ rest. items_in_arm a ++ rest) (items_beside_arms arms)

pub items-declare : (line : Line) (name : ℕ) (e : Expr) → items (stmt.Declare line name e) ≡ Declares (name, line) ∷ []
items-declare line name e = ap items (sym (rolls-Declare line name e)) ∙ para-roll-Stmt (List Entry) (List Entry) (List Entry) items_node arm_items_node loop_items_node (Stmt-F.Declare line name e)

pub items-assign : (line : Line) (name : ℕ) (o : Op) (e : Expr) → items (stmt.Assign line name o e) ≡ Plain ∷ []
items-assign line name o e = ap items (sym (rolls-Assign line name o e)) ∙ para-roll-Stmt (List Entry) (List Entry) (List Entry) items_node arm_items_node loop_items_node (Stmt-F.Assign line name o e)

pub items-write : (line : Line) (name : ℕ) (p : Expr) (o : Op) (e : Expr) → items (stmt.Write line name p o e) ≡ Invokes (body_of_write line (stmt.Write line name p o e)) ∷ []
items-write line name p o e = ap items (sym (rolls-Write line name p o e)) ∙ para-roll-Stmt (List Entry) (List Entry) (List Entry) items_node arm_items_node loop_items_node (Stmt-F.Write line name p o e)

pub items-loop : (l : Loop) → items (stmt.Loop l) ≡ Invokes (body_of_loop l) ∷ []
items-loop l = ap items (sym (rolls-Loop l)) ∙ para-roll-Stmt (List Entry) (List Entry) (List Entry) items_node arm_items_node loop_items_node (Stmt-F.Loop l)

pub items-if : (arms : List Arm) (other : List Stmt) → items (stmt.If arms other) ≡ Plain ∷ flat_map items_in_arm arms ++ items_of other
items-if arms other = ap items (sym (rolls-If arms other)) ∙ para-roll-Stmt (List Entry) (List Entry) (List Entry) items_node arm_items_node loop_items_node (Stmt-F.If arms other)
    ∙ ap (λ xs. Plain ∷ xs ++ flat_map (λ (s : Stmt × List Entry). s.1) (map (λ s. (s, items s)) other)) (items_beside_arms arms)
    ∙ ap (λ ys. Plain ∷ flat_map items_in_arm arms ++ ys) (items_beside other)

pub bodies_in-append : (xs ys : List Entry) → bodies_in (xs ++ ys) ≡ bodies_in xs ++ bodies_in ys
bodies_in-append [] ys = refl
bodies_in-append (Plain ∷ xs) ys = bodies_in-append xs ys
bodies_in-append (Declares d ∷ xs) ys = bodies_in-append xs ys
bodies_in-append (Invokes b ∷ xs) ys = ap (λ bodies. b.stmts ∷ bodies) (bodies_in-append xs ys)

pub bodies_in-flat : {A : Type 0} (f : A → List Entry) (xs : List A) → bodies_in (flat_map f xs) ≡ flat_map (λ x. bodies_in (f x)) xs
bodies_in-flat f [] = refl
bodies_in-flat f (x ∷ xs) = bodies_in-append (f x) (flat_map f xs) ∙ ap (λ bodies. bodies_in (f x) ++ bodies) (bodies_in-flat f xs)

firsts : {A B : Type 0} (f : A → B) (xs : List A) → map (λ (p : A × B). p.0) (map (λ x. (x, f x)) xs) ≡ xs
firsts f [] = refl
firsts f (x ∷ xs) = ap (λ ys. x ∷ ys) (firsts f xs)

pub statements-append : (xs ys : List Body) → statements_of_each (xs ++ ys) ≡ statements_of_each xs ++ statements_of_each ys
statements-append [] ys = refl
statements-append (x ∷ xs) ys = ap (λ bodies. x.stmts ∷ bodies) (statements-append xs ys)

module _ (setting : Setting) where
  abbrev SameItem : Stmt → Type 0
  SameItem s = (item_of setting s).bodies ≡ bodies_in (items s)

  abbrev items_at : List Stmt → Item
  items_at stmts = in_order (map (λ (p : Stmt × Item). p.1) (map (λ s. (s, item_of setting s)) stmts))

  abbrev arms_at : List Arm → Item → Item
  arms_at arms other = chosen (map (λ (p : Arm × Tested). p.1) (map (λ a. (a, tested_of setting a)) arms)) other

  items_same : (stmts : List Stmt) → Each SameItem stmts → (items_at stmts).bodies ≡ bodies_in (items_of stmts)
  items_same [] each = refl
  items_same (s ∷ stmts) each =
      ap (λ bodies. bodies ++ (items_at stmts).bodies) each.0
      ∙ ap (λ bodies. bodies_in (items s) ++ bodies) (items_same stmts each.1)
      ∙ sym (bodies_in-append (items s) (items_of stmts))

  tested_same : (a : Arm) → Each SameItem a.body → (tested_of setting a).bodies ≡ bodies_in (items_in_arm a)
  tested_same a each = ap (λ (t : Tested). t.bodies) (tested-is setting a) ∙ items_same a.body each ∙ ap bodies_in (sym (items_in_arm-is a))

  arms_same : (arms : List Arm) → Each (λ (a : Arm). Each SameItem a.body) arms → (other : Item) (entries : List Entry) → other.bodies ≡ bodies_in entries → (arms_at arms other).bodies ≡ bodies_in (flat_map items_in_arm arms ++ entries)
  arms_same [] each other entries same = same
  arms_same (a ∷ arms) each other entries same =
      ap (λ bodies. bodies ++ (arms_at arms other).bodies) (tested_same a each.0)
      ∙ ap (λ bodies. bodies_in (items_in_arm a) ++ bodies) (arms_same arms each.1 other entries same)
      ∙ sym (bodies_in-append (items_in_arm a) (flat_map items_in_arm arms ++ entries))
      ∙ ap bodies_in (sym (append_assoc (items_in_arm a) (flat_map items_in_arm arms) entries))

  invocation_same : (l : Loop) → (looped_of setting l).invocation.bodies ≡ l.body ∷ []
  invocation_same l = ap (λ (x : Looped). x.invocation.bodies) (looped-is setting l) ∙ ap (λ body. body ∷ []) (firsts (item_of setting) l.body)

  item_same : (s : Stmt) → SameItem s
  item_same = stmt_induction SameItem
      (λ line name e. ap (λ (i : Item). i.bodies) (item-declare setting line name e) ∙ ap bodies_in (sym (items-declare line name e)))
      (λ line name o e. ap (λ (i : Item). i.bodies) (item-assign setting line name o e) ∙ ap bodies_in (sym (items-assign line name o e)))
      (λ line name p o e. ap (λ (i : Item). i.bodies) (item-write setting line name p o e) ∙ ap bodies_in (sym (items-write line name p o e)))
      (λ arms other in_arms in_other. ap (λ (i : Item). i.bodies) (item-if setting arms other) ∙ arms_same arms in_arms (items_at other) (items_of other) (items_same other in_other) ∙ ap bodies_in (sym (items-if arms other)))
      (λ l inside. ap (λ (i : Item). i.bodies) (item-loop setting l) ∙ invocation_same l ∙ ap bodies_in (sym (items-loop l)))

  each_same : (stmts : List Stmt) → Each SameItem stmts
  each_same [] = tt
  each_same (s ∷ stmts) = (item_same s, each_same stmts)

  region_same : (l : Loop) → (region_of setting l).bodies ≡ statements_of_each (invoked_in_region l)
  region_same l = ap (λ (x : Looped). x.region.bodies) (looped-is setting l) ∙ items_same l.body (each_same l.body)

  -- the bodies that the events of regions number are those of the shape
  pub regions_same : (regions : List Loop) → (in_order (map (region_of setting) regions)).bodies ≡ statements_of_each (flat_map invoked_in_region regions)
  regions_same [] = refl
  regions_same (l ∷ regions) =
      ap (λ bodies. bodies ++ (in_order (map (region_of setting) regions)).bodies) (region_same l)
      ∙ ap (λ bodies. statements_of_each (invoked_in_region l) ++ bodies) (regions_same regions)
      ∙ sym (statements-append (invoked_in_region l) (flat_map invoked_in_region regions))
