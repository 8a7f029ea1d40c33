-- The lines of each kind of statement of a region.
use Rattle.std.proofs.Common.{◌≡◌, ℕ, List, [], ◌∷◌, ◌++◌, refl, sym, ap, ◌∙◌, append_assoc}
use Rattle.std.specs.List.{flat_map}
use Rattle.std.proofs.lemmas.List.{append-nil}
use Rattle.std.proofs.lemmas.Grind.{flat_map-append}
use Rattle.nest_syntax.specs.declared.names.Line.{Line}
use Rattle.nest_syntax.specs.declared.operators.Op.{Op}
use Rattle.nest_syntax.specs.declared.tree.Expr.{Expr}
use Rattle.nest_syntax.specs.declared.tree.Arm.{Arm}
use Rattle.nest_syntax.specs.declared.tree.Loop.{Loop}
use Rattle.nest_syntax.specs.declared.tree.Stmt.{Stmt}
use Rattle.nest_syntax.specs.declared.tree.Stmt.TheVariants as stmt
use Rattle.nest_syntax.specs.declared.tree.Program.{Program}
use Rattle.nest_syntax.specs.Shape.{Entry, Plain, Declares, Invokes, items, items_in_arm, items_of, invoked_in, invoked_in_region}
use Rattle.nest_syntax.proofs.Shapes.{items-declare, items-assign, items-write, items-if, items-loop, items_in_arm-is}
use Rattle.nest_report.specs.Deps.{body_line, loop_line, item_lines, region_lines}

abbrev pub block_lines : Program → List Stmt → List ℕ
block_lines program stmts = flat_map (item_lines program) stmts

module _ (program : Program) where
  abbrev lines : List Entry → List ℕ
  lines entries = flat_map (body_line program) (invoked_in entries)

  lines-append : (xs ys : List Entry) → lines (xs ++ ys) ≡ lines xs ++ lines ys
  lines-append [] ys = refl
  lines-append (Plain ∷ xs) ys = lines-append xs ys
  lines-append (Declares d ∷ xs) ys = lines-append xs ys
  lines-append (Invokes b ∷ xs) ys = ap (λ l. body_line program b ++ l) (lines-append xs ys) ∙ sym (append_assoc (body_line program b) (lines xs) (lines ys))

  lines-block : (stmts : List Stmt) → lines (items_of stmts) ≡ block_lines program stmts
  lines-block [] = refl
  lines-block (s ∷ stmts) = lines-append (items s) (items_of stmts) ∙ ap (λ l. item_lines program s ++ l) (lines-block stmts)

  lines-arms : (arms : List Arm) → lines (flat_map items_in_arm arms) ≡ flat_map (λ (a : Arm). block_lines program a.body) arms
  lines-arms [] = refl
  lines-arms (a ∷ arms) =
      lines-append (items_in_arm a) (flat_map items_in_arm arms)
      ∙ ap (λ l. l ++ lines (flat_map items_in_arm arms)) (ap lines (items_in_arm-is a) ∙ lines-block a.body)
      ∙ ap (λ l. block_lines program a.body ++ l) (lines-arms arms)

  pub lines-declare : (line : Line) (name : ℕ) (e : Expr) → item_lines program (stmt.Declare line name e) ≡ []
  lines-declare line name e = ap lines (items-declare line name e)

  pub lines-assign : (line : Line) (name : ℕ) (o : Op) (e : Expr) → item_lines program (stmt.Assign line name o e) ≡ []
  lines-assign line name o e = ap lines (items-assign line name o e)

  pub lines-write : (line : Line) (name : ℕ) (p : Expr) (o : Op) (e : Expr) → item_lines program (stmt.Write line name p o e) ≡ []
  lines-write line name p o e = ap lines (items-write line name p o e)

  pub lines-loop : (l : Loop) → item_lines program (stmt.Loop l) ≡ loop_line program l
  lines-loop l = ap lines (items-loop l) ∙ append-nil (loop_line program l)

  pub lines-if : (arms : List Arm) (other : List Stmt) → item_lines program (stmt.If arms other) ≡ flat_map (λ (a : Arm). block_lines program a.body) arms ++ block_lines program other
  lines-if arms other =
      ap lines (items-if arms other)
      ∙ lines-append (flat_map items_in_arm arms) (items_of other)
      ∙ ap (λ l. l ++ lines (items_of other)) (lines-arms arms)
      ∙ ap (λ l. flat_map (λ (a : Arm). block_lines program a.body) arms ++ l) (lines-block other)

  pub lines-regions : (regions : List Loop) → flat_map (region_lines program) regions ≡ flat_map (body_line program) (flat_map invoked_in_region regions)
  lines-regions [] = refl
  lines-regions (l ∷ regions) =
      ap (λ t. t ++ flat_map (region_lines program) regions) (sym (lines-block l.body))
      ∙ ap (λ t. lines (items_of l.body) ++ t) (lines-regions regions)
      ∙ sym (flat_map-append (body_line program) (invoked_in_region l) (flat_map invoked_in_region regions))
