-- The locals of a body in order: which names are among them, and which of them is the first.
use Rattle.std.proofs.Common.{◌≡◌, ℕ, zero, suc, ◌<◌, Bool, true, false, ◌||◌, ◌==◌, if◌then◌else◌, Option, Some, None, List, [], ◌∷◌, ◌++◌, map, refl, sym, ap, ◌∙◌, subst, eq-eqb}
use Rattle.std.specs.Prelude.{is_some, IsTrue}
use Rattle.std.specs.List.{list_any, concat, flat_map}
use Rattle.std.specs.Option.{option_map}
use Rattle.std.proofs.lemmas.Bool.{eqb-true}
use Rattle.std.proofs.lemmas.List.Folds.{list_any-append}
use Rattle.nest_syntax.specs.declared.names.Line.{Line}
use Rattle.nest_syntax.specs.declared.operators.Op.{Op as Change}
use Rattle.nest_syntax.specs.declared.tree.Expr.{Expr}
use Rattle.nest_syntax.specs.declared.tree.Arm.{Arm}
use Rattle.nest_syntax.specs.declared.tree.Loop.{Loop}
use Rattle.nest_syntax.specs.declared.tree.Stmt.{Stmt}
use Rattle.nest_syntax.specs.declared.tree.Stmt.TheOpen.{Stmt-F}
use Rattle.nest_syntax.specs.declared.tree.Stmt.TheFolds.{fold-roll-Stmt}
use Rattle.nest_syntax.specs.declared.tree.Stmt.TheVariants as stmt
use Rattle.nest_syntax.specs.declared.tree.Stmt.TheVariants.{rolls-Declare, rolls-Assign, rolls-Write, rolls-Loop}
use Rattle.nest_syntax.specs.Among.{Each, is_among}
use Rattle.nest_syntax.specs.Shape.{Declaration, Entry, Plain, Declares, Invokes, body_of_loop, body_of_write, declarations_in}
use Rattle.nest_syntax.specs.Locals.{given, given_in_arm, names_given, locals_of}
use Rattle.nest_syntax.proofs.Equations.{given-declare, given-assign, given-write, given-if, given-loop, given_in_arm-is, given_in_loop-is}
use Rattle.nest_syntax.proofs.Inductions.{stmt_induction}
use Rattle.nest_check.specs.Through.{through}
use Rattle.nest_check.specs.Declarations.{has_name, with_declaration, first_of_each, names_of, index_of_name}
use Rattle.nest_check.specs.Entries.{statements, statements_of, statements_in_arm, statements_in_loop, statements_node, arm_statements_node, loop_statements_node}
use Rattle.nest_check.proofs.EntryNodes.{statements_in_arm-is, statements_in_loop-is, statements-if}
use Rattle.task_code.specs.Bodies.{layout_of, with_name, with_entry}

-- the names that a body's text declares are its locals
abbrev named_by : List Entry → List ℕ
named_by entries = names_of (declarations_in entries)

named-append : (xs ys : List Entry) → named_by (xs ++ ys) ≡ named_by xs ++ named_by ys
named-append [] ys = refl
named-append (Plain ∷ xs) ys = named-append xs ys
named-append (Declares d ∷ xs) ys = ap (λ ns. d.0 ∷ ns) (named-append xs ys)
named-append (Invokes b ∷ xs) ys = named-append xs ys

abbrev IsNamed : Stmt → Type 0
IsNamed s = named_by (statements s) ≡ given false s

block_named : (stmts : List Stmt) → Each IsNamed stmts → named_by (statements_of stmts) ≡ names_given false stmts
block_named [] each = refl
block_named (s ∷ stmts) each = named-append (statements s) (statements_of stmts) ∙ ap (λ ns. ns ++ named_by (statements_of stmts)) each.0 ∙ ap (λ ns. given false s ++ ns) (block_named stmts each.1)

arms_named : (arms : List Arm) → Each (λ (a : Arm). Each IsNamed a.body) arms → named_by (flat_map statements_in_arm arms) ≡ concat (map (given_in_arm false) arms)
arms_named [] each = refl
arms_named (a ∷ arms) each =
    named-append (statements_in_arm a) (flat_map statements_in_arm arms)
    ∙ ap (λ ns. ns ++ named_by (flat_map statements_in_arm arms)) (ap named_by (statements_in_arm-is a) ∙ block_named a.body each.0 ∙ sym (given_in_arm-is false a))
    ∙ ap (λ ns. given_in_arm false a ++ ns) (arms_named arms each.1)

stmt_named : (s : Stmt) → IsNamed s
stmt_named = stmt_induction IsNamed
    (λ line name e. ap named_by (ap statements (sym (rolls-Declare line name e)) ∙ fold-roll-Stmt (List Entry) (List Entry) (List Entry) statements_node arm_statements_node loop_statements_node (Stmt-F.Declare line name e)) ∙ sym (given-declare false line name e))
    (λ line name o e. ap named_by (ap statements (sym (rolls-Assign line name o e)) ∙ fold-roll-Stmt (List Entry) (List Entry) (List Entry) statements_node arm_statements_node loop_statements_node (Stmt-F.Assign line name o e)) ∙ sym (given-assign false line name o e))
    (λ line name p o e. ap named_by (ap statements (sym (rolls-Write line name p o e)) ∙ fold-roll-Stmt (List Entry) (List Entry) (List Entry) statements_node arm_statements_node loop_statements_node (Stmt-F.Write line name p o e)) ∙ sym (given-write false line name p o e))
    (λ arms other in_arms in_other.
    ap named_by (statements-if arms other) ∙ named-append (flat_map statements_in_arm arms) (statements_of other)
    ∙ ap (λ ns. ns ++ named_by (statements_of other)) (arms_named arms in_arms) ∙ ap (λ ns. concat (map (given_in_arm false) arms) ++ ns) (block_named other in_other) ∙ sym (given-if false arms other))
    (λ l inside.
    ap named_by (ap statements (sym (rolls-Loop l)) ∙ fold-roll-Stmt (List Entry) (List Entry) (List Entry) statements_node arm_statements_node loop_statements_node (Stmt-F.Loop l) ∙ statements_in_loop-is l)
    ∙ ap (λ ns. l.name ∷ ns) (block_named l.body inside) ∙ sym (given-loop false l ∙ given_in_loop-is false l))

each_named : (stmts : List Stmt) → Each IsNamed stmts
each_named [] = tt
each_named (s ∷ stmts) = (stmt_named s, each_named stmts)

body_named : (stmts : List Stmt) → named_by (statements_of stmts) ≡ locals_of stmts
body_named stmts = block_named stmts (each_named stmts)

-- a test of equality, turned round
turned : (a b : ℕ) → (a == b) ≡ (b == a)
turned a b = by (a == b) (b == a) refl refl where
  by : (p q : Bool) → (a == b) ≡ p → (b == a) ≡ q → p ≡ q
  by true true e f = refl
  by false false e f = refl
  by true false e f = sym (eq-eqb b a (sym (eqb-true a b e))) ∙ f
  by false true e f = sym e ∙ eq-eqb a b (sym (eqb-true b a f))

has_among : (ds : List Declaration) (name : ℕ) → has_name ds name ≡ is_among (names_of ds) name
has_among [] name = refl
has_among (d ∷ ds) name = ap (λ b. b || has_name ds name) (turned d.0 name) ∙ ap (λ b. (name == d.0) || b) (has_among ds name)

or_false : (a : Bool) → (a || false) ≡ a
or_false true = refl
or_false false = refl

or_assoc : (a b c : Bool) → ((a || b) || c) ≡ (a || (b || c))
or_assoc true b c = refl
or_assoc false b c = refl

-- the first declarations have the names that the declarations have
one_more : (found : List Declaration) (d : Declaration) (name : ℕ) → has_name (with_declaration found d) name ≡ (has_name found name || (d.0 == name))
one_more found d name = by (has_name found d.0) refl where
  known : (b : Bool) → has_name found d.0 ≡ true → (d.0 == name) ≡ b → has_name found name ≡ (has_name found name || b)
  known false there e = sym (or_false (has_name found name))
  known true there e = let here : has_name found name ≡ true = subst (λ n. has_name found n ≡ true) (eqb-true d.0 name e) there in here ∙ sym (ap (λ b. b || true) here)

  by : (b : Bool) → has_name found d.0 ≡ b → has_name (if b then found else found ++ d ∷ []) name ≡ (has_name found name || (d.0 == name))
  by true there = known (d.0 == name) there refl
  by false none = list_any-append (λ (x : Declaration). x.0 == name) found (d ∷ []) ∙ ap (λ b. has_name found name || b) (or_false (d.0 == name))

pub all_more : (found ds : List Declaration) (name : ℕ) → has_name (through with_declaration found ds) name ≡ (has_name found name || has_name ds name)
all_more found [] name = sym (or_false (has_name found name))
all_more found (d ∷ ds) name = all_more (with_declaration found d) ds name ∙ ap (λ b. b || has_name ds name) (one_more found d name) ∙ or_assoc (has_name found name) (d.0 == name) (has_name ds name)

-- a name has a place among those that are there
pub placed : (ds : List Declaration) (name : ℕ) → is_some (index_of_name (names_of ds) name) ≡ has_name ds name
placed [] name = refl
placed (d ∷ ds) name = by (d.0 == name) (index_of_name (names_of ds) name) ∙ ap (λ b. (d.0 == name) || b) (placed ds name) where
  by : (b : Bool) (p : Option ℕ) → is_some (if b then Some 0 else option_map suc p) ≡ (b || is_some p)
  by true p = refl
  by false None = refl
  by false (Some n) = refl

pub loop_layout : (l : Loop) (name : ℕ) → is_some (index_of_name (layout_of (body_of_loop l)) name) ≡ ((l.name == name) || is_among (locals_of l.body) name)
loop_layout l name =
    placed (first_of_each ((l.name, l.line) ∷ declarations_in (statements_of l.body))) name ∙ all_more [] ((l.name, l.line) ∷ declarations_in (statements_of l.body)) name
    ∙ ap (λ b. (l.name == name) || b) (has_among (declarations_in (statements_of l.body)) name ∙ ap (λ ns. is_among ns name) (body_named l.body))

pub write_layout : (line : Line) (s : Stmt) (name : ℕ) → is_some (index_of_name (layout_of (body_of_write line s)) name) ≡ is_among (locals_of (s ∷ [])) name
write_layout line s name =
    placed (first_of_each (declarations_in (statements_of (s ∷ [])))) name ∙ all_more [] (declarations_in (statements_of (s ∷ []))) name
    ∙ has_among (declarations_in (statements_of (s ∷ []))) name ∙ ap (λ ns. is_among ns name) (body_named (s ∷ []))

-- the first declaration stands first
abbrev Headed : Declaration → List Declaration → Type 0
Headed d ds = (rest : List Declaration) × (ds ≡ d ∷ rest)

heads : (d : Declaration) (found ds : List Declaration) → (rest : List Declaration) × (through with_declaration (d ∷ found) ds ≡ d ∷ rest)
heads d found [] = (found, refl)
heads d found (e ∷ ds) = by (has_name (d ∷ found) e.0) (heads d found ds) (heads d (found ++ e ∷ []) ds) where
  by : (b : Bool) → Headed d (through with_declaration (d ∷ found) ds) → Headed d (through with_declaration (d ∷ (found ++ e ∷ [])) ds) → Headed d (through with_declaration (if b then d ∷ found else (d ∷ found) ++ e ∷ []) ds)
  by true known new = known
  by false known new = new

pub variable_first : (l : Loop) → (rest : List ℕ) × (layout_of (body_of_loop l) ≡ l.name ∷ rest)
variable_first l = let head = heads (l.name, l.line) [] (declarations_in (statements_of l.body)) in (names_of head.0, ap names_of head.1)

-- the names of first declarations, one by one
name_kept : (found : List Declaration) (d : Declaration) → names_of (with_declaration found d) ≡ with_name (names_of found) d.0
name_kept found d = by (has_name found d.0) ∙ ap (λ b. if b then names_of found else names_of found ++ d.0 ∷ []) (sym (placed found d.0)) where
  grown : (found : List Declaration) → names_of (found ++ d ∷ []) ≡ names_of found ++ d.0 ∷ []
  grown [] = refl
  grown (x ∷ xs) = ap (λ ns. x.0 ∷ ns) (grown xs)

  by : (b : Bool) → names_of (if b then found else found ++ d ∷ []) ≡ (if b then names_of found else names_of found ++ d.0 ∷ [])
  by true = refl
  by false = grown found

pub names_kept : (found : List Declaration) (entries : List Entry) → names_of (through with_declaration found (declarations_in entries)) ≡ through with_entry (names_of found) entries
names_kept found [] = refl
names_kept found (Plain ∷ entries) = names_kept found entries
names_kept found (Declares d ∷ entries) = names_kept (with_declaration found d) entries ∙ ap (λ ns. through with_entry ns entries) (name_kept found d)
names_kept found (Invokes b ∷ entries) = names_kept found entries
