-- The affine form of a subscript: a sum of a literal and of scalars with literal factors, in wrapping 64-bit arithmetic.
-- Four kinds of scalars have a form: the variable of the invocation, the variables of the two loops of the body that may
-- stand around the subscript, and the scalars of the scheduler. A form is in lowest terms, since it has one factor for
-- each of them: a factor that wraps to 0 is the same as none.
use Rattle.std.specs.Prelude.{ℕ, ℤ, pos, negsuc, ◌+ℤ◌, ◌*ℤ◌, ◌==◌, Bool, true, ◌&&◌, if◌then◌else◌, Option, Some, None, List, [], ◌∷◌, map, replicate, slice_set}
use Rattle.std.specs.List.{list_all}
use Rattle.std.specs.Option.{option_map, option_and_then}
use Rattle.nest_syntax.specs.declared.operators.Un.{Un}
use Rattle.nest_syntax.specs.declared.operators.Un.TheVariants as un
use Rattle.nest_syntax.specs.declared.operators.Bin.{Bin}
use Rattle.nest_syntax.specs.declared.operators.Bin.TheVariants as bin
use Rattle.nest_syntax.specs.declared.tree.Expr.{Expr, fold-Expr}
use Rattle.nest_syntax.specs.declared.tree.Expr.TheOpen.{Expr-F}
use Rattle.nest_syntax.specs.declared.tree.Loop.{Loop}
use Rattle.nest_syntax.specs.declared.tree.Program.{Program}
use Rattle.nest_syntax.specs.Words.{wrap, is_zero}
use Rattle.nest_syntax.specs.Locals.{names_given}
use Rattle.nest_syntax.specs.Among.{is_among}
use Rattle.nest_check.specs.Tables.{scalar_of}
use Rattle.dep_graph.specs.declared.forms.Form.{Form}
use Rattle.dep_graph.specs.declared.around.Turning.{Turning}
use Rattle.dep_graph.specs.declared.around.Around.{Around}
use Rattle.dep_graph.specs.declared.around.Around.TheVariants as around
use Rattle.dep_graph.specs.declared.forms.Symbol.{Symbol}
use Rattle.dep_graph.specs.declared.forms.Symbol.TheVariants as symbol

-- whether the body of an invocation gives a name anywhere: declares it, assigns it, or has a loop with this variable
abbrev pub is_given : Loop → ℕ → Bool
is_given nest name = is_among (names_given true nest.body) name

-- What a name in a subscript is, with these loops of the body around it: the innermost loop's variable counts first. A
-- scalar of the scheduler is one that the body doesn't give; any other name has no form.
abbrev pub symbol_inside : Around → ℕ → Option Symbol
symbol_inside around.Nothing name = None
symbol_inside (around.One l) name = if l.name == name then Some symbol.Outer else None
symbol_inside (around.Two l m) name = if m.name == name then Some symbol.Inner else if l.name == name then Some symbol.Outer else None

abbrev pub symbol_outside : Program → Loop → ℕ → Option Symbol
symbol_outside program nest name = if nest.name == name then Some symbol.Variable else if is_given nest name then None else option_map symbol.Scalar (scalar_of program name)

abbrev pub or_else : {A : Type 0} → Option A → Option A → Option A
or_else (Some x) other = Some x
or_else None other = other

abbrev pub symbol_of : Program → Loop → Around → ℕ → Option Symbol
symbol_of program nest inside name = or_else (symbol_inside inside name) (symbol_outside program nest name)

-- no scalar of the scheduler; there are at most 32
abbrev pub no_scalars : List ℤ
no_scalars = replicate 32 (pos 0)

-- a number, and a scalar by itself
abbrev pub literal_form : ℤ → Form
literal_form n = record { literal = n; variable = pos 0; outer = pos 0; inner = pos 0; scalars = no_scalars }

abbrev pub symbol_form : Symbol → Form
symbol_form symbol.Variable = record { literal = pos 0; variable = pos 1; outer = pos 0; inner = pos 0; scalars = no_scalars }
symbol_form symbol.Outer = record { literal = pos 0; variable = pos 0; outer = pos 1; inner = pos 0; scalars = no_scalars }
symbol_form symbol.Inner = record { literal = pos 0; variable = pos 0; outer = pos 0; inner = pos 1; scalars = no_scalars }
symbol_form (symbol.Scalar n) = record { literal = pos 0; variable = pos 0; outer = pos 0; inner = pos 0; scalars = slice_set no_scalars n (pos 1) }

-- factors added one by one
abbrev pub sums : List ℤ → List ℤ → List ℤ
sums [] others = []
sums (a ∷ factors) [] = []
sums (a ∷ factors) (b ∷ others) = wrap (a +ℤ b) ∷ sums factors others

abbrev pub plus : Form → Form → Form
plus f g = record { literal = wrap (f.literal +ℤ g.literal); variable = wrap (f.variable +ℤ g.variable); outer = wrap (f.outer +ℤ g.outer); inner = wrap (f.inner +ℤ g.inner); scalars = sums f.scalars g.scalars }

abbrev pub times : ℤ → Form → Form
times k f = record { literal = wrap (k *ℤ f.literal); variable = wrap (k *ℤ f.variable); outer = wrap (k *ℤ f.outer); inner = wrap (k *ℤ f.inner); scalars = map (λ c. wrap (k *ℤ c)) f.scalars }

abbrev pub negated : Form → Form
negated f = times (negsuc 0) f

-- whether a form is a literal, and no more
abbrev pub is_literal : Form → Bool
is_literal f = is_zero f.variable && (is_zero f.outer && (is_zero f.inner && list_all is_zero f.scalars))

-- a product has a form where one of the two is a literal
abbrev pub product : Form → Form → Option Form
product f g = if is_literal f then Some (times f.literal g) else if is_literal g then Some (times g.literal f) else None

abbrev pub with_both : (Form → Form → Option Form) → Option Form → Option Form → Option Form
with_both joined (Some f) (Some g) = joined f g
with_both joined (Some f) None = None
with_both joined None other = None

-- what the operations make of forms
abbrev pub unary_form : Un → Form → Option Form
unary_form un.Neg f = Some (negated f)
unary_form operation f = None

abbrev pub binary_form : Bin → Form → Form → Option Form
binary_form bin.Add f g = Some (plus f g)
binary_form bin.Sub f g = Some (plus f (negated g))
binary_form bin.Mul f g = product f g
binary_form operation f g = None

-- one layer of an expression, with the forms of its parts in their places
abbrev pub form_node : (ℕ → Option Symbol) → Expr-F (Option Form) → Option Form
form_node symbols (Expr-F.Number n) = Some (literal_form n)
form_node symbols (Expr-F.Scalar name) = option_map symbol_form (symbols name)
form_node symbols (Expr-F.Word array place) = None
form_node symbols (Expr-F.Unary operation part) = option_and_then (unary_form operation) part
form_node symbols (Expr-F.Binary operation left right) = with_both (binary_form operation) left right
form_node symbols (Expr-F.Choice test first second) = None

-- the affine form of an expression, none where it has none
abbrev pub form_of : (ℕ → Option Symbol) → Expr → Option Form
form_of symbols = fold-Expr (Option Form) (form_node symbols)
