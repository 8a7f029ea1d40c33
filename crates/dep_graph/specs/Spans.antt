-- The loops of a body around a subscript, and the span of a form: the least and the greatest value, over the whole
-- numbers, of the part over the variables of those loops, where their bounds are literal.
use Rattle.std.specs.Prelude.{ℕ, ◌-◌, ◌==◌, ℤ, pos, ◌+ℤ◌, ◌*ℤ◌, neg_ℤ, int_le, nat_le, unsigned_abs, Bool, ◌&&◌, if◌then◌else◌, Option, Some, None, ◌^◌}
use Rattle.std.specs.Option.{option_map, option_and_then}
use Rattle.nest_syntax.specs.declared.operators.Un.{Un}
use Rattle.nest_syntax.specs.declared.operators.Un.TheVariants as un
use Rattle.nest_syntax.specs.declared.tree.Expr.{Expr, fold-Expr}
use Rattle.nest_syntax.specs.declared.tree.Expr.TheOpen.{Expr-F}
use Rattle.nest_syntax.specs.Words.{wrap, turns, variable}
use Rattle.dep_graph.specs.declared.forms.Form.{Form}
use Rattle.dep_graph.specs.declared.around.Bound.{Bound}
use Rattle.dep_graph.specs.declared.around.Bound.TheVariants as bound
use Rattle.dep_graph.specs.declared.around.Turning.{Turning}
use Rattle.dep_graph.specs.declared.around.Around.{Around}
use Rattle.dep_graph.specs.declared.around.Around.TheVariants as around
use Rattle.dep_graph.specs.declared.around.Header.{Header}
use Rattle.dep_graph.specs.declared.around.Header.TheVariants as header
use Rattle.dep_graph.specs.declared.spans.Span.{Span}
use Rattle.dep_graph.specs.declared.spans.WideSpan.{WideSpan}

-- a literal bound is a number, or a number behind a unary `-`
abbrev pub negated_bound : Un → Bound → Bound
negated_bound un.Neg (bound.Number n) = bound.Negated n
negated_bound operation part = bound.Other

abbrev pub bound_node : Expr-F Bound → Bound
bound_node (Expr-F.Number n) = bound.Number n
bound_node (Expr-F.Unary operation part) = negated_bound operation part
bound_node other = bound.Other

abbrev pub bound_of : Expr → Bound
bound_of = fold-Expr Bound bound_node

abbrev pub literal_in : Bound → Option ℤ
literal_in (bound.Number n) = Some n
literal_in (bound.Negated n) = Some (wrap (neg_ℤ n))
literal_in bound.Other = None

-- The header of a loop of the body: its bounds aren't both literal, it has no turns, or its variable goes from one value
-- to another.
abbrev pub turns_behind_first : ℕ → Option ℕ
turns_behind_first count = if count == 0 then None else Some (count - 1)

abbrev pub turning : ℕ → ℤ → ℕ → Option ℕ → Header
turning name low step None = header.Idle
turning name low step (Some behind) = header.Turns (record { name = name; low = low; last = variable low step behind })

abbrev pub header_between : ℕ → Option ℤ → Option ℤ → Bool → ℕ → Header
header_between name (Some low) (Some high) through step = turning name low step (turns_behind_first (turns low high step through))
header_between name (Some low) None through step = header.Open
header_between name None high through step = header.Open

abbrev pub header_of : ℕ → Expr → Expr → Bool → ℕ → Header
header_of name low high through step = header_between name (literal_in (bound_of low)) (literal_in (bound_of high)) through step

-- One loop more around. A body has loops at two depths; the variable of one that stood deeper would have no form.
abbrev pub within : Around → Turning → Around
within around.Nothing l = around.One l
within (around.One l) m = around.Two l m
within (around.Two l m) deeper = around.Two l m

-- the least and the greatest of two numbers, and of sums of the numbers in two spans
abbrev pub between : ℤ → ℤ → WideSpan
between a b = if int_le a b then record { least = a; greatest = b } else record { least = b; greatest = a }

abbrev pub span_sum : WideSpan → WideSpan → WideSpan
span_sum a b = record { least = a.least +ℤ b.least; greatest = a.greatest +ℤ b.greatest }

-- the span of a factor times the variable of a loop
abbrev pub span_in : ℤ → Turning → WideSpan
span_in factor l = between (factor *ℤ l.low) (factor *ℤ l.last)

abbrev pub span_of : Around → Form → WideSpan
span_of around.Nothing f = record { least = pos 0; greatest = pos 0 }
span_of (around.One l) f = span_in f.outer l
span_of (around.Two l m) f = span_sum (span_in f.outer l) (span_in f.inner m)

-- a span of which neither end passes 2^62 on either side
abbrev pub narrow : WideSpan → Option Span
narrow s = if nat_le (unsigned_abs s.least) (2 ^ 62) && nat_le (unsigned_abs s.greatest) (2 ^ 62) then Some (record { least = s.least; greatest = s.greatest }) else None
