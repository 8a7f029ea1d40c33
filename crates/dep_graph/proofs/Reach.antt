-- Spans: what the variables of the loops around may have, and that the part of a form over them lies in its span.
use Rattle.std.proofs.Common.{◌≡◌, ℕ, zero, suc, ◌+◌, ◌*◌, ◌^◌, ◌≤◌, nat_le, ℤ, pos, negsuc, ◌+ℤ◌, ◌*ℤ◌, neg_ℤ, unsigned_abs, int_le, Bool, true, false, ◌&&◌, if◌then◌else◌, Option, Some, None, refl, sym, ap, ◌∙◌, subst, arith}
use Rattle.std.proofs.lemmas.Int.{ints}
use Rattle.std.proofs.Math.IntN.{*ℤ-zero}
use Rattle.dep_graph.specs.declared.forms.Form.{Form}
use Rattle.dep_graph.specs.declared.around.Turning.{Turning}
use Rattle.dep_graph.specs.declared.around.Around.{Around}
use Rattle.dep_graph.specs.declared.around.Around.TheVariants as around
use Rattle.dep_graph.specs.declared.spans.Span.{Span}
use Rattle.dep_graph.specs.declared.spans.WideSpan.{WideSpan}
use Rattle.dep_graph.specs.Spans.{between, span_sum, span_in, span_of, narrow}
use Rattle.dep_graph.proofs.Whole.{spread_right}
use Rattle.dep_graph.proofs.Values.{Valuation}

-- a number lies from one to another
abbrev pub Between : ℤ → ℤ → ℤ → Type 0
Between low high z = (x : ℕ) × (y : ℕ) × (z ≡ low +ℤ pos x) × (high ≡ z +ℤ pos y)

-- the part of a form over the loops around
abbrev pub loop_part : Valuation → Form → ℤ
loop_part v f = f.outer *ℤ v.outer +ℤ f.inner *ℤ v.inner

-- the loops around have values in their ranges; where there is none, 0 stands for it
abbrev pub FitsAround : Around → Valuation → Type 0
FitsAround around.Nothing v = (v.outer ≡ pos 0) × (v.inner ≡ pos 0)
FitsAround (around.One l) v = Between l.low l.last v.outer × (v.inner ≡ pos 0)
FitsAround (around.Two l m) v = Between l.low l.last v.outer × Between m.low m.last v.inner

abbrev InSpan : WideSpan → ℤ → Type 0
InSpan s z = Between s.least s.greatest z

-- rising or falling from a to b by way of z
rising : (a b z : ℤ) (x y : ℕ) → z ≡ a +ℤ pos x → b ≡ z +ℤ pos y → InSpan (between a b) z
rising a b z x y first second = by (int_le a b) refl
  where
    by : (t : Bool) → int_le a b ≡ t → InSpan (if t then record { least = a; greatest = b } else record { least = b; greatest = a }) z
    by true e = (x, y, first, second)
    by false e = absurd (grind (arith, ints))

falling : (a b z : ℤ) (x y : ℕ) → a ≡ z +ℤ pos x → z ≡ b +ℤ pos y → InSpan (between a b) z
falling a b z x y first second = by (int_le a b) refl
  where
    by : (t : Bool) → int_le a b ≡ t → InSpan (if t then record { least = a; greatest = b } else record { least = b; greatest = a }) z
    by true e = (0, 0, grind (arith, ints), grind (arith, ints))
    by false e = (y, x, second, first)

-- a factor times a number between two
scaled_step : (k a : ℤ) (x : ℕ) (z : ℤ) → z ≡ a +ℤ pos x → k *ℤ z ≡ k *ℤ a +ℤ k *ℤ pos x
scaled_step k a x z e = ap (λ n. k *ℤ n) e ∙ spread_right k a (pos x)

in_span : (k : ℤ) (l : Turning) (z : ℤ) → Between l.low l.last z → InSpan (span_in k l) (k *ℤ z)
in_span (pos n) l z (x, y, first, second) =
    let one : pos n *ℤ z ≡ pos n *ℤ l.low +ℤ pos (n * x) = scaled_step (pos n) l.low x z first in
    let two : pos n *ℤ l.last ≡ pos n *ℤ z +ℤ pos (n * y) = scaled_step (pos n) z y l.last second in
    rising (pos n *ℤ l.low) (pos n *ℤ l.last) (pos n *ℤ z) (n * x) (n * y) one two
in_span (negsuc n) l z (x, y, first, second) =
    let one : negsuc n *ℤ z ≡ negsuc n *ℤ l.low +ℤ neg_ℤ (pos (suc n * x)) = scaled_step (negsuc n) l.low x z first in
    let two : negsuc n *ℤ l.last ≡ negsuc n *ℤ z +ℤ neg_ℤ (pos (suc n * y)) = scaled_step (negsuc n) z y l.last second in
    falling (negsuc n *ℤ l.low) (negsuc n *ℤ l.last) (negsuc n *ℤ z) (suc n * x) (suc n * y) (omega (arith, ints)) (omega (arith, ints))

in_sum : (a b : WideSpan) (y z : ℤ) → InSpan a y → InSpan b z → InSpan (span_sum a b) (y +ℤ z)
in_sum a b y z (m, n, first, second) (m', n', first', second') = (m + m', n + n', omega (arith, ints), omega (arith, ints))

in_loops : (around : Around) (v : Valuation) (f : Form) → FitsAround around v → InSpan (span_of around f) (loop_part v f)
in_loops around.Nothing v f fits =
    let one : f.outer *ℤ v.outer ≡ pos 0 = ap (λ n. f.outer *ℤ n) fits.0 ∙ *ℤ-zero f.outer in
    let two : f.inner *ℤ v.inner ≡ pos 0 = ap (λ n. f.inner *ℤ n) fits.1 ∙ *ℤ-zero f.inner in
    (0, 0, omega (arith, ints), omega (arith, ints))
in_loops (around.One l) v f fits =
    let two : f.inner *ℤ v.inner ≡ pos 0 = ap (λ n. f.inner *ℤ n) fits.1 ∙ *ℤ-zero f.inner in
    let (x, y, first, second) = in_span f.outer l v.outer fits.0 in
    (x, y, omega (arith, ints), omega (arith, ints))
in_loops (around.Two l m) v f fits = in_sum (span_in f.outer l) (span_in f.inner m) (f.outer *ℤ v.outer) (f.inner *ℤ v.inner) (in_span f.outer l v.outer fits.0) (in_span f.inner m v.inner fits.1)

narrow_is : (w : WideSpan) (s : Span) (z : ℤ) → narrow w ≡ Some s → InSpan w z → Between s.least s.greatest z
narrow_is w s z e held = by (nat_le (unsigned_abs w.least) (2 ^ 62) && nat_le (unsigned_abs w.greatest) (2 ^ 62)) e
  where
    by : (t : Bool) → (if t then Some (record { least = w.least; greatest = w.greatest }) else None) ≡ Some s → Between s.least s.greatest z
    by true e = let same : record { least = w.least; greatest = w.greatest } ≡ s = cc in subst (λ (x : Span). Between x.least x.greatest z) same held
    by false e = absurd cc

pub within_span : (around : Around) (v : Valuation) (f : Form) (s : Span) → FitsAround around v → narrow (span_of around f) ≡ Some s → Between s.least s.greatest (loop_part v f)
within_span around v f s fits e = narrow_is (span_of around f) s (loop_part v f) e (in_loops around v f fits)
