-- What is kept of accesses to one array: a further one that is near to what they have in common is parted from each.
use Rattle.std.proofs.Common.{◌≡◌, ℕ, ◌-◌, ◌*◌, ◌^◌, ◌<◌, ◌==◌, nat_le, nat_lt, ℤ, pos, negsuc, ◌+ℤ◌, ◌-ℤ◌, unsigned_abs, Bool, true, false, not, ◌&&◌, ◌||◌, Option, Some, None, refl, sym, ap, ◌∙◌, subst, arith}
use Rattle.std.specs.Ordering.{int_eq}
use Rattle.std.proofs.lemmas.Int.{ints}
use Rattle.std.proofs.lemmas.Bool.{lt-ltb}
use Rattle.std.specs.Cmp.Derive.{both_true}
use Rattle.std.proofs.lemmas.Bool.Decides.{Decides-int_eq}
use Rattle.std.specs.Cmp.Rules.{signed_items}
use denote.Ref.{Bor}
use Rattle.dep_graph.specs.declared.forms.Form.{Form}
use Rattle.dep_graph.specs.declared.accesses.Subscript.{Subscript}
use Rattle.dep_graph.specs.declared.accesses.Access.{Access}
use Rattle.dep_graph.specs.declared.seen.Ends.{Ends}
use Rattle.dep_graph.specs.declared.seen.Hull.{Hull}
use Rattle.dep_graph.specs.declared.seen.Seen.TheVariants as seen
use Rattle.dep_graph.specs.declared.seen.Known.{Known}
use Rattle.dep_graph.specs.Kinds.{same_factors, do_match, is_moderate, stride, is_flat, is_skipped, is_elsewhere, distance, stands_apart, passes_test, is_parted, may_depend}
use Rattle.nest_syntax.specs.Words.{is_zero}
use Rattle.dep_graph.specs.Seen.{AreEnds, Holds, AreNear, IsSeen, IsSeenIn}
use Rattle.dep_graph.proofs.Parting.{matching}

gap_size : (z : ℤ) (a b s : ℕ) → z ≡ pos a -ℤ pos b → a - b < s → b - a < s → unsigned_abs z < s
gap_size (pos n) a b s e f g = omega (arith, ints)
gap_size (negsuc n) a b s e f g = omega (arith, ints)

low_gap : (l m a b : ℤ) (x y w : ℕ) → pos x ≡ (l +ℤ a) +ℤ pos w → pos y ≡ (m +ℤ b) +ℤ pos w → ((l -ℤ m) +ℤ a) -ℤ b ≡ pos x -ℤ pos y
low_gap l m a b x y w e f = omega (arith, ints)

-- near ends are apart by less than a stride
near_apart : (step : ℕ) (p q : Subscript) (e e' : Ends) → AreEnds p e → AreEnds q e' → AreNear e e' (stride step p.form) → stands_apart step p q ≡ true
near_apart step p q e e' ends ends' near =
    both_true
    (lt-ltb (unsigned_abs ((distance p.form q.form +ℤ p.span.least) -ℤ q.span.greatest)) (stride step p.form)
    (gap_size ((distance p.form q.form +ℤ p.span.least) -ℤ q.span.greatest) e.first e'.last (stride step p.form) (low_gap p.form.literal q.form.literal p.span.least q.span.greatest e.first e'.last (2 ^ 64) ends.first ends'.last) near.low near.low'))
    (lt-ltb (unsigned_abs ((distance p.form q.form +ℤ p.span.greatest) -ℤ q.span.least)) (stride step p.form)
    (gap_size ((distance p.form q.form +ℤ p.span.greatest) -ℤ q.span.least) e.last e'.first (stride step p.form) (low_gap p.form.literal q.form.literal p.span.greatest q.span.least e.last e'.first (2 ^ 64) ends.last ends'.first) near.high near.high'))

-- a form matches itself, and two forms that match a third one match
pub match_self : (f : Form) → do_match f f ≡ true
match_self f = both_true ((Decides-int_eq f.variable f.variable).1 refl) ((signed_items f.scalars f.scalars).1 refl)

match_both : (f g h : Form) → do_match f h ≡ true → do_match g h ≡ true → do_match f g ≡ true
match_both f g h first second =
    let same = matching g h second in
    ap (λ v. int_eq f.variable v && same_factors f.scalars g.scalars) same.0
    ∙ ap (λ l. int_eq f.variable h.variable && same_factors f.scalars l) same.1
    ∙ first

passes_first : (step : ℕ) (p q : Subscript) → do_match p.form q.form ≡ true → is_moderate p.form ≡ true → stands_apart step p q ≡ true → passes_test step p q ≡ true
passes_first step p q matches moderate apart =
    both_true matches (ap (λ b. b || (is_zero p.form.variable && is_elsewhere p q)) (both_true moderate (ap (λ b. b || is_skipped step p q) apart)))

pub near_parted : (step : ℕ) (form : Bor Form) (hull : Hull) (q : Subscript) (e : Ends) → AreEnds q e → do_match q.form form.now ≡ true → is_moderate form.now ≡ true → ((other : Ends) → Holds hull other → AreNear other e (stride step form.now))
    → (other : Option Subscript) → IsSeen (seen.Alike form hull) other → is_parted step other (Some q) ≡ true
near_parted step form hull q e ends matches moderate near None none = absurd none
near_parted step form hull q e ends matches moderate near (Some p) (first, (e', ends', held)) =
    let same = matching p.form form.now first in
    let strides : stride step form.now ≡ stride step p.form = ap (λ v. unsigned_abs v * step) (sym same.0) in
    passes_first step p q (match_both p.form q.form form.now first matches)
    (ap (λ v. nat_le 1 (unsigned_abs v) && nat_le (unsigned_abs v) 65536) same.0 ∙ moderate)
    (near_apart step p q e' e ends' ends (subst (AreNear e' e) strides (near e' held)))

-- so it depends on none
pub parted_free : (step : ℕ) (q : Access) (known : Known) → ((other : Option Subscript) → IsSeen known.all other → is_parted step other q.subscript ≡ true) → (p : Access) → IsSeenIn known p → may_depend step q p ≡ false
parted_free step q known parts p is = ap (λ b. (p.at.array == q.at.array) && ((p.at.write || q.at.write) && not b)) (parts p.subscript is.all) ∙ none (p.at.array == q.at.array) (p.at.write || q.at.write)
  where
    none : (a b : Bool) → (a && (b && not true)) ≡ false
    none true true = refl
    none true false = refl
    none false b = refl

pub read_free : (step : ℕ) (q : Access) (known : Known) → q.at.write ≡ false → ((other : Option Subscript) → IsSeen known.writes other → is_parted step other q.subscript ≡ true) → (p : Access) → IsSeenIn known p → may_depend step q p ≡ false
read_free step q known reads parts p is = ap (λ b. (p.at.array == q.at.array) && ((p.at.write || b) && not (is_parted step p.subscript q.subscript))) reads ∙ by p.at.write refl
  where
    second : (a : Bool) → (a && false) ≡ false
    second true = refl
    second false = refl

    third : (a b : Bool) → (a && (b && not true)) ≡ false
    third true true = refl
    third true false = refl
    third false b = refl

    by : (b : Bool) → p.at.write ≡ b → ((p.at.array == q.at.array) && ((p.at.write || false) && not (is_parted step p.subscript q.subscript))) ≡ false
    by true is' = ap (λ b. (p.at.array == q.at.array) && ((p.at.write || false) && not b)) (parts p.subscript (is.writes is')) ∙ third (p.at.array == q.at.array) (p.at.write || false)
    by false is' = ap (λ b. (p.at.array == q.at.array) && ((b || false) && not (is_parted step p.subscript q.subscript))) is' ∙ second (p.at.array == q.at.array)

-- what was kept of another subscript stays, where the hull grows
pub alike_kept : (form : Bor Form) (hull wider : Hull) → ((e : Ends) → Holds hull e → Holds wider e) → (other : Option Subscript) → IsSeen (seen.Alike form hull) other → IsSeen (seen.Alike form wider) other
alike_kept form hull wider grows None none = none
alike_kept form hull wider grows (Some s) (matches, (e, ends, held)) = (matches, (e, ends, grows e held))
