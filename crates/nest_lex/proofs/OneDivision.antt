-- An input has its parts in one way.
use Rattle.std.proofs.Common.{◌≡◌, ℕ, ◌+◌, ◌<◌, ◌≤◌, List, length, slice_range, Some, None, refl, sym, subst, inl, inr, arith}
use Rattle.std.proofs.lemmas.Bool.{cases_lt}
use Rattle.nest_lex.specs.Parts.{Says, IsMarkerLine, NoneBetween, IsParts, behind, marker_text, nest_alone, with_steps, with_data, with_both}
use Rattle.nest_lex.specs.Spots.{spot_of}
use Rattle.nest_lex.specs.declared.input.Marker.{Marker}
use Rattle.nest_lex.specs.declared.input.Marker.TheVariants as marker
use Rattle.nest_lex.specs.declared.input.Parts.{Parts}
use Rattle.nest_lex.proofs.Dividing.{some_said, not_both}
use Rattle.nest_lex.proofs.OneReading.{one_line_end}

-- a marker's line begins before the end
begins_within : (text : List ℕ) (m : Marker) (start stop : ℕ) → IsMarkerLine text m start stop → start < length text
begins_within text m start stop line = let some = some_said text m start stop line in omega (arith, line.ends.within)

none_here : (text : List ℕ) (m : Marker) (from start stop : ℕ) → NoneBetween text m from (length text) → from ≤ start → IsMarkerLine text m start stop → ⊥
none_here text m from start stop none after line = none start stop after (begins_within text m start stop line) line

-- the first line that says a marker is one line
same_start : (text : List ℕ) (m : Marker) (from s s' e e' : ℕ) → from ≤ s → NoneBetween text m from s → IsMarkerLine text m s e
    → from ≤ s' → NoneBetween text m from s' → IsMarkerLine text m s' e' → s ≡ s'
same_start text m from s s' e e' after none line after' none' line' = elim (cases_lt s s') [
  | inl less ↦ absurd (none' s e after less line)
  | inr least ↦ elim (cases_lt s' s) [
    | inl more ↦ absurd (none s' e' after' more line')
    | inr most ↦ omega arith
  ]
]

same_stop : (text : List ℕ) (m m' : Marker) (s s' e e' : ℕ) → s ≡ s' → IsMarkerLine text m s e → IsMarkerLine text m' s' e' → e ≡ e'
same_stop text m m' s s' e e' same line line' =
    one_line_end text s e e' line.ends (subst (λ (n : ℕ). IsMarkerLine text m' n e') (sym same) line').ends

-- the first line of all says one marker
one_marker : (text : List ℕ) (s s' e e' : ℕ) → NoneBetween text marker.Data 0 s → IsMarkerLine text marker.Steps s e → NoneBetween text marker.Steps 0 s' → IsMarkerLine text marker.Data s' e' → ⊥
one_marker text s s' e e' no_data steps no_steps data_line = elim (cases_lt s s') [
  | inl less ↦ no_steps s e (omega arith) less steps
  | inr least ↦ elim (cases_lt s' s) [
    | inl more ↦ no_data s' e' (omega arith) more data_line
    | inr most ↦
        let same : s' ≡ s = omega arith in
        let stop : e' ≡ e = same_stop text marker.Data marker.Steps s' s e' e same data_line steps in
        let here : IsMarkerLine text marker.Data s e' = subst (λ (n : ℕ). IsMarkerLine text marker.Data n e') same data_line in
        not_both (slice_range text s e) (subst (λ (n : ℕ). Says (slice_range text s n) (marker_text marker.Data)) stop here.says) steps.says
  ]
]

pub one_division : (text : List ℕ) (p q : Parts) → IsParts text p → IsParts text q → p ≡ q
one_division text p q (nest_alone a b) (nest_alone c d) = refl
one_division text p q (nest_alone a b) (with_steps s e c d line) = absurd (none_here text marker.Steps 0 s e b (omega arith) line)
one_division text p q (nest_alone a b) (with_data s e c d line f) = absurd (none_here text marker.Data 0 s e a (omega arith) line)
one_division text p q (nest_alone a b) (with_both s e l n c d line f g last) = absurd (none_here text marker.Data 0 s e a (omega arith) line)
one_division text p q (with_steps s e a b line) (nest_alone c d) = absurd (none_here text marker.Steps 0 s e d (omega arith) line)
one_division text p q (with_steps s e a b line) (with_steps s' e' a' b' line') =
    let start : s ≡ s' = same_start text marker.Steps 0 s s' e e' (omega arith) b line (omega arith) b' line' in
    let stop : e ≡ e' = same_stop text marker.Steps marker.Steps s s' e e' start line line' in
    λ i. record { nest_end = start i; values = None; data_line = 0; steps = Some (behind text (stop i)) }
one_division text p q (with_steps s e a b line) (with_data s' e' a' b' line' f) = absurd (one_marker text s s' e e' a line b' line')
one_division text p q (with_steps s e a b line) (with_both s' e' l n a' b' line' f g last) = absurd (one_marker text s s' e e' a line b' line')
one_division text p q (with_data s e a b line f) (nest_alone c d) = absurd (none_here text marker.Data 0 s e c (omega arith) line)
one_division text p q (with_data s e a b line f) (with_steps s' e' a' b' line') = absurd (one_marker text s' s e' e a' line' b line)
one_division text p q (with_data s e a b line f) (with_data s' e' a' b' line' f') =
    let start : s ≡ s' = same_start text marker.Data 0 s s' e e' (omega arith) a line (omega arith) a' line' in
    let stop : e ≡ e' = same_stop text marker.Data marker.Data s s' e e' start line line' in
    λ i. record { nest_end = start i; values = Some (behind text (stop i), length text); data_line = (spot_of text (start i)).line + 1; steps = None }
one_division text p q (with_data s e a b line f) (with_both s' e' l n a' b' line' after g last) =
    let start : s ≡ s' = same_start text marker.Data 0 s s' e e' (omega arith) a line (omega arith) a' line' in
    let stop : e ≡ e' = same_stop text marker.Data marker.Data s s' e e' start line line' in
    absurd (none_here text marker.Steps (behind text e') l n (subst (λ (k : ℕ). NoneBetween text marker.Steps (behind text k) (length text)) stop f) after last)
one_division text p q (with_both s e l n a b line after g last) (nest_alone c d) = absurd (none_here text marker.Data 0 s e c (omega arith) line)
one_division text p q (with_both s e l n a b line after g last) (with_steps s' e' a' b' line') = absurd (one_marker text s' s e' e a' line' b line)
one_division text p q (with_both s e l n a b line after g last) (with_data s' e' a' b' line' f) =
    let start : s ≡ s' = same_start text marker.Data 0 s s' e e' (omega arith) a line (omega arith) a' line' in
    let stop : e' ≡ e = sym (same_stop text marker.Data marker.Data s s' e e' start line line') in
    absurd (none_here text marker.Steps (behind text e) l n (subst (λ (k : ℕ). NoneBetween text marker.Steps (behind text k) (length text)) stop f) after last)
one_division text p q (with_both s e l n a b line after g last) (with_both s' e' l' n' a' b' line' after' g' last') =
    let start : s ≡ s' = same_start text marker.Data 0 s s' e e' (omega arith) a line (omega arith) a' line' in
    let stop : e ≡ e' = same_stop text marker.Data marker.Data s s' e e' start line line' in
    let after_e : behind text e ≤ l' = subst (λ (k : ℕ). behind text k ≤ l') (sym stop) after' in
    let none_e : NoneBetween text marker.Steps (behind text e) l' = subst (λ (k : ℕ). NoneBetween text marker.Steps (behind text k) l') (sym stop) g' in
    let last_start : l ≡ l' = same_start text marker.Steps (behind text e) l l' n n' after g last after_e none_e last' in
    let last_stop : n ≡ n' = same_stop text marker.Steps marker.Steps l l' n n' last_start last last' in
    λ i. record { nest_end = start i; values = Some (behind text (stop i), last_start i); data_line = (spot_of text (start i)).line + 1; steps = Some (behind text (last_stop i)) }
