use Rattle.std.proofs.Common.{ap, ◌∙◌, List, ℕ, ◌++◌, codes}
use Rattle.nest_gen.specs.Generated.{line, sized}
use Rattle.nest_gen.proofs.text.nest_text.Goals as goal

pub returns : goal.returns
returns c =
    let n : ℕ = c.args.size in
    let lengths =
    c.in_ok-add_sized-3.ensures ∙ ap (λ (t : List ℕ). t ++ sized (codes "const long ix[") n (codes "];"))
    (c.in_ok-add_sized-2.ensures ∙ ap (λ (t : List ℕ). t ++ sized (codes "long b[") n (codes "];"))
    (c.in_ok-add_sized.ensures ∙ ap (λ (t : List ℕ). t ++ sized (codes "long a[") n (codes "];")) c.new-text.ensures.items)) in
    let first =
    c.in_ok-extend_from_slice-3.ensures.items ∙ ap (λ (t : List ℕ). t ++ line (codes "  }"))
    (c.in_ok-extend_from_slice-2.ensures.items ∙ ap (λ (t : List ℕ). t ++ line (codes "    a[ix[i]] += b[i] + t;"))
    (c.in_ok-add_sized-4.ensures ∙ ap (λ (t : List ℕ). t ++ sized (codes "  for (long i = 0; i < ") n (codes "; i++) {"))
    (c.in_ok-extend_from_slice.ensures.items ∙ ap (λ (t : List ℕ). t ++ line (codes "for (long t = 0; t < 4; t++) {")) lengths))) in
    c.in_ok-extend_from_slice-6.ensures.items ∙ ap (λ (t : List ℕ). t ++ line (codes "}"))
    (c.in_ok-extend_from_slice-5.ensures.items ∙ ap (λ (t : List ℕ). t ++ line (codes "  }"))
    (c.in_ok-extend_from_slice-4.ensures.items ∙ ap (λ (t : List ℕ). t ++ line (codes "    b[i] = b[i] ^ a[i];"))
    (c.in_ok-add_sized-5.ensures ∙ ap (λ (t : List ℕ). t ++ sized (codes "  for (long i = 0; i < ") n (codes "; i++) {")) first)))
