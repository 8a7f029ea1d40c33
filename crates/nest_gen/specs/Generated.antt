-- The text of a seed and a size.
use Rattle.std.specs.Prelude.{ℕ, ◌*◌, ◌%◌, pos, List, [], ◌∷◌, ◌++◌, map, take, drop, codes, decimal}
use Rattle.nest_data.specs.Text.{array_line}
use Rattle.nest_gen.specs.Draws.{draws_from}

abbrev pub line : List ℕ → List ℕ
line text = text ++ 10 ∷ []

-- a line in which the size stands
abbrev pub sized : List ℕ → ℕ → List ℕ → List ℕ
sized before size behind = before ++ decimal size ++ behind ++ 10 ∷ []

-- the nest, with this length of all arrays
abbrev pub nest_text : ℕ → List ℕ
nest_text size =
    sized (codes "long a[") size (codes "];")
    ++ sized (codes "long b[") size (codes "];")
    ++ sized (codes "const long ix[") size (codes "];")
    ++ line (codes "for (long t = 0; t < 4; t++) {")
    ++ sized (codes "  for (long i = 0; i < ") size (codes "; i++) {")
    ++ line (codes "    a[ix[i]] += b[i] + t;")
    ++ line (codes "  }")
    ++ sized (codes "  for (long i = 0; i < ") size (codes "; i++) {")
    ++ line (codes "    b[i] = b[i] ^ a[i];")
    ++ line (codes "  }")
    ++ line (codes "}")

-- Of the draws from the seed on, as many as the size give `ix`, modulo the size; as many again give `a`, and as many
-- again `b`, modulo 100.
abbrev pub generated : ℕ → ℕ → List ℕ
generated seed size =
    let draws = draws_from seed (3 * size) in
    nest_text size ++ line (codes "data")
    ++ array_line (codes "a") (map (λ draw. pos (draw % 100)) (take size (drop size draws)))
    ++ array_line (codes "b") (map (λ draw. pos (draw % 100)) (drop size (drop size draws)))
    ++ array_line (codes "ix") (map (λ draw. pos (draw % size)) (take size draws))
