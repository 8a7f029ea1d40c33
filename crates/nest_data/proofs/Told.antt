-- An outcome, told of equal names, arrays and words.
use Rattle.std.proofs.Common.{◌≡◌, ℕ, Result, List, ap, ◌∙◌, subst}
use Rattle.word_store.specs.Memory.{Memory}
use Rattle.nest_data.specs.Data.{Read, outcome, Tells}
use Rattle.nest_data.specs.declared.refused.DataKind.{DataKind}
use Rattle.nest_data.specs.declared.refused.DataRefused.{DataRefused}

pub told : (names names' : List (List ℕ)) (arrays arrays' : List ℕ) (read read' : Read) (line : ℕ) (lines : List (List ℕ)) (result : Result Memory DataRefused)
    → names ≡ names' → arrays ≡ arrays' → read ≡ read' → Tells (outcome names arrays read line lines) result → Tells (outcome names' arrays' read' line lines) result
told names names' arrays arrays' read read' line lines result n a r tells =
    subst (λ (o : Result Memory (DataKind × ℕ)). Tells o result)
    (ap (λ (ns : List (List ℕ)). outcome ns arrays read line lines) n
    ∙ ap (λ (ms : List ℕ). outcome names' ms read line lines) a
    ∙ ap (λ (first : Read). outcome names' arrays' first line lines) r)
    tells
