-- A kind of signature, by what its trait says of it.
use Rattle.std.specs.Prelude.{ℕ, Bool, List}
use Rattle.spec_setup.specs.Signs.{Signs}

abbrev pub signs : {G : Type 0} → Bool → (G → ℕ → ℕ → Bool → Bool) → (List ℕ → G) → (G → ℕ → ℕ → Bool → G) → Signs G
signs exact holds nothing with_note = record { exact = exact; holds = holds; nothing = nothing; with_note = with_note }
