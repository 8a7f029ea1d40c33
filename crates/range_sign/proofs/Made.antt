-- A signature that was made has a flag for each word in both sets, and the place where each array starts.
use Rattle.std.proofs.Common.{◌≡◌, ℕ, ◌<◌, ◌≤◌, Bool, false, List, length, take, sum, get_or, replicate, ap, sym, subst, ◌∙◌}
use Rattle.std.proofs.lemmas.List.{length-replicate}
use Rattle.std.proofs.Math.Seq.{take-length}
use Rattle.word_store.specs.Memory.{most_words}
use Rattle.range_sign.specs.Exact.{IsLaidOut}

pub laid_out : (sizes starts : List ℕ) (reads writes : List Bool) (count index : ℕ) → index ≡ length sizes → length sizes ≤ most_words → sum sizes ≤ most_words → count ≡ sum (take index sizes) → length starts ≡ index → ((array : ℕ) → array < index → get_or starts array 0 ≡ sum (take array sizes)) → reads ≡ replicate count false → writes ≡ replicate count false → IsLaidOut (record { sizes = sizes; reads = reads; writes = writes }) starts
laid_out sizes starts reads writes count index whole few few_words total as_many start_of no_reads no_writes =
    let words : count ≡ sum sizes = total ∙ ap (λ n. sum (take n sizes)) whole ∙ ap sum (take-length sizes) in
    record {
      few = few;
      few_words = few_words;
      reads_for_each = ap length no_reads ∙ length-replicate count false ∙ words;
      writes_for_each = ap length no_writes ∙ length-replicate count false ∙ words;
      start_for_each = as_many ∙ whole;
      start_of = λ array below. start_of array (subst (λ n. array < n) (sym whole) below);
    }
