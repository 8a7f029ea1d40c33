-- The sum of the words of a program's arrays.
use Rattle.std.specs.Prelude.{ℕ, ◌+◌, ℤ, pos, ◌+ℤ◌, List, [], ◌∷◌, ◌++◌, fold, if◌then◌else◌}
use Rattle.nest_syntax.specs.Words.{wrap}
use Rattle.nest_syntax.specs.declared.tree.Decl.{Decl}
use Rattle.nest_syntax.specs.declared.tree.Decl.TheVariants as decl
use Rattle.word_store.specs.Memory.{Memory, array_words}

-- the words of the arrays that these declarations declare and that aren't `const`; the first array has this number
abbrev pub written_words : Memory → ℕ → List Decl → List ℤ
written_words memory n [] = []
written_words memory n (decl.Array line name length fixed ∷ decls) = (if fixed then [] else array_words memory n) ++ written_words memory (n + 1) decls
written_words memory n (decl.Scalar line name value ∷ decls) = written_words memory n decls

-- a sum with further words, by the language's `+`
abbrev pub added : ℤ → List ℤ → ℤ
added total words = fold (λ (sum word : ℤ). wrap (sum +ℤ word)) total words

abbrev pub sum_of : List ℤ → ℤ
sum_of words = added (pos 0) words
