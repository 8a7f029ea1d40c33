-- What a tree makes, in one list and then another, and against its turn in textual order.
use Rattle.std.proofs.Common.{◌≡◌, ℕ, ℤ, List, [], ◌∷◌, ◌++◌, refl, sym, ap, ◌∙◌, subst}
use Rattle.nest_syntax.specs.Arrays.{word_at, with_word}
use Rattle.nest_syntax.specs.Reads.{Ended, Completed, Stopped}
use Rattle.settle_law.specs.Trees.{Tree, Finished, Trapped, Load, Store, turn}
use Rattle.settle_law.specs.Traces.{Access, Read, Write, iteration, Each, settle, Replays, Makes}
use Rattle.settle_law.specs.Law.{accesses}

-- what is left of a tree behind a list is one tree
pub makes_same : (tree : Tree) (made : List Access) (rest other : Tree) → Makes tree made rest → Makes tree made other → rest ≡ other
makes_same tree [] rest other m n = sym m ∙ n
makes_same Finished (a ∷ made) rest other m n = elim m [ ]
makes_same (Trapped cause line) (a ∷ made) rest other m n = elim m [ ]
makes_same (Load w go) (Read k u value ∷ made) rest other m n = makes_same (go value) made rest other m.1 n.1
makes_same (Load w go) (Write k u value ∷ made) rest other m n = elim m [ ]
makes_same (Store w new tree) (Read k u value ∷ made) rest other m n = elim m [ ]
makes_same (Store w new tree) (Write k u value ∷ made) rest other m n = makes_same tree made rest other m.2 n.2

pub makes_append : (tree : Tree) (made others : List Access) (middle rest : Tree) → Makes tree made middle → Makes middle others rest → Makes tree (made ++ others) rest
makes_append tree [] others middle rest m n = subst (λ t. Makes t others rest) (sym m) n
makes_append Finished (a ∷ made) others middle rest m n = elim m [ ]
makes_append (Trapped cause line) (a ∷ made) others middle rest m n = elim m [ ]
makes_append (Load w go) (Read k u value ∷ made) others middle rest m n = (m.0, makes_append (go value) made others middle rest m.1 n)
makes_append (Load w go) (Write k u value ∷ made) others middle rest m n = elim m [ ]
makes_append (Store w new tree) (Read k u value ∷ made) others middle rest m n = elim m [ ]
makes_append (Store w new tree) (Write k u value ∷ made) others middle rest m n = (m.0, m.1, makes_append tree made others middle rest m.2 n)

-- the tree that is left where a turn ends
abbrev pub EndsIn : Ended → List ℤ → Tree → Type 0
EndsIn (Completed last) words rest = (rest ≡ Finished) × (last ≡ words)
EndsIn (Stopped cause line last) words rest = (rest ≡ Trapped cause line) × (last ≡ words)

-- what a turn makes in textual order, its tree makes, up to the end
pub makes_accesses : (k : ℕ) (tree : Tree) (words : List ℤ) → (rest : Tree) × Makes tree (accesses k tree words) rest × EndsIn (turn tree words) (settle words (accesses k tree words)) rest
makes_accesses k Finished words = (Finished, refl, (refl, refl))
makes_accesses k (Trapped cause line) words = (Trapped cause line, refl, (refl, refl))
makes_accesses k (Load w go) words = one_more (makes_accesses k (go (word_at words w)) words)
  where
    one_more : (rest : Tree) × Makes (go (word_at words w)) (accesses k (go (word_at words w)) words) rest × EndsIn (turn (go (word_at words w)) words) (settle words (accesses k (go (word_at words w)) words)) rest → (rest : Tree) × Makes (Load w go) (accesses k (Load w go) words) rest × EndsIn (turn (Load w go) words) (settle words (accesses k (Load w go) words)) rest
    one_more (rest, makes, ends) = (rest, (refl, makes), ends)
makes_accesses k (Store w value tree) words = one_more (makes_accesses k tree (with_word words w value))
  where
    one_more : (rest : Tree) × Makes tree (accesses k tree (with_word words w value)) rest × EndsIn (turn tree (with_word words w value)) (settle (with_word words w value) (accesses k tree (with_word words w value))) rest → (rest : Tree) × Makes (Store w value tree) (accesses k (Store w value tree) words) rest × EndsIn (turn (Store w value tree) words) (settle words (accesses k (Store w value tree) words)) rest
    one_more (rest, makes, ends) = (rest, (refl, refl, makes), ends)

-- A part that replays and is made by the tree is what the textual turn makes first.
pub agrees : (k : ℕ) (tree : Tree) (made : List Access) (rest : Tree) (words : List ℤ) → Makes tree made rest → Each (λ a. iteration a ≡ k) made → Replays words made → (accesses k tree words ≡ made ++ accesses k rest (settle words made)) × (turn tree words ≡ turn rest (settle words made))
agrees k tree [] rest words m own replays = (ap (λ t. accesses k t words) m, ap (λ t. turn t words) m)
agrees k Finished (a ∷ made) rest words m own replays = elim m [ ]
agrees k (Trapped cause line) (a ∷ made) rest words m own replays = elim m [ ]
agrees k (Load w go) (Read j u value ∷ made) rest words m own replays = one_more (agrees k (go value) made rest words m.1 own.1 replays.1)
  where
    one_more : (accesses k (go value) words ≡ made ++ accesses k rest (settle words made)) × (turn (go value) words ≡ turn rest (settle words made)) → (accesses k (Load w go) words ≡ (Read j u value ∷ made) ++ accesses k rest (settle words made)) × (turn (Load w go) words ≡ turn rest (settle words made))
    one_more (same, ends) =
        let at : w ≡ u = m.0 in
        let mine : j ≡ k = own.0 in
        let seen : word_at words w ≡ value = ap (word_at words) at ∙ replays.0 in (
          subst (λ x. Read k w x ∷ accesses k (go x) words ≡ (Read j u value ∷ made) ++ accesses k rest (settle words made)) (sym seen) (ap (λ i. Read i w value ∷ accesses k (go value) words) (sym mine) ∙ ap (λ i. Read j i value ∷ accesses k (go value) words) at ∙ ap (λ l. Read j u value ∷ l) same),
          ap (λ x. turn (go x) words) seen ∙ ends,
        )
agrees k (Load w go) (Write j u value ∷ made) rest words m own replays = elim m [ ]
agrees k (Store w new tree) (Read j u value ∷ made) rest words m own replays = elim m [ ]
agrees k (Store w new tree) (Write j u value ∷ made) rest words m own replays = one_more (agrees k tree made rest (with_word words u value) m.2 own.1 replays.1)
  where
    one_more : (accesses k tree (with_word words u value) ≡ made ++ accesses k rest (settle (with_word words u value) made)) × (turn tree (with_word words u value) ≡ turn rest (settle (with_word words u value) made)) → (accesses k (Store w new tree) words ≡ (Write j u value ∷ made) ++ accesses k rest (settle (with_word words u value) made)) × (turn (Store w new tree) words ≡ turn rest (settle (with_word words u value) made))
    one_more (same, ends) =
        let at : w ≡ u = m.0 in
        let written : new ≡ value = m.1 in
        let mine : j ≡ k = own.0 in (
          ap (λ i. Write k i new ∷ accesses k tree (with_word words i new)) at ∙ ap (λ x. Write k u x ∷ accesses k tree (with_word words u x)) written ∙ ap (λ i. Write i u value ∷ accesses k tree (with_word words u value)) (sym mine) ∙ ap (λ l. Write j u value ∷ l) same,
          ap (λ i. turn tree (with_word words i new)) at ∙ ap (λ x. turn tree (with_word words u x)) written ∙ ends,
        )
