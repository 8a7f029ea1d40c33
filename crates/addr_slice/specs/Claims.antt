-- Claims: which words an iteration may read and which it may write. Words are numbered from 0 over all arrays of a
-- program, in order of declaration.
use Rattle.std.specs.Prelude.{◌≡◌, ℕ, zero, suc, ◌+◌, ◌≤◌, ◌<◌, ◌↔◌, Bool, true, false, ◌&&◌, ◌||◌, IsTrue, Option, Some, None, List, [], ◌∷◌, length, replicate, slice_index_or, slice_set}
use Rattle.settle_law.specs.Claims as law

-- one claim: a word, and whether it is claimed for writing or for reading
pub record Claim : Type 0 where
  pub word : ℕ
  pub write : Bool

-- A set of claims: for each word of the program whether it is claimed for reading, and whether for writing. Both lists
-- are as long as there are words.
pub record Claimed : Type 0 where
  pub reads : List Bool
  pub writes : List Bool

abbrev pub words_of : Claimed → ℕ
words_of claims = length claims.reads

-- whether a flag is there and set
abbrev pub is_set : List Bool → ℕ → Bool
is_set flags n = slice_index_or flags n false

-- whether a word is claimed for writing (`true`), or for reading (`false`)
abbrev pub has : Claimed → ℕ → Bool → Bool
has claims word true = is_set claims.writes word
has claims word false = is_set claims.reads word

-- whether a word is claimed at all
abbrev pub is_claimed : Claimed → ℕ → Bool
is_claimed claims word = is_set claims.reads word || is_set claims.writes word

-- no claim, in a program of so many words
abbrev pub no_claims : ℕ → Claimed
no_claims words = record { reads = replicate words false; writes = replicate words false }

-- the same claims and one more
abbrev pub with_claim : Claimed → ℕ → Bool → Claimed
with_claim claims word true = record { reads = claims.reads; writes = slice_set claims.writes word true }
with_claim claims word false = record { reads = slice_set claims.reads word true; writes = claims.writes }

-- the same claims and those of so many words from the first on
abbrev pub with_stretch : Claimed → ℕ → ℕ → Bool → Claimed
with_stretch claims first zero write = claims
with_stretch claims first (suc n) write = with_claim (with_stretch claims first n write) (first + n) write

-- each word from the first to the last is claimed
abbrev pub AreClaimed : Claimed → ℕ → ℕ → Bool → Type 0
AreClaimed claims first last write = (word : ℕ) → first ≤ word → word ≤ last → has claims word write ≡ true

-- the same claims and those of a list
abbrev pub with_claims : Claimed → List Claim → Claimed
with_claims claims [] = claims
with_claims claims (more ∷ list) = with_claims (with_claim claims more.word more.write) list

-- The answer is the least number not below `from` that passes a test, and none where no such number passes.
abbrev pub IsNext : (ℕ → Bool) → ℕ → Option ℕ → Type 0
IsNext passes from None = (k : ℕ) → from ≤ k → passes k ≡ false
IsNext passes from (Some n) = (from ≤ n) × IsTrue (passes n) × ((k : ℕ) → from ≤ k → k < n → passes k ≡ false)

-- the claims of a set by the word, as the laws have them
abbrev pub by_word : Claimed → law.Claims
by_word claims = record { read = is_set claims.reads; written = is_set claims.writes }

-- two sets of claims clash
abbrev pub Clash : Claimed → Claimed → Type 0
Clash first second = law.Clash (by_word first) (by_word second)

-- The test for it: whether both claim a word, and one of them for writing, at one of the words of the first.
abbrev pub clash_at : Claimed → Claimed → ℕ → Bool
clash_at first second word = (has first word true && is_claimed second word) || (is_claimed first word && has second word true)

abbrev pub clash_below : Claimed → Claimed → ℕ → Bool
clash_below first second zero = false
clash_below first second (suc n) = clash_below first second n || clash_at first second n

abbrev pub clash : Claimed → Claimed → Bool
clash first second = clash_below first second (words_of first)

-- Whether the claims of iterations j and k clash, where each iteration has a set of claims.
unfoldable pub clashes : (ℕ → Claimed) → ℕ → ℕ → Bool
clashes claims j k = clash (claims k) (claims j)

-- both lists are as long as there are words
abbrev pub IsEven : Claimed → Type 0
IsEven claims = length claims.writes ≡ length claims.reads

-- The test tells whether two sets clash.
abbrev pub TestTellsClash : Type 0
TestTellsClash = (first second : Claimed) → IsEven first → IsTrue (clash first second) ↔ Clash first second

-- What holds of the flags that are kept: as many for reading as for writing, no more than a program has words, and a
-- third list that has both.
pub record AreEven (reads writes either : List Bool) : Type 0 where
  pub same : length writes ≡ length reads
  pub as_many : length either ≡ length reads
  pub few : length reads ≤ 1048576
  pub both : (word : ℕ) → is_set either word ≡ (is_set reads word || is_set writes word)
