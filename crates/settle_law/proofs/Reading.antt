-- A turn on a list of reads against what its plain tree makes.
use Rattle.std.proofs.Common.{◌≡◌, ℕ, ℤ, pos, Bool, true, false, if◌then◌else◌, Option, List, [], ◌∷◌, ◌++◌, map, refl, sym, ap, ◌∙◌, subst, inl, inr}
use Rattle.std.specs.Option.{option_map_or}
use Rattle.nest_syntax.specs.Arrays.{Array, sizes_of, is_fixed, word_at}
use Rattle.nest_syntax.specs.Turn.{Turn, Finished, Trapped, Load, Store, Op, Go}
use Rattle.nest_syntax.specs.Reads.{Reading, Traps, More, on_reads, with_access}
use Rattle.nest_syntax.specs.Reads as reads
use Rattle.settle_law.specs.Trees.{Tree}
use Rattle.settle_law.specs.Trees as tree
use Rattle.settle_law.specs.Cuts.{cut, plain, is_full, one_more, CanBeRead}
use Rattle.settle_law.specs.Traces.{Access, Read, Write, Each, Conflict, Makes, Apart}
use Rattle.settle_law.specs.Reading.{number_in, bare, of_iteration, values_read, TellsFixed, told, LeftAt, ReadsAreMade, MadeAsRead, MadeIsRead, ReadsApart, ReadsApartAreApart, ReadsWithin, ReadsWithinAreWithin}
use Rattle.settle_law.specs.Claims.{Claims, Within, Covers}
use Rattle.settle_law.proofs.Claims.{covered}
use Rattle.settle_law.proofs.Members.{Has, each_at, each_of}
use Rattle.settle_law.proofs.Turns.{plain_pausing}

-- from reads to what is made
module _ (arrays : List Array) (fixed : ℕ → Option ℤ) (words : List ℤ) (k : ℕ) where
  abbrev pub MadeBy : Tree → Reading → Type 0
  MadeBy t reading = (rest : Tree) × LeftAt reading.stop rest × Makes t (map (of_iteration k) reading.accesses) rest

  made_with_read : (w : ℕ) (value : ℤ) (f : ℤ → Tree) (reading : Reading) → MadeBy (f value) reading → MadeBy (tree.Load w f) (with_access (reads.Read w value) reading)
  made_with_read w value f reading (rest, left, makes) = (rest, left, (refl, makes))

  made_with_write : (w : ℕ) (value : ℤ) (t : Tree) (reading : Reading) → MadeBy t reading → MadeBy (tree.Store w value t) (with_access (reads.Write w value) reading)
  made_with_write w value t reading (rest, left, makes) = (rest, left, (refl, refl, makes))

  made_told : (b : Bool) (o : Option ℤ) (x : ℤ) (w : ℕ) (f : ℤ → Tree) (known unknown : Reading) → o ≡ told b x → ((value : ℤ) → CanBeRead o value → value ≡ x → MadeBy (f value) known) → (((value : ℤ) → CanBeRead o value) → MadeBy (tree.Load w f) unknown) → MadeBy (option_map_or f o (tree.Load w f)) (if b then known else unknown)
  made_told true o x w f known unknown is first second = subst (λ p. MadeBy (option_map_or f p (tree.Load w f)) known) (sym is) (first x (subst (λ p. CanBeRead p x) (sym is) refl) refl)
  made_told false o x w f known unknown is first second = subst (λ p. MadeBy (option_map_or f p (tree.Load w f)) unknown) (sym is) (second (λ value. subst (λ p. CanBeRead p value) (sym is) tt))

  made_by : (n : ℕ) (t : Turn) (read : List ℤ) → TellsFixed arrays fixed words t → MadeBy (plain fixed (cut (sizes_of arrays) n t)) (on_reads arrays words t read)
  made_by n Finished read tells = (tree.Finished, refl, refl)
  made_by n (Trapped cause line) read tells = (tree.Trapped cause line, refl, refl)
  made_by n (Load array place go) [] tells = made_told (is_fixed arrays array) (fixed (number_in arrays array place)) (word_at words (number_in arrays array place)) (number_in arrays array place) (λ x. plain fixed (cut (sizes_of arrays) 0 (go x)))
      (on_reads arrays words (go (word_at words (number_in arrays array place))) []) (record { accesses = []; stop = More }) tells.0
      (λ value can same. subst (λ x. MadeBy (plain fixed (cut (sizes_of arrays) 0 (go value))) (on_reads arrays words (go x) [])) same (made_by 0 (go value) [] (tells.1 value can)))
      (λ can. (tree.Load (number_in arrays array place) (λ x. plain fixed (cut (sizes_of arrays) 0 (go x))), (number_in arrays array place, (λ x. plain fixed (cut (sizes_of arrays) 0 (go x))), refl), refl))
  made_by n (Load array place go) (value ∷ read) tells = made_told (is_fixed arrays array) (fixed (number_in arrays array place)) (word_at words (number_in arrays array place)) (number_in arrays array place) (λ x. plain fixed (cut (sizes_of arrays) 0 (go x)))
      (on_reads arrays words (go (word_at words (number_in arrays array place))) (value ∷ read)) (with_access (reads.Read (number_in arrays array place) value) (on_reads arrays words (go value) read)) tells.0
      (λ old can same. subst (λ x. MadeBy (plain fixed (cut (sizes_of arrays) 0 (go old))) (on_reads arrays words (go x) (value ∷ read))) same (made_by 0 (go old) (value ∷ read) (tells.1 old can)))
      (λ can. made_with_read (number_in arrays array place) value (λ x. plain fixed (cut (sizes_of arrays) 0 (go x))) (on_reads arrays words (go value) read) (made_by 0 (go value) read (tells.1 value (can value))))
  made_by n (Store array place value rest) read tells = made_with_write (number_in arrays array place) value (plain fixed (cut (sizes_of arrays) 0 rest)) (on_reads arrays words rest read) (made_by 0 rest read tells.1)
  made_by n (Op rest) read tells = subst (λ t. MadeBy t (on_reads arrays words rest read)) (sym (plain_pausing fixed (is_full n) (cut (sizes_of arrays) (one_more n) rest))) (made_by (one_more n) rest read tells)
  made_by n (Go rest) read tells = made_by 0 rest read tells

pub reads_are_made : ReadsAreMade
reads_are_made arrays fixed words t k read tells = made_by arrays fixed words k 0 t read tells

-- from what is made to reads
read_more : (a : Access) (access : reads.Access) (made : List Access) (rest : Tree) (reading : Reading) → bare a ≡ access → MadeAsRead rest made reading → MadeAsRead rest (a ∷ made) (with_access access reading)
read_more a access made rest reading same as_read = record {
  prefix = (as_read.prefix.0, ap (λ x. x ∷ (map bare made ++ as_read.prefix.0)) same ∙ ap (λ l. access ∷ l) as_read.prefix.1);
  finished = λ is. (ap (λ x. x ∷ map bare made) same ∙ ap (λ l. access ∷ l) (as_read.finished is).0, (as_read.finished is).1);
  trapped = λ cause line is. (ap (λ x. x ∷ map bare made) same ∙ ap (λ l. access ∷ l) (as_read.trapped cause line is).0, (as_read.trapped cause line is).1);
}

-- nothing made of a tree that goes on
at_load : (w : ℕ) (f : ℤ → Tree) (rest : Tree) (reading : Reading) → tree.Load w f ≡ rest → MadeAsRead rest [] reading
at_load w f rest reading at = record {
  prefix = (reading.accesses, refl);
  finished = λ is. absurd (let no : tree.Load w f ≡ tree.Finished = at ∙ is in cc);
  trapped = λ cause line is. absurd (let no : tree.Load w f ≡ tree.Trapped cause line = at ∙ is in cc);
}

at_store : (w : ℕ) (value : ℤ) (t rest : Tree) (reading : Reading) → tree.Store w value t ≡ rest → MadeAsRead rest [] reading
at_store w value t rest reading at = record {
  prefix = (reading.accesses, refl);
  finished = λ is. absurd (let no : tree.Store w value t ≡ tree.Finished = at ∙ is in cc);
  trapped = λ cause line is. absurd (let no : tree.Store w value t ≡ tree.Trapped cause line = at ∙ is in cc);
}

module _ (arrays : List Array) (fixed : ℕ → Option ℤ) (words : List ℤ) where
  -- the turn behind a read of a written array
  abbrev unknown : ℕ → (ℤ → Turn) → List ℤ → Reading
  unknown w go [] = record { accesses = []; stop = More }
  unknown w go (value ∷ read) = with_access (reads.Read w value) (on_reads arrays words (go value) read)

  on_load : (array place : ℕ) (go : ℤ → Turn) (read : List ℤ) → on_reads arrays words (Load array place go) read ≡ (if is_fixed arrays array then on_reads arrays words (go (word_at words (number_in arrays array place))) read else unknown (number_in arrays array place) go read)
  on_load array place go [] = refl
  on_load array place go (value ∷ read) = refl

  -- a read of a written array, in the trace or not
  read_unknown : (w : ℕ) (go : ℤ → Turn) (f : ℤ → Tree) (made : List Access) (rest : Tree) → ((value : ℤ) (others : List Access) → Makes (f value) others rest → MadeAsRead rest others (on_reads arrays words (go value) (values_read others))) → Makes (tree.Load w f) made rest → MadeAsRead rest made (unknown w go (values_read made))
  read_unknown w go f [] rest more m = at_load w f rest _ m
  read_unknown w go f (Read j u value ∷ made) rest more m = read_more (Read j u value) (reads.Read w value) made rest (on_reads arrays words (go value) (values_read made)) (ap (λ x. reads.Read x value) (sym m.0)) (more value made m.1)
  read_unknown w go f (Write j u value ∷ made) rest more m = elim m [ ]

  read_told : (b : Bool) (o : Option ℤ) (x : ℤ) (w : ℕ) (go : ℤ → Turn) (f : ℤ → Tree) (made : List Access) (rest : Tree) → o ≡ told b x → ((value : ℤ) → CanBeRead o value → (others : List Access) → Makes (f value) others rest → MadeAsRead rest others (on_reads arrays words (go value) (values_read others))) → Makes (option_map_or f o (tree.Load w f)) made rest → MadeAsRead rest made (if b then on_reads arrays words (go x) (values_read made) else unknown w go (values_read made))
  read_told true o x w go f made rest is more m = more x (subst (λ p. CanBeRead p x) (sym is) refl) made (subst (λ p. Makes (option_map_or f p (tree.Load w f)) made rest) is m)
  read_told false o x w go f made rest is more m = read_unknown w go f made rest (λ value. more value (subst (λ p. CanBeRead p value) (sym is) tt)) (subst (λ p. Makes (option_map_or f p (tree.Load w f)) made rest) is m)

  read_written : (w : ℕ) (value : ℤ) (behind : Turn) (t : Tree) (made : List Access) (rest : Tree) → ((others : List Access) → Makes t others rest → MadeAsRead rest others (on_reads arrays words behind (values_read others))) → Makes (tree.Store w value t) made rest → MadeAsRead rest made (with_access (reads.Write w value) (on_reads arrays words behind (values_read made)))
  read_written w value behind t [] rest more m = at_store w value t rest _ m
  read_written w value behind t (Read j u old ∷ made) rest more m = elim m [ ]
  read_written w value behind t (Write j u old ∷ made) rest more m = read_more (Write j u old) (reads.Write w value) made rest (on_reads arrays words behind (values_read made)) (ap (λ x. reads.Write x old) (sym m.0) ∙ ap (reads.Write w) (sym m.1)) (more made m.2)

  pub read_as : (n : ℕ) (t : Turn) (made : List Access) (rest : Tree) → TellsFixed arrays fixed words t → Makes (plain fixed (cut (sizes_of arrays) n t)) made rest → MadeAsRead rest made (on_reads arrays words t (values_read made))
  read_as n Finished [] rest tells m = record {
    prefix = ([], refl);
    finished = λ is. (refl, refl);
    trapped = λ cause line is. absurd (let no : tree.Finished ≡ tree.Trapped cause line = m ∙ is in cc);
  }
  read_as n Finished (a ∷ made) rest tells m = elim m [ ]
  read_as n (Trapped why place) [] rest tells m = record {
    prefix = ([], refl);
    finished = λ is. absurd (let no : tree.Trapped why place ≡ tree.Finished = m ∙ is in cc);
    trapped = λ cause line is. (refl, let same : tree.Trapped why place ≡ tree.Trapped cause line = m ∙ is in let whys : why ≡ cause = cc in let places : place ≡ line = cc in ap (λ x. Traps x place) whys ∙ ap (Traps cause) places);
  }
  read_as n (Trapped why place) (a ∷ made) rest tells m = elim m [ ]
  read_as n (Load array place go) made rest tells m = subst (MadeAsRead rest made) (sym (on_load array place go (values_read made))) (read_told (is_fixed arrays array) (fixed (number_in arrays array place)) (word_at words (number_in arrays array place)) (number_in arrays array place) go (λ x. plain fixed (cut (sizes_of arrays) 0 (go x))) made rest tells.0 (λ value can others makes. read_as 0 (go value) others rest (tells.1 value can) makes) m)
  read_as n (Store array place value behind) made rest tells m = read_written (number_in arrays array place) value behind (plain fixed (cut (sizes_of arrays) 0 behind)) made rest (λ others makes. read_as 0 behind others rest tells.1 makes) m
  read_as n (Op behind) made rest tells m = read_as (one_more n) behind made rest tells (subst (λ t. Makes t made rest) (plain_pausing fixed (is_full n) (cut (sizes_of arrays) (one_more n) behind)) m)
  read_as n (Go behind) made rest tells m = read_as 0 behind made rest tells m

pub made_is_read : MadeIsRead
made_is_read arrays fixed words t made rest tells m = read_as arrays fixed words 0 t made rest tells m

-- turns that are apart on all lists of reads
bare_conflict : (i j : ℕ) (a b : Access) → Conflict a b → Conflict (of_iteration i (bare a)) (of_iteration j (bare b))
bare_conflict i j (Read k w value) (Read l u other) c = c
bare_conflict i j (Read k w value) (Write l u other) c = c
bare_conflict i j (Write k w value) (Read l u other) c = c
bare_conflict i j (Write k w value) (Write l u other) c = c

has_bare : (i : ℕ) (made : List Access) (others : List reads.Access) (a : Access) → Has a made → Has (of_iteration i (bare a)) (map (of_iteration i) (map bare made ++ others))
has_bare i [] others a has = elim has [ ]
has_bare i (b ∷ made) others a (inl same) = inl (ap (λ x. of_iteration i (bare x)) same)
has_bare i (b ∷ made) others a (inr later) = inr (has_bare i made others a later)

pub apart-from_reads : (arrays : List Array) (fixed : ℕ → Option ℤ) (words : List ℤ) (t other : Turn) → TellsFixed arrays fixed words t → TellsFixed arrays fixed words other → ReadsApart arrays words t other → Apart (plain fixed (cut (sizes_of arrays) 0 t)) (plain fixed (cut (sizes_of arrays) 0 other))
apart-from_reads arrays fixed words t other tells tells_too free made others (rest, makes) (rest_too, makes_too) = each_of (λ a. Each (λ b. Conflict a b → ⊥) others) made (λ a has_a. each_of (λ b. Conflict a b → ⊥) others (λ b has_b c.
    let mine : MadeAsRead rest made (on_reads arrays words t (values_read made)) = read_as arrays fixed words 0 t made rest tells makes in
    let theirs : MadeAsRead rest_too others (on_reads arrays words other (values_read others)) = read_as arrays fixed words 0 other others rest_too tells_too makes_too in
    let there : Has (of_iteration 0 (bare a)) (map (of_iteration 0) (on_reads arrays words t (values_read made)).accesses) = subst (λ l. Has (of_iteration 0 (bare a)) (map (of_iteration 0) l)) mine.prefix.1 (has_bare 0 made mine.prefix.0 a has_a) in
    let there_too : Has (of_iteration 1 (bare b)) (map (of_iteration 1) (on_reads arrays words other (values_read others)).accesses) = subst (λ l. Has (of_iteration 1 (bare b)) (map (of_iteration 1) l)) theirs.prefix.1 (has_bare 1 others theirs.prefix.0 b has_b) in
    let none : Each (λ y. Conflict (of_iteration 0 (bare a)) y → ⊥) (map (of_iteration 1) (on_reads arrays words other (values_read others)).accesses) = each_at (λ x. Each (λ y. Conflict x y → ⊥) (map (of_iteration 1) (on_reads arrays words other (values_read others)).accesses)) _ _ (free (values_read made) (values_read others)) there in
    each_at (λ y. Conflict (of_iteration 0 (bare a)) y → ⊥) _ _ none there_too (bare_conflict 0 1 a b c)))

pub reads-from_apart : (arrays : List Array) (fixed : ℕ → Option ℤ) (words : List ℤ) (t other : Turn) → TellsFixed arrays fixed words t → TellsFixed arrays fixed words other → Apart (plain fixed (cut (sizes_of arrays) 0 t)) (plain fixed (cut (sizes_of arrays) 0 other)) → ReadsApart arrays words t other
reads-from_apart arrays fixed words t other tells tells_too apart read others =
    let mine : MadeBy arrays fixed words 0 (plain fixed (cut (sizes_of arrays) 0 t)) (on_reads arrays words t read) = made_by arrays fixed words 0 0 t read tells in
    let theirs : MadeBy arrays fixed words 1 (plain fixed (cut (sizes_of arrays) 0 other)) (on_reads arrays words other others) = made_by arrays fixed words 1 0 other others tells_too in
    apart _ _ (mine.0, mine.2) (theirs.0, theirs.2)

pub apart_reads : ReadsApartAreApart
apart_reads arrays fixed words t other tells tells_too = (apart-from_reads arrays fixed words t other tells tells_too, reads-from_apart arrays fixed words t other tells tells_too)

-- claims
pub reads-from_within : (arrays : List Array) (fixed : ℕ → Option ℤ) (words : List ℤ) (claims : Claims) (t : Turn) → TellsFixed arrays fixed words t → Within claims (plain fixed (cut (sizes_of arrays) 0 t)) → ReadsWithin arrays words claims t
reads-from_within arrays fixed words claims t tells within read =
    let mine : MadeBy arrays fixed words 0 (plain fixed (cut (sizes_of arrays) 0 t)) (on_reads arrays words t read) = made_by arrays fixed words 0 0 t read tells in
    covered claims _ _ mine.0 within mine.2

module _ (arrays : List Array) (fixed : ℕ → Option ℤ) (words : List ℤ) (claims : Claims) where
  within_told : (b : Bool) (o : Option ℤ) (x : ℤ) (w : ℕ) (go : ℤ → Turn) (f : ℤ → Tree) → o ≡ told b x → ((value : ℤ) → CanBeRead o value → ReadsWithin arrays words claims (go value) → Within claims (f value)) → ((read : List ℤ) → Each (Covers claims) (map (of_iteration 0) (if b then on_reads arrays words (go x) read else unknown arrays fixed words w go read).accesses)) → Within claims (option_map_or f o (tree.Load w f))
  within_told true o x w go f is more covers = subst (λ p. Within claims (option_map_or f p (tree.Load w f))) (sym is) (more x (subst (λ p. CanBeRead p x) (sym is) refl) covers)
  within_told false o x w go f is more covers = subst (λ p. Within claims (option_map_or f p (tree.Load w f))) (sym is) ((covers (pos 0 ∷ [])).0, λ value. more value (subst (λ p. CanBeRead p value) (sym is) tt) (λ read. (covers (value ∷ read)).1))

  within_reads : (n : ℕ) (t : Turn) → TellsFixed arrays fixed words t → ReadsWithin arrays words claims t → Within claims (plain fixed (cut (sizes_of arrays) n t))
  within_reads n Finished tells covers = tt
  within_reads n (Trapped cause line) tells covers = tt
  within_reads n (Load array place go) tells covers = within_told (is_fixed arrays array) (fixed (number_in arrays array place)) (word_at words (number_in arrays array place)) (number_in arrays array place) go (λ x. plain fixed (cut (sizes_of arrays) 0 (go x))) tells.0 (λ value can more. within_reads 0 (go value) (tells.1 value can) more) (λ read. subst (λ (r : Reading). Each (Covers claims) (map (of_iteration 0) r.accesses)) (on_load arrays fixed words array place go read) (covers read))
  within_reads n (Store array place value rest) tells covers = ((covers []).0, within_reads 0 rest tells.1 (λ read. (covers read).1))
  within_reads n (Op rest) tells covers = subst (Within claims) (sym (plain_pausing fixed (is_full n) (cut (sizes_of arrays) (one_more n) rest))) (within_reads (one_more n) rest tells covers)
  within_reads n (Go rest) tells covers = within_reads 0 rest tells covers

pub within : ReadsWithinAreWithin
within arrays fixed words claims t tells = (within_reads arrays fixed words claims 0 t tells, reads-from_within arrays fixed words claims t tells)
