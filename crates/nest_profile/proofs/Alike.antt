-- Lists that are alike place by place, and epochs that are alike: their tasks have the same iterations.
use Rattle.std.proofs.Common.{◌≡◌, ℕ, zero, suc, ◌+◌, ◌-◌, ◌<◌, ◌==◌, ℤ, Bool, true, false, if◌then◌else◌, Option, Some, None, IsSome, List, [], ◌∷◌, ◌++◌, length, slice_get, slice_index_or, refl, sym, ap, ◌∙◌, subst, arith}
use Rattle.std.specs.Option.{option_map_or}
use Rattle.nest_syntax.specs.declared.tree.Loop.{Loop}
use Rattle.nest_syntax.specs.declared.tree.Program.{Program}
use Rattle.settle_law.specs.Claims.{Claims}
use Rattle.settle_law.specs.Courses.{Nest, nest_of, reached}
use Rattle.dep_graph.specs.Kinds.{kind_of as loop_kind_of}
use Rattle.task_code.specs.Code.{Code}
use Rattle.task_frame.specs.declared.piece.Piece.{Piece}
use Rattle.sched_cursor.specs.Cursor.{Cursor}
use Rattle.sched_cursor.specs.Handed.{loop_of_body}
use Rattle.spec_machine.specs.Facts.{Pair, Task}
use Rattle.spec_machine.specs.Machine.{Setup, Epoch, share, epoch_at, share_of, from}
use Rattle.spec_machine.specs.Segments.{Coming, Computes, Drains, Invokes, cut_off, segments_of, opens_at, segments, with_iterations, hull, IsBlamed}
use Rattle.spec_setup.specs.Signs.{Signs}
use Rattle.spec_setup.specs.Setups.{Invoked, is_all, is_do_all, setup_of}
use Rattle.nest_profile.proofs.Rows.{share_zero}

-- lists of the same length, alike in each place
abbrev pub Both : {A : Type 0} → (A → A → Type 0) → List A → List A → Type 0
Both R [] [] = Unit {0}
Both R [] (y ∷ ys) = ⊥
Both R (x ∷ xs) [] = ⊥
Both R (x ∷ xs) (y ∷ ys) = R x y × Both R xs ys

module _ {A : Type 0} (R : A → A → Type 0) where
  both_append : (xs ys : List A) (us vs : List A) → Both R xs ys → Both R us vs → Both R (xs ++ us) (ys ++ vs)
  both_append [] [] us vs first others = others
  both_append [] (y ∷ ys) us vs first others = absurd first
  both_append (x ∷ xs) [] us vs first others = absurd first
  both_append (x ∷ xs) (y ∷ ys) us vs first others = (first.0, both_append xs ys us vs first.1 others)

  both_length : (xs ys : List A) → Both R xs ys → length xs ≡ length ys
  both_length [] [] alike = refl
  both_length [] (y ∷ ys) alike = absurd alike
  both_length (x ∷ xs) [] alike = absurd alike
  both_length (x ∷ xs) (y ∷ ys) alike = ap suc (both_length xs ys alike.1)

  both_got : (xs ys : List A) (n : ℕ) (x : A) → Both R xs ys → slice_get xs n ≡ Some x → (y : A) × (slice_get ys n ≡ Some y) × R x y
  both_got [] [] n x alike is = absurd (let none : None ≡ Some x = is in cc)
  both_got [] (y ∷ ys) n x alike is = absurd alike
  both_got (z ∷ xs) [] n x alike is = absurd alike
  both_got (z ∷ xs) (y ∷ ys) zero x alike is = (y, refl, subst (λ a. R a y) (let same : z ≡ x = cc in same) alike.0)
  both_got (z ∷ xs) (y ∷ ys) (suc n) x alike is = both_got xs ys n x alike.1 is

  both_or : (xs ys : List A) (n : ℕ) (d : A) → R d d → Both R xs ys → R (slice_index_or xs n d) (slice_index_or ys n d)
  both_or [] [] n d same alike = same
  both_or [] (y ∷ ys) n d same alike = absurd alike
  both_or (x ∷ xs) [] n d same alike = absurd alike
  both_or (x ∷ xs) (y ∷ ys) zero d same alike = alike.0
  both_or (x ∷ xs) (y ∷ ys) (suc n) d same alike = both_or xs ys n d same alike.1

-- Epochs with the same iterations of the same body. The scalars of their invocations are left open, and so is the body
-- where there is no iteration.
pub record AreAlike (x y : Epoch Invoked) : Type 0 where
  pub first : x.first ≡ y.first
  pub count : x.count ≡ y.count
  pub body : 0 < x.count → x.body.body ≡ y.body.body

abbrev pub AlikeEpochs : List (Epoch Invoked) → List (Epoch Invoked) → Type 0
AlikeEpochs = Both AreAlike

abbrev pub ComeAlike : Coming Invoked → Coming Invoked → Type 0
ComeAlike Computes Computes = Unit {0}
ComeAlike Drains Drains = Unit {0}
ComeAlike (Invokes x) (Invokes y) = AreAlike x y
ComeAlike _ _ = ⊥

cut_alike : (xs ys : List (Epoch Invoked)) → AlikeEpochs xs ys → Both AlikeEpochs (cut_off xs) (cut_off ys)
cut_alike [] [] alike = tt
cut_alike [] (y ∷ ys) alike = absurd alike
cut_alike (x ∷ xs) [] alike = absurd alike
cut_alike (x ∷ xs) (y ∷ ys) alike = (alike, tt)

-- events that are alike are cut alike
segments_alike : (room : ℕ) (xs ys : List (Epoch Invoked)) (events others : List (Coming Invoked)) → AlikeEpochs xs ys → Both ComeAlike events others → Both AlikeEpochs (segments_of room xs events) (segments_of room ys others)
segments_alike room xs ys [] [] alike come = cut_alike xs ys alike
segments_alike room xs ys [] (e ∷ others) alike come = absurd come
segments_alike room xs ys (e ∷ events) [] alike come = absurd come
segments_alike room xs ys (Computes ∷ events) (Computes ∷ others) alike come = segments_alike room xs ys events others alike come.1
segments_alike room xs ys (Computes ∷ events) (Drains ∷ others) alike come = absurd come.0
segments_alike room xs ys (Computes ∷ events) (Invokes y ∷ others) alike come = absurd come.0
segments_alike room xs ys (Drains ∷ events) (Computes ∷ others) alike come = absurd come.0
segments_alike room xs ys (Drains ∷ events) (Drains ∷ others) alike come = both_append AlikeEpochs (cut_off xs) (cut_off ys) (segments_of room [] events) (segments_of room [] others) (cut_alike xs ys alike) (segments_alike room [] [] events others tt come.1)
segments_alike room xs ys (Drains ∷ events) (Invokes y ∷ others) alike come = absurd come.0
segments_alike room xs ys (Invokes x ∷ events) (Computes ∷ others) alike come = absurd come.0
segments_alike room xs ys (Invokes x ∷ events) (Drains ∷ others) alike come = absurd come.0
segments_alike room xs ys (Invokes x ∷ events) (Invokes y ∷ others) alike come =
    subst (λ n. Both AlikeEpochs (segments_of room xs (Invokes x ∷ events)) (if n == room then ys ∷ segments_of room (y ∷ []) others else segments_of room (ys ++ y ∷ []) others)) (both_length AreAlike xs ys alike)
    (by (length xs == room) (segments_alike room (x ∷ []) (y ∷ []) events others (come.0, tt) come.1) (segments_alike room (xs ++ x ∷ []) (ys ++ y ∷ []) events others (both_append AreAlike xs ys (x ∷ []) (y ∷ []) alike (come.0, tt)) come.1))
  where
    by : (t : Bool) → Both AlikeEpochs (segments_of room (x ∷ []) events) (segments_of room (y ∷ []) others) → Both AlikeEpochs (segments_of room (xs ++ x ∷ []) events) (segments_of room (ys ++ y ∷ []) others)
        → Both AlikeEpochs (if t then xs ∷ segments_of room (x ∷ []) events else segments_of room (xs ++ x ∷ []) events) (if t then ys ∷ segments_of room (y ∷ []) others else segments_of room (ys ++ y ∷ []) others)
    by true full more = (alike, full)
    by false full more = more

pub cut_the_same : (room : ℕ) (events others : List (Coming Invoked)) → Both ComeAlike events others → Both AlikeEpochs (segments_of room [] events) (segments_of room [] others)
cut_the_same room events others = segments_alike room [] [] events others tt

-- Two setups of a program that differ in code and set distance at most: what is to blame in alike segments.
module _ {G : Type 0} (signs : Signs G) (program : Program) (opening : List ℤ) (width room : ℕ) (code other : Code) (far near : ℕ) where
  abbrev m : Setup Invoked Cursor Piece G
  m = setup_of program opening code signs width room far

  abbrev m' : Setup Invoked Cursor Piece G
  m' = setup_of program opening other signs width room near

  abbrev nest : Nest
  nest = nest_of program opening

  -- tasks of alike epochs
  share_same : (x y : Epoch Invoked) → AreAlike x y → (e u : ℕ) → share_of m x e u ≡ share_of m' y e u
  share_same x y alike e u = by x.count refl
    where
      by : (n : ℕ) → x.count ≡ n → share_of m x e u ≡ share_of m' y e u
      by zero is = ap (λ n. share (is_do_all program x.body) width e n u) is ∙ share_zero (is_do_all program x.body) width e u ∙ sym (ap (λ n. share (is_do_all program y.body) width e n u) (sym alike.count ∙ is) ∙ share_zero (is_do_all program y.body) width e u)
      by (suc n) is = ap (λ b. share (option_map_or (λ (l : Loop). is_all (loop_kind_of program l)) (loop_of_body program b) true) width e x.count u) (alike.body (omega (arith, is)))
          ∙ ap (λ n. share (is_do_all program y.body) width e n u) alike.count

  module _ (xs ys : List (Epoch Invoked)) (alike : AlikeEpochs xs ys) where
    epoch_same : (e : ℕ) → AreAlike (epoch_at m xs e) (epoch_at m' ys e)
    epoch_same e = both_or AreAlike xs ys e (record { first = 0; count = 0; body = m.absent }) (record { first = refl; count = refl; body = λ some. refl }) alike

    from_same : (e u : ℕ) → from m xs e u ≡ from m' ys e u
    from_same e u =
        let same = epoch_same e in
        let share = share_same (epoch_at m xs e) (epoch_at m' ys e) same e u in
        ap (λ n. n + share_of m (epoch_at m xs e) e u) same.first ∙ ap (λ n. (epoch_at m' ys e).first + n) share

    hull_same : (start start' : Cursor) (claims : ℕ → Claims) (size : ℕ) (t : Task) → hull m nest start claims size xs t ≡ hull m' nest start' claims size ys t
    hull_same start start' claims size t =
        ap (λ k. with_iterations m.kind claims size k (from m xs t.epoch (suc t.worker) - k)) (from_same t.epoch t.worker)
        ∙ ap (λ n. with_iterations m.kind claims size (from m' ys t.epoch t.worker) (n - from m' ys t.epoch t.worker)) (from_same t.epoch (suc t.worker))

    opens_same : (next : ℕ) → opens_at xs next ≡ opens_at ys next
    opens_same next = by xs ys alike
      where
        by : (xs ys : List (Epoch Invoked)) → AlikeEpochs xs ys → opens_at xs next ≡ opens_at ys next
        by [] [] alike = refl
        by [] (y ∷ ys) alike = absurd alike
        by (x ∷ xs) [] alike = absurd alike
        by (x ∷ xs) (y ∷ ys) alike = alike.0.first

  pub blamed_same : (start start' : Cursor) → Both AlikeEpochs (segments m nest start) (segments m' nest start') → (claims : ℕ → Claims) (size distance g : ℕ) (p : Pair) → IsBlamed m nest start claims size distance g p → IsBlamed m' nest start' claims size distance g p
  blamed_same start start' alike claims size distance g p b =
      let got = both_got AlikeEpochs (segments m nest start) (segments m' nest start') g b.epochs alike b.segment.is_one in
      let same : AlikeEpochs b.epochs got.0 = got.2 in
      let early : hull m nest start claims size b.epochs p.early ≡ hull m' nest start' claims size got.0 p.early = hull_same b.epochs got.0 same start start' claims size p.early in
      let late : hull m nest start claims size b.epochs p.late ≡ hull m' nest start' claims size got.0 p.late = hull_same b.epochs got.0 same start start' claims size p.late in
      record {
        epochs = got.0;
        segment = record { is_one = got.1; reaches = subst (λ n. IsSome (reached nest n)) (opens_same b.epochs got.0 same 0) b.segment.reaches };
        is_pair = record {
          rises = b.is_pair.rises;
          late = let l = both_length AreAlike b.epochs got.0 same in omega (arith, l, b.is_pair.late);
          early_own = b.is_pair.early_own;
          late_own = b.is_pair.late_own;
          differ = b.is_pair.differ;
        };
        near = b.near;
        overlap = subst (λ x. IsSome (m.kind.overlap x (hull m' nest start' claims size got.0 p.late))) early (subst (λ y. IsSome (m.kind.overlap (hull m nest start claims size b.epochs p.early) y)) late b.overlap);
      }
