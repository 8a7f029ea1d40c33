-- One seat more or less: how seats grow, and lists that get one element more.
use Rattle.std.proofs.Common.{◌≡◌, ℕ, zero, suc, ◌+◌, ◌<◌, ◌≤◌, ◌==◌, Bool, List, [], ◌∷◌, ◌++◌, length, get_or, slice_set, nat_le, refl, sym, ap, ◌∙◌, subst, inl, inr, ⊎_elim, arith, length-append}
use Rattle.std.proofs.lemmas.Bool.{cases_eq, or_right, or_left, eq-eqb}
use Rattle.std.proofs.lemmas.List.{get_or-set_same, get_or-set_other, get_or_append_left}
use Rattle.settle_law.specs.Trees.{Tree, Finished, Trapped, Load, Store}
use Rattle.settle_law.specs.Traces.{Access, Read, Write, Makes}
use Rattle.settle_law.specs.Claims.{Claims, Covers}
use Rattle.settle_law.proofs.Seats.{each_set as put_each}
use Rattle.settle_law.proofs.Members.{Has}
use Rattle.spec_machine.specs.Signatures.{IsKind, Holds, note}
use Rattle.spec_machine.specs.Facts.{Pair}
use Rattle.spec_machine.specs.Machine.{Setup, Seat, Hand, fresh_seat, seat_at, done_at, dones, saw_in, is_unordered, sign_at, overlap_of}
use Rattle.spec_machine.specs.Table.{In}

pub has_in : (b : Access) (trace : List Access) → In b trace → Has b trace
has_in b [] among = among
has_in b (a ∷ trace) (inl same) = inl same
has_in b (a ∷ trace) (inr more) = inr (has_in b trace more)

pub in_has : (b : Access) (trace : List Access) → Has b trace → In b trace
in_has b [] has = has
in_has b (a ∷ trace) (inl same) = inl same
in_has b (a ∷ trace) (inr more) = inr (in_has b trace more)

-- one element more that is the default reads as before
pub get_default : {A : Type 0} (xs : List A) (e : ℕ) (d : A) → get_or (xs ++ d ∷ []) e d ≡ get_or xs e d
get_default [] zero d = refl
get_default [] (suc e) d = refl
get_default (x ∷ xs) zero d = refl
get_default (x ∷ xs) (suc e) d = get_default xs e d

-- what is made behind what was made
pub makes_behind : (tree : Tree) (made others : List Access) (middle rest : Tree) → Makes tree made middle → Makes tree (made ++ others) rest → Makes middle others rest
makes_behind tree [] others middle rest m n = subst (λ x. Makes x others rest) m n
makes_behind Finished (a ∷ made) others middle rest m n = elim m [ ]
makes_behind (Trapped cause line) (a ∷ made) others middle rest m n = elim m [ ]
makes_behind (Load w go) (Read k u value ∷ made) others middle rest m n = makes_behind (go value) made others middle rest m.1 n.1
makes_behind (Load w go) (Write k u value ∷ made) others middle rest m n = elim m [ ]
makes_behind (Store w new tree) (Read k u value ∷ made) others middle rest m n = elim m [ ]
makes_behind (Store w new tree) (Write k u value ∷ made) others middle rest m n = makes_behind tree made others middle rest m.2 n.2

-- an end makes nothing more
pub finished_stays : (tree : Tree) (made : List Access) (a : Access) (rest : Tree) → Makes tree made Finished → Makes tree (made ++ a ∷ []) rest → ⊥
finished_stays tree made a rest m n = makes_behind tree made (a ∷ []) Finished rest m n

module _ {P G : Type 0} where
  pub seat_same : (seats : List (Seat P G)) (u : ℕ) (y : Seat P G) → u < length seats → seat_at (slice_set seats u y) u ≡ y
  seat_same seats u y inside = get_or-set_same seats u y _ inside

  pub seat_other : (seats : List (Seat P G)) (u v : ℕ) (y : Seat P G) → (v ≡ u → ⊥) → seat_at (slice_set seats u y) v ≡ seat_at seats v
  seat_other seats u v y other = get_or-set_other seats u v y _ other

  pub each_seat : (Q : ℕ → Seat P G → Type 0) (seats : List (Seat P G)) (u : ℕ) (y : Seat P G) → u < length seats → Q u y → ((v : ℕ) → (v ≡ u → ⊥) → Q v (seat_at seats v)) → (v : ℕ) → Q v (seat_at (slice_set seats u y) v)
  each_seat Q seats u y inside own others v = put_each Q seats u y fresh_seat inside own others v

  pub dones_at : (seats : List (Seat P G)) (v : ℕ) → get_or (dones seats) v 0 ≡ done_at seats v
  dones_at [] v = refl
  dones_at (x ∷ seats) zero = refl
  dones_at (x ∷ seats) (suc v) = dones_at seats v

-- A seat has grown: what its tasks saw is kept, what they noted is kept or more, and it is kept of finished tasks.
module _ {B C P G : Type 0} (m : Setup B C P G) (noted : G → Claims) where
  abbrev pub sign_of : Seat P G → ℕ → G
  sign_of seat e = get_or seat.signs e m.kind.blank

  pub record IsGrown (x y : Seat P G) : Type 0 where
    pub longer : length x.seen ≤ length y.seen
    pub done : x.done ≤ y.done
    pub saw : (e v : ℕ) → e < length x.seen → saw_in y e v ≡ saw_in x e v
    pub signs : (e : ℕ) → e < x.done → sign_of y e ≡ sign_of x e
    pub holds : (e : ℕ) → Holds (noted (sign_of y e)) (noted (sign_of x e))

  pub holds_same : (sign other : G) → sign ≡ other → Holds (noted sign) (noted other)
  holds_same sign other is = subst (λ x. Holds (noted x) (noted other)) (sym is) (record { read = λ w r. r; written = λ w r. r })

  pub grown_same : (x : Seat P G) → IsGrown x x
  grown_same x = record { longer = omega arith; done = omega arith; saw = λ e v lt. refl; signs = λ e lt. refl; holds = λ e. holds_same (sign_of x e) (sign_of x e) refl }

  pub covers_more : (claims others : Claims) (a : Access) → Holds claims others → Covers others a → Covers claims a
  covers_more claims others (Read k w value) holds c = holds.read w c
  covers_more claims others (Write k w value) holds c = holds.written w c

  -- noting an access
  module _ {touched : ℕ → Bool} (kind_ok : IsKind m.kind noted touched) where
    pub note_holds : (a : Access) (sign : G) → Holds (noted (note m.kind a sign)) (noted sign)
    note_holds (Read k w value) sign = record {
      read = λ u r. kind_ok.read_reads w u sign ∙ or_right (w == u) ((noted sign).read u) r;
      written = λ u r. kind_ok.read_writes w u sign ∙ r;
    }
    note_holds (Write k w value) sign = record {
      read = λ u r. kind_ok.written_reads w u sign ∙ r;
      written = λ u r. kind_ok.written_writes w u sign ∙ or_right (w == u) ((noted sign).written u) r;
    }

    pub note_covers : (a : Access) (sign : G) → Covers (noted (note m.kind a sign)) a
    note_covers (Read k w value) sign = kind_ok.read_reads w w sign ∙ or_left (w == w) ((noted sign).read w) (eq-eqb w w refl)
    note_covers (Write k w value) sign = kind_ok.written_writes w w sign ∙ or_left (w == w) ((noted sign).written w) (eq-eqb w w refl)

    -- a seat with a new hand, and one access noted for the present task
    pub grown_note : (x : Seat P G) (hand : Hand P) (a : Access) → x.done < length x.signs → IsGrown x (record x { hand = hand; signs = slice_set x.signs x.done (note m.kind a (sign_of x x.done)) })
    grown_note x hand a lt = record {
      longer = omega arith;
      done = omega arith;
      saw = λ e v l. refl;
      signs = λ e l. get_or-set_other x.signs x.done e (note m.kind a (sign_of x x.done)) m.kind.blank (λ same. omega arith);
      holds = λ e. ⊎_elim
          (λ same. subst (λ d. Holds (noted (get_or (slice_set x.signs x.done (note m.kind a (sign_of x x.done))) d m.kind.blank)) (noted (sign_of x d))) (sym same)
          (subst (λ g. Holds (noted g) (noted (sign_of x x.done))) (sym (get_or-set_same x.signs x.done (note m.kind a (sign_of x x.done)) m.kind.blank lt)) (note_holds a (sign_of x x.done))))
          (λ other. holds_same (get_or (slice_set x.signs x.done (note m.kind a (sign_of x x.done))) e m.kind.blank) (sign_of x e) (get_or-set_other x.signs x.done e (note m.kind a (sign_of x x.done)) m.kind.blank other))
          (cases_eq e x.done);
    }

  -- a seat that begins a task
  pub grown_begin : (x : Seat P G) (hand : Hand P) (saw_now : List ℕ) → IsGrown x (record x { hand = hand; seen = x.seen ++ saw_now ∷ []; signs = x.signs ++ m.kind.blank ∷ [] })
  grown_begin x hand saw_now = record {
    longer = let l : length (x.seen ++ saw_now ∷ []) ≡ length x.seen + 1 = length-append x.seen (saw_now ∷ []) in omega arith;
    done = omega arith;
    saw = λ e v lt. ap (λ l. get_or l v 0) (get_or_append_left x.seen (saw_now ∷ []) [] e lt);
    signs = λ e lt. get_default x.signs e m.kind.blank;
    holds = λ e. holds_same (get_or (x.signs ++ m.kind.blank ∷ []) e m.kind.blank) (sign_of x e) (get_default x.signs e m.kind.blank);
  }

  -- a seat that finishes a task, with another hand
  pub grown_finish : (x : Seat P G) (hand : Hand P) (done : ℕ) → x.done ≤ done → IsGrown x (record x { hand = hand; done = done })
  grown_finish x hand done le = record { longer = omega arith; done = le; saw = λ e v lt. refl; signs = λ e lt. refl; holds = λ e. holds_same (sign_of x e) (sign_of x e) refl }

  -- what follows for all seats
  module _ (seats : List (Seat P G)) (u : ℕ) (y : Seat P G) (inside : u < length seats) (grown : IsGrown (seat_at seats u) y) where
    abbrev pub after : List (Seat P G)
    after = slice_set seats u y

    pub grown_at : (v : ℕ) → IsGrown (seat_at seats v) (seat_at after v)
    grown_at v = ⊎_elim
        (λ same. subst (λ w. IsGrown (seat_at seats w) (seat_at after w)) (sym same) (subst (IsGrown (seat_at seats u)) (sym (seat_same seats u y inside)) grown))
        (λ other. subst (IsGrown (seat_at seats v)) (sym (seat_other seats u v y other)) (grown_same (seat_at seats v)))
        (cases_eq v u)

    pub done_more : (v : ℕ) → done_at seats v ≤ done_at after v
    done_more v = (grown_at v).done

    pub unordered_same : (p : Pair) → p.late.epoch < length (seat_at seats p.late.worker).seen → is_unordered after p ≡ is_unordered seats p
    unordered_same p lt = ap (λ n. nat_le n p.early.epoch) ((grown_at p.late.worker).saw p.late.epoch p.early.worker lt)

    pub overlap_same : (p : Pair) → p.early.epoch < done_at seats p.early.worker → p.late.epoch < done_at seats p.late.worker → overlap_of m after p ≡ overlap_of m seats p
    overlap_same p early late = ap (λ g. m.kind.overlap g (sign_at m after p.late)) ((grown_at p.early.worker).signs p.early.epoch early) ∙ ap (λ g. m.kind.overlap (sign_at m seats p.early) g) ((grown_at p.late.worker).signs p.late.epoch late)
