-- A segment at its beginning, with one epoch more, and with a pair passed.
use Rattle.std.proofs.Common.{◌≡◌, ℕ, suc, ◌+◌, ◌<◌, ◌≤◌, ◌⊎◌, ℤ, Option, None, List, [], ◌∷◌, ◌++◌, length, replicate, slice_index_or, refl, sym, ap, ◌∙◌, subst, inl, inr, ⊎_elim, arith, length-append}
use Rattle.std.proofs.lemmas.Bool.{cases_lt, true≢false}
use Rattle.nest_syntax.specs.declared.place.Place.{Place}
use Rattle.settle_law.specs.Cuts.{HoldsFixed}
use Rattle.settle_law.specs.Traces.{Access, iteration, part}
use Rattle.settle_law.specs.Claims.{Claims, Covers}
use Rattle.settle_law.specs.Courses.{Nest, family_of}
use Rattle.settle_law.proofs.Members.{Has, each_at, each_of}
use Rattle.settle_law.proofs.Push.{pairs_map}
use Rattle.spec_machine.specs.Facts.{Pair}
use Rattle.spec_machine.specs.Machine.{Setup, Seat, Hand, Idle, Empty, Running, Stopped, Epoch, fresh_seat, seat_at, done_at, saw, sign_at}
use Rattle.spec_machine.specs.Theorems.{IsSetupFor}
use Rattle.spec_machine.specs.Invariant.{Plan, plan, Inside, IsOf, Chain, Done, IsNoted, IsBefore, HandOk, SeatOk, PassedOk, IsTold, Sound}
use Rattle.spec_machine.proofs.Lists.{in_either}
use Rattle.spec_machine.proofs.Plans.{epoch_old, owner_old, epoch_new}
use Rattle.spec_machine.proofs.Due.{fresh_at}
use Rattle.spec_machine.proofs.Sounds.{no_part}

module _ {B C P G : Type 0} (m : Setup B C P G) (nest : Nest) (what : B × ℕ → ℕ × List ℤ) (start : C) (noted : G → Claims) (setup : IsSetupFor m nest what start noted) where
  -- begun from nothing
  pub sound_fresh : (S : Plan) (mark : List ℤ) (distance : ℕ) → HoldsFixed m.system.fixed mark → Sound m nest noted S mark mark (replicate m.width fresh_seat) distance [] None []
  sound_fresh S mark distance keeps = record {
    replays = tt;
    settles = refl;
    fixed_words = keeps;
    fits = λ k. (family_of m.system.fixed nest k, refl);
    accesses = tt;
    ordered = tt;
    own = tt;
    seen = λ w e v. subst (λ (x : Seat P G). saw_of x e v ≤ done_at (replicate m.width (fresh_seat {P = P} {G = G})) v) (sym (fresh_at m.width w)) (nothing e v);
    near = λ w v e lw lv lt. absurd (let l : e < 0 = subst (λ (x : Seat P G). e < length x.seen) (fresh_at m.width w) lt in omega arith);
    crew = λ u lt. subst (SeatOk m nest noted S [] None u) (sym (fresh_at m.width u)) (record {
      bounded = omega arith;
      begun = omega arith;
      signs = refl;
      before = λ j inside mine l. absurd (omega arith);
      later = λ j inside mine l. refl;
      hand = (refl, λ j of. refl);
    });
    passed = λ p among. elim among [ ];
    told = λ e u lt. subst (λ (x : Seat P G). IsTold m nest noted S [] e u (noted (slice_index_or x.signs e m.kind.blank))) (sym (fresh_at m.width u)) (record {
      read = λ w r. absurd (true≢false (sym r ∙ setup.is_kind.blank_reads w));
      written = λ w r. absurd (true≢false (sym r ∙ setup.is_kind.blank_writes w));
    });
    trapped = λ t is. cc;
  }
    where
      saw_of : Seat P G → ℕ → ℕ → ℕ
      saw_of x e v = slice_index_or (slice_index_or x.seen e []) v 0

      nothing : (e v : ℕ) → 0 ≤ done_at (replicate m.width (fresh_seat {P = P} {G = G})) v
      nothing e v = omega arith

  -- a pair is passed
  pub sound_check : (S : Plan) (mark words : List ℤ) (seats : List (Seat P G)) (distance : ℕ) (cleared : List Pair) (trap : Option Place) (trace : List Access) (p : Pair) → PassedOk m nest noted S seats p → Sound m nest noted S mark words seats distance cleared trap trace → Sound m nest noted S mark words seats distance (cleared ++ p ∷ []) trap trace
  sound_check S mark words seats distance cleared trap trace p ok i = record {
    replays = i.replays;
    settles = i.settles;
    fixed_words = i.fixed_words;
    fits = i.fits;
    accesses = i.accesses;
    ordered = i.ordered;
    own = i.own;
    seen = i.seen;
    near = i.near;
    crew = i.crew;
    passed = λ q among. ⊎_elim (λ old. i.passed q old) (λ new. last q new) (in_either q cleared (p ∷ []) among);
    told = i.told;
    trapped = i.trapped;
  }
    where
      last : (q : Pair) → (p ≡ q) ⊎ ⊥ → PassedOk m nest noted S seats q
      last q (inl same) = subst (PassedOk m nest noted S seats) same ok
      last q (inr none) = elim none [ ]

  -- one epoch more
  module _ (first next n : ℕ) (b : B) (epochs : List (Epoch B)) (chain : Chain m nest what first next epochs) (mark words : List ℤ) (seats : List (Seat P G)) (distance : ℕ) (cleared : List Pair) (trace : List Access) (width : length seats ≡ m.width) (i : Sound m nest noted (plan m first next epochs) mark words seats distance cleared None trace) where
    abbrev pub S : Plan
    S = plan m first next epochs

    abbrev pub more : List (Epoch B)
    more = epochs ++ record { first = next; count = n; body = b } ∷ []

    abbrev pub T : Plan
    T = plan m first (next + n) more

    epoch_same : (k : ℕ) → Inside S k → T.epoch k ≡ S.epoch k
    epoch_same k inside = epoch_old m nest what first next epochs (record { first = next; count = n; body = b }) k chain inside.0 inside.1

    owner_same : (k : ℕ) → Inside S k → T.owner k ≡ S.owner k
    owner_same k inside = owner_old m nest what first next epochs (record { first = next; count = n; body = b }) k chain inside.0 inside.1

    wider : (k : ℕ) → Inside S k → Inside T k
    wider k inside = (inside.0, (let l : k < next = inside.1 in omega arith))

    -- an iteration is an old one, or of the new epoch
    data Either (k : ℕ) : Type 0 where
      Old : Inside S k → T.epoch k ≡ S.epoch k → T.owner k ≡ S.owner k → Either k
      New : T.epoch k ≡ length epochs → part k trace ≡ [] → Either k

    either : (k : ℕ) → Inside T k → Either k
    either k inside = ⊎_elim
        (λ l. Old (inside.0, l) (epoch_same k (inside.0, l)) (owner_same k (inside.0, l)))
        (λ ge. New (epoch_new m nest what first next epochs n k b chain ge inside.1) (no_part k trace (each_of (λ a. iteration a ≡ k → ⊥) trace (λ a has same. let l : iteration a < next = (each_at (IsNoted m nest noted S seats) trace a i.accesses has).inside.1 in omega arith))))
        (cases_lt k next)

    counted : length more ≡ suc (length epochs)
    counted = let l : length more ≡ length epochs + 1 = length-append epochs (record { first = next; count = n; body = b } ∷ []) in let e : length more ≡ suc (length epochs) = omega arith in e

    of_old : (e u k : ℕ) → IsOf S e u k → IsOf T e u k
    of_old e u k of = (wider k of.0, epoch_same k of.0 ∙ of.1, owner_same k of.0 ∙ of.2)

    of_task : (e u k : ℕ) → e < length epochs → IsOf T e u k → IsOf S e u k
    of_task e u k lt of = go (either k of.0)
      where
        go : Either k → IsOf S e u k
        go (Old inside epoch owner) = (inside, sym epoch ∙ of.1, sym owner ∙ of.2)
        go (New epoch none) = absurd (let x : e ≡ length epochs = sym of.1 ∙ epoch in omega arith)

    hand_kept : (u done begun : ℕ) (hand : Hand P) → HandOk m nest noted S trace None u done begun hand → HandOk m nest noted T trace None u done begun hand
    hand_kept u done begun Idle (e, none) = (e, λ j of. go j of (either j of.0))
      where
        go : (j : ℕ) → IsOf T done u j → Either j → part j trace ≡ []
        go j of (Old inside epoch owner) = none j (inside, sym epoch ∙ of.1, sym owner ∙ of.2)
        go j of (New epoch empty) = empty
    hand_kept u done begun Empty (e, lt, none) = (e, omega (arith, counted), λ j of. none j (of_task done u j lt of))
    hand_kept u done begun (Running k piece) (e, lt, r) = (
      e,
      omega (arith, counted),
      record {
        of_task = of_old done u k r.of_task;
        left = r.left;
        before = λ j of l. r.before j (of_task done u j lt of) l;
        behind = λ j of l. r.behind j (of_task done u j lt of) l;
      },
    )
    hand_kept u done begun Stopped (le, below) = (le, below)

    seat_kept : (u : ℕ) (x : Seat P G) → SeatOk m nest noted S trace None u x → SeatOk m nest noted T trace None u x
    seat_kept u x ok = record {
      bounded = let l : x.done ≤ length epochs = ok.bounded in omega (arith, counted);
      begun = ok.begun;
      signs = ok.signs;
      before = λ j inside mine lt. before j mine lt (either j inside);
      later = λ j inside mine lt. later j mine lt (either j inside);
      hand = hand_kept u x.done (length x.seen) x.hand ok.hand;
    }
      where
        before : (j : ℕ) → T.owner j ≡ u → T.epoch j < x.done → Either j → Done m nest noted T trace j
        before j mine lt (Old inside epoch owner) = ok.before j inside (sym owner ∙ mine) (omega (arith, epoch))
        before j mine lt (New epoch none) = absurd (let l : x.done ≤ length epochs = ok.bounded in omega (arith, epoch))

        later : (j : ℕ) → T.owner j ≡ u → x.done < T.epoch j → Either j → part j trace ≡ []
        later j mine lt (Old inside epoch owner) = ok.later j inside (sym owner ∙ mine) (omega (arith, epoch))
        later j mine lt (New epoch none) = none

    access_at : (a : Access) → Has a trace → IsNoted m nest noted S seats a
    access_at a has = each_at (IsNoted m nest noted S seats) trace a i.accesses has

    noted_kept : (a : Access) → IsNoted m nest noted S seats a → IsNoted m nest noted T seats a
    noted_kept a ok = record {
      inside = wider (iteration a) ok.inside;
      own = subst (λ u. u < m.width) (sym (owner_same (iteration a) ok.inside)) ok.own;
      begun = subst (λ u. T.epoch (iteration a) < length (seat_at seats u).seen) (sym (owner_same (iteration a) ok.inside)) (subst (λ e. e < length (seat_at seats (S.owner (iteration a))).seen) (sym (epoch_same (iteration a) ok.inside)) ok.begun);
      covers = subst (λ u. Covers (noted (sign_at m seats (record { epoch = T.epoch (iteration a); worker = u }))) a) (sym (owner_same (iteration a) ok.inside)) (subst (λ e. Covers (noted (sign_at m seats (record { epoch = e; worker = S.owner (iteration a) }))) a) (sym (epoch_same (iteration a) ok.inside)) ok.covers);
    }

    before_kept : (a b : Access) → Has a trace → Has b trace → IsBefore m nest noted S seats a b → IsBefore m nest noted T seats a b
    before_kept a b has_a has_b old =
        let x = (access_at a has_a).inside in
        let y = (access_at b has_b).inside in
        record {
          own = λ same. old.own (sym (owner_same (iteration a) x) ∙ same ∙ owner_same (iteration b) y);
          unseen = λ lt.
              let e : T.epoch (iteration a) ≡ S.epoch (iteration a) = epoch_same (iteration a) x in
              let f : T.epoch (iteration b) ≡ S.epoch (iteration b) = epoch_same (iteration b) y in
              let s : saw seats (T.epoch (iteration a)) (T.owner (iteration a)) (T.owner (iteration b)) ≡ saw seats (S.epoch (iteration a)) (S.owner (iteration a)) (S.owner (iteration b)) =
              ap (λ z. saw seats z (T.owner (iteration a)) (T.owner (iteration b))) e ∙ ap (λ z. saw seats (S.epoch (iteration a)) z (T.owner (iteration b))) (owner_same (iteration a) x) ∙ ap (λ z. saw seats (S.epoch (iteration a)) (S.owner (iteration a)) z) (owner_same (iteration b) y) in
              let l : saw seats (S.epoch (iteration a)) (S.owner (iteration a)) (S.owner (iteration b)) ≤ S.epoch (iteration b) = old.unseen (omega arith) in
              omega arith;
        }

    pub sound_opens : Sound m nest noted T mark words seats distance cleared None trace
    sound_opens = record {
      replays = i.replays;
      settles = i.settles;
      fixed_words = i.fixed_words;
      fits = i.fits;
      accesses = each_of (IsNoted m nest noted T seats) trace (λ a has. noted_kept a (access_at a has));
      ordered = pairs_map (IsBefore m nest noted S seats) (IsBefore m nest noted T seats) trace before_kept i.ordered;
      own = each_of (λ a. (j : ℕ) → Inside T j → T.owner j ≡ T.owner (iteration a) → j < iteration a → Done m nest noted T trace j) trace (λ a has j inside mine lt.
          let x = (access_at a has).inside in
          let high : iteration a < next = x.1 in
          let in_j : Inside S j = (inside.0, omega arith) in
          each_at (λ b. (j : ℕ) → Inside S j → S.owner j ≡ S.owner (iteration b) → j < iteration b → Done m nest noted S trace j) trace a i.own has j in_j (sym (owner_same j in_j) ∙ mine ∙ owner_same (iteration a) x) lt);
      seen = i.seen;
      near = i.near;
      crew = λ u lt. seat_kept u (seat_at seats u) (i.crew u lt);
      passed = λ p among. let ok = i.passed p among in record { early = ok.early; late = ok.late; apart = ok.apart };
      told = λ e u lt. let t = i.told e u lt in record {
        read = λ w r. let x = t.read w r in (x.0, x.1, of_old e u x.0 x.2, x.3);
        written = λ w r. let x = t.written w r in (x.0, x.1, of_old e u x.0 x.2, x.3);
      };
      trapped = λ t is. cc;
    }
