-- Two cursors of a program have the same ahead of them: alike epochs, in the same segments.
use Rattle.std.proofs.Common.{◌≡◌, ℕ, zero, suc, ◌+◌, ◌<◌, ℤ, Option, Some, None, List, [], ◌∷◌, length, refl, sym, ap, ◌∙◌, subst, arith}
use Rattle.std.specs.Option.{option_map_or}
use Rattle.nest_syntax.specs.declared.tree.Program.{Program}
use Rattle.nest_syntax.specs.Arrays.{Array, arrays_of}
use Rattle.nest_syntax.specs.Course.{Course}
use Rattle.nest_syntax.specs.Course as course
use Rattle.settle_law.specs.Courses.{Nest, Trap, nest_of, events, reached, trap_of}
use Rattle.settle_law.specs.Courses as courses
use Rattle.task_code.specs.Code.{Code}
use Rattle.task_frame.specs.declared.piece.Piece.{Piece}
use Rattle.sched_cursor.specs.declared.event.Iteration.{Iteration}
use Rattle.sched_cursor.specs.declared.node.Invocation.{Invocation}
use Rattle.sched_cursor.specs.declared.node.At.TheVariants as at
use Rattle.sched_cursor.specs.Cursor.{Cursor}
use Rattle.sched_cursor.specs.Events.{event_at, handed_in, behind_invocation}
use Rattle.sched_cursor.specs.Laws.{IsCursorOf, FollowsCourse, BeginsWith, restarted}
use Rattle.sched_cursor.proofs.Cursors.{cursors_stay}
use Rattle.sched_cursor.proofs.Whole.{cursors_follow}
use Rattle.spec_machine.specs.Machine.{Setup}
use Rattle.spec_machine.specs.Segments.{Coming, Drains, behind_trap, coming_from, coming, segments}
use Rattle.spec_setup.specs.Signs.{Signs}
use Rattle.spec_setup.specs.Setups.{Invoked, invoking, by_invocations, setup_of}
use Rattle.spec_setup.proofs.Follows.{Good, Entered, Onward, onward, good_behind, whole_comes}
use Rattle.nest_profile.proofs.Alike.{Both, AlikeEpochs, ComeAlike, cut_the_same}

module _ {G : Type 0} (signs : Signs G) (program : Program) (opening : List ℤ) (width room : ℕ) (code other : Code) (far near : ℕ) where
  abbrev m : Setup Invoked Cursor Piece G
  m = setup_of program opening code signs width room far

  abbrev m' : Setup Invoked Cursor Piece G
  m' = setup_of program opening other signs width room near

  abbrev nest : Nest
  nest = nest_of program opening

  abbrev arrays : List Array
  arrays = arrays_of program.decls

  abbrev Follows : Cursor → Course → Type 0
  Follows = FollowsCourse program opening

  abbrev Sound : Cursor → Type 0
  Sound = Good program opening

  abbrev SameAhead : Cursor → Cursor → Type 0
  SameAhead c d = (most next : ℕ) → Both ComeAlike (coming m nest most c next) (coming m' nest most d next)

  -- of two cursors that follow the same course
  abbrev Outside : Course → Type 0
  Outside left = (c d : Cursor) → Sound c → Sound d → Follows c left → Follows d left → SameAhead c d

  -- of two that stand in an invocation, whose turns come next
  record SameTurns (c d : Cursor) (i j : Invocation) (n n' : ℕ) : Type 0 where
    pub counts : n ≡ n'
    pub body : 0 < n → i.body ≡ j.body
    pub behind : SameAhead (behind_invocation c (at.Inside i)) (behind_invocation d (at.Inside j))

  abbrev Inside : Course → Type 0
  Inside left = (c d : Cursor) (i j : Invocation) → IsCursorOf program c → IsCursorOf program d → c.at ≡ at.Inside i → d.at ≡ at.Inside j → (n n' k k' : ℕ)
      → BeginsWith program (handed_in c i) (FollowsCourse program opening (behind_invocation c (at.Inside i))) n k left → BeginsWith program (handed_in d j) (FollowsCourse program opening (behind_invocation d (at.Inside j))) n' k' left → SameTurns c d i j n n'

  -- by the events at hand
  module _ (c d : Cursor) (most next : ℕ) where
    abbrev AlikeEvents : courses.Event Iteration Cursor → courses.Event Iteration Cursor → Type 0
    AlikeEvents e e' = Both ComeAlike (coming_from m nest (coming m nest most) next (by_invocations c e)) (coming_from m' nest (coming m' nest most) next (by_invocations d e'))

    at_events : (e e' : courses.Event Iteration Cursor) → event_at arrays opening c ≡ e → event_at arrays opening d ≡ e' → AlikeEvents e e' → AlikeEvents (event_at arrays opening c) (event_at arrays opening d)
    at_events e e' is is' alike = subst (λ x. AlikeEvents x (event_at arrays opening d)) (sym is) (subst (λ y. AlikeEvents e y) (sym is') alike)

    at_trap : (trap : Option Trap) (rest rest' : Cursor) → (trap ≡ None → SameAhead rest rest') → Both ComeAlike (behind_trap trap (coming m nest most rest next)) (behind_trap trap (coming m' nest most rest' next))
    at_trap None rest rest' same = same refl most next
    at_trap (Some trap) rest rest' same = tt

    at_drain : (traps traps' : List ℤ → Option Trap) (rests rests' : List ℤ → Cursor) → ((words : List ℤ) → (traps words ≡ traps' words) × (traps' words ≡ None → SameAhead (rests words) (rests' words))) → (o : Option (List ℤ))
        → Both ComeAlike (option_map_or (λ words. Drains ∷ behind_trap (traps words) (coming m nest most (rests words) next)) o []) (option_map_or (λ words. Drains ∷ behind_trap (traps' words) (coming m' nest most (rests' words) next)) o [])
    at_drain traps traps' rests rests' same None = tt
    at_drain traps traps' rests rests' same (Some words) =
        let s = same words in
        (tt, subst (λ t. Both ComeAlike (behind_trap t (coming m nest most (rests words) next)) (behind_trap (traps' words) (coming m' nest most (rests' words) next))) (sym s.0) (at_trap (traps' words) (rests words) (rests' words) s.1))

    at_invocation : (i j : Invocation) → c.at ≡ at.Inside i → d.at ≡ at.Inside j → SameTurns c d i j i.turning.trips j.turning.trips
        → Both ComeAlike (coming_from m nest (coming m nest most) next (invoking c c.at)) (coming_from m' nest (coming m' nest most) next (invoking d d.at))
    at_invocation i j there there' same =
        subst (λ a. Both ComeAlike (coming_from m nest (coming m nest most) next (invoking c a)) (coming_from m' nest (coming m' nest most) next (invoking d d.at))) (sym there)
        (subst (λ a. Both ComeAlike (coming_from m nest (coming m nest most) next (invoking c (at.Inside i))) (coming_from m' nest (coming m' nest most) next (invoking d a))) (sym there') (
          record { first = refl; count = same.counts; body = same.body },
          subst (λ n. Both ComeAlike (coming m nest most (behind_invocation c (at.Inside i)) (next + i.turning.trips)) (coming m' nest most (behind_invocation d (at.Inside j)) (next + n))) same.counts (same.behind most (next + i.turning.trips)),
        ))

    -- a whole invocation, of which an event is at hand
    at_entered : (left : Course) → Inside left → Sound c → Sound d → Entered program opening c → Entered program opening d → Follows c left → Follows d left
        → Both ComeAlike (coming_from m nest (coming m nest most) next (invoking c c.at)) (coming_from m' nest (coming m' nest most) next (invoking d d.at))
    at_entered left same good good' e e' f f' =
        let i = e.invocation in
        let j = e'.invocation in
        at_invocation i j e.there e'.there (same c d i j good.own good'.own e.there e'.there i.turning.trips j.turning.trips 0 0 (whole_comes program opening left c good e f) (whole_comes program opening left d good' e' f'))

  no_turns : (left : Course) → ((c : Cursor) (i : Invocation) (n k : ℕ) → BeginsWith program (handed_in c i) (FollowsCourse program opening (behind_invocation c (at.Inside i))) n k left → ⊥) → Inside left
  no_turns left none c d i j own own' there there' n n' k k' begun begun' = absurd (none c i n k begun)

  same_both : (left : Course) → Outside left × Inside left
  same_both course.End = (by, no_turns course.End none)
    where
      by : Outside course.End
      by c d good good' f f' zero next = tt
      by c d good good' f f' (suc most) next = at_events c d most next courses.End courses.End f f' tt

      none : (c : Cursor) (i : Invocation) (n k : ℕ) → BeginsWith program (handed_in c i) (FollowsCourse program opening (behind_invocation c (at.Inside i))) n k course.End → ⊥
      none c i zero k begun = begun
      none c i (suc n) k begun = begun
  same_both (course.Failed cause line) = (λ c d good good' f f' most next. absurd f, no_turns (course.Failed cause line) none)
    where
      none : (c : Cursor) (i : Invocation) (n k : ℕ) → BeginsWith program (handed_in c i) (FollowsCourse program opening (behind_invocation c (at.Inside i))) n k (course.Failed cause line) → ⊥
      none c i zero k begun = begun
      none c i (suc n) k begun = begun
  same_both (course.Scalar purpose scalars rest) = (by (same_both rest).0, no_turns (course.Scalar purpose scalars rest) none)
    where
      by : Outside rest → Outside (course.Scalar purpose scalars rest)
      by same c d good good' f f' zero next = tt
      by same c d good good' f f' (suc most) next =
          let onto = subst (Onward program opening c) f.1 (onward program opening c good) in
          let onto' = subst (Onward program opening d) f'.1 (onward program opening d good') in
          at_events c d most next (courses.Scalar purpose (trap_of rest) f.0) (courses.Scalar purpose (trap_of rest) f'.0) f.1 f'.1
          (tt, at_trap c d most next (trap_of rest) f.0 f'.0 (λ none. same f.0 f'.0 (onto none).good (onto' none).good (f.2 none) (f'.2 none)))

      none : (c : Cursor) (i : Invocation) (n k : ℕ) → BeginsWith program (handed_in c i) (FollowsCourse program opening (behind_invocation c (at.Inside i))) n k (course.Scalar purpose scalars rest) → ⊥
      none c i zero k begun = begun
      none c i (suc n) k begun = begun
  same_both (course.Drain purpose scalars rest) = (by (λ words. (same_both (rest words)).0), no_turns (course.Drain purpose scalars rest) none)
    where
      by : ((words : List ℤ) → Outside (rest words)) → Outside (course.Drain purpose scalars rest)
      by same c d good good' f f' zero next = tt
      by same c d good good' f f' (suc most) next =
          let onto = subst (Onward program opening c) f.2 (onward program opening c good) in
          let onto' = subst (Onward program opening d) f'.2 (onward program opening d good') in
          at_events c d most next (courses.Drain purpose f.0 f.1) (courses.Drain purpose f'.0 f'.1) f.2 f'.2
          (at_drain c d most next f.0 f'.0 f.1 f'.1 (λ words.
          let s = f.3 words in
          let s' = f'.3 words in
          (s.0 ∙ sym s'.0, λ none. same words (f.1 words) (f'.1 words) (onto words (s.0 ∙ sym s'.0 ∙ none)).good (onto' words none).good (s.1 (sym s'.0 ∙ none)) (s'.1 (sym s'.0 ∙ none)))) (reached nest next))

      none : (c : Cursor) (i : Invocation) (n k : ℕ) → BeginsWith program (handed_in c i) (FollowsCourse program opening (behind_invocation c (at.Inside i))) n k (course.Drain purpose scalars rest) → ⊥
      none c i zero k begun = begun
      none c i (suc n) k begun = begun
  same_both (course.Iterate body scalars rest) = (outside (same_both rest).1, inside (same_both rest).1)
    where
      inside : Inside rest → Inside (course.Iterate body scalars rest)
      inside same c d i j own own' there there' zero n' k k' begun begun' = absurd begun
      inside same c d i j own own' there there' (suc n) zero k k' begun begun' = absurd begun'
      inside same c d i j own own' there there' (suc n) (suc n') k k' begun begun' =
          let later = same c d i j own own' there there' n n' (suc k) (suc k') begun.1 begun'.1 in
          let one : i.body ≡ body = ap (λ p. p.0) begun.0 in
          let two : j.body ≡ body = ap (λ p. p.0) begun'.0 in
          record { counts = ap suc later.counts; body = λ some. one ∙ sym two; behind = later.behind }

      outside : Inside rest → Outside (course.Iterate body scalars rest)
      outside same c d good good' f f' zero next = tt
      outside same c d good good' f f' (suc most) next =
          let e : Entered program opening c = subst (Onward program opening c) f.2 (onward program opening c good) in
          let e' : Entered program opening d = subst (Onward program opening d) f'.2 (onward program opening d good') in
          at_events c d most next (courses.Iterate f.0 f.1) (courses.Iterate f'.0 f'.1) f.2 f'.2
          (at_entered c d most next (course.Iterate body scalars rest) (inside same) good good' e e' f f')
  same_both (course.Close scalars rest) = (outside (same_both rest).0, inside (same_both rest).0)
    where
      inside : Outside rest → Inside (course.Close scalars rest)
      inside same c d i j own own' there there' zero zero k k' begun begun' = record {
        counts = refl;
        body = λ some. absurd (omega (arith, some));
        behind = same (behind_invocation c (at.Inside i)) (behind_invocation d (at.Inside j)) (good_behind program opening c i own there) (good_behind program opening d j own' there') begun begun';
      }
      inside same c d i j own own' there there' (suc n) n' k k' begun begun' = absurd begun
      inside same c d i j own own' there there' zero (suc n') k k' begun begun' = absurd begun'

      outside : Outside rest → Outside (course.Close scalars rest)
      outside same c d good good' f f' zero next = tt
      outside same c d good good' f f' (suc most) next =
          let e : Entered program opening c = subst (Onward program opening c) f.1 (onward program opening c good) in
          let e' : Entered program opening d = subst (Onward program opening d) f'.1 (onward program opening d good') in
          at_events c d most next (courses.Close f.0) (courses.Close f'.0) f.1 f'.1
          (at_entered c d most next (course.Close scalars rest) (inside same) good good' e e' f f')

  pub same_segments : (c d : Cursor) → IsCursorOf program c → IsCursorOf program d → Both AlikeEpochs (segments m nest (restarted program c)) (segments m' nest (restarted program d))
  same_segments c d own own' = cut_the_same room (coming m nest (length (events nest)) (restarted program c) 0) (coming m' nest (length (events nest)) (restarted program d) 0)
      ((same_both nest.course).0 (restarted program c) (restarted program d) (first c own) (first d own') (cursors_follow program opening c own) (cursors_follow program opening d own') (length (events nest)) 0)
    where
      first : (c : Cursor) → IsCursorOf program c → Sound (restarted program c)
      first c own = record { own = cursors_stay.at_start program c own; fresh = tt }
