-- An access of a worker, as it is noted.
use Rattle.std.proofs.Common.{◌≡◌, ℕ, ◌<◌, ◌≤◌, ℤ, Bool, true, false, if◌then◌else◌, List, [], ◌∷◌, length, take, slice_set, slice_index, get_or, refl, sym, ap, ◌∙◌, subst, arith, length-set}
use Rattle.std.proofs.lemmas.List.{length-map}
use Rattle.std.proofs.lemmas.List.{get_or-take, get_or_default}
use Rattle.std.proofs.Math.Seq.{take-set-lt}
use Rattle.std.specs.Option.{option_map_or}
use Rattle.nest_syntax.specs.Arrays.{Array, arrays_of, word_number, word_at, with_word}
use Rattle.word_store.specs.Memory.{Memory}
use Rattle.settle_law.specs.Traces.{Read, Write}
use Rattle.settle_law.specs.Reading.{is_fixed_word, fixed_in, told}
use Rattle.task_frame.specs.declared.piece.Piece.{Piece}
use Rattle.epoch_plan.specs.declared.tasks.Seen.{Seen}
use Rattle.spec_machine.specs.Machine.{Seat, Hand, Running, DoRead, DoWrite, seat_at, noted_in, seat_after, worker_after}
use Rattle.spec_setup.specs.Signs.{Signs, with_word_noted}
use Rattle.spec_core.specs.declared.plan.Plan.{Plan}
use Rattle.spec_core.specs.declared.table.Table.{Table}
use Rattle.spec_core.specs.Engine.{Stand}
use Rattle.spec_core.specs.Hands.{Bench, bench_at, seat_in}
use Rattle.spec_core.specs.Tables.{state_of, setup_by, sizes_by, IsPlan, IsBenchBy, IsSound}
use Rattle.spec_core.proofs.Numbers.{noted_there, fixed_there}
use Rattle.spec_core.proofs.Places.{array_there}
use Rattle.spec_core.proofs.Placing.{each_of, each_put, was_is, kept_by, changed, row_by, sound_by}

module _ {G : Type 0} (s : Signs G) (sizes_in : G → List ℕ) (plan : Plan) (array place : ℕ) (inside : place < get_or (sizes_by plan) array 0) where
  abbrev sizes : List ℕ
  sizes = sizes_by plan

  abbrev w : ℕ
  w = word_number sizes array place

  -- a worker whose present task noted a word
  abbrev pub noted : Bool → Bench G → Bench G
  noted write b = record b { signs = slice_set b.signs b.done (s.with_note (get_or b.signs b.done (s.nothing [])) array place write) }

  there : array < length sizes
  there = array_there sizes array place inside

  module _ (b : Bench G) (kept : IsBenchBy sizes_in plan b) (begun : b.done < b.begun) where
    pub task_there : IsPlan plan → b.done < length b.signs
    task_there ready = omega (arith, begun, kept.begun, kept.places)

    sizes_are : IsPlan plan → sizes_in (get_or b.signs b.done (s.nothing [])) ≡ sizes
    sizes_are ready = each_of (λ (sign : G). sizes_in sign ≡ sizes) b.signs b.done (s.nothing []) (task_there ready) kept.sizes

    pub array_inside : IsPlan plan → array < length (sizes_in (get_or b.signs b.done (s.nothing [])))
    array_inside ready = subst (λ l. array < length l) (sym (sizes_are ready)) there

    pub place_inside : IsPlan plan → place < slice_index (sizes_in (get_or b.signs b.done (s.nothing []))) array
    place_inside ready = subst (λ l. place < get_or l array 0) (sym (sizes_are ready)) inside

    pub noted_kept : IsPlan plan → ((sign : G) (array place : ℕ) (write : Bool) → sizes_in (s.with_note sign array place write) ≡ sizes_in sign) → (write : Bool) → IsBenchBy sizes_in plan (noted write b)
    noted_kept ready keeps write = record {
      places = length-set b.signs b.done _ ∙ kept.places;
      sizes = each_put (λ (sign : G). sizes_in sign ≡ sizes) b.signs b.done _ kept.sizes (keeps (get_or b.signs b.done (s.nothing [])) array place write ∙ sizes_are ready);
      begun = kept.begun;
      done = kept.done;
    }

    module _ (ready : IsPlan plan) (width : ℕ) (seen : List Seen) (u : ℕ) (hand : Hand Piece) where
      abbrev signs : List G
      signs = take b.begun b.signs

      signs_are : (write : Bool) → take b.begun (noted write b).signs ≡ slice_set signs b.done (with_word_noted sizes s write w (get_or signs b.done (s.nothing sizes)))
      signs_are write =
          take-set-lt b.begun b.signs b.done _ begun
          ∙ ap (slice_set signs b.done)
          (sym (noted_there sizes s write array place (get_or b.signs b.done (s.nothing [])) there inside)
          ∙ ap (with_word_noted sizes s write w) (get_or_default b.signs b.done (s.nothing []) (s.nothing sizes) (task_there ready) ∙ sym (get_or-take b.begun b.signs b.done (s.nothing sizes) begun)))

      abbrev pub held : Bench G → Bench G
      held x = record x { hand = hand }

      -- as the machine notes it
      pub wrote_there : (value : ℤ) → seat_in width seen u (held (noted true b)) ≡ (let x = seat_in width seen u b in let y : Seat Piece G = record x { hand = hand; signs = noted_in (setup_by s plan) (Write 0 w value ∷ []) x.done x.signs } in y)
      wrote_there value = λ i. let y : Seat Piece G = record (seat_in width seen u (held b)) { signs = signs_are true i } in y

      pub read_there : (t : Bool) → is_fixed_word (arrays_of plan.job.program.decls) w ≡ t → (k : ℕ) (value : ℤ)
          → seat_in width seen u (held (if t then b else noted false b)) ≡ (let x = seat_in width seen u b in let y : Seat Piece G = record x { hand = hand; signs = noted_in (setup_by s plan) (option_map_or (λ t. []) (fixed_in (arrays_of plan.job.program.decls) plan.job.opening.words w) (Read k w value ∷ [])) x.done x.signs } in y)
      read_there t is k value = by t ∙ ap (λ f. let x = seat_in width seen u b in let y : Seat Piece G = record x { hand = hand; signs = noted_in (setup_by s plan) (option_map_or (λ t. []) (told f (word_at plan.job.opening.words w)) (Read k w value ∷ [])) x.done x.signs } in y) (sym is)
        where
          by : (t : Bool) → seat_in width seen u (held (if t then b else noted false b)) ≡ (let x = seat_in width seen u b in let y : Seat Piece G = record x { hand = hand; signs = noted_in (setup_by s plan) (option_map_or (λ o. []) (told t (word_at plan.job.opening.words w)) (Read k w value ∷ [])) x.done x.signs } in y)
          by true = refl
          by false = λ i. let y : Seat Piece G = record (seat_in width seen u (held b)) { signs = signs_are false i } in y

-- the same of a table
module _ {G : Type 0} (s : Signs G) (sizes_in : G → List ℕ) (plan : Plan) (old : Table G) (u : ℕ) (was : Bench G) (ready : IsPlan plan) (sound : IsSound sizes_in plan old) (own : u < plan.options.workers) (at : was ≡ get_or old.seats.items u was)
    (array place : ℕ) (inside : place < get_or (sizes_by plan) array 0) (began : (bench_at old.seats.items u).done < (bench_at old.seats.items u).begun) where
  abbrev bench : Bench G
  bench = bench_at old.seats.items u

  abbrev word : ℕ
  word = word_number (sizes_by plan) array place

  abbrev notes : Bool → Bench G → Bench G
  notes write = noted s sizes_in plan array place inside write

  is : was ≡ bench
  is = was_is sizes_in plan old u was sound own at

  kept : IsBenchBy sizes_in plan bench
  kept = subst (IsBenchBy sizes_in plan) is (kept_by sizes_in plan old u was sound own at)

  pub task_of : was.done < length was.signs
  task_of = subst (λ (b : Bench G). b.done < length b.signs) (sym is) (task_there s sizes_in plan array place inside bench kept began ready)

  pub array_of : array < length (sizes_in (get_or was.signs was.done (s.nothing [])))
  array_of = subst (λ (b : Bench G). array < length (sizes_in (get_or b.signs b.done (s.nothing [])))) (sym is) (array_inside s sizes_in plan array place inside bench kept began ready)

  pub place_of : place < slice_index (sizes_in (get_or was.signs was.done (s.nothing []))) array
  place_of = subst (λ (b : Bench G). place < slice_index (sizes_in (get_or b.signs b.done (s.nothing []))) array) (sym is) (place_inside s sizes_in plan array place inside bench kept began ready)

  -- the word that is read, and the words behind a write
  pub read_is : (value : ℤ) → value ≡ word_at old.words.words (word_number old.words.sizes array place) → value ≡ word_at old.words.words word
  read_is value same = same ∙ ap (λ l. word_at old.words.words (word_number l array place)) sound.sizes

  abbrev If : Bool → Bench G → Bench G
  If t b = if t then b else notes false b

  if_hand : (t : Bool) (b : Bench G) → (If t b).hand ≡ b.hand
  if_hand true b = refl
  if_hand false b = refl

  pub load_by : (b mid : Bench G) (t : Bool) (k : ℕ) (p q : Piece) (next : ℤ → Piece) → t ≡ get_or plan.consts.items array t → mid ≡ If t was → bench.hand ≡ Running k p → ((k : ℕ) (p : Piece) → mid.hand ≡ Running k p → b ≡ record mid { hand = Running k q }) → q ≡ next (word_at old.words.words word)
      → state_of (changed sizes_in plan old u was sound own at b old.words old.abort old.trap) ≡ worker_after (setup_by s plan) (state_of old) u (DoRead k word next)
  load_by b mid t k p q next fixed note hand stand piece =
      row_by sizes_in plan old u was sound own at b old.words old.abort old.trap (λ x. let y : Bench G = record (If t x) { hand = Running k (next (word_at old.words.words word)) } in y)
      (stand k p (ap (λ (x : Bench G). x.hand) note ∙ if_hand t was ∙ ap (λ (x : Bench G). x.hand) is ∙ hand) ∙ (λ i. let y : Bench G = record (note i) { hand = Running k (piece i) } in y))
      (λ (x : Seat Piece G). seat_after (setup_by s plan) (state_of old) x (DoRead k word next))
      (read_there s sizes_in plan array place inside bench kept began ready (length old.seats.items) old.seen.items u (Running k (next (word_at old.words.words word))) t const k (word_at old.words.words word))
    where
      many : array < length plan.consts.items
      many = let n : length plan.consts.items ≡ length (arrays_of plan.job.program.decls) = ap length ready.consts ∙ length-map (arrays_of plan.job.program.decls) (λ (a : Array). a.fixed) in
          let k : length (sizes_by plan) ≡ length (arrays_of plan.job.program.decls) = length-map (arrays_of plan.job.program.decls) (λ (a : Array). a.size) in
          omega (arith, array_there (sizes_by plan) array place inside)

      const : is_fixed_word (arrays_of plan.job.program.decls) word ≡ t
      const = fixed_there (arrays_of plan.job.program.decls) array place (array_there (sizes_by plan) array place inside) inside ∙ ap (λ l. get_or l array false) (sym ready.consts) ∙ get_or_default plan.consts.items array false t many ∙ sym fixed

  pub store_by : (b mid : Bench G) (k : ℕ) (p q next : Piece) → q ≡ next → (value : ℤ) (words : Memory) → words ≡ record old.words { words = with_word old.words.words (word_number old.words.sizes array place) value } → mid ≡ notes true was → bench.hand ≡ Running k p → ((k : ℕ) (p : Piece) → mid.hand ≡ Running k p → b ≡ record mid { hand = Running k q })
      → state_of (changed sizes_in plan old u was sound own at b words old.abort old.trap) ≡ worker_after (setup_by s plan) (state_of old) u (DoWrite k word value next)
  store_by b mid k p q next piece value words written note hand stand =
      row_by sizes_in plan old u was sound own at b words old.abort old.trap (λ x. let y : Bench G = record (notes true x) { hand = Running k next } in y)
      (stand k p (ap (λ (x : Bench G). x.hand) note ∙ ap (λ (x : Bench G). x.hand) is ∙ hand) ∙ (λ i. let y : Bench G = record (note i) { hand = Running k (piece i) } in y))
      (λ (x : Seat Piece G). seat_after (setup_by s plan) (state_of old) x (DoWrite k word value next))
      (wrote_there s sizes_in plan array place inside bench kept began ready (length old.seats.items) old.seen.items u (Running k next) value)
      ∙ ap (λ (l : List ℤ). let t : Stand G = record (state_of old) { words = l; seats = slice_set (state_of old).seats u (seat_after (setup_by s plan) (state_of old) (seat_at (state_of old).seats u) (DoWrite k word value next)) } in t)
      (ap (λ (x : Memory). x.words) written ∙ ap (λ l. with_word old.words.words (word_number l array place) value) sound.sizes)

  pub note_sound : ((sign : G) (array place : ℕ) (write : Bool) → sizes_in (s.with_note sign array place write) ≡ sizes_in sign) → (b mid : Bench G) (write t : Bool) (words : Memory) → words.sizes ≡ old.words.sizes → mid ≡ (if t then was else notes write was) → b ≡ record mid { hand = b.hand }
      → IsSound sizes_in plan (changed sizes_in plan old u was sound own at b words old.abort old.trap)
  note_sound keeps b mid write t words same note stand =
      sound_by sizes_in plan old u was sound own at b words old.abort old.trap same
      (subst (IsBenchBy sizes_in plan) (sym stand) (let m : IsBenchBy sizes_in plan mid = subst (IsBenchBy sizes_in plan) (sym note) (by t) in record { places = m.places; sizes = m.sizes; begun = m.begun; done = m.done }))
      (subst (λ (x : Bench G). was.done ≤ x.done) (sym stand) (subst (λ (x : Bench G). was.done ≤ x.done) (sym note) (done t)))
    where
      by : (t : Bool) → IsBenchBy sizes_in plan (if t then was else notes write was)
      by true = kept_by sizes_in plan old u was sound own at
      by false = subst (λ (x : Bench G). IsBenchBy sizes_in plan (notes write x)) (sym is) (noted_kept s sizes_in plan array place inside bench kept began ready keeps write)

      done : (t : Bool) → was.done ≤ (if t then was else notes write was).done
      done true = omega arith
      done false = omega arith
