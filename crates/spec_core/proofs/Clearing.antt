-- Workers that begin a segment anew.
use Rattle.std.proofs.Common.{◌≡◌, ℕ, zero, suc, ◌+◌, ◌<◌, ◌≤◌, Bool, true, false, ◌&&◌, Some, None, List, [], ◌∷◌, ◌++◌, map, take, drop, length, replicate, set, get_or, refl, sym, ap, ◌∙◌, arith}
use Rattle.std.proofs.lemmas.List.{length-replicate}
use Rattle.nest_syntax.specs.Among.{Each}
use Rattle.progress_board.specs.declared.options.Engine.{Engine as Choice}
use Rattle.progress_board.specs.declared.options.Engine.TheVariants as engine
use Rattle.spec_machine.specs.Facts.{Pair}
use Rattle.spec_core.specs.Engine.{far_with}
use Rattle.spec_core.specs.Passed.{unordered_in, passed_in}
use Rattle.spec_core.proofs.Seating.{many}
use Rattle.spec_core.proofs.Ordered.{filter_none}
use Rattle.epoch_plan.specs.declared.tasks.Seen.{Seen}
use Rattle.spec_machine.specs.Machine.{fresh_seat, pairs}
use Rattle.spec_core.specs.declared.plan.Plan.{Plan}
use Rattle.spec_core.specs.declared.table.Table.{Table}
use Rattle.spec_core.specs.Hands.{Bench, cleared, seats_from, seats_of}
use Rattle.spec_core.specs.Tables.{IsDeskBy, IsBenchBy, IsSound}

pub map_twice : {A B C : Type 0} (f : A → B) (h : B → C) (xs : List A) → map h (map f xs) ≡ map (λ x. h (f x)) xs
map_twice f h [] = refl
map_twice f h (x ∷ xs) = ap (λ l. h (f x) ∷ l) (map_twice f h xs)

-- the next of a list is mapped in its place
pub set_next : {A : Type 0} (f : A → A) (xs : List A) (i : ℕ) (x : A) → i < length xs → x ≡ get_or (map f (take i xs) ++ drop i xs) i x → set (map f (take i xs) ++ drop i xs) i (f x) ≡ map f (take (i + 1) xs) ++ drop (i + 1) xs
set_next f [] i x lt is = absurd (omega arith)
set_next f (y ∷ xs) zero x lt is = ap (λ z. f z ∷ xs) is
set_next f (y ∷ xs) (suc i) x lt is = let e : suc i + 1 ≡ suc (i + 1) = omega arith in rw e (ap (λ l. f y ∷ l) (set_next f xs i x (omega arith) is))

pub fresh : {G : Type 0} (width : ℕ) (seen : List Seen) (k : ℕ) (benches : List (Bench G)) → seats_from width seen k (map cleared benches) ≡ replicate (length benches) fresh_seat
fresh width seen k [] = refl
fresh width seen k (b ∷ benches) = ap (λ l. fresh_seat ∷ l) (fresh width seen (suc k) benches)

pub cleared_kept : {G : Type 0} (sizes_in : G → List ℕ) (plan : Plan) (benches : List (Bench G)) → Each (IsBenchBy sizes_in plan) benches → Each (IsBenchBy sizes_in plan) (map cleared benches)
cleared_kept sizes_in plan [] each = tt
cleared_kept sizes_in plan (b ∷ benches) each = (record { places = each.0.places; sizes = each.0.sizes; begun = omega arith; done = omega arith }, cleared_kept sizes_in plan benches each.1)

-- a table whose segment begins anew is sound
pub anew_sound : {G : Type 0} (sizes_in : G → List ℕ) (plan : Plan) (old new : Table G) → IsSound sizes_in plan old → length new.seats.items ≡ length old.seats.items → Each (IsBenchBy sizes_in plan) new.seats.items → new.seen.items ≡ old.seen.items
    → new.words.sizes ≡ old.words.sizes → new.mark.sizes ≡ old.mark.sizes → IsDeskBy plan new.desk → new.distance ≤ 64 → new.checker ≡ None → IsSound sizes_in plan new
anew_sound sizes_in plan old new sound seats benches seen words mark desk near fresh_checker = record {
  seats = seats ∙ sound.seats;
  benches = benches;
  seen = ap length seen ∙ sound.seen;
  sizes = words ∙ sound.sizes;
  mark = mark ∙ sound.mark;
  desk = desk;
  near = near;
  reached = λ names is. absurd (let none : None ≡ Some names = sym fresh_checker ∙ is in cc);
}

pub far_few : (distance : ℕ) (choice : Choice) → distance ≤ 64 → far_with distance choice ≤ 64
far_few distance engine.Domore few = omega arith
far_few distance engine.Speccross few = few
far_few distance engine.Barrier few = omega arith

-- as many workers as before
pub many_anew : {G : Type 0} (seen : List Seen) (benches : List (Bench G)) (n : ℕ) → seats_of seen benches ≡ replicate n fresh_seat → length benches ≡ n
many_anew {G} seen benches n is = sym (many (length benches) seen 0 benches) ∙ ap length is ∙ length-replicate n fresh_seat

-- where none was passed last, none is passed
pub none_passed : (width epochs : ℕ) (seen : List Seen) → passed_in width epochs seen None ≡ []
none_passed width epochs seen = filter_none (λ (p : Pair). unordered_in width seen p && false) (pairs width epochs) (λ p among. none (unordered_in width seen p))
  where
    none : (t : Bool) → (t && false) ≡ false
    none true = refl
    none false = refl
