-- Bodies found by their numbers.
use Rattle.std.proofs.Common.{◌≡◌, ℕ, zero, suc, ◌+◌, ◌<◌, ◌≤◌, Ok, Err, List, [], ◌∷◌, ◌++◌, map, length, drop, get_or, refl, sym, ap, ◌∙◌, arith, drop-cons, add-one, append_assoc}
use Rattle.std.specs.List.{flat_map}
use Rattle.std.proofs.lemmas.List.{drop_all}
use Rattle.nest_syntax.specs.declared.names.Line.{Line}
use Rattle.nest_syntax.specs.declared.operators.Op.{Op}
use Rattle.nest_syntax.specs.declared.tree.Arm.{Arm}
use Rattle.nest_syntax.specs.declared.tree.Expr.{Expr}
use Rattle.nest_syntax.specs.declared.tree.Loop.{Loop}
use Rattle.nest_syntax.specs.declared.tree.Stmt.{Stmt}
use Rattle.nest_syntax.specs.declared.tree.Stmt.TheVariants as stmt
use Rattle.nest_syntax.specs.declared.tree.Program.{Program}
use Rattle.nest_syntax.specs.Course.{Item, Tested, in_order, chosen, item_of, region_of, bodies_of, tested_of}
use Rattle.nest_syntax.specs.Outcome.{body_at}
use Rattle.nest_syntax.proofs.Equations.{item-declare, item-assign, item-write, item-if, item-loop}
use Rattle.nest_syntax.proofs.Shapes.{regions_same}
use Rattle.nest_mean.specs.Numbered.{bare, at_number, bodies_in_item, bodies_in_items, bodies_in_arm, bodies_in_region}
use Rattle.nest_mean.proofs.Walk.{map_second, region-is, invocation-is, tested_of-is}

pub stands_in_front : {A : Type 0} (xs ys : List A) (n : ℕ) (x : A) → at_number xs n ≡ Ok x → at_number (xs ++ ys) n ≡ Ok x
stands_in_front [] ys n x is = cc
stands_in_front (y ∷ xs) ys zero x is = is
stands_in_front (y ∷ xs) ys (suc n) x is = stands_in_front xs ys n x is

pub stands_behind : {A : Type 0} (xs ys : List A) (n left : ℕ) → at_number xs n ≡ Err left → at_number (xs ++ ys) n ≡ at_number ys left
stands_behind [] ys n left is = let same : n ≡ left = cc in ap (at_number ys) same
stands_behind (y ∷ xs) ys zero left is = cc
stands_behind (y ∷ xs) ys (suc n) left is = stands_behind xs ys n left is

-- a search through the parts of a whole
module _ {A B : Type 0} (f : A → List B) (xs : List A) (i n left : ℕ) where
  abbrev pub IsSought : Type 0
  IsSought = at_number (flat_map f xs) n ≡ at_number (flat_map f (drop i xs)) left

  module _ (there : i < length xs) (here : A) (is : here ≡ get_or xs i here) (sought : IsSought) where
    rest : flat_map f (drop i xs) ≡ f here ++ flat_map f (drop (i + 1) xs)
    rest = ap (λ ys. flat_map f ys) (drop-cons xs i here there) ∙ ap (λ x. f x ++ flat_map f (drop (suc i) xs)) (sym is) ∙ ap (λ k. f here ++ flat_map f (drop k xs)) (sym (add-one i))

    pub is_found : (b : B) → at_number (f here) left ≡ Ok b → at_number (flat_map f xs) n ≡ Ok b
    is_found b found = sought ∙ ap (λ bs. at_number bs left) rest ∙ stands_in_front (f here) (flat_map f (drop (i + 1) xs)) left b found

    pub is_behind : (left' : ℕ) → at_number (f here) left ≡ Err left' → at_number (flat_map f xs) n ≡ at_number (flat_map f (drop (i + 1) xs)) left'
    is_behind left' passed = sought ∙ ap (λ bs. at_number bs left) rest ∙ stands_behind (f here) (flat_map f (drop (i + 1) xs)) left left' passed

  pub is_over : length xs ≤ i → IsSought → at_number (flat_map f xs) n ≡ Err left
  is_over over sought = sought ∙ ap (λ ys. at_number (flat_map f ys) left) (drop_all i xs over)

in_order-bodies : {A : Type 0} (f : A → Item) (xs : List A) → (in_order (map f xs)).bodies ≡ flat_map (λ x. (f x).bodies) xs
in_order-bodies f [] = refl
in_order-bodies f (x ∷ xs) = ap (λ bs. (f x).bodies ++ bs) (in_order-bodies f xs)

chosen-bodies : (arms : List Arm) (other : Item) → (chosen (map (tested_of bare) arms) other).bodies ≡ flat_map bodies_in_arm arms ++ other.bodies
chosen-bodies [] other = refl
chosen-bodies (arm ∷ arms) other = ap (λ bs. bodies_in_arm arm ++ bs) (chosen-bodies arms other) ∙ sym (append_assoc (bodies_in_arm arm) (flat_map bodies_in_arm arms) other.bodies)

pub region_bodies : (l : Loop) → bodies_in_region l ≡ bodies_in_items l.body
region_bodies l = ap (λ (t : Item). t.bodies) (region-is bare l) ∙ in_order-bodies (item_of bare) l.body

pub arm_bodies : (arm : Arm) → bodies_in_arm arm ≡ bodies_in_items arm.body
arm_bodies arm = ap (λ (t : Tested). t.bodies) (tested_of-is bare arm) ∙ in_order-bodies (item_of bare) arm.body

pub declare_bodies : (line : Line) (name : ℕ) (e : Expr) → bodies_in_item (stmt.Declare line name e) ≡ []
declare_bodies line name e = ap (λ (t : Item). t.bodies) (item-declare bare line name e)

pub assign_bodies : (line : Line) (name : ℕ) (o : Op) (e : Expr) → bodies_in_item (stmt.Assign line name o e) ≡ []
assign_bodies line name o e = ap (λ (t : Item). t.bodies) (item-assign bare line name o e)

pub write_bodies : (line : Line) (name : ℕ) (place : Expr) (o : Op) (e : Expr) → bodies_in_item (stmt.Write line name place o e) ≡ (stmt.Write line name place o e ∷ []) ∷ []
write_bodies line name place o e = ap (λ (t : Item). t.bodies) (item-write bare line name place o e)

pub loop_bodies : (l : Loop) → bodies_in_item (stmt.Loop l) ≡ l.body ∷ []
loop_bodies l = ap (λ (t : Item). t.bodies) (item-loop bare l ∙ invocation-is bare l)

pub if_bodies : (arms : List Arm) (other : List Stmt) → bodies_in_item (stmt.If arms other) ≡ flat_map bodies_in_arm arms ++ bodies_in_items other
if_bodies arms other = ap (λ (t : Item). t.bodies) (item-if bare arms other ∙ ap (λ ts. chosen ts (in_order (map (λ (p : Stmt × Item). p.1) (map (λ x. (x, item_of bare x)) other)))) (map_second (tested_of bare) arms)
    ∙ ap (λ is. chosen (map (tested_of bare) arms) (in_order is)) (map_second (item_of bare) other)) ∙ chosen-bodies arms (in_order (map (item_of bare) other)) ∙ ap (λ bs. flat_map bodies_in_arm arms ++ bs) (in_order-bodies (item_of bare) other)

-- the bodies of a program are those of its regions
pub program_bodies : (program : Program) → bodies_of program ≡ flat_map bodies_in_region program.regions
program_bodies program = sym (regions_same bare program.regions) ∙ in_order-bodies (region_of bare) program.regions

stands_at : (bodies : List (List Stmt)) (n : ℕ) (body : List Stmt) → at_number bodies n ≡ Ok body → body_at bodies n ≡ body
stands_at [] n body is = cc
stands_at (b ∷ bodies) zero body is = cc
stands_at (b ∷ bodies) (suc n) body is = stands_at bodies n body is

stands_within : (bodies : List (List Stmt)) (n : ℕ) (body : List Stmt) → at_number bodies n ≡ Ok body → n < length bodies
stands_within [] n body is = cc
stands_within (b ∷ bodies) zero body is = omega arith
stands_within (b ∷ bodies) (suc n) body is = let within : n < length bodies = stands_within bodies n body is in omega (arith, within)

passes_all : (bodies : List (List Stmt)) (n left : ℕ) → at_number bodies n ≡ Err left → length bodies ≤ n
passes_all [] n left is = omega arith
passes_all (b ∷ bodies) zero left is = cc
passes_all (b ∷ bodies) (suc n) left is = let fewer : length bodies ≤ n = passes_all bodies n left is in omega (arith, fewer)

pub body_is : (program : Program) (regions : List Loop) (n : ℕ) (body : List Stmt) → regions ≡ program.regions → at_number (flat_map bodies_in_region regions) n ≡ Ok body → body_at (bodies_of program) n ≡ body
body_is program regions n body same found = stands_at (bodies_of program) n body (ap (λ bs. at_number bs n) (program_bodies program) ∙ ap (λ rs. at_number (flat_map bodies_in_region rs) n) (sym same) ∙ found)

pub too_many : (program : Program) (regions : List Loop) (n left : ℕ) → regions ≡ program.regions → at_number (flat_map bodies_in_region regions) n ≡ Err left → length (bodies_of program) ≤ n
too_many program regions n left same passed = passes_all (bodies_of program) n left (ap (λ bs. at_number bs n) (program_bodies program) ∙ ap (λ rs. at_number (flat_map bodies_in_region rs) n) (sym same) ∙ passed)

none_behind : (bodies : List (List Stmt)) (n : ℕ) → length bodies ≤ n → body_at bodies n ≡ []
none_behind [] n over = refl
none_behind (b ∷ bodies) zero over = absurd (omega (arith, over))
none_behind (b ∷ bodies) (suc n) over = none_behind bodies n (omega (arith, over))

pub body_is_none : (program : Program) (n : ℕ) → length (bodies_of program) ≤ n → body_at (bodies_of program) n ≡ []
body_is_none program n over = none_behind (bodies_of program) n over

pub is_there : (program : Program) (regions : List Loop) (n : ℕ) (body : List Stmt) → regions ≡ program.regions → at_number (flat_map bodies_in_region regions) n ≡ Ok body → n < length (bodies_of program)
is_there program regions n body same found = stands_within (bodies_of program) n body (ap (λ bs. at_number bs n) (program_bodies program) ∙ ap (λ rs. at_number (flat_map bodies_in_region rs) n) (sym same) ∙ found)
