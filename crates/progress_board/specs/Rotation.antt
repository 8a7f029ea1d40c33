-- The rotation: which steps one thread makes, that looks at one actor after another.
use Rattle.std.specs.Prelude.{◌≡◌, ℕ, zero, suc, Option, List, [], ◌∷◌, ◌++◌}
use Rattle.std.specs.Option.{option_map_or}

-- Actors are looked at one after another, and each that has an enabled row makes one step: those that made one.
abbrev pub taken : {S : Type 0} → (S → ℕ → Option S) → S → List ℕ → List ℕ
taken step s [] = []
taken step s (actor ∷ looks) = option_map_or (λ t. actor ∷ taken step t looks) (step s actor) (taken step s looks)

-- the state that they leave
abbrev pub after : {S : Type 0} → (S → ℕ → Option S) → S → List ℕ → S
after step s [] = s
after step s (actor ∷ looks) = option_map_or (λ t. after step t looks) (step s actor) (after step s looks)

-- the numbers below n, in order
abbrev pub up_to : ℕ → List ℕ
up_to zero = []
up_to (suc n) = up_to n ++ n ∷ []

-- so many rounds of the actors below n
abbrev pub rounds : ℕ → ℕ → List ℕ
rounds n zero = []
rounds n (suc k) = rounds n k ++ up_to n

-- The rotation of a state with n actors: the entries of the schedule that are enabled, and then rounds of all actors,
-- for as long as any of them is enabled. The measure is only a bound on the rounds: a round of a machine that isn't
-- finished makes a step, each step makes the measure smaller, and rounds behind the last step make none.
abbrev pub rotation : {S : Type 0} → (S → ℕ → Option S) → (S → ℕ) → S → ℕ → List ℕ → List ℕ
rotation step measure s n schedule = taken step s (schedule ++ rounds n (measure s))

-- so many looks go on from one state and history to another
pub record GoesOn {S : Type 0} (step : S → ℕ → Option S) (s : S) (history looks : List ℕ) (t : S) (longer : List ℕ) : Type 0 where
  pub appended : longer ≡ history ++ taken step s looks
  pub state : t ≡ after step s looks

-- it stops somewhere within so many looks: the first of them go on from one state and history to another
pub record StopsIn {S : Type 0} (step : S → ℕ → Option S) (s : S) (history looks : List ℕ) (t : S) (longer : List ℕ) : Type 0 where
  pub passed : List ℕ
  pub left : List ℕ
  pub split : looks ≡ passed ++ left
  pub goes : GoesOn step s history passed t longer
