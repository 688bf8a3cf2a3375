-- A table of refusals: rows in the order in which they are tested, each a number and what it demands.
use Rattle.std.specs.Prelude.{◌≡◌, Bool, true, false, cond, ◌&&◌, ◌||◌, List, [], ◌∷◌, ℕ, eqb, leb, Float}
use Rattle.matrix.specs.System.{every}

-- Whether some number of a list passes.
unfoldable pub any : (ℕ → Bool) → List ℕ → Bool
any p [] = false
any p (s ∷ l) = p s || any p l

pub record Row : Type 0 where
  pub number : ℕ
  pub demands : List Bool

-- Refused with k unless all of these hold.
abbrev pub unless : ℕ → List Bool → Row
unless k l = record { number = k; demands = l }

abbrev pub all : List Bool → Bool
all = every (λ b. b)

-- The number of the first row that fails; 0 for none. Document 01's rows are listed "lowest number first".
unfoldable pub first : List Row → ℕ
first [] = 0
first (r ∷ rs) = cond (all r.demands) (first rs) r.number

-- The table's numbers go from 1 to this one.
abbrev pub last_number : ℕ
last_number = 11

-- Whether the row has one of them.
abbrev pub in_table : Row → Bool
in_table r = leb 1 r.number && leb r.number last_number

-- "1 to 6 leave work too"
abbrev pub leaves_work : ℕ → Bool
leaves_work k = any (eqb k) (1 ∷ 2 ∷ 3 ∷ 4 ∷ 5 ∷ 6 ∷ [])

-- w is the work area before a call that is refused with k, v the one after it: the same for such a k, else v is free.
abbrev pub LeavesWork : ℕ → List Float → List Float → Type 0
LeavesWork k w v = leaves_work k ≡ true → v ≡ w
