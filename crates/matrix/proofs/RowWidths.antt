-- The two widths in use: vectors of three and rows of four, with what Widths asks of each.
use mathlib.Core.Path.{◌≡◌, refl}
use mathlib.Core.List.{List, [], ◌∷◌, ◌++◌}
use Prim.Native.Nat.{ℕ, suc, ◌+◌, ◌*◌, ◌≤◌, ◌<◌}
use native.Mathlib.Omega.{arith}
use lib.ListN.{length, get_or, drop}
use lib.Seq.{drop-cons}
use lib.Ieee.{Float, nan}
use Rattle.vectors.specs.declared.vec3.Vec3.{Vec3}
use Rattle.vectors.specs.declared.vec4.Vec4.{Vec4}
use Rattle.matrix.specs.Parts.{part, table}
use Rattle.matrix.specs.Rows.{row3, rows3, numbers3, flat3, row4, rows4, numbers4, flat4}
use Rattle.matrix.proofs.Widths.{Width}

drop_at : (l : List Float) (i j : ℕ) → i < length l → j ≡ i + 1 → drop i l ≡ get_or l i nan ∷ drop j l
drop_at l i j h e = let d : j ≡ suc i = omega arith in rw d (drop-cons l i nan h)

-- ---- vectors of three
pub flat3_none : flat3 [] ≡ []
unfolding flat3
flat3_none = refl

pub flat3_cons : (v : Vec3) (vs : List Vec3) → flat3 (v ∷ vs) ≡ numbers3 v ++ flat3 vs
unfolding flat3
flat3_cons v vs = refl

pub numbers3_long : (v : Vec3) → length (numbers3 v) ≡ 3
unfolding numbers3
numbers3_long v = refl

pub row3_first : (v : Vec3) (l : List Float) → row3 (numbers3 v ++ l) 0 ≡ v
unfolding row3 numbers3
row3_first v l = refl

pub rows3_table : (l : List Float) (o n : ℕ) → rows3 l o n ≡ table n (λ i. row3 l (o + 3 * i))
unfolding rows3
rows3_table l o n = refl

pub numbers3_row : (l : List Float) (o : ℕ) → o + 3 ≤ length l → numbers3 (row3 l o) ≡ part l o 3
unfolding numbers3 row3 part
numbers3_row l o h = rw (drop_at l o (o + 1) (omega arith) refl, drop_at l (o + 1) (o + 2) (omega arith) (omega arith), drop_at l (o + 2) (o + 3) (omega arith) (omega arith))

pub row3_same : (w v : List Float) (a b : ℕ) → ((i j : ℕ) → a ≤ i → i < a + 3 → i + b ≡ j + a → get_or w i nan ≡ get_or v j nan) → row3 w a ≡ row3 v b
unfolding row3
row3_same w v a b h = rw (h a b (omega arith) (omega arith) (omega arith), h (a + 1) (b + 1) (omega arith) (omega arith) (omega arith), h (a + 2) (b + 2) (omega arith) (omega arith) (omega arith))

abbrev pub three : Width Vec3
three = record { wide = 3; numbers = numbers3; flat = flat3; row = row3; rows = rows3; length_numbers = numbers3_long; flat_none = flat3_none; flat_cons = flat3_cons; row_first = row3_first; rows_table = rows3_table; numbers_row = numbers3_row; row_same = row3_same }

-- ---- rows of four
pub flat4_none : flat4 [] ≡ []
unfolding flat4
flat4_none = refl

pub flat4_cons : (v : Vec4) (vs : List Vec4) → flat4 (v ∷ vs) ≡ numbers4 v ++ flat4 vs
unfolding flat4
flat4_cons v vs = refl

pub numbers4_long : (v : Vec4) → length (numbers4 v) ≡ 4
unfolding numbers4
numbers4_long v = refl

pub row4_first : (v : Vec4) (l : List Float) → row4 (numbers4 v ++ l) 0 ≡ v
unfolding row4 numbers4
row4_first v l = refl

pub rows4_table : (l : List Float) (o n : ℕ) → rows4 l o n ≡ table n (λ i. row4 l (o + 4 * i))
unfolding rows4
rows4_table l o n = refl

pub numbers4_row : (l : List Float) (o : ℕ) → o + 4 ≤ length l → numbers4 (row4 l o) ≡ part l o 4
unfolding numbers4 row4 part
numbers4_row l o h = rw (drop_at l o (o + 1) (omega arith) refl, drop_at l (o + 1) (o + 2) (omega arith) (omega arith), drop_at l (o + 2) (o + 3) (omega arith) (omega arith), drop_at l (o + 3) (o + 4) (omega arith) (omega arith))

pub row4_same : (w v : List Float) (a b : ℕ) → ((i j : ℕ) → a ≤ i → i < a + 4 → i + b ≡ j + a → get_or w i nan ≡ get_or v j nan) → row4 w a ≡ row4 v b
unfolding row4
row4_same w v a b h =
    rw (
      h a b (omega arith) (omega arith) (omega arith),
      h (a + 1) (b + 1) (omega arith) (omega arith) (omega arith),
      h (a + 2) (b + 2) (omega arith) (omega arith) (omega arith),
      h (a + 3) (b + 3) (omega arith) (omega arith) (omega arith),
    )

abbrev pub four : Width Vec4
four = record { wide = 4; numbers = numbers4; flat = flat4; row = row4; rows = rows4; length_numbers = numbers4_long; flat_none = flat4_none; flat_cons = flat4_cons; row_first = row4_first; rows_table = rows4_table; numbers_row = numbers4_row; row_same = row4_same }
