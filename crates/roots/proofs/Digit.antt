-- One more binary digit of a root, and the rounding of a finished one, as arithmetic on the numbers that `nearest_root` carries.
-- With b for half of unit, the digit 1 adds 4 * b to root and takes 2 * (root + unit) off twice rem. After either digit the radicand is the same.
use mathlib.Core.Path.{◌≡◌, refl}
use Prim.Native.Nat.{ℕ, zero, suc, ◌+◌, ◌-◌, ◌*◌, ◌/◌, ◌^◌, ◌≤◌, ◌<◌}
use native.Mathlib.Nat.{pow-suc, lt_of_not-le, mul-le-mul_left, mul-le-mul_right}
use native.Mathlib.Decide.{dec_le}
use native.Mathlib.Omega.{arith}
use Rattle.roots.specs.Steps.{NearestRoot, Partial, radicand}

-- What the next call is given: s as its root, and what take leaves of twice rem.
pub record Step (root rem unit left s take : ℕ) : Type 0 where
  pub covered : take ≤ rem * 2
  pub partial : Partial s (rem * 2 - take) (unit / 2) (left - 1)
  pub same : radicand s (rem * 2 - take) (unit / 2) ≡ radicand root rem unit

abbrev Halved : ℕ → ℕ → Type 0
Halved unit left = (unit ≡ 2 * (unit / 2)) × (unit / 2 ≡ 2 ^ (left - 1))

halved : (unit left : ℕ) → unit ≡ 2 ^ left → (left ≡ 0 → ⊥) → Halved unit left
halved unit zero w more = absurd (more refl)
halved unit (suc k) w more =
    let back : suc k - 1 ≡ k = omega arith in
    rw back (omega (arith, pow-suc 2 k))

module _ (root rem unit left : ℕ) (p : Partial root rem unit left) where
  -- d, c and e are what `digit` and the two calls of `chosen` ensure.
  pub step : (left ≡ 0 → ⊥) → (bit s take : ℕ)
      → (rem < root + unit → bit ≡ 0) × (root + unit ≤ rem → bit ≡ 1)
      → (bit ≡ 0 → s ≡ root) × (0 < bit → s ≡ root + unit + unit)
      → (bit ≡ 0 → take ≡ 0) × (0 < bit → take ≡ (root + unit) * 2)
      → Step root rem unit left s take
  step more bit s take d c e =
      let h = halved unit left p.weight more in
      elim (dec_le (root + unit) rem) [
        | yes g ↦ let k : 0 < bit = omega (arith, d.1 g) in one h g (c.1 k) (e.1 k)
        | no g ↦ let k = d.0 (lt_of_not-le g) in nought h (lt_of_not-le g) (c.0 k) (e.0 k)
      ]
    where
      one_same : (root b x : ℕ) → (root + 4 * b) * (root + 4 * b) + 4 * (2 * x * b) ≡ root * root + 4 * ((root + 2 * b + x) * (2 * b))
      one_same root b x = omega arith

      one : Halved unit left → root + unit ≤ rem → s ≡ root + unit + unit → take ≡ (root + unit) * 2 → Step root rem unit left s take
      one h g es et =
          let x = rem - (root + unit) in
          let s_is : s ≡ root + 4 * (unit / 2) = omega arith in
          let rest_is : rem * 2 - take ≡ 2 * x = omega arith in
          let rem_is : rem ≡ root + 2 * (unit / 2) + x = omega arith in
          record { covered = omega arith; partial = omega arith; same = cc (one_same root (unit / 2) x) }

      nought_same : (root rem b : ℕ) → root * root + 4 * (rem * 2 * b) ≡ root * root + 4 * (rem * (2 * b))
      nought_same root rem b = omega arith

      nought : Halved unit left → rem < root + unit → s ≡ root → take ≡ 0 → Step root rem unit left s take
      nought h g es et =
          let rest_is : rem * 2 - take ≡ rem * 2 = omega arith in
          record { covered = omega arith; partial = omega arith; same = cc (nought_same root rem (unit / 2)) }

  -- A finished root is 4 * R, and its remainder 4 * d with n ≡ R * R + d.
  pub nearest : left ≡ 0 → (r n : ℕ) → (rem ≤ root → r ≡ root / 4) × (root < rem → r ≡ root / 4 + 1) → radicand root rem unit ≡ 16 * n → NearestRoot n r
  nearest last r n c e =
      let R = root / 4 in
      let d = n - R * R in
      let one : unit ≡ 1 = rw last at p.weight in
      let f : (n ≡ R * R + d) × (rem ≡ 4 * d) = parts R (omega arith) one in
      elim (dec_le rem root) [
        | yes g ↦ rw (f.0, c.0 g) (down R d (omega arith) (omega arith))
        | no g ↦ rw (f.0, c.1 (lt_of_not-le g)) (up R d (omega arith) (omega arith))
      ]
    where
      parts : (R : ℕ) → root ≡ 4 * R → unit ≡ 1 → (n ≡ R * R + (n - R * R)) × (rem ≡ 4 * (n - R * R))
      parts R a b =
          let e' : 4 * R * (4 * R) + 4 * (rem * 1) ≡ 16 * n = rw (a, b) at e in
          omega arith

      down : (R d : ℕ) → 0 < R → d ≤ R → NearestRoot (R * R + d) R
      down R d p h = omega arith

      up : (R d : ℕ) → R < d → d ≤ 2 * R → NearestRoot (R * R + d) (R + 1)
      up R d h k = omega arith

-- ---- bounds of a whole number nearest to a root: at most K below K * K, and at least K from there on
pub bounded : (n q K : ℕ) → NearestRoot n q → n < K * K → q ≤ K
bounded n q K h l = elim (dec_le q K) [ yes g ↦ g | no g ↦ absurd (beyond (lt_of_not-le g)) ]
  where
    beyond : K < q → ⊥
    beyond g = omega (arith, mul-le-mul_right q g, mul-le-mul_left K g)

pub reached : (n q K : ℕ) → NearestRoot n q → K * K ≤ n → K ≤ q
reached n q K h l = elim (dec_le K q) [ yes g ↦ g | no g ↦ absurd (short (lt_of_not-le g)) ]
  where
    short : q < K → ⊥
    short g = omega (arith, mul-le-mul_right K g, mul-le-mul_left q g)
