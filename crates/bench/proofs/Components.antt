-- A component of a vector, by its number; a vector that is kept where it is pinned is so in each component.
use mathlib.Core.Path.{◌≡◌, refl, ◌∙◌}
use mathlib.Core.List.{List}
use mathlib.Core.Logic.{◌≢◌}
use Prim.Native.Nat.{ℕ, zero, suc, ◌+◌, ◌<◌}
use native.Mathlib.Nat.{add-zero}
use native.Mathlib.Omega.{arith}
use lib.ListN.{get_or}
use lib.Ieee.{Float, nan}
use Rattle.vectors.specs.declared.vec3.Vec3.{Vec3}
use Rattle.matrix.specs.Rows.{row3}
use Rattle.matrix.specs.Pins.{unless_pinned}
use Rattle.bench.specs.Update.{vec3_unless_pinned}

abbrev pub component : ℕ → Vec3 → Float
component zero v = v.x
component (suc zero) v = v.y
component (suc (suc j)) v = v.z

pub row_component : (l : List Float) (a j : ℕ) → j < 3 → get_or l (a + j) nan ≡ component j (row3 l a)
unfolding row3
row_component l a zero h = rw (add-zero a)
row_component l a (suc zero) h = refl
row_component l a (suc (suc zero)) h = refl
row_component l a (suc (suc (suc j))) h = absurd (omega arith)

pinned_number : (b : ℕ) (old new : Float) → b ≢ 0 → unless_pinned b old new ≡ old
unfolding unless_pinned
pinned_number zero old new h = absurd (h refl)
pinned_number (suc b) old new h = refl

free_number : (b : ℕ) (old new : Float) → b ≡ 0 → unless_pinned b old new ≡ new
unfolding unless_pinned
free_number b old new h = rw h

unless_component : (pins : List ℕ) (o : ℕ) (old new : Vec3) (j : ℕ) → j < 3 → component j (vec3_unless_pinned pins o old new) ≡ unless_pinned (get_or pins (o + j) 0) (component j old) (component j new)
unfolding vec3_unless_pinned
unless_component pins o old new zero h = rw (add-zero o)
unless_component pins o old new (suc zero) h = refl
unless_component pins o old new (suc (suc zero)) h = refl
unless_component pins o old new (suc (suc (suc j))) h = absurd (omega arith)

module _ (pins : List ℕ) (o : ℕ) (old new : Vec3) (j : ℕ) (h : j < 3) where
  pub pinned_component : get_or pins (o + j) 0 ≢ 0 → component j (vec3_unless_pinned pins o old new) ≡ component j old
  pinned_component p = unless_component pins o old new j h ∙ pinned_number (get_or pins (o + j) 0) (component j old) (component j new) p

  pub free_component : get_or pins (o + j) 0 ≡ 0 → component j (vec3_unless_pinned pins o old new) ≡ component j new
  free_component p = unless_component pins o old new j h ∙ free_number (get_or pins (o + j) 0) (component j old) (component j new) p
