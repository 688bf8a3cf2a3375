-- A part of a list that was lent and comes back changed is stored where it was; the library says what is then there.
use mathlib.Core.Path.{◌≡◌, refl, sym, ◌∙◌}
use mathlib.Core.List.{List}
use Prim.Native.Nat.{ℕ, ◌+◌, ◌≤◌}
use native.Mathlib.Omega.{arith}
use lib.ListN.{length, replicate, length-replicate, length-take, length-drop}
use lib.Seq.{take_all}
use borrow.Rule.Slice.PartMut.{mid_of, put_mid}
use Rattle.std.proofs.lemmas.Slice.{put_mid-paste}
use Rattle.matrix.specs.Parts.{part, put}
use Rattle.matrix.proofs.Parts.{length_part, paste_put}

-- the part has m elements, which are k, from the a-th on; it comes back as y
module _ {A : Type 0} (w : List A) (a k m : ℕ) (y : List A) (e : m ≡ k) (h : a + k ≤ length w) where
  pub put_over : (z : List A) → y ≡ z → length z ≡ k → put_mid a m w y ≡ put w a z
  put_over z f l = put_mid-paste a m w y z k f (sym e) (sym l) ∙ paste_put w a k z z (take_all k z (omega arith)) l h

  pub put_filled : (x : A) → y ≡ replicate (length (mid_of a m w)) x → put_mid a m w y ≡ put w a (replicate k x)
  put_filled x f =
      let long : length (mid_of a m w) ≡ k = simp (length-take, length-drop) (omega arith) in
      put_over (replicate k x) (rw long at f) (length-replicate k x)

module _ {A : Type 0} where
  pub put_back : (w : List A) (a k : ℕ) (y : List A) → length y ≡ k → a + k ≤ length w → put_mid a k w y ≡ put w a y
  put_back w a k y e h = put_over w a k k y refl h y refl e

  -- where m elements of l were copied to it; i and j are m as the code has it
  pub put_copied : (w l : List A) (o k m : ℕ) {i j : ℕ} {y : List A} → o + m ≤ length w → k + m ≤ length l → i ≡ m → j ≡ m → y ≡ part l k j → put_mid o i w y ≡ put w o (part l k m)
  put_copied w l o k m h g d e q = rw (q, d, e) (put_back w o m (part l k m) (length_part l k m g) h)
