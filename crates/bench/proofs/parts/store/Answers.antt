-- One number of the list more is stored, and all of them fill the part.
use Rattle.std.proofs.Common.{◌≡◌, ◌∙◌, List, [], ◌∷◌, ℕ, ◌+◌, length, refl, sym, ap, arith}
use Rattle.std.specs.Prelude.{Float, get_or, set}
use Rattle.std.specs.Float.{nan}
use native.Mathlib.Numerals.{add-one}
use Rattle.matrix.specs.Parts.{put, table}
use Rattle.matrix.proofs.Parts.{put_none, put_more, table_of}
use Rattle.bench.proofs.parts.store.Goals as goal

put_whole : (w l : List Float) → length w ≡ length l → put w 0 l ≡ l
unfolding put
put_whole [] [] e = refl
put_whole (a ∷ w) (b ∷ l) e = ap (λ (x : List Float). b ∷ x) (put_whole w l (omega (arith, e)))
put_whole [] (b ∷ l) e = absurd (omega (arith, e))
put_whole (a ∷ w) [] e = absurd (omega (arith, e))

pub loop-i-init : goal.loop-i-init
unfolding table
loop-i-init c = sym (put_none _ _)

pub loop-i-preserved : goal.loop-i-preserved
loop-i-preserved c =
    let l = c.loop-i in
    let a = c.args in
    let f = λ (k : ℕ). get_or a.list.now k nan in
    let z : l.i ≡ 0 + l.i = omega arith in
    ap (λ (w : List Float). set w l.i (f l.i)) l.invariant
    ∙ ap (λ (j : ℕ). set (put a.part.now 0 (table l.i f)) j (f l.i)) z
    ∙ put_more a.part.now 0 l.i f
    ∙ ap (λ (n : ℕ). put a.part.now 0 (table n f)) (sym (add-one l.i))

pub returns : goal.returns
returns c =
    let a = c.args in
    let e : c.loop-i.i ≡ length a.list.now = omega arith in
    c.loop-i.invariant ∙ ap (put a.part.now 0) (rw e (table_of nan a.list.now)) ∙ put_whole a.part.now a.list.now c.requires
