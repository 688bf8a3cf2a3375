-- Energy of bend and twist, its gradient and its approximate Hessian: rod3_darboux.rs, `wdwdwdw_darboux_rod_hair_approx_hessian`, lines 413 to 503.
use Rattle.std.specs.Prelude.{◌≡◌, Float}
use Rattle.vectors.specs.Number.{◌⊕◌, ◌⊗◌, plus_zero}
use Rattle.vectors.specs.Signs.{plus, Side}
use Rattle.vectors.specs.Vec3.{vec3, vec3_sub, vec3_scale, vec3_add_three, vec3_dot}
use Rattle.vectors.specs.Mat3.{mat3_add_three, mat3_scaled_outer_product}
use Rattle.vectors.specs.Vec4.{vec4, vec4_from_vec3}
use Rattle.vectors.specs.Mat4.{mat4, mat4_from_mat3}
use Rattle.vectors.specs.declared.vec3.Vec3.{Vec3}
use Rattle.vectors.specs.declared.mat3.Mat3.{Mat3}
use Rattle.vectors.specs.declared.vec4.Vec4.{Vec4}
use Rattle.vectors.specs.declared.mat4.Mat4.{Mat4}
use Rattle.elements.specs.Square.{half, square}
use Rattle.elements.specs.Darboux.{zero_vec3, cdc_rod_darboux}
use Rattle.elements.specs.declared.rod3_darboux.Rod.{Rod}
use Rattle.elements.specs.declared.rod3_darboux.DarbouxGradient.{DarbouxGradient}
use Rattle.elements.specs.declared.rod3_darboux.bend.BendNode.{BendNode}
use Rattle.elements.specs.declared.rod3_darboux.bend.BendRow.{BendRow}
use Rattle.elements.specs.declared.rod3_darboux.bend.Bend.{Bend}
use Rattle.elements.specs.declared.rod3_darboux.bend.Couplings.{Couplings}

-- k0 a0, k1 a1, k2 a2: what `stiff_bendtwist[i] * r[i]` and `stiff_bendtwist[i] * dcdt[i][jno]` begin with
unfoldable pub entrywise : Vec3 → Vec3 → Vec3
entrywise a b = vec3 (a.x ⊗ b.x) (a.y ⊗ b.y) (a.z ⊗ b.z)

-- the energy alone: lines 428 to 431, over r of line 427
unfoldable pub bend_energy : Vec3 → Vec3 → Float
bend_energy k r = half ⊗ (square k.x r.x ⊕ square k.y r.y ⊕ square k.z r.z)

-- `add_three` of the three gradients of a vertex, each scaled: lines 435 to 438 and 481 to 484
unfoldable pub weighted_sum : BendNode → Vec3 → Vec3
weighted_sum n s = vec3_add_three (vec3_scale n.g0 s.x) (vec3_scale n.g1 s.y) (vec3_scale n.g2 s.z)

abbrev bend_node : Vec3 → Vec3 → Vec3 → Vec3 → BendNode
bend_node a b c ts = record { g0 = a; g1 = b; g2 = c; t = ts }

-- dcdp[i][ino] and dcdt[i][ino] of one vertex
unfoldable pub bend_node0 : DarbouxGradient → BendNode
bend_node0 g = bend_node g.d0.p0 g.d1.p0 g.d2.p0 (vec3 g.d0.t0 g.d1.t0 g.d2.t0)

unfoldable pub bend_node1 : DarbouxGradient → BendNode
bend_node1 g = bend_node g.d0.p1 g.d1.p1 g.d2.p1 (vec3 g.d0.t1 g.d1.t1 g.d2.t1)

unfoldable pub bend_node2 : DarbouxGradient → BendNode
bend_node2 g = bend_node g.d0.p2 g.d1.p2 g.d2.p2 zero_vec3

-- dw[ino], lines 434 to 447: (k0 r0) dcdt0 + (k1 r1) dcdt1 + (k2 r2) dcdt2 at the fourth place
unfoldable pub bend_gradient : BendNode → Vec3 → Vec4
bend_gradient n kr = vec4_from_vec3 (weighted_sum n kr) (vec3_dot kr n.t)

-- m, lines 455 to 470: each block by its own products
unfoldable pub block_sum : Vec3 → BendNode → BendNode → Mat3
block_sum k a b =
    mat3_add_three
    (mat3_scaled_outer_product k.x a.g0 b.g0)
    (mat3_scaled_outer_product k.y a.g1 b.g1)
    (mat3_scaled_outer_product k.z a.g2 b.g2)

-- places 12, 13, 14 (last column), 3, 7, 11 (last row) and 15 set: lines 485 to 490 and 495 to 497
unfoldable pub with_coupling : Mat4 → Vec3 → Vec3 → Float → Mat4
with_coupling m column row d =
    mat4
    (vec4 m.c0.x m.c0.y m.c0.z row.x)
    (vec4 m.c1.x m.c1.y m.c1.z row.y)
    (vec4 m.c2.x m.c2.y m.c2.z row.z)
    (vec4_from_vec3 column d)

unfoldable pub bend_block : Vec3 → BendNode → BendNode → Vec3 → Vec3 → Float → Mat4
bend_block k a b column row d = with_coupling (mat4_from_mat3 (block_sum k a b) plus_zero) column row d

-- v of lines 481 to 484, for each vertex with one twist
unfoldable pub coupled_of : BendNode → BendNode → BendNode → Vec3 → Couplings
coupled_of n0 n1 n2 kt = record { v0 = weighted_sum n0 kt; v1 = weighted_sum n1 kt; v2 = weighted_sum n2 kt }

-- The blocks by rows. Block (i, j) has the coupling of vertex i with twist j as its last column where there is a twist j, that of vertex j with twist i as its last row where there is a twist i, and
-- the product of both twists at place 15 where there are both; v are the couplings with twist 0, u those with twist 1.
unfoldable pub bend_row0 : Vec3 → BendNode → BendNode → BendNode → Vec3 → Couplings → Couplings → BendRow
bend_row0 k n0 n1 n2 kt0 v u =
    record {
      b0 = bend_block k n0 n0 v.v0 v.v0 (vec3_dot kt0 n0.t);
      b1 = bend_block k n0 n1 u.v0 v.v1 (vec3_dot kt0 n1.t);
      b2 = bend_block k n0 n2 zero_vec3 v.v2 plus_zero;
    }

unfoldable pub bend_row1 : Vec3 → BendNode → BendNode → BendNode → Vec3 → Couplings → Couplings → BendRow
bend_row1 k n0 n1 n2 kt1 v u =
    record {
      b0 = bend_block k n1 n0 v.v1 u.v0 (vec3_dot kt1 n0.t);
      b1 = bend_block k n1 n1 u.v1 u.v1 (vec3_dot kt1 n1.t);
      b2 = bend_block k n1 n2 zero_vec3 u.v2 plus_zero;
    }

unfoldable pub bend_row2 : Vec3 → BendNode → BendNode → BendNode → Couplings → Couplings → BendRow
bend_row2 k n0 n1 n2 v u =
    record {
      b0 = bend_block k n2 n0 v.v2 zero_vec3 plus_zero;
      b1 = bend_block k n2 n1 u.v2 zero_vec3 plus_zero;
      b2 = bend_block k n2 n2 zero_vec3 zero_vec3 plus_zero;
    }

-- bend and twist from the Darboux vector and its gradient: lines 427 to 502
unfoldable pub approx_hessian_of : DarbouxGradient → Vec3 → Vec3 → Bend
approx_hessian_of g k darboux =
    let r = vec3_sub g.c darboux in
    let kr = entrywise k r in
    let n0 = bend_node0 g in
    let n1 = bend_node1 g in
    let n2 = bend_node2 g in
    let kt0 = entrywise k n0.t in
    let kt1 = entrywise k n1.t in
    let v = coupled_of n0 n1 n2 kt0 in
    let u = coupled_of n0 n1 n2 kt1 in
    record {
      w = bend_energy k r;
      dw0 = bend_gradient n0 kr;
      dw1 = bend_gradient n1 kr;
      dw2 = vec4_from_vec3 (weighted_sum n2 kr) plus_zero;
      row0 = bend_row0 k n0 n1 n2 kt0 v u;
      row1 = bend_row1 k n0 n1 n2 kt1 v u;
      row2 = bend_row2 k n0 n1 n2 v u;
    }

unfoldable pub wdwdwdw_darboux_rod_hair_approx_hessian : Rod → Vec3 → Vec3 → Bend
wdwdwdw_darboux_rod_hair_approx_hessian rod k darboux = approx_hessian_of (cdc_rod_darboux rod) k darboux

-- The energy that the element answers is the one defined alone.
abbrev pub BendAnswersEnergy : Type 0
BendAnswersEnergy = (rod : Rod) (k darboux : Vec3) → (wdwdwdw_darboux_rod_hair_approx_hessian rod k darboux).w ≡ bend_energy k (vec3_sub (cdc_rod_darboux rod).c darboux)

-- Where none of the stiffnesses is below 0, neither is the energy; NaN counts as not below 0 in both.
abbrev pub BendNotBelow : Type 0
BendNotBelow = (k r : Vec3) → Side plus k.x → Side plus k.y → Side plus k.z → Side plus (bend_energy k r)
