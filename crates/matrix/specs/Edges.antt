-- What the assembly knows of each edge before it makes the elements: its lengths and frames, at rest and as it is staged; and the elements by these. proofs/EdgeLaws.antt says that they are those of HairSystem.antt.
use Rattle.std.specs.Prelude.{List, ℕ, ◌+◌, ◌-◌, get_or, replicate, Float}
use Rattle.std.specs.Float.{nan}
use Rattle.vectors.specs.Number.{plus_zero}
use Rattle.vectors.specs.Vec3.{vec3_sub, vec3_norm}
use Rattle.vectors.specs.declared.vec3.Vec3.{Vec3}
use Rattle.elements.specs.Spring3.{wdwddw_squared_length_difference}
use Rattle.elements.specs.Darboux.{edge_frame, darboux_of, cdc_of}
use Rattle.elements.specs.Bend.{approx_hessian_of}
use Rattle.elements.specs.declared.spring3.Stretch.{Stretch}
use Rattle.elements.specs.declared.rod3_darboux.EdgeFrame.{EdgeFrame}
use Rattle.elements.specs.declared.rod3_darboux.bend.Bend.{Bend}
use Rattle.matrix.specs.declared.edges.EdgeFrames.{EdgeFrames}
use Rattle.matrix.specs.declared.lists.Lists.{Lists}
use Rattle.matrix.specs.Parts.{put, table}
use Rattle.matrix.specs.Rows.{rows3}
use Rattle.matrix.specs.HairSystem.{Element, Shape, shape, vec3_at, stretch_element}

-- the length of the edge from vertex i, and those of the first m edges in 32 places
unfoldable pub length_at : List Vec3 → ℕ → Float
length_at p i = vec3_norm (vec3_sub (vec3_at p (i + 1)) (vec3_at p i))

unfoldable pub edge_lengths : ℕ → List Vec3 → List Float
edge_lengths m p = put (replicate 32 plus_zero) 0 (table m (length_at p))

-- the stretch of the edge from vertex i by its length at rest, and all stretch elements
unfoldable pub stretch_by : List Vec3 → Float → ℕ → Float → Stretch
stretch_by staged k i ini = wdwddw_squared_length_difference k (vec3_at staged i) (vec3_at staged (i + 1)) ini

unfoldable pub stretches_by : ℕ → List Float → List Vec3 → Float → List Element
stretches_by n ini staged k = table (n - 1) (λ i. stretch_element i (stretch_by staged k i (get_or ini i nan)))

-- the shape that is read from the two lists
abbrev pub shape_of : Lists → Shape
shape_of l = shape (rows3 l.xyz.now 0 l.n.count) (rows3 l.framex.now 0 l.n.count)

-- the edge from vertex i, and the bend and twist of an edge and the next one
unfoldable pub frame_at : Shape → ℕ → EdgeFrame
frame_at s i = edge_frame (vec3_at s.positions i) (vec3_at s.positions (i + 1)) (vec3_at s.frames i)

unfoldable pub frames_at : Shape → Shape → ℕ → EdgeFrames
frames_at rest staged i = record { ini = frame_at rest i; def = frame_at staged i }

unfoldable pub bend_between : EdgeFrames → EdgeFrames → Vec3 → Bend
bend_between a b k = approx_hessian_of (cdc_of a.def b.def) k (darboux_of a.ini.frame b.ini.frame)
