-- The map of the areas, computed.
use mathlib.Core.Path.{refl}
use Rattle.bench.specs.Areas.{Filled}

pub filled : Filled
filled = record { rest = refl; drape = refl; pins = refl; vector = refl; rest_vectors = refl; drape_vectors = refl; four_pins = refl }
