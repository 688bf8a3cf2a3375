-- Opens all that computing a root needs: an evaluated example says `unfolding opened`, and nothing else does.
use Rattle.std.specs.Prelude.{ℕ}
use Rattle.std.specs.Float.Ieee.{of_bits, to_bits, round, size}
use Rattle.roots.specs.WholeRoot.{root_digits, whole_root}
use Rattle.roots.specs.Sqrt.{root_of, sqrt_of}

unfoldable pub opened : ℕ
unfolding root_digits whole_root root_of sqrt_of of_bits to_bits round size
opened = 0
