-- The system with pins at work: sparse_square.rs, `set_fixed_bc` with 1, lines 3 to 55.
use Rattle.std.specs.Prelude.{Bool, List, ℕ, eqb}
use Rattle.matrix.specs.Blocks.{matrix_of, block_in}
use Rattle.matrix.specs.Pins.{pinned_columns, block_fixed, set_fixed_bc, set_fix_dof_to_rhs_vector}
use Rattle.matrix.specs.System.{System, changed_if}

-- The system s with those of its blocks pinned whose row and column pass the test t.
unfoldable pub fixed_where : ℕ → List ℕ → (ℕ → ℕ → Bool) → System → System
fixed_where n pins t s = record { gradient = s.gradient; rows = matrix_of n (λ i j. changed_if (t i j) (block_fixed pins i j (pinned_columns (eqb i j))) (block_in n s.rows i j)) }

-- With all of them pinned.
unfoldable pub with_fixed : ℕ → List ℕ → System → System
with_fixed n pins s = record { gradient = s.gradient; rows = set_fixed_bc n pins s.rows }

-- "Pins then act through `set_fix_dof_to_rhs_vector` and `set_fixed_bc` with 1": document 01, "Assembly"
unfoldable pub with_pins : ℕ → List ℕ → System → System
with_pins n pins s = record { gradient = set_fix_dof_to_rhs_vector n pins s.gradient; rows = set_fixed_bc n pins s.rows }
