-- Within one turn, no finite number, or a whole number of places that the bits tell: Remainder has a law for each.
use Rattle.std.proofs.Common.{◌≡◌, sym, false, true, rules}
use Rattle.std.specs.Float.{binary64}
use Rattle.std.specs.Float.Ieee.{to_bits}
use lib.Ieee.Bits.{of_bits-to_bits}
use Rattle.vectors.specs.Finite.{is_finite}
use Rattle.vectors.proofs.Remainder.{within_turn, rem_within, rem_other, fields, rem_by_bits, rem_by_signed_bits, finite_number}
use Rattle.vectors.proofs.angle.remainder.Goals as goal

pub returns-then-is_within_turn : goal.returns-then-is_within_turn
returns-then-is_within_turn c = let w : within_turn c.args.angle ≡ true = cc in sym (rem_within c.args.angle (search rules) w)

pub returns-then-not-is_finite : goal.returns-then-not-is_finite
returns-then-not-is_finite c = let f : is_finite c.args.angle ≡ false = cc in rem_other c.args.angle f

pub float_to_bits-b : goal.float_to_bits-b
float_to_bits-b c = let f : is_finite c.args.angle ≡ true = cc in finite_number c.args.angle f

pub overflow_sub-field : goal.overflow_sub-field
overflow_sub-field c =
    let w : within_turn c.args.angle ≡ false = cc in
    let f : is_finite c.args.angle ≡ true = cc in
    (fields c.args.angle (to_bits binary64 c.args.angle) (sym (of_bits-to_bits binary64 c.args.angle (search rules))) f w).large

pub returns-then-b-lt9223372036854775808 : goal.returns-then-b-lt9223372036854775808
returns-then-b-lt9223372036854775808 c =
    let w : within_turn c.args.angle ≡ false = cc in
    let f : is_finite c.args.angle ≡ true = cc in
    rem_by_bits c.args.angle _ c.doubled-r.result (sym (of_bits-to_bits binary64 c.args.angle (search rules))) f w c.if-b-lt9223372036854775808.true c.doubled-r.ensures

pub returns : goal.returns
returns c =
    let w : within_turn c.args.angle ≡ false = cc in
    let f : is_finite c.args.angle ≡ true = cc in
    rem_by_signed_bits c.args.angle _ c.doubled-r.result (sym (of_bits-to_bits binary64 c.args.angle (search rules))) f w c.if-b-lt9223372036854775808.false c.doubled-r.ensures
