-- All that a proof knows of the limits' size. A limit may be changed to any number of which these hold: nothing else goes by its digits.
-- Assumes nothing.
use Rattle.std.specs.Prelude.{◌+◌, ◌*◌, ◌^◌, ◌≤◌, ◌<◌}
use Rattle.std.proofs.Common.{arith}
use Rattle.answer.specs.Outcome.{input_limit, list_limit}

-- a place in an input has 31 bits, so that 2^32 offsets for each byte of an input are counted in 63
pub input_most : input_limit < 2 ^ 31
unfolding input_limit
input_most = omega arith

-- a table of 30 bytes for each record of a list, behind 14 others, can be read
pub list_most : 14 + 30 * list_limit ≤ input_limit
unfolding input_limit list_limit
list_most = omega arith

-- so an index into a list has 27
pub list_small : list_limit < 2 ^ 27
list_small = omega (arith, input_most, list_most)
