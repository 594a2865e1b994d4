use Rattle.std.proofs.Common.{w64, to_z, arith}
use Rattle.std.proofs.lemmas.Int.{ints}
use Rattle.hc_ctoken.proofs.Numerals.{large, padded_number, plain_number}
use Rattle.hc_ctoken.proofs.number.number_of.Goals as goal

pub returns-then-value-gt-GREATEST_NUMBER : goal.returns-then-value-gt-GREATEST_NUMBER
returns-then-value-gt-GREATEST_NUMBER c = large c.args.padded c.args.value (grind arith)

pub returns-then-padded : goal.returns-then-padded
returns-then-padded c =
    padded_number c.args.padded c.args.value (to_z w64 c.args.value) (grind arith) (cc) (omega (arith, ints))

pub returns-else-padded : goal.returns-else-padded
returns-else-padded c =
    plain_number c.args.padded c.args.value (to_z w64 c.args.value) (grind arith) (cc) (omega (arith, ints))
