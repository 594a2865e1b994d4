use Rattle.std.specs.Str.Parse.{digits_value}
use Rattle.hc_ctoken.specs.Numbers.{is_padded}
use Rattle.hc_ctoken.proofs.Numerals.{number_capped}
use Rattle.hc_ctoken.proofs.number.number.Goals as goal

pub returns : goal.returns
returns c =
    let ds = c.args.digits.now in
    rw (c.number_of.ensures, c.is_padded.ensures, c.value.ensures) (number_capped (is_padded ds) (digits_value 10 ds))
