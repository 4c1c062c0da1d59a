use Rattle.output.proofs.Digits.{wrote_digit, wrote-digits}
use Rattle.output.proofs.Output.+write_decimal.Goals as goal

pub returns-then-n-lt10 : goal.returns-then-n-lt10
returns-then-n-lt10 t c = wrote_digit _ c.if-n-lt10.true c.write_byte.ensures

pub returns : goal.returns
returns t c = wrote-digits _ c.if-n-lt10.false c.write_decimal.ensures c.write_byte-2.ensures
