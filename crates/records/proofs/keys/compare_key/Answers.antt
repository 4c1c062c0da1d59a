-- By what both are: the numbers or the bytes are compared, and every Int stands before every String.
use Rattle.std.proofs.Common.{◌∙◌, ap}
use Rattle.tags.specs.Tags.{ordering_of}
use Rattle.tags.proofs.Comparing.{ordering-numbers}
use Rattle.records.proofs.Comparing.{sought-int, sought-string}
use Rattle.records.proofs.keys.compare_key.Goals as goal

pub returns-in-Int-own : goal.returns-in-Int-own
returns-in-Int-own c =
    rw (c.in-Int-own.ensures, sought-int c.args.escaped c.args.bytes.now c.in-Int.is)
    (ap ordering_of c.cmp.ensures ∙ ordering-numbers _ _)

pub returns-in-String : goal.returns-in-String
returns-in-String c = rw (c.in-String.ensures, sought-int c.args.escaped c.args.bytes.now c.in-Int.is)

pub returns-in-Int-own-2 : goal.returns-in-Int-own-2
returns-in-Int-own-2 c =
    rw (c.in-Int-own-2.ensures, sought-string c.args.escaped c.args.bytes.now c.args.key c.in_default.not-Int)

pub returns-in-String-own : goal.returns-in-String-own
returns-in-String-own c =
    rw (
      c.in-String-own.ensures,
      sought-string c.args.escaped c.args.bytes.now c.args.key c.in_default.not-Int,
      c.if-escaped.true,
    ) c.compare_escaped.ensures

pub returns-in-String-2 : goal.returns-in-String-2
returns-in-String-2 c =
    rw (
      c.in-String-2.ensures,
      sought-string c.args.escaped c.args.bytes.now c.args.key c.in_default.not-Int,
      c.if-escaped.false,
    ) c.compare_bytes.ensures
