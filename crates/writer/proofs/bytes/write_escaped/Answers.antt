use Rattle.writer.proofs.Pages.{putting_more, putting_done}
use Rattle.writer.proofs.Escapes.{escaped-more, escaped-done}
use Rattle.writer.proofs.bytes.write_escaped.Goals as goal

pub loop-byte-preserved : goal.loop-byte-preserved
loop-byte-preserved c =
    putting_more c.loop-byte.invariant (escaped-more _ _ c.loop-byte-test.true) c.write_escaped_byte-next.ensures
    c.write_escaped_byte-next.auto.out

pub returns : goal.returns
returns c = putting_done c.loop-byte.invariant (escaped-done _ _ c.loop-byte-test.false)
