-- The siblings that an iterator over them has left.
use Rattle.std.specs.Prelude.{ℕ, List}
use Rattle.row.specs.Words.{record_count}
use Rattle.records.specs.Siblings.{chain}
use Rattle.records.specs.declared.line.Siblings.{Siblings}

abbrev pub left : Siblings → List ℕ
left s = chain s.words.now (record_count s.words.now) s.cur
