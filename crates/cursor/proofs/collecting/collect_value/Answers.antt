-- A value ends at the first `&` or the end, and its segment is empty where that is the place itself.
use Rattle.cursor.proofs.Collected.{value_null, value-string}
use Rattle.cursor.proofs.collecting.collect_value.Goals as goal
use Rattle.cursor.proofs.collecting.collect_value.Goals.{then-end-place, else-end-place}

pub returns : goal.returns
returns c =
    elim c.if-end-place.branch [
      | then-end-place w ↦ rw w.leaf-is (value_null c.value_end-end.ensures w.if-end-place.true)
      | else-end-place w ↦ rw w.leaf-is (value-string c.value_end-end.ensures w.if-end-place.false)
    ]
