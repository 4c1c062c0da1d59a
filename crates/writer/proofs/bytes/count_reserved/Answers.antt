-- As many as `filter` leaves.
use mathlib.Core.Path.{◌∙◌}
use Rattle.std.proofs.Common.{rules, tests}
use Rattle.std.proofs.lemmas.Iterator.{YieldsList-from_slice}
use Rattle.std.proofs.lemmas.Iterator.Consumers.{YieldsList-from_filter, count_from_yields_List}
use Rattle.ser.specs.Escaping.{is_reserved}
use Rattle.writer.proofs.Runs.{filter-reserved}
use Rattle.writer.proofs.bytes.count_reserved.Goals as goal

pub returns : goal.returns
returns c =
    count_from_yields_List c.filter.result _ c.count.ensures.ran
    (YieldsList-from_filter _ is_reserved (YieldsList-from_slice c.args.bytes.now cc) c.filter.ensures.closure (λ x r q k. search (rules, tests)))
    ∙ filter-reserved c.args.bytes.now
