use Rattle.std.proofs.Common.{ap}
use mir.Val.{bool_byte}
use Rattle.config.specs.declared.Config.{Config}
use Rattle.show.proofs.Printed.{defaults_lines, behind}
use Rattle.show.proofs.print_defaults.Goals as goal

pub returns : goal.returns
returns g c =
    let e = c.new-config.ensures in
    behind c.print_setting-2.result _ _ _ _ _ _ c.in_ok-print_setting.ensures c.print_setting-2.ensures
    (defaults_lines _ _ (ap (λ (config : Config). config.depth) e) (ap (λ (config : Config). bool_byte config.form) e))
