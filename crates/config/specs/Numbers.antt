-- The settings in the numbers that C gives.
use Rattle.std.specs.Prelude.{ℕ, not, eqb}
use Rattle.config.specs.declared.Config.{Config}
use Rattle.config.specs.Defaults.{settings}

-- The form flag is off at 0 and on at anything else, and so is the key setting.
abbrev pub of_numbers : ℕ → ℕ → ℕ → Config
of_numbers depth form zeros = settings depth (not (eqb form 0)) (not (eqb zeros 0))
