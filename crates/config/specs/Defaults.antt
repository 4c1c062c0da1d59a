-- READING, 'Settings': the one way to make them, and the defaults.
use Rattle.std.specs.Prelude.{ℕ, Bool, true, false}
use Rattle.config.specs.declared.Config.{Config}

-- Of a depth, the form flag and the key setting.
abbrev pub settings : ℕ → Bool → Bool → Config
settings depth form zeros = record { depth = depth; form = form; zeros = zeros }

-- What `Config::new` gives: a depth of 5, and both the form flag and the key setting off.
abbrev pub defaults : Config
defaults = settings 5 false false

-- The defaults with the key setting on.
abbrev pub zeros_on : Config
zeros_on = settings 5 false true
