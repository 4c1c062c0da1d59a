-- What a writer leaves of an output: these bytes put on its page, in the same lent slice.
use Rattle.std.specs.Prelude.{ℕ, ◌≡◌, List}
use Rattle.output.specs.declared.Output.{Output}
use Rattle.output.specs.Output.{Page, page, Puts}

-- The lent slice as a page.
abbrev pub page_of : Output → Page
page_of o = page o.out.now o.at

pub record Wrote (bytes : List ℕ) (before after : Output) : Type 0 where
  pub puts : Puts bytes (page_of before) (page_of after)
  pub same : after.out.ghost_name ≡ before.out.ghost_name
