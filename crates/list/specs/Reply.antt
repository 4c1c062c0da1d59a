-- READING, 'The listing': what the program prints for its standard input.
use Rattle.std.specs.Prelude.{ℕ, false, List, drop, Option, Some, None}
use Rattle.config.specs.Defaults.{settings}
use Rattle.reading.specs.Reading.{reading}
use Rattle.head.specs.declared.Head.{Head}
use Rattle.head.specs.Heads.{head_of}
use Rattle.listing.specs.Listing.{bad_head, listing}

-- A bad head has a line of its own. Behind a good one all the rest is the query string, READING's ticket, which is read
-- with the key setting off.
abbrev pub reply_to : Option Head → List ℕ → List ℕ → List ℕ → List ℕ
reply_to None input words text = bad_head
reply_to (Some head) input words text =
    listing (reading (settings head.depth head.form false) (drop head.start input) words text)

-- The words and the text are those that the program lends, as they were before.
abbrev pub reply : List ℕ → List ℕ → List ℕ → List ℕ
reply input words text = reply_to (head_of input) input words text
