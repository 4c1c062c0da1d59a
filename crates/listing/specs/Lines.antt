-- READING, 'The listing': the four lines of a value.
use Rattle.std.specs.Prelude.{ℕ, List, ◌++◌}
use Prim.Native.String.{String}
use Rattle.std.proofs.Math.Option.{Option, none, some}
use Rattle.key.specs.Keys.{Key, int, str}
use Rattle.ascii.specs.Texts.{ascii}
use Rattle.output.specs.Numbers.{decimal, hex}
use Rattle.listed.specs.Listed.{Listed}

-- A line: the name of its item, the item, and a newline.
abbrev pub line : String → List ℕ → List ℕ
line name item = ascii name ++ item ++ ascii "\n"

-- A letter tells an Int from a String: `i31` and `s31` are two keys. The empty key is `s` alone, and not `-`.
abbrev pub key_item : Option Key → List ℕ
key_item none = ascii "-"
key_item (some (int n)) = ascii "i" ++ decimal n
key_item (some (str x)) = ascii "s" ++ hex x

-- A String's bytes in hex; `-` for a value that has none.
abbrev pub text_item : Option (List ℕ) → List ℕ
text_item none = ascii "-"
text_item (some x) = hex x

-- The four lines of a value: its level, key, kind and text.
unfoldable pub own_lines : Listed → List ℕ
own_lines x =
    line "level=" (decimal x.level) ++ line "key=" (key_item x.key) ++ line "kind=" (ascii x.kind)
    ++ line "text=" (text_item x.bytes)
