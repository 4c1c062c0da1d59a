-- The decoding byte by byte: what is left of it.
use Rattle.std.specs.Prelude.{ℕ, ◌<◌, ◌≤◌, ◌≡◌, List, ◌++◌, length, take, drop}
use Rattle.decode.specs.declared.Decoder.{Decoder}
use Rattle.decode.specs.Decoding.{decoded}

-- The decoding of a list whose first k bytes a failed escape swallows unchanged.
unfoldable pub rest : ℕ → List ℕ → List ℕ
rest k xs = take k xs ++ decoded (drop k xs)

-- The bytes that a decoder is still to yield.
abbrev pub bytes_left : Decoder → List ℕ
bytes_left d = rest d.keep d.raw.now

-- The bytes are those of others from an index on that is greater than 0 and no greater than their number.
pub record Shortens (raw later : List ℕ) : Type 0 where
  pub by : ℕ
  pub on : 0 < by
  pub within : by ≤ length raw
  pub left : later ≡ drop by raw
