-- The number of a kind that a `match` has told.
use mathlib.Core.Path.{◌≡◌, ap, ◌∙◌}
use Prim.Native.Nat.{ℕ}
use Rattle.row.specs.declared.kind.Kind.{Kind}
use Rattle.row.specs.declared.kind.KeyKind.{KeyKind}
use Rattle.row.specs.Kinds.{kind_number, key_kind_number}

pub kind_told : {number : ℕ} {kind told : Kind} → number ≡ kind_number kind → kind ≡ told → number ≡ kind_number told
kind_told e f = e ∙ ap kind_number f

pub key_kind_told : {number : ℕ} {kind told : KeyKind} → number ≡ key_kind_number kind → kind ≡ told → number ≡ key_kind_number told
key_kind_told e f = e ∙ ap key_kind_number f
