-- What is collected of a segment: the key that crate key's answer stands for, and from where a value ends to the value that is added.
use mathlib.Core.Path.{◌≡◌, refl}
use mathlib.Core.List.{List, [], ◌∷◌}
use Prim.Native.Nat.{ℕ, ◌+◌, ◌-◌, ◌<◌}
use native.Mathlib.Omega.{arith}
use lib.ListN.{length}
use Rattle.config.specs.declared.Config.{Config}
use Rattle.decode.specs.Decoding.{decoded}
use Rattle.key.specs.Keys.{Key, int, str, key_of}
use Rattle.key.specs.Collected.{no_key, key, collected, key_in}
use Rattle.key.specs.declared.KeyKind.{KeyKind}
use Rattle.key.specs.declared.KeyKind.TheVariants.{None, Int, String}
use Rattle.reading.specs.declared.LeafKind.{LeafKind}
use Rattle.reading.specs.Leaves.{string, value_of}
use Rattle.cursor.specs.Segments.{segment}
use Rattle.cursor.specs.Ampersands.{FirstAmpersand}
use Rattle.cursor.specs.Collected.{ValueIs}
use Rattle.cursor.proofs.Segments.{length-segment, segment-none}
use Rattle.cursor.proofs.Ampersands.{scan-ends}

-- No key: the segment is empty.
collects_none : (config : Config) (x : List ℕ) → no_key ≡ collected config x → x ≡ []
collects_none config [] e = refl
collects_none config (b ∷ x) e = let z : ◌≡◌ {A = ℕ} 0 1 = cc in absurd (omega arith)

-- A key: the segment isn't empty, and this is its key.
collects_some : (config : Config) (x : List ℕ) {k : Key} → key k ≡ collected config x → (0 < length x) × (key_of config x ≡ k)
collects_some config [] e = let z : ◌≡◌ {A = ℕ} 0 1 = cc in absurd (omega arith)
collects_some config (b ∷ x) e = (omega arith, cc)

-- What an answer of `collect_key` says of the segment x.
module _ (config : Config) (x : List ℕ) {r : KeyKind} (e : key_in r x ≡ collected config x) where
  pub collected-none : r ≡ None → x ≡ []
  collected-none q = collects_none config x (rw q at e)

  pub collected-int : {n : ℕ} → r ≡ Int n → (0 < length x) × (key_of config x ≡ int n)
  collected-int q = collects_some config x (rw q at e)

  pub collected-string : r ≡ String → (0 < length x) × (key_of config x ≡ str (decoded x))
  collected-string q = collects_some config x (rw q at e)

-- Another answer than none: the segment isn't empty.
pub collected-some : (config : Config) (x : List ℕ) (r : KeyKind) → key_in r x ≡ collected config x → (r ≡ None → ⊥) → 0 < length x
collected-some config x None e q = absurd (q refl)
collected-some config x (Int n) e q = (collected-int config x e refl).0
collected-some config x String e q = (collected-string config x e refl).0

-- What `collect_value` answers of a value that ends at `end`.
module _ {config : Config} {s : List ℕ} {place end : ℕ} (v : FirstAmpersand s place (length s) end) where
  pub value_null : end ≡ place → ValueIs config s place (record { leaf = LeafKind.Null; end = end; place = end + 1 })
  value_null q = let g = scan-ends config v in record { symbol = g.symbol; scan = g.scan; is = rw (q, segment-none s place) }

  pub value-string : (end ≡ place → ⊥) → ValueIs config s place (record { leaf = LeafKind.String; end = end; place = end + 1 })
  value-string q =
      let g = scan-ends config v in
      record { symbol = g.symbol; scan = g.scan; is = string_of (segment s place end) (length-segment s place end v.long v.inside) }
    where
      string_of : (x : List ℕ) → length x ≡ end - place → string (decoded x) ≡ value_of x
      string_of [] h = absurd (q (omega (arith, v.long)))
      string_of (c ∷ x) h = refl
