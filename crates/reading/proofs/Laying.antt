-- Texts that lie in a text still lie there when it grows.
use Prim.Native.Nat.{ℕ}
use mathlib.Core.Path.{◌≡◌, refl, ap, ◌∙◌}
use mathlib.Core.List.{List, [], ◌∷◌, ◌++◌, append_assoc, append-nil}
use lib.ListN.{length, take, drop}
use lib.Seq.{take_at, drop_at}
use Rattle.key.specs.Keys.{Key, int, str}
use Rattle.reading.specs.Values.{Label, unkeyed, int_key, string_key, Value, uninitialized, null, no_value, string, map, sequence, Forest, none, child}
use Rattle.reading.specs.Leaves.{Leaf}
use Rattle.reading.specs.Adding.{key_text, leaf_text, label_at, value_at}
use Rattle.row.specs.Words.{text_part}
use Rattle.reading.specs.Laid.{Lies, LaidLabel, Laid, LaidAll}

lies_more : {t : List ℕ} {o : ℕ} {x : List ℕ} (y : List ℕ) → Lies t o x → Lies (t ++ y) o x
lies_more y h = record { front = h.front; back = h.back ++ y; whole = ap (◌++ y) h.whole ∙ simp append_assoc; at = h.at }

pub laid-label-more : (t y : List ℕ) (l : Label) → LaidLabel t l → LaidLabel (t ++ y) l
laid-label-more t y unkeyed h = h
laid-label-more t y (int_key a) h = h
laid-label-more t y (string_key o x) h = lies_more y h

mutual
  pub laid_more : (t y : List ℕ) (v : Value) → Laid t v → Laid (t ++ y) v
  laid_more t y uninitialized h = h
  laid_more t y null h = h
  laid_more t y no_value h = h
  laid_more t y (string o x) h = lies_more y h
  laid_more t y (map cs) h = laid-all-more t y cs h
  laid_more t y (sequence cs) h = laid-all-more t y cs h

  pub laid-all-more : (t y : List ℕ) (cs : Forest) → LaidAll t cs → LaidAll (t ++ y) cs
  laid-all-more t y none h = h
  laid-all-more t y (child m l v cs) h = (laid-label-more t y l.label h.0, laid_more t y v h.1, laid-all-more t y cs h.2)

-- What is laid down at the end of a text lies there.
lies-end : (t x : List ℕ) → Lies (t ++ x) (length t) x
lies-end t x = record { front = t; back = []; whole = rw append-nil; at = refl }

pub leaf_laid : (x : Leaf) (t : List ℕ) → Laid (t ++ leaf_text x) (value_at x (length t))
leaf_laid Leaf.null t = tt
leaf_laid Leaf.no_value t = tt
leaf_laid (Leaf.string x) t = lies-end t x

pub key-laid : (k : Key) (t : List ℕ) → LaidLabel (t ++ key_text k) (label_at k (length t))
key-laid (int a) t = tt
key-laid (str []) t = record { front = []; back = t ++ []; whole = refl; at = refl }
key-laid (str (b ∷ x)) t = lies-end t (b ∷ x)

-- A text that lies at an offset is the part of its length there.
pub lies_part : {t : List ℕ} {o : ℕ} {x : List ℕ} → Lies t o x → text_part t o (length x) ≡ x
lies_part {t} {o} {x} h =
    ap (λ (r : List ℕ). take (length x) (drop o r)) h.whole ∙ ap (take (length x)) (drop_at h.front (x ++ h.back) o h.at)
    ∙ take_at x h.back (length x) refl
