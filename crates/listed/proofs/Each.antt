-- What holds of each of the listed.
use mathlib.Core.List.{List, [], ◌∷◌, ◌++◌}
use Rattle.listed.specs.Listed.{Listed, Each}

-- Of two lists, one after the other.
pub each_append : (P : Listed → Type 0) (xs ys : List Listed) → Each P xs → Each P ys → Each P (xs ++ ys)
each_append P [] ys h k = k
each_append P (x ∷ xs) ys h k = (h.0, each_append P xs ys h.1 k)

-- What follows from two properties.
pub each_both : (P Q R : Listed → Type 0) → ((x : Listed) → P x → Q x → R x) → (xs : List Listed) → Each P xs → Each Q xs → Each R xs
each_both P Q R f [] h k = tt
each_both P Q R f (x ∷ xs) h k = (f x h.0 k.0, each_both P Q R f xs h.1 k.1)
