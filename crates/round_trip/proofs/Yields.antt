-- What a rule makes, if it doesn't refuse: facts that follow the shape of the rules, without equations.
use mathlib.Core.Path.{◌≡◌, refl}
use mathlib.Core.Option.{Option, none, some}
use Rattle.meaning.specs.Rules.{bind}

pub data Yields {A : Type 0} (P : A → Type 0) : Option A → Type 0 where
  nothing : Yields P none
  just : {a : A} → P a → Yields P (some a)

pub yields-bind : {A B : Type 0} {P : A → Type 0} {Q : B → Type 0} (f : A → Option B) → ((a : A) → P a → Yields Q (f a))
    → {o : Option A} → Yields P o → Yields Q (bind o f)
yields-bind f h nothing = nothing
yields-bind f h (just p) = h _ p

pub yields_weaken : {A : Type 0} {P Q : A → Type 0} → ((a : A) → P a → Q a) → {o : Option A} → Yields P o → Yields Q o
yields_weaken h nothing = nothing
yields_weaken h (just p) = just (h _ p)

-- What is made may be known by the equation that it is made.
pub yields-known : {A : Type 0} {P : A → Type 0} (o : Option A) → ((a : A) → o ≡ some a → P a) → Yields P o
yields-known none h = nothing
yields-known (some a) h = just (h a refl)

pub yielded : {A : Type 0} {P : A → Type 0} {a : A} → Yields P (some a) → P a
yielded (just p) = p
