-- Values for which something is written: nothing in them is Uninitialized, an empty Map or an empty Sequence. Every
-- value that an accepted reading makes is such a one, the root alone may be Uninitialized (proofs/Accepted of the crate
-- write).
use Rattle.reading.specs.Values.{Value, uninitialized, null, no_value, string, map, sequence, Forest, none, child}

abbrev pub NotNone : Forest → Type 0
NotNone none = ⊥
NotNone (child number row value later) = Unit

abbrev mutual
  pub Filled : Value → Type 0
  Filled uninitialized = ⊥
  Filled null = Unit
  Filled no_value = Unit
  Filled (string o x) = Unit
  Filled (map children) = NotNone children × FilledAll children
  Filled (sequence children) = NotNone children × FilledAll children

  pub FilledAll : Forest → Type 0
  FilledAll none = Unit
  FilledAll (child number row value later) = Filled value × FilledAll later

-- A root: Uninitialized, or something is written for it.
abbrev pub FilledRoot : Value → Type 0
FilledRoot uninitialized = Unit
FilledRoot null = Unit
FilledRoot no_value = Unit
FilledRoot (string o x) = Unit
FilledRoot (map children) = NotNone children × FilledAll children
FilledRoot (sequence children) = NotNone children × FilledAll children
