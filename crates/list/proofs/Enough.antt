-- Bytes past the longest head don't change a head, nor bytes past those that the program reads a reply.
use Rattle.std.proofs.Common.{Option, None, Some, Result, Ok, Err, OnOk, IfSome, subst, append-nil}
use Rattle.std.specs.Io.KnownBytes.{Appends, Consumes, IsAtEnd}
use mathlib.Core.Path.{◌≡◌, refl, sym, ap, ◌∙◌}
use mathlib.Core.Bool.{Bool, true, false, cond}
use mathlib.Core.List.{List, [], ◌∷◌, ◌++◌}
use Prim.Native.Nat.{ℕ, ◌+◌, ◌≤◌, ◌<◌}
use native.Mathlib.Omega.{arith}
use borrow.Author.Tests.{lt-ltb}
use lib.Dec.{eqb}
use lib.ListN.{length, take, drop, length-append, length-drop, take-append-drop}
use lib.Seq.{drop-append-le, length-take-le}
use Rattle.laws.proofs.Cases.{below}
use Rattle.config.specs.declared.Config.{Config}
use Rattle.config.specs.Defaults.{settings}
use Rattle.config.specs.Limits.{max_len}
use Rattle.ascii.specs.Digits.{is_digit, value_from}
use Rattle.ascii.specs.Texts.{ascii}
use Rattle.reading.specs.Reading.{read, reading}
use Rattle.head.specs.declared.Head.{Head}
use Rattle.listing.specs.Listing.{listing}
use Rattle.head.specs.Heads.{begins, leading_digits, flag_in, depth_in, head_of}
use Rattle.head.proofs.Heads.{Inside, head_inside, depth_four}
use Rattle.list.specs.Reply.{reply_to, reply}
use Rattle.list.specs.Lending.{longest_head, read_bytes}
use Rattle.list.specs.Enough.{Enough}

begins-front : (s bytes rest : List ℕ) → length s ≤ length bytes → begins s (bytes ++ rest) ≡ begins s bytes
unfolding begins
begins-front [] bytes rest h = refl
begins-front (b ∷ s) [] rest h = absurd (omega arith)
begins-front (b ∷ s) (c ∷ bytes) rest h = ap (λ t. cond (eqb b c) t false) (begins-front s bytes rest (omega arith))

digits_longer : (bytes rest : List ℕ) → length (leading_digits bytes) ≤ length (leading_digits (bytes ++ rest))
unfolding leading_digits
digits_longer [] rest = omega arith
digits_longer (b ∷ s) rest = go (is_digit b) (digits_longer s rest)
  where
    go : (d : Bool) → length (leading_digits s) ≤ length (leading_digits (s ++ rest))
        → length (cond d (b ∷ leading_digits s) []) ≤ length (cond d (b ∷ leading_digits (s ++ rest)) [])
    go true h = omega arith
    go false h = omega arith

digits-front : (bytes rest : List ℕ) → length (leading_digits bytes) < length bytes → leading_digits (bytes ++ rest) ≡ leading_digits bytes
unfolding leading_digits
digits-front [] rest h = absurd (omega arith)
digits-front (b ∷ s) rest h = go (is_digit b) (digits-front s rest) h
  where
    go : (d : Bool) → (length (leading_digits s) < length s → leading_digits (s ++ rest) ≡ leading_digits s)
        → length (cond d (b ∷ leading_digits s) []) < length (b ∷ s) → cond d (b ∷ leading_digits (s ++ rest)) [] ≡ cond d (b ∷ leading_digits s) []
    go true more k = ap (λ t. b ∷ t) (more (omega arith))
    go false more k = refl

flag_front : (depth start : ℕ) (bytes rest : List ℕ) → 8 ≤ length bytes → flag_in depth start (bytes ++ rest) ≡ flag_in depth start bytes
unfolding flag_in
flag_front depth start bytes rest h = rw (begins-front (ascii "\nform=0\n") bytes rest h, begins-front (ascii "\nform=1\n") bytes rest h)

depth_front : (bytes rest : List ℕ) → 11 ≤ length bytes → depth_in (bytes ++ rest) ≡ depth_in bytes
unfolding depth_in
depth_front bytes rest h =
    let n = length (leading_digits bytes) in
    below 3 n
    (λ k. rw (← depth_four (leading_digits bytes) k, ← depth_four (leading_digits (bytes ++ rest)) (omega (arith, digits_longer bytes rest))))
    (λ k.
    rw (
      digits-front bytes rest (omega arith),
      drop-append-le n bytes rest (omega arith),
      flag_front (value_from 0 (leading_digits bytes)) (n + 14) (drop n bytes) rest (omega (arith, length-drop n bytes)),
    ))

head_front : (first rest : List ℕ) → longest_head ≤ length first → head_of (first ++ rest) ≡ head_of first
unfolding head_of
head_front first rest h =
    rw (
      begins-front (ascii "depth=") first rest (omega arith),
      drop-append-le 6 first rest (omega arith),
      depth_front (drop 6 first) rest (omega (arith, length-drop 6 first)),
    )

-- So the query string starts within them.
head_early : (first : List ℕ) → longest_head ≤ length first → Inside longest_head (head_of first)
head_early first h =
    let n = length-take-le longest_head first h in
    let e = ap head_of (sym (take-append-drop longest_head first)) ∙ head_front (take longest_head first) (drop longest_head first) (omega (arith, n)) in
    rw e (rw n at (head_inside (take longest_head first)))

-- Of a query string that is too long nothing else matters.
too_long : (config : Config) (input other words text : List ℕ) → max_len < length input → max_len < length other
    → reading config input words text ≡ reading config other words text
unfolding read
too_long config input other words text h k = rw (lt-ltb max_len (length input) h, lt-ltb max_len (length other) k)

pub enough : Enough
enough first rest words text h =
    ap (λ head. reply_to head (first ++ rest) words text) (head_front first rest (omega arith)) ∙ go (head_of first) (head_early first (omega arith))
  where
    go : (head : Option Head) → Inside longest_head head → reply_to head (first ++ rest) words text ≡ reply_to head first words text
    go None i = refl
    go (Some good) i =
        ap listing (too_long (settings good.depth good.form false) (drop good.start (first ++ rest)) (drop good.start first) words text
        (omega (arith, length-drop good.start (first ++ rest), length-append first rest)) (omega (arith, length-drop good.start first)))

-- So the reply to what was read is the reply to all that there is to read.
whole : (from rest before after : Option (List ℕ)) (first words text : List ℕ) → Consumes from rest first → (length first < read_bytes → IsAtEnd rest)
    → Appends before after (reply first words text) → IfSome from (λ bytes. Appends before after (reply bytes words text))
whole None rest before after first words text c end w = tt
whole (Some bytes) None before after first words text c end w = absurd c
whole (Some bytes) (Some rest) before after first words text c end w = subst (Appends before after) same w
  where
    same : reply first words text ≡ reply bytes words text
    same =
        below (length first) read_bytes
        (λ h. ap (λ l. reply l words text) (sym (c ∙ ap (λ l. first ++ l) (end h) ∙ append-nil first)))
        (λ h. sym (ap (λ l. reply l words text) c ∙ enough first rest words text h))

pub whole_on_ok : {A E : Type 0} (r : Result A E) (from rest before after : Option (List ℕ)) (first words text : List ℕ) → Consumes from rest first
    → (length first < read_bytes → IsAtEnd rest) → OnOk r (Appends before after (reply first words text))
    → OnOk r (IfSome from (λ bytes. Appends before after (reply bytes words text)))
whole_on_ok (Ok x) from rest before after first words text c end w = whole from rest before after first words text c end w
whole_on_ok (Err x) from rest before after first words text c end w = tt
