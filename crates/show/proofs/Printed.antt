-- What was printed so far, and what is still to be printed of the lines.
use Rattle.std.proofs.Common.{◌≡◌, ℕ, suc, ◌+◌, ◌-◌, ◌≤◌, ◌<◌, Bool, true, false, cond, Option, List, [], ◌∷◌, ◌++◌, eqb, length, take, drop, refl, sym, ap, subst, ◌∙◌, append_assoc, append-nil, get_or, Result, Ok, Err, OnOk, IfSome, None, Some, arith}
use Rattle.std.specs.Fmt.{decimal}
use Rattle.std.specs.Io.KnownBytes.{Appends, Consumes, IsAtEnd}
use Rattle.std.proofs.KnownBytes.{Appends-nil, Appends-trans}
use lib.ListN.{drop_of_length-le}
use lib.Seq.{take-append-le, take_all}
use Rattle.std.proofs.lemmas.List.{drop-drop}
use Rattle.std.proofs.lemmas.Fmt.{decimal_digit}
use Rattle.ascii.specs.Texts.{ascii}
use Rattle.laws.proofs.Cases.{below}
use Rattle.laws.proofs.Lists.{drop_1}
use Rattle.show.specs.Lines.{line_length, EndsAt}
use Rattle.show.specs.Printed.{ended, setting, defaults_printed, shown_within, in_front, lines_of, shown_lines}

-- The first line, and those behind it.
one_more : (t : Bool) (x : ℕ) (xs : List ℕ) (n : ℕ) → lines_of xs ≡ take n xs ∷ lines_of (drop (suc n) xs)
    → cond t ([] ∷ lines_of xs) (in_front x (lines_of xs)) ≡ take (cond t 0 (suc n)) (x ∷ xs) ∷ lines_of (drop (suc (cond t 0 (suc n))) (x ∷ xs))
one_more true x xs n e = refl
one_more false x xs n e = ap (in_front x) e

first_line : (x : ℕ) (xs : List ℕ)
    → lines_of (x ∷ xs) ≡ take (line_length (x ∷ xs)) (x ∷ xs) ∷ lines_of (drop (suc (line_length (x ∷ xs))) (x ∷ xs))
unfolding lines_of line_length
first_line x [] = go (eqb x 10)
  where
    go : (t : Bool) → cond t ([] ∷ []) ((x ∷ []) ∷ []) ≡ take (cond t 0 1) (x ∷ []) ∷ lines_of (drop (suc (cond t 0 1)) (x ∷ []))
    go true = refl
    go false = refl
first_line x (y ∷ ys) = one_more (eqb x 10) x (y ∷ ys) (line_length (y ∷ ys)) (first_line y ys)

-- The same of the input from a line's start on.
line_at : (input : List ℕ) (start end : ℕ) → start < length input → EndsAt input start end
    → lines_of (drop start input) ≡ take (end - start) (drop start input) ∷ lines_of (drop (end + 1) input)
line_at input start end h e = go (drop start input) (drop_1 input start h) refl
  where
    go : (rest : List ℕ) → rest ≡ get_or input start 0 ∷ drop (start + 1) input → rest ≡ drop start input
        → lines_of rest ≡ take (end - start) rest ∷ lines_of (drop (end + 1) input)
    go rest cons is =
        let n : line_length rest ≡ end - start = omega (arith, e.0, ap line_length is) in
        let place : start + suc (line_length rest) ≡ end + 1 = omega (arith, e.0, ap line_length is) in
        let behind : drop (suc (line_length rest)) rest ≡ drop (end + 1) input =
        ap (drop (suc (line_length rest))) is ∙ drop-drop (suc (line_length rest)) start input ∙ ap (λ k. drop k input) place in
        let first : lines_of rest ≡ take (line_length rest) rest ∷ lines_of (drop (suc (line_length rest)) rest) =
        subst (λ l. lines_of l ≡ take (line_length l) l ∷ lines_of (drop (suc (line_length l)) l)) (sym cons) (first_line _ _) in
        subst (λ k. lines_of rest ≡ take k rest ∷ lines_of (drop (end + 1) input)) n (first ∙ ap (λ l. take (line_length rest) rest ∷ lines_of l) behind)

-- What was printed from the input's start up to a line's start.
pub record Printing (room : ℕ) (input : List ℕ) (before now : Option (List ℕ)) (start : ℕ) : Type 0 where
  pub bytes : List ℕ
  pub appended : Appends before now bytes
  pub left : shown_lines room (lines_of input) ≡ bytes ++ shown_lines room (lines_of (drop start input))

pub printing_start : (room : ℕ) (input : List ℕ) (to : Option (List ℕ)) → Printing room input to to 0
printing_start room input to = record { bytes = []; appended = Appends-nil to; left = refl }

module _ {room : ℕ} {input : List ℕ} {before now : Option (List ℕ)} {start : ℕ} (v : Printing room input before now start) where
  pub printing_more : {after : Option (List ℕ)} {end size : ℕ} → start < length input → EndsAt input start end → size ≡ room
      → Appends now after (ended (shown_within size (take (end - start) (drop start input)))) → Printing room input before after (end + 1)
  unfolding shown_lines
  printing_more {after} {end} h e same a =
      let raw = take (end - start) (drop start input) in
      let line = ended (shown_within room raw) in
      record {
        bytes = v.bytes ++ line;
        appended = Appends-trans before now after v.bytes line v.appended (subst (λ n. Appends now after (ended (shown_within n raw))) same a);
        left =
            v.left ∙ ap (λ ls. v.bytes ++ shown_lines room ls) (line_at input start end h e)
            ∙ sym (append_assoc v.bytes line (shown_lines room (lines_of (drop (end + 1) input))));
      }

  pub printing_done : length input ≤ start → Appends before now (shown_lines room (lines_of input))
  unfolding lines_of shown_lines
  printing_done h =
      subst (Appends before now) (sym (v.left ∙ ap (λ l. v.bytes ++ shown_lines room (lines_of l)) (drop_of_length-le input h) ∙ append-nil v.bytes)) v.appended

-- The lines with the default settings.
pub defaults_lines : (depth form : ℕ) → depth ≡ 5 → form ≡ 0 → setting (ascii "depth=") depth ++ setting (ascii "form=") form ≡ defaults_printed
defaults_lines depth form d f =
    let five : decimal 5 ≡ 53 ∷ [] = decimal_digit 5 (omega arith) in
    let none : decimal 0 ≡ 48 ∷ [] = decimal_digit 0 (omega arith) in
    rw (d, f, five, none)

-- What is written behind what was.
pub behind : {A E : Type 0} (r : Result A E) (before now after : Option (List ℕ)) (first second bytes : List ℕ) → Appends before now first
    → OnOk r (Appends now after second) → first ++ second ≡ bytes → OnOk r (Appends before after bytes)
behind (Ok x) before now after first second bytes p q e = subst (Appends before after) e (Appends-trans before now after first second p q)
behind (Err x) before now after first second bytes p q e = tt

-- What is printed of what was read up to a size is what is printed of all that there is to read, up to that size.
whole : (room size : ℕ) (from rest before now after : Option (List ℕ)) (read : List ℕ) → length read ≤ size → Consumes from rest read
    → (length read < size → IsAtEnd rest) → Appends before now defaults_printed → Appends now after (shown_lines room (lines_of read))
    → IfSome from (λ bytes. Appends before after (defaults_printed ++ shown_lines room (lines_of (take size bytes))))
whole room size None rest before now after read fits c end p q = tt
whole room size (Some bytes) None before now after read fits c end p q = absurd c
whole room size (Some bytes) (Some rest) before now after read fits c end p q =
    subst (λ l. Appends before after (defaults_printed ++ shown_lines room (lines_of l))) same (Appends-trans before now after _ _ p q)
  where
    same : read ≡ take size bytes
    same =
        below (length read) size
        (λ h. sym (rw (c, end h, append-nil) (take_all size read fits)))
        (λ h. sym (rw (c, take-append-le size read rest h) (take_all size read fits)))

pub whole_on_ok : {A E : Type 0} (r : Result A E) (room size : ℕ) (from rest before now after : Option (List ℕ)) (read : List ℕ) → length read ≤ size
    → Consumes from rest read → (length read < size → IsAtEnd rest) → Appends before now defaults_printed
    → OnOk r (Appends now after (shown_lines room (lines_of read)))
    → OnOk r (IfSome from (λ bytes. Appends before after (defaults_printed ++ shown_lines room (lines_of (take size bytes)))))
whole_on_ok (Ok x) room size from rest before now after read fits c end p q = whole room size from rest before now after read fits c end p q
whole_on_ok (Err x) room size from rest before now after read fits c end p q = tt
