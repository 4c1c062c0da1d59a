-- Runs of bytes that are written at once: the place behind them, what stands in them, and how they are stored.
use mathlib.Core.Path.{◌≡◌, refl, sym, ap, ◌∙◌}
use mathlib.Core.Bool.{Bool, true, false, cond, ◌||◌}
use mathlib.Core.List.{List, [], ◌∷◌, ◌++◌}
use Prim.Native.Nat.{ℕ, zero, suc, ◌+◌, ◌-◌, ◌*◌, ◌/◌, ◌%◌, ◌≤◌, ◌<◌}
use native.Mathlib.Omega.{arith}
use borrow.Author.Tests.{lt-ltb, le-ltb, leb-true, ne_eqb}
use lib.Dec.{eqb, leb}
use Rattle.std.specs.List.{fold, filter}
use lib.ListN.{length, take, drop, get_or, set, length-append, length-set}
use lib.Seq.{set_out, get_or-set_other}
use Rattle.laws.proofs.Cases.{split, below, true-false, halves}
use Rattle.laws.proofs.Lists.{drop_1}
use Rattle.ascii.specs.Bytes.{percent, plus, space, ampersand, equals, opening, closing}
use Rattle.config.specs.Limits.{max_len}
use Rattle.output.specs.Numbers.{hex_digit}
use Rattle.output.specs.Output.{Page, page}
use Rattle.ser.specs.Escaping.{is_reserved, escaped_byte, escaped}
use Rattle.writer.specs.Pages.{put, Puts}
use Rattle.writer.specs.Runs.{any_of, any_reserved, count_reserved, plain_byte, advanced, has_room, has_room_again, Room}
use Rattle.writer.proofs.Pages.{byte_put, put-past, put-from, puts-same, Putting, putting_more, putting_done}
use Rattle.writer.proofs.Escapes.{puts-escape, puts_reserved, escaped-more, escaped-done}

-- The place behind so many bytes more, by the limit.
pub place-past : (at len : ℕ) → max_len < at → at ≡ advanced at len
place-past at len h = sym (rw (lt-ltb max_len at h))

pub place-over : (at len : ℕ) → at ≤ max_len → max_len < at + len → suc max_len ≡ advanced at len
place-over at len h g = sym (rw (le-ltb max_len at h, lt-ltb max_len (at + len) g))

pub place-within : (at len : ℕ) → at + len ≤ max_len → at + len ≡ advanced at len
place-within at len g = sym (rw (le-ltb max_len at (omega arith), le-ltb max_len (at + len) g))

place_one_more : (at len : ℕ) → at ≤ max_len → advanced (at + 1) len ≡ advanced at (suc len)
place_one_more at len h =
    below max_len (at + suc len)
    (λ k.
    let over : suc max_len ≡ advanced at (suc len) = place-over at (suc len) h k in
    below max_len (at + 1) (λ l. let e : at + 1 ≡ suc max_len = omega arith in sym (place-past (at + 1) len l) ∙ e ∙ over)
    (λ l. sym (place-over (at + 1) len l (omega arith)) ∙ over))
    (λ k.
    let e : at + 1 + len ≡ at + suc len = omega arith in
    sym (place-within (at + 1) len (omega arith)) ∙ e ∙ place-within at (suc len) k)

-- Where nothing can be stored, the place alone goes on: a byte set past the end changes nothing.
put_unseen : (s out : List ℕ) (at : ℕ) → length out ≤ at → put (page out at) s ≡ page out (advanced at (length s))
unfolding put
put_unseen [] out at h =
    let e : at ≡ at + 0 = omega arith in
    below max_len at (λ g. ap (page out) (place-past at 0 g)) (λ g. ap (page out) (e ∙ place-within at 0 (omega arith)))
put_unseen (b ∷ s) out at h =
    below max_len at (λ g. put-past (page out at) (b ∷ s) g ∙ ap (page out) (place-past at (length (b ∷ s)) g))
    (λ g.
    ap (λ c. put (cond c (page out at) (page (set out at b) (at + 1))) s) (le-ltb max_len at g)
    ∙ ap (λ o. put (page o (at + 1)) s) (set_out out at b h)
    ∙ put_unseen s out (at + 1) (omega arith) ∙ ap (page out) (place_one_more at (length s) g))

pub puts_unseen : (s out : List ℕ) (at : ℕ) {n r : ℕ} → length out ≤ at → n ≡ length s → r ≡ advanced at n → Puts s (page out at) (page out r)
puts_unseen s out at h e f = record { puts = ap (page out) (f ∙ ap (advanced at) e) ∙ sym (put_unseen s out at h) }

-- There is room, if the test says so.
pub room : {len at : ℕ} {r : Bool} (out : List ℕ) → r ≡ has_room len (length out) at → r ≡ true → Room len out at
room {len} {at} out told t =
    let h = halves (leb (at + len) (length out)) (leb (at + len) max_len) (sym told ∙ t) in
    record { fits = leb-true (at + len) (length out) h.0; within = leb-true (at + len) max_len h.1 }

-- Room for bytes once more: they stand before the place, and there is room for so many.
module _ (start end : ℕ) {at : ℕ} {r : Bool} (out : List ℕ) (told : r ≡ has_room_again start end (length out) at) (t : r ≡ true) where
  pub again-room : Room (end - start) out at
  again-room = room out refl (halves (leb end at) (has_room (end - start) (length out) at) (sym told ∙ t)).1

-- Two bytes sought, with what was found so far.
pub fold-any_of : (x y : ℕ) (hit : Bool) (s : List ℕ) → fold (λ h b. (h || eqb b x) || eqb b y) hit s ≡ hit || any_of x y s
unfolding any_of
fold-any_of x y hit [] = nothing_more hit
  where
    nothing_more : (h : Bool) → h ≡ h || false
    nothing_more true = refl
    nothing_more false = refl
fold-any_of x y hit (b ∷ s) =
    fold-any_of x y ((hit || eqb b x) || eqb b y) s ∙ regroup hit (eqb b x) (eqb b y) (any_of x y s)
  where
    regroup : (h a b t : Bool) → ((h || a) || b) || t ≡ h || ((a || b) || t)
    regroup true a b t = refl
    regroup false a b t = refl

-- The reserved bytes sought two by two.
pub any_by_two : (s : List ℕ) → (any_of percent plus s || any_of ampersand equals s) || any_of opening closing s ≡ any_reserved s
unfolding any_of any_reserved
any_by_two [] = refl
any_by_two (b ∷ s) =
    regroup (eqb b percent) (eqb b plus) (any_of percent plus s) (eqb b ampersand) (eqb b equals) (any_of ampersand equals s) (eqb b opening) (eqb b closing)
    (any_of opening closing s)
    ∙ ap (λ t. is_reserved b || t) (any_by_two s)
  where
    or-true : (a : Bool) → true ≡ a || true
    or-true true = refl
    or-true false = refl

    regroup : (a b x c d y e f z : Bool)
        → (((a || b) || x) || ((c || d) || y)) || ((e || f) || z) ≡ (a || b || c || d || e || f) || ((x || y) || z)
    regroup true b x c d y e f z = refl
    regroup false true x c d y e f z = refl
    regroup false false true c d y e f z = or-true (c || d || e || f)
    regroup false false false true d y e f z = refl
    regroup false false false false true y e f z = refl
    regroup false false false false false true e f z = or-true (e || f)
    regroup false false false false false false true f z = refl
    regroup false false false false false false false f z = refl

-- Where none is reserved, no byte is.
neither : (a b : Bool) → a || b ≡ false → (a ≡ false) × (b ≡ false)
neither true b e = true-false e
neither false b e = (refl, e)

no_reserved : (s : List ℕ) (i : ℕ) → any_reserved s ≡ false → i < length s → is_reserved (get_or s i 0) ≡ false
unfolding any_reserved
no_reserved [] i n h = absurd (omega arith)
no_reserved (b ∷ s) zero n h = (neither (is_reserved b) (any_reserved s) n).0
no_reserved (b ∷ s) (suc i) n h = no_reserved s i (neither (is_reserved b) (any_reserved s) n).1 (omega arith)

-- Reserved bytes counted.
pub filter-reserved : (s : List ℕ) → length (filter is_reserved s) ≡ count_reserved s
unfolding count_reserved
filter-reserved [] = refl
filter-reserved (b ∷ s) = go (is_reserved b) (filter-reserved s)
  where
    go : (t : Bool) → length (filter is_reserved s) ≡ count_reserved s
        → length (cond t (b ∷ filter is_reserved s) (filter is_reserved s)) ≡ cond t 1 0 + count_reserved s
    go true e = omega arith
    go false e = omega arith

-- A reserved byte is three bytes when escaped, any other is one.
reserved_not-space : (b : ℕ) → is_reserved b ≡ true → b ≡ space → ⊥
reserved_not-space b t e = true-false (sym t ∙ ap is_reserved e)

byte_length : (b : ℕ) → length (escaped_byte b) ≡ suc (2 * cond (is_reserved b) 1 0)
byte_length b =
    split (is_reserved b) (λ t. rw (ne_eqb b space (reserved_not-space b t), t)) (λ t. rw t (one (eqb b space)))
  where
    one : (t : Bool) → length (cond t (plus ∷ []) (b ∷ [])) ≡ 1
    one true = refl
    one false = refl

pub escaped-length : (s : List ℕ) → length s + 2 * count_reserved s ≡ length (escaped s)
unfolding escaped count_reserved
escaped-length [] = refl
escaped-length (b ∷ s) =
    regroup (cond (is_reserved b) 1 0) (length s) (count_reserved s) (sym (byte_length b)) (escaped-length s) ∙ sym (length-append (escaped_byte b) (escaped s))
  where
    regroup : (c n k : ℕ) {x y : ℕ} → suc (2 * c) ≡ x → n + 2 * k ≡ y → suc n + 2 * (c + k) ≡ x + y
    regroup c n k p q = omega arith

-- A byte that isn't reserved is written as one.
plain-escaped : (b : ℕ) → is_reserved b ≡ false → escaped_byte b ≡ plain_byte b ∷ []
plain-escaped b t = rw t (one (eqb b space))
  where
    one : (t : Bool) → cond t (plus ∷ []) (b ∷ []) ≡ cond t plus b ∷ []
    one true = refl
    one false = refl

-- Where none is reserved, none becomes longer.
pub plain-length : (s : List ℕ) → any_reserved s ≡ false → length s ≡ length (escaped s)
unfolding any_reserved escaped
plain-length [] n = refl
plain-length (b ∷ s) n =
    let h = neither (is_reserved b) (any_reserved s) n in
    ap suc (plain-length s h.1) ∙ sym (ap (λ x. length (x ++ escaped s)) (plain-escaped b h.0))

-- No more than all bytes are counted.
pub count_bound : (s : List ℕ) → count_reserved s ≤ length s
unfolding count_reserved
count_bound [] = omega arith
count_bound (b ∷ s) = regroup (cond (is_reserved b) 1 0) (count_reserved s) (length s) (at_most_one (is_reserved b)) (count_bound s)
  where
    at_most_one : (t : Bool) → cond t 1 0 ≤ 1
    at_most_one true = omega arith
    at_most_one false = omega arith

    regroup : (x k n : ℕ) → x ≤ 1 → k ≤ n → x + k ≤ suc n
    regroup x k n p q = omega arith

-- One byte more, at the place i further on.
stored_more : {b : ℕ} {rest later whole out₀ out : List ℕ} {at : ℕ} (i : ℕ) → Putting rest whole out₀ out at (at + i) → rest ≡ b ∷ later → at + i ≤ max_len
    → Putting later whole out₀ (set out (at + i) b) at (at + (i + 1))
stored_more {b} {rest} {later} {whole} {out₀} {out} {at} i v e h =
    let f : at + (i + 1) ≡ at + i + 1 = omega arith in
    rw f (putting_more v e (byte_put out (at + i) b h) (length-set out (at + i) b))

pub laid_more : (bytes : List ℕ) (i : ℕ) {out₀ out : List ℕ} {at b : ℕ} → Putting (escaped (drop i bytes)) (escaped bytes) out₀ out at (at + i)
    → Room (length bytes) out₀ at → any_reserved bytes ≡ false → i < length bytes → b ≡ plain_byte (get_or bytes i 0)
    → Putting (escaped (drop (i + 1) bytes)) (escaped bytes) out₀ (set out (at + i) b) at (at + (i + 1))
laid_more bytes i {out₀} {out} {at} {b} v r n h e =
    stored_more i v
    (escaped-more bytes i h
    ∙ ap (λ x. x ++ escaped (drop (i + 1) bytes)) (plain-escaped (get_or bytes i 0) (no_reserved bytes i n h) ∙ ap (λ x. x ∷ []) (sym e)))
    (omega (arith, r.within))

-- A byte stored as an escape, or as it is.
module _ (b : ℕ) {r : Bool} {out : List ℕ} {at : ℕ} (told : r ≡ is_reserved b) (free : Room 3 out at) where
  pub laid-escape : {h l : ℕ} → r ≡ true → h ≡ hex_digit (b / 16) → l ≡ hex_digit (b % 16)
      → Puts (escaped_byte b) (page out at) (page (set (set (set out at percent) (at + 1) h) (at + 2) l) (at + 3))
  laid-escape {h} {l} t e f =
      let two : at + 1 + 1 ≡ at + 2 = omega arith in
      let three : at + 2 + 1 ≡ at + 3 = omega arith in
      let out₁ = set out at percent in
      let out₂ = set out₁ (at + 1) h in
      let second : Puts (h ∷ []) (page out₁ (at + 1)) (page out₂ (at + 2)) =
      rw (sym two) (byte_put out₁ (at + 1) h (omega (arith, free.within))) in
      let third : Puts (l ∷ []) (page out₂ (at + 2)) (page (set out₂ (at + 2) l) (at + 3)) =
      rw (sym three) (byte_put out₂ (at + 2) l (omega (arith, free.within))) in
      puts_reserved b (reserved_not-space b (sym told ∙ t)) told t
      (puts-escape b e f (byte_put out at percent (omega (arith, free.within))) second third)

  pub laid-plain : {d : ℕ} → r ≡ false → d ≡ plain_byte b → Puts (escaped_byte b) (page out at) (page (set out at d) (at + 1))
  laid-plain {d} t e =
      puts-same (byte_put out at d (omega (arith, free.within))) (ap (λ x. x ∷ []) e ∙ sym (plain-escaped b (sym told ∙ t)))

-- Bytes stored escaped: there is room for an escape for each that is still to come.
pub record Laying (bytes out₀ out : List ℕ) (at next i : ℕ) : Type 0 where
  pub putting : Putting (escaped (drop i bytes)) (escaped bytes) out₀ out at next
  pub free : Room (3 * (length bytes - i)) out next

pub laying_more : {bytes out₀ out out₁ : List ℕ} {at next next₁ i : ℕ} → Laying bytes out₀ out at next i → i < length bytes
    → Puts (escaped_byte (get_or bytes i 0)) (page out next) (page out₁ next₁) → length out₁ ≡ length out → Laying bytes out₀ out₁ at next₁ (i + 1)
laying_more {bytes} {out₀} {out} {out₁} {at} {next} {next₁} {i} v h f g =
    let x = escaped_byte (get_or bytes i 0) in
    let short : length x ≤ 3 = at_most_three (is_reserved (get_or bytes i 0)) (byte_length (get_or bytes i 0)) in
    let place : next₁ ≡ next + length x =
    ap (λ (p : Page). p.at) (f.puts ∙ put-from x out next (omega (arith, short, v.free.within))) in
    record {
      putting = putting_more v.putting (escaped-more bytes i h) f g;
      free = record { fits = omega (arith, short, place, g, v.free.fits); within = omega (arith, short, place, v.free.within) };
    }
  where
    at_most_three : {n : ℕ} (t : Bool) → n ≡ suc (2 * cond t 1 0) → n ≤ 3
    at_most_three true e = omega arith
    at_most_three false e = omega arith

pub laying_done : {bytes out₀ out : List ℕ} {at next i : ℕ} → Laying bytes out₀ out at next i → length bytes ≤ i
    → Puts (escaped bytes) (page out₀ at) (page out next)
laying_done {bytes} {i = i} v h = putting_done v.putting (escaped-done bytes i h)

-- Bytes of the output stored once more behind it: what stands before the place stays, so they are those that stood there at first.
pub record Again (start len : ℕ) (out₀ out : List ℕ) (at i : ℕ) : Type 0 where
  pub putting : Putting (take (len - i) (drop (start + i) out₀)) (take len (drop start out₀)) out₀ out at (at + i)
  pub kept : (j : ℕ) → j < at → get_or out j 0 ≡ get_or out₀ j 0

pub again-start : (start len : ℕ) (out : List ℕ) (at : ℕ) → Again start len out out at 0
again-start start len out at =
    let e : start + 0 ≡ start = omega arith in
    let f : len - 0 ≡ len = omega arith in
    let g : at + 0 ≡ at = omega arith in
    record { putting = rw (e, f, g) (record { to_come = refl; long = refl }); kept = λ j h. refl }

pub again-more : {start len : ℕ} {out₀ out : List ℕ} {at i : ℕ} → Again start len out₀ out at i → Room len out₀ at × (start + len ≤ at) → i < len
    → Again start len out₀ (set out (at + i) (get_or out (start + i) 0)) at (i + 1)
again-more {start} {len} {out₀} {out} {at} {i} v r h =
    record {
      putting = stored_more i v.putting
          (ap (λ n. take n (drop (start + i) out₀)) up
          ∙ ap (take (suc (len - (i + 1)))) (drop_1 out₀ (start + i) (omega (arith, r.0.fits, r.1)))
          ∙ ap (λ n. get_or out₀ (start + i) 0 ∷ take (len - (i + 1)) (drop n out₀)) on
          ∙ ap (λ b. b ∷ take (len - (i + 1)) (drop (start + (i + 1)) out₀)) (sym (v.kept (start + i) (omega (arith, r.1)))))
          (omega (arith, r.0.within));
      kept = λ j k. get_or-set_other out (at + i) j (get_or out (start + i) 0) 0 (λ e. omega arith) ∙ v.kept j k;
    }
  where
    up : len - i ≡ suc (len - (i + 1))
    up = omega arith

    on : start + i + 1 ≡ start + (i + 1)
    on = omega arith

pub again-done : {start len : ℕ} {out₀ out : List ℕ} {at i n : ℕ} → Again start len out₀ out at i → len ≤ i → n ≡ at + i
    → Puts (take len (drop start out₀)) (page out₀ at) (page out n)
again-done {start} {len} {out₀} {out} {at} {i} {n} v h f =
    let e : len - i ≡ 0 = omega arith in rw f (putting_done v.putting (ap (λ k. take k (drop (start + i) out₀)) e))
