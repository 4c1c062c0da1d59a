-- How what is written is read: the bytes of a text decode to it, those of a key read as that key, and none of them parts pairs, keys or values.
use Prim.Native.Nat.{ℕ, ◌+◌, ◌*◌, ◌/◌, ◌%◌, ◌≤◌, ◌<◌}
use mathlib.Core.Path.{◌≡◌, refl, sym, ap, ◌∙◌}
use mathlib.Core.Bool.{Bool, true, false, cond, ◌||◌}
use mathlib.Core.List.{List, [], ◌∷◌, ◌++◌}
use native.Mathlib.Omega.{arith}
use borrow.Author.Tests.{eqb-true, ne_eqb, le-leb, lt-leb, lt-ltb, le-ltb}
use lib.Dec.{eqb}
use lib.ListN.{get_or}
use Rattle.laws.proofs.Cases.{split, below, halves, true-false}
use Rattle.ascii.specs.Bytes.{percent, plus, space, capital_b, capital_d, ampersand, equals, opening, closing}
use Rattle.ascii.specs.Digits.{is_digit, all_digits}
use Rattle.ascii.proofs.Digits.{digit_is}
use Rattle.config.specs.declared.Config.{Config}
use Rattle.decode.specs.Hex.{digit_of, is_hex, byte_of}
use Rattle.decode.specs.Decoding.{plus_to_space, decoded}
use Rattle.key.specs.Keys.{Key, int, str, max_int, needless_zero, is_int, key_of}
use Rattle.key.proofs.Digits.{int-digits, int-unpadded}
use Rattle.reading.specs.Taking.{other, symbol_of, byte_token, neither, byte_tokens, form_tokens, tokens}
use Rattle.reading.specs.Taking
use Rattle.reading.specs.Numbers.{NotEmpty}
use Rattle.output.specs.Numbers.{decimal, hex_digit}
use Rattle.output.specs.Decimals.{DecimalOf}
use Rattle.output.proofs.Digits.{decimals}
use Rattle.ser.specs.Escaping.{is_reserved, escaped_byte, escaped, escaped_first, escaped_key}
use Rattle.ser.specs.Escaping

-- A key that has a text: an Int within the bound, or a String that isn't empty.
abbrev pub Readable : Key → Type 0
Readable (int a) = a ≤ max_int
Readable (str x) = NotEmpty x

-- No byte of these is a symbol.
abbrev pub Quiet : List ℕ → Type 0
Quiet [] = Unit
Quiet (b ∷ s) = (symbol_of b ≡ other) × Quiet s

-- Bytes in which no `%5B` and no `%5D` starts, whatever follows them: bytes that are no `%`, and escapes whose last digit is no capital `B` or `D`.
pub data Chunks : List ℕ → Type 0 where
  done : Chunks []
  raw : {b : ℕ} {s : List ℕ} → eqb b percent ≡ false → Chunks s → Chunks (b ∷ s)
  escape : {h l : ℕ} {s : List ℕ} → eqb h percent ≡ false → eqb l percent ≡ false → eqb l capital_b ≡ false → eqb l capital_d ≡ false → Chunks s
      → Chunks (percent ∷ h ∷ l ∷ s)

-- A byte that is none of the four is no symbol.
not-symbol : (b : ℕ) → eqb b ampersand ≡ false → eqb b equals ≡ false → eqb b opening ≡ false → eqb b closing ≡ false → symbol_of b ≡ other
not-symbol b e f g h = rw (e, f, g, h) refl

-- A hex digit as it is written: `0` to `9` and `a` to `f`.
data Hex : ℕ → Type 0 where
  low : {b : ℕ} → 48 ≤ b → b ≤ 57 → Hex b
  high : {b : ℕ} → 97 ≤ b → b ≤ 102 → Hex b

hex_digit_lem : (n : ℕ) → n < 16 → Hex (hex_digit n)
hex_digit_lem n h =
    below n 10 (λ k. rw (lt-ltb n 10 k) (low {b = 48 + n} (omega arith) (omega arith)))
    (λ k. rw (le-ltb n 10 k) (high {b = 87 + n} (omega arith) (omega arith)))

-- It is unlike every byte before both ranges.
hex-before : {b : ℕ} (c : ℕ) → Hex b → c < 48 → eqb b c ≡ false
hex-before {b} c (low h k) g = ne_eqb b c (λ e. omega arith)
hex-before {b} c (high h k) g = ne_eqb b c (λ e. omega arith)

-- And unlike every byte between them.
hex-between : {b : ℕ} (c : ℕ) → Hex b → 57 < c → c < 97 → eqb b c ≡ false
hex-between {b} c (low h k) f g = ne_eqb b c (λ e. omega arith)
hex-between {b} c (high h k) f g = ne_eqb b c (λ e. omega arith)

hex_quiet : {b : ℕ} → Hex b → symbol_of b ≡ other
hex_quiet {b} h =
    not-symbol b (hex-before 38 h (omega arith)) (hex-between 61 h (omega arith) (omega arith)) (hex-between 91 h (omega arith) (omega arith))
    (hex-between 93 h (omega arith) (omega arith))

-- The value of a hex digit.
digit_back : (n : ℕ) → n < 16 → digit_of (hex_digit n) ≡ n
unfolding digit_of
digit_back n h =
    below n 10
    (λ k. rw (lt-ltb n 10 k, le-ltb (48 + n) 48 (omega arith), le-leb (48 + n) 57 (omega arith)) (omega arith))
    (λ k.
    rw (
      le-ltb n 10 k,
      le-ltb (87 + n) 48 (omega arith),
      lt-leb (87 + n) 57 (omega arith),
      le-ltb (87 + n) 65 (omega arith),
      lt-leb (87 + n) 70 (omega arith),
      le-ltb (87 + n) 97 (omega arith),
      le-leb (87 + n) 102 (omega arith),
    )
    (omega arith))

-- Decoding goes byte by byte over what is no `%`, and three bytes at a time over an escape.
decoded-raw : (b : ℕ) (r : List ℕ) → eqb b percent ≡ false → decoded (b ∷ r) ≡ plus_to_space b ∷ decoded r
unfolding decoded
decoded-raw b [] e = refl
decoded-raw b (c ∷ []) e = rw e refl
decoded-raw b (c ∷ d ∷ r) e = rw e refl

decoded-hex : (h l : ℕ) (r : List ℕ) → is_hex h ≡ true → is_hex l ≡ true → decoded (percent ∷ h ∷ l ∷ r) ≡ byte_of h l ∷ decoded r
unfolding decoded
decoded-hex h l r e f = rw (e, f) refl

-- The escape of a byte decodes to it.
decoded-escape : (b : ℕ) (r : List ℕ) → b < 256 → decoded (Escaping.escape b ++ r) ≡ b ∷ decoded r
decoded-escape b r h =
    let high : digit_of (hex_digit (b / 16)) ≡ b / 16 = digit_back (b / 16) (omega arith) in
    let low : digit_of (hex_digit (b % 16)) ≡ b % 16 = digit_back (b % 16) (omega arith) in
    let whole : 16 * (b / 16) + b % 16 ≡ b = omega arith in
    decoded-hex (hex_digit (b / 16)) (hex_digit (b % 16)) r (rw high (lt-ltb (b / 16) 16 (omega arith))) (rw low (lt-ltb (b % 16) 16 (omega arith)))
    ∙ ap (◌∷ decoded r) (ap (λ n. 16 * n + digit_of (hex_digit (b % 16))) high ∙ ap (λ n. 16 * (b / 16) + n) low ∙ whole)

-- The three ways in which a byte is written.
data Written : ℕ → List ℕ → Type 0 where
  as_plus : Written space (plus ∷ [])
  as_escape : {b : ℕ} → b < 256 → Written b (Escaping.escape b)
  as_itself : {b : ℕ} → eqb b percent ≡ false → eqb b plus ≡ false → symbol_of b ≡ other → Written b (b ∷ [])

-- One of two tests holds.
either : {C : Type 0} (a b : Bool) → (a ≡ true → C) → (b ≡ true → C) → a || b ≡ true → C
either true b f g e = f refl
either false b f g e = g e

-- Neither of two tests holds.
none_of : (a b : Bool) → a || b ≡ false → (a ≡ false) × (b ≡ false)
none_of true b e = true-false e
none_of false b e = (refl, e)

reserved_byte : (b : ℕ) → is_reserved b ≡ true → b < 256
reserved_byte b =
    either (eqb b percent || eqb b plus || eqb b ampersand || eqb b equals || eqb b opening) (eqb b closing)
    (either (eqb b percent || eqb b plus || eqb b ampersand || eqb b equals) (eqb b opening)
    (either (eqb b percent || eqb b plus || eqb b ampersand) (eqb b equals)
    (either (eqb b percent || eqb b plus) (eqb b ampersand)
    (either (eqb b percent) (eqb b plus) (λ e. omega (arith, eqb-true b 37 e)) (λ e. omega (arith, eqb-true b 43 e)))
    (λ e. omega (arith, eqb-true b 38 e)))
    (λ e. omega (arith, eqb-true b 61 e)))
    (λ e. omega (arith, eqb-true b 91 e)))
    (λ e. omega (arith, eqb-true b 93 e))

written_itself : (b : ℕ) → is_reserved b ≡ false → Written b (b ∷ [])
written_itself b e =
    let p = none_of (eqb b percent || eqb b plus || eqb b ampersand || eqb b equals || eqb b opening) (eqb b closing) e in
    let q = none_of (eqb b percent || eqb b plus || eqb b ampersand || eqb b equals) (eqb b opening) p.0 in
    let r = none_of (eqb b percent || eqb b plus || eqb b ampersand) (eqb b equals) q.0 in
    let s = none_of (eqb b percent || eqb b plus) (eqb b ampersand) r.0 in
    let t = none_of (eqb b percent) (eqb b plus) s.0 in
    as_itself t.0 t.1 (not-symbol b s.1 r.1 q.1 p.1)

written : (b : ℕ) → Written b (escaped_byte b)
written b =
    split (eqb b space) (λ e. let z : b ≡ space = eqb-true b space e in rw z as_plus)
    (λ e.
    rw e
    (split (is_reserved b) (λ f. rw f (as_escape (reserved_byte b f))) (λ f. rw f (written_itself b f))))

written-decoded : {b : ℕ} {s : List ℕ} → Written b s → (r : List ℕ) → decoded (s ++ r) ≡ b ∷ decoded r
written-decoded as_plus r = decoded-raw plus r refl
written-decoded (as_escape {b = b} h) r = decoded-escape b r h
written-decoded (as_itself {b = b} e f g) r = decoded-raw b r e ∙ rw f refl

-- What is written of a text decodes to it.
pub escaped-decoded : (x : List ℕ) → decoded (escaped x) ≡ x
unfolding decoded escaped
escaped-decoded [] = refl
escaped-decoded (b ∷ x) = written-decoded (written b) (escaped x) ∙ ap (b ∷◌) (escaped-decoded x)

-- Digits are written as themselves, and nothing else is written as digits.
digits-first : (b : ℕ) (s : List ℕ) → all_digits (b ∷ s) ≡ true → (is_digit b ≡ true) × (all_digits s ≡ true)
unfolding all_digits
digits-first b s e = halves (is_digit b) (all_digits s) e

written-digits : {b : ℕ} {s : List ℕ} → Written b s → (r : List ℕ) → all_digits (s ++ r) ≡ true → (s ≡ b ∷ []) × (all_digits r ≡ true)
written-digits as_plus r e = true-false (sym (digits-first plus r e).0)
written-digits (as_escape {b = b} h) r e = true-false (sym (digits-first percent (hex_digit (b / 16) ∷ hex_digit (b % 16) ∷ r) e).0)
written-digits (as_itself {b = b} f g h) r e = (refl, (digits-first b r e).1)

digits-escaped : (x : List ℕ) → all_digits (escaped x) ≡ true → escaped x ≡ x
unfolding escaped
digits-escaped [] e = refl
digits-escaped (b ∷ x) e =
    let p = written-digits (written b) (escaped x) e in rw p.0 (ap (b ∷◌) (digits-escaped x p.1))

-- A segment whose first byte is no digit is no Int.
pub not_int : (config : Config) (b : ℕ) (s : List ℕ) → is_digit b ≡ false → is_int config (b ∷ s) ≡ false
not_int config b s e =
    split (is_int config (b ∷ s)) (λ f. true-false (sym (digits-first b s (int-digits config (b ∷ s) f)).0 ∙ e)) (λ f. f)

-- A text that is no Int is written as none.
still-not-int : (config : Config) (x : List ℕ) → is_int config x ≡ false → is_int config (escaped x) ≡ false
still-not-int config x e =
    split (is_int config (escaped x))
    (λ f. true-false (sym f ∙ ap (is_int config) (digits-escaped x (int-digits config (escaped x) f)) ∙ e)) (λ f. f)

-- The key of a segment that is no Int.
key-string : (config : Config) (s : List ℕ) → is_int config s ≡ false → key_of config s ≡ str (decoded s)
key-string config s e = rw e refl

-- A String that would read as an Int, with its first byte escaped.
first_back : (config : Config) (b : ℕ) (x : List ℕ) → is_int config (b ∷ x) ≡ true → key_of config (escaped_first (b ∷ x)) ≡ str (b ∷ x)
first_back config b x e =
    let d = digit_is b (digits-first b x (int-digits config (b ∷ x) e)).0 in
    key-string config (Escaping.escape b ++ escaped x) (not_int config percent (hex_digit (b / 16) ∷ hex_digit (b % 16) ∷ escaped x) refl)
    ∙ ap str (decoded-escape b (escaped x) (omega (arith, d.1)) ∙ ap (b ∷◌) (escaped-decoded x))

-- A decimal has no needless zero.
first-counts : (s : List ℕ) → 48 < get_or s 0 0 → needless_zero s ≡ false
first-counts [] h = refl
first-counts (b ∷ []) h = refl
first-counts (b ∷ c ∷ s) h = ne_eqb b 48 (λ e. omega arith)

decimal-unpadded : (a : ℕ) (s : List ℕ) → DecimalOf a s → needless_zero s ≡ false
decimal-unpadded a s d = below 0 a (λ h. first-counts s (d.unpadded h)) (λ h. rw (d.of_zero (omega arith)))

-- The decimal of an Int is one, whatever the settings. This alone looks at what else an Int is.
decimal-int : (config : Config) (a : ℕ) → a ≤ max_int → is_int config (decimal a) ≡ true
decimal-int config a h =
    let d = decimals a in
    int-unpadded config (decimal a) d.digits (omega (arith, d.value)) (decimal-unpadded a (decimal a) d)

-- What is written of a key reads as that key.
pub key_back : (config : Config) (k : Key) → Readable k → key_of config (escaped_key config k) ≡ k
key_back config (int a) h = rw (decimal-int config a h) (ap int (decimals a).value)
key_back config (str []) h = absurd h
key_back config (str (b ∷ x)) h =
    split (is_int config (b ∷ x)) (λ e. rw e (first_back config b x e))
    (λ e. rw e (key-string config (escaped (b ∷ x)) (still-not-int config (b ∷ x) e) ∙ ap str (escaped-decoded (b ∷ x))))

-- So does a key at the depth.
pub depth_key-back : (config : Config) (c : ℕ) (x : List ℕ) → key_of config (opening ∷ escaped (c ∷ x)) ≡ str (opening ∷ c ∷ x)
depth_key-back config c x =
    key-string config (opening ∷ escaped (c ∷ x)) (not_int config opening (escaped (c ∷ x)) refl)
    ∙ ap str (decoded-raw opening (escaped (c ∷ x)) refl ∙ ap (opening ∷◌) (escaped-decoded (c ∷ x)))

pub quiet_join : (s r : List ℕ) → Quiet s → Quiet r → Quiet (s ++ r)
quiet_join [] r q p = p
quiet_join (b ∷ s) r q p = (q.0, quiet_join s r q.1 p)

escape_quiet : (b : ℕ) → b < 256 → Quiet (Escaping.escape b)
escape_quiet b h = (refl, (hex_quiet (hex_digit_lem (b / 16) (omega arith)), (hex_quiet (hex_digit_lem (b % 16) (omega arith)), tt)))

written_quiet : {b : ℕ} {s : List ℕ} → Written b s → Quiet s
written_quiet as_plus = (refl, tt)
written_quiet (as_escape {b = b} h) = escape_quiet b h
written_quiet (as_itself e f g) = (g, tt)

-- What is written of a text has no symbol.
pub escaped_quiet : (x : List ℕ) → Quiet (escaped x)
unfolding escaped
escaped_quiet [] = tt
escaped_quiet (b ∷ x) = quiet_join (escaped_byte b) (escaped x) (written_quiet (written b)) (escaped_quiet x)

digits_quiet : (s : List ℕ) → all_digits s ≡ true → Quiet s
digits_quiet [] e = tt
digits_quiet (b ∷ s) e =
    let p = digits-first b s e in
    let d = digit_is b p.0 in
    (hex_quiet (low d.0 d.1), digits_quiet s p.1)

-- The first byte of an Int is one whose escape is read back.
int-first : (config : Config) (b : ℕ) (x : List ℕ) → is_int config (b ∷ x) ≡ true → b < 256
int-first config b x e = let d = digit_is b (digits-first b x (int-digits config (b ∷ x) e)).0 in omega (arith, d.1)

-- Nor has what is written of a key.
pub key_quiet : (config : Config) (k : Key) → Quiet (escaped_key config k)
unfolding escaped
key_quiet config (int a) = digits_quiet (decimal a) (decimals a).digits
key_quiet config (str []) = split (is_int config []) (λ e. rw e tt) (λ e. rw e tt)
key_quiet config (str (b ∷ x)) =
    split (is_int config (b ∷ x))
    (λ e. rw e (quiet_join (Escaping.escape b) (escaped x) (escape_quiet b (int-first config b x e)) (escaped_quiet x)))
    (λ e. rw e (escaped_quiet (b ∷ x)))

pub chunks_join : {s r : List ℕ} → Chunks s → Chunks r → Chunks (s ++ r)
chunks_join done q = q
chunks_join (raw e p) q = raw e (chunks_join p q)
chunks_join (escape e f g h p) q = escape e f g h (chunks_join p q)

escape_chunks : (b : ℕ) → b < 256 → Chunks (Escaping.escape b)
escape_chunks b h =
    let front = hex_digit_lem (b / 16) (omega arith) in
    let back = hex_digit_lem (b % 16) (omega arith) in
    escape (hex-before 37 front (omega arith)) (hex-before 37 back (omega arith)) (hex-between 66 back (omega arith) (omega arith))
    (hex-between 68 back (omega arith) (omega arith)) done

written_chunks : {b : ℕ} {s : List ℕ} → Written b s → Chunks s
written_chunks as_plus = raw refl done
written_chunks (as_escape {b = b} h) = escape_chunks b h
written_chunks (as_itself e f g) = raw e done

-- With the form flag on, nothing in what is written of a text or of a key is taken as `[` or `]`.
pub escaped_chunks : (x : List ℕ) → Chunks (escaped x)
unfolding escaped
escaped_chunks [] = done
escaped_chunks (b ∷ x) = chunks_join (written_chunks (written b)) (escaped_chunks x)

digits_chunks : (s : List ℕ) → all_digits s ≡ true → Chunks s
digits_chunks [] e = done
digits_chunks (b ∷ s) e =
    let p = digits-first b s e in
    let d = digit_is b p.0 in
    raw (hex-before 37 (low d.0 d.1) (omega arith)) (digits_chunks s p.1)

pub key_chunks : (config : Config) (k : Key) → Chunks (escaped_key config k)
unfolding escaped
key_chunks config (int a) = digits_chunks (decimal a) (decimals a).digits
key_chunks config (str []) = split (is_int config []) (λ e. rw e done) (λ e. rw e done)
key_chunks config (str (b ∷ x)) =
    split (is_int config (b ∷ x)) (λ e. rw e (chunks_join (escape_chunks b (int-first config b x e)) (escaped_chunks x)))
    (λ e. rw e (escaped_chunks (b ∷ x)))

-- With the flag on, a byte that is no `%` is taken alone, whatever follows it.
form_raw : (b : ℕ) (r : List ℕ) → eqb b percent ≡ false → form_tokens (b ∷ r) ≡ byte_token b ∷ form_tokens r
form_raw b [] e = refl
form_raw b (c ∷ []) e = refl
form_raw b (c ∷ d ∷ r) e = rw e refl

-- So is a `%`, where the second byte after it is neither `B` nor `D`.
no-escape : (h l : ℕ) → eqb l capital_b ≡ false → eqb l capital_d ≡ false → Taking.escape percent h l ≡ neither
no-escape h l e f = rw (e, f) (same (eqb h 53))
  where
    same : (b : Bool) → cond b neither neither ≡ neither
    same true = refl
    same false = refl

form_percent : (h l : ℕ) (r : List ℕ) → eqb l capital_b ≡ false → eqb l capital_d ≡ false
    → form_tokens (percent ∷ h ∷ l ∷ r) ≡ byte_token percent ∷ form_tokens (h ∷ l ∷ r)
form_percent h l r e f = rw (no-escape h l e f) refl

chunks_form : {s : List ℕ} → Chunks s → form_tokens s ≡ byte_tokens s
chunks_form done = refl
chunks_form (raw {b = b} {s = s} e p) = form_raw b s e ∙ ap (byte_token b ∷◌) (chunks_form p)
chunks_form (escape {h = h} {l = l} {s = s} e f g i p) =
    form_percent h l s g i
    ∙ ap (byte_token percent ∷◌)
    (form_raw h (l ∷ s) e ∙ ap (byte_token h ∷◌) (form_raw l s f ∙ ap (byte_token l ∷◌) (chunks_form p)))

-- So with the flag on they are taken as with the flag off.
pub chunks_tokens : (config : Config) (s : List ℕ) → Chunks s → tokens config s ≡ byte_tokens s
chunks_tokens config s p = split config.form (λ e. rw e (chunks_form p)) (λ e. rw e refl)

written-some : {b : ℕ} {s : List ℕ} → Written b s → (r : List ℕ) → NotEmpty (s ++ r)
written-some as_plus r = tt
written-some (as_escape h) r = tt
written-some (as_itself e f g) r = tt

-- What isn't empty is written as something.
pub escaped-some : (x : List ℕ) → NotEmpty x → NotEmpty (escaped x)
unfolding escaped
escaped-some [] h = absurd h
escaped-some (b ∷ x) h = written-some (written b) (escaped x)

-- A decimal has at least one digit.
decimal-some : (a : ℕ) (s : List ℕ) → DecimalOf a s → NotEmpty s
decimal-some a [] d =
    below 0 a (λ h. absurd (omega (arith, d.unpadded h)))
    (λ h. let e : [] ≡ 48 ∷ [] = d.of_zero (omega arith) in absurd (omega (arith, ap (λ s. get_or s 0 0) e)))
decimal-some a (b ∷ s) d = tt

pub key-some : (config : Config) (k : Key) → Readable k → NotEmpty (escaped_key config k)
key-some config (int a) h = decimal-some a (decimal a) (decimals a)
key-some config (str []) h = absurd h
key-some config (str (b ∷ x)) h = split (is_int config (b ∷ x)) (λ e. rw e tt) (λ e. rw e (escaped-some (b ∷ x) tt))
