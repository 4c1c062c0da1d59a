-- All pairs that are written of a tree, read one after the other, make that tree again.
use Prim.Native.Nat.{ℕ, ◌+◌}
use mathlib.Core.Path.{◌≡◌, refl, sym, ◌∙◌, ap, subst}
use mathlib.Core.Bool.{Bool, true, false, ◌&&◌}
use mathlib.Core.Option.{some}
use mathlib.Core.List.{List, [], ◌∷◌, ◌++◌, map as every, append-nil, append_assoc}
use lib.Dec.{eqb}
use Rattle.laws.proofs.Cases.{by_test, true-false}
use Rattle.ascii.specs.Bytes as byte
use Rattle.config.specs.declared.Config.{Config}
use Rattle.key.specs.Keys.{Key, int, str}
use Rattle.reading.specs.Leaves.{Leaf}
use Rattle.reading.specs.Numbers.{NotEmpty}
use Rattle.reading.specs.Trees.{Tree, uninitialized, null, no_value, string, map, sequence, Entries, no_entries, entry}
use Rattle.reading.specs.Trees.{Elements, no_elements, element}
use Rattle.reading.specs.Taking.{byte_tokens, tokens}
use Rattle.reading.specs.Scanning.{root_key}
use Rattle.meaning.specs.Meaning.{run, meaning}
use Rattle.meaning.proofs.Along.{bind-same}
use Rattle.ser.specs.Escaping.{escaped_key, escaped_at_depth}
use Rattle.ser.specs.Writing.{at_root, is_at_depth, key_at, pairs, joined, written}
use Rattle.ser.proofs.Reading.{Chunks, chunks_join, escaped_chunks, key_chunks, chunks_tokens, key-some}
use Rattle.round_trip.specs.Writable.{Spot, root_spot, spot_under, KeyFits, ElementFits, ElementsFit, maps_at, Fits, EntriesFit, Writable}
use Rattle.round_trip.proofs.KeptFit.{Named, KeyStands, PathFits}
use Rattle.round_trip.proofs.Effects
use Rattle.round_trip.proofs.Effects.{Effect, put, push, apply_all, under, of_element, of_elements, effects, of_named, of_empty, Sorted, Some, Puts}
use Rattle.round_trip.proofs.Remade.{effects_some, empty_puts, remade}
use Rattle.round_trip.proofs.Bytes.{position_at, leaf_bytes, bytes_of, pairs-bytes}
use Rattle.round_trip.proofs.KeysRead.{end, next, onward}
use Rattle.round_trip.proofs.PairsRead.{keys_bytes, position-key, tokens_join, first_fits, EffectFits, pair_read}

-- Each of them has P.
abbrev Each : (Effect → Type 0) → List Effect → Type 0
Each P [] = Unit
Each P (e ∷ es) = P e × Each P es

each_join : (P : Effect → Type 0) (ds es : List Effect) → Each P ds → Each P es → Each P (ds ++ es)
each_join P [] es h k = k
each_join P (d ∷ ds) es h k = (h.0, each_join P ds es h.1 k)

-- The pairs of a tree that fits can be read back.
each-under : (c : Config) (s : Spot) (k : Key) → KeyStands c s k → (es : List Effect) → Each (EffectFits c (spot_under c s k)) es
    → Each (EffectFits c s) (every (under k) es)
each-under c s k h [] f = tt
each-under c s k h (put ks x ∷ es) f = (((h, f.0.0), f.0.1), each-under c s k h es f.1)
each-under c s k h (push ks x ∷ es) f = (((h, f.0.0), f.0.1, f.0.2), each-under c s k h es f.1)

each_empty : (c : Config) (s : Spot) (es : List Effect) → Puts es → Each (EffectFits c (spot_under c s (str []))) es → Each (EffectFits c s) es
each_empty c s [] p h = tt
each_empty c s (put [] x ∷ es) p h = ((tt, h.0.1), each_empty c s es p h.1)
each_empty c s (put (k ∷ ks) x ∷ es) p h = absurd p
each_empty c s (push ks x ∷ es) p h = absurd p

both_false : (a : Bool) → a && true ≡ false → a ≡ false
both_false true e = e
both_false false e = e

element-fits : (c : Config) (n : ℕ) (r k : Bool) (v : Tree) → ElementFits (k && r) v
    → Each (EffectFits c (record { level = n; repeats = r; keyless = k })) (of_element r v)
element-fits c n r k uninitialized h = absurd h
element-fits c n true k null h = ((tt, tt), tt)
element-fits c n false k null h = ((tt, refl, tt), tt)
element-fits c n true k no_value h = ((tt, both_false k h), tt)
element-fits c n false k no_value h = ((tt, refl, refl), tt)
element-fits c n true k (string x) h = ((tt, h), tt)
element-fits c n false k (string x) h = ((tt, refl, h), tt)
element-fits c n r k (map es) h = absurd h
element-fits c n r k (sequence xs) h = absurd h

elements-fit : (c : Config) (n : ℕ) (r k : Bool) (xs : Elements) → ElementsFit (k && r) xs
    → Each (EffectFits c (record { level = n; repeats = r; keyless = k })) (of_elements r xs)
elements-fit c n r k no_elements h = tt
elements-fit c n r k (element v xs) h =
    each_join (EffectFits c (record { level = n; repeats = r; keyless = k })) (of_element r v) (of_elements r xs) (element-fits c n r k v h.0)
    (elements-fit c n r k xs h.1)

mutual
  effects_fit : (t : Tree) (c : Config) (s : Spot) → Fits c s t → Each (EffectFits c s) (effects c s t)
  effects_fit uninitialized c s h = absurd h
  effects_fit null c s h = ((tt, tt), tt)
  effects_fit no_value c s h = ((tt, h), tt)
  effects_fit (string x) c s h = ((tt, h), tt)
  effects_fit (map es) c s h =
      each_join (EffectFits c s) (of_named c s es) (of_empty c s es) (named-fit es c s h.0 h.2) (empty_fit es c s h.2)
  effects_fit (sequence xs) c s h = elements-fit c s.level s.repeats s.keyless xs h.1

  named-fit : (es : Entries) (c : Config) (s : Spot) → maps_at s ≡ true → EntriesFit c s es → Each (EffectFits c s) (of_named c s es)
  named-fit no_entries c s e h = tt
  named-fit (entry (int a) v es) c s e h =
      let ds = effects c (spot_under c s (int a)) v in
      each_join (EffectFits c s) (every (under (int a)) ds) (of_named c s es)
      (each-under c s (int a) (record { maps = e; named = tt; key = h.0 }) ds (effects_fit v c (spot_under c s (int a)) h.1))
      (named-fit es c s e h.2)
  named-fit (entry (str []) v es) c s e h = named-fit es c s e h.2
  named-fit (entry (str (b ∷ x)) v es) c s e h =
      let ds = effects c (spot_under c s (str (b ∷ x))) v in
      each_join (EffectFits c s) (every (under (str (b ∷ x))) ds) (of_named c s es)
      (each-under c s (str (b ∷ x)) (record { maps = e; named = tt; key = h.0 }) ds (effects_fit v c (spot_under c s (str (b ∷ x))) h.1))
      (named-fit es c s e h.2)

  empty_fit : (es : Entries) (c : Config) (s : Spot) → EntriesFit c s es → Each (EffectFits c s) (of_empty c s es)
  empty_fit no_entries c s h = tt
  empty_fit (entry (int a) v es) c s h = empty_fit es c s h.2
  empty_fit (entry (str []) v es) c s h =
      let ds = effects c (spot_under c s (str [])) v in
      each_join (EffectFits c s) ds (of_empty c s es)
      (each_empty c s ds (empty_puts c s v h.1) (effects_fit v c (spot_under c s (str [])) h.1)) (empty_fit es c s h.2)
  empty_fit (entry (str (b ∷ x)) v es) c s h = empty_fit es c s h.2

-- No such pair is empty.
some-front : (s r : List ℕ) → NotEmpty s → NotEmpty (s ++ r)
some-front [] r h = absurd h
some-front (b ∷ s) r h = tt

some_back : (s : List ℕ) (b : ℕ) (r : List ℕ) → NotEmpty (s ++ (b ∷ r))
some_back [] b r = tt
some_back (a ∷ s) b r = tt

pair-some : (c : Config) (e : Effect) → EffectFits c (root_spot c) e → NotEmpty (bytes_of c (at_root c) e)
pair-some c (put [] Leaf.null) h = tt
pair-some c (put [] Leaf.no_value) h = true-false h.1
pair-some c (put [] (Leaf.string x)) h = tt
pair-some c (put (k ∷ ks) x) h =
    let r = first_fits c uninitialized k h.0.0.named h.0.0.key in
    rw (position-key c (k ∷ ks) (at_root c))
    (some-front (escaped_key c k ++ keys_bytes c 1 ks) (leaf_bytes x) (some-front (escaped_key c k) (keys_bytes c 1 ks) (key-some c k r)))
pair-some c (push ks x) h =
    some-front ((position_at c (at_root c) ks).key ++ (byte.opening ∷ byte.closing ∷ [])) (leaf_bytes x)
    (some_back (position_at c (at_root c) ks).key byte.opening (byte.closing ∷ []))

-- With the form flag on nothing in such a pair is taken as a bracket that is none.
depth_chunks : (k : Key) → Named k → KeyFits true k → Chunks (escaped_at_depth k)
depth_chunks (int a) n h = absurd h
depth_chunks (str []) n h = absurd n
depth_chunks (str (b ∷ [])) n h = absurd h
depth_chunks (str (b ∷ d ∷ x)) n h = rw h (Chunks.raw {b = byte.opening} refl (escaped_chunks (d ∷ x)))

key-at_chunks : (c : Config) (n : ℕ) (k : Key) → Named k → KeyFits (is_at_depth c n) k → Chunks (key_at c n k)
key-at_chunks c n k h f =
    by_test Chunks (eqb n 1) (λ e. key_chunks c k)
    (λ e.
    by_test Chunks (is_at_depth c n) (λ d. depth_chunks k h (subst (λ b. KeyFits b k) d f))
    (λ d. Chunks.raw {b = byte.opening} refl (chunks_join (key_chunks c k) (Chunks.raw {b = byte.closing} refl Chunks.done))))

keys_chunks : (c : Config) (ks : List Key) (s : Spot) → PathFits c s ks → Chunks (keys_bytes c s.level ks)
keys_chunks c [] s p = Chunks.done
keys_chunks c (int a ∷ ks) s p =
    chunks_join (key-at_chunks c (s.level + 1) (int a) tt p.0.key) (keys_chunks c ks (spot_under c s (int a)) p.1)
keys_chunks c (str [] ∷ ks) s p = absurd p.0.named
keys_chunks c (str (b ∷ x) ∷ ks) s p =
    chunks_join (key-at_chunks c (s.level + 1) (str (b ∷ x)) tt p.0.key) (keys_chunks c ks (spot_under c s (str (b ∷ x))) p.1)

leaf_chunks : (x : Leaf) → Chunks (leaf_bytes x)
leaf_chunks Leaf.null = Chunks.raw {b = byte.equals} refl Chunks.done
leaf_chunks Leaf.no_value = Chunks.done
leaf_chunks (Leaf.string x) = Chunks.raw {b = byte.equals} refl (escaped_chunks x)

pair_chunks : (c : Config) (e : Effect) → EffectFits c (root_spot c) e → Chunks (bytes_of c (at_root c) e)
pair_chunks c (put ks x) h = rw (position-key c ks (at_root c)) (chunks_join (keys_chunks c ks (root_spot c) h.0) (leaf_chunks x))
pair_chunks c (push ks x) h =
    rw (position-key c ks (at_root c))
    (chunks_join (chunks_join (keys_chunks c ks (root_spot c) h.0) (Chunks.raw {b = byte.opening} refl (Chunks.raw {b = byte.closing} refl Chunks.done)))
    (leaf_chunks x))

-- Pairs, each with its `&` in front.
abbrev flat : List (List ℕ) → List ℕ
flat [] = []
flat (pair ∷ more) = byte.ampersand ∷ pair ++ flat more

joined_flat : (ps : List (List ℕ)) (b : ℕ) (s : List ℕ) → joined (b ∷ s) ps ≡ (b ∷ s) ++ flat ps
joined_flat [] b s = sym (append-nil (b ∷ s))
joined_flat (p ∷ ps) b s = joined_flat ps b (s ++ (byte.ampersand ∷ p)) ∙ append_assoc (b ∷ s) (byte.ampersand ∷ p) (flat ps)

joined-some : (ps : List (List ℕ)) (s : List ℕ) → NotEmpty s → joined s ps ≡ s ++ flat ps
joined-some ps [] h = absurd h
joined-some ps (b ∷ s) h = joined_flat ps b s

flat_chunks : (c : Config) (es : List Effect) → Each (EffectFits c (root_spot c)) es → Chunks (flat (every (bytes_of c (at_root c)) es))
flat_chunks c [] h = Chunks.done
flat_chunks c (e ∷ es) h = Chunks.raw {b = byte.ampersand} refl (chunks_join (pair_chunks c e h.0) (flat_chunks c es h.1))

-- Read one after the other they do what they were written for.
pairs-read : (c : Config) (e : Effect) (es : List Effect) → EffectFits c (root_spot c) e → Each (EffectFits c (root_spot c)) es → (t : Tree)
    → run c (byte_tokens (bytes_of c (at_root c) e ++ flat (every (bytes_of c (at_root c)) es))) (root_key []) t ≡ apply_all (e ∷ es) t
pairs-read c e [] h f t =
    ap (λ us. run c us (root_key []) t) (tokens_join (bytes_of c (at_root c) e) []) ∙ pair_read c t e h [] end
pairs-read c e (d ∷ ds) h f t =
    let rest = flat (every (bytes_of c (at_root c)) (d ∷ ds)) in
    ap (λ us. run c us (root_key []) t) (tokens_join (bytes_of c (at_root c) e) rest) ∙ pair_read c t e h (byte_tokens rest) next
    ∙ bind-same (Effects.apply e t) (onward c (byte_tokens rest)) (apply_all (d ∷ ds)) (pairs-read c d ds f.0 f.1)

meaning-some : (c : Config) (w : List ℕ) → NotEmpty w → meaning c w ≡ run c (tokens c w) (root_key []) uninitialized
meaning-some c [] h = absurd h
meaning-some c (b ∷ s) h = refl

-- What is written of a tree that fits at the root means that tree.
fits-back : (c : Config) (t : Tree) → Fits c (root_spot c) t → Sorted t → meaning c (joined [] (pairs c (at_root c) t)) ≡ some t
fits-back c t h o =
    go (effects c (root_spot c) t) (effects_some t c (root_spot c) h) (effects_fit t c (root_spot c) h) (pairs-bytes t c (at_root c) true h)
    (remade t c (root_spot c) h o)
  where
    go : (es : List Effect) → Some es → Each (EffectFits c (root_spot c)) es → pairs c (at_root c) t ≡ every (bytes_of c (at_root c)) es
        → apply_all es uninitialized ≡ some t → meaning c (joined [] (pairs c (at_root c) t)) ≡ some t
    go [] n f e r = absurd n
    go (d ∷ ds) n f e r =
        let first = bytes_of c (at_root c) d in
        let more = flat (every (bytes_of c (at_root c)) ds) in
        let some_IsFirst = pair-some c d f.0 in
        let whole : joined [] (pairs c (at_root c) t) ≡ first ++ more = ap (joined []) e ∙ joined-some (every (bytes_of c (at_root c)) ds) first some_IsFirst in
        let chunks = chunks_join (pair_chunks c d f.0) (flat_chunks c ds f.1) in
        rw whole
        (meaning-some c (first ++ more) (some-front first more some_IsFirst)
        ∙ ap (λ us. run c us (root_key []) uninitialized) (chunks_tokens c (first ++ more) chunks)
        ∙ pairs-read c d ds f.0 f.1 uninitialized ∙ r)

pub written_back : (c : Config) (t : Tree) → Writable c t → Sorted t → meaning c (written c t) ≡ some t
written_back c uninitialized h o =
    ap (λ us. run c us (root_key []) uninitialized) (chunks_tokens c (byte.ampersand ∷ []) (Chunks.raw {b = byte.ampersand} refl Chunks.done))
written_back c null h o = fits-back c null tt tt
written_back c no_value h o = absurd h
written_back c (string x) h o = fits-back c (string x) h o
written_back c (map es) h o = fits-back c (map es) h o
written_back c (sequence xs) h o = fits-back c (sequence xs) h o
