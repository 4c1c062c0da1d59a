-- A tree in the middle of a pair: what it will be when the pair has ended is what the whole pair makes of the tree before it.
use mathlib.Core.Path.{◌≡◌, refl, sym, ap, subst, ◌∙◌}
use mathlib.Core.Bool.{false}
use mathlib.Core.Option.{some}
use mathlib.Core.List.{List, [], ◌∷◌, ◌++◌}
use Rattle.config.specs.declared.Config.{Config}
use Rattle.key.specs.Keys.{Key, int, str}
use Rattle.reading.specs.Leaves.{Leaf}
use Rattle.reading.specs.Trees.{Tree, uninitialized, null, no_value, string, map, sequence}
use Rattle.meaning.specs.Rules.{bind, Rule, ◌then◌, single, become_map, become_sequence, append, in_map, adding, pushing, at_path, along}
use Rattle.meaning.proofs.Along.{along_then_path, along_join, along-same}
use Rattle.round_trip.specs.Writable.{Spot, root_spot, spot_under, ElementFits}
use Rattle.round_trip.proofs.Yields.{Yields, just, yields_weaken, yields-known}
use Rattle.round_trip.proofs.KeptFit.{FitsOr, fits_or, append-fits, push-fits, Named, KeyStands, PathFits, spot_after, path-more, spot_more, along-fits}

-- After g, f does what it does without.
abbrev pub Absorbs : Rule → Rule → Type 0
Absorbs g f = (t : Tree) → bind (g t) f ≡ f t

-- Where an entry or an element is added, a Map or a Sequence is needed anyway.
absorbs_map : (k : Key) (f : Rule) → Absorbs become_map (in_map k f)
absorbs_map k f uninitialized = refl
absorbs_map k f null = refl
absorbs_map k f no_value = refl
absorbs_map k f (string x) = refl
absorbs_map k f (map es) = refl
absorbs_map k f (sequence xs) = refl

absorbs_sequence : (leaf : Leaf) → Absorbs become_sequence (pushing leaf)
absorbs_sequence leaf uninitialized = refl
absorbs_sequence leaf null = refl
absorbs_sequence leaf no_value = refl
absorbs_sequence leaf (string x) = refl
absorbs_sequence leaf (map es) = refl
absorbs_sequence leaf (sequence xs) = refl

-- The tree before the pair, of which the path and g at its end have made this one: a rule that absorbs g does at the path's end what it does along the
-- whole path on the tree before.
pub record Pending (config : Config) (path : List Key) (g : Rule) (t : Tree) : Type 0 where
  pub before : Tree
  pub fits : FitsOr config (root_spot config) before
  pub goes : (f : Rule) → Absorbs g f → at_path path f t ≡ along path f before

-- At the root a pair may start at any time.
pub pending-root : (config : Config) (g : Rule) (t : Tree) → FitsOr config (root_spot config) t → Pending config [] g t
pending-root config g t h = record { before = t; fits = h; goes = λ f a. refl }

-- So it is of a tree that the path and g have made.
goes_on : (path : List Key) (g : Rule) (before t : Tree) → along path g before ≡ some t → (f : Rule) → Absorbs g f → at_path path f t ≡ along path f before
goes_on path g before t e f a =
    ap (λ o. bind o (at_path path f)) (sym e) ∙ along_then_path path g f before ∙ along-same path (g then f) f a before

-- A map or a sequence that is needed at the end of the path.
pub pending-needs : (config : Config) (path : List Key) (g : Rule) (t : Tree) → Pending config path some t
    → Yields (Pending config path g) (at_path path g t)
pending-needs config path g t p =
    yields-known (at_path path g t)
    (λ u e. record { before = p.before; fits = p.fits; goes = goes_on path g p.before u (sym (p.goes g (λ v. refl)) ∙ e) })

-- A key that is entered there.
pub pending-enters : (config : Config) (path : List Key) (k : Key) (t : Tree) → Pending config path become_map t
    → Yields (Pending config (path ++ (k ∷ [])) some) (at_path path (in_map k some) t)
pending-enters config path k t p =
    yields-known (at_path path (in_map k some) t)
    (λ u e. record {
      before = p.before;
      fits = p.fits;
      goes = goes_on (path ++ (k ∷ [])) some p.before u
          (sym (along_join path (k ∷ []) some p.before) ∙ sym (p.goes (in_map k some) (absorbs_map k some)) ∙ e);
    })

-- Under a key that isn't empty a NoValue may stand.
named-keyed : (config : Config) (s : Spot) (k : Key) → Named k → (spot_under config s k).keyless ≡ false
named-keyed config s (int a) h = refl
named-keyed config s (str []) h = absurd h
named-keyed config s (str (b ∷ x)) h = refl

-- The spot at the end of a path from the root.
abbrev pub end_spot : Config → List Key → Spot
end_spot config path = spot_after config (root_spot config) path

-- The pair ends with a value under a key.
pub pending_adds : (config : Config) (path : List Key) (k : Key) (leaf : Leaf) (t : Tree) → PathFits config (root_spot config) path
    → KeyStands config (end_spot config path) k → ElementFits false (single leaf) → Pending config path become_map t
    → Yields (FitsOr config (root_spot config)) (at_path path (in_map k (adding leaf)) t)
pending_adds config path k leaf t q h l p =
    let whole = path ++ (k ∷ []) in
    let keyed : (end_spot config whole).keyless ≡ false =
    ap (λ s. s.keyless) (spot_more config (root_spot config) path k) ∙ named-keyed config (end_spot config path) k h.named in
    let l' : ElementFits (end_spot config whole).keyless (single leaf) = subst (λ b. ElementFits b (single leaf)) (sym keyed) l in
    subst (Yields (FitsOr config (root_spot config)))
    (sym (p.goes (in_map k (adding leaf)) (absorbs_map k (adding leaf)) ∙ along_join path (k ∷ []) (adding leaf) p.before))
    (yields_weaken (fits_or config (root_spot config))
    (along-fits config whole (root_spot config) (adding leaf) (path-more config (root_spot config) path k q h)
    (λ v f. just {a = append leaf v} (append-fits config leaf v (end_spot config whole) l' f)) p.before p.fits))

-- The pair ends with a value in brackets.
pub pending_pushes : (config : Config) (path : List Key) (leaf : Leaf) (t : Tree) → PathFits config (root_spot config) path
    → (end_spot config path).repeats ≡ false → ElementFits false (single leaf) → Pending config path become_sequence t
    → Yields (FitsOr config (root_spot config)) (at_path path (pushing leaf) t)
pending_pushes config path leaf t q e l p =
    subst (Yields (FitsOr config (root_spot config))) (sym (p.goes (pushing leaf) (absorbs_sequence leaf)))
    (yields_weaken (fits_or config (root_spot config))
    (along-fits config path (root_spot config) (pushing leaf) q (push-fits config leaf (end_spot config path) e l) p.before p.fits))
