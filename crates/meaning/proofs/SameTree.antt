-- The reading of an input and its meaning go the same way, rule by rule: `same-tree`. Where a rule of the reading is refused for space, nothing is
-- said; with unlimited space none is (reading's proofs/Space).
use Prim.Native.Nat.{ℕ, ◌+◌, Ordering}
use mathlib.Core.Path.{◌≡◌, refl, sym, ap, subst}
use mathlib.Core.Bool.{Bool, true, false, cond}
use mathlib.Core.Option.{Option, none, some}
use mathlib.Core.List.{List, [], ◌∷◌, ◌++◌}
use native.Mathlib.Omega.{arith}
use lib.Dec.{ltb}
use lib.ListN.{length}
use Rattle.config.specs.declared.Config.{Config}
use Rattle.refusals.specs.declared.Refusal.{Refusal}
use Rattle.refusals.specs.declared.Refusal.TheVariants.{TooFewRecords, TooLittleText}
use Rattle.key.specs.Keys.{Key, str}
use Rattle.key.specs.KeyOrder.{compare_keys, choose}
use Rattle.reading.specs.Values.{Row, row_key, Value, uninitialized, null, no_value, string, map, sequence, Forest, child, Node, at}
use Rattle.reading.specs.Leaves.{Leaf}
use Rattle.reading.specs.Charging.{Environment, Used, more, root_only, Made, made, refused, Rule, NodeRule, over, charge}
use Rattle.reading.specs.Charging
use Rattle.reading.specs.Adding.{map_at, sequence_at, key_text, leaf_text, value_at, insert_new, enter_new, push}
use Rattle.reading.specs.Adding.{insert_unique, unchanged, enter_key, push_last, no_path}
use Rattle.reading.specs.Adding
use Rattle.reading.specs.Taking.{Token, token, tokens}
use Rattle.reading.specs.Scanning.{root, under, last, Command, skip, refuse, enter, need_map, need_sequence, add}
use Rattle.reading.specs.Scanning.{Mode, root_key, step, finish}
use Rattle.reading.specs.Running.{Answer, accepted, refused_at, Accepts, accepts, resume}
use Rattle.reading.specs.Running
use Rattle.reading.specs.Reading.{alone, lending}
use Rattle.reading.specs.Fitting.{ample, freely}
use Rattle.reading.specs.Trees.{Tree, Entries, entry, Elements, plain, entries, elements}
use Rattle.reading.proofs.Changes.{element, two, new_child, new_entry}
use Rattle.reading.proofs.Labels.{label-key}
use Rattle.reading.proofs.Lending.{ForSpace}
use Rattle.reading.proofs.Lending
use Rattle.reading.proofs.Runs.{Ends, refuses_at}
use Rattle.reading.proofs.Space.{Fine, parsed_fine}
use Rattle.meaning.specs.Rules.{single, adding, pushing}
use Rattle.meaning.specs.Rules
use Rattle.meaning.specs.Meaning.{meaning}
use Rattle.meaning.specs.Meaning
use Rattle.meaning.specs.SameTree.{SameTree}

-- What the reading makes and what the rules on trees make are related by R, or both refuse; or the reading refuses for space.
data Like {A B : Type 0} (R : A → B → Type 0) : Made A → Option B → Type 0 where
  both : {a : A} {u : Used} {b : B} → R a b → Like R (made a u) (some b)
  neither : {x : Refusal} → Like R (refused x) none
  scarce : {x : Refusal} {o : Option B} → ForSpace x → Like R (refused x) o

-- The node stands under the key of this row, with this tree.
record Is (row : Row) (n : Node) (t : Tree) : Type 0 where
  key : row_key n.row ≡ row_key row
  tree : plain n.value ≡ t

-- The children of a Map, and its entries.
abbrev Holds : Forest → Entries → Type 0
Holds cs es = entries cs ≡ es

-- The children of a Sequence, and its elements.
abbrev Lists : Forest → Elements → Type 0
Lists cs xs = elements cs ≡ xs

-- What is made is changed, or gone on with, on both sides.
like_over : {A B C D : Type 0} {R : A → C → Type 0} {S : B → D → Type 0} (f : A → B) (g : C → D) → ((a : A) (c : C) → R a c → S (f a) (g c))
    → {r : Made A} {o : Option C} → Like R r o → Like S (over f r) (Rules.bind o (λ c. some (g c)))
like_over f g h (both p) = both (h _ _ p)
like_over f g h neither = neither
like_over f g h (scarce x) = scarce x

like_bind : {A B C D : Type 0} {R : A → C → Type 0} {S : B → D → Type 0} (f : A → Used → Made B) (g : C → Option D)
    → ((a : A) (u : Used) (c : C) → R a c → Like S (f a u) (g c))
    → {r : Made A} {o : Option C} → Like R r o → Like S (Charging.bind r f) (Rules.bind o g)
like_bind f g h (both p) = h _ _ _ p
like_bind f g h neither = neither
like_bind f g h (scarce x) = scarce x

-- One of three by an order, on both sides.
like_choose : {A B : Type 0} {R : A → B → Type 0} (o : Ordering) {a b c : Made A} {a' b' c' : Option B} → Like R a a' → Like R b b' → Like R c c'
    → Like R (choose o a b c) (choose o a' b' c')
like_choose Ordering.lt p q r = p
like_choose Ordering.eq p q r = q
like_choose Ordering.gt p q r = r

-- The same where the choice stands inside `some`.
like_choose-some : {A B : Type 0} {R : A → B → Type 0} (o : Ordering) {a b c : Made A} {a' b' c' : B}
    → Like R a (some a') → Like R b (some b') → Like R c (some c') → Like R (choose o a b c) (some (choose o a' b' c'))
like_choose-some Ordering.lt p q r = p
like_choose-some Ordering.eq p q r = q
like_choose-some Ordering.gt p q r = r

-- A charge is made, or refused for space.
like_charge : {A B : Type 0} {R : A → B → Type 0} (env : Environment) (k : ℕ) (x : List ℕ) (a : A) (u : Used) {b : B} → R a b
    → Like R (charge env k x a u) (some b)
like_charge {R} env k x a u {b} h = tests (ltb env.lent.records (u.records + k)) (ltb env.lent.bytes (length u.text + length x))
  where
    tests : (few little : Bool) → Like R (cond few (refused TooFewRecords) (cond little (refused TooLittleText) (made a (more u k x)))) (some b)
    tests true little = scarce Lending.records
    tests false true = scarce Lending.text
    tests false false = both h

-- A single value.
leaf_plain : (x : Leaf) (o : ℕ) → plain (value_at x o) ≡ single x
leaf_plain Leaf.null o = refl
leaf_plain Leaf.no_value o = refl
leaf_plain (Leaf.string y) o = refl

-- A value more in a Sequence.
snoc-plain : (cs : Forest) (x : Leaf) (u : Used) → elements (Adding.snoc cs (element x u)) ≡ Rules.snoc (elements cs) (single x)
snoc-plain Forest.none x u = ap (λ (t : Tree). Elements.element t Elements.no_elements) (leaf_plain x (length u.text))
snoc-plain (child m l v cs) x u = ap (Elements.element (plain v)) (snoc-plain cs x u)

-- A new entry.
entry-plain : (k : Key) (o : ℕ) {t t' : Tree} (es : Entries) → t ≡ t' → entry (row_key (Adding.row_at k o)) t es ≡ entry k t' es
entry-plain k o es e = rw (label-key k o, e) refl

map_is : (l : Row) (cs : Forest) (es : Entries) → Holds cs es → Is l (map_at l cs) (Tree.map es)
map_is l cs es e = record { key = refl; tree = ap Tree.map e }

sequence-is : (l : Row) (cs : Forest) (xs : Elements) → Lists cs xs → Is l (sequence_at l cs) (Tree.sequence xs)
sequence-is l cs xs e = record { key = refl; tree = ap Tree.sequence e }

-- An entry whose value was changed where it stands.
here-plain : (m : ℕ) (l : Row) (cs : Forest) (n : Node) (t : Tree) → Is l n t
    → Holds (child m n.row n.value cs) (entry (row_key l) t (entries cs))
here-plain m l cs n t h = rw (h.key, h.tree) refl

-- A Map, or a Sequence, is needed.
expect_map_lem : (v : Value) (u : Used) → Like Holds (Adding.expect_map v u) (Rules.expect_map (plain v))
expect_map_lem uninitialized u = both refl
expect_map_lem null u = neither
expect_map_lem no_value u = neither
expect_map_lem (string o x) u = neither
expect_map_lem (map cs) u = both refl
expect_map_lem (sequence cs) u = neither

expect_sequence_lem : (v : Value) (u : Used) → Like Lists (Adding.expect_sequence v u) (Rules.expect_sequence (plain v))
expect_sequence_lem uninitialized u = both refl
expect_sequence_lem null u = neither
expect_sequence_lem no_value u = neither
expect_sequence_lem (string o x) u = neither
expect_sequence_lem (map cs) u = neither
expect_sequence_lem (sequence cs) u = both refl

-- Every record changes as its tree does.
abbrev Follows : NodeRule → Rules.Rule → Type 0
Follows f g = (l : Row) (v : Value) (u : Used) → Like (Is l) (f l v u) (g (plain v))

-- A new child is a new entry whose tree, if there is one, is this.
abbrev Enters : Key → Rule Forest → Option Tree → Type 0
Enters k new t = (cs : Forest) (u : Used) → Like Holds (new cs u) (Rules.bind t (λ v. some (entry k v (entries cs))))

become_map_lem : Follows Adding.become_map Rules.become_map
become_map_lem l v u = like_over (map_at l) Tree.map (map_is l) (expect_map_lem v u)

become_sequence_lem : Follows Adding.become_sequence Rules.become_sequence
become_sequence_lem l v u = like_over (sequence_at l) Tree.sequence (sequence-is l) (expect_sequence_lem v u)

-- The rules that stand at an entry, in the map that is needed, and at a path.
at-entry : (k : Key) (old : NodeRule) (old' : Rules.Rule) (new : Rule Forest) (t : Option Tree) → Follows old old' → Enters k new t
    → (cs : Forest) (u : Used) → Like Holds (Adding.at_entry k old new cs u) (Rules.at_entry k old' t (entries cs))
at-entry k old old' new t f g Forest.none u = g Forest.none u
at-entry k old old' new t f g (child m l v cs) u =
    like_choose (compare_keys k (row_key l)) (g (child m l v cs) u)
    (like_over (λ n. child m n.row n.value cs) (λ w. entry (row_key l) w (entries cs)) (here-plain m l cs) (f l v u))
    (like_over (child m l v) (entry (row_key l) (plain v)) (λ ds es e. ap (entry (row_key l) (plain v)) e) (at-entry k old old' new t f g cs u))

in_map_lem : (k : Key) (old : NodeRule) (old' : Rules.Rule) (new : Rule Forest) → Follows old old' → Enters k new (old' Tree.uninitialized)
    → Follows (Adding.in_map k old new) (Rules.in_map k old')
in_map_lem k old old' new f g l v u =
    let t = old' Tree.uninitialized in
    let entered : Forest → Used → Made Node = λ cs w. over (map_at l) (Adding.at_entry k old new cs w) in
    let entered' : Entries → Option Tree = λ es. Rules.bind (Rules.at_entry k old' t es) (λ later. some (Tree.map later)) in
    like_bind entered entered'
    (λ cs w es e.
    subst (λ (ds : Entries). Like (Is l) (entered cs w) (entered' ds)) e (like_over (map_at l) Tree.map (map_is l) (at-entry k old old' new t f g cs w)))
    (expect_map_lem v u)

at_path_lem : (ks : List Key) (f : NodeRule) (g : Rules.Rule) → Follows f g → Follows (Adding.at_path ks f) (Rules.at_path ks g)
at_path_lem [] f g h l v u = h l v u
at_path_lem (k ∷ ks) f g h l uninitialized u = neither
at_path_lem (k ∷ ks) f g h l null u = neither
at_path_lem (k ∷ ks) f g h l no_value u = neither
at_path_lem (k ∷ ks) f g h l (string o x) u = neither
at_path_lem (k ∷ ks) f g h l (sequence cs) u = neither
at_path_lem (k ∷ ks) f g h l (map cs) u =
    like_over (map_at l) Tree.map (map_is l)
    (at-entry k (Adding.at_path ks f) (Rules.at_path ks g) no_path none (at_path_lem ks f g h) (λ ds w. neither) cs u)

module _ (env : Environment) where
  insert_new_lem : (k : Key) (x : Leaf) → Enters k (insert_new env k x) (some (single x))
  insert_new_lem k x cs u =
      like_charge env 1 (key_text k ++ leaf_text x) (new_child k x cs u) u
      (entry-plain k (length u.text) (entries cs) (leaf_plain x (length u.text + length (key_text k))))

  enter_new_lem : (k : Key) → Enters k (enter_new env k) (some Tree.uninitialized)
  enter_new_lem k cs u = like_charge env 1 (key_text k) (new_entry k cs u) u (entry-plain k (length u.text) (entries cs) refl)

  sequence_of_two_lem : (x : Leaf) (l : Row) (v : Value) (u : Used) → Like (Is l) (Adding.sequence_of_two env x l v u) (some (Rules.sequence_of_two (plain v) x))
  sequence_of_two_lem x l v u =
      like_charge env 2 (leaf_text x) (sequence_at l (two x v u)) u
      (record {
        key = refl;
        tree = ap (λ (t : Tree). Tree.sequence (Elements.element (plain v) (Elements.element t Elements.no_elements))) (leaf_plain x (length u.text));
      })

  push_like : (x : Leaf) (l : Row) (cs : Forest) (u : Used)
      → Like (Is l) (push env x l cs u) (some (Tree.sequence (Rules.snoc (elements cs) (single x))))
  push_like x l cs u =
      like_charge env 1 (leaf_text x) (sequence_at l (Adding.snoc cs (element x u))) u (record { key = refl; tree = ap Tree.sequence (snoc-plain cs x u) })

  mutual
    append_like : (x : Leaf) (l : Row) (v : Value) (u : Used) → Like (Is l) (Adding.append_value env x l v u) (some (Rules.append x (plain v)))
    append_like x l uninitialized u =
        like_charge env 0 (leaf_text x) (at l (value_at x (length u.text))) u (record { key = refl; tree = leaf_plain x (length u.text) })
    append_like x l null u = sequence_of_two_lem x l null u
    append_like x l no_value u = sequence_of_two_lem x l no_value u
    append_like x l (string o y) u = sequence_of_two_lem x l (string o y) u
    append_like x l (map cs) u = like_over (map_at l) Tree.map (map_is l) (append_empty_key_lem x cs u)
    append_like x l (sequence cs) u = push_like x l cs u

    append_empty_key_lem : (x : Leaf) (cs : Forest) (u : Used) → Like Holds (Adding.append_empty_key env x cs u) (some (Rules.append_empty_key x (entries cs)))
    append_empty_key_lem x Forest.none u = insert_new_lem (str []) x Forest.none u
    append_empty_key_lem x (child m l v cs) u =
        like_choose-some (compare_keys (str []) (row_key l)) (insert_new_lem (str []) x (child m l v cs) u)
        (like_over (λ n. child m n.row n.value cs) (λ w. entry (row_key l) w (entries cs)) (here-plain m l cs) (append_like x l v u))
        (like_over (child m l v) (entry (row_key l) (plain v)) (λ ds es e. ap (entry (row_key l) (plain v)) e) (append_empty_key_lem x cs u))

  push-last : (x : Leaf) → Follows (push_last env x) (pushing x)
  push-last x l v u =
      like_bind (push env x l) (λ xs. some (Tree.sequence (Rules.snoc xs (single x))))
      (λ cs w xs e. subst (λ (ys : Elements). Like (Is l) (push env x l cs w) (some (Tree.sequence (Rules.snoc ys (single x))))) e (push_like x l cs w))
      (expect_sequence_lem v u)

  perform_like : (c : Command) (n : Node) (u : Used) → Like (Is n.row) (Running.perform env c n u) (Meaning.perform c (plain n.value))
  perform_like skip n u = both (record { key = refl; tree = refl })
  perform_like (refuse x) n u = neither
  perform_like (enter path key) n u =
      at_path_lem path (enter_key env key) (Rules.in_map key some)
      (in_map_lem key unchanged some (enter_new env key) (λ l v w. both (record { key = refl; tree = refl })) (enter_new_lem key)) n.row n.value u
  perform_like (need_map path) n u = at_path_lem path Adding.become_map Rules.become_map become_map_lem n.row n.value u
  perform_like (need_sequence path) n u = at_path_lem path Adding.become_sequence Rules.become_sequence become_sequence_lem n.row n.value u
  perform_like (add root x) n u = append_like x n.row n.value u
  perform_like (add (under path key) x) n u =
      at_path_lem path (insert_unique env key x) (Rules.in_map key (adding x))
      (in_map_lem key (Adding.append_value env x) (adding x) (insert_new env key x) (append_like x) (insert_new_lem key x)) n.row n.value u
  perform_like (add (last path) x) n u = at_path_lem path (push_last env x) (pushing x) (push-last x) n.row n.value u

-- The same of a whole reading.
data LikeAnswer : Answer → Option Tree → Type 0 where
  both : {n : Node} {u : Used} {t : Tree} → plain n.value ≡ t → LikeAnswer (accepted n u) (some t)
  neither : {x : Refusal} {p : ℕ} → LikeAnswer (refused_at x p) none
  scarce : {x : Refusal} {p : ℕ} {o : Option Tree} → ForSpace x → LikeAnswer (refused_at x p) o

-- A reading goes on, or ends, as its meaning does.
resume_like : {l : Row} (p : ℕ) (K : Node → Used → Answer) (L : Rules.Rule) → ((n : Node) (u : Used) → LikeAnswer (K n u) (L (plain n.value)))
    → {r : Made Node} {o : Option Tree} → Like (Is l) r o → LikeAnswer (resume p r K) (Rules.bind o L)
resume_like p K L h (Like.both {a = n} {u = u} i) = subst (λ (t : Tree). LikeAnswer (K n u) (L t)) i.tree (h n u)
resume_like p K L h Like.neither = neither
resume_like p K L h (Like.scarce x) = scarce x

end_like : {l : Row} (p : ℕ) {r : Made Node} {o : Option Tree} → Like (Is l) r o → LikeAnswer (resume p r accepted) o
end_like p (Like.both i) = both i.tree
end_like p Like.neither = neither
end_like p (Like.scarce x) = scarce x

run_like : (config : Config) (env : Environment) (ts : List Token) (p : ℕ) (m : Mode) (n : Node) (u : Used)
    → LikeAnswer (Running.run config env ts p m n u) (Meaning.run config ts m (plain n.value))
run_like config env [] p m n u = end_like (p + 1) (perform_like env (finish config m) n u)
run_like config env (token y b s ∷ ts) p m n u =
    let q = p + length (b ∷ s) in
    let m' = (step config m y (b ∷ s)).next in
    resume_like q (Running.run config env ts q m') (Meaning.run config ts m') (λ w v. run_like config env ts q m' w v)
    (perform_like env (step config m y (b ∷ s)).command n u)

freely_like : (config : Config) (input : List ℕ) → LikeAnswer (freely config input) (meaning config input)
freely_like config [] = both refl
freely_like config (b ∷ s) = run_like config (lending (ample (b ∷ s))) (tokens config (b ∷ s)) 0 (root_key []) (alone uninitialized) root_only

-- With enough lent, no refusal is for space.
not_fine : {x : Refusal} → ForSpace x → Fine x → ⊥
not_fine Lending.records h = h
not_fine Lending.text h = h

-- What is accepted is the meaning.
like_means : {a : Answer} {o : Option Tree} {n : Node} {u : Used} → LikeAnswer a o → a ≡ accepted n u → o ≡ some (plain n.value)
like_means {n = n} (both {n = n'} i) e = let z : n' ≡ n = cc in rw (sym i, z) refl
like_means neither e = absurd (let z : ◌≡◌ {A = ℕ} 0 1 = cc in omega arith)
like_means (scarce x) e = absurd (let z : ◌≡◌ {A = ℕ} 0 1 = cc in omega arith)

-- What means a tree is accepted, where nothing is refused for space.
like_accepts : {a : Answer} {o : Option Tree} {t : Tree} → LikeAnswer a o → Ends (λ n u. Unit) (λ x p. Fine x) a → o ≡ some t
    → Accepts (λ n u. plain n.value ≡ t) a
like_accepts {t = t} (both {t = t'} i) f e = let z : t' ≡ t = cc in accepts (rw z at i)
like_accepts neither f e = absurd (let z : ◌≡◌ {A = ℕ} 0 1 = cc in omega arith)
like_accepts (scarce x) (refuses_at h) e = absurd (not_fine x h)

pub same-tree : SameTree
same-tree config input =
    record {
      means = λ tree used e. like_means (freely_like config input) e;
      accepted = λ tree e. like_accepts (freely_like config input) (parsed_fine config input (ample input) (omega arith) (omega arith)) e;
    }
