-- A, `&`, B is read as A is, and then B from A's tree on.
use Prim.Native.Nat.{ℕ, ◌+◌}
use mathlib.Core.Path.{◌≡◌, ap, ◌∙◌}
use mathlib.Core.List.{List, [], ◌∷◌, ◌++◌}
use native.Mathlib.Omega.{arith}
use lib.ListN.{length}
use Rattle.ascii.specs.Bytes as byte
use Rattle.config.specs.declared.Config.{Config}
use Rattle.reading.specs.Values.{Node}
use Rattle.reading.specs.Charging.{Environment, Used, Made, made, refused}
use Rattle.reading.specs.Taking.{ampersand, Token, token, tokens}
use Rattle.reading.specs.Scanning.{Mode, root_key, value, bracket, key_below_depth, key_at_depth, after_key, after_brackets, finish, step}
use Rattle.reading.specs.Running.{perform, Answer, accepted, resume, run}
use Rattle.reading.specs.Joining.{Joining}
use Rattle.reading.proofs.Takings.{end_of, tokens_split, tokens-end}

-- What goes on where the first is accepted.
resumed : (p : ℕ) (onward : Node → Used → Answer) {n : Node} {u : Used} (r : Made Node) → resume p r accepted ≡ accepted n u
    → resume p r onward ≡ onward n u
resumed p onward (made w v) e = cc
resumed p onward (refused x) e = absurd (let z : ◌≡◌ {A = ℕ} 0 1 = cc in omega arith)

resumed_on : (p : ℕ) (K L : Node → Used → Answer) (r : Made Node) {n : Node} {u : Used} {b : Answer}
    → ((w : Node) (v : Used) → K w v ≡ accepted n u → L w v ≡ b) → resume p r K ≡ accepted n u → resume p r L ≡ b
resumed_on p K L (made w v) h e = h w v e
resumed_on p K L (refused x) h e = absurd (let z : ◌≡◌ {A = ℕ} 0 1 = cc in omega arith)

module _ (config : Config) (env : Environment) (us : List Token) where
  -- Where the end accepts, `&` does what the end does.
  at-end : (p : ℕ) (m : Mode) (n : Node) (u : Used) {n' : Node} {u' : Used} → run config env [] p m n u ≡ accepted n' u'
      → run config env (token ampersand byte.ampersand [] ∷ us) p m n u ≡ run config env us (p + 1) (root_key []) n' u'
  at-end p (root_key s) n u e = resumed (p + 1) (run config env us (p + 1) (root_key [])) (perform env (finish config (root_key s)) n u) e
  at-end p (value target s) n u e = resumed (p + 1) (run config env us (p + 1) (root_key [])) (perform env (finish config (value target s)) n u) e
  at-end p (bracket path level opened) n u e = absurd (let z : ◌≡◌ {A = ℕ} 0 1 = cc in omega arith)
  at-end p (key_below_depth path level s) n u e = absurd (let z : ◌≡◌ {A = ℕ} 0 1 = cc in omega arith)
  at-end p (key_at_depth path s) n u e = resumed (p + 1) (run config env us (p + 1) (root_key [])) (perform env (finish config (key_at_depth path s)) n u) e
  at-end p (after_key path level key) n u e =
      resumed (p + 1) (run config env us (p + 1) (root_key [])) (perform env (finish config (after_key path level key)) n u) e
  at-end p (after_brackets path) n u e = resumed (p + 1) (run config env us (p + 1) (root_key [])) (perform env (finish config (after_brackets path)) n u) e

  -- The place past the end of the first is where the second starts.
  joined : (ts : List Token) (p : ℕ) (m : Mode) (n : Node) (u : Used) {n' : Node} {u' : Used} → run config env ts p m n u ≡ accepted n' u'
      → run config env (ts ++ (token ampersand byte.ampersand [] ∷ us)) p m n u ≡ run config env us (end_of ts p) (root_key []) n' u'
  joined [] p m n u e = at-end p m n u e
  joined (token y b s ∷ ts) p m n u e =
      let q = p + length (b ∷ s) in
      let m' = (step config m y (b ∷ s)).next in
      resumed_on q (run config env ts q m') (run config env (ts ++ (token ampersand byte.ampersand [] ∷ us)) q m')
      (perform env (step config m y (b ∷ s)).command n u)
      (λ w v f. joined ts q m' w v f) e

pub joining : Joining
joining config env A B place mode tree used tree' used' e =
    let f = joined config env (tokens config B) (tokens config A) place mode tree used e in
    let g : end_of (tokens config A) place ≡ place + length A + 1 = tokens-end config A place in
    rw (tokens_split config A B) (f ∙ ap (λ (p : ℕ). run config env (tokens config B) p (root_key []) tree' used') g)
