-- Where there is a next, what is left is it and the siblings behind it.
use Rattle.std.proofs.Common.{◌≡◌, ◌<◌, ◌∷◌, ap, ◌∙◌, arith, length, rules}
use Rattle.row.specs.Words.{record_count}
use Rattle.records.specs.Siblings.{chain}
use Rattle.records.proofs.Chains.{chain-end, next-sibling, sibling-inside, siblings-end}
use Rattle.records.proofs.siblings.SiblingsIterator.next.Goals as goal

pub returns-then-self-eq0-clause-steps : goal.returns-then-self-eq0-clause-steps
returns-then-self-eq0-clause-steps c =
    let ws = c.args.self.now.words.now in
    let none = ap (chain ws (record_count ws)) c.if-self-eq0.true ∙ chain-end ws (record_count ws) in
    (none, none)

pub get_word-self-requires : goal.get_word-self-requires
get_word-self-requires c =
    (sibling-inside c.args.self.now.words.now c.args.self.now.end c.if-self-eq0.false, omega arith)

pub invariant_of-self : goal.invariant_of-self
invariant_of-self c =
    record { end = rw c.get_word-self.ensures (siblings-end c.args.self.now.words.now c.args.self.now.end c.if-self-eq0.false) }

pub returns-clause-steps : goal.returns-clause-steps
returns-clause-steps c =
    rw c.get_word-self.ensures (next-sibling c.args.self.now.words.now c.args.self.now.end c.if-self-eq0.false)

pub returns-clause-goes : goal.returns-clause-goes
returns-clause-goes c =
    let ws = c.args.self.now.words.now in
    let next : chain ws (record_count ws) c.args.self.now.cur ≡ c.args.self.now.cur ∷ chain ws (record_count ws) c.get_word-self.result =
    rw c.get_word-self.ensures (next-sibling ws c.args.self.now.end c.if-self-eq0.false) in
    let fewer : length (chain ws (record_count ws) c.get_word-self.result) < length (chain ws (record_count ws) c.args.self.now.cur) = rw next (omega arith) in
    search rules
