-- The reading of a whole input: what it answers, and what it leaves in the lent buffers. READING, 'Records', 'The root'
-- (an empty ticket) and 'Refusals'. Public contracts equate their results with `reading`.
use Rattle.std.specs.Prelude.{ℕ, ◌*◌, ◌-◌, cond, List, [], ◌∷◌, ◌++◌, ltb, length, replicate}
use Rattle.config.specs.declared.Config.{Config}
use Rattle.config.specs.Limits.{max_depth, max_len}
use Rattle.row.specs.Row.{record_width}
use Rattle.row.specs.Words.{record_count}
use Rattle.reading.specs.declared.Reading.{Reading}
use Rattle.reading.specs.Values.{bare, Value, uninitialized, no_value, Node, at}
use Rattle.refusals.specs.declared.Refusal.{Refusal}
use Rattle.refusals.specs.declared.Refusal.TheVariants.{TooDeep, TooLong, NoRecord}
use Rattle.refusals.specs.Codes.{code}
use Rattle.reading.specs.Charging.{Lent, Environment, root_only}
use Rattle.reading.specs.Taking.{tokens}
use Rattle.reading.specs.Scanning.{root_key}
use Rattle.reading.specs.Running.{Answer, accepted, refused_at, run}
use Rattle.reading.specs.Records.{layout}

-- The four numbers that a reading answers, and what the words and the text hold then.
pub record Outcome : Type 0 where
  pub answer : Reading
  pub words : List ℕ
  pub text : List ℕ

-- An answer that accepts, with the records and the bytes of text that are used.
abbrev pub accepts : ℕ → ℕ → Reading
accepts records bytes = record { number = 0; place = 0; records = records; bytes = bytes }

-- An answer that refuses, with the place.
abbrev pub refuses : Refusal → ℕ → Reading
refuses x place = record { number = code x; place = place; records = 0; bytes = 0 }

-- The answer of a call that is refused after its reading was accepted: its place is 0, and it has the reading's counts.
abbrev pub refused_after : Reading → Refusal → Reading
refused_after a x = record { number = code x; place = 0; records = a.records; bytes = a.bytes }

-- What is lent: as many records as the words make, and the bytes of the text.
abbrev pub lent_by : List ℕ → List ℕ → Lent
lent_by words text = record { records = record_count words; bytes = length text }

-- A tree that is the root alone, of this value.
abbrev pub alone : Value → Node
alone value = at bare value

-- What the rules are told where so much is lent.
abbrev pub lending : Lent → Environment
lending lent = record { lent = lent }

-- `parse` of the source. Without any byte the root is NoValue. Otherwise the takings are carried out, from place 0 and
-- an undecided root.
abbrev pub parsed : Config → List ℕ → Lent → Answer
parsed config [] lent = accepted (alone no_value) root_only
parsed config (b ∷ s) lent =
    run config (lending lent) (tokens config (b ∷ s)) 0 (root_key []) (alone uninitialized) root_only

-- Past refusals 1 to 3 nothing is left of what the slices held: behind what is used they are zero, and after a refusal
-- all is. The arguments are the lengths of the words and the text that are lent.
abbrev pub outcome : ℕ → ℕ → Answer → Outcome
outcome words bytes (accepted tree used) =
    record {
      answer = accepts used.records (length used.text);
      words = layout used.records tree ++ replicate (words - used.records * record_width) 0;
      text = used.text ++ replicate (bytes - length used.text) 0;
    }
outcome words bytes (refused_at x place) =
    record { answer = refuses x place; words = replicate words 0; text = replicate bytes 0 }

-- Refusals 1 to 3: no byte was taken, and words and text are as they were.
abbrev pub unread : Refusal → List ℕ → List ℕ → Outcome
unread x words text = record { answer = refuses x 0; words = words; text = text }

-- What stands once refusals 1 to 15 were passed or met: the tree that was read with the outcome, or the outcome of a
-- refusal.
pub data Read : Type 0 where
  passed : Node → Outcome → Read
  met : Outcome → Read

-- An answer with its outcome; the lengths are again those of what is lent.
abbrev pub read_of : ℕ → ℕ → Answer → Read
read_of words bytes (accepted tree used) = passed tree (outcome words bytes (accepted tree used))
read_of words bytes (refused_at x place) = met (outcome words bytes (refused_at x place))

-- Refusals 1 to 3 are tested in this order, before the first byte.
unfoldable pub read : Config → List ℕ → List ℕ → List ℕ → Read
read config input words text =
    let done = read_of (length words) (length text) (parsed config input (lent_by words text)) in
    cond (ltb max_depth config.depth) (met (unread TooDeep words text))
    (cond (ltb max_len (length input)) (met (unread TooLong words text))
    (cond (ltb (length words) record_width) (met (unread NoRecord words text)) done))

-- What is made of the tree and the outcome of an accepted reading, or else of the refusal's outcome.
abbrev pub after : {A : Type 0} → Read → (Node → Outcome → A) → (Outcome → A) → A
after (passed tree o) onward refusal = onward tree o
after (met o) onward refusal = refusal o

-- The outcome alone.
abbrev pub outcome_of : Read → Outcome
outcome_of r = after r (λ tree o. o) (λ o. o)

-- What a reading answers and leaves: settings, input, words, text.
abbrev pub reading : Config → List ℕ → List ℕ → List ℕ → Outcome
reading config input words text = outcome_of (read config input words text)
