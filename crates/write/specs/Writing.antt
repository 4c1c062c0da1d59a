-- A reading and the input that is written of its tree: what the call answers, and what it leaves in the lent buffers
-- and the lent output. READING, 'The writer'. The public contract equates its result with `writing`.
use Rattle.std.specs.Prelude.{ℕ, cond, ◌||◌, List, ◌++◌, ltb, length, drop}
use Rattle.refusals.specs.declared.Refusal.TheVariants.{ShortOutput}
use Rattle.config.specs.declared.Config.{Config}
use Rattle.config.specs.Limits.{max_len}
use Rattle.reading.specs.declared.Reading.{Reading}
use Rattle.reading.specs.Values.{Node}
use Rattle.reading.specs.Trees.{plain}
use Rattle.reading.specs.Reading.{Outcome, refused_after, read, after}
use Rattle.ser.specs.Writing.{written}
use Rattle.write.specs.declared.Written.{Written}

-- What the call answers, and what words, text and output hold then.
pub record Result : Type 0 where
  pub answer : Written
  pub words : List ℕ
  pub text : List ℕ
  pub out : List ℕ

-- A reading's four numbers, and the length of what is written.
abbrev pub answered : Reading → ℕ → Written
answered a length =
    record { number = a.number; place = a.place; records = a.records; bytes = a.bytes; length = length }

-- Nothing is written, and the output stays as it was.
abbrev pub unwritten : Outcome → List ℕ → Result
unwritten o out = record { answer = answered o.answer 0; words = o.words; text = o.text; out = out }

-- 26, with the counts, the words and the text that the reading left.
abbrev pub short_output : Outcome → Outcome
short_output o = record { answer = refused_after o.answer ShortOutput; words = o.words; text = o.text }

-- After an accepted reading: refused where the bytes find no room in the output or pass the length limit. Else they
-- stand at its front, the rest of it stays, and the answer tells how many they are.
abbrev pub result_of : Config → Node → Outcome → List ℕ → Result
result_of config tree o out =
    let bytes = written config (plain tree.value) in
    cond (ltb (length out) (length bytes) || ltb max_len (length bytes)) (unwritten (short_output o) out)
    (record {
      answer = answered o.answer (length bytes);
      words = o.words;
      text = o.text;
      out = bytes ++ drop (length bytes) out;
    })

-- The output is asked for only where the reading is accepted: its own refusals come first.
abbrev pub writing : Config → List ℕ → List ℕ → List ℕ → List ℕ → Result
writing config input words text out =
    after (read config input words text) (λ tree o. result_of config tree o out) (λ o. unwritten o out)
