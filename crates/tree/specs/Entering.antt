-- READING, 'The root' (a key entered), on the words and the text: a new child.
use Rattle.std.specs.Prelude.{◌≡◌, cond, List, ℕ, ◌+◌, ◌≤◌, ◌<◌, eqb, Option, Some, None, Result, Ok, Err}
use Rattle.key.specs.declared.KeyKind.{KeyKind}
use Rattle.key.specs.declared.KeyKind.TheVariants.{None as NoKey, Int, String}
use Rattle.records.specs.declared.siblings.Gap.{Gap}
use Rattle.records.specs.declared.store.KeyWords.{KeyWords}
use Rattle.records.specs.declared.store.Record.{Record}
use Rattle.row.specs.Row.{kind_word, uninitialized_kind, map_kind, int_key_kind, string_key_kind}
use Rattle.row.specs.Words.{record_count, word}
use Rattle.records.specs.Records.{inserted}
use Rattle.indexed.specs.Adding.{childless}
use Rattle.finding.specs.Aids.{Ready, aids_for, Grown}
use Rattle.refusals.specs.declared.Refusal.TheVariants.{TooFewRecords, TooLittleText}
use Rattle.refusals.specs.declared.Refusal.{Refusal}
use Rattle.tree.specs.declared.Here.{Here}

-- The words of a new key (READING, 'Records'). An empty String has no text, so its offset is 0.
abbrev pub new_string_words : ℕ → ℕ → KeyWords
new_string_words offset len = record { kind = string_key_kind; offset = cond (eqb len 0) 0 offset; len = len }

abbrev pub new_key_words : KeyKind → ℕ → ℕ → KeyWords
new_key_words NoKey offset len = new_string_words offset len
new_key_words (Int i) offset len = record { kind = int_key_kind; offset = i; len = 0 }
new_key_words String offset len = new_string_words offset len

-- The record of a new child, Uninitialized.
abbrev pub new_record : KeyKind → ℕ → ℕ → Record
new_record key offset len = record { key = new_key_words key offset len; value = childless uninitialized_kind }

-- The record that a command is for is a Map, in words in which its children are found with the aids.
pub record MapReady (ws text : List ℕ) (here : Here) : Type 0 where
  pub ready : Ready ws text here.records here.aids
  pub inside : here.node < here.records
  pub map : word ws here.node kind_word ≡ map_kind

-- What entering a new key leaves and answers, by its three ways: too few records, too little text, or a child,
-- Uninitialized, put in the gap, whose key's text is laid. Records come first: where both are short it is 14.
pub data Entered (ws : List ℕ) (here : Here) (gap : Gap) (key : KeyKind) (ws' : List ℕ) :
    Option ℕ → Result Here Refusal → Type 0 where
  few : {laid : Option ℕ} → record_count ws < here.records + 1
      → Entered ws here gap key ws' laid (Err TooFewRecords)
  little : here.records + 1 ≤ record_count ws → Entered ws here gap key ws' None (Err TooLittleText)
  entered : {len : ℕ} → here.records + 1 ≤ record_count ws
      → Grown (inserted ws here.records here.node gap.prev gap.next (new_record key here.bytes len))
      here.aids (here.records + 1) ws'
      → Entered ws here gap key ws' (Some len)
      (Ok
      (record {
        records = here.records + 1;
        bytes = here.bytes + len;
        node = here.records;
        aids = aids_for here.aids (here.records + 1);
      }))
