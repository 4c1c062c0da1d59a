-- The answers before i stand in front, those of the names from i on are due, and past them nothing changed.
use Rattle.fields.specs.OnRecords.{field_at, field_text_at}
use Rattle.lookups.proofs.Answering.{Answering}
use Rattle.lookups.proofs.answers.answer_names.Given as goal

abbrev pub invariant-loop-i : goal.invariant-loop-i
invariant-loop-i l = Answering (λ name. field_text_at l.duplicates l.words l.text (field_at l.words l.text name)) l.names l.ends l.initial.answers l.answers l.start l.i
