-- The examples, decided by computing the definitions.
use mathlib.Core.Path.{refl}
use mathlib.Core.List.{flat_map}
use Rattle.decode.specs.Hex.{digit_of}
use Rattle.decode.specs.Decoding.{decoded}
use Rattle.ascii.specs.Digits.{all_digits, value_from}
use Rattle.utf8.specs.Test.{second, first, next, run}
use Rattle.reading.specs.Reading.{read}
use Rattle.fields.specs.Fields.{same_bytes}
use Rattle.lookups.specs.Names.{ends_fit, names_from}
use Rattle.de.specs.Reads.{text_read, list_read}
use Rattle.de.specs.FieldsReads.{fields_read}
use Rattle.de.specs.Examples.{TextTestsPass, ListTestsPass, FieldsTestsPass, UnaskedTestsPass}

pub text_tests_pass : TextTestsPass
unfolding text_read read decoded digit_of all_digits value_from same_bytes second first next run
text_tests_pass = refl

pub list_tests_pass : ListTestsPass
unfolding list_read read decoded digit_of all_digits value_from same_bytes second first next run
list_tests_pass = refl

pub fields_tests_pass : FieldsTestsPass
unfolding fields_read ends_fit names_from flat_map read decoded digit_of all_digits value_from same_bytes second first next run
fields_tests_pass = refl

pub unasked_tests_pass : UnaskedTestsPass
unfolding fields_read ends_fit
unasked_tests_pass = refl
