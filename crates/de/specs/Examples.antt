-- Field reads with what READING, 'Field reads' and 'Many names', says of each, gathered as lists and decided together
-- (proofs/Examples). Lent are 6 records and 12 bytes of text; before, every element is 7.
use Rattle.std.specs.Prelude.{ℕ, ◌≡◌, List, [], ◌∷◌, map}
use Prim.Native.String.{String}
use Rattle.config.specs.declared.Config.{Config}
use Rattle.config.specs.Defaults.{defaults, zeros_on}
use Rattle.ascii.specs.Texts.{ascii}
use Rattle.reading.specs.declared.Reading.{Reading}
use Rattle.reading.specs.Tests.{at_depth, records as words_of, before}
use Rattle.fields.specs.declared.DuplicateKeyBehavior.{DuplicateKeyBehavior}
use Rattle.fields.specs.declared.DuplicateKeyBehavior.TheVariants.{TakeLast, Error}
use Rattle.de.specs.declared.FieldRead.{FieldRead}
use Rattle.de.specs.Reads.{text_read, list_read}
use Rattle.de.specs.FieldsReads.{Asked, FieldsOutcome, fields_read}

-- Number, place, records, bytes, offset and length.
abbrev pub answer : ℕ → ℕ → ℕ → ℕ → ℕ → ℕ → FieldRead
answer number place records bytes offset len =
    record {
      reading = record { number = number; place = place; records = records; bytes = bytes };
      offset = offset;
      len = len;
    }

pub record TextTest : Type 0 where
  pub config : Config
  pub duplicates : DuplicateKeyBehavior
  pub input : String
  pub name : String
  pub expects : FieldRead

abbrev pub text_test_at : Config → DuplicateKeyBehavior → String → String → FieldRead → TextTest
text_test_at config duplicates input name expects =
    record { config = config; duplicates = duplicates; input = input; name = name; expects = expects }

abbrev pub text_test : DuplicateKeyBehavior → String → String → FieldRead → TextTest
text_test duplicates input name expects = text_test_at defaults duplicates input name expects

abbrev pub text_tests : List TextTest
text_tests =
    text_test TakeLast "a=1" "a" (answer 0 0 2 2 1 1) ∷
    -- the text of NoValue, and of Null
    text_test TakeLast "a" "a" (answer 0 0 2 1 0 0) ∷
    text_test TakeLast "a=" "a" (answer 0 0 2 1 0 0) ∷
    -- an Int key is no String key
    text_test TakeLast "1=x" "1" (answer 17 0 2 1 0 0) ∷
    text_test TakeLast "%31=x" "1" (answer 0 0 2 2 1 1) ∷
    -- one of digits with a needless zero is, with the key setting on
    text_test TakeLast "07=x" "07" (answer 17 0 2 1 0 0) ∷
    text_test_at zeros_on TakeLast "07=x" "07" (answer 0 0 2 3 2 1) ∷
    text_test_at zeros_on TakeLast "07=x" "7" (answer 17 0 2 3 0 0) ∷
    text_test_at zeros_on TakeLast "0=x" "0" (answer 17 0 2 1 0 0) ∷
    -- the name is not decoded
    text_test TakeLast "a=1" "%61" (answer 17 0 2 2 0 0) ∷
    -- another key that is no UTF-8
    text_test TakeLast "a&%ff" "a" (answer 0 0 3 2 0 0) ∷
    text_test TakeLast "a=%ff" "a" (answer 21 0 2 2 0 0) ∷
    -- a String root is the field of the empty name, and there is no other
    text_test TakeLast "=x" "" (answer 0 0 1 1 0 1) ∷
    text_test TakeLast "=x" "x" (answer 17 0 1 1 0 0) ∷
    -- NoValue and Null roots
    text_test TakeLast "" "" (answer 17 0 1 0 0 0) ∷
    text_test TakeLast "=" "" (answer 17 0 1 0 0 0) ∷
    -- a root that is a Sequence, and one that is Uninitialized
    text_test TakeLast "=1&=2" "" (answer 16 0 3 2 0 0) ∷
    text_test TakeLast "&&" "" (answer 16 0 1 0 0 0) ∷
    -- a Map is no text
    text_test TakeLast "a[b]=1" "a" (answer 18 0 3 3 0 0) ∷
    -- of a Sequence the last; several where these are refused, and one
    text_test TakeLast "a=1&a=2" "a" (answer 0 0 4 3 2 1) ∷
    text_test Error "a=1&a=2" "a" (answer 19 0 4 3 0 0) ∷
    text_test Error "a[]=1" "a" (answer 0 0 3 2 1 1) ∷
    -- the reading's refusal
    text_test TakeLast "a[" "a" (answer 4 3 0 0 0 0) ∷
    []

abbrev pub TextTestsPass : Type 0
TextTestsPass =
    map
    (λ t.
    let o =
    text_read t.config t.duplicates (ascii t.input) (ascii t.name) (before (words_of 6)) (before 12) in
    o.answer) text_tests
    ≡ map (λ t. t.expects) text_tests

-- With the list's slice, of so many words.
pub record ListTest : Type 0 where
  pub config : Config
  pub duplicates : DuplicateKeyBehavior
  pub input : String
  pub name : String
  pub size : ℕ
  pub expects : FieldRead × List ℕ

abbrev pub list_test_at : Config → DuplicateKeyBehavior → String → String → ℕ → FieldRead → List ℕ → ListTest
list_test_at config duplicates input name size expects list =
    record {
      config = config;
      duplicates = duplicates;
      input = input;
      name = name;
      size = size;
      expects = (expects, list);
    }

abbrev pub list_test : DuplicateKeyBehavior → String → String → ℕ → FieldRead → List ℕ → ListTest
list_test duplicates input name size expects list = list_test_at defaults duplicates input name size expects list

abbrev pub list_tests : List ListTest
list_tests =
    list_test TakeLast "a" "a" 1 (answer 0 0 2 1 0 0) (0 ∷ []) ∷
    list_test TakeLast "a=x" "a" 3 (answer 0 0 2 2 0 1) (1 ∷ 1 ∷ 0 ∷ []) ∷
    list_test TakeLast "a[1]=y&a[0]=x" "a" 4 (answer 0 0 4 3 0 2) (2 ∷ 1 ∷ 1 ∷ 1 ∷ []) ∷
    -- the elements of a Sequence, also under Error
    list_test Error "a=1&a=2" "a" 5 (answer 0 0 4 3 0 2) (1 ∷ 1 ∷ 2 ∷ 1 ∷ 0 ∷ []) ∷
    list_test Error "a[0]=1&a[0]=2" "a" 2 (answer 19 0 5 3 0 0) (0 ∷ 0 ∷ []) ∷
    list_test TakeLast "a[0]=1&a[0]=2" "a" 2 (answer 0 0 5 3 0 1) (2 ∷ 1 ∷ []) ∷
    -- 18 before 22
    list_test TakeLast "a[0]=1&a[b]=2" "a" 0 (answer 18 0 4 4 0 0) [] ∷
    -- 22 before an element's turn
    list_test TakeLast "a=1&a=%ff" "a" 3 (answer 22 0 4 3 0 0) (0 ∷ 0 ∷ 0 ∷ []) ∷
    list_test TakeLast "a=1&a=%ff" "a" 4 (answer 21 0 4 3 0 0) (0 ∷ 0 ∷ 0 ∷ 0 ∷ []) ∷
    -- an index missing; 20 before 18
    list_test TakeLast "a[0]=x&a[2]=y" "a" 4 (answer 20 0 4 3 0 0) (0 ∷ 0 ∷ 0 ∷ 0 ∷ []) ∷
    list_test TakeLast "a[1][b]=x" "a" 2 (answer 20 0 4 3 0 0) (0 ∷ 0 ∷ []) ∷
    list_test TakeLast "a[0][b]=x" "a" 2 (answer 18 0 4 3 0 0) (0 ∷ 0 ∷ []) ∷
    -- the root
    list_test TakeLast "a=1" "b" 2 (answer 17 0 2 2 0 0) (0 ∷ 0 ∷ []) ∷
    list_test TakeLast "&" "b" 2 (answer 16 0 1 0 0 0) (0 ∷ 0 ∷ []) ∷
    -- the reading's refusals, of which 1 leaves the slice as it was
    list_test TakeLast "a[" "a" 2 (answer 4 3 0 0 0 0) (0 ∷ 0 ∷ []) ∷
    list_test_at (at_depth 65) TakeLast "a" "a" 2 (answer 1 0 0 0 0 0) (before 2) ∷
    -- an index with a needless zero, with the key setting off and on: then it is no Int, and the Map no list
    list_test TakeLast "a[0]=x&a[01]=y" "a" 4 (answer 0 0 4 3 0 2) (1 ∷ 1 ∷ 2 ∷ 1 ∷ []) ∷
    list_test_at zeros_on TakeLast "a[0]=x&a[01]=y" "a" 4 (answer 18 0 4 5 0 0) (0 ∷ 0 ∷ 0 ∷ 0 ∷ []) ∷
    list_test_at zeros_on TakeLast "a[0]=x&a[1]=y" "a" 4 (answer 0 0 4 3 0 2) (1 ∷ 1 ∷ 2 ∷ 1 ∷ []) ∷
    []

abbrev pub ListTestsPass : Type 0
ListTestsPass =
    map
    (λ t.
    let o =
    list_read t.config t.duplicates (ascii t.input) (ascii t.name) (before (words_of 6)) (before 12)
    (before t.size) in
    (o.read.answer, o.list)) list_tests
    ≡ map (λ t. t.expects) list_tests

-- What is asked, with how many words are lent for the answers; the call's own answer, and the answer words.
pub record FieldsTest : Type 0 where
  pub asked : Asked
  pub size : ℕ
  pub expects : Reading × List ℕ

-- The fields of names that are laid end to end, with the end of each.
abbrev pub ask : Config → DuplicateKeyBehavior → String → String → List ℕ → Asked
ask config duplicates input names ends =
    record { config = config; duplicates = duplicates; input = ascii input; names = ascii names; ends = ends }

-- Number, place, records and bytes.
abbrev pub reads : ℕ → ℕ → ℕ → ℕ → Reading
reads number place records bytes = record { number = number; place = place; records = records; bytes = bytes }

abbrev pub fields_test : DuplicateKeyBehavior → String → String → List ℕ → ℕ → Reading → List ℕ → FieldsTest
fields_test duplicates input names ends size call answers =
    record { asked = ask defaults duplicates input names ends; size = size; expects = (call, answers) }

-- The answer words stay as they were.
abbrev pub unanswered_test : Config → String → String → List ℕ → ℕ → Reading → FieldsTest
unanswered_test config input names ends size call =
    record { asked = ask config TakeLast input names ends; size = size; expects = (call, before size) }

abbrev pub fields_tests : List FieldsTest
fields_tests =
    -- two names, not in the order of the fields
    fields_test TakeLast "a=1&b=2" "ba" (1 ∷ 2 ∷ []) 6 (reads 0 0 3 4) (0 ∷ 3 ∷ 1 ∷ 0 ∷ 1 ∷ 1 ∷ []) ∷
    -- a name again, one that is absent, and words past the last answer
    fields_test TakeLast "a=12" "aab" (1 ∷ 2 ∷ 3 ∷ []) 11 (reads 0 0 2 3)
    (0 ∷ 1 ∷ 2 ∷ 0 ∷ 1 ∷ 2 ∷ 17 ∷ 0 ∷ 0 ∷ 7 ∷ 7 ∷ []) ∷
    -- equal ends are an empty name, the first of which starts at 0
    fields_test TakeLast "=x" "y" (0 ∷ 0 ∷ 1 ∷ []) 9 (reads 0 0 1 1) (0 ∷ 0 ∷ 1 ∷ 0 ∷ 0 ∷ 1 ∷ 17 ∷ 0 ∷ 0 ∷ []) ∷
    -- the last end need not be the names' length
    fields_test TakeLast "a=1" "abc" (1 ∷ []) 3 (reads 0 0 2 2) (0 ∷ 1 ∷ 1 ∷ []) ∷
    -- 21, 19 and 17 stand in the answers alone
    fields_test Error "a=%ff&b=1&b=2" "abc" (1 ∷ 2 ∷ 3 ∷ []) 9 (reads 0 0 5 5)
    (21 ∷ 0 ∷ 0 ∷ 19 ∷ 0 ∷ 0 ∷ 17 ∷ 0 ∷ 0 ∷ []) ∷
    -- of several values the last
    fields_test TakeLast "b=1&b=2" "b" (1 ∷ []) 3 (reads 0 0 4 3) (0 ∷ 2 ∷ 1 ∷ []) ∷
    fields_test TakeLast "a[b]=1" "a" (1 ∷ []) 3 (reads 0 0 3 3) (18 ∷ 0 ∷ 0 ∷ []) ∷
    fields_test TakeLast "&&" "a" (1 ∷ []) 3 (reads 0 0 1 0) (16 ∷ 0 ∷ 0 ∷ []) ∷
    -- digits with needless zeros are names with the key setting on
    record {
      asked = ask zeros_on TakeLast "7=a&07=b&007=c" "007077" (3 ∷ 5 ∷ 6 ∷ []);
      size = 9;
      expects = (reads 0 0 4 8, 0 ∷ 7 ∷ 1 ∷ 0 ∷ 3 ∷ 1 ∷ 17 ∷ 0 ∷ 0 ∷ []);
    } ∷
    -- an empty list reads the input
    unanswered_test defaults "a=1" "xyz" [] 2 (reads 0 0 2 2) ∷
    unanswered_test defaults "a[" "" [] 0 (reads 4 3 0 0) ∷
    -- the reading's refusals
    unanswered_test (at_depth 65) "a=1" "a" (1 ∷ []) 3 (reads 1 0 0 0) ∷
    unanswered_test defaults "a[" "a" (1 ∷ []) 3 (reads 4 3 0 0) ∷
    unanswered_test defaults "a&b&c&d&e&f" "a" (1 ∷ []) 4 (reads 14 12 0 0) ∷
    []

-- Refused by 24 and 25: as above, with all that is lent as it was.
abbrev pub unasked_tests : List FieldsTest
unasked_tests =
    -- an end that falls, and one that passes the names, also where the later ones don't
    unanswered_test defaults "a=1" "ab" (2 ∷ 1 ∷ []) 6 (reads 24 0 0 0) ∷
    unanswered_test defaults "a=1" "ab" (1 ∷ 3 ∷ []) 6 (reads 24 0 0 0) ∷
    unanswered_test defaults "a=1" "ab" (1 ∷ 0 ∷ 2 ∷ []) 9 (reads 24 0 0 0) ∷
    unanswered_test defaults "a=1" "" (1 ∷ []) 3 (reads 24 0 0 0) ∷
    -- one word less than three a name
    unanswered_test defaults "a=1" "ab" (1 ∷ 2 ∷ []) 5 (reads 25 0 0 0) ∷
    unanswered_test defaults "a=1" "" (0 ∷ []) 0 (reads 25 0 0 0) ∷
    -- 24 before 25, and both before the reading's own
    unanswered_test defaults "a=1" "ab" (2 ∷ 1 ∷ []) 5 (reads 24 0 0 0) ∷
    unanswered_test (at_depth 65) "a=1" "a" (2 ∷ []) 3 (reads 24 0 0 0) ∷
    unanswered_test (at_depth 65) "a=1" "a" (1 ∷ []) 2 (reads 25 0 0 0) ∷
    []

-- What the call gives.
abbrev pub fields_of : FieldsTest → FieldsOutcome
fields_of t = fields_read t.asked (before (words_of 6)) (before 12) (before t.size)

abbrev pub FieldsTestsPass : Type 0
FieldsTestsPass =
    map (λ t. ((fields_of t).reading.answer, (fields_of t).answers)) fields_tests ≡ map (λ t. t.expects) fields_tests

abbrev pub untouched : FieldsTest → FieldsOutcome
untouched t =
    record {
      reading = record { answer = t.expects.0; words = before (words_of 6); text = before 12 };
      answers = before t.size;
    }

abbrev pub UnaskedTestsPass : Type 0
UnaskedTestsPass = map fields_of unasked_tests ≡ map untouched unasked_tests
