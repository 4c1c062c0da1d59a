use Rattle.std.proofs.Common.{refl}
use Rattle.records.proofs.Comparing.{string-inside, string-bytes}
use Rattle.records.proofs.keys.name_of.Goals as goal

pub slice_bounds-result-end : goal.slice_bounds-result-end
slice_bounds-result-end c =
    string-inside c.args.words.now c.args.text.now c.args.n refl c.requires.is_string c.get_word-start.ensures
    c.get_word.ensures c.requires.inside.1

pub returns : goal.returns
returns c =
    string-bytes c.args.words.now c.args.text.now c.args.n refl c.requires.is_string c.get_word-start.ensures
    c.get_word.ensures
