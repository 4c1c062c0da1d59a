use Rattle.std.proofs.Common.{◌≡◌, ◌∙◌, ap, nat_cmp, refl}
use Rattle.std.specs.Cmp.Lexicographic.{slice_cmp}
use Rattle.std.proofs.lemmas.Iterator.{YieldsList-from_slice}
use Rattle.std.proofs.lemmas.Iterator.Consumers.{YieldsList-from_copied, YieldsList-from_first}
use Rattle.std.proofs.lemmas.Iterator.Search.{cmp_from_yields_List}
use Rattle.decode.specs.Decoding.{decoded}
use Rattle.decode.specs.Stepping.{bytes_left}
use Rattle.tags.specs.Tags.{ordering_of}
use Rattle.tags.proofs.Comparing.{ordering-bytes}
use Rattle.records.proofs.keys.compare_escaped.Goals as goal

pub returns : goal.returns
returns c =
    let bytes = c.args.bytes.now in
    let raw = c.args.raw.now in
    let e : c.cmp.result ≡ slice_cmp nat_cmp bytes (decoded raw) =
    cmp_from_yields_List (λ x y. y ≡ x) _ nat_cmp _ c.cmp.ensures.ran
    (YieldsList-from_copied (YieldsList-from_slice bytes cc))
    (λ it q. YieldsList-from_first (λ x. x) bytes_left (decoded raw) (ap bytes_left q ∙ c.new.ensures))
    (λ x y. refl) in
    ap ordering_of e ∙ ordering-bytes bytes (decoded raw)
