-- What an accepted reading leaves is what its input means, and that can be written.
use Rattle.meaning.proofs.Readings.{readings}
use Rattle.meaning.specs.Readings.{tree_of}
use Rattle.reading.specs.Reading.{reading}
use mathlib.Core.List.{◌∷◌}
use Rattle.round_trip.specs.Writable.{AllWritable}
use Rattle.round_trip.proofs.Made.{made}

pub all_writable : AllWritable
all_writable config b s words text e =
    made config b s (tree_of (reading config (b ∷ s) words text)) (readings.means config (b ∷ s) words text e)
