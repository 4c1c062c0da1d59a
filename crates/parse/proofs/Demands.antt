-- The demands, each by its theorem.
use Rattle.decode.proofs.Agree.{agree}
use Rattle.reading.proofs.Outcomes.{tree-held, counts}
use Rattle.parse.specs.Demands.{Demands}
use Rattle.parse.proofs.Calls.{answers, space, growth}

pub demands : Demands
demands =
    record {
      buffers = answers;
      space = space;
      equal = λ config input call. call.ensured;
      tree = tree-held;
      counts = counts;
      decoding = agree;
      growth = growth;
    }
