use Rattle.std.proofs.Common.{refl}
use Rattle.hc_cmd.specs.Traced.{long_source}
use Rattle.hc_cmd.proofs.tracing.source_length.Goals as goal

pub returns-then-place-gt-MOST_SOURCE_BYTES : goal.returns-then-place-gt-MOST_SOURCE_BYTES
returns-then-place-gt-MOST_SOURCE_BYTES c =
    long_source c.in-Some.place ((c.in-Some.ensures {u = tt}).found) c.if-place-gt-MOST_SOURCE_BYTES.true refl
