use Rattle.std.proofs.Common.{arith}
use Rattle.hc_world.proofs.ReadingLemmas.{gives_next}
use Rattle.hc_world.proofs.mem_source.MemSourceSource.read.Goals as goal

pub returns-clause-bytes : goal.returns-clause-bytes
returns-clause-bytes c =
    let memory = c.self.inside in
    let copied = rw c.deref.ensures.value at c.copy_from_slice.ensures.after in
    let least = rw c.deref.ensures.value at c.min-count.ensures in
    let next =
    gives_next memory.bytes.items c.args.buffer.now c.copy_from_slice.new.self memory.at
    c.min.result c.min-count.result copied least (omega arith) in
    (rw (← c.self.view_is) next.0, λ none some. next.1 none)
