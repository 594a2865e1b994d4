use Rattle.std.proofs.Common.{refl, ap, Err}
use Rattle.hc_cmd.proofs.Finding.{long_apart, memory_apart}
use Rattle.hc_cmd.proofs.prepared.text_of.Goals as goal

pub returns-in-Ok : goal.returns-in-Ok
returns-in-Ok g c =
    let told = c.in-Ok.ensures {u = tt} in
    ((told.all, told.kept (λ e. cc)), told.fits)

pub returns-in-Err-Failed : goal.returns-in-Err-Failed
returns-in-Err-Failed g c =
    let told = c.in-Err-Failed.ensures {u = tt} in
    let failed = ap Err c.in-Err-Failed.field-0-is in
    (told.before_fault failed, told.failed failed)

pub returns-in-Err-TooLong : goal.returns-in-Err-TooLong
returns-in-Err-TooLong g c =
    let told = c.in-Err-TooLong.ensures {u = tt} in
    (told.long (ap Err c.in-Err-TooLong.field-0-is), told.kept (long_apart _ c.in-Err-TooLong.field-0-is), refl)

pub returns-in-Err-Memory : goal.returns-in-Err-Memory
returns-in-Err-Memory g c = (c.in-Err-Memory.ensures {u = tt}).kept (memory_apart _ c.in-Err-Memory.field-0-is)
