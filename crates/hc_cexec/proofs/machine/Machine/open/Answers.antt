use Rattle.std.proofs.Common.{refl, rules}
use Rattle.hc_ccode.specs.Stages.{IsCode}
use Rattle.hc_cexec.specs.Opening.{IsOpened}
use Rattle.hc_cexec.proofs.Opened.{opened_at}
use Rattle.hc_cexec.proofs.machine.Machine.open.Goals as goal

pub returns : goal.returns
returns c =
    let code : IsCode c.args.program.now c.in_ok-code.code = search rules in
    let world : IsOpened c.args.program.now c.in_ok-code.code c.in_ok-world.world = search rules in (
      code.0,
      opened_at c.args.program.now _ code.0 code.1 world
          (record { channels = c.len.ensures; processes = c.len-2.ensures; line = c.nothing.ensures.line; ended = c.nothing.ensures.ended; moved = refl }),
    )
