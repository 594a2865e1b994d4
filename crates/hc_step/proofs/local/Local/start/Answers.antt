use Rattle.std.proofs.Common.{refl, sym, length, arith}
use Rattle.hc_step.proofs.Fresh.{all_zero, opens}
use Rattle.hc_step.proofs.local.Local.start.Goals as goal

pub returns-clause-fresh : goal.returns-clause-fresh
returns-clause-fresh c = record {
  same_process = refl;
  same_count = refl;
  at_start = refl;
  no_choices = refl;
  all_zero = all_zero c.args.variables c.zeros.result c.requires.few c.zeros.ensures;
  is_going = refl;
  shows_so = c.first_post.ensures;
}

pub returns-clause-opens : goal.returns-clause-opens
returns-clause-opens c t clock p stands count =
    opens t clock p c.args.code.now.instrs c.args.process _ stands (record {
      same_process = refl;
      same_count = sym count;
      at_start = refl;
      no_choices = refl;
      all_zero = all_zero (length p.variables) c.zeros.result (omega (arith, count, c.requires.few)) c.zeros.ensures;
      is_going = refl;
      shows_so = c.first_post.ensures;
    })
