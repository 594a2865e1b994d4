use Rattle.hc_ccode.proofs.Forms.{ok_more, body_adds}
use Rattle.hc_ccode.proofs.emit.emit_body.Goals as goal

pub returns : goal.returns
returns c =
    ok_more c.emit_all.result _ _
    (λ p h. body_adds c.args.program.now c.args.names.now c.args.known c.args.code.now c.put.new.code c.emit_all.new.code c.in_ok-end.end p c.args.stmts.now
    c.in_ok-end.ensures.put c.in_ok-end.ensures.place h) c.emit_all.ensures
