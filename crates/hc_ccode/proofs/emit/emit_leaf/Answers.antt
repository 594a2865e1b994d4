use Rattle.hc_ccode.proofs.Forms.{ok_behind, leaf_adds}
use Rattle.hc_ccode.proofs.emit.emit_leaf.Goals as goal

pub returns : goal.returns
returns c =
    ok_behind c.put.result c.args.code.now c.put.new.code c.in_ok-node.node _ c.put.ensures.put c.put.ensures.place
    (leaf_adds c.args.program.now c.args.names.now c.args.known c.args.code.now c.put.new.code c.args.next c.in_ok-node.node c.args.stmt.now
    c.requires.leaf c.in_ok-node.ensures)
