use Rattle.std.proofs.Common.{ap₂, ℕ, List, Option}
use Rattle.hc_ccode.specs.declared.code.Formula.{Formula}
use Rattle.hc_ccode.specs.declared.code.Node.TheVariants as node
use Rattle.hc_ccode.proofs.Called.{called}
use Rattle.hc_ccode.proofs.leaf.function_node.Goals as goal

pub returns : goal.returns
returns c =
    called c.args.program.now c.args.names.now c.args.known c.args.next _ c.args.target.now c.args.callee.now c.args.arguments.now c.in-Some.function
    c.as_slice.result.now c.as_slice.ensures c.in-Some.ensures.named c.in-Some.ensures.within c.requires.called
    (ap₂ (λ (fs : List Formula) (t : Option ℕ). node.Call c.in-Some.function fs t c.args.next) c.in_ok-arguments.ensures c.placed_target.ensures)
