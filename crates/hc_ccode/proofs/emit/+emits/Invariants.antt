use Rattle.std.proofs.Common.{◌≤◌, ◌∷◌, [], length, take, drop}
use Rattle.hc_ccode.specs.Pieces.{Adds, AddsCases}
use Rattle.hc_ccode.proofs.emit.+emits.Given as goal

abbrev pub invariant-emit_all-loop-left : goal.invariant-emit_all-loop-left
invariant-emit_all-loop-left l = record {
  within : l.left ≤ length l.stmts;
  adds : Adds l.program l.names l.known l.initial.code l.code l.next (l.place ∷ []) (drop l.left l.stmts ∷ []);
}

abbrev pub decreases-emit_all-loop-left : goal.decreases-emit_all-loop-left
decreases-emit_all-loop-left l = l.left

abbrev pub invariant-emit_cases-loop-case : goal.invariant-emit_cases-loop-case
invariant-emit_cases-loop-case l = AddsCases l.program l.names l.known l.initial.code l.code l.next l.found (take l.case-index l.cases)
