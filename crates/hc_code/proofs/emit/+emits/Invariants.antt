use Rattle.std.proofs.Common.{◌≡◌, ◌+◌, ◌∷◌, [], length, take, drop}
use Rattle.hc_code.specs.Pieces.{all_statements, branch_statements, entry, entries, bodies, Adds}
use Rattle.hc_code.proofs.emit.+emits.Given as goal

abbrev pub invariant-emit_all-loop-at : goal.invariant-emit_all-loop-at
invariant-emit_all-loop-at l = record {
  grown : length l.code ≡ length l.initial.code + all_statements (take l.at l.stmts);
  adds :
      Adds l.initial.code l.code (entry (length l.code) l.next (drop l.at l.stmts)) (entry (length l.initial.code) l.next l.stmts ∷ [])
      (take l.at l.stmts ∷ []);
}

abbrev pub invariant-emit_branches-loop-branch : goal.invariant-emit_branches-loop-branch
invariant-emit_branches-loop-branch l = record {
  grown : length l.code ≡ length l.initial.code + branch_statements (take l.branch-index l.branches);
  adds :
      Adds l.initial.code l.code l.next (entries (length l.initial.code) l.next (take l.branch-index l.branches))
      (bodies (take l.branch-index l.branches));
}
