use Rattle.std.proofs.Common.{◌≡◌, ◌++◌, drop}
use Rattle.hc_det.specs.Text.{list_texts}
use Rattle.hc_det.proofs.text.put_lists.Given as goal

abbrev pub invariant-loop-list : goal.invariant-loop-list
invariant-loop-list l = l.fn.text.items ++ list_texts l.lists ≡ l.text.items ++ list_texts (drop l.list-index l.lists)
