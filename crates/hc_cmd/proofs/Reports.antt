-- The report, worker by worker.
use Rattle.std.proofs.Common.{◌≡◌, ◌<◌, ◌≤◌, ◌+◌, ℕ, List, ◌++◌, length, drop, get_or, sym, ap, ◌∙◌, append_assoc}
use Rattle.std.proofs.lemmas.List.{append-nil, drop_all, drop_more}
use Rattle.hc_cmd.specs.Running.{worker_line, worker_lines}

-- one line more
pub line_more : (text new turns : List ℕ) (w n : ℕ) → w < length turns → n ≡ get_or turns w 0 → new ≡ text ++ worker_line w n →
    text ++ worker_lines w (drop w turns) ≡ new ++ worker_lines (w + 1) (drop (w + 1) turns)
line_more text new turns w n lt is e =
    let rest : List ℕ = worker_lines (w + 1) (drop (w + 1) turns) in
    ap (λ (ns : List ℕ). text ++ worker_lines w ns) (drop_more turns w 0 lt)
    ∙ ap (λ (m : ℕ). text ++ (worker_line w m ++ rest)) (sym is)
    ∙ sym (append_assoc text (worker_line w n) rest)
    ∙ ap (λ (bytes : List ℕ). bytes ++ rest) (sym e)

-- no line is left
pub no_more : (text turns : List ℕ) (w : ℕ) → length turns ≤ w → text ++ worker_lines w (drop w turns) ≡ text
no_more text turns w all = ap (λ (ns : List ℕ). text ++ worker_lines w ns) (drop_all w turns all) ∙ append-nil text
