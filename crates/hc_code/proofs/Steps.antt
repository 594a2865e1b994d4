-- One round of a loop over statements, and of one over branches.
use Rattle.std.proofs.Common.{◌≡◌, sym, ap, ◌∙◌, subst, ℕ, ◌+◌, ◌<◌, List, [], ◌∷◌, ◌++◌, length, take, drop, get_or}
use Rattle.std.proofs.lemmas.List.{take_more, map-append}
use Rattle.hc_term.specs.declared.stmt.Stmt.{Stmt}
use Rattle.hc_term.specs.declared.stmt.Branch.{Branch, out-Branch}
use Rattle.hc_code.specs.declared.code.Instr.{Instr}
use Rattle.hc_code.specs.Pieces.{branch_statements, entry, entries, bodies, Adds}
use Rattle.hc_code.proofs.Growing.{one_then, beside, entry-drop}
use Rattle.hc_code.proofs.Ways.{entries-more}

next_taken : {X : Type 0} (xs : List X) (i : ℕ) (x : X) → i < length xs → x ≡ get_or xs i x → take (i + 1) xs ≡ take i xs ++ x ∷ []
next_taken xs i x h e = take_more xs i x h ∙ ap (λ y. take i xs ++ y ∷ []) (sym e)

pub one_more : (old mid new : List Instr) (next first after : ℕ) (ss : List Stmt) (i : ℕ) (s : Stmt) → i < length ss → s ≡ get_or ss i s →
    Adds old mid (entry (length mid) next (drop i ss)) (first ∷ []) (take i ss ∷ []) → Adds mid new after (length mid ∷ []) ((s ∷ []) ∷ []) →
    after ≡ entry (length new) next (drop (i + 1) ss) → Adds old new (entry (length new) next (drop (i + 1) ss)) (first ∷ []) (take (i + 1) ss ∷ [])
one_more old mid new next first after ss i s h e p q after_is =
    let front = subst (λ k. Adds old mid k (first ∷ []) (take i ss ∷ [])) (entry-drop (length mid) next ss i h) p in
    let back = subst (λ k. Adds mid new k (length mid ∷ []) ((s ∷ []) ∷ [])) after_is q in
    subst (λ rs. Adds old new (entry (length new) next (drop (i + 1) ss)) (first ∷ []) (rs ∷ [])) (sym (next_taken ss i s h e)) (one_then front back)

bodies-more : (bs : List Branch) (b : Branch) → bodies (bs ++ b ∷ []) ≡ bodies bs ++ (out-Branch b).body ∷ []
bodies-more bs b = map-append (λ (d : Branch). (out-Branch d).body) bs (b ∷ [])

pub branch_more : (old mid new : List Instr) (next : ℕ) (bs : List Branch) (i : ℕ) (b : Branch) → i < length bs → b ≡ get_or bs i b →
    length mid ≡ length old + branch_statements (take i bs) →
    Adds old mid next (entries (length old) next (take i bs)) (bodies (take i bs)) →
    (ss : List Stmt) → ss ≡ (out-Branch b).body → Adds mid new next (entry (length mid) next ss ∷ []) (ss ∷ []) →
    Adds old new next (entries (length old) next (take (i + 1) bs)) (bodies (take (i + 1) bs))
branch_more old mid new next bs i b h e grown p ss body q =
    let own = subst (λ rs. Adds mid new next (entry (length mid) next rs ∷ []) (rs ∷ [])) body q in
    let placed = subst (λ k. Adds mid new next (entry k next (out-Branch b).body ∷ []) ((out-Branch b).body ∷ [])) grown own in
    let all = beside p placed in
    let begins = subst (λ ps. Adds old new next ps (bodies (take i bs) ++ (out-Branch b).body ∷ [])) (sym (entries-more (length old) next (take i bs) b)) all in
    let parts = subst (λ xs. Adds old new next (entries (length old) next (take i bs ++ b ∷ [])) xs) (sym (bodies-more (take i bs) b)) begins in
    subst (λ ds. Adds old new next (entries (length old) next ds) (bodies ds)) (sym (next_taken bs i b h e)) parts
