-- The ways of branches whose statements stand one after the other.
use Rattle.std.proofs.Common.{◌≡◌, refl, sym, ap, ap₂, ◌∙◌, ℕ, ◌+◌, ◌<◌, length, take, get_or, List, [], ◌∷◌, ◌++◌, sum_by, arith}
use Rattle.std.proofs.lemmas.List.{take_more}
use Rattle.std.proofs.lemmas.List.Sums.{sum_by-append}
use Rattle.hc_term.specs.declared.stmt.Io.{Io}
use Rattle.hc_term.specs.declared.stmt.Stmt.{Stmt}
use Rattle.hc_term.specs.declared.stmt.Branch.{Branch, out-Branch}
use Rattle.hc_term.specs.Profile.{ios_in}
use Rattle.hc_term.specs.Rules.{statements}
use Rattle.hc_code.specs.declared.code.Way.{Way}
use Rattle.hc_code.specs.Stands.{Table, WaysAgree}
use Rattle.hc_code.specs.Kept.{ios_of}
use Rattle.hc_code.specs.Pieces.{all_statements, branch_statements, entry, entries, bodies, ways_at, EachAt}

pub ways_agree : (t : Table) (rest : List Stmt) (here next : ℕ) (bs : List Branch) → EachAt t (entries here next bs) (bodies bs) rest →
    WaysAgree t rest (ways_at here next bs) bs
ways_agree t rest here next [] h = tt
ways_agree t rest here next (b ∷ bs) h = (refl, h.0, ways_agree t rest (here + all_statements (out-Branch b).body) next bs h.1)

pub ios_of-ways : (here next : ℕ) (bs : List Branch) → ios_of (ways_at here next bs) ≡ ios_in bs
ios_of-ways here next [] = refl
ios_of-ways here next (b ∷ bs) = ap (λ (ios : List Io). (out-Branch b).io ∷ ios) (ios_of-ways (here + all_statements (out-Branch b).body) next bs)

first_branch : (c : Branch) (bs : List Branch) → branch_statements (c ∷ bs) ≡ branch_statements (c ∷ []) + branch_statements bs
first_branch c bs = sum_by-append (λ b. sum_by statements (out-Branch b).body) (c ∷ []) bs

pub ways-more : (here next : ℕ) (bs : List Branch) (b : Branch) →
    ways_at here next (bs ++ b ∷ []) ≡
    ways_at here next bs ++ record { io = (out-Branch b).io; next = entry (here + branch_statements bs) next (out-Branch b).body } ∷ []
ways-more here next [] b = let e : here ≡ here + 0 = omega arith in
    ap (λ (n : ℕ). record { io = (out-Branch b).io; next = entry n next (out-Branch b).body } ∷ []) e
ways-more here next (c ∷ bs) b =
    let whole : branch_statements (c ∷ bs) ≡ all_statements (out-Branch c).body + branch_statements bs = omega (arith, first_branch c bs) in
    let e : here + all_statements (out-Branch c).body + branch_statements bs ≡ here + branch_statements (c ∷ bs) = omega arith in
    ap (λ (ws : List Way). record { io = (out-Branch c).io; next = entry here next (out-Branch c).body } ∷ ws)
    (ways-more (here + all_statements (out-Branch c).body) next bs b
    ∙ ap (λ (n : ℕ). ways_at (here + all_statements (out-Branch c).body) next bs ++ record { io = (out-Branch b).io; next = entry n next (out-Branch b).body } ∷ []) e)

pub entries-more : (here next : ℕ) (bs : List Branch) (b : Branch) →
    entries here next (bs ++ b ∷ []) ≡ entries here next bs ++ entry (here + branch_statements bs) next (out-Branch b).body ∷ []
entries-more here next [] b = let e : here ≡ here + 0 = omega arith in ap (λ (n : ℕ). entry n next (out-Branch b).body ∷ []) e
entries-more here next (c ∷ bs) b =
    let whole : branch_statements (c ∷ bs) ≡ all_statements (out-Branch c).body + branch_statements bs = omega (arith, first_branch c bs) in
    let e : here + all_statements (out-Branch c).body + branch_statements bs ≡ here + branch_statements (c ∷ bs) = omega arith in
    ap (λ (ps : List ℕ). entry here next (out-Branch c).body ∷ ps)
    (entries-more (here + all_statements (out-Branch c).body) next bs b
    ∙ ap (λ (n : ℕ). entries (here + all_statements (out-Branch c).body) next bs ++ entry n next (out-Branch b).body ∷ []) e)

way : Io → ℕ → Way
way io next = record { io = io; next = next }

pub ways_next : (here next : ℕ) (bs : List Branch) (i : ℕ) (b : Branch) (ways new : List Way) (io : Io) (place target : ℕ) (ss : List Stmt) →
    i < length bs → b ≡ get_or bs i b → ways ≡ ways_at here next (take i bs) → place ≡ here + branch_statements (take i bs) →
    io ≡ (out-Branch b).io → ss ≡ (out-Branch b).body → target ≡ entry place next ss →
    new ≡ ways ++ record { io = io; next = target } ∷ [] → new ≡ ways_at here next (take (i + 1) bs)
unfolding way
ways_next here next bs i b ways new io place target ss h at so_far placed io_is ss_is target_is new_is =
    let so_more = take_more bs i b h ∙ ap (λ (d : Branch). take i bs ++ d ∷ []) (sym at) in
    let goes_on : target ≡ entry (here + branch_statements (take i bs)) next (out-Branch b).body = target_is ∙ ap₂ (λ (p : ℕ) (rs : List Stmt). entry p next rs) placed ss_is in
    new_is ∙ ap₂ (λ (ws : List Way) (w : Way). ws ++ w ∷ []) so_far (ap₂ way io_is goes_on) ∙ sym (ways-more here next (take i bs) b) ∙ ap (ways_at here next) (sym so_more)
