-- The code of the lines of comparisons that stand in two lists.
use Rattle.std.specs.Prelude.{◌≡◌, ◌≤◌, ℕ, suc, ◌+◌, List, [], ◌∷◌, ◌++◌, length, Result, Ok, Err, IfOk, OnOk}
use Rattle.std.proofs.Common.{refl, ap, sym, ◌∙◌, subst, arith, append_assoc}
use Rattle.std.proofs.lemmas.List.{length-append}
use Rattle.hc_term.specs.declared.expr.Expr.{Expr}
use Rattle.hc_term.specs.declared.expr.Cond.{Cond}
use Rattle.hc_cast.specs.declared.stmt.CStmt.{CStmt}
use Rattle.hc_cend.specs.Places.{Places}
use Rattle.hc_cend.specs.Ending.{crosses_and_finds, end_code}
use Rattle.hc_cend.specs.Law.{places}
use Rattle.hc_cend.specs.Lining.{guard, compared, Compared, gap_code, gaps_code}

-- the second list's comparisons are numbered behind those of the first
pub gaps_append : (side : ℕ → Expr → List CStmt) (t : ℕ) (p : Places) (i : ℕ) (qs rs : List Compared) →
    gaps_code side t p i (qs ++ rs) ≡ gaps_code side t p i qs ++ gaps_code side t p (i + length qs) rs
gaps_append side t p i [] rs = let same : i + 0 ≡ i = omega arith in ap (λ (k : ℕ). gaps_code side t p k rs) (sym same)
gaps_append side t p i (q ∷ qs) rs =
    let same : suc i + length qs ≡ i + length (q ∷ qs) = omega arith in
    ap (λ (ss : List CStmt). gap_code side t p i q ++ ss)
    (gaps_append side t p (suc i) qs rs ∙ ap (λ (k : ℕ). gaps_code side t p (suc i) qs ++ gaps_code side t p k rs) same)
    ∙ sym (append_assoc (gap_code side t p i q) (gaps_code side t p (suc i) qs) (gaps_code side t p (i + length (q ∷ qs)) rs))

-- what is pushed for the first list's comparisons and then for those of the second is what is to be pushed for both
pub both_pushed : {E : Type 0} (side : ℕ → Expr → List CStmt) (t : ℕ) (p : Places) (i next first second all : ℕ) (qs rs ws : List Compared)
    (before after new : List CStmt) (result : Result ℕ E) → ws ≡ qs ++ rs → all ≡ 1 + first + second →
    after ≡ before ++ gaps_code side t p i qs → next ≡ i + length qs → next ≤ i + first →
    IfOk result (λ k. (new ≡ after ++ gaps_code side t p next rs) × (k ≡ next + length rs) × (k ≤ next + second)) →
    IfOk result (λ k. (new ≡ before ++ gaps_code side t p i ws) × (k ≡ i + length ws) × (k ≤ i + all))
both_pushed side t p i next first second all qs rs ws before after new (Err e) whole sum front counted few h = tt
both_pushed side t p i next first second all qs rs ws before after new (Ok k) whole sum front counted few h =
    let joined : gaps_code side t p i ws ≡ gaps_code side t p i qs ++ gaps_code side t p next rs =
    ap (gaps_code side t p i) whole ∙ gaps_append side t p i qs rs ∙ ap (λ (n : ℕ). gaps_code side t p i qs ++ gaps_code side t p n rs) (sym counted) in
    let long : length ws ≡ length qs + length rs = ap length whole ∙ length-append qs rs in
    let end = h.1 in
    let most = h.2 in (
      h.0
          ∙ ap (λ (ss : List CStmt). ss ++ gaps_code side t p next rs) front
          ∙ append_assoc before (gaps_code side t p i qs) (gaps_code side t p next rs)
          ∙ ap (λ (ss : List CStmt). before ++ ss) (sym joined),
      omega (arith, end, counted, long),
      omega (arith, most, few, sum),
    )

-- the lines, and behind them the search in its guard, are the code of the end moment
pub ends_pushed : {U E : Type 0} (side : ℕ → Expr → List CStmt) (t n : ℕ) (c : Cond) (before mid after search : List CStmt) (guarded : CStmt) (result : Result U E) →
    n ≡ length (compared c) → mid ≡ before ++ gaps_code side t (places n) 0 (compared c) → search ≡ crosses_and_finds t (places n) n c → guarded ≡ guard search →
    OnOk result (after ≡ mid ++ guarded ∷ []) → OnOk result (after ≡ before ++ end_code side t (places (length (compared c))) c)
ends_pushed side t n c before mid after search guarded (Err e) counted lines found inside h = tt
ends_pushed side t n c before mid after search guarded (Ok u) counted lines found inside h =
    h
    ∙ ap (λ (ss : List CStmt). ss ++ guarded ∷ []) lines
    ∙ append_assoc before (gaps_code side t (places n) 0 (compared c)) (guarded ∷ [])
    ∙ ap (λ (s : CStmt). before ++ (gaps_code side t (places n) 0 (compared c) ++ s ∷ [])) (inside ∙ ap guard found)
    ∙ ap (λ (k : ℕ). before ++ (gaps_code side t (places k) 0 (compared c) ++ guard (crosses_and_finds t (places k) k c) ∷ [])) counted
