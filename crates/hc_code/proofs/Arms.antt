-- What each form of a statement adds to a code, from what its parts add.
use Rattle.std.proofs.Common.{◌≡◌, sym, ap, ap₂, ◌∙◌, subst, ℕ, ◌+◌, List, [], ◌∷◌, ◌++◌, length, arith, length-append}
use Rattle.hc_term.specs.declared.expr.Cond.{Cond}
use Rattle.hc_term.specs.declared.stmt.Rate.{Rate}
use Rattle.hc_term.specs.declared.stmt.Stmt.{Stmt}
use Rattle.hc_term.specs.declared.stmt.Stmt.TheViews as seen
use Rattle.hc_term.specs.declared.stmt.Branch.{Branch}
use Rattle.hc_term.specs.Process.{Layer}
use Rattle.hc_code.specs.declared.code.Instr.{Instr}
use Rattle.hc_code.specs.declared.code.Instr.TheVariants as instr
use Rattle.hc_code.specs.Pieces.{all_statements, entry, entries, bodies, ways_at, Adds}
use Rattle.hc_code.proofs.Growing.{Heads, nothing, beside, headed}
use Rattle.hc_code.proofs.Heads.{same, if_heads, pick_heads, forever_heads, loop_heads, choice_heads, evolve_heads}

-- the code has one instruction more
longer : (old mid : List Instr) (i : Instr) → mid ≡ old ++ i ∷ [] → length old + 1 ≡ length mid
longer old mid i e = omega (arith, ap length e, length-append old (i ∷ []))

pub leaf_adds : {old new : List Instr} {next : ℕ} {i j : Instr} {s shown : Stmt} {layer : Layer} → new ≡ old ++ i ∷ [] → i ≡ j → s ≡ shown →
    Heads (length old) next next same [] [] j shown layer → Adds old new next (length old ∷ []) ((s ∷ []) ∷ [])
leaf_adds {old = old} {new = new} {next = next} e i_is s_is h =
    subst (λ (s : Stmt). Adds old new next (length old ∷ []) ((s ∷ []) ∷ [])) (sym s_is)
    (headed (e ∙ ap (λ (k : Instr). old ++ k ∷ []) i_is) (nothing new next) h)

module _ {old mid new : List Instr} {next : ℕ} {s : Stmt} where
  pub if_adds : {c : Cond} {ss rs first second : List Stmt} → s ≡ seen.If c ss rs → first ≡ ss → second ≡ rs →
      mid ≡ old ++ instr.Test c (entry (length old + 1) next first) (entry (length old + 1 + all_statements first) next second) ∷ [] →
      Adds mid new next (entry (length mid) next first ∷ entry (length mid + all_statements first) next second ∷ []) (first ∷ second ∷ []) →
      Adds old new next (length old ∷ []) ((s ∷ []) ∷ [])
  if_adds {c = c} {first = first} {second = second} s_is first_is second_is e p =
      let placed = ap (λ (k : ℕ). old ++ instr.Test c (entry k next first) (entry (k + all_statements first) next second) ∷ []) (longer old mid _ e) in
      let here = headed (e ∙ placed) p (if_heads (length old) next _ _ c first second) in
      subst (λ (r : Stmt). Adds old new next (length old ∷ []) ((r ∷ []) ∷ [])) (ap₂ (seen.If c) first_is second_is ∙ sym s_is) here

  pub pick_adds : {ss rs first second : List Stmt} → s ≡ seen.Pick ss rs → first ≡ ss → second ≡ rs →
      mid ≡ old ++ instr.Pick (entry (length old + 1) next first) (entry (length old + 1 + all_statements first) next second) ∷ [] →
      Adds mid new next (entry (length mid) next first ∷ entry (length mid + all_statements first) next second ∷ []) (first ∷ second ∷ []) →
      Adds old new next (length old ∷ []) ((s ∷ []) ∷ [])
  pick_adds {first = first} {second = second} s_is first_is second_is e p =
      let placed = ap (λ (k : ℕ). old ++ instr.Pick (entry k next first) (entry (k + all_statements first) next second) ∷ []) (longer old mid _ e) in
      let here = headed (e ∙ placed) p (pick_heads (length old) next _ _ first second) in
      subst (λ (r : Stmt). Adds old new next (length old ∷ []) ((r ∷ []) ∷ [])) (ap₂ seen.Pick first_is second_is ∙ sym s_is) here

  pub forever_adds : {ss body : List Stmt} (here : ℕ) → s ≡ seen.Forever ss → body ≡ ss → here ≡ length old →
      mid ≡ old ++ instr.Again (entry (length old + 1) (length old) body) ∷ [] →
      Adds mid new here (entry (length mid) here body ∷ []) (body ∷ []) → Adds old new next (length old ∷ []) ((s ∷ []) ∷ [])
  forever_adds {body = body} here s_is body_is here_is e p =
      let placed = ap (λ (k : ℕ). old ++ instr.Again (entry k (length old) body) ∷ []) (longer old mid _ e) in
      let inside = subst (λ (k : ℕ). Adds mid new k (entry (length mid) k body ∷ []) (body ∷ [])) here_is p in
      let whole = headed (e ∙ placed) inside (forever_heads (length old) next _ body) in
      subst (λ (r : Stmt). Adds old new next (length old ∷ []) ((r ∷ []) ∷ [])) (ap seen.Forever body_is ∙ sym s_is) whole

  pub loop_adds : {c : Cond} {ss body : List Stmt} (here : ℕ) → s ≡ seen.Loop c ss → body ≡ ss → here ≡ length old →
      mid ≡ old ++ instr.Test c (entry (length old + 1) (length old) body) next ∷ [] →
      Adds mid new here (entry (length mid) here body ∷ []) (body ∷ []) → Adds old new next (length old ∷ []) ((s ∷ []) ∷ [])
  loop_adds {c = c} {body = body} here s_is body_is here_is e p =
      let placed = ap (λ (k : ℕ). old ++ instr.Test c (entry k (length old) body) next ∷ []) (longer old mid _ e) in
      let inside = subst (λ (k : ℕ). Adds mid new k (entry (length mid) k body ∷ []) (body ∷ [])) here_is p in
      let whole = headed (e ∙ placed) inside (loop_heads (length old) next _ c body) in
      subst (λ (r : Stmt). Adds old new next (length old ∷ []) ((r ∷ []) ∷ [])) (ap (seen.Loop c) body_is ∙ sym s_is) whole

  pub choice_adds : {bs branches : List Branch} → s ≡ seen.Choice bs → branches ≡ bs →
      mid ≡ old ++ instr.Meet (ways_at (length old + 1) next branches) ∷ [] →
      Adds mid new next (entries (length mid) next branches) (bodies branches) → Adds old new next (length old ∷ []) ((s ∷ []) ∷ [])
  choice_adds {branches = branches} s_is branches_is e p =
      let placed = ap (λ (k : ℕ). old ++ instr.Meet (ways_at k next branches) ∷ []) (longer old mid _ e) in
      let whole = headed (e ∙ placed) p (choice_heads (length old) next (length mid) branches) in
      subst (λ (r : Stmt). Adds old new next (length old ∷ []) ((r ∷ []) ∷ [])) (ap seen.Choice branches_is ∙ sym s_is) whole

  pub evolve_adds : {c : Cond} {rs rates : List Rate} {bs branches : List Branch} → s ≡ seen.Evolve rs c bs → rates ≡ rs → branches ≡ bs →
      mid ≡ old ++ instr.Evolve rates c (ways_at (length old + 1) next branches) next ∷ [] →
      Adds mid new next (entries (length mid) next branches) (bodies branches) → Adds old new next (length old ∷ []) ((s ∷ []) ∷ [])
  evolve_adds {c = c} {rates = rates} {branches = branches} s_is rates_is branches_is e p =
      let placed = ap (λ (k : ℕ). old ++ instr.Evolve rates c (ways_at k next branches) next ∷ []) (longer old mid _ e) in
      let whole = headed (e ∙ placed) p (evolve_heads (length old) next (length mid) rates c branches) in
      subst (λ (r : Stmt). Adds old new next (length old ∷ []) ((r ∷ []) ∷ [])) (ap₂ (λ (q : List Rate) (ds : List Branch). seen.Evolve q c ds) rates_is branches_is ∙ sym s_is) whole

pub two_add : {old mid new : List Instr} {next : ℕ} {ss rs : List Stmt} → Adds old mid next (entry (length old) next ss ∷ []) (ss ∷ []) →
    Adds mid new next (entry (length mid) next rs ∷ []) (rs ∷ []) → length mid ≡ length old + all_statements ss →
    Adds old new next (entry (length old) next ss ∷ entry (length old + all_statements ss) next rs ∷ []) (ss ∷ rs ∷ [])
two_add {old = old} {new = new} {next = next} {ss = ss} {rs = rs} p q grown =
    subst (λ (k : ℕ). Adds old new next (entry (length old) next ss ∷ entry k next rs ∷ []) (ss ∷ rs ∷ [])) grown (beside p q)
