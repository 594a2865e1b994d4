-- What each form of a statement adds to a code.
use Rattle.std.proofs.Common.{rules, ◌≡◌, refl, sym, ap, ap₂, ◌∙◌, subst, ℕ, ◌+◌, ◌<◌, suc, Bool, true, false, ◌&&◌, IsTrue, List, [], ◌∷◌, ◌++◌, length, take, drop, get_or, arith, append_assoc, length-append, Option, Some, None, Result, Ok, Err, IfOk, OnOk}
use Rattle.std.specs.Prelude.{slice_set, ℤ}
use Rattle.std.specs.declared.alloc.AllocError.{AllocError}
use Rattle.std.proofs.lemmas.List.{append-nil, map-append, take_more, drop_more, drop_all}
use Rattle.std.proofs.lemmas.List.Folds.{list_all-map}
use Rattle.hc_cast.specs.declared.expr.CExpr.{CExpr}
use Rattle.hc_cast.specs.declared.stmt.CStmt.{CStmt, out-CStmt, fold-CStmt, the_lemmas}
use Rattle.hc_cast.specs.declared.stmt.CStmt.TheOpen.{CStmt-F}
use Rattle.hc_cast.specs.declared.stmt.CStmt.TheFolds.{fold-roll-CStmt}
use Rattle.hc_cast.specs.declared.stmt.CStmt.TheViews as seen
use Rattle.hc_cast.specs.declared.stmt.CCase.{CCase, out-CCase}
use Rattle.hc_cast.specs.declared.program.CFunction.{CFunction}
use Rattle.hc_cast.specs.declared.program.CProgram.{CProgram}
use Rattle.hc_cmach.specs.State.{Word}
use Rattle.hc_ccode.specs.declared.code.Case.{Case}
use Rattle.hc_ccode.specs.declared.code.Node.{Node}
use Rattle.hc_ccode.specs.declared.code.Node.TheVariants as node
use Rattle.hc_cmach.specs.Calls.{calls_among, all_among, call_layer, case_layer}
use Rattle.hc_ccode.specs.Pieces.{cases_among}
use Rattle.hc_ccode.specs.Placed.{placed}
use Rattle.hc_ccode.specs.Stages.{stage, Stages, At, Layer, LeafAgrees, CasesAgree, AgreesHere}
use Rattle.hc_ccode.specs.Pieces.{is_leaf, bodies, numbers, numbers_of, places_of, HasAt, EachAt, Adds, AddsCases, AddsBody}
use Rattle.hc_ccode.proofs.Growing.{nothing, not_yet, beside, before_it, behind_it, around_it}

-- ---- calls of the parts

pub both : (a b : Bool) → IsTrue (a && b) → IsTrue a × IsTrue b
both true true h = (refl, refl)
both true false h = absurd (cc)
both false b h = absurd (cc)

module _ (fs : List CFunction) where
  among-If : (s : CStmt) (c : CExpr) (ss : List CStmt) → s ≡ seen.If c ss None → calls_among fs s ≡ (all_among fs ss && true)
  among-If s c ss e = search (rules, the_lemmas, list_all-map)

  among-Else : (s : CStmt) (c : CExpr) (ss rs : List CStmt) → s ≡ seen.If c ss (Some rs) → calls_among fs s ≡ (all_among fs ss && all_among fs rs)
  among-Else s c ss rs e =
      ap (fold-CStmt Bool Bool (call_layer fs) case_layer) (e ∙ sym (seen.rolls-If c ss (Some rs)))
      ∙ fold-roll-CStmt Bool Bool (call_layer fs) case_layer (CStmt-F.If c ss (Some rs))
      ∙ ap₂ (λ (a b : Bool). a && b) (list_all-map (λ (b : Bool). b) (calls_among fs) ss) (list_all-map (λ (b : Bool). b) (calls_among fs) rs)

  among-While : (s : CStmt) (c : CExpr) (ss : List CStmt) → s ≡ seen.While c ss → calls_among fs s ≡ all_among fs ss
  among-While s c ss e = search (rules, the_lemmas, list_all-map)

  among-Switch : (s : CStmt) (c : CExpr) (cs : List CCase) (ss : List CStmt) → s ≡ seen.Switch c cs ss →
      calls_among fs s ≡ (cases_among fs cs && all_among fs ss)
  among-Switch s c cs ss e = search (rules, the_lemmas, list_all-map)

  -- where the part came out of a call
  module _ (s : CStmt) (c : CExpr) (h : IsTrue (calls_among fs s)) where
    first_of_if : (ss : List CStmt) (o : Option (List CStmt)) → s ≡ seen.If c ss o → IsTrue (all_among fs ss)
    first_of_if ss None e = (both (all_among fs ss) true (sym (among-If s c ss e) ∙ h)).0
    first_of_if ss (Some rs) e = (both (all_among fs ss) (all_among fs rs) (sym (among-Else s c ss rs e) ∙ h)).0

    pub in_first : (ss ps : List CStmt) (o : Option (List CStmt)) → s ≡ seen.If c ss o → ps ≡ ss → IsTrue (all_among fs ps)
    in_first ss ps o e p = ap (all_among fs) p ∙ first_of_if ss o e

    pub in_other : (ss rs ps : List CStmt) (o : Option (List CStmt)) → s ≡ seen.If c ss o → o ≡ Some rs → ps ≡ rs → IsTrue (all_among fs ps)
    in_other ss rs ps o e k p =
        ap (all_among fs) p ∙ (both (all_among fs ss) (all_among fs rs) (sym (among-Else s c ss rs (e ∙ ap (seen.If c ss) k)) ∙ h)).1

    pub in_while : (ss ps : List CStmt) → s ≡ seen.While c ss → ps ≡ ss → IsTrue (all_among fs ps)
    in_while ss ps e p = ap (all_among fs) p ∙ sym (among-While s c ss e) ∙ h

    pub in_cases : (cs ps : List CCase) (ss : List CStmt) → s ≡ seen.Switch c cs ss → ps ≡ cs → IsTrue (cases_among fs ps)
    in_cases cs ps ss e p = ap (cases_among fs) p ∙ (both (cases_among fs cs) (all_among fs ss) (sym (among-Switch s c cs ss e) ∙ h)).0

    pub in_default : (cs : List CCase) (ss ps : List CStmt) → s ≡ seen.Switch c cs ss → ps ≡ ss → IsTrue (all_among fs ps)
    in_default cs ss ps e p = ap (all_among fs) p ∙ (both (cases_among fs cs) (all_among fs ss) (sym (among-Switch s c cs ss e) ∙ h)).1

-- ---- answers that may be want of memory

pub ok_behind : (r : Result ℕ AllocError) (mid new : List Node) (i : Node) (P : ℕ → Type 0) → OnOk r (new ≡ mid ++ i ∷ []) →
    IfOk r (λ p. p ≡ length mid) → ((new ≡ mid ++ i ∷ []) → P (length mid)) → IfOk r P
ok_behind (Ok p) mid new i P e k f = subst P (sym k) (f e)
ok_behind (Err x) mid new i P e k f = tt

pub ok_more : (r : Result ℕ AllocError) (P Q : ℕ → Type 0) → ((p : ℕ) → P p → Q p) → IfOk r P → IfOk r Q
ok_more (Ok p) P Q f h = f p h
ok_more (Err x) P Q f h = tt

-- ---- forms

if_out : (c : CExpr) (ss : List CStmt) (no' : Option (List CStmt)) → out-CStmt (seen.If c ss no') ≡ CStmt-F.If c ss no'
if_out c ss no' = search (rules, the_lemmas)

while_out : (c : CExpr) (ss : List CStmt) → out-CStmt (seen.While c ss) ≡ CStmt-F.While c ss
while_out c ss = search (rules, the_lemmas)

switch_out : (c : CExpr) (cs : List CCase) (ss : List CStmt) → out-CStmt (seen.Switch c cs ss) ≡ CStmt-F.Switch c cs ss
switch_out c cs ss = search (rules, the_lemmas)

module _ (g : CProgram) (names : List Word) (known : ℕ) where
  leaf_here : (t : Stages) (next : ℕ) (i : Node) (s : CStmt) (rest : List CStmt) (layer : Layer) → IsTrue (is_leaf layer) →
      LeafAgrees g names known next i layer → At t names known next rest → AgreesHere g t names known i s rest layer
  leaf_here t next i s rest (CStmt-F.Set x e) l a h = (next, a, h)
  leaf_here t next i s rest (CStmt-F.Store x j e) l a h = (next, a, h)
  leaf_here t next i s rest (CStmt-F.Call target what es) l a h = (next, a, h)
  leaf_here t next i s rest (CStmt-F.If c first other) l a h = absurd a
  leaf_here t next i s rest (CStmt-F.While c body) l a h = absurd a
  leaf_here t next i s rest (CStmt-F.Switch c cases otherwise) l a h = absurd a
  leaf_here t next i s rest (CStmt-F.Return e) l a h = (next, a, h)

  pub leaf_adds : (old new : List Node) (next : ℕ) (i : Node) (s : CStmt) → IsTrue (is_leaf (out-CStmt s)) →
      LeafAgrees g names known next i (out-CStmt s) → new ≡ old ++ i ∷ [] → Adds g names known old new next (length old ∷ []) ((s ∷ []) ∷ [])
  leaf_adds old new next i s l a e =
      behind_it g names known i s (out-CStmt s) (nothing g names known old next) e refl
      (λ rest t k each. leaf_here t next i s rest (out-CStmt s) l a k)

  module _ (old mid new : List Node) (next p : ℕ) (s : CStmt) (c : CExpr) (ss ps : List CStmt) (same : ps ≡ ss) where
    pub if_adds : (o : Option (List CStmt)) → s ≡ seen.If c ss o → o ≡ None → Adds g names known old mid next (p ∷ []) (ps ∷ []) →
        new ≡ mid ++ node.Branch (placed g names c) p next ∷ [] → Adds g names known old new next (length mid ∷ []) ((s ∷ []) ∷ [])
    if_adds o s_is o_is a e =
        let a' = subst (λ (xs : List CStmt). Adds g names known old mid next (p ∷ []) (xs ∷ [])) same a in
        behind_it g names known (node.Branch (placed g names c) p next) s (CStmt-F.If c ss None) (beside g names known a' (not_yet g names known mid next)) e
        (ap out-CStmt (s_is ∙ ap (seen.If c ss) o_is) ∙ if_out c ss None) (λ rest t k each. (p, next, refl, each.0, each.1.0))

    pub else_adds : (last : List Node) (q : ℕ) (rs qs : List CStmt) (o : Option (List CStmt)) → qs ≡ rs → s ≡ seen.If c ss o → o ≡ Some rs →
        Adds g names known old mid next (p ∷ []) (ps ∷ []) → Adds g names known mid last next (q ∷ []) (qs ∷ []) →
        new ≡ last ++ node.Branch (placed g names c) p q ∷ [] → Adds g names known old new next (length last ∷ []) ((s ∷ []) ∷ [])
    else_adds last q rs qs o also s_is o_is a b e =
        let a' = subst (λ (xs : List CStmt). Adds g names known old mid next (p ∷ []) (xs ∷ [])) same a in
        let b' = subst (λ (xs : List CStmt). Adds g names known mid last next (q ∷ []) (xs ∷ [])) also b in
        behind_it g names known (node.Branch (placed g names c) p q) s (CStmt-F.If c ss (Some rs)) (beside g names known a' b') e
        (ap out-CStmt (s_is ∙ ap (seen.If c ss) o_is) ∙ if_out c ss (Some rs)) (λ rest t k each. (p, q, refl, each.0, each.1.0))

    pub while_adds : (last : List Node) (here : ℕ) → s ≡ seen.While c ss → mid ≡ old ++ node.End ∷ [] → here ≡ length old →
        Adds g names known mid last here (p ∷ []) (ps ∷ []) → new ≡ slice_set last here (node.Branch (placed g names c) p next) →
        Adds g names known old new next (here ∷ []) ((s ∷ []) ∷ [])
    while_adds last here s_is m here_is a e =
        let a' = subst (λ (xs : List CStmt). Adds g names known mid last here (p ∷ []) (xs ∷ [])) same a in
        let b = subst (λ (n : ℕ). Adds g names known mid last n (p ∷ []) (ss ∷ [])) here_is a' in
        let e' = subst (λ (n : ℕ). new ≡ slice_set last n (node.Branch (placed g names c) p next)) here_is e in
        subst (λ (n : ℕ). Adds g names known old new next (n ∷ []) ((s ∷ []) ∷ [])) (sym here_is)
        (around_it g names known (node.Branch (placed g names c) p next) node.End s (CStmt-F.While c ss) m b e'
        (ap out-CStmt s_is ∙ while_out c ss) (λ rest t k each. (p, next, refl, each.0, k)))

  cases_agree : (t : Stages) (rest : List CStmt) (ways : List Case) (cs : List CCase) (q : ℕ) (ss : List CStmt) → numbers_of ways ≡ numbers cs →
      EachAt t names known (places_of ways ++ q ∷ []) (bodies cs ++ ss ∷ []) rest → CasesAgree t names known rest ways cs × At t names known q (ss ++ rest)
  cases_agree t rest [] [] q ss e h = (tt, h.0)
  cases_agree t rest [] (c ∷ cs) q ss e h = absurd (cc)
  cases_agree t rest (w ∷ ws) [] q ss e h = absurd (cc)
  cases_agree t rest (w ∷ ws) (c ∷ cs) q ss e h =
      let later = cases_agree t rest ws cs q ss (cc) h.1 in
      let here : w.number ≡ (out-CCase c).number = cc in
      ((here, h.0, later.0), later.1)

  pub switch_adds : (old mid last new : List Node) (next q : ℕ) (s : CStmt) (c : CExpr) (ways : List Case) (cs ds : List CCase) (ss ps : List CStmt) →
      s ≡ seen.Switch c cs ss → ds ≡ cs → ps ≡ ss → AddsCases g names known old mid next ways ds → Adds g names known mid last next (q ∷ []) (ps ∷ []) →
      new ≡ last ++ node.Switch (placed g names c) ways q ∷ [] → Adds g names known old new next (length last ∷ []) ((s ∷ []) ∷ [])
  switch_adds old mid last new next q s c ways cs ds ss ps s_is same also a b e =
      let a' = subst (λ (xs : List CCase). AddsCases g names known old mid next ways xs) same a in
      let b' = subst (λ (xs : List CStmt). Adds g names known mid last next (q ∷ []) (xs ∷ [])) also b in
      behind_it g names known (node.Switch (placed g names c) ways q) s (CStmt-F.Switch c cs ss) (beside g names known a'.adds b') e
      (ap out-CStmt s_is ∙ switch_out c cs ss)
      (λ rest t k each. let both = cases_agree t rest ways cs q ss a'.numbered each in (ways, q, refl, both.0, both.1))

  -- ---- lists of statements and of cases

  pub none_yet : (code : List Node) (next : ℕ) (ss : List CStmt) → Adds g names known code code next (next ∷ []) (drop (length ss) ss ∷ [])
  none_yet code next ss =
      subst (λ (xs : List CStmt). Adds g names known code code next (next ∷ []) (xs ∷ [])) (sym (drop_all (length ss) ss (omega arith)))
      (not_yet g names known code next)

  drop_before : (xs : List CStmt) (i : ℕ) (x : CStmt) → i < length xs → x ≡ get_or xs i x → x ∷ drop (i + 1) xs ≡ drop i xs
  drop_before xs i x h e = ap (λ (y : CStmt). y ∷ drop (i + 1) xs) e ∙ sym (drop_more xs i x h)

  pub one_before : (old mid new : List Node) (next p q i j : ℕ) (ss : List CStmt) (s : CStmt) → j ≡ i + 1 → i < length ss → s ≡ get_or ss i s →
      Adds g names known old mid next (q ∷ []) (drop j ss ∷ []) → Adds g names known mid new q (p ∷ []) ((s ∷ []) ∷ []) →
      Adds g names known old new next (p ∷ []) (drop i ss ∷ [])
  one_before old mid new next p q i j ss s j_is h e a b =
      let a' = subst (λ (k : ℕ). Adds g names known old mid next (q ∷ []) (drop k ss ∷ [])) j_is a in
      subst (λ (xs : List CStmt). Adds g names known old new next (p ∷ []) (xs ∷ [])) (drop_before ss i s h e) (before_it g names known a' b)

  pub no_cases : (code : List Node) (next : ℕ) (ways : List Case) → ways ≡ [] → AddsCases g names known code code next ways []
  no_cases code next ways e =
      subst (λ (ws : List Case). AddsCases g names known code code next ws []) (sym e) (record { adds = nothing g names known code next; numbered = refl })

  abbrev case_at : ℤ → ℕ → Case
  case_at n p = record { number = n; place = p }

  one_case : (old mid new : List Node) (next p : ℕ) (ways : List Case) (cs : List CCase) (c : CCase) → AddsCases g names known old mid next ways cs →
      Adds g names known mid new next (p ∷ []) ((out-CCase c).body ∷ []) →
      AddsCases g names known old new next (ways ++ case_at (out-CCase c).number p ∷ []) (cs ++ c ∷ [])
  one_case old mid new next p ways cs c a b =
      let w = case_at (out-CCase c).number p in
      let begins = map-append (λ (v : Case). v.place) ways (w ∷ []) in
      let parts = map-append (λ (d : CCase). (out-CCase d).body) cs (c ∷ []) in
      let own = map-append (λ (v : Case). v.number) ways (w ∷ []) in
      let theirs = map-append (λ (d : CCase). (out-CCase d).number) cs (c ∷ []) in
      record {
        adds =
            subst (λ (xs : List (List CStmt)). Adds g names known old new next (places_of (ways ++ w ∷ [])) xs) (sym parts)
            (subst (λ (ps : List ℕ). Adds g names known old new next ps (bodies cs ++ (out-CCase c).body ∷ [])) (sym begins) (beside g names known a.adds b));
        numbered = own ∙ ap (λ (ns : List ℤ). ns ++ (out-CCase c).number ∷ []) a.numbered ∙ sym theirs;
      }

  pub case_more : (old mid new : List Node) (next p i : ℕ) (ways more : List Case) (w : Case) (cs : List CCase) (c : CCase) (ps : List CStmt) →
      i < length cs → c ≡ get_or cs i c → AddsCases g names known old mid next ways (take i cs) → ps ≡ (out-CCase c).body →
      Adds g names known mid new next (p ∷ []) (ps ∷ []) → w ≡ case_at (out-CCase c).number p → more ≡ ways ++ w ∷ [] →
      AddsCases g names known old new next more (take (i + 1) cs)
  case_more old mid new next p i ways more w cs c ps h e a same b w_is m =
      let b' = subst (λ (xs : List CStmt). Adds g names known mid new next (p ∷ []) (xs ∷ [])) same b in
      let m' = m ∙ ap (λ (v : Case). ways ++ v ∷ []) w_is in
      let taken : take (i + 1) cs ≡ take i cs ++ c ∷ [] = take_more cs i c h ∙ ap (λ (d : CCase). take i cs ++ d ∷ []) (sym e) in
      subst (λ (ws : List Case). AddsCases g names known old new next ws (take (i + 1) cs)) (sym m')
      (subst (λ (ds : List CCase). AddsCases g names known old new next (ways ++ case_at (out-CCase c).number p ∷ []) ds) (sym taken)
      (one_case old mid new next p ways (take i cs) c a b'))

  -- ---- bodies

  pub body_adds : (old mid new : List Node) (end p : ℕ) (ss : List CStmt) → mid ≡ old ++ node.End ∷ [] → end ≡ length old →
      Adds g names known mid new end (p ∷ []) (ss ∷ []) → AddsBody g names known old new p ss
  body_adds old mid new end p ss m end_is a = record {
    piece = node.End ∷ a.piece;
    is = a.is ∙ ap (λ ls. ls ++ a.piece) m ∙ append_assoc old (node.End ∷ []) a.piece;
    stages = stage names known [] ∷ a.stages [];
    even = ap suc (a.even []);
    stands = λ t has.
        let behind : length old + 1 ≡ length mid = omega (arith, ap length m, length-append old (node.End ∷ [])) in
        let here : At t names known end [] = subst (λ (n : ℕ). At t names known n []) (sym end_is) has.0 in
        let inner = a.stands [] t (subst (λ n. HasAt t n (a.stages [])) behind has.1) here in
        ((refl, inner.0), subst (λ (xs : List CStmt). At t names known p xs) (append-nil ss) inner.1.0);
  }
