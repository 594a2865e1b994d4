-- The rules by which runs of statements are joined: loops, choices, calls; and what a run is to the machine of threads.
use Rattle.std.specs.Prelude.{◌≡◌, ◌≤◌, ℕ, zero, suc, ◌+◌, Bool, false, if◌then◌else◌, List, [], ◌∷◌, ◌++◌, slice_set, ℤ, pos, Option, Some, None}
use Rattle.std.proofs.Common.{refl, sym, ap, ◌∙◌, subst, arith, append_assoc}
use Rattle.std.proofs.lemmas.List.{append-nil}
use Rattle.std.proofs.lemmas.Option.{same_Some}
use Rattle.hc_cast.specs.declared.expr.CExpr.{CExpr}
use Rattle.hc_cast.specs.declared.stmt.CStmt.{CStmt}
use Rattle.hc_cast.specs.declared.stmt.CCase.{CCase}
use Rattle.hc_cast.specs.declared.stmt.CStmt.TheVariants as a
use Rattle.hc_cast.specs.Primitives.{primitive_named}
use Rattle.hc_cast.specs.declared.program.CFunction.{CFunction}
use Rattle.hc_cast.specs.declared.program.CProgram.{CProgram}
use Rattle.hc_schedule.specs.Threads.{Act, Goes, Locks, Unlocks, Waits, Wakes, Works, Prints, Retakes, Returned, Fails, Does}
use Rattle.hc_cmach.specs.State.{Word, Frame, place_of, function_among, Own, Shared}
use Rattle.hc_cmach.specs.Line.{Line}
use Rattle.hc_schedule.specs.Solo.{goes_act, goes_to, then_by, alone, Solo, solo_act, solo_turn, solos, then_solo}
use Rattle.hc_cmach.specs.Expression.{is_true}
use Rattle.hc_cmach.specs.Primitive.{CTurn}
use Rattle.hc_cmach.specs.Turn.{c_code, or_nothing, case_for}
use Rattle.hc_clogic.specs.Runs.{Are, Is, Leads, Lone, Runs, View, ahead, ahead_act, ahead_turn, aheads, at, back, caller, entered, inside, outside}

more_of : (f : Lone → Option Lone) (x : Option Lone) (q : Lone) → then_solo f x ≡ Some q → (p : Lone) × (x ≡ Some p) × (f p ≡ Some q)
more_of f None q e = absurd cc
more_of f (Some p) q e = (p, refl, e)

module _ (g : CProgram) (t : ℕ) where
  pub aheads_join : (n k : ℕ) (x z y : Lone) → aheads g t n x ≡ Some z → aheads g t k z ≡ Some y → aheads g t (n + k) x ≡ Some y
  aheads_join zero k x z y e h =
      let same : zero + k ≡ k = omega arith in
      ap (λ (i : ℕ). aheads g t i x) same ∙ ap (aheads g t k) (same_Some x z e) ∙ h
  aheads_join (suc n) k x z y e h =
      let same : suc n + k ≡ suc (n + k) = omega arith in
      let m = more_of (aheads g t n) (ahead g t x) z e in
      ap (λ (i : ℕ). aheads g t i x) same ∙ ap (then_solo (aheads g t (n + k))) m.1 ∙ aheads_join n k m.0 z y m.2 h

  pub leads_on : (m n : ℕ) (x z y : Lone) → Leads g t m x z → Leads g t n z y → Leads g t (m + n) x y
  leads_on m n x z y h k = record {
    steps = h.steps + k.steps;
    few = omega (arith, h.few, k.few);
    comes = aheads_join h.steps k.steps x z y h.comes k.comes;
  }

  pub leads_longer : (m n : ℕ) (x y : Lone) → m ≤ n → Leads g t m x y → Leads g t n x y
  leads_longer m n x y less h = record { steps = h.steps; few = omega (arith, less, h.few); comes = h.comes }

  -- ---- statements

  pub runs_none : (v : View) → Runs g t 0 [] v v
  runs_none v = record { by = λ rest target gives below. record { steps = 0; few = omega arith; comes = refl } }

  pub runs_longer : (m n : ℕ) (ss : List CStmt) (v w : View) → m ≤ n → Runs g t m ss v w → Runs g t n ss v w
  runs_longer m n ss v w less h = record { by = λ rest target gives below. leads_longer m n _ _ less (h.by rest target gives below) }

  pub runs_on : (m n : ℕ) (ss rs : List CStmt) (v w u : View) → Runs g t m ss v w → Runs g t n rs w u → Runs g t (m + n) (ss ++ rs) v u
  runs_on m n ss rs v w u h k = record {
    by =
        λ rest target gives below.
        subst (λ (todo : List CStmt). Leads g t (m + n) (at v todo target gives below) (at u rest target gives below)) (sym (append_assoc ss rs rest))
        (leads_on m n _ _ _ (h.by (rs ++ rest) target gives below) (k.by rest target gives below));
  }

  -- computed steps are a run
  pub runs_straight : (n : ℕ) (ss : List CStmt) (v w : View) →
      ((rest : List CStmt) (target : Option Word) (gives : Bool) (below : List Frame) → aheads g t n (at v (ss ++ rest) target gives below) ≡ Some (at w rest target gives below)) →
      Runs g t n ss v w
  runs_straight n ss v w h = record { by = λ rest target gives below. record { steps = n; few = omega arith; comes = h rest target gives below } }

  -- a statement whose step leads to others
  pub runs_by : (n : ℕ) (s : CStmt) (ts : List CStmt) (v w u : View) →
      ((rest : List CStmt) (target : Option Word) (gives : Bool) (below : List Frame) → ahead g t (at v (s ∷ rest) target gives below) ≡ Some (at w (ts ++ rest) target gives below)) →
      Runs g t n ts w u → Runs g t (1 + n) (s ∷ []) v u
  runs_by n s ts v w u h k = record {
    by =
        λ rest target gives below.
        leads_on 1 n _ _ _
        (record { steps = 1; few = omega arith; comes = ap (then_solo (λ (x : Lone). Some x)) (h rest target gives below) })
        (k.by rest target gives below);
  }

  -- ---- loops

  pub while_ends : (test : CExpr) (body : List CStmt) (v : View) → Is g t v test (pos 0) → Runs g t 1 (a.While test body ∷ []) v v
  while_ends test body v h =
      runs_straight 1 (a.While test body ∷ []) v v (λ rest target gives below. simp (a.outs-While, h))

  while_goes : (test : CExpr) (body : List CStmt) (v : View) → Is g t v test (pos 1) → (rest : List CStmt) (target : Option Word) (gives : Bool) (below : List Frame) →
      ahead g t (at v (a.While test body ∷ rest) target gives below) ≡ Some (at v (body ++ a.While test body ∷ rest) target gives below)
  while_goes test body v h rest target gives below = simp (a.outs-While, h)

  pub while_turns : (m n : ℕ) (test : CExpr) (body : List CStmt) (v w u : View) → Is g t v test (pos 1) → Runs g t m body v w → Runs g t n (a.While test body ∷ []) w u →
      Runs g t (1 + (m + n)) (a.While test body ∷ []) v u
  while_turns m n test body v w u h k l =
      runs_by (m + n) (a.While test body) (body ++ a.While test body ∷ []) v v u
      (
      λ rest target gives below.
      while_goes test body v h rest target gives below
      ∙ ap (λ (todo : List CStmt). Some (at v todo target gives below)) (sym (append_assoc body (a.While test body ∷ []) rest))
      )
      (runs_on m n body (a.While test body ∷ []) v w u k l)

  -- ---- assignments and choices

  pub set_runs : (x : Word) (e : CExpr) (v : View) (z : ℤ) → Is g t v e z →
      Runs g t 1 (a.Set x e ∷ []) v (record { row = v.row; shared = v.shared; names = v.names; values = slice_set v.values (place_of x v.names) z; lines = v.lines; wakes = v.wakes })
  set_runs x e v z h = runs_straight 1 (a.Set x e ∷ []) v _ (λ rest target gives below. simp (a.outs-Set, h))

  pub if_runs : (n : ℕ) (test : CExpr) (first : List CStmt) (other : Option (List CStmt)) (v w : View) (z : ℤ) → Is g t v test z →
      Runs g t n (if is_true z then first else or_nothing other) v w → Runs g t (1 + n) (a.If test first other ∷ []) v w
  if_runs n test first other v w z h k =
      runs_by n (a.If test first other) (if is_true z then first else or_nothing other) v v w (λ rest target gives below. simp (a.outs-If, h)) k

  pub switch_runs : (n : ℕ) (on : CExpr) (cases : List CCase) (otherwise : List CStmt) (v w : View) (z : ℤ) → Is g t v on z →
      Runs g t n (case_for z cases otherwise) v w → Runs g t (1 + n) (a.Switch on cases otherwise ∷ []) v w
  switch_runs n on cases otherwise v w z h k =
      runs_by n (a.Switch on cases otherwise) (case_for z cases otherwise) v v w (λ rest target gives below. simp (a.outs-Switch, h)) k

  -- the steps of a loop that goes round m times, n steps each
  abbrev pub loop_cost : ℕ → ℕ → ℕ
  loop_cost n zero = 1
  loop_cost n (suc m) = 1 + (n + loop_cost n m)

-- ---- calls

module _ (g : CProgram) (t : ℕ) where
  goes_in : (v : View) (f : CFunction) (result : Option Word) (what : Word) (es : List CExpr) (zs : List ℤ) → primitive_named what ≡ None → function_among what g.functions ≡ Some f → Are g t v es zs →
      (rest : List CStmt) (target : Option Word) (gives : Bool) (below : List Frame) →
      ahead g t (at v (a.Call result what es ∷ rest) target gives below)
      ≡ Some (at (entered v f zs) f.body.statements result f.gives (caller v rest target gives ∷ below))
  goes_in v f result what es zs named found h rest target gives below = simp (a.outs-Call, named, found, h)

  comes_back : (v w : View) (result : Option Word) (e : CExpr) (z : ℤ) → Is g t w e z → (given : Bool) (rest : List CStmt) (target : Option Word) (gives : Bool) (below : List Frame) →
      ahead g t (at w (a.Return (Some e) ∷ []) result given (caller v rest target gives ∷ below)) ≡ Some (at (back v w result z) rest target gives below)
  comes_back v w None e z h given rest target gives below = simp (a.outs-Return, h)
  comes_back v w (Some x) e z h given rest target gives below = simp (a.outs-Return, h)

  one_step : (x y : Lone) → ahead g t x ≡ Some y → Leads g t 1 x y
  one_step x y e = record { steps = 1; few = omega arith; comes = ap (then_solo (λ (z : Lone). Some z)) e }

  -- a call of a function that ends by a return
  pub call_runs : (n : ℕ) (v w : View) (f : CFunction) (result : Option Word) (what : Word) (es : List CExpr) (zs : List ℤ) (ss : List CStmt) (e : CExpr) (z : ℤ) →
      primitive_named what ≡ None → function_among what g.functions ≡ Some f → Are g t v es zs → f.body.statements ≡ ss ++ a.Return (Some e) ∷ [] →
      Runs g t n ss (entered v f zs) w → Is g t w e z → Runs g t (1 + (n + 1)) (a.Call result what es ∷ []) v (back v w result z)
  call_runs n v w f result what es zs ss e z named found h body k l = record {
    by =
        λ rest target gives below.
        leads_on g t 1 (n + 1) _ _ _ (one_step _ _ (goes_in v f result what es zs named found h rest target gives below))
        (
        leads_on g t n 1 _ _ _
        (
        subst (λ (todo : List CStmt). Leads g t n (at (entered v f zs) todo result f.gives (caller v rest target gives ∷ below)) (at w (a.Return (Some e) ∷ []) result f.gives (caller v rest target gives ∷ below)))
        (sym body)
        (k.by (a.Return (Some e) ∷ []) result f.gives (caller v rest target gives ∷ below))
        )
        (one_step _ _ (comes_back v w result e z l f.gives rest target gives below))
        );
  }

  -- a call of a function that gives nothing
  ends_there : (v w : View) (rest : List CStmt) (target : Option Word) (gives : Bool) (below : List Frame) →
      ahead g t (at w [] None false (caller v rest target gives ∷ below)) ≡ Some (at (back v w None (pos 0)) rest target gives below)
  ends_there v w rest target gives below = refl

  pub call_ends : (n : ℕ) (v w : View) (f : CFunction) (what : Word) (es : List CExpr) (zs : List ℤ) →
      primitive_named what ≡ None → function_among what g.functions ≡ Some f → Are g t v es zs → f.gives ≡ false →
      Runs g t n (f.body.statements) (entered v f zs) w → Runs g t (1 + (n + 1)) (a.Call None what es ∷ []) v (back v w None (pos 0))
  call_ends n v w f what es zs named found h nothing k = record {
    by =
        λ rest target gives below.
        leads_on g t 1 (n + 1) _ _ _ (one_step _ _ (goes_in v f None what es zs named found h rest target gives below))
        (
        leads_on g t n 1 _ (at w [] None f.gives (caller v rest target gives ∷ below)) _
        (
        subst (λ (todo : List CStmt). Leads g t n (at (entered v f zs) todo None f.gives (caller v rest target gives ∷ below)) (at w [] None f.gives (caller v rest target gives ∷ below)))
        (append-nil f.body.statements)
        (k.by [] None f.gives (caller v rest target gives ∷ below))
        )
        (
        subst (λ (given : Bool). Leads g t 1 (at w [] None given (caller v rest target gives ∷ below)) (at (back v w None (pos 0)) rest target gives below)) (sym nothing)
        (one_step _ _ (ends_there v w rest target gives below))
        )
        );
  }

-- ---- what a thread does alone, outside a section and inside one

outside_act : (own : Own) (lines : List Line) (wakes : List ℕ) (act : Act Own Shared Line) (p : Lone) → ahead_act (outside own lines wakes) act ≡ Some p →
    (q : Own) × (goes_act act ≡ Some q) × (p ≡ outside q lines wakes)
outside_act own lines wakes (Goes q) p e = (q, refl, sym (same_Some (outside q lines wakes) p e))
outside_act own lines wakes (Locks q) p e = absurd cc
outside_act own lines wakes (Unlocks q) p e = absurd cc
outside_act own lines wakes (Waits k q) p e = absurd cc
outside_act own lines wakes (Wakes k q) p e = absurd cc
outside_act own lines wakes (Works q m) p e = absurd cc
outside_act own lines wakes (Prints q l) p e = absurd cc
outside_act own lines wakes (Retakes q) p e = absurd cc

outside_turn : (own : Own) (lines : List Line) (wakes : List ℕ) (u : CTurn) (p : Lone) → ahead_turn (outside own lines wakes) u ≡ Some p →
    (q : Own) × (goes_to u ≡ Some q) × (p ≡ outside q lines wakes)
outside_turn own lines wakes Returned p e = absurd cc
outside_turn own lines wakes (Fails f) p e = absurd cc
outside_turn own lines wakes (Does act) p e = outside_act own lines wakes act p e

inside_act : (s : Solo Own Shared Line) (act : Act Own Shared Line) (p : Lone) → ahead_act (inside s) act ≡ Some p →
    (z : Solo Own Shared Line) × (p ≡ inside z) × (solo_act s act ≡ Some z)
inside_act s (Goes q) p e = (record { own = q; shared = s.shared; lines = s.lines; wakes = s.wakes }, sym (same_Some _ p e), refl)
inside_act s (Works q m) p e = (record { own = q; shared = m; lines = s.lines; wakes = s.wakes }, sym (same_Some _ p e), refl)
inside_act s (Prints q l) p e = (record { own = q; shared = s.shared; lines = s.lines ++ l ∷ []; wakes = s.wakes }, sym (same_Some _ p e), refl)
inside_act s (Wakes k q) p e = (record { own = q; shared = s.shared; lines = s.lines; wakes = k ∷ s.wakes }, sym (same_Some _ p e), refl)
inside_act s (Locks q) p e = absurd cc
inside_act s (Unlocks q) p e = absurd cc
inside_act s (Waits k q) p e = absurd cc
inside_act s (Retakes q) p e = absurd cc

inside_turn : (s : Solo Own Shared Line) (u : CTurn) (p : Lone) → ahead_turn (inside s) u ≡ Some p →
    (z : Solo Own Shared Line) × (p ≡ inside z) × (solo_turn s u ≡ Some z)
inside_turn s Returned p e = absurd cc
inside_turn s (Fails f) p e = absurd cc
inside_turn s (Does act) p e = inside_act s act p e

module _ (g : CProgram) (t : ℕ) where
  -- without the shared part they are private steps
  pub alone_of : (n : ℕ) (own : Own) (lines : List Line) (wakes : List ℕ) (y : Lone) → aheads g t n (outside own lines wakes) ≡ Some y →
      alone (c_code g) t n own ≡ Some y.own
  alone_of zero own lines wakes y e = ap (λ (x : Lone). Some x.own) (same_Some (outside own lines wakes) y e)
  alone_of (suc n) own lines wakes y e =
      let m = more_of (aheads g t n) (ahead g t (outside own lines wakes)) y e in
      let r = outside_turn own lines wakes ((c_code g).turn t own None) m.0 m.1 in
      ap (then_by (alone (c_code g) t n)) r.1
      ∙ alone_of n r.0 lines wakes y (subst (λ (z : Lone). aheads g t n z ≡ Some y) r.2 m.2)

  -- with it they are steps inside a section
  pub solos_of : (n : ℕ) (s : Solo Own Shared Line) (y : Lone) → aheads g t n (inside s) ≡ Some y →
      (z : Solo Own Shared Line) × (y ≡ inside z) × (solos (c_code g) t n s ≡ Some z)
  solos_of zero s y e = (s, sym (same_Some (inside s) y e), refl)
  solos_of (suc n) s y e =
      let m = more_of (aheads g t n) (ahead g t (inside s)) y e in
      let r = inside_turn s ((c_code g).turn t s.own (Some s.shared)) m.0 m.1 in
      let k = solos_of n r.0 y (subst (λ (z : Lone). aheads g t n z ≡ Some y) r.1 m.2) in
      (k.0, k.1, ap (then_solo (solos (c_code g) t n)) r.2 ∙ k.2)
