-- A thread walks through its body: single steps, and pieces that run alone.
use Rattle.std.proofs.Common.{◌≡◌, refl, sym, ap, ◌∙◌, subst, ℕ, true, false, nat_lt, List, [], ◌∷◌, ◌++◌, ℤ, pos, Option, Some, None, append_assoc, arith}
use Rattle.std.proofs.lemmas.Option.{same_Some}
use Rattle.hc_rational.specs.Words.{Rational}
use Rattle.hc_cast.specs.declared.expr.CExpr.{CExpr}
use Rattle.hc_cast.specs.declared.stmt.CStmt.{CStmt}
use Rattle.hc_cast.specs.declared.stmt.CStmt.TheVariants as a
use Rattle.hc_cast.specs.declared.program.CProgram.{CProgram}
use Rattle.hc_schedule.specs.Threads.{Goes, Locks, Unlocks, Waits, Returned, Does, Code}
use Rattle.hc_schedule.specs.Solo.{Solo, alone, solos, then_solo}
use Rattle.hc_cmach.specs.State.{Word, Own, Shared, Fault}
use Rattle.hc_cmach.specs.Line.{Line}
use Rattle.hc_cmach.specs.Turn.{c_code}
use Rattle.hc_cmach.proofs.Worths.{forms}
use Rattle.hc_clogic.specs.Runs.{Lone, View, at, ahead, Leads, Runs, Is, outside, inside}
use Rattle.hc_clogic.proofs.Runs.{while_ends, alone_of, solos_of}
use Rattle.hc_cthreads.specs.Bodies.{Pieces, v_done, v_x, goes_on_test, idle_test, locks, unlocks, waits_on, waiting, round, last, body_of, at_stretch}
use Rattle.hc_cthreads.specs.Views.{standing, gone, local_value, solo_at}

module _ (g : CProgram) (p : ℕ) where
  abbrev pub c : Code Own Shared Line Fault
  c = c_code g

  module _ (names : List Word) (row : List Rational) (values : List ℤ) (rest : List CStmt) where
    pub takes_mutex : (seen : Option Shared) → c.turn p (standing names row values (locks ∷ rest)) seen ≡ Does (Locks (standing names row values rest))
    takes_mutex seen = simp forms

    pub gives_mutex : (seen : Option Shared) → c.turn p (standing names row values (unlocks ∷ rest)) seen ≡ Does (Unlocks (standing names row values rest))
    gives_mutex seen = simp forms

    pub falls_asleep : (seen : Option Shared) → nat_lt p 64 ≡ true →
        c.turn p (standing names row values (waits_on p ∷ rest)) seen ≡ Does (Waits p (standing names row values rest))
    falls_asleep seen low = simp (forms, low)

  pub returns : (names : List Word) (row : List Rational) (values : List ℤ) (seen : Option Shared) → c.turn p (standing names row values last) seen ≡ Does (Goes (gone row))
  returns names row values seen = simp forms

  pub is_gone : (row : List Rational) (seen : Option Shared) → c.turn p (gone row) seen ≡ Returned
  is_gone row seen = refl

  -- ---- tests

  module _ (v : View) where
    pub goes_on_true : local_value v.names v.values v_done ≡ pos 0 → Is g p v goes_on_test (pos 1)
    goes_on_true h rest target gives = simp (forms, h)

    pub goes_on_false : local_value v.names v.values v_done ≡ pos 1 → Is g p v goes_on_test (pos 0)
    goes_on_false h rest target gives = simp (forms, h)

    pub idle_true : local_value v.names v.values v_x ≡ pos 1 → Is g p v idle_test (pos 1)
    idle_true h rest target gives = simp (forms, h)

    pub idle_false : local_value v.names v.values v_x ≡ pos 0 → Is g p v idle_test (pos 0)
    idle_false h rest target gives = simp (forms, h)

  -- ---- runs as steps

  one_ahead : (x y : Lone) → ahead g p x ≡ Some y → Leads g p 1 x y
  one_ahead x y e = record { steps = 1; few = omega arith; comes = ap (then_solo (λ (z : Lone). Some z)) e }

  while_goes : (test : CExpr) (body rest : List CStmt) (v : View) → Is g p v test (pos 1) →
      ahead g p (at v (a.While test body ∷ rest) None false []) ≡ Some (at v (body ++ a.While test body ∷ rest) None false [])
  while_goes test body rest v h = simp (a.outs-While, h)

  pub into_loop : (test : CExpr) (body rest : List CStmt) (v : View) → Is g p v test (pos 1) →
      Leads g p 1 (at v (a.While test body ∷ rest) None false []) (at v (body ++ a.While test body ∷ rest) None false [])
  into_loop test body rest v h = one_ahead _ _ (while_goes test body rest v h)

  pub past_loop : (test : CExpr) (body rest : List CStmt) (v : View) → Is g p v test (pos 0) →
      Leads g p 1 (at v (a.While test body ∷ rest) None false []) (at v rest None false [])
  past_loop test body rest v h = (while_ends g p test body v h).by rest None false []

  pub piece : (n : ℕ) (ss rest : List CStmt) (v w : View) → Runs g p n ss v w → Leads g p n (at v (ss ++ rest) None false []) (at w rest None false [])
  piece n ss rest v w h = h.by rest None false []

  inside_same : (s z : Solo Own Shared Line) → inside s ≡ inside z → s ≡ z
  inside_same s z e =
      let own : s.own ≡ z.own = ap (λ (x : Lone). x.own) e in
      let shared : s.shared ≡ z.shared = same_Some s.shared z.shared (ap (λ (x : Lone). x.shared) e) in
      let lines : s.lines ≡ z.lines = ap (λ (x : Lone). x.lines) e in
      let wakes : s.wakes ≡ z.wakes = ap (λ (x : Lone). x.wakes) e in
      ap (λ (o : Own). solo_at o s.shared s.lines s.wakes) own ∙ ap (λ (m : Shared). solo_at z.own m s.lines s.wakes) shared
      ∙ ap (λ (ls : List Line). solo_at z.own z.shared ls s.wakes) lines ∙ ap (λ (ws : List ℕ). solo_at z.own z.shared z.lines ws) wakes

  -- so many steps of the owner
  pub record Solos (s z : Solo Own Shared Line) : Type 0 where
    pub steps : ℕ
    pub comes : solos c p steps s ≡ Some z

  pub solo_steps : (n : ℕ) (s z : Solo Own Shared Line) → Leads g p n (inside s) (inside z) → Solos s z
  solo_steps n s z h =
      let r = solos_of g p h.steps s (inside z) h.comes in
      record { steps = h.steps; comes = r.2 ∙ ap Some (sym (inside_same z r.0 r.1)) }

  -- so many private steps
  pub own_steps : (n : ℕ) (from to : Own) → Leads g p n (outside from [] []) (outside to [] []) → (j : ℕ) × (alone c p j from ≡ Some to)
  own_steps n from to h = (h.steps, alone_of g p h.steps from [] [] (outside to [] []) h.comes)

  -- ---- the body, in a row

  module _ (b : Pieces) where
    round_in_row : round p b ++ body_of p b ≡ at_stretch p b
    round_in_row =
        append_assoc b.stretch (locks ∷ (b.report ++ (b.idle ++ (waiting p b ∷ (b.take ++ (unlocks ∷ [])))))) (body_of p b)
        ∙ ap (λ (ss : List CStmt). b.stretch ++ (locks ∷ ss))
        (
        append_assoc b.report (b.idle ++ (waiting p b ∷ (b.take ++ (unlocks ∷ [])))) (body_of p b)
        ∙ ap (λ (ss : List CStmt). b.report ++ ss)
        (
        append_assoc b.idle (waiting p b ∷ (b.take ++ (unlocks ∷ []))) (body_of p b)
        ∙ ap (λ (ss : List CStmt). b.idle ++ (waiting p b ∷ ss)) (append_assoc b.take (unlocks ∷ []) (body_of p b))
        )
        )

    -- from the head of the loop to its first piece
    pub into_round : (v : View) → Is g p v goes_on_test (pos 1) → Leads g p 1 (at v (body_of p b) None false []) (at v (at_stretch p b) None false [])
    into_round v h =
        subst (λ (ss : List CStmt). Leads g p 1 (at v (body_of p b) None false []) (at v ss None false [])) round_in_row
        (into_loop goes_on_test (round p b) last v h)
