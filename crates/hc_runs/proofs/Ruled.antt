-- When a statement keeps the rules, by its layer, and that what is inside it then keeps them.
use Rattle.std.proofs.Common.{rules, ◌≡◌, refl, sym, ◌∙◌, ℕ, Bool, true, ◌&&◌, nat_le, List, length}
use Rattle.std.proofs.lemmas.Bool.{and_parts, and_from}
use Rattle.hc_term.specs.declared.expr.Cond.{Cond}
use Rattle.hc_term.specs.declared.stmt.Io.{Io}
use Rattle.hc_term.specs.declared.stmt.Rate.{Rate}
use Rattle.hc_term.specs.declared.stmt.Stmt.{Stmt, out-Stmt, the_lemmas}
use Rattle.hc_term.specs.declared.stmt.Stmt.TheOpen.{Stmt-F}
use Rattle.hc_term.specs.declared.stmt.Stmt.TheViews as seen
use Rattle.hc_term.specs.declared.stmt.Branch.{Branch}
use Rattle.hc_term.specs.declared.model.ProcessState.{ProcessState}
use Rattle.hc_term.specs.Process.{Layer}
use Rattle.hc_term.specs.Profile.{is_io, is_cond, is_evolution, are_guards, ios_in}
use Rattle.hc_term.specs.Rules.{is_stmt}
use Rattle.hc_term.proofs.Ruled.{all_keep, branches_keep, is_stmt-If, is_stmt-Pick, is_stmt-Forever, is_stmt-Loop, is_stmt-Choice, is_stmt-Evolve}
use Rattle.hc_runs.proofs.Inside.{all_inside, PassesInside}

module _ (channels n : ℕ) where
  -- what the rules say of a statement of this layer
  abbrev pub ruled_here : Layer → Bool
  ruled_here (Stmt-F.Io io) = is_io channels n io
  ruled_here (Stmt-F.If test first second) = is_cond n test && all_keep channels n first && all_keep channels n second
  ruled_here (Stmt-F.Pick left right) = all_keep channels n left && all_keep channels n right
  ruled_here (Stmt-F.Forever body) = all_keep channels n body
  ruled_here (Stmt-F.Loop test body) = is_cond n test && all_keep channels n body
  ruled_here (Stmt-F.Choice bs) = nat_le 1 (length bs) && are_guards channels n (ios_in bs) && branches_keep channels n bs
  ruled_here (Stmt-F.Evolve rs c bs) = is_evolution n rs c (ios_in bs) && are_guards channels n (ios_in bs) && branches_keep channels n bs
  ruled_here _ = true

  module _ (s : Stmt) where
    io_seen : (io : Io) → out-Stmt s ≡ Stmt-F.Io io → is_stmt channels n s ≡ is_io channels n io
    io_seen io e = search (rules, the_lemmas)

    if_seen : (c : Cond) (ss rs : List Stmt) → out-Stmt s ≡ Stmt-F.If c ss rs → s ≡ seen.If c ss rs
    if_seen c ss rs e = search (rules, the_lemmas)

    pick_seen : (ss rs : List Stmt) → out-Stmt s ≡ Stmt-F.Pick ss rs → s ≡ seen.Pick ss rs
    pick_seen ss rs e = search (rules, the_lemmas)

    forever_seen : (ss : List Stmt) → out-Stmt s ≡ Stmt-F.Forever ss → s ≡ seen.Forever ss
    forever_seen ss e = search (rules, the_lemmas)

    loop_seen : (c : Cond) (ss : List Stmt) → out-Stmt s ≡ Stmt-F.Loop c ss → s ≡ seen.Loop c ss
    loop_seen c ss e = search (rules, the_lemmas)

    choice_seen : (bs : List Branch) → out-Stmt s ≡ Stmt-F.Choice bs → s ≡ seen.Choice bs
    choice_seen bs e = search (rules, the_lemmas)

    evolve_seen : (rs : List Rate) (c : Cond) (bs : List Branch) → out-Stmt s ≡ Stmt-F.Evolve rs c bs → s ≡ seen.Evolve rs c bs
    evolve_seen rs c bs e = search (rules, the_lemmas)

    layer_ruled : (l : Layer) → out-Stmt s ≡ l → is_stmt channels n s ≡ true → ruled_here l ≡ true
    layer_ruled (Stmt-F.Io io) e h = sym (io_seen io e) ∙ h
    layer_ruled (Stmt-F.If c ss rs) e h = sym (is_stmt-If channels n s c ss rs (if_seen c ss rs e)) ∙ h
    layer_ruled (Stmt-F.Pick ss rs) e h = sym (is_stmt-Pick channels n s ss rs (pick_seen ss rs e)) ∙ h
    layer_ruled (Stmt-F.Forever ss) e h = sym (is_stmt-Forever channels n s ss (forever_seen ss e)) ∙ h
    layer_ruled (Stmt-F.Loop c ss) e h = sym (is_stmt-Loop channels n s c ss (loop_seen c ss e)) ∙ h
    layer_ruled (Stmt-F.Choice bs) e h = sym (is_stmt-Choice channels n s bs (choice_seen bs e)) ∙ h
    layer_ruled (Stmt-F.Evolve rs c bs) e h = sym (is_stmt-Evolve channels n s rs c bs (evolve_seen rs c bs e)) ∙ h
    layer_ruled _ e h = refl

    pub ruled_is : is_stmt channels n s ≡ true → ruled_here (out-Stmt s) ≡ true
    ruled_is h = layer_ruled (out-Stmt s) refl h

  layer_inside : (l : Layer) → ruled_here l ≡ true → all_inside (is_stmt channels n) l ≡ true
  layer_inside (Stmt-F.If c ss rs) h =
      let parts = and_parts (is_cond n c && all_keep channels n ss) (all_keep channels n rs) h in
      and_from (all_keep channels n ss) (all_keep channels n rs) (and_parts (is_cond n c) (all_keep channels n ss) parts.0).1 parts.1
  layer_inside (Stmt-F.Pick ss rs) h = h
  layer_inside (Stmt-F.Forever ss) h = h
  layer_inside (Stmt-F.Loop c ss) h = (and_parts (is_cond n c) (all_keep channels n ss) h).1
  layer_inside (Stmt-F.Choice bs) h = (and_parts (nat_le 1 (length bs) && are_guards channels n (ios_in bs)) (branches_keep channels n bs) h).1
  layer_inside (Stmt-F.Evolve rs c bs) h = (and_parts (is_evolution n rs c (ios_in bs) && are_guards channels n (ios_in bs)) (branches_keep channels n bs) h).1
  layer_inside _ h = refl

  pub ruled_inside : PassesInside (is_stmt channels n)
  ruled_inside s h = layer_inside (out-Stmt s) (ruled_is s h)

  -- a process of n variables whose statements keep the rules
  pub record Ruled (q : ProcessState) : Type 0 where
    pub sized : length q.store ≡ n
    pub ruled : all_keep channels n q.todo ≡ true
