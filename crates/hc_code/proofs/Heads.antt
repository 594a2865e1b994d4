-- The instruction of each form of a statement, before the pieces of its parts.
use Rattle.std.proofs.Common.{rules, ◌≡◌, ◌≤◌, refl, sym, ap, ◌∙◌, ℕ, suc, ◌+◌, Bool, true, ◌&&◌, IsTrue, List, [], ◌∷◌, length, nat_le, sum_by, arith}
use Rattle.std.specs.List.{list_all}
use Rattle.std.proofs.lemmas.List.Folds.{list_all-map}
use Rattle.std.proofs.lemmas.List.Sums.{sum_by-cons}
use Rattle.hc_term.specs.declared.expr.Expr.{Expr}
use Rattle.hc_term.specs.declared.expr.Cond.{Cond}
use Rattle.hc_term.specs.declared.stmt.Io.{Io}
use Rattle.hc_term.specs.declared.stmt.Rate.{Rate}
use Rattle.hc_term.specs.declared.stmt.Stmt.{Stmt, out-Stmt, the_lemmas}
use Rattle.hc_term.specs.declared.stmt.Stmt.TheOpen.{Stmt-F}
use Rattle.hc_term.specs.declared.stmt.Stmt.TheVariants as stmt
use Rattle.hc_term.specs.declared.stmt.Stmt.TheViews as seen
use Rattle.hc_term.specs.declared.stmt.Branch.{Branch, out-Branch}
use Rattle.hc_term.specs.Profile.{is_expr, is_cond, is_io, are_guards, is_evolution, ios_in}
use Rattle.hc_term.specs.Rules.{is_stmt, sent_nodes}
use Rattle.hc_term.proofs.Ruled.{all_keep, branches_keep, is_stmt-If, is_stmt-Pick, is_stmt-Loop, is_stmt-Forever, is_stmt-Choice, is_stmt-Evolve}
use Rattle.hc_code.specs.declared.code.Instr.TheVariants as instr
use Rattle.hc_code.specs.Measure.{measure_of, measure_all, sent_in, weight}
use Rattle.hc_code.specs.Pieces.{all_statements, entries, bodies, ways_at}
use Rattle.hc_code.proofs.Growing.{Heads, both, first_of, second_of}
use Rattle.hc_code.proofs.Measures.{skip_measure, assign_measure, wait_measure, log_measure, io_measure, if_measure, pick_measure, forever_measure, loop_measure, choice_measure, evolve_measure}
use Rattle.hc_code.proofs.Ways.{ways_agree, ios_of-ways}

abbrev pub same : List Stmt → List Stmt
same rest = rest

module _ (a b c : Bool) where
  first_three : IsTrue (a && b && c) → IsTrue a
  first_three h = first_of a b (first_of (a && b) c h)

  second_three : IsTrue (a && b && c) → IsTrue b
  second_three h = second_of a b (first_of (a && b) c h)

  third_three : IsTrue (a && b && c) → IsTrue c
  third_three h = second_of (a && b) c h

-- ---- statements without parts

skip_out : out-Stmt stmt.Skip ≡ Stmt-F.Skip
skip_out = search (rules, the_lemmas)

pub skip_heads : (here next : ℕ) → Heads here next next same [] [] (instr.Skip next) stmt.Skip Stmt-F.Skip
skip_heads here next = record {
  opened = skip_out;
  is_step = refl;
  goes_in = λ rest t h k. k;
  agrees = λ rest t h k each. (next, refl, k);
  is_ruled = λ channels n h. refl;
  are_ruled = λ channels n h. refl;
  weighs = omega (arith, skip_measure);
}

module _ (e : Expr) where
  assign_out : (x : ℕ) → out-Stmt (stmt.Assign x e) ≡ Stmt-F.Assign x e
  assign_out x = search (rules, the_lemmas)

  wait_out : out-Stmt (stmt.Wait e) ≡ Stmt-F.Wait e
  wait_out = search (rules, the_lemmas)

  log_out : out-Stmt (stmt.Log e) ≡ Stmt-F.Log e
  log_out = search (rules, the_lemmas)

  assign_rule : (channels n x : ℕ) → is_stmt channels n (stmt.Assign x e) ≡ (nat_le (x + 1) n && is_expr n e)
  assign_rule channels n x = search (rules, the_lemmas)

  wait_rule : (channels n : ℕ) → is_stmt channels n (stmt.Wait e) ≡ is_expr n e
  wait_rule channels n = search (rules, the_lemmas)

  log_rule : (channels n : ℕ) → is_stmt channels n (stmt.Log e) ≡ is_expr n e
  log_rule channels n = search (rules, the_lemmas)

  pub assign_heads : (here next x : ℕ) → Heads here next next same [] [] (instr.Assign x e next) (stmt.Assign x e) (Stmt-F.Assign x e)
  assign_heads here next x = record {
    opened = assign_out x;
    is_step = refl;
    goes_in = λ rest t h k. k;
    agrees = λ rest t h k each. (next, refl, k);
    is_ruled = λ channels n h. sym (assign_rule channels n x) ∙ h;
    are_ruled = λ channels n h. refl;
    weighs = omega (arith, assign_measure x e);
  }

  pub wait_heads : (here next : ℕ) → Heads here next next same [] [] (instr.Wait e next) (stmt.Wait e) (Stmt-F.Wait e)
  wait_heads here next = record {
    opened = wait_out;
    is_step = refl;
    goes_in = λ rest t h k. k;
    agrees = λ rest t h k each. (next, refl, k);
    is_ruled = λ channels n h. sym (wait_rule channels n) ∙ h;
    are_ruled = λ channels n h. refl;
    weighs = omega (arith, wait_measure e);
  }

  pub log_heads : (here next : ℕ) → Heads here next next same [] [] (instr.Log e next) (stmt.Log e) (Stmt-F.Log e)
  log_heads here next = record {
    opened = log_out;
    is_step = refl;
    goes_in = λ rest t h k. k;
    agrees = λ rest t h k each. (next, refl, k);
    is_ruled = λ channels n h. sym (log_rule channels n) ∙ h;
    are_ruled = λ channels n h. refl;
    weighs = omega (arith, log_measure e);
  }

io_out : (io : Io) → out-Stmt (stmt.Io io) ≡ Stmt-F.Io io
io_out io = search (rules, the_lemmas)

io_rule : (channels n : ℕ) (io : Io) → is_stmt channels n (stmt.Io io) ≡ is_io channels n io
io_rule channels n io = search (rules, the_lemmas)

one_guard : (channels n : ℕ) (io : Io) → IsTrue (is_io channels n io) → IsTrue (are_guards channels n (io ∷ []))
one_guard channels n io h = both (is_io channels n io && true) true (both (is_io channels n io) true h refl) refl

one_sent : (io : Io) → sent_in (io ∷ []) ≡ sent_nodes io
one_sent io = omega (arith, sum_by-cons sent_nodes io [])

pub io_heads : (here next : ℕ) (io : Io) →
    Heads here next next same [] [] (instr.Meet (record { io = io; next = next } ∷ [])) (stmt.Io io) (Stmt-F.Io io)
io_heads here next io = record {
  opened = io_out io;
  is_step = refl;
  goes_in = λ rest t h k. k;
  agrees = λ rest t h k each. (next, refl, k);
  is_ruled = λ channels n h. one_guard channels n io (sym (io_rule channels n io) ∙ h);
  are_ruled = λ channels n h. refl;
  weighs = omega (arith, io_measure io, one_sent io);
}

-- ---- statements with parts

one_part : (channels n : ℕ) (ss : List Stmt) → IsTrue (all_keep channels n ss) → IsTrue (list_all (list_all (is_stmt channels n)) (ss ∷ []))
one_part channels n ss h = both (all_keep channels n ss) true h refl

two_parts : (channels n : ℕ) (ss rs : List Stmt) → IsTrue (all_keep channels n ss) → IsTrue (all_keep channels n rs) →
    IsTrue (list_all (list_all (is_stmt channels n)) (ss ∷ rs ∷ []))
two_parts channels n ss rs h k = both (all_keep channels n ss) (all_keep channels n rs && true) h (one_part channels n rs k)

if_out : (c : Cond) (ss rs : List Stmt) → out-Stmt (seen.If c ss rs) ≡ Stmt-F.If c ss rs
if_out c ss rs = search (rules, the_lemmas)

pub if_heads : (here next first second : ℕ) (c : Cond) (ss rs : List Stmt) →
    Heads here next next same (first ∷ second ∷ []) (ss ∷ rs ∷ []) (instr.Test c first second) (seen.If c ss rs) (Stmt-F.If c ss rs)
if_heads here next first second c ss rs = record {
  opened = if_out c ss rs;
  is_step = refl;
  goes_in = λ rest t h k. k;
  agrees = λ rest t h k each. (first, second, refl, each.0, each.1.0);
  is_ruled = λ channels n h. first_three (is_cond n c) (all_keep channels n ss) (all_keep channels n rs) (sym (is_stmt-If channels n _ c ss rs refl) ∙ h);
  are_ruled = λ channels n h.
      let own = sym (is_stmt-If channels n _ c ss rs refl) ∙ h in
      two_parts channels n ss rs (second_three (is_cond n c) (all_keep channels n ss) (all_keep channels n rs) own)
      (third_three (is_cond n c) (all_keep channels n ss) (all_keep channels n rs) own);
  weighs = if_measure c ss rs;
}

pick_out : (ss rs : List Stmt) → out-Stmt (seen.Pick ss rs) ≡ Stmt-F.Pick ss rs
pick_out ss rs = search (rules, the_lemmas)

pub pick_heads : (here next first second : ℕ) (ss rs : List Stmt) →
    Heads here next next same (first ∷ second ∷ []) (ss ∷ rs ∷ []) (instr.Pick first second) (seen.Pick ss rs) (Stmt-F.Pick ss rs)
pick_heads here next first second ss rs = record {
  opened = pick_out ss rs;
  is_step = refl;
  goes_in = λ rest t h k. k;
  agrees = λ rest t h k each. (first, second, refl, each.0, each.1.0);
  is_ruled = λ channels n h. refl;
  are_ruled = λ channels n h.
      let own = sym (is_stmt-Pick channels n _ ss rs refl) ∙ h in
      two_parts channels n ss rs (first_of (all_keep channels n ss) (all_keep channels n rs) own) (second_of (all_keep channels n ss) (all_keep channels n rs) own);
  weighs = pick_measure ss rs;
}

forever_out : (ss : List Stmt) → out-Stmt (seen.Forever ss) ≡ Stmt-F.Forever ss
forever_out ss = search (rules, the_lemmas)

-- a round goes on at the loop itself
pub forever_heads : (here next first : ℕ) (ss : List Stmt) →
    Heads here next here (λ rest. seen.Forever ss ∷ rest) (first ∷ []) (ss ∷ []) (instr.Again first) (seen.Forever ss) (Stmt-F.Forever ss)
forever_heads here next first ss = record {
  opened = forever_out ss;
  is_step = refl;
  goes_in = λ rest t h k. h;
  agrees = λ rest t h k each. (first, refl, each.0);
  is_ruled = λ channels n h. refl;
  are_ruled = λ channels n h. one_part channels n ss (sym (is_stmt-Forever channels n _ ss refl) ∙ h);
  weighs = forever_measure ss;
}

loop_out : (c : Cond) (ss : List Stmt) → out-Stmt (seen.Loop c ss) ≡ Stmt-F.Loop c ss
loop_out c ss = search (rules, the_lemmas)

pub loop_heads : (here next first : ℕ) (c : Cond) (ss : List Stmt) →
    Heads here next here (λ rest. seen.Loop c ss ∷ rest) (first ∷ []) (ss ∷ []) (instr.Test c first next) (seen.Loop c ss) (Stmt-F.Loop c ss)
loop_heads here next first c ss = record {
  opened = loop_out c ss;
  is_step = refl;
  goes_in = λ rest t h k. h;
  agrees = λ rest t h k each. (first, next, refl, each.0, k);
  is_ruled = λ channels n h. first_of (is_cond n c) (all_keep channels n ss) (sym (is_stmt-Loop channels n _ c ss refl) ∙ h);
  are_ruled = λ channels n h. one_part channels n ss (second_of (is_cond n c) (all_keep channels n ss) (sym (is_stmt-Loop channels n _ c ss refl) ∙ h));
  weighs = loop_measure c ss;
}

branch_parts : (channels n : ℕ) (bs : List Branch) → IsTrue (branches_keep channels n bs) → IsTrue (list_all (list_all (is_stmt channels n)) (bodies bs))
branch_parts channels n bs h = list_all-map (list_all (is_stmt channels n)) (λ (b : Branch). (out-Branch b).body) bs ∙ h

many_ways : (from next : ℕ) (bs : List Branch) → length (ways_at from next bs) ≡ length bs
many_ways from next [] = refl
many_ways from next (b ∷ bs) = ap suc (many_ways (from + all_statements (out-Branch b).body) next bs)

module _ (next from : ℕ) where
  choice_weighs : (bs : List Branch) → weight (instr.Meet (ways_at from next bs)) + sum_by measure_all (bodies bs) ≤ measure_of (seen.Choice bs)
  choice_weighs bs = omega (arith, choice_measure bs, many_ways from next bs, ap sent_in (ios_of-ways from next bs))

  evolve_weighs : (rates : List Rate) (c : Cond) (bs : List Branch) →
      weight (instr.Evolve rates c (ways_at from next bs) next) + sum_by measure_all (bodies bs) ≤ measure_of (seen.Evolve rates c bs)
  evolve_weighs rates c bs = omega (arith, evolve_measure rates c bs, many_ways from next bs, ap sent_in (ios_of-ways from next bs))

choice_out : (bs : List Branch) → out-Stmt (seen.Choice bs) ≡ Stmt-F.Choice bs
choice_out bs = search (rules, the_lemmas)

pub choice_heads : (here next from : ℕ) (bs : List Branch) →
    Heads here next next same (entries from next bs) (bodies bs) (instr.Meet (ways_at from next bs)) (seen.Choice bs) (Stmt-F.Choice bs)
choice_heads here next from bs = record {
  opened = choice_out bs;
  is_step = refl;
  goes_in = λ rest t h k. k;
  agrees = λ rest t h k each. (ways_at from next bs, refl, ways_agree t rest from next bs each);
  is_ruled = λ channels n h.
      let own = sym (is_stmt-Choice channels n _ bs refl) ∙ h in
      ap (are_guards channels n) (ios_of-ways from next bs) ∙
      second_three (nat_le 1 (length bs)) (are_guards channels n (ios_in bs)) (branches_keep channels n bs) own;
  are_ruled = λ channels n h.
      branch_parts channels n bs
      (third_three (nat_le 1 (length bs)) (are_guards channels n (ios_in bs)) (branches_keep channels n bs) (sym (is_stmt-Choice channels n _ bs refl) ∙ h));
  weighs = choice_weighs next from bs;
}

evolve_out : (rates : List Rate) (c : Cond) (bs : List Branch) → out-Stmt (seen.Evolve rates c bs) ≡ Stmt-F.Evolve rates c bs
evolve_out rates c bs = search (rules, the_lemmas)

pub evolve_heads : (here next from : ℕ) (rates : List Rate) (c : Cond) (bs : List Branch) →
    Heads here next next same (entries from next bs) (bodies bs) (instr.Evolve rates c (ways_at from next bs) next) (seen.Evolve rates c bs) (Stmt-F.Evolve rates c bs)
evolve_heads here next from rates c bs = record {
  opened = evolve_out rates c bs;
  is_step = refl;
  goes_in = λ rest t h k. k;
  agrees = λ rest t h k each. (ways_at from next bs, next, refl, ways_agree t rest from next bs each, k);
  is_ruled = λ channels n h.
      let own = sym (is_stmt-Evolve channels n _ rates c bs refl) ∙ h in
      ap (λ ios. is_evolution n rates c ios && are_guards channels n ios) (ios_of-ways from next bs) ∙
      first_of (is_evolution n rates c (ios_in bs) && are_guards channels n (ios_in bs)) (branches_keep channels n bs) own;
  are_ruled = λ channels n h.
      branch_parts channels n bs
      (second_of (is_evolution n rates c (ios_in bs) && are_guards channels n (ios_in bs)) (branches_keep channels n bs)
      (sym (is_stmt-Evolve channels n _ rates c bs refl) ∙ h));
  weighs = evolve_weighs next from rates c bs;
}
