-- A whole code: what a piece from place 0 on stands for, with an `End` behind it.
use Rattle.std.proofs.Common.{◌≡◌, refl, sym, ap, ◌∙◌, subst, ℕ, ◌+◌, IsTrue, List, [], ◌∷◌, ◌++◌, length, arith, append_assoc, length-append, sum_by}
use Rattle.std.specs.Prelude.{slice_get, Some}
use Rattle.std.specs.List.{list_all}
use Rattle.std.proofs.lemmas.List.{append-nil}
use Rattle.std.proofs.lemmas.List.Sums.{sum_by-append, sum_by-cons}
use Rattle.hc_term.specs.declared.stmt.Stmt.{Stmt}
use Rattle.hc_term.specs.declared.system.Process.{Process}
use Rattle.hc_term.specs.Rules.{is_stmt}
use Rattle.hc_code.specs.declared.code.Instr.{Instr}
use Rattle.hc_code.specs.declared.code.Instr.TheVariants.{End}
use Rattle.hc_code.specs.Stands.{Table, At, Stands, HasOneEach, AllAgree, is_step}
use Rattle.hc_code.specs.Kept.{is_instr, KeepsRules}
use Rattle.hc_code.specs.Measure.{measure_all, weight, IsMeasured}
use Rattle.hc_code.specs.Pieces.{all_statements, entry, HasAt, Adds}
use Rattle.hc_code.proofs.Growing.{agree_join, both, all_join}

at_seam : (before : Table) (todo : List Stmt) (more : Table) → slice_get (before ++ todo ∷ more) (length before) ≡ Some todo
at_seam [] todo more = refl
at_seam (l ∷ ls) todo more = at_seam ls todo more

has_at : (t before ls more : Table) → t ≡ before ++ (ls ++ more) → HasAt t (length before) ls
has_at t before [] more e = tt
has_at t before (l ∷ ls) more e =
    let here : At t (length before) l = ap (λ (u : Table). slice_get u (length before)) e ∙ at_seam before l (ls ++ more) in
    let more_before : t ≡ (before ++ l ∷ []) ++ (ls ++ more) = e ∙ sym (append_assoc before (l ∷ []) (ls ++ more)) in
    let behind : length (before ++ l ∷ []) ≡ length before + 1 = length-append before (l ∷ []) in
    (here, subst (λ n. HasAt t n ls) behind (has_at t (before ++ l ∷ []) ls more more_before))

entry-first : (body : List Stmt) (next : ℕ) → next ≡ all_statements body → entry 0 next body ≡ 0
entry-first [] next e = e
entry-first (s ∷ ss) next e = refl

module _ (code whole : List Instr) (body : List Stmt) (next : ℕ) (p : Adds [] code next (entry 0 next body ∷ []) (body ∷ []))
    (counted : length code ≡ next) (total : next ≡ all_statements body) (e : whole ≡ code ++ End ∷ []) where
  abbrev table : Table
  table = p.lists [] ++ [] ∷ []

  ended : At table next []
  ended =
      let same : length (p.lists []) ≡ next = p.even [] ∙ sym (ap length p.is) ∙ counted in
      subst (λ n. At table n []) same (at_seam (p.lists []) [] [])

  pub stands_whole : Stands whole body
  stands_whole =
      let both = p.stands [] table (has_at table [] (p.lists []) ([] ∷ []) refl) ended in (
        table,
        record {
          begins = subst (λ n. At table n body) (entry-first body next total) (subst (λ ss. At table (entry 0 next body) ss) (append-nil body) both.1.0);
          agree =
              subst (λ is. AllAgree table is table) (sym (e ∙ ap (λ is. is ++ End ∷ []) p.is))
              (agree_join table p.piece (End ∷ []) (p.lists []) ([] ∷ []) both.0 (refl, tt));
        },
      )

  pub one_each : (q : Process) → q.body ≡ body → HasOneEach q whole
  one_each q same = record {
    front = code;
    whole = e;
    steps = subst (λ is. IsTrue (list_all is_step is)) (sym p.is) p.steps;
    counted = counted ∙ total ∙ ap all_statements (sym same);
  }

  pub keeps : KeepsRules body whole
  keeps channels n h =
      let front : IsTrue (list_all (is_instr channels n) code) =
      subst (λ is. IsTrue (list_all (is_instr channels n) is)) (sym p.is) (p.ruled channels n (both (list_all (is_stmt channels n) body) _ h refl)) in
      subst (λ is. IsTrue (list_all (is_instr channels n) is)) (sym e) (all_join (is_instr channels n) code (End ∷ []) front refl)

  pub is_measured : (q : Process) → q.body ≡ body → IsMeasured q whole
  is_measured q same =
      omega (
        arith,
        p.light,
        ap (sum_by weight) p.is,
        ap (sum_by weight) e,
        sum_by-append weight code (End ∷ []),
        sum_by-cons weight End [],
        sum_by-cons measure_all body [],
        ap measure_all same,
      )

-- the same of a code that was begun with nothing
module _ (start code whole : List Instr) (body own : List Stmt) (next : ℕ) (empty : start ≡ []) (own_is : body ≡ own)
    (p : Adds start code next (entry (length start) next body ∷ []) (body ∷ [])) (grown : length code ≡ length start + all_statements body)
    (total : next ≡ all_statements body) (e : whole ≡ code ++ End ∷ []) where
  from_nothing : Adds [] code next (entry 0 next body ∷ []) (body ∷ [])
  from_nothing = subst (λ (is : List Instr). Adds is code next (entry (length is) next body ∷ []) (body ∷ [])) empty p

  counted : length code ≡ next
  counted = omega (arith, ap length empty)

  pub stands : Stands whole own
  stands = subst (λ (ss : List Stmt). Stands whole ss) own_is (stands_whole code whole body next from_nothing counted total e)

  pub kept : KeepsRules own whole
  kept = subst (λ (ss : List Stmt). KeepsRules ss whole) own_is (keeps code whole body next from_nothing counted total e)

  pub each : (q : Process) → q.body ≡ own → HasOneEach q whole
  each q same = one_each code whole body next from_nothing counted total e q (same ∙ sym own_is)

  pub measured : (q : Process) → q.body ≡ own → IsMeasured q whole
  measured q same = is_measured code whole body next from_nothing counted total e q (same ∙ sym own_is)
