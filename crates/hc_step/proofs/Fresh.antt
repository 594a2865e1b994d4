-- A local that has done nothing yet stands for the opening of its process.
use Rattle.std.proofs.Common.{◌≡◌, sym, ap, ◌∙◌, subst, ℕ, ◌≤◌, List, [], ◌∷◌, length, take, Some, None}
use Rattle.std.specs.Prelude.{replicate, slice_get}
use Rattle.std.proofs.lemmas.List.{take-replicate}
use Rattle.hc_rational.specs.Words.{Rational, zero_ℚ}
use Rattle.hc_term.specs.declared.system.Process.{Process}
use Rattle.hc_term.specs.Value.{Store}
use Rattle.hc_term.specs.Step.{opening_of}
use Rattle.hc_code.specs.declared.code.Instr.{Instr}
use Rattle.hc_code.specs.Stands.{Table, At, StandsFor}
use Rattle.hc_step.specs.declared.local.Local.{Local}
use Rattle.hc_step.specs.Arriving.{plain_post}
use Rattle.hc_step.specs.Taking.{phase_of, first_phase}
use Rattle.hc_step.specs.Represents.{Represents, IsFresh}
use Rattle.hc_step.proofs.Sees.{instr_at}
use Rattle.hc_step.proofs.Shown.{going_shows}

pub all_zero : (variables : ℕ) (store : Store) → variables ≤ 64 → store ≡ replicate 64 zero_ℚ → take variables store ≡ replicate variables zero_ℚ
all_zero variables store h e = ap (take variables) e ∙ take-replicate variables 64 zero_ℚ h

first_is : (code : List Instr) (i : Instr) → slice_get code 0 ≡ Some i → first_phase code ≡ phase_of i
first_is [] i h = cc
first_is (j ∷ is) i h =
    let same : j ≡ i = cc in
    ap phase_of same

pub opens : (t : Table) (clock : Rational) (p : Process) (code : List Instr) (process : ℕ) (l : Local) → StandsFor code p.body t →
    IsFresh process (length p.variables) code l → Represents t clock l (opening_of p)
opens t clock p code process l stands fresh =
    let here = instr_at t t code 0 p.body stands.agree stands.begins in
    record {
      at_place = subst (λ (n : ℕ). At t n p.body) (sym fresh.at_start) stands.begins;
      same_store = ap (λ (n : ℕ). take n l.store) fresh.same_count ∙ fresh.all_zero;
      same_choices = fresh.no_choices;
      same_mark = fresh.is_going;
      same_post = fresh.shows_so ∙ ap plain_post (first_is code here.0 here.1)
          ∙ going_shows t clock (replicate (length p.variables) zero_ℚ) None here.0 p.body here.2;
    }
