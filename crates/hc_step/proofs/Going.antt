-- A local that went on stands for the configuration that did the same.
use Rattle.std.proofs.Common.{◌≡◌, sym, ap, ◌∙◌, subst, arith, ℕ, ◌+◌, ◌%◌, ◌<◌, List, take, Option, Some, None}
use Rattle.std.specs.Prelude.{slice_get, slice_set}
use Rattle.std.proofs.Math.Seq.{take-set-lt}
use Rattle.hc_rational.specs.Words.{Rational}
use Rattle.hc_term.specs.declared.stmt.Stmt.{Stmt}
use Rattle.hc_term.specs.declared.model.Mark.TheVariants.{Going}
use Rattle.hc_term.specs.declared.model.ProcessState.{ProcessState}
use Rattle.hc_term.specs.Value.{Store}
use Rattle.hc_code.specs.declared.code.Instr.{Instr}
use Rattle.hc_code.specs.Stands.{Table, At, AllAgree}
use Rattle.hc_step.specs.declared.local.Local.{Local}
use Rattle.hc_step.specs.declared.look.Move.TheVariants as move
use Rattle.hc_step.specs.Taking.{phase_of}
use Rattle.hc_step.specs.Arriving.{plain_post}
use Rattle.hc_step.specs.Represents.{Represents, Carries, LeadsTo, Keeps}
use Rattle.hc_step.proofs.Sees.{agrees_at}
use Rattle.hc_step.proofs.Shown.{going_shows}

pub carried : (t : Table) (clock : Rational) (l : Local) (q : ProcessState) → Represents t clock l q → Carries l q
carried t clock l q r = record { same_store = r.same_store; same_choices = r.same_choices }

pub carried_again : (old new : Local) (q : ProcessState) → Carries old q → new.variables ≡ old.variables → new.store ≡ old.store → new.choices ≡ old.choices → Carries new q
carried_again old new q c count store choices = record {
  same_store = ap (λ (n : ℕ). take n new.store) count ∙ ap (take old.variables) store ∙ c.same_store;
  same_choices = choices ∙ c.same_choices;
}

pub keeps_more : (len : ℕ) (a b c : Local) → Keeps len a b → Keeps len b c → Keeps len a c
keeps_more len a b c h k = record {
  same_process = k.same_process ∙ h.same_process;
  same_count = k.same_count ∙ h.same_count;
  within = k.within;
}

pub went : (t : Table) (code : List Instr) (clock : Rational) (i : Instr) (next : ℕ) (q : ProcessState) (rest : List Stmt) (new : Local) → AllAgree t code t →
    At t next rest → slice_get code next ≡ Some i → new.place ≡ next → new.mark ≡ Going → new.post ≡ plain_post (phase_of i) → Carries new q →
    Represents t clock new (record q { todo = rest; mark = Going })
went t code clock i next q rest new all at here place going shows c = record {
  at_place = subst (λ (n : ℕ). At t n rest) (sym place) at;
  same_store = c.same_store;
  same_choices = c.same_choices;
  same_mark = going;
  same_post = shows ∙ going_shows t clock q.store None i rest (agrees_at t t code next rest i all at here);
}

pub carried_set : (old mid : Local) (q : ProcessState) (x : ℕ) (v : Rational) → Carries old q → x < old.variables → mid.variables ≡ old.variables →
    mid.store ≡ slice_set old.store x v → mid.choices ≡ old.choices → Carries mid (record q { store = slice_set q.store x v })
carried_set old mid q x v c h count store choices = record {
  same_store = ap (λ (n : ℕ). take n mid.store) count ∙ ap (take old.variables) store ∙ take-set-lt old.variables old.store x v h
      ∙ ap (λ (s : Store). slice_set s x v) c.same_store;
  same_choices = choices ∙ c.same_choices;
}

one_more : (k n m : ℕ) → m ≡ (k + 1) % 64 → k ≡ n % 64 → m ≡ (n + 1) % 64
one_more k n m h e = omega arith

pub carried_pick : (old mid : Local) (q : ProcessState) → Carries old q → mid.variables ≡ old.variables → mid.store ≡ old.store →
    mid.choices ≡ (old.choices + 1) % 64 → Carries mid (record q { choices = q.choices + 1 })
carried_pick old mid q c count store choices = record {
  same_store = ap (λ (n : ℕ). take n mid.store) count ∙ ap (take old.variables) store ∙ c.same_store;
  same_choices = one_more old.choices q.choices mid.choices choices c.same_choices;
}

-- ---- moves that lead somewhere

module _ (t : Table) (clock : Rational) (q next : ProcessState) (logged : Option Rational) (new : Local) where
  pub led_on : (place : ℕ) → LeadsTo t q (move.Goes place) logged next →
      ((rest : List Stmt) → At t place rest → Represents t clock new (record q { todo = rest; mark = Going })) → Represents t clock new next
  led_on place h f = subst (λ (p : ProcessState). Represents t clock new p) (sym h.3) (f h.0 h.1)

  pub led_logging : (v : Rational) (place : ℕ) → LeadsTo t q (move.Logs v place) logged next →
      ((rest : List Stmt) → At t place rest → Represents t clock new (record q { todo = rest; mark = Going })) → Represents t clock new next
  led_logging v place h f = subst (λ (p : ProcessState). Represents t clock new p) (sym h.3) (f h.0 h.1)

  pub led_setting : (x : ℕ) (v : Rational) (place : ℕ) → LeadsTo t q (move.Sets x v place) logged next →
      ((rest : List Stmt) → At t place rest → Represents t clock new (record q { todo = rest; store = slice_set q.store x v; mark = Going })) →
      Represents t clock new next
  led_setting x v place h f = subst (λ (p : ProcessState). Represents t clock new p) (sym h.3) (f h.0 h.1)

  pub led_picking : (place : ℕ) → LeadsTo t q (move.Picks place) logged next →
      ((rest : List Stmt) → At t place rest → Represents t clock new (record q { todo = rest; choices = q.choices + 1; mark = Going })) →
      Represents t clock new next
  led_picking place h f = subst (λ (p : ProcessState). Represents t clock new p) (sym h.3) (f h.0 h.1)
