-- For what the places of compiled code stand, by one table for each process; and each thread's private code takes the silent steps of its process.
use Rattle.std.specs.Prelude.{◌≡◌, ◌<◌, ◌≤◌, ◌+◌, ℕ, zero, suc, true, nat_le, ◌&&◌, List, [], ◌∷◌, length, slice_get, Option, Some, None, IsTrue}
use Rattle.std.specs.List.{list_all}
use Rattle.std.proofs.Common.{refl, ap, ◌∙◌, subst, arith}
use Rattle.std.proofs.lemmas.Bool.{and_parts, leb-true}
use Rattle.std.proofs.lemmas.Option.{same_Some}
use Rattle.hc_limits.specs.Limits.{most_nodes, most_variables}
use Rattle.hc_term.specs.declared.system.Process.{Process}
use Rattle.hc_term.specs.declared.task.Task.{Task}
use Rattle.hc_term.specs.Rules.{is_stmt, is_process}
use Rattle.hc_runs.proofs.Parts.{all_processes}
use Rattle.hc_code.specs.Stands.{Table, AllAgree, Stands}
use Rattle.hc_code.specs.Stands as code_words
use Rattle.hc_cast.specs.declared.program.CProgram.{CProgram}
use Rattle.hc_cstep.specs.Premises.{case_steps}
use Rattle.hc_cvalue.specs.Laws.{steps_for}
use Rattle.hc_cend.specs.Law.{enough_for}
use Rattle.hc_cend.specs.Searching.{search_scratch, search_names}
use Rattle.hc_cprivate.specs.Whole.{most_blocks}
use Rattle.hc_cprivate.proofs.Private.{limit_is_enough, private_code_stands}
use Rattle.hc_csection.specs.Words as section
use Rattle.hc_csection.specs.Words.{processes, variables, variables_by, room}
use Rattle.hc_csection.specs.PrivateLaw.{AreCoded, PrivateLaw}
use Rattle.hc_csection.proofs.Passing.{get_there}
use Rattle.hc_cpost.proofs.Whole.{AreRuled}
use Rattle.hc_cgen.specs.Program.{Codes, AreCompiled, private_of}
use Rattle.hc_cgen.proofs.Private.{outside, law_there}

ruled_at : (n : ℕ) (bodies : List Process) (p : ℕ) (x : Process) → list_all (is_process n) bodies ≡ true → slice_get bodies p ≡ Some x → is_process n x ≡ true
ruled_at n [] p x h e = absurd cc
ruled_at n (b ∷ bodies) zero x h e = subst (λ (y : Process). is_process n y ≡ true) (same_Some b x e) (and_parts (is_process n b) (list_all (is_process n) bodies) h).0
ruled_at n (b ∷ bodies) (suc p) x h e = ruled_at n bodies p x (and_parts (is_process n b) (list_all (is_process n) bodies) h).1 e

module _ (t : Task) (code : Codes) (compiled : AreCompiled t code) where
  -- ---- the table of each process

  pub table_by : (p : ℕ) (o : Option Process) → slice_get t.system.processes p ≡ o → Table
  table_by p None e = []
  table_by p (Some x) e = (compiled.stands p x e).0

  stands_by : (p : ℕ) (x : Process) (o : Option Process) (e : slice_get t.system.processes p ≡ o) → o ≡ Some x → code_words.StandsFor (code p) x.body (table_by p o e)
  unfolding table_by
  stands_by p x None e same = absurd cc
  stands_by p x (Some y) e same =
      subst (λ (z : Process). code_words.StandsFor (code p) z.body (table_by p (Some y) e)) (same_Some y x same) (compiled.stands p y e).1

  abbrev pub table : ℕ → Table
  table p = table_by p (slice_get t.system.processes p) refl

  -- in the words of sections
  abbrev pub coded : section.Codes
  coded = record { table = table; code = code; scratch = λ p. search_scratch [] }

  pub are_coded : AreCoded coded t
  are_coded p x at = stands_by p x (slice_get t.system.processes p) refl at

  pub are_ruled : AreRuled coded t
  are_ruled p x at = compiled.keeps p x at

  -- ---- private code

  module _ (g : CProgram) (p : ℕ) (low : p < processes t) (few : processes t ≤ 64) where
    pub does_private : PrivateLaw g coded t p (private_of t p (code p))
    does_private =
        let x = get_there t.system.processes p low in
        let n = length t.system.channels in
        let vars = variables t p in
        let same : variables t p ≡ length x.0.variables = ap variables_by x.1 in
        let ruled = ruled_at n t.system.processes p x.0 (all_processes t) x.1 in
        let parted = and_parts (nat_le (length x.0.variables) most_variables && nat_le 1 (length x.0.body)) (list_all (is_stmt n (length x.0.variables)) x.0.body) ruled in
        let most : length x.0.variables ≤ most_variables =
        leb-true (length x.0.variables) most_variables (and_parts (nat_le (length x.0.variables) most_variables) (nat_le 1 (length x.0.body)) parted.0).0 in
        let small : vars ≤ 64 = omega (arith, same, most) in
        let statements : IsTrue (list_all (is_stmt n vars) x.0.body) = ap (λ (k : ℕ). list_all (is_stmt n k) x.0.body) same ∙ parted.1 in
        let lower : p < 64 = omega (arith, low, few) in
        let kept = compiled.keeps p x.0 x.1 in
        law_there g coded t p (case_steps most_blocks (steps_for most_nodes) (enough_for most_nodes) + 3) (private_of t p (code p))
        (λ clock.
        private_code_stands g p lower (outside (search_names [])) [] refl (table p) n vars small (room coded p) (omega arith) clock t.seed most_nodes x.0.body (code p)
        (are_coded p x.0 x.1).agree kept statements (limit_is_enough p n vars small x.0.body (code p) kept statements))
