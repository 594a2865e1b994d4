-- A program of these pieces keeps all promises, from what posting, taking over, the private code and one pass of the core do.
use Rattle.std.specs.Prelude.{◌≡◌, ◌<◌, ◌≤◌, ℕ, zero, suc, true, false, nat_le, ◌&&◌, List, [], ◌∷◌, map, length, replicate, take, slice_get, pos, Option, Some}
use Rattle.std.specs.List.{list_all}
use Rattle.std.proofs.Common.{refl, sym, ap, ◌∙◌, subst, arith}
use Rattle.std.proofs.lemmas.Bool.{lt-ltb, and_parts, leb-true}
use Rattle.std.proofs.lemmas.List.{take-replicate, length-replicate}
use Rattle.std.proofs.lemmas.Option.{same_Some}
use Rattle.hc_limits.specs.Limits.{most_variables}
use Rattle.hc_rational.specs.Words.{Rational, zero_ℚ}
use Rattle.hc_term.specs.declared.system.Process.{Process}
use Rattle.hc_term.specs.declared.task.Task.{Task}
use Rattle.hc_term.specs.declared.model.ProcessState.{ProcessState}
use Rattle.hc_term.specs.Offers.{post, going_post}
use Rattle.hc_term.specs.Rules.{is_stmt, is_process}
use Rattle.hc_term.specs.Step.{opening, opening_of, posts}
use Rattle.hc_runs.specs.Fractions.{task_numbers, shows_fractions}
use Rattle.hc_runs.proofs.Parts.{all_processes}
use Rattle.hc_code.specs.Stands.{AllAgree}
use Rattle.hc_cast.specs.declared.stmt.CStmt.{CStmt}
use Rattle.hc_cast.specs.declared.program.CProgram.{CProgram}
use Rattle.hc_cmach.specs.State.{empty_row, opening_shared}
use Rattle.hc_cthreads.specs.Bodies.{Pieces}
use Rattle.hc_cthreads.specs.Promises.{IsNamedFor, Promises}
use Rattle.hc_cthreads.specs.Pieces.{BodyWords, PiecesDo, IsBuilt}
use Rattle.hc_cthreads.specs.Reports.{body_words}
use Rattle.hc_cthreads.proofs.Keeps.{keeps_built}
use Rattle.hc_core_facts.specs.OnePass.{OnePass}
use Rattle.hc_cstep.specs.Locals.{Mine}
use Rattle.hc_csection.specs.Values.{values_of}
use Rattle.hc_cstep.specs.Stands.{Shows, StandsFor}
use Rattle.hc_csection.specs.Words.{Codes, thread_names, processes, channels, variables, variables_by, room, IsHead, section_words}
use Rattle.hc_csection.specs.PrivateLaw.{AreCoded, PrivateLaw, stretch_of}
use Rattle.hc_csection.specs.Program.{Parts, thread_pieces, IsProgram, TakesDo}
use Rattle.hc_csection.proofs.Keeping.{met_kept}
use Rattle.hc_csection.proofs.Opening.{row_is, row_long, register_zero, body_going, ruled_body, shared_is, opening_shared_stands}
use Rattle.hc_csection.proofs.Passing.{get_there}
use Rattle.hc_csection.proofs.Stretching.{stretches}
use Rattle.hc_csection.proofs.Testing.{tests, tests_halted}
use Rattle.hc_csection.proofs.Report.{Posts, Passes, reports, skips}
use Rattle.hc_csection.proofs.DoesPasses.{does_pass}

-- ---- the opening

pub record Opened (bodies : List Process) (p : ℕ) (q : ProcessState) : Type 0 where
  pub body : Process
  pub at : slice_get bodies p ≡ Some body
  pub is : q ≡ opening_of body

opened : (bodies : List Process) (p : ℕ) (q : ProcessState) → slice_get (map opening_of bodies) p ≡ Some q → Opened bodies p q
opened [] p q e = absurd cc
opened (b ∷ bodies) zero q e = record { body = b; at = refl; is = sym (same_Some (opening_of b) q e) }
opened (b ∷ bodies) (suc p) q e = let r = opened bodies p q e in record { body = r.body; at = r.at; is = r.is }

ruled_at : (channels : ℕ) (bodies : List Process) (p : ℕ) (b : Process) → list_all (is_process channels) bodies ≡ true → slice_get bodies p ≡ Some b → is_process channels b ≡ true
ruled_at channels [] p b h e = absurd cc
ruled_at channels (a ∷ bodies) zero b h e =
    subst (λ (x : Process). is_process channels x ≡ true) (same_Some a b e) (and_parts (is_process channels a) (list_all (is_process channels) bodies) h).0
ruled_at channels (a ∷ bodies) (suc p) b h e = ruled_at channels bodies p b (and_parts (is_process channels a) (list_all (is_process channels) bodies) h).1 e

few_of : (channels : ℕ) (b : Process) → is_process channels b ≡ true → length b.variables ≤ 64
few_of channels b ruled =
    let n = length b.variables in
    let both = (and_parts (nat_le n most_variables && nat_le 1 (length b.body)) (list_all (is_stmt channels n) b.body) ruled).0 in
    let most : n ≤ most_variables = leb-true n most_variables (and_parts (nat_le n most_variables) (nat_le 1 (length b.body)) both).0 in
    omega (arith, most)

-- a process has at most 64 variables
pub few_at : (t : Task) (p : ℕ) → p < processes t → variables t p ≤ 64
few_at t p less =
    let x = get_there t.system.processes p less in
    let few = few_of (length t.system.channels) x.0 (ruled_at (length t.system.channels) t.system.processes p x.0 (all_processes t) x.1) in
    subst (λ (o : Option Process). variables_by o ≤ 64) (sym x.1) few

take_zero : (n : ℕ) → n ≤ 64 → take n empty_row ≡ replicate n zero_ℚ
take_zero n few = ap (λ (r : List Rational). take n r) row_is ∙ take-replicate n 20480 zero_ℚ (omega (arith, few))

module _ (k : Codes) (t : Task) (coded : AreCoded k t) where
  -- all locals are 0
  abbrev first_mine : ℕ → Mine
  first_mine p = record {
    row = empty_row;
    place = 0;
    choices = 0;
    arrived = false;
    bounded = false;
    most = 0;
    steps = 0;
    end = 0;
    ok = false;
    truth = false;
    others = pos 0 ∷ pos 0 ∷ replicate (length (k.scratch p)) (pos 0);
  }

  spare_there : (n : ℕ) → length (replicate n (pos 0)) ≡ n
  spare_there n = length-replicate n (pos 0)

  first_stands : (p : ℕ) (b : Process) → slice_get t.system.processes p ≡ Some b → StandsFor (k.table p) (variables t p) (room k p) zero_ℚ (first_mine p) (opening_of b)
  first_stands p b at =
      let ruled = ruled_at (length t.system.channels) t.system.processes p b (all_processes t) at in
      let few : length b.variables ≤ 64 = few_of (length t.system.channels) b ruled in
      let going : post zero_ℚ (opening_of b) ≡ going_post = body_going zero_ℚ b.body (opening_of b).store (ruled_body (length t.system.channels) b ruled) in
      record {
        at_place = (coded p b at).begins;
        wide = row_long;
        spare = ap (λ (n : ℕ). suc (suc n)) (spare_there (length (k.scratch p)));
        same_store =
            ap (λ (o : Option Process). take (variables_by o) empty_row) at ∙ take_zero (length b.variables) few;
        same_clock = register_zero 64;
        same_choices = refl;
        same_mark = refl;
        shows = subst (Shows false empty_row) (sym going) (record { bound = refl; rates = tt; sent = tt });
      }

  first_values : (p : ℕ) → replicate (length (thread_names k p)) (pos 0) ≡ values_of (first_mine p)
  first_values p = refl

  pub first_head : (p : ℕ) (q : ProcessState) → slice_get (opening t).processes p ≡ Some q → IsHead k t p zero_ℚ q empty_row (replicate (length (thread_names k p)) (pos 0))
  first_head p q e =
      let o = opened t.system.processes p q e in
      record {
        mine = first_mine p;
        x = pos 0;
        more = replicate (length (k.scratch p)) (pos 0);
        locals = record { is = first_values p; others = refl };
        stands = subst (StandsFor (k.table p) (variables t p) (room k p) zero_ℚ (first_mine p)) (sym o.is) (first_stands p o.body o.at);
      }

  agrees : (r : ℕ) → r < processes t → AllAgree (k.table r) (k.code r) (k.table r)
  agrees r less = let x = get_there t.system.processes r less in (coded r x.0 x.1).agree

  -- ---- the program

  module _ (g : CProgram) (c : Parts) (program : IsProgram g k t c) (numbers : task_numbers t ≡ true) (one : OnePass shows_fractions (processes t) (channels t)) where
    abbrev words : BodyWords
    words = body_words (section_words k t)

    abbrev pieces : ℕ → Pieces
    pieces p = thread_pieces k t c p

    abbrev P : ℕ
    P = processes t

    abbrev stretch : ℕ → List CStmt
    stretch p = stretch_of t (c.private p)

    passes : (p : ℕ) (low : p < P) → Passes g k t p program.sections low (stretch p) (c.show p) (c.take p)
    passes p low = λ d ps n m row values few s set. does_pass g k t agrees numbers one p program.sections low (stretch p) (c.show p) (c.take p) d ps n m row values few s set

    pub pieces_do : (p : ℕ) (low : p < P) → PrivateLaw g k t p (c.private p) → Posts g k t p program.sections low (stretch p) (c.show p) (c.take p) → TakesDo g k t p (pieces p) →
        PiecesDo g t words p (pieces p)
    pieces_do p low law posts takes = record {
      low = lt-ltb p 64 (let few : P ≤ 64 = program.sections.has.few in omega (arith, low, few));
      stretches = λ clock q row values h. stretches g k t p (c.private p) (c.show p) (c.take p) law clock q row values h;
      reports = λ s m q row values scene shared turn at locked.
          reports g k t p program.sections low (stretch p) (c.show p) (c.take p) posts (passes p low) s m q row values scene shared at locked;
      skips = λ clock h m row values halted locked. skips g k t p program.sections low (stretch p) (c.show p) (c.take p) posts (passes p low) m row values clock h halted locked;
      tests = λ s m row values scene shared met. tests g k t p program.sections low (stretch p) (c.show p) (c.take p) s m row values shared met;
      tests_halted = λ m row values halted h. tests_halted g k t p program.sections low (stretch p) (c.show p) (c.take p) m row values halted h;
      takes = takes.takes;
      takes_end = takes.takes_end;
      takes_halted = takes.takes_halted;
      keeps = λ s m row values h. met_kept k t p s.at s.posts m row values h;
    }

    -- what is left to the crates of private code, posting and taking over
    pub record Rest : Type 0 where
      pub private_law : (p : ℕ) → p < P → PrivateLaw g k t p (c.private p)
      pub posts : (p : ℕ) (low : p < P) → Posts g k t p program.sections low (stretch p) (c.show p) (c.take p)
      pub takes : (p : ℕ) → p < P → TakesDo g k t p (pieces p)

    pub is_built : Rest → IsBuilt g t words pieces
    is_built rest = record {
      number = program.number;
      pieces = λ p low. pieces_do p low (rest.private_law p low) (rest.posts p low) (rest.takes p low);
      names = program.names;
      statements = program.statements;
      shows = opening_shared_stands t program.sections.has.few (opening_shared g) (shared_is g P (channels t) program.sections.has);
      head = first_head;
    }

    pub promises_kept : IsNamedFor t g → Rest → Promises t g
    promises_kept named rest = keeps_built t g words pieces named (is_built rest)
