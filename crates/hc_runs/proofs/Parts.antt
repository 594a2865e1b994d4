-- In what a run reaches, what is left to do of each process is made of its body: so it keeps the rules, and uses no other channels.
use Rattle.std.proofs.Common.{◌≡◌, refl, sym, ap, ◌∙◌, subst, ℕ, zero, suc, Bool, true, ◌&&◌, nat_le, List, [], ◌∷◌, map, length, slice_get, slice_set, Option, Some}
use Rattle.std.specs.List.{list_all}
use Rattle.std.proofs.lemmas.Bool.{and_parts, and_from}
use Rattle.std.proofs.lemmas.List.{length-replicate}
use Rattle.hc_limits.specs.Limits.{most_variables}
use Rattle.hc_rational.specs.Words.{Rational, zero_ℚ}
use Rattle.hc_term.specs.declared.stmt.Stmt.{Stmt, out-Stmt}
use Rattle.hc_term.specs.declared.stmt.Stmt.TheOpen.{Stmt-F}
use Rattle.hc_term.specs.declared.system.Process.{Process}
use Rattle.hc_term.specs.declared.task.Task.{Task}
use Rattle.hc_term.specs.declared.run.Step.{Step}
use Rattle.hc_term.specs.declared.run.Step.TheVariants.{Silent, Comm, Delay}
use Rattle.hc_term.specs.declared.run.Item.{Item}
use Rattle.hc_term.specs.declared.model.ProcessState.{ProcessState}
use Rattle.hc_term.specs.declared.model.Configuration.{Configuration}
use Rattle.hc_term.specs.Process.{Layer}
use Rattle.hc_term.specs.Silent.{Did, silent}
use Rattle.hc_term.specs.Communication.{sent, received, moved}
use Rattle.hc_term.specs.Step.{opening, opening_of, silent_by, changed, StepTo, Leads}
use Rattle.hc_term.specs.Profile.{is_evolution, are_guards, ios_in}
use Rattle.hc_term.specs.Rules.{is_stmt, is_process}
use Rattle.hc_term.proofs.Ruled.{branches_keep}
use Rattle.hc_term.proofs.Bodies.{UsesNoMore, no_more-same, no_more-trans, Keeps, silent-keeps}
use Rattle.hc_term.proofs.Handed.{sent-no_more, received-no_more, moved-no_more}
use Rattle.hc_runs.specs.Laws.{in_profile, heads_in_profile, keeps_profile, is_ruled, RunsKeepRules}
use Rattle.hc_runs.proofs.Inside.{PassesInside, IsLeft, LeadsOn, silent_left, sent_left, received_left, moved_left}
use Rattle.hc_runs.proofs.Ruled.{ruled_here, ruled_is, ruled_inside, Ruled}

-- what is left to do of a process is made of its body, which keeps the rules, over its variables
pub record IsPart (channels : ℕ) (b : Process) (q : ProcessState) : Type 0 where
  pub body : is_process channels b ≡ true
  pub uses : UsesNoMore b.body q.todo
  pub left : IsLeft b.body (length b.variables) q

pub part_ruled : (channels : ℕ) (b : Process) (q : ProcessState) → IsPart channels b q → Ruled channels (length b.variables) q
part_ruled channels b q k =
    let n = length b.variables in
    let body = (and_parts (nat_le n most_variables && nat_le 1 (length b.body)) (list_all (is_stmt channels n) b.body) k.body).1 in
    record { sized = k.left.sized; ruled = k.left.made.passed (is_stmt channels n) (ruled_inside channels n) body }

module _ (channels : ℕ) where
  abbrev pub AreParts : List Process → List ProcessState → Type 0
  AreParts bodies [] = Unit {0}
  AreParts [] (q ∷ qs) = ⊥
  AreParts (b ∷ bodies) (q ∷ qs) = IsPart channels b q × AreParts bodies qs

  opening_part : (b : Process) → is_process channels b ≡ true → IsPart channels b (opening_of b)
  opening_part b h = record {
    body = h;
    uses = no_more-same b.body;
    left = record { sized = length-replicate (length b.variables) zero_ℚ; made = record { passed = λ f inside k. k } };
  }

  opening_parts : (bodies : List Process) → list_all (is_process channels) bodies ≡ true → AreParts bodies (map opening_of bodies)
  opening_parts [] h = tt
  opening_parts (b ∷ bodies) h =
      let parts = and_parts (is_process channels b) (list_all (is_process channels) bodies) h in
      (opening_part b parts.0, opening_parts bodies parts.1)

  -- ---- a change of one process or of all

  abbrev Stays : ProcessState → ProcessState → Type 0
  Stays q x = (b : Process) → IsPart channels b q → IsPart channels b x

  set_parts : (bodies : List Process) (qs : List ProcessState) (p : ℕ) (x : ProcessState) →
      ((q : ProcessState) → slice_get qs p ≡ Some q → Stays q x) → AreParts bodies qs → AreParts bodies (slice_set qs p x)
  set_parts bodies [] p x h k = k
  set_parts [] (q ∷ qs) p x h k = absurd k
  set_parts (b ∷ bodies) (q ∷ qs) zero x h k = (h q refl b k.0, k.1)
  set_parts (b ∷ bodies) (q ∷ qs) (suc p) x h k = (k.0, set_parts bodies qs p x h k.1)

  module _ (f : ProcessState → ProcessState) (h : (q : ProcessState) → Stays q (f q)) where
    changed_parts : (bodies : List Process) (qs : List ProcessState) (p : ℕ) → AreParts bodies qs → AreParts bodies (changed f p qs)
    changed_parts bodies [] p k = k
    changed_parts [] (q ∷ qs) p k = absurd k
    changed_parts (b ∷ bodies) (q ∷ qs) zero k = (h q b k.0, k.1)
    changed_parts (b ∷ bodies) (q ∷ qs) (suc p) k = (k.0, changed_parts bodies qs p k.1)

    map_parts : (bodies : List Process) (qs : List ProcessState) → AreParts bodies qs → AreParts bodies (map f qs)
    map_parts bodies [] k = k
    map_parts [] (q ∷ qs) k = absurd k
    map_parts (b ∷ bodies) (q ∷ qs) k = (h q b k.0, map_parts bodies qs k.1)

  silent_stays : (seed p : ℕ) (clock : Rational) (q : ProcessState) (logged : Option Rational) (x : ProcessState) → silent seed p clock q ≡ Did logged x → Stays q x
  silent_stays seed p clock q logged x e b k = record {
    body = k.body;
    uses = no_more-trans b.body q.todo x.todo k.uses (subst (Keeps q.todo) e (silent-keeps seed p clock q));
    left = subst (LeadsOn b.body (length b.variables)) e (silent_left b.body (length b.variables) seed p clock q k.left);
  }

  sent_stays : (c : ℕ) (q : ProcessState) → Stays q (sent c q)
  sent_stays c q b k = record {
    body = k.body;
    uses = no_more-trans b.body q.todo (sent c q).todo k.uses (sent-no_more c q);
    left = sent_left b.body (length b.variables) c q k.left;
  }

  received_stays : (c : ℕ) (v : Rational) (q : ProcessState) → Stays q (received c v q)
  received_stays c v q b k = record {
    body = k.body;
    uses = no_more-trans b.body q.todo (received c v q).todo k.uses (received-no_more c v q);
    left = received_left b.body (length b.variables) c v q k.left;
  }

  moved_stays : (d : Rational) (q : ProcessState) → Stays q (moved d q)
  moved_stays d q b k = record {
    body = k.body;
    uses = no_more-trans b.body q.todo (moved d q).todo k.uses (moved-no_more d q);
    left = moved_left b.body (length b.variables) d q k.left;
  }

-- ---- runs

module _ (t : Task) where
  abbrev pub Kept : Configuration → Type 0
  Kept c = AreParts (length t.system.channels) t.system.processes c.processes

  step_keeps : (step : Step) (c new : Configuration) → StepTo t c step new → Kept c → Kept new
  step_keeps (Silent p logged) c new s k =
      subst Kept (sym s.2)
      (set_parts (length t.system.channels) t.system.processes c.processes p s.0
      (λ q at. silent_stays (length t.system.channels) t.seed p c.clock q logged s.0 (sym (ap (silent_by t c.clock p) at) ∙ s.1)) k)
  step_keeps (Comm channel value) c new s k =
      let m = s.0 in
      let n = length t.system.channels in
      let r = received m.channel m.value in
      let taken = changed_parts n r (received_stays n m.channel m.value) t.system.processes c.processes m.receiver k in
      subst Kept (sym s.5)
      (changed_parts n (sent m.channel) (sent_stays n m.channel) t.system.processes (changed r m.receiver c.processes) m.sender taken)
  step_keeps (Delay d) c new s k =
      subst Kept (sym s.1) (map_parts (length t.system.channels) (moved d) (moved_stays (length t.system.channels) d) t.system.processes c.processes k)

  pub run_keeps : (items : List Item) (c new : Configuration) → Leads t c items new → Kept c → Kept new
  run_keeps [] c new h k = subst Kept (sym h) k
  run_keeps (i ∷ is) c new h k = run_keeps is h.1.0 new h.1.2 (step_keeps i.step c h.1.0 h.1.1 k)

  pub all_processes : list_all (is_process (length t.system.channels)) t.system.processes ≡ true
  all_processes = (and_parts _ _ (and_parts _ _ t.system.kept).1).0

  pub opening_keeps : Kept (opening t)
  opening_keeps = opening_parts (length t.system.channels) t.system.processes all_processes

  pub reached_keeps : (items : List Item) (c : Configuration) → Leads t (opening t) items c → Kept c
  reached_keeps items c run = run_keeps items (opening t) c run opening_keeps

-- ---- what it says of each process

module _ (channels n : ℕ) where
  layer_in_profile : (l : Layer) → ruled_here channels n l ≡ true → in_profile n l ≡ true
  layer_in_profile (Stmt-F.Evolve rs c bs) h =
      (and_parts (is_evolution n rs c (ios_in bs)) (are_guards channels n (ios_in bs))
      (and_parts (is_evolution n rs c (ios_in bs) && are_guards channels n (ios_in bs)) (branches_keep channels n bs) h).0).0
  layer_in_profile _ h = refl

  heads_keep : (todo : List Stmt) → list_all (is_stmt channels n) todo ≡ true → heads_in_profile n todo ≡ true
  heads_keep [] h = refl
  heads_keep (head ∷ rest) h =
      layer_in_profile (out-Stmt head) (ruled_is channels n head (and_parts (is_stmt channels n head) (list_all (is_stmt channels n) rest) h).0)

  pub ruled_profile : (q : ProcessState) → Ruled channels n q → keeps_profile q ≡ true
  ruled_profile q h = ap (λ (m : ℕ). heads_in_profile m q.todo) h.sized ∙ heads_keep q.todo h.ruled

module _ (channels : ℕ) where
  -- a test that holds of every part holds of all processes
  pub all_pass : (f : ProcessState → Bool) → ((b : Process) (q : ProcessState) → IsPart channels b q → f q ≡ true) → (bodies : List Process) (qs : List ProcessState) →
      AreParts channels bodies qs → list_all f qs ≡ true
  all_pass f h bodies [] k = refl
  all_pass f h [] (q ∷ qs) k = absurd k
  all_pass f h (b ∷ bodies) (q ∷ qs) k = and_from (f q) (list_all f qs) (h b q k.0) (all_pass f h bodies qs k.1)

  part_in_profile : (b : Process) (q : ProcessState) → IsPart channels b q → keeps_profile q ≡ true
  part_in_profile b q k = ruled_profile channels (length b.variables) q (part_ruled channels b q k)

  pub all_in_profile : (bodies : List Process) (qs : List ProcessState) → AreParts channels bodies qs → list_all keeps_profile qs ≡ true
  all_in_profile bodies qs k = all_pass keeps_profile part_in_profile bodies qs k

  part_is_ruled : (b : Process) (q : ProcessState) → IsPart channels b q → is_ruled channels q ≡ true
  part_is_ruled b q k =
      let rules = part_ruled channels b q k in
      ap (λ (m : ℕ). list_all (is_stmt channels m) q.todo) rules.sized ∙ rules.ruled

-- what a test that passes on to what is inside says of all bodies, it says of all that is left to do
pub all_made : (channels : ℕ) (f : Stmt → Bool) → PassesInside f → (bodies : List Process) (qs : List ProcessState) → AreParts channels bodies qs →
    list_all (λ (b : Process). list_all f b.body) bodies ≡ true → list_all (λ (q : ProcessState). list_all f q.todo) qs ≡ true
all_made channels f inside bodies [] k h = refl
all_made channels f inside [] (q ∷ qs) k h = absurd k
all_made channels f inside (b ∷ bodies) (q ∷ qs) k h =
    let parts = and_parts (list_all f b.body) (list_all (λ (b : Process). list_all f b.body) bodies) h in
    and_from (list_all f q.todo) (list_all (λ (q : ProcessState). list_all f q.todo) qs) (k.0.left.made.passed f inside parts.0)
    (all_made channels f inside bodies qs k.1 parts.1)

pub runs_keep_rules : RunsKeepRules
runs_keep_rules t items c run =
    let k = reached_keeps t items c run in
    let n = length t.system.channels in
    let bodies = t.system.processes in
    (all_pass n (is_ruled n) (part_is_ruled n) bodies c.processes k, all_in_profile n bodies c.processes k)
