-- The call `answer` is well made; and what is replied to a source is decided by its text.
use Rattle.std.proofs.Common.{◌≡◌, ◌≤◌, ℕ, List, IsTrue, sym, ap, ap₂, subst, ◌∙◌}
use Rattle.hc_limits.specs.Limits.{most_steps}
use denote.Struct.Props.{props}
use Rattle.hc_rational.specs.Words.{Rational, is_positive}
use Rattle.hc_ast.specs.declared.tree.Tree.{Tree}
use Rattle.hc_parse.specs.Laws.{OneTree, SourcesAreNotRefused}
use Rattle.hc_parse.specs.Laws as texts
use Rattle.hc_modules.specs.declared.flat.Flat.{Flat}
use Rattle.hc_modules.specs.declared.flat.ModuleStop.{ModuleStop}
use Rattle.hc_modules.specs.Refusals.{IsExpansion}
use Rattle.hc_modules.specs.Laws.{OneExpansion, ExpandedIsNotRefused}
use Rattle.hc_modules.specs.Laws as trees
use Rattle.hc_finds.specs.declared.stop.CheckStop.{CheckStop}
use Rattle.hc_check.specs.Accepted.{IsAccepted}
use Rattle.hc_check.specs.Checked.{IsChecked}
use Rattle.hc_check.specs.Checked as checks
use Rattle.hc_check.specs.Laws.{OneSystem, CheckedIsNotRefused}
use Rattle.hc_check.specs.Laws as systems
use Rattle.hc_term.specs.declared.run.Item.{Item}
use Rattle.hc_term.specs.declared.run.Stop.{Stop}
use Rattle.hc_term.specs.declared.system.System.{System}
use Rattle.hc_term.specs.declared.task.Task.{Task}
use Rattle.hc_term.specs.Canonical.{canonical}
use Rattle.hc_term.specs.Given.{HasParts}
use Rattle.hc_term.specs.Laws.{CanonicalIsBehaviour}
use Rattle.hc_cread.specs.TextLaws as programs
use Rattle.hc_trace.specs.Laws.{OneTrace, TextsAreNotRefused}
use Rattle.hc_trace.specs.Laws as traces
use Rattle.hc_verify.specs.Laws.{TraceHasOneVerdict}
use Rattle.hc_words.specs.declared.settings.Made.{Made}
use Rattle.hc_words.specs.declared.settings.Settings.{Settings}
use Rattle.hc_words.proofs.OneRequest.{one_request}
use Rattle.hc_cmd.specs.declared.refusal.Refusal.TheVariants.{Unexpanded, Unchecked}
use Rattle.hc_cmd.specs.Reply.{Reply}
use Rattle.hc_cmd.specs.Refusals.{refused, refused_at}
use Rattle.hc_cmd.specs.Sources.{OfText, no_source, source, OfTree, unexpanded, unchecked, accepted, OfSource, done}
use Rattle.hc_cmd.specs.Answers.{OfTask, SumsUp, answering, telling}
use Rattle.hc_cmd.specs.Made.{IsMadeTask, line_of}
use Rattle.hc_cmd.specs.Laws.{CountsBehaviour, TellsBehaviour}
use Rattle.hc_cmd.proofs.Calling.{IsWell}
use Rattle.hc_cmd.proofs.Statuses.{is_answer}

pub answer_is_well : IsWell answering
answer_is_well = record { one = one_request; answer = is_answer }

-- ---- tasks with the same parts

one_positive : (q : Rational) (k l : IsTrue (is_positive q)) → k ≡ l
one_positive q = hlevel props

one_range : (n : ℕ) (k l : (1 ≤ n) × (n ≤ most_steps)) → k ≡ l
one_range n = hlevel props

same_task : (t u : Task) → t.system ≡ u.system → t.seed ≡ u.seed → t.horizon ≡ u.horizon → t.limit ≡ u.limit → t ≡ u
same_task t u system seed horizon limit = by t.system t.seed t.horizon t.limit system seed horizon limit t.positive t.in_range
  where
    by : (s : System) (m : ℕ) (q : Rational) (n : ℕ) → s ≡ u.system → m ≡ u.seed → q ≡ u.horizon → n ≡ u.limit →
        (k : IsTrue (is_positive q)) (l : (1 ≤ n) × (n ≤ most_steps)) →
        record { system = s; seed = m; horizon = q; limit = n; positive = k; in_range = l } ≡ u
    by s m q n is_system is_seed is_horizon is_limit =
        let Same : System → ℕ → Rational → ℕ → Type 0 =
        λ s m q n. (k : IsTrue (is_positive q)) (l : (1 ≤ n) × (n ≤ most_steps)) → record { system = s; seed = m; horizon = q; limit = n; positive = k; in_range = l } ≡ u in
        let here : Same u.system u.seed u.horizon u.limit =
        λ k l.
        ap (λ k. record { system = u.system; seed = u.seed; horizon = u.horizon; limit = u.limit; positive = k; in_range = l }) (one_positive u.horizon k u.positive)
        ∙ ap (λ l. record { system = u.system; seed = u.seed; horizon = u.horizon; limit = u.limit; positive = u.positive; in_range = l }) (one_range u.limit l u.in_range) in
        subst (λ s. Same s m q n) (sym is_system) (subst (λ m. Same u.system m q n) (sym is_seed)
        (subst (λ q. Same u.system u.seed q n) (sym is_horizon) (subst (λ n. Same u.system u.seed u.horizon n) (sym is_limit) here)))

pub one_task : (system : System) (seed : ℕ) (horizon : Rational) (limit : ℕ) (t u : Task) → HasParts system seed horizon limit t → HasParts system seed horizon limit u → t ≡ u
one_task system seed horizon limit t u is of =
    same_task t u (is.same_system ∙ sym of.same_system) (is.same_seed ∙ sym of.same_seed) (is.same_horizon ∙ sym of.same_horizon) (is.same_limit ∙ sym of.same_limit)

-- what is told of the task of a system with its settings is one reply
pub one_told : (told : Task → Reply) (settings : Settings) (system : System) (r s : Reply) → OfTask told settings system r → OfTask told settings system s → r ≡ s
one_told told settings system r s a b =
    a.stands ∙ ap told (one_task system settings.seed settings.horizon settings.limit a.task b.task a.parts b.parts) ∙ sym b.stands

-- and so does the system of a made source
pub one_sum : (made : Made) (system : System) (r s : Reply) → SumsUp made system r → SumsUp made system s → r ≡ s
one_sum made system r s a b =
    let line : Task → List ℕ = λ t. line_of made.pairs (canonical t).items (canonical t).stop in
    let same : a.line ≡ b.line = a.tells.says ∙ ap line (one_task system 0 _ _ a.tells.task b.tells.task a.tells.parts b.tells.parts) ∙ sym b.tells.says in
    a.stands ∙ ap done same ∙ sym b.stands

-- ---- texts

-- what the crates below say of all texts, trees, expanded sources, traces and C texts
pub record Decided : Type 0 where
  pub one_tree : OneTree
  pub one_refusal : texts.OneRefusal
  pub source_not_refused : SourcesAreNotRefused
  pub one_expansion : OneExpansion
  pub one_stop : trees.OneRefusal
  pub expanded_not_refused : ExpandedIsNotRefused
  pub one_system : OneSystem
  pub one_check_stop : systems.OneRefusal
  pub checked_not_refused : CheckedIsNotRefused
  pub one_trace : OneTrace
  pub one_line : traces.OneRefusal
  pub trace_not_refused : TextsAreNotRefused
  pub one_verdict : TraceHasOneVerdict
  pub one_program : programs.OneTextProgram
  pub one_c_refusal : programs.OneTextRefusal
  pub program_not_refused : programs.TextsAreNotRefused

module _ (d : Decided) where
  -- where a tree decides its reply, so does a text
  pub text_decides : (G : Tree → Reply → Type 0) → ((tree : Tree) (r s : Reply) → G tree r → G tree s → r ≡ s) → (text : List ℕ) (r s : Reply) →
      OfText G text r → OfText G text s → r ≡ s
  text_decides G one text r s (no_source f p is e) (no_source g q of h) =
      let same = d.one_refusal text f g p q is of in e ∙ ap₂ refused_at same.0 same.1 ∙ sym h
  text_decides G one text r s (no_source f p is e) (source tree of b) = absurd (d.source_not_refused text tree f p of is)
  text_decides G one text r s (source tree is a) (no_source g q of h) = absurd (d.source_not_refused text tree g q is of)
  text_decides G one text r s (source t is a) (source u of b) =
      one u r s (subst (λ (v : Tree). G v r) (d.one_tree text t u is of) a) b

  -- where the processes and the system of a tree decide its reply, so does the tree
  tree_decides : (G : Flat → System → Reply → Type 0) → ((flat : Flat) (system : System) (r s : Reply) → G flat system r → G flat system s → r ≡ s) →
      (tree : Tree) (r s : Reply) → OfTree G tree r → OfTree G tree s → r ≡ s
  tree_decides G one tree r s (unexpanded i is e) (unexpanded j of h) = e ∙ ap (λ (k : ModuleStop). refused (Unexpanded k)) (d.one_stop tree i j is of) ∙ sym h
  tree_decides G one tree r s (unexpanded i is e) (unchecked g j from of h) = absurd (d.expanded_not_refused tree g i from is)
  tree_decides G one tree r s (unexpanded i is e) (accepted g y from of b) = absurd (d.expanded_not_refused tree g i from is)
  tree_decides G one tree r s (unchecked f i from is e) (unexpanded j of h) = absurd (d.expanded_not_refused tree f j from of)
  tree_decides G one tree r s (unchecked f i from is e) (unchecked g j also of h) =
      let same : f ≡ g = d.one_expansion tree f g from also in
      e ∙ ap (λ (k : CheckStop). refused (Unchecked k)) (d.one_check_stop g i j (subst (λ (x : Flat). checks.IsRefused x i) same is) of) ∙ sym h
  tree_decides G one tree r s (unchecked f i from is e) (accepted g y also of b) =
      absurd (d.checked_not_refused g y i of (subst (λ (x : Flat). checks.IsRefused x i) (d.one_expansion tree f g from also) is))
  tree_decides G one tree r s (accepted f x from is a) (unexpanded j of h) = absurd (d.expanded_not_refused tree f j from of)
  tree_decides G one tree r s (accepted f x from is a) (unchecked g j also of h) =
      absurd (d.checked_not_refused f x j is (subst (λ (z : Flat). checks.IsRefused z j) (d.one_expansion tree g f also from) of))
  tree_decides G one tree r s (accepted f x from is a) (accepted g y also of b) =
      let same : f ≡ g = d.one_expansion tree f g from also in
      let equal : x ≡ y = d.one_system g x y (subst (λ (z : Flat). IsChecked z x) same is) of in
      one g y r s (subst (λ (z : System). G g z r) equal (subst (λ (z : Flat). G z x r) same a)) b

  pub source_decides : (G : Flat → System → Reply → Type 0) → ((flat : Flat) (system : System) (r s : Reply) → G flat system r → G flat system s → r ≡ s) →
      (text : List ℕ) (r s : Reply) → OfSource G text r → OfSource G text s → r ≡ s
  source_decides G one text r s a b = text_decides (OfTree G) (tree_decides G one) text r s a b

  -- ---- accepted texts

  -- an accepted tree gives what its processes and its system give
  tree_accepted : (G : Flat → System → Reply → Type 0) (tree : Tree) (flat : Flat) (system : System) (reply : Reply) → IsExpansion tree flat → IsChecked flat system →
      OfTree G tree reply → G flat system reply
  tree_accepted G tree flat system reply from is (unexpanded j of h) = absurd (d.expanded_not_refused tree flat j from of)
  tree_accepted G tree flat system reply from is (unchecked g j also of h) =
      absurd (d.checked_not_refused flat system j is (subst (λ (z : Flat). checks.IsRefused z j) (d.one_expansion tree g flat also from) of))
  tree_accepted G tree flat system reply from is (accepted g y also of b) =
      let same : g ≡ flat = d.one_expansion tree g flat also from in
      let equal : y ≡ system = d.one_system flat y system (subst (λ (z : Flat). IsChecked z y) same of) is in
      subst (λ (z : System). G flat z reply) equal (subst (λ (z : Flat). G z y reply) same b)

  pub text_accepted : (G : Flat → System → Reply → Type 0) (text : List ℕ) (system : System) (reply : Reply) (is : IsAccepted text system) →
      OfSource G text reply → G is.flat system reply
  text_accepted G text system reply is (no_source g q of h) = absurd (d.source_not_refused text is.tree g q is.source of)
  text_accepted G text system reply is (source tree of b) =
      tree_accepted G is.tree is.flat system reply is.expanded is.checked
      (subst (λ (v : Tree). OfTree G v reply) (d.one_tree text tree is.tree of is.source) b)

-- ---- the headline

-- what is told of the canonical run is told of a behaviour
module _ (canonical_is : CanonicalIsBehaviour) (text : System → List Item → Rational → Stop → List ℕ) where
  tells : (task : Task) (reply : Reply) → reply ≡ telling text task → TellsBehaviour text task reply
  tells task reply e = record {
    items = (canonical task).items;
    end = (canonical task).end;
    stop = (canonical task).stop;
    behaviour = canonical_is task;
    out = ap (λ (r : Reply). r.out) e;
    err = ap (λ (r : Reply). r.err) e;
    status = ap (λ (r : Reply). r.status) e;
  }

  pub task_tells : (settings : Settings) (system : System) (reply : Reply) → OfTask (telling text) settings system reply →
      (task : Task) × HasParts system settings.seed settings.horizon settings.limit task × TellsBehaviour text task reply
  task_tells settings system reply s = (s.task, s.parts, tells s.task reply s.stands)

pub made_tells : CanonicalIsBehaviour → (made : Made) (system : System) (reply : Reply) → SumsUp made system reply →
    (task : Task) × IsMadeTask system task × CountsBehaviour made.pairs task reply
made_tells canonical_is made system reply s = (
  s.tells.task,
  s.tells.parts,
  record {
    items = (canonical s.tells.task).items;
    end = (canonical s.tells.task).end;
    stop = (canonical s.tells.task).stop;
    behaviour = canonical_is s.tells.task;
    says = s.stands ∙ ap done s.tells.says;
  },
)
