-- What the answers of the crates below say of a text: its tree or its system, or what is answered where it has none.
use Rattle.std.proofs.Common.{◌≡◌, ◌≤◌, ℕ, true, false, List, [], length, Option, Some, None, Result, Ok, Err, MatchResult, IfOk, IfErr, ◌⊎◌, inl, inr, refl, sym, ap, subst, ◌∙◌}
use Rattle.std.proofs.lemmas.List.{append-nil}
use Rattle.hc_world.specs.declared.sources.ReadStop.{ReadStop}
use Rattle.hc_world.specs.declared.sources.ReadStop.TheVariants as stops
use Rattle.hc_world.specs.Reading.{ReadsAll}
use Rattle.hc_world.specs.Sinks.{AddsFlushed, IsWhole}
use Rattle.hc_world.specs.States.{SourceState, SinkState}
use Rattle.hc_world.specs.Written.{Written}
use Rattle.hc_cmd.specs.Calls.{Call, AsksNothing, usage, no_memory, unread, replied, without_source, answered, too_long}
use Rattle.hc_ast.specs.declared.flaw.Flaw.TheVariants as wrong
use Rattle.hc_ast.specs.declared.tree.Tree.{Tree}
use Rattle.hc_ast.specs.Source.{IsSource}
use Rattle.hc_parse.specs.declared.parsing.ParseStop.{ParseStop}
use Rattle.hc_parse.specs.declared.parsing.ParseStop.TheVariants as stop
use Rattle.hc_parse.specs.Stops.{IsStop}
use Rattle.hc_modules.specs.declared.flat.Flat.{Flat}
use Rattle.hc_modules.specs.declared.flat.ModuleStop.{ModuleStop}
use Rattle.hc_modules.specs.declared.flat.ModuleStop.TheVariants as expanding
use Rattle.hc_modules.specs.Refusals.{IsExpansion}
use Rattle.hc_modules.specs.Refusals as modules
use Rattle.hc_finds.specs.declared.stop.CheckStop.{CheckStop}
use Rattle.hc_finds.specs.declared.stop.CheckStop.TheVariants as check
use Rattle.hc_check.specs.Checked as checks
use Rattle.hc_term.specs.declared.system.System.{System}
use Rattle.hc_cmd.specs.declared.refusal.Refusal.{Refusal}
use Rattle.hc_cmd.specs.declared.refusal.Refusal.TheVariants.{Usage, Unread, Memory, TooLong, NoTrace, Unparsed, Unexpanded, Unchecked, Untraced, Unconverted, NoProgram}
use Rattle.std.specs.Result.{IsErrAnd}
use Rattle.hc_cmd.specs.declared.prepared.Prepared.{Prepared}
use Rattle.hc_cmd.specs.Reply.{Reply}
use Rattle.hc_cmd.specs.Refusals.{refused}
use Rattle.hc_cmd.specs.Sources.{OfText, no_source, source, OfTree, unexpanded, unchecked, accepted, OfSource, done}
use Rattle.hc_cmd.specs.Prepared.{Accepts, FindsTree, reply_to, IsReady, Prepares, Readies, GivesNone}

-- want of memory, or one of these replies
abbrev pub MemoryOr : (Reply → Type 0) → Refusal → Type 0
MemoryOr Gives f = (refused f ≡ refused Memory) ⊎ Gives (refused f)

-- where the replies are among others, so is one of them
pub memory_or : (G H : Reply → Type 0) → ((reply : Reply) → G reply → H reply) → (f : Refusal) → MemoryOr G f → MemoryOr H f
memory_or G H among f (inl e) = inl e
memory_or G H among f (inr g) = inr (among (refused f) g)

-- ---- a text without a tree, and a tree that isn't accepted

-- what is answered to a text without a tree is the same whatever its tree would give
pub no_tree : (G : Tree → Reply → Type 0) (text : List ℕ) (reply : Reply) → OfText (λ _ _. ⊥) text reply → OfText G text reply
no_tree G text reply (no_source flaw place is e) = no_source flaw place is e
no_tree G text reply (source tree is never) = absurd never

-- what is answered to a tree that isn't accepted is the same whatever its system would give
pub not_accepted_tree : (G : Flat → System → Reply → Type 0) (tree : Tree) (reply : Reply) → OfTree (λ _ _ _. ⊥) tree reply → OfTree G tree reply
not_accepted_tree G tree reply (unexpanded s is e) = unexpanded s is e
not_accepted_tree G tree reply (unchecked flat s from is e) = unchecked flat s from is e
not_accepted_tree G tree reply (accepted flat system from is never) = absurd never

-- and so is what is answered to a text that isn't accepted
pub not_accepted : (G : Flat → System → Reply → Type 0) (text : List ℕ) (reply : Reply) → OfSource (λ _ _ _. ⊥) text reply → OfSource G text reply
not_accepted G text reply (no_source flaw place is e) = no_source flaw place is e
not_accepted G text reply (source tree is given) = source tree is (not_accepted_tree G tree reply given)

-- what the stop of parsing gives
pub unparsed_gives : (text : List ℕ) (s : ParseStop) → IsStop text s → MemoryOr (OfText (λ _ _. ⊥) text) (Unparsed s)
unparsed_gives text (stop.NameTooLong p) is = inr (no_source wrong.NameTooLong p is refl)
unparsed_gives text (stop.NumberUnfit p) is = inr (no_source wrong.NumberUnfit p is refl)
unparsed_gives text (stop.Syntax p) is = inr (no_source wrong.Syntax p is refl)
unparsed_gives text (stop.TooDeep p) is = inr (no_source wrong.TooDeep p is refl)
unparsed_gives text (stop.TooManyNodes p) is = inr (no_source wrong.TooManyNodes p is refl)
unparsed_gives text stop.Memory is = inl refl

-- what the stop of expansion gives
expansion_gives : (tree : Tree) (s : ModuleStop) → modules.IsStop tree s → MemoryOr (OfTree (λ _ _ _. ⊥) tree) (Unexpanded s)
expansion_gives tree (expanding.RepeatedModule p) is = inr (unexpanded (expanding.RepeatedModule p) is refl)
expansion_gives tree (expanding.RepeatedParameter p) is = inr (unexpanded (expanding.RepeatedParameter p) is refl)
expansion_gives tree (expanding.ParameterWritten p) is = inr (unexpanded (expanding.ParameterWritten p) is refl)
expansion_gives tree (expanding.TooManyProcesses p) is = inr (unexpanded (expanding.TooManyProcesses p) is refl)
expansion_gives tree (expanding.RepeatedProcess p) is = inr (unexpanded (expanding.RepeatedProcess p) is refl)
expansion_gives tree (expanding.UnknownModule p) is = inr (unexpanded (expanding.UnknownModule p) is refl)
expansion_gives tree (expanding.WrongArgumentCount p) is = inr (unexpanded (expanding.WrongArgumentCount p) is refl)
expansion_gives tree (expanding.WrongArgumentKind p) is = inr (unexpanded (expanding.WrongArgumentKind p) is refl)
expansion_gives tree (expanding.TooManyStatements p) is = inr (unexpanded (expanding.TooManyStatements p) is refl)
expansion_gives tree (expanding.TooManyNodes p) is = inr (unexpanded (expanding.TooManyNodes p) is refl)
expansion_gives tree expanding.Memory is = inl refl

-- what the stop of the checks gives
checks_give : (tree : Tree) (flat : Flat) → IsExpansion tree flat → (s : CheckStop) → checks.IsStop flat s → MemoryOr (OfTree (λ _ _ _. ⊥) tree) (Unchecked s)
checks_give tree flat from (check.TooMany what p) is = inr (unchecked flat (check.TooMany what p) from is refl)
checks_give tree flat from (check.DivisorNotLiteral p) is = inr (unchecked flat (check.DivisorNotLiteral p) from is refl)
checks_give tree flat from (check.ZeroDivisor p) is = inr (unchecked flat (check.ZeroDivisor p) from is refl)
checks_give tree flat from (check.RepeatedRate p) is = inr (unchecked flat (check.RepeatedRate p) from is refl)
checks_give tree flat from (check.RateEvolves p) is = inr (unchecked flat (check.RateEvolves p) from is refl)
checks_give tree flat from (check.NotAffine p) is = inr (unchecked flat (check.NotAffine p) from is refl)
checks_give tree flat from (check.RepeatedGuard p) is = inr (unchecked flat (check.RepeatedGuard p) from is refl)
checks_give tree flat from (check.SelfChannel p) is = inr (unchecked flat (check.SelfChannel p) from is refl)
checks_give tree flat from (check.TwoSenders p) is = inr (unchecked flat (check.TwoSenders p) from is refl)
checks_give tree flat from (check.TwoReceivers p) is = inr (unchecked flat (check.TwoReceivers p) from is refl)
checks_give tree flat from check.Memory is = inl refl

-- of a text with this tree
pub unexpanded_gives : (text : List ℕ) (tree : Tree) → IsSource text tree → (s : ModuleStop) → modules.IsStop tree s → MemoryOr (OfSource (λ _ _ _. ⊥) text) (Unexpanded s)
unexpanded_gives text tree is s stops =
    memory_or (OfTree (λ _ _ _. ⊥) tree) (OfSource (λ _ _ _. ⊥) text) (λ reply. source tree is) (Unexpanded s) (expansion_gives tree s stops)

pub unchecked_gives : (text : List ℕ) (tree : Tree) (flat : Flat) → IsSource text tree → IsExpansion tree flat → (s : CheckStop) → checks.IsStop flat s →
    MemoryOr (OfSource (λ _ _ _. ⊥) text) (Unchecked s)
unchecked_gives text tree flat is from s stops =
    memory_or (OfTree (λ _ _ _. ⊥) tree) (OfSource (λ _ _ _. ⊥) text) (λ reply. source tree is) (Unchecked s) (checks_give tree flat from s stops)

-- ---- a text that is accepted

pub accepts : (G : Flat → System → Reply → Type 0) (text : List ℕ) (flat : Flat) (system : System) → Accepts text flat system →
    (reply : Reply) → G flat system reply → OfSource G text reply
accepts G text flat system is reply given = source is.tree is.source (accepted flat system is.expanded is.checked given)

-- ---- answers, with their errors put into refusals

pub tree_found : (text : List ℕ) (found : Result Tree ParseStop) (result : Result Tree Refusal) → IfOk found (IsSource text) → IfErr found (IsStop text) →
    MatchResult found (λ t. result ≡ Ok t) (λ s. IsErrAnd result (λ r. r ≡ Unparsed s)) → FindsTree text result
tree_found text (Ok t) result is stops e = subst (FindsTree text) (sym e) is
tree_found text (Err s) (Ok t) is stops e = absurd e
tree_found text (Err s) (Err r) is stops e = subst (λ (f : Refusal). MemoryOr (OfText (λ _ _. ⊥) text) f) (sym e) (unparsed_gives text s stops)

-- what holds of an answer holds of it where its error was put into another
pub ok_found : {A E F : Type 0} (P : A → Type 0) (Q : E → F → Type 0) (found : Result A E) (result : Result A F) (x : A) → IfOk found P →
    MatchResult found (λ y. result ≡ Ok y) (λ e. IsErrAnd result (Q e)) → result ≡ Ok x → P x
ok_found P Q (Ok y) result x is e f = subst P (cc (sym e ∙ f)) is
ok_found P Q (Err s) (Ok y) x is e f = absurd e
ok_found P Q (Err s) (Err q) x is e f = absurd (cc f)

-- a text without a tree isn't accepted
pub no_tree_found : (text : List ℕ) (r : Refusal) → MemoryOr (OfText (λ _ _. ⊥) text) r → MemoryOr (OfSource (λ _ _ _. ⊥) text) r
no_tree_found text r is = memory_or (OfText (λ _ _. ⊥) text) (OfSource (λ _ _ _. ⊥) text) (no_tree (OfTree (λ _ _ _. ⊥)) text) r is

-- an expansion that fails with this refusal
pub flat_failed : (text : List ℕ) (tree : Tree) (found : Result Flat ModuleStop) (result : Result Flat Refusal) (r : Refusal) → IsSource text tree → IfErr found (modules.IsStop tree) →
    MatchResult found (λ t. result ≡ Ok t) (λ s. IsErrAnd result (λ r. r ≡ Unexpanded s)) → result ≡ Err r → MemoryOr (OfSource (λ _ _ _. ⊥) text) r
flat_failed text tree (Ok t) result r is stops e f = absurd (cc (sym e ∙ f))
flat_failed text tree (Err s) (Ok t) r is stops e f = absurd e
flat_failed text tree (Err s) (Err q) r is stops e f =
    subst (λ (x : Refusal). MemoryOr (OfSource (λ _ _ _. ⊥) text) x) (sym e ∙ same_error q r f) (unexpanded_gives text tree is s stops)
  where
    same_error : (a b : Refusal) → (let x : Result Flat Refusal = Err a in x) ≡ Err b → a ≡ b
    same_error a b e = cc e

-- checks that fail with this refusal
pub check_failed : (text : List ℕ) (tree : Tree) (flat : Flat) (found : Result System CheckStop) (result : Result System Refusal) (r : Refusal) → IsSource text tree → IsExpansion tree flat →
    IfErr found (checks.IsStop flat) → MatchResult found (λ t. result ≡ Ok t) (λ s. IsErrAnd result (λ r. r ≡ Unchecked s)) → result ≡ Err r →
    MemoryOr (OfSource (λ _ _ _. ⊥) text) r
check_failed text tree flat (Ok t) result r is from stops e f = absurd (cc (sym e ∙ f))
check_failed text tree flat (Err s) (Ok t) r is from stops e f = absurd e
check_failed text tree flat (Err s) (Err q) r is from stops e f =
    subst (λ (x : Refusal). MemoryOr (OfSource (λ _ _ _. ⊥) text) x) (sym e ∙ same_error q r f) (unchecked_gives text tree flat is from s stops)
  where
    same_error : (a b : Refusal) → (let x : Result System Refusal = Err a in x) ≡ Err b → a ≡ b
    same_error a b e = cc e

-- ---- what is prepared

-- a refusal that ends the preparing
pub refusal_prepares : (Gives : Reply → Type 0) (result : Result Prepared Refusal) (r : Refusal) → result ≡ Err r → MemoryOr Gives r → Prepares Gives result
refusal_prepares Gives result r e is = subst (Prepares Gives) (sym e) is

-- what is ready for this reply, or want of memory
pub prepared_so : (G : Reply → Type 0) (told : Reply) (result : Result Prepared Refusal) → G told →
    MatchResult result (λ p. IsReady p × (reply_to p ≡ told)) (λ r. r ≡ Memory) → Prepares G result
prepared_so G told (Ok p) given is = (is.0, subst G (sym is.1) given)
prepared_so G told (Err r) given is = inl (ap refused is)

-- texts that are equal are the same on output
pub done_so : (a b : List ℕ) → a ≡ b → done a ≡ done b
done_so a b e = ap done e

-- ---- reading

-- a text that is too long, or for which there is no memory, isn't one of which a read failed
pub long_apart : {A : Type 0} (s : ReadStop) → s ≡ stops.TooLong → (let x : Result A ReadStop = Err s in x) ≡ Err stops.Failed → ⊥
long_apart {A} s is e = let clash : (let x : Result A ReadStop = Err stops.TooLong in x) ≡ Err stops.Failed = sym (ap Err is) ∙ e in cc clash

pub memory_apart : {A : Type 0} (s : ReadStop) → s ≡ stops.Memory → (let x : Result A ReadStop = Err s in x) ≡ Err stops.Failed → ⊥
memory_apart {A} s is e = let clash : (let x : Result A ReadStop = Err stops.Memory in x) ≡ Err stops.Failed = sym (ap Err is) ∙ e in cc clash

-- ---- what the words and the source give

module _ {R S : Type 0} (call : Call R) (state : S → SourceState) (words : List (List ℕ)) (before after : S) where
  -- words that ask for nothing
  pub usage_readies : AsksNothing call words → after ≡ before → Readies call state words before after (Err Usage)
  usage_readies none same = (tt, usage none same refl)

  -- what the text gives, the source gives
  pub text_readies : (request : R) (text : List ℕ) → call.asks words request → call.reads request ≡ true → ReadsAll (state before).left (state after).left text →
      length text ≤ call.most_of request → (state after).faults ≡ (state before).faults → (r : Result Prepared Refusal) → Prepares (call.answers request text) r →
      Readies call state words before after r
  text_readies request text asked reads all fits kept (Ok p) h = (h.0, replied request asked kept (answered reads text all fits h.1))
  text_readies request text asked reads all fits kept (Err f) (inl e) = (tt, no_memory kept e)
  text_readies request text asked reads all fits kept (Err f) (inr a) = (tt, replied request asked kept (answered reads text all fits a))

  -- what comes where the source fails, or is too long
  pub unread_readies : (request : R) → call.asks words request → call.reads request ≡ true → (f : Refusal) →
      GivesNone state (call.most_of request) before after f → Readies call state words before after (Err f)
  unread_readies request asked reads Unread h = (tt, unread request asked reads h.0 h.1 refl)
  unread_readies request asked reads (TooLong n) h =
      (tt, replied request asked h.1 (too_long reads h.0 (ap (λ (m : ℕ). refused (TooLong m)) h.2)))
  unread_readies request asked reads Memory h = (tt, no_memory h refl)
  unread_readies request asked reads Usage h = absurd h
  unread_readies request asked reads (Unparsed s) h = absurd h
  unread_readies request asked reads (Unexpanded s) h = absurd h
  unread_readies request asked reads (Unchecked s) h = absurd h
  unread_readies request asked reads NoTrace h = absurd h
  unread_readies request asked reads (Untraced s) h = absurd h
  unread_readies request asked reads (Unconverted s) h = absurd h
  unread_readies request asked reads (NoProgram s) h = absurd h

  -- what is given where no source is read
  pub alone_readies : (request : R) → call.asks words request → call.reads request ≡ false → after ≡ before → (r : Result Prepared Refusal) →
      Prepares (call.answers request []) r → Readies call state words before after r
  alone_readies request asked none same (Ok p) h = (h.0, replied request asked (ap (λ (s : S). (state s).faults) same) (without_source none same h.1))
  alone_readies request asked none same (Err f) (inl e) = (tt, no_memory (ap (λ (s : S). (state s).faults) same) e)
  alone_readies request asked none same (Err f) (inr a) = (tt, replied request asked (ap (λ (s : S). (state s).faults) same) (without_source none same a))

-- ---- sinks that weren't called

nothing_added : (o : Option Written) → AddsFlushed o o []
nothing_added None = tt
nothing_added (Some w) = (sym (append-nil w.bytes), λ some. absurd (some refl))

pub untouched : {K : Type 0} (state : K → SinkState) (sink now : K) → now ≡ sink → IsWhole state sink now []
untouched {K} state sink now same =
    subst (λ (k : K). IsWhole state sink k []) (sym same) (record { adds = nothing_added (state sink).told; kept = refl; untouched = λ e. refl })
