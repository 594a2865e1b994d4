-- A command with one more argument; what the command line's parse says.
use Rattle.std.proofs.Common.{◌≡◌, ap, ap₂, sym, ◌∙◌, true, false, refl, List, [], ◌∷◌, IsTrue, ◌⊎◌, inl, inr, subst}
use Rattle.clap.specs.declared.builder.arg.Arg.{Arg}
use Rattle.clap.specs.declared.builder.command.Command.{Command}
use Rattle.clap.specs.declared.parser.matches.ArgMatches.{ArgMatches}
use Rattle.clap.specs.Built.{AddsArg}
use Rattle.clap.specs.Faults.{is_simple_and_free, fault_of}
use Rattle.clap.specs.Kinds.{Kinds, IsAmong, HasKind}
use Rattle.clap.specs.Values.{kind_of}
use Rattle.clap.specs.declared.error.Error.{Error}
use Rattle.clap.specs.declared.error.kind.ErrorKind.{ErrorKind}
use Rattle.clap.specs.declared.error.kind.ErrorKind.TheVariants as kind
use Rattle.clap.specs.Matches.{found_of}
use Rattle.clap.specs.Simple.{App, app_of, with_rule, is_simple, matches_of, HasMatchesOf}
use Rattle.clap.specs.Takes.{takes}
use Rattle.clap.specs.Walk.{Text, Rule, rule_of, rows_of}
use Rattle.clap.proofs.OnLiterals.{clap_on_literals}
use Rattle.hc_words.specs.Line.{hcsp, is_nothing, is_taken, given_in, given}

pub with_one : (old : Command) (a : Arg) (new : Command) (app : App) (rule : Rule) → AddsArg old a new → a.global ≡ false →
    app_of old ≡ app → rule_of a ≡ rule → app_of new ≡ with_rule app rule
with_one old a new app rule adds local before is = adds.shape local ∙ ap₂ with_rule before is

pub is_simple_hcsp : is_simple hcsp ≡ true
unfolding hcsp clap_on_literals
is_simple_hcsp = refl

pub is_free_hcsp : is_simple_and_free hcsp ≡ true
unfolding hcsp clap_on_literals
is_free_hcsp = refl

-- an `Ok` comes only where nothing is found against the words
pub taken_of : (app : App) (words texts : List Text) → app ≡ hcsp → texts ≡ words →
    (is_simple_and_free app ≡ true → fault_of app texts ≡ []) → IsTrue (is_taken words)
taken_of app words texts is same none =
    let free = ap is_simple_and_free is ∙ is_free_hcsp in
    ap is_nothing (sym (ap₂ fault_of is same) ∙ none free)

-- then the rows are those of the words
pub given_of : (app : App) (words texts : List Text) (m : ArgMatches) → app ≡ hcsp → texts ≡ words →
    HasMatchesOf app texts m → given_in (rows_of (found_of m)) ≡ given words
given_of app words texts m is same has =
    let simple = ap is_simple is ∙ is_simple_hcsp in
    ap given_in ((has simple).0 ∙ ap₂ matches_of is same)

nothing_in : (xs : Kinds) → is_nothing xs ≡ true → xs ≡ []
nothing_in [] t = refl
nothing_in (x ∷ xs) t = cc

only_memory : (k : ErrorKind) (kinds : Kinds) → kinds ≡ [] → (k ≡ kind.OutOfMemory) ⊎ IsAmong k kinds → k ≡ kind.OutOfMemory
only_memory k kinds none (inl h) = h
only_memory k kinds none (inr h) = absurd (subst (IsAmong k) none h)

-- where nothing is found against the words, an `Err` is want of memory
pub refused_of : (app : App) (words texts : List Text) (e : Error) → app ≡ hcsp → texts ≡ words →
    (is_simple_and_free app ≡ true → HasKind (fault_of app texts) e) → IsTrue (is_taken words) → kind_of e ≡ kind.OutOfMemory
refused_of app words texts e is same has taken =
    let free = ap is_simple_and_free is ∙ is_free_hcsp in
    only_memory (kind_of e) (fault_of app texts) (ap₂ fault_of is same ∙ nothing_in (fault_of hcsp words) taken) (has free)

-- where clap's own test passes, an `Err` is want of memory
pub passes_of : (app : App) (words texts : List Text) (e : Error) → app ≡ hcsp → texts ≡ words →
    (takes app texts ≡ true → kind_of e ≡ kind.OutOfMemory) → IsTrue (takes hcsp words) → kind_of e ≡ kind.OutOfMemory
passes_of app words texts e is same passes taken = passes (ap₂ takes is same ∙ taken)
