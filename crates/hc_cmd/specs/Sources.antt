-- What is answered to a text, and to a source.
use Rattle.std.specs.Prelude.{◌≡◌, ℕ, List, []}
use Rattle.hc_frac.specs.declared.place.Place.{Place}
use Rattle.hc_ast.specs.declared.tree.Tree.{Tree}
use Rattle.hc_ast.specs.declared.flaw.Flaw.{Flaw}
use Rattle.hc_ast.specs.Source.{IsSource, IsRefused}
use Rattle.hc_modules.specs.declared.flat.Flat.{Flat}
use Rattle.hc_modules.specs.declared.flat.ModuleStop.{ModuleStop}
use Rattle.hc_modules.specs.Refusals.{IsExpansion}
use Rattle.hc_modules.specs.Refusals as modules
use Rattle.hc_finds.specs.declared.stop.CheckStop.{CheckStop}
use Rattle.hc_check.specs.Checked.{IsChecked}
use Rattle.hc_check.specs.Checked as checks
use Rattle.hc_term.specs.declared.system.System.{System}
use Rattle.hc_cmd.specs.declared.refusal.Refusal.TheVariants.{Unexpanded, Unchecked}
use Rattle.hc_cmd.specs.Reply.{Reply}
use Rattle.hc_cmd.specs.Refusals.{refused, refused_at}

-- a text: where it's no source, what is wrong with it first, and where; else what its tree gives
pub data OfText (Gives : Tree → Reply → Type 0) (text : List ℕ) (reply : Reply) : Type 0 where
  no_source : (flaw : Flaw) (place : Place) → IsRefused text flaw place → reply ≡ refused_at flaw place → OfText Gives text reply
  source : (tree : Tree) → IsSource text tree → Gives tree reply → OfText Gives text reply

-- a tree: where it isn't accepted, the first refusal of expansion, or of the checks; else what its processes and its system give
pub data OfTree (Gives : Flat → System → Reply → Type 0) (tree : Tree) (reply : Reply) : Type 0 where
  unexpanded : (stop : ModuleStop) → modules.IsRefused tree stop → reply ≡ refused (Unexpanded stop) → OfTree Gives tree reply
  unchecked : (flat : Flat) (stop : CheckStop) → IsExpansion tree flat → checks.IsRefused flat stop → reply ≡ refused (Unchecked stop) →
      OfTree Gives tree reply
  accepted : (flat : Flat) (system : System) → IsExpansion tree flat → IsChecked flat system → Gives flat system reply → OfTree Gives tree reply

abbrev pub OfSource : (Flat → System → Reply → Type 0) → List ℕ → Reply → Type 0
OfSource Gives = OfText (OfTree Gives)

-- nothing but this text on output
abbrev pub done : List ℕ → Reply
done text = record { status = 0; out = text; err = [] }
