-- The uses of channels: by which processes they are sent on and received from.
use Rattle.std.specs.Prelude.{Bool, true, false, not, ◌&&◌, List, [], ◌∷◌, flat_map}
use Rattle.std.specs.List.{list_any}
use Rattle.hc_frac.specs.declared.place.Place.{Place}
use Rattle.hc_ast.specs.Bare.{Word}
use Rattle.hc_ast.specs.declared.stmt.IoTree.{IoTree}
use Rattle.hc_ast.specs.declared.stmt.IoTree.TheVariants as io_of
use Rattle.hc_modules.specs.declared.flat.FlatProcess.{FlatProcess}
use Rattle.hc_modules.specs.Bindings.{same_word}
use Rattle.hc_modules.specs.Finds.{only_if, along}
use Rattle.hc_finds.specs.Parts.{Part, communicate, guard, parts_of}

-- a statement or branch that sends on a channel, or receives from it
pub record Use : Type 0 where
  pub place : Place
  pub sends : Bool
  pub channel : Word

abbrev pub use_at : Place → IoTree → Use
use_at p (io_of.Send c e) = record { place = p; sends = true; channel = c }
use_at p (io_of.Receive c x) = record { place = p; sends = false; channel = c }

abbrev pub uses_in : Part → List Use
uses_in (communicate p i) = use_at p i ∷ []
uses_in (guard rs earlier p i) = use_at p i ∷ []
uses_in x = []

-- those of a process, in the order of the text
abbrev pub uses_of : FlatProcess → List Use
uses_of p = flat_map uses_in (parts_of false p.body)

-- whether a use is a send, or a receive; on this channel
abbrev pub goes : Bool → Use → Bool
goes true u = u.sends
goes false u = not u.sends

abbrev pub is_use : Bool → Word → Use → Bool
is_use sends c u = goes sends u && same_word u.channel c

-- a use of a channel that its process, which has these uses, uses in the other direction before
abbrev pub self_channels : List Use → List Place
self_channels us = along (λ before u. only_if (list_any (is_use (not u.sends) u.channel) before) u.place) [] us

-- whether one of the processes that have these uses sends on the channel, or receives
abbrev pub have_use : Bool → Word → List (List Use) → Bool
have_use sends c ps = list_any (λ us. list_any (is_use sends c) us) ps

-- a send, or a receive, on a channel on which an earlier process sends, or receives
abbrev pub shared_in : Bool → List (List Use) → List Use → List Place
shared_in sends before us = flat_map (λ u. only_if (goes sends u && have_use sends u.channel before) u.place) us

abbrev pub shared_ends : Bool → List (List Use) → List Place
shared_ends sends ps = along (shared_in sends) [] ps
