-- What the program's parts are.
use Rattle.std.specs.Prelude.{◌≡◌, Bool, true, false, List, [], ◌∷◌, map}
use Rattle.std.specs.List.{list_any}
use Rattle.std.specs.Global.{Vec}
use Rattle.hc_ast.specs.declared.expr.ExprTree.{ExprTree}
use Rattle.hc_ast.specs.declared.stmt.IoTree.{IoTree}
use Rattle.hc_ast.specs.declared.stmt.BranchTree.{BranchTree, out-BranchTree}
use Rattle.hc_finds.specs.declared.parts.Part as program
use Rattle.hc_finds.specs.declared.parts.Part.TheVariants as is
use Rattle.hc_finds.specs.declared.uses.Use as code
use Rattle.hc_finds.specs.declared.uses.Ends.{Ends}
use Rattle.hc_ast.specs.Bare.{Word}
use Rattle.hc_modules.specs.Bindings.{same_word}
use Rattle.hc_finds.specs.Uses.{Use, is_use}
use Rattle.hc_finds.specs.declared.rules.Exprs.{Exprs}
use Rattle.hc_finds.specs.declared.rules.Exprs.TheVariants as are
use Rattle.hc_finds.specs.Exprs.{sides}
use Rattle.hc_finds.specs.Parts.{Part, assign, compute, test, communicate, rate, domain, guard}

abbrev pub io_in : BranchTree → IoTree
io_in b = (out-BranchTree b).io

abbrev pub part_of : program.Part → Part
part_of (is.Assign p x e) = assign p x.now e.now
part_of (is.Compute p e) = compute p e.now
part_of (is.Test p c) = test p c.now
part_of (is.Communicate p i) = communicate p i.now
part_of (is.Rate all earlier r) = rate all.now earlier.now r.now
part_of (is.Domain rates p c) = domain rates.now p c.now
part_of (is.Guard rates earlier p i) = guard rates.now (map io_in earlier.now) p i.now

abbrev pub seen : List program.Part → List Part
seen ps = map part_of ps

abbrev pub each_seen : List (Vec program.Part) → List (List Part)
each_seen ps = map (λ p. seen p.items) ps

abbrev pub exprs_of : Exprs → List ExprTree
exprs_of are.None = []
exprs_of (are.One e) = e.now ∷ []
exprs_of (are.Sides c) = sides c.now

abbrev pub use_of : code.Use → Use
use_of u = record { place = u.place; sends = u.sends; channel = u.channel.now }

abbrev pub uses_seen : List code.Use → List Use
uses_seen us = map use_of us

abbrev pub all_uses : List (Vec code.Use) → List (List Use)
all_uses ps = map (λ us. uses_seen us.items) ps

-- the channels on which something is sent, or from which something is received
abbrev pub channels_at : Bool → Ends → List Word
channels_at true e = e.sent.keys
channels_at false e = e.received.keys

-- these are the ends of the channels that are used so
abbrev pub AreEnds : Ends → List Use → Type 0
AreEnds e us = (sends : Bool) (c : Word) → list_any (same_word c) (channels_at sends e) ≡ list_any (is_use sends c) us
