-- Which codes a local can run: instructions keep the rules of a system, and places are in range.
use Rattle.std.specs.Prelude.{ℕ, ◌+◌, Bool, true, ◌&&◌, nat_lt, max, List, [], ◌∷◌, length, IsTrue}
use Rattle.std.specs.List.{list_all}
use Rattle.hc_term.specs.declared.stmt.Io.{Io}
use Rattle.hc_term.specs.declared.stmt.Io.TheVariants.{Send, Receive}
use Rattle.hc_code.specs.declared.code.Instr.{Instr}
use Rattle.hc_code.specs.declared.code.Instr.TheVariants as instr
use Rattle.hc_code.specs.Kept.{ios_of, is_instr}

-- places of a code of this length
abbrev pub has_places : ℕ → Instr → Bool
has_places len (instr.Skip next) = nat_lt next len
has_places len (instr.Assign x e next) = nat_lt next len
has_places len (instr.Log e next) = nat_lt next len
has_places len (instr.Test c yes' no') = nat_lt yes' len && nat_lt no' len
has_places len (instr.Pick left right) = nat_lt left len && nat_lt right len
has_places len (instr.Again next) = nat_lt next len
has_places len (instr.Wait e next) = nat_lt next len
has_places len (instr.Meet ways) = list_all (λ w. nat_lt w.next len) ways
has_places len (instr.Evolve rates c ways next) = list_all (λ w. nat_lt w.next len) ways && nat_lt next len
has_places len instr.End = true

-- ---- rules

abbrev pub channel_of : Io → ℕ
channel_of (Send channel value) = channel
channel_of (Receive channel variable) = channel

-- one more than the greatest channel of these communications
abbrev pub channel_reach : List Io → ℕ
channel_reach [] = 0
channel_reach (io ∷ ios) = max (channel_of io + 1) (channel_reach ios)

-- how many channels a system must have for an instruction
abbrev pub channels_at : Instr → ℕ
channels_at (instr.Meet ways) = channel_reach (ios_of ways)
channels_at (instr.Evolve rates c ways next) = channel_reach (ios_of ways)
channels_at _ = 0

-- an instruction of a process with n variables keeps the rules of a system that has its channels
abbrev pub is_ruled : ℕ → Instr → Bool
is_ruled n i = is_instr (channels_at i) n i

-- ---- codes

-- in a code of this length
abbrev pub is_usable : ℕ → ℕ → Instr → Bool
is_usable n len i = is_ruled n i && has_places len i

-- a code of a process with n variables
abbrev pub is_usable_code : ℕ → List Instr → Bool
is_usable_code n code = list_all (is_usable n (length code)) code

-- the instruction keeps the rules of a system with some number of channels
abbrev pub IsRuled : ℕ → Instr → Type 0
IsRuled n i = (channels : ℕ) × IsTrue (is_instr channels n i)
