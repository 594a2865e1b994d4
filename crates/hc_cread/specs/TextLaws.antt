-- What holds of all texts.
use Rattle.std.specs.Prelude.{◌≡◌, ◌⊎◌, ℕ, List}
use Rattle.hc_cast.specs.declared.program.CProgram.{CProgram}
use Rattle.hc_cgrammar.specs.declared.flaw.Refusal.{Refusal}
use Rattle.hc_cgrammar.specs.Text.{IsCText, IsCTextRefused}

-- bytes are the text of at most one program
abbrev pub OneTextProgram : Type 0
OneTextProgram = (bytes : List ℕ) (x y : CProgram) → IsCText bytes x → IsCText bytes y → x ≡ y

-- bytes are refused in one way at most
abbrev pub OneTextRefusal : Type 0
OneTextRefusal = (bytes : List ℕ) (q r : Refusal) → IsCTextRefused bytes q → IsCTextRefused bytes r → q ≡ r

-- the text of a program isn't refused
abbrev pub TextsAreNotRefused : Type 0
TextsAreNotRefused = (bytes : List ℕ) (x : CProgram) (r : Refusal) → IsCText bytes x → IsCTextRefused bytes r → ⊥

-- bytes are the text of a program or are refused; with the three laws above, exactly one of the two, and in one way
abbrev pub EveryTextIsOne : Type 0
EveryTextIsOne = (bytes : List ℕ) → ((x : CProgram) × IsCText bytes x) ⊎ ((r : Refusal) × IsCTextRefused bytes r)
