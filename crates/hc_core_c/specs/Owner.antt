-- A thread that owns the mutex over a board, in a program that has the core. This project's own.
use Rattle.std.specs.Prelude.{◌≡◌, ◌<◌, ◌≤◌, ◌*◌, ◌^◌, ℕ, List, [], ◌∷◌, ◌++◌, map, length, ℤ, pos, Some}
use Rattle.hc_rational.specs.Words.{Rational}
use Rattle.hc_cast.specs.declared.program.CFunction.{CFunction}
use Rattle.hc_cast.specs.declared.program.CProgram.{CProgram}
use Rattle.hc_cmach.specs.State.{Word, Shared}
use Rattle.hc_clogic.specs.Runs.{View}
use Rattle.hc_core_c.specs.Twin.{Board64, nth}
use Rattle.hc_core_c.specs.Code.{core_arrays, core_functions}

-- ---- the part that threads share

abbrev pub ints : List ℕ → List ℤ
ints xs = map pos xs

-- row 64 and the arrays in their order (`core_arrays`)
abbrev pub shared_of : Board64 → Shared
shared_of b = record {
  row = b.row;
  arrays =
      ints b.phase
      ∷ ints b.bounded
      ∷ ints b.moves
      ∷ ints b.send
      ∷ ints b.receive
      ∷ ints b.into
      ∷ ints b.met
      ∷ (pos b.steps ∷ [])
      ∷ (pos b.limit ∷ [])
      ∷ (pos b.stop ∷ [])
      ∷ (pos b.self ∷ [])
      ∷ ints b.woke
      ∷ [];
}

-- a thread with the row `own` and these locals, which owns the mutex over the board
abbrev pub core : List Rational → List Word → List ℤ → Board64 → View
core own names values b = record {
  row = own;
  shared = Some (shared_of b);
  names = names;
  values = values;
  lines = b.lines;
  wakes = b.wakes;
}

-- ---- the program

-- It has the core's arrays and no others, the core's functions in front of its others, and so many processes and channels.
pub record Has (g : CProgram) (P C : ℕ) : Type 0 where
  pub others : List CFunction
  pub declared : g.arrays ≡ core_arrays P C
  pub functions : g.functions ≡ core_functions P C ++ others
  pub processes : length g.processes ≡ P
  pub channels : length g.channels ≡ C
  pub some : 1 ≤ P
  pub few : P ≤ 64
  pub small : C ≤ 256

-- ---- what it needs of the board

-- each code is one of a process's, each received value goes to a variable, and the limit is an int
pub record Sane (P : ℕ) (b : Board64) : Type 0 where
  pub sends : (c : ℕ) → nth b.send c ≤ P * 32
  pub receives : (c : ℕ) → nth b.receive c ≤ P * 32
  pub into : (c : ℕ) → nth b.into c < 64
  pub limit : b.limit < 2 ^ 31
