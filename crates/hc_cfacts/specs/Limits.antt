-- The limits of a program of a unit.
use Rattle.std.specs.Prelude.{◌+◌, ◌≤◌, length}
use Rattle.std.specs.List.{All}
use Rattle.hc_cast.specs.declared.program.CArray.{CArray}
use Rattle.hc_cast.specs.declared.program.CBody.{CBody}
use Rattle.hc_cast.specs.declared.program.CFunction.{CFunction}
use Rattle.hc_cast.specs.declared.program.CProgram.{CProgram}
use Rattle.hc_cgrammar.specs.Limits.{most_arrays, most_elements, most_functions, most_threads, most_locals}

-- an array has at least one element
pub record IsArrayWithin (a : CArray) : Type 0 where
  pub least : 1 ≤ a.length
  pub most : a.length ≤ most_elements

-- the parameters and the locals of a function; the locals of a thread
abbrev pub HasFewNames : CFunction → Type 0
HasFewNames f = length f.params + length f.body.locals ≤ most_locals

abbrev pub HasFewLocals : CBody → Type 0
HasFewLocals b = length b.locals ≤ most_locals

-- a program has at least one thread
pub record IsWithinLimits (p : CProgram) : Type 0 where
  pub few_arrays : length p.arrays ≤ most_arrays
  pub arrays : All IsArrayWithin p.arrays
  pub few_functions : length p.functions ≤ most_functions
  pub functions : All HasFewNames p.functions
  pub some_thread : 1 ≤ length p.threads
  pub few_threads : length p.threads ≤ most_threads
  pub threads : All HasFewLocals p.threads
