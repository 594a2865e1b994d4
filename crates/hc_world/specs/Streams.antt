-- A sink over a writer: its count of faults, and what the writer holds, where the writer tells.
use Rattle.std.specs.Prelude.{ℕ, List, Option}
use Rattle.hc_world.specs.declared.std_streams.StdErr.{StdErr}
use Rattle.hc_world.specs.declared.std_streams.StdOut.{StdOut}

-- how many writes and flushes failed
abbrev pub out_faults : {W : Type 0} → StdOut W → ℕ
out_faults out = out.faults

-- how many writes and flushes failed
abbrev pub err_faults : {W : Type 0} → StdErr W → ℕ
err_faults err = err.faults

-- the bytes that the writer holds
abbrev pub out_contents : {W : Type 0} → (W → Option (List ℕ)) → StdOut W → Option (List ℕ)
out_contents contents out = contents out.writer

-- the bytes that the writer holds
abbrev pub err_contents : {W : Type 0} → (W → Option (List ℕ)) → StdErr W → Option (List ℕ)
err_contents contents err = contents err.writer
