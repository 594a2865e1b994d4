-- What is told in the end: the text is flushed or cut, and the machine tells how many steps moved.
use Rattle.std.proofs.Common.{◌≡◌, ◌≢◌, refl, sym, ℕ, [], take, Ok}
use Rattle.std.proofs.lemmas.List.{append-nil}
use Rattle.hc_world.specs.States.{SinkState}
use Rattle.hc_world.specs.Sinks.{IsCut}
use Rattle.hc_world.specs.Pieces.{IsUnderWay, IsFlushed}
use Rattle.hc_world.proofs.PieceLemmas.{cut_at_piece, puts_at_end}
use Rattle.hc_cast.specs.declared.program.CProgram.{CProgram}
use Rattle.hc_cmach.specs.declared.exec_end.ExecEnd.{ExecEnd}
use Rattle.hc_cmach.specs.Machine.{CState, scheduled}
use Rattle.hc_cmach.specs.Seeded.{seeded, performed}
use Rattle.hc_cexec.specs.declared.machine.Machine.{Machine}
use Rattle.hc_cexec.specs.Stands.{IsAt, counted}
use Rattle.hc_crun.specs.Told.{told_text, IsTold, IsCutShort}
use Rattle.hc_crun.specs.Going.{IsBehind, Went, Stopped}

module _ {O : Type 0} (state : O → SinkState) (before : O) (g : CProgram) (seed steps : ℕ) (m : Machine) (moved : ℕ)
    (counts : (s : CState) → IsAt g m s → moved ≡ counted s.moved) where
  cut_short : (after : O) → IsCut state before after (told_text g seed steps) → IsBehind state before g seed steps m →
      IsCutShort state before after g seed steps moved
  cut_short after cut b = record {
    cut = cut;
    items = b.items;
    within = b.within;
    moved_is = counts (scheduled g (take b.items (seeded g seed steps))) b.at;
    stood = b.stood;
  }

  pub stopped_short : (after : O) → Stopped state before after g seed steps m → IsCutShort state before after g seed steps moved
  stopped_short after s = cut_short after s.cut s.behind

  some_text : told_text g seed steps ≢ []
  some_text none = absurd cc

  -- nothing is left to write
  all_stands : (now : O) (end : ExecEnd) → Went state before now g seed steps m end → IsUnderWay state before now (told_text g seed steps) []
  all_stands now end w = record { done = told_text g seed steps; split = sym (append-nil (told_text g seed steps)); begun = w.text }

  pub told : (now after : O) (end : ExecEnd) → Went state before now g seed steps m end → IsFlushed state now after →
      IsTold state before after g seed steps moved end
  told now after end w flushed = record {
    end_is = w.end_is;
    text = puts_at_end {E = ExecEnd} after (Ok end) some_text (all_stands now end w) flushed;
    moved_is = counts (performed g seed steps).state w.at;
  }

  pub flush_failed : (now after : O) (end : ExecEnd) → Went state before now g seed steps m end → IsCut state now after [] →
      IsCutShort state before after g seed steps moved
  flush_failed now after end w cut =
      cut_short after (cut_at_piece [] refl (all_stands now end w) cut) w.behind
