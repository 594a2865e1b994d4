-- How a thread goes on behind a step, in the words of the code.
use Rattle.std.specs.Prelude.{ℕ, List, slice_get, slice_set, ℤ, pos, Option, Some, None}
use Rattle.hc_ccode.specs.declared.code.Entry.{Entry}
use Rattle.hc_cprim.specs.Worth.{loaded}
use Rattle.hc_cexec.specs.declared.activation.Activation.{Activation}
use Rattle.hc_cexec.specs.declared.thread.Thread.{Thread}
use Rattle.hc_cexec.specs.declared.asked.Act.{Act}
use Rattle.hc_cexec.specs.declared.asked.Act.TheVariants as act
use Rattle.hc_cexec.specs.declared.asked.Then.{Then}
use Rattle.hc_cexec.specs.declared.asked.Then.TheVariants as then

-- a local may take a value
abbrev pub stored : List ℤ → Option ℕ → ℤ → List ℤ
stored values None z = values
stored values (Some x) z = slice_set values x z

abbrev pub changed_at : List Activation → ℕ → (Activation → Activation) → Option Activation → List Activation
changed_at xs i f None = xs
changed_at xs i f (Some a) = slice_set xs i (f a)

-- activation number i is another, if there is one
abbrev pub changed : List Activation → ℕ → (Activation → Activation) → List Activation
changed xs i f = changed_at xs i f (slice_get xs i)

-- the body goes on at a place, where a local may take a value
abbrev pub goes_on : Option ℕ → ℤ → ℕ → Activation → Activation
goes_on result z place a =
    record { values = stored a.values result z; place = place; caller = a.caller; result = a.result; gives = a.gives }

-- it stands where it stood, but that a local may take a value
abbrev pub takes_value : Option ℕ → ℤ → Activation → Activation
takes_value result z a = goes_on result z a.place a

-- a body at its start, with the values of its arguments in front of those of its further locals
abbrev pub starts : Entry → List ℤ → ℕ → Option ℕ → Activation → Activation
starts e there caller result a =
    record {
      values = loaded a.values e.params there;
      place = e.start;
      caller = Some caller;
      result = result;
      gives = e.gives;
    }

abbrev pub with_current : Thread → List Activation → Option ℕ → Thread
with_current th xs c = record { row = th.row; activations = xs; current = c; status = th.status }

-- the entry of the function is at hand
abbrev pub entered : Thread → ℕ → Option Entry → List ℤ → ℕ → Option ℕ → ℕ → Thread
entered th i None there f result place = th
entered th i (Some e) there f result place =
    with_current th (changed (changed th.activations i (goes_on None (pos 0) place)) f (starts e there i result)) (Some f)

abbrev pub left_to : Thread → Option ℕ → Option ℕ → ℤ → Thread
left_to th None result z = with_current th th.activations None
left_to th (Some j) result z = with_current th (changed th.activations j (takes_value result z)) (Some j)

abbrev pub left : Thread → Option Activation → ℤ → Thread
left th None z = th
left th (Some a) z = left_to th a.caller a.result z

-- activation number i is at hand
abbrev pub went_from : List Entry → List ℤ → Then → Thread → ℕ → Thread
went_from es there (then.On result z place) th i = with_current th (changed th.activations i (goes_on result z place)) (Some i)
went_from es there (then.Into f result place) th i = entered th i (slice_get es f) there f result place
went_from es there (then.Back z) th i = left th (slice_get th.activations i) z
went_from es there then.Stays th i = th

abbrev pub went_by : List Entry → List ℤ → Then → Thread → Option ℕ → Thread
went_by es there x th None = th
went_by es there x th (Some i) = went_from es there x th i

-- the thread, gone on so
abbrev pub went : List Entry → List ℤ → Then → Thread → Thread
went es there x th = went_by es there x th th.current

-- a register of its row may become a value
abbrev pub with_row : Act → Thread → Thread
with_row (act.PutsOwn d v) th = record { row = slice_set th.row d v; activations = th.activations; current = th.current; status = th.status }
with_row _ th = th
