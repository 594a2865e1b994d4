-- The two ends of each channel, looked up once for all lines of a run.
use Rattle.std.specs.Prelude.{ℕ, List, length, map}
use Rattle.std.specs.List.{range_with_len}
use Rattle.hc_term.specs.declared.system.System.{System}
use Rattle.hc_term.specs.Ends.{ends_of}
use Rattle.hc_trace.specs.declared.ends.ChannelEnds.{ChannelEnds}

-- the numbers of the system's channels, from 0 on
abbrev pub channel_numbers : System → List ℕ
channel_numbers sys = range_with_len 0 (length sys.channels)

-- channel by channel, the process that sends on it and the one that receives
abbrev pub table_of : System → ChannelEnds
table_of sys = record {
  senders = map (λ c. (ends_of sys c).sender) (channel_numbers sys);
  receivers = map (λ c. (ends_of sys c).receiver) (channel_numbers sys);
}
