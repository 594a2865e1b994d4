use Rattle.std.proofs.Common.{refl}
use Rattle.hc_finds.specs.declared.uses.Ends.{Ends}
use Rattle.hc_finds.specs.Seen.{use_of}
use Rattle.hc_finds.proofs.Ends.{sent_more, received_more}
use Rattle.hc_finds.proofs.uses.Ends.add.Goals as goal

pub returns-in_ok-note : goal.returns-in_ok-note
returns-in_ok-note c =
    let new : Ends = record { sent = c.note.new.names; received = c.args.self.now.received } in
    λ us are. sent_more c.args.self.now new (use_of c.args.end) us are (cc) (c.in_ok-note.ensures {u = tt}) refl

pub returns-in_ok-note-2 : goal.returns-in_ok-note-2
returns-in_ok-note-2 c =
    let new : Ends = record { sent = c.args.self.now.sent; received = c.note-else-end.new.names } in
    λ us are. received_more c.args.self.now new (use_of c.args.end) us are (cc) (c.in_ok-note-2.ensures {u = tt}) refl
