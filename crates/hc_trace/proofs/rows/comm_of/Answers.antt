use Rattle.std.proofs.Common.{[], ◌∷◌, sym, subst}
use Rattle.hc_frac.specs.Text.{text_of}
use Rattle.hc_frac.specs.Word.{IsWord}
use Rattle.hc_trace.proofs.Spelling.{uncut, cut_word}
use Rattle.hc_trace.proofs.Events.{short_comm_parts, named_comm_parts}
use Rattle.hc_trace.proofs.rows.comm_of.Goals as goal

pub returns-in_err-channel-in-First : goal.returns-in_err-channel-in-First
returns-in_err-channel-in-First c = rw c.from_residual.ensures (λ e h.
    let parts = short_comm_parts c.args.parts.now e (rw c.in-First.is at h) in
    c.in_err-channel-in-First.ensures (parts.name, parts.value) (parts.word, parts.fits, parts.spells))

pub returns-in_err-channel-in-Second : goal.returns-in_err-channel-in-Second
returns-in_err-channel-in-Second c = rw c.from_residual-in_err-channel-in-Second.ensures (λ e h.
    let m = named_comm_parts c.args.parts.now e (rw c.in-Second.is at h) in
    uncut c.args.parts.now m.channel m.sender (m.receiver ∷ text_of m.value ∷ []) c.in_err-channel-in-Second.ensures m.spells)

pub returns-in_err-channel-in-Second-2 : goal.returns-in_err-channel-in-Second-2
returns-in_err-channel-in-Second-2 c = rw c.from_residual-in_err-channel-in-Second-2.ensures (λ e h.
    let m = named_comm_parts c.args.parts.now e (rw c.in-Second.is at h) in
    let first = cut_word c.args.parts.now c.in_ok-channel-in-Second.channel.now c.in_ok-channel-in-Second.ends.now m.channel m.sender (m.receiver ∷ text_of m.value ∷ [])
    c.in_ok-channel-in-Second.ensures.0 m.channel_word c.in_ok-channel-in-Second.ensures.1 m.spells in
    c.in_err-channel-in-Second-2.ensures (subst IsWord (sym first.0) m.channel_word))

pub returns-in_err-sender-in-Second : goal.returns-in_err-sender-in-Second
returns-in_err-sender-in-Second c = rw c.from_residual-in_err-sender-in-Second.ensures (λ e h.
    let m = named_comm_parts c.args.parts.now e (rw c.in-Second.is at h) in
    let first = cut_word c.args.parts.now c.in_ok-channel-in-Second.channel.now c.in_ok-channel-in-Second.ends.now m.channel m.sender (m.receiver ∷ text_of m.value ∷ [])
    c.in_ok-channel-in-Second.ensures.0 m.channel_word c.in_ok-channel-in-Second.ensures.1 m.spells in
    uncut c.in_ok-channel-in-Second.ends.now m.sender m.receiver (text_of m.value ∷ []) c.in_err-sender-in-Second.ensures first.1)

pub returns-in_err-sender-in-Second-2 : goal.returns-in_err-sender-in-Second-2
returns-in_err-sender-in-Second-2 c = rw c.from_residual-in_err-sender-in-Second-2.ensures (λ e h.
    let m = named_comm_parts c.args.parts.now e (rw c.in-Second.is at h) in
    let first = cut_word c.args.parts.now c.in_ok-channel-in-Second.channel.now c.in_ok-channel-in-Second.ends.now m.channel m.sender (m.receiver ∷ text_of m.value ∷ [])
    c.in_ok-channel-in-Second.ensures.0 m.channel_word c.in_ok-channel-in-Second.ensures.1 m.spells in
    let second = cut_word c.in_ok-channel-in-Second.ends.now c.in_ok-sender-in-Second.sender.now c.in_ok-sender-in-Second.rest.now m.sender m.receiver (text_of m.value ∷ [])
    c.in_ok-sender-in-Second.ensures.0 m.sender_word c.in_ok-sender-in-Second.ensures.1 first.1 in
    c.in_err-sender-in-Second-2.ensures (subst IsWord (sym second.0) m.sender_word))

pub returns-in_err-receiver-in-Second : goal.returns-in_err-receiver-in-Second
returns-in_err-receiver-in-Second c = rw c.from_residual-in_err-receiver-in-Second.ensures (λ e h.
    let m = named_comm_parts c.args.parts.now e (rw c.in-Second.is at h) in
    let first = cut_word c.args.parts.now c.in_ok-channel-in-Second.channel.now c.in_ok-channel-in-Second.ends.now m.channel m.sender (m.receiver ∷ text_of m.value ∷ [])
    c.in_ok-channel-in-Second.ensures.0 m.channel_word c.in_ok-channel-in-Second.ensures.1 m.spells in
    let second = cut_word c.in_ok-channel-in-Second.ends.now c.in_ok-sender-in-Second.sender.now c.in_ok-sender-in-Second.rest.now m.sender m.receiver (text_of m.value ∷ [])
    c.in_ok-sender-in-Second.ensures.0 m.sender_word c.in_ok-sender-in-Second.ensures.1 first.1 in
    c.in_err-receiver-in-Second.ensures (m.receiver, m.value) (m.receiver_word, m.fits, second.1))
