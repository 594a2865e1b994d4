-- Events and ends told from their words.
use Rattle.std.proofs.Common.{◌≡◌, ◌==◌, ℕ, List, [], ◌∷◌, ◌++◌, Option, Some, None, ◌⊎◌, inl, inr, get_or, refl, sym, ap, ◌∙◌, arith}
use Rattle.std.specs.Prelude.{codes, if◌then◌else◌}
use Rattle.hc_rational.specs.Words.{Rational, IsFrac}
use Rattle.hc_frac.specs.Text.{text_of}
use Rattle.hc_frac.specs.Word.{IsWord, word_byte}
use Rattle.hc_term.specs.TraceText.{words}
use Rattle.hc_trace.specs.declared.traces.Version.{Version}
use Rattle.hc_trace.specs.declared.traces.Version.TheVariants.{First, Second}
use Rattle.hc_trace.specs.declared.traces.TraceEvent.{TraceEvent}
use Rattle.hc_trace.specs.declared.traces.TraceEvent.TheVariants.{Delay, Comm, Log}
use Rattle.hc_trace.specs.declared.traces.TraceEnd.{TraceEnd}
use Rattle.hc_trace.specs.declared.traces.EndKind.{EndKind}
use Rattle.hc_trace.specs.declared.traces.EndKind.TheVariants.{Terminated, Deadlock, Horizon, Limit, Overflow}
use Rattle.hc_trace.specs.Traces.{IsEvent, IsWho, IsEnd, event_word, event_parts, end_word, end_parts, end_words}
use Rattle.hc_trace.specs.Found.{Finds, Spells, IsEventOf, IsEndOf}
use Rattle.hc_trace.specs.Reading.{Lacks}
use Rattle.hc_trace.proofs.Cuts.{lacks_from, one_cut}
use Rattle.hc_trace.proofs.Spelling.{joined, with_newline, cut_off}

first_byte : {v w : List ℕ} → v ≡ w → get_or v 0 0 ≡ get_or w 0 0
first_byte e = ap (λ w. get_or w 0 0) e

-- ---- events

-- something stands behind the word
pub event_more : (w : List ℕ) (e : TraceEvent) → words (w ∷ event_parts e) ≡ w ++ 32 ∷ words (event_parts e)
event_more w (Delay by) = refl
event_more w (Comm channel None receiver value) = refl
event_more w (Comm channel (Some sender) None value) = refl
event_more w (Comm channel (Some sender) (Some receiver) value) = refl
event_more w (Log process value) = refl

pub event_word_lacks : (e : TraceEvent) → Lacks 32 (event_word e)
event_word_lacks (Delay by) = lacks_from word_byte 32 (codes "delay") refl refl
event_word_lacks (Comm channel sender receiver value) = lacks_from word_byte 32 (codes "comm") refl refl
event_word_lacks (Log process value) = lacks_from word_byte 32 (codes "log") refl refl

pub cut_event : (bytes kind parts : List ℕ) (e : TraceEvent) → Lacks 32 kind → bytes ≡ kind ++ 32 ∷ parts →
    Spells bytes (event_word e ∷ event_parts e) → (kind ≡ event_word e) × Spells parts (event_parts e)
cut_event bytes kind parts e h is spells =
    one_cut 32 kind (event_word e) (parts ++ 10 ∷ []) (words (event_parts e)) h (event_word_lacks e)
    (sym (with_newline bytes kind parts is) ∙ spells ∙ event_more (event_word e) e)

-- where the word is known, the event is the one of what is behind it
pub event_arm : (v : Version) (bytes kind parts word : List ℕ) (r : Option TraceEvent) → Lacks 32 kind → bytes ≡ kind ++ 32 ∷ parts →
    kind ≡ word → Finds (IsEventOf v word parts) r → Finds (λ e. IsEvent v e × Spells bytes (event_word e ∷ event_parts e)) r
event_arm v bytes kind parts word None h is known none =
    λ e event. let both = cut_event bytes kind parts e h is event.1 in none e (event.0, sym both.0 ∙ known, both.1)
event_arm v bytes kind parts word (Some e) h is known found = (
  found.0,
  joined bytes kind parts (event_parts e) is found.2
      ∙ ap (λ s. s ++ 32 ∷ words (event_parts e)) (known ∙ sym found.1) ∙ sym (event_more (event_word e) e),
)

-- a name and a value are all that is behind the word
pub record NameAndValue (parts : List ℕ) : Type 0 where
  pub name : List ℕ
  pub value : Rational
  pub word : IsWord name
  pub fits : IsFrac value
  pub spells : Spells parts (name ∷ text_of value ∷ [])

pub log_parts : (v : Version) (parts : List ℕ) (e : TraceEvent) → IsEventOf v (codes "log") parts e → NameAndValue parts
log_parts v parts (Delay by) h = let clash : 100 ≡ 108 = first_byte h.1 in absurd (omega (arith, clash))
log_parts v parts (Comm channel sender receiver value) h = let clash : 99 ≡ 108 = first_byte h.1 in absurd (omega (arith, clash))
log_parts v parts (Log process value) h = record { name = process; value = value; word = h.0.0; fits = h.0.1; spells = h.2 }

pub short_comm_parts : (parts : List ℕ) (e : TraceEvent) → IsEventOf First (codes "comm") parts e → NameAndValue parts
short_comm_parts parts (Delay by) h = let clash : 100 ≡ 99 = first_byte h.1 in absurd (omega (arith, clash))
short_comm_parts parts (Comm channel None None value) h = record { name = channel; value = value; word = h.0.0; fits = h.0.1; spells = h.2 }
short_comm_parts parts (Comm channel None (Some receiver) value) h = absurd h.0
short_comm_parts parts (Comm channel (Some sender) receiver value) h = absurd h.0
short_comm_parts parts (Log process value) h = let clash : 108 ≡ 99 = first_byte h.1 in absurd (omega (arith, clash))

-- two more names stand behind the channel's
pub record NamedComm (parts : List ℕ) : Type 0 where
  pub channel : List ℕ
  pub sender : List ℕ
  pub receiver : List ℕ
  pub value : Rational
  pub channel_word : IsWord channel
  pub sender_word : IsWord sender
  pub receiver_word : IsWord receiver
  pub fits : IsFrac value
  pub spells : Spells parts (channel ∷ sender ∷ receiver ∷ text_of value ∷ [])

pub named_comm_parts : (parts : List ℕ) (e : TraceEvent) → IsEventOf Second (codes "comm") parts e → NamedComm parts
named_comm_parts parts (Delay by) h = let clash : 100 ≡ 99 = first_byte h.1 in absurd (omega (arith, clash))
named_comm_parts parts (Comm channel None receiver value) h = absurd h.0
named_comm_parts parts (Comm channel (Some sender) None value) h = absurd h.0
named_comm_parts parts (Comm channel (Some sender) (Some receiver) value) h = record {
  channel = channel;
  sender = sender;
  receiver = receiver;
  value = value;
  channel_word = h.0.0;
  sender_word = h.0.1;
  receiver_word = h.0.2;
  fits = h.0.3;
  spells = h.2;
}
named_comm_parts parts (Log process value) h = let clash : 108 ≡ 99 = first_byte h.1 in absurd (omega (arith, clash))

-- ---- ends

pub end_more : (w : List ℕ) (kind : EndKind) (at : Rational) (who : Option (List ℕ)) →
    words (w ∷ end_parts kind at who) ≡ w ++ 32 ∷ words (end_parts kind at who)
end_more w Terminated at who = refl
end_more w Deadlock at who = refl
end_more w Horizon at who = refl
end_more w Limit at who = refl
end_more w Overflow at None = refl
end_more w Overflow at (Some process) = refl

pub end_word_lacks : (kind : EndKind) → Lacks 32 (end_word kind)
end_word_lacks Terminated = lacks_from word_byte 32 (codes "terminated") refl refl
end_word_lacks Deadlock = lacks_from word_byte 32 (codes "deadlock") refl refl
end_word_lacks Horizon = lacks_from word_byte 32 (codes "horizon") refl refl
end_word_lacks Limit = lacks_from word_byte 32 (codes "limit") refl refl
end_word_lacks Overflow = lacks_from word_byte 32 (codes "overflow") refl refl

-- the kind whose word begins with this byte
kind_at : ℕ → EndKind
kind_at b = if b == 116 then Terminated else if b == 100 then Deadlock else if b == 104 then Horizon else if b == 108 then Limit else Overflow

kind_again : (kind : EndKind) → kind_at (get_or (end_word kind) 0 0) ≡ kind
unfolding kind_at
kind_again Terminated = refl
kind_again Deadlock = refl
kind_again Horizon = refl
kind_again Limit = refl
kind_again Overflow = refl

pub own_end_word : (kind other : EndKind) → end_word kind ≡ end_word other → kind ≡ other
own_end_word kind other e = sym (kind_again kind) ∙ ap kind_at (first_byte e) ∙ kind_again other

-- the word behind the clock
pub record OverflowParts (parts : List ℕ) (at : Rational) : Type 0 where
  pub fits : IsFrac at
  pub who : List ℕ
  pub star_or_word : (who ≡ codes "*") ⊎ IsWord who
  pub spells : Spells parts (text_of at ∷ who ∷ [])

overflow_parts_by : (parts : List ℕ) (at : Rational) (kind : EndKind) (who : Option (List ℕ)) → IsFrac at → IsWho kind who → kind ≡ Overflow →
    Spells parts (end_parts kind at who) → OverflowParts parts at
overflow_parts_by parts at Overflow None fits is known e = record { fits = fits; who = codes "*"; star_or_word = inl refl; spells = e }
overflow_parts_by parts at Overflow (Some process) fits is known e = record { fits = fits; who = process; star_or_word = inr is; spells = e }
overflow_parts_by parts at Terminated who fits is known e = absurd (cc known)
overflow_parts_by parts at Deadlock who fits is known e = absurd (cc known)
overflow_parts_by parts at Horizon who fits is known e = absurd (cc known)
overflow_parts_by parts at Limit who fits is known e = absurd (cc known)

pub overflow_parts : (parts : List ℕ) (e : TraceEnd) → IsEndOf Overflow parts e → OverflowParts parts e.at
overflow_parts parts e h = overflow_parts_by parts e.at e.kind e.who h.0.0 h.0.1 h.1 h.2

pub cut_end : (bytes first rest : List ℕ) (e : TraceEnd) → Lacks 32 first → bytes ≡ first ++ 32 ∷ rest →
    Spells bytes (end_words e) → (first ≡ codes "end") × Spells rest (end_word e.kind ∷ end_parts e.kind e.at e.who)
cut_end bytes first rest e h is spells =
    cut_off bytes first rest (codes "end") (end_word e.kind) (end_parts e.kind e.at e.who) h (lacks_from word_byte 32 (codes "end") refl refl) is spells

pub cut_kind : (bytes word parts : List ℕ) (e : TraceEnd) → Lacks 32 word → bytes ≡ word ++ 32 ∷ parts →
    Spells bytes (end_word e.kind ∷ end_parts e.kind e.at e.who) → (word ≡ end_word e.kind) × Spells parts (end_parts e.kind e.at e.who)
cut_kind bytes word parts e h is spells =
    one_cut 32 word (end_word e.kind) (parts ++ 10 ∷ []) (words (end_parts e.kind e.at e.who)) h (end_word_lacks e.kind)
    (sym (with_newline bytes word parts is) ∙ spells ∙ end_more (end_word e.kind) e.kind e.at e.who)

-- where the words are known, the end is the one of what is behind them
pub end_arm : (bytes first rest word parts : List ℕ) (kind : EndKind) (r : Option TraceEnd) → Lacks 32 first → bytes ≡ first ++ 32 ∷ rest →
    first ≡ codes "end" → Lacks 32 word → rest ≡ word ++ 32 ∷ parts → end_word kind ≡ word → Finds (IsEndOf kind parts) r →
    Finds (λ e. IsEnd e × Spells bytes (end_words e)) r
end_arm bytes first rest word parts kind None h is begins k cuts known none = λ e end.
    let front = cut_end bytes first rest e h is end.1 in
    let back = cut_kind rest word parts e k cuts front.1 in
    none e (end.0, own_end_word e.kind kind (sym back.0 ∙ sym known), back.1)
end_arm bytes first rest word parts kind (Some e) h is begins k cuts known found =
    let same : word ≡ end_word e.kind = sym known ∙ ap end_word (sym found.1) in
    let back : rest ++ 10 ∷ [] ≡ end_word e.kind ++ 32 ∷ words (end_parts e.kind e.at e.who) =
    joined rest word parts (end_parts e.kind e.at e.who) cuts found.2 ∙ ap (λ s. s ++ 32 ∷ words (end_parts e.kind e.at e.who)) same in
    let more : Spells rest (end_word e.kind ∷ end_parts e.kind e.at e.who) = back ∙ sym (end_more (end_word e.kind) e.kind e.at e.who) in (
      found.0,
      joined bytes first rest (end_word e.kind ∷ end_parts e.kind e.at e.who) is more
          ∙ ap (λ s. s ++ 32 ∷ words (end_word e.kind ∷ end_parts e.kind e.at e.who)) begins,
    )
