-- The text of what a run hands over.
use Rattle.std.specs.Prelude.{ℕ, Bool, true, false, List, [], ◌∷◌, ◌++◌, length, Option, Some, None, codes, decimal}
use Rattle.hc_rational.specs.Words.{Rational}
use Rattle.hc_frac.specs.Text.{text_of}
use Rattle.hc_term.specs.declared.system.System.{System}
use Rattle.hc_term.specs.declared.run.Item.{Item}
use Rattle.hc_term.specs.declared.run.Stop.{Stop}
use Rattle.hc_term.specs.TraceText.{words, end_line}
use Rattle.hc_order.specs.declared.handed.Handed.{Handed}
use Rattle.hc_order.specs.Determinate.{is_determinate}
use Rattle.hc_joint.specs.Seen.{Seen}
use Rattle.hc_det.specs.declared.lists.ChannelList.{ChannelList}
use Rattle.hc_det.specs.Lists.{lists_of}

-- the clock and the value
abbrev pub handed_line : Handed → List ℕ
handed_line h = words (text_of h.at ∷ text_of h.value ∷ [])

abbrev pub handed_lines : List Handed → List ℕ
handed_lines [] = []
handed_lines (h ∷ hs) = handed_line h ++ handed_lines hs

-- the channel's name, how often it communicates, and a line for each time
abbrev pub list_text : ChannelList → List ℕ
list_text l = words (codes "channel" ∷ l.name ∷ decimal (length l.meetings) ∷ []) ++ handed_lines l.meetings

abbrev pub list_texts : List ChannelList → List ℕ
list_texts [] = []
list_texts (l ∷ ls) = list_text l ++ list_texts ls

abbrev pub yes_or_no : Bool → List ℕ
yes_or_no true = codes "yes"
yes_or_no false = codes "no"

abbrev pub first_line : Bool → List ℕ
first_line b = words (codes "determinate" ∷ yes_or_no b ∷ [])

-- whether the system is determinate, its channels, and the end line with the stop and the clock reached
abbrev pub channels_text : System → List Item → Rational → Stop → List ℕ
channels_text sys items clock stop =
    first_line (is_determinate sys) ++ list_texts (lists_of sys items) ++ end_line sys clock stop

-- that of a joint's history, where a stop stands
abbrev pub text_at : Option Stop → Seen → List ℕ
text_at None s = []
text_at (Some stop) s = channels_text s.task.system s.history s.clock stop
