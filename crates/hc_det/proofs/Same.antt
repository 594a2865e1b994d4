-- Runs that hand over the same have the same text.
use Rattle.std.specs.Prelude.{◌≡◌, ℕ, ◌+◌, List, [], ◌∷◌, ◌++◌}
use Rattle.std.proofs.Common.{refl, ap, ap₂, ◌∙◌}
use Rattle.hc_rational.specs.Words.{Rational}
use Rattle.hc_term.specs.declared.system.System.{System}
use Rattle.hc_term.specs.declared.run.Item.{Item}
use Rattle.hc_term.specs.declared.run.Stop.{Stop}
use Rattle.hc_order.specs.declared.handed.Handed.{Handed}
use Rattle.hc_order.specs.Determinate.{handed}
use Rattle.hc_det.specs.declared.lists.ChannelList.{ChannelList}
use Rattle.hc_det.specs.Lists.{lists_from}
use Rattle.hc_det.specs.Text.{channels_text, first_line, list_texts}
use Rattle.hc_order.specs.Determinate.{is_determinate}
use Rattle.hc_term.specs.TraceText.{end_line}
use Rattle.hc_order.proofs.Agreeing.{determinate_runs_agree}
use Rattle.hc_det.specs.Laws.{OneChannelsText}

same_lists : (items others : List Item) → ((c : ℕ) → handed c items ≡ handed c others) → (c : ℕ) (names : List (List ℕ)) →
    lists_from items c names ≡ lists_from others c names
same_lists items others same c [] = refl
same_lists items others same c (name ∷ names) =
    ap₂ (λ (hs : List Handed) (ls : List ChannelList). record { name = name; meetings = hs } ∷ ls) (same c) (same_lists items others same (c + 1) names)

same_text : (sys : System) (items others : List Item) (at : Rational) (stop : Stop) → ((c : ℕ) → handed c items ≡ handed c others) →
    channels_text sys items at stop ≡ channels_text sys others at stop
same_text sys items others at stop same =
    ap (λ (ls : List ChannelList). first_line (is_determinate sys) ++ list_texts ls ++ end_line sys at stop) (same_lists items others same 0 sys.channels)

pub one_channels_text : OneChannelsText
one_channels_text t items others end last stop other single is settled also =
    let k = determinate_runs_agree t items others end last stop other single is settled also in (
      k.1,
      same_text t.system items others end.clock stop k.0.lists
          ∙ ap₂ (λ (at : Rational) (s : Stop). channels_text t.system others at s) (ap (λ x. x.clock) k.0.same_end) k.1,
    )
