use Rattle.std.proofs.Common.{◌≡◌, ◌∙◌, Bool, true, ap, sym}
use Rattle.hc_cmd.specs.declared.ending.Text.{Text}
use Rattle.hc_cmd.specs.Prepared.{reply_in}
use Rattle.hc_cmd.specs.Running.{told}
use Rattle.hc_cmd.proofs.Finding.{ok_found}
use Rattle.hc_cmd.proofs.running.told_of.Goals as goal

pub returns : goal.returns
returns c =
    let over = c.args.over in
    let listed = ok_found (λ (t : Text). reply_in t ≡ told true over.joint over.report.items) _
    c.listing_of.result c.map_err.result c.in_ok-listing.listing c.listing_of.ensures c.map_err.ensures.cases c.in_ok-listing.was in
    (tt, listed ∙ ap (λ (b : Bool). told b over.joint over.report.items) (sym c.if-not-channels.false))
