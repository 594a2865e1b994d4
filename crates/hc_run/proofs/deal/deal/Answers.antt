-- One more share, of the next worker.
use Rattle.std.proofs.Common.{inl, inr, refl, sym, ap, ◌∙◌, subst, ◌-◌, All, length, arith}
use Rattle.std.specs.Prelude.{slice_index_or}
use Rattle.std.proofs.lemmas.Bool.{cases_eq}
use Rattle.std.proofs.lemmas.List.Elements.{All-push}
use Rattle.hc_run.specs.Lanes.{AreOf}
use Rattle.hc_run.specs.declared.share.Share.{Share}
use Rattle.hc_run.proofs.deal.deal.Goals as goal

pub loop-dealt-preserved : goal.loop-dealt-preserved
loop-dealt-preserved c =
    let so_far = c.loop-dealt.invariant in
    let old = c.loop-dealt.shares in
    let next = c.in_ok-share_of.field-0 in
    let e = c.in_ok-push.ensures in
    let fits = λ (share : Share). AreOf c.args.used share.worker (length c.args.task.now.system.processes) share.lanes.items in
    record {
      count = omega (arith, e.len, so_far.count);
      lanes = subst (λ xs. All fits xs) (sym e.items)
          (All-push fits old.items next so_far.lanes c.in_ok-share_of.ensures.lanes);
      workers = λ k below d. elim (cases_eq k c.loop-dealt.dealt) [
        | inl same ↦ ap (λ i. (slice_index_or c.push.new.self.items i d).worker) (same ∙ sym so_far.count)
            ∙ ap (λ (share : Share). share.worker) (e.by_index.1 d refl)
            ∙ c.in_ok-share_of.ensures.worker
            ∙ ap (λ i. c.args.used - 1 - i) (sym same)
        | inr other ↦ ap (λ (share : Share). share.worker) (e.by_index.0 k d (omega (arith, below, other, so_far.count)))
            ∙ so_far.workers k (omega (arith, below, other)) d
      ];
    }
