use Rattle.std.proofs.Common.{◌≡◌, sym, ap, ap₂, ◌∙◌, false, true, Some, None}
use Rattle.std.specs.declared.cmp.Ordering.TheVariants as side
use Rattle.hc_rational.specs.Words.{rank, is_zero}
use Rattle.hc_term.specs.EndMoment.{crossing, or_else}
use Rattle.hc_cross.proofs.Sides.{told_before, told_there, told_beyond, told_now, told_later}
use Rattle.hc_cross.proofs.gaps.side_at.Goals as goal

pub returns-in-Less : goal.returns-in-Less
returns-in-Less c =
    let l = c.args.gap.now.line in
    let is : crossing l.at l.slope ≡ Some c.in-Some.crossing = cc in
    let by : rank c.args.moment c.in-Some.crossing ≡ side.Less = cc in
    c.compare-now.ensures ∙ ap (rank l.at) c.zero.ensures
    ∙ sym (told_before l.at l.slope c.args.moment c.in-Some.crossing is by)

pub returns-in-Equal : goal.returns-in-Equal
returns-in-Equal c =
    let l = c.args.gap.now.line in
    let is : crossing l.at l.slope ≡ Some c.in-Some.crossing = cc in
    let by : rank c.args.moment c.in-Some.crossing ≡ side.Equal = cc in
    sym (told_there l.at l.slope c.args.moment c.in-Some.crossing is by)

pub returns-in-Greater : goal.returns-in-Greater
returns-in-Greater c =
    let l = c.args.gap.now.line in
    let is : crossing l.at l.slope ≡ Some c.in-Some.crossing = cc in
    let by : rank c.args.moment c.in-Some.crossing ≡ side.Greater = cc in
    c.compare-later.ensures ∙ ap (rank l.slope) c.zero-2.ensures
    ∙ sym (told_beyond l.at l.slope c.args.moment c.in-Some.crossing is by)

pub returns-in-None : goal.returns-in-None
returns-in-None c =
    let l = c.args.gap.now.line in
    let now : is_zero c.args.moment ≡ true = cc in
    c.compare-now.ensures ∙ ap (rank l.at) c.zero.ensures ∙ sym (told_now l.at l.slope c.args.moment now)

pub returns-in-None-2 : goal.returns-in-None-2
returns-in-None-2 c =
    let l = c.args.gap.now.line in
    let none : crossing l.at l.slope ≡ None = cc in
    let later : is_zero c.args.moment ≡ false = cc in
    c.just_after.ensures
    ∙ ap₂ or_else (c.compare-now.ensures ∙ ap (rank l.at) c.zero.ensures) (c.compare-later.ensures ∙ ap (rank l.slope) c.zero-2.ensures)
    ∙ sym (told_later l.at l.slope c.args.moment none c.requires.from_now later)
