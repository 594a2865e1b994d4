use Rattle.std.proofs.Common.{◌∷◌, length, ap, arith, length-append}
use Rattle.hc_trace.proofs.UnderWay.{started, went_on, ended_bare, ended, refused_bare, refused_row, refused_behind, refused_bare_header, refused_header, is_left, none_left}
use Rattle.hc_trace.proofs.reading.read_lines.Goals as goal

pub returns-in_default-clause-refusal : goal.returns-in_default-clause-refusal
returns-in_default-clause-refusal c = refused_bare_header c.args.bytes.now c.in_default.ensures

pub returns-in_default-version_of-clause-refusal :
    goal.returns-in_default-version_of-clause-refusal
returns-in_default-version_of-clause-refusal c =
    refused_header c.args.bytes.now c.in-Some.header.now c.in-Some.rest.now c.in-Some.ensures.1 c.in-Some.ensures.0 c.in_default-version_of.ensures

pub loop-rest-init : goal.loop-rest-init
loop-rest-init c =
    rw c.new-lines.ensures (started c.in-Some-version_of.version c.args.bytes.now c.in-Some.header.now c.in-Some.rest.now c.in-Some.ensures.1 c.in-Some-version_of.ensures)

pub returns-in_default-cut-clause-refusal : goal.returns-in_default-cut-clause-refusal
returns-in_default-cut-clause-refusal c =
    refused_bare c.in-Some-version_of.version c.args.bytes.now c.loop-rest.lines c.loop-rest.rest.now c.loop-rest.number c.loop-rest.invariant
    (is_left c.loop-rest.rest.now c.is_empty.result c.is_empty.ensures c.loop-rest-test.true) c.in_default-cut.ensures

pub overflow_add-result : goal.overflow_add-result
overflow_add-result c =
    omega (arith, c.requires, c.loop-rest.invariant.small, ap length c.in-Some-cut.ensures.1, length-append c.in-Some-cut.row.now (10 ∷ c.in-Some-cut.after.now))

pub returns-then-not-is_empty-clause-refusal : goal.returns-then-not-is_empty-clause-refusal
returns-then-not-is_empty-clause-refusal c =
    refused_behind c.in-Some-version_of.version c.args.bytes.now c.loop-rest.lines c.loop-rest.rest.now c.in-Some-cut.row.now c.in-Some-cut.after.now c.loop-rest.number
    c.in-Some-end_of.end c.loop-rest.invariant c.in-Some-cut.ensures.1 c.in-Some-end_of.ensures.0 c.in-Some-end_of.ensures.1
    (is_left c.in-Some-cut.after.now c.is_empty-in-Some-end_of.result c.is_empty-in-Some-end_of.ensures c.if-not-is_empty.true)

pub returns-in-Some-end_of-clause-trace : goal.returns-in-Some-end_of-clause-trace
returns-in-Some-end_of-clause-trace c =
    ended c.in-Some-version_of.version c.args.bytes.now c.loop-rest.lines c.loop-rest.rest.now c.in-Some-cut.row.now c.in-Some-cut.after.now c.loop-rest.number
    c.in-Some-end_of.end c.loop-rest.invariant c.in-Some-cut.ensures.1
    (none_left c.in-Some-cut.after.now c.is_empty-in-Some-end_of.result c.is_empty-in-Some-end_of.ensures c.if-not-is_empty.false)
    c.in-Some-end_of.ensures.0 c.in-Some-end_of.ensures.1

pub returns-in_default-line_of-clause-refusal : goal.returns-in_default-line_of-clause-refusal
returns-in_default-line_of-clause-refusal c =
    refused_row c.in-Some-version_of.version c.args.bytes.now c.loop-rest.lines c.loop-rest.rest.now c.in-Some-cut.row.now c.in-Some-cut.after.now c.loop-rest.number
    c.loop-rest.invariant c.in-Some-cut.ensures.1 c.in-Some-cut.ensures.0 c.in_default-line_of.ensures c.in_default-end_of.ensures

pub overflow_add-number : goal.overflow_add-number
overflow_add-number c =
    omega (arith, c.requires, c.loop-rest.invariant.small, ap length c.in-Some-cut.ensures.1, length-append c.in-Some-cut.row.now (10 ∷ c.in-Some-cut.after.now))

pub loop-rest-smaller : goal.loop-rest-smaller
loop-rest-smaller c =
    omega (arith, ap length c.in-Some-cut.ensures.1, length-append c.in-Some-cut.row.now (10 ∷ c.in-Some-cut.after.now))

pub loop-rest-preserved : goal.loop-rest-preserved
loop-rest-preserved c =
    rw c.in_ok-push.ensures.ok (went_on c.in-Some-version_of.version c.args.bytes.now c.loop-rest.lines c.loop-rest.rest.now c.in-Some-cut.row.now c.in-Some-cut.after.now
    c.loop-rest.number c.in-Some-line_of.line c.loop-rest.invariant c.in-Some-cut.ensures.1 c.in-Some-line_of.ensures.0 c.in-Some-line_of.ensures.1)

pub returns-clause-trace : goal.returns-clause-trace
returns-clause-trace c =
    ended_bare c.in-Some-version_of.version c.args.bytes.now c.loop-rest.lines c.loop-rest.rest.now c.loop-rest.number c.loop-rest.invariant
    (none_left c.loop-rest.rest.now c.is_empty.result c.is_empty.ensures c.loop-rest-test.false)
