use Rattle.std.proofs.Common.{sym, refl, inl}
use Rattle.hc_joint.proofs.Lent.{able_here, stop_stands, leases_not, is_there, leases}
use Rattle.hc_joint.proofs.joint.Joint.lease.Goals as goal

pub returns-then-is_some : goal.returns-then-is_some
returns-then-is_some c at is =
    let j = c.self.inside in
    (refl, inl (stop_stands j.scene j.stop j.turns j.recomputed c.self.invariant c.args.self.now c.self.view_is (sym c.if-is_some.ensures)))

pub returns-then-not-is_able : goal.returns-then-not-is_able
returns-then-not-is_able c at is =
    let j = c.self.inside in
    let able = able_here j.scene j.stop j.turns j.recomputed c.self.invariant c.args.process _ c.if-not-is_able.ensures in
    leases_not j.scene j.stop j.turns j.recomputed c.self.invariant c.args.process c.args.self.now c.self.view_is (sym able)
    c.args.advance.now at is

pub lend-requires : goal.lend-requires
lend-requires c =
    let j = c.self.inside in
    record {
      there = is_there j.scene j.stop j.turns j.recomputed c.self.invariant c.args.process
          (sym (able_here j.scene j.stop j.turns j.recomputed c.self.invariant c.args.process _ c.if-not-is_able.ensures));
    }

pub returns : goal.returns
returns c at is =
    let j = c.self.inside in
    let able = sym (able_here j.scene j.stop j.turns j.recomputed c.self.invariant c.args.process _ c.if-not-is_able.ensures) in
    leases j.scene j.stop j.turns j.recomputed c.self.invariant c.args.process able c.if-is_some.ensures
    c.args.self.now c.self.view_is c.args.advance.now _ c.lend.result c.lend.ensures at is
