use Rattle.std.proofs.Common.{refl, arith}
use Rattle.trial.proofs.Heats.{heating_done, heating_more, heating_starts, heating_stopped}
use Rattle.trial.proofs.sheet.Sheet.make_steps.Goals as goal

pub loop-made-init : goal.loop-made-init
loop-made-init g c = heating_starts _ (omega (arith, c.args.self.now.column.few))

pub returns-in-Err : goal.returns-in-Err
returns-in-Err g c =
    heating_stopped _ _ c.loop-made.made c.loop-made.invariant c.args.asked _ c.loop-made-test.true c.in-Err.ensures.stop

pub loop-made-preserved : goal.loop-made-preserved
loop-made-preserved g c =
    let next = c.in-Ok.ensures in
    let added = c.add.ensures in
    heating_more _ _ c.loop-made.made c.loop-made.invariant c.in-Ok.temperature.millidegrees _ next.stop next.end
    (record { parts = refl; load = refl; standing = added.standing; new = added.new; kept = added.kept })

pub returns : goal.returns
returns g c = heating_done _ _ c.loop-made.made c.loop-made.invariant c.args.asked (omega arith) (omega (arith, c.args.self.now.column.few))
