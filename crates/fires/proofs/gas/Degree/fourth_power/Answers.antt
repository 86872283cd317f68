use Rattle.std.proofs.Common.{◌≡◌, ◌+◌, pos, arith, w64, to_z, of_z}
use Rattle.std.proofs.lemmas.Int.{ints}
use Rattle.fires.specs.GasLaws.{fourth_most}
use Rattle.fires.proofs.gas.Degree.fourth_power.Goals as goal

pub pow-requires : goal.pow-requires
pow-requires c =
    let same : to_z w64 (of_z w64 c.from.result) ≡ pos (c.args.self.whole + 273) = omega (arith, ints) in
    rw same (omega (arith, ints, fourth_most c.args.self.whole c.args.self.within.1))
