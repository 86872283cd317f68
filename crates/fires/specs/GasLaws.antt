-- The answers of a gas curve keep the laws of a fire.
use Rattle.std.specs.Prelude.{◌≡◌, ℕ, ◌+◌, ◌*◌, ◌^◌, ◌<◌, ◌≤◌, List, length, take, ℤ, pos, ◌+ℤ◌, ◌-ℤ◌, ◌*ℤ◌, Ok, Err, nat_lt, slice_index}
use Rattle.std.proofs.Common.{sym, arith, of_z, to_z}
use Rattle.std.proofs.Math.Nat.{pow-le-pow_left}
use Rattle.std.specs.Int.{w32, w64}
use Rattle.rounding.specs.Quotient.{rounded_up}
use Rattle.std.proofs.lemmas.List.{get_or-take, length-take-le}
use Rattle.std.proofs.lemmas.Int.{ints}
use Rattle.std.proofs.lemmas.Bool.{cond_both, cond-false, cond-true, le-ltb, lt-ltb, ltb-true}
use Rattle.std.proofs.lemmas.Bool.Decides.{nat_tests}
use Rattle.fires.specs.GasDegrees.{GasDegree, GasDegrees}
use Rattle.fires.specs.Gas.{gas_flux, gas_tells, steel_degree}
use Rattle.fires.specs.Meaning.{Answers, InRange, Within}
use Rattle.fires.specs.declared.meaning.NoFlux.TheVariants.{Ended}
use Rattle.fires.specs.RoundedWithin.{rounded_within}

-- a fourth power is at most that of the hottest degree
pub fourth_most : (d : ℕ) → d ≤ 1200 → (d + 273) ^ 4 ≤ 1473 ^ 4
fourth_most d h = let l : d + 273 ≤ 1473 = omega arith in pow-le-pow_left l 4

-- the difference of two fourth powers, as the code has it
pub powers_apart : (a b : ℤ) (m n : ℕ) → a ≡ pos m → b ≡ pos n → m ≤ 1473 ^ 4 → n ≤ 1473 ^ 4
    → to_z w64 (of_z w64 (to_z w64 (of_z w64 a) -ℤ to_z w64 (of_z w64 b))) ≡ pos m -ℤ pos n
powers_apart a b m n p q h k = omega (arith, ints)

-- the sum as the code has it, with r for the radiation
pub flux_sum : (g s : ℕ) (r : ℤ) → g ≤ 1200 → s ≤ 1200 → Within 200000 r
    → to_z w32 (of_z w32 (to_z w64 (of_z w64 (to_z w64 (of_z w64 (pos 25 *ℤ to_z w64 (of_z w64 (to_z w64 g -ℤ to_z w64 s)))) +ℤ to_z w64 (of_z w64 r)))))
    ≡ pos 25 *ℤ (pos g -ℤ pos s) +ℤ r
flux_sum g s r h k w = omega (arith, ints)

module _ (g s : ℕ) (gas : GasDegree g) (steel : GasDegree s) where
  radiated : Within (200000 * 100_000_000_000) (pos 3969 *ℤ (pos ((g + 273) ^ 4) -ℤ pos ((s + 273) ^ 4)))
  radiated = omega (arith, ints, fourth_most g gas.1, fourth_most s steel.1)

  pub radiation_within : Within 200000 (rounded_up (pos 3969 *ℤ (pos ((g + 273) ^ 4) -ℤ pos ((s + 273) ^ 4))) 100_000_000_000)
  radiation_within = rounded_within _ 200000 100_000_000_000 (omega arith) radiated

  gas_range : InRange (Ok (gas_flux g s))
  gas_range = omega (arith, ints, radiation_within)

-- the steel's degree lies in the same range as the gas
steel_degree_within : (t : ℕ) → GasDegree (steel_degree t)
steel_degree_within t = omega arith

pub gas_answers : (gs : List ℕ) → GasDegrees gs → Answers (length gs) (gas_tells gs)
gas_answers gs each =
    record {
      range = λ k t. cond_both (nat_lt k (length gs)) _ (Err Ended) InRange
          (λ e. gas_range (slice_index gs k) (steel_degree t) (each k (ltb-true _ _ e)) (steel_degree_within t)) (λ _. tt);
      cold = λ k t h. let e : steel_degree t ≡ 20 = omega arith in simp e;
      hot = λ k t h. let e : steel_degree t ≡ 1200 = omega arith in simp e;
      ended = λ k _ h. cond-false _ _ _ (le-ltb k (length gs) h);
      ends = λ k t e. grind (arith, nat_tests);
    }

-- what a step's place in the store says is what the curve says
pub gas_place : (store : List ℕ) (count k t : ℕ) → count ≤ length store → k < count
    → Ok (gas_flux (slice_index store k) (steel_degree t)) ≡ gas_tells (take count store) k t
gas_place store count k t fits h =
    let n : length (take count store) ≡ count = length-take-le count store fits in
    let within : k < length (take count store) = rw n h in
    rw (← get_or-take count store k 0 h) (sym (cond-true _ _ _ (lt-ltb k (length (take count store)) within)))
