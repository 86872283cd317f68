-- What the place of the first gas temperature outside its range says of a list.
use Rattle.std.proofs.Common.{refl, None, sym, ◌∙◌, ◌+◌, not, ◌≡◌, ℕ, zero, suc, ◌≤◌, List, [], ◌∷◌, length, le_of_suc-le-suc, arith}
use Rattle.std.proofs.lemmas.Iterator.Adapters.{position_from-zero}
use Rattle.std.proofs.lemmas.Bool.Decides.{nat_tests}
use Rattle.std.specs.List.{position, position_from}
use Rattle.std.specs.Option.{option_map}
use Rattle.fires.specs.GasDegrees.{is_gas_degree, GasDegrees}
use Rattle.fires.specs.Gas.{gas_fault, outside_from}

-- where the first temperature outside stands, counted from i, says why a list is refused
outside_at : (i : ℕ) (gs : List ℕ) → option_map (λ k. (9, k ∷ [])) (position_from (λ g. not (is_gas_degree g)) i gs) ≡ outside_from i gs
outside_at i [] = refl
outside_at i (g ∷ gs) = let next = outside_at (suc i) gs in grind (arith, nat_tests)

-- the same of a list that is not too long, from its first temperature on
pub fault_at : (gs : List ℕ) → length gs ≤ 4096 → option_map (λ k. (9, k ∷ [])) (position (λ g. not (is_gas_degree g)) gs) ≡ gas_fault gs
fault_at gs short = let e = outside_at 0 gs in let p = position_from-zero (λ g. not (is_gas_degree g)) gs in grind (arith, nat_tests)

-- where there is none, every temperature lies inside
inside_from : (i : ℕ) (gs : List ℕ) → position_from (λ g. not (is_gas_degree g)) i gs ≡ None → GasDegrees gs
inside_from i [] none k h = omega arith
inside_from i (g ∷ gs) none zero h = grind (arith, nat_tests)
inside_from i (g ∷ gs) none (suc k) h = inside_from (i + 1) gs (grind (arith, nat_tests)) k (le_of_suc-le-suc h)

pub inside : (gs : List ℕ) → position (λ g. not (is_gas_degree g)) gs ≡ None → GasDegrees gs
inside gs none = inside_from 0 gs (sym (position_from-zero (λ g. not (is_gas_degree g)) gs) ∙ none)
