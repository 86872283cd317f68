-- Carbon steel keeps the laws of a steel.
use Rattle.std.specs.Prelude.{◌≡◌, ℕ, zero, suc, ◌<◌, ◌≤◌, Bool, true, ◌&&◌, nat_le, refl}
use Rattle.std.proofs.Common.{ap, arith}
use Rattle.std.proofs.lemmas.Bool.{and_parts, and_from, le-leb, leb-true}
use Rattle.std.proofs.lemmas.Bool.Decides.{Decides-below_and}
use Rattle.steels.specs.declared.table.Reduction.{Reduction}
use Rattle.steels.specs.Carbon.{carbon_capacity, carbon_factor, carbon_rows, capacity_formula}
use Rattle.steels.specs.Meaning.{Capacity, Factor}
use Rattle.steels.specs.Table.{Linear, Sound, clamped}
use Rattle.steels.specs.Tables.{factor_law, linear_law}

pub carbon_sound : Sound carbon_rows
carbon_sound = omega arith

pub carbon_factor_law : (r : Reduction) → Factor (carbon_factor r)
carbon_factor_law r = factor_law r carbon_rows carbon_sound

pub carbon_linear : (r : Reduction) → Linear r carbon_rows (carbon_factor r)
carbon_linear r = linear_law r carbon_rows carbon_sound

capacity_in_range : ℕ → Bool
capacity_in_range d = nat_le 300 (capacity_formula d) && nat_le (capacity_formula d) 6000

-- the range of the heat capacity is tried at each whole degree
all_below : ℕ → Bool
all_below zero = true
all_below (suc n) = capacity_in_range n && all_below n

tried : (d : ℕ) → d < 1201 → (300 ≤ capacity_formula d) × (capacity_formula d ≤ 6000)
unfolding capacity_in_range all_below
tried d h =
    (Decides-below_and capacity_in_range (λ k. (300 ≤ capacity_formula k) × (capacity_formula k ≤ 6000)) all_below
    (λ k. (
      (λ t. let both = and_parts (nat_le 300 (capacity_formula k)) (nat_le (capacity_formula k) 6000) t in (leb-true _ _ both.0, leb-true _ _ both.1)),
      (λ both. and_from _ _ (le-leb _ _ both.0) (le-leb _ _ both.1)),
    ))
    refl (λ _. refl) 1201).0 refl d h

pub carbon_capacity_law : Capacity carbon_capacity
carbon_capacity_law = record {
  least = λ d. (tried (clamped d) (omega arith)).0;
  most = λ d. (tried (clamped d) (omega arith)).1;
  ends = record {
    cold = λ d h. let e : clamped d ≡ 20 = omega arith in ap capacity_formula e;
    hot = λ d h. let e : clamped d ≡ 1200 = omega arith in ap capacity_formula e;
  };
}
