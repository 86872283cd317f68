-- The quotient rounded up is the least whole number that is not below it.
use Rattle.std.proofs.Common.{◌≡◌, ℕ, zero, suc, ◌+◌, ◌-◌, ◌*◌, ◌/◌, ◌%◌, ◌^◌, ◌<◌, ◌≤◌, min, ℤ, pos, negsuc, ◌*ℤ◌, neg_ℤ, nat_abs, ◌≤ℤ◌, ◌<ℤ◌, sym, refl, ap, ◌∙◌, mul-le-mul_left, div-add-mod', zero-mul, div-le_self, arith, w64, to_z}
use lib.Signed.{mag}
use Rattle.std.proofs.lemmas.Nat.{div-mul-add, mod_below, div_below, le-div}
use Rattle.std.proofs.lemmas.Int.{ints, to_z-of_z, to_z_pos}
use Rattle.rounding.specs.Quotient.{RoundedUp, ceil, rounded_up}

parts : (q d r : ℕ) → r < d → ceil (q * d + r) d ≡ q + min 1 r
parts q d zero h = ap (λ x. x / d) (omega arith) ∙ (div-mul-add q d (d - 1) (omega arith) ∙ omega arith)
parts q d (suc r) h = ap (λ x. x / d) (omega arith) ∙ (div-mul-add (suc q) d r (omega arith) ∙ omega arith)

-- what is left over counts as one more
pub ceil_by_parts : (n d : ℕ) → 0 < d → n / d + min 1 (n % d) ≡ ceil n d
ceil_by_parts n d h = sym (parts (n / d) d (n % d) (mod_below n d h)) ∙ ap (λ x. ceil x d) (div-add-mod' n d)

-- the wrapped negative of a size is the negative number of that size
pub negative : (x q : ℕ) → x < 2 ^ 64 → q ≤ 2 ^ 63 → (x + q) % 2 ^ 64 ≡ 0 → to_z w64 x ≡ neg_ℤ (pos q)
negative x zero fits small wraps = let e : x ≡ 0 = omega arith in ap (to_z w64) e
negative x (suc q) fits small wraps = ap (to_z w64) (omega arith) ∙ to_z-of_z w64 (negsuc q) (record { sfits = omega arith })

neg_times : (q d : ℕ) → neg_ℤ (pos q) *ℤ pos d ≡ neg_ℤ (pos (q * d))
neg_times zero d = rw zero-mul
neg_times (suc q) d = refl

not_under : (n d : ℕ) → 0 < d → n ≤ ceil n d * d
not_under n d h = let x = n + (d - 1) in omega (arith, div-add-mod' x d, mod_below x d h)

fewest : (n d k : ℕ) → 0 < d → n ≤ k * d → ceil n d ≤ k
fewest n d k h le = omega (arith, div_below (n + (d - 1)) d (suc k) h (omega arith))

pub least : (n : ℤ) (d : ℕ) → 0 < d → RoundedUp n d (rounded_up n d)
least (pos n) d h = record { not_below = omega (arith, ints, not_under n d h); least = none_less }
  where
    none_less : (p : ℤ) → pos n ≤ℤ (p *ℤ pos d) → pos (ceil n d) ≤ℤ p
    none_less (pos k) le = omega (arith, ints, fewest n d k h (omega (arith, ints)))
    none_less (negsuc k) le = omega (arith, ints, mul-le-mul_left (suc k) h)
least (negsuc n) d h = record { not_below = rw neg_times (omega (arith, ints, div-add-mod' (suc n) d)); least = none_less }
  where
    none_less : (p : ℤ) → negsuc n ≤ℤ (p *ℤ pos d) → neg_ℤ (pos (suc n / d)) ≤ℤ p
    none_less (pos k) le = omega (arith, ints)
    none_less (negsuc k) le = omega (arith, ints, le-div (suc k) (suc n) d h (omega (arith, ints)))

-- what the code answers, below 0 and from 0 on
pub loss : (n : ℤ) (d x : ℕ) → n <ℤ pos 0 → nat_abs n ≤ 2 ^ 63 → x < 2 ^ 64 → (x + nat_abs n / d) % 2 ^ 64 ≡ 0 → to_z w64 x ≡ rounded_up n d
loss (pos n) d x below small fits wraps = omega (arith, ints)
loss (negsuc n) d x below small fits wraps = negative x (suc n / d) fits (omega (arith, div-le_self (suc n) d)) wraps

pub gain : (n : ℤ) (d x : ℕ) → 0 < d → pos 0 ≤ℤ n → mag n < 2 ^ 63 → x ≡ nat_abs n / d + min 1 (nat_abs n % d) → to_z w64 x ≡ rounded_up n d
gain (pos n) d x h above small e = let whole = e ∙ ceil_by_parts n d h in ap (to_z w64) whole ∙ to_z_pos w64 (ceil n d) (omega (arith, fewest n d n h (omega (arith, mul-le-mul_left n h))))
gain (negsuc n) d x h above small e = omega (arith, ints)
