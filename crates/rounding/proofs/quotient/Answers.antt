use Rattle.std.proofs.Common.{◌≡◌, ℕ, ◌+◌, ◌/◌, ◌%◌, ◌^◌, ◌<◌, min, ℤ, nat_abs, sym, ap, ◌∙◌, subst, arith, w64, to_z, of_z}
use lib.Signed.{mag}
use Rattle.std.proofs.lemmas.Int.{ints, to_z-of_z}
use Rattle.rounding.specs.Quotient.{RoundedUp, rounded_up}
use Rattle.rounding.proofs.Least.{gain, least, loss}
use Rattle.rounding.proofs.quotient.Goals as goal

answer : (n : ℤ) (d : ℕ) (r : ℤ) → 0 < d → mag r < 2 ^ 63 → r ≡ rounded_up n d → record { value : to_z w64 (of_z w64 r) ≡ rounded_up n d; least : RoundedUp n d (to_z w64 (of_z w64 r)) }
answer n d r positive fits e =
    let same = to_z-of_z w64 r (record { sfits = fits }) ∙ e in
    record { value = same; least = subst (RoundedUp n d) (sym same) (least n d positive) }

pub returns-then-n-lt0 : goal.returns-then-n-lt0
returns-then-n-lt0 c =
    let size : c.unsigned_abs-size.result ≡ nat_abs c.args.n = c.unsigned_abs-size.ensures.value ∙ ap nat_abs (to_z-of_z w64 c.args.n c.ranges.n) in
    let wraps = subst (λ (q : ℕ). (c.wrapping_neg.result + q) % 2 ^ 64 ≡ 0) (c.times_whole.ensures ∙ ap (λ s. s / c.args.d) size) c.wrapping_neg.ensures in
    answer c.args.n c.args.d c.cast_signed.result c.requires c.cast_signed.type_inv
    (c.cast_signed.ensures ∙ loss c.args.n c.args.d c.wrapping_neg.result (omega (arith, ints)) (omega (arith, size)) c.wrapping_neg.type_inv wraps)

pub returns-else-n-lt0 : goal.returns-else-n-lt0
returns-else-n-lt0 c =
    let size : c.unsigned_abs-size.result ≡ nat_abs c.args.n = c.unsigned_abs-size.ensures.value ∙ ap nat_abs (to_z-of_z w64 c.args.n c.ranges.n) in
    answer c.args.n c.args.d c.cast_signed-else-n-lt0.result c.requires c.cast_signed-else-n-lt0.type_inv
    (c.cast_signed-else-n-lt0.ensures ∙ gain c.args.n c.args.d c.times_begun.result (omega arith) (omega (arith, ints)) c.ranges.n.sfits (c.times_begun.ensures ∙ ap (λ s. s / c.args.d + min 1 (s % c.args.d)) size))
