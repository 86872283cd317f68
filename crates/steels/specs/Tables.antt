-- A sound table makes a factor: its broken line never rises, and is linear between neighbours.
use Rattle.std.specs.Prelude.{◌≡◌, ℕ, suc, ◌+◌, ◌-◌, ◌*◌, ◌/◌, ◌<◌, ◌≤◌, cond, List, [], ◌∷◌, ◌++◌, nat_lt, refl}
use Rattle.std.proofs.Common.{sym, ap, ◌∙◌, subst, mul-le-mul_right, div-add-mod', le_refl, le_trans, arith}
use Rattle.std.proofs.lemmas.Nat.{div_below, div-mul-add, le-div}
use Rattle.std.proofs.lemmas.Bool.{cond_both, cond-false, cond-true, le-ltb, lt-ltb, ltb-false, ltb-true}
use Rattle.steels.specs.declared.table.Reduction.{Reduction}
use Rattle.steels.specs.declared.table.Reduction.TheVariants.{Strength, Stiffness}
use Rattle.steels.specs.declared.table.Row.{Row}
use Rattle.steels.specs.Meaning.{Factor}
use Rattle.steels.specs.Table.{Behind, Linear, Sound, between, cell, clamped, line, tabled}
use Rattle.steels.specs.Lines.{mean_least, mean_most}

by_test : {A : Type 0} (d x : ℕ) (u v : A) (P : A → Type 0) → (d < x → P u) → (x ≤ d → P v) → P (cond (nat_lt d x) u v)
by_test d x u v P under over = cond_both (nat_lt d x) u v P (λ e. under (ltb-true d x e)) (λ e. over (ltb-false d x e))

div_mono : (m n k : ℕ) → 0 < k → m ≤ n → m / k ≤ n / k
div_mono m n k h le = le-div (m / k) n k h (omega (arith, div-add-mod' m k))

cell_falls : (c : Reduction) (p q : Row) → q.strength ≤ p.strength → q.stiffness ≤ p.stiffness → cell c q ≤ cell c p
cell_falls Strength p q y z = y
cell_falls Stiffness p q y z = z

module _ (c : Reduction) (p q : Row) (rises : p.degree < q.degree) (falls : cell c q ≤ cell c p) where
  below_first : (d : ℕ) → p.degree ≤ d → d ≤ q.degree → between c p q d ≤ cell c p
  below_first d low high =
      let a = q.degree - d in
      let b = d - p.degree in
      let k : a + b ≡ q.degree - p.degree = omega arith in
      let most = mean_most (cell c p) (cell c q) a b (cell c p) (le_refl _) falls in
      omega (arith, div_below (cell c p * a + cell c q * b) (q.degree - p.degree) (suc (cell c p)) (omega arith) (omega (arith, rw k at most)))

  above_second : (d : ℕ) → p.degree ≤ d → d ≤ q.degree → cell c q ≤ between c p q d
  above_second d low high =
      let a = q.degree - d in
      let b = d - p.degree in
      let k : a + b ≡ q.degree - p.degree = omega arith in
      let least = mean_least (cell c p) (cell c q) a b (cell c q) falls (le_refl _) in
      le-div (cell c q) (cell c p * a + cell c q * b) (q.degree - p.degree) (omega arith) (rw k at least)

  between_falls : (d e : ℕ) → p.degree ≤ d → d ≤ e → e ≤ q.degree → between c p q e ≤ between c p q d
  between_falls d e low up high =
      let u = cell c p in
      let v = cell c q in
      let there = q.degree - e in
      let past = d - p.degree in
      let moved = e - d in
      let a : q.degree - d ≡ there + moved = omega arith in
      let b : e - p.degree ≡ past + moved = omega arith in
      let less : u * there + v * (past + moved) ≤ u * (there + moved) + v * past = omega (arith, mul-le-mul_right moved falls) in
      div_mono (u * there + v * (e - p.degree)) (u * (q.degree - d) + v * past) (q.degree - p.degree) (omega arith) (rw (a, b) less)

line_most : (c : Reduction) (p : Row) (rows : List Row) (d : ℕ) → Behind p rows → p.degree ≤ d → line c p rows d ≤ cell c p
line_most c p [] d ok low = le_refl _
line_most c p (q ∷ rows) d ok low =
    let falls = cell_falls c p q ok.1 ok.2 in
    by_test d q.degree (between c p q d) (line c q rows d) (λ v. v ≤ cell c p)
    (λ under. below_first c p q ok.0 falls d low (omega arith))
    (λ over. le_trans (line_most c q rows d ok.3 over) falls)

line_falls : (c : Reduction) (p : Row) (rows : List Row) (d e : ℕ) → Behind p rows → p.degree ≤ d → d ≤ e → line c p rows e ≤ line c p rows d
line_falls c p [] d e ok low up = le_refl _
line_falls c p (q ∷ rows) d e ok low up =
    let falls = cell_falls c p q ok.1 ok.2 in
    by_test d q.degree (between c p q d) (line c q rows d) (λ v. line c p (q ∷ rows) e ≤ v)
    (λ under. by_test e q.degree (between c p q e) (line c q rows e) (λ v. v ≤ between c p q d)
    (λ both. between_falls c p q ok.0 falls d e low up (omega arith))
    (λ past. le_trans (line_most c q rows e ok.3 past) (above_second c p q ok.0 falls d low (omega arith))))
    (λ over. rw (cond-false _ (between c p q e) (line c q rows e) (le-ltb e q.degree (le_trans over up))) (line_falls c q rows d e ok.3 over up))

within : (d : ℕ) → 20 ≤ clamped d
within d = omega arith

clamped_rises : (d e : ℕ) → d ≤ e → clamped d ≤ clamped e
clamped_rises d e h = omega arith

pub factor_law : (c : Reduction) (rows : List Row) → Sound rows → Factor (tabled c rows)
factor_law c [] ok = absurd ok
factor_law c (p ∷ rows) ok =
    let low : (d : ℕ) → p.degree ≤ clamped d = λ d. omega (arith, ok.0) in
    record {
      most = λ d. le_trans (line_most c p rows (clamped d) ok.3 (low d)) (cell_most c);
      falls = λ d e h. line_falls c p rows (clamped d) (clamped e) ok.3 (low d) (clamped_rises d e h);
      ends = record {
        cold = λ d h. let e : clamped d ≡ 20 = omega arith in ap (line c p rows) e;
        hot = λ d h. let e : clamped d ≡ 1200 = omega arith in ap (line c p rows) e;
      };
    }
  where
    cell_most : (k : Reduction) → cell k p ≤ 10000
    cell_most Strength = ok.1
    cell_most Stiffness = ok.2

pub ends_hot : (p : Row) (rows : List Row) → Behind p rows → p.degree ≤ 1200
ends_hot p [] ok = omega (arith, ok)
ends_hot p (q ∷ rows) ok = omega (arith, ok.0, ends_hot q rows ok.3)

-- a row further on: what stands behind it, and that its degree is higher
pub further : (b : Row) (bs : List Row) (p : Row) (rows : List Row) → Behind b (bs ++ (p ∷ rows)) → (b.degree < p.degree) × Behind p rows
further b [] p rows ok = (ok.0, ok.3)
further b (r ∷ bs) p rows ok = let h = further r bs p rows ok.3 in (omega (arith, ok.0, h.0), h.1)

module _ (c : Reduction) (p q : Row) (after : List Row) (d : ℕ) (low : p.degree ≤ d) (high : d ≤ q.degree) where
  passed : {A : Type 0} (r : Row) (u v : A) → r.degree ≤ d → cond (nat_lt d r.degree) u v ≡ v
  passed r u v over = cond-false _ u v (le-ltb d r.degree over)

  -- rows before p change nothing
  skips : (b : Row) (bs : List Row) → Behind b (bs ++ (p ∷ q ∷ after)) → line c b (bs ++ (p ∷ q ∷ after)) d ≡ line c p (q ∷ after) d
  skips b [] ok = passed p (between c b p d) (line c p (q ∷ after) d) low
  skips b (r ∷ bs) ok =
      let h = further r bs p (q ∷ after) ok.3 in
      passed r (between c b r d) (line c r (bs ++ (p ∷ q ∷ after)) d) (omega (arith, h.0)) ∙ skips r bs ok.3

line_start : (c : Reduction) (p : Row) (rows : List Row) → Behind p rows → line c p rows p.degree ≡ cell c p
line_start c p [] ok = refl
line_start c p (q ∷ rows) ok =
    let k = q.degree - p.degree in
    let top : cell c p * k + cell c q * (p.degree - p.degree) ≡ cell c p * k + 0 = let z : p.degree - p.degree ≡ 0 = omega arith in rw z (omega arith) in
    cond-true _ _ (line c q rows p.degree) (lt-ltb p.degree q.degree ok.0)
    ∙ (ap (λ n. n / k) top ∙ div-mul-add (cell c p) k 0 (omega (arith, ok.0)))

between_end : (c : Reduction) (p q : Row) → p.degree < q.degree → between c p q q.degree ≡ cell c q
between_end c p q h =
    let k = q.degree - p.degree in
    let top : cell c p * (q.degree - q.degree) + cell c q * k ≡ cell c q * k + 0 = let z : q.degree - q.degree ≡ 0 = omega arith in rw z (omega arith) in
    ap (λ n. n / k) top ∙ div-mul-add (cell c q) k 0 (omega arith)

line_first : (c : Reduction) (p q : Row) (after : List Row) (d : ℕ) → Behind p (q ∷ after) → d ≤ q.degree → line c p (q ∷ after) d ≡ between c p q d
line_first c p q after d ok high =
    by_test d q.degree (between c p q d) (line c q after d) (λ v. v ≡ between c p q d)
    (λ under. refl)
    (λ over. let e : d ≡ q.degree = omega arith in rw e (line_start c q after ok.3 ∙ sym (between_end c p q ok.0)))

pub linear_law : (c : Reduction) (rows : List Row) → Sound rows → Linear c rows (tabled c rows)
linear_law c rows ok before after p q d is low high = rw is (at_split before (subst Sound is ok))
  where
    near : (b : Row) → b.degree ≡ 20 → b.degree ≤ p.degree → Behind p (q ∷ after) → clamped d ≡ d
    near b first up tail = omega (arith, ends_hot q after tail.3)

    at_split : (bs : List Row) → Sound (bs ++ (p ∷ q ∷ after)) → tabled c (bs ++ (p ∷ q ∷ after)) d ≡ between c p q d
    at_split [] sound = ap (line c p (q ∷ after)) (near p sound.0 (le_refl _) sound.3) ∙ line_first c p q after d sound.3 high
    at_split (b ∷ bs) sound =
        let h = further b bs p (q ∷ after) sound.3 in
        ap (line c b (bs ++ (p ∷ q ∷ after))) (near b sound.0 (omega (arith, h.0)) h.1)
        ∙ (skips c p q after d low high b bs sound.3 ∙ line_first c p q after d h.1 high)
