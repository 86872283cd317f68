-- The points of a mill sheet: the walk that looks for a fault.
use Rattle.std.specs.Prelude.{◌≡◌, ℕ, suc, ◌+◌, ◌-◌, ◌<◌, ◌≤◌, Bool, true, false, cond, not, ◌&&◌, ◌||◌, List, [], ◌∷◌, ◌++◌, map, length, get_or, take, drop, is_some, Some, None, Option, ◌==◌, nat_le, nat_lt, slice_index_or, refl}
use Rattle.std.proofs.Common.{sym, ap, subst, ◌∙◌, le_refl, add-one, arith, length-drop}
use Rattle.std.proofs.lemmas.List.{at_drop_more, take_rest, map-append}
use Rattle.std.proofs.lemmas.Bool.{and_parts, cond_both, cond-false, cond-true, eq-eqb, eqb-true, false≢true, le-ltb, leb-true, lt-ltb, ltb-true, ne_eqb, true≢false}
use Rattle.std.specs.List.{AllByRecursion}
use Rattle.steels.specs.declared.point.Point.{Point}
use Rattle.steels.specs.declared.table.Reduction.{Reduction}
use Rattle.steels.specs.Meaning.{Capacity, Factor}
use Rattle.steels.specs.Mill.{Follows, LastNotAbove, capacity_from, degree_fits, falls, in_range, is_last, point_fault, rises, row_of, sheet_capacity, sheet_factor, sheet_fault}
use Rattle.steels.specs.Table.{Behind, Sound, clamped}
use Rattle.steels.specs.Tables.{factor_law, further, linear_law}

last_by_length : (xs : List Point) (n : ℕ) (i : ℕ) → length xs + i ≡ n → is_last xs ≡ (i == n)
last_by_length [] n i e = sym (eq-eqb i n (omega arith))
last_by_length (x ∷ xs) n i e = sym (ne_eqb i n (omega arith))

-- the walk at point i, behind the point before it
module _ (points : List Point) (i : ℕ) (none : Point) (before : Option Point) (within : i < length points) where
  abbrev here : Point
  here = slice_index_or points i none

  abbrev fits : Bool
  fits = degree_fits before here (i + 1 == length points)

  abbrev good : Bool
  good = in_range here && falls before here

  next : point_fault i before (drop i points) ≡ cond fits (cond good (point_fault (i + 1) (Some here) (drop (i + 1) points)) (Some (7, i ∷ []))) (Some (6, i ∷ []))
  next =
      at_drop_more (point_fault i before) points i none within
      ∙ (ap (λ l. cond (degree_fits before here l) (cond good (point_fault (suc i) (Some here) (drop (i + 1) points)) (Some (7, i ∷ []))) (Some (6, i ∷ [])))
      (last_by_length (drop (i + 1) points) (length points) (i + 1) (omega (arith, length-drop (i + 1) points)))
      ∙ ap (λ k. cond fits (cond good (point_fault k (Some here) (drop (i + 1) points)) (Some (7, i ∷ []))) (Some (6, i ∷ []))) (sym (add-one i)))

  pub stops_at_degree : fits ≡ false → Some (6, i ∷ []) ≡ point_fault i before (drop i points)
  stops_at_degree bad = sym (next ∙ cond-false _ _ _ bad)

  pub stops_at_figure : fits ≡ true → good ≡ false → Some (7, i ∷ []) ≡ point_fault i before (drop i points)
  stops_at_figure fine bad = sym (next ∙ (cond-true _ _ _ fine ∙ cond-false _ _ _ bad))

  pub goes_on : fits ≡ true → good ≡ true → point_fault (i + 1) (Some here) (drop (i + 1) points) ≡ point_fault i before (drop i points)
  goes_on fine well = sym (next ∙ (cond-true _ _ _ fine ∙ cond-true _ _ _ well))

-- ---- what points without fault are

-- a heat capacity in its range
abbrev pub Warm : ℕ → Type 0
Warm c = (300 ≤ c) × (c ≤ 6000)

no_fault : {A : Type 0} (b : Bool) (x : Option A) (y : A) → is_some (cond b x (Some y)) ≡ false → (b ≡ true) × (is_some x ≡ false)
no_fault true x y h = (refl, h)
no_fault false x y h = absurd (true≢false h)

final_degree : (p : Point) (last : Bool) → (not last || p.degree == 1200) ≡ true → last ≡ true → p.degree ≡ 1200
final_degree p true h e = eqb-true p.degree 1200 h
final_degree p false h e = absurd (false≢true e)

-- the parts of a point's two tests
module _ (i : ℕ) (before : Option Point) (p : Point) (points : List Point) (clean : is_some (point_fault i before (p ∷ points)) ≡ false) where
  outer : (degree_fits before p (is_last points) ≡ true) × (is_some (cond (in_range p && falls before p) (point_fault (suc i) (Some p) points) (Some (7, i ∷ []))) ≡ false)
  outer = no_fault (degree_fits before p (is_last points)) (cond (in_range p && falls before p) (point_fault (suc i) (Some p) points) (Some (7, i ∷ []))) (6, i ∷ []) clean

  inner : ((in_range p && falls before p) ≡ true) × (is_some (point_fault (suc i) (Some p) points) ≡ false)
  inner = no_fault (in_range p && falls before p) (point_fault (suc i) (Some p) points) (7, i ∷ []) outer.1

  first_part : rises before p ≡ true
  first_part = (and_parts (rises before p) _ outer.0).0

  ends_right : is_last points ≡ true → p.degree ≡ 1200
  ends_right = final_degree p (is_last points) (and_parts (rises before p) _ outer.0).1

  falling : falls before p ≡ true
  falling = (and_parts (in_range p) _ inner.0).1

  ranges : ((p.strength ≤ 10000) × (p.stiffness ≤ 10000)) × Warm p.capacity
  ranges =
      let all = (and_parts (in_range p) _ inner.0).0 in
      let halves = and_parts (nat_le p.strength 10000 && nat_le p.stiffness 10000) _ all in
      let factors = and_parts (nat_le p.strength 10000) _ halves.0 in
      let heat = and_parts (nat_le 300 p.capacity) _ halves.1 in
      ((leb-true _ _ factors.0, leb-true _ _ factors.1), (leb-true _ _ heat.0, leb-true _ _ heat.1))

  the_rest : is_some (point_fault (suc i) (Some p) points) ≡ false
  the_rest = inner.1

behind : (i : ℕ) (b : Point) (points : List Point) → is_some (point_fault i (Some b) points) ≡ false → (is_last points ≡ true → b.degree ≡ 1200) → Behind (row_of b) (map row_of points) × AllByRecursion (λ p. Warm p.capacity) points
behind i b [] clean last = (last refl, tt)
behind i b (p ∷ points) clean last =
    let tail = behind (suc i) p points (the_rest i (Some b) p points clean) (ends_right i (Some b) p points clean) in
    let down = and_parts (nat_le p.strength b.strength) _ (falling i (Some b) p points clean) in (
      (ltb-true b.degree p.degree (first_part i (Some b) p points clean), leb-true _ _ down.0, leb-true _ _ down.1, tail.0),
      ((ranges i (Some b) p points clean).1, tail.1),
    )

pub sheet_sound : (points : List Point) → is_some (sheet_fault points) ≡ false → Sound (map row_of points) × AllByRecursion (λ p. Warm p.capacity) points
sheet_sound [] clean = absurd (true≢false clean)
sheet_sound (p ∷ points) clean =
    let inside = (no_fault (nat_le 2 (length (p ∷ points)) && nat_le (length (p ∷ points)) 64) (point_fault 0 None (p ∷ points)) (5, []) clean).1 in
    let tail = behind 1 p points (the_rest 0 None p points inside) (ends_right 0 None p points inside) in
    let top = ranges 0 None p points inside in
    ((eqb-true p.degree 20 (first_part 0 None p points inside), top.0.0, top.0.1, tail.0), (top.1, tail.1))

pub few_points : (points : List Point) → is_some (sheet_fault points) ≡ false → length points ≤ 64
few_points points clean = leb-true _ _ (and_parts (nat_le 2 (length points)) _ (no_fault (nat_le 2 (length points) && nat_le (length points) 64) (point_fault 0 None points) (5, []) clean).0).1

-- ---- the heat capacity of a sheet

warm_from : (c : ℕ) (points : List Point) (d : ℕ) → Warm c → AllByRecursion (λ p. Warm p.capacity) points → Warm (capacity_from c points d)
warm_from c [] d h all = h
warm_from c (p ∷ points) d h all =
    cond_both (nat_lt d p.degree) c (capacity_from p.capacity points d) Warm (λ _. h) (λ _. warm_from p.capacity points d all.0 all.1)

pub sheet_capacity_law : (points : List Point) → is_some (sheet_fault points) ≡ false → Capacity (sheet_capacity points)
sheet_capacity_law [] clean = absurd (true≢false clean)
sheet_capacity_law (p ∷ points) clean =
    let all = (sheet_sound (p ∷ points) clean).1 in
    record {
      least = λ d. (warm_from p.capacity points (clamped d) all.0 all.1).0;
      most = λ d. (warm_from p.capacity points (clamped d) all.0 all.1).1;
      ends = record {
        cold = λ d h. let e : clamped d ≡ 20 = omega arith in ap (capacity_from p.capacity points) e;
        hot = λ d h. let e : clamped d ≡ 1200 = omega arith in ap (capacity_from p.capacity points) e;
      };
    }

pub sheet_factor_law : (c : Reduction) (points : List Point) → is_some (sheet_fault points) ≡ false → Factor (sheet_factor c points)
sheet_factor_law c points clean = factor_law c (map row_of points) (sheet_sound points clean).0

-- p is the last point that is not above d
module _ (p : Point) (after : List Point) (d : ℕ) (low : p.degree ≤ d) (later : AllByRecursion (λ q. d < q.degree) after) where
  stays : (c : ℕ) (points : List Point) → AllByRecursion (λ q. d < q.degree) points → capacity_from c points d ≡ c
  stays c [] above = refl
  stays c (q ∷ points) above = cond-true _ c _ (lt-ltb d q.degree above.0)

  comes_to : (b : Point) (bs : List Point) → Behind (row_of b) (map row_of (bs ++ (p ∷ after))) → capacity_from b.capacity (bs ++ (p ∷ after)) d ≡ p.capacity
  comes_to b [] ok = cond-false _ _ _ (le-ltb d p.degree low) ∙ stays p.capacity after later
  comes_to b (r ∷ bs) ok =
      let up = (further (row_of r) (map row_of bs) (row_of p) (map row_of after) (subst (Behind (row_of r)) (map-append row_of bs (p ∷ after)) ok.3)).0 in
      cond-false _ _ _ (le-ltb d r.degree (omega (arith, up))) ∙ comes_to r bs ok.3

pub last_not_above : (points : List Point) → Sound (map row_of points) → LastNotAbove points (sheet_capacity points)
last_not_above points ok before after p d is low high later = rw is (at_split before (subst (λ ps. Sound (map row_of ps)) is ok))
  where
    near : (b : Point) → b.degree ≡ 20 → b.degree ≤ p.degree → clamped d ≡ d
    near b first up = omega arith

    at_split : (bs : List Point) → Sound (map row_of (bs ++ (p ∷ after))) → sheet_capacity (bs ++ (p ∷ after)) d ≡ p.capacity
    at_split [] sound = ap (capacity_from p.capacity after) (near p sound.0 (le_refl _)) ∙ stays p after d low later p.capacity after later
    at_split (b ∷ bs) sound =
        let up = (further (row_of b) (map row_of bs) (row_of p) (map row_of after) (subst (Behind (row_of b)) (map-append row_of bs (p ∷ after)) sound.3)).0 in
        ap (capacity_from b.capacity (bs ++ (p ∷ after))) (near b sound.0 (omega (arith, up))) ∙ comes_to p after d low later b bs sound.3

pub follows : (points : List Point) → is_some (sheet_fault points) ≡ false → Follows points
follows points clean =
    let sound = (sheet_sound points clean).0 in
    record { factors = λ c. linear_law c (map row_of points) sound; capacity = last_not_above points sound }

-- ---- the walk that looks for the heat capacity, at point i

module _ (c : ℕ) (points : List Point) (i : ℕ) (none : Point) (d : ℕ) (within : i < length points) where
  pub keeps : d < (get_or points i none).degree → c ≡ capacity_from c (drop i points) d
  keeps under = sym (at_drop_more (λ ps. capacity_from c ps d) points i none within ∙ cond-true _ _ _ (lt-ltb d _ under))

  pub takes : (get_or points i none).degree ≤ d → capacity_from (get_or points i none).capacity (drop (i + 1) points) d ≡ capacity_from c (drop i points) d
  takes over = sym (at_drop_more (λ ps. capacity_from c ps d) points i none within ∙ cond-false _ _ _ (le-ltb d _ over))

-- the start of that walk
pub no_points : (points : List Point) (d : ℕ) → length points < 1 → 0 ≡ sheet_capacity points d
no_points [] d short = refl
no_points (p ∷ points) d short = omega arith

pub from_first : (points : List Point) (none : Point) (d e r : ℕ) → 0 < length points → e ≡ clamped d → r ≡ capacity_from (get_or points 0 none).capacity (take (length points - 1) (drop 1 points)) e → r ≡ sheet_capacity points d
from_first [] none d e r some near told = omega arith
from_first (p ∷ points) none d e r some near told =
    told ∙ (ap (λ ps. capacity_from p.capacity ps e) (take_rest (p ∷ points) 1) ∙ ap (capacity_from p.capacity points) near)
