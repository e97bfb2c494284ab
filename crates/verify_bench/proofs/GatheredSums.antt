-- The sums of intervals, gathered one by one.
use Rattle.{std.specs.Prelude.{nat_eq}, verify_bench.specs.Common.{charge_at, charge_in, pulses_in, ticks_in}}
use Rattle.std.proofs.Common.{[], ℕ, ◌*◌, ◌++◌, ◌+◌, ◌∙◌, ◌∷◌, ◌≡◌, ◌≢◌, ◌≤◌, Bool, List, ap, arith, false, filter, inl}
use Rattle.std.proofs.{Common.{inr, map, refl, suc, sum, sym, true, zero}, lemmas.List.Sums.{sum-map, sum_by-append}}
use Rattle.std.proofs.{Math.Nat.{mul-add}, lemmas.{Bool.{eq-eqb, Decides.{eqb_tells}}, List.Elements.{filter-append}}}
use Rattle.verify_bench.specs.Common.{Both, Context, Distance, InHired, Part, RateSums, Setting, Sums, Time, Way}
use Rattle.verify_bench.specs.Gathered.{IsTableOf, all_ways, no_rate_sums, no_sums, rate_at, rate_sums_with, sums_with}
use Rattle.verify_bench.specs.Groups.{is_charged_by, is_same_way, rate_place_of, rate_sums, sums_of, way_of}

pub sum_more : (f : Part → ℕ) (parts more : List Part)
    → sum (map f (parts ++ more)) ≡ sum (map f parts) + sum (map f more)
sum_more f parts more = rw (sum-map f (parts ++ more), sum-map f parts, sum-map f more) (sum_by-append f parts more)

-- the sums of parts and of more parts
pub sums_more : (s : Setting) (parts more : List Part)
    → sums_of s (parts ++ more) ≡ sums_with (sums_of s parts) (sums_of s more)
sums_more s parts more =
    rw (sum_more pulses_in parts more, sum_more ticks_in parts more, sum_more (charge_in s) parts more) refl

add_none : (n : ℕ) → n + 0 ≡ n
add_none n = omega arith

pub zero_plus : (n : ℕ) → 0 + n ≡ n
zero_plus n = omega arith

pub sums_one : (s : Setting) (part : Part) (sums : Sums)
    → sums ≡ record { pulses = pulses_in part; ticks = ticks_in part; charge = charge_in s part }
    → sums_of s (part ∷ []) ≡ sums
sums_one s part sums is =
    rw (zero_plus (pulses_in part), zero_plus (ticks_in part), zero_plus (charge_in s part)) (sym is)

pub with_none : (a : Sums) → sums_with a no_sums ≡ a
with_none a = rw (add_none a.pulses, add_none a.ticks, add_none a.charge) refl

-- a part more
pub part_more : (s : Setting) (parts : List Part) (part : Part) (sums : Sums)
    → sums ≡ record { pulses = pulses_in part; ticks = ticks_in part; charge = charge_in s part }
    → sums_of s (parts ++ part ∷ []) ≡ sums_with (sums_of s parts) sums
part_more s parts part sums is =
    sums_more s parts (part ∷ []) ∙ ap (sums_with (sums_of s parts)) (sums_one s part sums is)

-- a part more, of those that pass a test
pub kept_more : (s : Setting) (test : Part → Bool) (parts : List Part) (part : Part) (sums : Sums)
    → sums ≡ record { pulses = pulses_in part; ticks = ticks_in part; charge = charge_in s part }
    → test part ≡ true → sums_of s (filter test (parts ++ part ∷ [])) ≡ sums_with (sums_of s (filter test parts)) sums
kept_more s test parts part sums is passes =
    ap (sums_of s) (filter-append test parts (part ∷ []))
    ∙ rw passes (part_more s (filter test parts) part sums is)

pub left_out : (s : Setting) (test : Part → Bool) (parts : List Part) (part : Part) → test part ≡ false
    → sums_of s (filter test (parts ++ part ∷ [])) ≡ sums_of s (filter test parts)
left_out s test parts part fails =
    ap (sums_of s) (filter-append test parts (part ∷ []))
    ∙ rw fails (sums_more s (filter test parts) [] ∙ with_none (sums_of s (filter test parts)))

module _ (s : Setting) (parts : List Part) (p : ℕ) (x : Context) (sums : Sums)
    (is : sums ≡ record { pulses = p; ticks = 1; charge = charge_at s x p }) where
  -- an interval in Hired more, of the rate and the way that charged it
  in_way : (way : Way) → is_same_way (way_of s x p) way ≡ true → (q : ℕ) → rate_place_of s x ≡ q
      → rate_sums s (parts ++ InHired p x ∷ []) q way ≡ sums_with (rate_sums s parts q way) sums
  in_way way same q at =
      kept_more s (is_charged_by s q way) parts (InHired p x) sums is (rw (eq-eqb (rate_place_of s x) q at, same) refl)

  out_of_way : (way : Way) → is_same_way (way_of s x p) way ≡ false → (q : ℕ) → rate_place_of s x ≡ q
      → rate_sums s (parts ++ InHired p x ∷ []) q way ≡ rate_sums s parts q way
  out_of_way way other q at =
      left_out s (is_charged_by s q way) parts (InHired p x) (rw (eq-eqb (rate_place_of s x) q at, other) refl)

  pub way_more : (way : Way) → way_of s x p ≡ way → (q : ℕ) → rate_place_of s x ≡ q
      → all_ways s (parts ++ InHired p x ∷ []) q ≡ rate_sums_with (all_ways s parts q) way sums
  way_more Distance is_way q at = rw (
    in_way Distance (rw is_way refl) q at,
    out_of_way Time (rw is_way refl) q at,
    out_of_way Both (rw is_way refl) q at,
  ) refl
  way_more Time is_way q at = rw (
    out_of_way Distance (rw is_way refl) q at,
    in_way Time (rw is_way refl) q at,
    out_of_way Both (rw is_way refl) q at,
  ) refl
  way_more Both is_way q at = rw (
    out_of_way Distance (rw is_way refl) q at,
    out_of_way Time (rw is_way refl) q at,
    in_way Both (rw is_way refl) q at,
  ) refl

  elsewhere : (way : Way) (q : ℕ) → nat_eq (rate_place_of s x) q ≡ false
      → rate_sums s (parts ++ InHired p x ∷ []) q way ≡ rate_sums s parts q way
  elsewhere way q apart = left_out s (is_charged_by s q way) parts (InHired p x) (rw apart refl)

  pub other_rate : (q : ℕ) → nat_eq (rate_place_of s x) q ≡ false
      → all_ways s (parts ++ InHired p x ∷ []) q ≡ all_ways s parts q
  other_rate q apart = rw (elsewhere Distance q apart, elsewhere Time q apart, elsewhere Both q apart) refl

  -- a table with an interval more is that of the parts with the interval
  pub table_more : (old new : List RateSums) (place : ℕ) (way : Way) → place ≡ rate_place_of s x → way ≡ way_of s x p
      → rate_at new place ≡ rate_sums_with (rate_at old place) way sums
      → ((other : ℕ) → other ≢ place → rate_at new other ≡ rate_at old other)
      → IsTableOf s parts old → IsTableOf s (parts ++ InHired p x ∷ []) new
  table_more old new place way at in_this here others of q = elim (eqb_tells (rate_place_of s x) q) [
    | inl same ↦
        let there : q ≡ place = sym same.1 ∙ sym at in
        rw there here
        ∙ (ap (λ (r : RateSums). rate_sums_with r way sums) (of place)
        ∙ (rw there (sym (way_more way (sym in_this) place (sym at)))))
    | inr apart ↦
        others q (λ e. apart.1 (sym at ∙ sym e)) ∙ (of q ∙ sym (other_rate q apart.0))
  ]

-- charges that are few for their ticks
pub few_more : (charge price unit ticks : ℕ) → charge ≤ 41000000000 * unit * ticks → price ≤ 41000000000 * unit
    → charge + price ≤ 41000000000 * unit * (ticks + 1)
few_more charge price unit ticks few small = rw (mul-add (41000000000 * unit) ticks 1) (omega arith)

-- a table that is longer by a rate that charged nothing
pub pushed_none : (table : List RateSums) (place : ℕ) → rate_at (table ++ no_rate_sums ∷ []) place ≡ rate_at table place
pushed_none [] zero = refl
pushed_none [] (suc place) = refl
pushed_none (r ∷ table) zero = refl
pushed_none (r ∷ table) (suc place) = pushed_none table place
