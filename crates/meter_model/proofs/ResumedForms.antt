-- A trip that is opened from its saved form has the saved form of the whole trip.
use Rattle.std.proofs.Common.{[], ℕ, ◌%◌, ◌*◌, ◌++◌, ◌+◌, ◌-◌, ◌/◌, ◌<◌, ◌∙◌, ◌∷◌, ◌≡◌, ◌≤◌, All, Bool, List, Option}
use Rattle.std.proofs.{Common.{ap, arith, length, map, refl, subst, suc, sum, sym, zero}, lemmas.Grind.{common_steps}}
use Rattle.{std.proofs.lemmas.List.Elements.{All-head, All-tail}, meter_model.specs.Trip.{pulses_in, ticks_in, trip_of}}
use Rattle.drive_modes.specs.{Fare.{above_cover}, declared.meterage.Meterage.{Meterage}}
use Rattle.meter_model.specs.Common.{SoundTariff, Supplement, saved, supplement_numbered}
use Rattle.meter_model.{specs.KeptTrip.{IsSupplementNumber, with_more}, proofs.Resumed.{times-cons-same}}
use Rattle.meter_model.{specs.Setting.{Setting, modulus_of}, proofs.Fares.{above-more, sum-lists}}
use Rattle.meter_model.specs.Supplements.{amount_in, amounts_from, amounts_of, counts_from, counts_of, times}
use Rattle.meter_model.specs.Trip.{MeterTrip, Part, charge_in, charges_of, core_trip_of, held_trip, numbers_from}
use Rattle.meter_model.proofs.Resumed.{amounts-numbers, counts-earlier, counts-numbers, same_form, times-cons-other}
use Rattle.drive_modes.specs.Fare as fares
use Rattle.meter_model.specs.Trip as model

-- ---- counts of supplements

times-append : (n : ℕ) (xs ys : List ℕ) → times n (xs ++ ys) ≡ times n xs + times n ys
times-append n xs ys = grind (arith, common_steps)

length-counts : (many n : ℕ) (xs : List ℕ) → length (counts_from many n xs) ≡ many
unfolding counts_from
length-counts zero n xs = refl
length-counts (suc many) n xs = ap suc (length-counts many (n + 1) xs)

-- lists with the same counts have the same counts with more behind them
counts-behind : (many n : ℕ) (xs ys more : List ℕ) → counts_from many n xs ≡ counts_from many n ys
    → counts_from many n (xs ++ more) ≡ counts_from many n (ys ++ more)
unfolding counts_from
counts-behind zero n xs ys more same = refl
counts-behind (suc many) n xs ys more same =
    let first : times n xs ≡ times n ys = cc in
    let others : counts_from many (n + 1) xs ≡ counts_from many (n + 1) ys = cc in
    let head : times n (xs ++ more) ≡ times n (ys ++ more) =
    omega (arith, times-append n xs more, times-append n ys more, first) in
    let tail = counts-behind many (n + 1) xs ys more others in
    cc

-- numbers that are counted are listed again, each as often
counts-listed : (xs : List ℕ) → counts_of (numbers_from 1 (counts_of xs)) ≡ counts_of xs
counts-listed xs = subst (λ (n : ℕ). counts_from n 1 (numbers_from 1 (counts_of xs)) ≡ counts_of xs)
    (length-counts 16 1 xs) (counts-numbers 1 (counts_of xs))

-- ---- their amounts

-- a number behind those of the list, i after the first, adds its amount
amounts-counted : (f : ℕ → Option Supplement) (many n i x : ℕ) (xs : List ℕ) → x ≡ n + i → i < many
    → amounts_from f n (counts_from many n (x ∷ xs)) ≡ amount_in (f x) + amounts_from f n (counts_from many n xs)
unfolding counts_from
amounts-counted f zero n i x xs is within = absurd (omega arith)
amounts-counted f (suc many) n zero x xs is within =
    let same : x ≡ n = omega arith in
    let here : times n (x ∷ xs) ≡ times n xs + 1 =
    subst (λ (k : ℕ). times k (x ∷ xs) ≡ times k xs + 1) same (times-cons-same x xs) in
    let there : counts_from many (n + 1) (x ∷ xs) ≡ counts_from many (n + 1) xs =
    counts-earlier many 1 (n + 1) x xs (omega arith) in
    let rest = ap (λ (cs : List ℕ). amounts_from f (n + 1) cs) there in
    let amount : amount_in (f n) ≡ amount_in (f x) = ap (λ (k : ℕ). amount_in (f k)) (sym same) in
    let head = ap (λ (k : ℕ). k * amount_in (f n)) here in
    let one : (times n xs + 1) * amount_in (f n) ≡ times n xs * amount_in (f n) + amount_in (f n) = omega arith in
    omega (arith, head, one, amount, rest)
amounts-counted f (suc many) n (suc i) x xs is within =
    let here : times n (x ∷ xs) ≡ times n xs = times-cons-other n x xs (omega arith) in
    let head = ap (λ (k : ℕ). k * amount_in (f n)) here in
    let there = amounts-counted f many (n + 1) i x xs (omega arith) (omega arith) in
    omega (arith, head, there)

amounts-none : (f : ℕ → Option Supplement) (many n : ℕ) → amounts_from f n (counts_from many n []) ≡ 0
unfolding counts_from
amounts-none f zero n = refl
amounts-none f (suc many) n = omega (arith, amounts-none f many (n + 1))

-- the counts of a list of supplements have the amounts of the list
amounts-of-counts : (t : SoundTariff) (xs : List ℕ) → All IsSupplementNumber xs
    → amounts_from (supplement_numbered t.supplements) 1 (counts_of xs) ≡ amounts_of t xs
amounts-of-counts t [] are = amounts-none (supplement_numbered t.supplements) 16 1
amounts-of-counts t (x ∷ xs) are =
    let is : IsSupplementNumber x = All-head IsSupplementNumber x xs are in
    let from : 1 ≤ x = is.0 in
    let most : x ≤ 16 = is.1 in
    let place : x ≡ 1 + (x - 1) = omega arith in
    let within : x - 1 < 16 = omega arith in
    let more : amounts_from (supplement_numbered t.supplements) 1 (counts_of (x ∷ xs))
    ≡ amount_in (supplement_numbered t.supplements x)
    + amounts_from (supplement_numbered t.supplements) 1 (counts_of xs) =
    amounts-counted (supplement_numbered t.supplements) 16 1 (x - 1) x xs place within in
    let others = amounts-of-counts t xs (All-tail IsSupplementNumber x xs are) in
    let parted : amounts_of t (x ∷ xs) ≡ amount_in (supplement_numbered t.supplements x) + amounts_of t xs =
    grind (arith, common_steps) in
    more ∙ ap (λ (n : ℕ). amount_in (supplement_numbered t.supplements x) + n) others ∙ sym parted

amounts-listed : (t : SoundTariff) (xs more : List ℕ) → All IsSupplementNumber xs
    → amounts_of t (numbers_from 1 (counts_of xs) ++ more) ≡ amounts_of t (xs ++ more)
amounts-listed t xs more are =
    let amount = λ (number : ℕ). amount_in (supplement_numbered t.supplements number) in
    omega (
      arith,
      sum-lists amount (numbers_from 1 (counts_of xs)) more,
      sum-lists amount xs more,
      amounts-numbers t 1 (counts_of xs),
      amounts-of-counts t xs are,
    )

-- ---- charges

same_saved : (cover cover' above above' modulus : ℕ) → cover ≡ cover' → above ≡ above'
    → ◌≡◌ {A = Meterage} (record { cover_left = cover; steps_full = above / modulus; rest = above % modulus })
    (record { cover_left = cover'; steps_full = above' / modulus; rest = above' % modulus })
same_saved cover cover' above above' modulus is more = cc

-- a saved form of charges, with further ones, is that of both
saved-more : (o : fares.Opening) (a b : ℕ) → saved (fares.opening_of o.modulus (saved o a)) b ≡ saved o (a + b)
saved-more o a b =
    same_saved (o.cover - a - b) (o.cover - (a + b)) (above_cover (fares.opening_of o.modulus (saved o a)) b)
    (above_cover o (a + b)) o.modulus (omega arith) (above-more o a b)

pub forms-resumed : (s : Setting) (t : MeterTrip) (parts : List Part) (extras : List ℕ) (second : ℕ) (stopped : Bool)
    (position zone : ℕ)
    → All IsSupplementNumber t.extras
    → core_trip_of s (with_more parts extras (trip_of s (held_trip s second stopped position zone t)))
    ≡ core_trip_of s (with_more parts extras t)
forms-resumed s t parts extras second stopped position zone are =
    let o = model.opening_of s t in
    let pulses : t.opening.pulses + sum (map pulses_in t.parts) + sum (map pulses_in parts)
    ≡ t.opening.pulses + sum (map pulses_in (t.parts ++ parts)) =
    omega (arith, sum-lists pulses_in t.parts parts) in
    let ticks : t.opening.ticks + sum (map ticks_in t.parts) + sum (map ticks_in parts)
    ≡ t.opening.ticks + sum (map ticks_in (t.parts ++ parts)) =
    omega (arith, sum-lists ticks_in t.parts parts) in
    let further = sum (map (charge_in s) parts) in
    let meterage : saved (fares.opening_of (modulus_of s) (saved o (charges_of s t))) further
    ≡ saved o (charges_of s (with_more parts extras t)) =
    saved-more o (charges_of s t) further ∙ ap (saved o) (sym (sum-lists (charge_in s) t.parts parts)) in
    let counts = counts-behind 16 1 (numbers_from 1 (counts_of t.extras)) t.extras extras (counts-listed t.extras) in
    let amounts = amounts-listed s.tariff t.extras extras are in
    same_form (core_trip_of s (with_more parts extras t)) _ _ _ _ _ _ _ _ _ _ pulses ticks meterage counts amounts
