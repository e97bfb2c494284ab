-- A held trip that is opened is saved again as it was held.
use Rattle.std.proofs.Common.{[], ℕ, ◌*◌, ◌++◌, ◌+◌, ◌<◌, ◌∙◌, ◌∷◌, ◌≡◌, List, None, Option, Some, ap, arith, length}
use Rattle.std.proofs.{Common.{option_map, refl, replicate, subst, suc, sym, zero}, lemmas.Grind.{common_steps}}
use Rattle.drive_modes.{specs.declared.meterage.Meterage.{Meterage}, proofs.Laws.{saved-any}}
use Rattle.meter_model.specs.{Common.{SoundTariff, Trip, supplement_numbered}, declared.core_trip.CoreTrip.{CoreTrip}}
use Rattle.meter_model.specs.{KeptTrip.{FitsSetting, HoldFits, IsSavedIn}, Setting.{Setting, modulus_of}}
use Rattle.meter_model.specs.Supplements.{amount_in, amounts_from, amounts_of, counts_from, counts_of, times}
use Rattle.meter_model.specs.Trip.{core_trip_in, held_trip, numbers_from, saved_at, trip_of}

pub times-cons-same : (n : ℕ) (xs : List ℕ) → times n (n ∷ xs) ≡ times n xs + 1
times-cons-same n xs = grind (arith, common_steps)

pub times-cons-other : (n k : ℕ) (xs : List ℕ) → n < k → times n (k ∷ xs) ≡ times n xs
times-cons-other n k xs below = grind (arith, common_steps)

times-cons-above : (n k : ℕ) (xs : List ℕ) → k < n → times n (k ∷ xs) ≡ times n xs
times-cons-above n k xs above = grind (arith, common_steps)

-- a number that is repeated counts as often, and doesn't change how often the others are there
times-repeated : (c n : ℕ) (xs : List ℕ) → times n (replicate c n ++ xs) ≡ c + times n xs
times-repeated zero n xs = omega arith
times-repeated (suc c) n xs = omega (arith, times-cons-same n (replicate c n ++ xs), times-repeated c n xs)

times-past : (c n k : ℕ) (xs : List ℕ) → n < k → times n (replicate c k ++ xs) ≡ times n xs
times-past zero n k xs below = refl
times-past (suc c) n k xs below = times-cons-other n k (replicate c k ++ xs) below ∙ times-past c n k xs below

times-earlier : (c n k : ℕ) (xs : List ℕ) → k < n → times n (replicate c k ++ xs) ≡ times n xs
times-earlier zero n k xs above = refl
times-earlier (suc c) n k xs above = times-cons-above n k (replicate c k ++ xs) above ∙ times-earlier c n k xs above

times-none : (n k : ℕ) (cs : List ℕ) → k < n → times k (numbers_from n cs) ≡ 0
times-none n k [] below = refl
times-none n k (c ∷ cs) below = times-past c k n (numbers_from (n + 1) cs) below ∙ times-none (n + 1) k cs (omega arith)

pub counts-earlier : (many c n k : ℕ) (xs : List ℕ) → k < n
    → counts_from many n (replicate c k ++ xs) ≡ counts_from many n xs
unfolding counts_from
counts-earlier zero c n k xs above = refl
counts-earlier (suc many) c n k xs above =
    let head = times-earlier c n k xs above in
    let tail = counts-earlier many c (n + 1) k xs (omega arith) in
    cc

pub counts-numbers : (n : ℕ) (cs : List ℕ) → counts_from (length cs) n (numbers_from n cs) ≡ cs
unfolding counts_from
counts-numbers n [] = refl
counts-numbers n (c ∷ cs) =
    let none = times-none (n + 1) n cs (omega arith) in
    let head : times n (replicate c n ++ numbers_from (n + 1) cs) ≡ c =
    omega (arith, times-repeated c n (numbers_from (n + 1) cs), none) in
    let tail =
    counts-earlier (length cs) c (n + 1) n (numbers_from (n + 1) cs) (omega arith) ∙ counts-numbers (n + 1) cs in
    cc

amounts-repeated : (t : SoundTariff) (c n : ℕ) (xs : List ℕ)
    → amounts_of t (replicate c n ++ xs) ≡ c * amount_in (supplement_numbered t.supplements n) + amounts_of t xs
amounts-repeated t zero n xs = omega arith
amounts-repeated t (suc c) n xs = grind (arith, common_steps, amounts-repeated t c n xs)

pub amounts-numbers : (t : SoundTariff) (n : ℕ) (cs : List ℕ)
    → amounts_of t (numbers_from n cs) ≡ amounts_from (supplement_numbered t.supplements) n cs
amounts-numbers t n [] = refl
amounts-numbers t n (c ∷ cs) =
    omega (arith, amounts-repeated t c n (numbers_from (n + 1) cs), amounts-numbers t (n + 1) cs)

-- what a core keeps of a trip is the same if its sums are
pub same_form : (whole : CoreTrip) (p q t u : ℕ) (m n : Meterage) (xs ys : List ℕ) (a b : ℕ)
    → p ≡ q → t ≡ u → m ≡ n → xs ≡ ys → a ≡ b
    → record whole { pulses = p; ticks = t; meterage = m; extras = xs; extras_sum = a }
    ≡ record whole { pulses = q; ticks = u; meterage = n; extras = ys; extras_sum = b }
same_form whole p q t u m n xs ys a b pulses ticks meterage counts amounts = cc

pub resumed-saved : (s : Setting) (h : Trip) → FitsSetting s h
    → held_trip s h.saved h.stopped h.position h.zone (trip_of s h) ≡ h
resumed-saved s h fits =
    let numbers = numbers_from 1 h.extras in
    let counts : counts_of numbers ≡ h.extras =
    subst (λ (n : ℕ). counts_from n 1 numbers ≡ h.extras) fits.extras (counts-numbers 1 h.extras) in
    let amounts : amounts_of s.tariff numbers ≡ h.extras_sum =
    amounts-numbers s.tariff 1 h.extras ∙ sym fits.extras_sum in
    let meterage = sym (saved-any (modulus_of s) h.meterage fits.rest) in
    let pulses : h.pulses + 0 ≡ h.pulses = omega arith in
    let ticks : h.ticks + 0 ≡ h.ticks = omega arith in
    ap (saved_at h.saved h.stopped h.position h.zone)
    (same_form (core_trip_in h) _ _ _ _ _ _ _ _ _ _ pulses ticks meterage counts amounts)

-- what a run begins with
pub begins : (s : Setting) (hold : Option Trip) → HoldFits s hold → IsSavedIn s hold (option_map (trip_of s) hold)
begins s None fits = refl
begins s (Some h) fits = sym (ap (λ (x : Trip). Some (core_trip_in x)) (resumed-saved s h fits))
