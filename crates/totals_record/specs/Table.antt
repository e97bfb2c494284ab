-- For proofs: the bytes of a durable state as a table that is made of parts, and the tests of its ranges as the code
-- makes them. A state in its ranges fits the table and is spelled by it. Spelling and Ranges have what both mean.
use Rattle.std.specs.{List.{All, flat_map, sum_by}, Prelude.{Some, false, if◌then◌else◌, length, replicate, true}}
use Rattle.std.specs.Prelude.{[], ℕ, ⊤, ◌*◌, ◌++◌, ◌+◌, ◌<◌, ◌==◌, ◌^◌, ◌∷◌, ◌≡◌, ◌≤◌, Bool, IfSome, List, None, Option}
use Rattle.std.proofs.Common.{◌∙◌, add-le-add, ap, append_assoc, le_of_lt, le_trans, lit<, refl, subst, sym, zero-add}
use Rattle.{std.proofs.lemmas.List.Elements.{All-head, All-replicate, All-tail}, totals_record.specs.Entries.{no_share}}
use Rattle.taxi_units.specs.{Limits.{largest_supplements, roaming_amid}, Time.{first_second, last_second}}
use Rattle.taxi_units.specs.Test.{◌&◌, ◌⊕◌, Test, at_most, each, either, if_passes, if_some, less, same, stated}
use Rattle.slot_bodies.specs.Codec.{◌⊗◌, ◌⊙◌, Codec, byte, bytes, eight_bytes, fitting, four_bytes, made, optional, row}
use Rattle.{slot_bodies.specs.Codec.{sixteen_bytes, spell_optional, zeros}, totals_record.specs.Spelling.{trip_bytes}}
use Rattle.slot_bodies.proofs.Laws.{below_of_most, below_of_times, parts_below}
use Rattle.{drive_modes.specs.declared.meterage.Meterage.{Meterage}, totals_record.specs.Bytes.{bit, eight, four}}
use Rattle.totals_record.specs.Common.{Durable, Share, Totals, Trip, largest_amount, last_number, last_tick, within}
use Rattle.totals_record.specs.Ranges.{AreShares, IsDurable, IsHeld, IsTripInItsRanges, newest_layout}
use Rattle.totals_record.specs.Spelling.{course_bytes, head_bytes, held_bytes, meterage_bytes, share_bytes, spelling}

-- ---- the table

-- a yes or no is read again from its byte
pub bit_again : (yes : Bool) → (bit yes == 1) ≡ yes
bit_again true = refl
bit_again false = refl

-- one byte is 1 for a yes, and else a no
abbrev pub one_bit : Codec Bool
one_bit = fitting (λ (yes : Bool). ⊤) (made byte (λ (yes : Bool). bit yes) (λ (n : ℕ). n == 1))
    (λ yes fits. (tt, bit_again yes))

-- the bytes of what the charges of a trip have come to
abbrev pub meterage_table : Codec Meterage
meterage_table = made (sixteen_bytes ⊗ eight_bytes ⊗ sixteen_bytes)
    (λ (m : Meterage). (m.cover_left, (m.steps_full, m.rest)))
    (λ (cover_left, (steps_full, rest)). record { cover_left = cover_left; steps_full = steps_full; rest = rest })

-- the bytes of a held trip
abbrev pub trip_table : Codec Trip
trip_table = made
    (eight_bytes ⊗ eight_bytes ⊗ one_bit ⊗ byte ⊗ byte ⊗ four_bytes ⊗ eight_bytes ⊗ four_bytes ⊗ four_bytes
    ⊗ meterage_table ⊗ bytes 16 ⊗ eight_bytes ⊗ four_bytes)
    (λ (t : Trip). t.started ⊙ t.saved ⊙ t.stopped ⊙ t.position ⊙ t.zone ⊙ t.roam ⊙ t.pulses ⊙ t.ticks ⊙ t.initial
    ⊙ t.meterage ⊙ t.extras ⊙ t.extras_sum ⊙ t.minimum)
    (λ p. record {
      started = p.0;
      saved = p.1.0;
      stopped = p.1.1.0;
      position = p.1.1.1.0;
      zone = p.1.1.1.1.0;
      roam = p.1.1.1.1.1.0;
      pulses = p.1.1.1.1.1.1.0;
      ticks = p.1.1.1.1.1.1.1.0;
      initial = p.1.1.1.1.1.1.1.1.0;
      meterage = p.1.1.1.1.1.1.1.1.1.0;
      extras = p.1.1.1.1.1.1.1.1.1.1.0;
      extras_sum = p.1.1.1.1.1.1.1.1.1.1.1.0;
      minimum = p.1.1.1.1.1.1.1.1.1.1.1.1;
    })

-- so many hirings, and their fares
abbrev pub share_in : (hirings fare : ℕ) → Share
share_in hirings fare = record { hirings = hirings; fare = fare }

-- the bytes of a share
abbrev pub share_table : Codec Share
share_table = made (eight_bytes ⊗ sixteen_bytes) (λ (s : Share). (s.hirings, s.fare))
    (λ (hirings, fare). share_in hirings fare)

-- layout 1 has no bytes of what was counted before there were shares
abbrev pub kept_before : (layout : ℕ) → Share → Share
kept_before layout before = if layout == 1 then no_share else before

-- what was counted before is all hirings and all fares in layout 1, and in a later one what its bytes say
abbrev pub found_before : (layout hirings fare : ℕ) → Share → Share
found_before layout hirings fare before = if layout == 1 then share_in hirings fare else before

-- the bytes of a state in any layout, which has zeros for what came with a later one
abbrev pub table : Codec Durable
table = made
    (eight_bytes ⊗ sixteen_bytes ⊗ sixteen_bytes ⊗ eight_bytes ⊗ sixteen_bytes ⊗ sixteen_bytes ⊗ optional trip_table
    ⊗ row 9 share_table ⊗ share_table ⊗ zeros 82 ⊗ byte)
    (λ (d : Durable).
    let t = d.totals in
    d.number ⊙ t.distance_mm ⊙ t.hired_mm ⊙ t.hirings ⊙ t.supplements ⊙ t.fare ⊙ d.hold
    ⊙ t.shares ⊙ kept_before d.layout t.before ⊙ tt ⊙ d.layout)
    (λ (number, (distance, (hired, (hirings, (supplements, (fare, (hold, (shares, (before, (_, layout)))))))))).
    record {
      number = number;
      totals = record {
        distance_mm = distance;
        hired_mm = hired;
        hirings = hirings;
        supplements = supplements;
        fare = fare;
        shares = shares;
        before = found_before layout hirings fare before;
      };
      hold = hold;
      layout = layout;
    })

-- ---- the tests of the ranges

-- how far a trip has come, beside the number of a state
abbrev pub course_test : ℕ → Trip → Test
course_test number trip =
    at_most first_second trip.started & at_most trip.started last_second
    & at_most trip.started trip.saved & at_most trip.saved last_second
    & within 1 trip.position 9
    & within 1 trip.zone 9
    & at_most trip.roam roaming_amid
    & at_most trip.pulses (2000 * (trip.ticks + number))
    & at_most trip.ticks last_tick
    & at_most trip.initial largest_amount

-- what the charges of a trip of `ticks` intervals have come to
abbrev pub meterage_test : ℕ → Meterage → Test
meterage_test ticks meterage =
    at_most meterage.cover_left (2 * 10 ^ 31)
    & at_most meterage.steps_full (41000000000 * ticks)
    & less meterage.rest (2 * 10 ^ 29)

-- the sixteen counts of supplements
abbrev pub counts_test : List ℕ → Test
counts_test counts = same (length counts) 16 & each (λ count. at_most count 99) counts

-- the supplements of a trip and its minimum fare
abbrev pub extras_test : Trip → Test
extras_test trip =
    counts_test trip.extras & at_most trip.extras_sum largest_supplements & at_most trip.minimum largest_amount

-- a trip, beside the number of a state
abbrev pub trip_test : ℕ → Trip → Test
trip_test number trip = stated (IsTripInItsRanges number trip)
    (course_test number trip & meterage_test trip.ticks trip.meterage & extras_test trip)
    (λ facts.
    let course = facts.0.0 in
    let meterage = facts.0.1 in
    let extras = facts.1 in
    record {
      started = (course.0.0.0.0.0.0.0.0.0, course.0.0.0.0.0.0.0.0.1);
      saved = (course.0.0.0.0.0.0.0.1, course.0.0.0.0.0.0.1);
      position = course.0.0.0.0.0.1;
      zone = course.0.0.0.0.1;
      roam = course.0.0.0.1;
      pulses = course.0.0.1;
      ticks = course.0.1;
      initial = course.1;
      cover_left = meterage.0.0;
      steps_full = meterage.0.1;
      rest = meterage.1;
      extras = extras.0.0;
      extras_sum = extras.0.1;
      minimum = extras.1;
    })
    (λ is.
    (is.started.0 ⊕ is.started.1 ⊕ is.saved.0 ⊕ is.saved.1 ⊕ is.position ⊕ is.zone ⊕ is.roam ⊕ is.pulses ⊕ is.ticks
    ⊕ is.initial)
    ⊕ (is.cover_left ⊕ is.steps_full ⊕ is.rest)
    ⊕ (is.extras ⊕ is.extras_sum ⊕ is.minimum))

-- a trip that is held beside a number
abbrev pub held_test : ℕ → Trip → Test
held_test number trip = stated (IsHeld number trip) (at_most number last_number & trip_test number trip)
    (λ facts. record { room = facts.0; ranges = facts.1 }) (λ is. (is.room, is.ranges))

-- a share of no hiring
abbrev pub none_test : Share → Test
none_test share = stated (share ≡ no_share) (same share.hirings 0 & same share.fare 0)
    (λ facts. λ i. record { hirings = facts.0 i; fare = facts.1 i })
    (λ is. (ap (λ (s : Share). s.hirings) is, ap (λ (s : Share). s.fare) is))

-- shares, with what was counted before, that add up to these hirings and this fare
abbrev pub sums_test : List Share → Share → ℕ → ℕ → Test
sums_test shares before hirings fare =
    same (sum_by (λ share. share.hirings) shares + before.hirings) hirings
    & same (sum_by (λ share. share.fare) shares + before.fare) fare

-- each of the five totals, beside the number of a state
abbrev pub totals_test : ℕ → Totals → Test
totals_test number totals =
    at_most totals.distance_mm (10 ^ 22 * number)
    & at_most totals.hired_mm totals.distance_mm
    & at_most totals.hirings number
    & at_most totals.supplements (10 ^ 10 * number)
    & at_most totals.fare (10 ^ 8 * number)

-- a layout with its nine shares, which in layout 1 are those of no hiring
abbrev pub layout_test : ℕ → List Share → Test
layout_test layout shares =
    same (length shares) 9 & either (same layout 1) (same layout newest_layout)
    & if_passes (same layout 1) (each none_test shares)

-- shares that are each of no hiring are as many of these
pub all_none : (shares : List Share) → All (λ share. share ≡ no_share) shares
    → shares ≡ replicate (length shares) no_share
all_none [] each = refl
all_none (share ∷ others) each =
    let first = All-head (λ s. s ≡ no_share) share others each in
    let rest = all_none others (All-tail (λ s. s ≡ no_share) share others each) in
    λ i. first i ∷ rest i

-- a durable state
abbrev pub durable_test : Durable → Test
durable_test durable =
    let totals = durable.totals in
    stated (IsDurable durable)
    (at_most 1 durable.number & at_most durable.number (last_number + 1)
    & totals_test durable.number totals
    & if_some (held_test durable.number) durable.hold
    & sums_test totals.shares totals.before totals.hirings totals.fare
    & layout_test durable.layout totals.shares)
    (λ facts.
    let bounds = facts.0.0.0.1 in
    let sums = facts.0.1 in
    let layout = facts.1 in
    record {
      number = facts.0.0.0.0;
      distance = bounds.0.0.0.0;
      hired = bounds.0.0.0.1;
      hirings = bounds.0.0.1;
      supplements = bounds.0.1;
      fare = bounds.1;
      held = facts.0.0.1;
      shares = record {
        nine = layout.0.0;
        hirings = sums.0;
        fare = sums.1;
        unshared = λ one. all_none totals.shares (layout.1 one)
            ∙ ap (λ (n : ℕ). replicate n no_share) layout.0.0;
      };
      layout = layout.0.1;
    })
    (λ is.
    let none = λ (one : durable.layout ≡ 1). subst (All (λ share. share ≡ no_share)) (sym (is.shares.unshared one))
    (All-replicate (λ (s : Share). s ≡ no_share) 9 no_share refl) in
    is.number
    ⊕ (is.distance ⊕ is.hired ⊕ is.hirings ⊕ is.supplements ⊕ is.fare)
    ⊕ is.held
    ⊕ (is.shares.hirings ⊕ is.shares.fare)
    ⊕ (is.shares.nine ⊕ is.layout ⊕ none))

-- ---- what is in its ranges fits its bytes

-- a trip in its ranges fits
pub trip_fits : (number : ℕ) (trip : Trip) → number ≤ last_number → IsTripInItsRanges number trip → trip_table.Fits trip
trip_fits number trip room is = (
  below_of_most is.started.1 tt ⊙ below_of_most is.saved.1 tt ⊙ tt ⊙ tt ⊙ tt ⊙ below_of_most is.roam tt
      ⊙ below_of_times 2000 is.pulses (add-le-add is.ticks room) tt ⊙ below_of_most is.ticks tt
      ⊙ below_of_most is.initial tt ⊙ meterage ⊙ is.extras.0 ⊙ below_of_most is.extras_sum tt
      ⊙ below_of_most is.minimum tt,
  refl,
)
  where
    meterage : meterage_table.Fits trip.meterage
    meterage = (
      below_of_most is.cover_left tt ⊙ below_of_times 41000000000 is.steps_full is.ticks tt
          ⊙ below_of_most (le_of_lt is.rest) tt,
      refl,
    )

-- what is held fits
pub held_fits : (number : ℕ) (hold : Option Trip) → IfSome hold (IsHeld number) → IfSome hold trip_table.Fits
held_fits number None held = tt
held_fits number (Some trip) held = trip_fits number trip held.room held.ranges

-- totals fit if each of their numbers fits into its field
pub record Fit (totals : Totals) : Type 0 where
  pub distance : totals.distance_mm < 2 ^ 128
  pub hired : totals.hired_mm < 2 ^ 128
  pub hirings : totals.hirings < 2 ^ 64
  pub supplements : totals.supplements < 2 ^ 128
  pub fare : totals.fare < 2 ^ 128
  pub shares_hirings : All (λ share. share.hirings < 2 ^ 64) totals.shares
  pub shares_fare : All (λ share. share.fare < 2 ^ 128) totals.shares

-- a share that is kept fits, if it fits
kept_fits : (one : Bool) (share : Share) → share_table.Fits share
    → share_table.Fits (if one then no_share else share)
kept_fits true share fits = ((lit< tt, lit< tt), refl)
kept_fits false share fits = fits

-- in layout 1 what was counted before is all
all_before : (layout : ℕ) (totals : Totals) → AreShares layout totals → layout ≡ 1
    → share_in totals.hirings totals.fare ≡ totals.before
all_before layout totals is one =
    let before = totals.before in
    let none = is.unshared one in
    let hirings : totals.hirings ≡ before.hirings =
    sym is.hirings ∙ (λ i. sum_by (λ share. share.hirings) (none i) + before.hirings) ∙ zero-add before.hirings in
    let fare : totals.fare ≡ before.fare =
    sym is.fare ∙ (λ i. sum_by (λ share. share.fare) (none i) + before.fare) ∙ zero-add before.fare in
    λ i. share_in (hirings i) (fare i)

-- what was counted before is found again
before_again : (one : Bool) (all before : Share) → (one ≡ true → all ≡ before)
    → (if one then all else if one then no_share else before) ≡ before
before_again true all before same = same refl
before_again false all before same = refl

-- a state in its ranges fits the table
pub fits : (durable : Durable) → IsDurable durable → table.Fits durable
fits durable is =
    let totals = durable.totals in
    let one = durable.layout == 1 in
    let few_hirings : totals.hirings < 2 ^ 64 = below_of_most (le_trans is.hirings is.number.1) tt in
    let low_fare : totals.fare < 2 ^ 128 = below_of_times (10 ^ 8) is.fare is.number.1 tt in
    let hirings = parts_below (λ (share : Share). share.hirings) totals.shares is.shares.hirings few_hirings in
    let fare = parts_below (λ (share : Share). share.fare) totals.shares is.shares.fare low_fare in
    let shares : All share_table.Fits totals.shares = λ k d within. ((hirings.0 k d within, fare.0 k d within), refl) in
    let before = before_again one (share_in totals.hirings totals.fare) totals.before
    (λ first. all_before durable.layout totals is.shares ((same durable.layout 1).decides.0 first)) in (
      below_of_most is.number.1 tt ⊙ below_of_times (10 ^ 22) is.distance is.number.1 tt
          ⊙ below_of_times (10 ^ 22) (le_trans is.hired is.distance) is.number.1 tt ⊙ few_hirings
          ⊙ below_of_times (10 ^ 10) is.supplements is.number.1 tt ⊙ low_fare
          ⊙ held_fits durable.number durable.hold is.held ⊙ (is.shares.nine ⊙ shares)
          ⊙ kept_fits one totals.before ((hirings.1, fare.1), refl) ⊙ tt ⊙ tt,
      λ i. record durable { totals = record totals { before = before i } },
    )

-- ---- the spelling is that of the table

-- the bytes of a trip are those of its table
pub trip_spelled : (trip : Trip) → trip_bytes trip ≡ trip_table.spell trip
trip_spelled trip = ap (λ (l : List ℕ). (course_bytes trip ++ meterage_bytes trip.meterage) ++ l)
    (append_assoc trip.extras (eight trip.extras_sum) (four trip.minimum))

-- the bytes of what is held are those of its table
pub held_spelled : (hold : Option Trip) → held_bytes hold ≡ spell_optional trip_table hold
held_spelled None = refl
held_spelled (Some trip) = ap (λ (l : List ℕ). 1 ∷ l) (trip_spelled trip)

-- the bytes of the shares, of what was counted before, and the zeros behind them are those of the table
shared_spelled : (one : Bool) (totals : Totals) → (one ≡ true → totals.shares ≡ replicate 9 no_share)
    → (if one then replicate 322 0
    else flat_map share_bytes totals.shares ++ share_bytes totals.before ++ replicate 82 0)
    ≡ flat_map share_bytes totals.shares ++ share_bytes (if one then no_share else totals.before) ++ replicate 82 0
shared_spelled true totals none =
    ap (λ (l : List Share). flat_map share_bytes l ++ share_bytes no_share ++ replicate 82 0) (sym (none refl))
shared_spelled false totals none = refl

-- the bytes of a state are those of the table
pub spelled : (durable : Durable) → IsDurable durable → spelling durable ≡ table.spell durable
spelled durable is =
    let totals = durable.totals in
    let head = head_bytes durable.number totals in
    let held = held_spelled durable.hold in
    let front = head ++ spell_optional trip_table durable.hold in
    let shared = shared_spelled (durable.layout == 1) totals
    (λ one. is.shares.unshared ((same durable.layout 1).decides.0 one)) in
    let row = flat_map share_bytes totals.shares in
    let before = share_bytes (kept_before durable.layout totals.before) in
    let spare = replicate 82 0 in
    let end = durable.layout ∷ [] in
    (λ i. ((head ++ held i) ++ shared i) ++ end)
    ∙ append_assoc front ((row ++ before) ++ spare) end
    ∙ ap (λ (l : List ℕ). front ++ l) (append_assoc (row ++ before) spare end ∙ append_assoc row before (spare ++ end))
