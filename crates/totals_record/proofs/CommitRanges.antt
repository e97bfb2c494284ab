-- The ranges hold after what the meter commits.
use Rattle.std.{specs.List.{sum_by}, proofs.Common.{get_or, if◌then◌else◌, is_some, length, refl, rules, set, true}}
use Rattle.std.proofs.Common.{ℕ, ◌+◌, ◌-◌, ◌<◌, ◌∙◌, ◌≡◌, ◌≤◌, Bool, IfSome, List, None, Option, Some, ap, arith, false}
use Rattle.{std.proofs.lemmas.List.Sums.{sum_by-set}, totals_record.specs.Entries.{closes, no_share, totals_with}}
use Rattle.totals_record.specs.{Common.{Durable, Enter, Entry, Hold, Share, Totals, Trip, last_number}, States.{after}}
use Rattle.totals_record.specs.Ranges.{AreShares, HasRoom, IsDurable, IsEntry, IsHeld, IsTripInItsRanges, newest_layout}
use Rattle.totals_record.proofs.Shares.{length_same, roams, shares_apart, shares_set}

-- a sum over shares of which one grows, grows by as much
sum_grown : (field : Share → ℕ) (shares : List Share) (place : ℕ) (share : Share) (more : ℕ) → place < length shares
    → field share ≡ field (get_or shares place no_share) + more
    → sum_by field (set shares place share) ≡ sum_by field shares + more
sum_grown field shares place share more within grows =
    omega (arith, sum_by-set field shares place share no_share within, grows)

-- the totals with an entry more that closes a hiring
closing_shares : (layout : ℕ) (totals : Totals) (entry : Entry) → AreShares layout totals → closes entry ≡ true
    → 1 ≤ entry.position → entry.position ≤ 9 → AreShares newest_layout (totals_with totals entry)
closing_shares layout totals entry shares closing low high =
    let place = entry.position - 1 in
    let old = get_or totals.shares place no_share in
    let within : place < length totals.shares = omega (arith, low, high, shares.nine) in
    let grown = shares_set entry 1 totals.shares place closing (omega (arith, low)) within in
    let share : Share = record { hirings = old.hirings + 1; fare = old.fare + entry.fare } in
    record {
      nine = length_same entry 1 totals.shares ∙ shares.nine;
      hirings = omega (
        arith,
        shares.hirings,
        ap (λ (l : List Share). sum_by (λ s. s.hirings) l) grown,
        sum_grown (λ s. s.hirings) totals.shares place share 1 within refl,
        ap {B = ℕ} (λ (b : Bool). if b then 1 else 0) closing,
      );
      fare = omega (
        arith,
        shares.fare,
        ap (λ (l : List Share). sum_by (λ s. s.fare) l) grown,
        sum_grown (λ s. s.fare) totals.shares place share entry.fare within refl,
      );
      unshared = λ one. absurd (omega (arith, one));
    }

-- and with one of roaming
roaming_shares : (layout : ℕ) (totals : Totals) (entry : Entry) → AreShares layout totals → closes entry ≡ false
    → entry.fare ≡ 0 → AreShares newest_layout (totals_with totals entry)
roaming_shares layout totals entry shares roaming no_fare =
    let same = shares_apart entry 1 totals.shares (λ i within. roams entry (1 + i) roaming) in
    record {
      nine = length_same entry 1 totals.shares ∙ shares.nine;
      hirings = omega (
        arith,
        shares.hirings,
        ap (λ (l : List Share). sum_by (λ s. s.hirings) l) same,
        ap {B = ℕ} (λ (b : Bool). if b then 1 else 0) roaming,
      );
      fare = omega (arith, shares.fare, ap (λ (l : List Share). sum_by (λ s. s.fare) l) same, no_fare);
      unshared = λ one. absurd (omega (arith, one));
    }

shares_kept : (layout : ℕ) (totals : Totals) (entry : Entry) → AreShares layout totals → IsEntry entry
    → AreShares newest_layout (totals_with totals entry)
shares_kept layout totals entry shares made = by (closes entry) refl
  where
    by : (b : Bool) → closes entry ≡ b → AreShares newest_layout (totals_with totals entry)
    by true closing =
        closing_shares layout totals entry shares closing (made.position closing).0 (made.position closing).1
    by false roaming = roaming_shares layout totals entry shares roaming (made.roaming roaming)

-- a held trip stays in its ranges beside a greater number
trip_later : (number : ℕ) (trip : Trip) → IsTripInItsRanges number trip → IsTripInItsRanges (number + 1) trip
trip_later number trip ranges = search (rules, arith, ranges)

held_kept : (number : ℕ) (hold : Option Trip) (closing : Bool) → IfSome hold (IsHeld number)
    → (closing ≡ false → is_some hold ≡ true → number + 1 ≤ last_number)
    → IfSome (if closing then None else hold) (IsHeld (number + 1))
held_kept number hold true held room = tt
held_kept number None false held room = tt
held_kept number (Some trip) false held room =
    record { room = room refl refl; ranges = trip_later number trip held.ranges }

at_most : (closing : Bool) (amount : ℕ) → (if closing then amount else 0) ≤ amount
at_most true amount = omega arith
at_most false amount = omega arith

pub entry_keeps : (durable : Durable) (entry : Entry) → IsDurable durable → durable.number ≤ last_number → IsEntry entry
    → HasRoom durable entry → IsDurable (after durable (Enter entry))
entry_keeps durable entry valid room made held_room =
    let hirings = at_most (closes entry) 1 in
    let held = held_kept durable.number durable.hold (closes entry) valid.held held_room in
    let shares = shares_kept durable.layout durable.totals entry valid.shares made in
    search (rules, arith)

pub trip_keeps : (durable : Durable) (trip : Trip) → IsDurable durable → durable.number + 1 ≤ last_number
    → IsTripInItsRanges (durable.number + 1) trip → IsDurable (after durable (Hold trip))
trip_keeps durable trip valid room ranges = search (rules, arith)
