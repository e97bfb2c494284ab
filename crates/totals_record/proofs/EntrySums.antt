-- Totals are sums over lists of entries.
use Rattle.std.{specs.List.{sum_by}, proofs.lemmas.List.Sums.{sum_by-append, sum_by-cons}}
use Rattle.std.proofs.Common.{[], ℕ, ◌++◌, ◌+◌, ◌-◌, ◌∙◌, ◌∷◌, ◌≡◌, ◌≤◌, List, ap, arith, length, refl}
use Rattle.totals_record.{specs.Common.{Entry, Share, Totals}, proofs.Shares.{length_same, share_at_place}}
use Rattle.totals_record.specs.Entries.{AddsUp, ShareAddsUp, distance_of, fare_at, fare_of_entry, hired_of, hirings_at}
use Rattle.totals_record.specs.Entries.{hirings_of, share_of, share_with, supplements_of, totals_of, totals_with}

-- what each entry adds to a number is added by all of them
sum_of : (field : Totals → ℕ) (part : Entry → ℕ)
    → ((totals : Totals) (entry : Entry) → field (totals_with totals entry) ≡ field totals + part entry)
    → (totals : Totals) (entries : List Entry)
    → field (totals_of totals entries) ≡ field totals + sum_by part entries
sum_of field part adds totals [] = omega arith
sum_of field part adds totals (entry ∷ entries) =
    omega (
      arith,
      sum_of field part adds (totals_with totals entry) entries,
      adds totals entry,
      sum_by-cons part entry entries,
    )

-- there are as many shares
as_many : (totals : Totals) (entries : List Entry)
    → length (totals_of totals entries).shares ≡ length totals.shares
as_many totals [] = refl
as_many totals (entry ∷ entries) = as_many (totals_with totals entry) entries ∙ length_same entry 1 totals.shares

-- what was counted before stays
before_stays : (totals : Totals) (entries : List Entry) → (totals_of totals entries).before ≡ totals.before
before_stays totals [] = refl
before_stays totals (entry ∷ entries) = before_stays (totals_with totals entry) entries

-- the share of a position adds up
share_adds : (position : ℕ) (totals : Totals) (entries : List Entry) → 1 ≤ position
    → position ≤ length totals.shares
    → ShareAddsUp position (share_of totals position) (share_of (totals_of totals entries) position) entries
share_adds position totals [] low high = record { hirings = omega arith; fare = omega arith }
share_adds position totals (entry ∷ entries) low high =
    let grown = totals_with totals entry in
    let here : share_of grown position ≡ share_with entry position (share_of totals position) =
    share_at_place entry 1 totals.shares (position - 1) (omega (arith, low, high))
    ∙ ap (λ (p : ℕ). share_with entry p (share_of totals position)) (omega (arith, low)) in
    let rest = share_adds position grown entries low (omega (arith, high, length_same entry 1 totals.shares)) in
    record {
      hirings = omega (
        arith,
        rest.hirings,
        ap (λ (s : Share). s.hirings) here,
        sum_by-cons (hirings_at position) entry entries,
      );
      fare = omega (arith, rest.fare, ap (λ (s : Share). s.fare) here, sum_by-cons (fare_at position) entry entries);
    }

-- totals with a list of entries more add up
pub adds_up : (totals : Totals) (entries : List Entry) → AddsUp totals (totals_of totals entries) entries
adds_up totals entries = record {
  distance = sum_of (λ t. t.distance_mm) distance_of (λ t e. refl) totals entries;
  hired = sum_of (λ t. t.hired_mm) hired_of (λ t e. refl) totals entries;
  hirings = sum_of (λ t. t.hirings) hirings_of (λ t e. refl) totals entries;
  supplements = sum_of (λ t. t.supplements) supplements_of (λ t e. refl) totals entries;
  fare = sum_of (λ t. t.fare) fare_of_entry (λ t e. refl) totals entries;
  nine = as_many totals entries;
  shares = λ position low high. share_adds position totals entries low high;
  before = before_stays totals entries;
}

-- sums over one list of entries and then over another are those over both
both : (part : Entry → ℕ) (xs ys : List Entry) (a b c : ℕ) → b ≡ a + sum_by part xs → c ≡ b + sum_by part ys
    → c ≡ a + sum_by part (xs ++ ys)
both part xs ys a b c first next = omega (arith, first, next, sum_by-append part xs ys)

-- totals that add up by one list of entries and then by another add up by both
pub adds_then : (a b c : Totals) (xs ys : List Entry) → AddsUp a b xs → AddsUp b c ys → AddsUp a c (xs ++ ys)
adds_then a b c xs ys first next = record {
  distance = both distance_of xs ys _ _ _ first.distance next.distance;
  hired = both hired_of xs ys _ _ _ first.hired next.hired;
  hirings = both hirings_of xs ys _ _ _ first.hirings next.hirings;
  supplements = both supplements_of xs ys _ _ _ first.supplements next.supplements;
  fare = both fare_of_entry xs ys _ _ _ first.fare next.fare;
  nine = next.nine ∙ first.nine;
  shares = λ position low high.
      let one = first.shares position low high in
      let other = next.shares position low (omega (arith, high, first.nine)) in
      record {
        hirings = both (hirings_at position) xs ys _ _ _ one.hirings other.hirings;
        fare = both (fare_at position) xs ys _ _ _ one.fare other.fare;
      };
  before = next.before ∙ first.before;
}
