-- Rules: the totals: what an entry adds to each of them, and totals as sums over the list of entries.
use Rattle.std.specs.{List.{count_by, fold, sum_by}, Prelude.{length, replicate, true}}
use Rattle.std.specs.Prelude.{[], ℕ, ◌&&◌, ◌+◌, ◌-◌, ◌==◌, ◌∷◌, ◌≡◌, ◌≤◌, Bool, List, false, get_or, if◌then◌else◌}
use Rattle.taxi_units.specs.declared.receipt.Kind.{Kind, TheVariants.{Aborted, Closed, Expired, Roam}}
use Rattle.totals_record.specs.Common.{Entry, Share, Totals}

-- the test `is_of_hiring` is true if a kind of entry is one of a closed hiring, which all are but roaming
abbrev pub is_of_hiring : Kind → Bool
is_of_hiring Closed = true
is_of_hiring Aborted = true
is_of_hiring Expired = true
is_of_hiring Roam = false

-- the test `closes` is true if an entry closes a hiring
abbrev pub closes : Entry → Bool
closes entry = is_of_hiring entry.kind

-- the test `closes_at` is true if an entry closes a hiring at a tariff position
abbrev pub closes_at : ℕ → Entry → Bool
closes_at position entry = closes entry && entry.position == position

-- the distance of an entry is what was driven roaming and when hired, in millimetres
abbrev pub distance_of : Entry → ℕ
distance_of entry = entry.roam_mm + entry.hired_mm

-- the hired distance of an entry is what was driven when hired, in millimetres
abbrev pub hired_of : Entry → ℕ
hired_of entry = entry.hired_mm

-- an entry counts as one hiring if it closes one, and else as none
abbrev pub hirings_of : Entry → ℕ
hirings_of entry = if closes entry then 1 else 0

-- the supplements of an entry are what was charged for them
abbrev pub supplements_of : Entry → ℕ
supplements_of entry = entry.supplements

-- the fare of an entry is what was charged as fare
abbrev pub fare_of_entry : Entry → ℕ
fare_of_entry entry = entry.fare

-- an entry counts as one hiring at a tariff position if it closes one there, and else as none
abbrev pub hirings_at : ℕ → Entry → ℕ
hirings_at position entry = if closes_at position entry then 1 else 0

-- the fare of an entry counts at a tariff position if it closes a hiring there, and else is nothing
abbrev pub fare_at : ℕ → Entry → ℕ
fare_at position entry = if closes_at position entry then entry.fare else 0

-- the share of no hiring is zero
abbrev pub no_share : Share
no_share = record { hirings = 0; fare = 0 }

-- the share of a tariff position, with an entry more, grows by what the entry counts there
abbrev pub share_with : Entry → ℕ → Share → Share
share_with entry position share = record {
  hirings = share.hirings + hirings_at position entry;
  fare = share.fare + fare_at position entry;
}

-- shares of rising tariff positions, the first of which is `position`, grow each by what one more entry counts there
abbrev pub shares_with : Entry → ℕ → List Share → List Share
shares_with entry position [] = []
shares_with entry position (share ∷ others) = share_with entry position share ∷ shares_with entry (position + 1) others

-- the totals of no entry are all zero
abbrev pub no_totals : Totals
no_totals = record {
  distance_mm = 0;
  hired_mm = 0;
  hirings = 0;
  supplements = 0;
  fare = 0;
  shares = replicate 9 no_share;
  before = no_share;
}

-- the totals, with an entry more, grow each by what the entry counts, and what was counted before shares stays
abbrev pub totals_with : Totals → Entry → Totals
totals_with totals entry = record {
  distance_mm = totals.distance_mm + distance_of entry;
  hired_mm = totals.hired_mm + hired_of entry;
  hirings = totals.hirings + hirings_of entry;
  supplements = totals.supplements + supplements_of entry;
  fare = totals.fare + fare_of_entry entry;
  shares = shares_with entry 1 totals.shares;
  before = totals.before;
}

-- ---- over a list of entries

-- the totals of a list of entries, behind opening ones, grow by each entry in its turn
abbrev pub totals_of : Totals → List Entry → Totals
totals_of opening entries = fold totals_with opening entries

-- the share of a tariff position, which counts from 1, is the one at its place in the list of shares
abbrev pub share_of : Totals → ℕ → Share
share_of totals position = get_or totals.shares (position - 1) no_share

-- the share of a tariff position adds up if it grew by the hirings that entries closed there, and by their fares
pub record ShareAddsUp (position : ℕ) (old new : Share) (entries : List Entry) : Type 0 where
  pub hirings : new.hirings ≡ old.hirings + count_by (closes_at position) entries
  pub fare : new.fare ≡ old.fare + sum_by (fare_at position) entries

-- totals add up if each of them, and each of the shares, grew by the sum over a list of entries, and what was counted
-- before shares stayed
pub record AddsUp (old new : Totals) (entries : List Entry) : Type 0 where
  pub distance : new.distance_mm ≡ old.distance_mm + sum_by distance_of entries
  pub hired : new.hired_mm ≡ old.hired_mm + sum_by hired_of entries
  pub hirings : new.hirings ≡ old.hirings + count_by closes entries
  pub supplements : new.supplements ≡ old.supplements + sum_by supplements_of entries
  pub fare : new.fare ≡ old.fare + sum_by fare_of_entry entries
  pub nine : length new.shares ≡ length old.shares
  pub shares : (position : ℕ) → 1 ≤ position → position ≤ length old.shares
      → ShareAddsUp position (share_of old position) (share_of new position) entries
  pub before : new.before ≡ old.before
