-- Rules: the items of the data port: the content of each, from the durable state and the seal, its size, and what it
-- speaks of. Numbers have their greatest byte first.
use Rattle.{std.specs.List.{flat_map}, drive_modes.specs.Distance.{millimetres_of}}
use Rattle.std.specs.Prelude.{[], ℕ, ◌++◌, ◌-◌, ◌∷◌, ◌≡◌, List, None, Option, Some, get_or, replicate}
use Rattle.totals_record.specs.declared.{totals.Totals.{Totals}, trip.Trip.{Trip}}
use Rattle.seal_record.specs.Spelling.{mode_byte, signed_bytes}
use Rattle.data_port.specs.Common.{Durable, Seal, eight, four, padded, share_bytes, sixteen}

-- the values that a reply has of a held trip are the seconds at which it started and was saved, the distance when hired
-- in millimetres, the ticks, the supplements, the initial hire fee, and the full display steps
pub record HeldTrip : Type 0 where
  pub started : ℕ
  pub saved : ℕ
  pub hired_mm : ℕ
  pub ticks : ℕ
  pub extras_sum : ℕ
  pub initial : ℕ
  pub steps_full : ℕ

-- the values of a held trip are its own, and as its distance that of its pulses by the constant
abbrev pub held_trip : (constant : ℕ) → Trip → HeldTrip
held_trip constant trip = record {
  started = trip.started;
  saved = trip.saved;
  hired_mm = millimetres_of constant trip.pulses;
  ticks = trip.ticks;
  extras_sum = trip.extras_sum;
  initial = trip.initial;
  steps_full = trip.meterage.steps_full;
}

-- the values of what is held are those of the held trip, and there are none if no trip is held
abbrev pub held_values : (constant : ℕ) → Option Trip → Option HeldTrip
held_values constant None = None
held_values constant (Some trip) = Some (held_trip constant trip)

-- the values of a held trip have 8, 8, 16, 4, 8, 4 and 8 bytes
abbrev pub trip_content : HeldTrip → List ℕ
trip_content held =
    eight held.started
    ++ (eight held.saved
    ++ (sixteen held.hired_mm
    ++ (four held.ticks
    ++ (eight held.extras_sum
    ++ (four held.initial
    ++ eight held.steps_full)))))

-- a held trip has 57 bytes: 1 and its values, or zeros if none is held
abbrev pub held_content : Option HeldTrip → List ℕ
held_content None = replicate 57 0
held_content (Some held) = 1 ∷ trip_content held

-- the content of the shares is the share of each of the nine tariff positions, and then what was counted before there
-- were shares
abbrev pub shares_content : Totals → List ℕ
shares_content totals = flat_map share_bytes totals.shares ++ share_bytes totals.before

-- the contents of the items, from item 1 on, are the identifier of the taxi, the constant, the day of securing, the
-- digest, the mode, the number of the store, the five totals, the held trip, and the shares
abbrev pub rows : Durable → Seal → List (List ℕ)
rows durable seal =
    padded 16 seal.params.taxi.items
    ∷ (four seal.params.constant
    ∷ (signed_bytes seal.params.secured
    ∷ (seal.digest
    ∷ ((mode_byte seal.params.mode ∷ [])
    ∷ (eight durable.number
    ∷ (sixteen durable.totals.distance_mm
    ∷ (sixteen durable.totals.hired_mm
    ∷ (eight durable.totals.hirings
    ∷ (sixteen durable.totals.supplements
    ∷ (sixteen durable.totals.fare
    ∷ (held_content (held_values seal.params.constant durable.hold)
    ∷ (shares_content durable.totals
    ∷ []))))))))))))

-- there are 13 items, and their codes are 1 to 13
abbrev pub item_count : ℕ
item_count = 13

-- the contents of the items, from item 1 on, have 16, 4, 4, 32, 1, 8, 16, 16, 8, 16, 16, 57 and 240 bytes
abbrev pub sizes : List ℕ
sizes = 16 ∷ (4 ∷ (4 ∷ (32 ∷ (1 ∷ (8 ∷ (16 ∷ (16 ∷ (8 ∷ (16 ∷ (16 ∷ (57 ∷ (240 ∷ []))))))))))))

-- the number of bytes of the content of the item with a code is the one at its place in the list of sizes
abbrev pub size_of : (code : ℕ) → ℕ
size_of code = get_or sizes (code - 1) 0

-- all items together have 447 bytes, their codes among them
abbrev pub all_items_size : ℕ
all_items_size = 447

-- two stores agree on the item with a code if what the item speaks of is equal in both
pub data Agrees (one : Durable) (seal : Seal) (other : Durable) (another : Seal) : (code : ℕ) → Type 0 where
  taxi : seal.params.taxi.items ≡ another.params.taxi.items → Agrees one seal other another 1
  constant : seal.params.constant ≡ another.params.constant → Agrees one seal other another 2
  secured : seal.params.secured ≡ another.params.secured → Agrees one seal other another 3
  digest : seal.digest ≡ another.digest → Agrees one seal other another 4
  mode : seal.params.mode ≡ another.params.mode → Agrees one seal other another 5
  number : one.number ≡ other.number → Agrees one seal other another 6
  distance : one.totals.distance_mm ≡ other.totals.distance_mm → Agrees one seal other another 7
  hired : one.totals.hired_mm ≡ other.totals.hired_mm → Agrees one seal other another 8
  hirings : one.totals.hirings ≡ other.totals.hirings → Agrees one seal other another 9
  supplements : one.totals.supplements ≡ other.totals.supplements → Agrees one seal other another 10
  fare : one.totals.fare ≡ other.totals.fare → Agrees one seal other another 11
  held : held_values seal.params.constant one.hold ≡ held_values another.params.constant other.hold
      → Agrees one seal other another 12
  shares : one.totals.shares ≡ other.totals.shares → one.totals.before ≡ other.totals.before
      → Agrees one seal other another 13

-- the content of the item with a code is the one at the place of its code in the list of contents
abbrev pub content : Durable → Seal → (code : ℕ) → List ℕ
content durable seal code = get_or (rows durable seal) (code - 1) []
