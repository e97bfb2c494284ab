-- The command `run`: how it begins.
use Rattle.{std.{specs.Option.{ForSome}, proofs.Common.{subst, take, true}}, outside.proofs.Laws.{same_slice}}
use Rattle.std.proofs.Common.{ℕ, ◌∙◌, ◌≡◌, Bool, Err, List, Ok, Result, ap, arith, drop, false, if◌then◌else◌, refl}
use Rattle.slot_store.specs.{Scan.{IsAnswer, found_at, verdict_on}, declared.found.Found.TheVariants.{Blank, Latest}}
use Rattle.slot_store.{specs.declared.found.{Found.{Found}, SlotFault.{SlotFault}}, proofs.Laws.{answer_is, at_stands}}
use Rattle.{slot_store.specs.declared.pair.Place.{Place}, call_ends.proofs.Laws.{refusal_by}}
use Rattle.store_commands.specs.{Opening.{opening_by}, declared.opening.{Opening.{Opening}, StoreFault.{StoreFault}}}
use Rattle.{store_commands.specs.TariffSteps.{AreNoTables}, drive_commands.specs.RunSteps.{HasNotBegun}}
use Rattle.drive_commands.specs.Common.{Durable, Ended, Fits, IsSealedIn, SameBut, Seal, Tree, opening_in}
use Rattle.drive_commands.{specs.Common.{sealed_tariff, store_of, tables_of}, proofs.HeldTripFits.{Decides-hold}}
use Rattle.drive_commands.specs.Run.{IsOfTotals, Start, does_hold_fit, start_of, start_over, start_with, tables_in}
use Rattle.totals_record.specs.Reading as totals
use Rattle.meter_store.specs.Stored as states
use Rattle.seal_record.specs.Decoding as seals
use Rattle.call_ends.specs.declared.ending.Ended.TheVariants as ended

-- ---- the start

-- what a start has
record HasStart (d : Durable) (l : Seal) (r : Result Tree Ended) (s : Start) : Type 0 where
  pub durable : d ≡ s.durable
  pub seal : l ≡ s.seal
  pub tree : r ≡ Ok s.tree
  pub fits : does_hold_fit (tables_in s) s.durable.hold ≡ true

has_start : (d : Durable) (l : Seal) (r : Result Tree Ended) (s : Start) → start_with d l r ≡ Ok s → HasStart d l r s
has_start d l (Err why) s e = absurd cc
has_start d l (Ok t) s e = by (does_hold_fit (tables_of t l.params.constant) d.hold) refl e
  where
    by : (fit : Bool) → does_hold_fit (tables_of t l.params.constant) d.hold ≡ fit
        → (if fit then Ok (record { durable = d; seal = l; tree = t }) else Err ended.BadTrip) ≡ Ok s
        → HasStart d l (Ok t) s
    by true is f =
        let same : record { durable = d; seal = l; tree = t } ≡ s = cc in
        record {
          durable = ap (λ (x : Start). x.durable) same;
          seal = ap (λ (x : Start). x.seal) same;
          tree = ap (λ (x : Start). Ok x.tree) same;
          fits = subst (λ (x : Start). does_hold_fit (tables_in x) x.durable.hold ≡ true) same is;
        }
    by false is f = absurd cc

-- and what was found if a run begins with it
pub record HasFound (t : Result (Found Durable) SlotFault) (l : Result (Found Seal) SlotFault) (tariff : List ℕ)
    (s : Start) : Type 0 where
  pub totals : (place : Place) × (t ≡ Ok (Latest place s.durable))
  pub seal : (place : Place) × (l ≡ Ok (Latest place s.seal))
  pub tariff_is : sealed_tariff s.seal.digest tariff ≡ Ok s.tree
  pub fits : does_hold_fit (tables_in s) s.durable.hold ≡ true

has_found : (t : Result (Found Durable) SlotFault) (l : Result (Found Seal) SlotFault) (tariff : List ℕ) (s : Start)
    → start_of (opening_by t l) tariff ≡ Ok s → HasFound t l tariff s
has_found (Err fault) l tariff s e = absurd cc
has_found (Ok found) (Err fault) tariff s e = absurd cc
has_found (Ok Blank) (Ok seal) tariff s e = absurd cc
has_found (Ok (Latest place durable)) (Ok Blank) tariff s e = absurd cc
has_found (Ok (Latest place durable)) (Ok (Latest other l)) tariff s e =
    let h = has_start durable l (sealed_tariff l.digest tariff) s e in
    record {
      totals = (place, ap (λ (d : Durable). Ok (Latest place d)) h.durable);
      seal = (other, ap (λ (x : Seal). Ok (Latest other x)) h.seal);
      tariff_is = subst (λ (x : Seal). sealed_tariff x.digest tariff ≡ Ok s.tree) h.seal h.tree;
      fits = h.fits;
    }

pub found_in : (image tariff : List ℕ) (s : Start) → start_of (opening_in image) tariff ≡ Ok s
    → HasFound (found_at totals.reads states.state_number_of 0 image)
    (found_at seals.reads seals.seal_number_of 1024 image) tariff s
found_in image tariff s e = has_found (found_at totals.reads states.state_number_of 0 image)
    (found_at seals.reads seals.seal_number_of 1024 image) tariff s e

-- the opening image has the state that the run begins with, whose held trip fits
pub start_stands : (image tariff : List ℕ) (s : Start) → start_of (opening_in image) tariff ≡ Ok s
    → states.HasState image s.durable × ForSome s.durable.hold (Fits (tables_in s))
start_stands image tariff s e =
    let h = found_in image tariff s e in
    let at =
    subst (λ (r : Result (Found Durable) SlotFault). IsAnswer totals.reads states.state_number_of 0 image r) h.totals.1
    ((answer_is totals.reads states.state_number_of 0 image
    (found_at totals.reads states.state_number_of 0 image)).0 refl) in (
      at_stands totals.reads states.state_number_of 0 h.totals.0 image s.durable at,
      (Decides-hold (tables_in s) s.durable.hold).0 h.fits,
    )

-- an image with other totals, whose held trip fits, beside the same seal: a run begins with it too
pub starts_again : (image tariff left : List ℕ) (s : Start) (place : Place) (d : Durable)
    → start_of (opening_in image) tariff ≡ Ok s → SameBut IsOfTotals image left
    → found_at totals.reads states.state_number_of 0 left ≡ Ok (Latest place d) → ForSome d.hold (Fits (tables_in s))
    → start_of (opening_in left) tariff ≡ Ok (record s { durable = d })
starts_again image tariff left s place d e same found fits =
    let h = found_in image tariff s e in
    let first : take 512 (drop 1024 left) ≡ take 512 (drop 1024 image) =
    same_slice IsOfTotals image left 1024 512 same (λ byte within touched. omega (arith, within.low, touched.high)) in
    let second : take 512 (drop 1536 left) ≡ take 512 (drop 1536 image) =
    same_slice IsOfTotals image left 1536 512 same (λ byte within touched. omega (arith, within.low, touched.high)) in
    let seal : found_at seals.reads seals.seal_number_of 1024 left ≡ Ok (Latest h.seal.0 s.seal) =
    ap (λ (x : List ℕ). verdict_on seals.reads seals.seal_number_of x (take 512 (drop 1536 left))) first
    ∙ ap (λ (x : List ℕ). verdict_on seals.reads seals.seal_number_of (take 512 (drop 1024 image)) x)
    second ∙ h.seal.1 in
    let opening : opening_in left ≡ Ok (record { totals = Latest place d; seal = Latest h.seal.0 s.seal }) =
    ap (λ (r : Result (Found Durable) SlotFault). opening_by r
    (found_at seals.reads seals.seal_number_of 1024 left)) found
    ∙ ap (opening_by (Ok (Latest place d))) seal in
    ap (λ (r : Result Opening StoreFault). start_of r tariff) opening ∙ ap (start_with d s.seal) h.tariff_is
    ∙ rw ((Decides-hold (tables_in s) d.hold).1 fits) refl

-- ---- the run doesn't begin

module _ (image tariff : List ℕ) (durable : Durable) (seal : Seal)
    (e : store_of (opening_in image) ≡ Ok (durable, seal)) where
  sealed_in : IsSealedIn image
  sealed_in = record { store = (durable, seal); is = e }

  pub start_from : (r : Result Tree Ended) → sealed_tariff seal.digest tariff ≡ r
      → start_of (opening_in image) tariff ≡ start_with durable seal r
  start_from r f =
      ap (λ (r : Result (Durable × Seal) Ended). start_over r tariff) e ∙ ap (start_with durable seal) f

  pub not_begun-tables : (read_failed : Type 0) (why : Ended) → AreNoTables seal.digest tariff read_failed why
      → HasNotBegun image tariff read_failed why
  not_begun-tables read_failed ended.ReadFault h = (h, sealed_in)
  not_begun-tables read_failed ended.NoMemory h = sealed_in
  not_begun-tables read_failed (ended.BadTariff why) h = (
    start_from (Err (ended.BadTariff why)) h,
    refusal_by (ended.BadTariff why) refl refl refl,
  )
  not_begun-tables read_failed (ended.WrongTariff digest own) h = (
    start_from (Err (ended.WrongTariff digest own)) h,
    refusal_by (ended.WrongTariff digest own) refl refl refl,
  )
  not_begun-tables read_failed why h = absurd h

-- by whether the held trip fits
pub start_fitted : (tariff : List ℕ) (durable : Durable) (seal : Seal) (t : Tree) (fit : Bool)
    → sealed_tariff seal.digest tariff ≡ Ok t
    → does_hold_fit (tables_of t seal.params.constant) durable.hold ≡ fit
    → start_with durable seal (sealed_tariff seal.digest tariff)
    ≡ (if fit then Ok (record { durable = durable; seal = seal; tree = t }) else Err ended.BadTrip)
start_fitted tariff durable seal t fit f is = ap (start_with durable seal) f ∙ by fit is
  where
    by : (fit : Bool) → does_hold_fit (tables_of t seal.params.constant) durable.hold ≡ fit
        → start_with durable seal (Ok t)
        ≡ (if fit then Ok (record { durable = durable; seal = seal; tree = t }) else Err ended.BadTrip)
    by fit is = rw is refl
