-- The opening of the store, from its two scans.
use Rattle.std.proofs.Common.{ℕ, ◌∙◌, ◌≡◌, Err, List, Ok, Option, Result, Some, ap, refl, subst, sym}
use Rattle.{outside.specs.Disk.{MayLeave}, slot_store.proofs.Laws.{from_sync_as, goes_on, held_on}}
use Rattle.{slot_store.specs.Slots.{IsAt, IsBlank}, call_ends.proofs.Laws.{no_fault, same_fault}}
use Rattle.store_commands.specs.Common.{Blank, Durable, Ended, Found, Ghosts, IsAsFound, IsAsHeld, IsAtRest, Latest}
use Rattle.store_commands.specs.Common.{LeavesFromSync, LeavesOnly, Opening, Place, ReadsOnly, Rose, Seal, SlotFault}
use Rattle.store_commands.specs.{Common.{found_at}, declared.opening.StoreFault.TheVariants.{BoardFault}}
use Rattle.store_commands.specs.Opened.{OnlyOpens}
use Rattle.store_commands.specs.Opening.{fault_from, opening_by, opening_in, sealed_or, sealed_store, store_of}
use Rattle.slot_store.specs.declared.found.SlotFault.TheVariants as slots
use Rattle.totals_record.specs.Reading as totals
use Rattle.meter_store.specs.Stored as states
use Rattle.seal_record.specs.Decoding as seals
use Rattle.call_ends.specs.declared.ending.Ended.TheVariants as ended

-- only the board's fault in a scan is one of the opening
pub failed_from : (first : ℕ) (fault : SlotFault) → fault_from first fault ≡ BoardFault → fault ≡ slots.DeviceFailed
failed_from first (slots.BadBody slot) e = absurd cc
failed_from first (slots.SameNumber number) e = absurd cc
failed_from first slots.DeviceFailed e = refl

-- the opening of an image, by what the scans of its pairs answer
pub opened_bad : (image : List ℕ) (fault : SlotFault) → found_at totals.reads states.state_number_of 0 image ≡ Err fault
    → opening_in image ≡ Err (fault_from 0 fault)
opened_bad image fault e =
    ap (λ (x : Result (Found Durable) SlotFault). opening_by x (found_at seals.reads seals.seal_number_of 1024 image)) e

pub opened_by : (image : List ℕ) (durable : Found Durable) (seal : Result (Found Seal) SlotFault)
    → found_at totals.reads states.state_number_of 0 image ≡ Ok durable
    → found_at seals.reads seals.seal_number_of 1024 image ≡ seal → opening_in image ≡ opening_by (Ok durable) seal
opened_by image durable seal e f =
    ap (λ (x : Result (Found Durable) SlotFault). opening_by x (found_at seals.reads seals.seal_number_of 1024 image)) e
    ∙ ap (opening_by (Ok durable)) f

-- what was found stays while the image does, and no more is in flight
pub stays_found : {T : Type 0} (reads : List ℕ → Option T) (number_of : T → ℕ) (at : ℕ) (old new : List ℕ)
    (flown flying : ℕ → Type 0) (found : Found T) → new ≡ old
    → ((place : ℕ) → flying place → flown place) → IsAsFound reads number_of at old flown found
    → IsAsFound reads number_of at new flying found
stays_found reads number_of at old new flown flying Blank e fewer h =
    (subst (λ (i : List ℕ). IsBlank at i) (sym e) h.0, λ place within flies. h.1 place within (fewer place flies))
stays_found reads number_of at old new flown flying (Latest place body) e fewer h = record {
  quiet = λ byte within flies. h.quiet byte within (fewer byte flies);
  is_at = subst (λ (i : List ℕ). IsAt reads number_of at place i body) (sym e) h.is_at;
}

-- the store of an image, by what was opened
pub store_opened : (image : List ℕ) (opening : Opening) (found : Option (Durable × Seal))
    → Ok opening ≡ opening_in image
    → found ≡ sealed_store opening.totals opening.seal → store_of (opening_in image) ≡ sealed_or found
store_opened image opening found e f = ap store_of (sym e) ∙ ap sealed_or (sym f)

-- an opening, of what its clauses say
pub opens-by : {D L : Type 0} {N : ℕ} {B : Ghosts D N L} {fails : Type 0} {old new : D} → ReadsOnly B old new
    → (B.tells_image → LeavesFromSync B fails old new (IsAsHeld B old))
    → (B.tells_image → ¬ fails → IsAtRest B new) → (¬ fails → B.image new ≡ B.image old)
    → (¬ fails → B.faults new ≡ B.faults old) → (fails → Rose (B.faults old) (B.faults new)) → OnlyOpens B fails old new
opens-by reads synced settled same count cause =
    record { reads = reads; synced = synced; settled = settled; same = same; count = count; cause = cause }

-- an opening, if what fails is known by another name
pub opens-as : {D L : Type 0} {N : ℕ} (B : Ghosts D N L) (fails fails' : Type 0) (old new : D) → (fails → fails')
    → (fails' → fails) → OnlyOpens B fails old new → OnlyOpens B fails' old new
opens-as B fails fails' old new more fewer h =
    let held = IsAsHeld B old in
    record {
      reads = h.reads;
      synced = λ told. from_sync_as B held held fails fails' old new more (λ i x is. is) (h.synced told);
      settled = λ told good. h.settled told (λ f. good (more f));
      same = λ good. h.same (λ f. good (more f));
      count = λ good. h.count (λ f. good (more f));
      cause = λ f. h.cause (fewer f);
    }

-- what an opening left, by the answer that is made of its refusal, and by one behind its success
pub opens-barred : {S T D L : Type 0} {N : ℕ} (B : Ghosts D N L) (r : Result S Ended) (made : Result T Ended)
    (why : Ended) (old new : D) → r ≡ Err why → made ≡ Err why
    → OnlyOpens B (r ≡ Err ended.BoardFault) old new → OnlyOpens B (made ≡ Err ended.BoardFault) old new
opens-barred B r made why old new is made_is h =
    opens-as B (r ≡ Err ended.BoardFault) (made ≡ Err ended.BoardFault) old new
    (λ f. made_is ∙ ap Err (same_fault r why ended.BoardFault is f))
    (λ f. is ∙ ap Err (same_fault made why ended.BoardFault made_is f)) h

pub opens-behind : {S D L : Type 0} {N : ℕ} (B : Ghosts D N L) (r : Result S Ended) (x : S) (fails : Type 0)
    (old new : D) → r ≡ Ok x → ¬ fails
    → OnlyOpens B (r ≡ Err ended.BoardFault) old new → OnlyOpens B fails old new
opens-behind B r x fails old new is good h =
    opens-as B (r ≡ Err ended.BoardFault) fails old new (λ f. absurd (no_fault r x ended.BoardFault is f))
    (λ f. absurd (good f)) h

-- the second scan behind a first one that went well
module _ {D L : Type 0} {N : ℕ} (B : Ghosts D N L) (old mid new : D) (first : ReadsOnly B old mid)
    (same : B.image mid ≡ B.image old) where
  pub synced-on : (fails fails' : Type 0) → ¬ fails → IsAtRest B mid → LeavesFromSync B fails old mid (IsAsHeld B old)
      → LeavesOnly B mid new (MayLeave (B.image mid) (B.in_flight mid) (B.printed mid))
      → LeavesFromSync B fails' old new (IsAsHeld B old)
  synced-on fails fails' went settled synced next =
      goes_on B (IsAsHeld B old) (IsAsHeld B old) fails fails' old mid new went (λ i x is. is) synced
      (held_on B old mid new (record { reads = first; same = same; settled = settled }) next)

abbrev as_store : Durable → Seal → Option (Durable × Seal)
as_store d l = Some (d, l)

first_of : (a b : Durable) (x y : Seal) → as_store a x ≡ as_store b y → a ≡ b
first_of a b x y e =
    let one : Durable × Seal = (a, x) in
    let other : Durable × Seal = (b, y) in
    let same : one ≡ other = cc in
    ap (λ (p : Durable × Seal). p.0) same

-- what is found of a store that is sealed
pub sealed_found : (found : Found Durable) (seal : Found Seal) (d : Durable) (l : Seal)
    → sealed_store found seal ≡ Some (d, l) → (place : Place) × (found ≡ Latest place d)
sealed_found Blank seal d l e = absurd cc
sealed_found (Latest place durable) Blank d l e = absurd cc
sealed_found (Latest place durable) (Latest other seal) d l e =
    (place, ap (λ (x : Durable). Latest place x) (first_of durable d seal l e))
