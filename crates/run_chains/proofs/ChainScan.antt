-- What is found of an image that stands for a durable state and a seal.
use Rattle.std.{specs.Prelude.{is_some}, proofs.Common.{ℕ, ◌∙◌, ◌≡◌, Err, List, Ok, Result, ap, refl, subst, sym, true}}
use Rattle.{std.proofs.lemmas.Bool.{false≢true}, slot_store.specs.declared.found.SlotFault.TheVariants.{DeviceFailed}}
use Rattle.slot_store.specs.{Scan.{IsAnswer}, declared.{found.Found.TheVariants.{Blank, Latest}, pair.Place.{Place}}}
use Rattle.{slot_store.proofs.Laws.{answer_is, at_stands, body_found}, run_chains.specs.Chain.{IsSealedStore}}
use Rattle.store_commands.specs.{Opening.{opening_by, sealed_store}, declared.opening.StoreFault.{StoreFault}}
use Rattle.store_commands.specs.declared.opening.Opening.{Opening}
use Rattle.run_chains.specs.Common.{Durable, Found, HasSeal, Seal, SlotFault, found_at, opening_in}
use Rattle.totals_record.specs.Reading as totals
use Rattle.meter_store.specs.Stored as states
use Rattle.seal_record.specs.Decoding as seals

-- ---- a scan of the totals

module _ (image : List ℕ) (d : Durable) (r : Result (Found Durable) SlotFault) (has : states.HasState image d)
    (went : ¬ (r ≡ Err DeviceFailed))
    (exact : ¬ (r ≡ Err DeviceFailed) → r ≡ found_at totals.reads states.state_number_of 0 image) where
  answer : (place : Place) × (r ≡ Ok (Latest place d))
  answer = let found = body_found totals.reads states.state_number_of 0 image d has in (found.0, exact went ∙ found.1)

  pub number_at : (place : Place) (body : Durable) → r ≡ Ok (Latest place body) → body.number ≡ d.number
  number_at place body e = let h = answer.1 in let same : body ≡ d = cc in ap (λ (x : Durable). x.number) same

  pub number_not : r ≡ Ok Blank → ⊥
  number_not e = let h = answer.1 in cc

  pub number_fails : (fault : SlotFault) → r ≡ Err fault → ⊥
  number_fails fault e = let h = answer.1 in cc

-- ---- the opening of a store

opened_parts : (t : Result (Found Durable) SlotFault) (l : Result (Found Seal) SlotFault) (opening : Opening)
    → opening_by t l ≡ Ok opening → (t ≡ Ok opening.totals) × (l ≡ Ok opening.seal)
opened_parts (Err fault) l opening e = absurd cc
opened_parts (Ok a) (Err fault) opening e = absurd cc
opened_parts (Ok a) (Ok b) opening e =
    let same : record { totals = a; seal = b } ≡ opening = cc in
    (ap (λ (x : Opening). Ok x.totals) same, ap (λ (x : Opening). Ok x.seal) same)

state_at : (image : List ℕ) (place : Place) (d : Durable)
    → found_at totals.reads states.state_number_of 0 image ≡ Ok (Latest place d) → states.HasState image d
state_at image place d e = at_stands totals.reads states.state_number_of 0 place image d
    (subst (λ (r : Result (Found Durable) SlotFault). IsAnswer totals.reads states.state_number_of 0 image r) e
    ((answer_is totals.reads states.state_number_of 0 image
    (found_at totals.reads states.state_number_of 0 image)).0 refl))

pub seal_at : (image : List ℕ) (place : Place) (seal : Seal)
    → found_at seals.reads seals.seal_number_of 1024 image ≡ Ok (Latest place seal) → HasSeal image seal
seal_at image place seal e = at_stands seals.reads seals.seal_number_of 1024 place image seal
    (subst (λ (r : Result (Found Seal) SlotFault). IsAnswer seals.reads seals.seal_number_of 1024 image r) e
    ((answer_is seals.reads seals.seal_number_of 1024 image
    (found_at seals.reads seals.seal_number_of 1024 image)).0 refl))

-- a store that is found sealed
by_parts : (image : List ℕ) (t : Found Durable) (l : Found Seal) → found_at totals.reads states.state_number_of 0 image
    ≡ Ok t → found_at seals.reads seals.seal_number_of 1024 image ≡ Ok l
    → is_some (sealed_store t l) ≡ true → IsSealedStore image
by_parts image Blank l e f some = absurd (false≢true some)
by_parts image (Latest place d) Blank e f some = absurd (false≢true some)
by_parts image (Latest place d) (Latest other seal) e f some =
    record { durable = d; seal = seal; totals = state_at image place d e; sealed = seal_at image other seal f }

pub sealed_if : (image : List ℕ) (opening : Opening) → opening_in image ≡ Ok opening
    → is_some (sealed_store opening.totals opening.seal) ≡ true → IsSealedStore image
sealed_if image opening e some =
    let parts = opened_parts (found_at totals.reads states.state_number_of 0 image)
    (found_at seals.reads seals.seal_number_of 1024 image) opening e in
    by_parts image opening.totals opening.seal parts.0 parts.1 some

-- what is found of a store that is sealed
pub opening_found : (image : List ℕ) (h : IsSealedStore image) → (place other : Place)
    × (opening_in image ≡ Ok (record { totals = Latest place h.durable; seal = Latest other h.seal }))
opening_found image h =
    let t = body_found totals.reads states.state_number_of 0 image h.durable h.totals in
    let l = body_found seals.reads seals.seal_number_of 1024 image h.seal h.sealed in (
      t.0,
      l.0,
      ap (λ (r : Result (Found Durable) SlotFault). opening_by r
          (found_at seals.reads seals.seal_number_of 1024 image)) t.1
          ∙ ap (opening_by (Ok (Latest t.0 h.durable))) l.1,
    )

pub sealed_then : (image : List ℕ) (opening : Opening) → opening_in image ≡ Ok opening → IsSealedStore image
    → is_some (sealed_store opening.totals opening.seal) ≡ true
sealed_then image opening e h =
    let found = opening_found image h in
    let both = found.2 in
    let same : record { totals = Latest found.0 h.durable; seal = Latest found.1 h.seal } ≡ opening = cc in
    ap (λ (x : Opening). is_some (sealed_store x.totals x.seal)) (sym same)

pub sealed_not : (image : List ℕ) (fault : StoreFault) → opening_in image ≡ Err fault → IsSealedStore image → ⊥
sealed_not image fault e h = let found = (opening_found image h).2 in cc
