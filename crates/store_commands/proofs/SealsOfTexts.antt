-- The seal of a sealing is of its two texts, and what `sealed` prints seals the same again.
use Rattle.std.{specs.Prelude.{◌==◌, is_some}, proofs.Common.{if◌then◌else◌, refl, subst, sym, take, true}}
use Rattle.std.proofs.Common.{ℕ, ◌+◌, ◌∙◌, ◌≡◌, Bool, Err, List, None, Ok, Option, Result, Some, ap, drop, false}
use Rattle.{std.proofs.lemmas.Bool.{eqb-true}, sha2.specs.Sha256.{sha256}, slot_bodies.specs.Bodies.{body_size}}
use Rattle.slot_store.{specs.{Scan.{IsAnswer}, Slots.{slot_at}}, proofs.Laws.{answer_is}}
use Rattle.seal_record.{specs.Reading.{params_read}, proofs.Laws.{seals_are_read_by_their_table}}
use Rattle.call_ends.specs.declared.ending.Ended.TheVariants.{SealEnded, TripHeld}
use Rattle.store_commands.specs.Common.{Base, Blank, Durable, Ended, Found, IsSeal, Latest, Opening, OtherDecimals}
use Rattle.store_commands.specs.Common.{ParamFault, Params, Place, Refusal, Seal, Sealing, SlotFault, StoreFault, Tree}
use Rattle.store_commands.specs.Common.{found_at, found_number, last_seal_number, next_number, old_seal, tariff_in}
use Rattle.store_commands.specs.{Opening.{opening_by, opening_in, store_of}, SealOfTexts.{IsSealOfTexts, SecureTheSame}}
use Rattle.store_commands.specs.Seal.{are_decimals, over_seal, over_totals, seal_read, seal_with_tariff, sealing_of}
use Rattle.store_commands.specs.Seal.{sealing_over, sealing_with, where_decimals, with_params}
use Rattle.store_commands.{specs.SealedText.{sealed_text}, proofs.SealedLaws.{sealed_again}}
use Rattle.meter_store.specs.Stored as states
use Rattle.totals_record.specs.Reading as totals
use Rattle.seal_record.specs.Decoding as seals

-- ---- the seal of two texts

-- and the decimals that were found, which are its own
record Reads (found : Option ℕ) (tariff params : List ℕ) (seal : Seal) : Type 0 where
  pub is_of : IsSealOfTexts tariff params seal
  pub same : are_decimals found is_of.tree.decimals ≡ Ok tt

made_by : (number : ℕ) (found : Option ℕ) (tariff params : List ℕ) (seal : Seal) (t : Tree)
    (r : Result Params ParamFault) (d : Result (Unit {0}) Ended) → tariff_in tariff ≡ Ok t → params_read params ≡ r
    → are_decimals found t.decimals ≡ d → where_decimals d (with_params number (sha256 tariff) t.decimals r) ≡ Ok seal
    → Reads found tariff params seal
made_by number found tariff params seal t r (Err end) sound read fit e = absurd cc
made_by number found tariff params seal t (Err fault) (Ok same) sound read fit e = absurd cc
made_by number found tariff params seal t (Ok p) (Ok same) sound read fit e =
    let made : seal ≡ record { seal_number = number; params = p; digest = sha256 tariff; decimals = t.decimals } =
    cc in
    record {
      is_of = record {
        tree = t;
        sound = sound;
        params_are = read ∙ ap (λ (x : Seal). Ok x.params) (sym made);
        digest = ap (λ (x : Seal). x.digest) made;
        decimals = ap (λ (x : Seal). x.decimals) made;
      };
      same = fit;
    }

read_by : (number : ℕ) (found : Option ℕ) (tariff params : List ℕ) (seal : Seal) (r : Result Tree Refusal)
    → tariff_in tariff ≡ r → seal_with_tariff number found (sha256 tariff) r (params_read params) ≡ Ok seal
    → Reads found tariff params seal
read_by number found tariff params seal (Err why) sound e = absurd cc
read_by number found tariff params seal (Ok t) sound e =
    made_by number found tariff params seal t (params_read params) (are_decimals found t.decimals) sound refl refl e

-- the base over which a sealing is made
record IsOver (base : Base) (tariff params : List ℕ) (sealing : Sealing) : Type 0 where
  pub reads : Reads base.decimals tariff params sealing.new
  pub totals : sealing.totals ≡ base.totals

sealed_by : (old : Option Seal) (base : Base) (tariff params : List ℕ) (sealing : Sealing) (r : Result Seal Ended)
    → seal_read (next_number (found_number base.found)) base.decimals tariff params ≡ r
    → sealing_with old base r ≡ Ok sealing → IsOver base tariff params sealing
sealed_by old base tariff params sealing (Err end) read e = absurd cc
sealed_by old base tariff params sealing (Ok seal) read e =
    let made : record { totals = base.totals; old = old; new = seal } ≡ sealing = cc in
    let number = next_number (found_number base.found) in
    record {
      reads = subst (λ (x : Sealing). Reads base.decimals tariff params x.new) made
          (read_by number base.decimals tariff params seal (tariff_in tariff) refl read);
      totals = ap (λ (x : Sealing). x.totals) (sym made);
    }

record HasBase (r : Result Base Ended) (tariff params : List ℕ) (sealing : Sealing) : Type 0 where
  pub base : Base
  pub is : r ≡ Ok base
  pub over : IsOver base tariff params sealing

based : (old : Option Seal) (r : Result Base Ended) (tariff params : List ℕ) (sealing : Sealing)
    → sealing_over old r tariff params ≡ Ok sealing → HasBase r tariff params sealing
based old (Err end) tariff params sealing e = absurd cc
based old (Ok base) tariff params sealing e = record {
  base = base;
  is = refl;
  over = sealed_by old base tariff params sealing
      (seal_read (next_number (found_number base.found)) base.decimals tariff params) refl e;
}

of_opening : (r : Result Opening StoreFault) (tariff params : List ℕ) (sealing : Sealing)
    → sealing_of r tariff params ≡ Ok sealing → IsSealOfTexts tariff params sealing.new
of_opening (Err fault) tariff params sealing e = absurd cc
of_opening (Ok opening) tariff params sealing e =
    (based (old_seal opening.seal) (over_totals opening.totals opening.seal) tariff params sealing e).over.reads.is_of

pub seal_of_texts : (image tariff params : List ℕ) (sealing : Sealing)
    → sealing_of (opening_in image) tariff params ≡ Ok sealing → IsSealOfTexts tariff params sealing.new
seal_of_texts image tariff params sealing = of_opening (opening_in image) tariff params sealing

-- ---- what was sealed is sealed again

-- what was found of a sealed store
record Finds (t : Result (Found Durable) SlotFault) (l : Result (Found Seal) SlotFault)
    (store : Durable × Seal) : Type 0 where
  pub place : Place
  pub other : Place
  pub totals : t ≡ Ok (Latest place store.0)
  pub seal_is : l ≡ Ok (Latest other store.1)

finds_by : (t : Result (Found Durable) SlotFault) (l : Result (Found Seal) SlotFault) (store : Durable × Seal)
    → store_of (opening_by t l) ≡ Ok store → Finds t l store
finds_by (Err fault) l store e = absurd cc
finds_by (Ok found) (Err fault) store e = absurd cc
finds_by (Ok Blank) (Ok seal) store e = absurd cc
finds_by (Ok (Latest place durable)) (Ok Blank) store e = absurd cc
finds_by (Ok (Latest place durable)) (Ok (Latest other seal)) store e =
    let own : Durable × Seal = (durable, seal) in
    let same : own ≡ store = cc in
    record {
      place = place;
      other = other;
      totals = ap (λ (p : Durable × Seal). Ok (Latest place p.0)) same;
      seal_is = ap (λ (p : Durable × Seal). Ok (Latest other p.1)) same;
    }

abbrev totals_in : (image : List ℕ) → Result (Found Durable) SlotFault
totals_in image = found_at totals.reads states.state_number_of 0 image

abbrev seal_in : (image : List ℕ) → Result (Found Seal) SlotFault
seal_in image = found_at seals.reads seals.seal_number_of 1024 image

-- a seal that is found is in its ranges
in_ranges : (image : List ℕ) (place : Place) (seal : Seal) → seal_in image ≡ Ok (Latest place seal) → IsSeal seal
in_ranges image place seal found =
    let answered : IsAnswer seals.reads seals.seal_number_of 1024 image (Ok (Latest place seal)) =
    subst (λ (r : Result (Found Seal) SlotFault). IsAnswer seals.reads seals.seal_number_of 1024 image r) found
    ((answer_is seals.reads seals.seal_number_of 1024 image (seal_in image)).0 refl) in
    ((seals_are_read_by_their_table (take body_size (drop (slot_at 1024 place.slot + 1) image)) seal).0
    answered.latest.body_is).0

-- the parameters and the digest, on any store
record SecuresOn (seal new : Seal) : Type 0 where
  pub params : new.params ≡ seal.params
  pub digest : new.digest ≡ seal.digest

on_any : (image other tariff : List ℕ) (store : Durable × Seal) (sealing : Sealing)
    → store_of (opening_in image) ≡ Ok store → sha256 tariff ≡ store.1.digest
    → sealing_of (opening_in other) tariff (sealed_text store.1) ≡ Ok sealing → SecuresOn store.1 sealing.new
on_any image other tariff store sealing there digest e =
    let found = finds_by (totals_in image) (seal_in image) store there in
    let is_of = seal_of_texts other tariff (sealed_text store.1) sealing e in
    let same : Ok sealing.new.params ≡ Ok store.1.params =
    sym is_of.params_are ∙ sealed_again store.1 (in_ranges image found.other store.1 found.seal_is) in
    record { params = cc; digest = is_of.digest ∙ digest }

pub sealed_on_any : (image other tariff : List ℕ) (store : Durable × Seal) (t : Tree) (sealing : Sealing)
    → store_of (opening_in image) ≡ Ok store → sha256 tariff ≡ store.1.digest → tariff_in tariff ≡ Ok t
    → t.decimals ≡ store.1.decimals → sealing_of (opening_in other) tariff (sealed_text store.1) ≡ Ok sealing
    → SecureTheSame store.1 sealing.new
sealed_on_any image other tariff store t sealing there digest sound decimals e =
    let both = on_any image other tariff store sealing there digest e in
    let is_of = seal_of_texts other tariff (sealed_text store.1) sealing e in
    let same : Ok is_of.tree ≡ Ok t = sym is_of.sound ∙ sound in
    let tree : is_of.tree ≡ t = cc in
    record {
      params = both.params;
      digest = both.digest;
      decimals = is_of.decimals ∙ (ap (λ (x : Tree). x.decimals) tree ∙ decimals);
    }

-- the decimals, on the store itself
base_has : (held ended : Bool) (own base : Base)
    → (if held then Err TripHeld else (if ended then Err SealEnded else Ok own)) ≡ Ok base
    → base.decimals ≡ own.decimals
base_has true ended own base e = absurd cc
base_has false true own base e = absurd cc
base_has false false own base e = let same : own ≡ base = cc in ap (λ (x : Base). x.decimals) (sym same)

abbrev fit_by : Bool → (found own : ℕ) → Result (Unit {0}) Ended
fit_by b found own = if b then Ok tt else Err (OtherDecimals found own)

same_by : (found own : ℕ) (b : Bool) → (found == own) ≡ b → fit_by b found own ≡ Ok tt → found ≡ own
same_by found own true is e = eqb-true found own is
same_by found own false is e = absurd cc

pub sealed_on_itself : (image tariff : List ℕ) (store : Durable × Seal) (sealing : Sealing)
    → store_of (opening_in image) ≡ Ok store → sha256 tariff ≡ store.1.digest
    → sealing_of (opening_in image) tariff (sealed_text store.1) ≡ Ok sealing → SecureTheSame store.1 sealing.new
sealed_on_itself image tariff store sealing there digest e =
    let both = on_any image image tariff store sealing there digest e in
    let found = finds_by (totals_in image) (seal_in image) store there in
    let seal = store.1 in
    let opening : opening_in image
    ≡ Ok (record { totals = Latest found.place store.0; seal = Latest found.other seal }) =
    ap (λ (r : Result (Found Durable) SlotFault). opening_by r (seal_in image)) found.totals
    ∙ ap (opening_by (Ok (Latest found.place store.0))) found.seal_is in
    let over = over_totals (Latest found.place store.0) (Latest found.other seal) in
    let from : sealing_over (Some seal) over tariff (sealed_text seal) ≡ Ok sealing =
    sym (ap (λ (r : Result Opening StoreFault). sealing_of r tariff (sealed_text seal)) opening) ∙ e in
    let has = based (Some seal) over tariff (sealed_text seal) sealing from in
    let own : Base = record {
      totals = Some store.0;
      found = Some (found.other, seal.seal_number);
      decimals = Some seal.decimals;
    } in
    let decimals : has.base.decimals ≡ Some seal.decimals =
    base_has (is_some store.0.hold) (seal.seal_number == last_seal_number) own has.base has.is in
    let is_of = has.over.reads.is_of in
    let fit : are_decimals (Some seal.decimals) is_of.tree.decimals ≡ Ok tt =
    subst (λ (o : Option ℕ). are_decimals o is_of.tree.decimals ≡ Ok tt) decimals has.over.reads.same in
    record {
      params = both.params;
      digest = both.digest;
      decimals = is_of.decimals
          ∙ sym (same_by seal.decimals is_of.tree.decimals (seal.decimals == is_of.tree.decimals) refl fit);
    }
