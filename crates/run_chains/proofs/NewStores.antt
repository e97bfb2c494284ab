-- A run on a new store prints the receipts that are explained.
use Rattle.std.{specs.Bool.{Decides}, proofs.Common.{if◌then◌else◌, length, nat_lt, refl, subst, sym, true}}
use Rattle.{std.specs.Cmp.Lexicographic.{pointwise}, sha2.specs.Sha256.{sha256}, slot_store.proofs.Laws.{body_found}}
use Rattle.std.{specs.Prelude.{nat_eq}, proofs.lemmas.{Bool.Decides.{Decides-eqb}, Slice.Eq.{slice_eq-Decides}}}
use Rattle.std.proofs.Common.{ℕ, ◌<◌, ◌∙◌, ◌≡◌, Bool, Err, List, None, Ok, Option, Result, Some, ap, false}
use Rattle.{slot_store.specs.declared.found.Found.TheVariants.{Latest}, totals_record.specs.States.{first_state}}
use Rattle.{drive_text.specs.Ending.{BadAt, Endless, StreamEnd, Whole}, meter_store.specs.Sealing.{sealed_totals}}
use Rattle.seal_record.specs.{Reading.{params_read}, declared.params.{ParamFault.{ParamFault}, Params.{Params}}}
use Rattle.{tariff_tree.specs.Tree.{Tree}, tariff_syntax.specs.Parsed.{tree_parsed}, meter_model.specs.Run.{actions_of}}
use Rattle.{meter_model.specs.Setting.{setting_by}, verify_bench.proofs.Laws.{explanations_have_the_receipts-receipts}}
use Rattle.{verify_bench.specs.TripExplanations.{explanations_of}, call_ends.specs.Answer.{Answer, shows}}
use Rattle.call_ends.specs.{Tariffs.{checked_in, tariff_in}, declared.tariff.Refusal.{Refusal, TheVariants.{TooLong}}}
use Rattle.{store_commands.specs.Opening.{opening_by}, bench_commands.specs.Explain.{explanation_text}}
use Rattle.store_commands.specs.{SealedTariff.{accepted, sealed_tariff}, declared.opening.StoreFault.{StoreFault}}
use Rattle.store_commands.{specs.declared.opening.Opening.{Opening}, proofs.Laws.{seal_of_texts}}
use Rattle.bench_commands.specs.DriveTexts.{read_setting, setting_with, text_answer, whole_answer}
use Rattle.{drive_commands.specs.Run.{start_with}, run_chains.specs.Common.{texts}}
use Rattle.run_chains.specs.Common.{Durable, Ended, Found, HasSeal, Seal, Setting, SlotFault, Start, deeds_in, deeds_of}
use Rattle.run_chains.specs.Common.{drive_answer, drive_end, events_of, found_at, opening_in, run_answer, start_of}
use Rattle.run_chains.specs.NewStore.{ExplainsRun, IsNewStore}
use Rattle.meter_store.specs.Stored as states
use Rattle.seal_record.specs.Decoding as seals
use Rattle.totals_record.specs.Reading as totals
use Rattle.call_ends.specs.declared.ending.Ended.TheVariants as ended

-- a text with a sound tariff is short
short_text : (b : Bool) (text : List ℕ) (t : Tree) → (if b then Err TooLong else checked_in (tree_parsed text)) ≡ Ok t
    → b ≡ false
short_text true text t e = absurd cc
short_text false text t e = refl

own_digest : (digest : List ℕ) → pointwise nat_eq digest digest ≡ true
own_digest digest = (slice_eq-Decides unsigned digest digest (pointwise nat_eq digest digest) refl).1 refl
  where
    unsigned : (a b : ℕ) → Decides (nat_eq a b) (a ≡ b)
    unsigned = Decides-eqb

-- it is accepted beside its own digest
accepted_there : (text : List ℕ) (t : Tree) → tariff_in text ≡ Ok t → sealed_tariff (sha256 text) text ≡ Ok t
accepted_there text t sound =
    let short : nat_lt 65536 (length text) ≡ false = short_text (nat_lt 65536 (length text)) text t sound in
    let own = sha256 text in
    ap (λ (b : Bool). if b then Err (ended.BadTariff TooLong)
    else (if pointwise nat_eq own own then accepted (tariff_in text) else Err (ended.WrongTariff own own))) short
    ∙ (ap (λ (b : Bool). if b then accepted (tariff_in text) else Err (ended.WrongTariff own own)) (own_digest own)
    ∙ ap accepted sound)

-- a run that ends with 0 has come to the end of the drive
whole_by : (text : List ℕ) (end : StreamEnd) → (drive_answer text end).status ≡ 0 → end ≡ Whole
whole_by text Whole e = refl
whole_by text (BadAt line) e = absurd cc
whole_by text Endless e = absurd cc

pub new_store_explained : (tariff params drive image : List ℕ) → IsNewStore tariff params image
    → (run_answer (start_of (opening_in image) tariff) drive).status ≡ 0 → ExplainsRun tariff params drive image
new_store_explained tariff params drive image new ends =
    let seal = new.sealing.new in
    let is_of = seal_of_texts new.found tariff params new.sealing new.is in
    let state : states.HasState image first_state =
    subst (λ (o : Option Durable). states.HasState image (sealed_totals o)) new.none new.sealed.totals in
    let found = body_found totals.reads states.state_number_of 0 image first_state state in
    let sealed = body_found seals.reads seals.seal_number_of 1024 image seal new.sealed.seal in
    let opening : opening_in image ≡ Ok (record { totals = Latest found.0 first_state; seal = Latest sealed.0 seal }) =
    ap (λ (r : Result (Found Durable) SlotFault). opening_by r (found_at seals.reads seals.seal_number_of 1024 image))
    found.1
    ∙ ap (opening_by (Ok (Latest found.0 first_state))) sealed.1 in
    let accepted_as : sealed_tariff seal.digest tariff ≡ Ok is_of.tree =
    ap (λ (digest : List ℕ). sealed_tariff digest tariff) is_of.digest
    ∙ accepted_there tariff is_of.tree is_of.sound in
    let start : Start = record { durable = first_state; seal = seal; tree = is_of.tree } in
    let starts : start_of (opening_in image) tariff ≡ Ok start =
    ap (λ (r : Result Opening StoreFault). start_of r tariff) opening
    ∙ ap (start_with first_state seal) accepted_as in
    let setting = setting_by is_of.tree seal.params in
    let goes_by : read_setting tariff params ≡ Ok setting =
    ap (λ (r : Result Tree Refusal). setting_with r (params_read params)) is_of.sound
    ∙ ap (setting_with (Ok is_of.tree)) is_of.params_are in
    let acts = actions_of setting first_state (events_of drive) in
    let shown = texts seal (deeds_of acts) in
    let status : (drive_answer shown (drive_end drive)).status ≡ 0 =
    sym (ap (λ (r : Result Start Ended). (run_answer r drive).status) starts) ∙ ends in
    let whole : drive_end drive ≡ Whole = whole_by shown (drive_end drive) status in
    record {
      start = start;
      setting = setting;
      acts = acts;
      starts = starts;
      acts_are = refl;
      goes_by = goes_by;
      runs = ap (λ (r : Result Start Ended). run_answer r drive) starts ∙ ap (drive_answer shown) whole;
      explains = ap (λ (r : Result Setting Ended). text_answer explanation_text r drive) goes_by
          ∙ ap (whole_answer explanation_text setting drive) whole;
      receipts = explanations_have_the_receipts-receipts setting (events_of drive);
    }
