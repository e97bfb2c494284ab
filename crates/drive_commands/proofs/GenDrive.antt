-- The command `gen`.
use Rattle.std.{specs.Prelude.{Bool, false, is_err, is_ok, nat_lt, pos, suc, true, zero}, proofs.lemmas.Bool.{lt-ltb}}
use Rattle.std.proofs.Common.{[], ℕ, ◌*◌, ◌++◌, ◌+◌, ◌<◌, ◌∙◌, ◌∷◌, ◌≡◌, ◌≢◌, ◌≤◌, Err, List, None, Ok, Option, Result}
use Rattle.std.proofs.{Common.{Some, ap, arith, inl, length, refl, subst, sym}, lemmas.List.{append-nil}}
use Rattle.{taxi_units.specs.declared.event.Event.{Event}, slot_store.specs.declared.found.SlotFault.{SlotFault}}
use Rattle.slot_store.{specs.{Scan.{found_at}, declared.found.Found.{Found}}, proofs.Laws.{body_found}}
use Rattle.interval_clock.specs.Offsets.{EachPlace, IsInRangeAt, IsOffsetList, RisesAt}
use Rattle.{drive_text.specs.{Drive.{bad_at_end}, Ending.{stream_limit}}, meter_store.specs.Sealing.{totals_found}}
use Rattle.{meter_model.specs.Setting.{IsSealOf}, meter_states.specs.Setting.{IsTariffOf}}
use Rattle.{meter_run.specs.Supply.{drop_steps, is_supplied}, call_ends.specs.Ending.{EndsUnprinted, ended_for}}
use Rattle.{call_ends.specs.Making.{EndsWithText}, drive_commands.specs.Generate.{state_after}}
use Rattle.call_ends.{specs.declared.tariff.TextFault.{TextFault}, proofs.Laws.{course-bad_tariff, course-no_memory}}
use Rattle.drive_commands.specs.Common.{Answer, Answered, Durable, HasState, IsBoundedByDrive, IsSettingOf, IsTablesOf}
use Rattle.drive_commands.specs.Common.{Refusal, Rose, Seal, Single, TableParts, Tree, Whole, bad_tariff, drive_end}
use Rattle.drive_commands.specs.Common.{events_in, first_second, generated, tables_of, tariff_in}
use Rattle.drive_commands.specs.Generate.{city_text, gen_answer, gen_command, generated_setting, generated_text}
use Rattle.totals_record.specs.Reading as totals
use Rattle.meter_store.specs.Stored as states
use Rattle.call_ends.specs.declared.ending.Ended.TheVariants as ended
use Rattle.call_ends.specs.declared.tariff.TextFault.TheVariants as texts

-- local time an hour ahead of UTC
pub is_an_hour : IsOffsetList ((first_second, pos 3600) ∷ [])
is_an_hour = record { some = omega arith; few = omega arith; start = refl; in_range = in_range; rising = rising }
  where
    in_range : EachPlace ((first_second, pos 3600) ∷ []) (IsInRangeAt ((first_second, pos 3600) ∷ []))
    in_range zero below = ((omega arith, omega arith), (omega arith, omega arith))
    in_range (suc place) below = absurd (omega arith)

    rising : EachPlace ((first_second, pos 3600) ∷ []) (RisesAt ((first_second, pos 3600) ∷ []))
    rising zero below some = absurd (omega arith)
    rising (suc place) below some = absurd (omega arith)

-- ---- the state that the store has

false-true : false ≡ true → ⊥
false-true e = absurd cc

none-some : {x : Durable} → None ≡ Some x → ⊥
none-some e = absurd cc

abbrev pub state_of : Result (Found Durable) SlotFault → Option Durable
state_of (Ok found) = totals_found found
state_of (Err fault) = None

-- a scan finds the state that the image stands for
pub state_found : (image : List ℕ) (durable : Durable) (answer : Result (Found Durable) SlotFault)
    → HasState image durable
    → answer ≡ found_at totals.reads states.state_number_of 0 image → state_of answer ≡ Some durable
state_found image durable answer has e = let by = body_found totals.reads states.state_number_of 0 image durable has in
    ap state_of (e ∙ by.1)

pub state_found-ok : (image : List ℕ) (durable : Durable) (answer : Result (Found Durable) SlotFault)
    (found : Found Durable) → HasState image durable
    → answer ≡ found_at totals.reads states.state_number_of 0 image → answer ≡ Ok found
    → totals_found found ≡ Some durable
state_found-ok image durable answer found has e is = sym (ap state_of is) ∙ state_found image durable answer has e

err-not : (answer : Result (Found Durable) SlotFault) (durable : Durable) → state_of answer ≡ Some durable
    → is_err answer ≡ true → ⊥
err-not (Ok found) durable f h = absurd (false-true h)
err-not (Err fault) durable f h = absurd (none-some f)

pub state_found-err : (image : List ℕ) (durable : Durable) (answer : Result (Found Durable) SlotFault)
    → HasState image durable
    → answer ≡ found_at totals.reads states.state_number_of 0 image → is_err answer ≡ true → ⊥
state_found-err image durable answer has e = err-not answer durable (state_found image durable answer has e)

-- a run that didn't fail is none that failed
pub not_failed : {T E : Type 0} (ran : Result T E) → is_ok ran ≡ true → is_err ran ≡ true → ⊥
not_failed (Ok done) ok failed = absurd cc
not_failed (Err why) ok failed = absurd cc

pub same_some : (o : Option Durable) (x y : Durable) → o ≡ Some x → o ≡ Some y → x ≡ y
same_some o x y e f = cc

-- ---- the drive

-- what never fails has no fault
pub never_rose : Rose 0 0 → ⊥
never_rose h = omega (arith, h)

-- a drive without a bad line that is short enough is whole
pub whole_drive : (drive : List ℕ) → bad_at_end drive ≡ None → length drive < stream_limit → drive_end drive ≡ Whole
whole_drive drive good short = let first : nat_lt (length drive) stream_limit ≡ true = lt-ltb _ _ short in
    rw (first, good) refl

-- a drive that was taken to its end is bounded by all of its events
pub whole_bound : (told : Type 0) (drive left : List ℕ) (before now : ℕ) → told → left ≡ []
    → IsBoundedByDrive 0 told drive left before now → now ≤ before + 64 + 64 * length (events_in drive)
whole_bound told drive left before now tells e h =
    let all : drive ≡ h.taken = (h.split tells).bytes ∙ ap (λ (x : List ℕ). h.taken ++ x) e ∙ append-nil h.taken in
    subst (λ (x : List ℕ). now ≤ before + 64 + 64 * length (events_in x)) (sym all)
    (omega (arith, h.bound, drop_few (events_in h.taken) (is_supplied false (events_in h.taken)) refl))
  where
    drop_few : (events : List Event) (supplied : Bool) → is_supplied false events ≡ supplied → drop_steps events ≤ 64
    drop_few events true is = let drops : drop_steps events ≡ 64 = rw is refl in omega (arith, drops)
    drop_few events false is = let drops : drop_steps events ≡ 0 = rw is refl in omega (arith, drops)

-- ---- how the command ends

pub refused-gen : (seed trips : ℕ) (o : Result Tree Refusal) (why : Refusal) → o ≡ Err why
    → gen_answer seed trips o ≡ bad_tariff why
refused-gen seed trips o why e = ap (gen_answer seed trips) e

zero-three : (n : ℕ) → n ≡ 0 → n ≢ 3
zero-three n e f = absurd cc

-- the text that is printed, by the tables and the state that it is made of
pub text_is : (seed trips decimals : ℕ) (durable : Durable) (t : Tree) (tables : TableParts)
    → tables ≡ tables_of t 10000 → decimals ≡ tables.decimals
    → durable ≡ state_after (generated_setting t) (generated seed trips)
    → (gen_answer seed trips (Ok t)).shown ≡ generated_text seed trips decimals durable
text_is seed trips decimals durable t tables is e f =
    ap (λ (d : Durable). generated_text seed trips t.decimals d) (sym f)
    ∙ ap (λ (n : ℕ). generated_text seed trips n durable) (sym (e ∙ ap (λ (p : TableParts). p.decimals) is))

-- the meter that carries out the drive goes by the setting of the command
pub setting_is : (t : Tree) (tables : TableParts) (seal : Seal) → IsTablesOf t tables → tables ≡ tables_of t 10000
    → seal.params.constant ≡ 10000 → seal.params.mode ≡ Single
    → seal.params.hold_time ≡ 60 → seal.params.offsets ≡ (first_second, pos 3600) ∷ []
    → IsSettingOf (generated_setting t) tables seal
setting_is t tables seal compiled is constant mode hold offsets =
    let of_tariff : IsTariffOf (generated_setting t) tables =
    record { tree = t; compiled = compiled; parts = refl; constant = ap (λ (p : TableParts). p.constant) is } in
    let of_seal : IsSealOf (generated_setting t) seal =
    record { constant = constant; mode = mode; hold_time = hold; offsets = offsets } in
    record { tariff = of_tariff; secured = of_seal }

module _ (seed trips : ℕ) (contents left : ℕ → List ℕ) (image : List ℕ) (read_failed : ℕ → Type 0) where
  -- the city tariff wasn't accepted
  pub course-gen_refused : (fault : TextFault) → fault ≢ texts.ReadFault
      → ((why : Refusal) → fault ≡ texts.Refused why → tariff_in city_text ≡ Err why)
      → EndsUnprinted (gen_command seed trips) contents left image read_failed (ended_for fault)
  course-gen_refused texts.ReadFault not_read refused = absurd (not_read refl)
  course-gen_refused (texts.Refused why) not_read refused =
      course-bad_tariff (gen_command seed trips) contents left image read_failed refl tt (λ e. absurd cc) why
      (refused-gen seed trips (tariff_in city_text) why (refused why refl))
  course-gen_refused texts.NoMemory not_read refused =
      course-no_memory (gen_command seed trips) contents left image read_failed refl tt

  -- the text is made
  pub course-gen : (t : Tree) (text : List ℕ) → tariff_in city_text ≡ Ok t → (gen_answer seed trips (Ok t)).shown ≡ text
      → EndsWithText (gen_command seed trips) contents left image read_failed text ended.Done
  course-gen t text sound is =
      let e = ap (gen_answer seed trips) sound in
      record {
        course = Answered;
        may = record {
          whole = λ z word reads. absurd reads;
          bad = λ z. absurd (zero-three _ (ap (λ (a : Answer). a.status) e) z);
        };
        stands = inl (record {
          status_is = sym (ap (λ (a : Answer). a.status) e);
          line_is = sym (ap (λ (a : Answer). a.line) e);
          shown = ap (λ (a : Answer). a.shown) e ∙ is;
        });
      }
