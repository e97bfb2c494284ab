-- Runs from starts that are alike.
use Rattle.{std.specs.{Cmp.Lexicographic.{pointwise}, Prelude.{is_ok, nat_eq}}, sha2.specs.Sha256.{sha256}}
use Rattle.std.proofs.Common.{ℕ, ◌+◌, ◌∙◌, ◌≡◌, Bool, Err, List, None, Ok, Option, Result, Some, ap, drop, false}
use Rattle.std.proofs.{Common.{if◌then◌else◌, length, nat_lt, refl, subst, sym, take, true}, lemmas.Bool.{false≢true}}
use Rattle.{slot_bodies.specs.Bodies.{body_size}, slot_store.{specs.Scan.{IsAnswer}, proofs.Laws.{answer_is}}}
use Rattle.{slot_store.specs.Slots.{slot_at}, totals_record.specs.declared.trip.Trip.{Trip}}
use Rattle.seal_record.{specs.Ranges.{IsSeal}, proofs.Laws.{seals_are_read_by_their_table}}
use Rattle.{tariff_tree.specs.Tree.{Tree}, tariff_syntax.specs.Parsed.{tree_parsed}, meter_model.specs.Run.{whole_run}}
use Rattle.tariff_syntax.proofs.Laws.{texts_are_parsed_as_they_read-tariff, texts_have_their_numbers}
use Rattle.tariff_check.specs.{Faults.{fault_of}, declared.fault.CheckFault.{CheckFault}}
use Rattle.tariff_check.{specs.SoundTariff.{sound_of}, proofs.Laws.{sound_tariffs_have_sound_parts-none}}
use Rattle.{meter_states.proofs.Laws.{the_store_has_what_the_acts_commit-run}, same_tariffs.specs.Reached.{HoldGoesOn}}
use Rattle.same_tariffs.specs.{Alike.{AreHoldsAlike, AreOutcomesAlike, AreStoresAlike}, Contexts.{IsSettingInRange}}
use Rattle.{same_tariffs.specs.Same.{AreSameSettings}, meter_run.specs.RunLaws.{after_deeds_of, after_is}}
use Rattle.same_tariffs.proofs.Laws.{events_of_drives_are_timely, same_tariffs_run_alike-goes_on}
use Rattle.same_tariffs.proofs.Laws.{same_tariffs_run_alike-outcomes, same_tariffs_run_alike-stores}
use Rattle.call_ends.specs.{Tariffs.{checked_in, sound_in, tariff_in}, declared.tariff.Refusal.TheVariants.{TooLong}}
use Rattle.{call_ends.specs.declared.tariff.Refusal.{Refusal}, store_commands.specs.SealedTariff.{accepted}}
use Rattle.{drive_commands.proofs.Laws.{found_in}, run_chains.specs.Common.{start_of}}
use Rattle.run_chains.specs.Common.{Act, Durable, Ended, Found, Seal, Setting, SlotFault, Start, after_deeds, deeds_in}
use Rattle.run_chains.specs.Common.{drive_answer, drive_end, events_of, found_at, opening_in, run_answer, setting_in}
use Rattle.run_chains.specs.SameRuns.{AreSameStarts, AreStartsAlike, DoTheSame, GoBySame, start_after}
use Rattle.run_chains.proofs.SameTexts.{alike-entries, alike-texts}
use Rattle.seal_record.specs.Decoding as seals
use Rattle.call_ends.specs.declared.ending.Ended.TheVariants as ended

-- ---- a tariff that a run begins with is sound, and one of a text

record IsOfText (text : List ℕ) (t : Tree) : Type 0 where
  pub parsed : tree_parsed text ≡ Ok t
  pub none : fault_of t ≡ None

sound-is : (t u : Tree) (fault : Option CheckFault) → fault_of t ≡ fault → sound_in t fault ≡ Ok u → (t ≡ u)
    × (fault_of t ≡ None)
sound-is t u None is e = (cc, is)
sound-is t u (Some fault) is e = absurd (false≢true (ap is_ok e))

checked-is : (text : List ℕ) (t : Tree) (r : Result Tree ℕ) → tree_parsed text ≡ r → checked_in r ≡ Ok t
    → IsOfText text t
checked-is text t (Ok u) is e =
    let both = sound-is u t (fault_of u) refl e in
    record {
      parsed = is ∙ ap (λ (x : Tree). Ok x) both.0;
      none = subst (λ (x : Tree). fault_of x ≡ None) both.0
          both.1;
    }
checked-is text t (Err line) is e = absurd cc

short-is : (b : Bool) (text : List ℕ) (t : Tree) → (if b then Err TooLong else checked_in (tree_parsed text)) ≡ Ok t
    → IsOfText text t
short-is true text t e = absurd cc
short-is false text t e = checked-is text t (tree_parsed text) refl e

accepted-is : (r : Result Tree Refusal) (t : Tree) → accepted r ≡ Ok t → r ≡ Ok t
accepted-is (Ok u) t e = cc
accepted-is (Err why) t e = absurd cc

digest-is : (b : Bool) (text : List ℕ) (why : Ended) (t : Tree)
    → (if b then accepted (tariff_in text) else Err why) ≡ Ok t → IsOfText text t
digest-is true text why t e = short-is (nat_lt 65536 (length text)) text t (accepted-is (tariff_in text) t e)
digest-is false text why t e = absurd cc

sealed-is : (b : Bool) (digest text : List ℕ) (t : Tree)
    → (if b then Err (ended.BadTariff TooLong) else (if pointwise nat_eq digest (sha256 text) then accepted
    (tariff_in text) else Err (ended.WrongTariff digest (sha256 text)))) ≡ Ok t → IsOfText text t
sealed-is true digest text t e = absurd cc
sealed-is false digest text t e = digest-is (pointwise nat_eq digest (sha256 text)) text
    (ended.WrongTariff digest (sha256 text)) t e

-- ---- the setting of a run is in range

setting-range : (image tariff : List ℕ) (a : Start) → start_of (opening_in image) tariff ≡ Ok a
    → IsSettingInRange a.tree (setting_in a)
setting-range image tariff a e =
    let h = found_in image tariff a e in
    let at =
    subst (λ (r : Result (Found Seal) SlotFault). IsAnswer seals.reads seals.seal_number_of 1024 image r) h.seal.1
    ((answer_is seals.reads seals.seal_number_of 1024 image
    (found_at seals.reads seals.seal_number_of 1024 image)).0 refl) in
    let seal : IsSeal a.seal =
    ((seals_are_read_by_their_table (take body_size (drop (slot_at 1024 h.seal.0.slot + 1) image))
    a.seal).0 at.latest.body_is).0 in
    let text = sealed-is (nat_lt 65536 (length tariff)) a.seal.digest tariff a.tree h.tariff_is in
    record {
      parts = refl;
      writable = texts_have_their_numbers tariff a.tree ((texts_are_parsed_as_they_read-tariff tariff a.tree).1
          text.parsed);
      sound = (sound_tariffs_have_sound_parts-none a.tree).0 text.none;
      constant = seal.params.constant;
      offsets = seal.params.offsets;
    }

-- the settings of starts that go by the same are the same
others-same : (a b : Start) → GoBySame a b → record (setting_in a) { tariff = sound_of b.tree } ≡ setting_in b
others-same a b same = ap (λ (x : Seal). setting_in (record b { seal = x })) same.seal

settings-same : (image other tariff rewritten : List ℕ) (a b : Start) → start_of (opening_in image) tariff ≡ Ok a
    → start_of (opening_in other) rewritten ≡ Ok b → GoBySame a b
    → AreSameSettings a.tree b.tree (setting_in a) (setting_in b)
settings-same image other tariff rewritten a b one second same = record {
  one = setting-range image tariff a one;
  other = setting-range other rewritten b second;
  tariffs = same.tariffs;
  others = others-same a b same;
}

-- ---- starts with one state

none-alike : (s t : Setting) (a b : Option Trip) → a ≡ None → a ≡ b → AreHoldsAlike s t a b
none-alike s t a b none is = subst (λ (x : Option Trip). AreHoldsAlike s t a x) is
    (subst (λ (x : Option Trip). AreHoldsAlike s t x x) (sym none) tt)

pub alike_begin : (a b : Start) → AreSameStarts a b → AreStartsAlike a b
alike_begin a b starts = record {
  same = starts.same;
  durable = record {
    hold = none-alike (setting_in a) (setting_in b) a.durable.hold b.durable.hold starts.free
        (ap (λ (d : Durable). d.hold) starts.durable);
    others = ap (λ (d : Durable). record a.durable { hold = d.hold }) (sym starts.durable) ∙ starts.durable;
  };
  goes_on = subst (λ (x : Option Trip). HoldGoesOn (sound_of a.tree) x) (sym starts.free) tt;
}

-- ---- the runs

abbrev acts_of : Start → (drive : List ℕ) → List Act
acts_of a drive = (whole_run (setting_in a) a.durable (events_of drive)).acts

-- the store has what the deeds of a run commit
left : (a : Start) (drive : List ℕ) → (whole_run (setting_in a) a.durable (events_of drive)).next.durable ≡ after_deeds
    a.durable (deeds_in a drive)
left a drive =
    the_store_has_what_the_acts_commit-run (setting_in a) a.durable (events_of drive)
    ∙ sym (after_is a.durable (acts_of a drive)) ∙ sym (after_deeds_of a.durable (acts_of a drive))

module _ (image other tariff rewritten drive : List ℕ) (a b : Start) (one : start_of (opening_in image) tariff ≡ Ok a)
    (second : start_of (opening_in other) rewritten ≡ Ok b) (alike : AreStartsAlike a b) where
  settings : AreSameSettings a.tree b.tree (setting_in a) (setting_in b)
  settings = settings-same image other tariff rewritten a b one second alike.same

  outcomes : AreOutcomesAlike (setting_in a) (setting_in b) (whole_run (setting_in a) a.durable (events_of drive))
      (whole_run (setting_in b) b.durable (events_of drive))
  outcomes = same_tariffs_run_alike-outcomes a.tree b.tree (setting_in a) (setting_in b) a.durable b.durable
      (events_of drive) settings (events_of_drives_are_timely drive) alike.goes_on alike.durable

  pub same_answers : DoTheSame (start_of (opening_in image) tariff) (start_of (opening_in other) rewritten) a b drive
  same_answers = record {
    first = ap (λ (r : Result Start Ended). run_answer r drive) one;
    second = ap (λ (r : Result Start Ended). run_answer r drive) second
        ∙ ap (λ (text : List ℕ). drive_answer text (drive_end drive)) (alike-texts (setting_in a) (setting_in b) b.seal
        (acts_of a drive) (acts_of b drive) outcomes.acts);
    entries = alike-entries (setting_in a) (setting_in b) (acts_of a drive) (acts_of b drive) outcomes.acts;
  }

  pub same_goes_on : AreStartsAlike (start_after a drive) (start_after b drive)
  same_goes_on =
      let stores = same_tariffs_run_alike-stores a.tree b.tree (setting_in a) (setting_in b) a.durable b.durable
      (events_of drive) settings (events_of_drives_are_timely drive) alike.goes_on alike.durable in
      let on = same_tariffs_run_alike-goes_on a.tree b.tree (setting_in a) (setting_in b) a.durable (events_of drive)
      settings
      (events_of_drives_are_timely drive) alike.goes_on in
      record {
        same = record { seal = alike.same.seal; tariffs = alike.same.tariffs };
        durable = subst (λ (d : Durable). AreStoresAlike (setting_in a) (setting_in b) d
            (after_deeds b.durable (deeds_in b drive))) (left a drive)
            (subst (λ (d : Durable). AreStoresAlike (setting_in a) (setting_in b)
            (whole_run (setting_in a) a.durable (events_of drive)).next.durable d) (left b drive) stores);
        goes_on = subst (λ (d : Durable). HoldGoesOn (sound_of a.tree) d.hold) (left a drive) on;
      }
