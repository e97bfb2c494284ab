-- How records are shown one after another.
use Rattle.std.proofs.Common.{[], ℕ, ◌++◌, ◌+◌, ◌<◌, ◌∙◌, ◌∷◌, ◌≡◌, ◌≤◌, List, ap, append_assoc, arith, drop, length}
use Rattle.std.proofs.{Common.{refl, subst, suc, sym, take, zero}, lemmas.List.{append-nil, take-append-drop}}
use Rattle.{outside.proofs.Laws.{begins_after, begins_more}, log_commands.specs.Slots.{HasRecord, behind_gate, slot_of}}
use Rattle.log_commands.{specs.{Common.{Begins}, Record.{IsRecord, Record}}, proofs.Spelled.{one_spelled, short_record}}
use Rattle.log_commands.{specs.{LogList.{AreInSlots}, LogScan.{IsContent}}, proofs.RollLaws.{some_bytes}}
use Rattle.log_commands.specs.ShownLog.{texts_of}
use Rattle.log_commands.specs.declared.scanning.Content.{Content, TheVariants.{Closed, Filled, Unread}}

-- what is held is what is read
told_content : (image : List ℕ) (place : ℕ) (it : Record) (content : Content) → HasRecord image (slot_of place) place it
    → IsContent image (slot_of place) content
    → (at : ℕ) × (content ≡ Filled at it)
told_content image place it Closed h is = absurd (is h.opened)
told_content image place it Unread h is = absurd (is.1 place it h.spells)
told_content image place it (Filled at found) h is = (
  at,
  ap (λ (r : Record). Filled at r)
      (one_spelled (behind_gate image (slot_of place)) at place found it is.spells h.spells),
)

same_record : (at other : ℕ) (it found : Record) (content : Content) → content ≡ Filled at it
    → content ≡ Filled other found → found ≡ it
same_record at other it found content told is = cc

-- so it is the record in it
pub told_record : (image : List ℕ) (place : ℕ) (it : Record) (content : Content) (at : ℕ) (found : Record)
    → HasRecord image (slot_of place) place it
    → IsContent image (slot_of place) content → content ≡ Filled at found → found ≡ it
told_record image place it content at found h is e = let there = told_content image place it content h is in
    same_record there.0 at it found content there.1 e

not_closed : (at : ℕ) (it : Record) (content : Content) → content ≡ Filled at it → content ≡ Closed → ⊥
not_closed at it content told closed = absurd cc

not_unread : (at : ℕ) (it : Record) (content : Content) → content ≡ Filled at it → content ≡ Unread → ⊥
not_unread at it content told unread = absurd cc

pub told_closed : (image : List ℕ) (place : ℕ) (it : Record) (content : Content)
    → HasRecord image (slot_of place) place it → IsContent image (slot_of place) content → content ≡ Closed → ⊥
told_closed image place it content h is e = let there = told_content image place it content h is in
    not_closed there.0 it content there.1 e

pub told_unread : (image : List ℕ) (place : ℕ) (it : Record) (content : Content)
    → HasRecord image (slot_of place) place it → IsContent image (slot_of place) content → content ≡ Unread → ⊥
told_unread image place it content h is e = let there = told_content image place it content h is in
    not_unread there.0 it content there.1 e

-- a record has a text that is printed at once
pub some_text : (it : Record) → IsRecord it → 0 < length it.text
some_text it h = let some = some_bytes it h in omega (arith, ap length some.1)

pub few_text : (it : Record) → IsRecord it → length it.text ≤ 512
few_text it h = omega (arith, short_record it h)

texts-append : (a b : List Record) → texts_of (a ++ b) ≡ texts_of a ++ texts_of b
texts-append [] b = refl
texts-append (x ∷ a) b =
    ap (λ (t : List ℕ). x.text ++ t) (texts-append a b) ∙ sym (append_assoc x.text (texts_of a) (texts_of b))

-- the record so far behind the first
pub held_next : (image : List ℕ) (from : ℕ) (records : List Record) (k : ℕ) → k < length records
    → AreInSlots image from records
    → (it : Record) × HasRecord image (slot_of (from + k)) (from + k) it
    × (texts_of (take (k + 1) records) ≡ texts_of (take k records) ++ it.text)
held_next image from [] k few held = absurd (omega arith)
held_next image from (it ∷ more) zero few held = (
  it,
  subst (λ (p : ℕ). HasRecord image (slot_of p) p it) (let e : from ≡ from + 0 = omega arith in e) held.0,
  append-nil it.text,
)
held_next image from (it ∷ more) (suc k) few held =
    let there = held_next image (from + 1) more k (omega arith) held.1 in (
      there.0,
      subst (λ (p : ℕ). HasRecord image (slot_of p) p there.0)
          (let e : from + 1 + k ≡ from + suc k = omega arith in e) there.1,
      ap (λ (n : ℕ). texts_of (take n (it ∷ more))) (let e : suc k + 1 ≡ suc (k + 1) = omega arith in e)
          ∙ (ap (λ (t : List ℕ). it.text ++ t) there.2
          ∙ sym (append_assoc it.text (texts_of (take k more)) there.0.text)),
    )

-- so far the first texts are printed
pub shown_more : (old mid new : List ℕ) (records : List Record) (k : ℕ) (text : List ℕ)
    → mid ≡ old ++ texts_of (take k records) → texts_of (take (k + 1) records) ≡ texts_of (take k records) ++ text
    → new ≡ mid ++ text
    → new ≡ old ++ texts_of (take (k + 1) records)
shown_more old mid new records k text so_far is more =
    more ∙ (ap (λ (t : List ℕ). t ++ text) so_far
    ∙ (append_assoc old (texts_of (take k records)) text ∙ ap (λ (t : List ℕ). old ++ t) (sym is)))

pub begun_more : (old mid new : List ℕ) (records : List Record) (k : ℕ) (text : List ℕ)
    → mid ≡ old ++ texts_of (take k records) → texts_of (take (k + 1) records) ≡ texts_of (take k records) ++ text
    → Begins mid new text
    → Begins old new (texts_of records)
begun_more old mid new records k text so_far is begins =
    let first : Begins old new (texts_of (take (k + 1) records)) =
    subst (Begins old new) (sym is) (begins_after old mid new (texts_of (take k records)) text so_far begins) in
    subst (Begins old new) (sym (texts-append (take (k + 1) records) (drop (k + 1) records))
    ∙ ap (λ (xs : List Record). texts_of xs) (take-append-drop (k + 1) records))
    (begins_more old new (texts_of (take (k + 1) records)) (texts_of (drop (k + 1) records)) first)
