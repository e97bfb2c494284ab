-- Displays of a meter, by their texts.
use Rattle.std.proofs.Common.{[], ℕ, ◌↔◌, ◌∙◌, ◌≡◌, ◌≢◌, Some, ap, refl, subst, sym, true}
use Rattle.meter_model.specs.{Display.{display_of, same_display}, KeptTrip.{IsTripKept}, LastShown.{IsOfMeter}}
use Rattle.receipt_text.{specs.Shows.{HasFields, ShowsSame}, proofs.Laws.{displays_differ_by_their_fields}}
use Rattle.meter_run.specs.Common.{Display, ForHire, Hired, IsShown, Meter, Off, Operating, Setting, Stopped}
use Rattle.meter_run.specs.Common.{display_text, shown}
use Rattle.meter_model.proofs.Laws as laws

-- a display with these fields
abbrev made : (decimals : ℕ) → Operating → (position zone fare supplements : ℕ) → Display
made d o p z f x = record { operating = o; position = p; zone = z; fare = f; supplements = x; decimals = d }

made_same : (d : ℕ) (o o' : Operating) (p p' z z' f f' x x' : ℕ) → o ≡ o' → p ≡ p' → z ≡ z' → f ≡ f' → x ≡ x'
    → made d o p z f x ≡ made d o' p' z' f' x'
made_same d o o' p p' z z' f f' x x' eo ep ez ef ex = cc

-- what isn't shown for hire is 0 there
amounts_same : (s : Setting) (m n : Meter) (operating : Operating) → m.operating ≡ operating → IsTripKept s m
    → IsTripKept s n → ShowsSame (display_of s m) (display_of s n)
    → ((display_of s m).fare ≡ (display_of s n).fare) × ((display_of s m).supplements ≡ (display_of s n).supplements)
amounts_same s m n ForHire is km kn same =
    let one = laws.displays_are_compared_by_their_fields-hire s m km is in
    let other = laws.displays_are_compared_by_their_fields-hire s n kn (sym same.operating ∙ is) in
    (one.0 ∙ sym other.0, one.1 ∙ sym other.1)
amounts_same s m n Off is km kn same =
    let on : m.operating ≢ ForHire = λ hire. absurd (let bad : Off ≡ ForHire = sym is ∙ hire in cc) in
    (same.fare on, same.supplements on)
amounts_same s m n Hired is km kn same =
    let on : m.operating ≢ ForHire = λ hire. absurd (let bad : Hired ≡ ForHire = sym is ∙ hire in cc) in
    (same.fare on, same.supplements on)
amounts_same s m n Stopped is km kn same =
    let on : m.operating ≢ ForHire = λ hire. absurd (let bad : Stopped ≡ ForHire = sym is ∙ hire in cc) in
    (same.fare on, same.supplements on)

fields_same : (s : Setting) (m n : Meter) → IsTripKept s m → IsTripKept s n
    → ShowsSame (display_of s m) (display_of s n) → display_of s m ≡ display_of s n
fields_same s m n km kn same =
    let a = display_of s m in
    let b = display_of s n in
    let amounts = amounts_same s m n m.operating refl km kn same in
    made_same s.tariff.decimals a.operating b.operating a.position b.position a.zone b.zone a.fare b.fare a.supplements
    b.supplements same.operating same.position same.zone amounts.0 amounts.1

by_their_texts : (s : Setting) (m n : Meter) → IsTripKept s m → IsTripKept s n → IsShown (display_of s m)
    → IsShown (display_of s n) → HasFields (display_of s m) → HasFields (display_of s n)
    → (display_text (display_of s m) ≡ display_text (display_of s n))
    ↔ (same_display (display_of s m) (display_of s n) ≡ true)
by_their_texts s m n km kn shown_m shown_n fields_m fields_n =
    let a = display_of s m in
    let b = display_of s n in
    let texts = displays_differ_by_their_fields a b shown_m shown_n fields_m fields_n refl in
    let fields = laws.displays_are_compared_by_their_fields-same a b in
    (λ e. fields.1 (fields_same s m n km kn (texts.0 e)), λ same. ap display_text (fields.0 same))

value_is : (a b : Display) → Some a ≡ Some b → a ≡ b
value_is a b same = cc

-- the last display is one of the meter
pub shown_by_texts : (s : Setting) (m : Meter) (last : Display) → IsTripKept s m → m.shown ≡ Some last
    → IsOfMeter s m.shown → IsShown last → IsShown (display_of s m) → HasFields last → HasFields (display_of s m)
    → ((shown s m).acts ≡ []) ↔ (display_text last ≡ display_text (display_of s m))
shown_by_texts s m last kept is of shown_last shown_m fields_last fields_m =
    let it = subst (IsOfMeter s) is of in
    let texts = by_their_texts s it.0 m it.1 kept (subst IsShown it.2 shown_last) shown_m
    (subst HasFields it.2 fields_last) fields_m in
    let acts = laws.displays_are_compared_by_their_fields-shows s m in
    let same = laws.displays_are_compared_by_their_fields-same (display_of s it.0) (display_of s m) in (
      λ none. ap display_text (value_is last (display_of s m) (sym is ∙ acts.0 none)),
      λ text. acts.1 (is ∙ ap Some (it.2 ∙ same.0 (texts.0 (sym (ap display_text it.2) ∙ text)))),
    )
