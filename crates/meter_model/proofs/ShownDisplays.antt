-- When two displays are the same, when one is shown, and what a display for hire has.
use Rattle.std.proofs.Common.{[], ◌↔◌, ◌∙◌, ◌∷◌, ◌≡◌, Bool, List, None, Option, Some, ap, arith, false, if◌then◌else◌}
use Rattle.{std.proofs.{Common.{refl, subst, true}, lemmas.Grind.{common_steps}}, meter_model.specs.Trip.{MeterTrip}}
use Rattle.meter_model.specs.{Common.{Act, Display, ForHire, Operating}, KeptTrip.{IsTripKept, IsTripKeptIn}}
use Rattle.meter_model.specs.{Display.{display_of, extras_shown, fare_shown, is_shown, same_display}, Setting.{Setting}}
use Rattle.meter_model.specs.{Meter.{Meter}, declared.act.Act.TheVariants.{Show}}

same-self : (d : Display) → same_display d d ≡ true
same-self d = grind (arith, common_steps)

equal-same : (a b : Display) → same_display a b ≡ true → a ≡ b
equal-same a b same = grind (arith, common_steps)

pub same-equal : (a b : Display) → (same_display a b ≡ true) ↔ (a ≡ b)
same-equal a b = (equal-same a b, λ is. subst (λ (d : Display). same_display a d ≡ true) is (same-self a))

no-fare : (s : Setting) (trip : Option MeterTrip) → trip ≡ None → (fare_shown s trip ≡ 0) × (extras_shown s trip ≡ 0)
no-fare s trip none = rw none (refl, refl)

pub hire-shows : (s : Setting) (m : Meter) → IsTripKept s m → m.operating ≡ ForHire
    → ((display_of s m).fare ≡ 0) × ((display_of s m).supplements ≡ 0)
hire-shows s m kept hire =
    let in_hire = subst (λ (o : Operating). IsTripKeptIn s o m.durable.hold m.trip m.roaming) hire kept in
    no-fare s m.trip in_hire.1

some_act : (act : Act) → act ∷ [] ≡ [] → ⊥
some_act act bad = absurd cc

-- acts that depend on a test
none_by : (b : Bool) (act : Act) → ((if b then [] else act ∷ []) ≡ []) ↔ (b ≡ true)
none_by true act = ((λ none. refl), (λ is. refl))
none_by false act = ((λ none. absurd (some_act act none)), (λ is. absurd cc))

last_is : (a b : Display) → Some a ≡ Some b → a ≡ b
last_is a b same = cc

-- nothing is shown if the display was shown last
pub shows-none : (old : Option Display) (new : Display)
    → ((if is_shown old new then [] else Show new ∷ []) ≡ []) ↔ (old ≡ Some new)
shows-none None new = ((λ none. absurd (some_act (Show new) none)), (λ is. absurd cc))
shows-none (Some old) new =
    let acts = none_by (same_display old new) (Show new) in (
      λ none. ap Some (equal-same old new (acts.0 none)),
      λ is. acts.1 (ap (λ (last : Display). same_display last new) (last_is old new is) ∙ same-self new),
    )
