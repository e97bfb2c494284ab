-- What the check of the roaming pulses does if they are many.
use Rattle.std.proofs.Common.{ℕ, ◌+◌, ◌<◌, ◌∙◌, ◌≡◌, ◌≤◌, ◌⊎◌, List, ap, arith, inl, inr, subst, sum}
use Rattle.{std.proofs.lemmas.Grind.{common_steps}, meter_model.specs.ClosedTrip.{roaming_checked_in}}
use Rattle.meter_states.specs.{Acts.{StayLawful}, Core.{CoreData}, Lawful.{IsAmidEvent, IsPowered}}
use Rattle.meter_states.specs.Common.{Act, ForHire, Meter, Operating, Setting, TableParts, roaming_amid}
use Rattle.meter_states.{specs.Common.{roaming_checked, roaming_entered}, proofs.Powered.{powered-within, trip-spare}}

many-in : (s : Setting) (m : Meter) → 1000000 ≤ sum m.roaming → roaming_checked_in s ForHire m ≡ roaming_entered s m
many-in s m many = grind (arith, common_steps)

pub checked-many : (s : Setting) (m : Meter) → m.operating ≡ ForHire → 1000000 ≤ sum m.roaming
    → roaming_checked s m ≡ roaming_entered s m
checked-many s m hire many = ap (λ (o : Operating). roaming_checked_in s o m) hire ∙ many-in s m many

-- a core with many roaming pulses has some, and room for their entry
pub many-some : (roam : ℕ) → 1000000 ≤ roam → 0 < roam
many-some roam many = omega arith

pub room-three : (n roam : ℕ) → (n ≤ 1) ⊎ ((n ≤ 3) × (roam ≡ 0)) → n ≤ 3
room-three n roam (inl x) = omega arith
room-three n roam (inr x) = x.0

pub few-entered : (n before roam : ℕ) → (before ≤ 1) ⊎ ((before ≤ 3) × (roam ≡ 0)) → 1000000 ≤ roam
    → n ≤ before + 1 → n ≤ 3
few-entered n before roam (inl x) many few = omega arith
few-entered n before roam (inr x) many few = absurd (omega (arith, x.1))

pub lawful-entered : (p : TableParts) (n number roam : ℕ) (before acts : List Act) → (n ≡ number) ⊎ (roam ≡ 0)
    → 1000000 ≤ roam → StayLawful p n before acts → StayLawful p number before acts
lawful-entered p n number roam before acts (inl x) many stay = subst (λ (k : ℕ). StayLawful p k before acts) x stay
lawful-entered p n number roam before acts (inr x) many stay = absurd (omega arith)

pub amid-enters : {p : TableParts} {core : CoreData} → IsAmidEvent p core → IsPowered p 8639999 roaming_amid 1 core
amid-enters {p} {core} on = powered-within on.roam (trip-spare p core.number 8639999 core.trip on.trip) on
