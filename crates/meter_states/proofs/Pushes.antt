-- Acts with one act more: how many they are, and that they stay lawful.
use Rattle.std.proofs.Common.{[], ℕ, ◌++◌, ◌+◌, ◌<◌, ◌∷◌, ◌≡◌, ◌≤◌, List, arith, false, length, length-append}
use Rattle.{std.proofs.lemmas.{Grind.{common_steps}, List.Elements.{All-push}}, totals_record.specs.Entries.{closes}}
use Rattle.{taxi_units.specs.declared.receipt.Kind.{Kind}, meter_states.specs.Common.{Act, Entry, Roam, TableParts}}
use Rattle.meter_states.specs.Acts.{IsLawfulAct, StayLawful}

pub few-more : (before acts : List Act) (act : Act) → acts ≡ before ++ act ∷ [] → length acts ≤ length before + 1
few-more before acts act e = rw e (rw length-append (omega arith))

pub few-none : (n : ℕ) (acts : List Act) → acts ≡ [] → length acts ≤ n
few-none n acts e = rw e (omega arith)

pub few-longer : (acts : List Act) → length acts ≤ 2 → length acts ≤ 3
few-longer acts few = omega arith

pub room-none : (acts : List Act) → acts ≡ [] → length acts < 4
room-none acts e = rw e (omega arith)

pub lawful-more : (p : TableParts) (number : ℕ) (before acts : List Act) (act : Act) → acts ≡ before ++ act ∷ []
    → IsLawfulAct p number act → StayLawful p number before acts
lawful-more p number before acts act e lawful all = rw e (All-push (IsLawfulAct p number) before act all lawful)

-- an entry of another kind than roaming closes a hiring
closing-kind : (entry : Entry) → (entry.kind ≡ Roam → ⊥) → closes entry ≡ false → ⊥
closing-kind entry kind none = grind (arith, common_steps)

pub closing-room : (F : Type 0) (entry : Entry) (kind : Kind) → entry.kind ≡ kind → (kind ≡ Roam → ⊥)
    → closes entry ≡ false → F
closing-room F entry kind is other none =
    absurd (closing-kind entry (λ roam. let same : kind ≡ Roam = cc in other same) none)
