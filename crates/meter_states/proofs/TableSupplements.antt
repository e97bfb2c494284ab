-- The supplements of tables are those of the tariff.
use Rattle.std.proofs.Common.{[], ℕ, ◌+◌, ◌<◌, ◌∙◌, ◌∷◌, ◌≡◌, ◌≢◌, ◌≤◌, All, Bool, List, None, Option, Some, ap, arith}
use Rattle.std.proofs.Common.{false, get_or, length, ltb, refl, suc, sym, true, zero}
use Rattle.{std.proofs.lemmas.Bool.{ltb-false, ltb-true}, taxi_units.specs.Limits.{largest_supplements}}
use Rattle.std.proofs.lemmas.List.{get_or_past, FromFn.{get_or-map-range_with_len, length-map-range_with_len}}
use Rattle.{tariff_tree.specs.Writable.{IsFromTo, IsWritable}, tariff_check.specs.Parts.{supplement_of}}
use Rattle.{tariff_check.specs.Faults.{IsSound}, tariff_compile.specs.Tables.{IsCompiled}}
use Rattle.tariff_check.proofs.Laws.{sound_tariffs_have_sound_parts-parts, supplements_are_numbered_to_16}
use Rattle.meter_states.specs.Common.{AreAllowed, CoreTrip, IsTablesOf, Setting, SoundTariff, Supplement, TableParts}
use Rattle.meter_states.specs.Common.{Tree, amount_in, amounts_from, most_in, supplement_numbered}
use Rattle.meter_states.specs.{Lawful.{IsLawfulTrip}, Setting.{IsTariffOf}}
use Rattle.meter_states.{specs.Supplements.{supplement_in}, proofs.Amounts.{AreBounded, allowed-few, amounts-most}}

-- a tariff has no supplement of another number than 1 to 16
pub supplement-none : (t : Tree) (n : ℕ) → IsWritable t → (IsFromTo 1 16 n → ⊥) → supplement_of t.lines n ≡ None
supplement-none = supplements_are_numbered_to_16

-- the supplements of tables
all-there : (t : Tree) (p : TableParts) (place : ℕ) → IsTablesOf t p → place < 16
    → get_or p.supplements place None ≡ supplement_of t.lines (place + 1)
all-there t p place is within =
    ap (λ (q : TableParts). get_or q.supplements place None) is.parts
    ∙ get_or-map-range_with_len (λ (i : ℕ). supplement_of t.lines (i + 1)) 0 16 place place None within (omega arith)

all-past : (t : Tree) (p : TableParts) (place : ℕ) → IsTablesOf t p → 16 ≤ place
    → get_or p.supplements place None ≡ None
all-past t p place is past =
    let long : length p.supplements ≡ 16 = ap (λ (q : TableParts). length q.supplements) is.parts
    ∙ length-map-range_with_len (λ (i : ℕ). supplement_of t.lines (i + 1)) 0 16 in
    get_or_past p.supplements place None (omega arith)

supplement-by : (t : Tree) (p : TableParts) (place : ℕ) (within : Bool) → IsTablesOf t p → ltb place 16 ≡ within
    → get_or p.supplements place None ≡ supplement_of t.lines (suc place)
supplement-by t p place true is e =
    let same : place + 1 ≡ suc place = omega arith in
    all-there t p place is (ltb-true place 16 e) ∙ ap (supplement_of t.lines) same
supplement-by t p place false is e =
    let past : 16 ≤ place = ltb-false place 16 e in
    all-past t p place is past
    ∙ sym (supplement-none t (suc place) is.writable (λ range. absurd (omega (arith, range.1, past))))

-- in the tables a number has the supplement that it has in the tariff
pub supplement-in : (t : Tree) (p : TableParts) (n : ℕ) → IsTablesOf t p → supplement_in p n ≡ supplement_of t.lines n
supplement-in t p zero is = sym (supplement-none t 0 is.writable (λ range. absurd (omega (arith, range.0))))
supplement-in t p (suc place) is = supplement-by t p place (ltb place 16) is refl

pub supplement-of-setting : (s : Setting) (p : TableParts) (n : ℕ) → IsTariffOf s p
    → supplement_in p n ≡ supplement_numbered s.tariff.supplements n
supplement-of-setting s p n is =
    supplement-in is.tree p n is.compiled
    ∙ ap (λ (t : SoundTariff). supplement_numbered t.supplements n) (sym is.parts)

in-range : (n : ℕ) (least most : Bool) → ltb 0 n ≡ least → ltb 16 n ≡ most → ((IsFromTo 1 16 n → ⊥) → ⊥)
    → IsFromTo 1 16 n
in-range n true false e f some = (omega (arith, ltb-true 0 n e), ltb-false 16 n f)
in-range n true true e f some = absurd (some (λ range. absurd (omega (arith, range.1, ltb-true 16 n f))))
in-range n false most e f some = absurd (some (λ range. absurd (omega (arith, range.0, ltb-false 0 n e))))

-- a number that has one is 1 to 16
pub supplement-number : (t : Tree) (n : ℕ) → IsWritable t → supplement_of t.lines n ≢ None → IsFromTo 1 16 n
supplement-number t n writable some =
    in-range n (ltb 0 n) (ltb 16 n) refl refl (λ out. some (supplement-none t n writable out))

-- each keeps to its limits
bounded-by : (t : Tree) (n : ℕ) (found : Option Supplement) → IsWritable t → IsSound t
    → supplement_of t.lines n ≡ found
    → (amount_in found ≤ 1000000)
    × (most_in found ≤ 99)
bounded-by t n None writable sound e = (omega arith, omega arith)
bounded-by t n (Some x) writable sound e =
    let limits = (sound_tariffs_have_sound_parts-parts t writable sound).supplements n x e in
    (omega (arith, limits.amount), limits.most.1)

pub bounded : (p : TableParts) → IsCompiled p → AreBounded (supplement_in p)
bounded p compiled =
    let t = compiled.0 in
    let is = compiled.1 in
    record {
      amount = λ n. rw (supplement-in t p n is) (bounded-by t n (supplement_of t.lines n) is.writable is.sound refl).0;
      most = λ n. rw (supplement-in t p n is) (bounded-by t n (supplement_of t.lines n) is.writable is.sound refl).1;
    }

-- the counts of no supplements
abbrev pub zeros : ℕ → List ℕ
zeros zero = []
zeros (suc count) = 0 ∷ zeros count

-- a trip in its ranges has each supplement at most 99 times
pub counts-few : (p : TableParts) (most : ℕ) (trip : CoreTrip) → IsLawfulTrip p most trip
    → All (λ count. count ≤ 99) trip.extras
counts-few p most trip range =
    allowed-few (supplement_in p) 1 trip.extras (bounded p range.compiled) range.extras.allowed

-- and they come to at most 1,584,000,000
pub extras-few : (p : TableParts) (most : ℕ) (trip : CoreTrip) → IsLawfulTrip p most trip
    → trip.extras_sum ≤ largest_supplements
extras-few p most trip range =
    let sum = amounts-most (supplement_in p) 1 trip.extras (bounded p range.compiled) range.extras.allowed in
    omega (arith, sum, range.extras.sixteen, range.extras.amounts)

-- no supplements are allowed, and come to nothing
none-allowed : (supplement : ℕ → Option Supplement) (first count : ℕ) → AreAllowed supplement first (zeros count)
none-allowed supplement first zero = tt
none-allowed supplement first (suc count) = (omega arith, none-allowed supplement (first + 1) count)

none-amounts : (supplement : ℕ → Option Supplement) (first count : ℕ) → amounts_from supplement first (zeros count) ≡ 0
none-amounts supplement first zero = refl
none-amounts supplement first (suc count) =
    let rest = none-amounts supplement (first + 1) count in
    omega (arith, rest)

pub begun-allowed : (p : TableParts) → AreAllowed (supplement_in p) 1 (zeros 16)
begun-allowed p = none-allowed (supplement_in p) 1 16

pub begun-amounts : (p : TableParts) → 0 ≡ amounts_from (supplement_in p) 1 (zeros 16)
begun-amounts p = sym (none-amounts (supplement_in p) 1 16)
