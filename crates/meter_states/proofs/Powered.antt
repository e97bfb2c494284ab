-- What a powered core has in its operating position, and cores in wider ranges.
use Rattle.std.proofs.Common.{ℕ, ◌+◌, ◌<◌, ◌↔◌, ◌∙◌, ◌≡◌, ◌≢◌, ◌≤◌, ◌⊎◌, Bool, None, Option, Some, ap, arith, false}
use Rattle.std.proofs.Common.{inl, inr, refl, rules, subst, sym, true}
use Rattle.meter_states.specs.Common.{CoreTrip, ForHire, Hired, Key, Meter, Off, Operating, Setting, Stopped}
use Rattle.meter_states.specs.{Common.{TableParts, last_number, roaming_amid, roaming_between}, Lawful.{IsTripInRange}}
use Rattle.meter_states.specs.Core.{CoreData, Stands, core_of}
use Rattle.meter_states.specs.Lawful.{HasBegunBy, HasTrip, IsAmidEvent, IsBetweenEvents, IsPowered, IsTripBeside}

-- a meter without a trip is for hire
pub none-hires : (operating : Operating) (trip : Option CoreTrip) → HasTrip operating trip → trip ≡ None
    → operating ≡ ForHire
none-hires Off trip has e = absurd has
none-hires ForHire trip has e = refl
none-hires Hired trip has e = absurd (has e)
none-hires Stopped trip has e = absurd (has e)

pub some-there : {A : Type 0} {o : Option A} (x : A) → o ≡ Some x → o ≢ None
some-there x is none = cc

-- a core that isn't off
pub powered-on : {p : TableParts} {inside core : CoreData} (off : Bool) → inside ≡ core → (core.operating ≡ Off)
    ⊎ IsBetweenEvents p core → (off ≡ true) ↔ (inside.operating ≡ Off) → off ≡ false → IsBetweenEvents p inside
powered-on off view (inl x) tied on =
    let is : off ≡ true = tied.1 (ap (λ (c : CoreData). c.operating) view ∙ x) in
    absurd cc
powered-on {p} off view (inr x) tied on = subst (IsBetweenEvents p) (sym view) x

pub stands-on : (s : Setting) (core : CoreData) (m : Meter) → Stands s core m → (core.operating ≡ Off → ⊥)
    → core ≡ core_of s m
stands-on s core m (inl x) on = absurd (on x.0)
stands-on s core m (inr x) on = x.1

-- a trip may have more ticks
trip-longer : (p : TableParts) (number : ℕ) (trip : Option CoreTrip) → IsTripInRange p number 8639999 trip
    → IsTripInRange p number 8640000 trip
trip-longer p number None range = tt
trip-longer p number (Some t) range = search rules

-- a core in its ranges is so with another latch, and in other ranges that have its roaming pulses and its trip
within : {p : TableParts} {ticks most spare ticks' most' spare' : ℕ} {core : CoreData} (latch : Option Key)
    → core.roam ≤ most' → IsTripInRange p (core.number + spare') ticks' core.trip
    → IsPowered p ticks most spare core → IsPowered p ticks' most' spare' (record core { latch = latch })
within latch roam trip on = search rules

-- a core in its ranges is in others that have its roaming pulses and its trip
pub powered-within : {p : TableParts} {ticks most spare ticks' most' spare' : ℕ} {core : CoreData} → core.roam ≤ most'
    → IsTripInRange p (core.number + spare') ticks' core.trip
    → IsPowered p ticks most spare core → IsPowered p ticks' most' spare' core
powered-within {core = core} roam trip on = within core.latch roam trip on

pub powered-longer : {p : TableParts} {most spare : ℕ} {core : CoreData} → IsPowered p 8639999 most spare core
    → IsPowered p 8640000 most spare core
powered-longer {p} {core = core} on = powered-within on.roam (trip-longer p _ core.trip on.trip) on

-- a core with few roaming pulses may have more
pub powered-wider : {p : TableParts} {ticks spare : ℕ} {core : CoreData} → IsPowered p ticks roaming_between spare core
    → IsPowered p ticks roaming_amid spare core
powered-wider on = powered-within (omega (arith, on.roam)) on.trip on

-- what is between two events is amid one
pub between-amid : {p : TableParts} {core : CoreData} → IsBetweenEvents p core → IsAmidEvent p core
between-amid on = powered-wider on

-- a core whose key is taken
pub powered-unlatched : {p : TableParts} {ticks most spare : ℕ} {core : CoreData} → IsPowered p ticks most spare core
    → IsPowered p ticks most spare (record core { latch = None })
powered-unlatched on = within None on.roam on.trip on

-- a trip may have the pulses of an unfinished interval
pub trip-spare : (p : TableParts) (number most : ℕ) (trip : Option CoreTrip) → IsTripInRange p (number + 0) most trip
    → IsTripInRange p (number + 1) most trip
trip-spare p number most None range = tt
trip-spare p number most (Some t) range = record { range = range.range; pulses = omega (arith, range.pulses) }

pub amid-closes : {p : TableParts} {core : CoreData} → IsAmidEvent p core → IsPowered p 8640000 roaming_amid 1 core
amid-closes {p} {core} on = powered-within on.roam
    (trip-spare p core.number 8640000 core.trip (trip-longer p (core.number + 0) core.trip on.trip)) on

-- a core for hire whose roaming pulses are entered
pub powered-entered : {p : TableParts} {core : CoreData} → core.operating ≡ ForHire → 0 < core.roam
    → IsPowered p 8639999 roaming_amid 1 core → IsBetweenEvents p (record core { roam = 0; number = core.number + 1 })
powered-entered {p} {core} hire some on =
    let none : core.trip ≡ None = subst (λ (o : Operating). HasTrip o core.trip) hire on.on in
    let few = on.ended some in
    search rules

pub roaming-room : {p : TableParts} {ticks most spare : ℕ} {core : CoreData} → 0 < core.roam
    → IsPowered p ticks most spare core → core.number + 1 ≤ last_number
roaming-room some on = let few = on.ended some in omega (arith, few)

pub roaming-beside : (n : ℕ) → n + 1 ≤ last_number → n ≤ last_number
roaming-beside n room = omega arith

-- the pulses of a trip
pub pulses-below : {p : TableParts} {number : ℕ} {t : CoreTrip} → IsTripBeside p (number + 0) 8639999 t
    → number ≤ 2000000000000001 → t.pulses ≤ 9000000000000000000
pulses-below beside few = omega (arith, beside.pulses, beside.range.ticks, few)

-- a core with another count of pulses in its interval
pub powered-gated : {p : TableParts} {ticks most spare : ℕ} {core : CoreData} (gate : ℕ) → gate ≤ 2000
    → IsPowered p ticks most spare core → IsPowered p ticks most spare (record core { gate = gate })
powered-gated gate few on = search rules

has-other : (operating : Operating) (t u : CoreTrip) (o : Option CoreTrip) → o ≡ Some t → HasTrip operating o
    → HasTrip operating (Some u)
has-other Off t u o is has = absurd has
has-other ForHire t u o is none = absurd cc
has-other Hired t u o is has = λ none. absurd cc
has-other Stopped t u o is has = λ none. absurd cc

-- a core with another trip that began with its own
pub powered-trip : {p : TableParts} {ticks ticks' most spare spare' : ℕ} {core : CoreData} (t u : CoreTrip) → core.trip
    ≡ Some t → u.started ≡ t.started → IsTripBeside p (core.number + spare') ticks' u
    → IsPowered p ticks most spare core → IsPowered p ticks' most spare' (record core { trip = Some u })
powered-trip {core = core} t u has started beside on =
    let here = has-other core.operating t u core.trip has on.on in
    let some = some-there t has in
    let begun = subst (λ (n : ℕ). n ≤ core.clock) (sym started) (subst (HasBegunBy core.clock) has on.begun) in
    search rules

-- the trip of a core that is seen by its fields, its range, and the core with another trip in its place
pub trip-in : {inside core : CoreData} {trip : Option CoreTrip} → inside ≡ core → inside.trip ≡ trip → core.trip ≡ trip
trip-in view is = sym (ap (λ (p : CoreData). p.trip) view) ∙ is

pub trip-beside : {p : TableParts} {ticks most spare : ℕ} {inside core : CoreData} {t : CoreTrip} → inside ≡ core
    → inside.trip ≡ Some t → IsPowered p ticks most spare core → IsTripBeside p (core.number + spare) ticks t
trip-beside {p} {ticks} {spare = spare} {core = core} view is on =
    subst (IsTripInRange p (core.number + spare) ticks) (trip-in view is) on.trip

pub trip-taken : {p : TableParts} {ticks ticks' most spare spare' : ℕ} {inside core : CoreData} {t u : CoreTrip}
    → inside ≡ core → inside.trip ≡ Some t → u.started ≡ t.started → IsTripBeside p (core.number + spare') ticks' u
    → IsPowered p ticks most spare core → IsPowered p ticks' most spare' (record inside { trip = Some u })
trip-taken {p} {ticks' = ticks'} {most = most} {spare' = spare'} {t = t} {u = u} view is started beside on =
    subst (λ (q : CoreData). IsPowered p ticks' most spare' (record q { trip = Some u })) (sym view)
    (powered-trip t u (trip-in view is) started beside on)
