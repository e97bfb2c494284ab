-- Growth between the points of a book, column by column.
use Rattle.std.{specs.List.{sum_by}, proofs.{Common.{length, refl, true}, lemmas.List.Sums.{sum_by-append}}}
use Rattle.std.proofs.Common.{[], ℕ, ◌+◌, ◌-◌, ◌∷◌, ◌≡◌, ◌≤◌, Bool, List, Option, Some, ap, arith, false, if◌then◌else◌}
use Rattle.shift_book.specs.{Common.{Durable, Numbers, Shift}, MarkOrder.{Fit, FollowOn, IsNowhereLess, numbers_in}}
use Rattle.shift_book.specs.{Marks.{Signing, numbers_of}, ShareStages.{Rise, total_of}}
use Rattle.shift_book.specs.Shares.{Column, Distance, Fare, HiredDistance, Hirings, Number, Supplements, at, begun_by}
use Rattle.shift_book.specs.Shares.{free_behind, grown, growth_in, next_point, nothing, plus, shifts_in, unsigned_in}

pub at_least : (c : Column) (a b : Numbers) → IsNowhereLess a b → at c a ≤ at c b
at_least Number a b h = h.number
at_least Distance a b h = h.distance
at_least HiredDistance a b h = h.hired
at_least Hirings a b h = h.hirings
at_least Supplements a b h = h.supplements
at_least Fare a b h = h.fare

pub at-grown : (c : Column) (a b : Numbers) → at c (grown a b) ≡ at c b - at c a
at-grown Number a b = refl
at-grown Distance a b = refl
at-grown HiredDistance a b = refl
at-grown Hirings a b = refl
at-grown Supplements a b = refl
at-grown Fare a b = refl

pub at-plus : (c : Column) (a b : Numbers) → at c (plus a b) ≡ at c a + at c b
at-plus Number a b = refl
at-plus Distance a b = refl
at-plus HiredDistance a b = refl
at-plus Hirings a b = refl
at-plus Supplements a b = refl
at-plus Fare a b = refl

pub at-nothing : (c : Column) → at c nothing ≡ 0
at-nothing Number = refl
at-nothing Distance = refl
at-nothing HiredDistance = refl
at-nothing Hirings = refl
at-nothing Supplements = refl
at-nothing Fare = refl

pub at-total : (c : Column) (shifts : List Shift) → at c (total_of shifts) ≡ sum_by (λ s. at c s.growth) shifts
at-total Number shifts = refl
at-total Distance shifts = refl
at-total HiredDistance shifts = refl
at-total Hirings shifts = refl
at-total Supplements shifts = refl
at-total Fare shifts = refl

-- numbers that are equal in each column
pub same_numbers : (a b : Numbers) → ((c : Column) → at c a ≡ at c b) → a ≡ b
same_numbers a b h =
    λ i. numbers_of (h Number i) (h Distance i) (h HiredDistance i) (h Hirings i) (h Supplements i) (h Fare i)

pub fit_under : (a b : Numbers) → ((c : Column) → at c a ≤ at c b) → Fit b → Fit a
fit_under a b h fit =
    record {
      number = omega (arith, h Number, fit.number);
      distance = omega (arith, h Distance, fit.distance);
      hired = omega (arith, h HiredDistance, fit.hired);
      hirings = omega (arith, h Hirings, fit.hirings);
      supplements = omega (arith, h Supplements, fit.supplements);
      fare = omega (arith, h Fare, fit.fare);
    }

-- marks that follow on rise
pub rises : (now : Durable) (before : Option Signing) (marks : List Signing) → FollowOn now before marks
    → Rise (numbers_in now) marks
rises now before [] all = tt
rises now before (m ∷ []) all = (all.0.within, tt)
rises now before (m ∷ x ∷ xs) all = (all.1.0.grown, rises now (Some m) (x ∷ xs) all.1)

begun_at : (b : Bool) (driver : List ℕ) (n next : Numbers) (c : Column) → at c n ≤ at c next
    → sum_by (λ (s : Shift). at c s.growth)
    (if b then record { driver = record { items = driver }; growth = grown n next } ∷ [] else [])
    + at c (if b then nothing else grown n next) + at c n ≡ at c next
begun_at true driver n next c less = omega (arith, at-grown c n next, at-nothing c)
begun_at false driver n next c less = omega (arith, at-grown c n next)

-- shifts, free growth and the first point together are the last point
together : (now : Numbers) (marks : List Signing) → Rise now marks → (c : Column)
    → sum_by (λ s. at c s.growth) (shifts_in now marks) + at c (unsigned_in now marks)
    + at c (next_point now marks) ≡ at c now
together now [] rise c = omega (arith, at-nothing c)
together now (m ∷ ms) rise c =
    let next = next_point now ms in
    omega (
      arith,
      sum_by-append (λ (s : Shift). at c s.growth) (begun_by m next) (shifts_in now ms),
      begun_at m.on m.driver m.numbers next c (at_least c m.numbers next rise.0),
      at-plus c (free_behind m next) (unsigned_in now ms),
      together now ms rise.1 c,
    )

-- shifts and the growth while nobody was on add up to all growth
pub shifts_add_up : (now : Numbers) (marks : List Signing) → Rise now marks → (c : Column)
    → sum_by (λ s. at c s.growth) (shifts_in now marks) + at c (unsigned_in now marks) ≡ at c (growth_in now marks)
shifts_add_up now [] rise c = omega arith
shifts_add_up now (m ∷ ms) rise c = omega (arith, together now (m ∷ ms) rise c, at-grown c m.numbers now)

pub unsigned_fit : (now : Numbers) (marks : List Signing) → Rise now marks → Fit now → Fit (unsigned_in now marks)
unsigned_fit now marks rise fit =
    fit_under (unsigned_in now marks) now (λ c. omega (arith, together now marks rise c)) fit

pub total_fit : (now : Numbers) (marks : List Signing) → Rise now marks → Fit now → Fit (total_of (shifts_in now marks))
total_fit now marks rise fit =
    fit_under (total_of (shifts_in now marks)) now
    (λ c. omega (arith, at-total c (shifts_in now marks), together now marks rise c)) fit

-- the growth while nobody was on, with one stretch more, fits
pub unsigned_fits : (now : Numbers) (all left : List Signing) (m : Signing) (rest : List Signing)
    (unsigned free : Numbers) → left ≡ m ∷ rest
    → free ≡ free_behind m (next_point now rest)
    → ((c : Column) → at c unsigned + at c (unsigned_in now left) ≡ at c (unsigned_in now all))
    → Fit (unsigned_in now all) → Fit (plus unsigned free)
unsigned_fits now all left m rest unsigned free e f h fit =
    let next = next_point now rest in
    let there = λ (c : Column). ap (λ (l : List Signing). at c (unsigned_in now l)) e in
    fit_under (plus unsigned free) (unsigned_in now all)
    (λ c. omega (
      arith,
      at-plus c unsigned free,
      ap (λ (n : Numbers). at c n) f,
      at-plus c (free_behind m next) (unsigned_in now rest),
      there c,
      h c,
    )) fit

-- and it is all of it if no mark is left
pub unsigned_done : (now : Numbers) (all left : List Signing) (unsigned : Numbers) → length left ≡ 0
    → ((c : Column) → at c unsigned + at c (unsigned_in now left) ≡ at c (unsigned_in now all))
    → unsigned ≡ unsigned_in now all
unsigned_done now all [] unsigned e h =
    same_numbers unsigned (unsigned_in now all) (λ c. omega (arith, h c, at-nothing c))
unsigned_done now all (x ∷ xs) unsigned e h = absurd (omega arith)
