-- Two contexts that compare alike with the cuts of a condition's atoms: the condition holds in both or in neither.
use Rattle.std.{specs.List.{All, flat_map}, proofs.lemmas.List.Concat.{flat_map-append}}
use Rattle.std.proofs.Common.{[], ℕ, ◌*◌, ◌++◌, ◌+◌, ◌/◌, ◌↔◌, ◌∙◌, ◌∷◌, ◌≡◌, ◌≤◌, List, ap, arith, inl, inr, leb, ltb}
use Rattle.std.proofs.{Common.{not, refl, subst, sym}, lemmas.List.Elements.{All-cons, All-head, All-nil, All-tail}}
use Rattle.std.proofs.lemmas.Bool.{cases_eq, cases_lt, le-leb, le-ltb, lt-leb, lt-ltb, ne_eqb}
use Rattle.{taxi_units.specs.{Calendar.{date_place}, DateTest.{date_test}}, tariff_check.specs.Lines.{atoms_of}}
use Rattle.{tariff_tree.specs.Meaning.{is_in_time, is_within}, tariff_check.specs.Cuts.{day_cut, minute_cut}}
use Rattle.tariff_calendar.specs.Common.{Condition, Context, Distance, IsGoodAtom, Minute, MonthDay, Time, atom_cuts}
use Rattle.tariff_calendar.{specs.{Common.{holds}, Lists.{pulses_for}}, proofs.Dates.{on_places}}
use Rattle.tariff_tree.specs.Condition as tree

-- a cut compares alike with two values
abbrev pub IsAlike : (v w cut : ℕ) → Type 0
IsAlike v w cut = leb cut v ≡ leb cut w

-- so do the pulses that a distance takes
abbrev pub IsAlikeInPulses : (k v w decimetres : ℕ) → Type 0
IsAlikeInPulses k v w decimetres = leb (pulses_for k decimetres) v ≡ leb (pulses_for k decimetres) w

-- two contexts compare alike with all cuts of some atoms
pub record CompareAlike (k : ℕ) (x y : Context) (atoms : List Condition) : Type 0 where
  pub month_day : All (IsAlike x.month_day y.month_day) (flat_map (atom_cuts MonthDay) atoms)
  pub minute : All (IsAlike x.minute y.minute) (flat_map (atom_cuts Minute) atoms)
  pub distance : All (IsAlikeInPulses k x.pulses y.pulses) (flat_map (atom_cuts Distance) atoms)
  pub time : All (IsAlike x.ticks y.ticks) (flat_map (atom_cuts Time) atoms)

-- what two contexts have alike beside their comparisons with cuts
pub record HaveAlike (k : ℕ) (x y : Context) : Type 0 where
  pub constant : (x.constant ≡ k) × (y.constant ≡ k)
  pub position : x.position ≡ y.position
  pub zone : x.zone ≡ y.zone
  pub weekday : x.weekday ≡ y.weekday
  pub holiday : x.holiday ≡ y.holiday
  pub month_day : (x.month_day ≤ 365) × (y.month_day ≤ 365)

-- what holds of all of two lists one after the other holds of all of each
pub All-parts : {X : Type 0} (P : X → Type 0) (xs ys : List X) → All P (xs ++ ys) → All P xs × All P ys
All-parts P [] ys all = (All-nil P, all)
All-parts P (x ∷ xs) ys all =
    let rest = All-parts P xs ys (All-tail P x (xs ++ ys) all) in
    (All-cons P x xs (All-head P x (xs ++ ys) all) rest.0, rest.1)

-- what holds of all cuts of some atoms and of more holds of all cuts of each of the two
All-of_atoms : (P : ℕ → Type 0) (cuts : Condition → List ℕ) (left right : List Condition)
    → All P (flat_map cuts (left ++ right)) → All P (flat_map cuts left) × All P (flat_map cuts right)
All-of_atoms P cuts left right all =
    All-parts P (flat_map cuts left) (flat_map cuts right) (subst (All P) (flat_map-append cuts left right) all)

-- the cuts of one atom
All-of_atom : (P : ℕ → Type 0) (cuts : Condition → List ℕ) (atom : Condition) → All P (flat_map cuts (atom ∷ []))
    → All P (cuts atom)
All-of_atom P cuts atom all = (All-parts P (cuts atom) [] all).0

CompareAlike-parts : (k : ℕ) (x y : Context) (left right : List Condition) → CompareAlike k x y (left ++ right)
    → CompareAlike k x y left × CompareAlike k x y right
CompareAlike-parts k x y left right alike =
    let month_day = All-of_atoms (IsAlike x.month_day y.month_day) (atom_cuts MonthDay) left right alike.month_day in
    let minute = All-of_atoms (IsAlike x.minute y.minute) (atom_cuts Minute) left right alike.minute in
    let distance = All-of_atoms (IsAlikeInPulses k x.pulses y.pulses) (atom_cuts Distance) left right alike.distance in
    let time = All-of_atoms (IsAlike x.ticks y.ticks) (atom_cuts Time) left right alike.time in (
      record { month_day = month_day.0; minute = minute.0; distance = distance.0; time = time.0 },
      record { month_day = month_day.1; minute = minute.1; distance = distance.1; time = time.1 },
    )

-- a number is at most another if it is below the number after that
leb-next : (a b : ℕ) → leb a b ≡ not (leb (b + 1) a)
leb-next a b =
    elim (cases_lt b a) [
      | inl above ↦ rw (lt-leb a b above, le-leb (b + 1) a (omega arith)) refl
      | inr at_most ↦ rw (le-leb a b at_most, lt-leb (b + 1) a (omega arith)) refl
    ]

ltb-not : (a b : ℕ) → ltb a b ≡ not (leb b a)
ltb-not a b =
    elim (cases_lt a b) [
      | inl below ↦ rw (lt-ltb a b below, lt-leb b a below) refl
      | inr from ↦ rw (le-ltb a b from, le-leb b a from) refl
    ]

-- a minute that begins or ends a range compares alike; at midnight a day begins
minute_alike : (from v w : ℕ) → All (IsAlike v w) (minute_cut from) → IsAlike v w from
minute_alike from v w all =
    elim (cases_eq from 0) [
      | inl midnight ↦ le-leb from v (omega arith) ∙ sym (le-leb from w (omega arith))
      | inr later ↦
          let cut : minute_cut from ≡ from ∷ [] = rw (ne_eqb from 0 later) refl in
          All-head (IsAlike v w) from [] (subst (All (IsAlike v w)) cut all)
    ]

-- so does the first place of a range of days, or the one after its last
day_alike : (place v w : ℕ) → v ≤ 365 → w ≤ 365 → All (IsAlike v w) (day_cut place) → IsAlike v w place
day_alike place v w in_year also all =
    elim (cases_eq place 0) [
      | inl first ↦ le-leb place v (omega arith) ∙ sym (le-leb place w (omega arith))
      | inr later ↦
          elim (cases_eq place 366) [
            | inl past ↦ lt-leb place v (omega arith) ∙ sym (lt-leb place w (omega arith))
            | inr other ↦
                let cut : day_cut place ≡ place ∷ [] = rw (ne_eqb place 0 later, ne_eqb place 366 other) refl in
                All-head (IsAlike v w) place [] (subst (All (IsAlike v w)) cut all)
          ]
    ]

fewest_by : (far pulses : ℕ) → (far ≤ 10000 * pulses) ↔ ((far + 9999) / 10000 ≤ pulses)
fewest_by far pulses = ((λ reached. omega arith), (λ enough. omega arith))

-- pulses are as far as a distance exactly if they are as many as the fewest that are
pub fewest_pulses : (k decimetres pulses : ℕ) → (k * decimetres ≤ 10000 * pulses) ↔ (pulses_for k decimetres ≤ pulses)
fewest_pulses k decimetres pulses = fewest_by (k * decimetres) pulses

-- so the two comparisons are the same
pub reached-pulses_for : (k decimetres pulses : ℕ)
    → leb (k * decimetres) (10000 * pulses) ≡ leb (pulses_for k decimetres) pulses
reached-pulses_for k decimetres pulses =
    let fewest = fewest_pulses k decimetres pulses in
    elim (cases_lt (10000 * pulses) (k * decimetres)) [
      | inl further ↦
          elim (cases_lt pulses (pulses_for k decimetres)) [
            | inl fewer ↦
                lt-leb (k * decimetres) (10000 * pulses) further ∙ sym (lt-leb (pulses_for k decimetres) pulses fewer)
            | inr enough ↦ let reached = fewest.1 enough in absurd (omega arith)
          ]
      | inr reached ↦ le-leb (k * decimetres) (10000 * pulses) reached
          ∙ sym (le-leb (pulses_for k decimetres) pulses (fewest.0 reached))
    ]

-- a range of minutes holds alike
time_alike : (from to v w : ℕ) → IsAlike v w from → IsAlike v w to → is_in_time from to v ≡ is_in_time from to w
time_alike from to v w begins ends =
    let same : ltb v to ≡ ltb w to = ltb-not v to ∙ ap not ends ∙ sym (ltb-not w to) in
    rw (begins, same) refl

-- a range of days holds alike
date_alike : (from to v w : ℕ) → IsAlike v w from → IsAlike v w (to + 1) → is_within from to v ≡ is_within from to w
date_alike from to v w begins ends =
    let same : leb v to ≡ leb w to = leb-next v to ∙ ap not ends ∙ sym (leb-next w to) in
    rw (begins, same) refl

-- a condition holds in both contexts or in neither
pub holds_alike : (c : Condition) (k : ℕ) (x y : Context) → All IsGoodAtom (atoms_of c) → HaveAlike k x y
    → CompareAlike k x y (atoms_of c) → holds c x ≡ holds c y
holds_alike (tree.and left right) k x y good have alike =
    let both = All-parts IsGoodAtom (atoms_of left) (atoms_of right) good in
    let parts = CompareAlike-parts k x y (atoms_of left) (atoms_of right) alike in
    rw (holds_alike left k x y both.0 have parts.0, holds_alike right k x y both.1 have parts.1) refl
holds_alike (tree.or left right) k x y good have alike =
    let both = All-parts IsGoodAtom (atoms_of left) (atoms_of right) good in
    let parts = CompareAlike-parts k x y (atoms_of left) (atoms_of right) alike in
    rw (holds_alike left k x y both.0 have parts.0, holds_alike right k x y both.1 have parts.1) refl
holds_alike (tree.not inner) k x y good have alike = rw (holds_alike inner k x y good have alike) refl
holds_alike (tree.position number) k x y good have alike = rw have.position refl
holds_alike (tree.zone number) k x y good have alike = rw have.zone refl
holds_alike (tree.time from to) k x y good have alike =
    let cuts = All-of_atom (IsAlike x.minute y.minute) (atom_cuts Minute) (tree.time from to) alike.minute in
    let parts = All-parts (IsAlike x.minute y.minute) (minute_cut from) (minute_cut to) cuts in
    time_alike from to x.minute y.minute (minute_alike from x.minute y.minute parts.0)
    (minute_alike to x.minute y.minute parts.1)
holds_alike (tree.day from to) k x y good have alike = rw have.weekday refl
holds_alike (tree.date from_month from_date to_month to_date) k x y good have alike =
    let from = date_place from_month from_date in
    let to = date_place to_month to_date in
    let P = IsAlike x.month_day y.month_day in
    let cuts = All-of_atom P (atom_cuts MonthDay) (tree.date from_month from_date to_month to_date) alike.month_day in
    let parts = All-parts P (day_cut from) (day_cut (to + 1)) cuts in
    let dates = (All-head IsGoodAtom (tree.date from_month from_date to_month to_date) [] good).1 in
    let first = (date_test 2000 from_month from_date).decides.0 dates.0 in
    let last = (date_test 2000 to_month to_date).decides.0 dates.1 in
    on_places from_month from_date to_month to_date x.month_day first last have.month_day.0
    ∙ (date_alike from to x.month_day y.month_day
    (day_alike from x.month_day y.month_day have.month_day.0 have.month_day.1 parts.0)
    (day_alike (to + 1) x.month_day y.month_day have.month_day.0 have.month_day.1 parts.1)
    ∙ sym (on_places from_month from_date to_month to_date y.month_day first last have.month_day.1))
holds_alike tree.holiday k x y good have alike = have.holiday
holds_alike (tree.after_distance decimetres) k x y good have alike =
    let cut = All-of_atom (IsAlikeInPulses k x.pulses y.pulses) (atom_cuts Distance)
    (tree.after_distance decimetres) alike.distance in
    let same = All-head (IsAlikeInPulses k x.pulses y.pulses) decimetres [] cut in
    rw (have.constant.0, have.constant.1)
    (reached-pulses_for k decimetres x.pulses ∙ same ∙ sym (reached-pulses_for k decimetres y.pulses))
holds_alike (tree.after_time tenths) k x y good have alike =
    All-head (IsAlike x.ticks y.ticks) tenths []
    (All-of_atom (IsAlike x.ticks y.ticks) (atom_cuts Time) (tree.after_time tenths) alike.time)
