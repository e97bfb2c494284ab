-- Each interval in Hired is charged by the line that is told of it.
use Rattle.std.specs.{List.{AllZip}, Prelude.{⊤, if◌then◌else◌, nat_le, sum}}
use Rattle.std.proofs.Common.{[], ℕ, ◌++◌, ◌+◌, ◌<◌, ◌∙◌, ◌∷◌, ◌≡◌, ◌≤◌, Bool, List, None, Option, Some, ap}
use Rattle.std.proofs.{Common.{append_assoc, arith, false, flat_map, map, refl, sym, true}, lemmas.List.{append-nil}}
use Rattle.std.proofs.lemmas.{Bool.{eqb-true, le-leb, lt-leb}, List.Sums.{sum-map, sum_by-append, sum_by-cons}}
use Rattle.{tariff_tree.specs.declared.context.Context.{Context}, meter_model.specs.TripParts.{interval_in, rest_in}}
use Rattle.{meter_model.specs.{Interval.{context_of}, Trip.{InHired, ticks_of}}, verify_bench.specs.Story.{line_in}}
use Rattle.story_laws.specs.{ClosedStories.{HasLines, line_behind, line_of_context, line_told}, Closings.{closings_of}}
use Rattle.story_laws.specs.Common.{Display, Event, ForHire, Happening, Hired, Meter, MeterTrip, Moment, Off, Operating}
use Rattle.story_laws.specs.Common.{Part, Receipt, Setting, Stamp, Stopped, begun, context_now, display_told, end_of}
use Rattle.story_laws.specs.Common.{fees_in_force, is_in_trip, is_line, line_by, moment_of, moments_at, parts_by}
use Rattle.story_laws.specs.Common.{rate_in, rate_line, rate_told, stories_of, ticks_in, ticks_so_far, with_parts}
use Rattle.story_laws.proofs.{Carried.{carried, hired_moment, seen_told}, Told.{Each, Plain, each_also}, Turns.{IsOf}}
use Rattle.taxi_units.specs.declared.event.Event.TheVariants as events
use Rattle.verify_bench.specs.declared.moment.Happening.TheVariants as happenings

-- ---- lists

-- where an element behind some of two lists stands: in the first, or behind it
data Side {A : Type 0} (xs ys before : List A) (y : A) (after : List A) : Type 0 where
  inside : (rest : List A) → xs ≡ before ++ y ∷ rest → Side xs ys before y after
  beyond : (rest : List A) → before ≡ xs ++ rest → ys ≡ rest ++ y ∷ after → Side xs ys before y after

side : {A : Type 0} (xs ys before : List A) (y : A) (after : List A) → xs ++ ys ≡ before ++ y ∷ after
    → Side xs ys before y after
side [] ys before y after is = beyond before refl is
side (x ∷ xs) ys [] y after is = inside xs (let same : x ≡ y = cc in ap (λ z. z ∷ xs) same)
side {A} (x ∷ xs) ys (b ∷ before) y after is =
    next (let same : x ≡ b = cc in same) (side xs ys before y after (let others : xs ++ ys ≡ before ++ y ∷ after = cc in others))
  where
    next : x ≡ b → Side xs ys before y after → Side (x ∷ xs) ys (b ∷ before) y after
    next same (inside rest there) = inside rest (ap (λ (z : A). z ∷ xs) same ∙ ap (λ (l : List A). b ∷ l) there)
    next same (beyond rest before_is there) =
        beyond rest (ap (λ (l : List A). b ∷ l) before_is ∙ ap (λ (z : A). z ∷ (xs ++ rest)) (sym same)) there

sum_more : (x : Part) (xs : List Part) → sum (map ticks_in (x ∷ xs)) ≡ ticks_in x + sum (map ticks_in xs)
sum_more x xs = omega (arith, sum-map ticks_in (x ∷ xs), sum_by-cons ticks_in x xs, sum-map ticks_in xs)

sum_both : (xs ys : List Part) → sum (map ticks_in (xs ++ ys)) ≡ sum (map ticks_in xs) + sum (map ticks_in ys)
sum_both xs ys =
    omega (arith, sum-map ticks_in (xs ++ ys), sum_by-append ticks_in xs ys, sum-map ticks_in xs, sum-map ticks_in ys)

-- ---- the line told

if_same : (b : Bool) (x y : Option ℕ) → x ≡ y → (if b then x else y) ≡ y
if_same true x y same = same
if_same false x y same = refl

told_both : (ticks : ℕ) (last : Option ℕ) (xs ys : List Moment)
    → line_told ticks last (xs ++ ys) ≡ line_told ticks (line_told ticks last xs) ys
told_both ticks last [] ys = refl
told_both ticks last (x ∷ xs) ys =
    told_both ticks (if nat_le x.ticks ticks then line_behind last x.happening else last) xs ys

abbrev NoRate : Happening → Type 0
NoRate (happenings.Rate line) = ⊥
NoRate h = ⊤

no_rate : (h : Happening) → Plain h → NoRate h
no_rate (happenings.Rate line) plain = plain
no_rate h plain = tt

line_stays : (last : Option ℕ) (h : Happening) → NoRate h → line_behind last h ≡ last
line_stays last (happenings.Rate line) none = absurd none
line_stays last h none = refl

-- moments without a rate leave the line
abbrev Leaves : List Moment → Type 0
Leaves moments = (ticks : ℕ) (last : Option ℕ) → line_told ticks last moments ≡ last

leaves_one : (m : Moment) → NoRate m.happening → Leaves (m ∷ [])
leaves_one m none = λ ticks last. if_same (nat_le m.ticks ticks) _ last (line_stays last m.happening none)

leaves_both : (xs ys : List Moment) → Leaves xs → Leaves ys → Leaves (xs ++ ys)
leaves_both xs ys one other =
    λ ticks last. told_both ticks last xs ys ∙ (ap (λ l. line_told ticks l ys) (one ticks last) ∙ other ticks last)

leaves_all : (trip : Option MeterTrip) (at : Stamp) (list : List Happening) → Each NoRate list
    → Leaves (map (moment_of trip at) list)
leaves_all trip at [] none = λ ticks last. refl
leaves_all trip at (h ∷ list) none =
    leaves_both (moment_of trip at h ∷ []) (map (moment_of trip at) list) (leaves_one (moment_of trip at h) none.0)
    (leaves_all trip at list none.1)

shown_one : (b : Bool) (d : Display) → Each NoRate (if b then happenings.Shown d.fare d.supplements ∷ [] else [])
shown_one true d = (tt, tt)
shown_one false d = tt

each_then : (first others : List Happening) → Each NoRate first → Each NoRate others → Each NoRate (first ++ others)
each_then [] others one other = other
each_then (h ∷ first) others one other = (one.0, each_then first others one.1 other)

shown_none : (list : List Display) → Each NoRate (flat_map display_told list)
shown_none [] = tt
shown_none (d ∷ list) =
    each_then (display_told d) (flat_map display_told list) (shown_one (is_in_trip d.operating) d) (shown_none list)

module _ (s : Setting) where
  late_leaves : (n : Meter) (told : List Happening) (list : List Display) → Each Plain told
      → Leaves (moments_at s n told ++ seen_told s n list)
  late_leaves n told list plain =
      leaves_both (moments_at s n told) (seen_told s n list)
      (leaves_all n.trip _ told (each_also Plain NoRate no_rate told plain))
      (leaves_all n.trip _ (flat_map display_told list) (shown_none list))

  -- ---- the moment of a rate

  same_line : (last : Option ℕ) (line : ℕ) → is_line last line ≡ true → last ≡ Some line
  same_line None line is = absurd cc
  same_line (Some other) line is = ap (λ (n : ℕ). Some n) (eqb-true other line is)

  now_if : (b : Bool) (ticks : ℕ) (last : Option ℕ) (line : ℕ) (m : Meter) (at : Stamp) → is_line last line ≡ b
      → ticks_so_far m.trip ≤ ticks
      → line_told ticks last (if b then [] else moment_of m.trip at (happenings.Rate line) ∷ []) ≡ Some line
  now_if true ticks last line m at is within = same_line last line is
  now_if false ticks last line m at is within =
      ap (λ (b : Bool). if b then Some line else last) (le-leb (ticks_so_far m.trip) ticks within)

  later_if : (b : Bool) (ticks : ℕ) (last : Option ℕ) (line : ℕ) (m : Meter) (at : Stamp)
      → ticks < ticks_so_far m.trip
      → line_told ticks last (if b then [] else moment_of m.trip at (happenings.Rate line) ∷ []) ≡ last
  later_if true ticks last line m at before = refl
  later_if false ticks last line m at before =
      ap (λ (b : Bool). if b then Some line else last) (lt-leb (ticks_so_far m.trip) ticks before)

  now_in : (operating : Operating) (ticks : ℕ) (last : Option ℕ) (m : Meter) → ticks_so_far m.trip ≤ ticks
      → line_told ticks last (rate_in s operating last m) ≡ line_in s operating m last
  now_in Off ticks last m within = refl
  now_in ForHire ticks last m within = refl
  now_in Hired ticks last m within = now_if (is_line last (rate_line s m)) ticks last (rate_line s m) m _ refl within
  now_in Stopped ticks last m within = refl

  later_in : (operating : Operating) (ticks : ℕ) (line last : Option ℕ) (m : Meter) → ticks < ticks_so_far m.trip
      → line_told ticks last (rate_in s operating line m) ≡ last
  later_in Off ticks line last m before = refl
  later_in ForHire ticks line last m before = refl
  later_in Hired ticks line last m before = later_if (is_line line (rate_line s m)) ticks last (rate_line s m) m _ before
  later_in Stopped ticks line last m before = refl

  rate_now : (event : Event) (ticks : ℕ) (line : Option ℕ) (m : Meter) → ticks_so_far m.trip ≤ ticks
      → line_told ticks line (rate_told s event line m) ≡ line_by s event m line
  rate_now events.Tick ticks line m within = now_in m.operating ticks line m within
  rate_now (events.Up second) ticks line m within = refl
  rate_now events.Down ticks line m within = refl
  rate_now (events.Pulses n) ticks line m within = refl
  rate_now (events.Clock second) ticks line m within = refl
  rate_now (events.Key key) ticks line m within = refl

  rate_later : (event : Event) (ticks : ℕ) (line last : Option ℕ) (m : Meter) → ticks < ticks_so_far m.trip
      → line_told ticks last (rate_told s event line m) ≡ last
  rate_later events.Tick ticks line last m before = later_in m.operating ticks line last m before
  rate_later (events.Up second) ticks line last m before = refl
  rate_later events.Down ticks line last m before = refl
  rate_later (events.Pulses n) ticks line last m before = refl
  rate_later (events.Clock second) ticks line last m before = refl
  rate_later (events.Key key) ticks line last m before = refl

  -- ---- the part of an event

  nothing_there : (rest : List Part) (y : Part) (after : List Part) → [] ≡ rest ++ y ∷ after → ⊥
  nothing_there [] y after is = absurd cc
  nothing_there (r ∷ rest) y after is = absurd cc

  -- an interval in Hired that an event adds is its only part, and is charged by the line behind it
  part_in : (operating : Operating) (m : Meter) (line : Option ℕ) (rest after : List Part) (p : ℕ) (x : Context)
      → interval_in s operating m ≡ rest ++ InHired p x ∷ after
      → (rest ≡ []) × (line_in s operating m line ≡ Some (line_of_context s x))
  part_in Off m line rest after p x is = absurd (nothing_there rest (InHired p x) after is)
  part_in ForHire m line rest after p x is = absurd (nothing_there rest (InHired p x) after is)
  part_in Hired m line [] after p x is =
      (refl, let same : context_of s m ≡ x = cc in ap (λ (y : Context). Some (line_of_context s y)) same)
  part_in Hired m line (r ∷ rest) after p x is =
      absurd (nothing_there rest (InHired p x) after (let none : [] ≡ rest ++ InHired p x ∷ after = cc in none))
  part_in Stopped m line [] after p x is = absurd cc
  part_in Stopped m line (r ∷ rest) after p x is =
      absurd (nothing_there rest (InHired p x) after (let none : [] ≡ rest ++ InHired p x ∷ after = cc in none))

  rest_none : (operating : Operating) (m : Meter) (rest after : List Part) (p : ℕ) (x : Context)
      → rest_in operating m ≡ rest ++ InHired p x ∷ after → ⊥
  rest_none Off m rest after p x is = nothing_there rest (InHired p x) after is
  rest_none ForHire m rest after p x is = nothing_there rest (InHired p x) after is
  rest_none Hired m [] after p x is = absurd cc
  rest_none Hired m (r ∷ rest) after p x is =
      nothing_there rest (InHired p x) after (let none : [] ≡ rest ++ InHired p x ∷ after = cc in none)
  rest_none Stopped m [] after p x is = absurd cc
  rest_none Stopped m (r ∷ rest) after p x is =
      nothing_there rest (InHired p x) after (let none : [] ≡ rest ++ InHired p x ∷ after = cc in none)

  part_line : (event : Event) (m : Meter) (line : Option ℕ) (rest after : List Part) (p : ℕ) (x : Context)
      → parts_by s event m ≡ rest ++ InHired p x ∷ after
      → (rest ≡ []) × (line_by s event m line ≡ Some (line_of_context s x))
  part_line events.Tick m line rest after p x is = part_in m.operating m line rest after p x is
  part_line (events.Up second) m line rest after p x is = absurd (nothing_there rest (InHired p x) after is)
  part_line events.Down m line rest after p x is = absurd (rest_none m.operating m rest after p x is)
  part_line (events.Pulses n) m line rest after p x is = absurd (nothing_there rest (InHired p x) after is)
  part_line (events.Clock second) m line rest after p x is = absurd (nothing_there rest (InHired p x) after is)
  part_line (events.Key key) m line rest after p x is = absurd (nothing_there rest (InHired p x) after is)

  -- ---- an open story

  -- an open story tells the line of each interval so far, and last the line that charged last
  record Lined (t : MeterTrip) (line : Option ℕ) (moments : List Moment) : Type 0 where
    pub new : t.opening.ticks ≡ 0
    pub last : (ticks : ℕ) → ticks_of t ≤ ticks → line_told ticks None moments ≡ line
    pub lines : (before after : List Part) (p : ℕ) (x : Context) → t.parts ≡ before ++ InHired p x ∷ after
        → line_told (sum (map ticks_in before)) None moments ≡ Some (line_of_context s x)

  hire : (m n : Meter) (roam : ℕ) (list : List Display) → m.trip ≡ None
      → n.trip ≡ Some (begun s (fees_in_force s.tariff (context_now s m)) m.clock roam)
      → Lined (begun s (fees_in_force s.tariff (context_now s m)) m.clock roam) None
      (hired_moment s m ∷ seen_told s n list)
  hire m n roam list free there = record {
    new = refl;
    last = λ ticks within. leaves_both (hired_moment s m ∷ []) (seen_told s n list) (leaves_one (hired_moment s m) tt)
        (leaves_all n.trip _ (flat_map display_told list) (shown_none list)) ticks None;
    lines = λ before after p x is. absurd (nothing_there before (InHired p x) after is);
  }

  module _ (event : Event) (m : Meter) (line : Option ℕ) (so_far late : List Moment) (u : MeterTrip)
      (there : m.trip ≡ Some u) (b : Lined u line so_far) (leaves : Leaves late) where
    abbrev rate : List Moment
    rate = rate_told s event line m

    here : ticks_so_far m.trip ≡ ticks_of u
    here = ap ticks_so_far there

    told_now : (ticks : ℕ) → ticks_of u ≤ ticks
        → line_told ticks None (so_far ++ (rate ++ late)) ≡ line_by s event m line
    told_now ticks within =
        told_both ticks None so_far (rate ++ late)
        ∙ (ap (λ (l : Option ℕ). line_told ticks l (rate ++ late)) (b.last ticks within)
        ∙ (told_both ticks line rate late
        ∙ (ap (λ (l : Option ℕ). line_told ticks l late) (rate_now event ticks line m (omega (arith, here, within)))
        ∙ leaves ticks (line_by s event m line))))

    grown_last : (ticks : ℕ) → u.opening.ticks + sum (map ticks_in (u.parts ++ parts_by s event m)) ≤ ticks
        → line_told ticks None (so_far ++ (rate ++ late)) ≡ line_by s event m line
    grown_last ticks within = told_now ticks (omega (arith, sum_both u.parts (parts_by s event m), within))

    by_side : (before after : List Part) (p : ℕ) (x : Context)
        → Side u.parts (parts_by s event m) before (InHired p x) after
        → line_told (sum (map ticks_in before)) None (so_far ++ (rate ++ late)) ≡ Some (line_of_context s x)
    by_side before after p x (inside rest is) =
        let ticks = sum (map ticks_in before) in
        let total = ap (λ (l : List Part). sum (map ticks_in l)) is ∙ sum_both before (InHired p x ∷ rest) in
        told_both ticks None so_far (rate ++ late)
        ∙ (ap (λ (l : Option ℕ). line_told ticks l (rate ++ late)) (b.lines before rest p x is)
        ∙ (told_both ticks (Some (line_of_context s x)) rate late
        ∙ (ap (λ (l : Option ℕ). line_told ticks l late)
        (rate_later event ticks line (Some (line_of_context s x)) m
        (omega (arith, here, total, sum_more (InHired p x) rest)))
        ∙ leaves ticks (Some (line_of_context s x)))))
    by_side before after p x (beyond rest before_is is) =
        let only = part_line event m line rest after p x is in
        let parts_are = before_is ∙ (ap (λ (l : List Part). u.parts ++ l) only.0 ∙ append-nil u.parts) in
        let total = ap (λ (l : List Part). sum (map ticks_in l)) parts_are in
        told_now (sum (map ticks_in before)) (omega (arith, total, b.new)) ∙ only.1

    grown_lines : (before after : List Part) (p : ℕ) (x : Context)
        → u.parts ++ parts_by s event m ≡ before ++ InHired p x ∷ after
        → line_told (sum (map ticks_in before)) None (so_far ++ (rate ++ late)) ≡ Some (line_of_context s x)
    grown_lines before after p x is =
        by_side before after p x (side u.parts (parts_by s event m) before (InHired p x) after is)

  go_on : (event : Event) (m n : Meter) (line : Option ℕ) (so_far : List Moment) (u : MeterTrip) (extras : List ℕ)
      (told : List Happening) (list : List Display) → m.trip ≡ Some u
      → n.trip ≡ Some (record (with_parts (parts_by s event m) u) { extras = extras }) → Each Plain told
      → Lined u line so_far
      → Lined (record (with_parts (parts_by s event m) u) { extras = extras }) (line_by s event m line)
      (so_far ++ (rate_told s event line m ++ (moments_at s n told ++ seen_told s n list)))
  go_on event m n line so_far u extras told list there behind plain b =
      let late = moments_at s n told ++ seen_told s n list in
      record {
        new = b.new;
        last = grown_last event m line so_far late u there b (late_leaves n told list plain);
        lines = grown_lines event m line so_far late u there b (late_leaves n told list plain);
      }

  close : (event : Event) (m : Meter) (line : Option ℕ) (so_far : List Moment) (u : MeterTrip) (r : Receipt)
      → m.trip ≡ Some u → IsOf s (with_parts (parts_by s event m) u) r → Lined u line so_far
      → HasLines s (record { trip = Some (with_parts (parts_by s event m) u); receipt = r }) (record {
        kind = r.kind;
        moments = (so_far ++ rate_told s event line m) ++ end_of (Some (with_parts (parts_by s event m) u)) r ∷ [];
      })
  close event m line so_far u r there of b =
      let end = end_of (Some (with_parts (parts_by s event m) u)) r in
      record {
        trip = with_parts (parts_by s event m) u;
        there = refl;
        lines = λ before after p x is.
            ap (λ (l : List Moment). line_told (sum (map ticks_in before)) None l)
            (append_assoc so_far (rate_told s event line m) (end ∷ []))
            ∙ grown_lines event m line so_far (end ∷ []) u there b (leaves_one end tt) before after p x is;
      }

  pub lines_told : (list : List Event) → AllZip (HasLines s) (closings_of s list) (stories_of s list)
  lines_told list = carried s Lined (HasLines s) hire go_on close list
