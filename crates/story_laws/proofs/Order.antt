-- Ticks and pulses of a story never fall.
use Rattle.std.specs.{List.{AllZip}, Prelude.{if◌then◌else◌, sum}}
use Rattle.std.proofs.Common.{[], ℕ, ◌++◌, ◌+◌, ◌∷◌, ◌≡◌, ◌≤◌, Bool, List, None, Option, Some, ap, append_assoc, arith}
use Rattle.std.proofs.{Common.{false, flat_map, map, subst, sym, true}, lemmas.List.Sums.{sum-map, sum_by-append}}
use Rattle.meter_model.specs.{Interval.{pulses_so_far}, Trip.{pulses_in, pulses_of, ticks_of}}
use Rattle.story_laws.{specs.ClosedStories.{Rise, Rises}, proofs.Carried.{carried, hired_moment, seen_told}}
use Rattle.story_laws.{specs.Closings.{closings_of}, proofs.{Told.{Each, Plain}, Turns.{IsOf}}}
use Rattle.story_laws.specs.Common.{Display, Event, ForHire, Happening, Hired, Meter, MeterTrip, Moment, Off, Operating}
use Rattle.story_laws.specs.Common.{Part, Receipt, Setting, Stamp, Stopped, begun, context_now, display_told, end_of}
use Rattle.story_laws.specs.Common.{fees_in_force, is_line, line_by, moment_of, moments_at, parts_by, rate_in}
use Rattle.story_laws.specs.Common.{rate_line, rate_told, stories_of, ticks_in, ticks_so_far, with_parts}
use Rattle.taxi_units.specs.declared.event.Event.TheVariants as events
use Rattle.verify_bench.specs.declared.moment.Happening.TheVariants as happenings

-- moments have at most these ticks and pulses
abbrev Below : (ticks pulses : ℕ) → List Moment → Type 0
Below ticks pulses [] = Unit {0}
Below ticks pulses (x ∷ xs) = (x.ticks ≤ ticks) × (x.pulses ≤ pulses) × Below ticks pulses xs

rise_from : (a b c d : ℕ) (ys : List Moment) → a ≤ c → b ≤ d → Rise c d ys → Rise a b ys
rise_from a b c d [] ac bd rise = tt
rise_from a b c d (y ∷ ys) ac bd rise = (omega (arith, ac, rise.0), omega (arith, bd, rise.1), rise.2)

rise_both : (a b c d : ℕ) (xs ys : List Moment) → Rise a b xs → Below c d xs → a ≤ c → b ≤ d → Rise c d ys
    → Rise a b (xs ++ ys)
rise_both a b c d [] ys rise below ac bd other = rise_from a b c d ys ac bd other
rise_both a b c d (x ∷ xs) ys rise below ac bd other =
    (rise.0, rise.1, rise_both x.ticks x.pulses c d xs ys rise.2 below.2 below.0 below.1 other)

below_more : (a b c d : ℕ) (xs : List Moment) → a ≤ c → b ≤ d → Below a b xs → Below c d xs
below_more a b c d [] ac bd below = tt
below_more a b c d (x ∷ xs) ac bd below =
    (omega (arith, ac, below.0), omega (arith, bd, below.1), below_more a b c d xs ac bd below.2)

below_both : (c d : ℕ) (xs ys : List Moment) → Below c d xs → Below c d ys → Below c d (xs ++ ys)
below_both c d [] ys one other = other
below_both c d (x ∷ xs) ys one other = (one.0, one.1, below_both c d xs ys one.2 other)

-- moments of one state of a trip

level : (trip : Option MeterTrip) (at : Stamp) (list : List Happening)
    → Rise (ticks_so_far trip) (pulses_so_far trip) (map (moment_of trip at) list)
level trip at [] = tt
level trip at (h ∷ list) = (omega arith, omega arith, level trip at list)

level_below : (trip : Option MeterTrip) (at : Stamp) (list : List Happening)
    → Below (ticks_so_far trip) (pulses_so_far trip) (map (moment_of trip at) list)
level_below trip at [] = tt
level_below trip at (h ∷ list) = (omega arith, omega arith, level_below trip at list)

sum_grows : (f : Part → ℕ) (xs ys : List Part) → sum (map f xs) ≤ sum (map f (xs ++ ys))
sum_grows f xs ys = omega (arith, sum-map f (xs ++ ys), sum_by-append f xs ys, sum-map f xs)

module _ (s : Setting) where
  -- ---- the moment of a rate

  record Level (m : Meter) (xs : List Moment) : Type 0 where
    pub rises : Rise (ticks_so_far m.trip) (pulses_so_far m.trip) xs
    pub below : Below (ticks_so_far m.trip) (pulses_so_far m.trip) xs

  none_level : (m : Meter) → Level m []
  none_level m = record { rises = tt; below = tt }

  rate_if : (b : Bool) (m : Meter) (at : Stamp) (line : ℕ)
      → Level m (if b then [] else moment_of m.trip at (happenings.Rate line) ∷ [])
  rate_if true m at line = none_level m
  rate_if false m at line = record {
    rises = level m.trip at (happenings.Rate line ∷ []);
    below = level_below m.trip at (happenings.Rate line ∷ []);
  }

  rate_level_in : (operating : Operating) (last : Option ℕ) (m : Meter) → Level m (rate_in s operating last m)
  rate_level_in Off last m = none_level m
  rate_level_in ForHire last m = none_level m
  rate_level_in Hired last m = rate_if (is_line last (rate_line s m)) m _ (rate_line s m)
  rate_level_in Stopped last m = none_level m

  rate_level : (event : Event) (last : Option ℕ) (m : Meter) → Level m (rate_told s event last m)
  rate_level events.Tick last m = rate_level_in m.operating last m
  rate_level (events.Up second) last m = none_level m
  rate_level events.Down last m = none_level m
  rate_level (events.Pulses n) last m = none_level m
  rate_level (events.Clock second) last m = none_level m
  rate_level (events.Key key) last m = none_level m

  late_rises : (n : Meter) (told : List Happening) (list : List Display)
      → Rise (ticks_so_far n.trip) (pulses_so_far n.trip) (moments_at s n told ++ seen_told s n list)
  late_rises n told list =
      rise_both _ _ (ticks_so_far n.trip) (pulses_so_far n.trip) (moments_at s n told) (seen_told s n list)
      (level n.trip _ told) (level_below n.trip _ told) (omega arith) (omega arith)
      (level n.trip _ (flat_map display_told list))

  late_below : (n : Meter) (told : List Happening) (list : List Display)
      → Below (ticks_so_far n.trip) (pulses_so_far n.trip) (moments_at s n told ++ seen_told s n list)
  late_below n told list =
      below_both _ _ (moments_at s n told) (seen_told s n list) (level_below n.trip _ told)
      (level_below n.trip _ (flat_map display_told list))

  -- ---- an open story

  -- an open story rises, up to the ticks and the pulses of its trip
  record Risen (t : MeterTrip) (line : Option ℕ) (moments : List Moment) : Type 0 where
    pub rises : Rise 0 0 moments
    pub below : Below (ticks_of t) (pulses_of t) moments

  hire : (m n : Meter) (roam : ℕ) (list : List Display) → m.trip ≡ None
      → n.trip ≡ Some (begun s (fees_in_force s.tariff (context_now s m)) m.clock roam)
      → Risen (begun s (fees_in_force s.tariff (context_now s m)) m.clock roam) None
      (hired_moment s m ∷ seen_told s n list)
  hire m n roam list free there =
      let t = begun s (fees_in_force s.tariff (context_now s m)) m.clock roam in
      let told = flat_map display_told list in
      let ticks = ap ticks_so_far there in
      let pulses = ap pulses_so_far there in
      record {
        rises = (
          omega arith,
          omega arith,
          rise_from 0 0 (ticks_so_far n.trip) (pulses_so_far n.trip) (seen_told s n list) (omega arith) (omega arith)
              (level n.trip _ told),
        );
        below = (
          omega arith,
          omega arith,
          below_more (ticks_so_far n.trip) (pulses_so_far n.trip) (ticks_of t) (pulses_of t) (seen_told s n list)
              (omega (arith, ticks)) (omega (arith, pulses)) (level_below n.trip _ told),
        );
      }

  -- what the moments of a rate and those behind it come to
  module _ (event : Event) (m : Meter) (line : Option ℕ) (so_far late : List Moment) (u : MeterTrip)
      (there : m.trip ≡ Some u) (b : Risen u line so_far) where
    abbrev parts : List Part
    parts = u.parts ++ parts_by s event m

    abbrev ticks : ℕ
    ticks = u.opening.ticks + sum (map ticks_in parts)

    abbrev pulses : ℕ
    pulses = u.opening.pulses + sum (map pulses_in parts)

    abbrev rate : List Moment
    rate = rate_told s event line m

    had_ticks : ticks_so_far m.trip ≡ ticks_of u
    had_ticks = ap ticks_so_far there

    had_pulses : pulses_so_far m.trip ≡ pulses_of u
    had_pulses = ap pulses_so_far there

    more_ticks : ticks_of u ≤ ticks
    more_ticks = omega (arith, sum_grows ticks_in u.parts (parts_by s event m))

    more_pulses : pulses_of u ≤ pulses
    more_pulses = omega (arith, sum_grows pulses_in u.parts (parts_by s event m))

    rate_below : Below ticks pulses rate
    rate_below = below_more (ticks_so_far m.trip) (pulses_so_far m.trip) ticks pulses rate
        (omega (arith, had_ticks, more_ticks)) (omega (arith, had_pulses, more_pulses)) (rate_level event line m).below

    so_far_below : Below ticks pulses so_far
    so_far_below = below_more (ticks_of u) (pulses_of u) ticks pulses so_far more_ticks more_pulses b.below

    all_rises : Rise ticks pulses late → Rise 0 0 (so_far ++ (rate ++ late))
    all_rises rise =
        rise_both 0 0 (ticks_of u) (pulses_of u) so_far (rate ++ late) b.rises b.below (omega arith) (omega arith)
        (rise_from (ticks_of u) (pulses_of u) (ticks_so_far m.trip) (pulses_so_far m.trip) (rate ++ late)
        (omega (arith, had_ticks)) (omega (arith, had_pulses))
        (rise_both (ticks_so_far m.trip) (pulses_so_far m.trip) ticks pulses rate late (rate_level event line m).rises
        rate_below (omega (arith, had_ticks, more_ticks)) (omega (arith, had_pulses, more_pulses)) rise))

    all_below : Below ticks pulses late → Below ticks pulses (so_far ++ (rate ++ late))
    all_below below = below_both ticks pulses so_far (rate ++ late) so_far_below
        (below_both ticks pulses rate late rate_below below)

  go_on : (event : Event) (m n : Meter) (line : Option ℕ) (so_far : List Moment) (u : MeterTrip) (extras : List ℕ)
      (told : List Happening) (list : List Display) → m.trip ≡ Some u
      → n.trip ≡ Some (record (with_parts (parts_by s event m) u) { extras = extras }) → Each Plain told
      → Risen u line so_far
      → Risen (record (with_parts (parts_by s event m) u) { extras = extras }) (line_by s event m line)
      (so_far ++ (rate_told s event line m ++ (moments_at s n told ++ seen_told s n list)))
  go_on event m n line so_far u extras told list there behind plain b =
      let late = moments_at s n told ++ seen_told s n list in
      let has_ticks = ap ticks_so_far behind in
      let has_pulses = ap pulses_so_far behind in
      let t = with_parts (parts_by s event m) u in
      record {
        rises = all_rises event m line so_far late u there b
            (rise_from (ticks_of t) (pulses_of t) (ticks_so_far n.trip) (pulses_so_far n.trip) late
            (omega (arith, has_ticks)) (omega (arith, has_pulses)) (late_rises n told list));
        below = all_below event m line so_far late u there b
            (below_more (ticks_so_far n.trip) (pulses_so_far n.trip) (ticks_of t) (pulses_of t) late
            (omega (arith, has_ticks)) (omega (arith, has_pulses)) (late_below n told list));
      }

  close : (event : Event) (m : Meter) (line : Option ℕ) (so_far : List Moment) (u : MeterTrip) (r : Receipt)
      → m.trip ≡ Some u → IsOf s (with_parts (parts_by s event m) u) r → Risen u line so_far
      → Rises (record { trip = Some (with_parts (parts_by s event m) u); receipt = r }) (record {
        kind = r.kind;
        moments = (so_far ++ rate_told s event line m) ++ end_of (Some (with_parts (parts_by s event m) u)) r ∷ [];
      })
  close event m line so_far u r there of b =
      let end = end_of (Some (with_parts (parts_by s event m) u)) r in
      subst (Rise 0 0) (sym (append_assoc so_far (rate_told s event line m) (end ∷ [])))
      (all_rises event m line so_far (end ∷ []) u there b (omega arith, omega arith, tt))

  pub stories_rise : (list : List Event) → AllZip Rises (closings_of s list) (stories_of s list)
  stories_rise list = carried s Risen Rises hire go_on close list
