-- What kinds of happenings an event is told by.
use Rattle.std.{specs.Prelude.{⊤, ◌&&◌, if◌then◌else◌, nat_le}, proofs.lemmas.List.Elements.{All-cons, All-nil}}
use Rattle.std.proofs.Common.{[], ℕ, ◌++◌, ◌+◌, ◌∷◌, Bool, List, None, Option, Some, false, flat_map, map, true}
use Rattle.verify_bench.specs.Story.{event_told, is_there, reading_told, reckoned, supply_told}
use Rattle.story_laws.specs.{ClosedStories.{GoesOn}, Common.{rate_in, rate_line, rate_told, refusals_told, whys_in}}
use Rattle.story_laws.specs.Common.{Display, Event, ForHire, Happening, Hired, Key, Meter, MeterTrip, Moment, Off}
use Rattle.story_laws.specs.Common.{Operating, Outcome, Setting, Stamp, Stopped, Telling, Why, display_told}
use Rattle.story_laws.specs.Common.{happenings_of, is_empty, is_in_trip, is_line, key_told, latch_told, moment_of}
use Rattle.story_laws.proofs.Stories.{AllGo}
use Rattle.taxi_units.specs.declared.event.Event.TheVariants as events
use Rattle.taxi_units.specs.declared.event.Key.TheVariants as keys
use Rattle.verify_bench.specs.declared.moment.Happening.TheVariants as happenings

-- ---- happenings that are no end, no display and no line of a rate

abbrev pub Plain : Happening → Type 0
Plain (happenings.Ended kind fare supplements) = ⊥
Plain (happenings.Shown fare supplements) = ⊥
Plain (happenings.Rate line) = ⊥
Plain h = ⊤

pub plain_goes : (h : Happening) → Plain h → GoesOn h
plain_goes (happenings.Ended kind fare supplements) plain = plain
plain_goes h plain = tt

abbrev pub Each : (Happening → Type 0) → List Happening → Type 0
Each P [] = Unit {0}
Each P (h ∷ list) = P h × Each P list

each_both : (P : Happening → Type 0) (first others : List Happening) → Each P first → Each P others
    → Each P (first ++ others)
each_both P [] others one other = other
each_both P (h ∷ first) others one other = (one.0, each_both P first others one.1 other)

each_if : (P : Happening → Type 0) (b : Bool) (first others : List Happening) → Each P first → Each P others
    → Each P (if b then first else others)
each_if P true first others one other = one
each_if P false first others one other = other

pub each_also : (P Q : Happening → Type 0) → ((h : Happening) → P h → Q h) → (list : List Happening) → Each P list
    → Each Q list
each_also P Q next [] each = tt
each_also P Q next (h ∷ list) each = (next h each.0, each_also P Q next list each.1)

pub go_map : (trip : Option MeterTrip) (at : Stamp) (list : List Happening) → Each GoesOn list
    → AllGo (map (moment_of trip at) list)
go_map trip at [] on = All-nil (λ (m : Moment). GoesOn m.happening)
go_map trip at (h ∷ list) on = All-cons (λ (m : Moment). GoesOn m.happening) (moment_of trip at h)
    (map (moment_of trip at) list) on.0 (go_map trip at list on.1)

plain_refused : (whys : List Why) → Each Plain (map (λ (why : Why). happenings.Refused why) whys)
plain_refused [] = tt
plain_refused (why ∷ whys) = (tt, plain_refused whys)

on_display : (d : Display) → Each GoesOn (display_told d)
on_display d = each_if GoesOn (is_in_trip d.operating) _ [] (tt, tt) tt

pub on_displays : (list : List Display) → Each GoesOn (flat_map display_told list)
on_displays [] = tt
on_displays (d ∷ list) =
    each_both GoesOn (display_told d) (flat_map display_told list) (on_display d) (on_displays list)

module _ (s : Setting) where
  plain_key : (key : Key) (operating : Operating) (m behind : Meter) → Each Plain (key_told s key operating m behind)
  plain_key keys.Hire ForHire m behind = (tt, tt)
  plain_key keys.Hire Stopped m behind = (tt, tt)
  plain_key keys.Stop Hired m behind = (tt, tt)
  plain_key (keys.Position n) Hired m behind = (tt, tt)
  plain_key (keys.Zone n) Hired m behind = (tt, tt)
  plain_key (keys.Extra n) Hired m behind = (tt, tt)
  plain_key (keys.Extra n) Stopped m behind = (tt, tt)
  plain_key key operating m behind = tt

  plain_latch : (latch : Option Key) (m : Meter) (o : Outcome) → Each Plain (latch_told s latch m o)
  plain_latch None m o = tt
  plain_latch (Some key) m o = each_if Plain (is_in_trip o.next.operating && is_empty (whys_in o.acts))
      (key_told s key m.operating m o.next) [] (plain_key key m.operating m o.next) tt

  plain_supply : (before behind : Operating) → Each Plain (supply_told before behind)
  plain_supply Off behind = each_if Plain (is_in_trip behind) _ [] (tt, tt) tt
  plain_supply before behind = tt

  plain_reading : (given second : ℕ) → Each Plain (reading_told given second)
  plain_reading given second = each_if Plain (nat_le (given + 2) second) _ _ (tt, tt)
      (each_if Plain (nat_le (second + 2) given) _ [] (tt, tt) tt)

  plain_event : (telling : Telling) (event : Event) (m : Meter) (o : Outcome) → Each Plain (event_told s telling event m o)
  plain_event telling events.Tick m o = plain_latch m.latch m o
  plain_event telling (events.Up second) m o = plain_supply m.operating o.next.operating
  plain_event telling events.Down m o = each_if Plain (is_in_trip m.operating && is_there o.next.trip) _ [] (tt, tt) tt
  plain_event telling (events.Clock second) m o = each_if Plain (is_in_trip m.operating && nat_le m.clock second)
      (reading_told (reckoned telling m) second) [] (plain_reading (reckoned telling m) second) tt
  plain_event telling (events.Pulses n) m o = tt
  plain_event telling (events.Key key) m o = tt

  pub plain_happenings : (telling : Telling) (event : Event) (m : Meter) (o : Outcome)
      → Each Plain (happenings_of s telling event m o)
  plain_happenings telling event m o =
      each_both Plain (event_told s telling event m o) (refusals_told o.next.operating (whys_in o.acts))
      (plain_event telling event m o)
      (each_if Plain (is_in_trip o.next.operating) _ [] (plain_refused (whys_in o.acts)) tt)

  pub go_happenings : (telling : Telling) (event : Event) (m : Meter) (o : Outcome) (trip : Option MeterTrip) (at : Stamp)
      → AllGo (map (moment_of trip at) (happenings_of s telling event m o))
  go_happenings telling event m o trip at =
      let list = happenings_of s telling event m o in
      go_map trip at list (each_also Plain GoesOn plain_goes list (plain_happenings telling event m o))

  go_rate_if : (b : Bool) (m : Meter) (at : Stamp)
      → AllGo (if b then [] else moment_of m.trip at (happenings.Rate (rate_line s m)) ∷ [])
  go_rate_if true m at = All-nil (λ (m : Moment). GoesOn m.happening)
  go_rate_if false m at = go_map m.trip at (happenings.Rate (rate_line s m) ∷ []) (tt, tt)

  go_rate_in : (operating : Operating) (last : Option ℕ) (m : Meter) → AllGo (rate_in s operating last m)
  go_rate_in Off last m = All-nil (λ (m : Moment). GoesOn m.happening)
  go_rate_in ForHire last m = All-nil (λ (m : Moment). GoesOn m.happening)
  go_rate_in Hired last m = go_rate_if (is_line last (rate_line s m)) m _
  go_rate_in Stopped last m = All-nil (λ (m : Moment). GoesOn m.happening)

  pub go_rate : (event : Event) (last : Option ℕ) (m : Meter) → AllGo (rate_told s event last m)
  go_rate events.Tick last m = go_rate_in m.operating last m
  go_rate (events.Up second) last m = All-nil (λ (m : Moment). GoesOn m.happening)
  go_rate events.Down last m = All-nil (λ (m : Moment). GoesOn m.happening)
  go_rate (events.Pulses n) last m = All-nil (λ (m : Moment). GoesOn m.happening)
  go_rate (events.Clock second) last m = All-nil (λ (m : Moment). GoesOn m.happening)
  go_rate (events.Key key) last m = All-nil (λ (m : Moment). GoesOn m.happening)
