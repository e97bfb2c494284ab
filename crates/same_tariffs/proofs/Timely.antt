-- The events of each drive are timely.
use Rattle.{std.{specs.Option.{unwrap_or}, proofs.lemmas.Grind.{flat_map-append}}, drive_text.specs.Lines.{ended_lines}}
use Rattle.std.{specs.Str.Lines.{strip_carriage_return}, proofs.lemmas.List.Elements.{All-append, All-cons, All-nil}}
use Rattle.std.proofs.Common.{[], ℕ, ◌==◌, ◌∷◌, ◌≡◌, All, Bool, List, None, Option, Some, false, flat_map}
use Rattle.std.proofs.Common.{if◌then◌else◌, is_some, refl, subst, suc, sym, take, take_while, true, zero}
use Rattle.{taxi_units.specs.declared.event.Event.TheVariants.{Clock}, drive_text.specs.Fields.{line_runs}}
use Rattle.drive_text.specs.{Ending.{stream_limit}, Table.{Means, Means.{clock, comment, empty, intervals, up}}}
use Rattle.drive_text.specs.{Runs.{interval_events, intervals_events, run_events}, declared.run.Run.{Run}}
use Rattle.drive_text.proofs.Laws.{lines_give_what_the_table_says}
use Rattle.same_tariffs.specs.Common.{Event, IsTimely, Pulses, Tick, Up, events_of}

one : (event : Event) → IsTimely event → All IsTimely (event ∷ [])
one event is = All-cons IsTimely event [] is (All-nil IsTimely)

either : (b : Bool) (p : ℕ) → All IsTimely (if b then Tick ∷ [] else Pulses p ∷ Tick ∷ [])
either true p = one Tick tt
either false p = All-cons IsTimely (Pulses p) (Tick ∷ []) tt (one Tick tt)

intervals-timely : (p n : ℕ) → All IsTimely (intervals_events p n)
intervals-timely p zero = All-nil IsTimely
intervals-timely p (suc n) = All-append IsTimely (interval_events p) (intervals_events p n) (either (p == 0) p)
    (intervals-timely p n)

means-timely : (text : List ℕ) (runs : List Run) → Means text runs → All IsTimely (flat_map run_events runs)
means-timely text runs empty = All-nil IsTimely
means-timely text runs (comment more) = All-nil IsTimely
means-timely text runs (up s digits h) = one (Up s) (h.above, h.below)
means-timely text runs (clock s digits h) = one (Clock s) (h.above, h.below)
means-timely text runs (intervals p n first second h k) = All-append IsTimely (intervals_events p n) []
    (intervals-timely p n) (All-nil IsTimely)
means-timely text runs line = one _ tt

runs-timely : (line : List ℕ) (runs : Option (List Run)) → line_runs line ≡ runs
    → All IsTimely (flat_map run_events (unwrap_or runs []))
runs-timely line None is = All-nil IsTimely
runs-timely line (Some runs) is = means-timely (strip_carriage_return line) runs
    ((lines_give_what_the_table_says line runs).0 is)

-- what a line gives, or nothing
abbrev given : List ℕ → List Run
given line = unwrap_or (line_runs line) []

lines-timely : (lines : List (List ℕ)) → All IsTimely (flat_map run_events (flat_map given lines))
lines-timely [] = All-nil IsTimely
lines-timely (line ∷ lines) =
    subst (All IsTimely) (sym (flat_map-append run_events (given line) (flat_map given lines)))
    (All-append IsTimely (flat_map run_events (given line)) (flat_map run_events (flat_map given lines))
    (runs-timely line (line_runs line) refl) (lines-timely lines))

pub drives-timely : (drive : List ℕ) → All IsTimely (events_of drive)
drives-timely drive =
    lines-timely (take_while (λ line. is_some (line_runs line)) (ended_lines (take stream_limit drive)))
