-- Each stage of an event commits what its acts say, and puts a receipt directly behind its entry.
use Rattle.std.proofs.Common.{[], ℕ, ◌++◌, ◌+◌, ◌∙◌, ◌∷◌, ◌≡◌, List, None, Option, Some, ap, arith, length, refl, subst}
use Rattle.{std.proofs.{Common.{sym}, lemmas.Grind.{common_steps}}, totals_record.specs.declared.change.Change.{Change}}
use Rattle.totals_record.{specs.States.{after}, proofs.Laws.{changes_add_up}}
use Rattle.meter_model.specs.{Interval.{interval_left}, Run.{ended, ended_in, opened}, Step.{off_step}}
use Rattle.meter_model.specs.Supply.{held_or_closed, powered, supply_came, supply_dropped, turned_off}
use Rattle.meter_states.specs.Common.{◌>>=◌, Act, Durable, Enter, Entry, Event, ForHire, Hired, Hold, Meter, MeterTrip}
use Rattle.meter_states.specs.Common.{Off, Operating, Outcome, Receipt, Refuse, Setting, Show, Stopped, Trip, after_all}
use Rattle.meter_states.specs.Common.{expired_or_pressed, hold_taken, interval_begun, interval_counted, powered_step}
use Rattle.meter_states.specs.Common.{roaming_checked, run, shown, step, step_in, ticked, whole_run}
use Rattle.meter_states.specs.Pairs.{ArePaired, commits_of, waiting_after}
use Rattle.taxi_units.specs.declared.event.Event.TheVariants as events
use Rattle.totals_record.specs.declared.change.Change.TheVariants as changes

-- the store has what the acts commit, and receipts follow their entries
pub record Commits (m : Meter) (o : Outcome) : Type 0 where
  pub store : o.next.durable ≡ after_all m.durable (commits_of o.acts)
  pub pairs : ArePaired m.durable.number None o.acts

commits_of-append : (xs ys : List Act) → commits_of (xs ++ ys) ≡ commits_of xs ++ commits_of ys
commits_of-append [] ys = refl
commits_of-append (Show d ∷ xs) ys = commits_of-append xs ys
commits_of-append (Refuse why ∷ xs) ys = commits_of-append xs ys
commits_of-append (Enter e ∷ xs) ys = ap (λ (cs : List Change). changes.Enter e ∷ cs) (commits_of-append xs ys)
commits_of-append (Hold t ∷ xs) ys = ap (λ (cs : List Change). changes.Hold t ∷ cs) (commits_of-append xs ys)
commits_of-append (Receipt r ∷ xs) ys = commits_of-append xs ys

from : (n m : ℕ) (ys : List Act) → m ≡ n → ArePaired m None ys → ArePaired n None ys
from n m ys is q = subst (λ (k : ℕ). ArePaired k None ys) is q

-- acts behind others begin at the number that the others leave
paired-append : (n : ℕ) (waiting : Option Entry) (xs ys : List Act) → ArePaired n waiting xs
    → ArePaired (n + length (commits_of xs)) None ys → ArePaired n waiting (xs ++ ys)
paired-append n None [] ys p q = from n (n + length (commits_of [])) ys (omega arith) q
paired-append n None (Show d ∷ xs) ys p q = paired-append n None xs ys p q
paired-append n None (Refuse why ∷ xs) ys p q = paired-append n None xs ys p q
paired-append n None (Enter e ∷ xs) ys p q =
    paired-append (n + 1) (waiting_after e.kind e) xs ys p
    (from (n + 1 + length (commits_of xs)) (n + length (commits_of (Enter e ∷ xs))) ys (omega arith) q)
paired-append n None (Hold t ∷ xs) ys p q =
    paired-append (n + 1) None xs ys p
    (from (n + 1 + length (commits_of xs)) (n + length (commits_of (Hold t ∷ xs))) ys (omega arith) q)
paired-append n None (Receipt r ∷ xs) ys p q = absurd p
paired-append n (Some e) [] ys p q = absurd p
paired-append n (Some e) (Show d ∷ xs) ys p q = absurd p
paired-append n (Some e) (Refuse why ∷ xs) ys p q = absurd p
paired-append n (Some e) (Enter f ∷ xs) ys p q = absurd p
paired-append n (Some e) (Hold t ∷ xs) ys p q = absurd p
paired-append n (Some e) (Receipt r ∷ xs) ys p q = (p.0, paired-append n None xs ys p.1 q)

after_all-append : (d : Durable) (xs ys : List Change) → after_all d (xs ++ ys) ≡ after_all (after_all d xs) ys
after_all-append d [] ys = refl
after_all-append d (x ∷ xs) ys = after_all-append (after d x) xs ys

-- one stage after the other
pub commits-then : (m : Meter) (o : Outcome) (f : Meter → Outcome) → Commits m o → Commits o.next (f o.next)
    → Commits m (o >>= f)
commits-then m o f x y = record {
  store = y.store ∙ ap (λ (d : Durable). after_all d (commits_of (f o.next).acts)) x.store
      ∙ sym (after_all-append m.durable (commits_of o.acts) (commits_of (f o.next).acts))
      ∙ ap (after_all m.durable) (sym (commits_of-append o.acts (f o.next).acts));
  pairs = paired-append m.durable.number None o.acts (f o.next).acts x.pairs
      (from (m.durable.number + length (commits_of o.acts)) o.next.durable.number (f o.next).acts
      (ap (λ (d : Durable). d.number) x.store ∙ (changes_add_up m.durable (commits_of o.acts)).number) y.pairs);
}

commits-counted : (s : Setting) (m : Meter) → Commits m (interval_counted s m)
commits-counted s m = record { store = grind (arith, common_steps); pairs = tt }

commits-pressed : (s : Setting) (m : Meter) → Commits m (expired_or_pressed s m)
commits-pressed s m = record { store = grind (arith, common_steps); pairs = grind (arith, common_steps) }

commits-roaming : (s : Setting) (m : Meter) → Commits m (roaming_checked s m)
commits-roaming s m = record { store = grind (arith, common_steps); pairs = grind (arith, common_steps) }

commits-shown : (s : Setting) (m : Meter) → Commits m (shown s m)
commits-shown s m = record { store = grind (arith, common_steps); pairs = grind (arith, common_steps) }

commits-begun : (m : Meter) → Commits m (interval_begun m)
commits-begun m = record { store = refl; pairs = tt }

commits-left : (m : Meter) → Commits m (interval_left m)
commits-left m = record { store = grind (arith, common_steps); pairs = tt }

commits-kept : (s : Setting) (trip : Option MeterTrip) (m : Meter) → Commits m (held_or_closed s trip m)
commits-kept s trip m = record { store = grind (arith, common_steps); pairs = grind (arith, common_steps) }

commits-off : (m : Meter) → Commits m (turned_off m)
commits-off m = record { store = refl; pairs = tt }

commits-taken : (s : Setting) (second : ℕ) (hold : Option Trip) (m : Meter) → Commits m (hold_taken s second hold m)
commits-taken s second hold m = record { store = grind (arith, common_steps); pairs = grind (arith, common_steps) }

-- a tick, from its end
abbrev after_roaming : Setting → Meter → Outcome
after_roaming s m = shown s m >>= interval_begun

abbrev after_pressed : Setting → Meter → Outcome
after_pressed s m = roaming_checked s m >>= after_roaming s

abbrev after_counted : Setting → Meter → Outcome
after_counted s m = expired_or_pressed s m >>= after_pressed s

commits-after_roaming : (s : Setting) (m : Meter) → Commits m (after_roaming s m)
commits-after_roaming s m =
    commits-then m (shown s m) interval_begun (commits-shown s m) (commits-begun (shown s m).next)

commits-after_pressed : (s : Setting) (m : Meter) → Commits m (after_pressed s m)
commits-after_pressed s m = commits-then m (roaming_checked s m) (after_roaming s) (commits-roaming s m)
    (commits-after_roaming s (roaming_checked s m).next)

commits-after_counted : (s : Setting) (m : Meter) → Commits m (after_counted s m)
commits-after_counted s m = commits-then m (expired_or_pressed s m) (after_pressed s) (commits-pressed s m)
    (commits-after_pressed s (expired_or_pressed s m).next)

commits-ticked : (s : Setting) (m : Meter) → Commits m (ticked s m)
commits-ticked s m = commits-then m (interval_counted s m) (after_counted s) (commits-counted s m)
    (commits-after_counted s (interval_counted s m).next)

-- a drop, from its end
abbrev after_left : Setting → Meter → Outcome
after_left s m = held_or_closed s m.trip m >>= turned_off

commits-after_left : (s : Setting) (m : Meter) → Commits m (after_left s m)
commits-after_left s m = commits-then m (held_or_closed s m.trip m) turned_off (commits-kept s m.trip m)
    (commits-off (held_or_closed s m.trip m).next)

commits-dropped : (s : Setting) (m : Meter) → Commits m (supply_dropped s m)
commits-dropped s m =
    commits-then m (interval_left m) (after_left s) (commits-left m) (commits-after_left s (interval_left m).next)

commits-came : (s : Setting) (second : ℕ) (m : Meter) → Commits m (supply_came s second m)
commits-came s second m =
    let first = commits-taken s second m.durable.hold (powered second m) in
    let before : Commits m (hold_taken s second m.durable.hold (powered second m)) =
    record { store = first.store; pairs = first.pairs } in
    commits-then m (hold_taken s second m.durable.hold (powered second m)) (shown s) before
    (commits-shown s (hold_taken s second m.durable.hold (powered second m)).next)

commits-powered : (s : Setting) (event : Event) (m : Meter) → Commits m (powered_step s event m)
commits-powered s events.Tick m = commits-ticked s m
commits-powered s events.Down m = commits-dropped s m
commits-powered s (events.Up second) m = record { store = refl; pairs = tt }
commits-powered s (events.Pulses n) m =
    record { store = grind (arith, common_steps); pairs = grind (arith, common_steps) }
commits-powered s (events.Clock second) m =
    record { store = grind (arith, common_steps); pairs = grind (arith, common_steps) }
commits-powered s (events.Key key) m =
    record { store = grind (arith, common_steps); pairs = grind (arith, common_steps) }

commits-in_off : (s : Setting) (event : Event) (m : Meter) → Commits m (off_step s event m)
commits-in_off s (events.Up second) m = commits-came s second m
commits-in_off s event m = record { store = refl; pairs = tt }

commits-in : (s : Setting) (operating : Operating) (event : Event) (m : Meter) → Commits m (step_in s operating event m)
commits-in s Off event m = commits-in_off s event m
commits-in s ForHire event m = commits-powered s event m
commits-in s Hired event m = commits-powered s event m
commits-in s Stopped event m = commits-powered s event m

pub commits-step : (s : Setting) (event : Event) (m : Meter) → Commits m (step s event m)
commits-step s event m = commits-in s m.operating event m

-- a list of events
pub commits-run : (s : Setting) (events : List Event) (m : Meter) → Commits m (run s events m)
commits-run s [] m = record { store = refl; pairs = tt }
commits-run s (event ∷ events) m =
    commits-then m (step s event m) (run s events) (commits-step s event m) (commits-run s events (step s event m).next)

commits-ended_in : (s : Setting) (operating : Operating) (m : Meter) → Commits m (ended_in s operating m)
commits-ended_in s Off m = record { store = refl; pairs = tt }
commits-ended_in s ForHire m = commits-dropped s m
commits-ended_in s Hired m = commits-dropped s m
commits-ended_in s Stopped m = commits-dropped s m

commits-ended : (s : Setting) (m : Meter) → Commits m (ended s m)
commits-ended s m = commits-ended_in s m.operating m

-- a whole run
pub commits-whole : (s : Setting) (durable : Durable) (events : List Event)
    → Commits (opened s durable) (whole_run s durable events)
commits-whole s durable events =
    commits-then (opened s durable) (run s events (opened s durable)) (ended s)
    (commits-run s events (opened s durable)) (commits-ended s (run s events (opened s durable)).next)
