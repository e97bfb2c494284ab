-- Rules: the bytes of a durable state, which are those of a totals' slot behind its gate, in the order of its table.
use Rattle.{std.specs.List.{flat_map}, drive_modes.specs.declared.meterage.Meterage.{Meterage}}
use Rattle.std.specs.Prelude.{[], ℕ, ◌++◌, ◌==◌, ◌∷◌, List, None, Option, Some, if◌then◌else◌, replicate}
use Rattle.totals_record.specs.{Bytes.{bit, eight, four, sixteen}, Common.{Durable, Share, Totals, Trip}}

-- bytes 1 to 80 of the slot have the number and the five totals
abbrev pub head_bytes : ℕ → Totals → List ℕ
head_bytes number totals =
    eight number
    ++ sixteen totals.distance_mm
    ++ sixteen totals.hired_mm
    ++ eight totals.hirings
    ++ sixteen totals.supplements
    ++ sixteen totals.fare

-- bytes 82 to 120 of the slot have how far a trip has come
abbrev pub course_bytes : Trip → List ℕ
course_bytes trip =
    eight trip.started
    ++ eight trip.saved
    ++ bit trip.stopped ∷ []
    ++ trip.position ∷ []
    ++ trip.zone ∷ []
    ++ four trip.roam
    ++ eight trip.pulses
    ++ four trip.ticks
    ++ four trip.initial

-- bytes 121 to 160 of the slot have what the charges of a trip have come to
abbrev pub meterage_bytes : Meterage → List ℕ
meterage_bytes meterage =
    sixteen meterage.cover_left
    ++ eight meterage.steps_full
    ++ sixteen meterage.rest

-- bytes 82 to 188 of the slot have a held trip
abbrev pub trip_bytes : Trip → List ℕ
trip_bytes trip =
    course_bytes trip
    ++ meterage_bytes trip.meterage
    ++ trip.extras
    ++ eight trip.extras_sum
    ++ four trip.minimum

-- bytes 81 to 188 of the slot have 1 and the held trip, or zeros if none is held
abbrev pub held_bytes : Option Trip → List ℕ
held_bytes None = 0 ∷ [] ++ replicate 107 0
held_bytes (Some trip) = 1 ∷ [] ++ trip_bytes trip

-- a share has eight bytes for its hirings and sixteen for its fare
abbrev pub share_bytes : Share → List ℕ
share_bytes share = eight share.hirings ++ sixteen share.fare

-- bytes 189 to 510 of the slot have zeros in layout 1, and in layout 2 the shares, what was counted before, and zeros
abbrev pub shared_bytes : ℕ → Totals → List ℕ
shared_bytes layout totals =
    if layout == 1 then replicate 322 0
    else flat_map share_bytes totals.shares ++ share_bytes totals.before ++ replicate 82 0

-- bytes 1 to 511 of the slot spell the state, and the last of them is the layout
abbrev pub spelling : Durable → List ℕ
spelling durable =
    head_bytes durable.number durable.totals
    ++ held_bytes durable.hold
    ++ shared_bytes durable.layout durable.totals
    ++ durable.layout ∷ []
