-- Rules: the text by which hirings are explained.
use Rattle.std.specs.Prelude.{[], ℕ, ◌*◌, ◌++◌, ◌+◌, ◌/◌, ◌==◌, ◌∷◌, List, None, Option, Some, codes, decimal, flat_map}
use Rattle.std.specs.Prelude.{if◌then◌else◌}
use Rattle.{taxi_units.specs.declared.receipt.{Kind.{Kind}, Receipt.{Receipt}}, meter_model.specs.Setting.{unit_of}}
use Rattle.{drive_modes.specs.Distance.{millimetres_of}, receipt_text.specs.Receipts.{total_text}}
use Rattle.receipt_text.specs.Receipts.{calculation_text, course_text, fare_text, kind_text, supplements_text}
use Rattle.verify_bench.specs.{TripExplanations.{Explanation}, declared.explained.{Group.{Group}, Taken.{Taken}}}
use Rattle.verify_bench.specs.declared.explained.{Sums.{Sums}, Way.{Way}}
use Rattle.verify_bench.specs.declared.{explained.Way.TheVariants.{Both, Distance, Time}, fees.HiringFees.{HiringFees}}
use Rattle.bench_commands.specs.{Common.{Setting, money_text}, declared.explained_lines.Scale.{Scale}}

-- a setting is written by the decimals of its tariff, by its constant, and by the units of charge in the smallest unit
-- of money
abbrev pub scale_of : Setting → Scale
scale_of s = record { decimals = s.tariff.decimals; constant = s.constant; unit = unit_of s }

-- ---- amounts

-- the distance of pulses is written in metres
abbrev pub distance_text : Scale → (pulses : ℕ) → List ℕ
distance_text scale pulses = money_text 3 (millimetres_of scale.constant pulses) ++ codes " m"

-- ticks are written in seconds
abbrev pub duration_text : (ticks : ℕ) → List ℕ
duration_text ticks = money_text 1 ticks ++ codes " s"

-- what intervals come to is written by the distance of their pulses and by their ticks
unfoldable pub span_text : Scale → Sums → List ℕ
span_text scale sums = distance_text scale sums.pulses ++ (codes " " ++ duration_text sums.ticks)

-- a charge is written as money, cut off at four decimals more than the tariff has, and then exactly, in units of charge
unfoldable pub charge_text : Scale → (charge : ℕ) → List ℕ
charge_text scale charge =
    money_text (scale.decimals + 4) (charge * 10000 / scale.unit) ++ (codes " " ++ decimal charge)

-- ---- lines

-- the title of a hiring is a line of its number, counted from 1, and of how it ended
unfoldable pub title_text : (number : ℕ) → Kind → List ℕ
title_text number kind = codes "HIRING " ++ (decimal number ++ (codes " " ++ (kind_text kind ++ codes "\n")))

-- a hiring is headed by its title and the course of its trip, with the trip's time
unfoldable pub explained_heading : (number : ℕ) → Receipt → (ticks : ℕ) → List ℕ
explained_heading number receipt ticks =
    title_text number receipt.kind
    ++ (course_text receipt ++ (codes " " ++ (duration_text ticks ++ codes "\n")))

-- the line of the initial hire fee has the number of the fee's line in the tariff, its amount, and what it covers
unfoldable pub fee_text : (decimals line amount covers : ℕ) → List ℕ
fee_text decimals line amount covers =
    codes "FEE " ++ (decimal line ++ (codes " " ++ (money_text decimals amount ++ (codes " "
    ++ (money_text decimals covers ++ codes "\n")))))

-- a minimum fare of a line of the tariff is written with the line's number, and as nothing if it is 0
abbrev pub minimum_in : (decimals line amount : ℕ) → List ℕ
minimum_in decimals line amount =
    if amount == 0 then []
    else codes "MINIMUM " ++ (decimal line ++ (codes " " ++ (money_text decimals amount ++ codes "\n")))

-- a minimum fare is written with the number of its line, and there is none without a line
unfoldable pub minimum_text : (decimals : ℕ) → Option ℕ → (amount : ℕ) → List ℕ
minimum_text decimals None amount = []
minimum_text decimals (Some line) amount = minimum_in decimals line amount

-- a way is written as a word
abbrev pub way_text : Way → List ℕ
way_text Distance = codes "DISTANCE"
way_text Time = codes "TIME"
way_text Both = codes "BOTH"

-- the line of a group has the number of the rate's line in the tariff, the way, and what the intervals come to
unfoldable pub rate_text : Scale → Group → List ℕ
rate_text scale group =
    codes "RATE " ++ (decimal group.line ++ (codes " " ++ (way_text group.way ++ (codes " "
    ++ (span_text scale group.sums ++ (codes " " ++ (charge_text scale group.sums.charge ++ codes "\n")))))))

-- the line of the intervals in Stopped has what they come to, and is absent if there are none
unfoldable pub stopped_text : Scale → Sums → List ℕ
stopped_text scale sums = if sums.ticks == 0 then [] else codes "STOPPED " ++ (span_text scale sums ++ codes "\n")

-- the line of the pulses that drops of the supply left has their distance, and is absent if there are none
unfoldable pub dropped_text : Scale → (pulses : ℕ) → List ℕ
dropped_text scale pulses =
    if pulses == 0 then [] else codes "DROPPED " ++ (distance_text scale pulses ++ codes "\n")

-- the line of all charges has their sum, and behind it the units of charge in the smallest unit of money
unfoldable pub charged_text : Scale → (charge : ℕ) → List ℕ
charged_text scale charge =
    codes "CHARGED " ++ (charge_text scale charge ++ (codes " / " ++ (decimal scale.unit ++ codes "\n")))

-- the line of a supplement has its number, how often it was taken, and what it costs each time
unfoldable pub taken_text : (decimals : ℕ) → Taken → List ℕ
taken_text decimals taken =
    codes "SUPPLEMENT " ++ (decimal taken.number ++ (codes " " ++ (decimal taken.count ++ (codes " x "
    ++ (money_text decimals taken.amount ++ codes "\n")))))

-- ---- hirings

-- the fees of a hiring are written with their lines, and with the amounts that are on its receipt
unfoldable pub fees_text : (decimals : ℕ) → HiringFees → Receipt → List ℕ
fees_text decimals fees receipt =
    fee_text decimals fees.initial_line receipt.initial fees.amounts.covers
    ++ minimum_text decimals fees.minimum_line receipt.minimum

-- behind the groups stand what was free, the sum of all charges, and how the receipt makes the fare of it
unfoldable pub sum_text : Scale → Explanation → Receipt → List ℕ
sum_text scale e receipt =
    stopped_text scale e.stopped
    ++ (dropped_text scale e.dropped
    ++ (charged_text scale e.whole.charge
    ++ (calculation_text receipt ++ fare_text receipt)))

-- a receipt is written with the decimals of the tariff
abbrev pub scaled_receipt : Scale → Explanation → Receipt
scaled_receipt scale e = record e.receipt { decimals = scale.decimals }

-- a hiring is explained by its heading, its fees, a line for each group, the sum, a line for each supplement that was
-- taken, and the last lines of its receipt
unfoldable pub hiring_text : Scale → (number : ℕ) → Explanation → List ℕ
hiring_text scale number e =
    explained_heading number e.receipt e.whole.ticks
    ++ (fees_text scale.decimals e.fees e.receipt
    ++ (flat_map (rate_text scale) e.groups
    ++ (sum_text scale e (scaled_receipt scale e)
    ++ (flat_map (taken_text scale.decimals) e.taken
    ++ (supplements_text (scaled_receipt scale e) ++ total_text (scaled_receipt scale e))))))

-- texts stand one behind the other, the first with a number and each further one with the next
unfoldable pub numbered_texts : {A : Type 0} → (text : (number : ℕ) → A → List ℕ) → (number : ℕ) → List A → List ℕ
numbered_texts text number [] = []
numbered_texts text number (x ∷ xs) = text number x ++ numbered_texts text (number + 1) xs

-- the hirings of a drive are explained under its setting, and numbered from 1
abbrev pub explanations_text : Setting → List Explanation → List ℕ
explanations_text s es = numbered_texts (hiring_text (scale_of s)) 1 es
