-- Rules: the text of totals.
use Rattle.{std.specs.List.{flat_map, range_with_len}, taxi_units.specs.Number.{money_text}}
use Rattle.std.specs.Prelude.{[], ℕ, ◌++◌, ◌+◌, List, None, Option, Some, codes, decimal, get_or, if◌then◌else◌, nat_lt}
use Rattle.{totals_record.specs.Entries.{no_share}, call_ends.specs.NumberLine.{number_line}}
use Rattle.totals_record.specs.declared.{totals.{Share.{Share}, Totals.{Totals}}, trip.Trip.{Trip}}
use Rattle.store_commands.specs.Common.{Durable}

-- a line of an amount is its name, the amount, in units of its last decimal, and the end
abbrev pub amount_line : (name : List ℕ) → (decimals amount : ℕ) → (end : List ℕ) → List ℕ
amount_line name decimals amount end = name ++ (money_text decimals amount ++ end)

-- the two distances are written as a line each, in metres
abbrev pub distances_text : Totals → List ℕ
distances_text t =
    amount_line (codes "DISTANCE ") 3 t.distance_mm (codes " m\n")
    ++ amount_line (codes "HIRED ") 3 t.hired_mm (codes " m\n")

-- the two sums of money are written as a line each, with the decimals of the seal
abbrev pub money_lines : (decimals : ℕ) → Totals → List ℕ
money_lines decimals t =
    amount_line (codes "SUPPLEMENTS ") decimals t.supplements (codes "\n")
    ++ amount_line (codes "FARE ") decimals t.fare (codes "\n")

-- the number and the five totals are written as a line each
abbrev pub summary_text : (decimals : ℕ) → Durable → List ℕ
summary_text decimals d =
    number_line (codes "NUMBER ") d.number
    ++ (distances_text d.totals ++ (number_line (codes "HIRINGS ") d.totals.hirings ++ money_lines decimals d.totals))

-- the line `HELD` says yes if a trip is held, and else no
abbrev pub held_line : Option Trip → List ℕ
held_line None = codes "HELD no\n"
held_line (Some trip) = codes "HELD yes\n"

-- a share of the totals is written at the end of its line as its hirings and their fare
abbrev pub share_text : (decimals : ℕ) → Share → List ℕ
share_text decimals share = decimal share.hirings ++ (codes " " ++ (money_text decimals share.fare ++ codes "\n"))

-- the heading of totals has the number, the five totals, whether a trip is held, the layout, and what was counted
-- before there were shares
abbrev pub totals_heading : (decimals : ℕ) → Durable → List ℕ
totals_heading decimals d =
    summary_text decimals d
    ++ (held_line d.hold ++ (number_line (codes "LAYOUT ") d.layout
    ++ (codes "BEFORE " ++ share_text decimals d.totals.before)))

-- a tariff position is written as a line of its share, and as nothing if it has no hirings
abbrev pub position_text : (decimals position : ℕ) → Share → List ℕ
position_text decimals position share =
    if nat_lt 0 share.hirings
    then codes "POSITION " ++ (decimal position ++ (codes " " ++ share_text decimals share)) else []

-- the share at a place, counted from 0, is written as the line of the tariff position that is one more than the place
abbrev pub position_at : (decimals : ℕ) → List Share → (place : ℕ) → List ℕ
position_at decimals shares place = position_text decimals (place + 1) (get_or shares place no_share)

-- the tariff positions 1 to 9 are written one after another
abbrev pub positions_text : (decimals : ℕ) → List Share → List ℕ
positions_text decimals shares = flat_map (position_at decimals shares) (range_with_len 0 9)

-- the text of totals is its heading, and then the lines of the tariff positions
abbrev pub totals_text : (decimals : ℕ) → Durable → List ℕ
totals_text decimals d = totals_heading decimals d ++ positions_text decimals d.totals.shares
