use Rattle.std.{specs.List.{range_with_len}, proofs.Common.{◌-◌, ◌≡◌, find}}
use Rattle.tariff_compare.specs.{Searches.{context_count, context_of, is_found}, Sides.{is_met_by}}
use Rattle.tariff_compare.proofs.search.in_grid.Given as goal

abbrev pub invariant-loop-number : goal.invariant-loop-number
invariant-loop-number l =
    find (λ number. is_found (is_met_by l.one l.other l.question) (context_of l.grid number))
    (range_with_len l.number (context_count l.grid - l.number))
    ≡ find (λ number. is_found (is_met_by l.one l.other l.question) (context_of l.grid number))
    (range_with_len 0 (context_count l.grid))
