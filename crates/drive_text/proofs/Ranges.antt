-- The runs of a line are in the ranges of a drive.
use Rattle.{std.specs.Str.Lines.{strip_carriage_return}, drive_text.proofs.Table.{line_runs-table, plain_keys_are_read}}
use Rattle.std.proofs.{Common.{[], ℕ, ◌∷◌, ◌≡◌, All, List, Some}, lemmas.List.Elements.{All-cons, All-nil}}
use Rattle.drive_text.specs.{Fields.{line_runs}, Ranges.{IsRunInRange}, Table.{Means}, declared.run.Run.{Run}}
use Rattle.drive_text.specs.Table.Means.{clock, comment, empty, extra, intervals, plain, position, pulses, up, zone}

one : (run : Run) → IsRunInRange run → All IsRunInRange (run ∷ [])
one run h = All-cons IsRunInRange run [] h (All-nil IsRunInRange)

means_in_range : (text : List ℕ) (runs : List Run) → Means text runs → All IsRunInRange runs
means_in_range text runs empty = All-nil IsRunInRange
means_in_range text runs (comment more) = All-nil IsRunInRange
means_in_range text runs (up s digits h) = one _ (h.above, h.below)
means_in_range text runs (clock s digits h) = one _ (h.above, h.below)
means_in_range text runs (pulses p digits h) = one _ (h.above, h.below)
means_in_range text runs (intervals p n first second h k) = one _ (h.below, k.above, k.below)
means_in_range text runs (plain k among) = one _ (plain_keys_are_read k among).0
means_in_range text runs (position n digits h) = one _ h.below
means_in_range text runs (zone n digits h) = one _ h.below
means_in_range text runs (extra n digits h) = one _ h.below
means_in_range text runs line = one _ tt

pub runs_in_range : (line : List ℕ) (runs : List Run) → line_runs line ≡ Some runs → All IsRunInRange runs
runs_in_range line runs e = means_in_range (strip_carriage_return line) runs ((line_runs-table line runs).0 e)
