-- Rules: what the bytes of a drive mean, by their lines.
use Rattle.std.specs.{List.{position_from}, Prelude.{is_some, length, take_while, unwrap_or}}
use Rattle.std.specs.Prelude.{[], ℕ, ◌++◌, ◌+◌, ◌==◌, List, None, Option, Some, drop, flat_map, if◌then◌else◌, is_none}
use Rattle.drive_text.specs.{Common.{Event}, Lines.{ended_lines, is_too_long, unfinished_line}, declared.run.Run.{Run}}
use Rattle.drive_text.specs.{Fields.{line_runs}, Runs.{run_events}}

-- one answer or else another is the first if there is one, and else the second
abbrev pub or_else : Option ℕ → Option ℕ → Option ℕ
or_else (Some n) other = Some n
or_else None other = other

-- the first bad line of some lines is the first that is no line of a drive, told by its number from 1 on, and there is
-- none if all are good; `line_runs` gives what a line says, as the law lines_give_what_the_table_says has it
abbrev pub first_bad_line : List (List ℕ) → Option ℕ
first_bad_line lines = position_from (λ line. is_none (line_runs line)) 1 lines

-- the runs of lines are those of the good lines before the first bad one, one after another; `line_runs` gives what a
-- line says, as the law lines_give_what_the_table_says has it
abbrev pub runs_of_lines : List (List ℕ) → List Run
runs_of_lines lines =
    flat_map (λ line. unwrap_or (line_runs line) []) (take_while (λ line. is_some (line_runs line)) lines)

-- the first bad line of ended lines and an unfinished one is the first bad ended line, or else the unfinished one, with
-- its number, if it is too long
abbrev pub first_bad_of : List (List ℕ) → List ℕ → Option ℕ
first_bad_of lines unfinished =
    or_else (first_bad_line lines) (if is_too_long unfinished then Some (length lines + 1) else None)

-- the first bad line of the bytes so far is that of their ended lines and of the unfinished one behind the last LF
abbrev pub first_bad : List ℕ → Option ℕ
first_bad bytes = first_bad_of (ended_lines bytes) (unfinished_line bytes)

-- the first bad line of a whole drive is that of its bytes, or else its last line if bytes are behind the last LF
abbrev pub bad_at_end : List ℕ → Option ℕ
bad_at_end bytes =
    or_else (first_bad bytes)
    (if length (unfinished_line bytes) == 0 then None else Some (length (ended_lines bytes) + 1))

-- the runs in bytes are those of their ended lines before the first bad one, and of all of them if none is bad
abbrev pub runs_in : List ℕ → List Run
runs_in bytes = runs_of_lines (ended_lines bytes)

-- the events in bytes are those of the runs in them, in order
abbrev pub events_in : List ℕ → List Event
events_in bytes = flat_map run_events (runs_in bytes)

-- the runs that bytes add to other bytes are those that both together give and the first alone don't
abbrev pub runs_after : List ℕ → List ℕ → List Run
runs_after before bytes = drop (length (runs_in before)) (runs_in (before ++ bytes))
