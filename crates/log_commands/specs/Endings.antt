-- Rules: what status and what last line belong to each end of the program.
use Rattle.std.specs.Prelude.{[], ℕ, ◌++◌, List, codes, decimal}
use Rattle.log_commands.specs.Common.{BadLog, BadWords, BoardFault, BrokenLog, Ended, FileEnd, Filed, Listed, OtherTaxi}
use Rattle.log_commands.specs.{Common.{ReadFault, Shown, TooLong}, declared.finding.FindFault.{FindFault}}
use Rattle.log_commands.specs.declared.file_roll.FileEnd.TheVariants as ends
use Rattle.log_commands.specs.declared.finding.FindFault.TheVariants as faults

-- the status of an end of the program is 0 if receipts were filed or listed or the log was shown, and another number
-- for each other end
abbrev pub status_of : Ended → ℕ
status_of (Filed count) = 0
status_of Shown = 0
status_of Listed = 0
status_of BadWords = 1
status_of (BadLog slot) = 2
status_of BrokenLog = 3
status_of (OtherTaxi place) = 4
status_of TooLong = 5
status_of ReadFault = 7
status_of BoardFault = 8

-- a numbered line is a word, a number in decimal digits, and LF
abbrev pub numbered : List ℕ → ℕ → List ℕ
numbered word number = word ++ (decimal number ++ codes "\n")

-- the last line of an end of the program says in words and numbers how the call ended, and is empty if the log was
-- shown, the receipts were listed or the board failed
abbrev pub line_of : Ended → List ℕ
line_of (Filed count) = numbered (codes "FILED ") count
line_of Shown = []
line_of Listed = []
line_of BadWords = codes "BAD WORDS\n"
line_of (BadLog slot) = numbered (codes "BAD LOG ") slot
line_of BrokenLog = codes "BROKEN LOG\n"
line_of (OtherTaxi place) = numbered (codes "OTHER TAXI ") place
line_of TooLong = codes "ROLL TOO LONG\n"
line_of ReadFault = codes "READ FAULT\n"
line_of BoardFault = []

-- if no end of its log is found, a call ends with the lowest bad slot, with a broken log, or with a fault of the board
abbrev pub unread_end : FindFault → Ended
unread_end (faults.BadSlot slot) = BadLog slot
unread_end faults.Broken = BrokenLog
unread_end faults.LogFault = BoardFault

-- a call that files a roll ends as its filing does: with the number of the filed receipts, at a receipt of another
-- taxi, with a roll that is too long, or with a read that failed
abbrev pub filing_end : FileEnd → Ended
filing_end (ends.Filed count) = Filed count
filing_end (ends.OtherTaxi place) = OtherTaxi place
filing_end ends.TooLong = TooLong
filing_end ends.ReadFault = ReadFault
