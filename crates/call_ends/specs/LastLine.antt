-- Rules: the statuses of the program, and their last lines.
use Rattle.std.specs.Prelude.{[], ℕ, ◌++◌, List, codes, decimal}
use Rattle.{offset_rules.specs.declared.fault.RuleFault.{RuleFault}, receipt_text.specs.Receipts.{hex_text}}
use Rattle.seal_record.specs.declared.params.{Name.{Name}, ParamFault.{ParamFault}}
use Rattle.{tariff_check.specs.declared.fault.Dimension.{Dimension}, call_ends.specs.Answer.{Answer, refuses}}
use Rattle.call_ends.specs.Common.{BadTariff, BoardFault, CheckFault, Done, Ended, NoMemory, ReadFault, Refusal, Syntax}
use Rattle.call_ends.specs.{Common.{TooLong, Unsound}, declared.ending.Ended.TheVariants.{TripHeld, WrongTariff}}
use Rattle.call_ends.specs.NumberLine.{number_line}
use Rattle.call_ends.specs.declared.ending.Ended.TheVariants.{BadBook, BadDrive, BadFrame, BadOther, BadParams}
use Rattle.call_ends.specs.declared.ending.Ended.TheVariants.{BadReadings, BadRules, BadSlot, BadTrip, BadWords}
use Rattle.call_ends.specs.declared.ending.Ended.TheVariants.{Different, EndlessDrive, EndlessRequests, Faulty}
use Rattle.call_ends.specs.declared.ending.Ended.TheVariants.{LongBook, LongReadings, NotPassed, NotSealed}
use Rattle.call_ends.specs.declared.ending.Ended.TheVariants.{OtherDecimals, SameNumber, SealEnded, Sealed, Sound}
use Rattle.offset_rules.specs.declared.fault.RuleFault.TheVariants as rules
use Rattle.seal_record.specs.declared.params.Name.TheVariants as names
use Rattle.seal_record.specs.declared.params.ParamFault.TheVariants as params
use Rattle.tariff_check.specs.declared.fault.Dimension.TheVariants as dimensions
use Rattle.tariff_check.specs.declared.fault.CheckFault.TheVariants as faults

-- the last line of words that are no command
abbrev pub bad_words_line : List ℕ
bad_words_line = codes "BAD WORDS\n"

-- the last line of a sound tariff says how many cells it has, and its common measure
abbrev pub sound_line : (cells measure : ℕ) → List ℕ
sound_line cells measure =
    codes "OK CELLS " ++ (decimal cells ++ (codes " MEASURE " ++ (decimal measure ++ codes "\n")))

-- a numbered text is a name, a blank and a number in decimal digits
abbrev pub numbered : (name : List ℕ) → ℕ → List ℕ
numbered name number = name ++ (codes " " ++ decimal number)

-- a dimension of which a tariff has too many cuts is written as its name
abbrev pub dimension_text : Dimension → List ℕ
dimension_text dimensions.MonthDay = codes "MonthDay"
dimension_text dimensions.Minute = codes "Minute"
dimension_text dimensions.Distance = codes "Distance"
dimension_text dimensions.Time = codes "Time"

-- the text of a fault of a tariff is its name and its numbers; no tariff has the fault `NoMemory`, which says that
-- memory ran out
abbrev pub fault_text : CheckFault → List ℕ
fault_text faults.NoStep = codes "NoStep"
fault_text faults.StepZero = codes "StepZero"
fault_text (faults.Duplicate line) = numbered (codes "Duplicate") line
fault_text (faults.TooManyLines line) = numbered (codes "TooManyLines") line
fault_text (faults.UnknownNumber line) = numbered (codes "UnknownNumber") line
fault_text faults.NoDefaultRate = codes "NoDefaultRate"
fault_text faults.NoDefaultInitial = codes "NoDefaultInitial"
fault_text (faults.LineAfterDefault line) = numbered (codes "LineAfterDefault") line
fault_text (faults.BadDate line) = numbered (codes "BadDate") line
fault_text (faults.AmountTooBig line) = numbered (codes "AmountTooBig") line
fault_text (faults.MeasureZero line) = numbered (codes "MeasureZero") line
fault_text faults.NoCommonMeasure = codes "NoCommonMeasure"
fault_text (faults.TooManyCuts dimension count) = codes "TooManyCuts " ++ numbered (dimension_text dimension) count
fault_text (faults.TooManyCells count) = numbered (codes "TooManyCells") count
fault_text faults.NoMemory = codes "NoMemory"

-- the text of a refusal of a tariff is `TooLong`, `Syntax` with the number of the first bad line, or that of the fault
abbrev pub refusal_text : Refusal → List ℕ
refusal_text TooLong = codes "TooLong"
refusal_text (Syntax line) = numbered (codes "Syntax") line
refusal_text (Unsound fault) = fault_text fault

-- the last line of a tariff that isn't accepted has the text of the refusal
abbrev pub bad_tariff_line : Refusal → List ℕ
bad_tariff_line why = codes "BAD TARIFF " ++ (refusal_text why ++ codes "\n")

-- the last line of the other one of two tariffs, if it isn't accepted, has the text of the refusal
abbrev pub bad_other_line : Refusal → List ℕ
bad_other_line why = codes "BAD OTHER " ++ (refusal_text why ++ codes "\n")

-- the last line of a drive that has a bad line has the number of the first one
abbrev pub bad_drive_line : ℕ → List ℕ
bad_drive_line line = number_line (codes "BAD DRIVE ") line

-- the last line of a store with an open slot whose body isn't read has the number of the slot
abbrev pub bad_slot_line : ℕ → List ℕ
bad_slot_line slot = number_line (codes "BAD STORE ") slot

-- the last line of a store with two bodies of one number has the numbers of their slots
abbrev pub same_number_line : ℕ → ℕ → List ℕ
same_number_line first second = codes "BAD STORE " ++ (decimal first ++ (codes " " ++ (decimal second ++ codes "\n")))

-- the last line of decimals that differ has those of the found seal and those of the tariff
abbrev pub other_decimals_line : (found own : ℕ) → List ℕ
other_decimals_line found own = codes "OTHER DECIMALS " ++ (decimal found ++ (codes " " ++ (decimal own ++ codes "\n")))

-- the last line of a tariff that isn't the sealed one has the sealed digest and its own, in hexadecimal digits
abbrev pub wrong_tariff_line : (digest own : List ℕ) → List ℕ
wrong_tariff_line digest own = codes "WRONG TARIFF " ++ (hex_text digest ++ (codes " " ++ (hex_text own ++ codes "\n")))

-- a parameter is written in a last line as its name
abbrev pub name_text : Name → List ℕ
name_text names.Taxi = codes "Taxi"
name_text names.Constant = codes "Constant"
name_text names.Mode = codes "Mode"
name_text names.Hold = codes "Hold"
name_text names.Offset = codes "Offset"
name_text names.Secured = codes "Secured"

-- the text of a fault of parameters is its name, and its line or the name of the parameter, if it has one
abbrev pub param_fault_text : ParamFault → List ℕ
param_fault_text params.TooLong = codes "TooLong"
param_fault_text (params.Unknown line) = numbered (codes "Unknown") line
param_fault_text (params.BadValue line) = numbered (codes "BadValue") line
param_fault_text (params.Twice name) = codes "Twice " ++ name_text name
param_fault_text (params.Missing name) = codes "Missing " ++ name_text name

-- the last line of parameters that aren't accepted has the text of their fault
abbrev pub bad_params_line : ParamFault → List ℕ
bad_params_line fault = codes "BAD PARAMS " ++ (param_fault_text fault ++ codes "\n")

-- the last line of a store that was sealed has the number of the new seal
abbrev pub sealed_line : ℕ → List ℕ
sealed_line number = number_line (codes "SEALED ") number

-- the last line of bad requests has the place of the first bad byte
abbrev pub bad_frame_line : ℕ → List ℕ
bad_frame_line place = number_line (codes "BAD FRAME ") place

-- the last line of requests that have no end within the bytes that they may have
abbrev pub endless_requests_line : List ℕ
endless_requests_line = codes "BAD FRAME TOO LONG\n"

-- the last line of bad readings has the number of the first row that is no row of readings
abbrev pub bad_readings_line : ℕ → List ℕ
bad_readings_line row = number_line (codes "BAD READINGS ") row

-- the last line of readings that have more bytes than they may have
abbrev pub long_readings_line : List ℕ
long_readings_line = codes "BAD READINGS TOO LONG\n"

-- the last line of rules of offsets that aren't accepted has the reason, and the number of the first bad line, if there
-- is one
abbrev pub bad_rules_line : RuleFault → List ℕ
bad_rules_line rules.TooLong = codes "BAD RULES TooLong\n"
bad_rules_line (rules.BadLine line) = number_line (codes "BAD RULES BadLine ") line
bad_rules_line rules.SameMonth = codes "BAD RULES SameMonth\n"

-- the last line of a book that has more bytes than it may have
abbrev pub long_book_line : List ℕ
long_book_line = codes "BAD BOOK TOO LONG\n"

-- the last line of a bad book has the number of the first line that is no mark that may follow
abbrev pub bad_book_line : ℕ → List ℕ
bad_book_line line = number_line (codes "BAD BOOK ") line

-- the last line of a drive that has no end within the bytes that it may have
abbrev pub endless_drive_line : List ℕ
endless_drive_line = codes "BAD DRIVE TOO LONG\n"

-- the last line of a call in which a read failed
abbrev pub read_fault_line : List ℕ
read_fault_line = codes "READ FAULT\n"

-- the last line of a call for which there was no memory
abbrev pub no_memory_line : List ℕ
no_memory_line = codes "NO MEMORY\n"

-- the status of an end
abbrev pub status_of : Ended → ℕ
status_of Done = 0
status_of (Sound cells measure) = 0
status_of BadWords = 1
status_of (BadTariff why) = 2
status_of (BadOther why) = 2
status_of NotSealed = 4
status_of (BadSlot slot) = 5
status_of (SameNumber first second) = 5
status_of BadTrip = 5
status_of (WrongTariff digest own) = 6
status_of TripHeld = 13
status_of SealEnded = 14
status_of (OtherDecimals found own) = 15
status_of (BadParams fault) = 9
status_of (Sealed number) = 0
status_of (BadFrame place) = 16
status_of EndlessRequests = 16
status_of (BadReadings row) = 10
status_of LongReadings = 10
status_of NotPassed = 11
status_of Different = 11
status_of Faulty = 2
status_of (BadRules fault) = 17
status_of LongBook = 18
status_of (BadBook line) = 18
status_of (BadDrive line) = 3
status_of EndlessDrive = 3
status_of ReadFault = 7
status_of BoardFault = 8
status_of NoMemory = 12

-- the last line of an end, which is empty if the output was printed before, or the board failed
abbrev pub line_of : Ended → List ℕ
line_of Done = []
line_of (Sound cells measure) = sound_line cells measure
line_of BadWords = bad_words_line
line_of (BadTariff why) = bad_tariff_line why
line_of (BadOther why) = bad_other_line why
line_of NotSealed = codes "NOT SEALED\n"
line_of (BadSlot slot) = bad_slot_line slot
line_of (SameNumber first second) = same_number_line first second
line_of BadTrip = codes "BAD STORE TRIP\n"
line_of (WrongTariff digest own) = wrong_tariff_line digest own
line_of TripHeld = codes "TRIP HELD\n"
line_of SealEnded = codes "SEAL ENDED\n"
line_of (OtherDecimals found own) = other_decimals_line found own
line_of (BadParams fault) = bad_params_line fault
line_of (Sealed number) = sealed_line number
line_of (BadFrame place) = bad_frame_line place
line_of EndlessRequests = endless_requests_line
line_of (BadReadings row) = bad_readings_line row
line_of LongReadings = long_readings_line
line_of NotPassed = []
line_of Different = []
line_of Faulty = []
line_of (BadRules fault) = bad_rules_line fault
line_of LongBook = long_book_line
line_of (BadBook line) = bad_book_line line
line_of (BadDrive line) = bad_drive_line line
line_of EndlessDrive = endless_drive_line
line_of ReadFault = read_fault_line
line_of BoardFault = []
line_of NoMemory = no_memory_line

-- the answer of a command that is refused has the status and the last line of its end, and shows nothing else
abbrev pub refused_as : Ended → Answer
refused_as ended = refuses (status_of ended) (line_of ended)
