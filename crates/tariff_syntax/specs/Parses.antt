-- For proofs: what the parser of a whole text answers, by the stages of the code. The law texts_are_parsed_as_they_read
-- says what the answers mean.
use Rattle.std.specs.Prelude.{[], ℕ, ⊤, ◌<◌, ◌∷◌, ◌≡◌, ◌≤◌, Err, List, None, Ok, Option, Result, Some, length, map}
use Rattle.{tariff_tree.specs.declared.tariff.TariffLine.{TariffLine}, tariff_syntax.specs.Parsed.{tree_parsed}}
use Rattle.tariff_syntax.specs.Common.{Line, NoMemory, ParseFault, Syntax, Tariff, TooLong, Tree, line_of, tree_of}
use Rattle.tariff_syntax.specs.{Faults.{ReadsAs}, Items.{item_read}, Token.{Token}}

-- the tokens of a line say an entry
abbrev pub HasEntry : (decimals : ℕ) → List Token → Type 0
HasEntry decimals ts = ReadsAs (λ _. ⊤) (item_read decimals ts)

-- lines are read, and there is at least one, so that memory is asked for
abbrev pub HasLines : Result (List Line) ℕ → Type 0
HasLines (Ok []) = ⊥
HasLines (Ok (line ∷ lines)) = ⊤
HasLines (Err bad) = ⊥

-- the number of the bad line, if one is bad
abbrev pub bad_in : Result (List Line) ℕ → Option ℕ
bad_in (Ok lines) = None
bad_in (Err bad) = Some bad

-- a fault is that of the lines below one for which memory ran out: the first bad line, or else NoMemory
abbrev pub IsFaultBelow : Result (List Line) ℕ → ParseFault → Type 0
IsFaultBelow read TooLong = ⊥
IsFaultBelow read (Syntax line) = bad_in read ≡ Some line
IsFaultBelow read NoMemory = bad_in read ≡ None

-- a fault is that of lines if it names the first bad one, or none is bad and memory ran out for them
abbrev pub IsBadLine : Result (List Line) ℕ → ParseFault → Type 0
IsBadLine read TooLong = ⊥
IsBadLine read (Syntax line) = read ≡ Err line
IsBadLine read NoMemory = HasLines read

-- an answer is that of lines if it has the lines that were read, or their fault
abbrev pub AreRead : Result (List Line) ℕ → Result (List TariffLine) ParseFault → Type 0
AreRead read (Ok lines) = read ≡ Ok (map line_of lines)
AreRead read (Err fault) = IsBadLine read fault

-- a tariff is read that has at least one line
abbrev pub IsFilled : Result Tree ℕ → Type 0
IsFilled (Ok t) = HasLines (Ok t.lines)
IsFilled (Err bad) = ⊥

-- a text is refused as too long above 65,536 bytes, as bad with its first bad line, or because memory ran out for a
-- tariff of at least one line
abbrev pub IsRefusal : List ℕ → ParseFault → Type 0
IsRefusal text TooLong = 65536 < length text
IsRefusal text (Syntax line) = (length text ≤ 65536) × (tree_parsed text ≡ Err line)
IsRefusal text NoMemory = (length text ≤ 65536) × IsFilled (tree_parsed text)

-- an answer is that of a text if it is the text's tariff, or the reason why it is refused
abbrev pub IsAnswer : List ℕ → Result Tariff ParseFault → Type 0
IsAnswer text (Ok t) = (length text ≤ 65536) × (tree_parsed text ≡ Ok (tree_of t))
IsAnswer text (Err fault) = IsRefusal text fault
