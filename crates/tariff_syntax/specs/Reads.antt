-- Rules: what a text says. It is cut into lines; the first line that has tokens may say the decimals; each further one
-- says an entry.
use Rattle.std.specs.Prelude.{[], ℕ, ◌+◌, ◌<◌, ◌∷◌, ◌≡◌, ◌≤◌, ◌⊎◌, Err, List, Ok, Result, length}
use Rattle.tariff_syntax.specs.Common.{Entry, Line, NoMemory, ParseFault, Syntax, Tariff, TooLong, Tree, tree_of}
use Rattle.tariff_syntax.specs.{IsItem.{IsDecimals, IsItem}, Spelled.{IsSpelled}, TextLines.{lines_of}, Token.{Token}}

-- a line is empty if it has nothing but blanks and perhaps a comment
abbrev pub IsEmpty : List ℕ → Type 0
IsEmpty text = IsSpelled text []

-- a line says the decimals if its tokens do
abbrev pub IsLineOfDecimals : List ℕ → ℕ → Type 0
IsLineOfDecimals text n = (ts : List Token) × IsSpelled text ts × IsDecimals ts n

-- a line says an entry if its tokens do
abbrev pub IsLineOfEntry : (decimals : ℕ) → List ℕ → Entry → Type 0
IsLineOfEntry decimals text entry = (ts : List Token) × IsSpelled text ts × IsItem decimals ts entry

-- texts that are numbered from `number` on say lines if each says the entry of the next line, and has its number, or is
-- empty and passed over
abbrev pub AreTextsOfLines : (decimals number : ℕ) → List (List ℕ) → List Line → Type 0
AreTextsOfLines decimals number [] lines = lines ≡ []
AreTextsOfLines decimals number (text ∷ texts) lines =
    (IsEmpty text × AreTextsOfLines decimals (number + 1) texts lines)
    ⊎ ((entry : Entry) × (more : List Line) × (lines ≡ record { line = number; entry = entry } ∷ more)
    × IsLineOfEntry decimals text entry × AreTextsOfLines decimals (number + 1) texts more)

-- texts that are numbered from `number` on say a tariff if the first that isn't empty says its decimals and the others
-- say its lines, or if all of them say its lines and its decimals are 2
abbrev pub AreTextsOfTariff : (number : ℕ) → List (List ℕ) → Tree → Type 0
AreTextsOfTariff number [] t = (t.decimals ≡ 2) × (t.lines ≡ [])
AreTextsOfTariff number (text ∷ texts) t =
    (IsEmpty text × AreTextsOfTariff (number + 1) texts t)
    ⊎ ((IsLineOfDecimals text t.decimals × AreTextsOfLines t.decimals (number + 1) texts t.lines)
    ⊎ (¬ (IsEmpty text) × (t.decimals ≡ 2) × AreTextsOfLines 2 number (text ∷ texts) t.lines))

-- a text reads as a tariff if its lines, numbered from 1 on, say the tariff
abbrev pub Reads : List ℕ → Tree → Type 0
Reads text t = AreTextsOfTariff 1 (lines_of text) t

-- of texts that are numbered from `number` on the first bad one is numbered `bad`: it isn't empty and says no entry,
-- and each text before it is empty or says an entry
abbrev pub FirstBad : (decimals number : ℕ) → List (List ℕ) → (bad : ℕ) → Type 0
FirstBad decimals number [] bad = ⊥
FirstBad decimals number (text ∷ texts) bad =
    ((bad ≡ number) × ¬ (IsEmpty text) × ((entry : Entry) → ¬ (IsLineOfEntry decimals text entry)))
    ⊎ ((IsEmpty text ⊎ ((entry : Entry) × IsLineOfEntry decimals text entry))
    × FirstBad decimals (number + 1) texts bad)

-- the first bad one of texts that are numbered from `number` on is numbered `bad`, under the decimals that the first
-- text that isn't empty says, or under 2 if it says none
abbrev pub FirstBadBelow : (number : ℕ) → List (List ℕ) → (bad : ℕ) → Type 0
FirstBadBelow number [] bad = ⊥
FirstBadBelow number (text ∷ texts) bad =
    (IsEmpty text × FirstBadBelow (number + 1) texts bad)
    ⊎ (((decimals : ℕ) × IsLineOfDecimals text decimals × FirstBad decimals (number + 1) texts bad)
    ⊎ (¬ (IsEmpty text) × ((decimals : ℕ) → ¬ (IsLineOfDecimals text decimals)) × FirstBad 2 number (text ∷ texts) bad))

-- a text's first bad line is the first bad one of its lines, numbered from 1 on
abbrev pub IsFirstBadLine : List ℕ → (bad : ℕ) → Type 0
IsFirstBadLine text bad = FirstBadBelow 1 (lines_of text) bad

-- a text is refused as too long above 65,536 bytes, as bad with its first bad line, or because memory ran out for a
-- tariff of at least one line
abbrev pub IsRefused : List ℕ → ParseFault → Type 0
IsRefused text TooLong = 65536 < length text
IsRefused text (Syntax line) = (length text ≤ 65536) × IsFirstBadLine text line
IsRefused text NoMemory = (length text ≤ 65536) × ((t : Tree) × Reads text t × (0 < length t.lines))

-- a text is parsed as the tariff that it reads as, if it has at most 65,536 bytes, or refused
abbrev pub IsParsed : List ℕ → Result Tariff ParseFault → Type 0
IsParsed text (Ok t) = (length text ≤ 65536) × Reads text (tree_of t)
IsParsed text (Err fault) = IsRefused text fault
