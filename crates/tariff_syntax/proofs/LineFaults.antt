-- Lines below one that memory ran out for.
use Rattle.{std.{specs.Bool.{⊤}, proofs.Common.{subst, sym}}, tariff_syntax.specs.Faults.{ReadsAs}}
use Rattle.std.proofs.Common.{[], ℕ, ◌++◌, ◌+◌, ◌∙◌, ◌∷◌, ◌≡◌, Err, List, None, Ok, Option, Result, Some, ap, refl}
use Rattle.tariff_syntax.specs.{Common.{Entry, Line, NoMemory, ParseFault, Syntax, TooLong}, Words.{word_first}}
use Rattle.tariff_syntax.specs.{Items.{item_read}, Parsed.{before, entries_read, line_read, put_entry}, Token.{Token}}
use Rattle.tariff_syntax.specs.{Parses.{HasEntry, HasLines, IsBadLine, IsFaultBelow, bad_in}, TokenReading.{tokens_of}}

-- lines that end with others have what is bad in these, or are lines
abbrev pub EndsWith : (below whole : Result (List Line) ℕ) → Type 0
EndsWith (Ok lines) whole = HasLines whole
EndsWith (Err bad) whole = whole ≡ Err bad

has_lines : (above : List Line) (line : Line) (below : List Line) → HasLines (Ok (above ++ line ∷ below))
has_lines [] line below = tt
has_lines (first ∷ above) line below = tt

no_item : (decimals : ℕ) → item_read decimals [] ≡ None
unfolding item_read word_first
no_item decimals = refl

ends_by : (number : ℕ) (above : List Line) (ts : List Token) (read : Option Entry) (below : Result (List Line) ℕ)
    → (ts ≡ [] → read ≡ None) → ReadsAs (λ _. ⊤) read → EndsWith below (before above (put_entry number ts read below))
ends_by number above [] read below none h = absurd (subst (ReadsAs (λ _. ⊤)) (none refl) h)
ends_by number above (t ∷ ts) None below none h = absurd h
ends_by number above (t ∷ ts) (Some entry) (Ok lines) none h =
    has_lines above (record { line = number; entry = entry }) lines
ends_by number above (t ∷ ts) (Some entry) (Err bad) none h = refl

none_of : (decimals : ℕ) (ts : List Token) → ts ≡ [] → item_read decimals ts ≡ None
none_of decimals ts e = rw e (no_item decimals)

-- a line that has an entry is followed by what stands below it
ends_with : (decimals number : ℕ) (above : List Line) (text : List ℕ) (below : Result (List Line) ℕ)
    → HasEntry decimals (tokens_of text) → EndsWith below (before above (line_read decimals number text below))
ends_with decimals number above text below h = ends_by number above (tokens_of text)
    (item_read decimals (tokens_of text)) below (none_of decimals (tokens_of text)) h

bad_below : (below whole : Result (List Line) ℕ) (bad : ℕ) → EndsWith below whole → bad_in below ≡ Some bad
    → whole ≡ Err bad
bad_below (Ok lines) whole bad h e = absurd cc
bad_below (Err found) whole bad h e = cc

none_bad_below : (below whole : Result (List Line) ℕ) → EndsWith below whole → bad_in below ≡ None → HasLines whole
none_bad_below (Ok lines) whole h e = h
none_bad_below (Err found) whole h e = absurd cc

fault_of_whole : (below whole : Result (List Line) ℕ) (fault : ParseFault) → EndsWith below whole
    → IsFaultBelow below fault → IsBadLine whole fault
fault_of_whole below whole TooLong h f = f
fault_of_whole below whole (Syntax line) h f = bad_below below whole line h f
fault_of_whole below whole NoMemory h f = none_bad_below below whole h f

-- why there is no tariff below a line that has an entry is why there is none
pub fault_is : (decimals number : ℕ) (above : List Line) (text : List ℕ) (texts all : List (List ℕ))
    (whole : Result (List Line) ℕ) (fault : ParseFault) → all ≡ text ∷ texts
    → before above (entries_read decimals number all) ≡ whole → HasEntry decimals (tokens_of text)
    → IsFaultBelow (entries_read decimals (number + 1) texts) fault → IsBadLine whole fault
unfolding entries_read
fault_is decimals number above text texts all whole fault cut e h f =
    let below = entries_read decimals (number + 1) texts in
    let same : before above (line_read decimals number text below) ≡ whole =
    ap (λ (ls : List (List ℕ)). before above (entries_read decimals number ls)) (sym cut) ∙ e in
    fault_of_whole below whole fault (subst (EndsWith below) same (ends_with decimals number above text below h)) f
