-- A text reads as the tariff that is parsed, and its first bad line is the one that is named.
use Rattle.std.proofs.Common.{[], ℕ, ◌+◌, ◌<◌, ◌↔◌, ◌∙◌, ◌∷◌, ◌≡◌, ◌⊎◌, Err, List, None, Ok, Option, Result, Some, ap}
use Rattle.{std.proofs.Common.{arith, codes, inl, inr, length, refl, subst, sym}, tariff_syntax.specs.IsItem.{IsItem}}
use Rattle.tariff_syntax.specs.Common.{Entry, Line, NoMemory, ParseFault, Syntax, Tariff, TooLong, Tree, tree_of}
use Rattle.tariff_syntax.specs.{Items.{decimals_read, item_named, item_read, plain_named}, Token.{Token, figure, word}}
use Rattle.tariff_syntax.specs.Parsed.{entries_read, heading_by, heading_read, put_entry, tree_below, tree_parsed}
use Rattle.tariff_syntax.{specs.Parsed.{tree_with}, proofs.ItemLaws.{decimals_again, decimals_are, item_again, item_is}}
use Rattle.tariff_syntax.{specs.Parses.{HasLines, IsAnswer, IsFilled}, proofs.TokenLaws.{spelled, spelled_alone}}
use Rattle.tariff_syntax.specs.Reads.{AreTextsOfLines, AreTextsOfTariff, FirstBad, FirstBadBelow, IsEmpty}
use Rattle.tariff_syntax.specs.Reads.{IsFirstBadLine, IsLineOfDecimals, IsLineOfEntry, IsParsed, Reads}
use Rattle.tariff_syntax.specs.Spelled.{IsSpelled}
use Rattle.tariff_syntax.specs.{TextLines.{lines_of}, TokenReading.{tokens_of}, Words.{after_word, word_first}}

pub empty_is : (text : List ℕ) → tokens_of text ≡ [] → IsEmpty text
empty_is text e = subst (λ (ts : List Token). IsSpelled text ts) e (spelled text)

pub says_is : (decimals : ℕ) (text : List ℕ) (x : Entry) → item_read decimals (tokens_of text) ≡ Some x
    → IsLineOfEntry decimals text x
says_is decimals text x e = (tokens_of text, spelled text, item_is decimals (tokens_of text) x e)

pub says_again : (decimals : ℕ) (text : List ℕ) (x : Entry) → IsLineOfEntry decimals text x
    → item_read decimals (tokens_of text) ≡ Some x
says_again decimals text x h = ap (item_read decimals) (spelled_alone text h.0 h.1) ∙ item_again decimals h.0 x h.2

pub decimals_is : (text : List ℕ) (n : ℕ) → decimals_read (tokens_of text) ≡ Some n → IsLineOfDecimals text n
decimals_is text n e = (tokens_of text, spelled text, decimals_are (tokens_of text) n e)

pub says_decimals : (text : List ℕ) (n : ℕ) → IsLineOfDecimals text n → decimals_read (tokens_of text) ≡ Some n
says_decimals text n h = ap decimals_read (spelled_alone text h.0 h.1) ∙ decimals_again h.0 n h.2

no_item : (decimals : ℕ) → item_read decimals [] ≡ None
unfolding item_read word_first
no_item decimals = refl

no_decimals : decimals_read [] ≡ None
unfolding decimals_read after_word
no_decimals = refl

-- no entry begins with the word of the decimals
no_entry : (decimals : ℕ) (ts : List Token) → item_read decimals (word (codes "decimals") ∷ ts) ≡ None
unfolding item_read word_first item_named plain_named
no_entry decimals ts = refl

-- so a line that says an entry doesn't say the decimals
item_alone : (decimals : ℕ) (ts : List Token) (x : Entry) → IsItem decimals ts x → decimals_read ts ≡ None
item_alone decimals ts x h = not_said (decimals_read ts) refl
  where
    not_said : (o : Option ℕ) → decimals_read ts ≡ o → o ≡ None
    not_said None e = refl
    not_said (Some n) e =
        let said = decimals_are ts n e in
        let none : item_read decimals ts ≡ None = rw said.1 (no_entry decimals (figure said.0 ∷ [])) in
        let some = item_again decimals ts x h in
        absurd cc

-- a line's number and what it says
abbrev numbered : ℕ → Entry → Line
numbered number x = record { line = number; entry = x }

lines_by : (decimals number : ℕ) (text : List ℕ) (texts : List (List ℕ)) (lines : List Line) → ((more : List Line)
    → entries_read decimals (number + 1) texts ≡ Ok more → AreTextsOfLines decimals (number + 1) texts more)
    → (ts : List Token) → tokens_of text ≡ ts → (read : Option Entry) → item_read decimals (tokens_of text) ≡ read
    → (below : Result (List Line) ℕ) → entries_read decimals (number + 1) texts ≡ below
    → put_entry number ts read below ≡ Ok lines → AreTextsOfLines decimals number (text ∷ texts) lines
lines_by decimals number text texts lines more [] t read r below b e = inl (empty_is text t, more lines (b ∙ e))
lines_by decimals number text texts lines more (x ∷ ts) t None r below b e = absurd cc
lines_by decimals number text texts lines more (x ∷ ts) t (Some y) r (Err bad) b e = absurd cc
lines_by decimals number text texts lines more (x ∷ ts) t (Some y) r (Ok rest) b e =
    let same : numbered number y ∷ rest ≡ lines = cc in
    inr (y, rest, sym same, says_is decimals text y r, more rest b)

lines_say : (decimals number : ℕ) (texts : List (List ℕ)) (lines : List Line)
    → entries_read decimals number texts ≡ Ok lines → AreTextsOfLines decimals number texts lines
unfolding entries_read
lines_say decimals number [] lines e = let same : [] ≡ lines = cc in sym same
lines_say decimals number (text ∷ texts) lines e =
    lines_by decimals number text texts lines (λ more. lines_say decimals (number + 1) texts more) (tokens_of text) refl
    (item_read decimals (tokens_of text)) refl (entries_read decimals (number + 1) texts) refl e

put_empty : (number : ℕ) (ts : List Token) (read : Option Entry) (below : Result (List Line) ℕ) → ts ≡ []
    → put_entry number ts read below ≡ below
put_empty number [] read below e = refl
put_empty number (t ∷ ts) read below e = absurd cc

put_filled : (decimals number : ℕ) (ts : List Token) (x : Entry) (more : List Line) → item_read decimals ts ≡ Some x
    → put_entry number ts (item_read decimals ts) (Ok more) ≡ Ok (numbered number x ∷ more)
put_filled decimals number [] x more e = absurd (let none = no_item decimals in cc)
put_filled decimals number (t ∷ ts) x more e = rw e refl

lines_again : (decimals number : ℕ) (texts : List (List ℕ)) (lines : List Line)
    → AreTextsOfLines decimals number texts lines → entries_read decimals number texts ≡ Ok lines
unfolding entries_read
lines_again decimals number [] lines h = rw h refl
lines_again decimals number (text ∷ texts) lines (inl h) =
    put_empty number (tokens_of text) (item_read decimals (tokens_of text)) (entries_read decimals (number + 1) texts)
    (spelled_alone text [] h.0) ∙ lines_again decimals (number + 1) texts lines h.1
lines_again decimals number (text ∷ texts) lines (inr h) =
    rw (lines_again decimals (number + 1) texts h.1 h.4)
    (put_filled decimals number (tokens_of text) h.0 h.1 (says_again decimals text h.0 h.3) ∙ ap Ok (sym h.2))

bad_by : (decimals number : ℕ) (text : List ℕ) (texts : List (List ℕ)) (bad : ℕ)
    → (entries_read decimals (number + 1) texts ≡ Err bad → FirstBad decimals (number + 1) texts bad)
    → (ts : List Token) → tokens_of text ≡ ts → (read : Option Entry) → item_read decimals (tokens_of text) ≡ read
    → (below : Result (List Line) ℕ) → entries_read decimals (number + 1) texts ≡ below
    → put_entry number ts read below ≡ Err bad → FirstBad decimals number (text ∷ texts) bad
bad_by decimals number text texts bad more [] t read r below b e = inr (inl (empty_is text t), more (b ∙ e))
bad_by decimals number text texts bad more (x ∷ ts) t None r below b e =
    let same : number ≡ bad = cc in
    inl (
      sym same,
      (λ h. let none = spelled_alone text [] h in absurd cc),
      λ y h. let some = says_again decimals text y h in absurd cc,
    )
bad_by decimals number text texts bad more (x ∷ ts) t (Some y) r (Ok rest) b e = absurd cc
bad_by decimals number text texts bad more (x ∷ ts) t (Some y) r (Err worse) b e =
    let same : worse ≡ bad = cc in
    inr (inr (y, says_is decimals text y r), more (b ∙ ap Err same))

bad_is : (decimals number : ℕ) (texts : List (List ℕ)) (bad : ℕ) → entries_read decimals number texts ≡ Err bad
    → FirstBad decimals number texts bad
unfolding entries_read
bad_is decimals number [] bad e = absurd cc
bad_is decimals number (text ∷ texts) bad e =
    bad_by decimals number text texts bad (λ b. bad_is decimals (number + 1) texts bad b) (tokens_of text) refl
    (item_read decimals (tokens_of text)) refl (entries_read decimals (number + 1) texts) refl e

put_bad : (number : ℕ) (ts : List Token) (read : Option Entry) (below : Result (List Line) ℕ) → (ts ≡ [] → ⊥)
    → ((x : Entry) → read ≡ Some x → ⊥) → put_entry number ts read below ≡ Err number
put_bad number [] read below filled none = absurd (filled refl)
put_bad number (t ∷ ts) (Some x) below filled none = absurd (none x refl)
put_bad number (t ∷ ts) None below filled none = refl

put_passes : (decimals number : ℕ) (ts : List Token) (x : Entry) (bad : ℕ) → item_read decimals ts ≡ Some x
    → put_entry number ts (item_read decimals ts) (Err bad) ≡ Err bad
put_passes decimals number [] x bad e = absurd (let none = no_item decimals in cc)
put_passes decimals number (t ∷ ts) x bad e = rw e refl

bad_again : (decimals number : ℕ) (texts : List (List ℕ)) (bad : ℕ) → FirstBad decimals number texts bad
    → entries_read decimals number texts ≡ Err bad
unfolding entries_read
bad_again decimals number [] bad h = absurd h
bad_again decimals number (text ∷ texts) bad (inl h) =
    put_bad number (tokens_of text) (item_read decimals (tokens_of text)) (entries_read decimals (number + 1) texts)
    (λ e. h.1 (empty_is text e)) (λ x e. h.2 x (says_is decimals text x e)) ∙ ap Err (sym h.0)
bad_again decimals number (text ∷ texts) bad (inr (inl empty, h)) =
    put_empty number (tokens_of text) (item_read decimals (tokens_of text)) (entries_read decimals (number + 1) texts)
    (spelled_alone text [] empty) ∙ bad_again decimals (number + 1) texts bad h
bad_again decimals number (text ∷ texts) bad (inr (inr x, h)) =
    rw (bad_again decimals (number + 1) texts bad h)
    (put_passes decimals number (tokens_of text) x.0 bad (says_again decimals text x.0 x.1))

with_is : (decimals : ℕ) (read : Result (List Line) ℕ) (t : Tree) → tree_with decimals read ≡ Ok t
    → (t.decimals ≡ decimals) × (read ≡ Ok t.lines)
with_is decimals (Ok lines) t e =
    let same : record { decimals = decimals; lines = lines } ≡ t = cc in
    (sym (ap (λ (u : Tree). u.decimals) same), ap Ok (ap (λ (u : Tree). u.lines) same))
with_is decimals (Err bad) t e = absurd cc

with_again : (decimals : ℕ) (read : Result (List Line) ℕ) (t : Tree) → t.decimals ≡ decimals → read ≡ Ok t.lines
    → tree_with decimals read ≡ Ok t
with_again decimals read t d e = rw (e, ← d) refl

with_bad : (decimals : ℕ) (read : Result (List Line) ℕ) (bad : ℕ) → tree_with decimals read ≡ Err bad → read ≡ Err bad
with_bad decimals (Ok lines) bad e = absurd cc
with_bad decimals (Err worse) bad e = cc

tariff_by : (number : ℕ) (text : List ℕ) (texts : List (List ℕ)) (t : Tree)
    → (tree_below (heading_read (number + 1) texts) ≡ Ok t → AreTextsOfTariff (number + 1) texts t) → (ts : List Token)
    → tokens_of text ≡ ts → (said : Option ℕ) → decimals_read (tokens_of text) ≡ said
    → tree_below (heading_by number text texts ts said (heading_read (number + 1) texts)) ≡ Ok t
    → AreTextsOfTariff number (text ∷ texts) t
tariff_by number text texts t more [] tokens said s e = inl (empty_is text tokens, more e)
tariff_by number text texts t more (x ∷ ts) tokens (Some n) s e =
    let is = with_is n (entries_read n (number + 1) texts) t e in
    let lines : AreTextsOfLines n (number + 1) texts t.lines = lines_say n (number + 1) texts t.lines is.1 in
    inr (inl (
      subst (IsLineOfDecimals text) (sym is.0) (decimals_is text n s),
      subst (λ (d : ℕ). AreTextsOfLines d (number + 1) texts t.lines) (sym is.0) lines,
    ))
tariff_by number text texts t more (x ∷ ts) tokens None s e =
    let is = with_is 2 (entries_read 2 number (text ∷ texts)) t e in
    inr
    (inr ((λ h. let none = spelled_alone text [] h in absurd cc), is.0, lines_say 2 number (text ∷ texts) t.lines is.1))

tariff_said : (number : ℕ) (texts : List (List ℕ)) (t : Tree) → tree_below (heading_read number texts) ≡ Ok t
    → AreTextsOfTariff number texts t
unfolding heading_read entries_read
tariff_said number [] t e =
    let is = with_is 2 (Ok []) t e in
    let lines : [] ≡ t.lines = cc in
    (is.0, sym lines)
tariff_said number (text ∷ texts) t e =
    tariff_by number text texts t (tariff_said (number + 1) texts t) (tokens_of text) refl
    (decimals_read (tokens_of text)) refl e

pub head_empty : (number : ℕ) (text : List ℕ) (texts : List (List ℕ)) (ts : List Token) (said : Option ℕ)
    (below : ℕ × ℕ × List (List ℕ)) → ts ≡ [] → heading_by number text texts ts said below ≡ below
head_empty number text texts [] said below e = refl
head_empty number text texts (t ∷ ts) said below e = absurd cc

pub head_says : (number : ℕ) (text : List ℕ) (texts : List (List ℕ)) (ts : List Token) (n : ℕ)
    (below : ℕ × ℕ × List (List ℕ)) → decimals_read ts ≡ Some n
    → heading_by number text texts ts (decimals_read ts) below ≡ (n, number + 1, texts)
head_says number text texts [] n below e = absurd (let none = no_decimals in cc)
head_says number text texts (t ∷ ts) n below e = rw e refl

pub head_other : (number : ℕ) (text : List ℕ) (texts : List (List ℕ)) (ts : List Token) (below : ℕ × ℕ × List (List ℕ))
    → (ts ≡ [] → ⊥) → decimals_read ts ≡ None
    → heading_by number text texts ts (decimals_read ts) below ≡ (2, number, text ∷ texts)
head_other number text texts [] below filled e = absurd (filled refl)
head_other number text texts (t ∷ ts) below filled e = rw e refl

says_other : (decimals : ℕ) (text : List ℕ) (x : Entry) → IsLineOfEntry decimals text x
    → decimals_read (tokens_of text) ≡ None
says_other decimals text x h = ap decimals_read (spelled_alone text h.0 h.1) ∙ item_alone decimals h.0 x h.2

tariff_other : (number : ℕ) (text : List ℕ) (texts : List (List ℕ)) (t : Tree) → t.decimals ≡ 2
    → AreTextsOfLines 2 number (text ∷ texts) t.lines → (tokens_of text ≡ [] → ⊥)
    → decimals_read (tokens_of text) ≡ None → tree_below (heading_by number text texts (tokens_of text)
    (decimals_read (tokens_of text)) (heading_read (number + 1) texts)) ≡ Ok t
tariff_other number text texts t d lines filled none =
    rw (head_other number text texts (tokens_of text) (heading_read (number + 1) texts) filled none)
    (with_again 2 (entries_read 2 number (text ∷ texts)) t d (lines_again 2 number (text ∷ texts) t.lines lines))

tariff_again : (number : ℕ) (texts : List (List ℕ)) (t : Tree) → AreTextsOfTariff number texts t
    → tree_below (heading_read number texts) ≡ Ok t
unfolding heading_read
tariff_again number [] t h = with_again 2 (entries_read 2 number []) t h.0 (lines_again 2 number [] t.lines h.1)
tariff_again number (text ∷ texts) t (inl h) =
    ap tree_below (head_empty number text texts (tokens_of text) (decimals_read (tokens_of text))
    (heading_read (number + 1) texts) (spelled_alone text [] h.0)) ∙ tariff_again (number + 1) texts t h.1
tariff_again number (text ∷ texts) t (inr (inl h)) =
    let said = says_decimals text t.decimals h.0 in
    ap tree_below (head_says number text texts (tokens_of text) t.decimals (heading_read (number + 1) texts) said)
    ∙ with_again t.decimals (entries_read t.decimals (number + 1) texts) t refl
    (lines_again t.decimals (number + 1) texts t.lines h.1)
tariff_again number (text ∷ texts) t (inr (inr (filled, d, inl h))) = absurd (filled h.0)
tariff_again number (text ∷ texts) t (inr (inr (filled, d, inr h))) =
    tariff_other number text texts t d (inr h) (λ e. filled (empty_is text e)) (says_other 2 text h.0 h.3)

below_by : (number : ℕ) (text : List ℕ) (texts : List (List ℕ)) (bad : ℕ)
    → (tree_below (heading_read (number + 1) texts) ≡ Err bad → FirstBadBelow (number + 1) texts bad)
    → (ts : List Token) → tokens_of text ≡ ts → (said : Option ℕ) → decimals_read (tokens_of text) ≡ said
    → tree_below (heading_by number text texts ts said (heading_read (number + 1) texts)) ≡ Err bad
    → FirstBadBelow number (text ∷ texts) bad
below_by number text texts bad more [] tokens said s e = inl (empty_is text tokens, more e)
below_by number text texts bad more (x ∷ ts) tokens (Some n) s e =
    inr (inl
    (n, decimals_is text n s, bad_is n (number + 1) texts bad (with_bad n (entries_read n (number + 1) texts) bad e)))
below_by number text texts bad more (x ∷ ts) tokens None s e =
    inr (inr (
      (λ h. let none = spelled_alone text [] h in absurd cc),
      (λ n h. let some = says_decimals text n h in absurd cc),
      bad_is 2 number (text ∷ texts) bad (with_bad 2 (entries_read 2 number (text ∷ texts)) bad e),
    ))

bad_said : (number : ℕ) (texts : List (List ℕ)) (bad : ℕ) → tree_below (heading_read number texts) ≡ Err bad
    → FirstBadBelow number texts bad
unfolding heading_read entries_read
bad_said number [] bad e = absurd cc
bad_said number (text ∷ texts) bad e =
    below_by number text texts bad (bad_said (number + 1) texts bad) (tokens_of text) refl
    (decimals_read (tokens_of text)) refl e

pub none_said : (text : List ℕ) (said : Option ℕ) → decimals_read (tokens_of text) ≡ said
    → ((n : ℕ) → IsLineOfDecimals text n → ⊥) → said ≡ None
none_said text None e h = refl
none_said text (Some n) e h = absurd (h n (decimals_is text n e))

below_again : (number : ℕ) (texts : List (List ℕ)) (bad : ℕ) → FirstBadBelow number texts bad
    → tree_below (heading_read number texts) ≡ Err bad
unfolding heading_read
below_again number [] bad h = absurd h
below_again number (text ∷ texts) bad (inl h) =
    ap tree_below (head_empty number text texts (tokens_of text) (decimals_read (tokens_of text))
    (heading_read (number + 1) texts) (spelled_alone text [] h.0)) ∙ below_again (number + 1) texts bad h.1
below_again number (text ∷ texts) bad (inr (inl h)) =
    ap tree_below (head_says number text texts (tokens_of text) h.0 (heading_read (number + 1) texts)
    (says_decimals text h.0 h.1)) ∙ rw (bad_again h.0 (number + 1) texts bad h.2) refl
below_again number (text ∷ texts) bad (inr (inr h)) =
    let none : decimals_read (tokens_of text) ≡ None = none_said text (decimals_read (tokens_of text)) refl h.1 in
    ap tree_below (head_other number text texts (tokens_of text) (heading_read (number + 1) texts)
    (λ e. h.0 (empty_is text e)) none) ∙ rw (bad_again 2 number (text ∷ texts) bad h.2) refl

-- the laws of texts
pub reads_exactly : (text : List ℕ) (t : Tree) → Reads text t ↔ (tree_parsed text ≡ Ok t)
unfolding tree_parsed
reads_exactly text t = (tariff_again 1 (lines_of text) t, tariff_said 1 (lines_of text) t)

pub first_bad_exactly : (text : List ℕ) (bad : ℕ) → IsFirstBadLine text bad ↔ (tree_parsed text ≡ Err bad)
unfolding tree_parsed
first_bad_exactly text bad = (below_again 1 (lines_of text) bad, bad_said 1 (lines_of text) bad)

found_one : (x y : Tree) (r : Result Tree ℕ) → r ≡ Ok x → r ≡ Ok y → x ≡ y
found_one x y r a b = cc

refused_one : (m n : ℕ) (r : Result Tree ℕ) → r ≡ Err m → r ≡ Err n → m ≡ n
refused_one m n r a b = cc

never_both : (x : Tree) (n : ℕ) (r : Result Tree ℕ) → r ≡ Ok x → r ≡ Err n → ⊥
never_both x n r a b = cc

-- a text reads as one tariff at most
pub reads_one : (text : List ℕ) (t u : Tree) → Reads text t → Reads text u → t ≡ u
reads_one text t u a b = found_one t u (tree_parsed text) ((reads_exactly text t).0 a) ((reads_exactly text u).0 b)

pub bad_one : (text : List ℕ) (line other : ℕ) → IsFirstBadLine text line → IsFirstBadLine text other → line ≡ other
bad_one text line other a b =
    refused_one line other (tree_parsed text) ((first_bad_exactly text line).0 a) ((first_bad_exactly text other).0 b)

pub reads_not_bad : (text : List ℕ) (t : Tree) (line : ℕ) → Reads text t → IsFirstBadLine text line → ⊥
reads_not_bad text t line a b =
    never_both t line (tree_parsed text) ((reads_exactly text t).0 a) ((first_bad_exactly text line).0 b)

either_by : (text : List ℕ) (r : Result Tree ℕ) → tree_parsed text ≡ r
    → ((t : Tree) × Reads text t) ⊎ ((line : ℕ) × IsFirstBadLine text line)
either_by text (Ok t) e = inl (t, (reads_exactly text t).1 e)
either_by text (Err line) e = inr (line, (first_bad_exactly text line).1 e)

-- a text reads as a tariff or has a first bad line
pub reads_or_bad : (text : List ℕ) → ((t : Tree) × Reads text t) ⊎ ((line : ℕ) × IsFirstBadLine text line)
reads_or_bad text = either_by text (tree_parsed text) refl

some_line : (lines : List Line) → HasLines (Ok lines) → 0 < length lines
some_line [] h = absurd h
some_line (line ∷ lines) h = omega arith

filled_by : (text : List ℕ) (r : Result Tree ℕ) → tree_parsed text ≡ r → IsFilled r
    → (t : Tree) × Reads text t × (0 < length t.lines)
filled_by text (Ok t) e h = (t, (reads_exactly text t).1 e, some_line t.lines h)
filled_by text (Err bad) e h = absurd h

-- what the parser answers is said of the text
pub parsed_is : (text : List ℕ) (answer : Result Tariff ParseFault) → IsAnswer text answer → IsParsed text answer
parsed_is text (Ok t) h = (h.0, (reads_exactly text (tree_of t)).1 h.1)
parsed_is text (Err TooLong) h = h
parsed_is text (Err (Syntax line)) h = (h.0, (first_bad_exactly text line).1 h.1)
parsed_is text (Err NoMemory) h = (h.0, filled_by text (tree_parsed text) refl h.1)
