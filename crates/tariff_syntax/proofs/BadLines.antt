-- The lines of a text that are named as bad are those that have no form.
use Rattle.std.{specs.List.{AllPairs, Contains, slice_get}, proofs.lemmas.List.Elements.{All-cons, All-nil, All-weaker}}
use Rattle.std.proofs.Common.{[], ℕ, ◌+◌, ◌<◌, ◌↔◌, ◌∙◌, ◌∷◌, ◌≡◌, ◌≤◌, ◌⊎◌, All, Bool, Err, List, None, Ok, Option}
use Rattle.std.proofs.Common.{Result, Some, ap, arith, false, if◌then◌else◌, inl, inr, refl, subst, suc, sym, true}
use Rattle.tariff_syntax.specs.{BadLines.{bad_below, bad_from, bad_lines, is_bad}, Items.{decimals_read, item_read}}
use Rattle.tariff_syntax.specs.{Common.{Entry, Line, Tree}, Reads.{IsFirstBadLine, Reads}, TokenReading.{tokens_of}}
use Rattle.tariff_syntax.specs.{Formless.{HasFormless, HasFormlessBelow, HasNoForm, IsFormless}, TextLines.{lines_of}}
use Rattle.tariff_syntax.specs.Parsed.{entries_read, heading_by, heading_read, put_entry, tree_parsed, tree_with}
use Rattle.tariff_syntax.{specs.Parses.{bad_in}, proofs.{NumberLaws.{pairs_cons}, TokenLaws.{spelled_alone}}}
use Rattle.tariff_syntax.specs.Token.{Token}
use Rattle.tariff_syntax.proofs.ReadsLaws.{decimals_is, empty_is, first_bad_exactly, head_empty, head_other, head_says}
use Rattle.tariff_syntax.proofs.ReadsLaws.{none_said, reads_exactly, says_again, says_decimals, says_is}

-- ---- one line

formless_by : (decimals : ℕ) (text : List ℕ) (ts : List Token) → tokens_of text ≡ ts → (read : Option Entry)
    → item_read decimals (tokens_of text) ≡ read → is_bad decimals ts ≡ true → IsFormless decimals text
formless_by decimals text [] t read r e = absurd cc
formless_by decimals text (x ∷ ts) t (Some y) r e =
    let said : item_read decimals (x ∷ ts) ≡ Some y = ap (item_read decimals) (sym t) ∙ r in
    let never = rw said at e in
    absurd cc
formless_by decimals text (x ∷ ts) t None r e = record {
  filled = λ h. let none = spelled_alone text [] h in absurd cc;
  says_none = λ y h. let some = says_again decimals text y h in absurd cc;
}

formed_by : (decimals : ℕ) (text : List ℕ) (ts : List Token) → tokens_of text ≡ ts → (read : Option Entry)
    → item_read decimals (tokens_of text) ≡ read → is_bad decimals ts ≡ false → IsFormless decimals text → ⊥
formed_by decimals text [] t read r e h = h.filled (empty_is text t)
formed_by decimals text (x ∷ ts) t (Some y) r e h = h.says_none y (says_is decimals text y r)
formed_by decimals text (x ∷ ts) t None r e h =
    let said : item_read decimals (x ∷ ts) ≡ None = ap (item_read decimals) (sym t) ∙ r in
    let never = rw said at e in
    absurd cc

formless : (decimals : ℕ) (text : List ℕ) → is_bad decimals (tokens_of text) ≡ true → IsFormless decimals text
formless decimals text = formless_by decimals text (tokens_of text) refl (item_read decimals (tokens_of text)) refl

formed : (decimals : ℕ) (text : List ℕ) → is_bad decimals (tokens_of text) ≡ false → IsFormless decimals text → ⊥
formed decimals text = formed_by decimals text (tokens_of text) refl (item_read decimals (tokens_of text)) refl

-- ---- each line that is named has no form

each_by : (decimals number : ℕ) (text : List ℕ) (texts : List (List ℕ)) (rest : List ℕ) (b : Bool)
    → is_bad decimals (tokens_of text) ≡ b → All (HasFormless decimals number (text ∷ texts)) rest
    → All (HasFormless decimals number (text ∷ texts)) (if b then number ∷ rest else rest)
each_by decimals number text texts rest true e h =
    All-cons (HasFormless decimals number (text ∷ texts)) number rest (inl (refl, formless decimals text e)) h
each_by decimals number text texts rest false e h = h

each_formless : (decimals number : ℕ) (texts : List (List ℕ))
    → All (HasFormless decimals number texts) (bad_from decimals number texts)
each_formless decimals number [] = All-nil (HasFormless decimals number [])
each_formless decimals number (text ∷ texts) =
    each_by decimals number text texts (bad_from decimals (number + 1) texts) (is_bad decimals (tokens_of text)) refl
    (All-weaker (HasFormless decimals (number + 1) texts) (HasFormless decimals number (text ∷ texts))
    (λ line h. inr h) (bad_from decimals (number + 1) texts) (each_formless decimals (number + 1) texts))

below_by : (number : ℕ) (text : List ℕ) (texts : List (List ℕ))
    → All (HasFormlessBelow (number + 1) texts) (bad_below (heading_read (number + 1) texts)) → (ts : List Token)
    → tokens_of text ≡ ts → (said : Option ℕ) → decimals_read (tokens_of text) ≡ said
    → All (HasFormlessBelow number (text ∷ texts))
    (bad_below (heading_by number text texts ts said (heading_read (number + 1) texts)))
below_by number text texts more [] t said s =
    All-weaker (HasFormlessBelow (number + 1) texts) (HasFormlessBelow number (text ∷ texts))
    (λ line h. inl (empty_is text t, h)) (bad_below (heading_read (number + 1) texts)) more
below_by number text texts more (x ∷ ts) t (Some n) s =
    All-weaker (HasFormless n (number + 1) texts) (HasFormlessBelow number (text ∷ texts))
    (λ line h. inr (inl (n, decimals_is text n s, h))) (bad_from n (number + 1) texts)
    (each_formless n (number + 1) texts)
below_by number text texts more (x ∷ ts) t None s =
    All-weaker (HasFormless 2 number (text ∷ texts)) (HasFormlessBelow number (text ∷ texts))
    (λ line h. inr (inr (
      (λ empty. let none = spelled_alone text [] empty in absurd cc),
      (λ n is. let some = says_decimals text n is in absurd cc),
      h,
    ))) (bad_from 2 number (text ∷ texts)) (each_formless 2 number (text ∷ texts))

below_formless : (number : ℕ) (texts : List (List ℕ))
    → All (HasFormlessBelow number texts) (bad_below (heading_read number texts))
unfolding heading_read
below_formless number [] = All-nil (HasFormlessBelow number [])
below_formless number (text ∷ texts) =
    below_by number text texts (below_formless (number + 1) texts) (tokens_of text) refl
    (decimals_read (tokens_of text)) refl

-- ---- each line that has no form is named

contains_first : (n : ℕ) (ns : List ℕ) → Contains (n ∷ ns) n
contains_first n ns = (0, omega arith, refl)

contains_behind : (n : ℕ) (ns : List ℕ) (line : ℕ) → Contains ns line → Contains (n ∷ ns) line
contains_behind n ns line h = (suc h.0, omega (arith, h.1), h.2)

named_by : (decimals number : ℕ) (text : List ℕ) (rest : List ℕ) (line : ℕ) (b : Bool)
    → is_bad decimals (tokens_of text) ≡ b → ((line ≡ number) × IsFormless decimals text) ⊎ Contains rest line
    → Contains (if b then number ∷ rest else rest) line
named_by decimals number text rest line true e (inl h) =
    subst (λ (n : ℕ). Contains (number ∷ rest) n) (sym h.0) (contains_first number rest)
named_by decimals number text rest line true e (inr h) = contains_behind number rest line h
named_by decimals number text rest line false e (inl h) = absurd (formed decimals text e h.1)
named_by decimals number text rest line false e (inr h) = h

each_named : (decimals number : ℕ) (texts : List (List ℕ)) (line : ℕ) → HasFormless decimals number texts line
    → Contains (bad_from decimals number texts) line
each_named decimals number [] line h = absurd h
each_named decimals number (text ∷ texts) line (inl h) =
    named_by decimals number text (bad_from decimals (number + 1) texts) line (is_bad decimals (tokens_of text)) refl
    (inl h)
each_named decimals number (text ∷ texts) line (inr h) =
    named_by decimals number text (bad_from decimals (number + 1) texts) line (is_bad decimals (tokens_of text)) refl
    (inr (each_named decimals (number + 1) texts line h))

abbrev Names : (line : ℕ) → ℕ × ℕ × List (List ℕ) → Type 0
Names line heading = Contains (bad_below heading) line

below_named : (number : ℕ) (texts : List (List ℕ)) (line : ℕ) → HasFormlessBelow number texts line
    → Names line (heading_read number texts)
unfolding heading_read
below_named number [] line h = absurd h
below_named number (text ∷ texts) line (inl h) =
    subst (Names line) (sym (head_empty number text texts (tokens_of text) (decimals_read (tokens_of text))
    (heading_read (number + 1) texts) (spelled_alone text [] h.0))) (below_named (number + 1) texts line h.1)
below_named number (text ∷ texts) line (inr (inl h)) =
    subst (Names line) (sym (head_says number text texts (tokens_of text) h.0 (heading_read (number + 1) texts)
    (says_decimals text h.0 h.1))) (each_named h.0 (number + 1) texts line h.2)
below_named number (text ∷ texts) line (inr (inr h)) =
    let none : decimals_read (tokens_of text) ≡ None = none_said text (decimals_read (tokens_of text)) refl h.1 in
    subst (Names line) (sym (head_other number text texts (tokens_of text) (heading_read (number + 1) texts)
    (λ e. h.0 (empty_is text e)) none)) (each_named 2 number (text ∷ texts) line h.2)

-- ---- in order

abbrev IsFrom : (number : ℕ) → ℕ → Type 0
IsFrom number n = number ≤ n

abbrev IsBefore : ℕ → ℕ → Type 0
IsBefore a b = a < b

-- from a number on, each greater than those before it
abbrev Rises : (number : ℕ) → List ℕ → Type 0
Rises number ns = All (IsFrom number) ns × AllPairs IsBefore ns

rises_by : (number : ℕ) (rest : List ℕ) (b : Bool) → Rises (number + 1) rest
    → Rises number (if b then number ∷ rest else rest)
rises_by number rest true h = (
  All-cons (IsFrom number) number rest (omega arith)
      (All-weaker (IsFrom (number + 1)) (IsFrom number) (λ n later. omega arith) rest h.0),
  pairs_cons IsBefore number rest
      (All-weaker (IsFrom (number + 1)) (IsBefore number) (λ n later. omega arith) rest h.0) h.1,
)
rises_by number rest false h =
    (All-weaker (IsFrom (number + 1)) (IsFrom number) (λ n later. omega arith) rest h.0, h.1)

rises : (decimals number : ℕ) (texts : List (List ℕ)) → Rises number (bad_from decimals number texts)
rises decimals number [] = (All-nil (IsFrom number), λ i j d less within. absurd (omega arith))
rises decimals number (text ∷ texts) =
    rises_by number (bad_from decimals (number + 1) texts) (is_bad decimals (tokens_of text))
    (rises decimals (number + 1) texts)

-- ---- the first of them

first_by : (decimals number : ℕ) (ts : List Token) (read : Option Entry) → item_read decimals ts ≡ read
    → (rest : List ℕ) (below : Result (List Line) ℕ) → slice_get rest 0 ≡ bad_in below
    → slice_get (if is_bad decimals ts then number ∷ rest else rest) 0 ≡ bad_in (put_entry number ts read below)
first_by decimals number [] read r rest below h = h
first_by decimals number (t ∷ ts) None r rest below h = rw r refl
first_by decimals number (t ∷ ts) (Some x) r rest (Ok lines) h = rw r h
first_by decimals number (t ∷ ts) (Some x) r rest (Err bad) h = rw r h

first_from : (decimals number : ℕ) (texts : List (List ℕ))
    → slice_get (bad_from decimals number texts) 0 ≡ bad_in (entries_read decimals number texts)
unfolding entries_read
first_from decimals number [] = refl
first_from decimals number (text ∷ texts) =
    first_by decimals number (tokens_of text) (item_read decimals (tokens_of text)) refl
    (bad_from decimals (number + 1) texts) (entries_read decimals (number + 1) texts)
    (first_from decimals (number + 1) texts)

-- the bad line of a tariff that wasn't read is that of its lines
tree_bad : (decimals : ℕ) (read : Result (List Line) ℕ) (line : ℕ)
    → (tree_with decimals read ≡ Err line) ↔ (bad_in read ≡ Some line)
tree_bad decimals (Ok lines) line = ((λ e. absurd cc), λ e. absurd cc)
tree_bad decimals (Err bad) line = ((λ e. cc), λ e. cc)

tree_good : (decimals : ℕ) (read : Result (List Line) ℕ) → bad_in read ≡ None
    → (t : Tree) × (tree_with decimals read ≡ Ok t)
tree_good decimals (Ok lines) e = (record { decimals = decimals; lines = lines }, refl)
tree_good decimals (Err bad) e = absurd cc

none_bad : (decimals : ℕ) (read : Result (List Line) ℕ) (t : Tree) → tree_with decimals read ≡ Ok t
    → bad_in read ≡ None
none_bad decimals (Ok lines) t e = refl
none_bad decimals (Err bad) t e = absurd cc

none_first : (ns : List ℕ) → slice_get ns 0 ≡ None → ns ≡ []
none_first [] e = refl
none_first (n ∷ ns) e = absurd cc

-- ---- the law of bad lines

pub named_are_formless : (text : List ℕ) → All (HasNoForm text) (bad_lines text)
unfolding bad_lines
named_are_formless text = below_formless 1 (lines_of text)

pub formless_are_named : (text : List ℕ) (line : ℕ) → HasNoForm text line → Contains (bad_lines text) line
unfolding bad_lines
formless_are_named text line h = below_named 1 (lines_of text) line h

pub named_in_order : (text : List ℕ) → AllPairs (λ (above below : ℕ). above < below) (bad_lines text)
unfolding bad_lines
named_in_order text =
    let heading = heading_read 1 (lines_of text) in
    (rises heading.0 heading.1 heading.2).1

pub first_named : (text : List ℕ) (line : ℕ)
    → IsFirstBadLine text line ↔ (slice_get (bad_lines text) 0 ≡ Some line)
unfolding bad_lines tree_parsed
first_named text line =
    let heading = heading_read 1 (lines_of text) in
    let read = entries_read heading.0 heading.1 heading.2 in
    let first = first_from heading.0 heading.1 heading.2 in
    let bad = tree_bad heading.0 read line in
    let exactly = first_bad_exactly text line in
    ((λ h. first ∙ bad.0 (exactly.0 h)), λ e. exactly.1 (bad.1 (sym first ∙ e)))

pub none_named : (text : List ℕ) → (bad_lines text ≡ []) ↔ ((t : Tree) × Reads text t)
unfolding bad_lines tree_parsed
none_named text =
    let heading = heading_read 1 (lines_of text) in
    let read = entries_read heading.0 heading.1 heading.2 in
    let first = first_from heading.0 heading.1 heading.2 in (
      (λ e. let good = tree_good heading.0 read (sym first ∙ ap (λ (ns : List ℕ). slice_get ns 0) e) in
          (good.0, (reads_exactly text good.0).1 good.1)),
      λ h. none_first (bad_lines text)
          (first ∙ none_bad heading.0 read h.0 ((reads_exactly text h.0).0 h.1)),
    )
