-- The printed form of a tariff reads as that tariff.
use Rattle.std.{specs.Fmt.{decimal}, proofs.Common.{arith, codes, inl, inr, length, refl, subst, sym, true}}
use Rattle.{std.specs.Prelude.{⊤}, tariff_syntax.proofs.Shows.{line_feed, shown_word, word_shows}}
use Rattle.std.proofs.Common.{[], ℕ, ◌++◌, ◌+◌, ◌<◌, ◌∙◌, ◌∷◌, ◌≡◌, ◌≤◌, List, None, Option, Some, ap, append_assoc}
use Rattle.tariff_syntax.specs.Common.{Ahead, Behind, Condition, Entry, Line, Part, Rounding, Tree, money_text}
use Rattle.tariff_syntax.specs.{Common.{padded_text, parts_of, word_of}, Printed.{rounding_word}, TextLines.{lines_of}}
use Rattle.tariff_syntax.{specs.IsItem.{AreParts, IsDecimals, IsItem, IsPart, IsWhen}, proofs.ShownConditions.{fits}}
use Rattle.tariff_syntax.specs.Printed.{entry_line, lines_text, number_line, part_text, parts_text, printed_form}
use Rattle.tariff_syntax.{specs.PrintedCondition.{condition_at, condition_text, whole}, proofs.ConditionAgain.{size_is}}
use Rattle.tariff_syntax.specs.{Reads.{AreTextsOfLines, AreTextsOfTariff, Reads}, Spelled.{IsRun, IsSpelled, IsToken}}
use Rattle.tariff_syntax.specs.{Renumbered.{renumbered, renumbered_from}, Token.{Token, figure, is_letter, sign, word}}
use Rattle.tariff_syntax.{specs.Weight.{weight}, proofs.{Ranges.{covers_small}, ShownGrammar.{shown}}}
use Rattle.tariff_syntax.proofs.ShownFigures.{amount_again, amount_small, decimal_text, money_is_text, number_again}
use Rattle.tariff_syntax.proofs.ShownFigures.{number_says, number_small, pair_figure, year_figure, year_shown}
use Rattle.tariff_syntax.proofs.Shows.{AllLetters, IsFigureText, Ready, Shows, blank, comma, figure_shows, letters_test}
use Rattle.tariff_tree.specs.Part as part

-- a word and a blank before it
worded : (w more : List ℕ) (ts : List Token) (texts : List (List ℕ)) → letters_test w ≡ true → Ready more ts texts
    → Ready (32 ∷ (w ++ more)) (word w ∷ ts) texts
worded w more ts texts letters r = blank (w ++ more) (word w ∷ ts) texts (shown_word w more ts texts letters r)

-- a figure and a blank before it
figured : (f more : List ℕ) (ts : List Token) (texts : List (List ℕ)) → IsFigureText f → Ready more ts texts
    → Ready (32 ∷ (f ++ more)) (figure f ∷ ts) texts
figured f more ts texts is r = blank (f ++ more) (figure f ∷ ts) texts (figure_shows f more ts texts is r)

rounding_letters : (r : Rounding) → letters_test (rounding_word r) ≡ true
rounding_letters Behind = refl
rounding_letters Ahead = refl

year_regroup : (y m n : ℕ) (rest : List ℕ)
    → year_figure y m n ++ rest ≡ padded_text 4 y ++ (45 ∷ (padded_text 2 m ++ (45 ∷ (padded_text 2 n ++ rest))))
year_regroup y m n rest =
    append_assoc (padded_text 4 y) (45 ∷ pair_figure 45 m n) rest
    ∙ ap (λ (xs : List ℕ). padded_text 4 y ++ 45 ∷ xs) (append_assoc (padded_text 2 m) (45 ∷ padded_text 2 n) rest)

-- a word has letters, and each of its bytes is one
abbrev HasLetters : Token → Type 0
HasLetters (word w) = (0 < length w) × AllLetters w
HasLetters t = ⊤

abbrev AllHaveLetters : List Token → Type 0
AllHaveLetters [] = ⊤
AllHaveLetters (t ∷ ts) = HasLetters t × AllHaveLetters ts

letters_of_run : (w rest : List ℕ) → IsRun is_letter w rest → AllLetters w
letters_of_run [] rest h = tt
letters_of_run (c ∷ w) rest h = (h.0, letters_of_run w rest h.1)

letters_of : (t : Token) (rest : List ℕ) → IsToken t rest → HasLetters t
letters_of (word w) rest h = (h.0, letters_of_run w rest h.1)
letters_of t rest h = tt

-- so it is with the words of a line
letters_of_line : (text : List ℕ) (ts : List Token) → IsSpelled text ts → AllHaveLetters ts
letters_of_line text [] h = tt
letters_of_line text (t ∷ ts) h = (letters_of t h.1 h.4, letters_of_line h.1 ts h.5)

letters_apart : (xs ys : List Token) → AllHaveLetters (xs ++ ys) → AllHaveLetters xs × AllHaveLetters ys
letters_apart [] ys h = (tt, h)
letters_apart (t ∷ xs) ys h = let more = letters_apart xs ys h.1 in ((h.0, more.0), more.1)

word_shown : (w more : List ℕ) (ts : List Token) (texts : List (List ℕ)) → HasLetters (word w) → Ready more ts texts
    → Shows (w ++ more) (word w ∷ ts) texts
word_shown [] more ts texts h r = absurd (omega (arith, h.0))
word_shown (c ∷ w) more ts texts h r = word_shows c w more ts texts h.1 r

-- a part is shown in front of what follows it
abbrev PartShown : (d : ℕ) → Part → Type 0
PartShown d p = (us : List Token) × IsPart d us p × ((more : List ℕ) (ts : List Token) (texts : List (List ℕ))
    → Ready more ts texts → Ready (part_text d p more) (us ++ ts) texts)

when_shown : (d : ℕ) (when : Option Condition) (ws : List Token) → IsWhen ws when → PartShown d (part.condition when)
unfolding condition_text
when_shown d None ws h = ([], refl, λ more ts texts r. r)
when_shown d (Some c) ws h =
    let is = shown whole c (weight h.0) (fits whole h.0 c h.2) in (
      word (codes "when") ∷ is.used,
      (is.used, refl, is.is, omega (arith, size_is whole is.used c is.is, is.few, size_is whole h.0 c h.2, h.3)),
      λ more ts texts r. worded (codes "when") (32 ∷ condition_at whole c more) (is.used ++ ts) texts refl
          (blank (condition_at whole c more) (is.used ++ ts) texts (is.show more ts texts r)),
    )

part_shown : (d : ℕ) (p : Part) (xs : List Token) → AllHaveLetters xs → IsPart d xs p → PartShown d p
part_shown d (part.name w) xs letters h =
    let has = subst AllHaveLetters h letters in
    (word w ∷ [], refl, λ more ts texts r. blank (w ++ more) (word w ∷ ts) texts (word_shown w more ts texts has.0 r))
part_shown d part.comma xs letters h =
    (sign (codes ",") ∷ [], refl, λ more ts texts r. comma more ts texts r.shows)
part_shown d (part.money n) xs letters h =
    let small = amount_small d h.0 n h.2 in
    let x = money_text d n in (
      figure x ∷ [],
      (x, refl, amount_again d n small),
      λ more ts texts r. figured x more ts texts (money_is_text d n small) r,
    )
part_shown d (part.measure n) xs letters h =
    let small = amount_small 1 h.0 n h.2 in
    let x = money_text 1 n in (
      figure x ∷ [],
      (x, refl, amount_again 1 n small),
      λ more ts texts r. figured x more ts texts (money_is_text 1 n small) r,
    )
part_shown d (part.number least most n) xs letters h =
    let few = number_small least most h.0 n h.2 in
    let x = decimal n in (
      figure x ∷ [],
      (x, refl, number_again least most h.0 n h.2),
      λ more ts texts r. figured x more ts texts (decimal_text n (omega (arith, few))) r,
    )
part_shown d (part.year_date y m n) xs letters h =
    let is = year_shown h.0 y m n h.2 in
    let x = year_figure y m n in (
      figure x ∷ [],
      (x, refl, is.1),
      λ more ts texts r. subst (λ (text : List ℕ). Ready (32 ∷ text) (figure x ∷ ts) texts)
          (year_regroup y m n more) (figured x more ts texts is.0 r),
    )
part_shown d (part.rounding r) xs letters h =
    let w = rounding_word r in
    (word w ∷ [], inr refl, λ more ts texts ready. worded w more ts texts (rounding_letters r) ready)
part_shown d (part.covers n) xs letters h =
    let small = covers_small d xs n h in
    let x = money_text d n in (
      word (codes "covers") ∷ figure x ∷ [],
      inr (x, refl, amount_again d n small),
      λ more ts texts r. worded (codes "covers") (32 ∷ (x ++ more)) (figure x ∷ ts) texts refl
          (figured x more ts texts (money_is_text d n small) r),
    )
part_shown d (part.condition when) xs letters h = when_shown d when xs h

-- the parts of a line are shown, up to its LF
parts_shown : (d : ℕ) (ps : List Part) (ts : List Token) (rest : List ℕ) → AllHaveLetters ts → AreParts d ts ps
    → (us : List Token) × AreParts d us ps × Ready (parts_text d ps (codes "\n" ++ rest)) us (lines_of rest)
parts_shown d [] ts rest letters h = ([], refl, line_feed rest)
parts_shown d (p ∷ ps) ts rest letters h =
    let apart = letters_apart h.0 h.1 (subst AllHaveLetters h.2 letters) in
    let first = part_shown d p h.0 apart.0 h.3 in
    let more = parts_shown d ps h.1 rest apart.1 h.4 in (
      first.0 ++ more.0,
      (first.0, more.0, refl, first.1, more.1),
      first.2 (parts_text d ps (codes "\n" ++ rest)) more.0 (lines_of rest) more.2,
    )

-- a line of an entry is shown
abbrev LineShown : (d : ℕ) → Entry → List ℕ → Type 0
LineShown d e rest = (ts : List Token) × IsItem d ts e × Shows (entry_line d e rest) ts (lines_of rest)

line_shown : (d : ℕ) (x : Entry) (ts : List Token) (rest : List ℕ) → AllHaveLetters ts → IsItem d ts x
    → LineShown d x rest
unfolding entry_line
line_shown d x ts rest letters h =
    let have = subst AllHaveLetters h.1 letters in
    let more = parts_shown d (parts_of x) h.0 rest have.1 h.2 in (
      word (word_of x) ∷ more.0,
      (more.0, refl, more.1),
      word_shown (word_of x) (parts_text d (parts_of x) (codes "\n" ++ rest)) more.0 (lines_of rest) have.0 more.2,
    )

-- each line of a tariff has the form of an entry somewhere, with words of letters
abbrev AllSaid : (d : ℕ) → List Line → Type 0
AllSaid d [] = ⊤
AllSaid d (l ∷ ls) = ((ts : List Token) × AllHaveLetters ts × IsItem d ts l.entry) × AllSaid d ls

said_lines : (d number : ℕ) (texts : List (List ℕ)) (lines : List Line) → AreTextsOfLines d number texts lines
    → AllSaid d lines
said_lines d number [] lines h = subst (AllSaid d) (sym h) tt
said_lines d number (text ∷ texts) lines (inl h) = said_lines d (number + 1) texts lines h.1
said_lines d number (text ∷ texts) lines (inr h) =
    subst (AllSaid d) (sym h.2)
    ((h.3.0, letters_of_line text h.3.0 h.3.1, h.3.2), said_lines d (number + 1) texts h.1 h.4)

-- a tariff that a text says has few decimals, and entries in their forms
said_tariff : (number : ℕ) (texts : List (List ℕ)) (t : Tree) → AreTextsOfTariff number texts t
    → (t.decimals ≤ 3) × AllSaid t.decimals t.lines
said_tariff number [] t h = (omega (arith, h.0), subst (AllSaid t.decimals) (sym h.1) tt)
said_tariff number (text ∷ texts) t (inl h) = said_tariff (number + 1) texts t h.1
said_tariff number (text ∷ texts) t (inr (inl h)) =
    (h.0.2.2.below, said_lines t.decimals (number + 1) texts t.lines h.1)
said_tariff number (text ∷ texts) t (inr (inr h)) = (
  omega (arith, h.1),
  subst (λ (d : ℕ). AllSaid d t.lines) (sym h.1) (said_lines 2 number (text ∷ texts) t.lines h.2),
)

lines_shown : (d number : ℕ) (lines : List Line) → AllSaid d lines
    → AreTextsOfLines d number (lines_of (lines_text d lines)) (renumbered_from number lines)
lines_shown d number [] h = refl
lines_shown d number (l ∷ ls) h =
    let rest = lines_text d ls in
    let is = line_shown d l.entry h.0.0 rest h.0.1 h.0.2 in
    let P : List (List ℕ) → Type 0 = λ texts. AreTextsOfLines d number texts (renumbered_from number (l ∷ ls)) in
    subst P (sym is.2.cut) (inr
    (l.entry, renumbered_from (number + 1) ls, refl, (is.0, is.2.spelled, is.1), lines_shown d (number + 1) ls h.1))

decimals_shown : (d : ℕ) (rest : List ℕ) → d ≤ 3
    → Shows (number_line (codes "decimals ") d rest) (word (codes "decimals") ∷ figure (decimal d) ∷ []) (lines_of rest)
unfolding number_line
decimals_shown d rest few =
    let texts = lines_of rest in
    shown_word (codes "decimals") (32 ∷ (decimal d ++ (codes "\n" ++ rest))) (figure (decimal d) ∷ []) texts refl
    (figured (decimal d) (codes "\n" ++ rest) [] texts (decimal_text d (omega arith)) (line_feed rest))

decimals_say : (d : ℕ) → d ≤ 3 → IsDecimals (word (codes "decimals") ∷ figure (decimal d) ∷ []) d
decimals_say d few = (decimal d, refl, number_says 0 3 d (omega arith) (omega arith) few)

-- the law of printed forms
pub printed_reads_back : (text : List ℕ) (t : Tree) → Reads text t → Reads (printed_form t) (renumbered t)
printed_reads_back text t h =
    let said = said_tariff 1 (lines_of text) t h in
    let rest = lines_text t.decimals t.lines in
    let head = decimals_shown t.decimals rest said.0 in
    let P : List (List ℕ) → Type 0 = λ texts. AreTextsOfTariff 1 texts (renumbered t) in
    subst P (sym head.cut) (inr (inl (
      (word (codes "decimals") ∷ figure (decimal t.decimals) ∷ [], head.spelled, decimals_say t.decimals said.0),
      lines_shown t.decimals 2 t.lines said.1,
    )))
