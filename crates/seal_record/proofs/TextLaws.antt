-- Texts are read by their lines, and lines by their parts.
use Rattle.std.{specs.Str.Lines.{strip_carriage_return}, proofs.lemmas.Bool.Decides.{Decides-eqb}}
use Rattle.std.proofs.Common.{[], ℕ, ℤ, ◌++◌, ◌+◌, ◌↔◌, ◌∙◌, ◌∷◌, ◌≡◌, ◌≢◌, ◌⊎◌, Bool, Decides, Err, List, Ok, Result}
use Rattle.std.proofs.Common.{Some, ap, arith, eqb, false, inl, inr, length, refl, subst, sym, true}
use Rattle.{std.proofs.lemmas.List.Elements.{All-cons}, taxi_units.proofs.Laws.{figures_are_read_by_their_digits}}
use Rattle.seal_record.specs.{Common.{IsNumberIn, IsOffsetList, ParamFault, number_in}, Reading.{and_then, lines_read}}
use Rattle.seal_record.specs.{Lines.{key_in, lines_of, value_in}, TextParts.{AreLines, BreaksAt, HasNone, IsParted}}
use Rattle.seal_record.specs.{OffsetList.{is_offset_list, offsets_test}, TextParts.IsParted.{alone, parted}}
use Rattle.seal_record.specs.{ParamLineStages.{line_read}, ParamsSoFar.{ParamsSoFar}, TextParts.AreLines.{ended, last}}
use Rattle.seal_record.{specs.{RangeTests.{taxi_test}, Values.{taxi_read}}, proofs.ParamRanges.{let_through}}
use Rattle.seal_record.specs.Ranges.{IsTaxi}
use Rattle.seal_record.proofs.LineParts.{ended_line, key_alone, key_before, last_line, no_value, value_after}

none_in_nothing : (byte : ℕ) → HasNone byte []
none_in_nothing byte = λ k d lt. absurd (omega arith)

none_in_more : (byte c : ℕ) (cs : List ℕ) → c ≢ byte → HasNone byte cs → HasNone byte (c ∷ cs)
none_in_more byte c cs other none = All-cons (λ b. b ≢ byte) c cs other none

is_or_not : (a b : ℕ) → (a ≡ b) ⊎ (a ≢ b)
is_or_not a b = by (eqb a b) (Decides-eqb a b)
  where
    by : (t : Bool) → Decides t (a ≡ b) → (a ≡ b) ⊎ (a ≢ b)
    by true decides = inl (decides.0 refl)
    by false decides = inr (λ same. let e : false ≡ true = decides.1 same in absurd cc)

-- ---- the lines of a text

lines_are : (text : List ℕ) (lines : List (List ℕ)) → AreLines text lines → lines_of text ≡ lines
lines_are text lines (last line none) = last_line line none
lines_are text lines (ended line rest more none are) =
    ended_line line rest none ∙ ap (λ (ls : List (List ℕ)). strip_carriage_return line ∷ ls) (lines_are rest more are)

-- a byte more in front of the first line
longer : (c : ℕ) (text : List ℕ) (lines : List (List ℕ)) → c ≢ 10 → AreLines text lines
    → (more : List (List ℕ)) × AreLines (c ∷ text) more
longer c text lines other (last line none) = ((c ∷ line) ∷ [], last (c ∷ line) (none_in_more 10 c line other none))
longer c text lines other (ended line rest more none are) =
    (strip_carriage_return (c ∷ line) ∷ more, ended (c ∷ line) rest more (none_in_more 10 c line other none) are)

has_lines_by : (c : ℕ) (text : List ℕ) (lines : List (List ℕ)) → (c ≡ 10) ⊎ (c ≢ 10) → AreLines text lines
    → (more : List (List ℕ)) × AreLines (c ∷ text) more
has_lines_by c text lines (inl same) are = subst (λ (b : ℕ). (more : List (List ℕ)) × AreLines (b ∷ text) more)
    (sym same) (strip_carriage_return [] ∷ lines, ended [] text lines (none_in_nothing 10) are)
has_lines_by c text lines (inr other) are = longer c text lines other are

has_lines : (text : List ℕ) → (lines : List (List ℕ)) × AreLines text lines
has_lines [] = ([] ∷ [], last [] (none_in_nothing 10))
has_lines (c ∷ text) = let there = has_lines text in has_lines_by c text there.0 (is_or_not c 10) there.1

pub lines_make_the_text : (text : List ℕ) (lines : List (List ℕ)) → (lines_of text ≡ lines) ↔ AreLines text lines
lines_make_the_text text lines = (
  λ same. let there = has_lines text in subst (AreLines text) (sym (lines_are text there.0 there.1) ∙ same) there.1,
  lines_are text lines,
)

-- ---- the key and the value of a line

parts_are : (line key value : List ℕ) → IsParted line key value → (key_in line ≡ key) × (value_in line ≡ value)
parts_are line key value (parted k v none) = (key_before k v none, value_after k v none)
parts_are line key value (alone k none) = (key_alone k none, no_value k none)

wider : (c : ℕ) (line key value : List ℕ) → c ≢ 32 → IsParted line key value
    → (more : List ℕ) × ((rest : List ℕ) × IsParted (c ∷ line) more rest)
wider c line key value other (parted k v none) = (c ∷ k, (v, parted (c ∷ k) v (none_in_more 32 c k other none)))
wider c line key value other (alone k none) = (c ∷ k, ([], alone (c ∷ k) (none_in_more 32 c k other none)))

has_parts_by : (c : ℕ) (line key value : List ℕ) → (c ≡ 32) ⊎ (c ≢ 32) → IsParted line key value
    → (more : List ℕ) × ((rest : List ℕ) × IsParted (c ∷ line) more rest)
has_parts_by c line key value (inl same) are = subst (λ (b : ℕ). (more : List ℕ)
    × ((rest : List ℕ) × IsParted (b ∷ line) more rest)) (sym same) ([], (line, parted [] line (none_in_nothing 32)))
has_parts_by c line key value (inr other) are = wider c line key value other are

has_parts : (line : List ℕ) → (key : List ℕ) × ((value : List ℕ) × IsParted line key value)
has_parts [] = ([], ([], alone [] (none_in_nothing 32)))
has_parts (c ∷ line) = let there = has_parts line in has_parts_by c line there.0 there.1.0 (is_or_not c 32) there.1.1

parts_by : (line key value : List ℕ) → (key_in line ≡ key) × (value_in line ≡ value) → IsParted line key value
parts_by line key value same =
    let there = has_parts line in
    let are = parts_are line there.0 there.1.0 there.1.1 in
    subst (λ (k : List ℕ). IsParted line k value) (sym are.0 ∙ same.0)
    (subst (λ (v : List ℕ). IsParted line there.0 v) (sym are.1 ∙ same.1) there.1.1)

pub a_line_is_parted : (line key value : List ℕ) → ((key_in line ≡ key) × (value_in line ≡ value))
    ↔ IsParted line key value
a_line_is_parted line key value = (parts_by line key value, parts_are line key value)

-- ---- numbers

pub empty_of : (xs : List ℕ) → length xs ≡ 0 → xs ≡ []
empty_of [] e = refl
empty_of (x ∷ xs) e = absurd (omega arith)

pub numbers_in_ranges : (low high : ℕ) (text : List ℕ) (n : ℕ) → (number_in low high text ≡ Some n)
    ↔ IsNumberIn low high text n
numbers_in_ranges low high text n = figures_are_read_by_their_digits 1 12 low high text n (omega arith)

-- ---- the first bad line

first_line_by : (said : ParamsSoFar) (number : ℕ) (line : List ℕ) (lines : List (List ℕ)) (fault : ParamFault)
    (r : Result ParamsSoFar ParamFault) → line_read said number line ≡ r
    → ((more : ParamsSoFar) → lines_read more (number + 1) lines ≡ Err fault → BreaksAt more (number + 1) lines fault)
    → and_then r (λ more. lines_read more (number + 1) lines) ≡ Err fault → BreaksAt said number (line ∷ lines) fault
unfolding lines_read
first_line_by said number line lines fault (Err bad) is later e =
    record {
      before = [];
      line = line;
      after = lines;
      so_far = said;
      lines_are = refl;
      good = refl;
      bad = subst (λ (n : ℕ). line_read said n line ≡ Err fault) (omega arith) (is ∙ e);
    }
first_line_by said number line lines fault (Ok more) is later e =
    let there = later more e in
    record {
      before = line ∷ there.before;
      line = there.line;
      after = there.after;
      so_far = there.so_far;
      lines_are = ap (λ (ls : List (List ℕ)). line ∷ ls) there.lines_are;
      good = rw is there.good;
      bad = subst (λ (n : ℕ). line_read there.so_far n there.line ≡ Err fault) (omega arith) there.bad;
    }

breaks_at : (said : ParamsSoFar) (number : ℕ) (lines : List (List ℕ)) (fault : ParamFault)
    → lines_read said number lines ≡ Err fault → BreaksAt said number lines fault
unfolding lines_read
breaks_at said number [] fault e = absurd cc
breaks_at said number (line ∷ lines) fault e = first_line_by said number line lines fault
    (line_read said number line) refl (λ more. breaks_at more (number + 1) lines fault) e

go_on : (r : Result ParamsSoFar ParamFault) (f g : ParamsSoFar → Result ParamsSoFar ParamFault) (so_far : ParamsSoFar)
    (fault : ParamFault) → and_then r f ≡ Ok so_far → ((more : ParamsSoFar) → f more ≡ Ok so_far → g more ≡ Err fault)
    → and_then r g ≡ Err fault
go_on (Err other) f g so_far fault e then = absurd cc
go_on (Ok more) f g so_far fault e then = then more e

past_good : (said so_far : ParamsSoFar) (number : ℕ) (before : List (List ℕ)) (line : List ℕ) (after : List (List ℕ))
    (fault : ParamFault) → lines_read said number before ≡ Ok so_far
    → line_read so_far (number + length before) line ≡ Err fault
    → lines_read said number (before ++ line ∷ after) ≡ Err fault
unfolding lines_read
past_good said so_far number [] line after fault good bad =
    let same : said ≡ so_far = cc in
    let here : line_read said number line ≡ Err fault = subst (λ (s : ParamsSoFar). line_read s number line ≡ Err fault)
    (sym same) (subst (λ (n : ℕ). line_read so_far n line ≡ Err fault) (omega arith) bad) in
    rw here refl
past_good said so_far number (first ∷ before) line after fault good bad =
    go_on (line_read said number first) (λ more. lines_read more (number + 1) before)
    (λ more. lines_read more (number + 1) (before ++ line ∷ after)) so_far fault good
    (λ more e. past_good more so_far (number + 1) before line after fault e
    (subst (λ (n : ℕ). line_read so_far n line ≡ Err fault) (omega arith) bad))

pub the_first_bad_line : (said : ParamsSoFar) (number : ℕ) (lines : List (List ℕ)) (fault : ParamFault)
    → (lines_read said number lines ≡ Err fault) ↔ BreaksAt said number lines fault
the_first_bad_line said number lines fault = (
  breaks_at said number lines fault,
  λ there. ap (lines_read said number) there.lines_are
      ∙ past_good said there.so_far number there.before there.line there.after fault there.good there.bad,
)

-- ---- taxi identifiers, lists of offsets, and seals

pub taxis_are_texts : (text taxi : List ℕ) → (taxi_read text ≡ Some taxi) ↔ (IsTaxi text × (text ≡ taxi))
taxis_are_texts text taxi = (
  λ e. let_through (taxi_test text) text taxi e,
  λ is. rw ((taxi_test text).decides.1 is.0) (ap (λ (t : List ℕ). Some t) is.1),
)

pub lists_so_far : (pairs : List (ℕ × ℤ)) → (is_offset_list pairs ≡ true) ↔ IsOffsetList pairs
lists_so_far pairs = (offsets_test pairs).decides
