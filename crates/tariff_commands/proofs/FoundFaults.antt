-- What the command `faults` found of a text is what it answers.
use Rattle.std.{specs.{List.{slice_get}, Prelude.{◌⊎◌, IfOk}}, proofs.lemmas.List.{append-nil}}
use Rattle.std.proofs.Common.{[], ℕ, ◌<◌, ◌==◌, ◌∙◌, ◌∷◌, ◌≡◌, ◌≢◌, ◌≤◌, Err, List, Ok, Result, Some, ap, ap₂, arith}
use Rattle.std.proofs.{Common.{false, inr, length, map, refl, sym, ⊎_elim}, lemmas.Bool.{le-ltb, lt-ltb}}
use Rattle.outside.specs.{Reading.{LeavesOthers}, declared.files.Files.{Ghosts as FileGhosts}}
use Rattle.{tariff_tree.specs.declared.tariff.Tariff.{Tariff}, tariff_syntax.specs.BadLines.{bad_lines}}
use Rattle.{tariff_syntax.specs.{Parsed.{tree_parsed}, Reads.{IsParsed}}, call_ends.specs.LastLine.{status_of}}
use Rattle.tariff_syntax.proofs.Laws.{texts_are_parsed_as_they_read-bad_line, texts_are_parsed_as_they_read-tariff}
use Rattle.{tariff_check.proofs.Laws.{all_faults_begin_with_the_first-first}, call_ends.specs.declared.made.Made.{Made}}
use Rattle.call_ends.specs.{Making.{is_plain}, Tariffs.{sound_in}}
use Rattle.call_ends.{specs.Reads.{GoesTo, ReadsWord}, proofs.Laws.{ends_apart, goes-none, goes-on, same_fault}}
use Rattle.tariff_commands.specs.{Check.{check_answer}, declared.faults.Found.{Found, TheVariants.{Faults, Sound}}}
use Rattle.tariff_commands.specs.Common.{Answer, CheckFault, Ended, IsMade, Refusal, Syntax, TextFault, TooLong, Tree}
use Rattle.tariff_commands.specs.Common.{Unsound, all_faults, answer_with, bad_tariff_line, fault_of, shows_line}
use Rattle.tariff_commands.specs.Common.{sound_line, tariff_in, tree_of}
use Rattle.tariff_commands.specs.Faults.{faults_answer, faults_command, faults_in, refusal_lines, refusals_in}
use Rattle.tariff_commands.specs.FaultsSteps.{HasLines, IsFoundIn, IsFoundOf, IsRefusedText, found_end, found_text}
use Rattle.tariff_syntax.specs.declared.parsing.ParseFault.TheVariants as faults
use Rattle.call_ends.specs.declared.tariff.TextFault.TheVariants as texts
use Rattle.call_ends.specs.declared.ending.Ended.TheVariants as ended

-- ---- what a text is refused for

pub refused_long : (text : List ℕ) → 65536 < length text → refusals_in text ≡ TooLong ∷ []
refused_long text long = rw (lt-ltb 65536 (length text) long) refl

pub tariff_long : (text : List ℕ) → 65536 < length text → tariff_in text ≡ Err TooLong
tariff_long text long = rw (lt-ltb 65536 (length text) long) refl

pub refused_bad : (text : List ℕ) (line : ℕ) → length text ≤ 65536 → tree_parsed text ≡ Err line
    → (refusals_in text ≡ map Syntax (bad_lines text)) × (tariff_in text ≡ Err (Syntax line))
refused_bad text line few bad =
    (rw (le-ltb 65536 (length text) few, bad) refl, rw (le-ltb 65536 (length text) few, bad) refl)

pub refused_tree : (text : List ℕ) (t : Tree) → length text ≤ 65536 → tree_parsed text ≡ Ok t
    → (refusals_in text ≡ map Unsound (all_faults t.lines)) × (tariff_in text ≡ sound_in t (fault_of t))
refused_tree text t few read =
    (rw (le-ltb 65536 (length text) few, read) refl, rw (le-ltb 65536 (length text) few, read) refl)

-- ---- what was found

pub long_found : (text lines : List ℕ) → 65536 < length text → lines ≡ bad_tariff_line TooLong
    → IsRefusedText text lines
long_found text lines long are = record {
  why = TooLong;
  refused = tariff_long text long;
  are = are ∙ (sym (append-nil (bad_tariff_line TooLong)) ∙ ap refusal_lines (sym (refused_long text long)));
}

pub bad_found : (text : List ℕ) (line : ℕ) (numbers lines : List ℕ) → length text ≤ 65536
    → tree_parsed text ≡ Err line → numbers ≡ bad_lines text → lines ≡ refusal_lines (map Syntax numbers)
    → IsRefusedText text lines
bad_found text line numbers lines few bad named are = record {
  why = Syntax line;
  refused = (refused_bad text line few bad).1;
  are = are ∙ (ap (λ (ns : List ℕ). refusal_lines (map Syntax ns)) named
      ∙ ap refusal_lines (sym (refused_bad text line few bad).0));
}

-- a text of which the first bad line was told has it
pub bad_parsed : (text : List ℕ) (line : ℕ) → IsParsed text (Err (faults.Syntax line))
    → (length text ≤ 65536) × (tree_parsed text ≡ Err line)
bad_parsed text line h = (h.0, (texts_are_parsed_as_they_read-bad_line text line).0 h.1)

-- what was found of a tariff is found of a text that reads as it
pub tree_found : (text : List ℕ) (t : Tariff) (found : Found) → IsParsed text (Ok t) → IsFoundOf (tree_of t) found
    → IsFoundIn text found
tree_found text t (Sound cells measure) h is =
    let both = refused_tree text (tree_of t) h.0 ((texts_are_parsed_as_they_read-tariff text (tree_of t)).0 h.1) in
    record {
      tree = tree_of t;
      reads = both.1 ∙ ap (sound_in (tree_of t)) is.sound;
      numbers = is.numbers;
    }
tree_found text t (Faults lines) h is =
    let both = refused_tree text (tree_of t) h.0 ((texts_are_parsed_as_they_read-tariff text (tree_of t)).0 h.1) in
    record {
      why = Unsound is.first;
      refused = both.1 ∙ ap (sound_in (tree_of t)) is.unsound;
      are = is.are ∙ ap refusal_lines (sym both.0);
    }

pub tree_found_in : {E : Type 0} (r : Result Found E) (text : List ℕ) (t : Tariff) → IsParsed text (Ok t)
    → IfOk r (IsFoundOf (tree_of t)) → IfOk r (IsFoundIn text)
tree_found_in (Ok found) text t h is = tree_found text t found h is
tree_found_in (Err e) text t h is = tt

-- a tariff with faults has a first one
pub not_none : (faults : List CheckFault) (len : ℕ) → len ≡ length faults → (len == 0) ≡ false → faults ≢ []
not_none [] len is some e = absurd (let never = rw is at some in cc)
not_none (fault ∷ faults) len is some e = absurd cc

some_first : (faults : List CheckFault) → faults ≢ [] → (first : CheckFault) × (slice_get faults 0 ≡ Some first)
some_first [] some = absurd (some refl)
some_first (fault ∷ faults) some = (fault, refl)

pub faults_found : (t : Tree) (faults : List CheckFault) (lines : List ℕ) → faults ≡ all_faults t.lines → faults ≢ []
    → lines ≡ refusal_lines (map Unsound faults) → HasLines t lines
faults_found t faults lines all some are =
    let first = some_first faults some in
    record {
      first = first.0;
      unsound = sym (all_faults_begin_with_the_first-first t)
          ∙ (ap (λ (fs : List CheckFault). slice_get fs 0) (sym all) ∙ first.1);
      are = are ∙ ap (λ (fs : List CheckFault). refusal_lines (map Unsound fs)) all;
    }

-- ---- what the command answers

answer_sound : (text : List ℕ) (t : Tree) → tariff_in text ≡ Ok t → faults_in text ≡ check_answer (Ok t)
answer_sound text t e = ap (faults_answer (refusals_in text)) e

abbrev shows_all : List ℕ → Answer
shows_all lines = record { status = 2; shown = lines; line = [] }

pub answer_refused : (text lines : List ℕ) → IsRefusedText text lines → faults_in text ≡ shows_all lines
answer_refused text lines h = ap (faults_answer (refusals_in text)) h.refused ∙ ap shows_all (sym h.are)

-- what was found of a text is its answer
pub found_made : (text : List ℕ) (found : Found) (made : Made) → IsFoundIn text found
    → made.text.items ≡ found_text found → made.ended ≡ found_end found → IsMade (faults_in text) (Ok made)
found_made text (Sound cells measure) made h text_is end_is = inr (
  answer_sound text h.tree h.reads
      ∙ ap₂ (λ (c m : ℕ). shows_line (sound_line c m)) (sym h.numbers.cells_are) (sym h.numbers.measure_is)
      ∙ ap₂ answer_with (sym text_is) (sym end_is),
  ap (λ (e : Ended). is_plain (status_of e)) end_is,
)
found_made text (Faults lines) made h text_is end_is = inr (
  answer_refused text lines.items h
      ∙ ap₂ answer_with (sym text_is) (sym end_is),
  ap (λ (e : Ended). is_plain (status_of e)) end_is,
)

-- ---- a text that is too long

refused_not : {why : Refusal} → texts.Refused why ≢ texts.ReadFault
refused_not e = absurd cc

-- the word was read, though it is refused
pub goes_long : {E T : Type 0} {F : FileGhosts E} {files files' : E} {result : Result T TextFault} {fault : TextFault}
    {why : Refusal} (image : List ℕ) → LeavesOthers F.rest 1 files files'
    → (result ≢ Err texts.ReadFault → (other : ℕ) → F.faults files' other ≡ F.faults files other)
    → result ≡ Err fault → fault ≡ texts.Refused why → GoesTo F faults_command image F.tells 0 files files'
goes_long {F = F} {files = files} {files' = files'} image others counts is e =
    let read : ReadsWord F {T = Unit {0}} 1 files files' (Err ended.NoMemory) = record {
      ended = λ tells. tt;
      read_fault = λ f. absurd (ends_apart ended.NoMemory ended.ReadFault refl (same_fault _ _ _ refl f));
      others = others;
      counts = λ not. counts (λ f. refused_not (sym e ∙ same_fault _ _ _ is f));
      not_board = λ f. ends_apart ended.NoMemory ended.BoardFault refl (same_fault _ _ _ refl f);
    } in
    goes-on 1 [] (goes-none files) read (omega arith) refl (λ tells. (refl, tt))
    (λ f. ends_apart ended.NoMemory ended.ReadFault refl (same_fault _ _ _ refl f))

pub not_final : (status : ℕ) → status ≡ 2 → (status ≡ 0) ⊎ (status ≡ 11) → ⊥
not_final status e final =
    ⊎_elim (λ (z : status ≡ 0). absurd (omega (arith, e, z))) (λ (z : status ≡ 11). absurd (omega (arith, e, z))) final
