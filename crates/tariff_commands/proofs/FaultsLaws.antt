-- What the command `faults` answers begins with the answer of `check`.
use Rattle.std.{specs.List.{Contains, slice_get, slice_index_or}, proofs.lemmas.Bool.{ltb-false, ltb-true}}
use Rattle.std.{specs.Prelude.{nat_lt}, proofs.Common.{Some, ap, arith, false, length, map, refl, suc, sym, true, zero}}
use Rattle.std.proofs.Common.{[], ℕ, ◌++◌, ◌<◌, ◌↔◌, ◌∙◌, ◌∷◌, ◌≡◌, ◌≤◌, Bool, Err, List, None, Ok, Option, Result}
use Rattle.std.proofs.lemmas.List.{append-nil, get_or-map, length-map, Elements.{All-contains}}
use Rattle.tariff_syntax.specs.{BadLines.{bad_lines}, Formless.{HasNoForm}, Parsed.{tree_parsed}}
use Rattle.tariff_syntax.proofs.Laws.{bad_lines_have_no_form-each, bad_lines_have_no_form-first}
use Rattle.tariff_syntax.proofs.Laws.{bad_lines_have_no_form-named, bad_lines_have_no_form-none}
use Rattle.tariff_syntax.proofs.Laws.{texts_are_parsed_as_they_read-bad_line, texts_are_parsed_as_they_read-tariff}
use Rattle.{tariff_check.proofs.Laws.{all_faults_begin_with_the_first-first}, call_ends.specs.Tariffs.{sound_in}}
use Rattle.tariff_commands.specs.{Check.{check_answer}, Faults.{faults_answer, faults_in, refusal_lines, refusals_in}}
use Rattle.tariff_commands.specs.Common.{Answer, CheckFault, HasTariff, Refusal, Syntax, TooLong, Tree, Unsound}
use Rattle.tariff_commands.specs.Common.{all_faults, bad_tariff_line, fault_of, tariff_in}
use Rattle.tariff_commands.proofs.FoundFaults.{refused_bad, refused_long, refused_tree, tariff_long}

-- ---- the first refusal is that of `check`

-- a text is too long, has a bad line, or reads as a tariff
data Kind (text : List ℕ) : Type 0 where
  long : 65536 < length text → Kind text
  bad : length text ≤ 65536 → (line : ℕ) → tree_parsed text ≡ Err line → Kind text
  tree : length text ≤ 65536 → (t : Tree) → tree_parsed text ≡ Ok t → Kind text

kind_by : (text : List ℕ) (read : Result Tree ℕ) → tree_parsed text ≡ read → length text ≤ 65536 → Kind text
kind_by text (Ok t) e few = tree few t e
kind_by text (Err line) e few = bad few line e

kind_of : (text : List ℕ) (is_long : Bool) → nat_lt 65536 (length text) ≡ is_long → Kind text
kind_of text true e = long (omega (arith, ltb-true 65536 (length text) e))
kind_of text false e = kind_by text (tree_parsed text) refl (omega (arith, ltb-false 65536 (length text) e))

kind : (text : List ℕ) → Kind text
kind text = kind_of text (nat_lt 65536 (length text)) refl

-- the first of some refusals, and whether there is a tariff, go together
record Agrees (whys : List Refusal) (read : Result Tree Refusal) : Type 0 where
  refused : (why : Refusal) → read ≡ Err why → (rest : List Refusal) × (whys ≡ why ∷ rest)
  sound : (t : Tree) → read ≡ Ok t → whys ≡ []

front : {A : Type 0} (xs : List A) (x : A) → slice_get xs 0 ≡ Some x → (rest : List A) × (xs ≡ x ∷ rest)
front [] x e = absurd cc
front (y ∷ ys) x e = (ys, (let same : y ≡ x = cc in ap (λ (z : _). z ∷ ys) same))

agrees_long : Agrees (TooLong ∷ []) (Err TooLong)
agrees_long = record {
  refused = λ why e. ([], (let same : TooLong ≡ why = cc in ap (λ (z : Refusal). z ∷ []) same));
  sound = λ t e. absurd cc;
}

agrees_bad : (numbers : List ℕ) (line : ℕ) → slice_get numbers 0 ≡ Some line
    → Agrees (map Syntax numbers) (Err (Syntax line))
agrees_bad numbers line first = record {
  refused = λ why e.
      let at = front numbers line first in
      let same : Syntax line ≡ why = cc in
      (map Syntax at.0, ap (map Syntax) at.1 ∙ ap (λ (z : Refusal). z ∷ map Syntax at.0) same);
  sound = λ t e. absurd cc;
}

none_there : (faults : List CheckFault) → slice_get faults 0 ≡ None → faults ≡ []
none_there [] e = refl
none_there (fault ∷ faults) e = absurd cc

agrees_tree : (t : Tree) (faults : List CheckFault) (first : Option CheckFault) → slice_get faults 0 ≡ first
    → Agrees (map Unsound faults) (sound_in t first)
agrees_tree t faults None e = record {
  refused = λ why is. absurd cc;
  sound = λ u is. ap (map Unsound) (none_there faults e);
}
agrees_tree t faults (Some fault) e = record {
  refused = λ why is.
      let at = front faults fault e in
      let same : Unsound fault ≡ why = cc in
      (map Unsound at.0, ap (map Unsound) at.1 ∙ ap (λ (z : Refusal). z ∷ map Unsound at.0) same);
  sound = λ u is. absurd cc;
}

agrees_by : (text : List ℕ) → Kind text → Agrees (refusals_in text) (tariff_in text)
agrees_by text (long h) = rw (refused_long text h, tariff_long text h) agrees_long
agrees_by text (bad few line e) =
    let first = (bad_lines_have_no_form-first text line).0 ((texts_are_parsed_as_they_read-bad_line text line).1 e) in
    let both = refused_bad text line few e in
    rw (both.0, both.1) (agrees_bad (bad_lines text) line first)
agrees_by text (tree few t e) =
    let both = refused_tree text t few e in
    rw (both.0, both.1)
    (agrees_tree t (all_faults t.lines) (fault_of t) (all_faults_begin_with_the_first-first t))

agrees : (text : List ℕ) → Agrees (refusals_in text) (tariff_in text)
agrees text = agrees_by text (kind text)

-- ---- the law of faults

pub first_is : (text : List ℕ) (why : Refusal) → tariff_in text ≡ Err why → slice_get (refusals_in text) 0 ≡ Some why
first_is text why e = ap (λ (whys : List Refusal). slice_get whys 0) ((agrees text).refused why e).1

has_by : (text : List ℕ) (read : Result Tree Refusal) → tariff_in text ≡ read → refusals_in text ≡ [] → HasTariff text
has_by text (Ok t) e none = record { tree = t; reads = e }
has_by text (Err why) e none = absurd (let first = first_is text why e in cc)

pub none_is : (text : List ℕ) → (refusals_in text ≡ []) ↔ HasTariff text
none_is text = (
  λ none. has_by text (tariff_in text) refl none,
  λ (h : HasTariff text). (agrees text).sound h.tree h.reads,
)

status_by : (text : List ℕ) (read : Result Tree Refusal)
    → (faults_answer (refusals_in text) read).status ≡ (check_answer read).status
status_by text (Ok t) = refl
status_by text (Err why) = refl

pub status_is : (text : List ℕ) → (faults_in text).status ≡ (check_answer (tariff_in text)).status
status_is text = status_by text (tariff_in text)

-- a text of an answer begins with another's line
abbrev pub BeginsWith : (one other : Answer) → Type 0
BeginsWith one other = (rest : List ℕ) × (one.shown ++ one.line ≡ other.line ++ rest)

begins_by : (whys : List Refusal) (read : Result Tree Refusal) → Agrees whys read
    → BeginsWith (faults_answer whys read) (check_answer read)
begins_by whys (Ok t) h = ([], sym (append-nil (check_answer (Ok t)).line))
begins_by whys (Err why) h =
    let at = h.refused why refl in
    (refusal_lines at.0, append-nil (refusal_lines whys) ∙ ap refusal_lines at.1)

pub begins_is : (text : List ℕ) → BeginsWith (faults_in text) (check_answer (tariff_in text))
begins_is text = begins_by (refusals_in text) (tariff_in text) (agrees text)

pub sound_is : (text : List ℕ) → HasTariff text → faults_in text ≡ check_answer (tariff_in text)
sound_is text h = ap (faults_answer (refusals_in text)) h.reads ∙ ap check_answer (sym h.reads)

-- ---- each line that has no form is named, and no other line is named so

contains_to : (ns : List ℕ) (n : ℕ) → Contains ns n → Contains (map Syntax ns) (Syntax n)
contains_to ns n h = (
  h.0,
  omega (arith, h.1, length-map ns Syntax),
  get_or-map Syntax ns h.0 n (Syntax n) h.1 ∙ ap Syntax h.2,
)

contains_from : (ns : List ℕ) (n : ℕ) → Contains (map Syntax ns) (Syntax n) → Contains ns n
contains_from ns n h =
    let within : h.0 < length ns = omega (arith, h.1, length-map ns Syntax) in
    let same = sym (get_or-map Syntax ns h.0 n (Syntax n) within) ∙ h.2 in
    (h.0, within, cc)

no_syntax : (faults : List CheckFault) (n k : ℕ) → k < length (map Unsound faults)
    → slice_index_or (map Unsound faults) k (Syntax n) ≡ Syntax n → ⊥
no_syntax [] n k within e = omega arith
no_syntax (fault ∷ faults) n zero within e = cc
no_syntax (fault ∷ faults) n (suc k) within e = no_syntax faults n k (omega arith) e

named_by : (text : List ℕ) (line : ℕ) → Kind text → length text ≤ 65536
    → HasNoForm text line ↔ Contains (refusals_in text) (Syntax line)
named_by text line (long h) few = absurd (omega arith)
named_by text line (bad more other e) few =
    let is = (refused_bad text other few e).0 in
    rw is (
      (λ h. contains_to (bad_lines text) line (bad_lines_have_no_form-each text line h)),
      λ (h : Contains (map Syntax (bad_lines text)) (Syntax line)).
          All-contains (HasNoForm text) (bad_lines text) line (bad_lines_have_no_form-named text)
          (contains_from (bad_lines text) line h),
    )
named_by text line (tree more t e) few =
    let is = (refused_tree text t few e).0 in
    let none = (bad_lines_have_no_form-none text).1 (t, (texts_are_parsed_as_they_read-tariff text t).1 e) in
    rw is (
      (λ h. let at = rw none at (bad_lines_have_no_form-each text line h) in absurd (omega (arith, at.1))),
      λ (h : Contains (map Unsound (all_faults t.lines)) (Syntax line)).
          absurd (no_syntax (all_faults t.lines) line h.0 h.1 h.2),
    )

pub named_is : (text : List ℕ) (line : ℕ) → length text ≤ 65536
    → HasNoForm text line ↔ Contains (refusals_in text) (Syntax line)
named_is text line few = named_by text line (kind text) few
