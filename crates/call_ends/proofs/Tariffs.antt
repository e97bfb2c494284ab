-- The sound tariff of a text that was read.
use Rattle.std.{specs.Prelude.{◌⊎◌, if◌then◌else◌, nat_lt}, proofs.Common.{length, refl, sym, true}}
use Rattle.std.proofs.Common.{ℕ, ◌∙◌, ◌≡◌, ◌≢◌, ◌≤◌, Bool, Err, List, Ok, Option, Result, Some, ap, false, inl, inr}
use Rattle.{std.proofs.lemmas.Bool.{le-ltb, ltb-false}, tariff_tree.specs.declared.tariff.Tariff.{Tariff}}
use Rattle.{tariff_tree.specs.Tree.{Tree}, tariff_syntax.specs.{Parsed.{tree_parsed}, Reads.{IsParsed}}}
use Rattle.tariff_syntax.proofs.Laws.{texts_are_parsed_as_they_read-bad_line, texts_are_parsed_as_they_read-tariff}
use Rattle.{tariff_check.specs.Faults.{fault_of}, call_ends.specs.Tariffs.{IsOfLines, checked_in, sound_in, tariff_in}}
use Rattle.call_ends.specs.{Common.{CheckFault, Refusal, Syntax, TooLong, Unsound, tree_of}, Ending.{unsound_for}}
use Rattle.tariff_syntax.specs.declared.parsing.ParseFault.TheVariants as faults
use Rattle.tariff_check.specs.declared.fault.CheckFault.TheVariants as checks
use Rattle.call_ends.specs.declared.tariff.TextFault.TheVariants as texts

-- a text that reads as a tariff is answered by the tariff's first fault
pub sound_of : (text : List ℕ) (t : Tariff) (fault : Option CheckFault) → IsParsed text (Ok t)
    → fault_of (tree_of t) ≡ fault → tariff_in text ≡ sound_in (tree_of t) fault
sound_of text t fault h e =
    rw (le-ltb 65536 (length text) h.0, (texts_are_parsed_as_they_read-tariff text (tree_of t)).0 h.1, e) refl

pub syntax_of : (text : List ℕ) (line : ℕ) → IsParsed text (Err (faults.Syntax line))
    → tariff_in text ≡ Err (Syntax line)
syntax_of text line h =
    rw (le-ltb 65536 (length text) h.0, (texts_are_parsed_as_they_read-bad_line text line).0 h.1) refl

-- a refusal for a fault names it, and is none for want of memory
refusal_is : (fault : CheckFault) (why : Refusal) → unsound_for fault ≡ texts.Refused why
    → (why ≡ Unsound fault) × (fault ≢ checks.NoMemory)
refusal_is checks.NoMemory why e = absurd cc
refusal_is fault why e = (cc, λ h. absurd cc)

by_fault : (text : List ℕ) (t : Tariff) (fault : CheckFault) (why : Refusal) → IsParsed text (Ok t)
    → (fault ≡ checks.NoMemory) ⊎ (fault_of (tree_of t) ≡ Some fault)
    → (why ≡ Unsound fault) × (fault ≢ checks.NoMemory) → tariff_in text ≡ Err why
by_fault text t fault why h (inl none) is = absurd (is.1 none)
by_fault text t fault why h (inr found) is = sound_of text t (Some fault) h found ∙ ap Err (sym is.0)

-- a text whose tariff has a first fault is refused for it
pub unsound_of : (text : List ℕ) (t : Tariff) (fault : CheckFault) (why : Refusal) → IsParsed text (Ok t)
    → (fault ≡ checks.NoMemory) ⊎ (fault_of (tree_of t) ≡ Some fault) → unsound_for fault ≡ texts.Refused why
    → tariff_in text ≡ Err why
unsound_of text t fault why h found e = by_fault text t fault why h found (refusal_is fault why e)

-- no fault of a tariff is one of a read
pub unsound-read : (fault : CheckFault) → unsound_for fault ≢ texts.ReadFault
unsound-read checks.NoMemory = λ e. absurd cc
unsound-read fault = λ e. absurd cc

-- memory runs out only for a text of tariff lines
pub lines_of_tariff : (text : List ℕ) (t : Tariff) → IsParsed text (Ok t) → IsOfLines text
lines_of_tariff text t h =
    record { few = h.0; tree = tree_of t; reads = (texts_are_parsed_as_they_read-tariff text (tree_of t)).0 h.1 }

pub lines_of_starved : (text : List ℕ) → IsParsed text (Err faults.NoMemory) → IsOfLines text
lines_of_starved text h =
    record { few = h.0; tree = h.1.0; reads = (texts_are_parsed_as_they_read-tariff text h.1.0).0 h.1.1 }

-- a text that has a sound tariff is one of tariff lines
lines_of_parsed : (text : List ℕ) (r : Result Tree ℕ) (t : Tree) → length text ≤ 65536 → tree_parsed text ≡ r
    → checked_in r ≡ Ok t → IsOfLines text
lines_of_parsed text (Ok tree) t few parsed is = record { few = few; tree = tree; reads = parsed }
lines_of_parsed text (Err line) t few parsed is = absurd (let e : checked_in (Err line) ≡ Ok t = is in cc)

pub lines_of_sound : (text : List ℕ) (t : Tree) → tariff_in text ≡ Ok t → IsOfLines text
lines_of_sound text t is = by (nat_lt 65536 (length text)) refl is
  where
    answer : Bool → Result Tree Refusal
    answer long = if long then Err TooLong else checked_in (tree_parsed text)

    by : (long : Bool) → nat_lt 65536 (length text) ≡ long → answer (nat_lt 65536 (length text)) ≡ Ok t
        → IsOfLines text
    by true e found = absurd (let none : answer true ≡ Ok t = ap answer (sym e) ∙ found in cc)
    by false e found =
        lines_of_parsed text (tree_parsed text) t (ltb-false 65536 (length text) e) refl (ap answer (sym e) ∙ found)
