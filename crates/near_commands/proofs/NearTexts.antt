-- The answer to a text, by what it is parsed as.
use Rattle.std.proofs.{Common.{ℕ, ◌<◌, ◌≡◌, Err, List, Ok, inl, inr, length, refl}, lemmas.Bool.{le-ltb, lt-ltb}}
use Rattle.{tariff_tree.specs.declared.tariff.Tariff.{Tariff}, near_commands.specs.Near.{near_in, near_of}}
use Rattle.tariff_syntax.specs.{Reads.{IsParsed}, declared.parsing.ParseFault.{ParseFault}}
use Rattle.tariff_syntax.proofs.Laws.{texts_are_parsed_as_they_read-bad_line, texts_are_parsed_as_they_read-tariff}
use Rattle.near_commands.specs.{Common.{IsMade, Syntax, TooLong, bad_tariff, tree_of}, NearSteps.{ended_unparsed}}
use Rattle.tariff_syntax.specs.declared.parsing.ParseFault.TheVariants as faults

pub near_read : (text : List ℕ) (t : Tariff) → IsParsed text (Ok t) → near_in text ≡ near_of (Ok (tree_of t))
near_read text t h =
    rw (le-ltb 65536 (length text) h.0, (texts_are_parsed_as_they_read-tariff text (tree_of t)).0 h.1) refl

pub long_near : (text : List ℕ) → 65536 < length text → near_in text ≡ bad_tariff TooLong
long_near text long = rw (lt-ltb 65536 (length text) long) refl

pub near_unparsed : (text : List ℕ) (fault : ParseFault) → IsParsed text (Err fault)
    → IsMade (near_in text) (Err (ended_unparsed fault))
near_unparsed text faults.TooLong h = inr (long_near text h, refl)
near_unparsed text (faults.Syntax line) h = inr (e, refl)
  where
    e : near_in text ≡ bad_tariff (Syntax line)
    e = rw (le-ltb 65536 (length text) h.0, (texts_are_parsed_as_they_read-bad_line text line).0 h.1) refl
near_unparsed text faults.NoMemory h = inl refl
