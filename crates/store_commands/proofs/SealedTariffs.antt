-- Which text is the sealed tariff, and why another has no tables.
use Rattle.{std.specs.{Cmp.Lexicographic.{pointwise}, Prelude.{nat_eq, nat_lt}}, call_ends.proofs.Laws.{lines_of_sound}}
use Rattle.std.proofs.Common.{ℕ, ◌<◌, ◌∙◌, ◌≡◌, ◌≤◌, Bool, Err, List, Ok, Result, ap, false, if◌then◌else◌, length}
use Rattle.{std.proofs.{Common.{refl, sym, true}, lemmas.Bool.{le-ltb, lt-ltb, ltb-false}}, sha2.specs.Sha256.{sha256}}
use Rattle.{tariff_syntax.specs.Parsed.{tree_parsed}, call_ends.specs.declared.tariff.Refusal.TheVariants.{TooLong}}
use Rattle.call_ends.specs.{Tariffs.{checked_in}, declared.tariff.TextFault.{TextFault}}
use Rattle.store_commands.specs.Common.{Ended, IsOfLines, Refusal, Tree, ended_for, tariff_in}
use Rattle.store_commands.specs.SealedTariff.{HasSealedLines, accepted, sealed_tariff}
use Rattle.store_commands.specs.TariffSteps.{AreNoTables, IsNoTables}
use Rattle.call_ends.specs.declared.ending.Ended.TheVariants as ended
use Rattle.call_ends.specs.declared.tariff.TextFault.TheVariants as texts

-- a text of at most 65,536 bytes with the sealed digest
pub tariff-accepted : (digest text : List ℕ) → length text ≤ 65536 → pointwise nat_eq digest (sha256 text) ≡ true
    → sealed_tariff digest text ≡ accepted (tariff_in text)
tariff-accepted digest text few same = rw (le-ltb 65536 (length text) few, same) refl

pub tariff-wrong : (digest text : List ℕ) → length text ≤ 65536 → pointwise nat_eq digest (sha256 text) ≡ false
    → sealed_tariff digest text ≡ Err (ended.WrongTariff digest (sha256 text))
tariff-wrong digest text few other = rw (le-ltb 65536 (length text) few, other) refl

pub tariff-long : (digest text : List ℕ) → 65536 < length text
    → sealed_tariff digest text ≡ Err (ended.BadTariff TooLong)
tariff-long digest text long = rw (lt-ltb 65536 (length text) long) refl

pub no_tables-read : (digest text : List ℕ) (read_failed : Type 0) (fault : TextFault)
    → (fault ≡ texts.ReadFault → read_failed)
    → ((why : Refusal) → fault ≡ texts.Refused why → (why ≡ TooLong) × (65536 < length text))
    → AreNoTables digest text read_failed (ended_for fault)
no_tables-read digest text read_failed texts.ReadFault failed long = failed refl
no_tables-read digest text read_failed (texts.Refused why) failed long =
    let both = long why refl in
    tariff-long digest text both.1 ∙ ap (λ (w : Refusal). Err (ended.BadTariff w)) (sym both.0)
no_tables-read digest text read_failed texts.NoMemory failed long = tt

pub no_tables-made : (digest text : List ℕ) (read_failed : Type 0) (why : Ended) → sealed_tariff digest text
    ≡ accepted (tariff_in text) → IsNoTables text why → AreNoTables digest text read_failed why
no_tables-made digest text read_failed ended.NoMemory e h = tt
no_tables-made digest text read_failed (ended.BadTariff why) e h = e ∙ ap accepted h
no_tables-made digest text read_failed why e h = absurd h

-- more may be known of a read that failed
pub no_tables-as : (digest text : List ℕ) (read_failed more : Type 0) (why : Ended) → (read_failed → more)
    → AreNoTables digest text read_failed why → AreNoTables digest text more why
no_tables-as digest text read_failed more ended.ReadFault is h = is h
no_tables-as digest text read_failed more ended.NoMemory is h = tt
no_tables-as digest text read_failed more (ended.BadTariff why) is h = h
no_tables-as digest text read_failed more (ended.WrongTariff sealed own) is h = h
no_tables-as digest text read_failed more why is h = absurd h

-- ---- memory

-- a text wasn't read for want of memory only if the call says so
pub no_memory-text : (fault : TextFault) → ended_for fault ≡ ended.NoMemory → fault ≡ texts.NoMemory
no_memory-text texts.ReadFault is = absurd cc
no_memory-text (texts.Refused why) is = absurd cc
no_memory-text texts.NoMemory is = refl

-- and one that is accepted as the sealed tariff has the sealed lines
accepted_is : (r : Result Tree Refusal) (t : Tree) → accepted r ≡ Ok t → r ≡ Ok t
accepted_is (Ok u) t is = cc
accepted_is (Err why) t is = absurd (let e : accepted (Err why) ≡ Ok t = is in cc)

pub lines_of_sealed : (digest text : List ℕ) (t : Tree) → sealed_tariff digest text ≡ Ok t → HasSealedLines digest text
lines_of_sealed digest text t is =
    by (nat_lt 65536 (length text)) (pointwise nat_eq digest (sha256 text)) is refl
  where
    answer : (long same : Bool) → Result Tree Ended
    answer long same =
        if long then Err (ended.BadTariff TooLong)
        else (if same then accepted (tariff_in text) else Err (ended.WrongTariff digest (sha256 text)))

    by : (long same : Bool) → answer long same ≡ Ok t → pointwise nat_eq digest (sha256 text) ≡ same
        → HasSealedLines digest text
    by true same e f = absurd cc
    by false false e f = absurd cc
    by false true e f =
        record { sealed = f; lines = lines_of_sound text t (accepted_is (tariff_in text) t e) }
