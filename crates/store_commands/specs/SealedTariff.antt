-- Rules: which text is accepted as the sealed tariff.
use Rattle.{std.specs.Cmp.Lexicographic.{pointwise}, sha2.specs.Sha256.{sha256}}
use Rattle.std.specs.Prelude.{ℕ, ◌≡◌, ◌⊎◌, Err, List, Ok, Result, if◌then◌else◌, length, nat_eq, nat_lt, true}
use Rattle.call_ends.specs.declared.tariff.Refusal.TheVariants.{TooLong}
use Rattle.store_commands.specs.Common.{Durable, Ended, IsOfLines, Refusal, Seal, Tree, tariff_in}
use Rattle.store_commands.specs.Opening.{opening_in, store_of}
use Rattle.call_ends.specs.declared.ending.Ended.TheVariants as ended

-- a tariff that was read is accepted if it is sound, and else the run ends with `BadTariff`
abbrev pub accepted : Result Tree Refusal → Result Tree Ended
accepted (Err why) = Err (ended.BadTariff why)
accepted (Ok t) = Ok t

-- a text is accepted as the sealed tariff, or refused for its length, or else for its digest, or else for its content
abbrev pub sealed_tariff : (digest text : List ℕ) → Result Tree Ended
sealed_tariff digest text =
    if nat_lt 65536 (length text) then Err (ended.BadTariff TooLong)
    else (if pointwise nat_eq digest (sha256 text) then accepted (tariff_in text)
    else Err (ended.WrongTariff digest (sha256 text)))

-- a text has the sealed lines if it has the sealed digest and is one of tariff lines, of a sound tariff or not
pub record HasSealedLines (digest text : List ℕ) : Type 0 where
  pub sealed : pointwise nat_eq digest (sha256 text) ≡ true
  pub lines : IsOfLines text

-- memory may run out for the sealed tariff of a file if nothing of the file was read, or it has the sealed lines
abbrev pub MayLackSealed : (digest contents left : List ℕ) → Type 0
MayLackSealed digest contents left = (left ≡ contents) ⊎ HasSealedLines digest contents

-- memory may run out over an image for the sealed tariff of word 1 if the store is sealed, and it may for that digest
pub record MayLackTariff (image contents left : List ℕ) : Type 0 where
  pub store : Durable × Seal
  pub is : store_of (opening_in image) ≡ Ok store
  pub may : MayLackSealed store.1.digest contents left
