-- The line `SEALED n`: in which texts no byte of it stands.
use Rattle.std.proofs.Common.{[], ℕ, ◌<◌, ◌∙◌, ◌∷◌, ◌≡◌, ◌≢◌, List, ap, arith, get_or, refl, suc, sym, take, zero}
use Rattle.{std.proofs.lemmas.List.{append_cancel_left}, outside.proofs.Laws.{begins_not}}
use Rattle.{call_ends.specs.LastLine.{no_memory_line, read_fault_line}, store_commands.specs.Seal.{ShowsByteOf}}
use Rattle.store_commands.specs.Common.{Begins, sealed_line}

-- the line begins with an S
first_byte : (count number : ℕ) → 0 < count → get_or (take count (sealed_line number)) 0 0 ≡ 83
first_byte zero number some = absurd (omega (arith, some))
first_byte (suc count) number some = refl

other_byte : (count : ℕ) (line : List ℕ) → get_or line 0 0 ≢ 83 → get_or (take count line) 0 0 ≢ 83
other_byte zero line other e = absurd (omega (arith, e))
other_byte (suc count) [] other e = other e
other_byte (suc count) (byte ∷ line) other e = other e

-- a beginning of a line that begins otherwise
pub other_line : (line : List ℕ) → get_or line 0 0 ≢ 83 → (number : ℕ) (printed text : List ℕ)
    → Begins printed text line
    → ¬ (ShowsByteOf (sealed_line number) printed text)
other_line line other number printed text begun shown =
    let begin : take begun.count line ≡ take shown.count (sealed_line number) =
    append_cancel_left printed (take begun.count line) (take shown.count (sealed_line number))
    (sym begun.printed ∙ shown.is) in
    other_byte begun.count line other (ap (λ (bytes : List ℕ). get_or bytes 0 0) begin ∙ first_byte shown.count number
    shown.some)

pub read_fault_other : get_or read_fault_line 0 0 ≢ 83
read_fault_other e = absurd (omega (arith, e))

pub no_memory_other : get_or no_memory_line 0 0 ≢ 83
no_memory_other e = absurd (omega (arith, e))

-- a text to which nothing was printed
pub not_shown : (number : ℕ) (printed text : List ℕ) → text ≡ printed
    → ¬ (ShowsByteOf (sealed_line number) printed text)
not_shown number printed text same =
    other_line [] (λ e. absurd (omega (arith, e))) number printed text (begins_not printed text [] same)
