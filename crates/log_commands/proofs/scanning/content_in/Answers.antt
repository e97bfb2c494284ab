use Rattle.std.proofs.Common.{ℕ, ◌≡◌, List, None, Option, Some, arith, drop, length, length-drop, subst, sym, take}
use Rattle.{std.proofs.lemmas.List.{take_all}, log_commands.specs.{Record.{Record}, Slots.{Spells}}}
use Rattle.log_commands.proofs.scanning.content_in.Goals as goal

-- what stands behind the gate is as long as a body
behind : (bytes : List ℕ) → length bytes ≡ 512 → take 511 (drop 1 bytes) ≡ drop 1 bytes
behind bytes size = take_all 511 (drop 1 bytes) (omega (arith, size, length-drop 1 bytes))

no_record : (found : Option (ℕ × Record)) (place : ℕ) (it : Record) → found ≡ None → found ≡ Some (place, it) → ⊥
no_record found place it none some = absurd cc

pub returns-in-Some : goal.returns-in-Some
returns-in-Some c = (
  c.if-bytes-ne-OPEN.false,
  subst (λ (b : List ℕ). Spells b c.in-Some.place c.in-Some.record) (behind c.args.bytes.now c.told-bytes)
      ((c.record_in.ensures c.in-Some.place c.in-Some.record).0 c.in-Some.is),
)

pub returns-in-None : goal.returns-in-None
returns-in-None c = (
  c.if-bytes-ne-OPEN.false,
  λ place it h. no_record c.record_in.result place it c.in-None.is
      ((c.record_in.ensures place it).1
      (subst (λ (b : List ℕ). Spells b place it) (sym (behind c.args.bytes.now c.told-bytes)) h)),
)
