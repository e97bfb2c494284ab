-- Receipts under seals that say the same but for the digest.
use Rattle.std.proofs.Common.{ℕ, ◌++◌, ◌∙◌, ◌≡◌, List, ap, append_assoc, codes, decimal}
use Rattle.receipt_text.specs.{Common.{Receipt}, Part.{Part}, TariffLine.{DifferInTariff, with_tariff}}
use Rattle.receipt_text.specs.Receipts.{body_text, day_text, heading_text, hex_text, part_text, receipt_text}

-- what is in front of the line of the tariff doesn't say the digest
front_of : Receipt → Part → List ℕ
front_of receipt part =
    heading_text receipt.number receipt.kind
    ++ (codes "TAXI " ++ (part.taxi ++ (codes "\nCONSTANT " ++ (decimal part.constant
    ++ (codes "\nSECURED " ++ day_text part.secured)))))

with_line : (receipt : Receipt) (part : Part)
    → receipt_text receipt part ≡ with_tariff (front_of receipt part) part.digest (body_text receipt)
unfolding receipt_text part_text front_of
with_line receipt part = simp append_assoc

same_front : (receipt : Receipt) (a b : Part) → record a { digest = b.digest } ≡ b
    → front_of receipt a ≡ front_of receipt b
unfolding front_of
same_front receipt a b same = ap (front_of receipt) same

pub differ_in_tariff : (receipt : Receipt) (a b : Part) → record a { digest = b.digest } ≡ b
    → DifferInTariff a.digest b.digest (receipt_text receipt a) (receipt_text receipt b)
differ_in_tariff receipt a b same = record {
  front = front_of receipt b;
  back = body_text receipt;
  one = with_line receipt a
      ∙ ap (λ (front : List ℕ). with_tariff front a.digest (body_text receipt)) (same_front receipt a b same);
  second = with_line receipt b;
}
