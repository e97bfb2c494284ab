-- Displays are told apart by their texts.
use Rattle.std.{specs.{Char.{digit_value}, Prelude.{codes}}, proofs.Common.{arith, drop, get_or, refl, subst, sym}}
use Rattle.{std.specs.Fmt.{decimal}, taxi_units.specs.declared.event.Operating.TheVariants.{Hired, Off, Stopped}}
use Rattle.std.proofs.Common.{[], ℕ, ◌++◌, ◌<◌, ◌^◌, ◌↔◌, ◌∙◌, ◌∷◌, ◌≡◌, ◌≢◌, ◌≤◌, List, Option, Some, ap, append_assoc}
use Rattle.taxi_units.specs.declared.event.Operating.{Operating}
use Rattle.receipt_text.specs.{Common.{Display, ForHire, IsShown, money_text}, Figures.{amount_below, number_below}}
use Rattle.receipt_text.{specs.Shows.{HasFields, ShowsSame}, proofs.Again.{amount_again, number_again}}
use Rattle.receipt_text.specs.Texts.{amounts_text, display_line, display_text, place_text}

value_of : {A : Type 0} (x y : A) → Some x ≡ Some y → x ≡ y
value_of x y e = cc

-- what is read of equal texts is equal
same_read : {A : Type 0} (f : List ℕ → Option A) (s t : List ℕ) (x y : A) → f s ≡ Some x → f t ≡ Some y → s ≡ t → x ≡ y
same_read f s t x y one two e = value_of x y (sym one ∙ (ap f e ∙ two))

-- two numbers before one byte that is no digit
same_number : (v w c : ℕ) (xs ys : List ℕ) → v < 2 ^ 64 → w < 2 ^ 64 → 10 ≤ digit_value c
    → decimal v ++ c ∷ xs ≡ decimal w ++ c ∷ ys → (v ≡ w) × (c ∷ xs ≡ c ∷ ys)
same_number v w c xs ys hv hw stops e =
    let both : ◌≡◌ {A = ℕ × List ℕ} (v, c ∷ xs) (w, c ∷ ys) = same_read (number_below (2 ^ 64)) _ _ _ _
    (number_again (2 ^ 64) v xs c hv (omega arith) stops) (number_again (2 ^ 64) w ys c hw (omega arith) stops) e in
    (λ i. (both i).0, λ i. (both i).1)

same_amount : (d v w c : ℕ) (xs ys : List ℕ) → d ≤ 3 → v < 2 ^ 64 → w < 2 ^ 64 → 10 ≤ digit_value c → c ≢ 46
    → money_text d v ++ c ∷ xs ≡ money_text d w ++ c ∷ ys → (v ≡ w) × (c ∷ xs ≡ c ∷ ys)
same_amount d v w c xs ys few hv hw stops no_point e =
    let both = same_read (amount_below (2 ^ 64)) _ _ _ _ (amount_again (2 ^ 64) d v xs c few hv (omega arith) stops
    no_point) (amount_again (2 ^ 64) d w ys c few hw (omega arith) stops no_point) e in
    (λ i. (both i).0.units, λ i. (both i).1)

-- the tariff position and the zone, before one byte that is no digit
same_place : (a b : Display) (c : ℕ) (xs ys : List ℕ) → HasFields a → HasFields b → 10 ≤ digit_value c → place_text a
    ++ c ∷ xs ≡ place_text b ++ c ∷ ys → (a.position ≡ b.position) × (a.zone ≡ b.zone) × (c ∷ xs ≡ c ∷ ys)
same_place a b c xs ys ha hb stops e =
    let first : (z : Display) (zs : List ℕ) → place_text z ++ c ∷ zs
    ≡ codes " T" ++ (decimal z.position ++ 32 ∷ (90 ∷ (decimal z.zone ++ c ∷ zs))) = λ z zs. simp append_assoc in
    let numbers : decimal a.position ++ 32 ∷ (90 ∷ (decimal a.zone ++ c ∷ xs)) ≡ decimal b.position ++ 32
    ∷ (90 ∷ (decimal b.zone ++ c ∷ ys)) = ap (drop 2) (sym (first a xs) ∙ (e ∙ first b ys)) in
    let position = same_number a.position b.position 32 (90 ∷ (decimal a.zone ++ c ∷ xs))
    (90 ∷ (decimal b.zone ++ c ∷ ys)) (omega (arith, ha.position)) (omega (arith, hb.position)) (omega arith) numbers in
    let zone = same_number a.zone b.zone c xs ys (omega (arith, ha.zone)) (omega (arith, hb.zone)) stops
    (ap (drop 2) position.1) in
    (position.0, zone.0, zone.1)

-- the fare and the supplements, at the end of a line
same_amounts : (a b : Display) → HasFields a → HasFields b → a.decimals ≤ 3 → a.decimals ≡ b.decimals
    → amounts_text a ++ codes "\n" ≡ amounts_text b ++ codes "\n" → (a.fare ≡ b.fare) × (a.supplements ≡ b.supplements)
same_amounts a b ha hb few d e =
    let first : (z : Display) → amounts_text z ++ codes "\n" ≡ codes " " ++ (money_text z.decimals z.fare ++ 32
    ∷ (43 ∷ (money_text z.decimals z.supplements ++ 10 ∷ []))) = λ z. simp append_assoc in
    let amounts : money_text a.decimals a.fare ++ 32 ∷ (43 ∷ (money_text a.decimals a.supplements ++ 10 ∷ []))
    ≡ money_text b.decimals b.fare ++ 32 ∷ (43 ∷ (money_text b.decimals b.supplements ++ 10 ∷ [])) =
    ap (drop 1) (sym (first a) ∙ (e ∙ first b)) in
    let turned : money_text a.decimals a.fare ++ 32 ∷ (43 ∷ (money_text a.decimals a.supplements ++ 10 ∷ []))
    ≡ money_text a.decimals b.fare ++ 32 ∷ (43 ∷ (money_text a.decimals b.supplements ++ 10 ∷ [])) =
    amounts ∙ ap (λ (n : ℕ). money_text n b.fare ++ 32 ∷ (43 ∷ (money_text n b.supplements ++ 10 ∷ []))) (sym d) in
    let fare = same_amount a.decimals a.fare b.fare 32 (43 ∷ (money_text a.decimals a.supplements ++ 10 ∷ [])) (43
    ∷ (money_text a.decimals b.supplements ++ 10 ∷ [])) few ha.fare hb.fare (omega arith) (λ e. omega arith) turned in
    let supplements = same_amount a.decimals a.supplements b.supplements 10 [] [] few ha.supplements hb.supplements
    (omega arith) (λ e. omega arith) (ap (drop 2) fare.1) in
    (fare.0, supplements.0)

-- the place and the amounts
hired_same : (a b : Display) → HasFields a → HasFields b → a.decimals ≤ 3 → a.decimals ≡ b.decimals
    → place_text a ++ (amounts_text a ++ codes "\n") ≡ place_text b ++ (amounts_text b ++ codes "\n")
    → (a.position ≡ b.position) × (a.zone ≡ b.zone) × (a.fare ≡ b.fare) × (a.supplements ≡ b.supplements)
hired_same a b ha hb few d e =
    let place = same_place a b 32 _ _ ha hb (omega arith) e in
    let amounts = same_amounts a b ha hb few d place.2 in
    (place.0, place.1, amounts.0, amounts.1)

lines_same : (o p : Operating) (a b : Display) → o ≢ Off → p ≢ Off → HasFields a → HasFields b → a.decimals ≤ 3
    → a.decimals ≡ b.decimals → display_line o a ≡ display_line p b → (o ≡ p) × (a.position ≡ b.position)
    × (a.zone ≡ b.zone) × (o ≢ ForHire → (a.fare ≡ b.fare) × (a.supplements ≡ b.supplements))
lines_same Off p a b on on₂ ha hb few d e = absurd (on refl)
lines_same ForHire Off a b on on₂ ha hb few d e = absurd (on₂ refl)
lines_same Hired Off a b on on₂ ha hb few d e = absurd (on₂ refl)
lines_same Stopped Off a b on on₂ ha hb few d e = absurd (on₂ refl)
lines_same ForHire ForHire a b on on₂ ha hb few d e =
    let place = same_place a b 10 [] [] ha hb (omega arith) (ap (drop 8) e) in
    (refl, place.0, place.1, λ not. absurd (not refl))
lines_same ForHire Hired a b on on₂ ha hb few d e = let byte : ◌≡◌ {A = ℕ} 70 72 =
    ap (λ (t : List ℕ). get_or t 0 0) e in absurd (omega arith)
lines_same ForHire Stopped a b on on₂ ha hb few d e = let byte : ◌≡◌ {A = ℕ} 70 83 =
    ap (λ (t : List ℕ). get_or t 0 0) e in absurd (omega arith)
lines_same Hired ForHire a b on on₂ ha hb few d e = let byte : ◌≡◌ {A = ℕ} 72 70 =
    ap (λ (t : List ℕ). get_or t 0 0) e in absurd (omega arith)
lines_same Hired Hired a b on on₂ ha hb few d e =
    let same = hired_same a b ha hb few d (ap (drop 5) e) in
    (refl, same.0, same.1, λ not. (same.2, same.3))
lines_same Hired Stopped a b on on₂ ha hb few d e = let byte : ◌≡◌ {A = ℕ} 72 83 =
    ap (λ (t : List ℕ). get_or t 0 0) e in absurd (omega arith)
lines_same Stopped ForHire a b on on₂ ha hb few d e = let byte : ◌≡◌ {A = ℕ} 83 70 =
    ap (λ (t : List ℕ). get_or t 0 0) e in absurd (omega arith)
lines_same Stopped Hired a b on on₂ ha hb few d e = let byte : ◌≡◌ {A = ℕ} 83 72 =
    ap (λ (t : List ℕ). get_or t 0 0) e in absurd (omega arith)
lines_same Stopped Stopped a b on on₂ ha hb few d e =
    let same = hired_same a b ha hb few d (ap (drop 7) e) in
    (refl, same.0, same.1, λ not. (same.2, same.3))

hire_line : (a b : Display) → a.position ≡ b.position → a.zone ≡ b.zone
    → display_line ForHire a ≡ display_line ForHire b
hire_line a b p z = rw (p, z) refl

hired_line : (a b : Display) → a.decimals ≡ b.decimals → a.position ≡ b.position → a.zone ≡ b.zone → a.fare ≡ b.fare
    → a.supplements ≡ b.supplements
    → place_text a ++ (amounts_text a ++ codes "\n") ≡ place_text b ++ (amounts_text b ++ codes "\n")
hired_line a b d p z f s = rw (d, p, z, f, s) refl

fields_same : (o : Operating) (a b : Display) → o ≢ Off → a.decimals ≡ b.decimals → a.position ≡ b.position
    → a.zone ≡ b.zone → (o ≢ ForHire → a.fare ≡ b.fare) → (o ≢ ForHire → a.supplements ≡ b.supplements)
    → display_line o a ≡ display_line o b
fields_same Off a b on d p z f s = absurd (on refl)
fields_same ForHire a b on d p z f s = hire_line a b p z
fields_same Hired a b on d p z f s =
    ap (λ (t : List ℕ). codes "HIRED" ++ t) (hired_line a b d p z (f (λ e. cc)) (s (λ e. cc)))
fields_same Stopped a b on d p z f s =
    ap (λ (t : List ℕ). codes "STOPPED" ++ t) (hired_line a b d p z (f (λ e. cc)) (s (λ e. cc)))

pub displays_differ_by_their_fields : (a b : Display) → IsShown a → IsShown b → HasFields a → HasFields b
    → a.decimals ≡ b.decimals → (display_text a ≡ display_text b) ↔ ShowsSame a b
displays_differ_by_their_fields a b sa sb ha hb d = (
  λ e.
      let same = lines_same a.operating b.operating a b sa.operating sb.operating ha hb sa.decimals d e in
      record {
        operating = same.0;
        position = same.1;
        zone = same.2;
        fare = λ not. (same.3 not).0;
        supplements = λ not. (same.3 not).1;
      },
  λ h.
      subst (λ (o : Operating). display_line a.operating a ≡ display_line o b) h.operating
      (fields_same a.operating a b sa.operating d h.position h.zone h.fare h.supplements),
)
