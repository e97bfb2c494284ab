-- The parts of an entry come to the table of lines.
use Rattle.std.proofs.Common.{[], ℕ, ◌++◌, ◌∙◌, ◌∷◌, ◌≡◌, All, List, ap, codes, refl, subst, sym}
use Rattle.std.proofs.lemmas.List.{append-nil, Elements.{All-cons, All-head, All-nil, All-tail}}
use Rattle.tariff_tree.specs.{Tree.{holiday}, Writable.{IsWritablePart}}
use Rattle.tariff_syntax.specs.Common.{Entry, IsWritableEntry, Part, initial, minimum, positions, rate, step}
use Rattle.tariff_syntax.specs.{Common.{supplement, zones}, LineTable.{HasTableRanges, IsTableLine}}
use Rattle.tariff_syntax.specs.Forms.{IsAmount, IsNumber}
use Rattle.tariff_syntax.specs.{IsItem.{AreParts, IsItem, IsPart}, Token.{Token, figure, sign, word}}
use Rattle.tariff_tree.specs.Part as part

-- ---- a part that is one token, and those behind it

-- a token that is fixed stands first
fixed : (decimals : ℕ) (ts : List Token) (x : Token) (p : Part) (ps : List Part)
    → ((first : List Token) → IsPart decimals first p → first ≡ x ∷ []) → AreParts decimals ts (p ∷ ps)
    → (rest : List Token) × (ts ≡ x ∷ rest) × AreParts decimals rest ps
fixed decimals ts x p ps is h = (h.1, h.2 ∙ ap (λ (first : List Token). first ++ h.1) (is h.0 h.3), h.4)

-- a figure stands first
figured : (decimals : ℕ) (ts : List Token) (Is : List ℕ → Type 0) (p : Part) (ps : List Part)
    → ((first : List Token) → IsPart decimals first p → (f : List ℕ) × (first ≡ figure f ∷ []) × Is f)
    → AreParts decimals ts (p ∷ ps)
    → (f : List ℕ) × (rest : List Token) × (ts ≡ figure f ∷ rest) × Is f × AreParts decimals rest ps
figured decimals ts Is p ps is h =
    let it = is h.0 h.3 in (it.0, h.1, h.2 ∙ ap (λ (first : List Token). first ++ h.1) it.1, it.2, h.4)

-- the last part is all that is left
last : (decimals : ℕ) (ts : List Token) (p : Part) → AreParts decimals ts (p ∷ []) → IsPart decimals ts p
last decimals ts p h =
    subst (λ (first : List Token). IsPart decimals first p)
    (sym (h.2 ∙ ap (λ (rest : List Token). h.0 ++ rest) h.4 ∙ append-nil h.0)) h.3

-- ---- and back

-- parts behind a part of one token
behind : (decimals : ℕ) (ts rest : List Token) (x : Token) (p : Part) (ps : List Part) → ts ≡ x ∷ rest
    → IsPart decimals (x ∷ []) p → AreParts decimals rest ps → AreParts decimals ts (p ∷ ps)
behind decimals ts rest x p ps split is more = (x ∷ [], rest, split, is, more)

alone : (decimals : ℕ) (ts : List Token) (p : Part) → IsPart decimals ts p → AreParts decimals ts (p ∷ [])
alone decimals ts p is = (ts, [], sym (append-nil ts), is, refl)

-- ---- lines

pub line_of_item : (decimals : ℕ) (ts : List Token) (entry : Entry) → IsItem decimals ts entry
    → IsTableLine decimals ts entry
line_of_item decimals ts (step amount rounding) h =
    let x0 = figured decimals (h.0) (λ (f : List ℕ). IsAmount decimals f amount) (part.money amount)
    (part.rounding rounding ∷ []) (λ first is. is) (h.2) in
    let x1 = last decimals (x0.1) (part.rounding rounding) (x0.4) in
    (x0.0, x0.1, h.1 ∙ ap (λ (rest : List Token). word (codes "step") ∷ rest) (x0.2), x0.3, x1)
line_of_item decimals ts (positions number) h =
    let x0 = last decimals (h.0) (part.number 1 9 number) (h.2) in
    (x0.0, h.1 ∙ ap (λ (rest : List Token). word (codes "positions") ∷ rest) (x0.1), x0.2)
line_of_item decimals ts (zones number) h =
    let x0 = last decimals (h.0) (part.number 1 9 number) (h.2) in
    (x0.0, h.1 ∙ ap (λ (rest : List Token). word (codes "zones") ∷ rest) (x0.1), x0.2)
line_of_item decimals ts (holiday year month date) h =
    let x0 = last decimals (h.0) (part.year_date year month date) (h.2) in
    (x0.0, h.1 ∙ ap (λ (rest : List Token). word (codes "holiday") ∷ rest) (x0.1), x0.2)
line_of_item decimals ts (supplement number amount most) h =
    let x0 = figured decimals (h.0) (λ (f : List ℕ). IsNumber 1 16 f number) (part.number 1 16 number)
    (part.money amount ∷ part.name (codes "max") ∷ part.number 1 99 most ∷ []) (λ first is. is) (h.2) in
    let x1 = figured decimals (x0.1) (λ (f : List ℕ). IsAmount decimals f amount) (part.money amount)
    (part.name (codes "max") ∷ part.number 1 99 most ∷ []) (λ first is. is) (x0.4) in
    let x2 = fixed decimals (x1.1) (word (codes "max")) (part.name (codes "max"))
    (part.number 1 99 most ∷ []) (λ first is. is) (x1.4) in
    let x3 = last decimals (x2.0) (part.number 1 99 most) (x2.2) in (
      x0.0,
      x1.0,
      x3.0,
      h.1 ∙ ap (λ (rest : List Token). word (codes "supplement") ∷ rest) (x0.2
          ∙ ap (λ (rest : List Token). figure x0.0 ∷ rest) (x1.2
          ∙ ap (λ (rest : List Token). figure x1.0 ∷ rest) (x2.1
          ∙ ap (λ (rest : List Token). word (codes "max") ∷ rest) (x3.1)))),
      x0.3,
      x1.3,
      x3.2,
    )
line_of_item decimals ts (initial amount covers when) h =
    let x0 = figured decimals (h.0) (λ (f : List ℕ). IsAmount decimals f amount) (part.money amount)
    (part.covers covers ∷ part.condition when ∷ []) (λ first is. is) (h.2) in
    let x2 = last decimals (x0.4.1) (part.condition when) (x0.4.4) in (
      x0.0,
      x0.4.0,
      x0.4.1,
      h.1 ∙ ap (λ (rest : List Token). word (codes "initial") ∷ rest) (x0.2
          ∙ ap (λ (rest : List Token). figure x0.0 ∷ rest) (x0.4.2)),
      x0.3,
      x0.4.3,
      x2,
    )
line_of_item decimals ts (rate a b c e when) h =
    let x0 = figured decimals (h.0) (λ (f : List ℕ). IsAmount decimals f a) (part.money a)
    (part.name (codes "per") ∷ part.measure b ∷ part.name (codes "m") ∷ part.comma ∷ part.money c ∷ part.name
    (codes "per") ∷ part.measure e ∷ part.name (codes "s") ∷ part.condition when ∷ []) (λ first is. is) (h.2) in
    let x1 = fixed decimals (x0.1) (word (codes "per")) (part.name (codes "per"))
    (part.measure b ∷ part.name (codes "m") ∷ part.comma ∷ part.money c ∷ part.name
    (codes "per") ∷ part.measure e ∷ part.name (codes "s") ∷ part.condition when ∷ []) (λ first is. is) (x0.4) in
    let x2 = figured decimals (x1.0) (λ (f : List ℕ). IsAmount 1 f b) (part.measure b)
    (part.name (codes "m") ∷ part.comma ∷ part.money c ∷ part.name (codes "per") ∷ part.measure e ∷ part.name
    (codes "s") ∷ part.condition when ∷ []) (λ first is. is) (x1.2) in
    let x3 = fixed decimals (x2.1) (word (codes "m")) (part.name (codes "m"))
    (part.comma ∷ part.money c ∷ part.name (codes "per") ∷ part.measure e ∷ part.name
    (codes "s") ∷ part.condition when ∷ []) (λ first is. is) (x2.4) in
    let x4 = fixed decimals (x3.0) (sign (codes ",")) (part.comma)
    (part.money c ∷ part.name (codes "per") ∷ part.measure e ∷ part.name (codes "s") ∷ part.condition when ∷ [])
    (λ first is. is) (x3.2) in
    let x5 = figured decimals (x4.0) (λ (f : List ℕ). IsAmount decimals f c) (part.money c)
    (part.name (codes "per") ∷ part.measure e ∷ part.name (codes "s") ∷ part.condition when ∷ []) (λ first is. is)
    (x4.2) in
    let x6 = fixed decimals (x5.1) (word (codes "per")) (part.name (codes "per"))
    (part.measure e ∷ part.name (codes "s") ∷ part.condition when ∷ []) (λ first is. is) (x5.4) in
    let x7 = figured decimals (x6.0) (λ (f : List ℕ). IsAmount 1 f e) (part.measure e)
    (part.name (codes "s") ∷ part.condition when ∷ []) (λ first is. is) (x6.2) in
    let x8 = fixed decimals (x7.1) (word (codes "s")) (part.name (codes "s"))
    (part.condition when ∷ []) (λ first is. is) (x7.4) in
    let x9 = last decimals (x8.0) (part.condition when) (x8.2) in (
      x0.0,
      x2.0,
      x5.0,
      x7.0,
      x8.0,
      h.1 ∙ ap (λ (rest : List Token). word (codes "rate") ∷ rest) (x0.2
          ∙ ap (λ (rest : List Token). figure x0.0 ∷ rest) (x1.1
          ∙ ap (λ (rest : List Token). word (codes "per") ∷ rest) (x2.2
          ∙ ap (λ (rest : List Token). figure x2.0 ∷ rest) (x3.1
          ∙ ap (λ (rest : List Token). word (codes "m") ∷ rest) (x4.1
          ∙ ap (λ (rest : List Token). sign (codes ",") ∷ rest) (x5.2
          ∙ ap (λ (rest : List Token). figure x5.0 ∷ rest) (x6.1
          ∙ ap (λ (rest : List Token). word (codes "per") ∷ rest) (x7.2
          ∙ ap (λ (rest : List Token). figure x7.0 ∷ rest) (x8.1))))))))),
      x0.3,
      x2.3,
      x5.3,
      x7.3,
      x9,
    )
line_of_item decimals ts (minimum amount when) h =
    let x0 = figured decimals (h.0) (λ (f : List ℕ). IsAmount decimals f amount) (part.money amount)
    (part.condition when ∷ []) (λ first is. is) (h.2) in
    let x1 = last decimals (x0.1) (part.condition when) (x0.4) in
    (x0.0, x0.1, h.1 ∙ ap (λ (rest : List Token). word (codes "minimum") ∷ rest) (x0.2), x0.3, x1)

pub item_of_line : (decimals : ℕ) (ts : List Token) (entry : Entry) → IsTableLine decimals ts entry
    → IsItem decimals ts entry
item_of_line decimals ts (step amount rounding) h = (
  figure h.0 ∷ h.1,
  h.2,
  behind decimals (figure h.0 ∷ h.1) (h.1) (figure h.0) (part.money amount)
      (part.rounding rounding ∷ []) refl (h.0, refl, h.3)
      (alone decimals (h.1) (part.rounding rounding) h.4),
)
item_of_line decimals ts (positions number) h =
    (figure h.0 ∷ [], h.1, alone decimals (figure h.0 ∷ []) (part.number 1 9 number) (h.0, refl, h.2))
item_of_line decimals ts (zones number) h =
    (figure h.0 ∷ [], h.1, alone decimals (figure h.0 ∷ []) (part.number 1 9 number) (h.0, refl, h.2))
item_of_line decimals ts (holiday year month date) h =
    (figure h.0 ∷ [], h.1, alone decimals (figure h.0 ∷ []) (part.year_date year month date) (h.0, refl, h.2))
item_of_line decimals ts (supplement number amount most) h = (
  figure h.0 ∷ figure h.1 ∷ word (codes "max") ∷ figure h.2 ∷ [],
  h.3,
  behind decimals (figure h.0 ∷ figure h.1 ∷ word (codes "max") ∷ figure h.2 ∷ []) (figure h.1 ∷ word
      (codes "max") ∷ figure h.2 ∷ []) (figure h.0) (part.number 1 16 number)
      (part.money amount ∷ part.name (codes "max") ∷ part.number 1 99 most ∷ []) refl (h.0, refl, h.4)
      (behind decimals (figure h.1 ∷ word (codes "max") ∷ figure h.2 ∷ []) (word (codes "max") ∷ figure h.2 ∷ [])
      (figure h.1) (part.money amount)
      (part.name (codes "max") ∷ part.number 1 99 most ∷ []) refl (h.1, refl, h.5)
      (behind decimals (word (codes "max") ∷ figure h.2 ∷ []) (figure h.2 ∷ []) (word (codes "max")) (part.name
      (codes "max"))
      (part.number 1 99 most ∷ []) refl refl
      (alone decimals (figure h.2 ∷ []) (part.number 1 99 most) (h.2, refl, h.6)))),
)
item_of_line decimals ts (initial amount covers when) h = (
  figure h.0 ∷ (h.1 ++ h.2),
  h.3,
  behind decimals (figure h.0 ∷ (h.1 ++ h.2)) ((h.1 ++ h.2)) (figure h.0) (part.money amount)
      (part.covers covers ∷ part.condition when ∷ []) refl (h.0, refl, h.4)
      (h.1, h.2, refl, h.5, alone decimals (h.2) (part.condition when) h.6),
)
item_of_line decimals ts (rate a b c e when) h = (
  figure h.0 ∷ word (codes "per") ∷ figure h.1 ∷ word (codes "m") ∷ sign (codes ",") ∷ figure h.2 ∷ word
      (codes "per") ∷ figure h.3 ∷ word (codes "s") ∷ h.4,
  h.5,
  behind decimals (figure h.0 ∷ word (codes "per") ∷ figure h.1 ∷ word (codes "m") ∷ sign
      (codes ",") ∷ figure h.2 ∷ word (codes "per") ∷ figure h.3 ∷ word (codes "s") ∷ h.4) (word
      (codes "per") ∷ figure h.1 ∷ word (codes "m") ∷ sign (codes ",") ∷ figure h.2 ∷ word
      (codes "per") ∷ figure h.3 ∷ word (codes "s") ∷ h.4) (figure h.0) (part.money a)
      (part.name (codes "per") ∷ part.measure b ∷ part.name (codes "m") ∷ part.comma ∷ part.money c ∷ part.name
      (codes "per") ∷ part.measure e ∷ part.name (codes "s") ∷ part.condition when ∷ []) refl (h.0, refl, h.6)
      (behind decimals (word (codes "per") ∷ figure h.1 ∷ word (codes "m") ∷ sign (codes ",") ∷ figure h.2 ∷ word
      (codes "per") ∷ figure h.3 ∷ word (codes "s") ∷ h.4) (figure h.1 ∷ word (codes "m") ∷ sign
      (codes ",") ∷ figure h.2 ∷ word (codes "per") ∷ figure h.3 ∷ word (codes "s") ∷ h.4) (word
      (codes "per")) (part.name (codes "per"))
      (part.measure b ∷ part.name (codes "m") ∷ part.comma ∷ part.money c ∷ part.name
      (codes "per") ∷ part.measure e ∷ part.name (codes "s") ∷ part.condition when ∷ []) refl refl
      (behind decimals (figure h.1 ∷ word (codes "m") ∷ sign (codes ",") ∷ figure h.2 ∷ word
      (codes "per") ∷ figure h.3 ∷ word (codes "s") ∷ h.4) (word (codes "m") ∷ sign
      (codes ",") ∷ figure h.2 ∷ word (codes "per") ∷ figure h.3 ∷ word (codes "s") ∷ h.4) (figure h.1)
      (part.measure b)
      (part.name (codes "m") ∷ part.comma ∷ part.money c ∷ part.name (codes "per") ∷ part.measure e ∷ part.name
      (codes "s") ∷ part.condition when ∷ []) refl (h.1, refl, h.7)
      (behind decimals (word (codes "m") ∷ sign (codes ",") ∷ figure h.2 ∷ word (codes "per") ∷ figure h.3 ∷ word
      (codes "s") ∷ h.4) (sign (codes ",") ∷ figure h.2 ∷ word (codes "per") ∷ figure h.3 ∷ word
      (codes "s") ∷ h.4) (word (codes "m")) (part.name (codes "m"))
      (part.comma ∷ part.money c ∷ part.name (codes "per") ∷ part.measure e ∷ part.name
      (codes "s") ∷ part.condition when ∷ []) refl refl
      (behind decimals (sign (codes ",") ∷ figure h.2 ∷ word (codes "per") ∷ figure h.3 ∷ word (codes "s") ∷ h.4)
      (figure h.2 ∷ word (codes "per") ∷ figure h.3 ∷ word (codes "s") ∷ h.4) (sign (codes ",")) (part.comma)
      (part.money c ∷ part.name (codes "per") ∷ part.measure e ∷ part.name
      (codes "s") ∷ part.condition when ∷ []) refl refl
      (behind decimals (figure h.2 ∷ word (codes "per") ∷ figure h.3 ∷ word (codes "s") ∷ h.4) (word
      (codes "per") ∷ figure h.3 ∷ word (codes "s") ∷ h.4) (figure h.2) (part.money c)
      (part.name (codes "per") ∷ part.measure e ∷ part.name (codes "s") ∷ part.condition when ∷ []) refl (
        h.2,
        refl,
        h.8,
      )
      (behind decimals (word (codes "per") ∷ figure h.3 ∷ word (codes "s") ∷ h.4) (figure h.3 ∷ word
      (codes "s") ∷ h.4) (word (codes "per")) (part.name (codes "per"))
      (part.measure e ∷ part.name (codes "s") ∷ part.condition when ∷ []) refl refl
      (behind decimals (figure h.3 ∷ word (codes "s") ∷ h.4) (word (codes "s") ∷ h.4) (figure h.3) (part.measure e)
      (part.name (codes "s") ∷ part.condition when ∷ []) refl (h.3, refl, h.9)
      (behind decimals (word (codes "s") ∷ h.4) (h.4) (word (codes "s")) (part.name (codes "s"))
      (part.condition when ∷ []) refl refl
      (alone decimals (h.4) (part.condition when) h.10))))))))),
)
item_of_line decimals ts (minimum amount when) h = (
  figure h.0 ∷ h.1,
  h.2,
  behind decimals (figure h.0 ∷ h.1) (h.1) (figure h.0) (part.money amount)
      (part.condition when ∷ []) refl (h.0, refl, h.3)
      (alone decimals (h.1) (part.condition when) h.4),
)

-- ---- ranges

-- the first of parts, and those behind it
head : (p : Part) (ps : List Part) → All IsWritablePart (p ∷ ps) → IsWritablePart p
head p ps h = All-head IsWritablePart p ps h

tail : (p : Part) (ps : List Part) → All IsWritablePart (p ∷ ps) → All IsWritablePart ps
tail p ps h = All-tail IsWritablePart p ps h

cons : (p : Part) (ps : List Part) → IsWritablePart p → All IsWritablePart ps → All IsWritablePart (p ∷ ps)
cons p ps is more = All-cons IsWritablePart p ps is more

none : All IsWritablePart []
none = All-nil IsWritablePart

pub ranges_of_parts : (entry : Entry) → IsWritableEntry entry → HasTableRanges entry
ranges_of_parts (step amount rounding) h =
    head (part.money amount) (part.rounding rounding ∷ []) h
ranges_of_parts (positions number) h =
    head (part.number 1 9 number) ([]) h
ranges_of_parts (zones number) h =
    head (part.number 1 9 number) ([]) h
ranges_of_parts (holiday year month date) h =
    head (part.year_date year month date) ([]) h
ranges_of_parts (supplement number amount most) h =
    let y1 = tail (part.number 1 16 number)
    (part.money amount ∷ part.name (codes "max") ∷ part.number 1 99 most ∷ []) h in
    let y2 = tail (part.money amount)
    (part.name (codes "max") ∷ part.number 1 99 most ∷ []) y1 in
    let y3 = tail (part.name (codes "max"))
    (part.number 1 99 most ∷ []) y2 in (
      head (part.number 1 16 number) (part.money amount ∷ part.name (codes "max") ∷ part.number 1 99 most ∷ []) h,
      head (part.money amount) (part.name (codes "max") ∷ part.number 1 99 most ∷ []) y1,
      head (part.number 1 99 most) ([]) y3,
    )
ranges_of_parts (initial amount covers when) h =
    let y1 = tail (part.money amount)
    (part.covers covers ∷ part.condition when ∷ []) h in
    let y2 = tail (part.covers covers)
    (part.condition when ∷ []) y1 in (
      head (part.money amount) (part.covers covers ∷ part.condition when ∷ []) h,
      head (part.covers covers) (part.condition when ∷ []) y1,
      head (part.condition when) ([]) y2,
    )
ranges_of_parts (rate a b c e when) h =
    let y1 = tail (part.money a)
    (part.name (codes "per") ∷ part.measure b ∷ part.name (codes "m") ∷ part.comma ∷ part.money c ∷ part.name
    (codes "per") ∷ part.measure e ∷ part.name (codes "s") ∷ part.condition when ∷ []) h in
    let y2 = tail (part.name (codes "per"))
    (part.measure b ∷ part.name (codes "m") ∷ part.comma ∷ part.money c ∷ part.name
    (codes "per") ∷ part.measure e ∷ part.name (codes "s") ∷ part.condition when ∷ []) y1 in
    let y3 = tail (part.measure b)
    (part.name (codes "m") ∷ part.comma ∷ part.money c ∷ part.name (codes "per") ∷ part.measure e ∷ part.name
    (codes "s") ∷ part.condition when ∷ []) y2 in
    let y4 = tail (part.name (codes "m"))
    (part.comma ∷ part.money c ∷ part.name (codes "per") ∷ part.measure e ∷ part.name
    (codes "s") ∷ part.condition when ∷ []) y3 in
    let y5 = tail (part.comma)
    (part.money c ∷ part.name (codes "per") ∷ part.measure e ∷ part.name (codes "s") ∷ part.condition when ∷ []) y4 in
    let y6 = tail (part.money c)
    (part.name (codes "per") ∷ part.measure e ∷ part.name (codes "s") ∷ part.condition when ∷ []) y5 in
    let y7 = tail (part.name (codes "per"))
    (part.measure e ∷ part.name (codes "s") ∷ part.condition when ∷ []) y6 in
    let y8 = tail (part.measure e)
    (part.name (codes "s") ∷ part.condition when ∷ []) y7 in
    let y9 = tail (part.name (codes "s"))
    (part.condition when ∷ []) y8 in (
      head (part.money a) (part.name (codes "per") ∷ part.measure b ∷ part.name
          (codes "m") ∷ part.comma ∷ part.money c ∷ part.name (codes "per") ∷ part.measure e ∷ part.name
          (codes "s") ∷ part.condition when ∷ []) h,
      head (part.measure b) (part.name (codes "m") ∷ part.comma ∷ part.money c ∷ part.name
          (codes "per") ∷ part.measure e ∷ part.name (codes "s") ∷ part.condition when ∷ []) y2,
      head (part.money c) (part.name (codes "per") ∷ part.measure e ∷ part.name
          (codes "s") ∷ part.condition when ∷ []) y5,
      head (part.measure e) (part.name (codes "s") ∷ part.condition when ∷ []) y7,
      head (part.condition when) ([]) y9,
    )
ranges_of_parts (minimum amount when) h =
    let y1 = tail (part.money amount)
    (part.condition when ∷ []) h in (
      head (part.money amount) (part.condition when ∷ []) h,
      head (part.condition when) ([]) y1,
    )

pub parts_of_ranges : (entry : Entry) → HasTableRanges entry → IsWritableEntry entry
parts_of_ranges (step amount rounding) h =
    cons (part.money amount) (part.rounding rounding ∷ []) h
    (cons (part.rounding rounding) ([]) tt none)
parts_of_ranges (positions number) h =
    cons (part.number 1 9 number) ([]) h none
parts_of_ranges (zones number) h =
    cons (part.number 1 9 number) ([]) h none
parts_of_ranges (holiday year month date) h =
    cons (part.year_date year month date) ([]) h none
parts_of_ranges (supplement number amount most) h =
    cons (part.number 1 16 number) (part.money amount ∷ part.name (codes "max") ∷ part.number 1 99 most ∷ []) h.0
    (cons (part.money amount) (part.name (codes "max") ∷ part.number 1 99 most ∷ []) h.1
    (cons (part.name (codes "max")) (part.number 1 99 most ∷ []) tt
    (cons (part.number 1 99 most) ([]) h.2 none)))
parts_of_ranges (initial amount covers when) h =
    cons (part.money amount) (part.covers covers ∷ part.condition when ∷ []) h.0
    (cons (part.covers covers) (part.condition when ∷ []) h.1
    (cons (part.condition when) ([]) h.2 none))
parts_of_ranges (rate a b c e when) h =
    cons (part.money a) (part.name (codes "per") ∷ part.measure b ∷ part.name
    (codes "m") ∷ part.comma ∷ part.money c ∷ part.name (codes "per") ∷ part.measure e ∷ part.name
    (codes "s") ∷ part.condition when ∷ []) h.0
    (cons (part.name (codes "per")) (part.measure b ∷ part.name (codes "m") ∷ part.comma ∷ part.money c ∷ part.name
    (codes "per") ∷ part.measure e ∷ part.name (codes "s") ∷ part.condition when ∷ []) tt
    (cons (part.measure b) (part.name (codes "m") ∷ part.comma ∷ part.money c ∷ part.name
    (codes "per") ∷ part.measure e ∷ part.name (codes "s") ∷ part.condition when ∷ []) h.1
    (cons (part.name (codes "m")) (part.comma ∷ part.money c ∷ part.name (codes "per") ∷ part.measure e ∷ part.name
    (codes "s") ∷ part.condition when ∷ []) tt
    (cons (part.comma) (part.money c ∷ part.name (codes "per") ∷ part.measure e ∷ part.name
    (codes "s") ∷ part.condition when ∷ []) tt
    (cons (part.money c) (part.name (codes "per") ∷ part.measure e ∷ part.name
    (codes "s") ∷ part.condition when ∷ []) h.2
    (cons (part.name (codes "per")) (part.measure e ∷ part.name (codes "s") ∷ part.condition when ∷ []) tt
    (cons (part.measure e) (part.name (codes "s") ∷ part.condition when ∷ []) h.3
    (cons (part.name (codes "s")) (part.condition when ∷ []) tt
    (cons (part.condition when) ([]) h.4 none)))))))))
parts_of_ranges (minimum amount when) h =
    cons (part.money amount) (part.condition when ∷ []) h.0
    (cons (part.condition when) ([]) h.1 none)
