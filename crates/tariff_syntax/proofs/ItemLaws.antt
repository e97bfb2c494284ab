-- What a line says is read from its form.
use Rattle.std.proofs.Common.{[], ℕ, ◌++◌, ◌∙◌, ◌∷◌, ◌≡◌, ◌≤◌, List, None, Option, Some, ap, arith, codes, inl, inr}
use Rattle.std.proofs.{Common.{refl, subst, sym}, lemmas.{Bool.{le-leb, leb-true}, List.{append-nil}}}
use Rattle.{tariff_tree.specs.Tree.{holiday}, tariff_syntax.specs.Words.{after_sign, after_word, word_first}}
use Rattle.tariff_syntax.specs.Common.{Ahead, Behind, Condition, Entry, Part, Rounding, initial, minimum, parts_of}
use Rattle.tariff_syntax.specs.{Common.{positions, rate, step, supplement, word_of, zones}, IsCondition.{IsCondition}}
use Rattle.tariff_syntax.specs.{Figure.{amount_first, number_first, year_date_first, year_date_read}, Forms.{IsNumber}}
use Rattle.tariff_syntax.specs.Grammar.{bounded_condition, condition_alone, condition_by, factor_first, when_read}
use Rattle.tariff_syntax.specs.IsItem.{AreParts, IsCovers, IsDecimals, IsItem, IsPart, IsRounding, IsWhen}
use Rattle.tariff_syntax.specs.Items.{count_read, covers_after, covers_first, decimals_read, holiday_read, initial_read}
use Rattle.tariff_syntax.specs.Items.{item_named, item_read, minimum_read, per_first, plain_named, positions_read}
use Rattle.tariff_syntax.specs.Items.{rate_read, rounding_end, rounding_read, step_read, supplement_read, zones_read}
use Rattle.tariff_syntax.specs.Printed.{rounding_word}
use Rattle.tariff_syntax.{specs.{PrintedCondition.{whole}, Weight.{weight}}, proofs.ConditionLaws.{condition_found}}
use Rattle.tariff_syntax.{specs.Token.{Token, figure, sign, word}, proofs.ConditionAgain.{condition_again, size_is}}
use Rattle.tariff_syntax.proofs.AtomLaws.{amount_here, amounts_are, number_here, number_is}
use Rattle.tariff_syntax.proofs.FigureLaws.{figure_as_here, figure_as_is, year_date_again, year_date_is}
use Rattle.tariff_syntax.proofs.Tools.{after_sign_here, after_sign_is, after_word_here, after_word_is, bind_some}
use Rattle.tariff_syntax.proofs.Tools.{by_word, chosen, ended_is, some_same, word_first_here, word_first_is}
use Rattle.tariff_tree.specs.Part as part

nothing_behind : (w : List ℕ) → (after_sign w [] ≡ None) × (after_word w [] ≡ None)
unfolding after_sign after_word
nothing_behind w = (refl, refl)

alone_is : (ts : List Token) (c : Condition) → condition_alone ts ≡ Some c → IsCondition whole ts c
alone_is ts c e =
    let one = bind_some (condition_by (factor_first 64) ts) _ c e in
    let end = ended_is one.0.1 one.0.0 c one.2 in
    let found = condition_found ts one.0 one.1 in
    let all : ts ≡ found.0 = found.1 ∙ (ap (λ (r : List Token). found.0 ++ r) end.0 ∙ append-nil found.0) in
    subst (λ (us : List Token). IsCondition whole us c) (sym all) (subst (IsCondition whole found.0) end.1 found.2)

bounded_is : (ts : List Token) (c : Condition) → bounded_condition ts ≡ Some c
    → IsCondition whole ts c × (weight ts ≤ 64)
unfolding bounded_condition
bounded_is ts c e = elim (chosen _ (condition_alone ts) None (Some c) e) [
  | inl a ↦ (alone_is ts c a.1, leb-true _ _ a.0)
  | inr a ↦ absurd (let none : None ≡ Some c = a.1 in cc)
]

bounded_again : (ts : List Token) (c : Condition) → IsCondition whole ts c → weight ts ≤ 64
    → bounded_condition ts ≡ Some c
unfolding bounded_condition
bounded_again ts c h few =
    let free = nothing_behind in
    let read : condition_by (factor_first 64) ts ≡ Some (c, []) =
    ap (condition_by (factor_first 64)) (sym (append-nil ts))
    ∙ condition_again ts c [] h few ((free (codes "..")).0, (free (codes "and")).1, (free (codes "or")).1) in
    rw (le-leb _ _ few, read) refl

pub when_is : (ts : List Token) (when : Option Condition) → when_read ts ≡ Some when → IsWhen ts when
unfolding when_read
when_is [] when e = subst (IsWhen []) (some_same None when e) refl
when_is (t ∷ ts) when e =
    let one = bind_some (after_word (codes "when") (t ∷ ts)) _ when e in
    let two = bind_some (bounded_condition one.0) _ when one.2 in
    let is = bounded_is one.0 two.0 two.1 in
    subst (IsWhen (t ∷ ts)) (some_same (Some two.0) when two.2) (
      one.0,
      after_word_is (codes "when") (t ∷ ts) one.0 one.1,
      is.0,
      omega (arith, size_is whole one.0 two.0 is.0, is.1),
    )

pub when_again : (ts : List Token) (when : Option Condition) → IsWhen ts when → when_read ts ≡ Some when
unfolding when_read
when_again ts None h = rw h refl
when_again ts (Some c) h =
    let few : weight h.0 ≤ 64 = omega (arith, size_is whole h.0 c h.2, h.3) in
    rw (h.1, after_word_here (codes "when") h.0, bounded_again h.0 c h.2 few) refl

named_rounding : (name : List ℕ) (r : Rounding) → rounding_read name ≡ Some r → name ≡ rounding_word r
named_rounding name r e =
    let P : List ℕ → Type 0 = λ w. w ≡ rounding_word r in
    by_word P name (codes "behind") _ _ r e (λ e. ap rounding_word (some_same Behind r e)) (
    λ e. by_word P name (codes "ahead") _ _ r e (λ e. ap rounding_word (some_same Ahead r e)) (
    λ e. absurd (let none : None ≡ Some r = e in cc)))

rounding_again : (r : Rounding) → rounding_read (rounding_word r) ≡ Some r
rounding_again Behind = refl
rounding_again Ahead = refl

rounding_is : (ts : List Token) (r : Rounding) → rounding_end ts ≡ Some r → IsRounding ts r
unfolding rounding_end
rounding_is [] r e = inl (refl, sym (some_same Behind r e))
rounding_is (t ∷ ts) r e =
    let one = bind_some (word_first (t ∷ ts)) _ r e in
    let two = bind_some (rounding_read one.0.0) _ r one.2 in
    let end = ended_is one.0.1 two.0 r two.2 in
    let name = named_rounding one.0.0 r (two.1 ∙ ap Some end.1) in
    inr (word_first_is (t ∷ ts) one.0 one.1
    ∙ (ap (λ (w : List ℕ). word w ∷ one.0.1) name ∙ ap (λ (us : List Token). word (rounding_word r) ∷ us) end.0))

rounding_here : (ts : List Token) (r : Rounding) → IsRounding ts r → rounding_end ts ≡ Some r
unfolding rounding_end
rounding_here ts r (inl h) = rw (h.0, h.1) refl
rounding_here ts r (inr h) = rw (h, word_first_here (rounding_word r) [], rounding_again r) refl

covers_is_by : (decimals : ℕ) (ts : List Token) (more : Option (List Token)) (x : ℕ × List Token)
    → after_word (codes "covers") ts ≡ more → covers_after decimals ts more ≡ Some x
    → (cs : List Token) × (ts ≡ cs ++ x.1) × IsCovers decimals cs x.0
covers_is_by decimals ts None x here e =
    let found = some_same (0, ts) x e in
    ([], ap (λ (p : ℕ × List Token). p.1) found, inl (refl, sym (ap (λ (p : ℕ × List Token). p.0) found)))
covers_is_by decimals ts (Some rest) x here e =
    let is = amounts_are decimals rest x e in (
      word (codes "covers") ∷ figure is.0 ∷ [],
      after_word_is (codes "covers") ts rest here ∙ ap (λ (us : List Token). word (codes "covers") ∷ us) is.1,
      inr (is.0, refl, is.2),
    )

covers_is : (decimals : ℕ) (ts : List Token) (x : ℕ × List Token) → covers_first decimals ts ≡ Some x
    → (cs : List Token) × (ts ≡ cs ++ x.1) × IsCovers decimals cs x.0
unfolding covers_first
covers_is decimals ts x e = covers_is_by decimals ts (after_word (codes "covers") ts) x refl e

when_covers_nothing : (ts : List Token) (when : Option Condition) → IsWhen ts when
    → after_word (codes "covers") ts ≡ None
unfolding after_word
when_covers_nothing ts None h = rw h refl
when_covers_nothing ts (Some c) h = rw h.1 refl

covers_here : (decimals : ℕ) (cs ws : List Token) (n : ℕ) (when : Option Condition) → IsCovers decimals cs n
    → IsWhen ws when → covers_first decimals (cs ++ ws) ≡ Some (n, ws)
unfolding covers_first
covers_here decimals cs ws n when (inl h) w = rw (h.0, when_covers_nothing ws when w, h.1) refl
covers_here decimals cs ws n when (inr h) w =
    rw (h.1, after_word_here (codes "covers") (figure h.0 ∷ ws), amount_here decimals h.0 n ws h.2) refl

-- one part is what all of the tokens are
last : (decimals : ℕ) (ts : List Token) (p : Part) → IsPart decimals ts p → AreParts decimals ts (p ∷ [])
last decimals ts p h = (ts, [], sym (append-nil ts), h, refl)

alone : (decimals : ℕ) (ts : List Token) (p : Part) → AreParts decimals ts (p ∷ []) → IsPart decimals ts p
alone decimals ts p h =
    let all : ts ≡ h.0 = h.2 ∙ (ap (λ (us : List Token). h.0 ++ us) h.4 ∙ append-nil h.0) in
    subst (λ (us : List Token). IsPart decimals us p) (sym all) h.3

-- a part was read, and behind it stand others
name_is : (decimals : ℕ) (w : List ℕ) (ts rest : List Token) (ps : List Part) → after_word w ts ≡ Some rest
    → AreParts decimals rest ps → AreParts decimals ts (part.name w ∷ ps)
name_is decimals w ts rest ps e h = (word w ∷ [], rest, after_word_is w ts rest e, refl, h)

comma_is : (decimals : ℕ) (ts rest : List Token) (ps : List Part) → after_sign (codes ",") ts ≡ Some rest
    → AreParts decimals rest ps → AreParts decimals ts (part.comma ∷ ps)
comma_is decimals ts rest ps e h = (sign (codes ",") ∷ [], rest, after_sign_is (codes ",") ts rest e, refl, h)

money_is : (decimals : ℕ) (ts : List Token) (x : ℕ × List Token) (ps : List Part) → amount_first decimals ts ≡ Some x
    → AreParts decimals x.1 ps → AreParts decimals ts (part.money x.0 ∷ ps)
money_is decimals ts x ps e h =
    let is = amounts_are decimals ts x e in (figure is.0 ∷ [], x.1, is.1, (is.0, refl, is.2), h)

measure_is : (decimals : ℕ) (ts : List Token) (x : ℕ × List Token) (ps : List Part) → amount_first 1 ts ≡ Some x
    → AreParts decimals x.1 ps → AreParts decimals ts (part.measure x.0 ∷ ps)
measure_is decimals ts x ps e h =
    let is = amounts_are 1 ts x e in (figure is.0 ∷ [], x.1, is.1, (is.0, refl, is.2), h)

counted_is : (decimals least most : ℕ) (ts : List Token) (x : ℕ × List Token) (ps : List Part)
    → number_first least most ts ≡ Some x → AreParts decimals x.1 ps
    → AreParts decimals ts (part.number least most x.0 ∷ ps)
counted_is decimals least most ts x ps e h =
    let is = number_is least most ts x e in (figure is.0 ∷ [], x.1, is.1, (is.0, refl, is.2), h)

covered_is : (decimals : ℕ) (ts : List Token) (x : ℕ × List Token) (ps : List Part) → covers_first decimals ts ≡ Some x
    → AreParts decimals x.1 ps → AreParts decimals ts (part.covers x.0 ∷ ps)
covered_is decimals ts x ps e h = let is = covers_is decimals ts x e in (is.0, x.1, is.1, is.2, h)

-- an amount for a measure, and others behind it
abbrev per_parts : (unit : List ℕ) (amount measure : ℕ) → List Part → List Part
per_parts unit amount measure ps =
    part.money amount ∷ part.name (codes "per") ∷ part.measure measure ∷ part.name unit ∷ ps

per_is : (decimals : ℕ) (unit : List ℕ) (ts : List Token) (x : (ℕ × ℕ) × List Token) (ps : List Part)
    → per_first decimals unit ts ≡ Some x → AreParts decimals x.1 ps
    → AreParts decimals ts (per_parts unit x.0.0 x.0.1 ps)
unfolding per_first
per_is decimals unit ts x ps e =
    let one = bind_some (amount_first decimals ts) _ x e in
    let two = bind_some (after_word (codes "per") one.0.1) _ x one.2 in
    let three = bind_some (amount_first 1 two.0) _ x two.2 in
    let four = bind_some (after_word unit three.0.1) _ x three.2 in
    let end = part.name unit ∷ ps in
    let more = part.measure three.0.0 ∷ end in
    let P : (ℕ × ℕ) × List Token → Type 0 =
    λ y. AreParts decimals y.1 ps → AreParts decimals ts (per_parts unit y.0.0 y.0.1 ps) in
    subst P {x = ((one.0.0, three.0.0), four.0)} (some_same ((one.0.0, three.0.0), four.0) x four.2)
    (λ h. money_is decimals ts one.0 (part.name (codes "per") ∷ more) one.1
    (name_is decimals (codes "per") one.0.1 two.0 more two.1
    (measure_is decimals two.0 three.0 end three.1 (name_is decimals unit three.0.1 four.0 ps four.1 h))))

-- a part is read, and behind it stand the others
name_again : (decimals : ℕ) (w : List ℕ) (ts : List Token) (ps : List Part) → AreParts decimals ts (part.name w ∷ ps)
    → (rest : List Token) × (after_word w ts ≡ Some rest) × AreParts decimals rest ps
name_again decimals w ts ps h = (h.1, rw (h.2, h.3) (after_word_here w h.1), h.4)

comma_again : (decimals : ℕ) (ts : List Token) (ps : List Part) → AreParts decimals ts (part.comma ∷ ps)
    → (rest : List Token) × (after_sign (codes ",") ts ≡ Some rest) × AreParts decimals rest ps
comma_again decimals ts ps h = (h.1, rw (h.2, h.3) (after_sign_here (codes ",") h.1), h.4)

money_again : (decimals n : ℕ) (ts : List Token) (ps : List Part) → AreParts decimals ts (part.money n ∷ ps)
    → (rest : List Token) × (amount_first decimals ts ≡ Some (n, rest)) × AreParts decimals rest ps
money_again decimals n ts ps h = (h.1, rw (h.2, h.3.1) (amount_here decimals h.3.0 n h.1 h.3.2), h.4)

measure_again : (decimals n : ℕ) (ts : List Token) (ps : List Part) → AreParts decimals ts (part.measure n ∷ ps)
    → (rest : List Token) × (amount_first 1 ts ≡ Some (n, rest)) × AreParts decimals rest ps
measure_again decimals n ts ps h = (h.1, rw (h.2, h.3.1) (amount_here 1 h.3.0 n h.1 h.3.2), h.4)

counted_again : (decimals least most n : ℕ) (ts : List Token) (ps : List Part)
    → AreParts decimals ts (part.number least most n ∷ ps)
    → (rest : List Token) × (number_first least most ts ≡ Some (n, rest)) × AreParts decimals rest ps
counted_again decimals least most n ts ps h =
    (h.1, rw (h.2, h.3.1) (number_here least most h.3.0 n h.1 h.3.2), h.4)

covered_again : (decimals n : ℕ) (when : Option Condition) (ts : List Token)
    → AreParts decimals ts (part.covers n ∷ part.condition when ∷ [])
    → (rest : List Token) × (covers_first decimals ts ≡ Some (n, rest))
    × AreParts decimals rest (part.condition when ∷ [])
covered_again decimals n when ts h =
    (h.1, rw h.2 (covers_here decimals h.0 h.1 n when h.3 (alone decimals h.1 (part.condition when) h.4)), h.4)

per_again : (decimals : ℕ) (unit : List ℕ) (a b : ℕ) (ts : List Token) (ps : List Part)
    → AreParts decimals ts (per_parts unit a b ps)
    → (rest : List Token) × (per_first decimals unit ts ≡ Some ((a, b), rest)) × AreParts decimals rest ps
unfolding per_first
per_again decimals unit a b ts ps h =
    let end = part.name unit ∷ ps in
    let more = part.measure b ∷ end in
    let one = money_again decimals a ts (part.name (codes "per") ∷ more) h in
    let two = name_again decimals (codes "per") one.0 more one.2 in
    let three = measure_again decimals b two.0 end two.2 in
    let four = name_again decimals unit three.0 ps three.2 in
    (four.0, rw (one.1, two.1, three.1, four.1) refl, four.2)

-- a number alone, and a condition at the end
count_is : (decimals : ℕ) (ts : List Token) (n : ℕ) → count_read ts ≡ Some n
    → AreParts decimals ts (part.number 1 9 n ∷ [])
unfolding count_read
count_is decimals ts n e =
    let one = bind_some (number_first 1 9 ts) _ n e in
    let end = ended_is one.0.1 one.0.0 n one.2 in
    subst (λ (k : ℕ). AreParts decimals ts (part.number 1 9 k ∷ [])) end.1
    (counted_is decimals 1 9 ts one.0 [] one.1 end.0)

count_again : (decimals n : ℕ) (ts : List Token) → AreParts decimals ts (part.number 1 9 n ∷ [])
    → count_read ts ≡ Some n
unfolding count_read
count_again decimals n ts h = let one = counted_again decimals 1 9 n ts [] h in rw (one.1, one.2) refl

end_is : (decimals : ℕ) (ts : List Token) (when : Option Condition) → when_read ts ≡ Some when
    → AreParts decimals ts (part.condition when ∷ [])
end_is decimals ts when e = last decimals ts (part.condition when) (when_is ts when e)

end_again : (decimals : ℕ) (when : Option Condition) (ts : List Token)
    → AreParts decimals ts (part.condition when ∷ []) → when_read ts ≡ Some when
end_again decimals when ts h = when_again ts when (alone decimals ts (part.condition when) h)

-- a line says the entry of which it has the word and the parts
said : (decimals : ℕ) (ts : List Token) (x y : Entry) → x ≡ y → AreParts decimals ts (parts_of x)
    → IsItem decimals (word (word_of x) ∷ ts) y
said decimals ts x y same h = subst (IsItem decimals (word (word_of x) ∷ ts)) same (ts, refl, h)

step_is : (decimals : ℕ) (ts : List Token) (x : Entry) → step_read decimals ts ≡ Some x
    → IsItem decimals (word (codes "step") ∷ ts) x
unfolding step_read
step_is decimals ts x e =
    let one = bind_some (amount_first decimals ts) _ x e in
    let two = bind_some (rounding_end one.0.1) _ x one.2 in
    let is = last decimals one.0.1 (part.rounding two.0) (rounding_is one.0.1 two.0 two.1) in
    said decimals ts (step one.0.0 two.0) x (some_same (step one.0.0 two.0) x two.2)
    (money_is decimals ts one.0 (part.rounding two.0 ∷ []) one.1 is)

positions_are : (decimals : ℕ) (ts : List Token) (x : Entry) → positions_read ts ≡ Some x
    → IsItem decimals (word (codes "positions") ∷ ts) x
positions_are decimals ts x e =
    let one = bind_some (count_read ts) _ x e in
    said decimals ts (positions one.0) x (some_same (positions one.0) x one.2) (count_is decimals ts one.0 one.1)

zones_are : (decimals : ℕ) (ts : List Token) (x : Entry) → zones_read ts ≡ Some x
    → IsItem decimals (word (codes "zones") ∷ ts) x
zones_are decimals ts x e =
    let one = bind_some (count_read ts) _ x e in
    said decimals ts (zones one.0) x (some_same (zones one.0) x one.2) (count_is decimals ts one.0 one.1)

holiday_is : (decimals : ℕ) (ts : List Token) (x : Entry) → holiday_read ts ≡ Some x
    → IsItem decimals (word (codes "holiday") ∷ ts) x
unfolding holiday_read year_date_first
holiday_is decimals ts x e =
    let one = bind_some (year_date_first ts) _ x e in
    let d = one.0.0 in
    let end = ended_is one.0.1 (holiday d.0 d.1 d.2) x one.2 in
    let f = figure_as_is year_date_read ts one.0 one.1 in
    said decimals ts (holiday d.0 d.1 d.2) x end.1
    (figure f.0 ∷ [], one.0.1, f.1, (f.0, refl, year_date_is f.0 d.0 d.1 d.2 f.2), end.0)

holiday_again : (decimals year month date : ℕ) (ts : List Token)
    → AreParts decimals ts (part.year_date year month date ∷ []) → holiday_read ts ≡ Some (holiday year month date)
unfolding holiday_read year_date_first
holiday_again decimals year month date ts h =
    let is = alone decimals ts (part.year_date year month date) h in
    let read = year_date_again is.0 year month date is.2 in
    rw (is.1, figure_as_here year_date_read is.0 (year, month, date) [] read) refl

supplement_is : (decimals : ℕ) (ts : List Token) (x : Entry) → supplement_read decimals ts ≡ Some x
    → IsItem decimals (word (codes "supplement") ∷ ts) x
unfolding supplement_read
supplement_is decimals ts x e =
    let one = bind_some (number_first 1 16 ts) _ x e in
    let two = bind_some (amount_first decimals one.0.1) _ x one.2 in
    let three = bind_some (after_word (codes "max") two.0.1) _ x two.2 in
    let four = bind_some (number_first 1 99 three.0) _ x three.2 in
    let end = ended_is four.0.1 (supplement one.0.0 two.0.0 four.0.0) x four.2 in
    let most = part.number 1 99 four.0.0 ∷ [] in
    let max = part.name (codes "max") ∷ most in
    said decimals ts (supplement one.0.0 two.0.0 four.0.0) x end.1
    (counted_is decimals 1 16 ts one.0 (part.money two.0.0 ∷ max) one.1
    (money_is decimals one.0.1 two.0 max two.1 (name_is decimals (codes "max") two.0.1 three.0 most three.1
    (counted_is decimals 1 99 three.0 four.0 [] four.1 end.0))))

initial_is : (decimals : ℕ) (ts : List Token) (x : Entry) → initial_read decimals ts ≡ Some x
    → IsItem decimals (word (codes "initial") ∷ ts) x
unfolding initial_read
initial_is decimals ts x e =
    let one = bind_some (amount_first decimals ts) _ x e in
    let two = bind_some (covers_first decimals one.0.1) _ x one.2 in
    let three = bind_some (when_read two.0.1) _ x two.2 in
    let end = part.condition three.0 ∷ [] in
    said decimals ts (initial one.0.0 two.0.0 three.0) x (some_same (initial one.0.0 two.0.0 three.0) x three.2)
    (money_is decimals ts one.0 (part.covers two.0.0 ∷ end) one.1
    (covered_is decimals one.0.1 two.0 end two.1 (end_is decimals two.0.1 three.0 three.1)))

rate_is : (decimals : ℕ) (ts : List Token) (x : Entry) → rate_read decimals ts ≡ Some x
    → IsItem decimals (word (codes "rate") ∷ ts) x
unfolding rate_read
rate_is decimals ts x e =
    let one = bind_some (per_first decimals (codes "m") ts) _ x e in
    let two = bind_some (after_sign (codes ",") one.0.1) _ x one.2 in
    let three = bind_some (per_first decimals (codes "s") two.0) _ x two.2 in
    let four = bind_some (when_read three.0.1) _ x three.2 in
    let end = part.condition four.0 ∷ [] in
    let time = per_parts (codes "s") three.0.0.0 three.0.0.1 end in
    let found = rate one.0.0.0 one.0.0.1 three.0.0.0 three.0.0.1 four.0 in
    said decimals ts found x (some_same found x four.2) (per_is decimals (codes "m") ts one.0 (part.comma ∷ time) one.1
    (comma_is decimals one.0.1 two.0 time two.1 (per_is decimals (codes "s") two.0 three.0 end three.1
    (end_is decimals three.0.1 four.0 four.1))))

minimum_is : (decimals : ℕ) (ts : List Token) (x : Entry) → minimum_read decimals ts ≡ Some x
    → IsItem decimals (word (codes "minimum") ∷ ts) x
unfolding minimum_read
minimum_is decimals ts x e =
    let one = bind_some (amount_first decimals ts) _ x e in
    let two = bind_some (when_read one.0.1) _ x one.2 in
    said decimals ts (minimum one.0.0 two.0) x (some_same (minimum one.0.0 two.0) x two.2)
    (money_is decimals ts one.0 (part.condition two.0 ∷ []) one.1 (end_is decimals one.0.1 two.0 two.1))

plain_is : (decimals : ℕ) (name : List ℕ) (ts : List Token) (x : Entry) → plain_named decimals name ts ≡ Some x
    → IsItem decimals (word name ∷ ts) x
unfolding plain_named
plain_is decimals name ts x e =
    let P : List ℕ → Type 0 = λ w. IsItem decimals (word w ∷ ts) x in
    by_word P name (codes "step") _ _ x e (step_is decimals ts x) (
    λ e. by_word P name (codes "positions") _ _ x e (positions_are decimals ts x) (
    λ e. by_word P name (codes "zones") _ _ x e (zones_are decimals ts x) (
    λ e. by_word P name (codes "holiday") _ _ x e (holiday_is decimals ts x) (
    λ e. by_word P name (codes "supplement") _ _ x e (supplement_is decimals ts x) (
    λ e. absurd (let none : None ≡ Some x = e in cc))))))

named_is : (decimals : ℕ) (name : List ℕ) (ts : List Token) (x : Entry) → item_named decimals name ts ≡ Some x
    → IsItem decimals (word name ∷ ts) x
unfolding item_named
named_is decimals name ts x e =
    let P : List ℕ → Type 0 = λ w. IsItem decimals (word w ∷ ts) x in
    by_word P name (codes "initial") _ _ x e (initial_is decimals ts x) (
    λ e. by_word P name (codes "rate") _ _ x e (rate_is decimals ts x) (
    λ e. by_word P name (codes "minimum") _ _ x e (minimum_is decimals ts x) (
    λ e. plain_is decimals name ts x e)))

-- an entry that is read has its form
pub item_is : (decimals : ℕ) (ts : List Token) (x : Entry) → item_read decimals ts ≡ Some x → IsItem decimals ts x
unfolding item_read
item_is decimals ts x e =
    let one = bind_some (word_first ts) _ x e in
    subst (λ (us : List Token). IsItem decimals us x) (sym (word_first_is ts one.0 one.1))
    (named_is decimals one.0.0 one.0.1 x one.2)

-- what has the form of an entry is read
pub item_again : (decimals : ℕ) (ts : List Token) (x : Entry) → IsItem decimals ts x → item_read decimals ts ≡ Some x
unfolding item_read item_named plain_named step_read supplement_read initial_read rate_read minimum_read
item_again decimals ts (step amount rounding) h =
    let one = money_again decimals amount h.0 (part.rounding rounding ∷ []) h.2 in
    let two = rounding_here one.0 rounding (alone decimals one.0 (part.rounding rounding) one.2) in
    rw (h.1, word_first_here (codes "step") h.0, one.1, two) refl
item_again decimals ts (positions n) h =
    rw (h.1, word_first_here (codes "positions") h.0, count_again decimals n h.0 h.2) refl
item_again decimals ts (zones n) h =
    rw (h.1, word_first_here (codes "zones") h.0, count_again decimals n h.0 h.2) refl
item_again decimals ts (holiday year month date) h =
    rw (h.1, word_first_here (codes "holiday") h.0, holiday_again decimals year month date h.0 h.2) refl
item_again decimals ts (supplement number amount most) h =
    let last = part.number 1 99 most ∷ [] in
    let max = part.name (codes "max") ∷ last in
    let one = counted_again decimals 1 16 number h.0 (part.money amount ∷ max) h.2 in
    let two = money_again decimals amount one.0 max one.2 in
    let three = name_again decimals (codes "max") two.0 last two.2 in
    let four = counted_again decimals 1 99 most three.0 [] three.2 in
    rw (h.1, word_first_here (codes "supplement") h.0, one.1, two.1, three.1, four.1, four.2) refl
item_again decimals ts (initial amount covers when) h =
    let one = money_again decimals amount h.0 (part.covers covers ∷ part.condition when ∷ []) h.2 in
    let two = covered_again decimals covers when one.0 one.2 in
    let three = end_again decimals when two.0 two.2 in
    rw (h.1, word_first_here (codes "initial") h.0, one.1, two.1, three) refl
item_again decimals ts (rate a b c e when) h =
    let end = part.condition when ∷ [] in
    let time = per_parts (codes "s") c e end in
    let one = per_again decimals (codes "m") a b h.0 (part.comma ∷ time) h.2 in
    let two = comma_again decimals one.0 time one.2 in
    let three = per_again decimals (codes "s") c e two.0 end two.2 in
    let four = end_again decimals when three.0 three.2 in
    rw (h.1, word_first_here (codes "rate") h.0, one.1, two.1, three.1, four) refl
item_again decimals ts (minimum amount when) h =
    let one = money_again decimals amount h.0 (part.condition when ∷ []) h.2 in
    let two = end_again decimals when one.0 one.2 in
    rw (h.1, word_first_here (codes "minimum") h.0, one.1, two) refl

pub decimals_are : (ts : List Token) (n : ℕ) → decimals_read ts ≡ Some n → IsDecimals ts n
unfolding decimals_read
decimals_are ts n e =
    let one = bind_some (after_word (codes "decimals") ts) _ n e in
    let two = bind_some (number_first 0 3 one.0) _ n one.2 in
    let end = ended_is two.0.1 two.0.0 n two.2 in
    let f = number_is 0 3 one.0 two.0 two.1 in (
      f.0,
      after_word_is (codes "decimals") ts one.0 one.1 ∙ ap (λ (us : List Token). word (codes "decimals") ∷ us)
          (f.1 ∙ ap (λ (us : List Token). figure f.0 ∷ us) end.0),
      subst (IsNumber 0 3 f.0) end.1 f.2,
    )

pub decimals_again : (ts : List Token) (n : ℕ) → IsDecimals ts n → decimals_read ts ≡ Some n
unfolding decimals_read
decimals_again ts n h =
    rw (h.1, after_word_here (codes "decimals") (figure h.0 ∷ []), number_here 0 3 h.0 n [] h.2) refl
