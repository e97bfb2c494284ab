-- Shares with an entry more.
use Rattle.std.{specs.List.{All}, proofs.lemmas.{Bool.{eq-eqb, ne_eqb}, List.{get_or-set_same}}}
use Rattle.std.proofs.Common.{[], ℕ, ◌&&◌, ◌+◌, ◌<◌, ◌∙◌, ◌∷◌, ◌≡◌, Bool, List, ap, arith, false, get_or, if◌then◌else◌}
use Rattle.std.proofs.{Common.{length, refl, set, subst, suc, true, zero}, lemmas.List.Elements.{All-get_or}}
use Rattle.totals_record.specs.{Common.{Entry, Share}, Entries.{closes, closes_at, no_share, share_with, shares_with}}
use Rattle.totals_record.specs.Table.{share_in}

same_share : (hirings hirings' fare fare' : ℕ) → hirings ≡ hirings' → fare ≡ fare'
    → share_in hirings fare ≡ share_in hirings' fare'
same_share hirings hirings' fare fare' one two =
    ap (λ (n : ℕ). share_in n fare) one ∙ ap (λ (n : ℕ). share_in hirings' n) two

-- a share of another position stays
pub share_apart : (entry : Entry) (position : ℕ) (share : Share) → closes_at position entry ≡ false
    → share_with entry position share ≡ share
share_apart entry position share apart = same_share _ _ _ _
    (ap (λ (b : Bool). share.hirings + (if b then 1 else 0)) apart ∙ omega arith)
    (ap (λ (b : Bool). share.fare + (if b then entry.fare else 0)) apart ∙ omega arith)

-- shares of other positions stay
pub shares_apart : (entry : Entry) (first : ℕ) (shares : List Share)
    → ((i : ℕ) → i < length shares → closes_at (first + i) entry ≡ false) → shares_with entry first shares ≡ shares
shares_apart entry first [] apart = refl
shares_apart entry first (share ∷ others) apart =
    ap (λ (s : Share). s ∷ shares_with entry (first + 1) others)
    (share_apart entry first share (subst (λ (p : ℕ). closes_at p entry ≡ false) (omega arith) (apart 0 (omega arith))))
    ∙ ap (λ (l : List Share). share ∷ l) (shares_apart entry (first + 1) others
    (λ i within. subst (λ (p : ℕ). closes_at p entry ≡ false) (omega arith) (apart (i + 1) (omega (arith, within)))))

-- an entry closes at no other position than its own
pub elsewhere : (entry : Entry) (position : ℕ) → (entry.position ≡ position → ⊥) → closes_at position entry ≡ false
elsewhere entry position other = rw (ne_eqb entry.position position other) (no (closes entry))
  where
    no : (b : Bool) → (b && false) ≡ false
    no true = refl
    no false = refl

-- an entry that closes a hiring does it at its own position
pub at_its_own : (entry : Entry) (position : ℕ) → closes entry ≡ true → entry.position ≡ position
    → closes_at position entry ≡ true
at_its_own entry position closing same = rw closing (eq-eqb entry.position position same)

-- an entry of roaming closes at none
pub roams : (entry : Entry) (position : ℕ) → closes entry ≡ false → closes_at position entry ≡ false
roams entry position roaming = rw roaming refl

-- the share at a place
pub share_at_place : (entry : Entry) (first : ℕ) (shares : List Share) (i : ℕ) → i < length shares
    → get_or (shares_with entry first shares) i no_share ≡ share_with entry (first + i) (get_or shares i no_share)
share_at_place entry first [] i within = absurd (omega (arith, within))
share_at_place entry first (share ∷ others) zero within = ap (λ (p : ℕ). share_with entry p share) (omega arith)
share_at_place entry first (share ∷ others) (suc i) within =
    share_at_place entry (first + 1) others i (omega (arith, within))
    ∙ ap (λ (p : ℕ). share_with entry p (get_or others i no_share)) (omega arith)

-- there are as many
pub length_same : (entry : Entry) (first : ℕ) (shares : List Share)
    → length (shares_with entry first shares) ≡ length shares
length_same entry first [] = refl
length_same entry first (share ∷ others) = ap (λ (n : ℕ). suc n) (length_same entry (first + 1) others)

-- a hiring more at one place
pub shares_set : (entry : Entry) (first : ℕ) (shares : List Share) (i : ℕ) → closes entry ≡ true
    → entry.position ≡ first + i → i < length shares
    → shares_with entry first shares
    ≡ set shares i (share_in ((get_or shares i no_share).hirings + 1) ((get_or shares i no_share).fare + entry.fare))
shares_set entry first [] i closing position within = absurd (omega (arith, within))
shares_set entry first (share ∷ others) zero closing position within =
    ap (λ (s : Share). s ∷ shares_with entry (first + 1) others)
    (ap (λ (b : Bool). share_in (share.hirings + (if b then 1 else 0)) (share.fare + (if b then entry.fare else 0)))
    (at_its_own entry first closing (omega (arith, position))))
    ∙ ap (λ (l : List Share). share_in (share.hirings + 1) (share.fare + entry.fare) ∷ l)
    (shares_apart entry (first + 1) others
    (λ i within'. elsewhere entry (first + 1 + i) (λ same. omega (arith, position, same))))
shares_set entry first (share ∷ others) (suc i) closing position within =
    ap (λ (s : Share). s ∷ shares_with entry (first + 1) others)
    (share_apart entry first share (elsewhere entry first (λ same. omega (arith, position, same))))
    ∙ ap (λ (l : List Share). share ∷ l)
    (shares_set entry (first + 1) others i closing (omega (arith, position)) (omega (arith, within)))

-- the share that grows
pub grown_at : (entry : Entry) (shares : List Share) (place : ℕ) → closes entry ≡ true → entry.position ≡ 1 + place
    → place < length shares
    → get_or (shares_with entry 1 shares) place no_share
    ≡ share_in ((get_or shares place no_share).hirings + 1) ((get_or shares place no_share).fare + entry.fare)
grown_at entry shares place closing position within =
    ap (λ (l : List Share). get_or l place no_share) (shares_set entry 1 shares place closing position within)
    ∙ get_or-set_same shares place (share_in ((get_or shares place no_share).hirings + 1)
    ((get_or shares place no_share).fare + entry.fare)) no_share within

-- of all that grow, one fits if all do
pub grown_fits : (P : Share → Type 0) (entry : Entry) (shares : List Share) (place : ℕ) → closes entry ≡ true
    → entry.position ≡ 1 + place → place < length shares
    → All P (shares_with entry 1 shares)
    → P (share_in ((get_or shares place no_share).hirings + 1) ((get_or shares place no_share).fare + entry.fare))
grown_fits P entry shares place closing position within all =
    subst P (grown_at entry shares place closing position within)
    (All-get_or P (shares_with entry 1 shares) place no_share (omega (arith, within, length_same entry 1 shares)) all)
