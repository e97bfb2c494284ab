-- The text of what a store was sealed with, part by part.
use Rattle.std.{specs.{Fmt.{decimal}, Prelude.{codes}}, proofs.lemmas.{Grind.{flat_map-append}, List.{append-nil}}}
use Rattle.std.proofs.Common.{[], ℕ, ℤ, ◌++◌, ◌∙◌, ◌∷◌, ◌≡◌, List, ap, append_assoc, map, negsuc, pos, refl, sym}
use Rattle.{offset_rules.specs.Texts.{offset_lines}, receipt_text.specs.Receipts.{day_text, hex_text}}
use Rattle.seal_record.specs.PlainText.{offset_line, offset_text, secured_line, settings_lines}
use Rattle.{call_ends.specs.NumberLine.{number_line}, store_commands.specs.Common.{Seal, comment_line, ended_text}}
use Rattle.store_commands.specs.SealedText.{seal_comments, sealed_text}
use Rattle.offset_rules.specs.Texts as rules

abbrev end : List ℕ → List ℕ
end line = line ++ 10 ∷ []

-- the line of a pair is the same in a text of parameters and in a list of offsets
offset_same : (offset : ℤ) → offset_text offset ≡ rules.offset_text offset
offset_same (pos n) = refl
offset_same (negsuc n) = refl

pair_line : (pair : ℕ × ℤ) → end (offset_line pair) ≡ rules.offset_line pair
pair_line pair =
    ap (λ (x : List ℕ). codes "offset " ++ x)
    (append_assoc (decimal pair.0) (32 ∷ offset_text pair.1) (10 ∷ [])
    ∙ ap (λ (o : List ℕ). decimal pair.0 ++ 32 ∷ (o ++ 10 ∷ [])) (offset_same pair.1))

pub pairs_lines : (pairs : List (ℕ × ℤ)) → ended_text (map offset_line pairs) ≡ offset_lines pairs
unfolding offset_lines
pairs_lines [] = refl
pairs_lines (pair ∷ pairs) =
    ap (λ (x : List ℕ). x ++ ended_text (map offset_line pairs)) (pair_line pair)
    ∙ ap (λ (x : List ℕ). rules.offset_line pair ++ x) (pairs_lines pairs)

five_joined : (old l1 l2 l3 l4 l5 a b c d e : List ℕ) → l1 ≡ old ++ a → l2 ≡ l1 ++ b → l3 ≡ l2 ++ c → l4 ≡ l3 ++ d
    → l5 ≡ l4 ++ e → l5 ≡ old ++ (a ++ (b ++ (c ++ (d ++ e))))
five_joined old l1 l2 l3 l4 l5 a b c d e e1 e2 e3 e4 e5 =
    let two : l2 ≡ old ++ (a ++ b) = e2 ∙ ap (λ (x : List ℕ). x ++ b) e1 ∙ append_assoc old a b in
    let late : l5 ≡ l2 ++ (c ++ (d ++ e)) =
    e5 ∙ ap (λ (x : List ℕ). x ++ e) (e4 ∙ ap (λ (x : List ℕ). x ++ d) e3)
    ∙ append_assoc (l2 ++ c) d e ∙ append_assoc l2 c (d ++ e) in
    late ∙ ap (λ (x : List ℕ). x ++ (c ++ (d ++ e))) two ∙ append_assoc old (a ++ b) (c ++ (d ++ e))
    ∙ ap (λ (x : List ℕ). old ++ x) (append_assoc a b (c ++ (d ++ e)))

ended_append : (xs ys : List (List ℕ)) → ended_text (xs ++ ys) ≡ ended_text xs ++ ended_text ys
ended_append xs ys = flat_map-append end xs ys

ended_parts : (comments settings offsets ends : List (List ℕ)) (lines : List ℕ) → ended_text offsets ≡ lines
    → ended_text (comments ++ (settings ++ (offsets ++ ends)))
    ≡ (ended_text comments ++ ended_text settings) ++ (lines ++ ended_text ends)
ended_parts comments settings offsets ends lines e =
    ended_append comments (settings ++ (offsets ++ ends))
    ∙ ap (λ (x : List ℕ). ended_text comments ++ x)
    (ended_append settings (offsets ++ ends)
    ∙ ap (λ (x : List ℕ). ended_text settings ++ x)
    (ended_append offsets ends ∙ ap (λ (x : List ℕ). x ++ ended_text ends) e))
    ∙ sym (append_assoc (ended_text comments) (ended_text settings) (lines ++ ended_text ends))

-- the parts of the text: what stands before the offsets, the offsets, and the date of securing
abbrev pub heading_of : Seal → List ℕ
heading_of seal = ended_text (map comment_line (seal_comments seal)) ++ ended_text (settings_lines seal.params)

text_parts : (seal : Seal)
    → sealed_text seal
    ≡ heading_of seal ++ (offset_lines seal.params.offsets ++ ended_text (secured_line seal.params.secured ∷ []))
text_parts seal =
    ended_parts (map comment_line (seal_comments seal)) (settings_lines seal.params)
    (map offset_line seal.params.offsets) (secured_line seal.params.secured ∷ []) (offset_lines seal.params.offsets)
    (pairs_lines seal.params.offsets)

pub sealed_parts : (seal : Seal) {heading lines last : List ℕ} → heading ≡ heading_of seal
    → lines ≡ offset_lines seal.params.offsets → last ≡ ended_text (secured_line seal.params.secured ∷ [])
    → heading ++ (lines ++ last) ≡ sealed_text seal
sealed_parts seal e f g = rw (e, f, g) (sym (text_parts seal))

-- the comments are appended one after another
pub comments_joined : (seal : Seal) (old l1 l2 l3 l4 l5 : List ℕ)
    → l1 ≡ old ++ number_line (codes "# SEAL ") seal.seal_number
    → l2 ≡ l1 ++ number_line (codes "# DECIMALS ") seal.decimals
    → l3 ≡ l2 ++ codes "# TARIFF " → l4 ≡ l3 ++ hex_text seal.digest → l5 ≡ l4 ++ codes "\n"
    → l5 ≡ old ++ ended_text (map comment_line (seal_comments seal))
comments_joined seal old l1 l2 l3 l4 l5 e1 e2 e3 e4 e5 =
    let a = number_line (codes "# SEAL ") seal.seal_number in
    let b = number_line (codes "# DECIMALS ") seal.decimals in
    let digest = hex_text seal.digest in
    five_joined old l1 l2 l3 l4 l5 a b (codes "# TARIFF ") digest (codes "\n") e1 e2 e3 e4 e5
    ∙ ap (λ (x : List ℕ). old ++ (a ++ (b ++ (codes "# TARIFF " ++ x)))) (sym (append-nil (digest ++ codes "\n")))

-- so are the parts of the line of the date
pub secured_joined : (day : ℤ) (l1 l2 l3 : List ℕ) → l1 ≡ codes "secured " → l2 ≡ l1 ++ day_text day
    → l3 ≡ l2 ++ codes "\n" → l3 ≡ ended_text (secured_line day ∷ [])
unfolding day_text
secured_joined day l1 l2 l3 e1 e2 e3 =
    e3 ∙ ap (λ (x : List ℕ). x ++ codes "\n") (e2 ∙ ap (λ (x : List ℕ). x ++ day_text day) e1)
    ∙ ap (λ (x : List ℕ). codes "secured " ++ x) (sym (append-nil (day_text day ++ codes "\n")))
