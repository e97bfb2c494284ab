-- Acts that are carried out, one after the other.
use Rattle.std.proofs.Common.{[], ℕ, ◌++◌, ◌+◌, ◌<◌, ◌∙◌, ◌∷◌, ◌≡◌, ◌≤◌, List, OnOk, Result, add-one, ap, append_assoc}
use Rattle.std.proofs.Common.{arith, drop, get_or, length, refl, subst, suc, sym, take, zero}
use Rattle.std.proofs.lemmas.List.{append-nil, take-append-drop, take_all, take_more}
use Rattle.{outside.proofs.Laws.{begins_after, begins_more, begins_whole}, meter_run.specs.RunLaws.{texts_append}}
use Rattle.meter_run.specs.{Commits.{AreFor, IsFor, after_act, after_acts}, Texts.{shown_text, shown_texts}}
use Rattle.meter_run.{specs.Common.{Act, Begins, Durable}, proofs.CommittedStates.{after_append}}

-- the act at a place and those behind it
dropped : (acts : List Act) (n : ℕ) (x : Act) → n < length acts → drop n acts ≡ get_or acts n x ∷ drop (n + 1) acts
dropped [] n x lt = absurd (omega arith)
dropped (act ∷ acts) zero x lt = refl
dropped (act ∷ acts) (suc n) x lt = rw add-one (rw add-one at (dropped acts n x (omega arith)))

pub are_at : (d : Durable) (acts : List Act) (n : ℕ) (x : Act) → n < length acts → AreFor d (drop n acts)
    → IsFor d (get_or acts n x) × AreFor (after_act d (get_or acts n x)) (drop (n + 1) acts)
are_at d acts n x lt are = subst (AreFor d) (dropped acts n x lt) are

pub are_after : (d e : Durable) (acts : List Act) (n : ℕ) (x : Act) → n < length acts → AreFor d (drop n acts)
    → e ≡ after_act d (get_or acts n x) → AreFor e (drop (n + 1) acts)
are_after d e acts n x lt are is =
    subst (λ (y : Durable). AreFor y (drop (n + 1) acts)) (sym is) (are_at d acts n x lt are).1

pub after_more : (d e f : Durable) (acts : List Act) (n : ℕ) (x : Act) → n < length acts
    → e ≡ after_acts d (take n acts) → f ≡ after_act e (get_or acts n x) → f ≡ after_acts d (take (n + 1) acts)
after_more d e f acts n x lt so_far is = is ∙ ap (λ (y : Durable). after_act y (get_or acts n x)) so_far
    ∙ sym (ap (after_acts d) (take_more acts n x lt) ∙ after_append d (take n acts) (get_or acts n x ∷ []))

texts_at : (acts : List Act) (n : ℕ) (x : Act) → n < length acts
    → shown_texts (take (n + 1) acts) ≡ shown_texts (take n acts) ++ shown_text (get_or acts n x)
texts_at acts n x lt = ap shown_texts (take_more acts n x lt) ∙ texts_append (take n acts) (get_or acts n x ∷ [])
    ∙ ap (λ (t : List ℕ). shown_texts (take n acts) ++ t) (append-nil (shown_text (get_or acts n x)))

pub printed_more : (p q r : List ℕ) (acts : List Act) (n : ℕ) (x : Act) → n < length acts → q
    ≡ p ++ shown_texts (take n acts) → r ≡ q ++ shown_text (get_or acts n x) → r ≡ p ++ shown_texts (take (n + 1) acts)
printed_more p q r acts n x lt so_far next = next ∙ ap (λ (t : List ℕ). t ++ shown_text (get_or acts n x)) so_far
    ∙ append_assoc p (shown_texts (take n acts)) (shown_text (get_or acts n x))
    ∙ ap (λ (t : List ℕ). p ++ t) (sym (texts_at acts n x lt))

texts_split : (acts : List Act) (n : ℕ) → shown_texts acts ≡ shown_texts (take n acts) ++ shown_texts (drop n acts)
texts_split acts n = ap shown_texts (sym (take-append-drop n acts)) ∙ texts_append (take n acts) (drop n acts)

pub begins_at : (p q r : List ℕ) (acts : List Act) (n : ℕ) (x : Act) → n < length acts
    → q ≡ p ++ shown_texts (take n acts) → Begins q r (shown_text (get_or acts n x)) → Begins p r (shown_texts acts)
begins_at p q r acts n x lt so_far b =
    let here : Begins p r (shown_texts (take (n + 1) acts)) = subst (Begins p r) (sym (texts_at acts n x lt))
    (begins_after p q r (shown_texts (take n acts)) (shown_text (get_or acts n x)) so_far b) in
    subst (Begins p r) (sym (texts_split acts (n + 1)))
    (begins_more p r (shown_texts (take (n + 1) acts)) (shown_texts (drop (n + 1) acts)) here)

pub begins_end : (p q : List ℕ) (acts : List Act) (n : ℕ) → length acts ≤ n → q ≡ p ++ shown_texts (take n acts)
    → Begins p q (shown_texts acts)
begins_end p q acts n le h =
    begins_whole p q (shown_texts acts) (h ∙ ap (λ (xs : List Act). p ++ shown_texts xs) (take_all n acts le))

-- what an act prints, if it's known which act it is
pub whole_as : {A E : Type 0} (r : Result A E) (p q : List ℕ) (act is : Act) → act ≡ is
    → OnOk r (q ≡ p ++ shown_text is) → OnOk r (q ≡ p ++ shown_text act)
whole_as r p q act is same h = subst (λ (x : Act). OnOk r (q ≡ p ++ shown_text x)) (sym same) h

pub begins_as : (p q : List ℕ) (act is : Act) → act ≡ is → Begins p q (shown_text is) → Begins p q (shown_text act)
begins_as p q act is same h = subst (λ (x : Act). Begins p q (shown_text x)) (sym same) h

-- an act that has no line prints nothing
pub silent : (p : List ℕ) (act : Act) → shown_text act ≡ [] → p ≡ p ++ shown_text act
silent p act none = sym (append-nil p) ∙ ap (λ (t : List ℕ). p ++ t) (sym none)

pub silent_begins : (p : List ℕ) (act : Act) → shown_text act ≡ [] → Begins p p (shown_text act)
silent_begins p act none = begins_whole p p (shown_text act) (silent p act none)
