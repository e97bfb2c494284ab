-- A text is read one way.
use Rattle.std.proofs.Common.{[], ℕ, ◌++◌, ◌+◌, ◌∙◌, ◌∷◌, ◌≡◌, List, None, Option, Some, ap, append_assoc, arith}
use Rattle.std.proofs.{Common.{length, refl, subst, sym}, lemmas.List.{append_cancel_left, Concat.{flat_map-cons}}}
use Rattle.shift_book.{specs.Books.{IsBook, IsFirstBad, IsNext}, proofs.LongerBooks.{behind, last_behind, rest_shrinks}}
use Rattle.shift_book.{specs.Common.{Durable}, proofs.{Again.{next_is}, DriverWords.{value_of}}}
use Rattle.shift_book.specs.{MarkOrder.{Fit, FollowOn, numbers_in}, Marks.{Signing, book_text, mark_text}}

-- no mark that may follow stands first
abbrev Ends : Durable → Option Signing → List ℕ → Type 0
Ends now before rest = (mark : Signing) (after : List ℕ) → IsNext now before rest mark after → ⊥

end_ends : (now : Durable) (before : Option Signing) → Ends now before []
end_ends now before mark after next = omega (arith, rest_shrinks now before [] mark after next)

first_line : (mark : Signing) (marks : List Signing) (rest : List ℕ)
    → book_text (mark ∷ marks) ++ rest ≡ mark_text mark ++ (book_text marks ++ rest)
first_line mark marks rest = ap (λ (t : List ℕ). t ++ rest) (flat_map-cons mark_text mark marks)
    ∙ append_assoc (mark_text mark) (book_text marks) rest

one_way : (now : Durable) (before : Option Signing) (a b : List Signing) (ra rb : List ℕ) → Fit (numbers_in now)
    → book_text a ++ ra ≡ book_text b ++ rb
    → FollowOn now before a → FollowOn now before b → Ends now (behind before a) ra
    → Ends now (behind before b) rb → a ≡ b
one_way now before [] [] ra rb fit e fa fb ea eb = refl
one_way now before [] (y ∷ ys) ra rb fit e fa fb ea eb =
    absurd (ea y (book_text ys ++ rb) (record { line = e ∙ first_line y ys rb; follows = fb.0 }))
one_way now before (x ∷ xs) [] ra rb fit e fa fb ea eb =
    absurd (eb x (book_text xs ++ ra) (record { line = sym e ∙ first_line x xs ra; follows = fa.0 }))
one_way now before (x ∷ xs) (y ∷ ys) ra rb fit e fa fb ea eb =
    let here : mark_text x ++ (book_text xs ++ ra) ≡ mark_text y ++ (book_text ys ++ rb) =
    sym (first_line x xs ra) ∙ e ∙ first_line y ys rb in
    let one = next_is now before (mark_text x ++ (book_text xs ++ ra)) x (book_text xs ++ ra) fit
    (record { line = refl; follows = fa.0 }) in
    let two = next_is now before (mark_text x ++ (book_text xs ++ ra)) y (book_text ys ++ rb) fit
    (record { line = here; follows = fb.0 }) in
    let same = value_of x y (sym one ∙ two) in
    let left = append_cancel_left (mark_text x) (book_text xs ++ ra) (book_text ys ++ rb)
    (here ∙ ap (λ (m : Signing). mark_text m ++ (book_text ys ++ rb)) (sym same)) in
    let more = one_way now (Some x) xs ys ra rb fit left fa.1
    (subst (λ (m : Signing). FollowOn now (Some m) ys) (sym same) fb.1) ea
    (subst (λ (m : Signing). Ends now (behind (Some m) ys) rb) (sym same) eb) in
    ap (λ (l : List Signing). x ∷ l) more ∙ ap (λ (m : Signing). m ∷ ys) same

stops : (now : Durable) (text : List ℕ) (line : ℕ) → (f : IsFirstBad now text line)
    → Ends now (behind None f.marks) f.rest
stops now text line f = subst (λ (b : Option Signing). Ends now b f.rest) (sym (last_behind f.marks)) f.breaks.bad

pub books_have_one_list : (now : Durable) (text : List ℕ) (a b : List Signing) → Fit (numbers_in now)
    → IsBook now text a → IsBook now text b → a ≡ b
books_have_one_list now text a b fit h k =
    one_way now None a b [] [] fit (sym h.begins.lines ∙ k.begins.lines) h.begins.follow k.begins.follow
    (end_ends now (behind None a)) (end_ends now (behind None b))

pub faults_have_one_line : (now : Durable) (text : List ℕ) (a b : ℕ) → Fit (numbers_in now) → IsFirstBad now text a
    → IsFirstBad now text b → a ≡ b
faults_have_one_line now text a b fit h k =
    let same = one_way now None h.marks k.marks h.rest k.rest fit
    (sym h.begins.lines ∙ k.begins.lines) h.begins.follow k.begins.follow (stops now text a h) (stops now text b k) in
    h.place ∙ ap (λ (l : List Signing). length l + 1) same ∙ sym k.place

pub books_have_no_fault : (now : Durable) (text : List ℕ) (marks : List Signing) (line : ℕ) → Fit (numbers_in now)
    → IsBook now text marks → ¬ (IsFirstBad now text line)
books_have_no_fault now text marks line fit h k =
    let same = one_way now None marks k.marks [] k.rest fit (sym h.begins.lines ∙ k.begins.lines) h.begins.follow
    k.begins.follow (end_ends now (behind None marks)) (stops now text line k) in
    let there = ap (λ (l : List Signing). book_text l ++ []) (sym same) ∙ (sym h.begins.lines ∙ k.begins.lines) in
    k.breaks.more (sym (append_cancel_left (book_text k.marks) [] k.rest there))
