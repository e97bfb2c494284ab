-- A book with one mark more.
use Rattle.{std.specs.Prelude.{slice_get}, shift_book.specs.MarkOrder.{FollowOn, MayFollow, last_of}}
use Rattle.std.proofs.Common.{[], ℕ, ◌++◌, ◌-◌, ◌<◌, ◌∙◌, ◌∷◌, ◌≡◌, List, None, Option, Some, ap, append_assoc, arith}
use Rattle.std.proofs.{Common.{length, length-append, refl, subst, sym}, lemmas.List.{flat_map_more}}
use Rattle.shift_book.specs.{Books.{Begins, IsNext}, Marks.{Signing, book_text, head_text, mark_text, numbers_text}}
use Rattle.shift_book.specs.Common.{Durable}

-- the last of some marks, or the one before them
abbrev pub behind : Option Signing → List Signing → Option Signing
behind before [] = before
behind before (mark ∷ marks) = behind (Some mark) marks

follow_more : (now : Durable) (before : Option Signing) (marks : List Signing) (mark : Signing)
    → FollowOn now before marks
    → MayFollow now (behind before marks) mark → FollowOn now before (marks ++ mark ∷ [])
follow_more now before [] mark all next = (next, tt)
follow_more now before (x ∷ xs) mark all next = (all.0, follow_more now (Some x) xs mark all.1 next)

last_is : (mark : Signing) (marks : List Signing) → behind (Some mark) marks ≡ slice_get (mark ∷ marks) (length marks)
last_is mark [] = refl
last_is mark (x ∷ xs) = last_is x xs

pub last_behind : (marks : List Signing) → behind None marks ≡ last_of marks
last_behind [] = refl
last_behind (mark ∷ marks) =
    let place : length marks ≡ length (mark ∷ marks) - 1 = omega arith in
    last_is mark marks ∙ ap (slice_get (mark ∷ marks)) place

pub begins_more : (now : Durable) (text : List ℕ) (marks : List Signing) (rest : List ℕ) (mark : Signing)
    (after : List ℕ)
    → Begins now text marks rest → IsNext now (last_of marks) rest mark after
    → Begins now text (marks ++ mark ∷ []) after
begins_more now text marks rest mark after begun next =
    record {
      lines = begun.lines ∙ ap (λ (t : List ℕ). book_text marks ++ t) next.line
          ∙ sym (append_assoc (book_text marks) (mark_text mark) after)
          ∙ ap (λ (t : List ℕ). t ++ after) (flat_map_more mark_text [] marks mark);
      follow = follow_more now None marks mark begun.follow
          (subst (λ (b : Option Signing). MayFollow now b mark) (sym (last_behind marks)) next.follows);
    }

-- less text is left behind a mark
pub rest_shrinks : (now : Durable) (before : Option Signing) (rest : List ℕ) (mark : Signing) (after : List ℕ)
    → IsNext now before rest mark after → length after < length rest
rest_shrinks now before rest mark after next =
    omega (
      arith,
      ap (λ (t : List ℕ). length t) next.line,
      length-append (mark_text mark) after,
      length-append (head_text mark.on mark.driver) (numbers_text mark.numbers),
    )
