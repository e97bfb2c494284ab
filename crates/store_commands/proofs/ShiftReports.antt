-- The report of a book beside a sealed store.
use Rattle.std.proofs.Common.{[], ℕ, ◌∙◌, ◌≡◌, ◌≢◌, ◌⊎◌, Err, List, Ok, Result, ap, arith, inl, inr, refl, subst, sym}
use Rattle.{std.proofs.Common.{true}, outside.specs.declared.files.Files.{Ghosts as FileGhosts}}
use Rattle.{shift_book.specs.declared.book.BookFault.{BookFault}, store_commands.specs.Common.{text_made}}
use Rattle.call_ends.specs.{Making.{IsMade, answer_with, is_plain}, declared.made.Made.{Made}}
use Rattle.call_ends.{specs.Reads.{GoesTo}, proofs.Laws.{goes-none, goes-on, makes-known, makes-lacking, makes-stopped}}
use Rattle.store_commands.specs.Common.{Durable, Ended, Makes, ReadsWord, Seal, book_read, end_made, status_of}
use Rattle.store_commands.specs.{Opened.{also_told}, Shifts.{ended_for_book, reported, shifts_answer, shifts_command}}
use Rattle.store_commands.{specs.Opening.{IsSealedIn, opening_in, store_of}, proofs.StoreTexts.{LooksAtSealed}}
use Rattle.shift_book.specs.declared.book.BookFault.TheVariants as books
use Rattle.call_ends.specs.declared.ending.Ended.TheVariants as ended

pub shifts_look : LooksAtSealed shifts_command (λ contents store. shifts_answer store (contents 1))
shifts_look = record {
  opens = tt;
  unwritten = λ status none. none;
  answers = λ contents image. refl;
  refuses = λ contents why. refl;
  untouched = λ contents. refl;
  all = λ status zero. zero;
  told = λ files_tell image_told told. told.1;
}

-- what is made of a text that is no book, or for which there was no memory
pub made_no_book : (decimals : ℕ) (now : Durable) (text : List ℕ) (fault : BookFault)
    → (fault ≢ books.NoMemory → book_read now text ≡ Err fault)
    → IsMade (reported decimals now (book_read now text)) (Err (ended_for_book fault))
made_no_book decimals now text books.TooLong refused = inr (ap (reported decimals now) (refused (λ e. absurd cc)), refl)
made_no_book decimals now text (books.BadLine line) refused =
    inr (ap (reported decimals now) (refused (λ e. absurd cc)), refl)
made_no_book decimals now text books.NoMemory refused = inl refl

-- the book was read, or not, beside the store of an image, if it is told that it is that
module _ {E T : Type 0} {F : FileGhosts E} {told : Type 0} {image : List ℕ} {store : Durable × Seal} {files files' : E}
    {result : Result T Ended} (sealed : told → store_of (opening_in image) ≡ Ok store)
    (read : ReadsWord (also_told F told) 1 files files' result) where
  sealed_in : F.tells × told → IsSealedIn image
  sealed_in t = record { store = store; is = sealed t.1 }

  goes : result ≢ Err ended.ReadFault → GoesTo (also_told F told) shifts_command image (F.tells × told) 1 files files'
  goes good = goes-on 1 [] (goes-none files) read (omega arith) refl (λ t. (refl, sealed_in t)) good

  -- it has an answer
  pub book-known : (text : List ℕ) (end : Ended) → result ≢ Err ended.ReadFault → is_plain (status_of end) ≡ true
      → (F.tells → reported store.1.decimals store.0 (book_read store.0 (F.rest files 1)) ≡ answer_with text end)
      → (F.tells → (status_of end ≡ 0) ⊎ (status_of end ≡ 11) → F.rest files' 1 ≡ [])
      → Makes (also_told F told) shifts_command image files files' text end
  book-known text end good plain same whole = makes-known (λ status zero. inl zero) refl text end (goes good) plain
      (λ t. ap (λ (o : Result (Durable × Seal) Ended). shifts_answer o (F.rest files 1)) (sealed t.1) ∙ same t.0)
      (λ t final word reads. ap (F.rest files') reads ∙ whole t.0 final)

  -- there was no memory
  pub book-lacking : result ≢ Err ended.ReadFault
      → Makes (also_told F told) shifts_command image files files' [] ended.NoMemory
  book-lacking good = makes-lacking [] (goes good) (λ t. refl) sealed_in

  -- a read failed
  pub book-unread : result ≡ Err ended.ReadFault
      → Makes (also_told F told) shifts_command image files files' [] ended.ReadFault
  book-unread failed = makes-stopped 1 [] (goes-none files) read failed (omega arith) refl (λ t. (refl, sealed_in t))
      (λ t. refl) refl refl

  -- this was made of its text
  pub book-of : {text : List ℕ} (made : Result Made Ended) → result ≢ Err ended.ReadFault
      → (F.tells → text ≡ F.rest files 1) → (F.tells → F.rest files' 1 ≡ [])
      → IsMade (reported store.1.decimals store.0 (book_read store.0 text)) made
      → Makes (also_told F told) shifts_command image files files' (text_made made) (end_made made)
  book-of made good same whole (inl e) =
      subst (λ (m : Result Made Ended). Makes (also_told F told) shifts_command image files files' (text_made m)
      (end_made m)) (sym e) (book-lacking good)
  book-of made good same whole (inr h) = book-known (text_made made) (end_made made) good h.1
      (λ tells. ap (λ (x : List ℕ). reported store.1.decimals store.0 (book_read store.0 x)) (sym (same tells)) ∙ h.0)
      (λ tells final. whole tells)
