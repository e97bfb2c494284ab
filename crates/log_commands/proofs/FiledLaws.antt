-- What filing the receipts of a roll comes to.
use Rattle.std.proofs.Common.{[], ℕ, ◌++◌, ◌∙◌, ◌∷◌, ◌≡◌, List, None, Option, Some, ap, arith, refl, subst, sym}
use Rattle.log_commands.specs.{Filed.{EndsAt, Files, IsNewer, IsOlder, Files.{appended, over, passed}}, Record.{Record}}

-- ---- one after another

pub files_on : (newest mid last : Option Record) (xs ys filed more : List Record) → Files newest xs filed mid
    → Files mid ys more last → Files newest (xs ++ ys) (filed ++ more) last
files_on newest mid last xs ys filed more (over n) then = then
files_on newest mid last xs ys filed more (passed n l r rest those older files) then =
    passed n last r (rest ++ ys) (those ++ more) older (files_on n mid last rest ys those more files then)
files_on newest mid last xs ys filed more (appended n l r rest those newer files) then =
    appended n last r (rest ++ ys) (those ++ more) newer (files_on (Some r) mid last rest ys those more files then)

-- a receipt more is appended
pub files_one_more : (newest last : Option Record) (r : Record) (receipts filed : List Record)
    → Files newest receipts filed last → IsNewer last r → Files newest (receipts ++ r ∷ []) (filed ++ r ∷ []) (Some r)
files_one_more newest last r receipts filed files newer =
    files_on newest last (Some r) receipts (r ∷ []) filed (r ∷ []) files
    (appended last (Some r) r [] [] newer (over (Some r)))

-- ---- again

-- what is older than a record is older than one that is as new
still_older : (last newest : Option Record) (r : Record) → ((n : Record) → newest ≡ Some n → IsOlder last n)
    → IsOlder newest r → IsOlder last r
still_older last None r up older = absurd older
still_older None (Some n) r up older = up n refl
still_older (Some l) (Some n) r up older = let than = up n refl in (older.0 ∙ than.0, omega (arith, older.1, than.1))

-- what was the newest is then older than a newer one
older_now : (last newest : Option Record) (r : Record) → IsNewer newest r → IsOlder last r → (n : Record)
    → newest ≡ Some n → IsOlder last n
older_now None newest r newer older n e = absurd older
older_now (Some l) newest r newer older n e =
    let than : IsNewer (Some n) r = subst (λ (o : Option Record). IsNewer o r) e newer in
    (sym than.0 ∙ older.0, omega (arith, than.1, older.1))

older_itself : (last : Option Record) (n : Record) → last ≡ Some n → IsOlder last n
older_itself last n e = subst (λ (l : Option Record). IsOlder l n) (sym e) (refl, omega arith)

-- the newest record is never older than before
newest_up : (newest last : Option Record) (receipts filed : List Record) → Files newest receipts filed last
    → (n : Record) → newest ≡ Some n → IsOlder last n
newest_up newest last receipts filed (over m) n e = older_itself last n e
newest_up newest last receipts filed (passed m l r rest those older files) n e = newest_up m last rest those files n e
newest_up newest last receipts filed (appended m l r rest those newer files) n e =
    older_now last m r newer (newest_up (Some r) last rest those files r refl) n e

-- the same receipts again: none is appended
pub files_again : (newest last : Option Record) (receipts filed : List Record) → Files newest receipts filed last
    → Files last receipts [] last
files_again newest last receipts filed (over n) = over n
files_again newest last receipts filed (passed n l r rest those older files) =
    passed last last r rest [] (still_older last n r (newest_up n last rest those files) older)
    (files_again n last rest those files)
files_again newest last receipts filed (appended n l r rest those newer files) =
    passed last last r rest [] (newest_up (Some r) last rest those files r refl)
    (files_again (Some r) last rest those files)

-- a roll that ends it again does so at the same place, and nothing is appended
pub ends_again : (newest : Option Record) (roll : List ℕ) (filed : List Record) (last : Option Record) (place : ℕ)
    → EndsAt newest roll filed last place → EndsAt last roll [] last place
ends_again newest roll filed last place h = record {
  before = h.before;
  other = h.other;
  rest = h.rest;
  reads = h.reads;
  files = files_again newest last h.before filed h.files;
  differs = h.differs;
  place_is = h.place_is;
}

-- ---- once

not_both : (newest : Option Record) (r : Record) → IsOlder newest r → IsNewer newest r → ⊥
not_both None r older newer = older
not_both (Some n) r older newer = omega (arith, older.1, newer.1)

-- what is filed, and what is then the newest, is one
pub files_once : (newest last last' : Option Record) (receipts filed filed' : List Record)
    → Files newest receipts filed last → Files newest receipts filed' last' → (filed ≡ filed') × (last ≡ last')
files_once newest last last' receipts filed filed' (over n) (over m) = (refl, refl)
files_once newest last last' receipts filed filed' (passed n l r rest those older files)
    (passed n' l' r' rest' those' older' files') = files_once n last last' rest those those' files files'
files_once newest last last' receipts filed filed' (passed n l r rest those older files)
    (appended n' l' r' rest' those' newer' files') = absurd (not_both n r older newer')
files_once newest last last' receipts filed filed' (appended n l r rest those newer files)
    (passed n' l' r' rest' those' older' files') = absurd (not_both n r older' newer)
files_once newest last last' receipts filed filed' (appended n l r rest those newer files)
    (appended n' l' r' rest' those' newer' files') =
    let there = files_once (Some r) last last' rest those those' files files' in
    (ap (λ (xs : List Record). r ∷ xs) there.0, there.1)
