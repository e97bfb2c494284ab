-- A printed line shows its tokens, from its end to its front.
use Rattle.std.{specs.Char.{is_ascii_digit}, proofs.lemmas.Bool.{and_parts, Decides.{nat_tests}}}
use Rattle.std.proofs.Common.{[], ℕ, ◌&&◌, ◌++◌, ◌==◌, ◌||◌, ◌∷◌, ◌≡◌, Bool, List, ap, arith, codes, false, refl, true}
use Rattle.tariff_syntax.specs.{Spelled.{IsRun, IsSign, IsSpelled, NoDots}, TextLines.{lines_of}}
use Rattle.tariff_syntax.specs.Token.{Token, begins_with_digit, figure, goes_on, is_blank, is_letter, sign, word}

-- the test fails at the front
abbrev Stops : (ℕ → List ℕ → Bool) → List ℕ → Type 0
Stops test [] = Unit {0}
Stops test (c ∷ cs) = test c cs ≡ false

-- the first line of a text has these tokens, and these are its other lines
pub record Shows (more : List ℕ) (ts : List Token) (texts : List (List ℕ)) : Type 0 where
  pub text : List ℕ
  pub cut : lines_of more ≡ text ∷ texts
  pub spelled : IsSpelled text ts

-- and it begins with no letter and with no byte that a figure goes on over
pub record Ready (more : List ℕ) (ts : List Token) (texts : List (List ℕ)) : Type 0 where
  pub shows : Shows more ts texts
  pub no_letter : Stops is_letter shows.text
  pub no_figure : Stops goes_on shows.text

pub line_feed : (rest : List ℕ) → Ready (10 ∷ rest) [] (lines_of rest)
line_feed rest = record {
  shows = record { text = []; cut = refl; spelled = ([], [], refl, tt, tt) };
  no_letter = tt;
  no_figure = tt;
}

pub cut_front : (c : ℕ) (more text : List ℕ) (texts : List (List ℕ)) → (c == 10) ≡ false → lines_of more ≡ text ∷ texts
    → lines_of (c ∷ more) ≡ (c ∷ text) ∷ texts
cut_front c more text texts other e = rw (other, e) refl

spelled_blank : (text : List ℕ) (ts : List Token) → IsSpelled text ts → IsSpelled (32 ∷ text) ts
spelled_blank text [] h = (32 ∷ h.0, h.1, ap (λ (r : List ℕ). 32 ∷ r) h.2, (refl, h.3), h.4)
spelled_blank text (t ∷ ts) h = (32 ∷ h.0, h.1, ap (λ (r : List ℕ). 32 ∷ r) h.2, (refl, h.3), h.4, h.5)

pub blank : (more : List ℕ) (ts : List Token) (texts : List (List ℕ)) → Shows more ts texts → Ready (32 ∷ more) ts texts
blank more ts texts h = record {
  shows = record {
    text = 32 ∷ h.text;
    cut = cut_front 32 more h.text texts refl h.cut;
    spelled = spelled_blank h.text ts h.spelled;
  };
  no_letter = refl;
  no_figure = refl;
}

cut_all : (piece more text : List ℕ) (texts : List (List ℕ)) → (test : ℕ → List ℕ → Bool)
    → ((c : ℕ) (cs : List ℕ) → test c cs ≡ true → (c == 10) ≡ false) → IsRun test piece text
    → lines_of more ≡ text ∷ texts → lines_of (piece ++ more) ≡ (piece ++ text) ∷ texts
cut_all [] more text texts test inner h e = e
cut_all (c ∷ piece) more text texts test inner h e =
    cut_front c (piece ++ more) (piece ++ text) texts (inner c (piece ++ text) h.0)
    (cut_all piece more text texts test inner h.1 e)

letter_is_inner : (c : ℕ) (cs : List ℕ) → is_letter c cs ≡ true → (c == 10) ≡ false
letter_is_inner c cs e = grind (arith, nat_tests)

letter_is_no_blank : (c : ℕ) (cs ds : List ℕ) → is_letter c cs ≡ true → is_blank c ds ≡ false
letter_is_no_blank c cs ds e = grind (arith, nat_tests)

digit_is_no_blank : (c : ℕ) (ds : List ℕ) → is_ascii_digit c ≡ true → is_blank c ds ≡ false
digit_is_no_blank c ds e = grind (arith, nat_tests)

figure_by : (b : Bool) (c : ℕ) → (is_ascii_digit c || (c == 58 || (c == 45 || (c == 46 && b)))) ≡ true
    → (c == 10) ≡ false
figure_by true c e = grind (arith, nat_tests)
figure_by false c e = grind (arith, nat_tests)

figure_is_inner : (c : ℕ) (cs : List ℕ) → goes_on c cs ≡ true → (c == 10) ≡ false
figure_is_inner c cs e = figure_by (begins_with_digit cs) c e

-- letters alone
abbrev pub AllLetters : List ℕ → Type 0
AllLetters [] = Unit {0}
AllLetters (c ∷ cs) = (is_letter c [] ≡ true) × AllLetters cs

letters_run : (w text : List ℕ) → AllLetters w → Stops is_letter text → IsRun is_letter w text
letters_run [] [] h s = tt
letters_run [] (c ∷ text) h s = s
letters_run (c ∷ w) text h s = (h.0, letters_run w text h.1 s)

pub word_shows : (c : ℕ) (w more : List ℕ) (ts : List Token) (texts : List (List ℕ)) → AllLetters (c ∷ w)
    → Ready more ts texts → Shows ((c ∷ w) ++ more) (word (c ∷ w) ∷ ts) texts
word_shows c w more ts texts h r =
    let text = r.shows.text in
    let run = letters_run (c ∷ w) text h r.no_letter in
    record {
      text = (c ∷ w) ++ text;
      cut = cut_all (c ∷ w) more text texts is_letter letter_is_inner run r.shows.cut;
      spelled =
          ([], text, refl, letter_is_no_blank c (w ++ text) (w ++ text) run.0, (omega arith, run), r.shows.spelled);
    }

-- each byte goes on, before what stands behind it
abbrev pub Goes : (piece rest : List ℕ) → Type 0
Goes [] rest = Unit {0}
Goes (c ∷ piece) rest = (goes_on c (piece ++ rest) ≡ true) × Goes piece rest

-- a text is a figure, whatever stands behind it
pub record IsFigureText (f : List ℕ) : Type 0 where
  pub digit : begins_with_digit f ≡ true
  pub goes : (rest : List ℕ) → Goes f rest

goes_run : (f text : List ℕ) → Goes f text → Stops goes_on text → IsRun goes_on f text
goes_run [] [] h s = tt
goes_run [] (c ∷ text) h s = s
goes_run (c ∷ f) text h s = (h.0, goes_run f text h.1 s)

starts_no_blank : (f text : List ℕ) → begins_with_digit f ≡ true → IsRun is_blank [] (f ++ text)
starts_no_blank [] text e = absurd cc
starts_no_blank (c ∷ f) text e = digit_is_no_blank c (f ++ text) e

pub figure_shows : (f more : List ℕ) (ts : List Token) (texts : List (List ℕ)) → IsFigureText f → Ready more ts texts
    → Shows (f ++ more) (figure f ∷ ts) texts
figure_shows f more ts texts h r =
    let text = r.shows.text in
    let run = goes_run f text (h.goes text) r.no_figure in
    record {
      text = f ++ text;
      cut = cut_all f more text texts goes_on figure_is_inner run r.shows.cut;
      spelled = ([], text, refl, starts_no_blank f text h.digit, (h.digit, run), r.shows.spelled);
    }

mark : (c : ℕ) (text : List ℕ) → (c == 46) ≡ false → NoDots c text
mark c [] e = tt
mark c (d ∷ text) e = rw e refl

-- a sign of one byte
sign_shows : (c : ℕ) (more : List ℕ) (ts : List Token) (texts : List (List ℕ))
    → ((text : List ℕ) → IsSign (c ∷ []) text) → (c == 10) ≡ false → ((text : List ℕ) → is_letter c text ≡ false)
    → ((text : List ℕ) → goes_on c text ≡ false) → ((text : List ℕ) → is_blank c text ≡ false) → Shows more ts texts
    → Ready (c ∷ more) (sign (c ∷ []) ∷ ts) texts
sign_shows c more ts texts is inner letter goes no_blank h = record {
  shows = record {
    text = c ∷ h.text;
    cut = cut_front c more h.text texts inner h.cut;
    spelled = ([], h.text, refl, no_blank h.text, is h.text, h.spelled);
  };
  no_letter = letter h.text;
  no_figure = goes h.text;
}

pub comma : (more : List ℕ) (ts : List Token) (texts : List (List ℕ)) → Shows more ts texts
    → Ready (44 ∷ more) (sign (codes ",") ∷ ts) texts
comma more ts texts h = sign_shows 44 more ts texts (λ text. (refl, refl, refl, refl, mark 44 text refl)) refl
    (λ text. refl) (λ text. refl) (λ text. refl) h

pub open_sign : (more : List ℕ) (ts : List Token) (texts : List (List ℕ)) → Shows more ts texts
    → Ready (40 ∷ more) (sign (codes "(") ∷ ts) texts
open_sign more ts texts h = sign_shows 40 more ts texts (λ text. (refl, refl, refl, refl, mark 40 text refl)) refl
    (λ text. refl) (λ text. refl) (λ text. refl) h

pub close_sign : (more : List ℕ) (ts : List Token) (texts : List (List ℕ)) → Shows more ts texts
    → Ready (41 ∷ more) (sign (codes ")") ∷ ts) texts
close_sign more ts texts h = sign_shows 41 more ts texts (λ text. (refl, refl, refl, refl, mark 41 text refl)) refl
    (λ text. refl) (λ text. refl) (λ text. refl) h

pub dots : (more : List ℕ) (ts : List Token) (texts : List (List ℕ)) → Shows more ts texts
    → Ready (46 ∷ 46 ∷ more) (sign (codes "..") ∷ ts) texts
dots more ts texts h = record {
  shows = record {
    text = 46 ∷ 46 ∷ h.text;
    cut = cut_front 46 (46 ∷ more) (46 ∷ h.text) texts refl (cut_front 46 more h.text texts refl h.cut);
    spelled = ([], h.text, refl, refl, (refl, refl), h.spelled);
  };
  no_letter = refl;
  no_figure = refl;
}

-- a word of letters
abbrev pub letters_test : List ℕ → Bool
letters_test [] = false
letters_test (c ∷ []) = is_letter c []
letters_test (c ∷ d ∷ cs) = is_letter c [] && letters_test (d ∷ cs)

letters_are : (w : List ℕ) → letters_test w ≡ true → AllLetters w
letters_are [] e = absurd cc
letters_are (c ∷ []) e = (e, tt)
letters_are (c ∷ d ∷ cs) e = let parts = and_parts _ _ e in (parts.0, letters_are (d ∷ cs) parts.1)

pub shown_word : (w more : List ℕ) (ts : List Token) (texts : List (List ℕ)) → letters_test w ≡ true
    → Ready more ts texts → Shows (w ++ more) (word w ∷ ts) texts
shown_word [] more ts texts e r = absurd cc
shown_word (c ∷ w) more ts texts e r = word_shows c w more ts texts (letters_are (c ∷ w) e) r
