-- The commands `check` and `tables`.
use Rattle.std.proofs.Common.{[], ℕ, ◌≡◌, Ok, ap₂, refl, sym}
use Rattle.call_ends.{specs.declared.ending.Ended.TheVariants.{Sound}, proofs.Laws.{MakesOfWord}}
use Rattle.tariff_commands.specs.{Check.{check_answer, check_command}, Tables.{tables_answer, tables_command}}
use Rattle.tariff_commands.specs.Common.{Tree, answer_with, shows_line, sound_line, sound_of, tariff_in}

pub checks : MakesOfWord check_command (λ text. check_answer (tariff_in text))
checks = record {
  makes = record {
    shut = λ none. none;
    unwritten = λ status none. none;
    told = λ files_tell image_told tells. tells;
    quiet = λ contents image taken. refl;
    all = λ status all. all;
    bad = refl;
  };
  answers = λ contents image. refl;
  only = λ word reads. reads;
  reads = refl;
  comes = λ contents image. (refl, tt);
  takes = λ contents left. refl;
  lacks = λ contents image. tt;
}

pub tabulates : (k : ℕ) → MakesOfWord (tables_command k) (λ text. tables_answer k (tariff_in text))
tabulates k = record {
  makes = record {
    shut = λ none. none;
    unwritten = λ status none. none;
    told = λ files_tell image_told tells. tells;
    quiet = λ contents image taken. refl;
    all = λ status all. all;
    bad = refl;
  };
  answers = λ contents image. refl;
  only = λ word reads. reads;
  reads = refl;
  comes = λ contents image. (refl, tt);
  takes = λ contents left. refl;
  lacks = λ contents image. tt;
}

-- the numbers of a sound tariff are its answer
pub sound_answer : (t : Tree) (cells measure : ℕ) → cells ≡ (sound_of t).cells → measure ≡ (sound_of t).measure
    → check_answer (Ok t) ≡ answer_with [] (Sound cells measure)
sound_answer t cells measure e f = ap₂ (λ (c m : ℕ). shows_line (sound_line c m)) (sym e) (sym f)
