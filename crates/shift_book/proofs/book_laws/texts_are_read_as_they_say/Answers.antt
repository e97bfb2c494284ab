use Rattle.shift_book.proofs.BookAnswers.{texts_are_books, texts_are_too_long, texts_have_bad_lines}
use Rattle.shift_book.proofs.book_laws.texts_are_read_as_they_say.Goals as goal

pub returns-clause-marks : goal.returns-clause-marks
returns-clause-marks c = texts_are_books

pub returns-clause-lines : goal.returns-clause-lines
returns-clause-lines c = texts_have_bad_lines

pub returns-clause-long : goal.returns-clause-long
returns-clause-long c = texts_are_too_long
