use Rattle.shift_book.proofs.Once.{books_have_no_fault, books_have_one_list, faults_have_one_line}
use Rattle.shift_book.proofs.book_laws.books_are_read_one_way.Goals as goal

pub returns-clause-marks : goal.returns-clause-marks
returns-clause-marks c = books_have_one_list

pub returns-clause-lines : goal.returns-clause-lines
returns-clause-lines c = faults_have_one_line

pub returns-clause-never_both : goal.returns-clause-never_both
returns-clause-never_both c = books_have_no_fault
