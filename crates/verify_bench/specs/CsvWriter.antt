-- For proofs: rows that are written as csv, with the writer between two rows, and a row that is made field by field.
-- Report says which rows are written.
use Rattle.std.specs.Prelude.{[], ℕ, ◌≡◌, List, Option, Some, false}
use Rattle.csv.specs.{Records.{Row, fields_of, partial_of}, declared.writer.Writer.{Writer}}
use Rattle.csv.specs.Writing.{default_writer, fields_written, has_written, text_written, writer_setup}

-- a writer has rows of this text if it has written the text, with its default settings, and has begun no row
pub record HasRows {W : Type 0} (contents : W → Option (List ℕ)) (writer : Writer W) (text : List ℕ) : Type 0 where
  pub setup : writer_setup writer ≡ default_writer
  pub fields : fields_written writer ≡ 0
  pub wrote : has_written writer ≡ false
  pub bytes : text_written contents writer ≡ Some text

-- a row is one of these fields if it has them whole, and has begun no other field
pub record IsRow (row : Row) (fields : List (List ℕ)) : Type 0 where
  pub whole : fields_of row ≡ fields
  pub none_begun : partial_of row ≡ []
