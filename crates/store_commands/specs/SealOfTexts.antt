-- Rules: what a seal secures of the two texts with which a store is sealed, and seals that secure the same.
use Rattle.std.specs.Prelude.{ℕ, ◌≡◌, List, Ok}
use Rattle.{sha2.specs.Sha256.{sha256}, seal_record.specs.Reading.{params_read}}
use Rattle.store_commands.specs.Common.{Seal, Tree, tariff_in}

-- a seal is of a tariff's text and a parameter text if it secures the parameters that are read, the digest of the first
-- text and the decimals of its sound tariff
pub record IsSealOfTexts (tariff params : List ℕ) (seal : Seal) : Type 0 where
  pub tree : Tree
  pub sound : tariff_in tariff ≡ Ok tree
  pub params_are : params_read params ≡ Ok seal.params
  pub digest : seal.digest ≡ sha256 tariff
  pub decimals : seal.decimals ≡ tree.decimals

-- two seals secure the same if they are equal but for their numbers
pub record SecureTheSame (seal new : Seal) : Type 0 where
  pub params : new.params ≡ seal.params
  pub digest : new.digest ≡ seal.digest
  pub decimals : new.decimals ≡ seal.decimals
