-- Products in two parts.
use Rattle.std.proofs.Common.{ℕ, ◌*◌, ◌+◌, ◌<◌, ◌≡◌, ◌≤◌, ap, arith}

-- a product of a number that is parted, by a part s
pub parted : (s x y q r h l : ℕ) → s * q + r ≡ x → s * h + l ≡ r * y → (q * y + h) * s + l ≡ x * y
parted s x y q r h l whole below = omega (arith, ap (λ (z : ℕ). z * y) whole, below)
