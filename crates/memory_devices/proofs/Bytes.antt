-- The bytes of an array or a slice are below 256.
use Rattle.std.proofs.Common.{ℕ, ◌≡◌, Fits, List, get_or, length, w8}
use Rattle.memory_devices.specs.Common.{AreBytes, IsImage}

pub are_bytes : (image : List ℕ) → ((place : ℕ) → Fits w8 (get_or image place 0)) → AreBytes image
are_bytes image each = λ place. (each place).fits

pub is_image : {size : ℕ} (image : List ℕ) → length image ≡ size → ((place : ℕ) → Fits w8 (get_or image place 0))
    → IsImage size image
is_image image long each = record { long = long; small = are_bytes image each }
