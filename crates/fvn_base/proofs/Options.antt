-- Values that may be missing.
use Rattle.std.proofs.Common.{◌≡◌, Some}

pub Some-injective : {A : Type 0} {x y : A} → Some x ≡ Some y → x ≡ y
Some-injective e = cc
