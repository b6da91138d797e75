-- What the tests of sizes and values say of numbers.
use Rattle.std.specs.Prelude.{◌≡◌, ℕ, ◌≤◌, true, nat_le}
use Rattle.std.proofs.lemmas.Bool.{and_parts, and_from, leb-true, le-leb}
use Rattle.mapping.specs.Meanings.{is_size, is_value}

pub size_low : (m : ℕ) → is_size m ≡ true → 2 ≤ m
size_low m s = leb-true 2 m (and_parts (nat_le 2 m) (nat_le m 64) s).0

pub size_high : (m : ℕ) → is_size m ≡ true → m ≤ 64
size_high m s = leb-true m 64 (and_parts (nat_le 2 m) (nat_le m 64) s).1

pub value_low : (m i : ℕ) → is_value m i ≡ true → 1 ≤ i
value_low m i v = leb-true 1 i (and_parts (nat_le 1 i) (nat_le i m) v).0

pub value_high : (m i : ℕ) → is_value m i ≡ true → i ≤ m
value_high m i v = leb-true i m (and_parts (nat_le 1 i) (nat_le i m) v).1

pub value_from : (m i : ℕ) → 1 ≤ i → i ≤ m → is_value m i ≡ true
value_from m i low high = and_from (nat_le 1 i) (nat_le i m) (le-leb 1 i low) (le-leb i m high)
