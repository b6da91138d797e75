-- Binary digits as Booleans: Boolean j is digit j, the first of them the lowest. Assumes nothing.
use Rattle.std.specs.Prelude.{ℕ, zero, suc, ◌-◌, ◌/◌, ◌%◌, ◌^◌, cond, List, [], ◌∷◌, ◌++◌, ℤ, pos, negsuc, ◌==◌, nat_le}

-- the first of the n numbers from k on for which 2 to that power is at least m, or the number behind them
abbrev pub reaching : ℕ → ℕ → ℕ → ℕ
reaching m k zero = k
reaching m k (suc n) = cond (nat_le m (2 ^ k)) k (reaching m (suc k) n)

-- how many digits a size has: the least k with 2^k at least m
abbrev pub digits : ℕ → ℕ
digits m = reaching m 0 m

-- how many patterns of these digits there are beyond one for each value
abbrev pub spare : ℕ → ℕ
spare m = 2 ^ digits m - m

-- digit p + 1 as 1 or as 0
abbrev pub digit_literal : ℕ → ℕ → ℤ
digit_literal p b = cond (b == 1) (pos (suc p)) (negsuc p)

-- the lowest c digits of n, highest first, as the digits from p + 1 on
abbrev pub spelled : ℕ → ℕ → ℕ → List ℤ
spelled p zero n = []
spelled p (suc c) n = spelled (suc p) c (n / 2) ++ digit_literal p (n % 2) ∷ []
