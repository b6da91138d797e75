-- The fields of a line: numbers and literals. Assumes nothing.
use Rattle.std.specs.Prelude.{ℕ, ◌+◌, ◌-◌, ◌*◌, Bool, cond, ◌&&◌, List, [], ◌∷◌, length, Some, None, Option, nat_le}
use Rattle.std.specs.List.{list_all}
use Rattle.formula.specs.Signs.{sign_of}
use Rattle.formula.specs.declared.signed.Literal.{Literal}
use Rattle.parser.specs.Cuts.{given, halves}

-- a digit is a byte of 48 to 57
abbrev pub is_digit : ℕ → Bool
is_digit b = nat_le 48 b && nat_le b 57

-- the number that digits spell behind the number n
abbrev pub spelled : ℕ → List ℕ → ℕ
spelled n [] = n
spelled n (b ∷ bs) = spelled (n * 10 + (b - 48)) bs

-- a number has 1 to 5 digits
abbrev pub number_of : List ℕ → Option ℕ
number_of bs = cond (nat_le 1 (length bs) && nat_le (length bs) 5 && list_all is_digit bs) (Some (spelled 0 bs)) None

-- a literal is a sign, the number of a variable, a colon (58) and a value
abbrev pub literal_of : List ℕ → Option Literal
literal_of [] = None
literal_of (b ∷ bs) =
    given (sign_of b) (λ sign. given (halves 58 bs) (λ h. given (number_of h.0) (λ v. given (number_of h.1) (λ i.
    Some (record { variable = v; value = i; sign = sign })))))

-- every field is a literal
abbrev pub literals_of : List (List ℕ) → Option (List Literal)
literals_of [] = Some []
literals_of (f ∷ fs) = given (literal_of f) (λ l. given (literals_of fs) (λ ls. Some (l ∷ ls)))
