-- Words written behind those at the front of memory.
use Rattle.std.proofs.Common.{◌≡◌, ℕ, ◌-◌, List, ◌++◌, length, take, drop, ℤ, sym, ap, ◌∙◌}
use borrow.Rule.Slice.PartMut.{put_mid}
use Rattle.mapping.specs.Memory.{over, written}
use Rattle.encodings.proofs.Appending.{over_written, written_part}

pub behind : (before first last : List ℤ) (n long : ℕ) (xs ys : List ℤ) → n ≡ length xs → long ≡ length first → first ≡ over xs before →
    last ≡ over ys (take (long - n) (drop n first)) → put_mid n (long - n) first last ≡ over (xs ++ ys) before
behind before first last n long xs ys at l front back =
    written_part first last n long ys l back ∙ (ap (λ ws. written ws n ys) front ∙ over_written before n xs ys (sym at))
