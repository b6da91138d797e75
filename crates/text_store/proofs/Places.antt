-- Writes at the front of a buffer and at a place. Assumes nothing.
use Rattle.std.proofs.Common.{◌≡◌, ℕ, suc, ◌+◌, ◌-◌, ◌<◌, ◌≤◌, List, [], ◌∷◌, ◌++◌, length, take, drop, set, sym, refl, ap, ◌∙◌, append_assoc, append-nil, add-one, arith, length-drop, drop-cons, add-zero, length-append, take-append-drop}
use borrow.Rule.Slice.PartMut.{put_mid, post_of}
use Rattle.std.proofs.Math.ListN.{drop_of_length-le}
use lib.Seq.{paste}
use Rattle.std.proofs.Math.Seq.{set-append_seam}
use Rattle.std.proofs.lemmas.List.Edits.{paste_all, take-paste, length-paste, paste-paste}
use Rattle.std.proofs.lemmas.List.{length_push, drop-drop, take_all, take_at}
use Rattle.std.proofs.lemmas.Slice.{drop-append-drop}
use Rattle.text_store.specs.Bytes.{at_place, WroteFront}

-- bytes are there, and one more is put behind them
pub wrote_push : (xs : List ℕ) (b : ℕ) (buffer : List ℕ) → length xs < length buffer → WroteFront (xs ++ b ∷ []) buffer (length xs + 1) (set (xs ++ drop (length xs) buffer) (length xs) b)
wrote_push xs b buffer h =
    let more : suc (length xs) ≡ length (xs ++ b ∷ []) = sym (add-one (length xs)) ∙ sym (length_push xs b) in
    record {
      count_is = sym (length_push xs b);
      after_is = ap (λ rest. set (xs ++ rest) (length xs) b) (drop-cons buffer (length xs) 0 h)
          ∙ set-append_seam xs _ (drop (suc (length xs)) buffer) b
          ∙ sym (append_assoc xs (b ∷ []) (drop (suc (length xs)) buffer))
          ∙ ap (λ n. (xs ++ b ∷ []) ++ drop n buffer) more;
    }

-- and one more behind what was written
pub wrote_more : {bytes before after : List ℕ} {count : ℕ} (b : ℕ) → WroteFront bytes before count after → length bytes < length before → WroteFront (bytes ++ b ∷ []) before (count + 1) (set after count b)
wrote_more {bytes} {before} b wrote h = rw (wrote.count_is, wrote.after_is) (wrote_push bytes b before h)

-- digits that end at a place, behind a sign at the front
pub wrote_digits : (sign digits buffer : List ℕ) (start end : ℕ) {before after : List ℕ} → before ≡ sign ++ drop (length sign) buffer → end ≡ length sign + length digits → start + length digits ≡ end → drop start after ≡ digits ++ drop end before → take start after ≡ take start before → WroteFront (sign ++ digits) buffer end after
wrote_digits sign digits buffer start end {before} {after} signed ends starts back front =
    let long = length-append sign digits in
    let rest : drop end before ≡ drop (length (sign ++ digits)) buffer = ap (drop end) signed ∙ drop-append-drop (length sign) buffer sign end (omega arith) refl ∙ ap (λ n. drop n buffer) (omega arith) in
    record {
      count_is = omega arith;
      after_is = sym (take-append-drop start after)
          ∙ ap (λ bs. bs ++ drop start after) (front ∙ ap (take start) signed ∙ take_at sign (drop (length sign) buffer) start (omega arith))
          ∙ ap (λ bs. sign ++ bs) (back ∙ ap (λ bs. digits ++ bs) rest)
          ∙ sym (append_assoc sign digits (drop (length (sign ++ digits)) buffer));
    }

module _ (place : ℕ) (buffer : List ℕ) where
  -- all that stands behind the place
  behind : take (length buffer - place) (drop place buffer) ≡ drop place buffer
  behind = let long = length-drop place buffer in take_all (length buffer - place) (drop place buffer) (omega arith)

  pub room_behind : (n : ℕ) → place + n ≤ length buffer → n ≤ length (take (length buffer - place) (drop place buffer))
  room_behind n h = rw behind (omega (arith, length-drop place buffer))

  -- a write at the front of it is one at the place
  pub written_behind : (bytes : List ℕ) {count : ℕ} {tail : List ℕ} → WroteFront bytes (take (length buffer - place) (drop place buffer)) count tail → put_mid place (length buffer - place) buffer tail ≡ at_place place bytes buffer
  written_behind bytes {count} {tail} wrote =
      let long = length-drop place buffer in
      let none : post_of place (length buffer - place) buffer ≡ [] = drop_of_length-le (drop place buffer) (omega arith) in
      ap (λ end. take place buffer ++ (tail ++ end)) none
      ∙ ap (λ end. take place buffer ++ end) (append-nil tail ∙ wrote.after_is ∙ ap (λ rest. bytes ++ drop (length bytes) rest) behind)
      ∙ ap (λ rest. take place buffer ++ (bytes ++ rest)) (drop-drop (length bytes) place buffer)

-- a write is a copy of all of its bytes
as_paste : (place : ℕ) (bytes buffer : List ℕ) → paste buffer place bytes (length bytes) ≡ at_place place bytes buffer
as_paste place bytes buffer = paste_all buffer place bytes (length bytes) refl

pub write_nothing : (place : ℕ) (buffer : List ℕ) → at_place place [] buffer ≡ buffer
write_nothing place buffer = ap (λ n. take place buffer ++ drop n buffer) (add-zero place) ∙ take-append-drop place buffer

pub write_behind : (place : ℕ) (xs ys buffer : List ℕ) → place ≤ length buffer → at_place (place + length xs) ys (at_place place xs buffer) ≡ at_place place (xs ++ ys) buffer
write_behind place xs ys buffer h =
    sym (as_paste (place + length xs) ys (at_place place xs buffer))
    ∙ ap (λ b. paste b (place + length xs) ys (length ys)) (sym (as_paste place xs buffer))
    ∙ paste-paste buffer place xs ys (length xs) (length ys) refl refl h
    ∙ ap (paste buffer place (xs ++ ys)) (sym (length-append xs ys))
    ∙ as_paste place (xs ++ ys) buffer

pub length_at_place : (place : ℕ) (bytes buffer : List ℕ) → place + length bytes ≤ length buffer → length (at_place place bytes buffer) ≡ length buffer
length_at_place place bytes buffer h =
    ap length (sym (as_paste place bytes buffer)) ∙ length-paste buffer place bytes (length bytes) h (omega arith)

pub take_at_place : (place : ℕ) (bytes buffer : List ℕ) → place ≤ length buffer → take (place + length bytes) (at_place place bytes buffer) ≡ take place buffer ++ bytes
take_at_place place bytes buffer h =
    ap (take (place + length bytes)) (sym (as_paste place bytes buffer))
    ∙ take-paste buffer place bytes (length bytes) h (omega arith)
    ∙ ap (λ xs. take place buffer ++ xs) (take_all (length bytes) bytes (omega arith))
