use Rattle.std.proofs.Common.{◌≡◌, ℕ, ◌+◌, ◌-◌, List, length, ◌++◌, take, drop, ℤ, Option, Err, Ok, sym, refl, ap, ◌∙◌, arith, take-append-drop}
use borrow.Rule.Slice.PartMut.{put_mid}
use Rattle.std.specs.List.{position}
use Rattle.std.proofs.lemmas.List.{take_rest}
use Rattle.translator.proofs.Worded.{is_end, put_ok, going_more, going_all}
use Rattle.translator.proofs.axioms.put_clauses.Goals as goal

-- a part that is lent and comes back as it was
lent_back : {X : Type 0} (a k : ℕ) (xs ys : List X) → ys ≡ take k (drop a xs) → put_mid a k xs ys ≡ xs
lent_back a k xs ys same =
    ap (λ zs. take a xs ++ (zs ++ drop k (drop a xs))) same ∙ ap (λ zs. take a xs ++ zs) (take-append-drop k (drop a xs)) ∙ take-append-drop a xs

-- the answer for what is left of the words, as the slice `&words[a..]` has it
left : (a : ℕ) (xs : List ℤ) (r : Option ℕ) → r ≡ position is_end (take (length xs - a) (drop a xs)) → position is_end (drop a xs) ≡ r
left a xs r is = ap (position is_end) (sym (take_rest xs a)) ∙ sym is

part : {X : Type 0} (a n : ℕ) (xs ys : List X) → xs ≡ ys → take (a + n - a) (drop a xs) ≡ take n (drop a ys)
part a n xs ys is = let long : a + n - a ≡ n = omega arith in λ i. take (long i) (drop a (is i))

pub returns-in_err-put : goal.returns-in_err-put
returns-in_err-put g c =
    let h = c.loop-length.invariant in
    let ok = put_ok _ _ _ _ _ _ _ _ h (left c.loop-length.begin c.loop-length.words _ c.in-Some.ensures) c.put.result _ (part _ _ _ _ h.kept) c.put.ensures.answer in
    let both : Err c.in_err-put.field-0.0 ≡ Ok tt = sym c.in_err-put.was ∙ ok in absurd (cc)

pub loop-length-preserved : goal.loop-length-preserved
loop-length-preserved g c =
    let h = c.loop-length.invariant in
    let said = c.put.ensures in
    going_more _ _ _ _ _ _ _ _ h (left c.loop-length.begin c.loop-length.words _ c.in-Some.ensures) c.put.result _ _ _ _ (part _ _ _ _ h.kept) said.answer said.after said.same (lent_back _ _ _ _ said.lent)

pub returns : goal.returns
returns g c =
    let h = c.loop-length.invariant in
    record { answer = refl; after = going_all _ _ _ _ _ _ _ h (left c.loop-length.begin c.loop-length.words _ c.in_default.ensures); same = h.terms; kept = h.kept }
