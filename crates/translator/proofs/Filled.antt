-- Clauses put one by one into a store that has room for them all. Assumes nothing.
use Rattle.std.proofs.Common.{◌≡◌, true, leb, List, [], ◌∷◌, ◌++◌, map, None, Ok, sym, refl, ap, ◌∙◌, append_assoc, append-nil, arith}
use Rattle.std.proofs.lemmas.Bool.{and_parts, le-leb, cond-true}
use Rattle.formula.specs.Boolean.{Clause, words}
use Rattle.formula.specs.Tests.{every}
use Rattle.formula.proofs.Tests.{every_parts, sum_append}
use Rattle.store.specs.Stores.{Terms, Contents, fits, unfit, words_left, put_answer, answer_by, appended}
use Rattle.translator.specs.Filing.{with_all}
use Rattle.translator.specs.Placed.{Takes}

module _ {Cell : Type 0} (T : Terms Cell) where
  pub with_none : (K : Contents Cell) → with_all T K [] ≡ K
  with_none K = λ i. record { list = append-nil K.list i; raw = append-nil K.raw i; memory = K.memory }

  pub with_one : (K : Contents Cell) (c : Clause) (cs : List Clause) → with_all T (appended T K c) cs ≡ with_all T K (c ∷ cs)
  with_one K c cs = λ i. record {
    list = append_assoc K.list (c ∷ []) cs i;
    raw = append_assoc K.raw (T.raised c ∷ []) (map T.raised cs) i;
    memory = (with_all T K (c ∷ cs)).memory;
  }

  pub with_append : (xs ys : List Clause) (K : Contents Cell) → with_all T (with_all T K xs) ys ≡ with_all T K (xs ++ ys)
  with_append [] ys K = ap (λ (k : Contents Cell). with_all T k ys) (with_none K)
  with_append (x ∷ xs) ys K =
      ap (λ (k : Contents Cell). with_all T k ys) (sym (with_one K x xs))
      ∙ with_append xs ys (appended T K x)
      ∙ with_one K x (xs ++ ys)

  all_fit : (c : Clause) → every (fits T.largest) c ≡ true → unfit T.largest c ≡ None
  all_fit [] h = refl
  all_fit (l ∷ ls) h =
      let both = and_parts (fits T.largest l) (every (fits T.largest) ls) h in
      cond-true (fits T.largest l) _ _ both.0 ∙ all_fit ls both.1

  pub taken_first : (K : Contents Cell) (c : Clause) (cs : List Clause) → Takes T K (c ∷ cs) → put_answer T K c ≡ Ok tt
  taken_first K c cs t =
      let both = and_parts (every (fits T.largest) c) (every (every (fits T.largest)) cs) t.fit in
      ap (answer_by T K c) (all_fit c both.0) ∙ cond-true (leb (words c) (words_left T K)) _ _ (le-leb _ _ (omega (arith, t.room)))

  pub taken_rest : (K : Contents Cell) (c : Clause) (cs : List Clause) → Takes T K (c ∷ cs) → Takes T (appended T K c) cs
  taken_rest K c cs t = record {
    fit = (and_parts (every (fits T.largest) c) (every (every (fits T.largest)) cs) t.fit).1;
    room = omega (arith, t.room, sum_append words K.list (c ∷ []));
  }

  pub taken_parts : (xs ys : List Clause) (K : Contents Cell) → Takes T K (xs ++ ys) → Takes T K xs × Takes T (with_all T K xs) ys
  taken_parts xs ys K t =
      let both = every_parts (every (fits T.largest)) xs ys t.fit in
      let sum = sum_append words xs ys in (
        record { fit = both.0; room = omega (arith, t.room) },
        record { fit = both.1; room = omega (arith, t.room, sum_append words K.list xs) },
      )
