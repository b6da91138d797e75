-- How many clauses and words a row of forms is distributed to. Assumes nothing.
use Rattle.std.proofs.Common.{◌≡◌, ◌+◌, ◌*◌, List, [], ◌∷◌, ◌++◌, map, length, ℤ, refl, ap, ◌∙◌, arith, length-append}
use Rattle.std.specs.List.{flat_map}
use Rattle.std.proofs.lemmas.List.{length-map}
use Rattle.formula.proofs.Tests.{sum_append}
use Rattle.formula.specs.Boolean.{Clause, words, words_of}
use Rattle.formula.specs.Tests.{sum_of, product_of}
use Rattle.mapping.specs.Forms.{Form, all_of, any_of, distributed, split, taken}

-- what one choice of a form gives, in front of the clauses of the others
abbrev pub fronted : List Clause → List ℤ → List Clause
fronted ds c = map (λ d. c ++ d) ds

words_fronted : (c : List ℤ) (ds : List Clause) → words_of (fronted ds c) ≡ length ds * length c + words_of ds
words_fronted c [] = omega arith
words_fronted c (d ∷ ds) = omega (arith, words_fronted c ds, length-append c d)

-- every choice of an all-of form is one literal
joined_ones : (ls : List ℤ) (ds : List Clause) → words_of (flat_map (fronted ds) (map (λ l. l ∷ []) ls)) ≡ length ls * (length ds + words_of ds)
joined_ones [] ds = omega arith
joined_ones (l ∷ ls) ds =
    sum_append words (fronted ds (l ∷ [])) (flat_map (fronted ds) (map (λ x. x ∷ []) ls))
    ∙ omega (arith, words_fronted (l ∷ []) ds, joined_ones ls ds)

length_ones : (ls : List ℤ) (ds : List Clause) → length (flat_map (fronted ds) (map (λ l. l ∷ []) ls)) ≡ length ls * length ds
length_ones [] ds = omega arith
length_ones (l ∷ ls) ds =
    length-append (fronted ds (l ∷ [])) (flat_map (fronted ds) (map (λ x. x ∷ []) ls))
    ∙ omega (arith, length-map ds (λ d. (l ∷ []) ++ d), length_ones ls ds)

-- the number of clauses is the product of the splits
pub length_distributed : (fs : List Form) → length (distributed fs) ≡ product_of split fs
length_distributed [] = refl
length_distributed (all_of ls ∷ fs) = length_ones ls (distributed fs) ∙ ap (λ n. length ls * n) (length_distributed fs)
length_distributed (any_of ls ∷ fs) =
    length-append (fronted (distributed fs) ls) []
    ∙ omega (arith, length-map (distributed fs) (λ d. ls ++ d), length_distributed fs)

-- each clause takes so many literals of each form, and one word for its end
pub words_distributed : (fs : List Form) → words_of (distributed fs) ≡ product_of split fs * (sum_of taken fs + 1)
words_distributed [] = refl
words_distributed (all_of ls ∷ fs) =
    joined_ones ls (distributed fs)
    ∙ ap (λ n. length ls * (n + words_of (distributed fs))) (length_distributed fs)
    ∙ ap (λ n. length ls * (product_of split fs + n)) (words_distributed fs)
    ∙ omega arith
words_distributed (any_of ls ∷ fs) =
    sum_append words (fronted (distributed fs) ls) []
    ∙ omega (arith, words_fronted ls (distributed fs), ap (λ n. n * length ls) (length_distributed fs), words_distributed fs)
