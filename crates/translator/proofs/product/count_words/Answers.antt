use Rattle.std.proofs.Common.{rules, ◌≡◌, ◌≤◌, ◌+◌, map, arith, tests, mul-le-mul, refl, sum_by}
use Rattle.std.proofs.lemmas.Iterator.{YieldsList-from_slice, YieldsList-from_map}
use Rattle.std.proofs.lemmas.Iterator.Consumers.{sum_by_from_yields_List, fits_by_from_yields_list}
use Rattle.translator.proofs.Counting.{split_of, taken_of, multiplied, product_is, product_within, front_fits, product_few, sum_few, counted}
use Rattle.translator.proofs.product.count_words.Goals as goal

pub product-clauses-requires-clause-fits : goal.product-clauses-requires-clause-fits
product-clauses-requires-clause-fits c =
    product_within c.map.result (map split_of c.args.forms.now) _
    (YieldsList-from_map _ split_of (YieldsList-from_slice c.args.forms.now cc) c.map.ensures.closure (λ x r q k. search (rules, tests)))
    (front_fits c.args.forms.now c.requires)

pub sum-literals-requires-clause-fits : goal.sum-literals-requires-clause-fits
sum-literals-requires-clause-fits c =
    fits_by_from_yields_list taken_of c.args.forms.now c.map-2.result _
    (YieldsList-from_map _ taken_of (YieldsList-from_slice c.args.forms.now cc) c.map-2.ensures.closure (λ x r q k. search (rules, tests)))
    (omega (arith, sum_few c.args.forms.now c.requires _ refl))

-- the results are the product of the splits and the sum of what each choice takes
clauses : (c : goal.After-sum-literals) → c.product-clauses.result ≡ multiplied (map split_of c.args.forms.now)
clauses c =
    product_is c.map.result _ _ (YieldsList-from_map _ split_of (YieldsList-from_slice c.args.forms.now cc) c.map.ensures.closure (λ x r q k. search (rules, tests)))
    c.product-clauses.ensures.ran

literals : (c : goal.After-sum-literals) → c.sum-literals.result ≡ sum_by taken_of c.args.forms.now
literals c =
    sum_by_from_yields_List taken_of c.args.forms.now c.map-2.result _ c.sum-literals.ensures.ran
    (YieldsList-from_map _ taken_of (YieldsList-from_slice c.args.forms.now cc) c.map-2.ensures.closure (λ x r q k. search (rules, tests)))

pub overflow_add-result : goal.overflow_add-result
overflow_add-result c = omega (arith, sum_few c.args.forms.now c.requires _ (literals c))

pub overflow_mul-result : goal.overflow_mul-result
overflow_mul-result c =
    let more : c.sum-literals.result + 1 ≤ 129 = omega (arith, sum_few c.args.forms.now c.requires _ (literals c)) in
    omega (arith, mul-le-mul (product_few c.args.forms.now c.requires _ (clauses c)) more)

pub returns : goal.returns
returns c = counted c.args.forms.now c.requires _ _ (clauses c) (literals c)
